-- What a line does to the words and the lent bytes, as the code takes it.
use Rattle.std.specs.Prelude.{ℕ, ◌+◌, ◌-◌, ◌≤◌, ◌<◌, Bool, ◌&&◌, List, [], ◌∷◌, leb, drop, Option, Some, None, Result}
use Rattle.std.proofs.Math.Bool.{true, false, cond}
use Rattle.std.proofs.Math.Path.{◌≡◌, refl, ap}
use Rattle.std.proofs.Common.{true≢false, sym, ◌∙◌, arith, length-take-le}
use Rattle.std.proofs.Math.ListN.{length, take}
use borrow.Author.Tests.{le-leb, leb-true, lt-ltb}
use Rattle.delivery.specs.Delivery.{deliver_answer, delivered}
use Rattle.delivery.specs.laws.Answers.{answer_short, answer_refused}
use Rattle.text.specs.Fields.{TAB}
use Rattle.text.specs.Numbers.{value_of}
use Rattle.restore.specs.Reading.{proper, hex_right, bytes_of}
use Rattle.restore.specs.Restoring.{Point, delivered_from}
use Rattle.restore.specs.laws.Places.{place_of}
use Rattle.restore.specs.laws.Parts.{fields_at, Field, field_at}
use Rattle.restore.specs.laws.Numbers.{number_of}
use Rattle.restore.specs.laws.Hex.{hex_of, HexRead}
use Rattle.std.specs.Result.{is_ok}
use Rattle.settings.specs.declared.refusal.Refusal.{Refusal}
use Rattle.settings.specs.laws.Answers.{taken_true, true_taken}

-- whether a line can be applied
unfoldable pub applies : Option Point → Bool
applies None = false
applies (Some x) = true

-- the words after a line; one that cannot be applied leaves them
unfoldable pub words_or : List ℕ → Option Point → List ℕ
words_or w None = w
words_or w (Some x) = x.words

-- a line that comes to p was tried on the words w
pub record Tried (p : Option Point) (w : List ℕ) (r : Bool) (after : List ℕ) : Type 0 where
  pub answer : r ≡ applies p
  pub words : after ≡ words_or w p

hex_is : (h : List ℕ) (room k : ℕ) → hex_of h room ≡ Some k → (hex_right h ≡ true) × (k ≤ room)
unfolding hex_of
hex_is h room k e = go (hex_right h) (leb (length (bytes_of h)) room) refl refl e
  where
    go : (a b : Bool) → hex_right h ≡ a → leb (length (bytes_of h)) room ≡ b → cond (a && b) (Some (length (bytes_of h))) None ≡ Some k → (hex_right h ≡ true) × (k ≤ room)
    go true true u v z = let s : length (bytes_of h) ≡ k = cc in (u, rw s at (leb-true (length (bytes_of h)) room v))
    go true false u v z = absurd (let y : ◌≡◌ {A = ℕ} 0 1 = cc in omega arith)
    go false b u v z = absurd (let y : ◌≡◌ {A = ℕ} 0 1 = cc in omega arith)

module _ (h after : List ℕ) (room : ℕ) (r : Option ℕ) (k : ℕ) (q : HexRead h room r after) (e : r ≡ Some k) where
  pub hex_within : k ≤ length after
  hex_within = rw q.size (hex_is h room k (sym q.answer ∙ e)).1

  pub hex_front : k ≡ length (take k after)
  hex_front = sym (length-take-le k after hex_within)

-- the bytes h, in hexadecimal digits, over a link
unfoldable pub delivered_hex : List ℕ → ℕ → List ℕ → Option Point
delivered_hex w link h =
    cond (hex_right h && is_ok (deliver_answer w link (bytes_of h)))
    (Some (record { words = delivered w link (bytes_of h); turned = None }))
    None

module _ (w : List ℕ) (link : ℕ) (h after : List ℕ) (r : Option ℕ) (q : HexRead h 140 r after) where
  pub hex_wrong : r ≡ None → Tried (delivered_hex w link h) w false w
  unfolding delivered_hex hex_of applies words_or
  hex_wrong e = go (hex_right h) (is_ok (deliver_answer w link (bytes_of h))) refl refl
    where
      go : (a b : Bool) → hex_right h ≡ a → is_ok (deliver_answer w link (bytes_of h)) ≡ b → Tried (delivered_hex w link h) w false w
      go false b u v = record { answer = rw u; words = rw u }
      go true false u v = record { answer = rw (u, v); words = rw (u, v) }
      go true true u v =
          let s : length (bytes_of h) ≤ 140 = answer_short w link (bytes_of h) (true_taken _ v) in
          let i : r ≡ Some (length (bytes_of h)) = q.answer ∙ rw (u, le-leb (length (bytes_of h)) 140 s) in
          absurd (let z : ◌≡◌ {A = ℕ} 0 1 = cc in omega arith)

  pub hex_delivered : (k : ℕ) (a : Result (Unit {0}) Refusal) (t : List ℕ) → r ≡ Some k → a ≡ deliver_answer w link (take k after) → t ≡ delivered w link (take k after) → Tried (delivered_hex w link h) w (is_ok a) t
  unfolding delivered_hex applies words_or
  hex_delivered k a t e f g =
      let same : take k after ≡ bytes_of h = q.bytes k e in
      let right : hex_right h ≡ true = (hex_is h 140 k (sym q.answer ∙ e)).0 in
      rw right (go (is_ok (deliver_answer w link (bytes_of h))) refl (f ∙ ap (deliver_answer w link) same) (g ∙ ap (delivered w link) same))
    where
      go : (b : Bool) → is_ok (deliver_answer w link (bytes_of h)) ≡ b → a ≡ deliver_answer w link (bytes_of h) → t ≡ delivered w link (bytes_of h) → Tried (cond b (Some (record { words = delivered w link (bytes_of h); turned = None })) None) w (is_ok a) t
      go true u x y = record { answer = rw (x, u); words = y }
      go false u x y = record { answer = rw (x, u); words = y ∙ answer_refused w link (bytes_of h) (λ z. true≢false (sym (taken_true _ z) ∙ u)) }

pub ruleset hex_cases = (hex_wrong, hex_within, hex_front, hex_delivered)

-- the cases of a `D` line's two fields
module _ (w l h : List ℕ) (x : Option ℕ) (q : x ≡ number_of 10 l) where
  pub link_wrong : x ≡ None → Tried (delivered_from w (l ∷ h ∷ [])) w false w
  unfolding number_of delivered_from applies words_or
  link_wrong e = go (proper 10 l) refl (sym q ∙ e)
    where
      go : (b : Bool) → proper 10 l ≡ b → cond b (Some (value_of 10 l)) None ≡ None → Tried (delivered_from w (l ∷ h ∷ [])) w false w
      go true u v = absurd (let z : ◌≡◌ {A = ℕ} 0 1 = cc in omega arith)
      go false u v = record { answer = rw u; words = rw u }

  pub link_is : (k : ℕ) (r : Bool) (t : List ℕ) → x ≡ Some k → Tried (delivered_hex w k h) w r t → Tried (delivered_from w (l ∷ h ∷ [])) w r t
  unfolding number_of delivered_from delivered_hex
  link_is k r t e y = go (proper 10 l) refl (sym q ∙ e)
    where
      go : (b : Bool) → proper 10 l ≡ b → cond b (Some (value_of 10 l)) None ≡ Some k → Tried (delivered_from w (l ∷ h ∷ [])) w r t
      go true u v = let s : value_of 10 l ≡ k = cc in rw (u, s) y
      go false u v = absurd (let z : ◌≡◌ {A = ℕ} 0 1 = cc in omega arith)

pub ruleset link_cases = (link_wrong, link_is)

-- the cases of a `D` line from a place on
pub fields_past : (b : List ℕ) → fields_at b (length b + 1) ≡ []
unfolding fields_at
fields_past b = rw (lt-ltb (length b) (length b + 1) (omega arith))

module _ (w b : List ℕ) (at e : ℕ) (h : Field b at e) where
  pub delivery_one : e ≡ length b → Tried (delivered_from w (fields_at b at)) w false w
  unfolding delivered_from applies words_or
  delivery_one s = rw (h.field, s, fields_past) (record { answer = refl; words = refl })

  module _ (g : ℕ) (j : Field b (e + 1) g) where
    pub delivery_many : g < length b → Tried (delivered_from w (fields_at b at)) w false w
    unfolding delivered_from applies words_or
    delivery_many s = rw (h.field, j.field, (field_at b (g + 1) (place_of TAB b (g + 1)) (omega arith) refl).field) (record { answer = refl; words = refl })

    pub delivery_two : (r : Bool) (t : List ℕ) → length b ≤ g → Tried (delivered_from w (take (e - at) (drop at b) ∷ take (g - (e + 1)) (drop (e + 1) b) ∷ [])) w r t → Tried (delivered_from w (fields_at b at)) w r t
    delivery_two r t s y =
        let end : g ≡ length b = omega (arith, j.inside) in
        rw (h.field, j.field, ap (λ (m : ℕ). fields_at b (m + 1)) end ∙ fields_past b) y

pub ruleset delivery_cases = (delivery_one, delivery_many, delivery_two)
