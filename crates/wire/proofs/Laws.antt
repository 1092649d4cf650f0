-- Laws of numbers in bytes, of the values of a message, and of what is written.
use Prim.Native.Nat.{ℕ, zero, suc, ◌+◌, ◌*◌, ◌-◌, ◌<◌, ◌≤◌}
use mathlib.Core.Path.{◌≡◌, refl, ap, sym, ◌∙◌}
use mathlib.Core.Bool.{true, false, ◌&&◌}
use mathlib.Core.List.{List, [], ◌∷◌, ◌++◌, append_assoc, append-nil}
use native.Mathlib.Numerals.{add-one}
use native.Mathlib.Omega.{arith}
use native.Mathlib.Nat.{add_assoc}
use native.Mathlib.Decide.{dec_le}
use lib.ListN.{length, get_or, take, drop, length-append, length-drop, drop_of_length-le}
use lib.Seq.{get_or-drop, drop-drop, take_at, drop_at, take_all, take-suc, length-take-le}
use lib.Dec.{ltb}
use borrow.Rule.Slice.PartMut.{put_mid}
use borrow.Author.Tests.{lt-ltb, le-ltb, le-leb, lt-leb}
use Rattle.wire.specs.Bytes.{be2, be4, be8, value_at, values, rises_from, rises, bytes2, bytes4, bytes8, value_bytes}
use Rattle.wire.specs.Message.{count_of, length_of, besides, values_of, header_for, front_bytes, header_bytes, message_bytes, encode, at_front}
use Rattle.wire.specs.Writing.{fitting, written, Wrote}
use Rattle.wire.specs.declared.Message.{Message}
use Rattle.wire.specs.declared.Message.TheVariants.{Send, Echo, Ready, Est, Aux, Commit, Finish}
use Rattle.wire.specs.declared.Header.{Header}

-- a number in a part is one in the whole
be2_drop : (b : List ℕ) (n i : ℕ) → be2 (drop n b) i ≡ be2 b (n + i)
unfolding be2
be2_drop b n i = simp (get_or-drop, add_assoc)

be4_drop : (b : List ℕ) (n i : ℕ) → be4 (drop n b) i ≡ be4 b (n + i)
unfolding be4
be4_drop b n i = simp (be2_drop, add_assoc)

pub be8_drop : (b : List ℕ) (n i : ℕ) → be8 (drop n b) i ≡ be8 b (n + i)
unfolding be8
be8_drop b n i = simp (be4_drop, add_assoc)

-- value k, where the part holds it and where not
pub value_held : (v : List ℕ) (k : ℕ) → 1 ≤ k → 8 * k ≤ length v → value_at v k ≡ be8 v (8 * k - 8)
unfolding value_at
value_held v k p h = simp (le-leb 1 k p, le-leb (8 * k) (length v) h)

pub value_missing : (v : List ℕ) (k : ℕ) → 1 ≤ k → length v < 8 * k → value_at v k ≡ 0
unfolding value_at
value_missing v k p h = simp (le-leb 1 k p, lt-leb (8 * k) (length v) h)

-- the values after the first j
pub value_drop : (v : List ℕ) (j k : ℕ) → 1 ≤ k → value_at (drop (8 * j) v) k ≡ value_at v (j + k)
value_drop v j k p =
    elim (dec_le (8 * (j + k)) (length v)) [
      | yes h ↦
          value_held (drop (8 * j) v) k p (simp length-drop (omega arith))
          ∙ be8_drop v (8 * j) (8 * k - 8)
          ∙ ap (be8 v) (omega arith)
          ∙ sym (value_held v (j + k) (omega arith) h)
      | no h ↦ value_missing (drop (8 * j) v) k p (simp length-drop (omega arith)) ∙ sym (value_missing v (j + k) (omega arith) (omega arith))
    ]

values_more : (v : List ℕ) (k m : ℕ) → values (suc m) (drop (8 * k) v) ≡ value_at v (k + 1) ∷ values m (drop (8 * (k + 1)) v)
unfolding values
values_more v k m =
    let f : 8 * (k + 1) ≡ 8 * k + 8 = omega arith in
    rw (value_drop v k 1 (omega arith), drop-drop, f)

-- the first k of the values count v rise, the last of them is last
pub record Rising (v : List ℕ) (count last k : ℕ) : Type 0 where
  pub rest : rises (values count v) ≡ rises_from last (values (count - k) (drop (8 * k) v))

module _ (v : List ℕ) (count : ℕ) where
  pub rising_start : (last : ℕ) → last ≡ value_at v 1 → Rising v count last 1
  unfolding rises rises_from values
  rising_start last q = record { rest = go count }
    where
      go : (n : ℕ) → rises (values n v) ≡ rises_from last (values (n - 1) (drop (8 * 1) v))
      go zero = refl
      go (suc n) =
          let e : suc n - 1 ≡ n = omega arith in
          rw (e, q)

  module _ (last k : ℕ) (r : Rising v count last k) where
    turn : k < count →
        rises (values count v) ≡ (ltb last (value_at v (k + 1)) && rises_from (value_at v (k + 1)) (values (count - (k + 1)) (drop (8 * (k + 1)) v)))
    unfolding rises_from
    turn h =
        let e : count - k ≡ suc (count - (k + 1)) = omega arith in
        r.rest ∙ rw (e, values_more)

    pub rising_next : (next : ℕ) → k < count → next ≡ value_at v (k + 1) → last < next → Rising v count next (k + 1)
    rising_next next h q l = record { rest = turn h ∙ rw (← q, lt-ltb last next l) }

    pub rising_stop : (next : ℕ) → k < count → next ≡ value_at v (k + 1) → next ≤ last → false ≡ rises (values count v)
    rising_stop next h q l = sym (turn h ∙ rw (← q, le-ltb last next l))

    pub rising_done : count ≤ k → true ≡ rises (values count v)
    unfolding rises_from values
    rising_done h =
        let e : count - k ≡ 0 = omega arith in
        sym (r.rest ∙ rw e)

pub ruleset rising_laws = (rising_start, rising_next, rising_stop, rising_done)

-- P has been written at the front of o, and then Q into the part after it: together W, which has c bytes
pub patch : (P Q W o xs ys : List ℕ) (a b c : ℕ) → c ≤ length o →
    xs ≡ P ++ drop a o → ys ≡ Q ++ drop b (take (length xs - a) (drop a xs)) → W ≡ P ++ Q → length P ≡ a → length Q ≡ b → a + b ≡ c →
    put_mid a (length xs - a) xs ys ≡ W ++ drop c o
patch P Q W o xs ys a b c h e f w p q s =
    let t : take a xs ≡ P = rw e (take_at P (drop a o) a p) in
    let d : drop a xs ≡ drop a o = rw e (drop_at P (drop a o) a p) in
    let n : length xs ≡ length o = omega (arith, p, s, h, simp length-append at (ap length e), length-drop a o) in
    let v : take (length o - a) (drop a o) ≡ drop a o = take_all (length o - a) (drop a o) (omega (arith, length-drop a o)) in
    let r : drop (length o - a) (drop a o) ≡ [] = drop_of_length-le (drop a o) {i = length o - a} (omega (arith, length-drop a o)) in
    rw (f, t, d, n, v, r, drop-drop, w, ← s) (simp (append-nil, append_assoc))

pub length_bytes8 : (x : ℕ) → length (bytes8 x) ≡ 8
unfolding bytes2 bytes4 bytes8
length_bytes8 x = refl

pub length_value_bytes : (xs : List ℕ) → length (value_bytes xs) ≡ 8 * length xs
unfolding value_bytes
length_value_bytes [] = refl
length_value_bytes (x ∷ xs) = length-append (bytes8 x) (value_bytes xs) ∙ omega (arith, length_bytes8 x, length_value_bytes xs)

value_bytes_append : (xs ys : List ℕ) → value_bytes (xs ++ ys) ≡ value_bytes xs ++ value_bytes ys
unfolding value_bytes
value_bytes_append [] ys = refl
value_bytes_append (x ∷ xs) ys =
    ap (λ (r : List ℕ). bytes8 x ++ r) (value_bytes_append xs ys) ∙ sym (append_assoc (bytes8 x) (value_bytes xs) (value_bytes ys))

pub value_bytes_one : (x : ℕ) → value_bytes (x ∷ []) ≡ bytes8 x
unfolding value_bytes
value_bytes_one x = append-nil (bytes8 x)

-- one value more
pub value_bytes_more : (xs : List ℕ) (k : ℕ) → k < length xs → value_bytes (take (k + 1) xs) ≡ value_bytes (take k xs) ++ bytes8 (get_or xs k 0)
value_bytes_more xs k h = rw (add-one, take-suc xs k 0 h, value_bytes_append, value_bytes_one)

pub length_header : (h : Header) → length (header_bytes h) ≡ 12
unfolding bytes2 bytes4 front_bytes header_bytes
length_header h = refl

pub length_message : (h : Header) (xs : List ℕ) → length (message_bytes h xs) ≡ 12 + 8 * length xs
unfolding message_bytes
length_message h xs = length-append (header_bytes h) (value_bytes xs) ∙ omega (arith, length_header h, length_value_bytes xs)

-- what is written: nothing, nothing for want of room, or all
pub wrote_nothing : (w o : List ℕ) → w ≡ [] → Wrote w o 0 o
unfolding at_front
wrote_nothing w o e = record { answer = rw e; bytes = rw e }

module _ (h : Header) (xs o : List ℕ) where
  pub wrote_short : length o < 12 + 8 * length xs → Wrote (fitting (message_bytes h xs) o) o 0 o
  unfolding fitting
  wrote_short l = wrote_nothing (fitting (message_bytes h xs) o) o (simp (length_message, lt-leb _ _ l))

  pub wrote_fitting : (after : List ℕ) → 12 + 8 * length xs ≤ length o → after ≡ message_bytes h xs ++ drop (12 + 8 * length xs) o →
      Wrote (fitting (message_bytes h xs) o) o (12 + 8 * length xs) after
  unfolding fitting at_front
  wrote_fitting after l e =
      let z : fitting (message_bytes h xs) o ≡ message_bytes h xs = simp (length_message, le-leb _ _ l) in
      record { answer = rw (z, length_message); bytes = rw (z, length_message) e }

-- as many values as the message counts
pub count_values : (m : Message) (xs : List ℕ) → besides m ≤ length xs → length (values_of m xs) ≡ count_of m
count_values (Send i v) xs h = refl
count_values (Echo i v) xs h = refl
count_values (Ready i v) xs h = refl
count_values (Est i r v) xs h = refl
count_values (Aux i r v) xs h = refl
count_values (Commit k) xs h = length-take-le k xs h
count_values (Finish i v) xs h = refl

pub length_encode : (m : Message) (v s t : ℕ) (xs : List ℕ) → besides m ≤ length xs → length (encode m v s t xs) ≡ length_of m
unfolding encode
length_encode m v s t xs h =
    length_message (header_for m v s t) (values_of m xs) ∙ ap (λ (n : ℕ). 12 + 8 * n) (count_values m xs h)

-- where there is room the whole message is written
pub written_whole : (m : Message) (v s t : ℕ) (xs out : List ℕ) → besides m ≤ length xs → length_of m ≤ length out → written m v s t xs out ≡ encode m v s t xs
unfolding written fitting
written_whole m v s t xs out h l =
    let n : length (encode m v s t xs) ≡ length_of m = length_encode m v s t xs h in
    simp (le-leb _ _ h, n, le-leb _ _ l)

-- value k of the values
pub value_of_values : (count : ℕ) (v : List ℕ) (k : ℕ) → k < count → get_or (values count v) k 0 ≡ value_at v (k + 1)
unfolding values
value_of_values zero v k h = absurd (omega arith)
value_of_values (suc count) v zero h = refl
value_of_values (suc count) v (suc k) h = value_of_values count (drop 8 v) k (omega arith) ∙ value_drop v 1 (k + 1) (omega arith) ∙ ap (value_at v) (omega arith)
