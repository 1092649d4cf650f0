-- What cutting a text and joining its pieces do.
use Rattle.std.specs.Prelude.{ℕ, Bool, cond, ◌&&◌, ◌≡◌, eqb}
use Rattle.std.proofs.Math.Bool.{true, false, not}
use mathlib.Core.List.{List, [], ◌∷◌, ◌++◌, append-nil, append_assoc}
use Rattle.std.proofs.Math.Path.{refl, sym, ap}
use Rattle.std.proofs.Common.{subst, ◌∙◌}
use borrow.Author.Tests.{eq-eqb, eqb-true}
use Rattle.text.specs.Fields.{in_front}
use Rattle.delivery_csv.specs.Fields.{cut, pieces, joined}
use Rattle.delivery_csv.specs.laws.Bools.{and_left}

-- a list that is not empty
unfoldable pub Some : List (List ℕ) → Type 0
Some [] = ⊥
Some (p ∷ ps) = Unit

-- a text in front of the first piece
unfoldable pub front : List ℕ → List (List ℕ) → List (List ℕ)
front [] ps = ps
front (b ∷ w) ps = in_front b (front w ps)

front_append : (v w : List ℕ) (ps : List (List ℕ)) → front (v ++ w) ps ≡ front v (front w ps)
unfolding front
front_append [] w ps = refl
front_append (b ∷ v) w ps = ap (in_front b) (front_append v w ps)

pub front_piece : (w p : List ℕ) (ps : List (List ℕ)) → front w (p ∷ ps) ≡ (w ++ p) ∷ ps
unfolding front in_front
front_piece [] p ps = refl
front_piece (b ∷ w) p ps = rw (front_piece w p ps)

front_empty : (w : List ℕ) (ps : List (List ℕ)) → front w ([] ∷ ps) ≡ w ∷ ps
front_empty w ps = front_piece w [] ps ∙ ap (λ (v : List ℕ). v ∷ ps) (append-nil w)

pub some_in_front : (b : ℕ) (ps : List (List ℕ)) → Some ps → Some (in_front b ps)
unfolding Some in_front
some_in_front b [] h = h
some_in_front b (p ∷ ps) h = tt

pub pieces_next : (strip : List ℕ → List ℕ) (p : List ℕ) (ps : List (List ℕ)) → Some ps → pieces strip (p ∷ ps) ≡ strip p ∷ pieces strip ps
unfolding Some pieces
pieces_next strip p [] h = absurd h
pieces_next strip p (q ∷ ps) h = refl

joined_first : (s : ℕ) (p : List ℕ) (ps : List (List ℕ)) → Some ps → joined s (p ∷ ps) ≡ p ++ (s ∷ joined s ps)
unfolding Some joined
joined_first s p [] h = absurd h
joined_first s p (q ∷ ps) h = refl

joined_in_front : (s b : ℕ) (ps : List (List ℕ)) → Some ps → joined s (in_front b ps) ≡ b ∷ joined s ps
unfolding Some joined in_front
joined_in_front s b [] h = absurd h
joined_in_front s b (p ∷ []) h = refl
joined_in_front s b (p ∷ q ∷ ps) h = refl

module _ (turns : Bool → ℕ → Bool) (s : ℕ) where
  -- there is always a piece, be it empty
  pub cut_some : (i : Bool) (t : List ℕ) → Some (cut turns s i t)
  unfolding Some cut
  cut_some i [] = tt
  cut_some i (b ∷ t) = go (eqb b s && not i) (some_in_front b (cut turns s (turns i b) t) (cut_some (turns i b) t))
    where
      go : (x : Bool) → Some (in_front b (cut turns s (turns i b) t)) → Some (cond x ([] ∷ cut turns s i t) (in_front b (cut turns s (turns i b) t)))
      go true h = tt
      go false h = h

  -- the pieces of a text with the byte between any two are the text
  pub joined_cut : (i : Bool) (t : List ℕ) → joined s (cut turns s i t) ≡ t
  unfolding cut joined
  joined_cut i [] = refl
  joined_cut i (b ∷ t) = go (eqb b s && not i) (λ e. eqb-true b s (and_left (eqb b s) (not i) e)) (joined_cut i t) (joined_cut (turns i b) t)
    where
      go : (x : Bool) → (x ≡ true → b ≡ s) → joined s (cut turns s i t) ≡ t → joined s (cut turns s (turns i b) t) ≡ t →
          joined s (cond x ([] ∷ cut turns s i t) (in_front b (cut turns s (turns i b) t))) ≡ b ∷ t
      go true q h k = joined_first s [] (cut turns s i t) (cut_some i t) ∙ rw (h, q refl)
      go false q h k = joined_in_front s b (cut turns s (turns i b) t) (cut_some (turns i b) t) ∙ rw k

  -- a text that is not cut: it begins within quotes or not (i), and so does what follows it (j)
  unfoldable pub Sealed : Bool → List ℕ → Bool → Type 0
  Sealed i w j = (t : List ℕ) → cut turns s i (w ++ t) ≡ front w (cut turns s j t)

  pub sealed_nil : (i : Bool) → Sealed i [] i
  unfolding Sealed front
  sealed_nil i t = refl

  pub sealed_byte : (i : Bool) (b : ℕ) (w : List ℕ) (j : Bool) → (eqb b s && not i) ≡ false → Sealed (turns i b) w j → Sealed i (b ∷ w) j
  unfolding Sealed front cut
  sealed_byte i b w j e h t = rw e (ap (in_front b) (h t))

  pub sealed_append : (i j k : Bool) (v w : List ℕ) → Sealed i v j → Sealed j w k → Sealed i (v ++ w) k
  unfolding Sealed
  sealed_append i j k v w g h t =
      ap (cut turns s i) (append_assoc v w t) ∙ g (w ++ t) ∙ ap (front v) (h t) ∙ sym (front_append v w (cut turns s k t))

  -- such a text up to the byte at which is cut is the first piece
  pub cut_at : (w t : List ℕ) → Sealed false w false → cut turns s false (w ++ (s ∷ t)) ≡ w ∷ cut turns s false t
  unfolding Sealed cut
  cut_at w t h = h (s ∷ t) ∙ rw (eq-eqb s s refl) (front_empty w (cut turns s false t))

  pub cut_whole : (w : List ℕ) → Sealed false w false → cut turns s false w ≡ w ∷ []
  unfolding Sealed cut
  cut_whole w h = ap (cut turns s false) (sym (append-nil w)) ∙ h [] ∙ front_empty w []

  unfoldable pub AllSealed : List (List ℕ) → Type 0
  AllSealed [] = Unit
  AllSealed (f ∷ fs) = Sealed false f false × AllSealed fs

  pub cut_joined : (fs : List (List ℕ)) → Some fs → AllSealed fs → cut turns s false (joined s fs) ≡ fs
  unfolding joined AllSealed Some
  cut_joined [] g h = absurd g
  cut_joined (f ∷ []) g h = cut_whole f h.0
  cut_joined (f ∷ k ∷ fs) g h =
      cut_at f (joined s (k ∷ fs)) h.0 ∙ ap (λ (ps : List (List ℕ)). f ∷ ps) (cut_joined (k ∷ fs) tt h.1)

  -- texts joined by another byte, which is no quote
  pub sealed_joined : (c : ℕ) → eqb c s ≡ false → turns false c ≡ false → (fs : List (List ℕ)) → AllSealed fs → Sealed false (joined c fs) false
  unfolding joined AllSealed
  sealed_joined c e q [] h = sealed_nil false
  sealed_joined c e q (f ∷ []) h = h.0
  sealed_joined c e q (f ∷ g ∷ fs) h =
      sealed_append false false false f (c ∷ joined c (g ∷ fs)) h.0
      (sealed_byte false c (joined c (g ∷ fs)) false (rw e) (subst (λ (j : Bool). Sealed j (joined c (g ∷ fs)) false) (sym q) (sealed_joined c e q (g ∷ fs) h.1)))
