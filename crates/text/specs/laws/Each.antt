-- The texts of the items of a list, one after the other, and a loop that writes them.
use Rattle.std.specs.Prelude.{ℕ, ◌+◌, ◌≤◌, ◌<◌, List, [], ◌∷◌, ◌++◌, ◌≡◌, refl, length, get_or, take}
use Rattle.std.proofs.Common.{append-nil, append_assoc, sym, ap, subst, ◌∙◌, arith, add-one, take-suc, take_all}
use Rattle.text.specs.Paste.{Wrote, ended, pasted}
use Rattle.text.specs.laws.Paste.{wrote_both, length_pasted}
use Rattle.text.specs.Fields.{each_text}

pub each_append : (f : ℕ → List ℕ) (xs ys : List ℕ) → each_text f (xs ++ ys) ≡ each_text f xs ++ each_text f ys
unfolding each_text
each_append f [] ys = refl
each_append f (x ∷ xs) ys = rw (each_append f xs ys) (sym (append_assoc (f x) (each_text f xs) (each_text f ys)))

-- one item more
each_more : (f : ℕ → List ℕ) (xs : List ℕ) (k : ℕ) → k < length xs → each_text f (take (k + 1) xs) ≡ each_text f (take k xs) ++ f (get_or xs k 0)
unfolding each_text
each_more f xs k h =
    rw (add-one, take-suc xs k 0 h)
    (each_append f (take k xs) (get_or xs k 0 ∷ []) ∙ ap (λ (t : List ℕ). each_text f (take k xs) ++ t) (append-nil (f (get_or xs k 0))))

-- a loop that has written the texts of the first k items
pub record Each (f : ℕ → List ℕ) (xs s : List ℕ) (a k r : ℕ) (after : List ℕ) : Type 0 where
  pub within : k ≤ length xs
  pub front : Wrote (each_text f (take k xs)) s a r after

pub each_start : (f : ℕ → List ℕ) (xs s : List ℕ) (a : ℕ) → Each f xs s a 0 a s
unfolding ended pasted each_text
each_start f xs s a = record { within = omega arith; front = record { answer = refl; bytes = refl } }

pub each_next : (f : ℕ → List ℕ) (xs s s' s'' : List ℕ) (a k r q : ℕ) → Each f xs s a k r s' → k < length xs → Wrote (f (get_or xs k 0)) s' r q s'' → Each f xs s a (k + 1) q s''
each_next f xs s s' s'' a k r q h l w =
    record {
      within = omega arith;
      front = rw (each_more f xs k l) (wrote_both (each_text f (take k xs)) (f (get_or xs k 0)) s s' s'' a r q h.front w);
    }

pub each_done : (f : ℕ → List ℕ) (xs s after : List ℕ) (a k r : ℕ) → Each f xs s a k r after → length xs ≤ k → Wrote (each_text f xs) s a r after
each_done f xs s after a k r h l = subst (λ (u : List ℕ). Wrote (each_text f u) s a r after) (take_all k xs l) h.front

pub each_length : (f : ℕ → List ℕ) (xs s after : List ℕ) (a k r : ℕ) → Each f xs s a k r after → length after ≡ length s
each_length f xs s after a k r h = ap length h.front.bytes ∙ length_pasted (each_text f (take k xs)) s a

pub ruleset each = (each_start, each_next, each_done, each_length)
