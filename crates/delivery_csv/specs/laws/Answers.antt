-- The answer and the lent bytes of a conversion that judges a text, then writes it.
use Rattle.std.specs.Prelude.{ℕ, ◌≤◌, Bool, true, false, cond, List, ◌++◌, ◌≡◌, refl, ltb, length, drop, Result, Ok, Err}
use Rattle.std.proofs.Common.{sym, ◌∙◌, ltb-false}
use Rattle.text.specs.Paste.{Wrote}
use Rattle.text.specs.laws.Paste.{wrote_front}
use Rattle.delivery_csv.specs.Fields.{Outcome, bad, good}
use Rattle.delivery_csv.specs.Converting.{conversion, bytes_after}
use Rattle.delivery_csv.specs.declared.ConversionError.{ConversionError}
use Rattle.delivery_csv.specs.declared.ConversionError.TheVariants.{Short}

after_error : (o : Outcome (List ℕ)) (s : List ℕ) (e : ConversionError) → Err e ≡ conversion o (length s) → s ≡ bytes_after o s
unfolding conversion bytes_after
after_error (bad m) s e h = refl
after_error (good t) s e h = go (ltb (length s) (length t)) h
  where
    go : (b : Bool) → Err e ≡ cond b (Err Short) (Ok (length t)) → s ≡ cond b s (t ++ drop (length t) s)
    go true f = refl
    go false f = cc

after_written : (o : Outcome (List ℕ)) (s z u : List ℕ) (n q : ℕ) → Ok n ≡ conversion o (length s) → ((t : List ℕ) → o ≡ good t → t ≡ u) →
    Wrote u s 0 q z → z ≡ bytes_after o s
unfolding conversion bytes_after
after_written (bad m) s z u n q e h w = cc
after_written (good t) s z u n q e h w = go (ltb (length s) (length t)) (ltb-false (length s) (length t)) e
  where
    go : (b : Bool) → (b ≡ false → length t ≤ length s) → Ok n ≡ cond b (Err Short) (Ok (length t)) → z ≡ cond b s (t ++ drop (length t) s)
    go true l f = cc
    go false l f = (wrote_front t s z q (rw (h t refl) w) (l refl)).1

-- ---- x is what was judged

module _ (o : Outcome (List ℕ)) (s : List ℕ) (x : Result ℕ ConversionError) (e : x ≡ conversion o (length s)) where
  pub same_answer : (y : Result ℕ ConversionError) → x ≡ y → y ≡ conversion o (length s)
  same_answer y h = sym h ∙ e

  pub bytes_error : (d : ConversionError) → x ≡ Err d → s ≡ bytes_after o s
  bytes_error d h = after_error o s d (sym h ∙ e)

  -- u is what was written
  pub bytes_written : (n q : ℕ) (u z : List ℕ) → x ≡ Ok n → ((t : List ℕ) → o ≡ good t → t ≡ u) → Wrote u s 0 q z → z ≡ bytes_after o s
  bytes_written n q u z h g w = after_written o s z u n q (sym h ∙ e) g w

pub ruleset answers = (same_answer, bytes_error, bytes_written)
