-- What a taken delivery was, and that a refused one leaves the words.
use Rattle.std.specs.Prelude.{ℕ, ◌≤◌, List, ◌≡◌, refl, length, drop, Result, Ok, Err}
use Rattle.std.proofs.Common.{sym, ap, ◌∙◌, arith}
use Rattle.settings.specs.declared.refusal.Refusal.{Refusal}
use Rattle.wire.specs.declared.Message.{Message}
use Rattle.delivery.specs.Delivery.{verdict, recorded, answer_of, words_after, deliver_answer, delivered}
use Rattle.delivery.specs.laws.Accepting.{accepted_short}

-- the message that is accepted
pub record Taking (s : List ℕ) (link : ℕ) (b : List ℕ) : Type 0 where
  pub message : Message
  pub accepted : verdict s link b ≡ Ok message
  pub words : delivered s link b ≡ recorded s link message (drop 12 b)

pub answer_accepted : (s : List ℕ) (link : ℕ) (b : List ℕ) → deliver_answer s link b ≡ Ok tt → Taking s link b
unfolding deliver_answer delivered answer_of words_after
answer_accepted s link b e = of (verdict s link b) refl
  where
    of : (v : Result Message Refusal) → verdict s link b ≡ v → Taking s link b
    of (Err k) f = absurd (let y : ◌≡◌ {A = Result (Unit {0}) Refusal} (Err k) (Ok tt) = sym (ap answer_of f) ∙ e in let z : ◌≡◌ {A = ℕ} 0 1 = cc in omega arith)
    of (Ok m) f = record { message = m; accepted = f; words = ap (λ (v : Result Message Refusal). words_after v s link b) f }

-- nothing longer than the longest message is accepted
pub answer_short : (s : List ℕ) (link : ℕ) (b : List ℕ) → deliver_answer s link b ≡ Ok tt → length b ≤ 140
answer_short s link b e = let t = answer_accepted s link b e in accepted_short s link b (verdict s link b) refl t.message t.accepted

pub answer_refused : (s : List ℕ) (link : ℕ) (b : List ℕ) → (deliver_answer s link b ≡ Ok tt → ⊥) → delivered s link b ≡ s
unfolding deliver_answer delivered answer_of words_after
answer_refused s link b n = of (verdict s link b) refl
  where
    of : (v : Result Message Refusal) → verdict s link b ≡ v → words_after (verdict s link b) s link b ≡ s
    of (Err k) f = rw f
    of (Ok m) f = absurd (n (ap answer_of f))
