-- The conditions of printed sessions, with and without restores, give those of specs/DemandThree.antt.
use Rattle.std.specs.Prelude.{ℕ, Bool, true, false, ◌≡◌, refl, eqb}
use Rattle.std.proofs.lemmas.Bool.{false≢true}
use mathlib.Core.List.{List, ◌∷◌}
use Rattle.std.proofs.Common.{sym, subst, ◌∙◌, eq-eqb}
use Rattle.agreement.specs.Moments.{Within, now, after}
use Rattle.agreement.proofs.laws.Moments.{within_tail, within_trans}
use Rattle.calls.specs.Machine.{Machine, Call, delivery, turn, restore, place, words}
use Rattle.agreement.specs.Journals.{journal, Stands}
use Rattle.agreement.specs.DemandThree.{Sent, Conditions}
use Rattle.agreement.proofs.laws.Journals.{sent_step}
use Rattle.agreement.specs.Plain.{NoRestore, Plain, Answered, Once, PrintedConditions, PlainConditions}

module _ (M : Machine) (start : ℕ → M.Words) where
  pub printed_conditions : (S : M.Session) (H : ℕ → Bool) (cs : List (Call M)) → M.boxed S ≡ false → PrintedConditions M start S H cs → Conditions M start S H cs
  printed_conditions S H cs printed k =
      record {
        honest = k.honest;
        agree = k.agree;
        once = k.once;
        credited = k.credited;
        falls_back = k.falls_back;
        not_lost = k.not_lost;
        coins = λ boxed. absurd (false≢true (sym printed ∙ boxed));
      }

  -- a turn that sends acts
  module _ (sends_act : (w : M.Words) (l : M.Lent) (b : M.Bytes) → M.Sends w l b → M.acts w l ≡ true) where
    answered_sent : (cs : List (Call M)) → Plain M cs → Once M start cs → (m : ℕ) (b : M.Bytes) → Answered M start cs m b → Sent M start cs m b
    unfolding journal
    answered_sent cs plain once m b x = go x.within plain once
      where
        d : List (Call M)
        d = turn m x.lent ∷ x.past

        first : Stands M d (journal M start d m)
        first = rw (eq-eqb m m refl, sends_act (words M start x.past m) x.lent b x.sends) (record { older = journal M start x.past m; within = now })

        none : {c : Call M} (v : M.Words) (r : M.Restore) → NoRestore M c → c ≡ restore m v r → ⊥
        none v r n e = subst (λ (c : Call M). NoRestore M c) e n

        go : {ds : List (Call M)} → Within d ds → Plain M ds → Once M start ds → Sent M start ds m b
        go now p o = record { lent = x.lent; past = x.past; stands = first; opened = x.opened; sends = x.sends }
        go (after {cs = ds} c w) p o =
            sent_step M start m b c ds (λ q u e. o q u ds (rw e now)) (λ v r e t. absurd (none v r (p c ds now) e))
            (go w (λ e es v. p e es (after c v)) (λ q u es v. o q u es (after c v))) (eqb m (place M c)) refl

    pub plain_conditions : (S : M.Session) (H : ℕ → Bool) (cs : List (Call M)) → M.boxed S ≡ false → Plain M cs → PlainConditions M start S H cs → Conditions M start S H cs
    plain_conditions S H cs printed plain k =
        printed_conditions S H cs printed
        (record {
          honest = k.honest;
          agree = k.agree;
          once = k.once;
          credited = λ p m b ds w o a h. let v = within_tail (delivery p m b) w in answered_sent ds (λ c es u. plain c es (within_trans u v)) (λ q u es z. k.once q u es (within_trans z v)) m b (k.credited p m b ds w o a h);
          falls_back = λ p v r ds w. absurd (plain (restore p v r) ds w);
          not_lost = λ p v r ds w. absurd (plain (restore p v r) ds w);
        })
