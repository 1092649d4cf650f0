-- Every machine that keeps the laws meets the claims of specs/HonestPack.antt.
use Rattle.std.specs.Prelude.{ℕ, ◌≤◌, Bool, refl}
use mathlib.Core.List.{List, Memᴰ}
use Rattle.std.proofs.Common.{subst, arith}
use Rattle.agreement.specs.Evidence.{World}
use Rattle.agreement.specs.Honest.{liars, Honest}
use Rattle.agreement.specs.History.{Act, Did, Lawful}
use Rattle.agreement.specs.History as history_of
use Rattle.agreement.specs.Moments.{Within}
use Rattle.agreement.proofs.laws.Moments.{within_tail, within_trans}
use Rattle.agreement.proofs.laws.Runs as Runs
use Rattle.agreement.proofs.laws.Agreement.{HonestSent, honest_sent}
use Rattle.agreement.proofs.laws.Votes.{decided_started}
use Rattle.calls.specs.Machine.{Machine, Call, words}
use Rattle.agreement.proofs.laws.Worlds.{world_with}
use Rattle.agreement.specs.DemandThree.{Shows, Opened, Conditions}
use Rattle.agreement.specs.HonestPack.{HonestInput, OutputBefore, HoldsInput, HonestPack, OutputFirst}
use Rattle.agreement.proofs.laws.Machine.{Reading, Laws}
use Rattle.agreement.proofs.laws.Coins.{Coined, coins_of}
use Rattle.agreement.proofs.laws.Openings.{history, known_opened, ActedAt, acted_at}
use Rattle.agreement.proofs.laws.Chains.{Left}
use Rattle.agreement.proofs.laws.Demand.{Open, good, open_at, owned, inv, show, sound_at, active, sent_by_lem, coins}

-- calls: the whole list; κ: its coins
module _ (M : Machine) (R : Reading M) (H : ℕ → Bool) (κ : ℕ → ℕ → Bool) (laws : Laws M R H κ) (start : ℕ → M.Words) (S : M.Session) (calls : List (Call M)) (coined : Coined M start S κ calls) (conditions : Conditions M start S H calls) where
  abbrev W : World
  W = world_with M S H κ

  abbrev Gone : ℕ → Act → Type 0
  Gone = Runs.Gone W R.seen (Left M R H κ start S calls)

  lawful : (cs : List (Call M)) → Within cs calls → Lawful W Gone (history M R start cs)
  lawful cs k = (good M R H κ laws start S calls coined conditions cs k).lawful

  -- what an honest one sent it had put in
  input_of : (cs : List (Call M)) → Within cs calls → (X : List ℕ) → HonestSent W (history M R start cs) X → HonestInput M start S H cs X
  input_of cs k X x =
      let s = sent_by_lem M R H κ laws start S calls coined conditions cs k x.who x.value x.sent in
      record {
        who = x.who;
        honest = record { low = x.honest.low; high = x.honest.high; fair = x.honest.fair };
        opened = s.opened;
        holds = subst (λ (v : ℕ). Memᴰ v X) s.input x.member;
      }

  -- a start with 1 had an output
  start_output : (cs : List (Call M)) → Within cs calls → (p i : ℕ) → Did (history M R start cs) p (history_of.start i 1) → OutputBefore M start S H cs i
  start_output cs k p i d = of (acted_at M R start cs p (history_of.start i 1) d)
    where
      of : ActedAt M R start cs p (history_of.start i 1) → OutputBefore M start S H cs i
      of t =
          let here : Within t.past calls = within_trans (within_tail t.call t.within) k in
          let o = (known_opened M R start t.past p t.turn.by_opening t.turn.known).is_opened_lem in
          let x = open_at M R H κ laws start S calls coined conditions t.past here p o in
          let v = (active M R H κ laws start S calls coined conditions t.past here p (history_of.start i 1) t.turn).due refl in
          record {
            past = t.past;
            before = record { next = t.call; within = t.within };
            who = p;
            honest = subst (Honest (M.settings S) H) t.here (conditions.honest t.call t.past (within_trans t.within k));
            opened = o;
            value = v.0;
            outputs = laws.shown_outputs x.by_opening (words M start t.past p) (owned M R H κ laws start S calls coined conditions t.past p x) i v.0 v.1;
          }

  module _ (cs : List (Call M)) (k : Within cs calls) (p : ℕ) (opened : Opened M start cs p) where
    abbrev x : Open M R H κ laws start S calls coined conditions cs p
    x = open_at M R H κ laws start S calls coined conditions cs k p opened

    ordered : (M.settings S).ta ≤ (M.settings S).ts
    ordered = x.live.ruled.ordered

    holds_input : (L : ℕ) → L ≤ (M.settings S).ts → liars (M.settings S) H ≤ L → (X : List ℕ) → Shows M (words M start cs p) X → HonestInput M start S H cs X
    holds_input L b few X s =
        input_of cs k X
        (honest_sent W Gone L (sound_at M R H κ laws start S calls coined conditions cs p x L b few) (history M R start cs) (lawful cs k) X
        (show M R H κ laws start S calls coined conditions cs p x X s))

    outputs_before : liars (M.settings S) H ≤ (M.settings S).ta → (i : ℕ) → 1 ≤ i → i ≤ (M.settings S).n → M.DecidedOne (words M start cs p) i → OutputBefore M start S H cs i
    outputs_before few i lo hi d =
        let so = sound_at M R H κ laws start S calls coined conditions cs p x (M.settings S).ta ordered few in
        let one = laws.one_decided x.by_opening (words M start cs p) (owned M R H κ laws start S calls coined conditions cs p x) i d in
        let o = decided_started W Gone so (history M R start cs) (lawful cs k) i 1 p ((inv M R H κ laws start S calls coined conditions cs p x).decs i 1 lo hi one) in
        start_output cs k o.who i o.has

-- ---- the claims

module _ (M : Machine) (R : Reading M) (laws : (H : ℕ → Bool) (κ : ℕ → ℕ → Bool) → Laws M R H κ) where
  pub honest_pack : HonestPack M
  unfolding HoldsInput
  honest_pack =
      record {
        few_liars = λ S H few start cs k ds a p o X s.
            let κ = coins_of M R start S cs in
            let c = coins M R laws S H start cs k in
            holds_input M R H κ (laws H κ) start S cs c k ds a p o (M.settings S).ta (ordered M R H κ (laws H κ) start S cs c k ds a p o) few X s;
        more_liars = λ S H few start cs k ds a p o X s.
            let κ = coins_of M R start S cs in
            let c = coins M R laws S H start cs k in
            holds_input M R H κ (laws H κ) start S cs c k ds a p o (M.settings S).ts (omega arith) few X s;
      }

  pub output_first : OutputFirst M
  unfolding OutputFirst
  output_first S H few start cs k ds a p o i lo hi d =
      let κ = coins_of M R start S cs in
      outputs_before M R H κ (laws H κ) start S cs (coins M R laws S H start cs k) k ds a p o few i lo hi d
