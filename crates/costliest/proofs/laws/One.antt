-- One concentrator takes at most five turns: its vote never starts, since a broadcast with output is Exit 1.
use Rattle.std.specs.Prelude.{ℕ, ◌≤◌, Bool, cond, ◌≢◌, ◌≡◌, length, drop, Option, Some, None, Result, Ok, Err}
use Rattle.std.proofs.Math.Bool.{true, false}
use mathlib.Core.List.{List, [], ◌∷◌}
use Rattle.std.proofs.Common.{inl, inr, ap₂, ◌∙◌, arith, eq-eqb}
use Rattle.std.proofs.Math.Path.{refl, ap}
use Rattle.std.proofs.Math.Dec.{eqb}
use Rattle.settings.specs.Versions.{FIRST_VERSION, finishing}
use Rattle.settings.specs.laws.Versions.{first_plain}
use Rattle.settings.specs.Rules.{Ruled}
use Rattle.settings.specs.Settings.{quorum, vote_quorum}
use Rattle.settings.specs.declared.Settings.{Settings}
use Rattle.quorum.specs.Marks.{mark}
use Rattle.quorum.specs.laws.Marks.{mark_zero}
use Rattle.quorum.specs.Total.{share, total}
use Rattle.quorum.specs.laws.Total.{total_none, count_le}
use Rattle.quorum.specs.Lowest.{lowest}
use Rattle.quorum.specs.Weights.{weight_of}
use Rattle.quorum.specs.Whole.{whole_of}
use Rattle.records.specs.Layout.{n_at, turns_at, round_at, est_sent_at, aux_sent_at, decided_one_at}
use Rattle.records.specs.Words.{word, marked}
use Rattle.records.specs.Records.{version, round, commit_sent, send_sent, decided_zero, decided_one}
use Rattle.acts.specs.Acts.{or_act, act_at, first_act}
use Rattle.acts.specs.laws.Choices.{all_cond, all_or}
use Rattle.acts.specs.declared.Act.{Act}
use Rattle.acts.specs.declared.Act.TheVariants.{Idle, InForce, Commit, Send, Echo, Ready, Start, Relay, Aux, Move, Finish}
use Rattle.broadcasts.specs.Leading.{present}
use Rattle.broadcasts.specs.Broadcasts.{output, echo_rule, ready_rule}
use Rattle.broadcasts.specs.laws.Due.{echo_rule_holds, ready_rule_holds}
use Rattle.votes.specs.laws.Versions.{first_rule}
use Rattle.votes.specs.Votes.{votes_decided_one, vote_act, start_act, relay_act, round_act, running}
use Rattle.exits.specs.Exits.{exit_of, exit1_at, naming, with_output}
use Rattle.exits.specs.Exits.{exit_now}
use Rattle.commits.specs.Commits.{set_leader}
use Rattle.opening.specs.Arguments.{Arguments}
use Rattle.opening.specs.Opening.{open_answer, opened}
use Rattle.opening.specs.laws.Opening.{first_zero}
use Rattle.turn.specs.Due.{in_force_rule, commit_due, commit_of, commit_rule, send_rule, votes_rule, due}
use Rattle.turn.specs.Turn.{applied, turn_words}
use Rattle.turn.proofs.laws.Frame.{applied_other}
use Rattle.turn.specs.laws.Admitting.{admitted_settings}
use Rattle.turn.specs.laws.Turn.{Way, refused, taken, way}
use Rattle.session.specs.Session.{settings_of, session_with, session_of}
use Rattle.wire.specs.Message.{COMMIT, kind_of}
use Rattle.wire.specs.declared.Message.{Message}
use Rattle.wire.specs.declared.Message.TheVariants as message
use Rattle.wire_laws.proofs.laws.Forms.{Form}
use Rattle.wire_laws.proofs.Converse.{taken_form}
use Rattle.delivery.specs.Delivery.{verdict, words_after, delivered}
use Rattle.delivery.specs.laws.Accepting.{accepting}
use Rattle.delivery.specs.laws.Frame.{InLayout, Changed, word_recorded}
use Rattle.delivery.specs.laws.Kept.{in_layout_lem}
use Rattle.delivery.specs.laws.Versions.{first_kinds}
use Rattle.recording.specs.Recording.{recorded_words}
use Rattle.turn_bound.proofs.laws.Steps.{Step, opening, delivery, turn, report, recording, after, current, acting}
use Rattle.turn_bound.proofs.laws.Sums.{share_few, zero_count}
use Rattle.turn_bound.proofs.laws.Potential.{instance_part, potential}
use Rattle.turn_bound.specs.TurnBound.{Terms, terms_by}
use Rattle.turn_bound.proofs.laws.Finishes.{finishes, measure, finishes_few}
use Rattle.turn_bound.proofs.laws.Sound.{Sound, same_settings, same_version}
use Rattle.turn_bound.proofs.laws.Delivering.{Delivered, delivery_sound}
use Rattle.turn_bound.proofs.laws.Recorded.{Recorded, recording_sound}
use Rattle.turn_bound.proofs.laws.Opened.{opened_ruled}
use Rattle.turn_bound.proofs.laws.Count.{going, opening_going, refused_words}
use Rattle.turn_bound.proofs.laws.CallCount.{calls_begun}
use Rattle.costliest.specs.Statement.{AtMostFive}
use Rattle.settings.specs.declared.refusal.Refusal.{Refusal}
use Rattle.std.specs.Result.{is_ok}
use Rattle.settings.specs.laws.Answers.{taken_true, true_taken}

-- the vote has not begun
record Quiet (s : List ℕ) : Type 0 where
  round : word s (round_at 1) ≡ 0
  ests : word s (est_sent_at 1) ≡ 0
  auxs : word s (aux_sent_at 1) ≡ 0
  ones : word s decided_one_at ≡ 0

abbrev alone : Settings
alone = record { n = 1; ta = 0; ts = 0; whole = 1; weights = 1 }

-- ---- no vote is due

abbrev NoVote : Act → Type 0
NoVote Idle = Unit {0}
NoVote InForce = Unit {0}
NoVote (Commit k) = Unit {0}
NoVote (Send v) = Unit {0}
NoVote (Echo i v) = Unit {0}
NoVote (Ready i v) = Unit {0}
NoVote (Start i b) = ⊥
NoVote (Relay i r b) = ⊥
NoVote (Aux i r b) = ⊥
NoVote (Move i r v) = ⊥
NoVote (Finish i b) = ⊥

-- a broadcast with output is Exit 1
exit_one : (o : ℕ → Option ℕ) (as0 as1 : ℕ → Bool) (v : ℕ) → o 1 ≡ Some v → (exit_of alone o as0 as1).number ≡ 1
unfolding exit_of exit1_at naming lowest with_output total weight_of mark quorum
exit_one o as0 as1 v e = rw (e, eq-eqb v v refl)

module _ (s : List ℕ) (q : Quiet s) (plain : finishing (version s) ≡ false) where
  no_ones : votes_decided_one alone s ≡ 0
  unfolding votes_decided_one decided_one marked
  no_ones = total_none (weight_of 1) (decided_one s) 1 (λ p a b. ap (λ (w : ℕ). mark w p) q.ones ∙ mark_zero p)

  before : round s 1 ≡ 0
  unfolding round
  before = rw q.round

  vote_idle : vote_act alone s false (votes_decided_one alone s) 1 ≡ Idle
  unfolding vote_act start_act relay_act round_act running vote_quorum or_act first_act act_at lowest
  vote_idle = rw (before, no_ones)

  votes_idle : votes_rule alone s ≡ Idle
  unfolding votes_rule exit_now first_act act_at lowest
  votes_idle = go (output alone s 1) refl
    where
      go : (x : Option ℕ) → output alone s 1 ≡ x → votes_rule alone s ≡ Idle
      go (Some v) e = rw (exit_one (output alone s) (decided_zero s) (decided_one s) v e)
      go None e = rw (first_rule alone s (λ i. present (output alone s i)) plain) (cases (eqb (exit_now alone s).number 1))
        where
          inner : first_act (λ i. vote_act alone s (present (output alone s i)) (votes_decided_one alone s) i) 1 ≡ Idle
          inner = rw (e, vote_idle)

          cases : (b : Bool) → cond b Idle (first_act (λ i. vote_act alone s (present (output alone s i)) (votes_decided_one alone s) i) 1) ≡ Idle
          cases true = refl
          cases false = inner

  due_no_vote : NoVote (due alone s)
  unfolding due in_force_rule commit_rule commit_of send_rule
  due_no_vote =
      all_or NoVote (in_force_rule alone s) _ (all_cond NoVote (eqb (set_leader alone s (quorum alone)) 0) Idle InForce (λ e. tt) (λ e. tt))
      (all_or NoVote (commit_rule alone s) _ (all_cond NoVote (commit_sent s) Idle (commit_of (commit_due alone s)) (λ e. tt) (λ e. set (commit_due alone s)))
      (all_or NoVote (send_rule s) _ (all_cond NoVote (send_sent s) Idle (Send (word s 5)) (λ e. tt) (λ e. tt))
      (all_or NoVote (echo_rule alone s) _ (echo_rule_holds NoVote alone s tt (λ i a b e f. tt))
      (all_or NoVote (ready_rule alone s) _ (ready_rule_holds NoVote alone s tt (λ i v a b e f. tt))
      (rw votes_idle tt)))))
    where
      set : (xs : List ℕ) → NoVote (commit_of xs)
      set [] = tt
      set (x ∷ xs) = tt

-- ---- calls keep the vote quiet

module _ (s : List ℕ) where
  -- a word that no such act writes
  spared : (a : Act) → NoVote a → (k : ℕ) → k ≢ 6 → k ≢ 7 → k ≢ 136 → k ≢ 137 → word (applied s a) k ≡ word s k
  spared Idle h k t f e r = applied_other s Idle k t tt
  spared InForce h k t f e r = applied_other s InForce k t f
  spared (Commit c) h k t f e r = applied_other s (Commit c) k t f
  spared (Send v) h k t f e r = applied_other s (Send v) k t f
  spared (Echo i v) h k t f e r = applied_other s (Echo i v) k t e
  spared (Ready i v) h k t f e r = applied_other s (Ready i v) k t r
  spared (Start i b) h k t f e r = absurd h
  spared (Relay i x b) h k t f e r = absurd h
  spared (Aux i x b) h k t f e r = absurd h
  spared (Move i x v) h k t f e r = absurd h
  spared (Finish i b) h k t f e r = absurd h

  act_quiet : (a : Act) → NoVote a → Quiet s → Quiet (applied s a)
  act_quiet a h q =
      record {
        round = spared a h 24 (λ e. omega arith) (λ e. omega arith) (λ e. omega arith) (λ e. omega arith) ∙ q.round;
        ests = spared a h 40 (λ e. omega arith) (λ e. omega arith) (λ e. omega arith) (λ e. omega arith) ∙ q.ests;
        auxs = spared a h 56 (λ e. omega arith) (λ e. omega arith) (λ e. omega arith) (λ e. omega arith) ∙ q.auxs;
        ones = spared a h 139 (λ e. omega arith) (λ e. omega arith) (λ e. omega arith) (λ e. omega arith) ∙ q.ones;
      }

only_alone : (g : Settings) → Ruled g → g.n ≡ 1 → g.weights ≡ 1 → g ≡ alone
unfolding whole_of total weight_of mark
only_alone g r e f =
    let w : g.whole ≡ 1 = r.sum ∙ ap₂ whole_of f e in
    same e (omega (arith, r.margin)) (omega (arith, r.margin)) w f
  where
    same : g.n ≡ 1 → g.ta ≡ 0 → g.ts ≡ 0 → g.whole ≡ 1 → g.weights ≡ 1 → g ≡ alone
    same a b c d e = λ i. record { n = a i; ta = b i; ts = c i; whole = d i; weights = e i }

module _ (s : List ℕ) (q : Quiet s) where
  part_few : instance_part s 1 ≤ 2
  unfolding instance_part
  part_few =
      let out : share (eqb (word s 24) 33) 1 ≡ 0 = rw q.round in
      omega (arith, share_few (mark (word s 136) 1), share_few (mark (word s 137) 1), zero_count (word s 40) 64 q.ests, zero_count (word s 56) 32 q.auxs, out)

  quiet_potential : potential 1 s ≤ 5
  unfolding potential total
  quiet_potential = omega (arith, count_le (mark (word s 7)) 3, part_few)

-- a delivery decides nothing where there are no FINISHes
unwritten : (p : ℕ) (m : Message) → InLayout p m → kind_of m ≤ COMMIT → Changed p m decided_one_at → ⊥
unwritten p (message.Send i x) h k (inl e) = omega arith
unwritten p (message.Send i x) h k (inr e) = omega arith
unwritten p (message.Echo i x) h k (inl e) = omega arith
unwritten p (message.Echo i x) h k (inr e) = omega arith
unwritten p (message.Ready i x) h k (inl e) = omega arith
unwritten p (message.Ready i x) h k (inr e) = omega arith
unwritten p (message.Est i r b) h k (inl e) = omega arith
unwritten p (message.Est i r b) h k (inr e) = omega arith
unwritten p (message.Aux i r b) h k e = omega arith
unwritten p (message.Commit c) h k (inl e) = omega arith
unwritten p (message.Commit c) h k (inr e) = omega arith
unwritten p (message.Finish i b) h k e = omega arith

delivery_ones : (s : List ℕ) (link : ℕ) (b : List ℕ) → finishing (version s) ≡ false → word (delivered s link b) decided_one_at ≡ word s decided_one_at
unfolding delivered words_after session_of session_with settings_of
delivery_ones s link b plain = go (verdict s link b) refl
  where
    go : (y : Result Message Refusal) → verdict s link b ≡ y → word (words_after y s link b) decided_one_at ≡ word s decided_one_at
    go (Err k) e = refl
    go (Ok m) e =
        let x = accepting s link b m e in
        let f : Form (version s) (word s n_at) (session_of s).number link b m = taken_form _ _ _ link b m x.taken in
        word_recorded s (drop 12 b) link m decided_one_at
        (unwritten link m (in_layout_lem (word s n_at) link m x.state.ruled.few f.link_low f.link_high f.layout) (first_kinds s link b m plain e))

module _ (k : Terms) (ruled : Ruled k.settings) (s : List ℕ) (h : Sound k s) (first : k.version ≡ FIRST_VERSION) (one : k.settings.n ≡ 1) (light : k.settings.weights ≡ 1) (q : Quiet s) where
  plain : finishing (version s) ≡ false
  plain = ap finishing (same_version k ruled s h ∙ first) ∙ first_plain

  turn_quiet : (out : List ℕ) → Quiet (turn_words s (length out))
  turn_quiet out = of (way s out)
    where
      of : Way s out → Quiet (turn_words s (length out))
      of (refused j r) = rw r.words q
      of (taken y t) =
          let same : y.settings ≡ alone = admitted_settings s (length out) y t.admits ∙ same_settings k ruled s h ∙ only_alone k.settings ruled one light in
          rw (t.words, same) (act_quiet s (due alone s) (due_no_vote s q plain) q)

  delivery_quiet : (link : ℕ) (b : List ℕ) → Quiet (delivered s link b)
  delivery_quiet link b = of (delivery_sound k ruled s h link b)
    where
      of : Delivered k s (delivered s link b) → Quiet (delivered s link b)
      of y =
          record {
            round = y.same 24 (inl (omega arith)) ∙ q.round;
            ests = y.same 40 (inl (omega arith)) ∙ q.ests;
            auxs = y.same 56 (inl (omega arith)) ∙ q.auxs;
            ones = delivery_ones s link b plain ∙ q.ones;
          }

  recording_quiet : (i r b : ℕ) → Quiet (recorded_words s i r b)
  recording_quiet i r b = of (recording_sound k ruled s h i r b)
    where
      of : Recorded k s (recorded_words s i r b) → Quiet (recorded_words s i r b)
      of y =
          record {
            round = y.same 24 (λ z. omega arith) ∙ q.round;
            ests = y.same 40 (λ z. omega arith) ∙ q.ests;
            auxs = y.same 56 (λ z. omega arith) ∙ q.auxs;
            ones = y.same 139 (λ z. omega arith) ∙ q.ones;
          }

  quiet_few : word s turns_at ≤ 5
  unfolding measure
  quiet_few =
      let is : word s turns_at ≡ measure 1 s = rw one at h.turns in
      let none : finishes 1 s ≤ 0 = rw (one, first, first_plain) at (finishes_few k.version k.settings.n s h.sent) in
      omega (arith, is, quiet_potential s q, none)

opening_quiet : (w : List ℕ) (o : Arguments) → open_answer (length w) o ≡ Ok tt → Quiet (opened w o)
unfolding opened
opening_quiet w o e =
    let few = (opened_ruled w o e).few in
    let z = first_zero o few in
    rw (taken_true (open_answer (length w) o) e)
    (record { round = z 24 (omega arith) (λ e. omega arith); ests = z 40 (omega arith) (λ e. omega arith); auxs = z 56 (omega arith) (λ e. omega arith); ones = z 139 (omega arith) (λ e. omega arith) })

module _ (s : List ℕ) (o : Arguments) (e : open_answer (length s) o ≡ Ok tt) where
  abbrev first : List ℕ
  first = opened s o

  abbrev now : List Step → Terms
  now cs = current (terms_by o) first cs

  -- version 1, and one concentrator of weight 1
  abbrev Alone : Terms → Type 0
  Alone k = (k.version ≡ FIRST_VERSION) × (k.settings.n ≡ 1) × (k.settings.weights ≡ 1)

  quiet : (cs : List Step) → Alone (now cs) → Quiet (after first cs)
  unfolding current after
  quiet [] u = opening_quiet s o e
  quiet (opening p ∷ cs) u = at (is_ok (open_answer (length (after first cs)) p)) refl u (λ v. quiet cs v)
    where
      at : (b : Bool) → is_ok (open_answer (length (after first cs)) p) ≡ b → Alone (cond b (terms_by p) (now cs)) → (Alone (now cs) → Quiet (after first cs)) → Quiet (opened (after first cs) p)
      at true d v x = opening_quiet (after first cs) p (true_taken (open_answer (length (after first cs)) p) d)
      at false d v x = rw (refused_words (after first cs) p d) (x v)
  quiet (delivery link b ∷ cs) u =
      let y = going (terms_by o) first (opening_going s o e) cs in
      delivery_quiet (now cs) y.ruled (after first cs) y.sound u.0 u.1 u.2 (quiet cs u) link b
  quiet (turn out ∷ cs) u =
      let y = going (terms_by o) first (opening_going s o e) cs in
      turn_quiet (now cs) y.ruled (after first cs) y.sound u.0 u.1 u.2 (quiet cs u) out
  quiet (report ∷ cs) u = quiet cs u
  quiet (recording i r b ∷ cs) u =
      let y = going (terms_by o) first (opening_going s o e) cs in
      recording_quiet (now cs) y.ruled (after first cs) y.sound u.0 u.1 u.2 (quiet cs u) i r b

  few_turns : (cs : List Step) → Alone (now cs) → acting first cs ≤ 5
  few_turns cs u =
      let y = going (terms_by o) first (opening_going s o e) cs in
      omega (arith, y.count, quiet_few (now cs) y.ruled (after first cs) y.sound u.0 u.1 u.2 (quiet cs u))

pub at_most_five : AtMostFive
unfolding AtMostFive
at_most_five start cs q y e v one lit =
    let x = calls_begun start cs q y e in
    rw x.count at (few_turns x.first x.arguments x.opens x.steps (rw x.terms (v, one, lit)))
