-- Where all messages are held and nothing is due, everything was sent but the set in force.
use Prim.Native.Nat.{ℕ, zero, suc, ◌+◌, ◌*◌, ◌-◌, ◌^◌, ◌≤◌, min}
use Rattle.std.specs.Prelude.{Bool, ◌&&◌, cond, ◌≢◌, ◌≡◌, Option, Some, None}
use Rattle.std.proofs.Math.Bool.{true, false, true≢false}
use mathlib.Core.List.{List, [], ◌∷◌}
use Rattle.std.proofs.Math.Path.{refl, ap, subst}
use Rattle.std.proofs.Common.{sym, ◌∙◌}
use native.Mathlib.Omega.{arith}
use Rattle.std.proofs.Math.Decide.{dec_le, ℕ_discrete}
use Rattle.std.proofs.Math.Dec.{eqb}
use Rattle.std.proofs.Math.ListN.{length}
use borrow.Author.Tests.{eq-eqb, ne_eqb, eqb-true, le-leb, ltb-true}
use Rattle.quorum.specs.laws.Bools.{and_both}
use Rattle.settings.specs.Versions.{finishing}
use Rattle.settings.specs.laws.Versions.{first_plain}
use Rattle.settings.specs.Settings.{quorum, repeat, vote_quorum, relay, accept}
use Rattle.settings.specs.declared.Settings.{Settings}
use Rattle.quorum.specs.Marks.{mark}
use Rattle.quorum.specs.Total.{total, count, everyone}
use Rattle.quorum.specs.laws.Total.{member_total, all_count, count_all, count_le}
use Rattle.quorum.specs.laws.Lowest.{lowest_none}
use Rattle.quorum.specs.Weights.{weight_of}
use Rattle.quorum.specs.laws.Whole.{ones_weight, ones_count, ones_whole}
use Rattle.records.specs.Layout.{round_at, est_sent_at, aux_sent_at, vote_at, est_mark}
use Rattle.records.specs.Words.{word, marked}
use Rattle.records.specs.Records.{version, send_sent, commit_sent, echo_sent, ready_sent, send_held, send_value, ready_held, ready_value, echo_held, echo_value, est_held, aux_held, round, est_sent, aux_sent, printed, coin_known, commit_count, commit_set, decided_zero, decided_one}
use Rattle.acts.specs.Acts.{is_due, or_act}
use Rattle.acts.specs.laws.Choices.{or_idle, first_idle, passed_test}
use Rattle.acts.specs.declared.Act.TheVariants.{Idle, Commit, Send, Echo, Ready, Start, Relay, Aux}
use Rattle.broadcasts.specs.Leading.{present, holders, leading, or_output}
use Rattle.broadcasts.specs.Broadcasts.{output, echo_act, ready_due, ready_of, ready_act, echo_rule, ready_rule}
use Rattle.broadcasts.specs.laws.Broadcasts.{leading_some, output_unique}
use Rattle.commits.specs.Commits.{commit_held, same_set, set_holders, set_leads, set_leader, set_of, leading_set}
use Rattle.commits.specs.laws.Sets.{set_length, set_same}
use Rattle.votes.specs.Votes.{est_count, accepted, votes_decided_one, start_act, relay_value, relay_round, relay_act, running, one_accepted_first, aux_value, aux_act, carries, carriers, move_value, move_act, round_act, vote_act}
use Rattle.votes.specs.laws.Versions.{first_rule}
use Rattle.exits.specs.Exits.{Exit, with_output, has_value, every_broadcast, no_exit}
use Rattle.exits.specs.laws.Stated.{single_exit, outputs_exit}
use Rattle.exits.proofs.laws.Ways.{First, Way, first, second, third, none, way}
use Rattle.exits.specs.Exits.{exit_now}
use Rattle.turn.specs.Due.{in_force_rule, or_set, commit_due, commit_of, commit_rule, send_rule, votes_rule, due}
use Rattle.turn.specs.laws.Told.{SetHeld}
use Rattle.turn.specs.laws.Due.{leader_holds}
use Rattle.turn_bound.proofs.laws.Finishes.{measure}
use Rattle.turn_bound.proofs.laws.Sound.{same_version}
use Rattle.turn_bound.proofs.laws.Potential.{instance_part, potential}
use Rattle.held.specs.laws.Held.{READY}
use Rattle.costliest.proofs.laws.Saying.{settings, terms, Good, ruled}
use Rattle.costliest.proofs.laws.Hearing.{Heard}

module _ (n : ℕ) (two : 2 ≤ n) (few : n ≤ 16) (low : 1 ≤ n) (begin : List ℕ) (s : List ℕ) (x : Good n 1 s) (h : Heard n low few begin s) where
  abbrev g : Settings
  g = settings n

  size : length s ≡ 2048
  size = x.sound.size

  -- there are no FINISHes
  plain : finishing (version s) ≡ false
  plain = ap finishing (same_version (terms n) (ruled n 1 low few) s x.sound) ∙ first_plain

  -- ---- broadcasts

  echo_done : is_due (echo_rule g s) ≡ false → (i : ℕ) → 1 ≤ i → i ≤ n → echo_sent s i ≡ true
  unfolding echo_rule echo_act send_held
  echo_done e i lo hi = of (first_idle (echo_act s) n e i lo hi)
    where
      of : is_due (cond (echo_sent s i) Idle (cond (send_held s i) (Echo i (send_value s i)) Idle)) ≡ false → echo_sent s i ≡ true
      of f = passed_test (echo_sent s i) (Echo i (send_value s i)) refl (rw (h.sent i lo hi) at f)

  -- the value of a READY that is held
  value_is : (i p : ℕ) → 1 ≤ i → i ≤ n → 1 ≤ p → p ≤ n → ready_value s i p ≡ i
  unfolding ready_held
  value_is i p lo hi l k =
      x.allowed p (READY i (ready_value s i p)) (record { low = l; high = omega arith })
      (record { instance = record { low = lo; high = omega arith }; there = h.readied i lo hi p l k; same = refl })

  holders_all : (i : ℕ) → 1 ≤ i → i ≤ n → holders g (ready_held s i) (ready_value s i) i ≡ n
  unfolding holders ready_held
  holders_all i lo hi =
      ones_count n (λ p. ready_held s i p && eqb (ready_value s i p) i) few
      ∙ all_count (λ p. ready_held s i p && eqb (ready_value s i p) i) n
      (λ p l k. and_both (ready_held s i p) (eqb (ready_value s i p) i) (h.readied i lo hi p l k) (eq-eqb (ready_value s i p) i (value_is i p lo hi l k)))

  ready_done : is_due (ready_rule g s) ≡ false → (i : ℕ) → 1 ≤ i → i ≤ n → ready_sent s i ≡ true
  unfolding ready_rule ready_act ready_due repeat
  ready_done e i lo hi = of (leading g (echo_held s i) (echo_value s i) (quorum g)) (leading g (ready_held s i) (ready_value s i) 1) refl (first_idle (ready_act g s) n e i lo hi)
    where
      of : (u v : Option ℕ) → leading g (ready_held s i) (ready_value s i) 1 ≡ v → is_due (cond (ready_sent s i) Idle (ready_of i (or_output u v))) ≡ false → ready_sent s i ≡ true
      of (Some a) v f d = passed_test (ready_sent s i) (Ready i a) refl d
      of None (Some a) f d = passed_test (ready_sent s i) (Ready i a) refl d
      of None None f d = absurd (leading_some g (ready_held s i) (ready_value s i) 1 i (omega arith) (omega (arith, holders_all i lo hi)) f)

  output_is : (i : ℕ) → 1 ≤ i → i ≤ n → output g s i ≡ Some i
  unfolding quorum
  output_is i lo hi = output_unique g s i i (ruled n 1 low few) (omega (arith, holders_all i lo hi, ones_whole n few))

  -- ---- Exit 1 does not hold

  has_own : (v i : ℕ) → 1 ≤ i → i ≤ n → with_output g (output g s) every_broadcast v ≡ n → i ≡ v
  unfolding with_output
  has_own v i lo hi e =
      let y : has_value (output g s i) v ≡ true = count_all (λ j. has_value (output g s j) v) n i (sym (ones_count n (λ j. has_value (output g s j) v) few) ∙ e) lo hi in
      eqb-true i v (rw (output_is i lo hi) at y)

  not_first : (v : ℕ) → First g (output g s) v → ⊥
  unfolding quorum with_output
  not_first v f =
      let all : with_output g (output g s) every_broadcast v ≡ n = omega (arith, f.many, ones_count n (λ j. has_value (output g s j) v) few, count_le (λ j. has_value (output g s j) v) n, ones_whole n few) in
      omega (arith, has_own v 1 (omega arith) low all, has_own v 2 (omega arith) two all)

  not_exit1 : eqb (exit_now g s).number 1 ≡ false
  unfolding exit_now single_exit outputs_exit no_exit
  not_exit1 = ne_eqb (exit_now g s).number 1 (λ e. go (exit_now g s) e (way g (output g s) (decided_zero s) (decided_one s)))
    where
      go : (y : Exit) → y.number ≡ 1 → Way g (output g s) (decided_zero s) (decided_one s) y → ⊥
      go y e (first v ne f z) = not_first v f
      go y e (second v a d f z) = let k : y.number ≡ 2 = ap (λ (u : Exit). u.number) z in omega arith
      go y e (third a d m f z) = let k : y.number ≡ 3 = ap (λ (u : Exit). u.number) z in omega arith
      go y e (none a z) = let k : y.number ≡ 0 = ap (λ (u : Exit). u.number) z in omega arith

  -- ---- votes

  est_one : (i r b : ℕ) → 1 ≤ i → i ≤ n → 1 ≤ r → r ≤ 32 → b ≤ 1 → 1 ≤ est_count g s i r b
  unfolding est_count est_held
  est_one i r b lo hi rl rh bit = omega (arith, ones_weight n 1 (omega arith) low few, member_total (weight_of (2 ^ n - 1)) (est_held s i r b) n 1 (omega arith) low (at b bit))
    where
      at : (c : ℕ) → c ≤ 1 → marked s (vote_at i r) (est_mark c 1) ≡ true
      at zero l = (h.estimated i lo hi r rl rh).0
      at (suc zero) l = (h.estimated i lo hi r rl rh).1
      at (suc (suc c)) l = absurd (omega arith)

  is_accepted : (i r b : ℕ) → 1 ≤ i → i ≤ n → 1 ≤ r → r ≤ 32 → b ≤ 1 → accepted g s i r b ≡ true
  unfolding accepted accept
  is_accepted i r b lo hi rl rh bit = le-leb 1 (est_count g s i r b) (est_one i r b lo hi rl rh bit)

  all_carry : (i r : ℕ) → 1 ≤ i → i ≤ n → 1 ≤ r → r ≤ 32 → carriers g s i r ≡ n
  unfolding carriers carries aux_held
  all_carry i r lo hi rl rh =
      ones_count n (carries g s i r) few ∙ all_count (carries g s i r) n (λ p l k. rw (is_accepted i r 0 lo hi rl rh (omega arith), h.voted i lo hi r rl rh p l k))

  record VoteDone (i : ℕ) : Type 0 where
    out : word s (round_at i) ≡ 33
    ests : (r b : ℕ) → 1 ≤ r → r ≤ 32 → b ≤ 1 → est_sent s i r b ≡ true

  module _ (i : ℕ) (lo : 1 ≤ i) (hi : i ≤ n) where
    started : (k : ℕ) → is_due (start_act g s true k i) ≡ false → 1 ≤ round s i
    unfolding start_act
    started k e = at (ℕ_discrete (round s i) 0)
      where
        at : Dec (round s i ≡ 0) → 1 ≤ round s i
        at (no ne) = omega arith
        at (yes z) = let d : is_due (Start i 1) ≡ false = rw z at e in absurd (true≢false d)

    value_sent : (r b : ℕ) → 1 ≤ r → r ≤ 32 → b ≤ 1 → is_due (relay_value g s i r b) ≡ false → est_sent s i r b ≡ true
    unfolding relay_value relay
    value_sent r b rl rh bit e = passed_test (est_sent s i r b) (Relay i r b) refl (rw (le-leb 1 (est_count g s i r b) (est_one i r b lo hi rl rh bit)) at e)

    relayed : is_due (relay_act g s i) ≡ false → (r b : ℕ) → 1 ≤ r → r ≤ 32 → r ≤ round s i → b ≤ 1 → est_sent s i r b ≡ true
    unfolding relay_act relay_round
    relayed e r b rl rh l bit = at b bit (or_idle (relay_value g s i r 0) (relay_value g s i r 1) (first_idle (relay_round g s i) (min (round s i) 32) e r rl (omega arith)))
      where
        at : (c : ℕ) → c ≤ 1 → (is_due (relay_value g s i r 0) ≡ false) × (is_due (relay_value g s i r 1) ≡ false) → est_sent s i r c ≡ true
        at zero k d = value_sent r 0 rl rh k d.0
        at (suc zero) k d = value_sent r 1 rl rh k d.1
        at (suc (suc c)) k d = absurd (omega arith)

    -- a vote in one of its rounds has something due: an AUX, whichever value was accepted first
    aux_due : (r : ℕ) → 1 ≤ r → r ≤ 32 → is_due (aux_value g s i r) ≡ true
    unfolding aux_value
    aux_due r rl rh = rw (is_accepted i r 0 lo hi rl rh (omega arith)) (by (one_accepted_first g s i r))
      where
        by : (t : Bool) → is_due (cond t (Aux i r 1) (Aux i r 0)) ≡ true
        by true = refl
        by false = refl

    aux_there : (r : ℕ) → 1 ≤ r → r ≤ 32 → is_due (cond (aux_sent s i r) Idle (aux_value g s i r)) ≡ false → aux_sent s i r ≡ true
    aux_there r rl rh e = passed_test (aux_sent s i r) (aux_value g s i r) (aux_due r rl rh) e

    -- printed coins are known
    known : (r : ℕ) → coin_known s i r ≡ true
    unfolding coin_known printed
    known r = rw x.printed

    moves : (r : ℕ) → 1 ≤ r → r ≤ 32 → aux_sent s i r ≡ true → is_due (cond (aux_sent s i r && coin_known s i r) (move_value g s i r) Idle) ≡ true
    unfolding move_value vote_quorum
    moves r rl rh a =
        rw (a, known r, le-leb (vote_quorum g) (carriers g s i r) (omega (arith, all_carry i r lo hi rl rh, ones_whole n few)))

    not_running : is_due (round_act g s i) ≡ false → 1 ≤ round s i → 33 ≤ round s i
    unfolding round_act running aux_act move_act
    not_running e l = at (dec_le (round s i) 32)
      where
        at : Dec (round s i ≤ 32) → 33 ≤ round s i
        at (no ne) = omega arith
        at (yes m) = absurd (true≢false (sym (moves (round s i) l m (aux_there (round s i) l m both.0)) ∙ both.1))
          where
            both : (is_due (aux_act g s i) ≡ false) × (is_due (move_act g s i) ≡ false)
            both = or_idle (aux_act g s i) (move_act g s i) (rw (le-leb 1 (round s i) l, le-leb (round s i) 32 m) at e)

    vote_done : (k : ℕ) → is_due (vote_act g s true k i) ≡ false → VoteDone i
    unfolding vote_act round
    vote_done k e =
        let a = or_idle (start_act g s true k i) (or_act (relay_act g s i) (round_act g s i)) e in
        let b = or_idle (relay_act g s i) (round_act g s i) a.1 in
        let last : 33 ≤ round s i = not_running b.1 (started k a.0) in
        record { out = omega (arith, x.sound.orderly.rounds i lo hi); ests = λ r c rl rh bit. relayed b.0 r c rl rh (omega arith) bit }

  votes_done_lem : is_due (votes_rule g s) ≡ false → (i : ℕ) → 1 ≤ i → i ≤ n → VoteDone i
  unfolding votes_rule
  votes_done_lem e i lo hi =
      vote_done i lo hi (votes_decided_one g s) (rw (output_is i lo hi) at (first_idle (λ j. vote_act g s (present (output g s j)) (votes_decided_one g s) j) n (rw (not_exit1, first_rule g s (λ j. present (output g s j)) plain) at e) i lo hi))

  -- ---- COMMIT

  leads_one : set_leads g s 1 1 ≡ true
  unfolding set_leads set_holders
  leads_one =
      and_both (commit_held s 1) _ h.committed
      (le-leb 1 (set_holders g s 1) (omega (arith, ones_weight n 1 (omega arith) low few, member_total (weight_of (2 ^ n - 1)) (λ q. commit_held s q && same_set s 1 q) n 1 (omega arith) low (and_both (commit_held s 1) (same_set s 1 1) h.committed (set_same s 1 1 size (omega arith) (omega arith) refl)))))

  leader_there : set_leader g s 1 ≢ 0
  unfolding set_leader
  leader_there z = true≢false (sym leads_one ∙ lowest_none (set_leads g s 1) n z 1 (omega arith) low)

  set_there : 1 ≤ length (leading_set g s 1)
  unfolding leading_set set_of commit_held
  set_there = of (leader_holds g s 1 leader_there)
    where
      of : SetHeld g s 1 (set_leader g s 1) → 1 ≤ length (cond (eqb (set_leader g s 1) 0) [] (commit_set s (set_leader g s 1)))
      of y =
          rw (ne_eqb (set_leader g s 1) 0 leader_there)
          (omega (arith, set_length s (set_leader g s 1) size (omega (arith, y.high)), ltb-true 0 (commit_count s (set_leader g s 1)) y.held))

  commit_done : is_due (commit_rule g s) ≡ false → commit_sent s ≡ true
  unfolding commit_rule commit_due repeat commit_of or_set
  commit_done e = of (exit_now g s).names (leading_set g s 1) set_there e
    where
      of : (xs ys : List ℕ) → 1 ≤ length ys → is_due (cond (commit_sent s) Idle (commit_of (or_set xs ys))) ≡ false → commit_sent s ≡ true
      of xs [] l d = absurd (omega arith)
      of [] (y ∷ ys) l d = passed_test (commit_sent s) (Commit (length (y ∷ ys))) refl d
      of (z ∷ zs) (y ∷ ys) l d = passed_test (commit_sent s) (Commit (length (z ∷ zs))) refl d

  send_done : is_due (send_rule s) ≡ false → send_sent s ≡ true
  unfolding send_rule
  send_done e = passed_test (send_sent s) (Send (word s 5)) refl e

  -- ---- all of it

  record Done : Type 0 where
    sent : send_sent s ≡ true
    committed : commit_sent s ≡ true
    echoed : (i : ℕ) → 1 ≤ i → i ≤ n → echo_sent s i ≡ true
    readied : (i : ℕ) → 1 ≤ i → i ≤ n → ready_sent s i ≡ true
    votes : (i : ℕ) → 1 ≤ i → i ≤ n → VoteDone i

  idle_done : is_due (due g s) ≡ false → Done
  unfolding due
  idle_done e =
      let a = or_idle (in_force_rule g s) _ e in
      let b = or_idle (commit_rule g s) _ a.1 in
      let c = or_idle (send_rule s) _ b.1 in
      let d = or_idle (echo_rule g s) _ c.1 in
      let f = or_idle (ready_rule g s) _ d.1 in
      record { sent = send_done c.0; committed = commit_done b.0; echoed = echo_done d.0; readied = ready_done f.0; votes = votes_done_lem f.1 }

  module _ (d : Done) where
    est_marks : (i : ℕ) → VoteDone i → count (mark (word s (est_sent_at i))) 64 ≡ 64
    unfolding est_sent marked
    est_marks i v = all_count (mark (word s (est_sent_at i))) 64 (λ q a b. at q a b (dec_le q 32))
      where
        at : (q : ℕ) → 1 ≤ q → q ≤ 64 → Dec (q ≤ 32) → mark (word s (est_sent_at i)) q ≡ true
        at q a b (yes l) = let e : 32 * 0 + q ≡ q = omega arith in subst (λ (k : ℕ). mark (word s (est_sent_at i)) k ≡ true) e (v.ests q 0 a l (omega arith))
        at q a b (no l) = let e : 32 * 1 + (q - 32) ≡ q = omega arith in subst (λ (k : ℕ). mark (word s (est_sent_at i)) k ≡ true) e (v.ests (q - 32) 1 (omega arith) (omega arith) (omega arith))

    aux_marks : (i : ℕ) → 1 ≤ i → i ≤ n → VoteDone i → count (mark (word s (aux_sent_at i))) 32 ≡ 32
    unfolding aux_sent marked
    aux_marks i lo hi v = all_count (mark (word s (aux_sent_at i))) 32 (λ r a b. x.sound.orderly.passed i r lo hi a (omega (arith, v.out)))

    part_full : (i : ℕ) → 1 ≤ i → i ≤ n → instance_part s i ≡ 99
    unfolding instance_part echo_sent ready_sent marked
    part_full i lo hi = of (d.votes i lo hi)
      where
        of : VoteDone i → instance_part s i ≡ 99
        of v = rw (d.echoed i lo hi, d.readied i lo hi, est_marks i v, aux_marks i lo hi v, v.out)

    parts_full : (k : ℕ) → k ≤ n → total (instance_part s) everyone k ≡ 99 * k
    unfolding total
    parts_full zero l = refl
    parts_full (suc k) l = omega (arith, parts_full k (omega arith), part_full (suc k) (omega arith) l)

    flags_two : 2 ≤ count (mark (word s 7)) 3
    unfolding total send_sent commit_sent marked
    flags_two = rw (d.sent, d.committed) (omega arith)

    nearly_full : 99 * n + 2 ≤ potential n s
    unfolding potential
    nearly_full = omega (arith, flags_two, parts_full n (omega arith))

  -- the turn bound but one (PROTOCOL 8.20)
  pub idle_count : is_due (due g s) ≡ false → 99 * n + 2 ≤ word s 6
  unfolding measure
  idle_count e = omega (arith, x.sound.turns, nearly_full (idle_done e))
