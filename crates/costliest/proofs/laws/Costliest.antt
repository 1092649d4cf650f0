-- For n from 2 to 16 the costliest session takes exactly 99·n+3 turns.
use Rattle.std.specs.Prelude.{ℕ, zero, suc, ◌+◌, ◌*◌, ◌-◌, ◌^◌, ◌≤◌, ◌<◌, true, false, ◌&&◌, ◌≢◌, ◌⊎◌, ◌≡◌, length, take, Ok}
use Rattle.std.proofs.Math.Bool.{true≢false}
use mathlib.Core.List.{List}
use Rattle.std.proofs.Common.{inl, inr, subst, ◌∙◌}
use Rattle.std.proofs.Math.Path.{refl, sym, ap}
use native.Mathlib.Omega.{arith}
use Rattle.std.proofs.Math.Decide.{ℕ_discrete}
use borrow.Author.Tests.{eq-eqb, ne_eqb, le-leb}
use Rattle.quorum.specs.laws.Bools.{and_both}
use Rattle.settings.specs.laws.Rules.{rules_valid}
use Rattle.settings.specs.Versions.{version_known}
use Rattle.settings.specs.laws.Versions.{first_bound}
use Rattle.settings.specs.Settings.{quorum, named_ta}
use Rattle.quorum.specs.Marks.{mark}
use Rattle.quorum.specs.laws.Marks.{mark_zero}
use Rattle.quorum.specs.laws.Total.{all_count}
use Rattle.quorum.specs.laws.Whole.{ones_count, ones_whole}
use Rattle.quorum.specs.laws.Lowest.{lowest_none}
use Rattle.records.specs.Layout.{turns_at, commit_count_at}
use Rattle.records.specs.Words.{word, marked}
use Rattle.records.specs.Words.{blank}
use Rattle.records.specs.Records.{closed, send_held, echo_held, ready_held, est_held, aux_held, finish_held, commit_count, commit_set}
use Rattle.commits.specs.Commits.{commit_held, same_set, set_holders, set_leads, set_leader}
use Rattle.commits.specs.laws.Sets.{set_same}
use Rattle.acts.specs.Acts.{is_due, or_act}
use Rattle.acts.specs.declared.Act.TheVariants.{InForce}
use Rattle.session.specs.Session.{numbered}
use Rattle.opening.specs.Given.{coins_given}
use Rattle.opening.specs.Opening.{open_answer, open_words, opened}
use Rattle.opening.specs.laws.Opening.{first_zero, first_session, first_flags, first_boxed}
use Rattle.turn.specs.Due.{in_force_rule, due}
use Rattle.turn.specs.Turn.{applied}
use Rattle.calls.specs.Machine.{words}
use Rattle.turn_bound.proofs.laws.Opened.{opened_sound}
use Rattle.turn_bound.proofs.laws.Sound.{sound_bound}
use Rattle.turn_bound.proofs.laws.Turning.{turn_sound}
use Rattle.held.specs.laws.Held.{Message, SEND, ECHO, READY, EST, AUX, COMMIT, FINISH, Numbered, holds}
use Rattle.opening.specs.laws.Ones.{ones_word_lem}
use Rattle.costliest.specs.Calls.{Calls, coin_words, opens, packs, each, turns, commit, heard, acted, costly, costliest_calls}
use Rattle.costliest.specs.Statement.{Costliest}
use Rattle.costliest.proofs.laws.Words.{after, turn_after}
use Rattle.costliest.proofs.laws.Session.{takes}
use Rattle.costliest.proofs.laws.Saying.{settings, terms, Allowed, Good, ruled}
use Rattle.costliest.proofs.laws.Hearing.{Brings, Prepared, heard_ready, commits_bringing}
use Rattle.costliest.proofs.laws.Idle.{idle_count}
use Rattle.costliest.proofs.laws.Acting.{turn_words_lem, turn_acts, Turning, turns_turning}
use Rattle.settings.specs.laws.Answers.{taken_true}

-- ---- the opening

length_coins : (n : ℕ) → length (coin_words n) ≡ n
unfolding coin_words
length_coins zero = refl
length_coins (suc n) = ap suc (length_coins n)

module _ (n : ℕ) (two : 2 ≤ n) (low : 1 ≤ n) (few : n ≤ 16) (s : List ℕ) (size : length s ≡ 2048) where
  accepted : open_answer (length s) (opens n) ≡ Ok tt
  unfolding opens open_answer coins_given named_ta numbered version_known
  accepted =
      rw (
        ones_word_lem n low few,
        size,
        rules_valid n 0 0 (2 ^ n - 1) (ruled n 1 low few),
        le-leb 1 n low,
        le-leb n 16 few,
        length_coins n,
        eq-eqb n n refl,
      )

  abbrev first : List ℕ
  first = opened s (opens n)

  first_is : first ≡ open_words (opens n)
  unfolding opened
  first_is = rw (taken_true (open_answer (length s) (opens n)) accepted)

  zero_at : (k : ℕ) → 24 ≤ k → (k ≤ 143 → k < 141) → word first k ≡ 0
  unfolding opens
  zero_at k l ne = rw first_is (first_zero (opens n) few k l ne)

  no_mark : (k q : ℕ) → 24 ≤ k → (k ≤ 143 → k < 141) → marked first k q ≡ true → ⊥
  unfolding marked
  no_mark k q l ne e = true≢false (sym e ∙ ap (λ (w : ℕ). mark w q) (zero_at k l ne) ∙ mark_zero q)

  no_set : (p : ℕ) → p ≤ 16 → commit_held first p ≡ true → ⊥
  unfolding commit_held commit_count
  no_set p hi e = true≢false (sym e ∙ rw (zero_at (commit_count_at p) (omega arith) (λ z. omega arith)))

  none_held : (k : ℕ) (y : Message) → k ≤ 16 → holds first k y → ⊥
  unfolding send_held echo_held ready_held est_held aux_held finish_held
  none_held k (SEND v) hi h = no_mark _ k (omega arith) (λ z. omega arith) h.there
  none_held k (ECHO i v) hi h = no_mark _ k (omega arith) (λ z. omega (arith, h.instance.high)) h.there
  none_held k (READY i v) hi h = no_mark _ k (omega arith) (λ z. omega (arith, h.instance.high)) h.there
  none_held k (EST i r b) hi h = no_mark _ _ (omega arith) (λ z. omega arith) h.there
  none_held k (AUX i r b) hi h = no_mark _ _ (omega arith) (λ z. omega arith) h.there
  none_held k (COMMIT X) hi h = no_set k hi h.there
  none_held k (FINISH i b) hi h = no_mark _ _ (omega arith) (λ z. omega (arith, h.instance.low)) h.there

  first_good : Good n 1 first
  unfolding closed marked named_ta opens
  first_good =
      record {
        sound = rw (ones_word_lem n low few) at (opened_sound s (opens n) accepted);
        session = rw first_is (first_session (opens n));
        printed = rw first_is (first_boxed (opens n) few);
        unclosed = rw first_is (ap (λ (w : ℕ). mark w 1) (first_flags (opens n)) ∙ mark_zero 1);
        allowed = λ k y num h. absurd (none_held k y num.high h);
      }

  -- ---- all turns but the last

  prepared : Prepared n low few first (after first (heard n))
  unfolding words
  prepared = heard_ready n low few first first_good

  turning : Turning n two low few first (word (after first (heard n)) turns_at) (99 * n + 2) (after first (acted n))
  unfolding acted
  turning = turns_turning n two low few first (99 * n + 2) (heard n) prepared

  -- not one fewer
  enough : 99 * n + 2 ≤ word (after first (acted n)) turns_at
  enough = of turning.acted
    where
      of : (word (after first (acted n)) turns_at ≡ word (after first (heard n)) turns_at + (99 * n + 2)) ⊎ (is_due (due (settings n) (after first (acted n))) ≡ false) → 99 * n + 2 ≤ word (after first (acted n)) turns_at
      of (inl e) = omega arith
      of (inr e) = idle_count n two few low first (after first (acted n)) turning.ready.good turning.ready.all e

  -- ---- the last

  abbrev last : Calls
  last = each (λ p. commit n (p + 1)) (n - 1) (acted n)

  -- COMMITs of all are welcome from here on
  widened : Good n n (after first (acted n))
  widened = of turning.ready.good
    where
      wide : (k : ℕ) (y : Message) → Numbered k → holds (after first (acted n)) k y → Allowed n 1 k y → Allowed n n k y
      wide k (SEND v) num h a = tt
      wide k (ECHO i v) num h a = tt
      wide k (READY i v) num h a = a
      wide k (EST i r b) num h a = tt
      wide k (AUX i r b) num h a = a
      wide k (COMMIT X) num h a = (a.0, omega (arith, a.1))
      wide k (FINISH i b) num h a = a

      of : Good n 1 (after first (acted n)) → Good n n (after first (acted n))
      of x = record { sound = x.sound; session = x.session; printed = x.printed; unclosed = x.unclosed; allowed = λ k y num h. wide k y num h (x.allowed k y num h) }

  brings : Brings n low few first n (λ t. (p : ℕ) → 1 ≤ p → p ≤ n - 1 → commit_held t (p + 1) ≡ true) (each (λ p. commit n (p + 1)) (n - 1)) (acted n)
  brings = commits_bringing n low few first (acted n) widened

  good : Good n n (after first last)
  good = brings.good

  all_committed : (p : ℕ) → 1 ≤ p → p ≤ n → commit_held (after first last) p ≡ true
  all_committed p lo hi = at (ℕ_discrete p 1)
    where
      at : Dec (p ≡ 1) → commit_held (after first last) p ≡ true
      at (yes e) = rw e (brings.keeps.commits 1 (omega arith) (omega arith) turning.ready.all.committed)
      at (no ne) = let e : p - 1 + 1 ≡ p = omega arith in subst (λ (q : ℕ). commit_held (after first last) q ≡ true) e (brings.fact (p - 1) (omega arith) (omega arith))

  set_of_lem : (p : ℕ) → 1 ≤ p → p ≤ n → commit_set (after first last) p ≡ take n packs
  set_of_lem p lo hi =
      (good.allowed p (COMMIT (commit_set (after first last) p)) (record { low = lo; high = omega arith }) (record { there = all_committed p lo hi; same = refl })).0

  leads : set_leads (settings n) (after first last) n 1 ≡ true
  unfolding set_leads set_holders
  leads =
      and_both (commit_held (after first last) 1) _ (all_committed 1 (omega arith) low)
      (le-leb n (set_holders (settings n) (after first last) 1) (omega (
        arith,
        ones_count n (λ q. commit_held (after first last) q && same_set (after first last) 1 q) few ∙ all_count (λ q. commit_held (after first last) q && same_set (after first last) 1 q) n
            (λ q lo hi. and_both (commit_held (after first last) q) (same_set (after first last) 1 q) (all_committed q lo hi)
            (set_same (after first last) 1 q good.sound.size (omega arith) (omega arith) (set_of_lem q lo hi ∙ sym (set_of_lem 1 (omega arith) low)))),
      )))

  quorum_all : quorum (settings n) ≡ n
  unfolding quorum
  quorum_all = omega (arith, ones_whole n few)

  leader : set_leader (settings n) (after first last) n ≢ 0
  unfolding set_leader
  leader z = true≢false (sym leads ∙ lowest_none (set_leads (settings n) (after first last) n) n z 1 (omega arith) low)

  rule : in_force_rule (settings n) (after first last) ≡ InForce
  unfolding in_force_rule
  rule = rw (quorum_all, ne_eqb (set_leader (settings n) (after first last) n) 0 leader)

  by_in_force : is_due (due (settings n) (after first last)) ≡ true
  unfolding due or_act
  by_in_force = rw rule

  exactly : word (after first (costly n)) turns_at ≡ 99 * n + 3
  unfolding costly turns each
  exactly =
      let a : word (after first last) turns_at ≡ word (after first (acted n)) turns_at = brings.count in
      let same : after first (costly n) ≡ applied (after first last) (due (settings n) (after first last)) = turn_after first (blank 140) last ∙ turn_words_lem n n low few (after first last) good in
      let one = turn_acts n n low few (after first last) good by_in_force in
      let final : word (after first (costly n)) turns_at ≡ word (after first last) turns_at + 1 = ap (λ (t : List ℕ). word t turns_at) same ∙ one in
      let sound = (turn_sound (terms n) (ruled n n low few) (after first last) good.sound (blank 140)).sound in
      let most = sound_bound (terms n) (ruled n n low few) _ (rw (← turn_after first (blank 140) last) at sound) in
      omega (arith, a, enough, final, most, first_bound (settings n))

pub costliest : Costliest
unfolding Costliest costliest_calls
costliest n two few start size =
    let low : 1 ≤ n = omega arith in
    let taken = accepted n two low few (start 1) size in
    takes n start taken (99 * n + 3) (rw (ne_eqb n 1 (λ e. omega arith)) (exactly n two low few (start 1) size))
