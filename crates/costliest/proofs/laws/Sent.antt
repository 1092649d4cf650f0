-- Each act sends one message, but the move out of round 32 and the closing; a message has 20 bytes, but for the COMMIT.
use Prim.Native.Nat.{ℕ, zero, suc, ◌+◌, ◌*◌, ◌-◌, ◌≤◌, ◌<◌}
use Rattle.std.specs.Prelude.{Bool, true, false, ◌≢◌, ◌≡◌, eqb, Ok}
use Rattle.std.proofs.Common.{true≢false, inl, sym, subst, ◌∙◌, ne_eqb, lt-ltb, le-ltb}
use mathlib.Core.List.{List}
use Rattle.std.proofs.Math.Path.{refl, ap}
use native.Mathlib.Omega.{arith}
use Rattle.std.proofs.Math.Decide.{dec_lt, ℕ_discrete}
use Rattle.std.proofs.Math.ListN.{length}
use Rattle.settings.specs.Rules.{Ruled}
use Rattle.settings.specs.declared.Settings.{Settings}
use Rattle.quorum.specs.Marks.{mark, with_mark}
use Rattle.quorum.specs.laws.Marks.{mark_other}
use Rattle.quorum.specs.Total.{share, total, count, everyone}
use Rattle.quorum.specs.laws.Total.{count_le}
use Rattle.records.specs.Layout.{turns_at, flags_at, round_at, est_sent_at, aux_sent_at}
use Rattle.records.specs.Words.{word, marked}
use Rattle.records.specs.Records.{closed, commit_sent, commit_count}
use Rattle.commits.specs.laws.Sets.{set_length}
use Rattle.exits.proofs.laws.Exits.{names_few}
use Rattle.exits.specs.Exits.{exit_now}
use Rattle.broadcasts.specs.Broadcasts.{output}
use Rattle.records.specs.Records.{decided_zero, decided_one}
use Rattle.acts.specs.Acts.{is_due}
use Rattle.acts.specs.declared.Act.{Act}
use Rattle.acts.specs.declared.Act.TheVariants.{Idle, InForce, Commit, Send, Echo, Ready, Start, Relay, Aux, Move, Finish}
use Rattle.turn.specs.laws.Told.{ActTold, CommitTold, Rests, on_exit, on_copies}
use Rattle.turn.specs.Due.{due}
use Rattle.turn.specs.Turn.{outcome_of, move_outcome, sent_length, applied, turn_outcome, turn_words}
use Rattle.turn.specs.Turn as turn_specs
use Rattle.turn.proofs.laws.Frame.{Spared, told_placed, applied_idle, applied_other, applied_turns}
use Rattle.turn.proofs.laws.Marks.{closed_marked, commit_marked}
use Rattle.turn.specs.laws.Admitting.{admitted_settings}
use Rattle.turn.specs.laws.Turn.{Way, refused, taken, way}
use Rattle.turn.specs.declared.Outcome.{Outcome}
use Rattle.turn.specs.declared.Outcome.TheVariants as outcome
use Rattle.wire.specs.declared.Message.TheVariants as message
use Rattle.acts.specs.declared.View.{View}
use Rattle.delivery.specs.Delivery.{delivered}
use Rattle.recording.specs.Recording.{recorded_words}
use Rattle.turn_bound.proofs.laws.Sums.{share_few, sum_grows, sum_one}
use Rattle.turn_bound.proofs.laws.Potential.{instance_part, potential}
use Rattle.turn_bound.proofs.laws.Rounds.{Entry}
use Rattle.turn_bound.proofs.laws.Raising.{counted_mark, start_entry, move_entry, move_bit}
use Rattle.turn_bound.specs.TurnBound.{Terms}
use Rattle.turn_bound.proofs.laws.Finishes.{measure, finishes_few}
use Rattle.turn_bound.proofs.laws.Sound.{Sound, same_settings}
use Rattle.turn_bound.proofs.laws.Delivering.{Delivered, delivery_sound}
use Rattle.turn_bound.proofs.laws.Recorded.{Recorded, recording_sound}
use Rattle.turn_bound.proofs.laws.Count.{Going}
use Rattle.costliest.specs.Statement.{sent_one, most_finishes}

-- ---- acts that send nothing

-- vote i has moved out of round 32
abbrev out : List ℕ → ℕ → ℕ
out s i = share (eqb (word s (round_at i)) 33) 1

-- the acts so far that sent nothing: these, and the closing
unfoldable without_message : ℕ → List ℕ → ℕ
without_message n s = share (closed s) 1 + total (out s) everyone n

-- what a COMMIT of n values has beyond 20 bytes, once one is sent
unfoldable longer : ℕ → List ℕ → ℕ
longer n s = share (commit_sent s) (8 * n - 8)

longer_few : (n : ℕ) (s : List ℕ) → longer n s ≤ 8 * n - 8
unfolding longer
longer_few n s = of (commit_sent s)
  where
    of : (b : Bool) → share b (8 * n - 8) ≤ 8 * n - 8
    of true = omega arith
    of false = omega arith

module _ (s : List ℕ) where
  part_few : (i : ℕ) → instance_part s i ≤ out s i + 98
  unfolding instance_part
  part_few i =
      omega (
        arith,
        share_few (mark (word s 136) i),
        share_few (mark (word s 137) i),
        count_le (mark (word s (est_sent_at i))) 64,
        count_le (mark (word s (aux_sent_at i))) 32,
      )

  parts_few : (n : ℕ) → total (instance_part s) everyone n ≤ total (out s) everyone n + 98 * n
  unfolding total
  parts_few zero = omega arith
  parts_few (suc n) = omega (arith, parts_few n, part_few (suc n))

  flags_few : count (mark (word s flags_at)) 3 ≤ share (mark (word s flags_at) 1) 1 + 2
  unfolding total
  flags_few = omega (arith, share_few (mark (word s flags_at) 2), share_few (mark (word s flags_at) 3))

  -- all acts but those send at most 98·n+2 messages
  potential_sent : (n : ℕ) → potential n s ≤ without_message n s + (98 * n + 2)
  unfolding potential without_message closed marked
  potential_sent n = omega (arith, flags_few, parts_few n)

  flags_some : share (mark (word s flags_at) 1) 1 ≤ count (mark (word s flags_at)) 3
  unfolding total
  flags_some = omega arith

  part_some : (i : ℕ) → out s i ≤ instance_part s i
  unfolding instance_part
  part_some i = omega arith

  without_potential : (n : ℕ) → without_message n s ≤ potential n s
  unfolding potential without_message closed marked
  without_potential n = omega (arith, flags_some, sum_grows (out s) (instance_part s) n (λ i lo hi. part_some i))

-- ---- votes that move out of round 32

module _ (n : ℕ) (few : n ≤ 16) (s t : List ℕ) where
  same_out : (i : ℕ) → word t (round_at i) ≡ word s (round_at i) → out t i ≤ out s i
  same_out i e = rw e (omega arith)

  -- none does where no round changes
  staying : ((j : ℕ) → 1 ≤ j → j ≤ n → word t (round_at j) ≡ word s (round_at j)) → total (out t) everyone n ≤ total (out s) everyone n
  staying same = sum_grows (out t) (out s) n (λ j lo hi. same_out j (same j lo hi))

  -- nor where a vote enters a round up to 32
  entering : (i r b : ℕ) → Entry i r b s t → r < 32 → total (out t) everyone n ≤ total (out s) everyone n
  entering i r b x l = sum_grows (out t) (out s) n (λ j lo hi. at j lo hi (ℕ_discrete j i))
    where
      at : (j : ℕ) → 1 ≤ j → j ≤ n → Dec (j ≡ i) → out t j ≤ out s j
      at j lo hi (no ne) = same_out j (x.rounds j lo (omega arith) ne)
      at j lo hi (yes e) =
          let enters : word t (round_at j) ≡ r + 1 = rw e x.enters in
          rw (ne_eqb (word t (round_at j)) 33 (λ z. omega arith)) (omega arith)

  -- one does at most
  leaving : (i r b : ℕ) → Entry i r b s t → total (out t) everyone n ≤ total (out s) everyone n + 1
  leaving i r b x =
      sum_one (out s) (out t) n i (λ j lo hi ne. same_out j (x.rounds j lo (omega arith) ne))
      (λ lo hi. omega (arith, share_few (eqb (word t (round_at i)) 33)))

-- ---- an act

-- what an act sends, by its outcome y, from the words s to t
record ActSends (n : ℕ) (y : Outcome) (s t : List ℕ) : Type 0 where
  one : sent_one (Ok y) + without_message n t ≤ without_message n s + 1
  size : sent_length (Ok y) + 20 * without_message n t + longer n s ≤ 20 * without_message n s + 20 + longer n t

module _ (n : ℕ) (s t : List ℕ) where
  abbrev Stay : ℕ → Type 0
  Stay p = mark (word t 7) p ≡ mark (word s 7) p

  -- one message of 20 bytes
  one_message : (y : Outcome) → sent_one (Ok y) ≡ 1 → sent_length (Ok y) ≡ 20 → Stay 1 → Stay 3 → total (out t) everyone n ≤ total (out s) everyone n → ActSends n y s t
  unfolding without_message longer closed commit_sent marked
  one_message y a b c d o = record { one = rw (c, a) (omega arith); size = rw (c, d, b) (omega arith) }

  -- the COMMIT, of at most n values
  committing : (k : ℕ) → 1 ≤ k → k ≤ n → Stay 1 → mark (word s 7) 3 ≡ false → mark (word t 7) 3 ≡ true → total (out t) everyone n ≤ total (out s) everyone n → ActSends n (outcome.Sent (message.Commit k)) s t
  unfolding without_message longer closed commit_sent marked
  committing k lo hi c a b o = record { one = rw c (omega arith); size = rw (c, a, b) (omega arith) }

  -- no message
  closing : mark (word s 7) 1 ≡ false → mark (word t 7) 1 ≡ true → Stay 3 → total (out t) everyone n ≤ total (out s) everyone n → ActSends n outcome.InForce s t
  unfolding without_message longer closed commit_sent marked
  closing a b d o = record { one = rw (a, b) (omega arith); size = rw (a, b, d) (omega arith) }

  moving_out : Stay 1 → Stay 3 → total (out t) everyone n ≤ total (out s) everyone n + 1 → ActSends n outcome.MovedOut s t
  unfolding without_message longer closed commit_sent marked
  moving_out c d o = record { one = rw c (omega arith); size = rw (c, d) (omega arith) }

  other_mark_lem : (p q : ℕ) → q ≢ p → word t 7 ≡ with_mark (word s 7) p → Stay q
  other_mark_lem p q ne e = ap (λ (w : ℕ). mark w q) e ∙ mark_other (word s 7) p q ne

  same_mark : (q : ℕ) → word t 7 ≡ word s 7 → Stay q
  same_mark q e = ap (λ (w : ℕ). mark w q) e

module _ (k : Terms) (ruled : Ruled k.settings) (own : ℕ) (s : List ℕ) (h : Sound k s) (unclosed : closed s ≡ false) where
  abbrev g : Settings
  g = k.settings

  abbrev n : ℕ
  n = g.n

  commit_few : (k : ℕ) → CommitTold g s k → k ≤ n
  unfolding exit_now commit_count
  commit_few k c = of c.rests
    where
      of : Rests g s → k ≤ g.n
      of (on_exit ne same) = omega (arith, c.sized, ap (λ (xs : List ℕ). length xs) same, names_few g (output g s) (decided_zero s) (decided_one s))
      of (on_copies p x same) =
          let small : p ≤ 16 = omega (arith, x.high, ruled.few) in
          omega (arith, c.sized, ap (λ (xs : List ℕ). length xs) same, set_length s p h.size small, h.counts p x.low x.high)

  still_votes : (a : Act) → ((j : ℕ) → 1 ≤ j → j ≤ n → Spared a (round_at j)) → total (out (applied s a)) everyone n ≤ total (out s) everyone n
  still_votes a h = staying n ruled.few s (applied s a) (λ j lo hi. applied_other s a (round_at j) (λ z. omega arith) (h j lo hi))

  -- an act that writes no flag, with one message of 20 bytes
  voting : (a : Act) (y : Outcome) → sent_one (Ok y) ≡ 1 → sent_length (Ok y) ≡ 20 → Spared a 7 → total (out (applied s a)) everyone n ≤ total (out s) everyone n → ActSends n y s (applied s a)
  voting a y b c e o =
      let same : word (applied s a) 7 ≡ word s 7 = applied_other s a 7 (λ z. omega arith) e in
      one_message n s (applied s a) y b c (same_mark n s (applied s a) 1 same) (same_mark n s (applied s a) 3 same) o

  moving : (i r : ℕ) (v : View) → ActTold g s (Move i r v) → Dec (r < 32) → ActSends n (move_outcome s i r v) s (applied s (Move i r v))
  unfolding move_outcome
  moving i r v t (yes l) =
      rw (lt-ltb r 32 l)
      (voting (Move i r v) _ refl refl (λ z. omega arith, λ z. omega arith, λ z. omega arith, λ z. omega arith)
      (entering n ruled.few s (applied s (Move i r v)) i r (move_bit s h.size g ruled i r v) (move_entry s h.size g ruled i r v t (yes l)) l))
  moving i r v t (no l) =
      let same : word (applied s (Move i r v)) 7 ≡ word s 7 = applied_other s (Move i r v) 7 (λ z. omega arith) (λ z. omega arith, λ z. omega arith, λ z. omega arith, λ z. omega arith) in
      rw (le-ltb r 32 (omega arith))
      (moving_out n s (applied s (Move i r v)) (same_mark n s (applied s (Move i r v)) 1 same) (same_mark n s (applied s (Move i r v)) 3 same)
      (leaving n ruled.few s (applied s (Move i r v)) i r (move_bit s h.size g ruled i r v) (move_entry s h.size g ruled i r v t (no l))))

  flag : (a : Act) (p : ℕ) → word (applied s a) 7 ≡ with_mark (word s 7) p → (q : ℕ) → q ≢ p → mark (word (applied s a) 7) q ≡ mark (word s 7) q
  flag a p e q ne = other_mark_lem n s (applied s a) p q ne e

  act_sends : (a : Act) → is_due a ≡ true → ActTold g s a → ActSends n (outcome_of own s a) s (applied s a)
  unfolding outcome_of applied turn_specs.done closed commit_sent marked
  act_sends Idle d t = absurd (true≢false (sym d))
  act_sends InForce d t =
      closing n s (applied s InForce) unclosed (closed_marked s h.size)
      (flag InForce 1 (counted_mark s h.size 7 1 (omega arith) (λ z. omega arith)) 3 (λ z. omega arith))
      (still_votes InForce (λ j lo hi z. omega arith))
  act_sends (Commit k) d t =
      committing n s (applied s (Commit k)) k t.some (commit_few k t)
      (flag (Commit k) 3 (counted_mark s h.size 7 3 (omega arith) (λ z. omega arith)) 1 (λ z. omega arith))
      t.unsent (commit_marked s h.size k)
      (still_votes (Commit k) (λ j lo hi z. omega arith))
  act_sends (Send v) d t =
      one_message n s (applied s (Send v)) _ refl refl
      (flag (Send v) 2 (counted_mark s h.size 7 2 (omega arith) (λ z. omega arith)) 1 (λ z. omega arith))
      (flag (Send v) 2 (counted_mark s h.size 7 2 (omega arith) (λ z. omega arith)) 3 (λ z. omega arith))
      (still_votes (Send v) (λ j lo hi z. omega arith))
  act_sends (Echo i v) d t = voting (Echo i v) _ refl refl (λ z. omega arith) (still_votes (Echo i v) (λ j lo hi z. omega (arith, ruled.few)))
  act_sends (Ready i v) d t = voting (Ready i v) _ refl refl (λ z. omega arith) (still_votes (Ready i v) (λ j lo hi z. omega (arith, ruled.few)))
  act_sends (Start i b) d t =
      voting (Start i b) _ refl refl (λ z. omega arith, λ z. omega arith)
      (entering n ruled.few s (applied s (Start i b)) i 0 b (start_entry s h.size g ruled i b t) (omega arith))
  act_sends (Relay i r b) d t = voting (Relay i r b) _ refl refl (λ z. omega arith) (still_votes (Relay i r b) (λ j lo hi z. omega (arith, ruled.few, t.0.low)))
  act_sends (Aux i r b) d t = voting (Aux i r b) _ refl refl (λ z. omega arith) (still_votes (Aux i r b) (λ j lo hi z. omega (arith, ruled.few, t.0.low)))
  act_sends (Move i r v) d t = moving i r v t (dec_lt r 32)
  act_sends (Finish i b) d t = voting (Finish i b) _ refl refl (λ z. omega arith) (still_votes (Finish i b) (λ j lo hi z. omega (arith, ruled.few)))

-- ---- a call

-- m messages of b bytes are no more than the turns that are counted in w could send
pub record SentWithin (n : ℕ) (w : List ℕ) (m b : ℕ) : Type 0 where
  messages : m + without_message n w ≤ word w turns_at
  bytes : b + 20 * without_message n w ≤ 20 * word w turns_at + longer n w

-- words that agree in flags, rounds and count
within_same : (n : ℕ) → n ≤ 16 → (s t : List ℕ) (m b : ℕ) → word t flags_at ≡ word s flags_at → word t turns_at ≡ word s turns_at → ((j : ℕ) → 1 ≤ j → j ≤ n → word t (round_at j) ≡ word s (round_at j)) → SentWithin n s m b → SentWithin n t m b
unfolding without_message longer closed commit_sent marked
within_same n few s t m b f e r x =
    let o = staying n few s t r in
    record { messages = rw f (omega (arith, x.messages)); bytes = rw f (omega (arith, x.bytes)) }

-- nothing is sent where nothing is due
idle_sends : (own : ℕ) (s : List ℕ) (a : Act) → is_due a ≡ false → (sent_one (Ok (outcome_of own s a)) ≡ 0) × (sent_length (Ok (outcome_of own s a)) ≡ 0)
unfolding outcome_of
idle_sends own s Idle e = (refl, refl)
idle_sends own s InForce e = absurd (true≢false e)
idle_sends own s (Commit k) e = absurd (true≢false e)
idle_sends own s (Send v) e = absurd (true≢false e)
idle_sends own s (Echo i v) e = absurd (true≢false e)
idle_sends own s (Ready i v) e = absurd (true≢false e)
idle_sends own s (Start i b) e = absurd (true≢false e)
idle_sends own s (Relay i r b) e = absurd (true≢false e)
idle_sends own s (Aux i r b) e = absurd (true≢false e)
idle_sends own s (Move i r v) e = absurd (true≢false e)
idle_sends own s (Finish i b) e = absurd (true≢false e)

module _ (k : Terms) (ruled : Ruled k.settings) (s : List ℕ) (h : Sound k s) (m b : ℕ) (x : SentWithin k.settings.n s m b) where
  abbrev given : Settings
  given = k.settings

  none_sent : SentWithin given.n s (0 + m) (0 + b)
  none_sent = record { messages = omega (arith, x.messages); bytes = omega (arith, x.bytes) }

  act_within : (own : ℕ) → closed s ≡ false → (a : Act) → ActTold given s a → (d : Bool) → is_due a ≡ d → SentWithin given.n (applied s a) (sent_one (Ok (outcome_of own s a)) + m) (sent_length (Ok (outcome_of own s a)) + b)
  act_within own unclosed a t true e =
      let p = act_sends k ruled own s h unclosed a e t in
      let count = applied_turns s a (told_placed given s ruled a t) (omega (arith, h.size)) e in
      record { messages = omega (arith, x.messages, p.one, count); bytes = omega (arith, x.bytes, p.size, count) }
  act_within own unclosed a t false e =
      let none = idle_sends own s a e in
      rw (applied_idle s a e, none.0, none.1) none_sent

  pub turn_within : (lent : List ℕ) → SentWithin given.n (turn_words s (length lent)) (sent_one (turn_outcome s (length lent)) + m) (sent_length (turn_outcome s (length lent)) + b)
  turn_within lent = of (way s lent)
    where
      of : Way s lent → SentWithin given.n (turn_words s (length lent)) (sent_one (turn_outcome s (length lent)) + m) (sent_length (turn_outcome s (length lent)) + b)
      of (refused j r) = rw (r.words, r.answer) none_sent
      of (taken y t) =
          let same : y.settings ≡ given = admitted_settings s (length lent) y t.admits ∙ same_settings k ruled s h in
          let told : ActTold given s (due y.settings s) = subst (λ (z : Settings). ActTold z s (due y.settings s)) same t.told in
          rw (t.words, t.answer) (act_within y.own t.admits.unclosed (due y.settings s) told (is_due (due y.settings s)) refl)

  pub delivery_within : (link : ℕ) (bytes : List ℕ) → SentWithin given.n (delivered s link bytes) m b
  delivery_within link bytes = of (delivery_sound k ruled s h link bytes)
    where
      of : Delivered k s (delivered s link bytes) → SentWithin given.n (delivered s link bytes) m b
      of y = within_same given.n ruled.few s (delivered s link bytes) m b (y.same flags_at (inl (omega arith))) y.count (λ j lo hi. y.same (round_at j) (inl (omega (arith, ruled.few)))) x

  pub recording_within : (i r bit : ℕ) → SentWithin given.n (recorded_words s i r bit) m b
  recording_within i r bit = of (recording_sound k ruled s h i r bit)
    where
      of : Recorded k s (recorded_words s i r bit) → SentWithin given.n (recorded_words s i r bit) m b
      of y = within_same given.n ruled.few s (recorded_words s i r bit) m b (y.same flags_at (λ z. omega arith)) y.count (λ j lo hi. y.same (round_at j) (λ z. omega arith)) x

-- nothing was sent yet
pub fresh_within : (k : Terms) (w : List ℕ) (c : ℕ) → Going k w c → SentWithin k.settings.n w 0 0
unfolding measure
fresh_within k w c y =
    let few = without_potential w k.settings.n in
    record { messages = omega (arith, y.sound.turns, few); bytes = omega (arith, y.sound.turns, few) }

pub few_sent : (k : Terms) (w : List ℕ) (c m b : ℕ) → Going k w c → SentWithin k.settings.n w m b →
    (m ≤ 98 * k.settings.n + 2 + most_finishes k) × (b ≤ 1968 * k.settings.n + 32 + 20 * most_finishes k)
unfolding measure most_finishes
few_sent k w c m b y x =
    let finishes = finishes_few k.version k.settings.n w y.sound.sent in (
      omega (arith, x.messages, y.sound.turns, potential_sent w k.settings.n, finishes),
      omega (arith, x.bytes, y.sound.turns, potential_sent w k.settings.n, longer_few k.settings.n w, y.ruled.some, finishes),
    )
