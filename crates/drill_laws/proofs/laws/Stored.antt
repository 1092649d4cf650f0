-- What a turn sends is stored at the next place, and the places before it stay.
use Prim.Native.Nat.{ℕ, ◌+◌, ◌*◌, ◌-◌, ◌≤◌, ◌<◌}
use Rattle.std.specs.Prelude.{Bool, cond, refl, get_or, take, ltb, Result, Ok, Err}
use Rattle.std.proofs.Math.Bool.{true, false}
use mathlib.Core.List.{List, ◌++◌}
use Rattle.std.proofs.Math.Path.{◌≡◌, sym, ap, subst}
use Rattle.std.proofs.Common.{◌∙◌, length-take, get_or-take, take-take}
use native.Mathlib.Omega.{arith}
use Rattle.std.proofs.Math.ListN.{length, drop, length-drop, length-append}
use Rattle.std.proofs.Math.Seq.{get_or-drop, take_at}
use borrow.Author.Tests.{lt-ltb, le-leb}
use Rattle.records.specs.Layout.{n_at, commit_count_at}
use Rattle.records.specs.Words.{word, blank}
use Rattle.records.specs.Records.{version, decided_zero, decided_one, commit_count, commit_set}
use Rattle.records.specs.laws.Fill.{length_blank}
use Rattle.acts.specs.declared.Act.{Act}
use Rattle.acts.specs.declared.Act.TheVariants.{Idle, InForce, Commit, Send, Echo, Ready, Start, Relay, Aux, Move, Finish}
use Rattle.session.specs.Session.{settings_of, session_with, session_of}
use Rattle.session.specs.declared.Session.{Session}
use Rattle.wire.specs.Message.{count_of, length_of, besides, header_for, front_bytes, header_bytes, message_bytes, encode, at_front}
use Rattle.wire.specs.declared.Message.{Message}
use Rattle.broadcasts.specs.Broadcasts.{output}
use Rattle.exits.specs.Exits.{exit_now}
use Rattle.exits.proofs.laws.Exits.{names_few}
use Rattle.turn.specs.Due.{due, commit_due}
use Rattle.turn.specs.laws.Told.{ActTold, Rests, on_exit, on_copies}
use Rattle.turn.specs.Turn.{move_outcome, outcome_of, bytes_after, turn_outcome, turn_bytes}
use Rattle.wire.proofs.Laws.{length_encode}
use Rattle.turn.specs.laws.Turn.{Taken, Way, refused, taken, way, same_outcome}
use Rattle.turn.specs.declared.Outcome.{Outcome}
use Rattle.drill_feeder.specs.Parts.{part, place_at, state_of, room_for, with_room, byte_at, message_at}
use Rattle.drill_feeder.specs.Lines.{more, message_counted}
use Rattle.drill_feeder.specs.declared.Counts.{Counts}
use Rattle.drill_laws.proofs.laws.States.{length_part, length_with_part, part_same, part_below}
use Rattle.drill_laws.proofs.laws.Sound.{Sound}
use Rattle.drill_laws.proofs.laws.Turns.{room_left}
use Rattle.drill_laws.specs.Stored.{Stored}
use Rattle.wire.specs.declared.Message.TheVariants as message
use Rattle.turn.specs.declared.Outcome.TheVariants as outcome
use Rattle.settings.specs.declared.refusal.Refusal.{Refusal}

module _ (w m : List ℕ) (c : Counts) (p : ℕ) (lo : 1 ≤ p) (hi : p ≤ 4) (h : Sound w m c) where
  -- a turn that would send, lent 140 bytes, finds them
  would_send : (k : Message) → turn_outcome (state_of w p) 140 ≡ Ok (outcome.Sent k) → c.sent < 1600
  would_send k e = go (way (state_of w p) (blank 140))
    where
      go : Way (state_of w p) (blank 140) → c.sent < 1600
      go (refused j r) =
          let f : turn_outcome (state_of w p) 140 ≡ Err j = ap (turn_outcome (state_of w p)) (sym (length_blank 140)) ∙ r.answer in
          absurd (let z : ◌≡◌ {A = ℕ} 0 1 = cc in omega arith)
      go (taken x t) = room_left w m c p lo hi h (blank 140) x t

  pub room_whole : c.sent < 1600 → length (room_for m c.sent) ≡ 140
  unfolding room_for
  room_whole l = length_part m (44 * c.sent) 140 (omega (arith, h.store))

  pub sent_counted : (k : Message) → c.sent < 1600 → (message_counted (Ok (outcome.Sent k)) c).sent ≡ c.sent + 1
  unfolding message_counted more
  sent_counted k l = rw (lt-ltb c.sent 1600 l)

-- with at most 4 concentrators a message has at most 44 bytes
module _ (x : Session) (s out : List ℕ) (t : Taken s out x) (few : word s n_at ≤ 4) where
  n_few : x.settings.n ≤ 4
  unfolding session_of session_with settings_of
  n_few = rw t.admits.same few

  n_same : x.settings.n ≡ word s n_at
  unfolding session_of session_with settings_of
  n_same = rw t.admits.same

  rests_few : Rests x.settings s → length (commit_due x.settings s) ≤ 4
  unfolding exit_now commit_set commit_count
  rests_few (on_exit ne e) =
      let l : length (exit_now x.settings s).names ≤ x.settings.n = names_few x.settings (output x.settings s) (decided_zero s) (decided_one s) in
      rw e (omega (arith, n_few))
  rests_few (on_copies q k e) =
      let l : word s (commit_count_at q) ≤ word s n_at = t.admits.state.counts q k.low (omega (arith, k.high, n_same)) in
      rw (e, length-take) (omega arith)

  -- the message of an outcome has at most 44 bytes, and its values are there
  Short : Outcome → Type 0
  Short outcome.Idle = Unit {0}
  Short (outcome.Sent k) = (length_of k ≤ 44) × (besides k ≤ length (commit_due x.settings s))
  Short outcome.MovedOut = Unit {0}
  Short outcome.InForce = Unit {0}

  act_short : (a : Act) → ActTold x.settings s a → Short (outcome_of x.own s a)
  unfolding Short outcome_of move_outcome
  act_short Idle e = tt
  act_short InForce e = tt
  act_short (Commit k) e = (omega (arith, e.sized, rests_few e.rests), omega (arith, e.sized))
  act_short (Send v) e = (omega arith, omega arith)
  act_short (Echo i v) e = (omega arith, omega arith)
  act_short (Ready i v) e = (omega arith, omega arith)
  act_short (Start i b) e = (omega arith, omega arith)
  act_short (Relay i r b) e = (omega arith, omega arith)
  act_short (Aux i r b) e = (omega arith, omega arith)
  act_short (Finish i b) e = (omega arith, omega arith)
  act_short (Move i r v) e = go (ltb r 32) _
    where
      go : (b : Bool) (d : ℕ) → Short (cond b (outcome.Sent (message.Est i (r + 1) d)) outcome.MovedOut)
      go true d = (omega arith, omega arith)
      go false d = tt

-- a part of a part, and a byte of it
module _ (l : List ℕ) (a k : ℕ) (h : a + k ≤ length l) where
  part_front : (j : ℕ) → j ≤ k → part l a j ≡ take j (part l a k)
  unfolding part
  part_front j f = rw (le-leb (a + j) (length l) (omega arith), le-leb (a + k) (length l) h) (sym (take-take j k (drop a l) f))

  byte_part : (i : ℕ) → i < k → byte_at l (a + i) ≡ get_or (part l a k) i 0
  unfolding byte_at part
  byte_part i f = rw (le-leb (a + k) (length l) h) (sym (get_or-take k (drop a l) i 0 f ∙ get_or-drop a l i 0))

count_byte : (k : Message) (v own session : ℕ) (xs rest : List ℕ) → get_or (encode k v own session xs ++ rest) 5 0 ≡ count_of k
unfolding encode message_bytes header_bytes header_for front_bytes
count_byte k v own session xs rest = refl

-- the bytes of a message at the next place
module _ (m b rest : List ℕ) (sent v own session : ℕ) (k : Message) (xs : List ℕ) (size : length m ≡ 70496) (few : sent < 1600)
    (values : besides k ≤ length xs) (short : length_of k ≤ 44) (e : b ≡ encode k v own session xs ++ rest) (long : length b ≡ 140) where
  stored_part : part (with_room m sent b) (44 * sent) 140 ≡ b
  unfolding with_room
  stored_part = part_same m (44 * sent) 140 (omega arith) b long

  stored_length : 44 * sent + 140 ≤ length (with_room m sent b)
  unfolding with_room
  stored_length = omega (arith, length_with_part m (44 * sent) 140 (omega arith) b long)

  stored_count : byte_at (with_room m sent b) (44 * sent + 5) ≡ count_of k
  stored_count =
      byte_part (with_room m sent b) (44 * sent) 140 stored_length 5 (omega arith)
      ∙ ap (λ (y : List ℕ). get_or y 5 0) (stored_part ∙ e)
      ∙ count_byte k v own session xs rest

  pub message_stored : message_at (with_room m sent b) (sent + 1) ≡ encode k v own session xs
  unfolding message_at
  message_stored =
      let z : sent + 1 - 1 ≡ sent = omega arith in
      let n : length (encode k v own session xs) ≡ length_of k = length_encode k v own session xs values in
      rw (z, stored_count)
      (part_front (with_room m sent b) (44 * sent) 140 stored_length (length_of k) (omega arith)
      ∙ ap (take (length_of k)) (stored_part ∙ e)
      ∙ take_at (encode k v own session xs) rest (length_of k) n)

  -- the 44 bytes of every place before it
  pub places_kept : (j : ℕ) → 1 ≤ j → j ≤ sent → part (with_room m sent b) (place_at j) 44 ≡ part m (place_at j) 44
  unfolding with_room
  places_kept j l g = part_below m (44 * sent) 140 (omega arith) b long (place_at j) 44 (omega arith)

module _ (w m : List ℕ) (c : Counts) (p : ℕ) (lo : 1 ≤ p) (hi : p ≤ 4) (h : Sound w m c) (k : Message) (e : turn_outcome (state_of w p) 140 ≡ Ok (outcome.Sent k)) where
  left : c.sent < 1600
  left = would_send w m c p lo hi h k e

  whole : length (room_for m c.sent) ≡ 140
  whole = room_whole w m c p lo hi h left

  answer : turn_outcome (state_of w p) (length (room_for m c.sent)) ≡ Ok (outcome.Sent k)
  answer = ap (turn_outcome (state_of w p)) whole ∙ e

  by_bytes : (x : Session) → x ≡ session_of (state_of w p) → length_of k ≤ 44 → besides k ≤ length (commit_due x.settings (state_of w p)) →
      turn_bytes (state_of w p) (room_for m c.sent)
      ≡ encode k (version (state_of w p)) x.own x.number (commit_due x.settings (state_of w p)) ++ drop (length (encode k (version (state_of w p)) x.own x.number (commit_due x.settings (state_of w p)))) (room_for m c.sent) →
      Stored w m c p k
  unfolding session_of session_with
  by_bytes x same short values b =
      let xs : List ℕ = commit_due x.settings (state_of w p) in
      let enc : List ℕ = encode k (version (state_of w p)) x.own x.number xs in
      let rest : List ℕ = drop (length enc) (room_for m c.sent) in
      let n : length enc ≡ length_of k = length_encode k (version (state_of w p)) x.own x.number xs values in
      let long : length (turn_bytes (state_of w p) (room_for m c.sent)) ≡ 140 = ap length b ∙ length-append enc rest ∙ omega (arith, n, length-drop (length enc) (room_for m c.sent), whole) in
      record {
        room = whole;
        counts = ap (λ (o : Result Outcome Refusal). (message_counted o c).sent) answer ∙ sent_counted w m c p lo hi h k left;
        bytes =
            message_stored m (turn_bytes (state_of w p) (room_for m c.sent)) rest c.sent (version (state_of w p)) x.own x.number k xs h.store left values short b long
            ∙ ap (λ (y : Session). encode k (version (state_of w p)) y.own y.number (commit_due y.settings (state_of w p))) same;
        places = places_kept m (turn_bytes (state_of w p) (room_for m c.sent)) rest c.sent (version (state_of w p)) x.own x.number k xs h.store left values short b long;
      }

  of_way : Way (state_of w p) (room_for m c.sent) → Stored w m c p k
  unfolding bytes_after at_front Short
  of_way (refused j r) = absurd (let f = r.answer in let g = answer in let z : ◌≡◌ {A = ℕ} 0 1 = cc in omega arith)
  of_way (taken x t) =
      let few : word (state_of w p) n_at ≤ 4 = (h.few p lo hi).small in
      let o : outcome_of x.own (state_of w p) (due x.settings (state_of w p)) ≡ outcome.Sent k = same_outcome _ _ (sym t.answer ∙ answer) in
      let short : Short x (state_of w p) (room_for m c.sent) t few (outcome.Sent k) =
      subst (λ (y : Outcome). Short x (state_of w p) (room_for m c.sent) t few y) o (act_short x (state_of w p) (room_for m c.sent) t few (due x.settings (state_of w p)) t.told) in
      by_bytes x t.admits.same short.0 short.1 (t.bytes ∙ rw o)

  pub stored : Stored w m c p k
  stored = of_way (way (state_of w p) (room_for m c.sent))
