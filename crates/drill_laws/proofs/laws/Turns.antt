-- A turn keeps the memory sound, and what it sends is stored.
use Prim.Native.Nat.{ℕ, ◌+◌, ◌*◌, ◌≤◌, ◌<◌}
use Rattle.std.specs.Prelude.{Bool, cond, ◌≡◌, drop, ltb, Result, Ok, Err}
use Rattle.std.proofs.Math.Bool.{true, false}
use Rattle.std.proofs.lemmas.Bool.{false≢true, lt-leb}
use mathlib.Core.List.{List}
use Rattle.std.proofs.Math.Path.{refl, ap}
use Rattle.std.proofs.Common.{sym, ◌∙◌, arith, lt-ltb, le-ltb}
use Rattle.std.proofs.Math.Decide.{dec_le}
use Rattle.std.proofs.Math.ListN.{length, length-append, length-drop}
use Rattle.settings.specs.Versions.{turn_bound}
use Rattle.settings.specs.laws.Versions.{first_bound}
use Rattle.records.specs.Records.{version}
use Rattle.records.specs.Layout.{n_at, turns_at, version_at}
use Rattle.records.specs.Words.{word}
use Rattle.acts.specs.Acts.{is_due}
use Rattle.acts.specs.declared.Act.{Act}
use Rattle.acts.specs.declared.Act.TheVariants.{Idle, InForce, Commit, Send, Echo, Ready, Start, Relay, Aux, Move, Finish}
use Rattle.session.specs.Session.{settings_of}
use Rattle.session.specs.declared.Session.{Session}
use Rattle.wire.specs.Message.{besides, length_of, encode, at_front}
use Rattle.wire.specs.declared.Message.{Message}
use Rattle.wire.specs.declared.Message.TheVariants as message
use Rattle.turn.specs.Due.{due, commit_due}
use Rattle.turn.specs.laws.Told.{ActTold}
use Rattle.turn.specs.Turn.{move_outcome, outcome_of, applied, bytes_after, turn_outcome, turn_words, turn_bytes}
use Rattle.wire.proofs.Laws.{length_encode}
use Rattle.turn.specs.laws.Admitting.{admitted_ruled}
use Rattle.turn.proofs.laws.Frame.{Placed, told_placed, setting, between, length_applied, applied_idle, applied_kept, applied_turns}
use Rattle.turn.specs.laws.Turn.{Taken, Way, refused, taken, way}
use Rattle.turn.specs.declared.Outcome.{Outcome}
use Rattle.turn.specs.declared.Outcome.TheVariants as outcome
use Rattle.drill_feeder.specs.Parts.{part, with_part, state_of, with_state, room_for, with_room}
use Rattle.drill_feeder.specs.Lines.{Memory, memory, more, message_counted, turned}
use Rattle.drill_feeder.specs.declared.Counts.{Counts}
use Rattle.drill_laws.proofs.laws.States.{length_state_of, length_part, length_with_part}
use Rattle.drill_laws.specs.Sound.{turns_of}
use Rattle.drill_laws.proofs.laws.Sound.{Sound, sum_lt, replaced}
use Rattle.settings.specs.declared.refusal.Refusal.{Refusal}

-- a turn leaves as many bytes as it was lent
module _ (x : Session) (s out : List ℕ) (room : 140 ≤ length out) where
  sent_length_lem : (k : Message) → besides k ≤ length (commit_due x.settings s) → length_of k ≤ 140 →
      length (at_front (encode k (version s) x.own x.number (commit_due x.settings s)) out) ≡ length out
  unfolding at_front
  sent_length_lem k b l =
      let e : List ℕ = encode k (version s) x.own x.number (commit_due x.settings s) in
      let n : length e ≡ length_of k = length_encode k (version s) x.own x.number (commit_due x.settings s) b in
      length-append e (drop (length e) out) ∙ omega (arith, n, length-drop (length e) out)

  bytes_length : (a : Act) → ActTold x.settings s a → length (bytes_after x s (outcome_of x.own s a) out) ≡ length out
  unfolding bytes_after outcome_of move_outcome
  bytes_length Idle t = refl
  bytes_length InForce t = refl
  bytes_length (Commit k) t = sent_length_lem (message.Commit k) (omega (arith, t.sized)) (omega (arith, t.few))
  bytes_length (Send v) t = sent_length_lem (message.Send x.own v) (omega arith) (omega arith)
  bytes_length (Echo i v) t = sent_length_lem (message.Echo i v) (omega arith) (omega arith)
  bytes_length (Ready i v) t = sent_length_lem (message.Ready i v) (omega arith) (omega arith)
  bytes_length (Start i b) t = sent_length_lem (message.Est i 1 b) (omega arith) (omega arith)
  bytes_length (Relay i r b) t = sent_length_lem (message.Est i r b) (omega arith) (omega arith)
  bytes_length (Aux i r b) t = sent_length_lem (message.Aux i r b) (omega arith) (omega arith)
  bytes_length (Finish i b) t = sent_length_lem (message.Finish i b) (omega arith) (omega arith)
  bytes_length (Move i r v) t = go (ltb r 32) _
    where
      go : (b : Bool) (e : ℕ) → length (bytes_after x s (cond b (outcome.Sent (message.Est i (r + 1) e)) outcome.MovedOut) out) ≡ length out
      go true e = sent_length_lem (message.Est i (r + 1) e) (omega arith) (omega arith)
      go false e = refl

length_room : (m b : List ℕ) (sent : ℕ) → length b ≡ length (room_for m sent) → length (with_room m sent b) ≡ length m
unfolding room_for with_room part with_part
length_room m b sent e = elim (dec_le (44 * sent + 140) (length m)) [
  | yes l ↦ length_with_part m (44 * sent) 140 l b (e ∙ length_part m (44 * sent) 140 l)
  | no l ↦ rw (lt-leb (44 * sent + 140) (length m) (omega arith))
]

-- the counts after a turn
pub counted_more : (o : Result Outcome Refusal) (c : Counts) → ((message_counted o c).sent ≤ c.sent + 1) × (c.sent ≤ (message_counted o c).sent) × ((message_counted o c).offered ≡ c.offered)
unfolding message_counted more
counted_more (Err k) c = (omega arith, omega arith, refl)
counted_more (Ok outcome.Idle) c = (omega arith, omega arith, refl)
counted_more (Ok (outcome.Sent k)) c = elim (dec_le 1600 c.sent) [
  | yes l ↦ rw (le-ltb c.sent 1600 l) (omega arith, omega arith, refl)
  | no l ↦ rw (lt-ltb c.sent 1600 (omega arith)) (omega arith, omega arith, refl)
]
counted_more (Ok outcome.MovedOut) c = (omega arith, omega arith, refl)
counted_more (Ok outcome.InForce) c = (omega arith, omega arith, refl)

idle_counts : (own : ℕ) (s : List ℕ) (a : Act) (c : Counts) → is_due a ≡ false → message_counted (Ok (outcome_of own s a)) c ≡ c
unfolding message_counted outcome_of
idle_counts own s Idle c e = refl
idle_counts own s InForce c e = absurd (false≢true (sym e))
idle_counts own s (Commit k) c e = absurd (false≢true (sym e))
idle_counts own s (Send v) c e = absurd (false≢true (sym e))
idle_counts own s (Echo i v) c e = absurd (false≢true (sym e))
idle_counts own s (Ready i v) c e = absurd (false≢true (sym e))
idle_counts own s (Start i b) c e = absurd (false≢true (sym e))
idle_counts own s (Relay i r b) c e = absurd (false≢true (sym e))
idle_counts own s (Aux i r b) c e = absurd (false≢true (sym e))
idle_counts own s (Finish i b) c e = absurd (false≢true (sym e))
idle_counts own s (Move i r v) c e = absurd (false≢true (sym e))

module _ (w m : List ℕ) (c : Counts) (p : ℕ) (lo : 1 ≤ p) (hi : p ≤ 4) (h : Sound w m c) where
  -- a session that takes a turn has counted fewer than 400
  turns_few : (out : List ℕ) (x : Session) → Taken (state_of w p) out x → turns_of w p < 400
  unfolding turns_of settings_of
  turns_few out x t =
      let s : List ℕ = state_of w p in
      let k = t.admits.state.known in
      let one : version s ≡ 1 = omega (arith, k.low, (h.few p lo hi).first) in
      let bound : turn_bound (version s) (settings_of s) ≡ 99 * word s n_at + 3 = ap (λ (v : ℕ). turn_bound v (settings_of s)) one ∙ first_bound (settings_of s) in
      omega (arith, t.admits.state.turns, (h.few p lo hi).small, bound)

  size : length (state_of w p) ≡ 2048
  size = length_state_of w p h.words lo hi

  -- the memory after an act that is due or not
  acted_sound : (x : Session) (a : Act) (b : List ℕ) → Placed a → turns_of w p < 400 → length b ≡ length (room_for m c.sent) → (d : Bool) → is_due a ≡ d →
      Sound (with_state w p (applied (state_of w p) a)) (with_room m c.sent b) (message_counted (Ok (outcome_of x.own (state_of w p) a)) c)
  unfolding turns_of
  acted_sound x a b l few e true f =
      let o : Result Outcome Refusal = Ok (outcome_of x.own (state_of w p) a) in
      let k = counted_more o c in
      let t : word (applied (state_of w p) a) turns_at ≡ word (state_of w p) turns_at + 1 = applied_turns (state_of w p) a l (omega (arith, size)) f in
      replaced w m (with_room m c.sent b) c (message_counted o c) p 1 lo hi h (applied (state_of w p) a)
      (length_applied (state_of w p) a ∙ size)
      (length_room m b c.sent e)
      (record {
        small = rw (applied_kept (state_of w p) a l 0 (setting (omega arith))) (h.few p lo hi).small;
        first = rw (applied_kept (state_of w p) a l version_at (between (omega arith) (omega arith))) (h.few p lo hi).first;
      })
      t
      (omega (arith, t))
      k.0
      (omega (arith, k.1, k.2, h.offered))
  acted_sound x a b l few e false f =
      let i : applied (state_of w p) a ≡ state_of w p = applied_idle (state_of w p) a f in
      rw (i, idle_counts x.own (state_of w p) a c f)
      (replaced w m (with_room m c.sent b) c c p 0 lo hi h (state_of w p)
      size
      (length_room m b c.sent e)
      (h.few p lo hi)
      (omega arith)
      (h.bound p lo hi)
      (omega arith)
      h.offered)

  after_way : Way (state_of w p) (room_for m c.sent) →
      Sound (with_state w p (turn_words (state_of w p) (length (room_for m c.sent)))) (with_room m c.sent (turn_bytes (state_of w p) (room_for m c.sent))) (message_counted (turn_outcome (state_of w p) (length (room_for m c.sent))) c)
  unfolding turns_of message_counted
  after_way (refused k r) =
      rw (r.words, r.bytes, r.answer)
      (replaced w m (with_room m c.sent (room_for m c.sent)) c c p 0 lo hi h (state_of w p)
      size
      (length_room m (room_for m c.sent) c.sent refl)
      (h.few p lo hi)
      (omega arith)
      (h.bound p lo hi)
      (omega arith)
      h.offered)
  after_way (taken x t) =
      let out : List ℕ = room_for m c.sent in
      let a : Act = due x.settings (state_of w p) in
      rw (t.words, t.bytes, t.answer)
      (acted_sound x a (bytes_after x (state_of w p) (outcome_of x.own (state_of w p) a) out)
      (told_placed x.settings (state_of w p) (admitted_ruled (state_of w p) (length out) x t.admits) a t.told)
      (turns_few out x t)
      (bytes_length x (state_of w p) out t.admits.long a t.told)
      (is_due a)
      refl)

  -- where a turn is taken, there is room for its message
  pub room_left : (out : List ℕ) (x : Session) → Taken (state_of w p) out x → c.sent < 1600
  room_left out x t = omega (arith, h.sent, sum_lt w p 4 lo hi h.bound (turns_few out x t))

-- what holds of the memory as a whole
abbrev pub SoundIn : Memory → Type 0
SoundIn (memory w m c) = Sound w m c

pub turned_sound : (x : Memory) (p : ℕ) → 1 ≤ p → p ≤ 4 → SoundIn x → SoundIn (turned p x)
unfolding turned
turned_sound (memory w m c) p lo hi h = after_way w m c p lo hi h (way (state_of w p) (room_for m c.sent))
