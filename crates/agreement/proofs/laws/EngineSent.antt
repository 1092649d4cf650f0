-- The bytes that a turn of the engine sends say the message of its act.
use Prim.Native.Nat.{ℕ, zero, suc, ◌+◌, ◌*◌, ◌≤◌, ◌<◌, ◌^◌}
use Rattle.std.specs.Prelude.{Bool, ◌⊎◌, length, take, drop, Some, Option, None, Ok}
use Rattle.std.proofs.Math.Bool.{true, false, cond}
use mathlib.Core.List.{List, [], ◌∷◌, Memᴰ}
use Rattle.std.proofs.Common.{inl, inr, sym, subst, ◌∙◌, arith, take_all}
use Rattle.std.proofs.Math.Path.{◌≡◌, refl, ap}
use Rattle.std.proofs.Math.Dec.{ltb}
use Rattle.std.proofs.Math.Seq.{take_at}
use borrow.Author.Tests.{lt-ltb, ltb-true}
use Rattle.quorum.specs.laws.Bools.{and_both}
use Rattle.settings.specs.Settings.{quorum, repeat}
use Rattle.settings.specs.Versions.{finishing}
use Rattle.settings.specs.laws.Thresholds.{ruled_bounds, repeat_sum}
use Rattle.settings.specs.declared.Settings.{Settings}
use Rattle.records.specs.Records.{send_value, echo_held, echo_value, ready_held, ready_value, commit_count, commit_value, commit_set, decided_zero, decided_one}
use Rattle.records.specs.Records as records
use Rattle.records.specs.laws.Bounds.{Fit}
use Rattle.acts.specs.declared.Act as acts
use Rattle.acts.specs.declared.Act.TheVariants as act
use Rattle.acts.specs.declared.View.{View}
use Rattle.acts.specs.declared.View.TheVariants.{Only, Both}
use Rattle.broadcasts.specs.Leading.{holders}
use Rattle.broadcasts.specs.Broadcasts.{output}
use Rattle.broadcasts.specs.laws.Broadcasts.{holders_some, ready_rests, output_holders}
use Rattle.votes.specs.Votes.{estimate}
use Rattle.votes.specs.laws.Told.{MoveTold, Shown}
use Rattle.exits.specs.Exits.{Exit, outputs_of_s}
use Rattle.exits.specs.laws.Stated.{single_exit, outputs_exit}
use Rattle.exits.specs.Exits.{no_exit}
use Rattle.exits.specs.laws.Rising.{RisingFrom, Rising, outputs_from}
use Rattle.exits.proofs.laws.Ways.{Way, first, second, third, way}
use Rattle.exits.proofs.laws.Ways as ways
use Rattle.exits.proofs.laws.Exits.{names_rising, names_few}
use Rattle.exits.specs.Exits.{exit_now}
use Rattle.commits.specs.laws.Sets.{listed, set_listed, set_length}
use Rattle.wire.specs.Bytes.{rises_from, rises}
use Rattle.wire.specs.Message.{COMMIT, kind_of, last_kind, besides, length_of, values_of, encode, at_front}
use Rattle.wire.specs.laws.Kinds.{last_low, finish_last}
use Rattle.wire.specs.declared.Message as wire
use Rattle.wire.specs.declared.Message.TheVariants as message
use Rattle.wire.proofs.Laws.{length_encode}
use Rattle.wire_laws.specs.Proper.{Fitting, Layout, Proper}
use Rattle.wire_laws.specs.RoundTrip.{ReadBack}
use Rattle.wire_laws.proofs.RoundTrip.{round_trip}
use Rattle.session.specs.declared.Session.{Session}
use Rattle.opening.specs.Arguments.{settings_by}
use Rattle.turn.specs.Due.{due, commit_due}
use Rattle.turn.specs.Turn.{move_outcome, outcome_of, bytes_after, turn_outcome, turn_bytes}
use Rattle.turn.specs.laws.Told.{ActTold, Rests, on_exit, on_copies}
use Rattle.turn.specs.laws.Turn.{Taken, same_outcome}
use Rattle.turn.specs.declared.Outcome.{Outcome}
use Rattle.turn.specs.declared.Outcome.TheVariants as outcome
use Rattle.agreement.specs.Evidence.{World}
use Rattle.agreement.specs.History.{Act, commit, move}
use Rattle.held.specs.laws.Held.{Message, EST, meaning}
use Rattle.agreement.proofs.laws.Runs as runs
use Rattle.agreement.proofs.laws.Worlds.{world_with}
use Rattle.calls.specs.Engine.{OpeningGiven, agreed, Bytes, engine}
use Rattle.agreement.proofs.laws.EngineSeen.{engine_seen}
use Rattle.agreement.proofs.laws.EngineLent.{SendsPlain}
use Rattle.agreement.proofs.laws.EngineReading.{Belongs, Sets, shown_act, Says}
use Rattle.agreement.proofs.laws.EngineActed.{coin_same}

-- ---- sets that may be sent

rises_from_lem : (x : ℕ) (xs : List ℕ) → RisingFrom x xs → rises_from x xs ≡ true
unfolding rises_from
rises_from_lem x [] r = refl
rises_from_lem x (y ∷ ys) r = and_both (ltb x y) (rises_from y ys) (lt-ltb x y r.0) (rises_from_lem y ys r.1)

rises_of : (xs : List ℕ) → Rising xs → rises xs ≡ true
unfolding rises
rises_of [] r = refl
rises_of (x ∷ xs) r = rises_from_lem x xs r

fitting_each : (xs : List ℕ) → ((v : ℕ) → Memᴰ v xs → v < 2 ^ 64) → Fitting xs
fitting_each [] h = tt
fitting_each (x ∷ xs) h = (h x (Memᴰ.head refl), fitting_each xs (λ v m. h v (Memᴰ.tail m)))

fitting_listed : (f : ℕ → ℕ) (k : ℕ) → ((j : ℕ) → f j < 2 ^ 64) → Fitting (listed f k)
unfolding listed
fitting_listed f zero h = tt
fitting_listed f (suc k) h = (h 1, fitting_listed (λ j. f (suc j)) k (λ j. h (suc j)))

module _ (g : Settings) (s : List ℕ) (fit : Fit s) where
  output_fits : (i v : ℕ) → output g s i ≡ Some v → v < 2 ^ 64
  unfolding ready_value
  output_fits i v e = let h = (output_holders g s i v e).holder in rw (← h.same) (fit (495 + 16 * i + h.at))

  exit_fits : Fitting (exit_now g s).names
  unfolding exit_now single_exit outputs_exit no_exit
  exit_fits = go (exit_now g s) (way g (output g s) (decided_zero s) (decided_one s))
    where
      go : (x : Exit) → Way g (output g s) (decided_zero s) (decided_one s) x → Fitting x.names
      go x (first v ne f e) = rw e (output_fits f.at v f.output, tt)
      go x (second v a d f e) = rw e (output_fits f.at v f.output, tt)
      go x (third a d z f e) = rw e (fitting_each (outputs_of_s (output g s) (decided_one s) g.n) (λ v m. let t = outputs_from (output g s) (decided_one s) g.n v m in output_fits t.at v t.output))
      go x (ways.none a e) = rw e tt

-- ---- messages that may be sent

module _ (o : OpeningGiven) (H : ℕ → Bool) (κ : ℕ → ℕ → Bool) (w : List ℕ) (x : Belongs o w) (coins : runs.CoinsAre (world_with engine (agreed o.given) H κ) engine_seen w) (sets : Sets o w) where
  abbrev g : Settings
  g = settings_by o.given

  abbrev W : World
  W = world_with engine (agreed o.given) H κ

  abbrev xs : List ℕ
  xs = commit_due g w

  record Good (X : List ℕ) : Type 0 where
    fits : Fitting X
    rising : rises X ≡ true
    few : length X ≤ o.given.n

  exit_good : Good (exit_now g w).names
  unfolding exit_now
  exit_good =
      record {
        fits = exit_fits g w x.fits;
        rising = rises_of (exit_now g w).names (names_rising g (output g w) (decided_zero w) (decided_one w));
        few = names_few g (output g w) (decided_zero w) (decided_one w);
      }

  held_good : (p : ℕ) → 1 ≤ p → p ≤ o.given.n → Good (commit_set w p)
  unfolding commit_value
  held_good p low high =
      let small : p ≤ 16 = omega (arith, x.ruled.few) in
      record {
        fits = rw (set_listed w p x.size small) (fitting_listed (commit_value w p) (commit_count w p) (λ j. x.fits (751 + 16 * p + j)));
        rising = sets.rising p low high;
        few = omega (arith, set_length w p x.size small, sets.few p low high);
      }

  rests_good : Rests g w → Good xs
  rests_good (on_exit ne same) = rw same exit_good
  rests_good (on_copies p h same) = rw same (held_good p h.low h.high)

  -- the kinds up to COMMIT are of either version
  first_kinds : {k : ℕ} → k ≤ COMMIT → k ≤ last_kind o.given.version
  first_kinds l = omega (arith, last_low o.given.version)

  -- one value beside the header
  single : (m : wire.Message) (v : ℕ) → kind_of m ≤ last_kind o.given.version → Layout o.given.n o.given.own m → besides m ≡ 0 → values_of m xs ≡ v ∷ [] → v < 2 ^ 64 → Proper o.given.version o.given.n o.given.own m xs
  unfolding rises rises_from
  single m v k l b e f = record { kind = k; layout = l; held = omega arith; fits = rw e (f, tt); rising = rw e }

  ready_fits : (i v : ℕ) → (quorum g ≤ holders g (echo_held w i) (echo_value w i) v) ⊎ (repeat g ≤ holders g (ready_held w i) (ready_value w i) v) → v < 2 ^ 64
  unfolding echo_value ready_value
  ready_fits i v (inl h) =
      let k = holders_some g (echo_held w i) (echo_value w i) v (omega (arith, (ruled_bounds g x.ruled).quorum_some)) in
      rw (← k.same) (x.fits (239 + 16 * i + k.at))
  ready_fits i v (inr h) =
      let k = holders_some g (ready_held w i) (ready_value w i) v (omega (arith, repeat_sum g)) in
      rw (← k.same) (x.fits (495 + 16 * i + k.at))

  estimate_bit : (k : Bool) (v : View) → ((b : ℕ) → v ≡ Only b → b ≤ 1) → estimate k v ≤ 1
  estimate_bit k (Only b) h = h b refl
  estimate_bit true Both h = omega arith
  estimate_bit false Both h = omega arith

  shown_bit : (i r : ℕ) (v : View) → Shown g w i r v → (b : ℕ) → v ≡ Only b → b ≤ 1
  shown_bit i r (Only c) h b e = let same : c ≡ b = cc in rw (← same) h.bit
  shown_bit i r Both h b e = absurd (let z : ◌≡◌ {A = ℕ} 0 1 = cc in omega arith)

  next : (r : ℕ) → suc r ≡ r + 1
  next r = omega arith

  -- ---- what an act sends

  abbrev ShownMessage : Option Act → Message → Type 0
  ShownMessage None y = ⊥
  ShownMessage (Some a) y = runs.message W a ≡ y

  record Sending (a : Option Act) (m : wire.Message) : Type 0 where
    proper : Proper o.given.version o.given.n o.given.own m xs
    shows : ShownMessage a (meaning m (values_of m xs))

  -- the outcome of an act, where it is that m0 is sent
  sending : (a : Option Act) (m0 m : wire.Message) → outcome.Sent m0 ≡ outcome.Sent m → Sending a m0 → Sending a m
  sending a m0 m e s = let same : m0 ≡ m = cc in subst (Sending a) same s

  est_sending : (a : Act) (i r b : ℕ) → 1 ≤ i → i ≤ o.given.n → 1 ≤ r → r ≤ 32 → b ≤ 1 → runs.message W a ≡ EST i r b → Sending (Some a) (message.Est i r b)
  est_sending a i r b lo hi begun ended bit e = record { proper = single (message.Est i r b) b (first_kinds (omega arith)) (lo, hi, begun, ended, bit) refl refl (omega arith); shows = e }

  commit_sending : (k : ℕ) → 1 ≤ k → length xs ≡ k → Good xs → Sending (Some (commit xs)) (message.Commit k)
  commit_sending k least len good =
      let all : take k xs ≡ xs = take_all k xs (omega arith) in
      record {
        proper = record { kind = first_kinds (omega arith); layout = (least, omega (arith, good.few)); held = omega arith; fits = rw all good.fits; rising = rw all good.rising };
        shows = rw all;
      }

  move_sending : (i r : ℕ) (v : View) (m : wire.Message) → 1 ≤ i → i ≤ o.given.n → MoveTold g w i r v → estimate (records.coin w i r) v ≤ 1 → move_outcome w i r v ≡ outcome.Sent m →
      Sending (Some (move i r v)) m
  unfolding move_outcome
  move_sending i r v m lo hi told bit e = go (ltb r 32) refl e
    where
      go : (b : Bool) → ltb r 32 ≡ b → cond b (outcome.Sent (message.Est i (r + 1) (estimate (records.coin w i r) v))) outcome.MovedOut ≡ outcome.Sent m → Sending (Some (move i r v)) m
      go true l f =
          sending _ (message.Est i (r + 1) (estimate (records.coin w i r) v)) m f
          (est_sending _ i (r + 1) (estimate (records.coin w i r) v) lo hi (omega arith) (omega (arith, ltb-true r 32 l)) bit (rw (coin_same o H κ w x coins g i r v lo hi told) (ap (λ (q : ℕ). EST i q (estimate (W.coin i r) v)) (next r))))
      go false l f = absurd (let z : ◌≡◌ {A = ℕ} 0 1 = cc in omega arith)

  act_sending : (a : acts.Act) → ActTold g w a → (m : wire.Message) → outcome_of o.given.own w a ≡ outcome.Sent m → Sending (shown_act g w a) m
  unfolding outcome_of send_value
  act_sending act.Idle t m e = absurd (let z : ◌≡◌ {A = ℕ} 0 1 = cc in omega arith)
  act_sending act.InForce t m e = absurd (let z : ◌≡◌ {A = ℕ} 0 1 = cc in omega arith)
  act_sending (act.Commit k) t m e = sending _ (message.Commit k) m e (commit_sending k t.some t.sized (rests_good t.rests))
  act_sending (act.Send v) t m e =
      sending _ (message.Send o.given.own v) m e (record { proper = single (message.Send o.given.own v) v (first_kinds (omega arith)) refl refl refl (rw t.own (x.fits 5)); shows = refl })
  act_sending (act.Echo i v) t m e =
      sending _ (message.Echo i v) m e (record { proper = single (message.Echo i v) v (first_kinds (omega arith)) (t.among.low, t.among.high) refl refl (rw t.same (x.fits (71 + i))); shows = refl })
  act_sending (act.Ready i v) t m e =
      sending _ (message.Ready i v) m e (record { proper = single (message.Ready i v) v (first_kinds (omega arith)) (t.among.low, t.among.high) refl refl (ready_fits i v (ready_rests g w i v t.rests)); shows = refl })
  act_sending (act.Start i b) t m e = sending _ (message.Est i 1 b) m e (est_sending _ i 1 b t.0.low t.0.high (omega arith) (omega arith) t.1.bit refl)
  act_sending (act.Relay i r b) t m e = sending _ (message.Est i r b) m e (est_sending _ i r b t.0.low t.0.high t.1.low t.1.high t.1.bit refl)
  act_sending (act.Aux i r b) t m e =
      sending _ (message.Aux i r b) m e
      (record { proper = single (message.Aux i r b) b (first_kinds (omega arith)) (t.0.low, t.0.high, t.1.low, t.1.high, t.1.bit) refl refl (omega (arith, t.1.bit)); shows = refl })
  act_sending (act.Move i r v) t m e =
      move_sending i r v m t.0.low t.0.high t.1 (estimate_bit (records.coin w i r) v (shown_bit i r v t.1.shown)) e
  act_sending (act.Finish i b) t m e =
      sending _ (message.Finish i b) m e
      (record { proper = single (message.Finish i b) b (omega (arith, finish_last o.given.version (ap finishing (sym x.is_version) ∙ t.1.allowed))) (t.0.low, t.0.high, t.1.bit) refl refl (omega (arith, t.1.bit)); shows = refl })

  -- ---- the bytes of a turn that sends

  abbrev session : Session
  session = record { settings = g; own = o.given.own; number = o.given.session }

  sent_bytes : (lent : List ℕ) → Taken w lent session → (m : wire.Message) → besides m ≤ length xs → outcome_of o.given.own w (due g w) ≡ outcome.Sent m →
      take (length_of m) (turn_bytes w lent) ≡ encode m o.given.version o.given.own o.given.session xs
  unfolding bytes_after at_front
  sent_bytes lent t m b e =
      ap (take (length_of m)) (t.bytes ∙ ap (λ (y : Outcome). bytes_after session w y lent) e)
      ∙ take_at (written (records.version w)) (drop (length (written (records.version w))) lent) (length_of m) (length_encode m (records.version w) o.given.own o.given.session xs b)
      ∙ ap written x.is_version
    where
      written : ℕ → List ℕ
      written version = encode m version o.given.own o.given.session xs

  -- the bytes of a message do not depend on what was lent
  pub same_bytes : (lent other : List ℕ) → Taken w lent session → Taken w other session → (m : wire.Message) → turn_outcome w (length lent) ≡ Ok (outcome.Sent m) → take (length_of m) (turn_bytes w lent) ≡ take (length_of m) (turn_bytes w other)
  same_bytes lent other t u m e =
      let f = same_outcome _ _ (sym t.answer ∙ e) in
      let b = (act_sending (due g w) t.told m f).proper.held in
      sent_bytes lent t m b f ∙ sym (sent_bytes other u m b f)

  encoded_says : (m : wire.Message) → Proper o.given.version o.given.n o.given.own m xs → (b : Bytes) → b.list ≡ encode m o.given.version o.given.own o.given.session xs →
      Says (agreed o.given) o.given.own b (meaning m (values_of m xs))
  encoded_says m p b e =
      let back : ReadBack o.given.version o.given.n o.given.session o.given.own m xs = round_trip o.given.version o.given.n o.given.session o.given.own m xs o.session_fits x.own_low x.own_high p in
      record {
        message = m;
        taken = rw e back.message;
        means = ap (meaning m) (rw e (sym back.all_values_lem));
      }

  pub shown_says : (lent : List ℕ) → Taken w lent session → (b : Bytes) → SendsPlain w lent b → (a : Act) → shown_act g w (due g w) ≡ Some a →
      Says (agreed o.given) o.given.own b (runs.message W a)
  shown_says lent t b h a e =
      of (act_sending (due g w) t.told h.message (same_outcome _ _ (sym t.answer ∙ h.outcome)))
    where
      of : Sending (shown_act g w (due g w)) h.message → Says (agreed o.given) o.given.own b (runs.message W a)
      of s =
          let is : runs.message W a ≡ meaning h.message (values_of h.message xs) = (rw e at s).shows in
          rw is (encoded_says h.message s.proper b (h.bytes ∙ sent_bytes lent t h.message s.proper.held (same_outcome _ _ (sym t.answer ∙ h.outcome))))

  -- an act that shows nothing sends nothing
  pub silent : (lent : List ℕ) → Taken w lent session → (b : Bytes) → SendsPlain w lent b → shown_act g w (due g w) ≡ None → ⊥
  silent lent t b h e = of (act_sending (due g w) t.told h.message (same_outcome _ _ (sym t.answer ∙ h.outcome)))
    where
      of : Sending (shown_act g w (due g w)) h.message → ⊥
      of s = (rw e at s).shows
