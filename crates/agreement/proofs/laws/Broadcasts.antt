-- Broadcasts over lawful histories: with up to ta liars all outputs of an instance are one value; with up to ts, an output of an honest
-- concentrator's broadcast was sent by it.
use Rattle.std.specs.Prelude.{ℕ, ◌≡◌}
use Rattle.std.proofs.Common.{inl, inr, arith}
use Rattle.agreement.specs.Evidence.{World, whole, Sound, Honest, Backed}
use Rattle.agreement.proofs.laws.Evidence.{Somebody, backed_map, one_of, two_of}
use Rattle.agreement.specs.History.{Act, send, echo, ready, History, Did, Single, Heard, Delivers, Guard, Lawful}
use Rattle.agreement.proofs.laws.History.{by_history}

module _ (W : World) (G : ℕ → Act → Type 0) where
  -- the ECHOs behind a READY
  abbrev Echoes : ℕ → ℕ → History → Type 0
  Echoes i v h = Backed W (whole W) W.settings.ts (Heard G h (echo i v))

  module _ (L : ℕ) (so : Sound W L) where
    -- a READY rests on ECHOs
    ready_echoes : (i v : ℕ) (h : History) → Lawful W G h → (p : ℕ) → Did h p (ready i v) → Echoes i v h
    ready_echoes i v = by_history W G (ready i v) (Echoes i v) (λ e h x. backed_map W (λ m hm d. record { done = inr d.done; gone = d.gone }) x) step
      where
        step : (h : History) (p : ℕ) → Guard W G h p (ready i v) → ((m : ℕ) → Did h m (ready i v) → Echoes i v h) → Echoes i v h
        step h p (inl x) rest = x
        step h p (inr x) rest = let o = one_of W so (omega arith) x in rest o.who o.has

    -- an output rests on a READY
    output_ready : (h : History) (i v : ℕ) → Delivers W h i v → Somebody (λ m. Did h m (ready i v))
    output_ready h i v x = one_of W so (omega arith) x

    -- an ECHO of an honest concentrator's broadcast rests on its SEND
    echo_send : (i v : ℕ) → Honest W i → (h : History) → Lawful W G h → (p : ℕ) → Did h p (echo i v) → Did h i (send v)
    echo_send i v hi = by_history W G (echo i v) (λ h. Did h i (send v)) (λ e h d. inr d) (λ h p g rest. g hi)

    pub output_sent : (h : History) → Lawful W G h → (i v : ℕ) → Honest W i → Delivers W h i v → Did h i (send v)
    output_sent h law i v hi x =
        let o = output_ready h i v x in
        let e = one_of W so (omega arith) (ready_echoes i v h law o.who o.has) in
        echo_send i v hi h law e.who e.has.done

  module _ (so : Sound W W.settings.ta) (one : Single G) (h : History) (law : Lawful W G h) where
    ready_agree : (i p q u v : ℕ) → Did h p (ready i u) → Did h q (ready i v) → u ≡ v
    ready_agree i p q u v c d =
        let o = two_of W so (omega arith) (ready_echoes W.settings.ta so i u h law p c) (ready_echoes W.settings.ta so i v h law q d) in
        one.echo_one o.who i u v o.has.0.gone o.has.1.gone

    pub output_agree : (i u v : ℕ) → Delivers W h i u → Delivers W h i v → u ≡ v
    output_agree i u v x y =
        let a = output_ready W.settings.ta so h i u x in
        let b = output_ready W.settings.ta so h i v y in
        ready_agree i a.who b.who u v a.has b.has
