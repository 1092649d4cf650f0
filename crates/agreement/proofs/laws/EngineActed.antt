-- What a turn of the engine changes: nothing that is held, no mark of an ECHO or AUX vanishes, a new decision is that of the move.
use Rattle.std.specs.Prelude.{ℕ, ◌+◌, ◌≤◌, true, false, not, List, ◌⊎◌, ◌≡◌, refl, eqb, Option, Some, None}
use Rattle.std.proofs.Math.Bool.{Bool}
use Rattle.std.proofs.lemmas.Bool.{false≢true}
use Rattle.std.proofs.Common.{inl, inr, sym, ap, ◌∙◌, eqb-true}
use native.Mathlib.Omega.{arith}
use Rattle.quorum.specs.laws.Bools.{and_right}
use Rattle.settings.specs.Rules.{Ruled}
use Rattle.settings.specs.declared.Settings.{Settings}
use Rattle.records.specs.Words.{marked}
use Rattle.records.specs.Records.{echo_sent, aux_sent, decided, decided_zero, decided_one}
use Rattle.records.specs.Records as records
use Rattle.acts.specs.declared.Act as acts
use Rattle.acts.specs.declared.Act.TheVariants as act
use Rattle.acts.specs.declared.View.{View}
use Rattle.acts.specs.declared.View.TheVariants.{Only, Both}
use Rattle.votes.specs.Votes.{coin_value, estimate, decides}
use Rattle.votes.specs.laws.Told.{MoveTold}
use Rattle.turn.specs.Turn.{new_decision, applied}
use Rattle.turn.specs.laws.Told.{ActTold}
use Rattle.turn.proofs.laws.Frame.{Placed, told_placed, length_applied, applied_kept}
use Rattle.turn.proofs.laws.Marks.{keeps_applied, echo_marked, aux_marked}
use Rattle.turn.proofs.laws.Decisions.{DecidedBy, decided_zero_came, decided_one_came}
use Rattle.agreement.specs.Evidence.{World}
use Rattle.agreement.specs.History.{Act, echo, aux, move, Decision, zero, one}
use Rattle.held.specs.laws.Held.{Numbered}
use Rattle.held.specs.laws.Keeping.{kept_holding, held_back}
use Rattle.agreement.proofs.laws.Runs.{Decides, Changed, Kept, Acted, CoinsAre}
use Rattle.agreement.proofs.laws.Worlds.{world_with}
use Rattle.calls.specs.Engine.{OpeningGiven, agreed, engine}
use Rattle.agreement.proofs.laws.EngineSeen.{engine_seen}
use Rattle.agreement.proofs.laws.EngineReading.{Belongs, shown_act}

-- a move decides for the coin, where its AUXs carry that value only
decides_only : (k : Bool) (v : View) → decides k v ≡ true → v ≡ Only (coin_value k)
decides_only k (Only b) e = ap Only (eqb-true b (coin_value k) e)
decides_only k Both e = absurd (false≢true e)

coin_is : (k z : Bool) → eqb (coin_value k) 0 ≡ z → coin_value k ≡ coin_value (not z)
coin_is true true e = absurd (false≢true e)
coin_is true false e = refl
coin_is false true e = refl
coin_is false false e = absurd (false≢true (sym e))

module _ (o : OpeningGiven) (H : ℕ → Bool) (κ : ℕ → ℕ → Bool) (w : List ℕ) (x : Belongs o w) (coins : CoinsAre (world_with engine (agreed o.given) H κ) engine_seen w) where
  abbrev W : World
  W = world_with engine (agreed o.given) H κ

  -- the coin that a move reads is the world's
  pub coin_same : (g : Settings) (i r : ℕ) (v : View) → 1 ≤ i → i ≤ o.given.n → MoveTold g w i r v → records.coin w i r ≡ W.coin i r
  coin_same g i r v low high t = coins i r (records.coin w i r) (record { low = low; high = omega (arith, high, x.is_n); first = t.low; last = t.high; known = t.known; same = refl })

  -- the value that vote i is decided: 0 for true
  abbrev value_of : Bool → ℕ
  value_of z = coin_value (not z)

  -- where a is a move b is that move, and it was due
  abbrev SameMove : Settings → acts.Act → Act → ℕ → Type 0
  SameMove g a b i = (r : ℕ) (v : View) → a ≡ act.Move i r v → (b ≡ move i r v) × MoveTold g w i r v

  decided_by : (g : Settings) (a : acts.Act) (b : Act) (i : ℕ) (z : Bool) → 1 ≤ i → i ≤ o.given.n → SameMove g a b i → DecidedBy w a i z → Decides W b i (value_of z)
  unfolding new_decision
  decided_by g a b i z low high same d = of (decides_only k d.view (and_right (not (decided w i)) (decides k d.view) d.new))
    where
      k : Bool
      k = records.coin w i d.round

      of : d.view ≡ Only (coin_value k) → Decides W b i (value_of z)
      of e =
          let c : coin_value k ≡ value_of z = coin_is k z (ap (λ (v : View). eqb (estimate k v) 0) (sym e) ∙ d.value) in
          let is = same d.round d.view d.is_move in
          record {
            round = d.round;
            moves = is.0 ∙ ap (move i d.round) (e ∙ ap Only c);
            coin = sym c ∙ ap coin_value (coin_same g i d.round d.view low high is.1);
          }

  module _ (a : acts.Act) (p : Placed a) where
    abbrev t : List ℕ
    t = applied w a

    decs_came : (decision : ℕ → ℕ → Type 0) → ((i : ℕ) (z : Bool) → 1 ≤ i → i ≤ o.given.n → DecidedBy w a i z → decision i (value_of z)) → (i b : ℕ) → 1 ≤ i → i ≤ o.given.n →
        Decision (engine_seen.standing t) i b → Decision (engine_seen.standing w) i b ⊎ decision i b
    decs_came decision by i b low high (zero e) = of (decided_zero_came w x.size a i p e)
      where
        of : (decided_zero w i ≡ true) ⊎ DecidedBy w a i true → Decision (engine_seen.standing w) i 0 ⊎ decision i 0
        of (inl h) = inl (zero h)
        of (inr d) = inr (by i true low high d)
    decs_came decision by i b low high (one e) = of (decided_one_came w x.size a i p e)
      where
        of : (decided_one w i ≡ true) ⊎ DecidedBy w a i false → Decision (engine_seen.standing w) i 1 ⊎ decision i 1
        of (inl h) = inl (one h)
        of (inr d) = inr (by i false low high d)

    echoes_stay : (i : ℕ) → echo_sent w i ≡ true → echo_sent t i ≡ true
    unfolding echo_sent marked
    echoes_stay i e = keeps_applied 136 (record { not_turns = λ q. omega arith; not_round = λ j lo hi q. omega arith }) w a p i e

    auxes_stay : (i r : ℕ) → aux_sent w i r ≡ true → aux_sent t i r ≡ true
    unfolding aux_sent marked
    auxes_stay i r e = keeps_applied (55 + i) (record { not_turns = λ q. omega arith; not_round = λ j lo hi q. omega arith }) w a p r e

    pub changed : (decision : ℕ → ℕ → Type 0) → ((i : ℕ) (z : Bool) → 1 ≤ i → i ≤ o.given.n → DecidedBy w a i z → decision i (value_of z)) → Changed W engine_seen w t (λ m y. ⊥) decision
    changed decision by =
        record {
          held = λ m y low high h. inl (held_back w t x.size (length_applied w a) (kept_holding w t (applied_kept w a p)) m y low (omega (arith, x.ruled.few)) h);
          echoed = echoes_stay;
          auxed = λ i r e. (e.0, auxes_stay i r e.1);
          decs = decs_came decision by;
        }

  -- nothing happens
  pub unchanged : Kept W engine_seen w w
  unchanged = record { held = λ m y low high h. inl h; echoed = λ i e. e; auxed = λ i r e. e; decs = λ i b low high e. inl e }

  -- an act that shows nothing
  pub kept_by : (a : acts.Act) → Placed a → ((i r : ℕ) (v : View) → a ≡ act.Move i r v → ⊥) → Kept W engine_seen w (applied w a)
  kept_by a p no_move = changed a p (λ i b. ⊥) (λ i z low high d. no_move i d.round d.view d.is_move)

  -- ---- the acts that show

  abbrev pub ShownActed : acts.Act → Option Act → Type 0
  ShownActed a None = Unit {0}
  ShownActed a (Some b) = Acted W engine_seen w (applied w a) b

  -- neither ECHO nor AUX
  plain : (g : Settings) (a : acts.Act) (b : Act) → Placed a → ((i : ℕ) → SameMove g a b i) → ((i v : ℕ) → b ≡ echo i v → ⊥) → ((i r c : ℕ) → b ≡ aux i r c → ⊥) → Acted W engine_seen w (applied w a) b
  plain g a b p same no_echo no_aux =
      record {
        changed = changed a p (Decides W b) (λ i z low high d. decided_by g a b i z low high (same i) d);
        echoes = λ i v e. absurd (no_echo i v e);
        auxes = λ i r c e. absurd (no_aux i r c e);
      }

  module _ (g : Settings) (ruled : Ruled g) where
    pub shown_acted : (a : acts.Act) → ActTold g w a → ShownActed a (shown_act g w a)
    shown_acted act.Idle h = tt
    shown_acted act.InForce h = tt
    shown_acted (act.Commit k) h = plain g (act.Commit k) _ tt (λ i r v e. absurd (let z : ◌≡◌ {A = ℕ} 0 1 = cc in omega arith)) (λ i v e. let z : ◌≡◌ {A = ℕ} 0 1 = cc in omega arith) (λ i r c e. let z : ◌≡◌ {A = ℕ} 0 1 = cc in omega arith)
    shown_acted (act.Send u) h = plain g (act.Send u) _ tt (λ i r v e. absurd (let z : ◌≡◌ {A = ℕ} 0 1 = cc in omega arith)) (λ i v e. let z : ◌≡◌ {A = ℕ} 0 1 = cc in omega arith) (λ i r c e. let z : ◌≡◌ {A = ℕ} 0 1 = cc in omega arith)
    shown_acted (act.Echo j u) h =
        record {
          changed = changed (act.Echo j u) tt (Decides W (echo j u)) (λ i z low high d. decided_by g (act.Echo j u) (echo j u) i z low high (λ r v e. absurd (let z : ◌≡◌ {A = ℕ} 0 1 = cc in omega arith)) d);
          echoes = λ i v e. let same : j ≡ i = cc in rw (← same) (echo_marked w x.size j u h.among.low (omega (arith, h.among.high, ruled.few)));
          auxes = λ i r c e. absurd (let z : ◌≡◌ {A = ℕ} 0 1 = cc in omega arith);
        }
    shown_acted (act.Ready j u) h = plain g (act.Ready j u) _ tt (λ i r v e. absurd (let z : ◌≡◌ {A = ℕ} 0 1 = cc in omega arith)) (λ i v e. let z : ◌≡◌ {A = ℕ} 0 1 = cc in omega arith) (λ i r c e. let z : ◌≡◌ {A = ℕ} 0 1 = cc in omega arith)
    shown_acted (act.Start j b) h = plain g (act.Start j b) _ (told_placed g w ruled (act.Start j b) h) (λ i r v e. absurd (let z : ◌≡◌ {A = ℕ} 0 1 = cc in omega arith)) (λ i v e. let z : ◌≡◌ {A = ℕ} 0 1 = cc in omega arith) (λ i r c e. let z : ◌≡◌ {A = ℕ} 0 1 = cc in omega arith)
    shown_acted (act.Relay j q b) h = plain g (act.Relay j q b) _ (told_placed g w ruled (act.Relay j q b) h) (λ i r v e. absurd (let z : ◌≡◌ {A = ℕ} 0 1 = cc in omega arith)) (λ i v e. let z : ◌≡◌ {A = ℕ} 0 1 = cc in omega arith) (λ i r c e. let z : ◌≡◌ {A = ℕ} 0 1 = cc in omega arith)
    shown_acted (act.Aux j q b) h =
        let among = numbered j h.0.low h.0.high in
        record {
          changed = changed (act.Aux j q b) (among.low, among.high) (Decides W (aux j q b)) (λ i z low high d. decided_by g (act.Aux j q b) (aux j q b) i z low high (λ r v e. absurd (let z : ◌≡◌ {A = ℕ} 0 1 = cc in omega arith)) d);
          echoes = λ i v e. absurd (let z : ◌≡◌ {A = ℕ} 0 1 = cc in omega arith);
          auxes = λ i r c e. let same : j ≡ i = cc in let same_round : q ≡ r = cc in rw (← same, ← same_round) (among, aux_marked w x.size j q b among.high h.1.low h.1.high);
        }
      where
        numbered : (i : ℕ) → 1 ≤ i → i ≤ g.n → Numbered i
        numbered i low high = record { low = low; high = omega (arith, ruled.few) }
    shown_acted (act.Move j q v) h = plain g (act.Move j q v) _ (told_placed g w ruled (act.Move j q v) h) (λ i r u e. let same : j ≡ i = cc in let same_round : q ≡ r = cc in let same_view : v ≡ u = cc in (rw (same, same_round, same_view), rw (← same, ← same_round, ← same_view) h.1)) (λ i u e. let z : ◌≡◌ {A = ℕ} 0 1 = cc in omega arith) (λ i r c e. let z : ◌≡◌ {A = ℕ} 0 1 = cc in omega arith)
    shown_acted (act.Finish j b) h = plain g (act.Finish j b) _ (told_placed g w ruled (act.Finish j b) h) (λ i r v e. absurd (let z : ◌≡◌ {A = ℕ} 0 1 = cc in omega arith)) (λ i v e. let z : ◌≡◌ {A = ℕ} 0 1 = cc in omega arith) (λ i r c e. let z : ◌≡◌ {A = ℕ} 0 1 = cc in omega arith)
