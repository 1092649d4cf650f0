-- Every machine that keeps the laws meets the claims of specs/DemandThree.antt.
use Rattle.std.specs.Prelude.{ℕ, ◌≤◌, Bool, ◌≡◌, Option, Some, None}
use mathlib.Core.List.{List, [], ◌∷◌}
use Rattle.std.proofs.Common.{inl, inr, sym, ◌∙◌, arith}
use Rattle.std.proofs.Math.Path.{refl, ap}
use Rattle.agreement.specs.Evidence.{World, whole, liars, Sound, Backed}
use Rattle.agreement.proofs.laws.Evidence.{sound, one_of}
use Rattle.agreement.specs.History.{Act, send, commit, History, Did}
use Rattle.agreement.specs.Moments.{Within, now}
use Rattle.agreement.proofs.laws.Moments.{within_tail, before_now, before_after, within_trans}
use Rattle.agreement.proofs.laws.Runs as Runs
use Rattle.held.specs.laws.Held.{Message, COMMIT}
use Rattle.agreement.proofs.laws.Runs.{HeldFrom, OutputsHeld, Inv, Due, backing, shows_named, shows_force}
use Rattle.agreement.specs.Agreement.{Shown}
use Rattle.agreement.proofs.laws.Agreement.{agreement, validity}
use Rattle.calls.specs.Machine.{Machine, Call, place, words}
use Rattle.agreement.proofs.laws.Worlds.{world_with}
use Rattle.agreement.specs.Journals.{journal}
use Rattle.agreement.specs.DemandThree.{Shows, Opened, Conditions, PutIn, Earlier, OneSet, NamedFirst, OnlyInput, DemandThree}
use Rattle.agreement.proofs.laws.Machine.{Reading, Active, Laws}
use Rattle.agreement.proofs.laws.Coins.{Coined, coins_of, agreeing_coined}
use Rattle.agreement.proofs.laws.Openings.{did, tell, status, history, opened_known, known_opened, TurnDid, did_turn, ActedAt, acted_at}
use Rattle.agreement.proofs.laws.Chains.{Noted, history_within, Left, Live, Good, belongs, keeps, known_live}
use Rattle.agreement.proofs.laws.Lists.{all_good, left_single}

-- calls: the whole list; κ: its coins
module _ (M : Machine) (R : Reading M) (H : ℕ → Bool) (κ : ℕ → ℕ → Bool) (laws : Laws M R H κ) (start : ℕ → M.Words) (S : M.Session) (calls : List (Call M)) (coined : Coined M start S κ calls) (conditions : Conditions M start S H calls) where
  abbrev W : World
  W = world_with M S H κ

  -- a moment of it
  abbrev Here : List (Call M) → Type 0
  Here cs = Within cs calls

  abbrev Gone : ℕ → Message → Type 0
  Gone m x = Left M R H κ start S calls m x

  abbrev told : List (Call M) → History
  told cs = history M R start cs

  pub good : (cs : List (Call M)) → Here cs → Good M R H κ start S calls cs
  good cs k = all_good M R H κ laws start S calls coined calls now conditions cs k

  -- an opened one
  pub record Open (cs : List (Call M)) (p : ℕ) : Type 0 where
    pub by_opening : M.Opening
    pub live : Live M R H κ start S calls by_opening (told cs) p (words M start cs p) (journal M start cs p)

  pub open_at : (cs : List (Call M)) → Here cs → (p : ℕ) → Opened M start cs p → Open cs p
  open_at cs k p o =
      let x = opened_known M R start cs p o in
      record { by_opening = x.by_opening; live = known_live M R H κ start S calls cs (good cs k) p x.by_opening x.known }

  -- ---- what the words of an opened one show

  module _ (cs : List (Call M)) (p : ℕ) (x : Open cs p) where
    abbrev w : M.Words
    w = words M start cs p

    abbrev acts : Act → Type 0
    acts = Noted M R start (journal M start cs p)

    pub owned : R.Belongs x.by_opening w
    owned = belongs x.live

    pub inv : Inv W R.seen Gone (told cs) acts p w
    inv = keeps x.live

    outs : OutputsHeld W R.seen w
    outs = rw x.live.session at (laws.outputs_held x.by_opening w owned)

    force_held : (X : List ℕ) → M.InForce w X → HeldFrom W R.seen w (whole W) W.settings.ts (COMMIT X)
    force_held X f = rw x.live.session at (laws.force_held x.by_opening w owned X f)

    -- who committed what is held
    committed : {k slack : ℕ} (X : List ℕ) → HeldFrom W R.seen w k slack (COMMIT X) → Backed W k slack (λ m. Did (told cs) m (commit X))
    committed X b = backing W R.seen Gone (told cs) acts p w inv outs (COMMIT X) b

    pub show : (X : List ℕ) → Shows M w X → Shown W (told cs) X
    show X (inl n) = shows_named W R.seen Gone (told cs) acts p w inv outs X (rw x.live.session at (laws.names_exits x.by_opening w owned X n))
    show X (inr f) = shows_force W R.seen Gone (told cs) acts p w inv outs X (force_held X f)

    pub sound_at : (L : ℕ) → L ≤ W.settings.ts → liars W ≤ L → Sound W L
    sound_at L b f = sound W L x.live.ruled b f

  -- a turn that did a
  pub active : (cs : List (Call M)) → Here cs → (p : ℕ) (a : Act) (d : TurnDid M R start (words M start cs p) (status M R start cs p) a) → Active M R H κ d.by_opening (words M start cs p) d.lent a
  active cs k p a d =
      let live = known_live M R H κ start S calls cs (good cs k) p d.by_opening d.known in
      rw d.acts at (laws.turn_told d.by_opening (words M start cs p) (owned cs p (record { by_opening = d.by_opening; live = live })) (inv cs p (record { by_opening = d.by_opening; live = live })).coins d.lent)

  -- ---- none is in force that exits had not named before

  module _ (so : Sound W W.settings.ts) (X : List ℕ) where
    abbrev Then : List (Call M) → Type 0
    Then cs = Earlier M start S H cs X

    longer : (c : Call M) (cs : List (Call M)) → Then cs → Then (c ∷ cs)
    longer c cs x = record { past = x.past; before = before_after c x.before; who = x.who; honest = x.honest; opened = x.opened; names = x.names }

    -- the turn of a COMMIT: its set was named there, or somebody had committed it before
    committing : (c : Call M) (cs : List (Call M)) → Here (c ∷ cs) → TurnDid M R start (words M start cs (place M c)) (status M R start cs (place M c)) (commit X) → ((m : ℕ) → Did (told cs) m (commit X) → Then cs) → Then (c ∷ cs)
    committing c cs k d rest = due (rw live.session at (active cs later p (commit X) d).due)
      where
        p : ℕ
        p = place M c

        later : Here cs
        later = within_tail c k

        live : Live M R H κ start S calls d.by_opening (told cs) p (words M start cs p) (journal M start cs p)
        live = known_live M R H κ start S calls cs (good cs later) p d.by_opening d.known

        due : Due W R.seen (words M start cs p) (commit X) → Then (c ∷ cs)
        due (inl n) =
            record {
              past = cs;
              before = before_now c cs;
              who = p;
              honest = conditions.honest c cs k;
              opened = (known_opened M R start cs p d.by_opening d.known).is_opened_lem;
              names = laws.exits_names d.by_opening (words M start cs p) (owned cs p (record { by_opening = d.by_opening; live = live })) d.lent (commit X) d.acts X (rw live.session n);
            }
        due (inr b) =
            let o = one_of W so (omega arith) (committed cs p (record { by_opening = d.by_opening; live = live }) X b) in
            longer c cs (rest o.who o.has)

    commit_earlier : (cs : List (Call M)) → Here cs → (p : ℕ) → Did (told cs) p (commit X) → Then cs
    unfolding history
    commit_earlier [] k p d = absurd d
    commit_earlier (c ∷ cs) k p d = at (did M R c (words M start cs (place M c)) (status M R start cs (place M c))) refl d (λ m e. commit_earlier cs (within_tail c k) m e)
      where
        at : (x : Option Act) → did M R c (words M start cs (place M c)) (status M R start cs (place M c)) ≡ x → Did (tell M R (place M c) x (told cs)) p (commit X) → ((m : ℕ) → Did (told cs) m (commit X) → Then cs) → Then (c ∷ cs)
        at None e d rest = longer c cs (rest p d)
        at (Some a) e (inl z) rest =
            let same : a ≡ commit X = cc in
            committing c cs k (did_turn M R start c (words M start cs (place M c)) (status M R start cs (place M c)) (commit X) (e ∙ ap Some same)) rest
        at (Some a) e (inr d) rest = longer c cs (rest p d)

    force_earlier : (cs : List (Call M)) → Here cs → (p : ℕ) → Opened M start cs p → M.InForce (words M start cs p) X → Then cs
    force_earlier cs k p o f =
        let x = open_at cs k p o in
        let c = one_of W so (omega arith) (committed cs p x X (force_held cs p x X f)) in
        commit_earlier cs k c.who c.has

  -- ---- what was sent was put in

  -- u is the input with which p is opened
  pub record SentBy (cs : List (Call M)) (p u : ℕ) : Type 0 where
    pub opened : Opened M start cs p
    pub input : u ≡ M.input opened.given

  pub sent_by_lem : (cs : List (Call M)) → Here cs → (p u : ℕ) → Did (told cs) p (send u) → SentBy cs p u
  sent_by_lem cs k p u d = of (acted_at M R start cs p (send u) d)
    where
      of : ActedAt M R start cs p (send u) → SentBy cs p u
      of t =
          let here : Here t.past = within_trans (within_tail t.call t.within) k in
          let o = known_opened M R start t.past p t.turn.by_opening t.turn.known in
          let y = o.is_opened_lem in
          record {
            opened = record { given = y.given; past = y.past; within = within_trans y.within (within_tail t.call t.within); numbered = y.numbered; accepted = y.accepted };
            input = (active t.past here p (send u) t.turn).input u refl ∙ ap M.input (sym o.same);
          }

  -- where all put in v, v was sent
  sent_input : (v : ℕ) (cs : List (Call M)) → Here cs → PutIn M start v cs → (p u : ℕ) → Did (told cs) p (send u) → u ≡ v
  sent_input v cs k i p u d =
      let s = sent_by_lem cs k p u d in
      let o = s.opened in
      s.input ∙ i p o.given o.past o.within o.numbered o.accepted

-- ---- the claims

module _ (M : Machine) (R : Reading M) (laws : (H : ℕ → Bool) (κ : ℕ → ℕ → Bool) → Laws M R H κ) where
  -- the coins of a list that meets the conditions
  pub coins : (S : M.Session) (H : ℕ → Bool) (start : ℕ → M.Words) (cs : List (Call M)) → Conditions M start S H cs → Coined M start S (coins_of M R start S cs) cs
  coins S H start cs k = agreeing_coined M R start (λ w x e. (laws H (M.coin S)).record_binary w x e) S cs k.coins

  one_set : OneSet M
  unfolding OneSet
  one_set S H few start cs k ds es a b p q x y X Y s t =
      let κ = coins_of M R start S cs in
      let l = laws H κ in
      let c = coins S H start cs k in
      let u = open_at M R H κ l start S cs c k ds a p x in
      let v = open_at M R H κ l start S cs c k es b q y in
      let so = sound_at M R H κ l start S cs c k ds p u (M.settings S).ta u.live.ruled.ordered few in
      agreement (world_with M S H κ) (Runs.Gone (world_with M S H κ) R.seen (Left M R H κ start S cs)) so (left_single M R H κ l start S cs c k) (history M R start cs) (good M R H κ l start S cs c k cs now).lawful
      (history_within M R start a) (history_within M R start b) X Y
      (show M R H κ l start S cs c k ds p u X s) (show M R H κ l start S cs c k es q v Y t)

  named_first : NamedFirst M
  unfolding NamedFirst
  named_first S H few start cs k ds a p x X f =
      let κ = coins_of M R start S cs in
      let l = laws H κ in
      let c = coins S H start cs k in
      let u = open_at M R H κ l start S cs c k ds a p x in
      force_earlier M R H κ l start S cs c k (sound_at M R H κ l start S cs c k ds p u (M.settings S).ts (omega arith) few) X ds a p x f

  only_input : OnlyInput M
  unfolding OnlyInput
  only_input S H few start cs k v i ds a p x X s =
      let κ = coins_of M R start S cs in
      let l = laws H κ in
      let c = coins S H start cs k in
      let u = open_at M R H κ l start S cs c k ds a p x in
      let so = sound_at M R H κ l start S cs c k ds p u (M.settings S).ts (omega arith) few in
      let j : PutIn M start v ds = λ q o es w. i q o es (within_trans w a) in
      validity (world_with M S H κ) (Runs.Gone (world_with M S H κ) R.seen (Left M R H κ start S cs)) (M.settings S).ts so (history M R start ds) (good M R H κ l start S cs c k ds a).lawful v
      (λ q r hq d. sent_input M R H κ l start S cs c k v ds a j q r d) X (show M R H κ l start S cs c k ds p u X s)

  pub demand_three : DemandThree M
  demand_three = record { one_set = one_set; named_first = named_first; only_input = only_input }
