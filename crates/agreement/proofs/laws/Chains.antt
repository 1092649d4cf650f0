-- What holds of each opened one and of its journal: each line leads back to a state that belongs to its opening and holds only what was said.
use Rattle.std.specs.Prelude.{ℕ, Bool, List, [], ◌∷◌, ◌⊎◌, ◌≡◌, refl, Option, Some, None}
use Rattle.std.proofs.Common.{inl, inr, sym, eq-eqb}
use Rattle.settings.specs.Rules.{Ruled}
use Rattle.agreement.specs.Evidence.{World, Honest}
use Rattle.agreement.specs.History.{Act, History, by, Lawful}
use Rattle.held.specs.laws.Held.{Message}
use Rattle.agreement.specs.Moments.{Within, now, after}
use Rattle.agreement.proofs.laws.Moments.{within_cases}
use Rattle.agreement.proofs.laws.Runs.{Gone, Inv, inv_keep}
use Rattle.calls.specs.Machine.{Machine, Call, opening, delivery, turn, report, restore, recording, place, left, words}
use Rattle.agreement.specs.Journals.{Moment, Journal, bytes, journal}
use Rattle.agreement.proofs.laws.Worlds.{world_with}
use Rattle.agreement.specs.EngineRestores.{last_turn}
use Rattle.agreement.specs.DemandThree.{Departed}
use Rattle.agreement.proofs.laws.Machine.{Reading, Ran}
use Rattle.agreement.proofs.laws.Openings.{did, tell, status, history}

module _ (M : Machine) (R : Reading M) (start : ℕ → M.Words) where
  -- the act of a line
  abbrev pub noted : Moment M → Option Act
  noted [] = None
  noted (opening p o ∷ cs) = None
  noted (delivery p m b ∷ cs) = None
  noted (turn p l ∷ cs) = R.act (words M start cs p) l
  noted (report p r ∷ cs) = None
  noted (restore p v r ∷ cs) = None
  noted (recording p x ∷ cs) = None

  -- a stands in a journal
  abbrev pub Noted : Journal M → Act → Type 0
  Noted [] a = ⊥
  Noted (d ∷ js) a = (noted d ≡ Some a) ⊎ Noted js a

  pub noted_within : {d : Moment M} {ks js : Journal M} (a : Act) → Within (d ∷ ks) js → noted d ≡ Some a → Noted js a
  noted_within a now e = inl e
  noted_within a (after c w) e = inr (noted_within a w e)

  pub words_here : (c : Call M) (cs : List (Call M)) → words M start (c ∷ cs) (place M c) ≡ left M c (words M start cs (place M c))
  unfolding words
  words_here c cs = rw (eq-eqb (place M c) (place M c) refl)

  tell_within : {k : History} (p : ℕ) (x : Option Act) (h : History) → Within k h → Within k (tell M R p x h)
  tell_within p None h w = w
  tell_within p (Some a) h w = after (by p a) w

  pub history_within : {ds cs : List (Call M)} → Within ds cs → Within (history M R start ds) (history M R start cs)
  unfolding history
  history_within now = now
  history_within (after {cs = cs} c w) = tell_within (place M c) (did M R c (words M start cs (place M c)) (status M R start cs (place M c))) (history M R start cs) (history_within w)

-- calls: the whole list; κ: its coins
module _ (M : Machine) (R : Reading M) (H : ℕ → Bool) (κ : ℕ → ℕ → Bool) (start : ℕ → M.Words) (S : M.Session) (calls : List (Call M)) where
  abbrev W : World
  W = world_with M S H κ

  -- the message x of m left
  pub record Left (m : ℕ) (x : Message) : Type 0 where
    pub bytes : M.Bytes
    pub departed : Departed M start calls m bytes
    pub honest : Honest W m
    pub says : R.Says S m bytes x

  abbrev pub Keeps : History → (Act → Type 0) → ℕ → M.Words → Type 0
  Keeps h J p w = Inv W R.seen Left h J p w

  -- a line of p's journal, with the older ones: the words after it belong to the opening, follow from the lines, and hold what was said
  pub record Point (o : M.Opening) (h : History) (p : ℕ) (d : Moment M) (ks : Journal M) : Type 0 where
    pub belongs : R.Belongs o (words M start d p)
    pub ran : Ran M (bytes M (d ∷ ks)) (words M start d p) (last_turn M start d)
    pub keeps : Keeps h (Noted M R start (d ∷ ks)) p (words M start d p)

  abbrev pub Chain : M.Opening → History → ℕ → Journal M → Type 0
  Chain o h p js = (d : Moment M) (ks : Journal M) → Within (d ∷ ks) js → Point o h p d ks

  -- p was opened by o, w are its words and js its journal: the words are those after the last line
  pub record Live (o : M.Opening) (h : History) (p : ℕ) (w : M.Words) (js : Journal M) : Type 0 where
    pub session : M.session o ≡ S
    pub ruled : Ruled (M.settings S)
    pub numbered : M.own o ≡ p
    pub last : Moment M
    pub older : Journal M
    pub ends : js ≡ last ∷ older
    pub same : w ≡ words M start last p
    pub chain : Chain o h p js

  abbrev pub At : Option M.Opening → History → ℕ → M.Words → Journal M → Type 0
  At None h p w js = Unit {0}
  At (Some o) h p w js = Live o h p w js

  pub record Good (cs : List (Call M)) : Type 0 where
    pub lawful : Lawful W (Gone W R.seen Left) (history M R start cs)
    pub each : (p : ℕ) → At (status M R start cs p) (history M R start cs) p (words M start cs p) (journal M start cs p)

-- ---- what a live one has

module _ {M : Machine} {R : Reading M} {H : ℕ → Bool} {κ : ℕ → ℕ → Bool} {start : ℕ → M.Words} {S : M.Session} {calls : List (Call M)} {o : M.Opening} {h : History} {p : ℕ} where
  module _ {w : M.Words} {js : Journal M} (live : Live M R H κ start S calls o h p w js) where
    newest_point : Point M R H κ start S calls o h p live.last live.older
    newest_point = live.chain live.last live.older (rw live.ends now)

    pub belongs : R.Belongs o w
    belongs = rw live.same newest_point.belongs

    pub ran : Ran M (bytes M js) w (last_turn M start live.last)
    ran = rw (live.same, live.ends) newest_point.ran

    pub keeps : Keeps M R H κ start S calls h (Noted M R start js) p w
    keeps = rw (live.same, live.ends) newest_point.keeps

  point_keep : (x : Option Act) (q : ℕ) (d : Moment M) (ks : Journal M) → Point M R H κ start S calls o h p d ks → Point M R H κ start S calls o (tell M R q x h) p d ks
  point_keep None q d ks x = x
  point_keep (Some a) q d ks x =
      record { belongs = x.belongs; ran = x.ran; keeps = inv_keep (world_with M S H κ) R.seen (Left M R H κ start S calls) (by q a) h (Noted M R start (d ∷ ks)) p (words M start d p) x.keeps }

  module _ {w : M.Words} {js : Journal M} (live : Live M R H κ start S calls o h p w js) where
    -- whatever is done, by whomever
    pub live_keep : (x : Option Act) (q : ℕ) → Live M R H κ start S calls o (tell M R q x h) p w js
    live_keep x q =
        record {
          session = live.session;
          ruled = live.ruled;
          numbered = live.numbered;
          last = live.last;
          older = live.older;
          ends = live.ends;
          same = live.same;
          chain = λ d ks v. point_keep x q d ks (live.chain d ks v);
        }

    -- one more line
    pub live_line : (x : Option Act) (d : Moment M) (v : M.Words) → words M start d p ≡ v → Point M R H κ start S calls o (tell M R p x h) p d js → Live M R H κ start S calls o (tell M R p x h) p v (d ∷ js)
    live_line x d v e new =
        record {
          session = live.session;
          ruled = live.ruled;
          numbered = live.numbered;
          last = d;
          older = js;
          ends = refl;
          same = sym e;
          chain = λ f ks u. at f ks (within_cases d js u);
        }
      where
        at : (f : Moment M) (ks : Journal M) → (f ∷ ks ≡ d ∷ js) ⊎ Within (f ∷ ks) js → Point M R H κ start S calls o (tell M R p x h) p f ks
        at f ks (inl q) =
            let a : f ≡ d = cc in
            let b : ks ≡ js = cc in
            rw (a, b) new
        at f ks (inr u) = point_keep x p f ks (live.chain f ks u)

module _ (M : Machine) (R : Reading M) (H : ℕ → Bool) (κ : ℕ → ℕ → Bool) (start : ℕ → M.Words) (S : M.Session) (calls : List (Call M)) where
  pub elsewhere : (st : Option M.Opening) (x : Option Act) (h : History) (p q : ℕ) (w : M.Words) (js : Journal M) → At M R H κ start S calls st h q w js → At M R H κ start S calls st (tell M R p x h) q w js
  elsewhere None x h p q w js g = tt
  elsewhere (Some o) x h p q w js g = live_keep g x p

  -- one that is opened is live
  pub known_live : (cs : List (Call M)) → Good M R H κ start S calls cs → (p : ℕ) (o : M.Opening) → status M R start cs p ≡ Some o → Live M R H κ start S calls o (history M R start cs) p (words M start cs p) (journal M start cs p)
  known_live cs g p o e = rw e at (g.each p)
