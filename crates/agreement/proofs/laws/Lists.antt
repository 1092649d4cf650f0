-- A list of calls that meets the conditions makes a lawful history of the opened ones' acts, lost lines included, and each opened one's state,
-- and every state that its journal leads back to, holds only what was said in it.
use Rattle.std.specs.Prelude.{ℕ, Bool, true, false, ◌&&◌, cond, ◌⊎◌, ◌≡◌, eqb, length, Option, Some, None}
use Rattle.std.proofs.lemmas.Bool.{false≢true}
use mathlib.Core.List.{List, [], ◌∷◌, ◌++◌}
use Rattle.std.proofs.Common.{inl, inr, sym, ap, ◌∙◌, eq-eqb, ne_eqb, eqb-true}
use Rattle.std.proofs.Math.Path.{refl}
use Rattle.std.proofs.Math.Decide.{ℕ_discrete}
use Rattle.agreement.specs.Evidence.{World, Honest}
use Rattle.agreement.specs.History.{Act, History, Did, Lawful, Single}
use Rattle.held.specs.laws.Held.{Message, ECHO, AUX}
use Rattle.agreement.specs.Moments.{Within, now, after}
use Rattle.agreement.proofs.laws.Moments.{within_tail, within_trans, within_cases, within_none}
use Rattle.agreement.proofs.laws.Runs.{Said, message, echo_of, aux_of, said_of, Gone, Credit, CoinsAre, due_guard, inv_blank, inv_fewer, inv_kept, inv_delivered, inv_acted}
use Rattle.calls.specs.Machine.{Machine, Call, opening, delivery, turn, report, restore, recording, place, left, words}
use Rattle.agreement.specs.Journals.{Moment, Journal, wrote, bytes, complete, journal}
use Rattle.agreement.proofs.laws.Worlds.{world, world_with}
use Rattle.agreement.specs.EngineRestores.{last_turn}
use Rattle.agreement.specs.DemandThree.{Sent, FallsBack, Conditions}
use Rattle.agreement.proofs.laws.Machine.{Reading, Turned, Laws, by_opening, by_delivery, by_turn}
use Rattle.agreement.proofs.laws.Openings.{none_some, becomes, did, tell, status, history, Known, opened_known, known_opened}
use Rattle.agreement.proofs.laws.Coins.{Coined}
use Rattle.agreement.proofs.laws.Journals.{cut_at, complete_within, journal_within, opened_within, conditions_within, departed_sent}
use Rattle.agreement.proofs.laws.Chains.{noted, Noted, noted_within, words_here, history_within, belongs, ran, keeps, live_keep, live_line, elsewhere, known_live}
use Rattle.agreement.proofs.laws.Chains as chains
use Rattle.agreement.proofs.laws.Recordings.{first_coins, live_recording}

-- calls: the whole list; κ: its coins
module _ (M : Machine) (R : Reading M) (H : ℕ → Bool) (κ : ℕ → ℕ → Bool) (laws : Laws M R H κ) (start : ℕ → M.Words) (S : M.Session) (calls : List (Call M)) (coined : Coined M start S κ calls) where
  abbrev W : World
  W = world_with M S H κ

  -- who is honest does not turn on coins
  listed : (m : ℕ) → Honest W m → Honest (world M S H) m
  listed m h = record { low = h.low; high = h.high; fair = h.fair }

  abbrev Left : ℕ → Message → Type 0
  Left = chains.Left M R H κ start S calls

  abbrev Keeps : History → (Act → Type 0) → ℕ → M.Words → Type 0
  Keeps = chains.Keeps M R H κ start S calls

  abbrev Point : M.Opening → History → ℕ → Moment M → Journal M → Type 0
  Point = chains.Point M R H κ start S calls

  abbrev Live : M.Opening → History → ℕ → M.Words → Journal M → Type 0
  Live = chains.Live M R H κ start S calls

  abbrev At : Option M.Opening → History → ℕ → M.Words → Journal M → Type 0
  At = chains.At M R H κ start S calls

  abbrev Good : List (Call M) → Type 0
  Good = chains.Good M R H κ start S calls

  -- ---- what is credited was said

  -- the act of a message that was sent
  record SentAct (cs : List (Call M)) (m : ℕ) (x : Message) (s : Moment M) : Type 0 where
    act : Act
    says : x ≡ message W act
    notes : noted M R start s ≡ Some act
    done : Did (history M R start cs) m act

  sent_act : (cs : List (Call M)) → ((ds : List (Call M)) → Within ds cs → Good ds) → (m : ℕ) (b : M.Bytes) (x : Message) → R.Says S m b x → (sent : Sent M start cs m b) → SentAct cs m x (turn m sent.lent ∷ sent.past)
  unfolding history
  sent_act cs past m b x says sent = of (opened_known M R start sent.past m sent.opened)
    where
      within : Within (turn m sent.lent ∷ sent.past) cs
      within = journal_within M start cs m (turn m sent.lent ∷ sent.past) sent.stands.older sent.stands.within

      of : Known M R start sent.past m → SentAct cs m x (turn m sent.lent ∷ sent.past)
      of k = go (R.act w sent.lent) refl (laws.turn_told k.by_opening w (belongs live) (keeps live).coins sent.lent)
        where
          w : M.Words
          w = words M start sent.past m

          live : Live k.by_opening (history M R start sent.past) m w (journal M start sent.past m)
          live = known_live M R H κ start S calls sent.past (past sent.past (within_tail (turn m sent.lent) within)) m k.by_opening k.known

          go : (y : Option Act) → R.act w sent.lent ≡ y → Turned M R H κ k.by_opening w sent.lent y → SentAct cs m x (turn m sent.lent ∷ sent.past)
          go None e q = absurd (q.silent b sent.sends)
          go (Some a) e q =
              let s : R.Says S m b (message W a) = rw (live.session, live.numbered) at (q.says b sent.sends) in
              let d : Did (history M R start (turn m sent.lent ∷ sent.past)) m a = rw (k.known, e) (inl refl) in
              record { act = a; says = laws.says_one S m b x (message W a) says s; notes = e; done = did_later a (history_within M R start within) d }
            where
              did_later : (a : Act) {h k : History} → Within h k → Did h m a → Did k m a
              did_later a now d = d
              did_later a (after c v) d = inr (did_later a v d)

  credit_said : (cs : List (Call M)) → ((ds : List (Call M)) → Within ds cs → Good ds) → (m : ℕ) (b : M.Bytes) (x : Message) → R.Says S m b x → Sent M start cs m b → Said W (history M R start cs) m x
  credit_said cs past m b x says sent =
      let y = sent_act cs past m b x says sent in
      rw y.says (said_of W (history M R start cs) m y.act y.done)

  -- ---- each call at its place

  module _ (cs : List (Call M)) (past : (ds : List (Call M)) → Within ds cs → Good ds) where
    abbrev h : History
    h = history M R start cs

    abbrev now_words : ℕ → M.Words
    now_words p = words M start cs p

    abbrev now_status : ℕ → Option M.Opening
    now_status p = status M R start cs p

    abbrev now_journal : ℕ → Journal M
    now_journal p = journal M start cs p

    good_now : Good cs
    good_now = past cs now

    -- a call keeps what holds at its place
    record Placed (c : Call M) (st : Option M.Opening) : Type 0 where
      lawful : Lawful W (Gone W R.seen Left) (tell M R (place M c) (did M R c (now_words (place M c)) st) h)
      at : At (becomes M R c (now_words (place M c)) st) (tell M R (place M c) (did M R c (now_words (place M c)) st) h) (place M c) (left M c (now_words (place M c))) (wrote M c (now_words (place M c)) (c ∷ cs) (now_journal (place M c)))

    placed_opening : (p : ℕ) (o : M.Opening) → Conditions M start S H (opening p o ∷ cs) → Placed (opening p o) (now_status p)
    unfolding bytes
    placed_opening p o c = go (now_status p) refl (good_now.each p)
      where
        w : M.Words
        w = now_words p

        js : Journal M
        js = now_journal p

        d : Moment M
        d = opening p o ∷ cs

        first : M.own o ≡ p → M.opens w o ≡ true → Point o h p d []
        first e t =
            let same : M.session o ≡ S = c.agree p o cs now e t in
            let here : words M start d p ≡ M.opened w o = words_here M R start (opening p o) cs in
            record {
              belongs = rw here (laws.open_belongs w o t);
              ran = rw here (by_opening w o t);
              keeps = rw here (inv_blank W R.seen Left h (Noted M R start (d ∷ [])) p (M.opened w o) nothing (rw same at (laws.open_blank w o t)) (first_coins M R H κ laws start S calls coined w o same t));
            }
          where
            nothing : (a : Act) → Noted M R start (d ∷ []) a → ⊥
            nothing a (inl e) = none_some a e
            nothing a (inr x) = x

        fresh : (a : Bool) → eqb (M.own o) p ≡ a → (b : Bool) → M.opens w o ≡ b → At (cond (a && b) (Some o) None) h p (M.opened w o) (cond b (d ∷ []) js)
        fresh true e true t =
            let num : M.own o ≡ p = eqb-true (M.own o) p e in
            let same : M.session o ≡ S = c.agree p o cs now num t in
            record {
              session = same;
              ruled = rw same at (laws.open_ruled w o t);
              numbered = num;
              last = d;
              older = [];
              ends = refl;
              same = sym (words_here M R start (opening p o) cs);
              chain = λ f ks u. at num t f ks (within_cases d [] u);
            }
          where
            at : M.own o ≡ p → M.opens w o ≡ true → (f : Moment M) (ks : Journal M) → (f ∷ ks ≡ d ∷ []) ⊎ Within (f ∷ ks) [] → Point o h p f ks
            at e t f ks (inl q) =
                let a : f ≡ d = cc in
                let b : ks ≡ [] = cc in
                rw (a, b) (first e t)
            at e t f ks (inr u) = absurd (within_none u)
        fresh true e false t = tt
        fresh false e b t = tt

        again : (u : M.Opening) → Live u h p w js → (a b : Bool) → b ≡ false → At (cond (a && b) (Some o) (Some u)) h p w (cond b (d ∷ []) js)
        again u live a true f = absurd (false≢true (sym f))
        again u live true false f = live
        again u live false false f = live

        go : (st : Option M.Opening) → now_status p ≡ st → At st h p w js → Placed (opening p o) st
        go None e silent = record { lawful = good_now.lawful; at = fresh (eqb (M.own o) p) refl (M.opens w o) refl }
        go (Some u) e live =
            let f : M.opens w o ≡ false = c.once p o cs now (known_opened M R start cs p u e).is_opened_lem in
            record {
              lawful = good_now.lawful;
              at = rw (laws.open_refused w o f) (again u live (eqb (M.own o) p) (M.opens w o) f);
            }

    placed_delivery : (p m : ℕ) (b : M.Bytes) → Within (delivery p m b ∷ cs) calls → Conditions M start S H (delivery p m b ∷ cs) → Placed (delivery p m b) (now_status p)
    unfolding bytes
    placed_delivery p m b inside c = go (now_status p) refl (good_now.each p)
      where
        w : M.Words
        w = now_words p

        js : Journal M
        js = now_journal p

        d : Moment M
        d = delivery p m b ∷ cs

        verdict : (o : M.Opening) → now_status p ≡ Some o → Live o h p w js → (t : Bool) → M.accepts w m b ≡ t → Live o h p (M.delivered w m b) (cond t (d ∷ js) js)
        verdict o e live false t = rw (laws.deliver_refused w m b t) live
        verdict o e live true t =
            let x = laws.deliver_accepted o w (belongs live) m b t in
            let is_opened_lem = (known_opened M R start cs p o e).is_opened_lem in
            let says : R.Says S m b x.said = rw live.session at x.says in
            let credit : Honest W m → Credit W R.seen Left h m x.said =
            λ hm. record {
              said = credit_said cs past m b x.said says (c.credited p m b cs now is_opened_lem t (listed m hm));
              gone = record { bytes = b; departed = record { who = p; past = cs; within = inside; opened = is_opened_lem; accepted = t }; honest = hm; says = says };
            } in
            let here : words M start d p ≡ M.delivered w m b = words_here M R start (delivery p m b) cs in
            let kept = inv_delivered W R.seen Left h (Noted M R start js) p w (M.delivered w m b) (keeps live) (λ i r k y. (keeps live).coins i r k (x.coins i r k y)) m x.said credit (rw live.session at x.holds) in
            live_line live None d (M.delivered w m b) here
            (record {
              belongs = rw here x.belongs;
              ran = rw here (by_delivery (bytes M js) w (last_turn M start live.last) m b (ran live) t);
              keeps = rw here (inv_fewer W R.seen Left h (Noted M R start js) (Noted M R start (d ∷ js)) p (M.delivered w m b) older kept);
            })
          where
            older : (a : Act) → Noted M R start (d ∷ js) a → Noted M R start js a
            older a (inl e) = absurd (none_some a e)
            older a (inr x) = x

        go : (st : Option M.Opening) → now_status p ≡ st → At st h p w js → Placed (delivery p m b) st
        go None e silent = record { lawful = good_now.lawful; at = tt }
        go (Some o) e live = record { lawful = good_now.lawful; at = verdict o e live (M.accepts w m b) refl }

    placed_turn : (p : ℕ) (l : M.Lent) → Placed (turn p l) (now_status p)
    unfolding bytes
    placed_turn p l = go (now_status p) (good_now.each p)
      where
        w : M.Words
        w = now_words p

        js : Journal M
        js = now_journal p

        d : Moment M
        d = turn p l ∷ cs

        here : words M start d p ≡ M.turned w l
        here = words_here M R start (turn p l) cs

        -- one more line, or none
        written : (o : M.Opening) → Live o h p w js → (x : Option Act) → (Keeps (tell M R p x h) (Noted M R start (d ∷ js)) p (M.turned w l)) → (t : Bool) → M.acts w l ≡ t → Live o (tell M R p x h) p (M.turned w l) (cond t (d ∷ js) js)
        written o live x k false t = rw (laws.turn_idle o w (belongs live) l t) (live_keep live x p)
        written o live x k true t =
            live_line live x d (M.turned w l) here
            (record {
              belongs = rw here (laws.turn_belongs o w (belongs live) l);
              ran = rw here (by_turn (bytes M js) w (last_turn M start live.last) l (ran live) t);
              keeps = rw here k;
            })

        took : (o : M.Opening) → Live o h p w js → (x : Option Act) → R.act w l ≡ x → Turned M R H κ o w l x → Lawful W (Gone W R.seen Left) (tell M R p x h) × Live o (tell M R p x h) p (M.turned w l) (cond (M.acts w l) (d ∷ js) js)
        took o live None e q = (
          good_now.lawful,
          written o live None
              (inv_fewer W R.seen Left h (Noted M R start js) (Noted M R start (d ∷ js)) p (M.turned w l) older
              (inv_kept W R.seen Left h (Noted M R start js) p w (M.turned w l) (keeps live) (λ i r k y. (keeps live).coins i r k (q.coins i r k y)) (rw live.session at q.kept)))
              (M.acts w l) refl,
        )
          where
            older : (a : Act) → Noted M R start (d ∷ js) a → Noted M R start js a
            older a (inl f) = absurd (none_some a (sym e ∙ f))
            older a (inr x) = x
        took o live (Some a) e q =
            let outs = rw live.session at (laws.outputs_held o w (belongs live)) in
            let due = rw live.session at q.due in (
              (good_now.lawful, due_guard W R.seen Left h (Noted M R start js) p w (keeps live) outs a due),
              written o live (Some a)
                  (inv_acted W R.seen Left h (Noted M R start js) p w (M.turned w l) (keeps live) (λ i r k y. (keeps live).coins i r k (q.coins i r k y)) a due (rw live.session at q.acted) (Noted M R start (d ∷ js)) only)
                  (M.acts w l) refl,
            )
          where
            only : (b : Act) → Noted M R start (d ∷ js) b → (b ≡ a) ⊎ Noted M R start js b
            only b (inl f) = inl (let z : Some a ≡ Some b = sym e ∙ f in cc)
            only b (inr x) = inr x

        coins_at : (o : M.Opening) (live : Live o h p w js) → CoinsAre (world_with M (M.session o) H κ) R.seen w
        coins_at o live = (keeps live).coins

        go : (st : Option M.Opening) → At st h p w js → Placed (turn p l) st
        go None silent = record { lawful = good_now.lawful; at = tt }
        go (Some o) live =
            let x = took o live (R.act w l) refl (laws.turn_told o w (belongs live) (coins_at o live) l) in
            record { lawful = x.0; at = x.1 }

    placed_restore : (p : ℕ) (v : M.Words) (r : M.Restore) → Conditions M start S H (restore p v r ∷ cs) → Placed (restore p v r) (now_status p)
    placed_restore p v r c = go (now_status p) refl (good_now.each p)
      where
        w : M.Words
        w = now_words p

        js : Journal M
        js = now_journal p

        k : ℕ
        k = length (M.text r)

        back : (o : M.Opening) → Live o h p w js → FallsBack M start cs p v r → M.restores v r ≡ true → (is : Journal M) → complete M k js ≡ is → Live o h p (M.restored v r) is
        back o live f t [] e = absurd (f.first e)
        back o live f t (d ∷ ks) e =
            let cut = cut_at M k js in
            let inside : Within (d ∷ ks) js = rw e at (complete_within M k js) in
            let x = live.chain d ks inside in
            let is : M.text r ≡ bytes M (d ∷ ks) ++ cut.rest = f.cut ∙ cut.splits ∙ ap (λ (ls : Journal M). bytes M ls ++ cut.rest) e in
            record {
              session = live.session;
              ruled = live.ruled;
              numbered = live.numbered;
              last = d;
              older = ks;
              ends = refl;
              same = laws.restore_ran v r (bytes M (d ∷ ks)) cut.rest (words M start d p) (last_turn M start d) x.ran cut.torn is t;
              chain = λ g ls u. live.chain g ls (within_trans u inside);
            }

        verdict : (o : M.Opening) → now_status p ≡ Some o → Live o h p w js → (t : Bool) → M.restores v r ≡ t → Live o h p (M.restored v r) (cond t (complete M k js) js)
        verdict o e live false t = rw (laws.restore_refused v r t, c.not_lost p v r cs now (known_opened M R start cs p o e).is_opened_lem t) live
        verdict o e live true t = back o live (c.falls_back p v r cs now (known_opened M R start cs p o e).is_opened_lem t) t (complete M k js) refl

        go : (st : Option M.Opening) → now_status p ≡ st → At st h p w js → Placed (restore p v r) st
        go None e silent = record { lawful = good_now.lawful; at = tt }
        go (Some o) e live = record { lawful = good_now.lawful; at = verdict o e live (M.restores v r) refl }

    placed_recording : (p : ℕ) (x : M.Recording) → Within (recording p x ∷ cs) calls → Placed (recording p x) (now_status p)
    placed_recording p x inside = go (now_status p) refl (good_now.each p)
      where
        go : (st : Option M.Opening) → now_status p ≡ st → At st h p (now_words p) (now_journal p) → Placed (recording p x) st
        go None e silent = record { lawful = good_now.lawful; at = tt }
        go (Some o) e live =
            record { lawful = good_now.lawful; at = live_recording M R H κ laws start S calls coined cs p x inside (known_opened M R start cs p o e).is_opened_lem o h live (M.records (now_words p) x) refl }

    placed : (c : Call M) → Within (c ∷ cs) calls → Conditions M start S H (c ∷ cs) → Placed c (now_status (place M c))
    placed (opening p o) i c = placed_opening p o c
    placed (delivery p m b) i c = placed_delivery p m b i c
    placed (turn p l) i c = placed_turn p l
    placed (report p r) i c = record { lawful = good_now.lawful; at = good_now.each p }
    placed (restore p v r) i c = placed_restore p v r c
    placed (recording p x) i c = placed_recording p x i

    step : (c : Call M) → Within (c ∷ cs) calls → Conditions M start S H (c ∷ cs) → Good (c ∷ cs)
    unfolding status history words journal
    step c i k = record { lawful = here.lawful; each = λ q. at q (ℕ_discrete q (place M c)) }
      where
        here : Placed c (now_status (place M c))
        here = placed c i k

        at : (q : ℕ) → Dec (q ≡ place M c) → At (status M R start (c ∷ cs) q) (history M R start (c ∷ cs)) q (words M start (c ∷ cs) q) (journal M start (c ∷ cs) q)
        at q (yes e) = rw (e, eq-eqb (place M c) (place M c) refl) here.at
        at q (no ne) = rw (ne_eqb q (place M c) ne) (elsewhere M R H κ start S calls (now_status q) (did M R c (now_words (place M c)) (now_status (place M c))) h (place M c) q (now_words q) (now_journal q) (good_now.each q))

  -- ---- the whole list

  pub all_good : (cs : List (Call M)) → Within cs calls → Conditions M start S H cs → (ds : List (Call M)) → Within ds cs → Good ds
  unfolding status history
  all_good [] i k ds w = none_yet ds w
    where
      none_yet : (ds : List (Call M)) → Within ds [] → Good ds
      none_yet _ now = record { lawful = tt; each = λ p. tt }
  all_good (c ∷ cs) i k ds w = at ds w (λ es v. all_good cs (within_tail c i) (conditions_within M start S H (after c now) k) es v)
    where
      at : (ds : List (Call M)) → Within ds (c ∷ cs) → ((es : List (Call M)) → Within es cs → Good es) → Good ds
      at _ now past = step cs past c i k
      at ds (after d w) past = past ds w

  -- ---- of what left an ECHO is one for its sender and instance, an AUX for its sender, vote and round: their lines stand in one journal

  module _ (conditions : Conditions M start S H calls) where
    good : (ds : List (Call M)) → Within ds calls → Good ds
    good ds w = all_good calls now conditions ds w

    -- the act of what left stands in the journal at the end
    record LeftAct (m : ℕ) (x : Message) : Type 0 where
      act : Act
      says : x ≡ message W act
      stands : Noted M R start (journal M start calls m) act
      single : Single (λ q. Noted M R start (journal M start calls m))

    left_act : (m : ℕ) (x : Message) → Left m x → LeftAct m x
    left_act m x l =
        let s = departed_sent M start S H m l.bytes calls conditions (listed m l.honest) l.departed in
        let y = sent_act calls good m l.bytes x l.says s in
        let k = opened_known M R start calls m (opened_within M start m (within_tail (turn m s.lent) (journal_within M start calls m (turn m s.lent ∷ s.past) s.stands.older s.stands.within)) s.opened) in
        let live = known_live M R H κ start S calls calls (good calls now) m k.by_opening k.known in
        record {
          act = y.act;
          says = y.says;
          stands = noted_within M R start y.act s.stands.within y.notes;
          single = (keeps live).single;
        }

    pub left_single : Single (Gone W R.seen Left)
    left_single = record { echo_one = λ p i u v x y. echo_one p i u v (left_act p (ECHO i u) x) (left_act p (ECHO i v) y); aux_one = λ p i r b c x y. aux_one p i r b c (left_act p (AUX i r b) x) (left_act p (AUX i r c) y) }
      where
        echo_one : (p i u v : ℕ) → LeftAct p (ECHO i u) → LeftAct p (ECHO i v) → u ≡ v
        echo_one p i u v x y = x.single.echo_one p i u v (rw (echo_of W x.act i u x.says) at x.stands) (rw (echo_of W y.act i v y.says) at y.stands)

        aux_one : (p i r b c : ℕ) → LeftAct p (AUX i r b) → LeftAct p (AUX i r c) → b ≡ c
        aux_one p i r b c x y = x.single.aux_one p i r b c (rw (aux_of W x.act i r b x.says) at x.stands) (rw (aux_of W y.act i r c y.says) at y.stands)
