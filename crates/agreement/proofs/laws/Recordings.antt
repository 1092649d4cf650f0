-- The coins that an opened one shows are the session's: after its opening, and after a recording, which keeps all else that holds there.
use Rattle.std.specs.Prelude.{ℕ, Bool, true, false, cond, List, ◌∷◌, ◌⊎◌, ◌≡◌, refl, None}
use Rattle.std.proofs.lemmas.Bool.{false≢true}
use Rattle.std.proofs.Common.{inl, inr, sym, ◌∙◌, arith}
use Rattle.votes.specs.Votes.{coin_value}
use Rattle.agreement.specs.Evidence.{World}
use Rattle.agreement.specs.History.{Act, History}
use Rattle.agreement.specs.Moments.{Within}
use Rattle.agreement.proofs.laws.Runs.{CoinsAre, inv_fewer, inv_kept}
use Rattle.calls.specs.Machine.{Machine, Call, recording, words}
use Rattle.agreement.specs.Journals.{Moment, Journal, bytes, journal}
use Rattle.agreement.proofs.laws.Worlds.{world_with}
use Rattle.agreement.specs.EngineRestores.{last_turn}
use Rattle.agreement.specs.DemandThree.{Opened}
use Rattle.agreement.proofs.laws.Machine.{Reading, Laws, by_recording}
use Rattle.agreement.proofs.laws.Openings.{none_some}
use Rattle.agreement.proofs.laws.Coins.{Coined}
use Rattle.agreement.proofs.laws.Chains.{Noted, Left, Live, words_here, belongs, ran, keeps, live_line}

coin_one : (c k : Bool) → coin_value c ≡ coin_value k → c ≡ k
coin_one true true e = refl
coin_one false false e = refl
coin_one true false e = absurd (omega (arith, e))
coin_one false true e = absurd (omega (arith, e))

-- calls: the whole list; κ: its coins
module _ (M : Machine) (R : Reading M) (H : ℕ → Bool) (κ : ℕ → ℕ → Bool) (laws : Laws M R H κ) (start : ℕ → M.Words) (S : M.Session) (calls : List (Call M)) (coined : Coined M start S κ calls) where
  abbrev W : World
  W = world_with M S H κ

  pub first_coins : (w : M.Words) (o : M.Opening) → M.session o ≡ S → M.opens w o ≡ true → CoinsAre W R.seen (M.opened w o)
  first_coins w o same t i r c x =
      let y = laws.open_coins w o t i r c x in
      let q : M.boxed S ≡ false = rw same at y.0 in
      let z : c ≡ M.coin S i r = rw same at y.1 in
      z ∙ coined.printed q i r

  -- the recording x at p after cs, where p was opened by o
  module _ (cs : List (Call M)) (p : ℕ) (x : M.Recording) (inside : Within (recording p x ∷ cs) calls) (opened : Opened M start cs p) (o : M.Opening) (h : History) (live : Live M R H κ start S calls o h p (words M start cs p) (journal M start cs p)) where
    abbrev w : M.Words
    w = words M start cs p

    abbrev js : Journal M
    js = journal M start cs p

    abbrev d : Moment M
    d = recording p x ∷ cs

    module _ (t : M.records w x ≡ true) where
      -- the session is boxed, since it accepts
      boxed : (b : Bool) → M.boxed (M.session o) ≡ b → M.boxed S ≡ true
      boxed true e = rw live.session at e
      boxed false e = absurd (false≢true (sym (laws.record_printed o w (belongs live) e x) ∙ t))

      -- its bit is the session's
      the_bit : M.bit x ≡ coin_value (κ (M.vote x) (M.round x))
      the_bit = coined.recorded (boxed (M.boxed (M.session o)) refl) p x (record { past = cs; within = inside; opened = opened; accepted = t })

      coins : CoinsAre W R.seen (M.recorded w x)
      coins i r c y = at ((laws.record_accepted o w (belongs live) x t).coins i r c y)
        where
          at : R.seen.coin w i r c ⊎ ((i ≡ M.vote x) × (r ≡ M.round x) × (coin_value c ≡ M.bit x)) → c ≡ κ i r
          at (inl z) = (keeps live).coins i r c z
          at (inr z) = rw (z.0, z.1) (coin_one c (κ (M.vote x) (M.round x)) (z.2 ∙ the_bit))

      accepted : Live M R H κ start S calls o h p (M.recorded w x) (d ∷ js)
      unfolding bytes
      accepted =
          let y = laws.record_accepted o w (belongs live) x t in
          let here : words M start d p ≡ M.recorded w x = words_here M R start (recording p x) cs in
          let kept = inv_kept W R.seen (Left M R H κ start S calls) h (Noted M R start js) p w (M.recorded w x) (keeps live) coins (rw live.session at y.kept) in
          live_line live None d (M.recorded w x) here
          (record {
            belongs = rw here y.belongs;
            ran = rw here (by_recording (bytes M js) w (last_turn M start live.last) x (ran live) t);
            keeps = rw here (inv_fewer W R.seen (Left M R H κ start S calls) h (Noted M R start js) (Noted M R start (d ∷ js)) p (M.recorded w x) older kept);
          })
        where
          older : (a : Act) → Noted M R start (d ∷ js) a → Noted M R start js a
          older a (inl e) = absurd (none_some a e)
          older a (inr z) = z

    pub live_recording : (t : Bool) → M.records w x ≡ t → Live M R H κ start S calls o h p (M.recorded w x) (cond t (d ∷ js) js)
    live_recording false t = rw (laws.record_refused w x t) live
    live_recording true t = accepted t
