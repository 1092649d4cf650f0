-- After the calls `heard n` every message of the session is held.
use Prim.Native.Nat.{ℕ, zero, suc, ◌+◌, ◌-◌, ◌≤◌}
use Rattle.std.specs.Prelude.{true, ◌≡◌}
use mathlib.Core.List.{List, []}
use Rattle.std.proofs.Common.{inl, inr, ◌∙◌}
use Rattle.std.proofs.Math.Path.{refl, subst}
use native.Mathlib.Omega.{arith}
use Rattle.std.proofs.Math.Decide.{dec_le}
use Rattle.settings.specs.Versions.{FIRST_VERSION}
use Rattle.wire.specs.laws.Kinds.{first_last}
use Rattle.records.specs.Layout.{turns_at, vote_at, est_mark, aux_mark}
use Rattle.records.specs.Words.{word, marked}
use Rattle.commits.specs.Commits.{commit_held}
use Rattle.wire.specs.Bytes.{rises_from, rises}
use Rattle.wire.specs.Message.{values_of, encode}
use Rattle.wire.specs.declared.Message as wire_message
use Rattle.wire.specs.declared.Message.TheVariants as wire
use Rattle.wire_laws.specs.Proper.{Layout, Proper}
use Rattle.delivery.specs.Delivery.{delivered}
use Rattle.delivery.specs.laws.Frame.{MarkWord, mark_word_of, mark_of}
use Rattle.delivery.specs.laws.Held.{NotCommit}
use Rattle.turn_bound.proofs.laws.Delivering.{delivery_sound}
use Rattle.held.specs.laws.Held.{meaning}
use Rattle.held.specs.laws.Staying.{Stays, stays_same, stays_then}
use Rattle.costliest.specs.Calls.{Calls, each, packs, say, sends, readies, ests, auxs, commit, heard}
use Rattle.costliest.proofs.laws.Words.{after, say_after}
use Rattle.costliest.proofs.laws.Saying.{terms, Allowed, Good, ruled, Said, say_mark, say_commit, commit_proper}

module _ (n : ℕ) (low : 1 ≤ n) (few : n ≤ 16) (first : List ℕ) where
  -- the calls of f keep all that is held, and the count of turns, and leave F
  pub record Brings (c : ℕ) (F : List ℕ → Type 0) (f : Calls → Calls) (cs : Calls) : Type 0 where
    pub good : Good n c (after first (f cs))
    pub keeps : Stays (after first cs) (after first (f cs))
    pub fact : F (after first (f cs))
    pub count : word (after first (f cs)) turns_at ≡ word (after first cs) turns_at

  abbrev pub Bringing : ℕ → (List ℕ → Type 0) → (Calls → Calls) → Type 0
  Bringing c F f = (cs : Calls) → Good n c (after first cs) → Brings c F f cs

  abbrev Stable : (List ℕ → Type 0) → Type 0
  Stable F = (s t : List ℕ) → Stays s t → F s → F t

  -- F holds for each of 1 to k
  abbrev Each : (ℕ → List ℕ → Type 0) → ℕ → List ℕ → Type 0
  Each F k s = (i : ℕ) → 1 ≤ i → i ≤ k → F i s

  each_bringing : (c : ℕ) (F : ℕ → List ℕ → Type 0) (f : ℕ → Calls → Calls) (k : ℕ) → ((i : ℕ) → 1 ≤ i → i ≤ k → Stable (F i)) → ((i : ℕ) → 1 ≤ i → i ≤ k → Bringing c (F i) (f i)) → Bringing c (Each F k) (each f k)
  unfolding each
  each_bringing c F f zero st h cs x = record { good = x; keeps = stays_same (after first cs); fact = λ i a b. absurd (omega arith); count = refl }
  each_bringing c F f (suc k) st h cs x = of (each_bringing c F f k (λ i a b. st i a (omega arith)) (λ i a b. h i a (omega arith)) cs x)
    where
      of : Brings c (Each F k) (each f k) cs → Brings c (Each F (suc k)) (λ ds. f (suc k) (each f k ds)) cs
      of y = last (h (suc k) (omega arith) (omega arith) (each f k cs) y.good)
        where
          last : Brings c (F (suc k)) (f (suc k)) (each f k cs) → Brings c (Each F (suc k)) (λ ds. f (suc k) (each f k ds)) cs
          last z = record { good = z.good; keeps = stays_then y.keeps z.keeps; fact = λ i a b. at i a b (dec_le i k); count = z.count ∙ y.count }
            where
              at : (i : ℕ) → 1 ≤ i → i ≤ suc k → Dec (i ≤ k) → F i (after first (f (suc k) (each f k cs)))
              at i a b (yes l) = st i a b _ _ z.keeps (y.fact i a l)
              at i a b (no l) = let e : suc k ≡ i = omega arith in subst (λ (j : ℕ). F j (after first (f (suc k) (each f k cs)))) e z.fact

  each_stable : (F : ℕ → List ℕ → Type 0) (k : ℕ) → ((i : ℕ) → 1 ≤ i → i ≤ k → Stable (F i)) → Stable (Each F k)
  each_stable F k h s t y f i a b = h i a b s t y (f i a b)

  -- two after one another
  both_bringing : (c : ℕ) (F G : List ℕ → Type 0) (f g : Calls → Calls) → Stable F → Bringing c F f → Bringing c G g → Bringing c (λ s. F s × G s) (λ cs. g (f cs))
  both_bringing c F G f g st p q cs x = of (p cs x)
    where
      of : Brings c F f cs → Brings c (λ s. F s × G s) (λ ds. g (f ds)) cs
      of y = last (q (f cs) y.good)
        where
          last : Brings c G g (f cs) → Brings c (λ s. F s × G s) (λ ds. g (f ds)) cs
          last z = record { good = z.good; keeps = stays_then y.keeps z.keeps; fact = (st _ _ z.keeps y.fact, z.fact); count = z.count ∙ y.count }

  -- ---- one message

  abbrev Marked : ℕ → ℕ → List ℕ → Type 0
  Marked k q s = marked s k q ≡ true

  marked_stable : (k q : ℕ) → MarkWord k → Stable (Marked k q)
  marked_stable k q w s t y e = y.marks k w q e

  -- its fields fit a byte each
  said_after : (p : ℕ) → p ≤ n → (m : wire_message.Message) → Layout n p m → (cs : Calls) → after first (say p m cs) ≡ delivered (after first cs) p (encode m FIRST_VERSION p 7 packs)
  said_after p hi (wire.Send i v) l cs = say_after first p (wire.Send i v) cs (omega arith) (omega (arith, l)) (omega arith) (omega arith)
  said_after p hi (wire.Echo i v) l cs = say_after first p (wire.Echo i v) cs (omega arith) (omega (arith, l.1)) (omega arith) (omega arith)
  said_after p hi (wire.Ready i v) l cs = say_after first p (wire.Ready i v) cs (omega arith) (omega (arith, l.1)) (omega arith) (omega arith)
  said_after p hi (wire.Est i r v) l cs = say_after first p (wire.Est i r v) cs (omega arith) (omega (arith, l.1)) (omega (arith, l.3)) (omega arith)
  said_after p hi (wire.Aux i r v) l cs = say_after first p (wire.Aux i r v) cs (omega arith) (omega (arith, l.1)) (omega (arith, l.3)) (omega arith)
  said_after p hi (wire.Commit k) l cs = say_after first p (wire.Commit k) cs (omega arith) (omega arith) (omega arith) (omega (arith, l.1))
  said_after p hi (wire.Finish i v) l cs = say_after first p (wire.Finish i v) cs (omega arith) (omega (arith, l.1)) (omega arith) (omega arith)

  same_count : (c : ℕ) (cs : Calls) → Good n c (after first cs) → (p : ℕ) (m : wire_message.Message) → word (delivered (after first cs) p (encode m FIRST_VERSION p 7 packs)) turns_at ≡ word (after first cs) turns_at
  same_count c cs x p m = (delivery_sound (terms n) (ruled n c low few) (after first cs) x.sound p (encode m FIRST_VERSION p 7 packs)).count

  say_bringing : (c p : ℕ) → 1 ≤ p → p ≤ n → (m : wire_message.Message) → Proper FIRST_VERSION n p m packs → NotCommit m → Allowed n c p (meaning m packs) → Allowed n c p (meaning m (values_of m packs)) → Bringing c (Marked (mark_word_of p m) (mark_of p m)) (say p m)
  say_bringing c p lo hi m proper k a may cs x = of (say_mark n c low few (after first cs) x p lo hi m proper k a may)
    where
      of : Said n c low few (after first cs) x p lo hi m proper (λ t. marked t (mark_word_of p m) (mark_of p m) ≡ true) → Brings c (Marked (mark_word_of p m) (mark_of p m)) (say p m) cs
      of y = let e = said_after p hi m proper.layout cs in record { good = rw e y.good; keeps = rw e y.keeps; fact = rw e y.fact; count = rw e (same_count c cs x p m) }

  commit_bringing : (c p : ℕ) → 1 ≤ p → p ≤ n → p ≤ c → Bringing c (λ s. commit_held s p ≡ true) (commit n p)
  unfolding commit
  commit_bringing c p lo hi l cs x = of (say_commit n c low few (after first cs) x p lo hi l)
    where
      of : Said n c low few (after first cs) x p lo hi (wire.Commit n) (commit_proper n c low few (after first cs) x p lo hi) (λ t. commit_held t p ≡ true) → Brings c (λ s. commit_held s p ≡ true) (commit n p) cs
      of y = let e = said_after p hi (wire.Commit n) (low, omega arith) cs in record { good = rw e y.good; keeps = rw e y.keeps; fact = rw e y.fact; count = rw e (same_count c cs x p (wire.Commit n)) }

  -- ---- the messages of the session

  abbrev pub SendsHeld : List ℕ → Type 0
  SendsHeld = Each (λ i. Marked 140 i) n

  sends_bringing : (c : ℕ) → Bringing c SendsHeld (sends n)
  unfolding sends rises rises_from
  sends_bringing c =
      each_bringing c (λ i. Marked 140 i) (λ i. say i (wire.Send i i)) n (λ i lo hi. marked_stable 140 i (inr (inl refl)))
      (λ i lo hi. say_bringing c i lo hi (wire.Send i i) (record { kind = omega (arith, first_last); layout = refl; held = omega arith; fits = (omega arith, tt); rising = refl }) tt tt tt)

  abbrev ReadyHeld : ℕ → List ℕ → Type 0
  ReadyHeld i = Each (λ p. Marked (103 + i) p) n

  abbrev pub ReadiesHeld : List ℕ → Type 0
  ReadiesHeld = Each ReadyHeld n

  ready_stable : (i : ℕ) → 1 ≤ i → i ≤ n → Stable (ReadyHeld i)
  ready_stable i lo hi = each_stable (λ p. Marked (103 + i) p) n (λ p l h. marked_stable (103 + i) p (inl (omega arith, omega arith)))

  readies_bringing : (c : ℕ) → Bringing c ReadiesHeld (readies n)
  unfolding readies rises rises_from
  readies_bringing c =
      each_bringing c ReadyHeld (λ i. each (λ p. say p (wire.Ready i i)) n) n ready_stable
      (λ i lo hi. each_bringing c (λ p. Marked (103 + i) p) (λ p. say p (wire.Ready i i)) n (λ p l h. marked_stable (103 + i) p (inl (omega arith, omega arith)))
      (λ p l h. say_bringing c p l h (wire.Ready i i) (record { kind = omega (arith, first_last); layout = (lo, hi); held = omega arith; fits = (omega arith, tt); rising = refl }) tt refl refl))

  vote_word : (i r : ℕ) → 1 ≤ i → i ≤ n → 1 ≤ r → r ≤ 32 → MarkWord (vote_at i r)
  vote_word i r lo hi rl rh = inr (inr (inl (omega arith, omega arith)))

  -- EST of 0 and 1 from concentrator 1
  abbrev EstHeld : ℕ → ℕ → List ℕ → Type 0
  EstHeld i r s = Marked (vote_at i r) (est_mark 0 1) s × Marked (vote_at i r) (est_mark 1 1) s

  abbrev EstsOf : ℕ → List ℕ → Type 0
  EstsOf i = Each (EstHeld i) 32

  abbrev pub EstsHeld : List ℕ → Type 0
  EstsHeld = Each EstsOf n

  est_stable : (i r : ℕ) → 1 ≤ i → i ≤ n → 1 ≤ r → r ≤ 32 → Stable (EstHeld i r)
  est_stable i r lo hi rl rh s t y e =
      (marked_stable (vote_at i r) (est_mark 0 1) (vote_word i r lo hi rl rh) s t y e.0, marked_stable (vote_at i r) (est_mark 1 1) (vote_word i r lo hi rl rh) s t y e.1)

  ests_bringing : (c : ℕ) → Bringing c EstsHeld (ests n)
  unfolding ests rises rises_from
  ests_bringing c =
      each_bringing c EstsOf (λ i. each (λ r cs. say 1 (wire.Est i r 1) (say 1 (wire.Est i r 0) cs)) 32) n (λ i lo hi. each_stable (EstHeld i) 32 (λ r rl rh. est_stable i r lo hi rl rh))
      (λ i lo hi. each_bringing c (EstHeld i) (λ r cs. say 1 (wire.Est i r 1) (say 1 (wire.Est i r 0) cs)) 32 (λ r rl rh. est_stable i r lo hi rl rh)
      (λ r rl rh. both_bringing c (Marked (vote_at i r) (est_mark 0 1)) (Marked (vote_at i r) (est_mark 1 1)) (say 1 (wire.Est i r 0)) (say 1 (wire.Est i r 1))
      (marked_stable (vote_at i r) (est_mark 0 1) (vote_word i r lo hi rl rh))
      (say_bringing c 1 (omega arith) low (wire.Est i r 0) (record { kind = omega (arith, first_last); layout = (lo, hi, rl, rh, omega arith); held = omega arith; fits = (omega arith, tt); rising = refl }) tt tt tt)
      (say_bringing c 1 (omega arith) low (wire.Est i r 1) (record { kind = omega (arith, first_last); layout = (lo, hi, rl, rh, omega arith); held = omega arith; fits = (omega arith, tt); rising = refl }) tt tt tt)))

  abbrev AuxHeld : ℕ → ℕ → List ℕ → Type 0
  AuxHeld i r = Each (λ p. Marked (vote_at i r) (aux_mark 0 p)) n

  abbrev AuxsOf : ℕ → List ℕ → Type 0
  AuxsOf i = Each (AuxHeld i) 32

  abbrev pub AuxsHeld : List ℕ → Type 0
  AuxsHeld = Each AuxsOf n

  aux_stable : (i r : ℕ) → 1 ≤ i → i ≤ n → 1 ≤ r → r ≤ 32 → Stable (AuxHeld i r)
  aux_stable i r lo hi rl rh = each_stable (λ p. Marked (vote_at i r) (aux_mark 0 p)) n (λ p l h. marked_stable (vote_at i r) (aux_mark 0 p) (vote_word i r lo hi rl rh))

  auxs_bringing : (c : ℕ) → Bringing c AuxsHeld (auxs n)
  unfolding auxs rises rises_from
  auxs_bringing c =
      each_bringing c AuxsOf (λ i. each (λ r. each (λ p. say p (wire.Aux i r 0)) n) 32) n (λ i lo hi. each_stable (AuxHeld i) 32 (λ r rl rh. aux_stable i r lo hi rl rh))
      (λ i lo hi. each_bringing c (AuxHeld i) (λ r. each (λ p. say p (wire.Aux i r 0)) n) 32 (λ r rl rh. aux_stable i r lo hi rl rh)
      (λ r rl rh. each_bringing c (λ p. Marked (vote_at i r) (aux_mark 0 p)) (λ p. say p (wire.Aux i r 0)) n (λ p l h. marked_stable (vote_at i r) (aux_mark 0 p) (vote_word i r lo hi rl rh))
      (λ p l h. say_bringing c p l h (wire.Aux i r 0) (record { kind = omega (arith, first_last); layout = (lo, hi, rl, rh, omega arith); held = omega arith; fits = (omega arith, tt); rising = refl }) tt refl refl)))

  -- all of them
  pub record Heard (s : List ℕ) : Type 0 where
    pub sent : SendsHeld s
    pub readied : ReadiesHeld s
    pub estimated : EstsHeld s
    pub voted : AuxsHeld s
    pub committed : commit_held s 1 ≡ true

  pub heard_stable : (s t : List ℕ) → Stays s t → Heard s → Heard t
  heard_stable s t k y =
      record {
        sent = each_stable (λ i. Marked 140 i) n (λ i lo hi. marked_stable 140 i (inr (inl refl))) s t k y.sent;
        readied = each_stable ReadyHeld n ready_stable s t k y.readied;
        estimated = each_stable EstsOf n (λ i lo hi. each_stable (EstHeld i) 32 (λ r rl rh. est_stable i r lo hi rl rh)) s t k y.estimated;
        voted = each_stable AuxsOf n (λ i lo hi. each_stable (AuxHeld i) 32 (λ r rl rh. aux_stable i r lo hi rl rh)) s t k y.voted;
        committed = k.commits 1 (omega arith) (omega arith) y.committed;
      }

  pub record Prepared (s : List ℕ) : Type 0 where
    pub good : Good n 1 s
    pub all : Heard s

  pub heard_ready : Good n 1 (after first []) → Prepared (after first (heard n))
  unfolding heard
  heard_ready x = a (sends_bringing 1 [] x)
    where
      a : Brings 1 SendsHeld (sends n) [] → Prepared (after first (heard n))
      a y1 = b (readies_bringing 1 (sends n []) y1.good)
        where
          b : Brings 1 ReadiesHeld (readies n) (sends n []) → Prepared (after first (heard n))
          b y2 = c (ests_bringing 1 (readies n (sends n [])) y2.good)
            where
              c : Brings 1 EstsHeld (ests n) (readies n (sends n [])) → Prepared (after first (heard n))
              c y3 = d (auxs_bringing 1 (ests n (readies n (sends n []))) y3.good)
                where
                  d : Brings 1 AuxsHeld (auxs n) (ests n (readies n (sends n []))) → Prepared (after first (heard n))
                  d y4 = e (commit_bringing 1 1 (omega arith) low (omega arith) (auxs n (ests n (readies n (sends n [])))) y4.good)
                    where
                      e : Brings 1 (λ s. commit_held s 1 ≡ true) (commit n 1) (auxs n (ests n (readies n (sends n [])))) → Prepared (after first (heard n))
                      e y5 =
                          let k4 = y5.keeps in
                          let k3 = stays_then y4.keeps k4 in
                          let k2 = stays_then y3.keeps k3 in
                          let k1 = stays_then y2.keeps k2 in
                          record {
                            good = y5.good;
                            all =
                                record {
                                  sent = each_stable (λ i. Marked 140 i) n (λ i lo hi. marked_stable 140 i (inr (inl refl))) _ _ k1 y1.fact;
                                  readied = each_stable ReadyHeld n ready_stable _ _ k2 y2.fact;
                                  estimated = each_stable EstsOf n (λ i lo hi. each_stable (EstHeld i) 32 (λ r rl rh. est_stable i r lo hi rl rh)) _ _ k3 y3.fact;
                                  voted = each_stable AuxsOf n (λ i lo hi. each_stable (AuxHeld i) 32 (λ r rl rh. aux_stable i r lo hi rl rh)) _ _ k4 y4.fact;
                                  committed = y5.fact;
                                };
                          }

  pub commits_bringing : Bringing n (λ s. (p : ℕ) → 1 ≤ p → p ≤ n - 1 → commit_held s (p + 1) ≡ true) (each (λ p. commit n (p + 1)) (n - 1))
  commits_bringing =
      each_bringing n (λ p s. commit_held s (p + 1) ≡ true) (λ p. commit n (p + 1)) (n - 1)
      (λ p lo hi s t y e. y.commits (p + 1) (omega arith) (omega arith) e)
      (λ p lo hi. commit_bringing n (p + 1) (omega arith) (omega arith) (omega arith))
