-- Journals: a cut leaves complete lines and a part of one more; what was written stays until a restore, and what left stays for good.
use Prim.Native.Nat.{ℕ, ◌+◌, ◌-◌, ◌≤◌, ◌<◌}
use Rattle.std.specs.Prelude.{Bool, cond, ◌⊎◌, ◌≡◌, eqb, leb, length, take, drop}
use Rattle.std.proofs.Math.Bool.{true, false}
use mathlib.Core.List.{List, [], ◌∷◌, ◌++◌, append-nil}
use Rattle.std.proofs.Common.{inl, inr, sym, ap, ◌∙◌, arith, length-append, length-drop, take-append-drop, take_all}
use Rattle.std.proofs.Math.Path.{refl}
use Rattle.std.proofs.Math.Decide.{dec_le}
use Rattle.std.proofs.Math.Seq.{take-nil, take-append-add}
use Rattle.std.proofs.lemmas.List.{take-append-le}
use borrow.Author.Tests.{eqb-true, leb-true, leb-false, le-leb}
use Rattle.agreement.specs.Moments.{Within, now, after}
use Rattle.agreement.proofs.laws.Moments.{within_tail, within_trans, within_cases, within_none}
use Rattle.calls.specs.Machine.{Machine, Call, opening, delivery, turn, report, restore, recording, place, words}
use Rattle.agreement.specs.Journals.{Moment, Journal, newest, bytes, complete, wrote, Stands, journal}
use Rattle.agreement.specs.DemandThree.{Opened, Sent, Departed, Recorded, Conditions}
use Rattle.agreement.proofs.laws.Worlds.{world}
use Rattle.agreement.specs.Evidence.{Honest}
use Rattle.agreement.proofs.laws.Machine.{Torn, nothing, part}

module _ (M : Machine) where
  -- ---- a cut

  pub complete_within : (k : ℕ) (js : Journal M) → Within (complete M k js) js
  unfolding complete
  complete_within k [] = now
  complete_within k (d ∷ js) = at (leb (length (bytes M (d ∷ js))) k) (complete_within k js)
    where
      at : (b : Bool) → Within (complete M k js) js → Within (cond b (d ∷ js) (complete M k js)) (d ∷ js)
      at true w = now
      at false w = after d w

  -- the first k bytes: complete lines, and the rest
  pub record CutAt (k : ℕ) (js : Journal M) : Type 0 where
    pub rest : List ℕ
    pub torn : Torn M rest
    pub splits : take k (bytes M js) ≡ bytes M (complete M k js) ++ rest

  complete_all : (k : ℕ) (js : Journal M) → length (bytes M js) ≤ k → complete M k js ≡ js
  unfolding complete
  complete_all k [] le = refl
  complete_all k (d ∷ js) le = rw (le-leb (length (bytes M (d ∷ js))) k le)

  -- a part of the line of d
  part_of : (d : Moment M) (j : ℕ) → j < length (newest M d) → Torn M (take j (newest M d))
  part_of [] j lt = absurd (omega arith)
  part_of (c ∷ cs) j lt = part c (drop j x) (take-append-drop j x) (λ e. absurd (omega (arith, length-drop j x, ap length e)))
    where
      x : List ℕ
      x = newest M (c ∷ cs)

  pub cut_at : (k : ℕ) (js : Journal M) → CutAt k js
  unfolding bytes complete
  cut_at k [] = record { rest = []; torn = nothing refl; splits = take-nil k }
  cut_at k (d ∷ js) = at (leb (length (bytes M (d ∷ js))) k) refl (cut_at k js)
    where
      t : List ℕ
      t = bytes M js

      x : List ℕ
      x = newest M d

      inside : length (t ++ x) ≤ k → CutAt k (d ∷ js)
      inside le = record { rest = []; torn = nothing refl; splits = take_all k (t ++ x) le ∙ rw (le-leb (length (t ++ x)) k le) (sym (append-nil (t ++ x))) }

      at : (b : Bool) → leb (length (t ++ x)) k ≡ b → CutAt k js → CutAt k (d ∷ js)
      at true e rec = inside (leb-true (length (t ++ x)) k e)
      at false e rec = elim (dec_le k (length t)) [ yes le ↦ before le | no l ↦ within (omega arith) ]
        where
          beyond : k < length t + length x
          beyond = omega (arith, leb-false (length (t ++ x)) k e, length-append t x)

          before : k ≤ length t → CutAt k (d ∷ js)
          before le = record { rest = rec.rest; torn = rec.torn; splits = rw e (take-append-le k t x le ∙ rec.splits) }

          within : length t ≤ k → CutAt k (d ∷ js)
          within le =
              let j = k - length t in
              let s : length t + j ≡ k = omega arith in
              record {
                rest = take j x;
                torn = part_of d j (omega (arith, beyond));
                splits = rw (e, complete_all k js le) (ap (λ (n : ℕ). take n (t ++ x)) (sym s) ∙ take-append-add t x j);
              }

module _ (M : Machine) (start : ℕ → M.Words) (S : M.Session) (H : ℕ → Bool) where
  recorded_within : {ds cs : List (Call M)} (p : ℕ) (x : M.Recording) → Within ds cs → Recorded M start ds p x → Recorded M start cs p x
  recorded_within p x v a = record { past = a.past; within = within_trans a.within v; opened = a.opened; accepted = a.accepted }

  pub conditions_within : {ds cs : List (Call M)} → Within ds cs → Conditions M start S H cs → Conditions M start S H ds
  conditions_within v k =
      record {
        honest = λ c es w. k.honest c es (within_trans w v);
        agree = λ p o es w. k.agree p o es (within_trans w v);
        once = λ p o es w. k.once p o es (within_trans w v);
        credited = λ p m b es w. k.credited p m b es (within_trans w v);
        falls_back = λ p u r es w. k.falls_back p u r es (within_trans w v);
        not_lost = λ p u r es w. k.not_lost p u r es (within_trans w v);
        coins = λ boxed p q x y a b. k.coins boxed p q x y (recorded_within p x v a) (recorded_within q y v b);
      }

module _ (M : Machine) (start : ℕ → M.Words) where
  pub opened_within : {ds cs : List (Call M)} (p : ℕ) → Within ds cs → Opened M start ds p → Opened M start cs p
  opened_within p w x = record { given = x.given; past = x.past; within = within_trans x.within w; numbered = x.numbered; accepted = x.accepted }

  -- ---- a line stands for a moment of the list

  none_yet : (d : Moment M) (ks : Journal M) → Within (d ∷ ks) [] → Within d []
  none_yet d ks = elim [ ]

  -- a line after a call is that of the call, or was there
  line_within : (c : Call M) (w : M.Words) (here : Moment M) (js : Journal M) (d : Moment M) (ks : Journal M) → Within (d ∷ ks) (wrote M c w here js) → (Within (d ∷ ks) js → Within d here) → Within d here
  line_within c w here js d ks v old = call c v
    where
      added : (is : Journal M) → (Within (d ∷ ks) is → Within d here) → Within (d ∷ ks) (here ∷ is) → Within d here
      added is rest v = at (within_cases here is v)
        where
          at : (d ∷ ks ≡ here ∷ is) ⊎ Within (d ∷ ks) is → Within d here
          at (inl e) = let same : d ≡ here = cc in rw same now
          at (inr u) = rest u

      by_opening : (b : Bool) → Within (d ∷ ks) (cond b (here ∷ []) js) → Within d here
      by_opening true v = added [] (λ u. absurd (within_none u)) v
      by_opening false v = old v

      by_call : (b : Bool) → Within (d ∷ ks) (cond b (here ∷ js) js) → Within d here
      by_call true v = added js old v
      by_call false v = old v

      by_restore : (b : Bool) (k : ℕ) → Within (d ∷ ks) (cond b (complete M k js) js) → Within d here
      by_restore true k v = old (within_trans v (complete_within M k js))
      by_restore false k v = old v

      call : (e : Call M) → Within (d ∷ ks) (wrote M e w here js) → Within d here
      call (opening q o) v = by_opening (M.opens w o) v
      call (delivery q m b) v = by_call (M.accepts w m b) v
      call (turn q l) v = by_call (M.acts w l) v
      call (report q r) v = old v
      call (restore q u r) v = by_restore (M.restores u r) (length (M.text r)) v
      call (recording q x) v = by_call (M.records w x) v

  pub journal_within : (cs : List (Call M)) (p : ℕ) (d : Moment M) (ks : Journal M) → Within (d ∷ ks) (journal M start cs p) → Within d cs
  unfolding journal
  journal_within [] p d ks w = none_yet d ks w
  journal_within (c ∷ cs) p d ks w = at (eqb p (place M c)) w (λ u. after c (journal_within cs p d ks u))
    where
      w₀ : M.Words
      w₀ = words M start cs p

      js : Journal M
      js = journal M start cs p

      at : (b : Bool) → Within (d ∷ ks) (cond b (wrote M c w₀ (c ∷ cs) js) js) → (Within (d ∷ ks) js → Within d (c ∷ cs)) → Within d (c ∷ cs)
      at true v old = line_within c w₀ (c ∷ cs) js d ks v old
      at false v old = old v

  -- ---- what left keeps its line

  module _ (m : ℕ) (b : M.Bytes) where
    sent_opened : (cs : List (Call M)) → Sent M start cs m b → Opened M start cs m
    sent_opened cs s = opened_within m (within_tail (turn m s.lent) (journal_within cs m (turn m s.lent ∷ s.past) s.stands.older s.stands.within)) s.opened

    moved : (c : Call M) (cs : List (Call M)) (s : Sent M start cs m b) → Stands M (turn m s.lent ∷ s.past) (journal M start (c ∷ cs) m) → Sent M start (c ∷ cs) m b
    moved c cs s x = record { lent = s.lent; past = s.past; stands = x; opened = s.opened; sends = s.sends }

    by_line : (d : Moment M) (e : Moment M) (js : Journal M) → Stands M d js → (t : Bool) → Stands M d (cond t (e ∷ js) js)
    by_line d e js x true = record { older = x.older; within = after e x.within }
    by_line d e js x false = x

    -- a call keeps a line, if it neither opens nor restores
    pub sent_step : (c : Call M) (cs : List (Call M)) → ((q : ℕ) (o : M.Opening) → c ≡ opening q o → Opened M start cs q → M.opens (words M start cs q) o ≡ false) → ((v : M.Words) (r : M.Restore) → c ≡ restore m v r → M.restores v r ≡ true → Sent M start (c ∷ cs) m b) → (s : Sent M start cs m b) → (t : Bool) → eqb m (place M c) ≡ t → Sent M start (c ∷ cs) m b
    unfolding journal
    sent_step c cs k falls s false e = moved c cs s (rw e s.stands)
    sent_step (opening q o) cs k falls s true e =
        let same : m ≡ q = eqb-true m q e in
        let f : M.opens (words M start cs m) o ≡ false = rw same (k q o refl (rw same at (sent_opened cs s))) in
        moved (opening q o) cs s (rw (e, f) s.stands)
    sent_step (delivery q n a) cs k falls s true e = moved (delivery q n a) cs s (rw e (by_line (turn m s.lent ∷ s.past) (delivery q n a ∷ cs) (journal M start cs m) s.stands (M.accepts (words M start cs m) n a)))
    sent_step (turn q l) cs k falls s true e = moved (turn q l) cs s (rw e (by_line (turn m s.lent ∷ s.past) (turn q l ∷ cs) (journal M start cs m) s.stands (M.acts (words M start cs m) l)))
    sent_step (report q r) cs k falls s true e = moved (report q r) cs s (rw e s.stands)
    sent_step (recording q x) cs k falls s true e = moved (recording q x) cs s (rw e (by_line (turn m s.lent ∷ s.past) (recording q x ∷ cs) (journal M start cs m) s.stands (M.records (words M start cs m) x)))
    sent_step (restore q v r) cs k falls s true e = go (M.restores v r) refl
      where
        go : (t : Bool) → M.restores v r ≡ t → Sent M start (restore q v r ∷ cs) m b
        go true f = falls v r (ap (λ (x : ℕ). restore x v r) (sym (eqb-true m q e))) f
        go false f = moved (restore q v r) cs s (rw (e, f) s.stands)

  module _ (S : M.Session) (H : ℕ → Bool) (m : ℕ) (b : M.Bytes) where
    abbrev Here : List (Call M) → Type 0
    Here cs = Conditions M start S H cs

    sent_keep : (c : Call M) (cs : List (Call M)) → Here (c ∷ cs) → Departed M start cs m b → Sent M start cs m b → Sent M start (c ∷ cs) m b
    sent_keep c cs k d s = sent_step m b c cs (λ q o e. k.once q o cs (rw e now)) falls s (eqb m (place M c)) refl
      where
        falls : (v : M.Words) (r : M.Restore) → c ≡ restore m v r → M.restores v r ≡ true → Sent M start (c ∷ cs) m b
        falls v r e t = rw e ((k.falls_back m v r cs (rw e now) (sent_opened m b cs s) t).kept b d)

    first_sent : (q : ℕ) (cs : List (Call M)) → Here (delivery q m b ∷ cs) → Sent M start cs m b → Sent M start (delivery q m b ∷ cs) m b
    first_sent q cs k s = sent_step m b (delivery q m b) cs (λ p o e. k.once p o cs (rw e now)) (λ v r e t. absurd (let z : ◌≡◌ {A = ℕ} 0 1 = cc in omega arith)) s (eqb m q) refl

    -- a message that left from an honest one has its line at every later moment
    pub departed_sent : (cs : List (Call M)) → Here cs → Honest (world M S H) m → (x : Departed M start cs m b) → Sent M start cs m b
    departed_sent cs k hm x = go x.within k
      where
        left_at : {ds : List (Call M)} → Within (delivery x.who m b ∷ x.past) ds → Departed M start ds m b
        left_at w = record { who = x.who; past = x.past; within = w; opened = x.opened; accepted = x.accepted }

        go : {ds : List (Call M)} → Within (delivery x.who m b ∷ x.past) ds → Here ds → Sent M start ds m b
        go now k = first_sent x.who x.past k (k.credited x.who m b x.past now x.opened x.accepted hm)
        go (after {cs = ds} c w) k = sent_keep c ds k (left_at w) (go w (conditions_within M start S H (after c now) k))
