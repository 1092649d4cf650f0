-- Agreement over lawful histories, proved: what exits name stays named, a set in force was named before, two named sets are the same, and each
-- has what an honest one sent.
use Rattle.std.specs.Prelude.{ℕ, ◌≡◌}
use mathlib.Core.List.{List, [], ◌∷◌, Memᴰ}
use Rattle.std.proofs.Common.{inl, inr, sym, subst, ◌∙◌, arith}
use Rattle.exits.specs.Standing.{Standing}
use Rattle.exits.proofs.laws.Agree.{Compatible, exits_agree}
use Rattle.exits.proofs.laws.Fair.{named_only, named_fair}
use Rattle.agreement.specs.Evidence.{World, Sound, Honest}
use Rattle.agreement.proofs.laws.Evidence.{Somebody, backed_map, one_of}
use Rattle.agreement.specs.History.{Act, send, commit, History, Single, Did, Event, zero, one, Stands, Naming, Guard, Lawful}
use Rattle.agreement.proofs.laws.Broadcasts.{output_agree, output_sent}
use Rattle.agreement.proofs.laws.Votes.{decided_keep, decided_agree}
use Rattle.agreement.specs.Moments.{Within, now, after}
use Rattle.agreement.proofs.laws.Moments.{before_within, before_now, before_after}
use Rattle.agreement.specs.Agreement.{InForce, Shown, NamedBefore, Agree, Named, Valid, by_exits, by_in_force}

-- X has what an honest one sent
pub record HonestSent (W : World) (h : History) (X : List ℕ) : Type 0 where
  pub who : ℕ
  pub honest : Honest W who
  pub value : ℕ
  pub sent : Did h who (send value)
  pub member : Memᴰ value X

module _ (W : World) (G : ℕ → Act → Type 0) where
  naming_keep : (e : Event) (h : History) (X : List ℕ) (p : ℕ) → Naming W h X p → Naming W (e ∷ h) X p
  naming_keep e h X p x =
      record {
        standing = x.standing;
        stands =
            record {
              outs = λ i v lo hi q. backed_map W (λ m hm d. inr d) (x.stands.outs i v lo hi q);
              decs = λ i b lo hi q. decided_keep W e h p i b (x.stands.decs i b lo hi q);
            };
        names = x.names;
      }

  naming_later : {h k : History} (X : List ℕ) (p : ℕ) → Within h k → Naming W h X p → Naming W k X p
  naming_later X p now x = x
  naming_later X p (after {cs = k} e w) x = naming_keep e k X p (naming_later X p w x)

  shown_later : {h k : History} (X : List ℕ) → Within h k → Shown W h X → Shown W k X
  shown_later X w (by_exits p x) = by_exits p (naming_later X p w x)
  shown_later X now (by_in_force x) = by_in_force x
  shown_later {h} X (after {cs = k} e w) (by_in_force x) = keep (shown_later X w (by_in_force x))
    where
      keep : Shown W k X → Shown W (e ∷ k) X
      keep (by_exits p y) = by_exits p (naming_keep e k X p y)
      keep (by_in_force y) = by_in_force (backed_map W (λ m hm d. inr d) y)

  named_keep : (e : Event) (h : History) (X : List ℕ) → NamedBefore W h X → NamedBefore W (e ∷ h) X
  named_keep e h X x = record { past = x.past; before = before_after e x.before; who = x.who; naming = x.naming }

  module _ (L : ℕ) (so : Sound W L) where
    -- a COMMIT rests on exits that named its set before
    commit_named : (X : List ℕ) (h : History) → Lawful W G h → (p : ℕ) → Did h p (commit X) → NamedBefore W h X
    commit_named X [] law p d = absurd d
    commit_named X (e ∷ h) law p (inl q) = step (rw q at law.1) (λ m c. commit_named X h law.0 m c)
      where
        step : Guard W G h p (commit X) → ((m : ℕ) → Did h m (commit X) → NamedBefore W h X) → NamedBefore W (e ∷ h) X
        step (inl x) rest = record { past = h; before = before_now e h; who = p; naming = x }
        step (inr x) rest = let o = one_of W so (omega arith) x in named_keep e h X (rest o.who o.has)
    commit_named X (e ∷ h) law p (inr d) = named_keep e h X (commit_named X h law.0 p d)

    -- none is in force that exits had not named before
    pub force_named : (h : History) → Lawful W G h → (X : List ℕ) → InForce W h X → NamedBefore W h X
    force_named h law X x = let o = one_of W so (omega arith) x in commit_named X h law o.who o.has

    shown_naming : (h : History) → Lawful W G h → (X : List ℕ) → Shown W h X → Somebody (Naming W h X)
    shown_naming h law X (by_exits p x) = record { who = p; has = x }
    shown_naming h law X (by_in_force x) =
        let b = force_named h law X x in
        record { who = b.who; has = naming_later X b.who (before_within b.before) b.naming }

    -- every set that is shown has what an honest one sent
    pub honest_sent : (h : History) → Lawful W G h → (X : List ℕ) → Shown W h X → HonestSent W h X
    honest_sent h law X x = of (shown_naming h law X x)
      where
        of : Somebody (Naming W h X) → HonestSent W h X
        of o =
            let s = o.has.standing in
            let f = named_fair W.settings so.ruled W.honest (omega arith) s o.has.names.exit in
            let y = f.fair in
            let good : Honest W y.at = record { low = y.low; high = y.high; fair = y.fair } in
            record {
              who = y.at;
              honest = good;
              value = f.value;
              sent = output_sent W G L so h law y.at f.value good (o.has.stands.outs y.at f.value y.low y.high y.output);
              member = subst (Memᴰ f.value) o.has.names.set f.member;
            }

    -- where all honest ones sent v, no other set than the one holding v alone is shown
    pub validity : (h : History) → Lawful W G h → (v : ℕ) → ((i u : ℕ) → Honest W i → Did h i (send u) → u ≡ v) → (X : List ℕ) → Shown W h X → X ≡ v ∷ []
    validity h law v same X x = of (shown_naming h law X x)
      where
        of : Somebody (Naming W h X) → X ≡ v ∷ []
        of o =
            let s = o.has.standing in
            sym o.has.names.set
            ∙ named_only W.settings so.ruled W.honest (omega arith) s v
            (λ i u lo hi t e. let good : Honest W i = record { low = lo; high = hi; fair = t } in same i u good (output_sent W G L so h law i u good (o.has.stands.outs i u lo hi e)))
            o.has.names.exit

  module _ (so : Sound W W.settings.ta) (single : Single G) (h : History) (law : Lawful W G h) where
    -- standings contradict each other nowhere
    compatible : (s t : Standing) (p q : ℕ) → Stands W h p s → Stands W h q t → Compatible W.settings.n s t
    compatible s t p q x y =
        record {
          outs = λ i u v lo hi a b. output_agree W G so single h law i u v (x.outs i u lo hi a) (y.outs i v lo hi b);
          one_zero = λ i lo hi a b. omega (arith, decided_agree W G so single h law i p q 1 0 (x.decs i 1 lo hi (one a)) (y.decs i 0 lo hi (zero b)));
          zero_one = λ i lo hi a b. omega (arith, decided_agree W G so single h law i p q 0 1 (x.decs i 0 lo hi (zero a)) (y.decs i 1 lo hi (one b)));
        }

    naming_agree : (X Y : List ℕ) (p q : ℕ) → Naming W h X p → Naming W h Y q → X ≡ Y
    naming_agree X Y p q x y =
        sym x.names.set
        ∙ exits_agree W.settings so.ruled x.standing y.standing (compatible x.standing y.standing p q x.stands y.stands) x.names.exit y.names.exit
        ∙ y.names.set

    -- sets shown at any two moments are the same
    pub agreement : {k l : History} → Within k h → Within l h → (X Y : List ℕ) → Shown W k X → Shown W l Y → X ≡ Y
    agreement a b X Y x y =
        let u = shown_naming W.settings.ta so h law X (shown_later X a x) in
        let v = shown_naming W.settings.ta so h law Y (shown_later Y b y) in
        naming_agree X Y u.who v.who u.has v.has

pub agree : Agree
unfolding Agree
agree W so out single h law k l a b X Y x y = agreement W (Did out) so single h law a b X Y x y

pub named : Named
unfolding Named
named W so out h law X x = force_named W (Did out) W.settings.ts so h law X x

pub valid : Valid
unfolding Valid
valid W so out h law v same X x = validity W (Did out) W.settings.ts so h law v same X x
