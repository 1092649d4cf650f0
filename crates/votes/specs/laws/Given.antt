-- The move as the code works it out: a0 and a1 tell which values are accepted. What is due in a vote likewise: `finishes` tells whether there are
-- FINISHes.
use Rattle.std.specs.Prelude.{ℕ, Bool, true, false, ◌&&◌, ◌||◌, cond, List, ◌≡◌, refl, leb, ltb}
use Rattle.settings.specs.Settings.{weighed, vote_quorum}
use Rattle.settings.specs.declared.Settings.{Settings}
use Rattle.records.specs.Records.{aux_held}
use Rattle.acts.specs.Acts.{or_act}
use Rattle.acts.specs.declared.Act.{Act}
use Rattle.acts.specs.declared.Act.TheVariants.{Idle, Move}
use Rattle.acts.specs.declared.View.{View}
use Rattle.votes.specs.Votes.{accepted, carries, carriers, carried, aux_count, view_of, view, move_value, vote_act, winding_act, vote_due}
use Rattle.votes.specs.Finishing.{finish_act, finished}

unfoldable pub carries_given : List ℕ → ℕ → ℕ → Bool → Bool → ℕ → Bool
carries_given s i r a0 a1 p = (a0 && aux_held s i r 0 p) || (a1 && aux_held s i r 1 p)

unfoldable pub carriers_given : Settings → List ℕ → ℕ → ℕ → Bool → Bool → ℕ
carriers_given g s i r a0 a1 = weighed g (carries_given s i r a0 a1)

unfoldable pub view_given : Settings → List ℕ → ℕ → ℕ → Bool → Bool → View
view_given g s i r a0 a1 = view_of (a0 && ltb 0 (aux_count g s i r 0)) (a1 && ltb 0 (aux_count g s i r 1))

unfoldable pub move_given : Settings → List ℕ → ℕ → ℕ → Bool → Bool → Act
move_given g s i r a0 a1 = cond (leb (vote_quorum g) (carriers_given g s i r a0 a1)) (Move i r (view_given g s i r a0 a1)) Idle

pub move_given_lem : (g : Settings) (s : List ℕ) (i r : ℕ) → move_given g s i r (accepted g s i r 0) (accepted g s i r 1) ≡ move_value g s i r
unfolding move_given carriers_given carries_given view_given move_value carriers carries view carried
move_given_lem g s i r = refl

-- FINISH, where there are FINISHes
unfoldable pub first_finish : Settings → List ℕ → Bool → ℕ → Act
first_finish g s finishes i = cond finishes (finish_act g s i) Idle

-- nothing more is due
unfoldable pub over : List ℕ → Bool → ℕ → Bool
over s finishes i = cond finishes (finished s i) false

pub due_given : (g : Settings) (s : List ℕ) (finishes output : Bool) (ones i : ℕ) →
    or_act (first_finish g s finishes i) (cond (over s finishes i) Idle (vote_act g s output ones i)) ≡ vote_due g s finishes output ones i
unfolding first_finish over vote_due winding_act or_act
due_given g s true output ones i = refl
due_given g s false output ones i = refl
