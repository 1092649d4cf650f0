-- Opening with the weights as one word w, as the code has them.
use Rattle.std.specs.Prelude.{ℕ, cond, not, List, ◌≡◌, eqb, Result, Ok, Err}
use Rattle.settings.specs.declared.refusal.Refusal.{Refusal}
use Rattle.std.proofs.Math.Path.{refl}
use Rattle.settings.specs.declared.refusal.Refusal.TheVariants as refusal
use Rattle.settings.specs.Settings.{valid_settings, named_ta}
use Rattle.settings.specs.Versions.{version_known}
use Rattle.records.specs.Layout.{state_words, n_at, ta_at, ts_at, own_at, session_at, input_at, weights_at, boxed_at, version_at}
use Rattle.records.specs.Words.{put}
use Rattle.session.specs.Session.{numbered}
use Rattle.opening.specs.Given.{coins_given}
use Rattle.opening.specs.Arguments.{Arguments, weights_by, ta_by}
use Rattle.opening.specs.Opening.{open_answer, with_settings}

unfoldable pub answer_with : (words : ℕ) → Arguments → (w : ℕ) → Result (Unit {0}) Refusal
answer_with words o w =
    cond (not (eqb words state_words)) (Err refusal.NoState)
    (cond (not (version_known o.version)) (Err refusal.Settings)
    (cond (not (valid_settings o.n (named_ta o.n o.ta o.ts w) o.ts w)) (Err refusal.Settings)
    (cond (not (numbered o.n o.own)) (Err refusal.Settings)
    (cond (not (coins_given o.n o.coins o.boxed)) (Err refusal.Settings)
    (Ok tt)))))

-- ta as it is stored
unfoldable pub settings_with : List ℕ → Arguments → (ta w : ℕ) → List ℕ
settings_with s o ta w =
    put (put (put (put (put (put (put (put (put s n_at o.n) ta_at ta) ts_at o.ts) own_at o.own) session_at o.session) input_at o.input) weights_at w) boxed_at o.boxed) version_at o.version

-- with the word of the weights that are given they are the definitions over the arguments
module _ (o : Arguments) where
  pub answer_with_lem : (words : ℕ) → answer_with words o (weights_by o) ≡ open_answer words o
  unfolding answer_with open_answer
  answer_with_lem words = refl

  pub settings_with_lem : (s : List ℕ) → settings_with s o (ta_by o) (weights_by o) ≡ with_settings s o
  unfolding settings_with with_settings
  settings_with_lem s = refl
