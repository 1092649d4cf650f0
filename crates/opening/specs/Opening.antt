-- Opening: its answer, and the words of a new state (PROTOCOL 9.14 to 9.16).
use Rattle.std.specs.Prelude.{ℕ, cond, not, List, length, eqb, Result, Ok, Err}
use Rattle.std.specs.Result.{is_ok}
use Rattle.settings.specs.declared.refusal.Refusal.{Refusal}
use Rattle.settings.specs.declared.refusal.Refusal.TheVariants as refusal
use Rattle.settings.specs.Settings.{valid_settings}
use Rattle.settings.specs.Versions.{version_known}
use Rattle.records.specs.Layout.{state_words, n_at, ta_at, ts_at, own_at, session_at, input_at, weights_at, boxed_at, version_at, coin_at}
use Rattle.records.specs.Words.{put}
use Rattle.records.specs.Words.{blank, store_of}
use Rattle.session.specs.Session.{numbered}
use Rattle.opening.specs.Given.{item, coins_given}
use Rattle.opening.specs.Arguments.{Arguments, weights_by, ta_by}

-- the refusals of an opening in their order, apart from 8 for its line (journal/Journal). Version, settings, weights, own
-- number, coin words or kind of coins against the rules, and another number of weights or coin words than n, give 1 (PROTOCOL 10.14, 9.15).
unfoldable pub open_answer : (words : ℕ) → Arguments → Result (Unit {0}) Refusal
open_answer words o =
    cond (not (eqb words state_words)) (Err refusal.NoState)
    (cond (not (version_known o.version)) (Err refusal.Settings)
    (cond (not (valid_settings o.n (ta_by o) o.ts (weights_by o))) (Err refusal.Settings)
    (cond (not (numbered o.n o.own)) (Err refusal.Settings)
    (cond (not (coins_given o.n o.coins o.boxed)) (Err refusal.Settings)
    (Ok tt)))))

-- the settings, the own number, the session number, the own input, the weights, whether coins are boxed, and the version
unfoldable pub with_settings : List ℕ → Arguments → List ℕ
with_settings s o =
    put (put (put (put (put (put (put (put (put s
    n_at o.n)
    ta_at (ta_by o))
    ts_at o.ts)
    own_at o.own)
    session_at o.session)
    input_at o.input)
    weights_at (weights_by o))
    boxed_at o.boxed)
    version_at o.version

-- word i of the n coin words is that of vote i (PROTOCOL 1.9)
unfoldable pub with_coins : List ℕ → List ℕ → ℕ → List ℕ
with_coins s coins n = store_of (item coins) (coin_at 0) s n

-- an opening sets every word: what is not given is 0 (PROTOCOL 9.16)
unfoldable pub open_words : Arguments → List ℕ
open_words o = with_coins (with_settings (blank state_words) o) o.coins o.n

-- the words after an opening, accepted or not
unfoldable pub opened : List ℕ → Arguments → List ℕ
opened s o = cond (is_ok (open_answer (length s) o)) (open_words o) s
