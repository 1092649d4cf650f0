-- Deliveries, turns and recordings keep the settings: after an opening no other call but a restore changes them.
use Rattle.std.specs.Prelude.{ℕ, ◌≤◌, List, ◌⊎◌, ◌≡◌}
use Rattle.records.specs.Layout.{input_at, weights_at, boxed_at, version_at}
use Rattle.records.specs.Words.{word}
use Rattle.turn.specs.Turn.{turn_words}
use Rattle.journal.specs.Journal.{delivered_words, record_words}

-- the words that an opening sets to its arguments, coin words aside: n, ta, ts, own number, session number and own input, which are words 0 to 5,
-- the weights, whether coins are boxed, and the version
abbrev pub SettingWord : ℕ → Type 0
SettingWord a = (a ≤ input_at) ⊎ ((a ≡ weights_at) ⊎ ((a ≡ boxed_at) ⊎ (a ≡ version_at)))

-- on any words s, whatever is lent
pub record SettingsKept : Type 0 where
  pub delivery : (s : List ℕ) (link : ℕ) (message : List ℕ) (line a : ℕ) → SettingWord a → word (delivered_words s link message line) a ≡ word s a
  pub turn : (s : List ℕ) (room a : ℕ) → SettingWord a → word (turn_words s room) a ≡ word s a
  pub recording : (s : List ℕ) (vote round bit line a : ℕ) → SettingWord a → word (record_words s vote round bit line) a ≡ word s a
