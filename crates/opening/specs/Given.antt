-- The lists that an opening is given: coin words, and weights, which are kept as one word.
use Rattle.std.specs.Prelude.{ℕ, ◌-◌, Bool, ◌&&◌, ◌||◌, cond, List, length, replicate, eqb, leb}
use Rattle.settings.specs.Settings.{max_concentrators}
use Rattle.quorum.specs.Every.{every}
use Rattle.quorum.specs.Packed.{packed}
use Rattle.records.specs.Words.{word}

-- item i of a list, from 1; 0 where there is none
unfoldable pub item : List ℕ → ℕ → ℕ
item xs i = cond (eqb i 0) 0 (word xs (i - 1))

-- a coin word of 0
unfoldable pub coin_zero : List ℕ → ℕ → Bool
coin_zero coins i = eqb (item coins i) 0

-- as many coin words as votes, n being at most 16; coins are printed (0) or boxed (1), and with boxed ones every coin word is 0 (PROTOCOL 9.15)
unfoldable pub coins_given : ℕ → List ℕ → ℕ → Bool
coins_given n coins boxed = leb n max_concentrators && eqb (length coins) n && leb boxed 1 && (eqb boxed 0 || every (coin_zero coins) n)

-- a weight is 1 to 4 (PROTOCOL 1.5)
unfoldable pub weight_given : List ℕ → ℕ → Bool
weight_given weights p = leb 1 (item weights p) && leb (item weights p) 4

-- .. exactly n of them, and n is at most 16
unfoldable pub weights_given : ℕ → List ℕ → Bool
weights_given n weights = leb n max_concentrators && eqb (length weights) n && every (weight_given weights) n

-- the weights as they are stored; a list that is not right is the word 0, by which nobody has a weight, and so refused as 1
unfoldable pub weights_word : ℕ → List ℕ → ℕ
weights_word n weights = cond (weights_given n weights) (packed (item weights) n) 0

-- n weights of 1
unfoldable pub ones_given : ℕ → List ℕ
ones_given n = replicate n 1
