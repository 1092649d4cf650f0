-- The arguments of an opening.
use Rattle.std.specs.Prelude.{ℕ, List}
use Rattle.settings.specs.Settings.{named_ta, settings_named}
use Rattle.settings.specs.declared.Settings.{Settings}
use Rattle.opening.specs.declared.Arguments as declared
use Rattle.opening.specs.Given.{weights_word}

pub record Arguments : Type 0 where
  -- the version, 1 or 2 (PROTOCOL 1.21), and the settings, ta as it is given
  pub version : ℕ
  pub n : ℕ
  pub ta : ℕ
  pub ts : ℕ
  -- the own number, the session number, the own input
  pub own : ℕ
  pub session : ℕ
  pub input : ℕ
  -- the coin word of each vote, the weight of each concentrator (PROTOCOL 1.9, 1.5)
  pub coins : List ℕ
  pub weights : List ℕ
  -- 0 for printed coins, 1 for boxed ones (PROTOCOL 1.10)
  pub boxed : ℕ

-- the arguments, in the order of the call from C
abbrev pub arguments : (version n ta ts own session input : ℕ) (coins weights : List ℕ) (boxed : ℕ) → Arguments
arguments version n ta ts own session input coins weights boxed =
    record { version = version; n = n; ta = ta; ts = ts; own = own; session = session; input = input; coins = coins; weights = weights; boxed = boxed }

-- the arguments as the code is given them
abbrev pub given : declared.Arguments → Arguments
given a =
    record { version = a.version; n = a.n; ta = a.ta; ts = a.ts; own = a.own; session = a.session; input = a.input; coins = a.coins.now; weights = a.weights.now; boxed = a.boxed }

-- the weights as one word
abbrev pub weights_by : Arguments → ℕ
weights_by o = weights_word o.n o.weights

-- ta as it is stored: 255 is read as unnamed
abbrev pub ta_by : Arguments → ℕ
ta_by o = named_ta o.n o.ta o.ts (weights_by o)

-- the settings of the session
abbrev pub settings_by : Arguments → Settings
settings_by o = settings_named o.n o.ta o.ts (weights_by o)
