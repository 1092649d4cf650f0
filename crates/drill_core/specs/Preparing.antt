-- What the N, C and P lines give, and the openings when they are over.
use Rattle.std.specs.Prelude.{ℕ, ◌-◌, cond, List, [], ◌∷◌, take}
use Rattle.quorum.specs.Marks.{mark, with_mark}
use Rattle.records.specs.Words.{word, put}
use Rattle.opening.specs.Arguments.{Arguments}
use Rattle.drill_feeder.specs.Steps.{steps}
use Rattle.drill_feeder.specs.Lines.{drill_arguments, opened_at}
use Rattle.drill_core.specs.declared.Given.{Given}

-- the settings (PROTOCOL 15.3, 15.11); a coin word that is not given is 0, and who has no P line lies
unfoldable pub settings_given : (n ta ts session : ℕ) → Given
settings_given n ta ts session = record {
  members = record { n = n; honest = 0 };
  ta = ta;
  ts = ts;
  session = session;
  named = 0;
  coins = 0 ∷ 0 ∷ 0 ∷ 0 ∷ [];
  inputs = 0 ∷ 0 ∷ 0 ∷ 0 ∷ [];
}

unfoldable pub none_given : Given
none_given = settings_given 0 0 0 0

-- a coin word of a C line (PROTOCOL 15.4)
unfoldable pub coin_given : Given → (i word : ℕ) → Given
coin_given g i w = record {
  members = g.members;
  ta = g.ta;
  ts = g.ts;
  session = g.session;
  named = with_mark g.named i;
  coins = put g.coins (i - 1) w;
  inputs = g.inputs;
}

-- p is honest, with this input (PROTOCOL 15.5)
unfoldable pub input_given : Given → (p value : ℕ) → Given
input_given g p value = record {
  members = record { n = g.members.n; honest = with_mark g.members.honest p };
  ta = g.ta;
  ts = g.ts;
  session = g.session;
  named = g.named;
  coins = g.coins;
  inputs = put g.inputs (p - 1) value;
}

-- the arguments of the opening of session p with an input and n coin words (PROTOCOL 9.15)
abbrev pub arguments_with : Given → (p input : ℕ) → List ℕ → Arguments
arguments_with g p input coins = drill_arguments g.members.n g.ta g.ts p g.session input (take g.members.n coins)

unfoldable pub opened_with : Given → (p input : ℕ) → List ℕ → List ℕ → List ℕ
opened_with g p input coins w = opened_at w (arguments_with g p input coins)

unfoldable pub open_if : Given → ℕ → List ℕ → List ℕ
open_if g p w = cond (mark g.members.honest p) (opened_with g p (word g.inputs (p - 1)) g.coins w) w

-- the honest ones are opened
unfoldable pub opened_all : Given → List ℕ → List ℕ
opened_all g w = steps (open_if g) g.members.n w
