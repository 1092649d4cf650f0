-- The settings and calls of the costliest session of n concentrators, all at concentrator 1: PROTOCOL, section 14. The newest call stands first.
use Rattle.std.specs.Prelude.{ℕ, zero, suc, ◌+◌, ◌*◌, ◌-◌, cond, List, [], ◌∷◌, eqb}
use Rattle.settings.specs.Versions.{FIRST_VERSION}
use Rattle.records.specs.Words.{blank}
use Rattle.opening.specs.Given.{ones_given}
use Rattle.opening.specs.Arguments.{Arguments, arguments}
use Rattle.wire.specs.Message.{encode}
use Rattle.wire.specs.declared.Message.{Message}
use Rattle.wire.specs.declared.Message.TheVariants.{Send, Echo, Ready, Est, Aux, Commit}
use Rattle.calls.specs.Machine.{Call, delivery, turn}
use Rattle.calls.specs.Engine.{engine}
use Rattle.calls.specs.Given.{bytes_of, turn_with}

-- n coin words of 0
unfoldable pub coin_words : ℕ → List ℕ
coin_words zero = []
coin_words (suc n) = 0 ∷ coin_words n

-- the opening: version 1, weights of 1, printed coins, ta = ts = 0, own number 1 (PROTOCOL 14.1)
unfoldable pub opens : ℕ → Arguments
opens n = arguments FIRST_VERSION n 0 0 1 7 5 (coin_words n) (ones_given n) 0

-- a list of calls
abbrev pub Calls : Type 0
Calls = List (Call engine)

-- f 1 to f n, one after another, after the calls cs
unfoldable pub each : (ℕ → Calls → Calls) → ℕ → Calls → Calls
each f zero cs = cs
each f (suc n) cs = f (suc n) (each f n cs)

-- the packs that COMMITs hold, the first of them
unfoldable pub packs : List ℕ
packs = 1 ∷ 2 ∷ 3 ∷ 4 ∷ 5 ∷ 6 ∷ 7 ∷ 8 ∷ 9 ∷ 10 ∷ 11 ∷ 12 ∷ 13 ∷ 14 ∷ 15 ∷ 16 ∷ []

-- the message m of concentrator p over its link
unfoldable pub say : ℕ → Message → Calls → Calls
say p m cs = delivery 1 p (bytes_of (encode m FIRST_VERSION p 7 packs)) ∷ cs

-- k turns, each lent 140 bytes
unfoldable pub turns : ℕ → Calls → Calls
turns k cs = each (λ j ds. turn 1 (turn_with (blank 140)) ∷ ds) k cs

-- SEND of i in each instance i
unfoldable pub sends : ℕ → Calls → Calls
sends n = each (λ i. say i (Send i i)) n

-- READY of i from everyone in each instance i
unfoldable pub readies : ℕ → Calls → Calls
readies n = each (λ i. each (λ p. say p (Ready i i)) n) n

-- in each vote and round EST of 0 and 1 from concentrator 1, and AUX of 0 from everyone
unfoldable pub ests : ℕ → Calls → Calls
ests n = each (λ i. each (λ r cs. say 1 (Est i r 1) (say 1 (Est i r 0) cs)) 32) n

unfoldable pub auxs : ℕ → Calls → Calls
auxs n = each (λ i. each (λ r. each (λ p. say p (Aux i r 0)) n) 32) n

-- a COMMIT of n packs, the longest that there is
unfoldable pub commit : ℕ → ℕ → Calls → Calls
commit n p = say p (Commit n)

-- what is held before the first turn
unfoldable pub heard : ℕ → Calls
heard n = commit n 1 (auxs n (ests n (readies n (sends n []))))

-- all turns but the last
unfoldable pub acted : ℕ → Calls
acted n = turns (99 * n + 2) (heard n)

-- the COMMITs of the others, and a last turn, which puts their set in force
unfoldable pub costly : ℕ → Calls
costly n = turns 1 (each (λ p. commit n (p + 1)) (n - 1) (acted n))

-- one concentrator alone, whose turns send SEND, ECHO, READY and COMMIT and put a set in force, with a delivery between any two
unfoldable pub five : Calls
five = turns 1 (commit 1 1 (turns 1 (say 1 (Ready 1 5) (turns 1 (say 1 (Echo 1 5) (turns 1 (say 1 (Send 1 5) (turns 1 []))))))))

-- the costliest session of n concentrators
unfoldable pub costliest_calls : ℕ → Calls
costliest_calls n = cond (eqb n 1) five (costly n)
