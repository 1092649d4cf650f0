-- The words of concentrator 1 along the calls of the session, and that the session goes on there.
use Rattle.std.specs.Prelude.{ℕ, ◌<◌, cond, List, [], ◌∷◌, ◌++◌, ◌≡◌, refl, eqb, length}
use Rattle.std.proofs.Common.{ap, arith}
use Rattle.settings.specs.Versions.{FIRST_VERSION}
use Rattle.wire.specs.Message.{instance_of, round_of, count_of, encode}
use Rattle.wire.specs.declared.Message.{Message}
use Rattle.delivery.specs.Delivery.{delivered}
use Rattle.turn.specs.Turn.{turn_words}
use Rattle.journal.specs.Journal.{line_words, delivered_words, turn_room}
use Rattle.calls.specs.Machine.{place, left, words}
use Rattle.calls.specs.Engine.{engine}
use Rattle.calls.specs.Given.{bytes_of, turn_with}
use Rattle.calls.specs.Machine as machine
use Rattle.costliest.specs.Calls.{Calls, packs, say}
use Rattle.costliest.proofs.laws.Bytes.{encode_low}

-- the words of concentrator 1 after the calls cs on the words s
abbrev pub after : List ℕ → Calls → List ℕ
after s cs = words engine (λ p. s) cs 1

pub say_after : (s : List ℕ) (p : ℕ) (m : Message) (cs : Calls) → p < 256 → instance_of m < 256 → round_of m < 256 → count_of m < 256 → after s (say p m cs) ≡ delivered (after s cs) p (encode m FIRST_VERSION p 7 packs)
unfolding say words bytes_of delivered_words line_words
say_after s p m cs a b c d = ap (delivered (after s cs) p) (encode_low m FIRST_VERSION p 7 packs (omega arith) a b c d)

pub turn_after : (s out : List ℕ) (cs : Calls) → after s (machine.turn 1 (turn_with out) ∷ cs) ≡ turn_words (after s cs) (length out)
unfolding words turn_with turn_room
turn_after s out cs = refl

-- the calls cs after the calls ds
pub after_on : (start : ℕ → List ℕ) (ds cs : Calls) → words engine start (cs ++ ds) 1 ≡ after (words engine start ds 1) cs
unfolding words
after_on start ds [] = refl
after_on start ds (c ∷ cs) = ap (λ (w : List ℕ). cond (eqb 1 (place engine c)) (left engine c w) w) (after_on start ds cs)
