-- The exit of a state.
use Rattle.std.specs.Prelude.{ℕ, List, ◌≡◌}
use Rattle.std.proofs.Common.{ap}
use Rattle.settings.specs.Rules.{Ruled}
use Rattle.settings.specs.declared.Settings.{Settings}
use Rattle.quorum.specs.Marks.{mark}
use Rattle.records.specs.Words.{word, marked}
use Rattle.records.specs.Records.{decided_zero, decided_one}
use Rattle.broadcasts.specs.Broadcasts.{output}
use Rattle.broadcasts.specs.Outputs.{output_at, Outputs}
use Rattle.broadcasts.specs.laws.Broadcasts.{outputs_each}
use Rattle.exits.specs.declared.Named.{Named}
use Rattle.exits.specs.Exits.{exit_of, exit_now}
use Rattle.exits.specs.Stated.{Stated}
use Rattle.exits.proofs.laws.Exits.{exit_agree}

-- the array says the outputs of 1 to n, and no others are read; words 138 and 139 are the marks of the votes decided 0 and 1
pub exit_stated : (g : Settings) (s : List ℕ) (outputs : ℕ) (values : List ℕ) (w0 w1 : ℕ) (r : Named) → Ruled g → Outputs g s g.n outputs values → w0 ≡ word s 138 → w1 ≡ word s 139 → Stated r (exit_of g (output_at outputs values) (mark w0) (mark w1)) → Stated r (exit_now g s)
unfolding exit_now decided_zero decided_one marked
exit_stated g s outputs values w0 w1 r ruled x ez eo t =
    let same : exit_of g (output_at outputs values) (mark w0) (mark w1) ≡ exit_now g s =
    exit_agree g (output_at outputs values) (output g s) (mark w0) (mark w1) (decided_zero s) (decided_one s) (outputs_each g s outputs values ruled x)
    (λ i a b. ap (λ (w : ℕ). mark w i) eo) (λ i a b. ap (λ (w : ℕ). mark w i) ez) in
    rw (← same) t
