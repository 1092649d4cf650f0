-- Without FINISHes rule 6 is what it was before there were any: the lowest vote's start, relay, AUX or move.
use Rattle.std.specs.Prelude.{ℕ, Bool, false, List, ◌≡◌}
use Rattle.settings.specs.Versions.{finishing}
use Rattle.settings.specs.declared.Settings.{Settings}
use Rattle.records.specs.Records.{version}
use Rattle.acts.specs.Acts.{first_act}
use Rattle.votes.specs.Votes.{votes_decided_one, vote_act, vote_due, vote_rule}

pub first_rule : (g : Settings) (s : List ℕ) (has_output : ℕ → Bool) → finishing (version s) ≡ false → vote_rule g s has_output ≡ first_act (λ i. vote_act g s (has_output i) (votes_decided_one g s) i) g.n
unfolding vote_rule vote_due
first_rule g s has_output e = rw e
