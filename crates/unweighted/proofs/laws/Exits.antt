-- With all weights 1: the three exits.
use Prim.Native.Nat.{ℕ, ◌*◌}
use Rattle.std.specs.Prelude.{Bool, ◌&&◌, ◌||◌, List, ◌≡◌, Option}
use Rattle.std.proofs.Math.Path.{refl, ap, ap₂, fun_ext}
use Rattle.std.proofs.Common.{◌∙◌}
use Rattle.std.proofs.Math.Dec.{leb, ltb}
use Rattle.quorum.specs.Every.{every}
use Rattle.quorum.specs.laws.Lowest.{lowest_agree}
use Rattle.records.specs.Records.{decided_zero, decided_one}
use Rattle.broadcasts.specs.Leading.{present}
use Rattle.exits.specs.Exits.{has_value, value_in, every_broadcast}
use Rattle.exits.specs.Exits as weighted
use Rattle.settings.specs.declared.Settings as weighted_settings
use Rattle.unweighted.specs.Exits.{with_output, size_s, exit1_at, votes_done, exit2_at, exit3_full, exit3, exit_of, exit_now}
use Rattle.unweighted.proofs.laws.Counts.{Ones, plain, counts, quorum_same, vote_quorum_same}
use Rattle.unweighted.proofs.laws.Broadcasts.{output_same}

module _ (g : weighted_settings.Settings) (one : Ones g) where
  with_output_same : (o : ℕ → Option ℕ) (test : ℕ → Bool) (v : ℕ) → weighted.with_output g o test v ≡ with_output (plain g) o test v
  unfolding weighted.with_output with_output
  with_output_same o test v = counts g one (λ i. test i && has_value (o i) v)

  size_same : (as1 : ℕ → Bool) → weighted.size_s g as1 ≡ size_s (plain g) as1
  unfolding weighted.size_s size_s
  size_same as1 = counts g one as1

  exit1_same : (o : ℕ → Option ℕ) → weighted.exit1_at g o ≡ exit1_at (plain g) o
  unfolding weighted.exit1_at exit1_at
  exit1_same o =
      lowest_agree _ _ g.n
      (λ i lo hi. ap₂ (λ (q c : ℕ). present (o i) && leb q c) (quorum_same g one) (with_output_same o every_broadcast (value_in (o i))))

  votes_same : (as0 as1 : ℕ → Bool) → weighted.votes_done g as0 as1 ≡ votes_done (plain g) as0 as1
  unfolding weighted.votes_done votes_done
  votes_same as0 as1 = ap₂ (λ (q c : ℕ). leb q c && every (λ i. as0 i || as1 i) g.n) (vote_quorum_same g one) (size_same as1)

  exit2_same : (o : ℕ → Option ℕ) (as1 : ℕ → Bool) → weighted.exit2_at g o as1 ≡ exit2_at (plain g) o as1
  unfolding weighted.exit2_at exit2_at
  exit2_same o as1 =
      lowest_agree _ _ g.n
      (λ i lo hi. ap₂ (λ (c d : ℕ). as1 i && (present (o i) && ltb c (2 * d))) (size_same as1) (with_output_same o as1 (value_in (o i))))

  exit3_same : (o : ℕ → Option ℕ) (as1 : ℕ → Bool) → weighted.exit3 g o as1 ≡ exit3 (plain g) o as1
  unfolding weighted.exit3 weighted.exit3_full exit3 exit3_full
  exit3_same o as1 = refl

  pub exit_same : (o : ℕ → Option ℕ) (as0 as1 : ℕ → Bool) → weighted.exit_of g o as0 as1 ≡ exit_of (plain g) o as0 as1
  unfolding weighted.exit_of exit_of
  exit_same o as0 as1 = rw (exit1_same o, votes_same as0 as1, exit2_same o as1, exit3_same o as1)

  pub exit_now_same : (s : List ℕ) → weighted.exit_now g s ≡ exit_now (plain g) s
  unfolding weighted.exit_now exit_now
  exit_now_same s =
      ap (λ (o : ℕ → Option ℕ). weighted.exit_of g o (decided_zero s) (decided_one s)) (fun_ext (output_same g one s))
      ∙ exit_same _ (decided_zero s) (decided_one s)
