-- The kinds of bytes that reading records tells apart.
use Rattle.std.specs.Prelude.{ℕ, false, ◌≡◌, eqb}
use Rattle.std.proofs.Common.{sym, subst, ne_eqb}
use Rattle.std.proofs.Math.Decide.{ℕ_discrete}
use Rattle.text.specs.Fields.{TAB, LF}
use Rattle.delivery_csv.specs.Fields.{CR, QUOTE, COMMA}

-- a byte that is none of the five
pub record Other (b : ℕ) : Type 0 where
  pub quote : eqb b QUOTE ≡ false
  pub comma : eqb b COMMA ≡ false
  pub cr : eqb b CR ≡ false
  pub tab : eqb b TAB ≡ false
  pub lf : eqb b LF ≡ false

pub by_kind_lem : (P : ℕ → Type 0) → P QUOTE → P COMMA → P CR → P TAB → P LF → ((b : ℕ) → Other b → P b) → (b : ℕ) → P b
by_kind_lem P q c r t l o b =
    elim (ℕ_discrete b QUOTE) [
      | yes e ↦ subst P (sym e) q
      | no nq ↦
          elim (ℕ_discrete b COMMA) [
            | yes e ↦ subst P (sym e) c
            | no nc ↦
                elim (ℕ_discrete b CR) [
                  | yes e ↦ subst P (sym e) r
                  | no nr ↦
                      elim (ℕ_discrete b TAB) [
                        | yes e ↦ subst P (sym e) t
                        | no nt ↦
                            elim (ℕ_discrete b LF) [
                              | yes e ↦ subst P (sym e) l
                              | no nl ↦
                                  o b
                                  (record { quote = ne_eqb b QUOTE nq; comma = ne_eqb b COMMA nc; cr = ne_eqb b CR nr; tab = ne_eqb b TAB nt; lf = ne_eqb b LF nl })
                            ]
                      ]
                ]
          ]
    ]
