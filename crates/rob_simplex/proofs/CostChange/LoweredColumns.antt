-- Rows that lose an amount at one place, read column by column.
use Rattle.std.proofs.Common.{◌≡◌, ℕ, suc, ◌+◌, ◌<◌, ◌≤◌, sym, ap, ◌∙◌, subst, arith, inl, inr}
use Rattle.std.proofs.lemmas.Bool.{cases_eq, cases_lt}
use Rattle.std.specs.Int.RustNames.{unsigned_abs}
use Rattle.std.specs.Int.{◌∣◌}
use lib.IntN.{ℤ, pos, ◌-ℤ◌, ◌*ℤ◌}
use Rattle.rob_algebra.specs.Integer.{mul-zero}
use Rattle.rob_linear.specs.Vectors.{Vector, Columns}
use Rattle.rob_linear.specs.CondensedRows.{IsPlaced}
use Rattle.rob_linear.specs.Stages.{unit_row}
use Rattle.rob_linear.proofs.CostChange.Stages.{unit_one, unit_zero}
use Rattle.rob_linear.proofs.RowForms.CondensedNumbers.{entry_primitive}
use Rattle.rob_table.specs.Lowering.{IsLowered, IsWideLowered}
use Rattle.rob_table.proofs.LoweredRows.{nothing}
use Rattle.rob_simplex.specs.Dictionaries.{read_row}
use Rattle.rob_simplex.proofs.Rows.ReadRows.{read_near, read_own, read_none}

module _ (m w n : ℕ) (places near basis : Columns) (placed : IsPlaced m w n places near basis) (i column : ℕ)
    (il : i ≤ m) (cl : column < n) (free : places column < w) where
  unit_same : (k : ℕ) → k < n → places k < w → unit_row (places column) (places k) ≡ unit_row column k
  unit_same k kl l = elim (cases_eq k column) [
    | inl e ↦ ap (λ v. unit_row (places column) (places v)) e ∙ unit_one (places column)
        ∙ sym (ap (unit_row column) e ∙ unit_one column)
    | inr d ↦
        unit_zero (places column) (places k)
        (λ e. d (sym (placed.near_column k kl l) ∙ ap near e ∙ placed.near_column column cl free))
        ∙ sym (unit_zero column k d)
  ]

  not_there : (k : ℕ) → w ≤ places k → unit_row column k ≡ pos 0
  not_there k l = unit_zero column k (λ e. let x : places k ≡ places column = ap places e in absurd (omega arith))

  pub lowered_read : (amount : ℤ) (low new : Vector) → IsLowered (suc w) (places column) amount low new
      → IsLowered n column amount (read_row w places i low) (read_row w places i new)
  lowered_read amount low new c = record {
    divisor = c.divisor;
    p = c.p;
    divides = c.divides;
    positive = c.positive;
    entries = λ k kl. elim (cases_lt (places k) w) [
      | inl l ↦
          ap (λ t. c.divisor *ℤ t) (read_near w places i new k l) ∙ c.entries (places k) (omega arith)
          ∙ ap (λ t. c.p *ℤ (t -ℤ (amount *ℤ unit_row (places column) (places k)))) (sym (read_near w places i low k l))
          ∙ ap (λ t. c.p *ℤ (read_row w places i low k -ℤ (amount *ℤ t))) (unit_same k kl l)
      | inr l ↦ elim (cases_eq (places k) (w + i)) [
        | inl s ↦
            ap (λ t. c.divisor *ℤ t) (read_own w places i new k s) ∙ c.entries w (omega arith)
            ∙ ap (λ t. c.p *ℤ (t -ℤ (amount *ℤ unit_row (places column) w))) (sym (read_own w places i low k s))
            ∙ ap (λ t. c.p *ℤ (read_row w places i low k -ℤ (amount *ℤ t)))
            (unit_zero (places column) w (λ e. absurd (omega arith)) ∙ sym (not_there k l))
        | inr d ↦
            ap (λ t. c.divisor *ℤ t) (read_none w places i new k l d) ∙ mul-zero c.divisor
            ∙ sym (nothing c.p amount (read_row w places i low k) (unit_row column k) (read_none w places i low k l d)
            (not_there k l))
      ]
    ];
  }

  pub wide_lowered_read : (limit : ℕ) (amount : ℤ) (low : Vector)
      → IsWideLowered limit (suc w) (places column) amount low
      → IsWideLowered limit n column amount (read_row w places i low)
  wide_lowered_read limit amount low x =
      let kl : x.3.0 < suc w = x.3.1 in
      let over : limit < unsigned_abs (x.0 x.3.0) = x.3.2 in
      let entry : (c : ℕ) × (c < n) × (read_row w places i x.0 c ≡ x.0 x.3.0) = elim (cases_lt x.3.0 w) [
        | inl l ↦ (
          near x.3.0,
          placed.near_in x.3.0 l,
          read_near w places i x.0 (near x.3.0)
              (subst (λ t. t < w) (sym (placed.near_at x.3.0 l)) l) ∙ ap x.0 (placed.near_at x.3.0 l),
        )
        | inr l ↦
            let e : w ≡ x.3.0 = omega arith in
            (basis i, placed.basic_in i il, read_own w places i x.0 (basis i) (placed.basic_at i il) ∙ ap x.0 e)
      ] in (
        read_row w places i x.0,
        lowered_read amount low x.0 x.1,
        entry_primitive m w n places near basis (λ j. x.0) (λ j. x.0 w) i placed il
            (λ d each own. x.2 d (λ j jl. elim (cases_lt j w) [
              | inl l ↦ each j l
              | inr l ↦
                  let e : w ≡ j = omega arith in
                  subst (λ t. d ∣ unsigned_abs (x.0 t)) e own
            ])),
        (entry.0, entry.1, subst (λ t. limit < unsigned_abs t) (sym entry.2) over),
      )
