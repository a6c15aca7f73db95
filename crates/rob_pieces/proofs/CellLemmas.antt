-- The cells cover all scenarios.
use Rattle.std.specs.Prelude.{◌≡◌, ℕ, zero, suc, ◌+◌, ◌*◌, ◌%◌, ◌^◌, ◌<◌, List, [], ◌∷◌, length, ◌⊎◌}
use Rattle.std.proofs.Common.{sym, ◌∙◌, ap, subst, arith, pow_pos, pow-suc, zero-mul, one-mul, add-mul, mul_assoc, mul_comm, inl, inr}
use Rattle.std.proofs.lemmas.Nat.{div-mul-add, mod-mul-add}
use Rattle.rob_algebra.specs.Fraction.{Fraction, ◌≤ℚ◌, ◌<ℚ◌}
use Rattle.rob_algebra.specs.FractionOrderLaws as Q
use Rattle.rob_meaning.specs.Places.{at}
use Rattle.rob_pieces.specs.Cuts.{Cut, bit, CellHolds, IsCell, IsOnSide}

-- the bit above a number's lower part
bit_above : (k h b r : ℕ) → b < 2 → r < 2 ^ k → bit k ((h * 2 + b) * 2 ^ k + r) ≡ b
bit_above k h b r small low = ap (λ n. n % 2) (div-mul-add (h * 2 + b) (2 ^ k) r low) ∙ mod-mul-add h 2 b small

-- a side of the cut on which the scenario is
side_of : (cut : Cut) (u : List Fraction) → (b : ℕ) × ((b < 2) × IsOnSide cut b u)
side_of cut u = by (Q.le_total_ℚ (at u cut.parameter) cut.level)
  where
    by : (at u cut.parameter ≤ℚ cut.level) ⊎ (cut.level <ℚ at u cut.parameter) → (b : ℕ) × ((b < 2) × IsOnSide cut b u)
    by (inl h) = (0, (omega arith, h))
    by (inr h) = (1, (omega arith, Q.le_of_lt_ℚ cut.level (at u cut.parameter) h))

-- whatever stands above the lowest bits, these can be chosen so that the scenario is on each side
choose : (cuts : List Cut) (u : List Fraction) (h : ℕ) →
    (r : ℕ) × ((r < 2 ^ length cuts) × CellHolds cuts (suc (h * 2 ^ length cuts + r)) u)
choose [] u h = (0, (pow_pos 0, tt))
choose (cut ∷ cuts) u h =
    let side = side_of cut u in
    let rest = choose cuts u (h * 2 + side.0) in
    let p = pow-suc 2 (length cuts) in
    let split : h * 2 ^ suc (length cuts) + (side.0 * 2 ^ length cuts + rest.0)
    ≡ (h * 2 + side.0) * 2 ^ length cuts + rest.0 =
    omega (
      arith,
      pow-suc 2 (length cuts),
      add-mul (h * 2) side.0 (2 ^ length cuts),
      mul_assoc h 2 (2 ^ length cuts),
      mul_comm 2 (2 ^ length cuts),
      ap (λ n. h * n) p,
      ap (λ n. h * n) (mul_comm 2 (2 ^ length cuts)),
    ) in (
      side.0 * 2 ^ length cuts + rest.0,
      (
        small side.0 (2 ^ length cuts) rest.0 side.1.0 rest.1.0 (p ∙ mul_comm (2 ^ length cuts) 2),
        subst (λ n. CellHolds (cut ∷ cuts) (suc n) u) (sym split) (
          subst (λ b. IsOnSide cut b u) (sym (bit_above (length cuts) h side.0 rest.0 side.1.0 rest.1.0)) side.1.1,
          rest.1.1,
        ),
      ),
    )
  where
    small : (b p r : ℕ) → b < 2 → r < p → 2 ^ suc (length cuts) ≡ 2 * p → b * p + r < 2 ^ suc (length cuts)
    small zero p r h l e = omega (arith, zero-mul p)
    small (suc zero) p r h l e = omega (arith, one-mul p)
    small (suc (suc b)) p r h l e = absurd (omega arith)

pub some_cell : (cuts : List Cut) (u : List Fraction) → (c : ℕ) × (IsCell cuts c × CellHolds cuts c u)
some_cell cuts u =
    let chosen = choose cuts u 0 in (
      suc chosen.0,
      (
        (omega arith, (let h = chosen.1.0 in omega arith)),
        subst (λ n. CellHolds cuts (suc n) u) (let e : 0 * 2 ^ length cuts + chosen.0 ≡ chosen.0 =
            omega (arith, zero-mul (2 ^ length cuts)) in e) chosen.1.1,
      ),
    )
