-- Two numbers over what divides both: the same quotient, whose parts they are.
use Rattle.std.proofs.Common.{◌≡◌, ◌-◌, ◌^◌, ◌<◌, ◌≤◌, sym, ap, ap₂, ◌∙◌, subst, arith, inl, inr}
use Rattle.std.proofs.Math.Nat.{pos_of_dvd_of_pos}
use Rattle.std.proofs.lemmas.Int.{ints}
use lib.IntN.{ℤ, pos, nat_abs, ◌*ℤ◌}
use lib.Signed.{◌<ℤ◌}
use Rattle.rob_algebra.specs.Fraction.{of_pair}
use Rattle.rob_algebra.specs.Gcd.{gcd, IsGcd-gcd}
use Rattle.rob_algebra.specs.Integer.{mul_assoc, mul_left_comm}
use Rattle.rob_algebra.specs.Width.{IsWide}
use Rattle.rob_algebra.proofs.Parts.{lowest_parts}
use Rattle.rob_entries.specs.Entries.{ArePartsOf}
use Rattle.rob_entries.proofs.ClearingLemmas.{factor_positive}
use Rattle.rob_simplex.specs.Judging.{AreShortParts}
use Rattle.rob_simplex.proofs.Rows.LowestRows.{same_quotient}

module _ (n d first second : ℤ) (parts : ArePartsOf n d first second) (positive : pos 0 <ℤ d) where
  second_positive : pos 0 <ℤ second
  second_positive =
      let swapped : ArePartsOf d n second first = record {
        times = parts.times;
        positive = parts.positive;
        p_is = parts.q_is;
        q_is = parts.p_is;
      } in
      factor_positive swapped positive

  cross : first *ℤ d ≡ n *ℤ second
  cross =
      ap (λ v. first *ℤ v) parts.q_is ∙ mul_left_comm first (pos parts.times) second
      ∙ sym (mul_assoc (pos parts.times) first second) ∙ ap (λ v. v *ℤ second) (sym parts.p_is)

  same_parts : of_pair first (nat_abs second) ≡ of_pair n (nat_abs d)
  same_parts = same_quotient first n second d second_positive positive cross

  pub short_parts : (p q : ℤ) → p ≡ first → q ≡ second → nat_abs p < 2 ^ 62 → nat_abs q < 2 ^ 62 → AreShortParts n d p q
  short_parts p q ep eq ps qs =
      record {
        p_small = ps;
        q_small = qs;
        positive = subst (λ v. pos 0 <ℤ v) (sym eq) second_positive;
        same =
            ap₂ (λ a b. of_pair a (nat_abs b)) ep eq ∙ same_parts;
      }

  module _ (lowest : gcd (nat_abs first) (nat_abs second) ≤ 1) where
    own_parts : ((of_pair first (nat_abs second)).num ≡ first) × ((of_pair first (nat_abs second)).den ≡ nat_abs second)
    own_parts =
        let s : 0 < nat_abs second = (let h : pos 0 <ℤ second = second_positive in omega (arith, ints)) in
        let g : 0 < gcd (nat_abs first) (nat_abs second) =
        pos_of_dvd_of_pos (IsGcd-gcd (nat_abs first) (nat_abs second)).1 s in
        lowest_parts first (nat_abs second) s (omega arith)

    pub wide_first : 2 ^ 62 ≤ nat_abs first → IsWide (2 ^ 62 - 1) (of_pair n (nat_abs d))
    wide_first l =
        subst (IsWide (2 ^ 62 - 1)) same_parts
        (inl (subst (λ v. 2 ^ 62 - 1 < nat_abs v) (sym own_parts.0) (omega arith)))

    pub wide_second : 2 ^ 62 ≤ nat_abs second → IsWide (2 ^ 62 - 1) (of_pair n (nat_abs d))
    wide_second l =
        subst (IsWide (2 ^ 62 - 1)) same_parts (inr (subst (λ v. 2 ^ 62 - 1 < v) (sym own_parts.1) (omega arith)))
