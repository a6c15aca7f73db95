use Rattle.rob_algebra.specs.FractionLaws.{ℚ-add_assoc, ℚ-add_comm, ℚ-zero-add, ℚ-neg-add, ℚ-mul_assoc, ℚ-mul_comm, ℚ-one-mul, ℚ-add-mul, mul_inv}
use Rattle.rob_algebra.proofs.Parts.{one_not_zero}
use Rattle.rob_algebra.proofs.fraction.fractions_are_a_field.Goals as goal

pub returns : goal.returns
returns c = record {
  add_assoc = ℚ-add_assoc;
  add_comm = ℚ-add_comm;
  zero_add = ℚ-zero-add;
  neg_add = ℚ-neg-add;
  mul_assoc = ℚ-mul_assoc;
  mul_comm = ℚ-mul_comm;
  one_mul = ℚ-one-mul;
  add_mul = ℚ-add-mul;
  mul_inv = mul_inv;
  one_is_not_zero = one_not_zero;
}
