use Rattle.std.proofs.Math.IntN.{+ℤ_invl}
use Rattle.rob_algebra.specs.Integer.{add_assoc, add_comm, zero-add, mul_assoc, *ℤ_comm, one-mul, add-mul}
use Rattle.rob_algebra.proofs.integer.integers_are_a_ring.Goals as goal

pub returns : goal.returns
returns c = record {
  add_assoc = add_assoc;
  add_comm = add_comm;
  zero_add = zero-add;
  neg_add = +ℤ_invl;
  mul_assoc = mul_assoc;
  mul_comm = *ℤ_comm;
  one_mul = one-mul;
  add_mul = add-mul;
}
