use Rattle.rob_algebra.specs.Fraction.{den_pos}
use Rattle.rob_algebra.specs.FractionPairs.{of_pair_eq, of_pair_parts}
use Rattle.rob_algebra.specs.FractionLaws.{of_int-add, of_int-mul}
use Rattle.rob_algebra.proofs.Parts.{of_int-parts}
use Rattle.rob_algebra.proofs.fraction.pairs_are_read_as_fractions.Goals as goal

pub returns : goal.returns
returns c = record {
  same_pairs = of_pair_eq;
  lowest = of_pair_parts;
  positive = den_pos;
  whole = of_int-parts;
  of_int_add = of_int-add;
  of_int_mul = of_int-mul;
}
