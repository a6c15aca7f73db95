use Rattle.std.proofs.Common.{◌≡◌, ◌∙◌, arith}
use Rattle.std.specs.Prelude.{pos, ◌+ℤ◌, ◌*ℤ◌}
use mir.Syntax.{w64}
use Rattle.std.proofs.lemmas.Int.{ints, to_z-of_z}
use Rattle.rob_ranges.proofs.ValueLemmas.{same_if}
use Rattle.rob_ranges.proofs.values.plus_short.Goals as goal

pub returns : goal.returns
returns c =
    let other = c.small-other.ensures.value ∙ to_z-of_z w64 c.args.short c.ranges.short in
    let once : c.args.number.now +ℤ (pos 1 *ℤ c.args.short) ≡ c.args.number.now +ℤ c.args.short =
    omega (arith, ints) in
    record {
      sum =
          same_if c.plus_times.result _ _
          ((λ i. c.args.number.now +ℤ (c.small-one.ensures.value i *ℤ other i)) ∙ once)
          c.plus_times.ensures.sum;
    }
