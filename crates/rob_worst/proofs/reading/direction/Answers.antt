use Rattle.std.proofs.Common.{◌≡◌, ◌*◌, map, length, ◌∙◌, arith}
use Rattle.std.proofs.lemmas.Result.{IfOk-weaker}
use Rattle.rob_simplex.specs.Solutions.{ray_of}
use Rattle.rob_counterpart.specs.ReadNumbers.{differences}
use Rattle.rob_dualize.specs.Numbers.{told}
use Rattle.rob_dualize.proofs.CertificateLemmas.{are_told, count_told, pairs_told, differences_read}
use Rattle.rob_worst.proofs.reading.direction.Goals as goal

pub ray-requires-clause-inside : goal.ray-requires-clause-inside
ray-requires-clause-inside g c = omega (arith, c.requires.inside)

pub pair_differences-requires-clause-inside : goal.pair_differences-requires-clause-inside
pair_differences-requires-clause-inside g c =
    let n : length c.items.result.now ≡ 2 * c.args.count =
    count_told (are_told g.N.Exact.value c.items.ensures.list c.in_ok-numbers.ensures.numbers) in
    omega arith

pub pair_differences-requires-clause-pairs : goal.pair_differences-requires-clause-pairs
pair_differences-requires-clause-pairs g c =
    pairs_told (are_told g.N.Exact.value c.items.ensures.list c.in_ok-numbers.ensures.numbers) c.args.count
    (omega arith) c.requires.pairs

pub returns : goal.returns
returns g c =
    let value = g.N.Exact.value in
    record {
      parameters = IfOk-weaker c.pair_differences.result
          (λ list. map value list ≡ differences c.args.count (told value c.items.result.now))
          (λ list. map value list ≡ differences c.args.count (ray_of c.args.solver.now))
          (λ list h. h ∙ differences_read (are_told value c.items.ensures.list c.in_ok-numbers.ensures.numbers)
          c.args.count (omega arith))
          c.pair_differences.ensures.differences;
    }
