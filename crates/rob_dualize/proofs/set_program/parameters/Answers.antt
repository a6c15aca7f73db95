use Rattle.std.proofs.Common.{◌≡◌, map, ◌∙◌, arith}
use Rattle.std.proofs.lemmas.Result.{IfOk-weaker}
use Rattle.rob_simplex.specs.Solutions.{point_of}
use Rattle.rob_counterpart.specs.ReadNumbers.{differences}
use Rattle.rob_dualize.specs.Numbers.{told}
use Rattle.rob_dualize.proofs.CertificateLemmas.{are_told, count_told, pairs_told, differences_read}
use Rattle.rob_dualize.proofs.set_program.parameters.Goals as goal

pub point-requires-clause-inside : goal.point-requires-clause-inside
point-requires-clause-inside g c = omega (arith, c.requires.inside)

pub pair_differences-requires-clause-inside : goal.pair_differences-requires-clause-inside
pair_differences-requires-clause-inside g c =
    let n = count_told (are_told g.N.Exact.value c.items.ensures.list c.in_ok-numbers.ensures.numbers) in
    omega arith

pub pair_differences-requires-clause-pairs : goal.pair_differences-requires-clause-pairs
pair_differences-requires-clause-pairs g c =
    pairs_told (are_told g.N.Exact.value c.items.ensures.list c.in_ok-numbers.ensures.numbers) c.args.count
    (omega arith) c.requires.pairs

pub returns : goal.returns
returns g c =
    let value = g.N.Exact.value in
    record {
      parameters = IfOk-weaker c.pair_differences.result
          (λ list. map value list ≡ differences c.args.count (told value c.items.result.now))
          (λ list. map value list ≡ differences c.args.count (point_of c.args.solver.now))
          (λ list h. h
          ∙ differences_read (are_told value c.items.ensures.list c.in_ok-numbers.ensures.numbers) c.args.count
          (omega arith))
          c.pair_differences.ensures.differences;
    }
