use Rattle.std.proofs.Common.{◌≡◌, suc, ap, ◌∙◌, arith}
use Rattle.rob_meaning.specs.Places.{tabulate}
use Rattle.rob_counterpart.specs.Splitting.{difference}
use Rattle.rob_simplex.specs.Solutions.{ray_of}
use Rattle.rob_dualize.proofs.TabulateLemmas.{row_more}
use Rattle.rob_cuts.proofs.reading.direction.Goals as goal

pub loop-j-preserved : goal.loop-j-preserved
loop-j-preserved g c =
    row_more g.N.Exact.value c.loop-j.numbers c.push.new.self c.ray_difference.result c.loop-j.j
    (difference (ray_of c.args.solver.now))
    c.loop-j.invariant c.in_ok-push.ensures.appended c.ray_difference.ensures.value

pub ray_difference-requires-clause-one : goal.ray_difference-requires-clause-one
ray_difference-requires-clause-one g c = c.requires.pairs.one c.loop-j.j (omega (arith, c.loop-j-test.true))

pub returns : goal.returns
returns g c =
    let e : c.loop-j.j ≡ suc c.args.decisions = omega (arith, c.loop-j-test.false, c.loop-j.auto.j-end) in
    record { numbers = c.loop-j.invariant ∙ ap (λ n. tabulate n (difference (ray_of c.args.solver.now))) e }
