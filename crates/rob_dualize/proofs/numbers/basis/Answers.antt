use Rattle.std.proofs.Common.{◌≡◌, arith, length}
use Rattle.rob_meaning.proofs.Lists.TabulateLemmas.{item_more}
use Rattle.rob_simplex.specs.Dictionaries.{columns_of}
use Rattle.rob_dualize.proofs.TabulateLemmas.{all_columns}
use Rattle.rob_dualize.proofs.numbers.basis.Goals as goal

pub loop-i-preserved : goal.loop-i-preserved
loop-i-preserved g c =
    item_more (columns_of c.args.solver.now.basis) c.loop-i.columns _ c.loop-i.i c.in_ok-push.ensures.appended
    c.basis.ensures.column c.loop-i.invariant

pub returns : goal.returns
returns g c =
    let n : c.loop-i.i ≡ length c.args.solver.now.basis =
    omega (arith, c.loop-i-test.false, c.loop-i.auto.i-end, c.requires.positions) in
    record { basis = all_columns c.args.solver.now.basis c.loop-i.columns c.loop-i.i n c.loop-i.invariant }
