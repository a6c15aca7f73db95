use Rattle.std.proofs.Common.{arith, pos}
use Rattle.std.proofs.lemmas.Int.{ints}
use Rattle.rob_algebra.specs.Integer.{one-mul}
use Rattle.rob_table.specs.Tables.{row_at}
use Rattle.rob_simplex.proofs.row_edits.reduce_unless_one.Goals as goal

pub returns-then-size-eq1-clause-row : goal.returns-then-size-eq1-clause-row
returns-then-size-eq1-clause-row g c =
    (pos 1, omega (arith, ints), λ k l. one-mul (row_at c.args.rows.now c.args.width c.args.i k))
