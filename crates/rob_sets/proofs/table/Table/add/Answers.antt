use Rattle.std.specs.BTreeMap.{get}
use Rattle.rob_algebra.specs.Fraction.{◌+ℚ◌}
use Rattle.rob_number.proofs.AnswerLaws.{ok_tells}
use Rattle.rob_sets.proofs.Cells.CellLemmas.{added_at}
use Rattle.rob_sets.specs.Tables.{cell_cmp, numbers_of}
use Rattle.rob_sets.proofs.table.Table.add.Goals as goal

pub returns-clause-added : goal.returns-clause-added
returns-clause-added g c k j =
    added_at g.N.Exact.value c.args.cell c.args.x c.in_ok-sum.sum (get cell_cmp c.args.self.now.numbers) k j
    (get cell_cmp c.insert.new.self (record { row = k; column = j }))
    (c.in_ok-insert.ensures.updates.0 (record { row = k; column = j }))
    (ok_tells g.N.Exact.limit
    (numbers_of g.N.Exact.value c.args.self.now c.args.cell.row c.args.cell.column +ℚ g.N.Exact.value c.args.x)
    (g.N.Exact.value c.in_ok-sum.sum) c.in_ok-sum.ensures.exact).0
