use Rattle.std.proofs.Common.{ap, sym, ◌∙◌}
use Rattle.std.specs.BTreeMap.{get}
use Rattle.rob_algebra.specs.Fraction.{◌+ℚ◌}
use Rattle.rob_algebra.specs.FractionLaws.{ℚ-zero-add}
use Rattle.rob_sets.proofs.Cells.CellLemmas.{added_at}
use Rattle.rob_sets.specs.Tables.{cell_cmp}
use Rattle.rob_sets.proofs.table.Table.put.Goals as goal

pub returns : goal.returns
returns g c = record {
  put = λ k j.
      added_at g.N.Exact.value c.args.cell c.args.x c.args.x (get cell_cmp c.args.self.now.numbers) k j
      (get cell_cmp c.insert.new.self (record { row = k; column = j }))
      (c.in_ok-insert.ensures.updates.0 (record { row = k; column = j }))
      (sym (ap (λ u. u +ℚ g.N.Exact.value c.args.x) c.requires.absent ∙ ℚ-zero-add (g.N.Exact.value c.args.x)));
}
