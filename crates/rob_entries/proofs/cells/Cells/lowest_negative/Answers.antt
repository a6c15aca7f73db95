use Rattle.std.proofs.Common.{ℕ, ◌+◌, subst, map, get_or}
use Rattle.rob_linear.specs.Vectors.{at}
use Rattle.rob_entries.specs.Choices.{IsLowest}
use Rattle.rob_entries.proofs.Choices.{lowest_ext}
use Rattle.rob_entries.proofs.WrittenRows.{lent_row, part, row_at, row_length}
use Rattle.rob_entries.proofs.cells.Cells.lowest_negative.Goals as goal

pub returns : goal.returns
returns g c =
    let lent =
    lent_row g.E.Entry.value c.self.view_is c.as_slice.ensures.value c.self.inside.items.ok.0
    c.args.start c.args.count c.requires.row_in in
    let value = g.E.Entry.value in
    let row = map value (part c.as_slice.result.now c.args.start c.args.count) in
    let near : ℕ → ℕ = λ k. get_or c.args.near.now k 0 in
    let count = row_length lent in
    record {
      lowest = lowest_ext (at row) (λ k. at c.args.self.now (c.args.start + k)) near c.args.count
          c.args.before c.lowest_column.result
          (row_at lent)
          (subst (λ n. IsLowest (at row) near n c.args.before c.lowest_column.result) count
          c.lowest_column.ensures.lowest);
    }
