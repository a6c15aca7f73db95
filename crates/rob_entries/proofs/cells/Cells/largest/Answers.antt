use Rattle.rob_entries.proofs.WrittenRows.{lent_row, row_bounded, row_reached}
use Rattle.rob_entries.proofs.cells.Cells.largest.Goals as goal

pub returns-clause-bound : goal.returns-clause-bound
returns-clause-bound g c =
    let lent =
    lent_row g.E.Entry.value c.self.view_is c.as_slice.ensures.value c.self.inside.items.ok.0
    c.args.start c.args.width c.requires.inside in
    row_bounded lent c.largest.result c.largest.ensures.bound

pub returns-clause-reached : goal.returns-clause-reached
returns-clause-reached g c h =
    let lent =
    lent_row g.E.Entry.value c.self.view_is c.as_slice.ensures.value c.self.inside.items.ok.0
    c.args.start c.args.width c.requires.inside in
    row_reached lent c.largest.result (c.largest.ensures.reached h)
