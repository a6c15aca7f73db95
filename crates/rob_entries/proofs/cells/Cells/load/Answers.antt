use Rattle.std.proofs.Common.{◌≡◌, ◌+◌, ◌≤◌, ◌<◌, arith, subst, length}
use Rattle.rob_entries.proofs.WrittenRows.{lent_row, row_within}
use Rattle.rob_entries.proofs.ClearedCells.{loaded}
use Rattle.rob_entries.proofs.cells.Cells.load.Goals as goal

pub load-requires-clause-within : goal.load-requires-clause-within
load-requires-clause-within g c =
    let e : c.width-width.result ≡ length c.args.row.now.entries = c.width-width.ensures.width in
    let inside : c.args.start + c.width-width.result ≤ length c.args.self.now =
    (let h = c.requires.inside in omega arith) in
    let lent =
    lent_row g.E.Entry.value c.self.view_is c.as_slice.ensures.value c.self.inside.items.ok.0
    c.args.start c.width-width.result inside in
    row_within lent c.args.bound (λ k l. c.requires.within k (subst (λ n. k < n) e l))

pub returns-clause-entries : goal.returns-clause-entries
returns-clause-entries g c =
    let e : c.width-width.result ≡ length c.args.row.now.entries = c.width-width.ensures.width in
    let inside : c.args.start + c.width-width.result ≤ length c.args.self.now =
    (let h = c.requires.inside in omega arith) in
    let lent =
    lent_row g.E.Entry.value c.self.view_is c.as_slice.ensures.value c.self.inside.items.ok.0
    c.args.start c.width-width.result inside in
    loaded lent e c.load.new.self.entries c.load.ensures.part
