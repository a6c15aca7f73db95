use Rattle.std.proofs.Common.{◌≡◌, ◌+◌, ◌<◌, ◌≤◌, ◌∙◌, sym, ap, subst, arith, true, false, Bool, List, length, get_or}
use lib.IntN.{ℤ}
use Rattle.rob_entries.specs.Maps.{IsMapped}
use Rattle.rob_entries.proofs.WrittenRows.{part, part_length}
use Rattle.rob_entries.proofs.MarkScans.{part_mark}
use Rattle.rob_entries.proofs.cells.Cells.lowest_some.Goals as goal

pub returns-clause-zeros : goal.returns-clause-zeros
returns-clause-zeros g c k kl nl nr =
    let marks = c.self.inside.marks.items in
    let mapped : IsMapped c.args.self.now c.self.inside.marks.items =
    subst (λ (t : List ℤ). IsMapped t marks) c.self.view_is c.self.invariant in
    let size : length c.self.inside.marks.items ≡ length c.args.self.now = mapped.size in
    let inside : c.args.start + c.args.count ≤ length c.args.self.now = c.requires.row_in in
    let lent : c.as_slice.result.now ≡ c.self.inside.marks.items = c.as_slice.ensures.value in
    let fits : c.args.start + c.args.count ≤ length c.as_slice.result.now =
    subst (λ (t : List Bool). c.args.start + c.args.count ≤ length t) (sym lent) (omega arith) in
    let there : k < length (part c.as_slice.result.now c.args.start c.args.count) =
    omega (arith, part_length c.as_slice.result.now c.args.start c.args.count fits) in
    let off : get_or (part c.as_slice.result.now c.args.start c.args.count) k true ≡ false =
    c.lowest_marked.ensures.floor k (omega arith) there nl nr in
    mapped.zeros (c.args.start + k) (omega arith)
    (sym (ap (λ (t : List Bool). get_or t (c.args.start + k) true) lent)
    ∙ sym (part_mark c.as_slice.result.now c.args.start c.args.count k kl) ∙ off)
