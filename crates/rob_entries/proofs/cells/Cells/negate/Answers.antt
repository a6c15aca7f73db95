use Rattle.std.proofs.Common.{◌∙◌, ap, refl, arith, subst, List, neg_ℤ}
use lib.IntN.{ℤ}
use Rattle.rob_entries.specs.Maps.{IsMapped}
use Rattle.rob_entries.proofs.MapLemmas.{mapped_back}
use Rattle.rob_entries.proofs.WrittenRows.{lent_row, row_within, row_length, row_at, stored_here, stored_other}
use Rattle.rob_entries.proofs.cells.Cells.negate.Goals as goal

pub negate-requires-clause-within : goal.negate-requires-clause-within
negate-requires-clause-within g c =
    let lent =
    lent_row g.E.Entry.value c.self.view_is c.as_mut_slice.ensures.value c.self.inside.items.ok.0
    c.args.start c.args.width c.requires.inside in
    row_within lent c.args.bound c.requires.within

pub returns-clause-row : goal.returns-clause-row
returns-clause-row g c k l =
    let lent =
    lent_row g.E.Entry.value c.self.view_is c.as_mut_slice.ensures.value c.self.inside.items.ok.0
    c.args.start c.args.width c.requires.inside in
    let n = row_length lent in
    stored_here lent c.negate.new.row c.negate.auto.row k l
    ∙ c.negate.ensures.negated k (omega arith)
    ∙ ap neg_ℤ (row_at lent k l)

pub returns-clause-others : goal.returns-clause-others
returns-clause-others g c =
    let lent =
    lent_row g.E.Entry.value c.self.view_is c.as_mut_slice.ensures.value c.self.inside.items.ok.0
    c.args.start c.args.width c.requires.inside in
    stored_other lent c.negate.new.row c.negate.auto.row

pub invariant_of-self : goal.invariant_of-self
invariant_of-self g c =
    let lent =
    lent_row g.E.Entry.value c.self.view_is c.as_mut_slice.ensures.value c.self.inside.items.ok.0
    c.args.start c.args.width c.requires.inside in
    let n = row_length lent in
    mapped_back lent c.negate.new.row c.negate.auto.row c.self.inside.marks.items
    (subst (λ (t : List ℤ). IsMapped t c.self.inside.marks.items) c.self.view_is c.self.invariant)
    refl (λ k l z. c.negate.ensures.negated k (omega arith)
    ∙ ap neg_ℤ (row_at lent k l ∙ z))
