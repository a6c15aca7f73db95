use Rattle.std.proofs.Common.{◌≡◌, ◌≤◌, ◌∙◌, ap, refl, subst, sym, arith, List, length, map, pos, nat_abs, ◌*ℤ◌}
use Rattle.std.proofs.lemmas.List.{length-map}
use Rattle.rob_algebra.specs.FractionPairs.{pos_lt}
use lib.IntN.{ℤ}
use Rattle.rob_entries.specs.Maps.{IsMapped}
use Rattle.rob_entries.proofs.MapLemmas.{mapped_back, part_zero}
use Rattle.rob_entries.proofs.ClearingLemmas.{part_multiple}
use Rattle.rob_entries.proofs.WrittenRows.{lent_row, part, row_within, row_length, row_at, stored_here, stored_other}
use Rattle.rob_entries.proofs.cells.Cells.reduce.Goals as goal

pub reduce-requires-clause-within : goal.reduce-requires-clause-within
reduce-requires-clause-within g c =
    let lent =
    lent_row g.E.Entry.value c.self.view_is c.as_mut_slice.ensures.value c.self.inside.items.ok.0
    c.args.start c.args.width c.requires.inside in
    row_within lent c.args.limit c.requires.within

pub returns-clause-row : goal.returns-clause-row
returns-clause-row g c =
    let lent =
    lent_row g.E.Entry.value c.self.view_is c.as_mut_slice.ensures.value c.self.inside.items.ok.0
    c.args.start c.args.width c.requires.inside in
    let value = g.E.Entry.value in
    let n = row_length lent in
    let wide : length (map g.E.Entry.value c.reduce.new.row) ≡ c.args.width =
    length-map c.reduce.new.row value ∙ c.reduce.auto.row ∙ n in
    let lowest = c.reduce.ensures.part in
    record {
      times = pos lowest.divisor;
      positive = pos_lt lowest.divisor lowest.positive;
      entries = λ k l. ap (λ t. pos lowest.divisor *ℤ t)
          (stored_here lent c.reduce.new.row c.reduce.auto.row k l)
          ∙ part_multiple (map value c.reduce.new.row)
          (map value (part c.as_mut_slice.result.now c.args.start c.args.width)) lowest k (omega arith)
          ∙ row_at lent k l;
    }

pub returns-clause-bounded : goal.returns-clause-bounded
returns-clause-bounded g c k l =
    let lent =
    lent_row g.E.Entry.value c.self.view_is c.as_mut_slice.ensures.value c.self.inside.items.ok.0
    c.args.start c.args.width c.requires.inside in
    let value = g.E.Entry.value in
    let n = row_length lent in
    let wide : length (map g.E.Entry.value c.reduce.new.row) ≡ c.args.width =
    length-map c.reduce.new.row value ∙ c.reduce.auto.row ∙ n in
    subst (λ t. nat_abs t ≤ c.args.limit)
    (sym (stored_here lent c.reduce.new.row c.reduce.auto.row k l))
    (c.reduce.ensures.bounded k (pos 0) (omega arith))

pub returns-clause-others : goal.returns-clause-others
returns-clause-others g c =
    let lent =
    lent_row g.E.Entry.value c.self.view_is c.as_mut_slice.ensures.value c.self.inside.items.ok.0
    c.args.start c.args.width c.requires.inside in
    stored_other lent c.reduce.new.row c.reduce.auto.row

pub invariant_of-self : goal.invariant_of-self
invariant_of-self g c =
    let lent =
    lent_row g.E.Entry.value c.self.view_is c.as_mut_slice.ensures.value c.self.inside.items.ok.0
    c.args.start c.args.width c.requires.inside in
    let value = g.E.Entry.value in
    let n = row_length lent in
    let wide : length (map g.E.Entry.value c.reduce.new.row) ≡ c.args.width =
    length-map c.reduce.new.row value ∙ c.reduce.auto.row ∙ n in
    let lowest = c.reduce.ensures.part in
    mapped_back lent c.reduce.new.row c.reduce.auto.row c.self.inside.marks.items
    (subst (λ (t : List ℤ). IsMapped t c.self.inside.marks.items) c.self.view_is c.self.invariant)
    refl (λ k l z. part_zero (pos lowest.divisor) _ _ (pos_lt lowest.divisor lowest.positive)
    (part_multiple (map value c.reduce.new.row)
    (map value (part c.as_mut_slice.result.now c.args.start c.args.width)) lowest k (omega arith))
    (row_at lent k l ∙ z))
