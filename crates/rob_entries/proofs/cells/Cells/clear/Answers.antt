use Rattle.std.proofs.Common.{◌≡◌, ◌<◌, ◌∙◌, sym, ap, inl, inr, arith, subst, Bool, List, length, map}
use lib.IntN.{ℤ}
use Rattle.std.proofs.lemmas.Result.{on_err_weaker}
use Rattle.rob_linear.specs.Vectors.{at}
use Rattle.rob_entries.specs.Maps.{IsMapped}
use Rattle.rob_entries.proofs.WrittenRows.{IsLent, lent_row, back_whole, stored, row_length, row_within, stored_other, stored_same}
use Rattle.rob_entries.proofs.MapLemmas.{cleared_mapped}
use Rattle.rob_entries.proofs.ClearedCells.{own_here, wide_here, cleared_after, bounded_after}
use Rattle.rob_entries.proofs.cells.Cells.clear.Given.{Over}
use Rattle.rob_entries.proofs.cells.Cells.clear.Goals.{After-as_mut_slice}
use Rattle.rob_entries.proofs.cells.Cells.clear.Goals as goal

-- the row that is cleared, in the cells that were lent
lent_here : (g : Over) (c : After-as_mut_slice g)
    → IsLent g.E.Entry.value c.args.self.now c.self.inside.items.items c.as_mut_slice.result.now c.self.inside.items.len
    c.args.start c.width-width.result
lent_here g c =
    let h = c.requires.ready.inside in
    lent_row g.E.Entry.value c.self.view_is c.as_mut_slice.ensures.value c.self.inside.items.ok.0 c.args.start
    c.width-width.result (omega (arith, c.width-width.ensures.width))

pub clear-requires : goal.clear-requires
clear-requires g c =
    let a = c.requires.ready in
    let e = c.width-width.ensures.width in
    let lent = lent_here g (goal.at.clear-requires g c).After-as_mut_slice in
    let map_is = subst (λ (t : List ℤ). IsMapped t c.self.inside.marks.items) c.self.view_is c.self.invariant in
    let size : length c.as_mut_slice-marks.result.now ≡ length c.args.self.now =
    ap length c.as_mut_slice-marks.ensures.value ∙ map_is.size in
    let w = row_length lent in
    record {
      ready = record {
        same_width = w ∙ e;
        marks_in = omega (arith, e, w, size, lent.inside);
        limit_low = a.limit_low;
        bounded = record {
          within = row_within lent c.args.bound (λ k l. a.within k (subst (λ n. k < n) e l));
          low = a.bound_low;
        };
        self_low = a.self_low;
        place_in = omega (arith, e, w, a.place_in);
        positive = a.positive;
        own = own_here lent e (at c.args.row.now.entries) a.place_in a.own;
      };
    }

pub returns-clause-cleared : goal.returns-clause-cleared
returns-clause-cleared g c =
    cleared_after (lent_here g (goal.at.returns-clause-cleared g c).After-as_mut_slice) c.width-width.ensures.width
    (at c.args.row.now.entries) c.requires.ready.place_in c.clear.new.row c.clear.auto.row c.clear.result
    c.clear.ensures.cleared

pub returns-clause-bounded : goal.returns-clause-bounded
returns-clause-bounded g c =
    bounded_after (lent_here g (goal.at.returns-clause-bounded g c).After-as_mut_slice) c.width-width.ensures.width
    (at c.args.row.now.entries) c.requires.ready.place_in c.clear.new.row c.clear.auto.row c.args.limit c.clear.result
    c.clear.ensures.bounded

pub returns-clause-others : goal.returns-clause-others
returns-clause-others g c k o =
    let e = c.width-width.ensures.width in
    stored_other (lent_here g (goal.at.returns-clause-others g c).After-as_mut_slice) c.clear.new.row c.clear.auto.row k
    (elim o [ inl l ↦ inl l | inr h ↦ inr (omega (arith, e)) ])

pub returns-clause-wide : goal.returns-clause-wide
returns-clause-wide g c =
    on_err_weaker c.clear.result
    (wide_here (lent_here g (goal.at.returns-clause-wide g c).After-as_mut_slice) c.width-width.ensures.width
    (at c.args.row.now.entries) c.requires.ready.place_in c.args.limit)
    c.clear.ensures.wide

pub returns-clause-unchanged : goal.returns-clause-unchanged
returns-clause-unchanged g c =
    on_err_weaker c.clear.result
    (stored_same (lent_here g (goal.at.returns-clause-unchanged g c).After-as_mut_slice) c.clear.new.row
    c.clear.auto.row)
    c.clear.ensures.unchanged

pub invariant_of-self : goal.invariant_of-self
invariant_of-self g c =
    let lent = lent_here g (goal.at.invariant_of-self g c).After-as_mut_slice in
    let value = c.as_mut_slice-marks.ensures.value in
    subst (λ (t : List Bool). IsMapped (map g.E.Entry.value (stored lent c.clear.new.row c.clear.auto.row)) t)
    (sym (back_whole c.self.inside.marks.ok.0 value c.clear.auto.marks))
    (cleared_mapped lent c.clear.new.row c.clear.auto.row
    (subst (λ (t : List ℤ). IsMapped t c.self.inside.marks.items) c.self.view_is c.self.invariant) value c.clear.result
    c.args.place (at c.args.row.now.entries) c.clear.auto.marks c.clear.ensures.marked c.clear.ensures.cleared
    c.clear.ensures.kept c.clear.ensures.unchanged)
