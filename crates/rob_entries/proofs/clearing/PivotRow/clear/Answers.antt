use Rattle.std.proofs.Common.{◌∙◌, ap, subst, map, length}
use Rattle.std.proofs.lemmas.List.{length-map}
use Rattle.std.proofs.lemmas.Result.{on_err_weaker}
use Rattle.rob_linear.specs.Vectors.{at}
use Rattle.rob_linear.specs.Multiples.{IsClearedBy}
use Rattle.rob_rows.specs.PrimitiveParts.{combination, IsPrimitivePart, IsWithin}
use Rattle.rob_entries.specs.Entries.{ArePartsOf}
use Rattle.rob_entries.specs.Updates.{Clearing}
use Rattle.rob_entries.proofs.ClearingLemmas.{parts_read, read_low, first_in, second_in, can_apply, cleared_in_lowest, wide_in_lowest, cleared_as_is, narrow_as_is, bounded_as_is, ok_if}
use Rattle.rob_entries.proofs.clearing.PivotRow.clear.Given.{Over}
use Rattle.rob_entries.proofs.clearing.PivotRow.clear.Goals.{After-lowest-p}
use Rattle.rob_entries.proofs.clearing.PivotRow.clear.Goals as goal

-- ---- what was read
within_here : (g : Over) (c : After-lowest-p g) → IsWithin c.args.self.now.bound c.args.self.now.entries
within_here g c = subst (λ (v : Clearing). IsWithin v.bound v.entries) c.self.view_is c.self.invariant.within

-- the factors, of the two entries at the place
parts_here : (g : Over) (c : After-lowest-p g)
    → ArePartsOf (at c.args.self.now.entries c.args.cell.place)
    (at (map g.E.Entry.value c.args.row.now) c.args.cell.place)
    (g.E.Entry.value c.lowest-p.result.0) (g.E.Entry.value c.lowest-p.result.1)
parts_here g c =
    parts_read g.E.Entry.value c.self.inside.entries.items c.args.row.now c.args.cell.place
    (ap (λ (v : Clearing). v.entries) c.self.view_is) c.requires.ready.same_width c.requires.ready.place_in
    c.index.ensures c.index-row-place.is c.lowest-p.ensures.parts

-- ---- the factors are small
pub lowest-p-requires-clause-q_size : goal.lowest-p-requires-clause-q_size
lowest-p-requires-clause-q_size g c =
    read_low g.E.Entry.value c.args.row.now c.args.cell.place c.index-row-place.result c.args.bound c.args.limit
    g.E.Entry.top c.requires.ready.place_in c.index-row-place.is c.requires.ready.bounded.within
    c.requires.ready.bounded.low c.requires.ready.limit_low

pub bound_of-requires-clause-p_size : goal.bound_of-requires-clause-p_size
bound_of-requires-clause-p_size g c =
    let here = (goal.at.bound_of-requires-clause-p_size g c).After-lowest-p in
    first_in c.requires.ready (within_here g here) (length-map c.args.row.now g.E.Entry.value) (parts_here g here)

pub bound_of-requires-clause-q_size : goal.bound_of-requires-clause-q_size
bound_of-requires-clause-q_size g c =
    let here = (goal.at.bound_of-requires-clause-q_size g c).After-lowest-p in
    second_in c.requires.ready (within_here g here) (length-map c.args.row.now g.E.Entry.value) (parts_here g here)

-- ---- as it comes out
pub apply-requires-clause-narrow : goal.apply-requires-clause-narrow
apply-requires-clause-narrow g c =
    let here = (goal.at.apply-requires-clause-narrow g c).After-lowest-p in
    narrow_as_is c.requires.ready (within_here g here) (length-map c.args.row.now g.E.Entry.value) (parts_here g here)
    (ap (λ (v : Clearing). v.bound) c.self.view_is) c.in-Some.ensures.bound c.in-Some.ensures.within

pub returns-in-Some-clause-cleared : goal.returns-in-Some-clause-cleared
returns-in-Some-clause-cleared g c =
    let here = (goal.at.returns-in-Some-clause-cleared g c).After-lowest-p in
    cleared_as_is c.requires.ready (within_here g here) (length-map c.args.row.now g.E.Entry.value) (parts_here g here)
    (map g.E.Entry.value c.apply.new.row) c.apply.ensures.entries

pub returns-in-Some-clause-bounded : goal.returns-in-Some-clause-bounded
returns-in-Some-clause-bounded g c =
    let here = (goal.at.returns-in-Some-clause-bounded g c).After-lowest-p in
    bounded_as_is c.requires.ready (within_here g here) (length-map c.args.row.now g.E.Entry.value) (parts_here g here)
    (ap (λ (v : Clearing). v.bound) c.self.view_is) c.in-Some.ensures.bound c.in-Some.ensures.within
    (map g.E.Entry.value c.apply.new.row) (length-map c.apply.new.row g.E.Entry.value ∙ c.apply.auto.row)
    c.apply.ensures.entries

-- ---- in lowest terms
pub apply_lowest-requires : goal.apply_lowest-requires
apply_lowest-requires g c =
    let here = (goal.at.apply_lowest-requires g c).After-lowest-p in
    record {
      ready =
          can_apply c.requires.ready (within_here g here) (length-map c.args.row.now g.E.Entry.value)
          (parts_here g here) c.lowest-p.ensures.lowest;
    }

pub returns-in-None-clause-cleared : goal.returns-in-None-clause-cleared
returns-in-None-clause-cleared g c =
    let here = (goal.at.returns-in-None-clause-cleared g c).After-lowest-p in
    let new = map g.E.Entry.value c.apply_lowest.new.row in
    let row = map g.E.Entry.value c.args.row.now in
    let top = c.args.self.now.entries in
    ok_if c.apply_lowest.result
    (IsPrimitivePart new
    (combination (g.E.Entry.value c.lowest-p.result.0) row (g.E.Entry.value c.lowest-p.result.1) top))
    (IsClearedBy (length c.args.row.now) c.args.cell.place (at row) (at top) (at new))
    (cleared_in_lowest c.requires.ready (within_here g here) (length-map c.args.row.now g.E.Entry.value)
    (parts_here g here) new)
    c.apply_lowest.ensures.part

pub returns-in-None-clause-wide : goal.returns-in-None-clause-wide
returns-in-None-clause-wide g c =
    let here = (goal.at.returns-in-None-clause-wide g c).After-lowest-p in
    on_err_weaker c.apply_lowest.result
    (wide_in_lowest c.requires.ready (within_here g here) (length-map c.args.row.now g.E.Entry.value)
    (parts_here g here))
    c.apply_lowest.ensures.wide
