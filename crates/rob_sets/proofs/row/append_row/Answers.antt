use Rattle.std.proofs.Common.{ap, arith, sym, ◌∙◌, subst}
use Rattle.std.proofs.lemmas.List.{length-map}
use Rattle.std.specs.Prelude.{[], length, List, map}
use Rattle.rob_algebra.specs.Fraction.{Fraction}
use Rattle.rob_number.specs.Counts.{Rose}
use Rattle.rob_model.specs.View.{parameter_of, robust}
use Rattle.rob_model.specs.declared.place.Spot.TheVariants.{Clearing}
use Rattle.rob_model.specs.declared.place.Where.TheVariants.{SetRow}
use Rattle.rob_sets.specs.Appending.{row_of}
use Rattle.rob_sets.specs.FirstWide.{IsWideCleared}
use Rattle.rob_sets.specs.SetForm.{judged_row}
use Rattle.rob_sets.specs.Stops.{StopsFor}
use Rattle.rob_sets.specs.Tables.{numbers_of}
use Rattle.rob_sets.specs.declared.set_form.SetRow.{SetRow as SetRowData}
use Rattle.rob_sets.proofs.Judging.JudgedLemmas.{stops_here}
use Rattle.rob_sets.proofs.WholeRows.RowLemmas.{row_appended, row_is}
use Rattle.rob_sets.proofs.row.append_row.Goals as goal

pub overflow_cast-place : goal.overflow_cast-place
overflow_cast-place g c = omega (arith, c.requires.few, ap length c.items.ensures.list)

pub overflow_cast-parameters : goal.overflow_cast-parameters
overflow_cast-parameters g c =
    omega (
      arith,
      c.requires.valid.limits.parameters,
      ap length c.items-2.ensures.list,
      length-map c.args.model.now.params (parameter_of g.N.Exact.value),
    )

pub row_numbers-requires-clause-few_parameters : goal.row_numbers-requires-clause-few_parameters
row_numbers-requires-clause-few_parameters g c =
    omega (
      arith,
      c.requires.valid.limits.parameters,
      ap length c.items-2.ensures.list,
      length-map c.args.model.now.params (parameter_of g.N.Exact.value),
    )

pub row_numbers-requires-clause-few_lifts : goal.row_numbers-requires-clause-few_lifts
row_numbers-requires-clause-few_lifts g c =
    omega (arith, c.requires.valid.limits.members, c.lift_count-lifts.ensures.count)

pub returns-clause-row : goal.returns-clause-row
returns-clause-row g c =
    let value = g.N.Exact.value in
    let m = robust value c.args.model.now in
    let row = row_of (numbers_of value c.args.table.now) in
    stops_here g.N.Exact.limit m (judged_row m (length c.args.rows.now) row) [] c.in-Err.stop c.stopped.result
    (Clearing (SetRow (length c.items.result.now)))
    (g.L.Ledger.wides c.args.ledger.now) (g.L.Ledger.wides c.row_numbers.new.ledger)
    (g.L.Ledger.wides c.clear.new.ledger)
    c.stopped.ensures.error (ap (λ (xs : List SetRowData). Clearing (SetRow (length xs))) (sym c.items.ensures.list))
    c.row_numbers.ensures.counted.wides
    (subst (λ (qs : List Fraction).
    StopsFor (Rose (g.L.Ledger.wides c.row_numbers.new.ledger) (g.L.Ledger.wides c.clear.new.ledger)
    × IsWideCleared g.N.Exact.limit qs) c.in-Err.stop)
    (ap (map value) c.deref.ensures.value
    ∙ row_is value c.args.model.now (numbers_of value c.args.table.now) (length c.items-2.result.now)
    c.lift_count-lifts.result c.in_ok-numbers.numbers.items
    (ap length c.items-2.ensures.list) c.lift_count-lifts.ensures.count c.in_ok-numbers.ensures.numbers)
    c.in-Err.ensures.wide)

pub returns-in-Ok-clause-row : goal.returns-in-Ok-clause-row
returns-in-Ok-clause-row g c =
    let value = g.N.Exact.value in
    row_appended g.N.Exact.limit (robust value c.args.model.now) (row_of (numbers_of value c.args.table.now))
    (length c.args.rows.now) (map value c.deref.result.now) c.in-Ok.list c.in_ok-row-in-Ok.row c.args.rows.now
    c.push.new.self
    (ap (map value) c.deref.ensures.value
    ∙ row_is value c.args.model.now (numbers_of value c.args.table.now) (length c.items-2.result.now)
    c.lift_count-lifts.result c.in_ok-numbers.numbers.items
    (ap length c.items-2.ensures.list) c.lift_count-lifts.ensures.count c.in_ok-numbers.ensures.numbers)
    c.in-Ok.ensures.cleared (sym c.items-in-Ok.ensures.list ∙ c.in_ok-row-in-Ok.ensures.parts) c.in-Ok.ensures.fits
    c.in-Ok.ensures.not_wide c.in_ok-push-in-Ok.ensures.appended
