use Rattle.std.proofs.Common.{arith, ap, ap₂, sym, ◌∙◌, subst}
use Rattle.std.proofs.lemmas.List.{length-map}
use Rattle.std.specs.Prelude.{◌≡◌, ◌+◌, ◌++◌, ◌∷◌, [], List, ℤ, length}
use Rattle.rob_algebra.specs.Fraction.{Fraction}
use Rattle.rob_number.specs.Counts.{Rose}
use Rattle.rob_meaning.specs.Clearing.{cleared, entries}
use Rattle.rob_meaning.specs.Forms.{entries_of, form_columns, form_rows}
use Rattle.rob_meaning.proofs.Naming.NameLemmas.{length-column_names}
use Rattle.rob_model.specs.View.{parameter_of, robust}
use Rattle.rob_model.specs.declared.place.Spot.TheVariants.{Clearing}
use Rattle.rob_model.specs.declared.place.Where.TheVariants.{Form}
use Rattle.rob_sets.specs.FirstWide as judge
use Rattle.rob_sets.specs.FirstWide.{IsWideCleared}
use Rattle.rob_sets.specs.Stops.{StopsFor}
use Rattle.rob_sets.specs.Tables.{numbers_of}
use Rattle.rob_sets.proofs.Judging.JudgedLemmas.{stops_here}
use Rattle.rob_elab.specs.Forms.{MatrixFits, rows_of}
use Rattle.rob_elab.proofs.matrix.append_form.Goals as goal

pub overflow_add-columns : goal.overflow_add-columns
overflow_add-columns g c =
    let m = robust g.N.Exact.value c.args.model.now in
    omega (arith, c.column_count-columns.ensures.count, length-column_names m, c.requires.valid.limits.columns)

pub returns-clause-matrix : goal.returns-clause-matrix
returns-clause-matrix g c =
    let value = g.N.Exact.value in
    let m = robust value c.args.model.now in
    let f = numbers_of value c.args.table.now in
    let rows : length c.items-2.result.now + 1 ≡ form_rows m =
    omega (arith, ap length c.items-2.ensures.list, length-map c.args.model.now.params (parameter_of value)) in
    let columns : c.column_count-columns.result + 2 ≡ form_columns m =
    omega (arith, c.column_count-columns.ensures.count, length-column_names m) in
    let e = ap₂ (λ a b. rows_of a b f) rows columns in
    let matrix = c.in-Ok.ensures.cleared ∙ ap cleared e in
    record {
      appended = c.in_ok-push.ensures.appended
          ∙ ap (λ (x : List (List ℤ)). c.args.matrices.now ++ x ∷ []) matrix;
      fit = (subst (MatrixFits g.N.Exact.limit) matrix c.in-Ok.ensures.fits, tt);
      none_wide = (
        λ w. c.in-Ok.ensures.not_wide
            (subst (λ (x : List (List Fraction)). IsWideCleared g.N.Exact.limit (entries x)) (sym e) w),
        tt,
      );
    }

pub returns-in-Err-clause-matrix : goal.returns-in-Err-clause-matrix
returns-in-Err-clause-matrix g c =
    let value = g.N.Exact.value in
    let m = robust value c.args.model.now in
    let f = numbers_of value c.args.table.now in
    let first = g.L.Ledger.wides c.args.ledger.now in
    let last = g.L.Ledger.wides c.clear_rows.new.ledger in
    let rows : length c.items-2.result.now + 1 ≡ form_rows m =
    omega (arith, ap length c.items-2.ensures.list, length-map c.args.model.now.params (parameter_of value)) in
    let columns : c.column_count-columns.result + 2 ≡ form_columns m =
    omega (arith, c.column_count-columns.ensures.count, length-column_names m) in
    stops_here g.N.Exact.limit m
    (judge.clearing (Form (length c.args.matrices.now)) (entries (entries_of m f))) [] c.in-Err.stop c.stopped.result
    (Clearing (Form (length c.items.result.now))) first first last c.stopped.ensures.error
    (ap (λ (xs : List (List (List ℤ))). Clearing (Form (length xs))) (sym c.items.ensures.list)) (omega arith)
    (subst (λ (x : List (List Fraction)).
    StopsFor (Rose first last × IsWideCleared g.N.Exact.limit (entries x)) c.in-Err.stop)
    (ap₂ (λ a b. rows_of a b f) rows columns) c.in-Err.ensures.wide)
