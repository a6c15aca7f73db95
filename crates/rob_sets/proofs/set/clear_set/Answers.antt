use Rattle.std.proofs.Common.{arith}
use Rattle.std.specs.Prelude.{◌≡◌, IsErrAnd, zero}
use Rattle.rob_model.specs.View.{robust}
use Rattle.rob_number.proofs.CountLemmas.{later}
use Rattle.rob_sets.specs.FirstWide.{HasCause, NothingWide, RoseIfWide}
use Rattle.rob_sets.specs.SetForm.{IsSetForm, SetFits, judged_set}
use Rattle.rob_sets.proofs.WholeRows.BoundRowLemmas.{bounds_many}
use Rattle.rob_sets.proofs.WholeRows.ParameterCounts.{columns_are, columns_fit, count_fits}
use Rattle.rob_sets.proofs.WholeRows.SetEnds.{bounds_stop, none_wide, rows_are, rows_fit, statements_stop}
use Rattle.rob_sets.proofs.Judging.AnswerLemmas.{no_answer, none_answered, on_error}
use Rattle.rob_sets.proofs.Judging.AppendingLemmas.{appended_length}
use Rattle.rob_sets.proofs.set.clear_set.Goals as goal

pub append_statements-requires-clause-few : goal.append_statements-requires-clause-few
append_statements-requires-clause-few g c =
    let m = robust g.N.Exact.value c.args.model.now in
    omega (
      arith,
      appended_length c.in_ok-append_bounds.ensures.rows,
      bounds_many zero m.parameters,
      c.requires.valid.limits.parameters,
    )

-- the bounds stop
pub returns-in_err-append_bounds : goal.returns-in_err-append_bounds
returns-in_err-append_bounds g c =
    let m = robust g.N.Exact.value c.args.model.now in
    let r = c.from_residual.result in
    let e = c.in_err-append_bounds.field-0.0 in
    let is : IsErrAnd r (λ d. d ≡ e) = c.from_residual.ensures.1 in
    record {
      set = no_answer r (λ set. IsSetForm m set) e is;
      fits = no_answer r (λ set. SetFits g.N.Exact.limit set) e is;
      none_wide = none_answered r (NothingWide g.N.Exact.limit m (judged_set m)) e is;
      cause =
          on_error r (HasCause g.N.Exact.limit m (judged_set m)) e is
          (bounds_stop m c.in_err-append_bounds.ensures.rows).cause;
      rose =
          on_error r
          (RoseIfWide (g.L.Ledger.wides c.args.ledger.now) (g.L.Ledger.wides c.append_bounds.new.ledger)) e is
          c.in_err-append_bounds.ensures.rows.rose;
      counted = c.append_bounds.ensures.counted;
    }

-- the statements stop
pub returns-in_err-append_statements : goal.returns-in_err-append_statements
returns-in_err-append_statements g c =
    let m = robust g.N.Exact.value c.args.model.now in
    let r = c.from_residual-in_err-append_statements.result in
    let e = c.in_err-append_statements.field-0.0 in
    let is : IsErrAnd r (λ d. d ≡ e) = c.from_residual-in_err-append_statements.ensures.1 in
    let stop = statements_stop m c.in_ok-append_bounds.ensures.rows c.append_bounds.ensures.counted.wides
    c.in_err-append_statements.ensures.rows in
    record {
      set = no_answer r (λ set. IsSetForm m set) e is;
      fits = no_answer r (λ set. SetFits g.N.Exact.limit set) e is;
      none_wide =
          none_answered r (NothingWide g.N.Exact.limit m (judged_set m)) e is;
      cause =
          on_error r (HasCause g.N.Exact.limit m (judged_set m)) e is
          stop.cause;
      rose =
          on_error r
          (RoseIfWide (g.L.Ledger.wides c.args.ledger.now) (g.L.Ledger.wides c.append_statements.new.ledger)) e is
          stop.rose;
      counted = later c.append_bounds.ensures.counted c.append_statements.ensures.counted;
    }

-- all are there
pub overflow_cast-result : goal.overflow_cast-result
overflow_cast-result g c = count_fits c.requires.valid c.items.ensures.list

pub overflow_add-result : goal.overflow_add-result
overflow_add-result g c = columns_fit c.requires.valid c.items.ensures.list c.lift_count.ensures.count

pub returns : goal.returns
returns g c =
    let m = robust g.N.Exact.value c.args.model.now in
    record {
      set = record {
        columns = columns_are c.requires.valid c.items.ensures.list c.lift_count.ensures.count;
        rows = rows_are m c.in_ok-append_bounds.ensures.rows c.in_ok-append_statements.ensures.rows;
      };
      fits = rows_fit m c.in_ok-append_bounds.ensures.rows c.in_ok-append_statements.ensures.rows;
      none_wide = none_wide m c.in_ok-append_bounds.ensures.rows c.in_ok-append_statements.ensures.rows;
      cause = tt;
      rose = tt;
      counted = later c.append_bounds.ensures.counted c.append_statements.ensures.counted;
    }
