use Rattle.std.proofs.Common.{arith}
use Rattle.rob_model.specs.View.{robust}
use Rattle.rob_number.proofs.CountLemmas.{rise_later}
use Rattle.rob_sets.specs.FirstWide.{is_wide}
use Rattle.rob_elab.proofs.WrittenLemmas.{forms_cause, is_written, set_cause}
use Rattle.rob_elab.proofs.writing.written.Goals as goal

pub returns-in-Err-clause-cause : goal.returns-in-Err-clause-cause
returns-in-Err-clause-cause g c =
    set_cause g.N.Exact.limit (robust g.N.Exact.value c.args.model.now) c.in-Err.error c.in-Err.ensures.cause

pub returns-in-Ok-elaborate-clause-elaborated : goal.returns-in-Ok-elaborate-clause-elaborated
returns-in-Ok-elaborate-clause-elaborated g c = record {
  are_forms = c.in-Ok-elaborate.ensures.forms;
  is_set = c.in-Ok.ensures.set;
  forms_fit = c.in-Ok-elaborate.ensures.fits;
  set_fits = c.in-Ok.ensures.fits;
}

pub returns-in-Ok-elaborate-clause-written : goal.returns-in-Ok-elaborate-clause-written
returns-in-Ok-elaborate-clause-written g c =
    is_written g.N.Exact.limit (robust g.N.Exact.value c.args.model.now) c.in-Ok.ensures.none_wide
    c.in-Ok-elaborate.ensures.none_wide

pub returns-in-Ok-elaborate-clause-counted : goal.returns-in-Ok-elaborate-clause-counted
returns-in-Ok-elaborate-clause-counted g c = record {
  ops = omega (arith, c.clear_set.ensures.counted.ops, c.elaborate.ensures.counted.ops);
  wides = omega (arith, c.clear_set.ensures.counted.wides, c.elaborate.ensures.counted.wides);
}

pub returns-in-Err-elaborate-clause-cause : goal.returns-in-Err-elaborate-clause-cause
returns-in-Err-elaborate-clause-cause g c =
    forms_cause g.N.Exact.limit (robust g.N.Exact.value c.args.model.now) c.in-Err-elaborate.error
    c.in-Ok.ensures.none_wide c.in-Err-elaborate.ensures.cause

pub returns-in-Err-elaborate-clause-rose : goal.returns-in-Err-elaborate-clause-rose
returns-in-Err-elaborate-clause-rose g c =
    rise_later (is_wide c.in-Err-elaborate.error) (g.L.Ledger.wides c.args.ledger.now)
    (g.L.Ledger.wides c.clear_set.new.ledger) (g.L.Ledger.wides c.elaborate.new.ledger)
    c.clear_set.ensures.counted.wides c.in-Err-elaborate.ensures.rose

pub returns-in-Err-elaborate-clause-counted : goal.returns-in-Err-elaborate-clause-counted
returns-in-Err-elaborate-clause-counted g c = record {
  ops = omega (arith, c.clear_set.ensures.counted.ops, c.elaborate.ensures.counted.ops);
  wides = omega (arith, c.clear_set.ensures.counted.wides, c.elaborate.ensures.counted.wides);
}
