use Rattle.std.proofs.Common.{arith}
use Rattle.rob_meaning.proofs.Naming.NameLemmas.{length-form_names}
use Rattle.rob_meaning.specs.Names.{form_names}
use Rattle.rob_model.specs.View.{robust}
use Rattle.rob_top.proofs.Meaning.SearchStops.{named_at, no_row_at}
use Rattle.rob_top.proofs.Meaning.SearchingLemmas.{name_found}
use Rattle.rob_top.proofs.searching.search_plan.Goals as goal

pub search_form-requires-clause-form_in : goal.search_form-requires-clause-form_in
search_form-requires-clause-form_in g c =
    let m = robust g.N.Exact.value c.args.model.now in
    omega (
      arith,
      (name_found (form_names m) c.args.name.now c.in-Some.form c.in-Some.ensures.found).0,
      length-form_names m,
    )

pub returns-in-Some-clause-answers : goal.returns-in-Some-clause-answers
returns-in-Some-clause-answers g c =
    named_at g.N.Exact.value g.N.Exact.limit (robust g.N.Exact.value c.args.model.now) c.args.plan.now c.args.name.now _
    c.in-Some.form c.search_form.result c.in-Some.ensures.found c.search_form.ensures.answers

pub returns-in-None-clause-answers : goal.returns-in-None-clause-answers
returns-in-None-clause-answers g c =
    no_row_at g.N.Exact.value g.N.Exact.limit (robust g.N.Exact.value c.args.model.now) c.args.plan.now c.args.name.now
    _ c.fault.result c.in-None.ensures.found c.fault.ensures.fault
