use Rattle.std.proofs.Common.{arith}
use Rattle.std.proofs.lemmas.Result.{on_ok_weaker}
use Rattle.rob_meaning.proofs.Naming.NameLemmas.{length-form_names}
use Rattle.rob_meaning.specs.Names.{form_names}
use Rattle.rob_model.specs.View.{robust}
use Rattle.rob_report.proofs.NameLemmas.{named_at}
use Rattle.rob_report.proofs.names.put_form.Goals as goal

pub put_form_name-requires-clause-inside : goal.put_form_name-requires-clause-inside
put_form_name-requires-clause-inside g c =
    omega (arith, c.requires.inside, length-form_names (robust g.N.Exact.value c.args.model.now))

pub returns : goal.returns
returns g c = record {
  appended = on_ok_weaker c.put_form_name.result
      (named_at (form_names (robust g.N.Exact.value c.args.model.now)) c.args.index _ _)
      c.put_form_name.ensures.appended;
}
