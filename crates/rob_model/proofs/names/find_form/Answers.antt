use Rattle.rob_meaning.specs.Names.{form_names}
use Rattle.rob_model.specs.View.{robust}
use Rattle.rob_model.proofs.OwnNames.{finds_own}
use Rattle.rob_meaning.proofs.Naming.NamedFormLemmas.{distinct_forms}
use Rattle.rob_model.proofs.names.find_form.Goals as goal

pub returns-clause-own : goal.returns-clause-own
returns-clause-own g c named =
    let m = robust g.N.Exact.value c.args.model.now in
    finds_own (form_names m) c.args.name.now c.find.result
    (distinct_forms m c.requires.valid.well_formed named) c.find.ensures.found
