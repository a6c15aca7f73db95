use Rattle.rob_meaning.specs.Names.{set_row_names}
use Rattle.rob_model.specs.View.{robust}
use Rattle.rob_model.proofs.OwnNames.{finds_own}
use Rattle.rob_meaning.proofs.Naming.NamedSetLemmas.{distinct_set_rows}
use Rattle.rob_model.proofs.names.find_set_row.Goals as goal

pub returns-clause-own : goal.returns-clause-own
returns-clause-own g c named =
    let m = robust g.N.Exact.value c.args.model.now in
    finds_own (set_row_names m) c.args.name.now c.find.result
    (distinct_set_rows m c.requires.valid.well_formed named) c.find.ensures.found
