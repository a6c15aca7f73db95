use Rattle.rob_meaning.specs.Names.{column_names}
use Rattle.rob_model.specs.View.{robust}
use Rattle.rob_model.proofs.OwnNames.{finds_own, columns_distinct}
use Rattle.rob_model.proofs.names.find_column.Goals as goal

pub returns-clause-own : goal.returns-clause-own
returns-clause-own g c named =
    let m = robust g.N.Exact.value c.args.model.now in
    finds_own (column_names m) c.args.name.now c.find.result
    (columns_distinct m c.requires.valid.well_formed named) c.find.ensures.found
