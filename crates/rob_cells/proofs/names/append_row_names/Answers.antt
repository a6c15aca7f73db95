use Rattle.rob_cells.proofs.NameLemmas.{cell_names_more, row_names_in}
use Rattle.rob_model.specs.View.{robust}
use Rattle.rob_cells.proofs.names.append_row_names.Goals as goal

pub loop-i-preserved : goal.loop-i-preserved
loop-i-preserved g c =
    cell_names_more (row_names_in (robust g.N.Exact.value c.args.model.now)) c.args.names.now c.loop-i.names
    c.append_cell_row_names.new.names c.loop-i.i c.in_ok-append_cell_row_names.ensures.appended c.loop-i.invariant
