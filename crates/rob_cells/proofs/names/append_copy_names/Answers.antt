use Rattle.std.proofs.Common.{map}
use Rattle.rob_cells.proofs.NameLemmas.{cell_names_more, copy_names_in}
use Rattle.rob_model.specs.View.{adaptive_of}
use Rattle.rob_cells.proofs.names.append_copy_names.Goals as goal

pub loop-i-preserved : goal.loop-i-preserved
loop-i-preserved g c =
    cell_names_more (copy_names_in (map (adaptive_of g.N.Exact.value) c.args.adaptives.now))
    c.args.names.now c.loop-i.names
    c.append_cell_copy_names.new.names c.loop-i.i c.in_ok-append_cell_copy_names.ensures.appended c.loop-i.invariant
