use Rattle.rob_cells.proofs.NameLemmas.{set_name_more}
use Rattle.rob_cells.proofs.names.append_set_names.Goals as goal

pub loop-i-preserved : goal.loop-i-preserved
loop-i-preserved c =
    set_name_more c.args.names.now c.loop-i.names c.push.new.self c.in_ok-word.field-0 c.in_ok-name.name c.loop-i.i
    c.in_ok-word.ensures.equal c.in_ok-name.ensures.numbered c.in_ok-push.ensures.appended c.loop-i.invariant
