use Rattle.std.proofs.Common.{◌∙◌}
use Rattle.rob_meaning.specs.Names.{set_row_names}
use Rattle.rob_model.specs.View.{robust}
use Rattle.rob_cert.proofs.Words.NameListLemmas.{named_more}
use Rattle.rob_cert.proofs.names.set_row_list.Goals as goal

pub loop-index-preserved : goal.loop-index-preserved
loop-index-preserved g c =
    c.in_ok-push.ensures.appended
    ∙ named_more (set_row_names (robust g.N.Exact.value c.args.model.now)) c.loop-index.list c.loop-index.index
    c.new-name.result c.put_set_row_name.new.out
    c.loop-index.invariant c.new-name.ensures.empty c.in_ok-put_set_row_name.ensures.appended
