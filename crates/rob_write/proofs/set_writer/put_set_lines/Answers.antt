use Rattle.std.proofs.Common.{◌∙◌, fold}
use Rattle.rob_meaning.specs.RobustModel.{written_count}
use Rattle.rob_model.specs.View.{robust, set_line_of}
use Rattle.rob_write.specs.Pages.{put}
use Rattle.rob_write.specs.WrittenModel.{line_written}
use Rattle.rob_write.specs.ExpressionWords.{naming_of}
use Rattle.rob_write.specs.StatementWords.{over_words, set_words}
use Rattle.rob_write.proofs.WriterLemmas.{over_step}
use Rattle.rob_write.proofs.set_writer.put_set_lines.Goals as goal

pub loop-i-preserved : goal.loop-i-preserved
loop-i-preserved g c =
    let m = robust g.N.Exact.value c.args.model.now in
    over_step (set_line_of g.N.Exact.value) (line_written (written_count m)) (set_words (naming_of m)) m.sets
    c.args.set_lines.now c.args.of_lines.now c.loop-i.i c.index-set_lines-i.result c.loop-i.page c.loop-i-test.true
    c.index-set_lines-i.is c.in_ok-put_set_line.ensures.written
    (c.in_ok-put_over.ensures.written
    ∙ (λ i. fold put c.put_set_line.new.page (over_words (c.items.ensures.list i) (c.set_of.ensures.set i))))
    c.in_ok-line_end.ensures.written c.loop-i.invariant
