use Rattle.std.proofs.Common.{◌∙◌, fold}
use Rattle.rob_meaning.specs.RobustModel.{written_count}
use Rattle.rob_model.specs.View.{robust, row_of}
use Rattle.rob_write.specs.Pages.{put}
use Rattle.rob_write.specs.WrittenModel.{row_written}
use Rattle.rob_write.specs.ExpressionWords.{naming_of}
use Rattle.rob_write.specs.StatementWords.{over_words, row_words}
use Rattle.rob_write.proofs.WriterLemmas.{over_step}
use Rattle.rob_write.proofs.writer.put_rows.Goals as goal

pub loop-i-preserved : goal.loop-i-preserved
loop-i-preserved g c =
    let m = robust g.N.Exact.value c.args.model.now in
    over_step (row_of g.N.Exact.value) (row_written (written_count m)) (row_words (naming_of m)) m.sets c.args.rows.now
    c.args.of_rows.now c.loop-i.i c.index-rows-i.result c.loop-i.page c.loop-i-test.true c.index-rows-i.is
    c.in_ok-put_row.ensures.written
    (c.in_ok-put_over.ensures.written
    ∙ (λ i. fold put c.put_row.new.page (over_words (c.items.ensures.list i) (c.set_of.ensures.set i))))
    c.in_ok-line_end.ensures.written c.loop-i.invariant
