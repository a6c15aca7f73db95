use Rattle.std.proofs.Common.{◌≡◌, drop, map}
use Rattle.std.specs.Prelude.{fold}
use Rattle.rob_meaning.specs.RobustModel.{written_count}
use Rattle.rob_model.specs.View.{row_of, robust}
use Rattle.rob_write.specs.Pages.{put_line}
use Rattle.rob_write.specs.WrittenModel.{row_written}
use Rattle.rob_write.specs.ExpressionWords.{naming_of}
use Rattle.rob_write.specs.StatementWords.{lines_over, row_words}
use Rattle.rob_write.proofs.writer.put_rows.Given as goal

abbrev pub invariant-loop-i : goal.invariant-loop-i
invariant-loop-i g l =
    fold put_line l.page (lines_over (row_words (naming_of (robust g.N.Exact.value l.model))) l.model.sets
    (map (row_written (written_count (robust g.N.Exact.value l.model)))
    (map (row_of g.N.Exact.value) (drop l.i l.rows))) (drop l.i l.of_rows))
    ≡ fold put_line l.fn.page (lines_over (row_words (naming_of (robust g.N.Exact.value l.model))) l.model.sets
    (map (row_written (written_count (robust g.N.Exact.value l.model))) (map (row_of g.N.Exact.value) l.rows))
    l.of_rows)
