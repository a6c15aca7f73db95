use Rattle.std.proofs.Common.{◌≡◌, drop, map}
use Rattle.std.specs.Prelude.{fold}
use Rattle.rob_model.specs.View.{variable_of}
use Rattle.rob_write.specs.Pages.{put_line}
use Rattle.rob_write.specs.StatementWords.{variable_words}
use Rattle.rob_write.proofs.writer.put_variables.Given as goal

abbrev pub invariant-loop-var : goal.invariant-loop-var
invariant-loop-var g l =
    fold put_line l.page (map variable_words (map (variable_of g.N.Exact.value) (drop l.var-index l.vars)))
    ≡ fold put_line l.fn.page (map variable_words (map (variable_of g.N.Exact.value) l.vars))
