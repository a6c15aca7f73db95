use Rattle.std.proofs.Common.{◌≡◌, drop, map}
use Rattle.std.specs.Prelude.{fold}
use Rattle.rob_model.specs.View.{parameter_of}
use Rattle.rob_write.specs.Pages.{put_line}
use Rattle.rob_write.specs.StatementWords.{parameter_words}
use Rattle.rob_write.proofs.set_writer.put_parameters.Given as goal

abbrev pub invariant-loop-param : goal.invariant-loop-param
invariant-loop-param g l =
    fold put_line l.page (map parameter_words (map (parameter_of g.N.Exact.value) (drop l.param-index l.params)))
    ≡ fold put_line l.fn.page (map parameter_words (map (parameter_of g.N.Exact.value) l.params))
