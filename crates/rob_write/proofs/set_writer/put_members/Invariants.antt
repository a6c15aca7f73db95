use Rattle.std.proofs.Common.{◌≡◌, true, drop, map}
use Rattle.std.specs.Prelude.{fold}
use Rattle.rob_model.specs.View.{member_of, robust}
use Rattle.rob_write.specs.Pages.{put}
use Rattle.rob_write.specs.WrittenModel.{member_written}
use Rattle.rob_write.specs.ExpressionWords.{listed, naming_of}
use Rattle.rob_write.specs.StatementWords.{member_words}
use Rattle.rob_meaning.specs.RobustModel.{written_count}
use Rattle.rob_write.proofs.set_writer.put_members.Given as goal

abbrev pub invariant-loop-member : goal.invariant-loop-member
invariant-loop-member g l =
    fold put l.page
    (listed (member_words (naming_of (robust g.N.Exact.value l.model))) l.first
    (map (member_written (written_count (robust g.N.Exact.value l.model)))
    (map (member_of g.N.Exact.value) (drop l.member-index l.members))))
    ≡ fold put l.fn.page
    (listed (member_words (naming_of (robust g.N.Exact.value l.model))) true
    (map (member_written (written_count (robust g.N.Exact.value l.model)))
    (map (member_of g.N.Exact.value) l.members)))
