use Rattle.std.specs.Option.{option_copied}
use Rattle.rob_model.specs.Spelling.{tail_of, number_tail}
use Rattle.rob_model.proofs.FrontLemmas.{appended}
use Rattle.rob_model.proofs.spelling.Spelling.append.Goals as goal

pub returns-clause-appended : goal.returns-clause-appended
returns-clause-appended c =
    let s = c.args.self.now in
    appended c.append_part-2.result c.args.out.now s.first.now (number_tail s.number) (tail_of (option_copied s.second))
    (tail_of (option_copied s.last))
    c.push.new.self c.append_number.new.out c.append_part.new.out c.append_part-2.new.out
    c.in_ok-push.ensures.appended c.in_ok-append_number.ensures.appended c.in_ok-append_part.ensures.appended
    c.append_part-2.ensures.appended
