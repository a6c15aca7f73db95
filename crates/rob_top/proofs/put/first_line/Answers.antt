use Rattle.rob_top.proofs.Ending.LinesLemmas.{first_line_all, first_line_at}
use Rattle.rob_top.proofs.put.first_line.Goals as goal

pub returns-in-Some-clause-first : goal.returns-in-Some-clause-first
returns-in-Some-clause-first c =
    first_line_at _ _ _ c.in-Some.before c.in-Some.ensures.first c.split_at.ensures.front c.split_at.ensures.back

pub returns-in-None-clause-first : goal.returns-in-None-clause-first
returns-in-None-clause-first c =
    first_line_all _ _ _ c.requires.some c.in-None.ensures.first c.split_at-in-None.ensures.front
    c.split_at-in-None.ensures.back
