use Rattle.rob_syntax.proofs.Fronts.RangeLemmas.{no_range_equal, range_begins}
use Rattle.rob_syntax.proofs.indexed.range.behind_range_comma.Goals as goal

pub returns-in-Some : goal.returns-in-Some
returns-in-Some c =
    record { read = range_begins _ c.in_ok-behind.ensures.read c.in_ok-rest.ensures.read c.in-Some.ensures.read }

pub returns-in-None : goal.returns-in-None
returns-in-None c =
    record { read = no_range_equal _ c.in_ok-behind.ensures.read c.in_ok-rest.ensures.read c.in-None.ensures.read }
