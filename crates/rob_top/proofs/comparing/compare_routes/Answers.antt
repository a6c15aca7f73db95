use Rattle.rob_top.proofs.Meaning.ComparedWorkLemmas.{at_width, enough}
use Rattle.rob_top.proofs.comparing.compare_routes.Goals as goal
use Rattle.rob_words.specs.declared.width.Width.TheVariants.{Eight, Sixteen, ThirtyTwo, SixtyTwo}

pub compare-requires : goal.compare-requires
compare-requires g c = record { limit = enough Eight }

pub returns-in-Eight-clause-compared : goal.returns-in-Eight-clause-compared
returns-in-Eight-clause-compared g c =
    at_width c.args.width Eight _ c.args.number c.compare.result c.in-Eight.is c.compare.ensures.compared

pub compare-requires-in-Sixteen : goal.compare-requires-in-Sixteen
compare-requires-in-Sixteen g c = record { limit = enough Sixteen }

pub returns-in-Sixteen-clause-compared : goal.returns-in-Sixteen-clause-compared
returns-in-Sixteen-clause-compared g c =
    at_width c.args.width Sixteen _ c.args.number c.compare-in-Sixteen.result c.in-Sixteen.is
    c.compare-in-Sixteen.ensures.compared

pub compare-requires-in-ThirtyTwo : goal.compare-requires-in-ThirtyTwo
compare-requires-in-ThirtyTwo g c = record { limit = enough ThirtyTwo }

pub returns-in-ThirtyTwo-clause-compared : goal.returns-in-ThirtyTwo-clause-compared
returns-in-ThirtyTwo-clause-compared g c =
    at_width c.args.width ThirtyTwo _ c.args.number c.compare-in-ThirtyTwo.result c.in-ThirtyTwo.is
    c.compare-in-ThirtyTwo.ensures.compared

pub compare-requires-in-SixtyTwo : goal.compare-requires-in-SixtyTwo
compare-requires-in-SixtyTwo g c = record { limit = enough SixtyTwo }

pub returns-in-SixtyTwo-clause-compared : goal.returns-in-SixtyTwo-clause-compared
returns-in-SixtyTwo-clause-compared g c =
    at_width c.args.width SixtyTwo _ c.args.number c.compare-in-SixtyTwo.result c.in-SixtyTwo.is
    c.compare-in-SixtyTwo.ensures.compared
