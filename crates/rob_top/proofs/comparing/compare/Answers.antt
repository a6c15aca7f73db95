use Rattle.std.proofs.Common.{arith}
use Rattle.rob_model.specs.View.{robust}
use Rattle.rob_top.proofs.Meaning.ComparedWorkLemmas.{never_refused, some_scenario, summary_replies}
use Rattle.rob_top.proofs.comparing.compare.Goals as goal

pub line_by-requires-clause-admitted : goal.line_by-requires-clause-admitted
line_by-requires-clause-admitted g c =
    some_scenario c.args.number (robust g.N.Exact.value c.in_ok-model.model) c.in_ok-model.ensures.model

pub line_by-requires-in-Ok-clause-admitted : goal.line_by-requires-in-Ok-clause-admitted
line_by-requires-in-Ok-clause-admitted g c =
    some_scenario c.args.number (robust g.N.Exact.value c.in_ok-model.model) c.in_ok-model.ensures.model

pub returns-in-Ok-clause-compared : goal.returns-in-Ok-clause-compared
returns-in-Ok-clause-compared g c =
    summary_replies g.N.Exact.limit (g.L.Ledger.wides c.args.ledger.now) (g.L.Ledger.wides c.written.new.ledger)
    (g.L.Ledger.wides c.line_by.new.ledger) (g.L.Ledger.wides c.line_by-in-Ok.new.ledger) c.args.number
    (robust g.N.Exact.value c.in_ok-model.model) c.in_ok-dual-in-Ok.dual.spot c.in_ok-cuts-in-Ok.cuts.spot
    c.in_ok-dual-in-Ok.dual.text
    c.in_ok-cuts-in-Ok.cuts.text c.summary.result c.in_ok-model.ensures.model c.in_ok-dual-in-Ok.ensures.told
    c.in_ok-cuts-in-Ok.ensures.told (omega (arith, c.generate.ensures.counted.wides, c.written.ensures.counted.wides))
    c.line_by.ensures.counted
    c.line_by-in-Ok.ensures.counted c.in_ok-dual-in-Ok.ensures.rose c.in_ok-cuts-in-Ok.ensures.rose
    c.summary.ensures.summary

pub unreachable-requires : goal.unreachable-requires
unreachable-requires g c =
    never_refused g.N.Exact.limit c.args.number (robust g.N.Exact.value c.in_ok-model.model)
    c.in-Err-Wide.field-0 _ c.requires.limit
    c.in_ok-model.ensures.model c.in-Err-Wide.field-0-is c.in-Err-Wide.ensures.cause
