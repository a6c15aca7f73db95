use Rattle.std.proofs.Common.{◌∷◌, []}
use Rattle.rob_cert.specs.Lines.{value_line, scale_line}
use Rattle.rob_cert.proofs.Readers.FirstLinesLemmas.{value_fails, scale_fails}
use Rattle.rob_cert.proofs.Readers.SectionLemmas.{section_further}
use Rattle.rob_cert.proofs.first_lines.read_both.Goals as goal

pub returns-in-Err-clause-fault : goal.returns-in-Err-clause-fault
returns-in-Err-clause-fault g c names s plan =
    value_fails names g.N.Exact.limit s plan c.args.at.rest.now c.args.at.line c.in-Err.offence c.rule.result
    c.rule.ensures.rule c.in-Err.ensures.fault

pub returns-in-Err-read_single-clause-fault : goal.returns-in-Err-read_single-clause-fault
returns-in-Err-read_single-clause-fault g c names s plan =
    scale_fails names g.N.Exact.limit s plan c.args.at.rest.now c.args.at.line (g.N.Exact.value c.in-Ok.value.number)
    c.in-Ok.value.at.rest.now c.in-Ok.value.at.line
    c.in-Err-read_single.offence c.rule-in-Err-read_single.result c.rule-in-Err-read_single.ensures.rule
    (g.met.N.Exact.fits c.in-Ok.value.number) (c.in-Ok.ensures.read names) c.in-Err-read_single.ensures.fault

pub returns-in-Ok-read_single-clause-read : goal.returns-in-Ok-read_single-clause-read
returns-in-Ok-read_single-clause-read g c names =
    section_further names g.N.Exact.limit (value_line (g.N.Exact.value c.in-Ok.value.number) ∷ [])
    (scale_line (g.N.Exact.value c.in-Ok-read_single.scale.number) ∷ [])
    c.args.at.rest.now c.in-Ok.value.at.rest.now c.in-Ok-read_single.scale.at.rest.now c.args.at.line
    c.in-Ok.value.at.line c.in-Ok-read_single.scale.at.line (c.in-Ok.ensures.read names)
    (c.in-Ok-read_single.ensures.read names)
