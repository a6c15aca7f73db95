use Rattle.rob_cert.proofs.Readers.FirstLinesLemmas.{status_fails, bounds_fail, front_is}
use Rattle.rob_cert.specs.declared.error.Offence.TheVariants.{NoLine}
use Rattle.rob_cert.specs.View.{status_of}
use Rattle.rob_cert.proofs.first_lines.read_front.Goals as goal

pub returns-in-None-clause-fault : goal.returns-in-None-clause-fault
returns-in-None-clause-fault g c names =
    (NoLine, c.rule.ensures.rule, status_fails names g.N.Exact.limit c.args.text.now c.in-None.ensures.status)

pub returns-in-Err-clause-fault : goal.returns-in-Err-clause-fault
returns-in-Err-clause-fault g c names =
    bounds_fail names g.N.Exact.limit c.args.text.now (status_of c.in-Some.claim.status) c.in-Some.claim.rest.now
    c.in-Err.error c.in-Some.ensures.status (c.in-Err.ensures.fault names)

pub returns-in-Ok-clause-read : goal.returns-in-Ok-clause-read
returns-in-Ok-clause-read g c names =
    front_is names g.N.Exact.limit (status_of c.in-Some.claim.status) c.args.text.now c.in-Some.claim.rest.now _ _
    (g.N.Exact.value c.in-Ok.bounds.value) (g.N.Exact.value c.in-Ok.bounds.scale) c.in-Some.ensures.status
    (g.met.N.Exact.fits c.in-Ok.bounds.value) (g.met.N.Exact.fits c.in-Ok.bounds.scale) (c.in-Ok.ensures.read names)
