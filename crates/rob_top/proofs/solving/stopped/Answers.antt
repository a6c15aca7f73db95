use Rattle.std.proofs.Common.{subst}
use Rattle.rob_cert.specs.declared.ending.Stop.{Stop}
use Rattle.rob_model.specs.View.{robust}
use Rattle.rob_top.specs.WorkStops.{IsStopOf}
use Rattle.rob_top.proofs.solving.stopped.Goals as goal

pub wide_on_way-requires-clause-named : goal.wide_on_way-requires-clause-named
wide_on_way-requires-clause-named g c =
    (subst (λ (s : Stop). IsStopOf (robust g.N.Exact.value c.args.model.now) s) c.in-Wide.is c.requires.named).0

pub wide_on_way-requires-clause-rounds : goal.wide_on_way-requires-clause-rounds
wide_on_way-requires-clause-rounds g c =
    (subst (λ (s : Stop). IsStopOf (robust g.N.Exact.value c.args.model.now) s) c.in-Wide.is c.requires.named).1
