use Rattle.std.proofs.Common.{sym, subst, Bool, true, ◌≡◌}
use Rattle.rob_settings.specs.Spots.{is_idle}
use Rattle.rob_settings.proofs.SpotLemmas.{idle_if_none, idle_if_short}
use Rattle.rob_settings.proofs.spot.is_idle.Goals as goal

pub returns-then-short : goal.returns-then-short
returns-then-short c = record {
  idle = λ t vs within.
      subst (λ (b : Bool). is_idle b c.args.item.now vs ≡ true) (sym c.if-short.true)
      (idle_if_short c.args.item.now vs (c.is_quiet_in.ensures.empty t vs within)
      (c.is_quiet_in.ensures.short t vs within));
}

pub returns-else-short : goal.returns-else-short
returns-else-short c = record {
  idle = λ t vs within.
      subst (λ (b : Bool). is_idle b c.args.item.now vs ≡ true) (sym c.if-short.false)
      (idle_if_none c.args.item.now vs (c.is_empty_in.ensures.empty t vs within));
}
