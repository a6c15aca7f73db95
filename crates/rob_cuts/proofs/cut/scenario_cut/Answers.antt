use Rattle.std.proofs.Common.{map, subst, sym, ◌≤◌, to_z, w64}
use lib.IntN.{nat_abs}
use Rattle.rob_model.specs.declared.place.Spot.TheVariants.{Clearing}
use Rattle.rob_model.specs.declared.place.Where.TheVariants as of
use Rattle.rob_algebra.specs.Width.{IsWideWhole}
use Rattle.rob_meaning.specs.Clearing.{whole_at}
use Rattle.rob_sets.specs.FirstWide.{Some_of}
use Rattle.rob_worst.proofs.TaskLemmas.{common_seen}
use Rattle.rob_cuts.specs.Rounds.{scenario_cut_of}
use Rattle.rob_cuts.specs.Stops.{IsInClearing}
use Rattle.rob_cuts.proofs.CutLemmas.{stop_at, refused_at, wide_base, wide_vector, scenario_made, made_fits}
use Rattle.rob_cuts.proofs.cut.scenario_cut.Goals as goal

pub returns-in_default-clause-stopped : goal.returns-in_default-clause-stopped
returns-in_default-clause-stopped g c =
    let qs = map g.N.Exact.value c.args.scenario.now in
    stop_at (IsInClearing g.N.Exact.limit (scenario_cut_of c.args.form qs)) (Clearing (of.Cut c.args.form))
    c.wide_at.result c.wide_at.ensures.stop
    (wide_base g.N.Exact.limit c.args.form qs c.in_default.ensures.least)

pub returns-in-Ok-clause-cut : goal.returns-in-Ok-clause-cut
returns-in-Ok-clause-cut g c =
    scenario_made g.N.Exact.value g.N.Exact.limit c.args.form c.args.scenario.now c.in-Some.base
    (to_z w64 c.in-Some.base) c.in-Ok.vector c.in-Some.ensures.least.0
    (common_seen g.N.Exact.limit c.in-Some.base g.met.N.Exact.limit_high c.in-Some.ensures.least.1)
    c.in-Ok.ensures.cleared

pub returns-in-Ok-clause-fits : goal.returns-in-Ok-clause-fits
returns-in-Ok-clause-fits g c =
    made_fits g.N.Exact.value g.N.Exact.limit c.args.form c.args.scenario.now c.in-Some.base (to_z w64 c.in-Some.base)
    c.in-Ok.vector
    (subst (λ v. nat_abs v ≤ g.N.Exact.limit) (sym (common_seen g.N.Exact.limit c.in-Some.base
    g.met.N.Exact.limit_high c.in-Some.ensures.least.1)) c.in-Some.ensures.least.1)
    c.in-Ok.ensures.fits c.in-Ok.ensures.cleared

pub returns-in-Err-clause-stopped : goal.returns-in-Err-clause-stopped
returns-in-Err-clause-stopped g c =
    let qs = map g.N.Exact.value c.args.scenario.now in
    refused_at (IsInClearing g.N.Exact.limit (scenario_cut_of c.args.form qs)) (Clearing (of.Cut c.args.form))
    (Some_of (λ q. IsWideWhole g.N.Exact.limit (whole_at c.in-Some.base q)) qs)
    (wide_vector g.N.Exact.limit c.args.form c.in-Some.base qs c.in-Some.ensures.least.0) c.in-Err.refusal
    c.in-Err.ensures.wide c.refused.result c.refused.ensures.stop
