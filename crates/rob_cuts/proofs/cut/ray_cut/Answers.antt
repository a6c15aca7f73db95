use Rattle.std.proofs.Common.{map}
use Rattle.rob_model.specs.declared.place.Spot.TheVariants.{Clearing}
use Rattle.rob_model.specs.declared.place.Where.TheVariants as of
use Rattle.rob_runs.specs.Cuts.{wholes}
use Rattle.rob_runs.specs.Spots.{SomeWide}
use Rattle.rob_cuts.specs.Rounds.{ray_cut_of}
use Rattle.rob_cuts.specs.Stops.{IsInClearing}
use Rattle.rob_cuts.proofs.CutLemmas.{refused_at, wide_ray}
use Rattle.rob_cuts.proofs.cut.ray_cut.Goals as goal

pub returns-in-Err-clause-stopped : goal.returns-in-Err-clause-stopped
returns-in-Err-clause-stopped g c =
    let qs = map g.N.Exact.value c.args.ray.now in
    refused_at (IsInClearing g.N.Exact.limit (ray_cut_of c.args.form qs)) (Clearing (of.Cut c.args.form))
    (SomeWide g.N.Exact.limit (wholes qs))
    (wide_ray g.N.Exact.limit c.args.form qs) c.in-Err.refusal c.in-Err.ensures.wide c.refused.result
    c.refused.ensures.stop
