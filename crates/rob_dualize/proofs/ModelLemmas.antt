-- What is answered of one model, from what its steps answer.
use Rattle.std.proofs.Common.{◌≡◌, ℕ, ◌+◌, ◌-◌, ◌^◌, ◌≤◌, min, max, arith, refl, sym, subst, inl, inr, Result, Ok, Err}
use Rattle.std.specs.Prelude.{MatchResult, IfErr}
use Rattle.rob_meaning.specs.RobustModel.{RobustModel}
use Rattle.rob_model.specs.declared.place.Spot.{Spot}
use Rattle.rob_number.proofs.CountLemmas.{rose_later}
use Rattle.rob_number.specs.Counts.{Rose, raised}
use Rattle.rob_sets.specs.FirstWide as writing
use Rattle.rob_sets.specs.declared.error.ElabErr.{ElabErr}
use Rattle.rob_sets.specs.declared.error.ElabErr.TheVariants as refused
use Rattle.rob_cert.specs.declared.ending.Stop.{Stop}
use Rattle.rob_cert.specs.declared.ending.Stop.TheVariants.{EmptySet, Wide, Memory}
use Rattle.rob_dualize.specs.Ending.{IsWideStop}
use Rattle.rob_dualize.specs.Models.{HasModelCause, IsRefusal, IsWideIn, RoseIfStopped}
use Rattle.rob_dualize.specs.Solving.{CountsStop, HasCause}
use Rattle.rob_elab.specs.Written.{IsWritten, judged}

-- ---- why a model has no certificate
module _ (limit : ℕ) (m : RobustModel) where
  wide_there : (spot : Spot) (stop : Stop) → IsWideIn limit m spot → IsWideStop spot stop → HasModelCause limit m stop
  wide_there spot stop wide h = subst (HasModelCause limit m) (sym h) (wide, refl)

  -- a number of its set rows and forms is wide, first; or memory is refused
  pub refused_written : (e : ElabErr) (stop : Stop) → writing.HasCause limit m (judged m) e → IsRefusal e stop
      → HasModelCause limit m stop
  refused_written (refused.Wide spot) stop h is = wide_there spot stop (inl h) is
  refused_written refused.Memory stop h is = subst (HasModelCause limit m) (sym is) tt

  stop_of_route : (stop : Stop) → IsWritten limit m → HasCause limit m stop → HasModelCause limit m stop
  stop_of_route (EmptySet weights) w h = (w, h)
  stop_of_route (Wide spot trace) w h = (inr (w, h.0), h.1)
  stop_of_route Memory w h = tt

  pub cause_of_route : {T : Type 0} (r : Result T Stop) → IsWritten limit m → IfErr r (HasCause limit m)
      → IfErr r (HasModelCause limit m)
  cause_of_route (Ok x) w h = tt
  cause_of_route (Err stop) w h = stop_of_route stop w h

-- ---- what is counted behind what never fell
module _ (before between now : ℕ) (least : before ≤ between) where
  rose_raised : now ≡ raised between → Rose before now
  rose_raised e =
      let f : now ≡ max between (min (between + 1) (2 ^ 64 - 1)) = e in
      let g : max before (min (before + 1) (2 ^ 64 - 1)) ≤ now = omega arith in
      g

  pub refused_counted_behind : (e : ElabErr) (stop : Stop) → writing.RoseIfWide between now e → IsRefusal e stop
      → RoseIfStopped before now stop
  refused_counted_behind e (EmptySet weights) rose is = tt
  refused_counted_behind (refused.Wide spot) (Wide place trace) rose is = rose_later before between now least rose
  refused_counted_behind refused.Memory (Wide place trace) rose is = cc
  refused_counted_behind e Memory rose is = tt

  stop_counted_behind : (stop : Stop) → CountsStop between now stop → RoseIfStopped before now stop
  stop_counted_behind (EmptySet weights) h = tt
  stop_counted_behind (Wide spot trace) h = rose_raised h
  stop_counted_behind Memory h = tt

  pub route_counted_behind : {T : Type 0} (r : Result T Stop)
      → MatchResult r (λ _. now ≡ between) (CountsStop between now)
      → IfErr r (RoseIfStopped before now)
  route_counted_behind (Ok x) h = tt
  route_counted_behind (Err stop) h = stop_counted_behind stop h
