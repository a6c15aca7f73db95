-- The work of `gen` on a number: its model is written in whole numbers, and what the two routes tell makes the summary.
use Rattle.std.proofs.Common.{◌≡◌, ℕ, ◌≤◌, ◌^◌, ◌-◌, ◌++◌, List, Option, Some, None, Result, Ok, Err, IfOk, sym, ◌∙◌, ap, subst, arith}
use Rattle.std.specs.Prelude.{ℤ}
use Rattle.rob_algebra.specs.Fraction.{Fraction}
use Rattle.rob_branch.proofs.OneSpotLemmas.{none_first}
use Rattle.rob_cert.specs.declared.certificate.Cert.{Cert}
use Rattle.rob_cert.specs.declared.ending.Stop.{Stop}
use Rattle.rob_cert.specs.declared.ending.Stop.TheVariants as stop
use Rattle.rob_cert.specs.declared.trace.Trace.{Trace}
use Rattle.rob_cuts.specs.Solving.{StopFits}
use Rattle.rob_dualize.specs.Solving.{CountsStop, HasScenario}
use Rattle.rob_gen.proofs.GeneratedLemmas.{admitted}
use Rattle.rob_gen.specs.Generated.{generated}
use Rattle.rob_meaning.specs.RobustModel.{RobustModel}
use Rattle.rob_model.specs.declared.place.Spot.{Spot}
use Rattle.rob_number.specs.Counts.{Rose}
use Rattle.rob_number.specs.Lowest as Lowest
use Rattle.rob_number.specs.declared.memory.Memory.{Memory as Want}
use Rattle.rob_sets.specs.FirstWide.{HasCause}
use Rattle.rob_sets.specs.declared.error.ElabErr.{ElabErr}
use Rattle.rob_sets.specs.declared.error.ElabErr.TheVariants as refused
use Rattle.rob_top.proofs.Relations.GeneratedWholes.{generated_written}
use Rattle.rob_number.proofs.CountLemmas.{rose_later}
use Rattle.rob_top.proofs.Meaning.WorkLemmas.{limit_is, rose_still}
use Rattle.rob_top.specs.Calls.{Count, count}
use Rattle.rob_top.specs.Compared.{heading}
use Rattle.rob_top.specs.ComparedWork.{RoseAtSpot, RepliesCompared, IsLineOf, first_ended}
use Rattle.rob_commands.specs.Replies.{Replies}
use Rattle.rob_top.specs.Routes.{HasStopCause, SolvesBy}
use Rattle.rob_commands.specs.declared.reply.Reply.{Reply}
use Rattle.rob_words.specs.Values.{bits_of, greatest_of}
use Rattle.rob_words.specs.declared.route.Route.{Route}
use Rattle.rob_words.specs.declared.route.Route.TheVariants.{Dual, Cuts}
use Rattle.rob_words.specs.declared.width.Width.{Width}
use Rattle.rob_words.specs.declared.width.Width.TheVariants.{Eight, Sixteen, ThirtyTwo, SixtyTwo}
use Rattle.rob_elab.specs.Written.{judged, IsWritten}

-- ---- the model of a number is written
pub never_refused : (limit n : ℕ) (m : RobustModel) (e : ElabErr) (spot : Spot) → 255 ≤ limit
    → m ≡ generated n → e ≡ refused.Wide spot
    → HasCause limit m (judged m) e → ⊥
never_refused limit n m e spot enough same is h =
    let there : HasCause limit m (judged m) (refused.Wide spot) =
    subst (λ (x : ElabErr). HasCause limit m (judged m) x) is h in
    let written : IsWritten limit m = subst (IsWritten limit) (sym same) (generated_written limit enough n) in
    none_first limit m (judged m) spot written there

pub some_scenario : (n : ℕ) (m : RobustModel) → m ≡ generated n → HasScenario m
some_scenario n m same = subst HasScenario (sym same) (admitted n)

-- ---- why a route stops
module _ {N : Type 0} (value : N → Fraction) (limit : ℕ) (m : RobustModel) (way : Route) (before now : ℕ)
    (r : Result (Cert N × Trace) Stop) (s t : Stop) (stopped : r ≡ Err s) (is : s ≡ t)
    (solves : SolvesBy way value limit m before now r) where
  at_stop : SolvesBy way value limit m before now (Err t)
  at_stop =
      subst (λ (x : Result (Cert N × Trace) Stop). SolvesBy way value limit m before now x)
      (stopped ∙ ap (λ (x : Stop). Err x) is) solves

  pub stop_cause : HasStopCause way limit m t
  stop_cause = at_stop.stopped

  pub stop_fits : StopFits limit t
  stop_fits = at_stop.fits

  pub stop_counts : CountsStop before now t
  stop_counts = at_stop.counted

-- never because no scenario is admitted, where one is
pub never_empty : (way : Route) (limit : ℕ) (m : RobustModel) (weights : List ℤ) → HasScenario m
    → HasStopCause way limit m (stop.EmptySet weights) → ⊥
never_empty way limit m weights some h = h.shown.empty some.0 some.1

-- a wide number is counted
pub rose_counts : {T : Type 0} (before now : ℕ) (place : Spot) (trace : Trace)
    (spot : T → Option Spot) (r : Result T Want)
    → CountsStop before now (stop.Wide place trace) → IfOk r (λ told. spot told ≡ Some place)
    → IfOk r (λ told. RoseAtSpot (count before now) (spot told))
rose_counts before now place trace spot (Err want) h is = tt
rose_counts before now place trace spot (Ok told) h is =
    let rose : Rose before now = omega (arith, h) in
    subst (λ (o : Option Spot). RoseAtSpot (count before now) o) (sym is) rose

-- ---- the summary
module _ (limit start first middle end : ℕ) where
  counted_first : (spot : Option Spot) → start ≤ first → middle ≤ end → RoseAtSpot (count first middle) spot
      → RoseAtSpot (count start end) spot
  counted_first None a b h = tt
  counted_first (Some spot) a b h =
      rose_still start middle end b (rose_later start first middle a h)

  pub summary_replies : (n : ℕ) (m : RobustModel) (dual cuts : Option Spot) (by_dual by_cuts : List ℕ)
      (r : Result Reply Want) → m ≡ generated n
      → IsLineOf limit m Dual dual by_dual → IsLineOf limit m Cuts cuts by_cuts → start ≤ first
      → first ≤ middle → middle ≤ end
      → RoseAtSpot (count first middle) dual → RoseAtSpot (count middle end) cuts
      → IfOk r (Replies (first_ended dual cuts) (heading n ++ (by_dual ++ by_cuts)))
      → IfOk r (RepliesCompared limit (count start end) n)
  summary_replies n m dual cuts by_dual by_cuts (Err want) same h k a b c d e is = tt
  summary_replies n m dual cuts by_dual by_cuts (Ok reply) same h k a b c d e is = record {
    dual = dual;
    cuts = cuts;
    by_dual = by_dual;
    by_cuts = by_cuts;
    dual_told = subst (λ (x : RobustModel). IsLineOf limit x Dual dual by_dual) same h;
    cuts_told = subst (λ (x : RobustModel). IsLineOf limit x Cuts cuts by_cuts) same k;
    dual_counted = counted_first dual a c d;
    cuts_counted = counted_last cuts e;
    replies = is;
  }
    where
      counted_last : (spot : Option Spot) → RoseAtSpot (count middle end) spot → RoseAtSpot (count start end) spot
      counted_last None h = tt
      counted_last (Some spot) h = rose_later start middle end (omega (arith, a, b)) h

-- ---- at the width of the line
pub enough : (width : Width) → 255 ≤ Lowest.limit_of (bits_of width)
enough width = subst (λ (n : ℕ). 255 ≤ n) (sym (limit_is width)) (by width)
  where
    by : (w : Width) → 255 ≤ 2 ^ bits_of w - 1
    by Eight = omega arith
    by Sixteen = omega arith
    by ThirtyTwo = omega arith
    by SixtyTwo = omega arith

pub at_width : (width same : Width) (wides : Count) (n : ℕ) (r : Result Reply Want) → width ≡ same
    → IfOk r (RepliesCompared (Lowest.limit_of (bits_of same)) wides n)
    → IfOk r (RepliesCompared (greatest_of width) wides n)
at_width width same wides n (Err want) e h = tt
at_width width same wides n (Ok reply) e h =
    subst (λ (limit : ℕ). RepliesCompared limit wides n reply) (limit_is same ∙ ap greatest_of (sym e)) h
