-- Where a sweep stops: what is named of the model at that limit; and the reply to `sweeptext`.
use Rattle.std.proofs.Common.{◌≡◌, ◌++◌, ℕ, ◌-◌, List, [], ◌∷◌, length, Result, Ok, Err, IfOk, get_or, inl, refl, subst, sym, ap, ◌∙◌, arith}
use Rattle.rob_algebra.specs.Fraction.{Fraction}
use Rattle.rob_dualize.specs.Models.{IsWideIn}
use Rattle.rob_meaning.specs.RobustModel.{RobustModel}
use Rattle.rob_model.specs.declared.place.Spot.{Spot}
use Rattle.rob_number.specs.declared.memory.Memory.{Memory as Want}
use Rattle.rob_reach.specs.Sweeps.{IsBudgetAt, with_budget}
use Rattle.rob_report.specs.Places.{IsSpotOf}
use Rattle.rob_sweep.specs.Stops.{HasCause, IsWideAtLimit, KeepsRules}
use Rattle.rob_sweep.specs.declared.answer.SweepStop.{SweepStop}
use Rattle.rob_sweep.specs.declared.answer.SweepStop.TheVariants as unswept
use Rattle.rob_commands.proofs.BoxPathLemmas.{spot_in}
use Rattle.rob_commands.specs.Answers.{wide_budget_text}
use Rattle.rob_commands.specs.Replies.{Replies}
use Rattle.rob_commands.specs.Stops.{RepliesLimit, RepliesUnswept}
use Rattle.rob_commands.specs.declared.ended.Ended.TheVariants.{Printed, WideBudget}
use Rattle.rob_commands.specs.declared.reply.Reply.{Reply}
use Rattle.rob_write.specs.Canonical.{model_text}

-- why a sweep stopped at a wide number
pub wide_cause : (limit : ℕ) (m : RobustModel) (n : ℕ) (gs : List Fraction) (s : SweepStop) (number : ℕ) (spot : Spot)
    → s ≡ unswept.Wide number spot → HasCause limit m n gs s → KeepsRules m.set_lines n gs
    × IsWideAtLimit limit m n gs number spot
wide_cause limit m n gs s number spot is cause = subst (λ (x : SweepStop). HasCause limit m n gs x) is cause

-- a number that is wide at a limit
module _ (limit : ℕ) (m : RobustModel) where
  -- the limit of a number of the list
  limit_at : (before after : List Fraction) (here : Fraction) (k : ℕ) (d : Fraction) → k ≡ length before
      → get_or (before ++ here ∷ after) k d ≡ here
  limit_at [] after here k d e = ap (λ (i : ℕ). get_or (here ∷ after) i d) e
  limit_at (g ∷ before) after here k d e =
      ap (λ (i : ℕ). get_or ((g ∷ before) ++ here ∷ after) i d) e ∙ limit_at before after here (length before) d refl

  pub wide_here : (n : ℕ) (gs : List Fraction) (number : ℕ) (spot : Spot) (g d : Fraction)
      (h : IsWideAtLimit limit m n gs number spot)
      → g ≡ get_or gs (number - 1) d → h.here ≡ g
  wide_here n gs number spot g d h is =
      let back : number - 1 ≡ length h.before = omega (arith, h.counted) in
      sym (is ∙ ap (λ (xs : List Fraction). get_or xs (number - 1) d) h.order
      ∙ limit_at h.before h.after h.here (number - 1) d back)

  pub wide_there : (n : ℕ) (gs : List Fraction) (number : ℕ) (spot : Spot) (g d : Fraction)
      (h : IsWideAtLimit limit m n gs number spot)
      → g ≡ get_or gs (number - 1) d → IsSpotOf (with_budget m n g) spot
  wide_there n gs number spot g d h is =
      spot_in limit (with_budget m n g) spot
      (subst (λ (x : Fraction). IsWideIn limit (with_budget m n x) spot) (wide_here n gs number spot g d h is) h.wide)

  pub wide_replies : (n : ℕ) (gs : List Fraction) (number : ℕ) (spot : Spot) (g d : Fraction) (r : Result Reply Want)
      → g ≡ get_or gs (number - 1) d → IfOk r (Replies (WideBudget number spot) (wide_budget_text m n g spot))
      → IfOk r (RepliesUnswept limit m n gs (unswept.Wide number spot))
  wide_replies n gs number spot g d (Err want) is h = tt
  wide_replies n gs number spot g d (Ok reply) is h = λ wide.
      subst (λ (x : Fraction). Replies (WideBudget number spot) (wide_budget_text m n x spot) reply)
      (sym (wide_here n gs number spot g d wide is)) h

-- the reply to `sweeptext`, where the statement is a budget
pub limit_replies : (m changed : RobustModel) (n : ℕ) (g : Fraction) (r : Result Reply Want) → IsBudgetAt m.set_lines n
    → changed ≡ with_budget m n g → IfOk r (Replies Printed (model_text changed)) → IfOk r (RepliesLimit m n g)
limit_replies m changed n g (Err want) budget same is = tt
limit_replies m changed n g (Ok reply) budget same is =
    inl (budget, subst (λ (x : RobustModel). Replies Printed (model_text x) reply) same is)
