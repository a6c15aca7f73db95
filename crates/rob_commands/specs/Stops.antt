-- What is answered where no tree grows, where a sweep stops, and to `sweeptext`.
use Rattle.std.specs.Prelude.{◌≡◌, ◌⊎◌, ℕ, ◌<◌, List, length}
use Rattle.rob_algebra.specs.Fraction.{Fraction}
use Rattle.rob_meaning.specs.Names.{column_names}
use Rattle.rob_meaning.specs.Places.{Each}
use Rattle.rob_meaning.specs.RobustModel.{RobustModel}
use Rattle.rob_meaning.specs.SetRows.{set_rows}
use Rattle.rob_model.specs.declared.place.Spot.{Spot}
use Rattle.rob_reach.specs.Sweeps.{IsBudgetAt, with_budget}
use Rattle.rob_report.specs.Places.{IsSpotOf}
use Rattle.rob_report.specs.Spots.{empty_set_lines}
use Rattle.rob_tree.specs.declared.error.TreeStop.{TreeStop}
use Rattle.rob_tree.specs.declared.error.TreeStop.TheVariants as ungrown
use Rattle.rob_tree.specs.declared.tree.Branch.{Branch}
use Rattle.rob_sweep.specs.Stops.{IsWideAtLimit}
use Rattle.rob_sweep.specs.declared.answer.SweepStop.{SweepStop}
use Rattle.rob_sweep.specs.declared.answer.SweepStop.TheVariants as unswept
use Rattle.rob_commands.specs.Answers.{sweep_fault_text, whole_fault_text, wide_budget_text, wide_node_text}
use Rattle.rob_commands.specs.Replies.{Replies}
use Rattle.rob_commands.specs.declared.ended.Ended.TheVariants as ended
use Rattle.rob_commands.specs.declared.ended.Ended.TheVariants.{Printed, EmptySet, WideNode, WideBudget, Whole}
use Rattle.rob_commands.specs.declared.reply.Reply.{Reply}
use Rattle.rob_write.specs.Canonical.{model_text}

-- each branch of the path is on a column of the model
abbrev pub IsPathOf : RobustModel → List Branch → Type 0
IsPathOf m path = Each (λ (b : Branch). b.column < length (column_names m)) path

-- a box's path and the spot of a number that is wide in it are the model's
abbrev pub IsBoxSpotOf : RobustModel → List Branch → Spot → Type 0
IsBoxSpotOf m path spot = IsSpotOf m spot × IsPathOf m path

-- why no tree grows, where the names are those of different variables: a number in it is one of the model's
abbrev pub IsUngrownOf : RobustModel → TreeStop → Type 0
IsUngrownOf m (ungrown.Rule rule) = Unit {0}
IsUngrownOf m (ungrown.EmptySet weights) = length weights ≡ length (set_rows m)
IsUngrownOf m (ungrown.Wide path spot) = IsBoxSpotOf m path spot
IsUngrownOf m ungrown.Memory = Unit {0}

-- the reply to it; memory has none
abbrev pub RepliesUngrown : RobustModel → TreeStop → Reply → Type 0
RepliesUngrown m (ungrown.Rule rule) reply = Replies (Whole rule) (whole_fault_text rule) reply
RepliesUngrown m (ungrown.EmptySet weights) reply = Replies (EmptySet weights) (empty_set_lines m weights) reply
RepliesUngrown m (ungrown.Wide path spot) reply = Replies (WideNode path spot) (wide_node_text m path spot) reply
RepliesUngrown m ungrown.Memory reply = ⊥

-- the reply to `sweeptext`: the text of the model with the limit, where the statement is a budget; or rule 81, where it
-- isn't
abbrev pub RepliesLimit : RobustModel → ℕ → Fraction → Reply → Type 0
RepliesLimit m n g reply =
    IsBudgetAt m.set_lines n × Replies Printed (model_text (with_budget m n g)) reply
    ⊎ (IsBudgetAt m.set_lines n → ⊥) × Replies (ended.Sweep 81) (sweep_fault_text 81) reply

-- the reply where a sweep stopped: the broken rule, or the spot of a number that is wide at that limit; memory has none
abbrev pub RepliesUnswept : ℕ → RobustModel → ℕ → List Fraction → SweepStop → Reply → Type 0
RepliesUnswept limit m n limits (unswept.Rule rule) reply = Replies (ended.Sweep rule) (sweep_fault_text rule) reply
RepliesUnswept limit m n limits (unswept.Wide number spot) reply =
    (h : IsWideAtLimit limit m n limits number spot)
    → Replies (WideBudget number spot) (wide_budget_text m n h.here spot) reply
RepliesUnswept limit m n limits unswept.Memory reply = ⊥
