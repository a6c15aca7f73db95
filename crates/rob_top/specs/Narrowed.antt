-- The answer of `narrow`: how large the numbers can become in the two programs that a model is solved by.
use Rattle.std.specs.Prelude.{◌≡◌, ◌++◌, ◌&&◌, ◌↔◌, ℕ, Bool, true, List, Option, codes, is_some}
use Rattle.rob_bounds.specs.Bounds.{row_bound}
use Rattle.rob_counterpart.specs.Counterpart.{set_program, counterpart}
use Rattle.rob_dualize.specs.RowBounds.{IsGreatestSize, up_to}
use Rattle.rob_dualize.specs.Solving.{IsNarrowModel}
use Rattle.rob_dualize.specs.declared.bounds.ModelBounds.{ModelBounds}
use Rattle.rob_linear.specs.Programs.{Program}
use Rattle.rob_meaning.specs.RobustModel.{RobustModel}
use Rattle.rob_report.specs.NarrowText.{bound_line, narrow_line}
use Rattle.rob_top.specs.Calls.{Call, limit_of}
use Rattle.rob_top.specs.Inputs.{HasForms}
use Rattle.rob_commands.specs.declared.ended.Ended.TheVariants.{Printed}
use Rattle.rob_commands.specs.declared.reply.Reply.{Reply}
use Rattle.rob_words.specs.Commands.{Line}
use Rattle.rob_words.specs.declared.verb.Verb.TheVariants.{Narrow}

-- the text of what is told of a model
abbrev pub bounds_text : ModelBounds → List ℕ
bounds_text told =
    bound_line (codes "set") told.set.rows told.set.greatest told.set.bound
    ++ (bound_line (codes "reform") told.counterpart.rows told.counterpart.greatest told.counterpart.bound
    ++ narrow_line (is_some told.set.bound && is_some told.counterpart.bound))

-- the bound on the numbers of a program's rows, where its own are at most of this size; nothing where it is over the
-- limit
abbrev pub bound_at : ℕ → Program → ℕ → Option ℕ
bound_at limit P size = up_to limit (row_bound P.m size)

-- the line of a program
abbrev pub program_line : ℕ → List ℕ → Program → ℕ → List ℕ
program_line limit name P size = bound_line name P.m size (bound_at limit P size)

-- the text tells the rows, the greatest number and the bound of the set's program and of the counterpart, and whether
-- neither bound is over the limit. That is so exactly where the model is narrow
pub record TellsNarrow (limit : ℕ) (m : RobustModel) (text : List ℕ) : Type 0 where
  pub set_size : ℕ
  pub set_greatest : IsGreatestSize set_size (set_program m)
  pub counterpart_size : ℕ
  pub counterpart_greatest : IsGreatestSize counterpart_size (counterpart m)
  pub yes : Bool
  pub yes_is : yes ≡
      (is_some (bound_at limit (set_program m) set_size) && is_some (bound_at limit (counterpart m) counterpart_size))
  pub narrow : (yes ≡ true) ↔ IsNarrowModel limit m
  pub printed : text ≡ program_line limit (codes "set") (set_program m) set_size
      ++ (program_line limit (codes "reform") (counterpart m) counterpart_size ++ narrow_line yes)

-- the reply with such a text
abbrev pub RepliesNarrow : ℕ → RobustModel → Reply → Type 0
RepliesNarrow limit m reply = (reply.ended ≡ Printed) × TellsNarrow limit m reply.text

-- the bounds of the model are printed, at the width of the line
pub record IsNarrowed (call : Call) (text : List ℕ) : Type 0 where
  pub line : Line
  pub m : RobustModel
  pub forms : HasForms call line m
  pub is_narrow : line.verb ≡ Narrow
  pub told : TellsNarrow (limit_of line) m text
