-- The rows of a budget, member after member, two for each, and the row of the sum behind them.
use Rattle.std.specs.Prelude.{◌≡◌, ℕ, ◌+◌, ◌*◌, ◌<◌, ◌≤◌, List, [], ◌∷◌, ◌++◌, length, map, Result, IsErrAnd}
use Rattle.std.proofs.Common.{ap, arith, get_or, subst}
use Rattle.rob_algebra.specs.Fraction.{Fraction}
use Rattle.rob_meaning.proofs.Lists.EachLemmas.{each_get}
use Rattle.rob_meaning.specs.Places.{Each}
use Rattle.rob_meaning.specs.RobustModel.{RobustModel}
use Rattle.rob_meaning.specs.SetRows as lifted
use Rattle.rob_meaning.specs.SetRows.{budget_row, down_row, member_rows, up_row}
use Rattle.rob_meaning.specs.WellFormed.{IsMember}
use Rattle.rob_model.specs.Limits.{most_parameters}
use Rattle.rob_model.specs.View.{member_of}
use Rattle.rob_model.specs.declared.model.Member.{Member}
use Rattle.rob_sets.specs.Appending.{Appends, AppendsLines, StopsAt}
use Rattle.rob_sets.specs.SetForm.{RowFits, cleared_row, judged_row, judged_rows}
use Rattle.rob_sets.specs.declared.error.ElabErr.{ElabErr}
use Rattle.rob_sets.specs.declared.set_form.SetRow.{SetRow}
use Rattle.rob_sets.proofs.Judging.AppendingLemmas.{appended_length}
use Rattle.rob_sets.proofs.WholeRows.BudgetLemmas.{budget_many, down_at, members_at, members_end, other_members}
use Rattle.rob_sets.proofs.Judging.ProgressLemmas.{begins, ends_with, so_many}
use Rattle.rob_sets.proofs.Judging.RowSteps.{RowProgress, rows_go_on, rows_stop}

-- a member's parameter is one of the few that a model has
pub member_few : {N : Type 0} (value : N → Fraction) (m : RobustModel) (hs : List (Member N)) (i : ℕ) (h : Member N)
    → i < length hs → h ≡ get_or hs i h → Each (IsMember m) (map (member_of value) hs)
    → length m.parameters ≤ most_parameters → h.param < 1000
member_few value m hs i h inside is members few =
    let at = each_get (IsMember m) (member_of value) hs i h inside is members in
    omega (arith, at.0, few)

module _ {N : Type 0} (value : N → Fraction) (lift : ℕ) (bound : N) (hs : List (Member N)) where
  -- the row of the sum
  abbrev pub sum_last : lifted.SetRow
  sum_last = budget_row lift (value bound) (map (member_of value) hs)

  -- all rows of the budget
  abbrev pub rows_of_budget : List lifted.SetRow
  rows_of_budget = member_rows lift (map (member_of value) hs) ++ sum_last ∷ []

-- the rows of the first i members are appended; the column of the next one has number t
pub record MembersSoFar {N : Type 0} (value : N → Fraction) (limit : ℕ) (m : RobustModel) (lift : ℕ) (bound : N)
    (hs : List (Member N)) (start : List SetRow) (t i : ℕ) (now : List SetRow) : Type 0 where
  pub progress : RowProgress limit m (rows_of_budget value lift bound hs)
      (other_members value hs t i ++ sum_last value lift bound hs ∷ []) start now

module _ {N : Type 0} {value : N → Fraction} {limit : ℕ} {m : RobustModel} {lift : ℕ} {bound : N}
    {hs : List (Member N)} {start : List SetRow} where
  pub members_begin : MembersSoFar value limit m lift bound hs start lift 0 start
  members_begin = record { progress = begins start }

  module _ {t i : ℕ} {now : List SetRow} (p : MembersSoFar value limit m lift bound hs start t i now) where
    -- ---- one member more, whose rows are appended one after the other
    module _ (inside : i < length hs) {h : Member N} (is : h ≡ get_or hs i h) where
      pub up_few : length start + (2 * length hs + 1) < 1000 → length now < 1000
      up_few few =
          omega (
            arith,
            so_many p.progress,
            budget_many value lift hs (sum_last value lift bound hs),
            ap length (members_at value hs t i h (sum_last value lift bound hs) inside is).is,
          )

      pub up_stops : {before last : ℕ} {e : ElabErr} (b : List SetRow) (first : ℕ) (r : Result (Unit {0}) ElabErr)
          → first ≤ before
          → StopsAt limit m (judged_rows m (length now) (up_row t (member_of value h) ∷ [])) before last e
          → IsErrAnd r (λ d. d ≡ e)
          → Appends limit m (rows_of_budget value lift bound hs)
          (judged_rows m (length start) (rows_of_budget value lift bound hs)) start b first last r
      up_stops b first r least h' refused =
          rows_stop p.progress (members_at value hs t i h (sum_last value lift bound hs) inside is) b first r least
          h' refused

      module _ {next : List SetRow} (up : AppendsLines (cleared_row m) (RowFits limit) limit m
          (up_row t (member_of value h) ∷ []) (judged_rows m (length now) (up_row t (member_of value h) ∷ [])) now next)
        where
          up_done : RowProgress limit m (rows_of_budget value lift bound hs)
              (down_row t (member_of value h)
              ∷ (other_members value hs (t + 1) (i + 1) ++ sum_last value lift bound hs ∷ [])) start next
          up_done =
              rows_go_on p.progress (members_at value hs t i h (sum_last value lift bound hs) inside is) up

          pub down_few : length start + (2 * length hs + 1) < 1000 → length next < 1000
          down_few few =
              omega (
                arith,
                so_many p.progress,
                budget_many value lift hs (sum_last value lift bound hs),
                ap length (members_at value hs t i h (sum_last value lift bound hs) inside is).is,
                appended_length up,
              )

          pub down_stops : {before last : ℕ} {e : ElabErr} (b : List SetRow) (first : ℕ)
              (r : Result (Unit {0}) ElabErr) → first ≤ before
              → StopsAt limit m (judged_rows m (length next) (down_row t (member_of value h) ∷ [])) before last e
              → IsErrAnd r (λ d. d ≡ e)
              → Appends limit m (rows_of_budget value lift bound hs)
              (judged_rows m (length start) (rows_of_budget value lift bound hs)) start b first last r
          down_stops b first r least h' refused =
              rows_stop up_done (down_at value hs t i h (sum_last value lift bound hs)) b first r least h' refused

          pub down_done : {last : List SetRow} → AppendsLines (cleared_row m) (RowFits limit) limit m
              (down_row t (member_of value h) ∷ [])
              (judged_rows m (length next) (down_row t (member_of value h) ∷ [])) next last
              → MembersSoFar value limit m lift bound hs start (t + 1) (i + 1) last
          down_done down = record {
            progress = rows_go_on up_done (down_at value hs t i h (sum_last value lift bound hs)) down;
          }

    -- ---- no member is left
    module _ (over : length hs ≤ i) where
      pub sum_few : length start + (2 * length hs + 1) < 1000 → length now < 1000
      sum_few few =
          omega (
            arith,
            so_many p.progress,
            budget_many value lift hs (sum_last value lift bound hs),
            ap length (members_end value hs t i (sum_last value lift bound hs) over),
          )

      pub sum_ends : (row : lifted.SetRow) (next : List SetRow) (first before last : ℕ)
          (r : Result (Unit {0}) ElabErr) → row ≡ sum_last value lift bound hs → first ≤ before
          → Appends limit m (row ∷ []) (judged_row m (length now) row ∷ []) now next before last r
          → Appends limit m (rows_of_budget value lift bound hs)
          (judged_rows m (length start) (rows_of_budget value lift bound hs)) start next first last r
      sum_ends row next first before last r is least h =
          let end = members_end value hs t i (sum_last value lift bound hs) over in
          ends_with next first before last r p.progress end (ap (judged_rows m (length now)) end) least
          (subst (λ (x : lifted.SetRow).
          Appends limit m (x ∷ []) (judged_row m (length now) x ∷ []) now next before last r) is h)
