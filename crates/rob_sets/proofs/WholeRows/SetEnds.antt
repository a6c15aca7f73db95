-- The rows of the declared bounds, and behind them those of the statements, are the rows of the lifted set.
use Rattle.std.specs.Prelude.{◌≡◌, ℕ, zero, ◌≤◌, List, [], length, map}
use Rattle.std.proofs.Common.{sym, arith, subst}
use Rattle.rob_meaning.specs.Places.{Each}
use Rattle.rob_meaning.specs.RobustModel.{RobustModel}
use Rattle.rob_meaning.specs.SetRows as lifted
use Rattle.rob_meaning.specs.SetRows.{bound_rows, set_rows, statement_rows}
use Rattle.rob_sets.specs.Appending.{AppendsLines, StopsAt}
use Rattle.rob_sets.specs.FirstWide.{Judged, NothingWide}
use Rattle.rob_sets.specs.SetForm.{RowFits, cleared_row, judged_rows, judged_set, judged_statements}
use Rattle.rob_sets.specs.declared.error.ElabErr.{ElabErr}
use Rattle.rob_sets.specs.declared.set_form.SetRow.{SetRow}
use Rattle.rob_sets.proofs.Judging.AppendingLemmas.{appended_length, appends_both}
use Rattle.rob_sets.proofs.Judging.JudgedLemmas.{stops_left, stops_right}

module _ (m : RobustModel) where
  abbrev bounds : List lifted.SetRow
  bounds = bound_rows zero m.parameters

  -- rows are appended in whole numbers
  abbrev Adds : ℕ → List lifted.SetRow → List Judged → List SetRow → List SetRow → Type 0
  Adds limit lines judged old new = AppendsLines (cleared_row m) (RowFits limit) limit m lines judged old new

  -- a call stops at the bounds
  pub bounds_stop : {limit before now : ℕ} {e : ElabErr} → StopsAt limit m (judged_rows m zero bounds) before now e
      → StopsAt limit m (judged_set m) before now e
  bounds_stop {limit} {before} {now} {e} h =
      stops_left limit m (judged_rows m zero bounds) (judged_statements m zero zero (length bounds) m.set_lines) e
      before before now (omega arith) h

  module _ {limit : ℕ} {rows : List SetRow} (first : AppendsLines (cleared_row m) (RowFits limit) limit m bounds
      (judged_rows m zero bounds) [] rows) where
    many : length rows ≡ length bounds
    many = omega (arith, appended_length first)

    -- it stops at the statements
    pub statements_stop : {first_wides before now : ℕ} {e : ElabErr} → first_wides ≤ before
        → StopsAt limit m (judged_statements m zero zero (length rows) m.set_lines) before now e
        → StopsAt limit m (judged_set m) first_wides now e
    statements_stop {first_wides} {before} {now} {e} least h =
        stops_right limit m (judged_rows m zero bounds) (judged_statements m zero zero (length bounds) m.set_lines) e
        first_wides before now least first.none_wide
        (subst (λ k. StopsAt limit m (judged_statements m zero zero k m.set_lines) before now e) many h)

    -- both are appended
    module _ {all : List SetRow} (second : AppendsLines (cleared_row m) (RowFits limit) limit m
        (statement_rows m zero m.set_lines) (judged_statements m zero zero (length rows) m.set_lines) rows all) where
      both : Adds limit (set_rows m) (judged_set m) [] all
      both =
          appends_both first
          (subst
          (λ k. Adds limit (statement_rows m zero m.set_lines) (judged_statements m zero zero k m.set_lines) rows all)
          many second)

      pub rows_are : all ≡ map (cleared_row m) (set_rows m)
      rows_are = both.appended

      pub rows_fit : Each (RowFits limit) all
      rows_fit = subst (λ (rs : List SetRow). Each (RowFits limit) rs) (sym both.appended) both.fit

      pub none_wide : NothingWide limit m (judged_set m)
      none_wide = both.none_wide
