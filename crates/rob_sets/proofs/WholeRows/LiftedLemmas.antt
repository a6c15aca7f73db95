-- The rows of a set form hold exactly where the set rows of its model do.
use Rattle.std.specs.Prelude.{List, [], ◌∷◌, map, ◌++◌, ◌↔◌}
use Rattle.std.proofs.Common.{sym, subst}
use Rattle.rob_algebra.specs.Fraction.{Fraction, of_int, ◌*ℚ◌, ◌≤ℚ◌}
use Rattle.rob_meaning.specs.Places.{Each}
use Rattle.rob_meaning.specs.RobustModel.{RobustModel}
use Rattle.rob_meaning.specs.SetRows as lifted
use Rattle.rob_meaning.specs.SetRows.{IsLifted, WholeRowHolds, set_rows}
use Rattle.rob_meaning.specs.Vectors.{dot}
use Rattle.rob_sets.specs.SetForm.{IsCovered, IsSetForm, cleared_row}
use Rattle.rob_sets.specs.declared.set_form.SetForm.{SetForm}
use Rattle.rob_sets.specs.declared.set_form.SetRow.{SetRow}

module _ (m : RobustModel) (s : Fraction) (columns : List Fraction) where
  -- a row in whole numbers holds
  abbrev RowHolds : SetRow → Type 0
  RowHolds row = dot (map of_int row.g) columns ≤ℚ s *ℚ of_int row.h

  rows_in : (rows : List lifted.SetRow) → Each (WholeRowHolds m s columns) rows
      → Each RowHolds (map (cleared_row m) rows)
  rows_in [] h = tt
  rows_in (r ∷ rs) h = (h.0.at_most, rows_in rs h.1)

  rows_out : (rows : List lifted.SetRow) → Each RowHolds (map (cleared_row m) rows)
      → Each (WholeRowHolds m s columns) rows
  rows_out [] h = tt
  rows_out (r ∷ rs) h = (record { at_most = h.0 }, rows_out rs h.1)

pub covered : (m : RobustModel) (set : SetForm) (s : Fraction) (p : List Fraction) → IsSetForm m set
    → IsLifted m s p ↔ IsCovered m set s p
covered m set s p is = (
  λ h. record {
    lifts = h.lifts;
    count = h.count;
    numbers = h.numbers;
    rows = subst (λ (rows : List SetRow). Each (RowHolds m s (p ++ h.lifts)) rows) (sym is.rows)
        (rows_in m s (p ++ h.lifts) (set_rows m) h.rows);
  },
  λ h. record {
    lifts = h.lifts;
    count = h.count;
    numbers = h.numbers;
    rows = rows_out m s (p ++ h.lifts) (set_rows m)
        (subst (λ (rows : List SetRow). Each (RowHolds m s (p ++ h.lifts)) rows) is.rows h.rows);
  },
)

-- both ways, through what lies between
pub through : {A B C : Type 0} → A ↔ B → B ↔ C → A ↔ C
through f g = (λ a. g.0 (f.0 a), λ c. f.1 (g.1 c))
