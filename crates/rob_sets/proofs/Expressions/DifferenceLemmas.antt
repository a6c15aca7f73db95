-- The difference of two sides: its row over the parameters, its table, and what is judged on the way to it.
use Rattle.std.specs.Prelude.{◌≡◌, ℕ, suc, ◌≤◌, true, false, [], ◌∷◌, ◌++◌, Result, Ok, Err, IfOk, IfErr, refl}
use Rattle.std.proofs.Common.{sym, ◌∙◌, ap, ap₂, arith, inr}
use Rattle.rob_algebra.specs.Fraction.{Fraction, ◌+ℚ◌, neg_ℚ}
use Rattle.rob_algebra.specs.Width.{Fits, IsWide}
use Rattle.rob_number.specs.Counts.{Rose}
use Rattle.rob_meaning.specs.Coefficients as meaning
use Rattle.rob_meaning.specs.Coefficients.{table}
use Rattle.rob_meaning.specs.Degrees.{decision_degree}
use Rattle.rob_meaning.specs.Expressions.{Expression, sum, term, no_terms}
use Rattle.rob_meaning.specs.Forms.{difference}
use Rattle.rob_meaning.specs.Places.{0ℚ}
use Rattle.rob_meaning.specs.RobustModel.{RobustModel}
use Rattle.rob_meaning.specs.SetRows.{expression_row}
use Rattle.rob_meaning.specs.Values.{signed}
use Rattle.rob_meaning.proofs.Tables.TableLemmas.{no_columns}
use Rattle.rob_model.proofs.ValueLemmas.{add-zero_ℚ}
use Rattle.rob_sets.specs.Appending.{row_of}
use Rattle.rob_sets.specs.FirstWide.{Some_of}
use Rattle.rob_sets.specs.Stops.{StopsFor}
use Rattle.rob_sets.specs.Subexpressions.{subexpressions}
use Rattle.rob_sets.specs.Tables.{numbers_of}
use Rattle.rob_sets.specs.Tabulating.{IsTableOf, Tabulates}
use Rattle.rob_sets.specs.declared.error.Stop.{Stop}
use Rattle.rob_sets.specs.declared.table.Table.{Table}
use Rattle.rob_sets.proofs.WholeRows.BoundLemmas.{row_same}
use Rattle.rob_sets.proofs.Judging.JudgingLemmas.{judging_begins, judging_ends, judging_goes_on}
use Rattle.rob_sets.proofs.Cells.ListLemmas.{some_left, some_right}
use Rattle.rob_sets.proofs.Cells.PartedLemmas.{parted}
use Rattle.rob_sets.proofs.Expressions.TabulatingLemmas.{IsLeft, whole_goes_on, whole_stops}

-- the left side alone
abbrev pub alone : Expression → Expression
alone l = sum (term false l no_terms)

difference-table : (m : RobustModel) (l r : Expression) (f g h : meaning.Table) → ((k j : ℕ) → f k j ≡ table m l k j)
    → ((k j : ℕ) → g k j ≡ table m r k j)
    → ((k j : ℕ) → h k j ≡ f k j +ℚ signed true (g k j)) → (k j : ℕ) → h k j ≡ table m (difference l r) k j
difference-table m l r f g h a b c k j =
    c k j ∙ ap₂ (λ u v. u +ℚ neg_ℚ v) (a k j) (b k j)
    ∙ ap (λ u. table m l k j +ℚ u) (sym (add-zero_ℚ (neg_ℚ (table m r k j))))

module _ {N : Type 0} (value : N → Fraction) (limit : ℕ) (fits : (x : N) → Fits limit (value x))
    (one : 1 ≤ limit) (m : RobustModel) (l r : Expression) where
  -- the left side is judged, and then the right one
  pub left_done : (a : Table N) → IsTableOf value limit m l a
      → IsLeft limit m (difference l r) (subexpressions r ++ (difference l r ∷ []))
  left_done a h =
      whole_goes_on value limit fits one m (difference l r) (alone l) a
      (λ k j. h.coefficients k j ∙ sym (add-zero_ℚ (table m l k j)))
      (judging_goes_on (judging_begins (subexpressions (difference l r)))
      (parted (subexpressions l) (alone l ∷ (subexpressions r ++ (difference l r ∷ [])))) h.none_wide)

  both_done : (a b : Table N) → IsTableOf value limit m l a → IsTableOf value limit m r b
      → IsLeft limit m (difference l r) (difference l r ∷ [])
  both_done a b h k =
      judging_goes_on (left_done a h) (parted (subexpressions r) (difference l r ∷ [])) k.none_wide

  -- the table of the one less that of the other
  pub difference_tabulates : (a b : Table N) (first before last : ℕ) (res : Result (Table N) Stop)
      → IsTableOf value limit m l a → IsTableOf value limit m r b → first ≤ before
      → IfOk res (λ t. (k j : ℕ) → numbers_of value t k j
      ≡ numbers_of value a k j +ℚ signed true (numbers_of value b k j))
      → IfErr res (StopsFor (Rose before last
      × ((k : ℕ) × (j : ℕ) × IsWide limit (numbers_of value a k j +ℚ signed true (numbers_of value b k j)))))
      → Tabulates value limit m (difference l r) first last res
  difference_tabulates a b first before last (Ok t) h k least e w =
      let is : (i j : ℕ) → numbers_of value t i j ≡ table m (difference l r) i j =
      difference-table m l r (numbers_of value a) (numbers_of value b) (numbers_of value t) h.coefficients
      k.coefficients e in
      record {
        coefficients = is;
        none_wide = judging_ends
            (whole_goes_on value limit fits one m (difference l r) (difference l r) t is (both_done a b h k)) refl;
      }
  difference_tabulates a b first before last (Err stop) h k least e w =
      whole_stops value limit m (difference l r) (difference l r) []
      (λ i j. numbers_of value a i j +ℚ signed true (numbers_of value b i j)) first before last (Err stop) stop
      (both_done a b h k)
      (difference-table m l r (numbers_of value a) (numbers_of value b)
      (λ i j. numbers_of value a i j +ℚ signed true (numbers_of value b i j)) h.coefficients k.coefficients
      (λ i j. refl))
      least w refl

module _ (P : Expression → Type 0) (l r : Expression) where
  -- what some subexpression of a side is, some of the difference is
  pub some_of_left : Some_of P (subexpressions l) → Some_of P (subexpressions (difference l r))
  some_of_left h = some_left P (subexpressions l) (alone l ∷ (subexpressions r ++ (difference l r ∷ []))) h

  pub some_of_right : Some_of P (subexpressions r) → Some_of P (subexpressions (difference l r))
  some_of_right h =
      some_right P (subexpressions l) (alone l ∷ (subexpressions r ++ (difference l r ∷ [])))
      (inr (some_left P (subexpressions r) (difference l r ∷ []) h))

-- the row of a difference over the parameters
pub side_row : (m : RobustModel) (l r : Expression) (f : meaning.Table)
    → ((k j : ℕ) → f k j ≡ table m (difference l r) k j)
    → decision_degree m l ≡ 0 → decision_degree m r ≡ 0
    → row_of f ≡ expression_row m (difference l r)
side_row m l r f h a b =
    row_same f (λ k. table m (difference l r) (suc k) 0) (λ j. 0ℚ) (neg_ℚ (table m (difference l r) 0 0))
    (λ k. h (suc k) 0) (λ j. h 0 (suc j) ∙ no_columns m (difference l r) (omega arith) 0 j) (ap neg_ℚ (h 0 0))
