-- The coefficients of an expression, subexpression by subexpression: what its table says, and where its computation
-- stops.
use Rattle.std.specs.Prelude.{◌≡◌, ℕ, ◌≤◌, List, [], ◌∷◌, Result, Ok, Err, IfOk, IfErr, IsErrAnd, refl}
use Rattle.std.proofs.Common.{sym, ◌∙◌, arith, subst, inl, inr}
use Rattle.std.proofs.lemmas.Result.{err_from_is_err_and}
use Rattle.rob_algebra.specs.Fraction.{Fraction}
use Rattle.rob_algebra.specs.Width.{Fits, IsWide}
use Rattle.rob_algebra.proofs.WidthLaws.{fits_not_wide}
use Rattle.rob_number.specs.Counts.{Rose}
use Rattle.rob_meaning.specs.Coefficients as meaning
use Rattle.rob_meaning.specs.Coefficients.{table}
use Rattle.rob_meaning.specs.Expressions.{Expression, adaptive, adaptive_in}
use Rattle.rob_meaning.specs.Places.{Each}
use Rattle.rob_meaning.specs.RobustModel.{RobustModel}
use Rattle.rob_sets.specs.FirstWide.{Some_of}
use Rattle.rob_sets.specs.Stops.{StopsFor}
use Rattle.rob_sets.specs.Subexpressions.{subexpressions, HasWideCoefficient}
use Rattle.rob_sets.specs.Tables.{numbers_of}
use Rattle.rob_sets.specs.Tabulating.{IsTableOf, IsWideWithin, Tabulates}
use Rattle.rob_sets.specs.declared.error.Stop.{Stop}
use Rattle.rob_sets.specs.declared.error.Stop.TheVariants as Stopped
use Rattle.rob_sets.specs.declared.table.Table.{Table}
use Rattle.rob_sets.proofs.Judging.JudgingLemmas.{Judging, judging_goes_on, judging_stops}
use Rattle.rob_sets.proofs.Cells.NumberLemmas.{number_fits}
use Rattle.rob_sets.proofs.Cells.PartedLemmas.{Parted, parted}
use Rattle.rob_sets.proofs.Expressions.JointLemmas.{default_table}
use Rattle.rob_sets.proofs.Judging.StopLemmas.{stop_weaker}

-- of the subexpressions of an expression some are judged, and these are left
abbrev pub IsLeft : ℕ → RobustModel → Expression → List Expression → Type 0
IsLeft limit m e left = Judging (HasWideCoefficient limit m) (subexpressions e) left

module _ {N : Type 0} (value : N → Fraction) (limit : ℕ) (m : RobustModel) where
  -- ---- a stop
  pub tabulates_err : (e : Expression) (first last : ℕ) (r : Result (Table N) Stop) (stop : Stop)
      → StopsFor (IsWideWithin limit m e first last) stop → IsErrAnd r (λ d. d ≡ stop)
      → Tabulates value limit m e first last r
  tabulates_err e first last r stop h is =
      let q = err_from_is_err_and r is in
      subst (λ (x : Result (Table N) Stop). Tabulates value limit m e first last x) (sym q.1)
      (subst (λ (x : Stop). StopsFor (IsWideWithin limit m e first last) x) (sym q.2) h)

  -- for memory
  pub memory_stops : (e : Expression) (first last : ℕ) (r : Result (Table N) Stop) (stop : Stop)
      → stop ≡ Stopped.Memory → IsErrAnd r (λ d. d ≡ stop) → Tabulates value limit m e first last r
  memory_stops e first last r stop memory is =
      tabulates_err e first last r stop
      (subst (λ (s : Stop). StopsFor (IsWideWithin limit m e first last) s) (sym memory) tt) is

  -- on the way to a part
  pub part_stops : {left here more : List Expression} (e : Expression) (first before last : ℕ)
      (r : Result (Table N) Stop) (stop : Stop) → IsLeft limit m e left → Parted left here more → first ≤ before
      → StopsFor (Rose before last × Some_of (HasWideCoefficient limit m) here) stop → IsErrAnd r (λ d. d ≡ stop)
      → Tabulates value limit m e first last r
  part_stops {here} e first before last r stop p l least h is =
      tabulates_err e first last r stop
      (stop_weaker stop (λ (w : Rose before last × Some_of (HasWideCoefficient limit m) here).
      (omega (arith, w.0, least), judging_stops p l w.1)) h) is

  -- at what parts are put together to, whose coefficients are those
  pub whole_stops : (e whole : Expression) (more : List Expression) (f : meaning.Table)
      (first before last : ℕ) (r : Result (Table N) Stop) (stop : Stop) → IsLeft limit m e (whole ∷ more)
      → ((k j : ℕ) → f k j ≡ table m whole k j) → first ≤ before
      → StopsFor (Rose before last × ((k : ℕ) × (j : ℕ) × IsWide limit (f k j))) stop → IsErrAnd r (λ d. d ≡ stop)
      → Tabulates value limit m e first last r
  whole_stops e whole more f first before last r stop p same least h is =
      part_stops e first before last r stop p (parted (whole ∷ []) more) least
      (stop_weaker stop (λ (w : Rose before last × ((k : ℕ) × (j : ℕ) × IsWide limit (f k j))).
      (w.0, inl (w.1.0, w.1.1, subst (IsWide limit) (same w.1.0 w.1.1) w.1.2))) h)
      is

  -- ---- the same answer, of an expression that is another one
  pub tabulates_as : (y x : Expression) (first last : ℕ) (r : Result (Table N) Stop) → y ≡ x
      → Tabulates value limit m x first last r → Tabulates value limit m y first last r
  tabulates_as y x first last r e h = subst (λ (z : Expression). Tabulates value limit m z first last r) (sym e) h

module _ {N : Type 0} (value : N → Fraction) (limit : ℕ) (fits : (x : N) → Fits limit (value x))
    (one : 1 ≤ limit) (m : RobustModel) where
  -- ---- what a table holds is not wide
  pub none_wide : (t : Table N) (s : Expression) → ((k j : ℕ) → numbers_of value t k j ≡ table m s k j)
      → HasWideCoefficient limit m s → ⊥
  none_wide t s h w =
      fits_not_wide limit (table m s w.0 w.1)
      (subst (Fits limit) (h w.0 w.1) (number_fits value limit fits one t w.0 w.1)) w.2

  -- one step on, with what parts are put together to
  pub whole_goes_on : {more : List Expression} (e whole : Expression) (t : Table N)
      → ((k j : ℕ) → numbers_of value t k j ≡ table m whole k j) → IsLeft limit m e (whole ∷ more)
      → IsLeft limit m e more
  whole_goes_on {more} e whole t h p = judging_goes_on p (parted (whole ∷ []) more) (none_wide t whole h, tt)

  -- ---- an expression that is its only subexpression
  pub leaf_is : (x : Expression) (t : Table N) → subexpressions x ≡ x ∷ []
      → ((k j : ℕ) → numbers_of value t k j ≡ table m x k j) → IsTableOf value limit m x t
  leaf_is x t alone h = record {
    coefficients = h;
    none_wide = subst (λ (l : List Expression). Each (λ s. HasWideCoefficient limit m s → ⊥) l) (sym alone)
        (none_wide t x h, tt);
  }

  pub leaf : (y x : Expression) (first last : ℕ) (r : Result (Table N) Stop) → y ≡ x → subexpressions x ≡ x ∷ []
      → IfOk r (λ t. (k j : ℕ) → numbers_of value t k j ≡ table m x k j) → IfErr r (λ stop. stop ≡ Stopped.Memory)
      → Tabulates value limit m y first last r
  leaf y x first last (Ok t) e alone h k =
      subst (λ (z : Expression). IsTableOf value limit m z t) (sym e) (leaf_is x t alone h)
  leaf y x first last (Err stop) e alone h k =
      subst (λ (s : Stop). StopsFor (IsWideWithin limit m y first last) s) (sym k) tt

  -- an adaptive variable in the default set
  pub default_leaf : (x : Expression) (y first last : ℕ) (r : Result (Table N) Stop) → x ≡ adaptive y
      → Tabulates value limit m (adaptive_in y 0) first last r → Tabulates value limit m x first last r
  default_leaf x y first last (Ok t) e h =
      subst (λ (z : Expression). IsTableOf value limit m z t) (sym e)
      (leaf_is (adaptive y) t refl (λ k j. h.coefficients k j ∙ default_table m y k j))
  default_leaf x y first last (Err stop) e h =
      stop_weaker stop (λ (w : IsWideWithin limit m (adaptive_in y 0) first last). (
        w.0,
        subst (λ (z : Expression). Some_of (HasWideCoefficient limit m) (subexpressions z)) (sym e) (by w.1),
      )) h
    where
      by : Some_of (HasWideCoefficient limit m) (adaptive_in y 0 ∷ [])
          → Some_of (HasWideCoefficient limit m) (adaptive y ∷ [])
      by (inl w) = inl (w.0, w.1, subst (IsWide limit) (default_table m y w.0 w.1) w.2)
      by (inr w) = absurd w
