-- Weights that show the set to be empty and belong to rows of one set alone: this set admits nothing. A scenario of it,
-- taken in each set, keeps the rows of that set, and the others have no weight.
use Rattle.std.proofs.Common.{sym, ◌∙◌, ap, subst, refl, inl, inr}
use Rattle.std.specs.Prelude.{◌≡◌, ◌≢◌, ◌⊎◌, ℕ, zero, suc, ◌+◌, ◌<◌, pos, List, [], ◌∷◌, ◌++◌, length, map, get_or}
use Rattle.rob_algebra.specs.Fraction.{Fraction, of_int, ◌*ℚ◌, ◌≤ℚ◌, ◌<ℚ◌}
use Rattle.rob_algebra.specs.FractionLaws as Q
use Rattle.rob_algebra.specs.FractionOrderLaws.{le_refl_ℚ, le_total_ℚ, le_antisym_ℚ, not_lt_ℚ, add_mono_ℚ, mul_mono_ℚ}
use Rattle.rob_algebra.specs.FractionLaws.{ℚ_ring}
use Rattle.rob_algebra.specs.FractionLists.{AllNonneg}
use Rattle.rob_algebra.specs.Lists.{dot, mat_vec, dot-zeros, dot-vec_mat}
use Rattle.rob_algebra.specs.Polynomials.{lit, ◌:*◌, v0, v1}
use Rattle.rob_meaning.proofs.Conditions.AdmissionLemmas as Once
use Rattle.rob_meaning.proofs.Conditions.AdmittedLemmas.{Bounded, bounds_joint, each_from_map, length-parameters}
use Rattle.rob_meaning.proofs.Proving.CoverLemmas.{rows_shape}
use Rattle.rob_meaning.proofs.Lists.EachLemmas.{each_left, each_right}
use Rattle.rob_meaning.proofs.Scenarios.JointScenarioLemmas.{length-joined, part_of_joined}
use Rattle.rob_meaning.proofs.Conditions.OwnRowLemmas.{BoundsHave, Pairs, StatementsHave, row_pairs}
use Rattle.rob_meaning.proofs.Conditions.SetRowLemmas as Set
use Rattle.rob_meaning.proofs.Conditions.SetRowLemmas.{HasLifts, RowHolds, has_lifts, length-lifts, lifts_of}
use Rattle.rob_meaning.proofs.Conditions.WholeRowLemmas.{whole_in}
use Rattle.rob_meaning.specs.Forms.{sides}
use Rattle.rob_meaning.specs.Multipliers.{ShowsEmptyIn, set_limits, set_matrix}
use Rattle.rob_meaning.specs.Places.{0ℚ, 1ℚ, Each, EachFrom, at}
use Rattle.rob_meaning.specs.RobustModel.{Parameter, RobustModel, SetLine, budget, line, line_set, set_count, written_count, written_parameters}
use Rattle.rob_meaning.specs.SetConditions.{if_declared}
use Rattle.rob_meaning.specs.SetRows.{SetRow, budget_row, expression_row, lower_row, member_rows, set_column_count, set_row_sets, set_rows, statement_rows, upper_row, whole_limit, whole_row}
use Rattle.rob_meaning.specs.UncertaintySet.{AdmitsIn, IsEmptyIn, KeepsLine, in_each_set}
use Rattle.rob_meaning.specs.WellFormed.{IsModel, IsSetLine}

-- what holds of each item if A does
each_where : {X A : Type 0} (P : X → Type 0) (xs : List X) → (A → Each P xs) → Each (λ x. A → P x) xs
each_where P [] h = tt
each_where P (x ∷ xs) h = (λ a. (h a).0, each_where P xs (λ a. (h a).1))

-- ---- a scenario of set S, taken in each set
module _
    (m : RobustModel) (model : IsModel m) (S : ℕ) (is_set : S < set_count m) (v : List Fraction)
    (admitted : AdmitsIn m S v)
  where
    abbrev u : List Fraction
    u = in_each_set m v

    length-u : length u ≡ length m.parameters
    length-u =
        length-joined (written_count m) (length m.sets) (λ T. v) (λ T some. admitted.numbers)
        ∙ sym (length-parameters m model)

    -- each set has the same declared bounds
    all_bounded : EachFrom zero (Bounded u) m.parameters
    all_bounded =
        bounds_joint m model u
        (λ T some. subst (λ (w : List Fraction). EachFrom zero (Bounded w) (written_parameters m))
        (sym (part_of_joined m (λ T. v) (λ T some. admitted.numbers) T some)) admitted.bounds)

    abbrev T : List Fraction
    T = lifts_of m 1ℚ u m.set_lines

    -- the row holds, where it belongs to set S
    abbrev HoldsOwn : ℕ → SetRow → Type 0
    HoldsOwn R r = R ≡ S → RowHolds 1ℚ u T r

    bounds_have : (k : ℕ) (p : Parameter) → Bounded u k p → BoundsHave m HoldsOwn k p
    bounds_have k p h =
        let rows = Set.bounds_in m 1ℚ u T k (p ∷ []) (Once.bounds_in m u k (p ∷ []) (h, tt)) in
        let lower = if_declared (lower_row k) p.lower in
        let upper = if_declared (upper_row k) p.upper in
        let own = each_left (RowHolds 1ℚ u T) (lower ++ upper) [] rows in (
          each_where (RowHolds 1ℚ u T) lower (λ e. each_left (RowHolds 1ℚ u T) lower upper own),
          each_where (RowHolds 1ℚ u T) upper (λ e. each_right (RowHolds 1ℚ u T) lower upper own),
        )

    -- the rows of one statement
    rows_hold : (t : ℕ) (c : SetLine) → IsSetLine m c → HasLifts m 1ℚ u T t (c ∷ []) → KeepsLine m u c →
        Each (RowHolds 1ℚ u T) (statement_rows m t (c ∷ []))
    rows_hold t c ok lifts keeps = Set.statements_in m 1ℚ u T t (c ∷ []) (ok, tt) lifts (Once.line_in m u c keeps, tt)

    statements_have : (i t : ℕ) (cs : List SetLine) → Each (IsSetLine m) cs → HasLifts m 1ℚ u T t cs →
        EachFrom i (λ i c. line_set m i ≡ S → KeepsLine m u c) cs → StatementsHave m HoldsOwn i t cs
    statements_have i t [] ok lifts h = tt
    statements_have i t (line l relation r ∷ rest) ok lifts h = (
      each_where (RowHolds 1ℚ u T) (map (expression_row m) (sides relation l r))
          (λ e. each_left (RowHolds 1ℚ u T) (map (expression_row m) (sides relation l r)) []
          (rows_hold t (line l relation r) ok.0 tt (h.0 e))),
      statements_have (suc i) t rest ok.1 lifts h.1,
    )
    statements_have i t (budget limit hs ∷ rest) ok lifts h = (
      (
        each_where (RowHolds 1ℚ u T) (member_rows t hs)
            (λ e. each_left (RowHolds 1ℚ u T) (member_rows t hs) (budget_row t limit hs ∷ [])
            (rows_hold t (budget limit hs) ok.0 (lifts.0, tt) (h.0 e))),
        λ e. (each_right (RowHolds 1ℚ u T) (member_rows t hs) (budget_row t limit hs ∷ [])
            (rows_hold t (budget limit hs) ok.0 (lifts.0, tt) (h.0 e))).0,
      ),
      statements_have (suc i) (length hs + t) rest ok.1 lifts.1 h.1,
    )

    own_rows_hold : Pairs HoldsOwn (set_row_sets m) (set_rows m)
    own_rows_hold =
        row_pairs m HoldsOwn
        (each_from_map (Bounded u) (BoundsHave m HoldsOwn) zero zero m.parameters
        (λ i p small h. bounds_have (zero + i) p h) all_bounded)
        (statements_have zero zero m.set_lines model.set_lines (has_lifts m 1ℚ u) admitted.lines)

    -- ---- the rows times weights that belong to set S alone
    none_or_some : (x : Fraction) → 0ℚ ≤ℚ x → (x ≡ 0ℚ) ⊎ (x ≢ 0ℚ)
    none_or_some x low = by (le_total_ℚ x 0ℚ)
      where
        by : (x ≤ℚ 0ℚ) ⊎ (0ℚ <ℚ x) → (x ≡ 0ℚ) ⊎ (x ≢ 0ℚ)
        by (inl h) = inl (le_antisym_ℚ x 0ℚ h low)
        by (inr h) = inr (λ e. not_lt_ℚ x 0ℚ (subst (λ y. y ≤ℚ 0ℚ) (sym e) (le_refl_ℚ 0ℚ)) h)

    weighed_row : (R : ℕ) (r : SetRow) → HoldsOwn R r → (x : Fraction) → 0ℚ ≤ℚ x → (x ≢ 0ℚ → R ≡ S) →
        x *ℚ dot ℚ_ring (map of_int (whole_row m r)) (u ++ T) ≤ℚ x *ℚ of_int (whole_limit m r)
    weighed_row R r holds x low own = by (none_or_some x low)
      where
        by : (x ≡ 0ℚ) ⊎ (x ≢ 0ℚ) → x *ℚ dot ℚ_ring (map of_int (whole_row m r)) (u ++ T)
            ≤ℚ x *ℚ of_int (whole_limit m r)
        by (inl e) =
            subst (λ y. y *ℚ dot ℚ_ring (map of_int (whole_row m r)) (u ++ T) ≤ℚ y *ℚ of_int (whole_limit m r)) (sym e)
            (subst (λ y. y ≤ℚ 0ℚ *ℚ of_int (whole_limit m r))
            (Q.ring (dot ℚ_ring (map of_int (whole_row m r)) (u ++ T) ∷ of_int (whole_limit m r) ∷ [])
            (lit (pos 0) :* v1) (lit (pos 0) :* v0) refl)
            (le_refl_ℚ (0ℚ *ℚ of_int (whole_limit m r))))
        by (inr d) =
            mul_mono_ℚ (dot ℚ_ring (map of_int (whole_row m r)) (u ++ T)) (of_int (whole_limit m r)) x
            (subst (λ y. dot ℚ_ring (map of_int (whole_row m r)) (u ++ T) ≤ℚ y) (Q.ℚ-one-mul (of_int (whole_limit m r)))
            (whole_in m 1ℚ u T length-u (length-lifts m 1ℚ u m.set_lines) r (holds (own d))).at_most)
            low

    weighed : (ws : List Fraction) (Rs : List ℕ) (rs : List SetRow) → AllNonneg ws → Pairs HoldsOwn Rs rs →
        ((i : ℕ) → at ws i ≢ 0ℚ → get_or Rs i 0 ≡ S) →
        dot ℚ_ring ws (mat_vec ℚ_ring (map (λ (r : SetRow). map of_int (whole_row m r)) rs) (u ++ T))
        ≤ℚ dot ℚ_ring ws (map (λ (r : SetRow). of_int (whole_limit m r)) rs)
    weighed [] Rs rs low h own = le_refl_ℚ 0ℚ
    weighed (x ∷ ws) [] [] low h own = le_refl_ℚ 0ℚ
    weighed (x ∷ ws) [] (r ∷ rs) low h own = absurd h
    weighed (x ∷ ws) (R ∷ Rs) [] low h own = absurd h
    weighed (x ∷ ws) (R ∷ Rs) (r ∷ rs) low h own =
        add_mono_ℚ (x *ℚ dot ℚ_ring (map of_int (whole_row m r)) (u ++ T)) (x *ℚ of_int (whole_limit m r))
        (dot ℚ_ring ws (mat_vec ℚ_ring (map (λ (r : SetRow). map of_int (whole_row m r)) rs) (u ++ T)))
        (dot ℚ_ring ws (map (λ (r : SetRow). of_int (whole_limit m r)) rs))
        (weighed_row R r h.0 x low.0 (own zero))
        (weighed ws Rs rs low.1 h.1 (λ i d. own (suc i) d))

-- the point that it is: the joint scenario, and its columns t
abbrev own_point : RobustModel → List Fraction → List Fraction
own_point m v = in_each_set m v ++ lifts_of m 1ℚ (in_each_set m v) m.set_lines

pub shows_empty_in : (m : RobustModel) → IsModel m → (S : ℕ) (weights : List Fraction) → ShowsEmptyIn m S weights →
    IsEmptyIn m S
shows_empty_in m model S weights w v admitted =
    not_lt_ℚ 0ℚ (dot ℚ_ring weights (set_limits m))
    (subst (λ y. y ≤ℚ dot ℚ_ring weights (set_limits m)) left_side
    (weighed m model S w.is_set v admitted weights (set_row_sets m) (set_rows m) w.shows.nonnegative
    (own_rows_hold m model S w.is_set v admitted) w.own))
    w.shows.negative
  where
    left_side : dot ℚ_ring weights (mat_vec ℚ_ring (set_matrix m) (own_point m v)) ≡ 0ℚ
    left_side =
        sym (dot-vec_mat ℚ_ring (set_column_count m) weights (set_matrix m) (own_point m v) (rows_shape m (set_rows m)))
        ∙ ap (λ (xs : List Fraction). dot ℚ_ring xs (own_point m v)) w.shows.columns
        ∙ dot-zeros ℚ_ring (set_column_count m) (own_point m v)
