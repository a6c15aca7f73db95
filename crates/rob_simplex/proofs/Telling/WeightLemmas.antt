-- The weights: the slack entries of the row that ended the first phase, over what divides them all.
use Rattle.std.proofs.Common.{◌≡◌, ◌≢◌, ℕ, suc, ◌+◌, ◌<◌, ◌≤◌, sym, refl, ap, ◌∙◌, subst, arith, inl, inr, List, [], ◌∷◌, length, take, drop, set, get_or}
use Rattle.std.proofs.Math.Nat.{eq-one_of_dvd-one}
use Rattle.std.proofs.lemmas.Bool.{cases_eq}
use Rattle.std.proofs.lemmas.Int.{ints}
use Rattle.std.proofs.lemmas.List.{get_or_default, get_or-set_same, get_or-set_other}
use Rattle.std.specs.Int.{◌∣◌}
use lib.IntN.{ℤ, pos, nat_abs, ◌+ℤ◌, ◌*ℤ◌}
use lib.Signed.{◌<ℤ◌, ◌≤ℤ◌}
use Rattle.rob_algebra.specs.Integer.{mul-zero, zero-mul, mul-one}
use Rattle.rob_linear.specs.Vectors.{Columns, Vector, at, sum_to}
use Rattle.rob_linear.specs.Systems.{System, right, IsSpanned, IsPrimitive, IsNonnegative}
use Rattle.rob_linear.specs.Programs.{Program, auxiliary_of, auxiliary_row, auxiliary_tag, kept_of, kept_row}
use Rattle.rob_linear.specs.Turns.{own_of}
use Rattle.rob_linear.specs.Paths.{Reached, HasAuxiliary, EndsInFirstPhase}
use Rattle.rob_linear.specs.Multiples.{IsMultipleRow}
use Rattle.rob_linear.specs.Beside.{StandsBeside, path_basis}
use Rattle.rob_linear.proofs.KeptOut.BesideColumns.{holds_stands}
use Rattle.rob_linear.proofs.BasisPaths.TwoPhases.{kept_auxiliary}
use Rattle.rob_linear.proofs.KeptOut.BesidePaths.{beside_ends, beside_weights}
use Rattle.rob_linear.proofs.RowForms.MultiplePhases.{ends_multiple, weights_multiple}
use Rattle.rob_linear.proofs.LinearPrograms.Programs.{auxiliary_tag-slack, auxiliary_tag-objective, auxiliary_cost_entry}
use Rattle.rob_linear.proofs.LinearPrograms.Sums.{sum_zero}
use Rattle.rob_linear.proofs.Bases.Turns.{own_low}
use Rattle.rob_rows.specs.PrimitiveParts.{content, IsWithin}
use Rattle.rob_rows.proofs.Contents.{content_zero}
use Rattle.rob_rows.proofs.Pivots.{content-greatest}
use Rattle.rob_simplex.specs.declared.first_phase.FirstEnding.TheVariants.{Infeasible}
use Rattle.rob_simplex.specs.Dictionaries.{Table, positions, columns_of, rows_of, IsFree}
use Rattle.rob_simplex.specs.Explicit.{EndsAtRow, EndsExplicit, FirstEnds}
use Rattle.rob_simplex.specs.PathEnds.{AreWeights}
use Rattle.rob_simplex.proofs.Turns.NegatedRows.{set_is}
use Rattle.rob_simplex.proofs.Turns.BesideRows.{auxiliary_free}

-- a list whose entries are within the limit
pub within_from : (limit : ℕ) (w : List ℤ) → ((i : ℕ) → i < length w → nat_abs (at w i) ≤ limit) → IsWithin limit w
within_from limit w h i d l = subst (λ z. nat_abs z ≤ limit) (sym (get_or_default w i d (pos 0) l)) (h i l)

-- a list, cut out of itself
take_length : (w : List ℤ) → take (length w) w ≡ w
take_length [] = refl
take_length (x ∷ w) = ap (λ t. x ∷ t) (take_length w)

pub take_whole : (w : List ℤ) (n : ℕ) → length w ≡ n → take n (drop 0 w) ≡ w
take_whole w n e = ap (λ k. take k w) (sym e) ∙ take_length w

-- one entry more is written
pub slack_more : (w : List ℤ) (f : Vector) (k limit : ℕ) (z : ℤ) → k < length w
    → ((j : ℕ) → j < k → (at w j ≡ f j) × (nat_abs (at w j) ≤ limit)) → z ≡ f k → nat_abs z ≤ limit
    → (j : ℕ) → j < k + 1 → (at (set w k z) j ≡ f j) × (nat_abs (at (set w k z) j) ≤ limit)
slack_more w f k limit z kl h e small j l = elim (cases_eq j k) [
  | inl s ↦
      let a : at (set w k z) j ≡ z = ap (λ t. get_or (set w k z) t (pos 0)) s ∙ get_or-set_same w k z (pos 0) kl in
      (a ∙ e ∙ ap f (sym s), subst (λ t. nat_abs t ≤ limit) (sym a) small)
  | inr d ↦
      let a : at (set w k z) j ≡ at w j = get_or-set_other w k j z (pos 0) d in
      let b = h j (omega arith) in
      (a ∙ b.0, subst (λ t. nat_abs t ≤ limit) (sym a) b.1)
]

-- ---- the slack entries aren't all 0
-- a row whose slack entries are all 0 is a multiple of the objective's starting row
spanned_slack : (S : System) (r : Vector) (k : ℕ) → IsSpanned S r → k ≤ right S
    → ((t : ℕ) → t < S.m → r (S.tag t) ≡ pos 0) → r k ≡ r (S.tag S.m) *ℤ S.start S.m k
spanned_slack S r k sp l zero_at =
    let z : sum_to S.m (λ t. r (S.tag t) *ℤ S.start t k) ≡ pos 0 =
    sum_zero S.m (λ t. r (S.tag t) *ℤ S.start t k)
    (λ t tl. ap (λ v. v *ℤ S.start t k) (zero_at t tl) ∙ zero-mul (S.start t k)) in
    let e : r k ≡ sum_to S.m (λ t. r (S.tag t) *ℤ S.start t k) +ℤ (r (S.tag S.m) *ℤ S.start S.m k) = sp k l in
    omega (arith, ints)

slack_tag_zero : (P : Program) (r : Vector) → ((i : ℕ) → i < P.m → r (P.n + i) ≡ pos 0) → (t : ℕ) → t < P.m
    → r (auxiliary_tag P t) ≡ pos 0
slack_tag_zero P r zero_at t l = ap r (auxiliary_tag-slack P t l) ∙ zero_at t l

module _ (P : Program) (w : List ℤ) (size : length w ≡ P.m) (lowest : content w ≤ 1) (r : Vector) (d : ℤ)
    (e : (i : ℕ) → i < P.m → d *ℤ at w i ≡ r (P.n + i)) where
  all_zero : content w ≡ 0 → (i : ℕ) → i < P.m → r (P.n + i) ≡ pos 0
  all_zero z i l = sym (e i l) ∙ ap (λ v. d *ℤ v) (content_zero w i z (omega arith)) ∙ mul-zero d

  weights_primitive : ¬ ((i : ℕ) → i < P.m → r (P.n + i) ≡ pos 0) → IsPrimitive P.m (at w)
  weights_primitive some g each =
      let n : content w ≢ 0 = (λ z. some (all_zero z)) in
      let one : content w ≡ 1 = omega arith in
      eq-one_of_dvd-one (subst (λ v. g ∣ v) one (content-greatest g w (λ k l. each k (omega arith))))

-- ---- the last basis of the first phase, and its weights
ShownAt : Program → List ℤ → Columns → Type 0
ShownAt P w basis =
    Reached P basis × (ends : EndsInFirstPhase P basis) × ((i : ℕ) → i < P.m → ends.0 P.m (P.n + i) ≡ at w i)

module _ (P : Program) (t : Table) (w : List ℤ) (size : length w ≡ P.m) (lowest : content w ≤ 1) (d : ℤ)
    (dp : pos 0 <ℤ d) where
  -- beside the auxiliary column
  module _ (row : ℕ) (h : EndsAtRow P row t) (e : (i : ℕ) → i < P.m → d *ℤ at w i ≡ rows_of t row (P.n + i)) where
    stands : StandsBeside P (path_basis P (columns_of t.basis) row) row (columns_of t.basis row) (rows_of t)
    stands = holds_stands P (columns_of t.basis) row (rows_of t) h.stands.holds

    some_beside : ¬ ((i : ℕ) → i < P.m → rows_of t row (P.n + i) ≡ pos 0)
    some_beside zero_at =
        let il : row < P.m = h.inside in
        let x : rows_of t row (P.n + P.m) ≡ rows_of t row (auxiliary_tag P P.m) *ℤ kept_row P P.m (P.n + P.m) =
        spanned_slack (kept_of P) (rows_of t row) (P.n + P.m)
        (h.stands.holds.multiples.rows_of row (omega arith)).along.spanned (omega arith)
        (slack_tag_zero P (rows_of t row) zero_at) in
        let z : rows_of t row (P.n + P.m) ≡ pos 0 =
        x ∙ ap (λ v. rows_of t row (auxiliary_tag P P.m) *ℤ v) (kept_auxiliary P)
        ∙ mul-zero (rows_of t row (auxiliary_tag P P.m)) in
        let b : rows_of t row (P.n + P.m) <ℤ pos 0 = h.stands.holds.below in
        omega (arith, ints)

    shown_beside : ShownAt P w (path_basis P (columns_of t.basis) row)
    unfolding ShownAt
    shown_beside =
        let ends : EndsInFirstPhase P (path_basis P (columns_of t.basis) row) =
        beside_ends P (path_basis P (columns_of t.basis) row) row (columns_of t.basis row) (rows_of t) stands
        h.stands.reached h.none in (
          h.stands.reached,
          ends,
          beside_weights P (path_basis P (columns_of t.basis) row) row (columns_of t.basis row) (rows_of t) ends.0 d
              (at w) stands ends.2 dp e (weights_primitive P w size lowest (rows_of t row) d e some_beside),
        )

    pub weights_beside : (basis : List ℕ) → basis ≡ set t.basis row (P.n + P.m) → AreWeights P basis w
    unfolding ShownAt
    weights_beside basis be =
        let l : row < length t.basis = omega (arith, h.stands.rows_are, h.inside) in
        let same : columns_of (set t.basis row (P.n + P.m)) ≡ path_basis P (columns_of t.basis) row =
        (λ j i. set_is t.basis row (P.n + P.m) i l j) in
        let p : ShownAt P w (columns_of basis) =
        subst (λ (b : List ℕ). ShownAt P w (columns_of b)) (sym be) (subst (ShownAt P w) (sym same) shown_beside) in
        record { reached = p.0; ends = p.1; entries = p.2 }

  -- in the explicit form
  module _ (h : EndsExplicit P t) (e : (i : ℕ) → i < P.m → d *ℤ at w i ≡ rows_of t P.m (P.n + i)) where
    auxiliary_zero : rows_of t P.m (P.n + P.m) ≡ pos 0
    auxiliary_zero =
        let aux : HasAuxiliary P (columns_of t.basis) = h.stands.auxiliary in
        let l : aux.0 < P.m = aux.1 in
        ap (rows_of t P.m) (aux.2 ∙ sym (own_low (auxiliary_of P) (columns_of t.basis) aux.0 aux.1))
        ∙ (h.stands.stands.multiples.rows_of P.m (omega arith)).along.zeros aux.0 (omega arith) (omega arith)

    none_improves : IsNonnegative (suc (P.n + P.m)) (rows_of t P.m)
    none_improves k l = elim (cases_eq k (P.n + P.m)) [
      | inl s ↦ subst (λ z. pos 0 ≤ℤ z) (sym (ap (rows_of t P.m) s ∙ auxiliary_zero)) (omega (arith, ints))
      | inr o ↦ h.none k (omega arith)
    ]

    some_explicit : ¬ ((i : ℕ) → i < P.m → rows_of t P.m (P.n + i) ≡ pos 0)
    some_explicit zero_at =
        let r : IsMultipleRow (auxiliary_of P) (own_of (auxiliary_of P) (columns_of t.basis)) P.m (rows_of t P.m) =
        h.stands.stands.multiples.rows_of P.m (omega arith) in
        let x : rows_of t P.m (P.n + P.m) ≡ rows_of t P.m (auxiliary_tag P P.m) *ℤ auxiliary_row P P.m (P.n + P.m) =
        spanned_slack (auxiliary_of P) (rows_of t P.m) (P.n + P.m) r.along.spanned (omega arith)
        (slack_tag_zero P (rows_of t P.m) zero_at) in
        let y : rows_of t P.m (P.n + P.m) ≡ rows_of t P.m (suc (P.n + P.m)) =
        x ∙ ap (λ v. rows_of t P.m (auxiliary_tag P P.m) *ℤ v) (auxiliary_cost_entry P)
        ∙ mul-one (rows_of t P.m (auxiliary_tag P P.m)) ∙ ap (rows_of t P.m) (auxiliary_tag-objective P) in
        let p : pos 0 <ℤ rows_of t P.m (suc (P.n + P.m)) =
        subst (λ k. pos 0 <ℤ rows_of t P.m k) h.stands.stands.multiples.last r.positive in
        let z : rows_of t P.m (P.n + P.m) ≡ pos 0 = auxiliary_zero in
        omega (arith, ints)

    pub weights_explicit : (basis : List ℕ) → basis ≡ t.basis → AreWeights P basis w
    unfolding ShownAt
    weights_explicit basis be =
        let ends : EndsInFirstPhase P (columns_of t.basis) =
        ends_multiple P (columns_of t.basis) (rows_of t) h.stands.stands h.stands.auxiliary none_improves in
        let shown : ShownAt P w (columns_of t.basis) = (
          h.stands.reached,
          ends,
          weights_multiple P (columns_of t.basis) (rows_of t) ends.0 d (at w) h.stands.stands.multiples
              h.stands.auxiliary ends.2 dp e (weights_primitive P w size lowest (rows_of t P.m) d e some_explicit),
        ) in
        let p : ShownAt P w (columns_of basis) = subst (λ (b : List ℕ). ShownAt P w (columns_of b)) (sym be) shown in
        record { reached = p.0; ends = p.1; entries = p.2 }

-- ---- the row is one of the table's, and where it isn't the objective's the auxiliary column is free
pub row_low : (P : Program) (row : ℕ) (t : Table) → FirstEnds P (Infeasible row) t → row ≤ positions t
row_low P row t h = elim h [
  | inl a ↦ omega (arith, a.inside, a.stands.rows_are)
  | inr b ↦ omega (arith, b.0, b.1.stands.rows_are)
]

pub row_free : (P : Program) (row : ℕ) (t : Table) → FirstEnds P (Infeasible row) t → row < positions t
    → IsFree t.columns t.basis (t.columns + positions t)
row_free P row t h l = elim h [
  | inl a ↦
      subst (λ (k : ℕ). IsFree t.columns t.basis k) (omega (arith, a.stands.rows_are, a.stands.columns_are))
      (auxiliary_free a.stands)
  | inr b ↦ absurd (omega (arith, b.0, b.1.stands.rows_are))
]

pub shown_weights : (P : Program) (row : ℕ) (t : Table) → FirstEnds P (Infeasible row) t → (w : List ℤ) (basis : List ℕ)
    → length w ≡ positions t → content w ≤ 1
    → (d : ℤ) × (pos 0 <ℤ d) × ((i : ℕ) → i < positions t → d *ℤ at w i ≡ rows_of t row (t.columns + i))
    → (row < positions t → basis ≡ set t.basis row (t.columns + positions t)) → (row ≡ positions t → basis ≡ t.basis)
    → AreWeights P basis w
shown_weights P row t h w basis size lowest e comes stays = elim h [
  | inl a ↦
      let n : t.columns ≡ P.n = a.stands.columns_are in
      let m : positions t ≡ P.m = a.stands.rows_are in
      weights_beside P t w (size ∙ m) lowest e.0 e.1 row a
      (λ i l. e.2 i (omega arith) ∙ ap (λ k. rows_of t row (k + i)) n) basis
      (comes (omega (arith, a.inside)) ∙ ap (λ k. set t.basis row k) (omega arith))
  | inr b ↦
      let n : t.columns ≡ P.n = b.1.stands.columns_are in
      let m : positions t ≡ P.m = b.1.stands.rows_are in
      weights_explicit P t w (size ∙ m) lowest e.0 e.1 b.1
      (λ i l. e.2 i (omega arith) ∙ ap (λ k. rows_of t row (k + i)) n ∙ ap (λ k. rows_of t k (P.n + i)) b.0) basis
      (stays (omega (arith, b.0)))
]
