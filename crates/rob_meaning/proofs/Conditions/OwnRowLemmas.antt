-- Set rows by the set that each belongs to: there is one set for each row, and each row reads that set's columns alone.
use Rattle.std.proofs.Common.{sym, ◌∙◌, ap, ap₂, subst, refl, arith, inl, inr}
use Rattle.std.proofs.Math.Nat.{div-lt_iff_lt-mul}
use Rattle.std.proofs.Math.Nat as N
use Rattle.std.proofs.lemmas.Bool.{cases_lt}
use Rattle.std.proofs.lemmas.List.{length-map, get_or-append-add}
use Rattle.std.specs.Prelude.{◌≡◌, ◌≢◌, ℕ, zero, suc, ◌+◌, ◌-◌, ◌*◌, ◌/◌, ◌<◌, ◌*ℤ◌, ℤ, pos, Bool, true, false, List, [], ◌∷◌, ◌++◌, length, map, get_or, slice_index_or, Option, Some, None}
use Rattle.rob_algebra.specs.Fraction.{Fraction, ◌+ℚ◌, ◌*ℚ◌, neg_ℚ}
use Rattle.rob_algebra.specs.FractionLaws as Q
use Rattle.rob_algebra.proofs.Parts.{of_int-parts}
use Rattle.rob_algebra.specs.Integer.{zero-mul}
use Rattle.rob_algebra.specs.Polynomials.{lit, minus, ◌:+◌, ◌:*◌, v0}
use Rattle.rob_meaning.proofs.Conditions.AdmittedLemmas.{each_from_map, length-parameters}
use Rattle.rob_meaning.proofs.Tables.ClearingLemmas.{length-tabulate}
use Rattle.rob_meaning.proofs.Scenarios.JointScenarioLemmas.{at-right}
use Rattle.rob_meaning.proofs.Lists.ListLemmas.{at-tabulate}
use Rattle.rob_meaning.proofs.Tables.TauLemmas.{at-left}
use Rattle.rob_meaning.specs.Clearing.{whole_at}
use Rattle.rob_meaning.specs.Coefficients.{product_table, rule_table, sum_table, table, unit}
use Rattle.rob_meaning.specs.Expressions.{Expression, Factors, Terms, adaptive, adaptive_in, factor, no_factors, no_terms, number, parameter, product, sum, term, variable}
use Rattle.rob_meaning.specs.Forms.{difference, sides}
use Rattle.rob_meaning.specs.Places.{0ℚ, Each, EachFrom, at, tabulate}
use Rattle.rob_meaning.specs.RobustModel.{Member, Parameter, Relation, RobustModel, SetLine, at_least, at_most, budget, column_of, equal, line, line_set, list_in_set, list_of, set_count, written_count}
use Rattle.rob_meaning.specs.SetConditions.{if_declared}
use Rattle.rob_meaning.specs.SetRows.{SetRow, budget_row, coefficients, expression_row, lift_count, lift_sets, lower_row, member_rows, members_sum, row_denominator, set_column_count, set_number, set_of_parameter, set_of_set_column, set_of_set_row, set_row_sets, set_rows, upper_row, whole_row}
use Rattle.rob_meaning.specs.Values.{signed}
use Rattle.rob_meaning.specs.WellFormed.{FactorsOf, IsLineOf, IsModel, IsOf, IsParameterOf, TermsOf}
pub use Rattle.rob_meaning.proofs.Conditions.RowSetLemmas.{Pairs, pairs_append, pairs_length, pairs_get, BoundsHave, StatementsHave, row_pairs, each_below, length-row_sets, set_of_joint, OfSet, pairs_of}

unit_other : (k j : ℕ) → k ≢ j → unit k j ≡ 0ℚ
unit_other zero zero d = absurd (d refl)
unit_other zero (suc j) d = refl
unit_other (suc k) zero d = refl
unit_other (suc k) (suc j) d = unit_other k j (λ e. d (ap suc e))

neg_none : (x : Fraction) → x ≡ 0ℚ → neg_ℚ x ≡ 0ℚ
neg_none x e = ap neg_ℚ e ∙ Q.ring [] (minus (lit (pos 0))) (lit (pos 0)) refl

add_none : (x y : Fraction) → x ≡ 0ℚ → y ≡ 0ℚ → x +ℚ y ≡ 0ℚ
add_none x y e f = ap₂ ◌+ℚ◌ e f ∙ Q.ring [] (lit (pos 0) :+ lit (pos 0)) (lit (pos 0)) refl

left_none : (x y : Fraction) → x ≡ 0ℚ → x *ℚ y ≡ 0ℚ
left_none x y e = ap (λ z. z *ℚ y) e ∙ Q.ring (y ∷ []) (lit (pos 0) :* v0) (lit (pos 0)) refl

right_none : (x y : Fraction) → y ≡ 0ℚ → x *ℚ y ≡ 0ℚ
right_none x y e = ap (λ z. x *ℚ z) e ∙ Q.ring (x ∷ []) (v0 :* lit (pos 0)) (lit (pos 0)) refl

signed_none : (b : Bool) (x : Fraction) → x ≡ 0ℚ → signed b x ≡ 0ℚ
signed_none false x e = e
signed_none true x e = neg_none x e

module _ (m : RobustModel) (model : IsModel m) where
  set_of_own : (S k : ℕ) → IsParameterOf m S k → set_of_parameter m k ≡ S
  set_of_own S k h = ap (set_of_parameter m) h.2 ∙ set_of_joint m S h.0 h.1

  parameter_in : (k : ℕ) → k < length m.parameters → set_of_parameter m k < set_count m
  parameter_in k small =
      (div-lt_iff_lt-mul {k = written_count m} {x = k} {y = set_count m}
      (some (written_count m) (subst (λ n. k < n) (length-parameters m model) small))).1
      (subst (λ n. k < n) (length-parameters m model) small)
    where
      some : (w : ℕ) → k < set_count m * w → zero < w
      some zero h = absurd (let e : set_count m * zero ≡ zero = N.mul-zero (set_count m) in omega arith)
      some (suc w) h = omega arith

  pub sets_in : (i : ℕ) → i < length (set_rows m) → set_of_set_row m i < set_count m
  sets_in i some =
      (pairs_get (OfSet m (λ S. S < set_count m)) SetRow (λ r. r) (budget_row 0 0ℚ []) (set_row_sets m) (set_rows m)
      (pairs_of m (λ S. S < set_count m) parameter_in
      (each_from_map (λ i c. (line_set m i < set_count m) × IsLineOf m (line_set m i) c)
      (λ i (c : SetLine). line_set m i < set_count m)
      zero zero m.set_lines (λ i c small h. subst (λ j. line_set m j < set_count m) (omega arith) h.0) model.own_lines))
      i some).1

  -- ---- an expression of set S has no coefficient of a parameter of another set
  module _ (S : ℕ) where
    parameter_none : (d k : ℕ) → IsParameterOf m S d → set_of_parameter m k ≢ S → unit d k ≡ 0ℚ
    parameter_none d k h other = unit_other d k (λ e. other (ap (set_of_parameter m) (sym e) ∙ set_of_own S d h))

    rule_none : (ds : List ℕ) (column k : ℕ) → rule_table ds column (suc k) 0 ≡ 0ℚ
    rule_none [] column k = refl
    rule_none (d ∷ ds) column k =
        add_none (unit (suc d) (suc k) *ℚ unit (suc column) 0) (rule_table ds (suc column) (suc k) 0)
        (right_none (unit (suc d) (suc k)) (unit (suc column) 0) refl) (rule_none ds (suc column) k)

    mutual
      table_none : (e : Expression) → IsOf m S e → (k : ℕ) → set_of_parameter m k ≢ S → table m e (suc k) 0 ≡ 0ℚ
      table_none (number q) h k other =
          right_none q (unit 0 (suc k) *ℚ unit 0 0) (left_none (unit 0 (suc k)) (unit 0 0) refl)
      table_none (parameter d) h k other = left_none (unit (suc d) (suc k)) (unit 0 0) (parameter_none d k h other)
      table_none (variable v) h k other = left_none (unit 0 (suc k)) (unit (suc v) 0) refl
      table_none (adaptive y) h k other =
          add_none (unit 0 (suc k) *ℚ unit (suc (column_of m y)) 0)
          (rule_table (list_of m y) (suc (column_of m y)) (suc k) 0)
          (left_none (unit 0 (suc k)) (unit (suc (column_of m y)) 0) refl)
          (rule_none (list_of m y) (suc (column_of m y)) k)
      table_none (adaptive_in y T) h k other =
          add_none (unit 0 (suc k) *ℚ unit (suc (column_of m y)) 0)
          (rule_table (list_in_set m T y) (suc (column_of m y)) (suc k) 0)
          (left_none (unit 0 (suc k)) (unit (suc (column_of m y)) 0) refl)
          (rule_none (list_in_set m T y) (suc (column_of m y)) k)
      table_none (sum ts) h k other = sum_none ts h k other
      table_none (product fs) h k other = product_none fs h k other

      sum_none : (ts : Terms) → TermsOf m S ts → (k : ℕ) → set_of_parameter m k ≢ S → sum_table m ts (suc k) 0 ≡ 0ℚ
      sum_none no_terms h k other = refl
      sum_none (term negated e ts) h k other =
          add_none (signed negated (table m e (suc k) 0)) (sum_table m ts (suc k) 0)
          (signed_none negated (table m e (suc k) 0) (table_none e h.0 k other)) (sum_none ts h.1 k other)

      product_none : (fs : Factors) → FactorsOf m S fs → (k : ℕ) → set_of_parameter m k ≢ S →
          product_table m fs (suc k) 0 ≡ 0ℚ
      product_none no_factors h k other = left_none (unit 0 (suc k)) (unit 0 0) refl
      product_none (factor e fs) h k other =
          add_none (table m e (suc k) 0 *ℚ product_table m fs 0 0) (table m e 0 0 *ℚ product_table m fs (suc k) 0)
          (left_none (table m e (suc k) 0) (product_table m fs 0 0) (table_none e h.0 k other))
          (right_none (table m e 0 0) (product_table m fs (suc k) 0) (product_none fs h.1 k other))

    difference_none : (l r : Expression) → IsOf m S l → IsOf m S r → (k : ℕ) → set_of_parameter m k ≢ S →
        table m (difference l r) (suc k) 0 ≡ 0ℚ
    difference_none l r hl hr k other = table_none (difference l r) (hl, (hr, tt)) k other

  -- ---- each row reads its own set's columns

  -- the set of column t
  abbrev pub lift_set : ℕ → ℕ
  lift_set t = get_or (lift_sets m zero m.set_lines) t 0

  -- a row of set S is 0 in the columns of other sets
  pub record ReadsOwn (S : ℕ) (r : SetRow) : Type 0 where
    pub on_parameters : (k : ℕ) → set_of_parameter m k ≢ S → r.on_parameters k ≡ 0ℚ
    pub on_lifts : (t : ℕ) → lift_set t ≢ S → r.on_lifts t ≡ 0ℚ

  bounds_read : (k : ℕ) (p : Parameter) → BoundsHave m ReadsOwn k p
  bounds_read k p = (lower p.lower, upper p.upper)
    where
      none : (j : ℕ) → set_of_parameter m j ≢ set_of_parameter m k → unit k j ≡ 0ℚ
      none j other = unit_other k j (λ e. other (ap (set_of_parameter m) (sym e)))

      lower : (o : Option Fraction) → Each (ReadsOwn (set_of_parameter m k)) (if_declared (lower_row k) o)
      lower None = tt
      lower (Some l) =
          (record { on_parameters = λ j other. neg_none (unit k j) (none j other); on_lifts = λ t other. refl }, tt)

      upper : (o : Option Fraction) → Each (ReadsOwn (set_of_parameter m k)) (if_declared (upper_row k) o)
      upper None = tt
      upper (Some b) = (record { on_parameters = none; on_lifts = λ t other. refl }, tt)

  module _ (S : ℕ) where
    -- the columns of the members, the first being column t, are of set S
    abbrev Lifted : ℕ → List Member → Type 0
    Lifted t hs = (j : ℕ) → j < length hs → lift_set (t + j) ≡ S

    lifted_next : (t : ℕ) (b : Member) (hs : List Member) → Lifted t (b ∷ hs) → Lifted (suc t) hs
    lifted_next t b hs h j small =
        ap (λ i. lift_set i) (let e : suc t + j ≡ t + suc j = omega arith in e) ∙ h (suc j) (omega arith)

    lift_none : (t : ℕ) (b : Member) (hs : List Member) → Lifted t (b ∷ hs) → (i : ℕ) →
        lift_set i ≢ S → unit t i ≡ 0ℚ
    lift_none t b hs h i other =
        unit_other t i
        (λ e. other (ap (λ j. lift_set j) (let f : i ≡ t + 0 = omega (arith, e) in f) ∙ h 0 (omega arith)))

    members_read : (t : ℕ) (hs : List Member) → Each (λ (h : Member). IsParameterOf m S h.parameter) hs → Lifted t hs →
        Each (ReadsOwn S) (member_rows t hs)
    members_read t [] own h = tt
    members_read t (b ∷ hs) own h = (
      record {
        on_parameters = λ k other. parameter_none S b.parameter k own.0 other;
        on_lifts = λ i other. right_none (neg_ℚ b.deviation) (unit t i) (lift_none t b hs h i other);
      },
      (
        record {
          on_parameters = λ k other. neg_none (unit b.parameter k) (parameter_none S b.parameter k own.0 other);
          on_lifts = λ i other. right_none (neg_ℚ b.deviation) (unit t i) (lift_none t b hs h i other);
        },
        members_read (suc t) hs own.1 (lifted_next t b hs h),
      ),
    )

    sum_read : (t : ℕ) (hs : List Member) → Lifted t hs → (i : ℕ) → lift_set i ≢ S →
        members_sum t hs i ≡ 0ℚ
    sum_read t [] h i other = refl
    sum_read t (b ∷ hs) h i other =
        add_none (unit t i) (members_sum (suc t) hs i) (lift_none t b hs h i other)
        (sum_read (suc t) hs (lifted_next t b hs h) i other)

    side_read : (l r : Expression) → IsOf m S l → IsOf m S r → ReadsOwn S (expression_row m (difference l r))
    side_read l r hl hr = record { on_parameters = difference_none S l r hl hr; on_lifts = λ t other. refl }

    sides_read : (relation : Relation) (l r : Expression) → IsOf m S l → IsOf m S r →
        Each (ReadsOwn S) (map (expression_row m) (sides relation l r))
    sides_read at_most l r hl hr = (side_read l r hl hr, tt)
    sides_read at_least l r hl hr = (side_read r l hr hl, tt)
    sides_read equal l r hl hr = (side_read l r hl hr, (side_read r l hr hl, tt))

  statements_read : (i t : ℕ) (cs : List SetLine) →
      EachFrom i (λ i c. (line_set m i < set_count m) × IsLineOf m (line_set m i) c) cs →
      ((j : ℕ) → lift_set (t + j) ≡ get_or (lift_sets m i cs) j 0) →
      StatementsHave m ReadsOwn i t cs
  statements_read i t [] own h = tt
  statements_read i t (line l relation r ∷ rest) own h =
      (sides_read (line_set m i) relation l r own.0.1.0 own.0.1.1, statements_read (suc i) t rest own.1 h)
  statements_read i t (budget limit hs ∷ rest) own h = (
    (
      members_read (line_set m i) t hs own.0.1 lifted,
      record { on_parameters = λ k other. refl; on_lifts = sum_read (line_set m i) t hs lifted },
    ),
    statements_read (suc i) (length hs + t) rest own.1
        (λ j. ap (λ n. lift_set n) (let e : (length hs + t) + j ≡ t + (length hs + j) = omega arith in e)
        ∙ h (length hs + j)
        ∙ ap (λ n. get_or (map (λ (b : Member). line_set m i) hs ++ lift_sets m (suc i) rest) (n + j) 0)
        (sym (length-map hs (λ (b : Member). line_set m i)))
        ∙ get_or-append-add (map (λ (b : Member). line_set m i) hs) (lift_sets m (suc i) rest) j 0),
  )
    where
      constant : (xs : List Member) (j : ℕ) → j < length xs →
          get_or (map (λ (b : Member). line_set m i) xs ++ lift_sets m (suc i) rest) j 0 ≡ line_set m i
      constant [] j small = absurd (omega arith)
      constant (x ∷ xs) zero small = refl
      constant (x ∷ xs) (suc j) small = constant xs j (omega arith)

      lifted : Lifted (line_set m i) t hs
      lifted j small = h j ∙ constant hs j small

  rows_read : Pairs ReadsOwn (set_row_sets m) (set_rows m)
  rows_read =
      row_pairs m ReadsOwn
      (each_below (BoundsHave m ReadsOwn) (length m.parameters) zero m.parameters (omega arith)
      (λ k p small. bounds_read k p))
      (statements_read zero zero m.set_lines model.own_lines
      (λ j. ap lift_set (let e : zero + j ≡ j = omega arith in e)))

  -- ---- by set column
  whole_none : (d : ℕ) → whole_at d 0ℚ ≡ pos 0
  whole_none d = ap (λ z. z *ℤ pos (d / 0ℚ.den)) (of_int-parts (pos 0)).0 ∙ zero-mul (pos (d / 0ℚ.den))

  whole_place : (d : ℕ) (xs : List Fraction) (c : ℕ) →
      slice_index_or (map (whole_at d) xs) c (pos 0) ≡ whole_at d (at xs c)
  whole_place d [] c = sym (whole_none d)
  whole_place d (x ∷ xs) zero = refl
  whole_place d (x ∷ xs) (suc c) = whole_place d xs c

  tabulated : (n : ℕ) (f : ℕ → ℕ) (ys : List ℕ) (c : ℕ) → c < n → get_or (tabulate n f ++ ys) c 0 ≡ f c
  tabulated zero f ys c small = absurd (omega arith)
  tabulated (suc n) f ys zero small = refl
  tabulated (suc n) f ys (suc c) small = tabulated n (λ k. f (suc k)) ys c (omega arith)

  coefficient_none : (S : ℕ) (r : SetRow) → ReadsOwn S r → (c : ℕ) → c < set_column_count m →
      S ≢ set_of_set_column m c →
      at (coefficients m r) c ≡ 0ℚ
  coefficient_none S r reads c some other =
      elim (cases_lt c (length m.parameters)) [
        | inl small ↦
            at-left (tabulate (length m.parameters) r.on_parameters) (tabulate (lift_count m.set_lines) r.on_lifts) c
            (subst (λ n. c < n) (sym (length-tabulate (length m.parameters) r.on_parameters)) small)
            ∙ at-tabulate (length m.parameters) r.on_parameters c small
            ∙ reads.on_parameters c
            (λ e. other
            (sym (tabulated (length m.parameters) (set_of_parameter m) (lift_sets m zero m.set_lines) c small ∙ e)))
        | inr large ↦
            let place : c ≡ length m.parameters + (c - length m.parameters) = omega arith in
            ap (at (coefficients m r))
            (place
            ∙ ap (λ n. n + (c - length m.parameters)) (sym (length-tabulate (length m.parameters) r.on_parameters)))
            ∙ at-right (tabulate (length m.parameters) r.on_parameters) (tabulate (lift_count m.set_lines) r.on_lifts)
            (c - length m.parameters)
            ∙ at-tabulate (lift_count m.set_lines) r.on_lifts (c - length m.parameters) (omega arith)
            ∙ reads.on_lifts (c - length m.parameters)
            (λ e. other (sym
            (ap (set_of_set_column m)
            (place
            ∙ ap (λ n. n + (c - length m.parameters))
            (sym (length-tabulate (length m.parameters) (set_of_parameter m))))
            ∙ get_or-append-add (tabulate (length m.parameters) (set_of_parameter m)) (lift_sets m zero m.set_lines)
            (c - length m.parameters) 0
            ∙ e)))
      ]

  pub own_number : (i c : ℕ) → i < length (set_rows m) → c < set_column_count m →
      set_of_set_row m i ≢ set_of_set_column m c →
      set_number m i c ≡ pos 0
  own_number i c some small other =
      by (pairs_get ReadsOwn (List ℤ) (whole_row m) [] (set_row_sets m) (set_rows m) rows_read i some)
    where
      by : (r : SetRow) × ReadsOwn (set_of_set_row m i) r
          × (slice_index_or (map (whole_row m) (set_rows m)) i [] ≡ whole_row m r) → set_number m i c ≡ pos 0
      by found =
          ap (λ (xs : List ℤ). slice_index_or xs c (pos 0)) found.2
          ∙ whole_place (row_denominator m found.0) (coefficients m found.0) c
          ∙ ap (whole_at (row_denominator m found.0))
          (coefficient_none (set_of_set_row m i) found.0 found.1 c small other)
          ∙ whole_none (row_denominator m found.0)
