-- The set rows and forms of a number's model have no wide number: those of its set rows are whole and at most 255 in
-- size, and a form's coefficients are, since it is a sum of leaves. The twelve models are tested one by one.
use Rattle.std.proofs.Common.{◌≡◌, ℕ, ◌+◌, ◌<◌, ◌≤◌, Bool, true, false, refl, sym, ◌∙◌, ap, ap₂, subst, arith, inl, inr}
use Rattle.std.proofs.lemmas.Int.{ints}
use Rattle.std.specs.Prelude.{suc, ℤ, pos, ◌+ℤ◌, ◌*ℤ◌, ◌/◌, nat_abs, List, [], ◌∷◌, length, Option, Some, None}
use Rattle.std.specs.Fmt.{digits}
use Rattle.rob_algebra.proofs.Parts.{add-wholes, neg_parts, of_int-parts}
use Rattle.rob_algebra.specs.Fraction.{Fraction, of_int, ratio, ◌+ℚ◌, ◌*ℚ◌}
use Rattle.rob_algebra.specs.Gcd.{gcd}
use Rattle.rob_algebra.specs.Integer.{mul-one}
use Rattle.rob_algebra.specs.Width.{IsWide, IsWideWhole}
use Rattle.rob_elab.specs.Forms.{judged_forms, judged_from}
use Rattle.rob_gen.proofs.GeneratedLemmas.{by_twelve}
use Rattle.rob_gen.specs.Generated.{generated}
use Rattle.rob_meaning.proofs.Lists.TabulateLemmas.{each_tabulate}
use Rattle.rob_meaning.proofs.ByHand.WorkedTests.{Found, both, found, so, test_at_most, test_count, test_each, test_numbers, test_same}
use Rattle.rob_meaning.specs.Clearing.{denominator, entries, lcm, whole_at}
use Rattle.rob_meaning.specs.Coefficients.{rule_table, single, sum_table, table}
use Rattle.rob_meaning.specs.Expressions.{Expression, number, parameter, variable, adaptive, adaptive_in, sum, product, Terms, no_terms, term}
use Rattle.rob_meaning.specs.Forms.{entries_of, form_columns, form_rows, forms}
use Rattle.rob_meaning.specs.Places.{0ℚ, Each, tabulate}
use Rattle.rob_meaning.specs.RobustModel.{RobustModel, column_of, list_in_set, list_of}
use Rattle.rob_meaning.specs.Values.{signed}
use Rattle.rob_sets.specs.FirstWide.{IsWideCleared, IsWideThere, Judged, NothingWide, Some_of, clearing, coefficients}
use Rattle.rob_sets.specs.SetForm.{judged_set}
use Rattle.rob_sets.specs.Subexpressions.{HasWideCoefficient, subexpressions}
use Rattle.rob_meaning.proofs.Lists.EachLemmas.{each_append}
use Rattle.rob_top.proofs.Relations.NarrowForms.{single_bits, bit}
use Rattle.rob_elab.specs.Written.{IsWritten}

-- ---- whole numbers of a size
record IsWhole (size : ℕ) (x : Fraction) : Type 0 where
  den : x.den ≡ 1
  num : nat_abs x.num ≤ size

whole_of : (size : ℕ) (x : Fraction) (z : ℤ) → x ≡ of_int z → nat_abs z ≤ size → IsWhole size x
whole_of size x z e small = record {
  den = ap (λ (y : Fraction). y.den) e ∙ (of_int-parts z).1;
  num = subst (λ (k : ℤ). nat_abs k ≤ size) (sym (ap (λ (y : Fraction). y.num) e ∙ (of_int-parts z).0)) small;
}

larger : (a b : ℕ) (x : Fraction) → a ≤ b → IsWhole a x → IsWhole b x
larger a b x le h = record { den = h.den; num = omega (arith, le, h.num) }

sizes_add : (a b : ℕ) (x y : ℤ) → nat_abs x ≤ a → nat_abs y ≤ b → nat_abs (x +ℤ y) ≤ a + b
sizes_add a b x y h k = omega (arith, ints, h, k)

sum_whole : (a b : ℕ) (x y : Fraction) → IsWhole a x → IsWhole b y → IsWhole (a + b) (x +ℚ y)
sum_whole a b x y h k =
    whole_of (a + b) (x +ℚ y) (x.num +ℤ y.num) (add-wholes x y h.den k.den) (sizes_add a b x.num y.num h.num k.num)

signed_whole : (size : ℕ) (minus : Bool) (x : Fraction) → IsWhole size x → IsWhole size (signed minus x)
signed_whole size false x h = h
signed_whole size true x h = record {
  den = (neg_parts x).1 ∙ h.den;
  num = let small : nat_abs x.num ≤ size = h.num in
      subst (λ (z : ℤ). nat_abs z ≤ size) (sym (neg_parts x).0) (omega (arith, ints, small));
}

not_wide : (limit size : ℕ) (x : Fraction) → 1 ≤ limit → size ≤ limit → IsWhole size x → IsWide limit x → ⊥
not_wide limit size x some le h (inl wide) = let small : nat_abs x.num ≤ size = h.num in omega (arith, small, wide, le)
not_wide limit size x some le h (inr wide) = let one : x.den ≡ 1 = h.den in omega (arith, one, wide, some)

-- ---- coefficients of a sum of leaves
abbrev test_size : (size : ℕ) (x : Fraction) → Option (IsWhole size x)
test_size size x =
    so (λ h. record { den = h.0; num = h.1 }) (both (test_count x.den 1) (test_at_most (nat_abs x.num) size))

bits_whole : (x y : Bool) → Found (test_size 1 (bit x *ℚ bit y))
unfolding ratio
bits_whole true true = tt
bits_whole true false = tt
bits_whole false true = tt
bits_whole false false = tt

no_bits : (x y : Bool) → Found (test_size 0 (0ℚ *ℚ (bit x *ℚ bit y)))
unfolding ratio
no_bits true true = tt
no_bits true false = tt
no_bits false true = tt
no_bits false false = tt

single_whole : (a b k j : ℕ) → IsWhole 1 (single a b k j)
single_whole a b k j =
    let bits = single_bits a b k j in
    subst (IsWhole 1) (sym bits.2) (found (test_size 1 (bit bits.0 *ℚ bit bits.1)) (bits_whole bits.0 bits.1))

none_times : (a b k j : ℕ) → IsWhole 0 (0ℚ *ℚ single a b k j)
none_times a b k j =
    let bits = single_bits a b k j in
    subst (λ (x : Fraction). IsWhole 0 (0ℚ *ℚ x)) (sym bits.2)
    (found (test_size 0 (0ℚ *ℚ (bit bits.0 *ℚ bit bits.1))) (no_bits bits.0 bits.1))

zero_whole : IsWhole 0 0ℚ
zero_whole = whole_of 0 0ℚ (pos 0) refl (let e : 0 ≤ 0 = omega arith in e)

module _ (m : RobustModel) where
  rule_whole : (list : List ℕ) (column k j : ℕ) → IsWhole (length list) (rule_table list column k j)
  rule_whole [] column k j = zero_whole
  rule_whole (d ∷ list) column k j =
      larger (1 + length list) (length (d ∷ list)) (rule_table (d ∷ list) column k j) (omega arith)
      (sum_whole 1 (length list) (single (suc d) (suc column) k j) (rule_table list (suc column) k j)
      (single_whole (suc d) (suc column) k j) (rule_whole list (suc column) k j))

  abbrev mutual
    -- the expression is a sum of parameters, decisions and zeros, or of such sums
    IsSum : Expression → Type 0
    IsSum (number q) = q ≡ 0ℚ
    IsSum (sum ts) = AreSums ts
    IsSum (product fs) = ⊥
    IsSum _ = Unit {0}

    AreSums : Terms → Type 0
    AreSums no_terms = Unit {0}
    AreSums (term minus e ts) = IsSum e × AreSums ts

  abbrev mutual
    -- its coefficients are at most so large
    size : Expression → ℕ
    size (number q) = 0
    size (parameter d) = 1
    size (variable v) = 1
    size (adaptive y) = 1 + length (list_of m y)
    size (adaptive_in y S) = 1 + length (list_in_set m S y)
    size (sum ts) = sizes ts
    size (product fs) = 0

    sizes : Terms → ℕ
    sizes no_terms = 0
    sizes (term minus e ts) = size e + sizes ts

  mutual
    table_whole : (e : Expression) → IsSum e → (k j : ℕ) → IsWhole (size e) (table m e k j)
    table_whole (number q) h k j =
        subst (λ (x : Fraction). IsWhole 0 (x *ℚ single 0 0 k j)) (sym h) (none_times 0 0 k j)
    table_whole (parameter d) h k j = single_whole (suc d) 0 k j
    table_whole (variable v) h k j = single_whole 0 (suc v) k j
    table_whole (adaptive y) h k j =
        sum_whole 1 (length (list_of m y)) _ _ (single_whole 0 (suc (column_of m y)) k j)
        (rule_whole (list_of m y) (suc (column_of m y)) k j)
    table_whole (adaptive_in y S) h k j =
        sum_whole 1 (length (list_in_set m S y)) _ _ (single_whole 0 (suc (column_of m y)) k j)
        (rule_whole (list_in_set m S y) (suc (column_of m y)) k j)
    table_whole (sum ts) h k j = sum_table_whole ts h k j
    table_whole (product fs) h k j = absurd h

    sum_table_whole : (ts : Terms) → AreSums ts → (k j : ℕ) → IsWhole (sizes ts) (sum_table m ts k j)
    sum_table_whole no_terms h k j = zero_whole
    sum_table_whole (term minus e ts) h k j =
        sum_whole (size e) (sizes ts) (signed minus (table m e k j)) (sum_table m ts k j)
        (signed_whole (size e) minus (table m e k j) (table_whole e h.0 k j)) (sum_table_whole ts h.1 k j)

  abbrev IsSmall : Expression → Type 0
  IsSmall e = IsSum e × (size e ≤ 255)

  small_whole : (e : Expression) → IsSmall e → (k j : ℕ) → IsWhole 255 (table m e k j)
  small_whole e h k j = larger (size e) 255 (table m e k j) h.1 (table_whole e h.0 k j)

  -- what is asked of a form: it and its subexpressions are small
  abbrev IsSmallForm : Expression → Type 0
  IsSmallForm e = IsSmall e × Each IsSmall (subexpressions e)

-- what is asked of what is judged for set rows: its numbers are whole
abbrev IsCleared : Judged → Type 0
IsCleared (coefficients place e) = ⊥
IsCleared (clearing place numbers) = Each (IsWhole 255) numbers

-- ---- numbers that are whole are cleared as they are
entries_whole : (rows : List (List Fraction)) → Each (Each (IsWhole 255)) rows → Each (IsWhole 255) (entries rows)
entries_whole [] h = tt
entries_whole (row ∷ rows) h = each_append (IsWhole 255) row (entries rows) h.0 (entries_whole rows h.1)

denominator_one : (qs : List Fraction) → Each (IsWhole 255) qs → denominator qs ≡ 1
unfolding gcd
denominator_one [] h = refl
denominator_one (q ∷ qs) h = ap₂ lcm h.0.den (denominator_one qs h.1)

cleared_is : (q : Fraction) (d : ℕ) → d ≡ 1 → q.den ≡ 1 → whole_at d q ≡ q.num
cleared_is q d e f = ap₂ (λ (a b : ℕ). q.num *ℤ pos (a / b)) e f ∙ mul-one q.num

module _ (limit : ℕ) (wide_enough : 255 ≤ limit) where
  wholes_fit : (d : ℕ) → d ≡ 1 → (qs : List Fraction) → Each (IsWhole 255) qs
      → Some_of (λ q. IsWideWhole limit (whole_at d q)) qs → ⊥
  wholes_fit d e [] h none = none
  wholes_fit d e (q ∷ qs) h (inl wide) =
      let small : nat_abs q.num ≤ 255 = h.0.num in
      let here : limit < nat_abs q.num =
      subst (λ (z : ℤ). limit < nat_abs z) (cleared_is q d e h.0.den) wide
      in
      omega (arith, small, here, wide_enough)
  wholes_fit d e (q ∷ qs) h (inr wide) = wholes_fit d e qs h.1 wide

  clears : (qs : List Fraction) → Each (IsWhole 255) qs → IsWideCleared limit qs → ⊥
  clears qs h (inl wide) = let one : denominator qs ≡ 1 = denominator_one qs h in omega (arith, one, wide, wide_enough)
  clears qs h (inr wide) = wholes_fit (denominator qs) (denominator_one qs h) qs h wide

  module _ (m : RobustModel) where
    no_coefficient : (es : List Expression) → Each (IsSmall m) es → Some_of (HasWideCoefficient limit m) es → ⊥
    no_coefficient [] h none = none
    no_coefficient (e ∷ es) h (inl wide) =
        not_wide limit 255 (table m e wide.0 wide.1) (omega (arith, wide_enough)) wide_enough
        (small_whole m e h.0 wide.0 wide.1) wide.2
    no_coefficient (e ∷ es) h (inr wide) = no_coefficient es h.1 wide

    form_clears : (e : Expression) → IsSmall m e → IsWideCleared limit (entries (entries_of m (table m e))) → ⊥
    form_clears e h wide =
        clears (entries (entries_of m (table m e)))
        (entries_whole (entries_of m (table m e))
        (each_tabulate (Each (IsWhole 255)) (form_rows m) (λ k. tabulate (form_columns m) (λ j. table m e k j))
        (λ k some. each_tabulate (IsWhole 255) (form_columns m) (λ j. table m e k j)
        (λ j more. small_whole m e h k j))))
        wide

    forms_narrow : (i : ℕ) (es : List Expression) → Each (IsSmallForm m) es → NothingWide limit m (judged_from m i es)
    forms_narrow i [] h = tt
    forms_narrow i (e ∷ es) h = (
      (λ wide. no_coefficient (subexpressions e) h.0.1 wide),
      ((λ wide. form_clears e h.0.0 wide), forms_narrow (suc i) es h.1),
    )

    rows_narrow : (all : List Judged) → Each IsCleared all → NothingWide limit m all
    rows_narrow [] h = tt
    rows_narrow (coefficients place e ∷ all) h = absurd h.0
    rows_narrow (clearing place numbers ∷ all) h = ((λ wide. clears numbers h.0 wide), rows_narrow all h.1)

    written_by : Each IsCleared (judged_set m) → Each (IsSmallForm m) (forms m) → IsWritten limit m
    written_by rows small =
        each_append (λ j. IsWideThere limit m j → ⊥) (judged_set m) (judged_forms m) (rows_narrow (judged_set m) rows)
        (forms_narrow 0 (forms m) small)

-- ---- tests
module _ (m : RobustModel) where
  abbrev mutual
    test_sum : (e : Expression) → Option (IsSum m e)
    test_sum (number q) = test_same q 0ℚ
    test_sum (sum ts) = test_sums ts
    test_sum (product fs) = None
    test_sum (parameter d) = Some tt
    test_sum (variable v) = Some tt
    test_sum (adaptive y) = Some tt
    test_sum (adaptive_in y S) = Some tt

    test_sums : (ts : Terms) → Option (AreSums m ts)
    test_sums no_terms = Some tt
    test_sums (term minus e ts) = both (test_sum e) (test_sums ts)

  abbrev test_small : (e : Expression) → Option (IsSmall m e)
  test_small e = both (test_sum e) (test_at_most (size m e) 255)

  abbrev test_form : (e : Expression) → Option (IsSmallForm m e)
  test_form e = both (test_small e) (test_each (IsSmall m) test_small (subexpressions e))

abbrev test_cleared : (j : Judged) → Option (IsCleared j)
test_cleared (coefficients place e) = None
test_cleared (clearing place numbers) = test_each (IsWhole 255) (test_size 255) numbers

abbrev AreSmall : RobustModel → Type 0
AreSmall m = Each IsCleared (judged_set m) × Each (IsSmallForm m) (forms m)

abbrev test_all : (m : RobustModel) → Option (AreSmall m)
test_all m = both (test_each IsCleared test_cleared (judged_set m)) (test_each (IsSmallForm m) (test_form m) (forms m))

twelve_small : (r : ℕ) → r < 12 → AreSmall (generated r)
unfolding ratio digits
twelve_small = found (test_numbers 12 (λ r. AreSmall (generated r)) (λ r. test_all (generated r))) tt

-- no number is wide when the model of a number is written in whole numbers, at any width
pub generated_written : (limit : ℕ) → 255 ≤ limit → (n : ℕ) → IsWritten limit (generated n)
generated_written limit enough n =
    let small = by_twelve AreSmall twelve_small n in
    written_by limit enough (generated n) small.0 small.1
