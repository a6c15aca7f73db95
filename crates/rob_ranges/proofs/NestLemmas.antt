-- Nests whose outer ranges have values put in, comparisons by the sign of a difference, and the values of a range run
-- through upwards.
use Rattle.std.proofs.Common.{◌≡◌, ◌<◌, ◌≤◌, ◌+◌, ◌-◌, ℕ, suc, take, get_or, Bool, true, false, List, [], ◌∷◌, ◌++◌, length, refl, sym, ap, ◌∙◌, subst, arith}
use Rattle.std.specs.Prelude.{Result, IfOk, ℤ, pos, negsuc, ◌+ℤ◌, ◌-ℤ◌, ◌*ℤ◌, ◌≤ℤ◌, ◌<ℤ◌, ◌&&◌, ◌||◌, not, int_le, int_lt}
use Rattle.std.proofs.lemmas.List.{take_more}
use Rattle.std.proofs.Math.Seq.{take-length}
use Rattle.std.proofs.lemmas.Int.{ints, by_lt_z}
use Rattle.rob_algebra.specs.Integer.{add_assoc}
use Rattle.rob_index.specs.Settings.{count, upwards}
use Rattle.rob_index.specs.Forms.{Form, Ends, value_of, first_factor, outer, far_end, without, minus, greatest, all_run, is_dead, lack_form, length_form, only, at_one, fixed, onto}
use Rattle.rob_index.proofs.Faults.FormLemmas.{without_is, outer_is, minus_is}
use Rattle.rob_index.proofs.LinesRead.ListLemmas.{natural_is, natural_low}
use Rattle.rob_index.proofs.Faults.NestLemmas.{le_from, le_to, lt_from, lt_not, no_values}
use Rattle.rob_ranges.proofs.DigitLemmas.{lt_to, lt_no}

-- the innermost of some ranges is the first of the nest
pub onto_last : (rs : List Ends) (r : Ends) (nest : List Ends) → onto (rs ++ r ∷ []) nest ≡ r ∷ onto rs nest
onto_last [] r nest = refl
onto_last (q ∷ rs) r nest = onto_last rs r (q ∷ nest)

-- ---- comparisons
pub le_no : (a b : ℤ) → b <ℤ a → int_le a b ≡ false
le_no a b h = grind (arith, ints)

pub le_over : (a b : ℤ) → int_le a b ≡ false → b <ℤ a
le_over a b h = grind (arith, ints)

-- a number is below another where their difference is below 0
pub less_is : (a b : ℤ) → int_lt (a +ℤ (negsuc 0 *ℤ b)) (pos 0) ≡ int_lt a b
less_is a b = by_lt_z a b
    (λ l. lt_to (a +ℤ (negsuc 0 *ℤ b)) (pos 0) (omega (arith, ints)) ∙ sym (lt_to a b l))
    (λ l. lt_no (a +ℤ (negsuc 0 *ℤ b)) (pos 0) (omega (arith, ints)) ∙ sym (lt_no a b l))

pub at_most_is : (a b : ℤ) → int_le a b ≡ not (int_lt b a)
at_most_is a b = by_lt_z b a
    (λ l. le_no a b l ∙ sym (ap not (lt_to b a l)))
    (λ l. le_to a b l ∙ sym (ap not (lt_no b a l)))

-- ---- the end that makes a form greatest
pub far_from : (c : ℤ) (r : Ends) → int_lt c (pos 0) ≡ true → far_end c r ≡ r.from
far_from (pos n) r h = absurd (omega (arith, ints, lt_from (pos n) (pos 0) h))
far_from (negsuc n) r h = refl

pub far_upto : (c : ℤ) (r : Ends) → int_lt c (pos 0) ≡ false → far_end c r ≡ r.upto
far_upto (pos n) r h = refl
far_upto (negsuc n) r h = absurd (omega (arith, ints, lt_not (negsuc n) (pos 0) h))

-- ---- a sum that more is added to
pub plus_none : (a : ℤ) → a ≡ a +ℤ pos 0
plus_none a = omega (arith, ints)

pub ruleset sums_on = (plus_none, add_assoc)

-- ---- ranges of one value
far_one : (c v : ℤ) (vs : List ℤ) → value_of (far_end c (at_one v)) vs ≡ v
far_one (pos c) v vs = omega (arith, ints)
far_one (negsuc c) v vs = omega (arith, ints)

-- over ranges of one value each, the greatest value is the value
pub greatest_fixed : (vs : List ℤ) (f : Form) → greatest (fixed vs) f ≡ value_of f vs
greatest_fixed [] f = omega (arith, ints, no_values f.factors)
greatest_fixed (v ∷ vs) f =
    greatest_fixed vs (without (at_one v) f) ∙ without_is (at_one v) f vs
    ∙ ap (λ (z : ℤ). value_of (outer f) vs +ℤ (first_factor f.factors *ℤ z)) (far_one (first_factor f.factors) v vs)
    ∙ sym (outer_is f v vs)

pub greatest_none : (vs : List ℤ) (rs : List Ends) (f : Form) → length rs ≡ 0
    → value_of f vs ≡ greatest (onto rs (fixed vs)) f
greatest_none vs [] f h = sym (greatest_fixed vs f)
greatest_none vs (r ∷ rs) f h = absurd (omega (arith, h))

-- how far such a range goes is nothing
no_way : (v : ℤ) (vs : List ℤ) → greatest (fixed vs) (minus (only v) (only v)) ≡ pos 0
no_way v vs = greatest_fixed vs (minus (only v) (only v)) ∙ minus_is (only v) (only v) vs ∙ omega (arith, ints)

pub fixed_run : (vs : List ℤ) → all_run (fixed vs) ≡ true
fixed_run [] = refl
fixed_run (v ∷ vs) = λ i. int_le (no_way v vs i) (pos 0) && fixed_run vs i

pub fixed_live : (vs : List ℤ) → is_dead (fixed vs) ≡ false
fixed_live [] = refl
fixed_live (v ∷ vs) = λ i. int_lt (no_way v vs i) (pos 0) || fixed_live vs i

-- ---- with no range, and with the innermost range apart
-- a list by its front and its last
pub front_last : {A : Type 0} (rs : List A) (d : A) → 1 ≤ length rs
    → take (length rs - 1) rs ++ get_or rs (length rs - 1) d ∷ [] ≡ rs
front_last rs d h =
    let n : (length rs - 1) + 1 ≡ length rs = omega arith in
    sym (take_more rs (length rs - 1) d (omega arith)) ∙ ap (λ (k : ℕ). take k rs) n ∙ take-length rs

pub last_apart : {A : Type 0} (rs : List A) (r : A) → 1 ≤ length rs → r ≡ get_or rs (length rs - 1) r
    → take (length rs - 1) rs ++ r ∷ [] ≡ rs
last_apart {A} rs r h e = ap (λ (q : A). take (length rs - 1) rs ++ q ∷ []) e ∙ front_last rs r h

-- what is one number is another that is the same
pub as_well : {A E : Type 0} (r : Result A E) {a b : A} → a ≡ b → IfOk r (λ v. v ≡ a) → IfOk r (λ v. v ≡ b)
as_well {A} r e h = subst (λ (z : A). IfOk r (λ v. v ≡ z)) e h

module _ (vs : List ℤ) where
  pub runs_none : (rs : List Ends) → length rs < 1 → true ≡ all_run (onto rs (fixed vs))
  runs_none [] h = sym (fixed_run vs)
  runs_none (r ∷ rs) h = absurd (omega (arith, h))

  pub dead_none : (rs : List Ends) → length rs < 1 → false ≡ is_dead (onto rs (fixed vs))
  dead_none [] h = sym (fixed_live vs)
  dead_none (r ∷ rs) h = absurd (omega (arith, h))

  module _ (rs around : List Ends) (r : Ends) (apart : around ++ r ∷ [] ≡ rs) where
    split : r ∷ onto around (fixed vs) ≡ onto rs (fixed vs)
    split = sym (onto_last around r (fixed vs)) ∙ ap (λ (q : List Ends). onto q (fixed vs)) apart

    pub greatest_outer : (f : Form)
        → greatest (onto around (fixed vs)) (without r f) ≡ greatest (onto rs (fixed vs)) f
    greatest_outer f = ap (λ (nest : List Ends). greatest nest f) split

    pub runs_outer : int_le (greatest (onto around (fixed vs)) (lack_form r)) (pos 0) ≡ true
        → all_run (onto around (fixed vs)) ≡ all_run (onto rs (fixed vs))
    runs_outer h = ap (λ (b : Bool). b && all_run (onto around (fixed vs))) (sym h) ∙ ap all_run split

    pub runs_not : int_le (greatest (onto around (fixed vs)) (lack_form r)) (pos 0) ≡ false
        → false ≡ all_run (onto rs (fixed vs))
    runs_not h = ap (λ (b : Bool). b && all_run (onto around (fixed vs))) (sym h) ∙ ap all_run split

    pub dead_here : int_lt (greatest (onto around (fixed vs)) (length_form r)) (pos 0) ≡ true
        → true ≡ is_dead (onto rs (fixed vs))
    dead_here h = ap (λ (b : Bool). b || is_dead (onto around (fixed vs))) (sym h) ∙ ap is_dead split

    pub dead_outer : int_lt (greatest (onto around (fixed vs)) (length_form r)) (pos 0) ≡ false
        → is_dead (onto around (fixed vs)) ≡ is_dead (onto rs (fixed vs))
    dead_outer h = ap (λ (b : Bool). b || is_dead (onto around (fixed vs))) (sym h) ∙ ap is_dead split

-- ---- a loop that puts in the values of the ranges, from the innermost outwards
module _ (vs : List ℤ) (rs : List Ends) (left : ℕ) (f : Form) {all : ℤ} where
  pub put_in_more : (r : Ends) (next : Form) → 0 < left → left ≤ length rs → r ≡ get_or rs (left - 1) r
      → next ≡ without r f → greatest (onto (take left rs) (fixed vs)) f ≡ all
      → greatest (onto (take (left - 1) rs) (fixed vs)) next ≡ all
  put_in_more r next some within is e so_far =
      let n : (left - 1) + 1 ≡ left = omega arith in
      let apart : take (left - 1) rs ++ r ∷ [] ≡ take left rs =
      ap (λ (q : Ends). take (left - 1) rs ++ q ∷ []) is ∙ sym (take_more rs (left - 1) r (omega arith))
      ∙ ap (λ (k : ℕ). take k rs) n in
      ap (greatest (onto (take (left - 1) rs) (fixed vs))) e
      ∙ greatest_outer vs (take left rs) (take (left - 1) rs) r apart f ∙ so_far

  pub put_in_all : left ≤ 0 → greatest (onto (take left rs) (fixed vs)) f ≡ all → value_of f vs ≡ all
  put_in_all none so_far =
      let n : 0 ≡ left = omega (arith, none) in
      sym (greatest_fixed vs f) ∙ ap (λ (k : ℕ). greatest (onto (take k rs) (fixed vs)) f) n ∙ so_far

-- ---- the values of a range, from one of them on
pub count_next : (a b : ℤ) → a ≤ℤ b → count a b ≡ suc (count (a +ℤ pos 1) b)
count_next a b h =
    let k = natural_is ((b +ℤ pos 1) -ℤ a) (omega (arith, ints)) in
    let m = natural_is ((b +ℤ pos 1) -ℤ (a +ℤ pos 1)) (omega (arith, ints)) in
    omega (arith, ints, k, m)

pub count_none : (a b : ℤ) → b <ℤ a → count a b ≡ 0
count_none a b h = natural_low ((b +ℤ pos 1) -ℤ a) (omega (arith, ints))

-- one is left
pub run_next : (a b next : ℤ) → int_le a b ≡ true → next ≡ a +ℤ pos 1
    → upwards a (count a b) ≡ a ∷ upwards next (count next b)
run_next a b next h e =
    ap (upwards a) (count_next a b (le_from a b h)) ∙ ap (λ (n : ℤ). a ∷ upwards n (count n b)) (sym e)

-- none is left
pub run_over : (a b : ℤ) → int_le a b ≡ false → upwards a (count a b) ≡ []
run_over a b h = ap (upwards a) (count_none a b (le_over a b h))
