-- What the lengths of the ranges of an item tell: where there is no setting, and no range with more than 100 values.
use Rattle.std.proofs.Common.{◌≡◌, ◌<◌, ◌≤◌, ◌*◌, ℕ, suc, Bool, true, false, List, [], ◌∷◌, ◌++◌, length, get_or}
use Rattle.std.proofs.Common.{refl, sym, ap, ◌∙◌, subst, Option, Some, None, arith}
use Rattle.std.specs.Prelude.{ℤ, pos, negsuc, nat_abs, ◌+ℤ◌, ◌*ℤ◌, ◌≤ℤ◌, ◌<ℤ◌, ◌||◌, int_lt, IfSome}
use Rattle.std.specs.List.{list_any, flat_map}
use Rattle.std.specs.Int.{w128}
use Rattle.std.proofs.lemmas.Int.{ints, to_z-of_z}
use mir.Val.{SFits, to_z, of_z}
use Rattle.rob_index.specs.Membership.{Among, here, there}
use Rattle.rob_index.specs.Forms.{Form, Ends, fixed, value_of, values_of, length_form, without, extensions, first_factor, only, plus_times}
use Rattle.rob_algebra.specs.IntegerOrder.{mul_nonneg}
use Rattle.rob_index.proofs.Faults.DecisionLemmas.{fixed_within}
use Rattle.rob_index.proofs.Faults.FormLemmas.{minus_is, plus_times_is}
use Rattle.rob_index.proofs.LinesRead.ListLemmas.{values_within}
use Rattle.rob_index.proofs.Faults.NestLemmas.{never_over, lt_from}
use Rattle.rob_ranges.proofs.DigitLemmas.{lt_no}
use Rattle.rob_ranges.proofs.NestLemmas.{greatest_fixed, le_no, run_over}
use Rattle.rob_ranges.specs.declared.short.Short.{Short}
use Rattle.rob_ranges.specs.DigitLists.{wide_of}
use Rattle.rob_ranges.specs.Shorts.{first_of, second_of, short_value}
use Rattle.rob_settings.specs.declared.inner.Lengths.{Lengths}
use Rattle.rob_settings.specs.Inner.{AreLengths, first_length, second_length, is_long_in}

-- ---- lists of nothing
flat_none : {A B : Type 0} (f : A → List B) (xs : List A) → ((x : A) → Among x xs → f x ≡ []) → flat_map f xs ≡ []
flat_none f [] h = refl
flat_none f (x ∷ xs) h = (λ i. h x here i ++ flat_map f xs) ∙ flat_none f xs (λ y m. h y (there m))

any_none : {A : Type 0} (p : A → Bool) (xs : List A) → ((x : A) → Among x xs → p x ≡ false) → list_any p xs ≡ false
any_none p [] h = refl
any_none p (x ∷ xs) h = (λ i. h x here i || list_any p xs) ∙ any_none p xs (λ y m. h y (there m))

-- ---- a range whose length is below 0
pub no_values : (r : Ends) (vs : List ℤ) → value_of (length_form r) vs <ℤ pos 0 → values_of r vs ≡ []
no_values r vs h =
    run_over (value_of r.from vs) (value_of r.upto vs)
    (le_no (value_of r.from vs) (value_of r.upto vs) (omega (arith, ints, h, minus_is r.upto r.from vs)))

-- ---- a range inside another: its length is at most that at the end that makes it greatest
inner_most : (r s : Ends) (vs : List ℤ) (v : ℤ) → Among v (values_of r vs)
    → value_of (length_form s) (v ∷ vs) ≤ℤ value_of (without r (length_form s)) vs
inner_most r s vs v m =
    let w = values_within (value_of r.from vs) (value_of r.upto vs) v m in
    let h = never_over (r ∷ fixed vs) (length_form s) (v ∷ vs) (fixed_within vs, w.0, w.1) in
    let e = greatest_fixed vs (without r (length_form s)) in
    omega (arith, ints, h, e)

-- ---- no setting
pub first_lacks : (rs : List Ends) (vs : List ℤ) → value_of (first_length rs) vs <ℤ pos 0 → extensions rs vs ≡ []
first_lacks [] vs h = absurd (omega (arith, ints, h))
first_lacks (r ∷ rs) vs h = ap (flat_map (λ v. extensions rs (v ∷ vs))) (no_values r vs h)

pub second_lacks : (rs : List Ends) (vs : List ℤ) → value_of (second_length rs) vs <ℤ pos 0 → extensions rs vs ≡ []
second_lacks [] vs h = absurd (omega (arith, ints, h))
second_lacks (r ∷ []) vs h = absurd (omega (arith, ints, h))
second_lacks (r ∷ s ∷ rs) vs h =
    flat_none (λ v. extensions (s ∷ rs) (v ∷ vs)) (values_of r vs)
    (λ v m. let k = inner_most r s vs v m in first_lacks (s ∷ rs) (v ∷ vs) (omega (arith, ints, h, k)))

-- ---- no range with more than 100 values
pub first_short : (rs : List Ends) (vs : List ℤ) → value_of (first_length rs) vs <ℤ pos 0 → is_long_in rs vs ≡ false
first_short [] vs h = refl
first_short (r ∷ rs) vs h =
    let l : int_lt (pos 99) (value_of (length_form r) vs) ≡ false =
    lt_no (pos 99) (value_of (length_form r) vs) (omega (arith, ints, h)) in
    (λ i. l i || list_any (λ v. is_long_in rs (v ∷ vs)) (no_values r vs h i))

pub second_short : (rs : List Ends) (vs : List ℤ) → value_of (first_length rs) vs ≤ℤ pos 99
    → value_of (second_length rs) vs <ℤ pos 0 → is_long_in rs vs ≡ false
second_short [] vs k h = refl
second_short (r ∷ []) vs k h = absurd (omega (arith, ints, h))
second_short (r ∷ s ∷ rs) vs k h =
    let l : int_lt (pos 99) (value_of (length_form r) vs) ≡ false = lt_no (pos 99) (value_of (length_form r) vs) k in
    (λ i. l i || list_any (λ v. is_long_in (s ∷ rs) (v ∷ vs)) (values_of r vs))
    ∙ any_none (λ v. is_long_in (s ∷ rs) (v ∷ vs)) (values_of r vs)
    (λ v m. let n = inner_most r s vs v m in first_short (s ∷ rs) (v ∷ vs) (omega (arith, ints, h, n)))

alone_short : (r : Ends) (vs : List ℤ) → value_of (length_form r) vs ≤ℤ pos 99 → is_long_in (r ∷ []) vs ≡ false
alone_short r vs k =
    let l : int_lt (pos 99) (value_of (length_form r) vs) ≡ false = lt_no (pos 99) (value_of (length_form r) vs) k in
    (λ i. l i || list_any (λ v. is_long_in [] (v ∷ vs)) (values_of r vs))
    ∙ any_none (λ v. is_long_in [] (v ∷ vs)) (values_of r vs) (λ v m. refl)

pub both_short : (rs : List Ends) (vs : List ℤ) → length rs ≤ 2 → value_of (first_length rs) vs ≤ℤ pos 99
    → value_of (second_length rs) vs ≤ℤ pos 99 → is_long_in rs vs ≡ false
both_short [] vs few k h = refl
both_short (r ∷ []) vs few k h = alone_short r vs k
both_short (r ∷ s ∷ []) vs few k h =
    let l : int_lt (pos 99) (value_of (length_form r) vs) ≡ false = lt_no (pos 99) (value_of (length_form r) vs) k in
    (λ i. l i || list_any (λ v. is_long_in (s ∷ []) (v ∷ vs)) (values_of r vs))
    ∙ any_none (λ v. is_long_in (s ∷ []) (v ∷ vs)) (values_of r vs)
    (λ v m. let n = inner_most r s vs v m in alone_short s (v ∷ vs) (omega (arith, ints, h, n)))
both_short (r ∷ s ∷ q ∷ rs) vs few k h = absurd (omega (arith, few))

-- ---- no values at which neither length is below 0
pub not_below : (a : ℤ) → int_lt a (pos 0) ≡ false → pos 0 ≤ℤ a
not_below (pos n) h = omega (arith, ints)
not_below (negsuc n) h = cc

module _ (rs : List Ends) (vs : List ℤ)
    (apart : pos 0 ≤ℤ value_of (first_length rs) vs → pos 0 ≤ℤ value_of (second_length rs) vs → ⊥) where
  -- what holds where the one is below 0, and where the other one is
  one_below : {P : Type 0} → (value_of (first_length rs) vs <ℤ pos 0 → P)
      → (value_of (second_length rs) vs <ℤ pos 0 → P) → P
  one_below {P} f g =
      go (int_lt (value_of (first_length rs) vs) (pos 0)) (int_lt (value_of (second_length rs) vs) (pos 0)) refl refl
    where
      go : (b c : Bool) → int_lt (value_of (first_length rs) vs) (pos 0) ≡ b
          → int_lt (value_of (second_length rs) vs) (pos 0) ≡ c → P
      go true c p q = f (lt_from (value_of (first_length rs) vs) (pos 0) p)
      go false true p q = g (lt_from (value_of (second_length rs) vs) (pos 0) q)
      go false false p q =
          absurd (apart (not_below (value_of (first_length rs) vs) p) (not_below (value_of (second_length rs) vs) q))

  pub apart_lacks : extensions rs vs ≡ []
  apart_lacks = one_below (first_lacks rs vs) (second_lacks rs vs)

  pub apart_short : value_of (first_length rs) vs ≤ℤ pos 99 → is_long_in rs vs ≡ false
  apart_short k = one_below (first_short rs vs) (second_short rs vs k)

-- ---- a sum of both with factors of at least 0
pub opposite_size : (a : ℤ) → int_lt a (pos 0) ≡ true → negsuc 0 *ℤ a ≡ pos (nat_abs a)
opposite_size (pos n) h = let l = lt_from (pos n) (pos 0) h in absurd (omega (arith, ints, l))
opposite_size (negsuc n) h = ap pos (let e : 1 * suc n ≡ suc n = omega arith in e)

pub size_low : (a : ℤ) (n : ℕ) → a ≡ pos n → pos 0 ≤ℤ a
size_low a n is = omega (arith, ints, is)

-- the factor of the innermost value, by the list of factors
pub innermost_none : (fs gs : List ℤ) → fs ≡ gs → length fs < 1 → pos 0 ≡ first_factor gs
innermost_none fs gs is none = go fs none ∙ ap first_factor is
  where
    go : (hs : List ℤ) → length hs < 1 → pos 0 ≡ first_factor hs
    go [] n = refl
    go (h ∷ hs) n = absurd (omega (arith, n))

pub innermost_some : (fs gs : List ℤ) (x : ℤ) → fs ≡ gs → 1 ≤ length fs → x ≡ get_or fs 0 x → x ≡ first_factor gs
innermost_some fs gs x is some e = go fs some e ∙ ap first_factor is
  where
    go : (hs : List ℤ) → 1 ≤ length hs → x ≡ get_or hs 0 x → x ≡ first_factor hs
    go [] n e = absurd (omega (arith, n))
    go (h ∷ hs) n e = e

-- where a form is at least 0, so is a sum to which it is added with a factor of at least 0
pub nothing_least : (nothing : Form) (vs : List ℤ) → nothing ≡ only (pos 0) → pos 0 ≤ℤ value_of nothing vs
nothing_least nothing vs is =
    let z : value_of (only (pos 0)) vs ≡ pos 0 = refl in
    subst (λ (s : Form). pos 0 ≤ℤ value_of s vs) (sym is) (omega (arith, ints, z))

pub added_least : (f g sum : Form) (a : ℤ) (vs : List ℤ) → pos 0 ≤ℤ a → sum ≡ plus_times f a g
    → pos 0 ≤ℤ value_of g vs → pos 0 ≤ℤ value_of f vs → pos 0 ≤ℤ value_of sum vs
added_least f g sum a vs h is p q =
    let m = mul_nonneg a (value_of g vs) h p in
    let e = plus_times_is f a g vs in
    subst (λ (s : Form). pos 0 ≤ℤ value_of s vs) (sym is) (omega (arith, ints, m, e, q))

-- ---- what the two lengths tell, as they are tested
module _ (rs : List Ends) (vs : List ℤ) (a b : ℤ) (first : value_of (first_length rs) vs ≡ a)
    (second : value_of (second_length rs) vs ≡ b) where
  pub empty_first : a <ℤ pos 0 → extensions rs vs ≡ []
  empty_first h = first_lacks rs vs (omega (arith, ints, first, h))

  pub empty_second : b <ℤ pos 0 → extensions rs vs ≡ []
  empty_second h = second_lacks rs vs (omega (arith, ints, second, h))

  pub short_first : a <ℤ pos 0 → is_long_in rs vs ≡ false
  short_first h = first_short rs vs (omega (arith, ints, first, h))

  pub short_second : a ≤ℤ pos 99 → b <ℤ pos 0 → is_long_in rs vs ≡ false
  short_second k h = second_short rs vs (omega (arith, ints, first, k)) (omega (arith, ints, second, h))

-- ---- the forms that are kept
pub kept_are : (rs : List Ends) (f g s : Form) (o : Option Lengths) → f ≡ first_length rs → g ≡ second_length rs
    → IfSome o (λ kept. (vs : List ℤ) → value_of f vs ≡ short_value kept.first vs)
    → IfSome o (λ kept. (vs : List ℤ) → value_of g vs ≡ short_value kept.second vs)
    → IfSome o (λ kept. (vs : List ℤ) → value_of s vs ≡ short_value kept.combined vs)
    → ((vs : List ℤ) → pos 0 ≤ℤ value_of f vs → pos 0 ≤ℤ value_of g vs → pos 0 ≤ℤ value_of s vs)
    → IfSome o (λ kept. AreLengths rs kept)
kept_are rs f g s None p q h k m least = tt
kept_are rs f g s (Some kept) p q h k m least = record {
  first = λ vs. ap (λ (z : Form). value_of z vs) (sym p) ∙ h vs;
  second = λ vs. ap (λ (z : Form). value_of z vs) (sym q) ∙ k vs;
  combined = λ vs a b.
      subst (λ (z : ℤ). pos 0 ≤ℤ z) (m vs)
      (least vs (subst (λ (z : Form). pos 0 ≤ℤ value_of z vs) (sym p) a)
      (subst (λ (z : Form). pos 0 ≤ℤ value_of z vs) (sym q) b));
}

-- a number of 128 bits is below 0
pub seen_below : (z : ℤ) → SFits w128 z → int_lt (to_z w128 (of_z w128 z)) (pos 0) ≡ true → z <ℤ pos 0
seen_below z f t =
    subst (λ (y : ℤ). y <ℤ pos 0) (to_z-of_z w128 z f) (lt_from (to_z w128 (of_z w128 z)) (pos 0) t)

-- the form's value, from the two innermost values
at_values : (z : ℤ) (form : Short) (vs : List ℤ) (p q value : ℤ) → z ≡ short_value form vs → p ≡ first_of vs
    → q ≡ second_of vs → value ≡ (wide_of form.constant +ℤ (form.first *ℤ p)) +ℤ (form.second *ℤ q)
    → SFits w128 value → z ≡ to_z w128 (of_z w128 value)
at_values z form vs p q value is e f made fits =
    is ∙ (λ i. (wide_of form.constant +ℤ (form.first *ℤ sym e i)) +ℤ (form.second *ℤ sym f i)) ∙ sym made
    ∙ sym (to_z-of_z w128 value fits)

-- what isn't passed is at least 0 where the value is
pub seen_least : (value most : ℤ) → SFits w128 most → value ≤ℤ most → pos 0 ≤ℤ value
    → pos 0 ≤ℤ to_z w128 (of_z w128 most)
seen_least value most fits h p =
    subst (λ (z : ℤ). pos 0 ≤ℤ z) (sym (to_z-of_z w128 most fits)) (omega (arith, ints, h, p))

module _ (rs self : List Ends) (o : Option Lengths) (kept : Lengths) (vs : List ℤ) (is : o ≡ Some kept)
    (view : rs ≡ self) (told : IfSome o (λ k. AreLengths rs k)) where
  lengths_are : AreLengths self kept
  lengths_are =
      subst (λ (l : List Ends). AreLengths l kept) view
      (subst (λ (p : Option Lengths). IfSome p (λ k. AreLengths rs k)) is told)

  -- the lengths at some values
  module _ (p q value : ℤ) (e : p ≡ first_of vs) (f : q ≡ second_of vs) (fits : SFits w128 value) where
    pub at_first : value ≡ (wide_of kept.first.constant +ℤ (kept.first.first *ℤ p)) +ℤ (kept.first.second *ℤ q)
        → value_of (first_length self) vs ≡ to_z w128 (of_z w128 value)
    at_first made =
        at_values (value_of (first_length self) vs) kept.first vs p q value (lengths_are.first vs) e f made fits

    pub at_second : value ≡ (wide_of kept.second.constant +ℤ (kept.second.first *ℤ p)) +ℤ (kept.second.second *ℤ q)
        → value_of (second_length self) vs ≡ to_z w128 (of_z w128 value)
    at_second made =
        at_values (value_of (second_length self) vs) kept.second vs p q value (lengths_are.second vs) e f made fits

  -- what no length passes
  pub most_first : (most : ℤ) → SFits w128 most → short_value kept.first vs ≤ℤ most
      → value_of (first_length self) vs ≤ℤ to_z w128 (of_z w128 most)
  most_first most fits h =
      let e = lengths_are.first vs in
      let f = to_z-of_z w128 most fits in
      omega (arith, ints, h, e, f)

  -- what is at least 0 where the second length and the sum are is so where both lengths are
  pub kept_apart : (least : ℤ) → SFits w128 least
      → (pos 0 ≤ℤ short_value kept.second vs → pos 0 ≤ℤ short_value kept.combined vs → pos 0 ≤ℤ least)
      → pos 0 ≤ℤ value_of (first_length self) vs → pos 0 ≤ℤ value_of (second_length self) vs
      → pos 0 ≤ℤ to_z w128 (of_z w128 least)
  kept_apart least fits apart p q =
      let e = lengths_are.second vs in
      subst (λ (z : ℤ). pos 0 ≤ℤ z) (sym (to_z-of_z w128 least fits))
      (apart (omega (arith, ints, e, q)) (lengths_are.combined vs p q))
