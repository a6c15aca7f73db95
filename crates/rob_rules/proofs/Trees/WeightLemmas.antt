-- The weights of sums and products, part by part.
use Rattle.std.proofs.Common.{◌≡◌, ℕ, ◌+◌, min, max, Bool, true, false, List, [], ◌∷◌, ◌++◌, refl, sym, ap, ◌∙◌, arith, append_assoc, append-nil}
use Rattle.std.specs.Prelude.{Option, Some, None, nat_lt, not, ◌||◌, ◌&&◌, unwrap_or}
use Rattle.std.specs.List.{list_any}
use Rattle.std.proofs.lemmas.Bool.Decides.{nat_tests}
use Rattle.std.proofs.lemmas.List.Folds.{list_any-append}
use Rattle.rob_index.proofs.LinesRead.ListLemmas.{or_assoc, or_false}
use Rattle.rob_rules.specs.declared.sort.Sort.{Sort}
use Rattle.rob_rules.specs.declared.degree.Weight.{Weight}
use Rattle.rob_rules.specs.Degrees.{Degree, constant, times, plus, degree, sum_degree, product_degree, products, sum_products, more_products}
use Rattle.rob_rules.specs.Faults.{has_two_decisions, has_two_uncertain, has_random_recourse}
use Rattle.rob_syntax.specs.Trees.{sum, product, Summands, no_summands, summand, Operands, no_operands, operand}
use Rattle.rob_rules.specs.Weights.{weight, weight_of, joined, multiplied}

or_last : (a b c : Bool) → (a || b) || c ≡ a || (c || b)
or_last true b c = refl
or_last false true true = refl
or_last false true false = refl
or_last false false c = swap c
  where
    swap : (c : Bool) → c ≡ c || false
    swap true = refl
    swap false = refl

max_kept : (a b : ℕ) → max (min a 2) (min b 2) ≡ min (max a b) 2
max_kept a b = omega arith

sum_kept : (a b : ℕ) → min (min a 2 + min b 2) 2 ≡ min (a + b) 2
sum_kept a b = omega arith

over_kept : (n : ℕ) → nat_lt 1 (min n 2) ≡ nat_lt 1 n
over_kept n = grind (arith, nat_tests)

max_assoc : (a b c : ℕ) → max (max a b) c ≡ max a (max b c)
max_assoc a b c = omega arith

plus_assoc : (a b c : Degree) → plus (plus a b) c ≡ plus a (plus b c)
plus_assoc a b c = λ i. record {
  decision = max_assoc a.decision b.decision c.decision i;
  uncertain = max_assoc a.uncertain b.uncertain c.uncertain i;
  recourse = or_assoc a.recourse b.recourse c.recourse i;
}

add_assoc : (a b c : ℕ) → (a + b) + c ≡ a + (b + c)
add_assoc a b c = omega arith

times_assoc : (a b c : Degree) → times (times a b) c ≡ times a (times b c)
times_assoc a b c = λ i. record {
  decision = add_assoc a.decision b.decision c.decision i;
  uncertain = add_assoc a.uncertain b.uncertain c.uncertain i;
  recourse = or_assoc a.recourse b.recourse c.recourse i;
}

max_nothing : (n : ℕ) → max 0 n ≡ n
max_nothing n = omega arith

nothing_plus : (d : Degree) → plus constant d ≡ d
nothing_plus d =
    λ i. record { decision = max_nothing d.decision i; uncertain = max_nothing d.uncertain i; recourse = d.recourse }

add_nothing : (n : ℕ) → n + 0 ≡ n
add_nothing n = omega arith

times_nothing : (d : Degree) → times d constant ≡ d
times_nothing d =
    λ i. record {
      decision = add_nothing d.decision i;
      uncertain = add_nothing d.uncertain i;
      recourse =
          or_false d.recourse i;
    }

max_none : (n : ℕ) → max n 0 ≡ n
max_none n = omega arith

plus_nothing : (d : Degree) → plus d constant ≡ d
plus_nothing d =
    λ i. record {
      decision = max_none d.decision i;
      uncertain = max_none d.uncertain i;
      recourse =
          or_false d.recourse i;
    }

-- two weights joined
joined_is : (d e : Degree) (ds es : List Degree) → joined (weight d ds) (weight e es) ≡ weight (plus d e) (ds ++ es)
joined_is d e ds es = λ i. record {
  decision = max_kept d.decision e.decision i;
  uncertain = max_kept d.uncertain e.uncertain i;
  recourse = d.recourse || e.recourse;
  two_decisions = sym (list_any-append has_two_decisions ds es) i;
  two_uncertain = sym (list_any-append has_two_uncertain ds es) i;
  random_recourse = sym (list_any-append has_random_recourse ds es) i;
}

-- a product of two
multiplied_is : (d e : Degree) (ds es : List Degree)
    → multiplied (Some (weight d ds)) (weight e es) ≡ weight (times d e) (ds ++ times d e ∷ es)
multiplied_is d e ds es = λ i. record {
  decision = sum_kept d.decision e.decision i;
  uncertain = sum_kept d.uncertain e.uncertain i;
  recourse = d.recourse || e.recourse;
  two_decisions =
      ((λ j. (list_any has_two_decisions ds || list_any has_two_decisions es) || over d.decision e.decision j)
      ∙ or_last (list_any has_two_decisions ds) (list_any has_two_decisions es) (nat_lt 1 (d.decision + e.decision))
      ∙ sym (list_any-append has_two_decisions ds (times d e ∷ es))) i;
  two_uncertain =
      ((λ j. (list_any has_two_uncertain ds || list_any has_two_uncertain es) ||
      (not (d.recourse || e.recourse) && over d.uncertain e.uncertain j))
      ∙ or_last (list_any has_two_uncertain ds) (list_any has_two_uncertain es) (has_two_uncertain (times d e))
      ∙ sym (list_any-append has_two_uncertain ds (times d e ∷ es))) i;
  random_recourse =
      ((λ j. (list_any has_random_recourse ds || list_any has_random_recourse es) ||
      ((d.recourse || e.recourse) && over d.uncertain e.uncertain j))
      ∙ or_last (list_any has_random_recourse ds) (list_any has_random_recourse es) (has_random_recourse (times d e))
      ∙ sym (list_any-append has_random_recourse ds (times d e ∷ es))) i;
}
  where
    over : (a b : ℕ) → nat_lt 1 (min (min a 2 + min b 2) 2) ≡ nat_lt 1 (a + b)
    over a b = ap (nat_lt 1) (sum_kept a b) ∙ over_kept (a + b)

module _ (sorts : List (Option Sort)) where
  -- the weight of a sum from that of its first parts
  unfoldable pub sum_from : Weight → Summands → Weight
  sum_from w no_summands = w
  sum_from w (summand minus t ts) = sum_from (joined w (weight_of sorts t)) ts

  -- the weight of a product from that of its first factors
  unfoldable pub product_from : Option Weight → Operands → Weight
  product_from w no_operands = unwrap_or w (weight constant [])
  product_from w (operand f fs) = product_from (Some (multiplied w (weight_of sorts f))) fs

  sum_from_is : (d : Degree) (ds : List Degree) (ts : Summands)
      → sum_from (weight d ds) ts ≡ weight (plus d (sum_degree sorts ts)) (ds ++ sum_products sorts ts)
  unfolding sum_from
  sum_from_is d ds no_summands = λ i. weight (sym (plus_nothing d) i) (sym (append-nil ds) i)
  sum_from_is d ds (summand minus t ts) =
      ap (λ (w : Weight). sum_from w ts) (joined_is d (degree sorts t) ds (products sorts t))
      ∙ sum_from_is (plus d (degree sorts t)) (ds ++ products sorts t) ts
      ∙ (λ i. weight (plus_assoc d (degree sorts t) (sum_degree sorts ts) i)
      (append_assoc ds (products sorts t) (sum_products sorts ts) i))

  product_from_is : (d : Degree) (ds : List Degree) (fs : Operands)
      → product_from (Some (weight d ds)) fs ≡ weight (times d (product_degree sorts fs))
      (ds ++ more_products sorts d fs)
  unfolding product_from
  product_from_is d ds no_operands = λ i. weight (sym (times_nothing d) i) (sym (append-nil ds) i)
  product_from_is d ds (operand f fs) =
      ap (λ (w : Weight). product_from (Some w) fs) (multiplied_is d (degree sorts f) ds (products sorts f))
      ∙ product_from_is (times d (degree sorts f)) (ds ++ times d (degree sorts f) ∷ products sorts f) fs
      ∙ (λ i. weight (times_assoc d (degree sorts f) (product_degree sorts fs) i)
      (append_assoc ds (times d (degree sorts f) ∷ products sorts f) (more_products sorts (times d (degree sorts f)) fs)
      i))

  pub sum_whole : (ts : Summands) → sum_from (weight constant []) ts ≡ weight_of sorts (sum ts)
  sum_whole ts =
      sum_from_is constant [] ts
      ∙ ap (λ (d : Degree). weight d (sum_products sorts ts)) (nothing_plus (sum_degree sorts ts))

  pub product_whole : (fs : Operands) → product_from None fs ≡ weight_of sorts (product fs)
  unfolding product_from
  product_whole no_operands = refl
  product_whole (operand f fs) = product_from_is (degree sorts f) (products sorts f) fs
