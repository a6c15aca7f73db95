-- Boxes: a bound in a box is a bound in the model, and a plan with a whole
-- number has its bound in one of the two boxes.
use Rattle.std.specs.Prelude.{◌≡◌, ℕ, zero, suc, ◌+◌, ℤ, pos, ◌+ℤ◌, ◌≤ℤ◌, ◌<ℤ◌, Bool, true, false, List, [], ◌∷◌, length, Option, Some, None, ◌⊎◌, ◌↔◌, refl}
use Rattle.std.proofs.Common.{ap, sym, ◌∙◌, subst, inl, inr, arith, Ordering, Less, Equal, Greater}
use Rattle.std.proofs.lemmas.Int.{ints}
use Rattle.std.specs.Ordering.{MatchOrdering}
use Rattle.rob_algebra.specs.Fraction.{Fraction, of_int, ◌≤ℚ◌, ◌<ℚ◌}
use Rattle.rob_algebra.specs.FractionOrderLaws as Q
use Rattle.rob_algebra.specs.FractionOrder.{cmp_ℚ, cmp_ℚ-ranks}
use Rattle.rob_algebra.specs.IntegerOrder as Z
use Rattle.rob_meaning.specs.Guarantee.{HasBound}
use Rattle.rob_meaning.specs.Places.{at, EachFrom}
use Rattle.rob_meaning.specs.RobustModel.{Variable, RobustModel}
use Rattle.rob_meaning.specs.UncertaintySet.{part_of, Admits, AdmitsIn, KeepsBounds, KeepsLower, KeepsUpper}
use Rattle.rob_meaning.specs.WellFormed.{IsModel}
use Rattle.rob_reach.proofs.SameColumns as Same
use Rattle.rob_reach.proofs.WholeNumberLemmas.{whole_is}
use Rattle.rob_reach.specs.Boxes.{lesser_by, lesser, greater, change_at, Branch, tightened, behind, box, box_below, box_above, at_most_branch, at_least_branch}
use Rattle.rob_reach.specs.Trees.{IsIn}
use Rattle.rob_reach.specs.WholeNumbers.{IsWhole}
use Rattle.rob_reach.specs.WholeStatus.{IsWholeOn, WholeBound}
use Rattle.rob_algebra.proofs.WholeNumbers.{of_int_le}

-- ---- the lesser and the greater of two bounds
lesser_ranked : (r : Ordering) (a b x : Fraction) → MatchOrdering r (a <ℚ b) (a ≡ b) (b <ℚ a) → x ≤ℚ lesser_by r a b →
    (x ≤ℚ a) × (x ≤ℚ b)
lesser_ranked Less a b x h k = (k, Q.le_trans_ℚ x a b k (Q.le_of_lt_ℚ a b h))
lesser_ranked Equal a b x h k = (k, subst (λ y. x ≤ℚ y) h k)
lesser_ranked Greater a b x h k = (Q.le_trans_ℚ x b a k (Q.le_of_lt_ℚ b a h), k)

at_most_lesser : (r : Ordering) (a b x : Fraction) → x ≤ℚ a → x ≤ℚ b → x ≤ℚ lesser_by r a b
at_most_lesser Less a b x h k = h
at_most_lesser Equal a b x h k = h
at_most_lesser Greater a b x h k = k

greater_ranked : (r : Ordering) (a b x : Fraction) → MatchOrdering r (b <ℚ a) (b ≡ a) (a <ℚ b) → lesser_by r a b ≤ℚ x →
    (a ≤ℚ x) × (b ≤ℚ x)
greater_ranked Less a b x h k = (k, Q.le_trans_ℚ b a x (Q.le_of_lt_ℚ b a h) k)
greater_ranked Equal a b x h k = (k, subst (λ y. y ≤ℚ x) (sym h) k)
greater_ranked Greater a b x h k = (Q.le_trans_ℚ a b x (Q.le_of_lt_ℚ a b h) k, k)

at_least_greater : (r : Ordering) (a b x : Fraction) → a ≤ℚ x → b ≤ℚ x → lesser_by r a b ≤ℚ x
at_least_greater Less a b x h k = h
at_least_greater Equal a b x h k = h
at_least_greater Greater a b x h k = k

pub upper_in : (o : Option Fraction) (k x : Fraction) → KeepsUpper o x → x ≤ℚ k → x ≤ℚ lesser o k
upper_in None k x h g = g
upper_in (Some a) k x h g = at_most_lesser (cmp_ℚ a k) a k x h g

pub upper_out : (o : Option Fraction) (k x : Fraction) → x ≤ℚ lesser o k → KeepsUpper o x × (x ≤ℚ k)
upper_out None k x h = (tt, h)
upper_out (Some a) k x h = lesser_ranked (cmp_ℚ a k) a k x (cmp_ℚ-ranks a k) h

pub lower_in : (o : Option Fraction) (k x : Fraction) → KeepsLower o x → k ≤ℚ x → greater o k ≤ℚ x
lower_in None k x h g = g
lower_in (Some a) k x h g = at_least_greater (cmp_ℚ k a) a k x h g

pub lower_out : (o : Option Fraction) (k x : Fraction) → greater o k ≤ℚ x → KeepsLower o x × (k ≤ℚ x)
lower_out None k x h = (tt, h)
lower_out (Some a) k x h = greater_ranked (cmp_ℚ k a) a k x (cmp_ℚ-ranks k a) h

-- ---- one variable's bounds
-- what a branch asks of its variable's number
abbrev pub IsOnSide : Bool → ℤ → Fraction → Type 0
IsOnSide true k x = x ≤ℚ of_int k
IsOnSide false k x = of_int k ≤ℚ x

pub tightened_in : (upper : Bool) (k : ℤ) (v : Variable) (x : Fraction)
    → KeepsBounds v.lower v.upper x → IsOnSide upper k x →
    KeepsBounds (tightened upper k v).lower (tightened upper k v).upper x
tightened_in true k v x h g = (h.0, upper_in v.upper (of_int k) x h.1 g)
tightened_in false k v x h g = (lower_in v.lower (of_int k) x h.0 g, h.1)

pub tightened_out : (upper : Bool) (k : ℤ) (v : Variable) (x : Fraction) →
    KeepsBounds (tightened upper k v).lower (tightened upper k v).upper x → KeepsBounds v.lower v.upper x
tightened_out true k v x h = (h.0, (upper_out v.upper (of_int k) x h.1).0)
tightened_out false k v x h = ((lower_out v.lower (of_int k) x h.0).0, h.1)

-- ---- the list of variables
pub length-change_at : (f : Variable → Variable) (j : ℕ) (xs : List Variable) → length (change_at f j xs) ≡ length xs
length-change_at f j [] = refl
length-change_at f zero (x ∷ xs) = refl
length-change_at f (suc j) (x ∷ xs) = ap suc (length-change_at f j xs)

module _ (f : Variable → Variable) (P : ℕ → Variable → Type 0) where
  change_in : (j first : ℕ) (xs : List Variable) → ((x : Variable) → P (first + j) x → P (first + j) (f x)) →
      EachFrom first P xs → EachFrom first P (change_at f j xs)
  change_in j first [] h g = tt
  change_in zero first (x ∷ xs) h g =
      (subst (λ n. P n (f x)) (omega arith) (h x (subst (λ n. P n x) (omega arith) g.0)), g.1)
  change_in (suc j) first (x ∷ xs) h g = (
    g.0,
    change_in j (suc first) xs
        (λ y p. subst (λ n. P n (f y)) (omega arith) (h y (subst (λ n. P n y) (omega arith) p))) g.1,
  )

  change_out : (j first : ℕ) (xs : List Variable) → ((x : Variable) → P (first + j) (f x) → P (first + j) x) →
      EachFrom first P (change_at f j xs) → EachFrom first P xs
  change_out j first [] h g = tt
  change_out zero first (x ∷ xs) h g =
      (subst (λ n. P n x) (omega arith) (h x (subst (λ n. P n (f x)) (omega arith) g.0)), g.1)
  change_out (suc j) first (x ∷ xs) h g = (
    g.0,
    change_out j (suc first) xs
        (λ y p. subst (λ n. P n y) (omega arith) (h y (subst (λ n. P n (f y)) (omega arith) p))) g.1,
  )

-- ---- boxes
module _ (m : RobustModel) (b : Branch) where
  variables : List Variable
  variables = change_at (tightened b.is_upper b.bound) b.variable m.variables

  fits : length variables ≡ length m.variables
  unfolding variables
  fits = length-change_at (tightened b.is_upper b.bound) b.variable m.variables

  pub model_behind : IsModel m → IsModel (behind m b)
  unfolding variables
  model_behind h = Same.model-other m m.set_lines variables fits h h.set_lines h.own_lines

  set_admits_in : (S : ℕ) (u : List Fraction) → AdmitsIn m S u → AdmitsIn (behind m b) S u
  unfolding variables
  set_admits_in S u h =
      record {
        numbers = h.numbers;
        bounds = h.bounds;
        lines = Same.set_lines_in m m.set_lines variables fits S u zero m.set_lines h.lines;
      }

  set_admits_out : (S : ℕ) (u : List Fraction) → AdmitsIn (behind m b) S u → AdmitsIn m S u
  unfolding variables
  set_admits_out S u h =
      record {
        numbers = h.numbers;
        bounds = h.bounds;
        lines = Same.set_lines_out m m.set_lines variables fits S u zero m.set_lines h.lines;
      }

  pub admits_in : (u : List Fraction) → Admits m u → Admits (behind m b) u
  admits_in u h = record { numbers = h.numbers; parts = λ S l. set_admits_in S (part_of m S u) (h.parts S l) }

  pub admits_out : (u : List Fraction) → Admits (behind m b) u → Admits m u
  admits_out u h = record { numbers = h.numbers; parts = λ S l. set_admits_out S (part_of m S u) (h.parts S l) }

  module _ (plan : List Fraction) (tau : Fraction) where
    -- a bound in the box is a bound in the model
    pub bound_out : HasBound (behind m b) plan tau → HasBound m plan tau
    unfolding variables
    bound_out h =
        record {
          columns = h.columns ∙ Same.column_count-other m m.set_lines variables fits;
          keeps = λ S some u admitted.
              Same.keeps_out m m.set_lines variables fits plan u tau S (h.keeps S some u (set_admits_in S u admitted));
          variables =
              change_out (tightened b.is_upper b.bound) (λ k x. KeepsBounds x.lower x.upper (at plan k))
              b.variable zero m.variables
              (λ x g. tightened_out b.is_upper b.bound x (at plan (zero + b.variable)) g) h.variables;
        }

    -- where the variable's number is on the box's side, a bound in the model is a bound in the box
    pub bound_in : IsOnSide b.is_upper b.bound (at plan b.variable) → HasBound m plan tau
        → HasBound (behind m b) plan tau
    unfolding variables
    bound_in side h =
        record {
          columns = h.columns ∙ sym (Same.column_count-other m m.set_lines variables fits);
          keeps = λ S some u admitted.
              Same.keeps_in m m.set_lines variables fits plan u tau S (h.keeps S some u (set_admits_out S u admitted));
          variables =
              change_in (tightened b.is_upper b.bound) (λ k x. KeepsBounds x.lower x.upper (at plan k))
              b.variable zero m.variables
              (λ x g. tightened_in b.is_upper b.bound x (at plan (zero + b.variable)) g
              (subst (λ n. IsOnSide b.is_upper b.bound (at plan n)) (omega arith) side)) h.variables;
        }

-- a whole number is at most k, or at least k + 1
on_one_side : (x : Fraction) (k : ℤ) → IsWhole x → (x ≤ℚ of_int k) ⊎ (of_int (k +ℤ pos 1) ≤ℚ x)
on_one_side x k h = by (Z.le_total x.num k)
  where
    next : (a b : ℤ) → a <ℤ b → (a +ℤ pos 1) ≤ℤ b
    next a b h = omega (arith, ints)

    by : (x.num ≤ℤ k) ⊎ (k <ℤ x.num) → (x ≤ℚ of_int k) ⊎ (of_int (k +ℤ pos 1) ≤ℚ x)
    by (inl g) = inl (subst (λ y. y ≤ℚ of_int k) (sym (whole_is x h)) (of_int_le x.num k g))
    by (inr g) =
        inr (subst (λ y. of_int (k +ℤ pos 1) ≤ℚ y) (sym (whole_is x h)) (of_int_le (k +ℤ pos 1) x.num (next k x.num g)))

-- a plan whose number of variable j is whole has its bound in one of the two boxes
pub split_covers : (m : RobustModel) (j : ℕ) (k : ℤ) (plan : List Fraction) (tau : Fraction) → IsWhole (at plan j) →
    HasBound m plan tau → HasBound (box_below m j k) plan tau ⊎ HasBound (box_above m j k) plan tau
split_covers m j k plan tau whole h = by (on_one_side (at plan j) k whole)
  where
    by : (at plan j ≤ℚ of_int k) ⊎ (of_int (k +ℤ pos 1) ≤ℚ at plan j) →
        HasBound (box_below m j k) plan tau ⊎ HasBound (box_above m j k) plan tau
    by (inl g) = inl (bound_in m (at_most_branch j k) plan tau g h)
    by (inr g) = inr (bound_in m (at_least_branch j k) plan tau g h)

-- ---- the same for plans with whole numbers
pub whole_at : (names : List ℕ) (plan : List Fraction) (j : ℕ) → IsIn j names
    → IsWholeOn names plan → IsWhole (at plan j)
whole_at [] plan j h k = absurd h
whole_at (i ∷ names) plan j (inl e) k = subst (λ n. IsWhole (at plan n)) (sym e) k.0
whole_at (i ∷ names) plan j (inr h) k = whole_at names plan j h k.1

pub whole_split : (m : RobustModel) (names : List ℕ) (j : ℕ) (k : ℤ) (plan : List Fraction) (tau : Fraction)
    → IsIn j names →
    WholeBound m names plan tau → WholeBound (box_below m j k) names plan tau
    ⊎ WholeBound (box_above m j k) names plan tau
whole_split m names j k plan tau on h = by (split_covers m j k plan tau (whole_at names plan j on h.whole) h.bound)
  where
    by : HasBound (box_below m j k) plan tau ⊎ HasBound (box_above m j k) plan tau →
        WholeBound (box_below m j k) names plan tau ⊎ WholeBound (box_above m j k) names plan tau
    by (inl g) = inl record { bound = g; whole = h.whole }
    by (inr g) = inr record { bound = g; whole = h.whole }

-- ---- behind a path
module _ (m : RobustModel) (path : List Branch) where
  pub path_model : IsModel m → IsModel (box m path)
  path_model h = by m path h
    where
      by : (m : RobustModel) (path : List Branch) → IsModel m → IsModel (box m path)
      by m [] h = h
      by m (b ∷ path) h = by (behind m b) path (model_behind m b h)

  pub path_admits : (u : List Fraction) → Admits (box m path) u ↔ Admits m u
  path_admits u = (out m path, back m path)
    where
      out : (m : RobustModel) (path : List Branch) → Admits (box m path) u → Admits m u
      out m [] h = h
      out m (b ∷ path) h = admits_out m b u (out (behind m b) path h)

      back : (m : RobustModel) (path : List Branch) → Admits m u → Admits (box m path) u
      back m [] h = h
      back m (b ∷ path) h = back (behind m b) path (admits_in m b u h)

  pub path_bound : (names : List ℕ) (plan : List Fraction) (tau : Fraction) → WholeBound (box m path) names plan tau →
      WholeBound m names plan tau
  path_bound names plan tau h = record { bound = by m path h.bound; whole = h.whole }
    where
      by : (m : RobustModel) (path : List Branch) → HasBound (box m path) plan tau → HasBound m plan tau
      by m [] h = h
      by m (b ∷ path) h = bound_out m b plan tau (by (behind m b) path h)
