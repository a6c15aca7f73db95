-- Least common denominators and whole numbers, one fraction after another.
use Rattle.std.specs.Prelude.{◌≡◌, ℕ, zero, suc, ◌+◌, ◌^◌, ◌<◌, ◌≤◌, ℤ, pos, nat_abs, List, [], ◌∷◌, ◌++◌, map, length, take, drop, Option, Some, None, MatchOption, Result, Ok, Err, IfOk, OnOk, refl}
use Rattle.std.proofs.Common.{sym, ◌∙◌, ap, arith, subst, get_or, inl, inr, to_z, of_z, w64, append_assoc, take_all, append-nil}
use Rattle.rob_number.proofs.CastLemmas.{seen}
use Rattle.rob_algebra.specs.Fraction.{Fraction}
use Rattle.rob_algebra.specs.Width.{IsWideWhole}
use Rattle.rob_meaning.specs.Clearing.{MakesWhole, denominator, lcm, whole_at}
use Rattle.rob_meaning.specs.Places.{Each}
use Rattle.rob_meaning.proofs.Lists.LeastLemmas.{denominator_least, whole_by_denominator}
use Rattle.rob_sets.specs.FirstWide.{IsWideCleared, Some_of}
use Rattle.rob_sets.specs.declared.error.Stop.{Stop}
use Rattle.rob_sets.proofs.Cells.ListLemmas.{take_one_more}
use Rattle.std.proofs.lemmas.List.{map-append}
use Rattle.rob_meaning.proofs.Lists.EachLemmas.{each_append, each_left, each_right}

-- ---- the least common denominator
-- one fraction more, behind the others or before them
pub denominator-more : (qs : List Fraction) (q : Fraction) → denominator (qs ++ q ∷ []) ≡ lcm q.den (denominator qs)
denominator-more qs q =
    let behind = whole_by_denominator (qs ++ q ∷ []) in
    let before = whole_by_denominator (q ∷ qs) in
    let below : denominator (q ∷ qs) ≤ denominator (qs ++ q ∷ []) =
    denominator_least (q ∷ qs) (denominator (qs ++ q ∷ [])) behind.0 (
      (each_right (MakesWhole (denominator (qs ++ q ∷ []))) qs (q ∷ []) behind.1).0,
      each_left (MakesWhole (denominator (qs ++ q ∷ []))) qs (q ∷ []) behind.1,
    ) in
    let above : denominator (qs ++ q ∷ []) ≤ denominator (q ∷ qs) =
    denominator_least (qs ++ q ∷ []) (denominator (q ∷ qs)) before.0
    (each_append (MakesWhole (denominator (q ∷ qs))) qs (q ∷ []) before.1.1 (before.1.0, tt)) in
    omega arith

-- that of no further ones
pub common_first : (qs : List Fraction) → denominator qs ≡ denominator (qs ++ [])
common_first qs = ap denominator (sym (append-nil qs))

-- that of the first few is at most that of all
pub denominator-first : (xs ys : List Fraction) → denominator xs ≤ denominator (xs ++ ys)
denominator-first xs ys =
    let all = whole_by_denominator (xs ++ ys) in
    denominator_least xs (denominator (xs ++ ys)) all.0 (each_left (MakesWhole (denominator (xs ++ ys))) xs ys all.1)

pub parted : {A : Type 0} (xs : List A) (i : ℕ) → xs ≡ take i xs ++ drop i xs
parted [] zero = refl
parted [] (suc i) = refl
parted (x ∷ xs) zero = refl
parted (x ∷ xs) (suc i) = ap (λ ys. x ∷ ys) (parted xs i)

module _ {N : Type 0} (value : N → Fraction) where
  -- the numbers up to a place, and the one there
  pub first_more : (xs : List N) (i : ℕ) (q : N) → i < length xs → q ≡ get_or xs i q
      → map value (take (i + 1) xs) ≡ map value (take i xs) ++ value q ∷ []
  first_more xs i q h e = ap (map value) (take_one_more xs i q h e) ∙ map-append value (take i xs) (q ∷ [])

  -- behind other fractions
  behind_more : (before : List Fraction) (xs : List N) (i : ℕ) (q : N) → i < length xs → q ≡ get_or xs i q
      → before ++ map value (take (i + 1) xs) ≡ (before ++ map value (take i xs)) ++ value q ∷ []
  behind_more before xs i q h e =
      ap (λ (ys : List Fraction). before ++ ys) (first_more xs i q h e)
      ∙ sym (append_assoc before (map value (take i xs)) (value q ∷ []))

  pub common_more : (before : List Fraction) (xs : List N) (i : ℕ) (q : N) (common multiple : ℕ)
      → i < length xs → q ≡ get_or xs i q
      → common ≡ denominator (before ++ map value (take i xs)) → multiple ≡ lcm (value q).den common
      → multiple ≡ denominator (before ++ map value (take (i + 1) xs))
  common_more before xs i q common multiple h e so_far is =
      is ∙ ap (lcm (value q).den) so_far ∙ sym (denominator-more (before ++ map value (take i xs)) (value q))
      ∙ ap denominator (sym (behind_more before xs i q h e))

  pub common_wide : (before : List Fraction) (xs : List N) (i : ℕ) (q : N) (common limit : ℕ)
      → i < length xs → q ≡ get_or xs i q
      → common ≡ denominator (before ++ map value (take i xs)) → limit < lcm (value q).den common
      → limit < denominator (before ++ map value xs)
  common_wide before xs i q common limit h e so_far wide =
      let here : lcm (value q).den common ≡ denominator (before ++ map value (take (i + 1) xs)) =
      common_more before xs i q common (lcm (value q).den common) h e so_far refl in
      let all : before ++ map value xs ≡ (before ++ map value (take (i + 1) xs)) ++ map value (drop (i + 1) xs) =
      ap (λ (ys : List Fraction). before ++ ys)
      (ap (map value) (parted xs (i + 1)) ∙ map-append value (take (i + 1) xs) (drop (i + 1) xs))
      ∙ sym (append_assoc before (map value (take (i + 1) xs)) (map value (drop (i + 1) xs))) in
      let most : denominator (before ++ map value xs)
      ≡ denominator ((before ++ map value (take (i + 1) xs)) ++ map value (drop (i + 1) xs)) = ap denominator all in
      let below : denominator (before ++ map value (take (i + 1) xs))
      ≤ denominator ((before ++ map value (take (i + 1) xs)) ++ map value (drop (i + 1) xs)) =
      denominator-first (before ++ map value (take (i + 1) xs)) (map value (drop (i + 1) xs)) in
      omega arith

  pub common_all : (before : List Fraction) (xs : List N) (i : ℕ) (common : ℕ) → length xs ≤ i
      → common ≡ denominator (before ++ map value (take i xs))
      → common ≡ denominator (before ++ map value xs)
  common_all before xs i common h so_far =
      so_far ∙ ap (λ (ys : List N). denominator (before ++ map value ys)) (take_all i xs h)

  -- ---- whole numbers
  pub whole_wide : (xs : List N) (i : ℕ) (q : N) (limit common : ℕ) → i < length xs → q ≡ get_or xs i q
      → IsWideWhole limit (whole_at common (value q))
      → Some_of (λ q. IsWideWhole limit (whole_at common q)) (map value xs)
  whole_wide [] i q limit common h e w = absurd (omega arith)
  whole_wide (x ∷ xs) zero q limit common h e w =
      inl (subst (λ (y : N). IsWideWhole limit (whole_at common (value y))) e w)
  whole_wide (x ∷ xs) (suc i) q limit common h e w = inr (whole_wide xs i q limit common (omega arith) e w)

-- ---- machine numbers
-- a number above 0 that was cast
pub cast_back : (z : ℤ) (n : ℕ) → z ≡ pos n → n < 2 ^ 62 → nat_abs (to_z w64 (of_z w64 z)) ≡ n
cast_back z n e h = ap (λ x. nat_abs (to_z w64 (of_z w64 x))) e ∙ ap nat_abs (seen (pos n) h)

-- a least common multiple within a limit, of numbers that were cast
pub multiple_as : (a b c limit most : ℕ) (r : Option ℕ) → a ≡ c → limit ≡ most
    → MatchOption r (limit < lcm a b) (λ n. (n ≡ lcm a b) × (n ≤ limit))
    → MatchOption r (most < lcm c b) (λ n. (n ≡ lcm c b) × (n ≤ most))
multiple_as a b c limit most None e f h = omega (arith, f, ap (λ n. lcm n b) e, h)
multiple_as a b c limit most (Some n) e f h = (h.0 ∙ ap (λ i. lcm i b) e, omega (arith, f, h.1))

-- ---- what is cleared
-- numbers that fit are not wide
pub whole_none : (limit d : ℕ) (xs : List Fraction) → Each (λ a. nat_abs a ≤ limit) (map (whole_at d) xs)
    → Some_of (λ q. IsWideWhole limit (whole_at d q)) xs → ⊥
whole_none limit d [] f w = w
whole_none limit d (x ∷ xs) f (inl w) = let le : nat_abs (whole_at d x) ≤ limit = f.0 in omega arith
whole_none limit d (x ∷ xs) f (inr w) = whole_none limit d xs f.1 w

pub clear_fits : (limit : ℕ) (qs : List Fraction) (common : ℕ) (r : Result (List ℤ) Stop)
    → common ≡ denominator qs → common ≤ limit
    → IfOk r (λ list. list ≡ map (whole_at common) qs) → IfOk r (λ list. Each (λ a. nat_abs a ≤ limit) list)
    → OnOk r (IsWideCleared limit qs → ⊥)
clear_fits limit qs common (Err e) is within h k = tt
clear_fits limit qs common (Ok list) is within h k = by
  where
    by : IsWideCleared limit qs → ⊥
    by (inl w) = omega arith
    by (inr w) =
        whole_none limit (denominator qs) qs
        (subst (λ d. Each (λ a. nat_abs a ≤ limit) (map (whole_at d) qs)) is
        (subst (λ (xs : List ℤ). Each (λ a. nat_abs a ≤ limit) xs) h k)) w

pub clear_wide : (limit : ℕ) (qs : List Fraction) (common : ℕ) → common ≡ denominator qs
    → Some_of (λ q. IsWideWhole limit (whole_at common q)) qs → IsWideCleared limit qs
clear_wide limit qs common is w = inr (subst (λ d. Some_of (λ q. IsWideWhole limit (whole_at d q)) qs) is w)
