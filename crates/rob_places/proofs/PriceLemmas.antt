-- A price that can't be paid is like any other.
use Rattle.std.proofs.Common.{◌≡◌, ◌<◌, ◌≤◌, ◌^◌, ◌-◌, ◌*◌, ℕ, zero, suc, Bool, List, [], ◌∷◌, Option, Some, None, min, inl, inr, refl, sym, ap, ◌∙◌, arith}
use Rattle.std.specs.Prelude.{ℤ, if◌then◌else◌}
use Rattle.std.proofs.Math.Nat.{suc-mul, mul-le-mul_left}
use Rattle.std.proofs.lemmas.Bool.{lt-ltb, cases_lt}
use Rattle.rob_index.specs.Forms.{Form, Ends, from_ends, fixed, onto, values_of}
use Rattle.rob_index.specs.Search.{Searched, missed, search_on, search_each, search}

module _ (p q left : ℕ) (poor : left < p) (poor' : left < q) where
  each_poor : (try try' : ℤ → ℕ → Searched) (vs : List ℤ) → search_each try p vs left ≡ search_each try' q vs left
  each_poor try try' [] = refl
  each_poor try try' (v ∷ vs) =
      ap (λ (t : Bool). if t then missed 0 else search_on (try v (left - p)) (search_each try p vs))
      (lt-ltb left p poor)
      ∙ sym (ap (λ (t : Bool). if t then missed 0 else search_on (try' v (left - q)) (search_each try' q vs))
      (lt-ltb left q poor'))

  -- what is left pays neither price
  search_poor : (rs : List Ends) (vs : List ℤ) (f : Form) (bound : ℤ)
      → search p rs vs f bound left ≡ search q rs vs f bound left
  search_poor [] vs f bound = refl
  search_poor (r ∷ rs) vs f bound = go (from_ends (onto (r ∷ rs) (fixed vs)) f bound)
    where
      by_ends : ℕ → (ℤ → ℕ → Searched) → Option Bool → Searched
      by_ends price try o = elim o as (λ _. Searched) [
        | None ↦ search_each try price (values_of r vs) left
        | Some b ↦ record { found = b; left = left }
      ]

      go : (o : Option Bool)
          → by_ends p (λ v left. search p rs (v ∷ vs) f bound left) o
          ≡ by_ends q (λ v left. search q rs (v ∷ vs) f bound left) o
      go None =
          each_poor (λ v left. search p rs (v ∷ vs) f bound left) (λ v left. search q rs (v ∷ vs) f bound left)
          (values_of r vs)
      go (Some b) = refl

-- prices that are the same as far as what is left may go
pub same_search : (p q left : ℕ) (rs : List Ends) (vs : List ℤ) (f : Form) (bound : ℤ) → left < 2 ^ 32
    → min p (2 ^ 32) ≡ min q (2 ^ 32) → search p rs vs f bound left ≡ search q rs vs f bound left
same_search p q left rs vs f bound few e =
    elim (cases_lt p (2 ^ 32)) as (λ _. search p rs vs f bound left ≡ search q rs vs f bound left) [
      | inl l ↦
          let same : p ≡ q = omega (arith, e, l) in
          ap (λ (price : ℕ). search price rs vs f bound left) same
      | inr l ↦ search_poor p q left (omega (arith, few, l)) (omega (arith, few, l, e)) rs vs f bound
    ]

self_le : (n x : ℕ) → x ≤ suc n * x
self_le n x = omega (arith, suc-mul n x)

-- the cube of a number that is great, where each product is cut off at a limit
great : (n most few : ℕ) → few ≤ most → most ≤ n * n → min (min (n * most) most) few ≡ min (n * (n * n)) few
great zero most few h l = omega (arith, h, l)
great (suc n) most few h l =
    omega (arith, h, l, self_le n most, mul-le-mul_left {m = suc n} {n = suc n * suc n} (suc n) (self_le n (suc n)))

-- of any
pub cube_cut : (n most few : ℕ) → few ≤ most
    → min (min (n * min (n * n) most) most) few ≡ min (n * (n * n)) few
cube_cut n most few h =
    elim (cases_lt (n * n) most) as (λ _. min (min (n * min (n * n) most) most) few ≡ min (n * (n * n)) few) [
      | inl l ↦
          let inner : min (n * n) most ≡ n * n = omega (arith, l) in
          ap (λ (q : ℕ). min (min (n * q) most) few) inner ∙ omega (arith, h)
      | inr l ↦
          let inner : min (n * n) most ≡ most = omega (arith, l) in
          ap (λ (q : ℕ). min (min (n * q) most) few) inner ∙ great n most few h l
    ]
