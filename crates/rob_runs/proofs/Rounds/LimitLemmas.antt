-- Cuts whose numbers are within a limit have numbers of their own below a bound, so pairwise different ones are few.
use Rattle.std.proofs.Common.{◌≡◌, ◌≢◌, ℕ, zero, suc, ◌+◌, ◌<◌, ◌≤◌, List, [], ◌∷◌, length, refl, ap, ap₂, ◌∙◌, arith}
use Rattle.std.proofs.lemmas.Int.{ints}
use Rattle.std.specs.Int.RustNames.{unsigned_abs}
use lib.IntN.{ℤ, pos, ◌+ℤ◌}
use lib.Signed.{◌≤ℤ◌}
use Rattle.rob_linear.specs.Vectors.{at}
use Rattle.rob_meaning.specs.Places.{Each}
use Rattle.rob_meaning.specs.Named.{AreDistinct}
use Rattle.rob_linear.proofs.BasisPaths.Paths.{code, code_below, code_apart, IsNew, AreDifferent, AreBelow, different_few}
use Rattle.rob_runs.specs.Cuts.{Cut, IsWithin, cut_limit}

-- ---- numbers that tell items apart
module _ {A : Type 0} (P : A → Type 0) (number : (x : A) → P x → ℕ) (bound : ℕ)
    (below : (x : A) (p : P x) → number x p < bound)
    (apart : (x y : A) (p : P x) (q : P y) → number x p ≡ number y q → x ≡ y) where
  numbers : (xs : List A) → Each P xs → List ℕ
  numbers [] h = []
  numbers (x ∷ xs) h = number x h.0 ∷ numbers xs h.1

  new_number : (x : A) (xs : List A) (p : P x) (h : Each P xs) → Each (λ y. x ≢ y) xs
      → IsNew (number x p) (numbers xs h)
  unfolding numbers
  new_number x [] p h n = tt
  new_number x (y ∷ ys) p h n = ((λ e. n.0 (apart x y p h.0 e)), new_number x ys p h.1 n.1)

  different_numbers : (xs : List A) (h : Each P xs) → AreDistinct xs → AreDifferent (numbers xs h)
  unfolding numbers
  different_numbers [] h d = tt
  different_numbers (x ∷ xs) h d = (new_number x xs h.0 h.1 d.0, different_numbers xs h.1 d.1)

  numbers_below : (xs : List A) (h : Each P xs) → AreBelow bound (numbers xs h)
  unfolding numbers
  numbers_below [] h = tt
  numbers_below (x ∷ xs) h = (below x h.0, numbers_below xs h.1)

  numbers_count : (xs : List A) (h : Each P xs) → length (numbers xs h) ≡ length xs
  unfolding numbers
  numbers_count [] h = refl
  numbers_count (x ∷ xs) h = ap suc (numbers_count xs h.1)

  -- so pairwise different items are at most so many
  pub few_numbered : (xs : List A) → Each P xs → AreDistinct xs → length xs ≤ bound
  few_numbered xs h d =
      let e : length (numbers xs h) ≡ length xs = numbers_count xs h in
      let l : length (numbers xs h) ≤ bound =
      different_few bound (numbers xs h) (numbers_below xs h) (different_numbers xs h d) in
      omega arith

-- ---- digits of a cut

-- a number that is at least minus the limit, shifted
shift : ℕ → ℤ → ℕ
shift limit z = unsigned_abs (z +ℤ pos limit)

shift_below : (limit : ℕ) (z : ℤ) → unsigned_abs z < suc limit → shift limit z < suc (limit + limit)
unfolding shift
shift_below limit z l = omega (arith, ints)

shift_apart : (limit : ℕ) (z w : ℤ) → unsigned_abs z < suc limit → unsigned_abs w < suc limit
    → shift limit z ≡ shift limit w → z ≡ w
unfolding shift
shift_apart limit z w l k e = omega (arith, ints)

-- the form, the base, and the shifted numbers of the vector
digit : ℕ → Cut → ℕ → ℕ
digit limit c zero = c.form
digit limit c (suc zero) = unsigned_abs c.base
digit limit c (suc (suc k)) = shift limit (at c.vector k)

cut_number : ℕ → ℕ → ℕ → Cut → ℕ
cut_number forms n limit c = code (suc (suc n)) (forms + suc (limit + limit)) (digit limit c)

module _ (forms n limit : ℕ) where
  digit_below : (c : Cut) → IsWithin forms n limit c → (i : ℕ) → i < suc (suc n)
      → digit limit c i < forms + suc (limit + limit)
  unfolding digit
  digit_below c h zero l = let f : c.form < forms = h.form_in in omega arith
  digit_below c h (suc zero) l = let f : unsigned_abs c.base < suc limit = h.base_in in omega arith
  digit_below c h (suc (suc k)) l =
      let f : shift limit (at c.vector k) < suc (limit + limit) =
      shift_below limit (at c.vector k) (h.numbers k (omega arith)) in
      omega arith

  number_below : (c : Cut) → IsWithin forms n limit c → cut_number forms n limit c < cut_limit forms n limit
  unfolding cut_number
  number_below c h = code_below (suc (suc n)) (forms + suc (limit + limit)) (digit limit c) (digit_below c h)

  same_vector : (xs ys : List ℤ) (k : ℕ) → length xs ≡ k → length ys ≡ k
      → ((i : ℕ) → i < k → at xs i ≡ at ys i) → xs ≡ ys
  same_vector [] [] k e f h = refl
  same_vector [] (y ∷ ys) k e f h = absurd (omega arith)
  same_vector (x ∷ xs) [] k e f h = absurd (omega arith)
  same_vector (x ∷ xs) (y ∷ ys) zero e f h = absurd (omega arith)
  same_vector (x ∷ xs) (y ∷ ys) (suc k) e f h =
      ap₂ (λ z (zs : List ℤ). z ∷ zs) (h zero (omega arith))
      (same_vector xs ys k (omega arith) (omega arith) (λ i l. h (suc i) (omega arith)))

  same_cut : (c d : Cut) → c.form ≡ d.form → c.base ≡ d.base → c.vector ≡ d.vector → c ≡ d
  same_cut c d e f g =
      ap (λ v. record { form = v; base = c.base; vector = c.vector }) e
      ∙ ap (λ v. record { form = d.form; base = v; vector = c.vector }) f
      ∙ ap (λ (v : List ℤ). record { form = d.form; base = d.base; vector = v }) g

  number_apart : (c d : Cut) → IsWithin forms n limit c → IsWithin forms n limit d
      → cut_number forms n limit c ≡ cut_number forms n limit d → c ≡ d
  unfolding cut_number digit
  number_apart c d h k e =
      let same : (i : ℕ) → i < suc (suc n) → digit limit c i ≡ digit limit d i =
      code_apart (suc (suc n)) (forms + suc (limit + limit)) (digit limit c) (digit limit d)
      (digit_below c h) (digit_below d k) e in
      let b : unsigned_abs c.base ≡ unsigned_abs d.base = same 1 (omega arith) in
      let bc : pos 0 ≤ℤ c.base = h.nonnegative in
      let bd : pos 0 ≤ℤ d.base = k.nonnegative in
      same_cut c d (same 0 (omega arith)) (omega (arith, ints))
      (same_vector c.vector d.vector n h.count k.count (λ i l.
      shift_apart limit (at c.vector i) (at d.vector i) (h.numbers i l) (k.numbers i l)
      (same (suc (suc i)) (omega arith))))

  -- pairwise different cuts within a limit are few
  pub few_cuts : (cuts : List Cut) → Each (IsWithin forms n limit) cuts → AreDistinct cuts
      → length cuts ≤ cut_limit forms n limit
  few_cuts = few_numbered (IsWithin forms n limit) (λ c h. cut_number forms n limit c) (cut_limit forms n limit)
      number_below number_apart
