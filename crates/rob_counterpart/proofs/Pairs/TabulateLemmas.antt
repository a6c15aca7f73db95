-- Lists by place: rows of whole numbers over the fractions, and the sums along them.
use Rattle.std.proofs.Common.{◌≡◌, ℕ, zero, suc, ◌+◌, List, [], ◌∷◌, ◌++◌, map, length, refl, sym, ap, ap₂, ◌∙◌, arith}
use Rattle.std.proofs.lemmas.List.{length-map}
use lib.IntN.{ℤ, pos, ◌*ℤ◌}
use Rattle.rob_algebra.specs.Fraction.{Fraction, of_int, ◌+ℚ◌, ◌*ℚ◌}
use Rattle.rob_algebra.specs.FractionLaws.{ℚ_ring}
use Rattle.rob_algebra.specs.Lists.{plus_all, Rows}
use Rattle.rob_linear.specs.Vectors.{sum_to, at}
use Rattle.rob_meaning.specs.Places.{0ℚ, tabulate}
use Rattle.rob_meaning.specs.Vectors.{dot, scale, zeros, mat_vec, vec_mat}
use Rattle.rob_meaning.specs.Clearing.{fractions}
use Rattle.rob_counterpart.specs.Counterpart.{cell}
use Rattle.rob_counterpart.proofs.Pairs.QuotientLemmas.{over}
use Rattle.rob_counterpart.proofs.Pairs.Blocks.{sum_first}
use Rattle.rob_counterpart.proofs.Pairs.QuotientLemmas.{over-add, over-mul, over-mul_right, over-zero}
pub use Rattle.rob_meaning.proofs.Lists.TabulateLemmas.{length-tabulate, tabulate-same, tabulate-append}

-- ---- lists by place
-- the first place, those between, and the last
pub tabulate-ends : {A : Type 0} (n : ℕ) (f : ℕ → A)
    → tabulate (suc (suc n)) f ≡ f zero ∷ (tabulate n (λ k. f (suc k)) ++ f (suc n) ∷ [])
tabulate-ends {A} n f =
    ap (λ (xs : List A). f zero ∷ xs)
    (ap (λ k. tabulate k (λ j. f (suc j))) (let e : suc n ≡ n + 1 = omega arith in e)
    ∙ tabulate-append n 1 (λ j. f (suc j))
    ∙ ap (λ k. tabulate n (λ j. f (suc j)) ++ f (suc k) ∷ []) (let e : n + zero ≡ n = omega arith in e))

pub zeros-tabulate : (n : ℕ) → zeros n ≡ tabulate n (λ k. 0ℚ)
zeros-tabulate zero = refl
zeros-tabulate (suc n) = ap (λ (xs : List Fraction). 0ℚ ∷ xs) (zeros-tabulate n)

pub scale-tabulate : (c : Fraction) (n : ℕ) (f : ℕ → Fraction) → scale c (tabulate n f) ≡ tabulate n (λ k. c *ℚ f k)
scale-tabulate c zero f = refl
scale-tabulate c (suc n) f = ap (λ (xs : List Fraction). (c *ℚ f zero) ∷ xs) (scale-tabulate c n (λ k. f (suc k)))

pub plus_all-tabulate : (n : ℕ) (f g : ℕ → Fraction)
    → plus_all ℚ_ring (tabulate n f) (tabulate n g) ≡ tabulate n (λ k. f k +ℚ g k)
plus_all-tabulate zero f g = refl
plus_all-tabulate (suc n) f g =
    ap (λ (xs : List Fraction). (f zero +ℚ g zero) ∷ xs) (plus_all-tabulate n (λ k. f (suc k)) (λ k. g (suc k)))

-- ---- sums over one scale
first_term : (n : ℕ) (f : ℕ → ℤ) (s : ℤ)
    → over (f 0) s +ℚ over (sum_to n (λ k. f (suc k))) s ≡ over (sum_to (suc n) f) s
first_term n f s = sym (over-add (f 0) (sum_to n (λ k. f (suc k))) s) ∙ ap (λ z. over z s) (sym (sum_first n f))

-- whole numbers times numbers over a scale
pub dot-over : (n : ℕ) (a z : ℕ → ℤ) (s : ℤ)
    → dot (tabulate n (λ k. of_int (a k))) (tabulate n (λ k. over (z k) s)) ≡ over (sum_to n (λ k. a k *ℤ z k)) s
dot-over zero a z s = sym (over-zero s)
dot-over (suc n) a z s =
    ap₂ ◌+ℚ◌ (sym (over-mul (a 0) (z 0) s)) (dot-over n (λ k. a (suc k)) (λ k. z (suc k)) s)
    ∙ first_term n (λ k. a k *ℤ z k) s

pub over-dot : (n : ℕ) (z a : ℕ → ℤ) (s : ℤ)
    → dot (tabulate n (λ k. over (z k) s)) (tabulate n (λ k. of_int (a k))) ≡ over (sum_to n (λ k. z k *ℤ a k)) s
over-dot zero z a s = sym (over-zero s)
over-dot (suc n) z a s =
    ap₂ ◌+ℚ◌ (sym (over-mul_right (z 0) (a 0) s)) (over-dot n (λ k. z (suc k)) (λ k. a (suc k)) s)
    ∙ first_term n (λ k. z k *ℤ a k) s

-- a whole matrix times a vector over a scale
pub mat_vec-over : (h n : ℕ) (a : ℕ → ℕ → ℤ) (z : ℕ → ℤ) (s : ℤ) →
    mat_vec (tabulate h (λ k. tabulate n (λ j. of_int (a k j)))) (tabulate n (λ j. over (z j) s))
    ≡ tabulate h (λ k. over (sum_to n (λ j. a k j *ℤ z j)) s)
mat_vec-over zero n a z s = refl
mat_vec-over (suc h) n a z s =
    ap₂ (λ (x : Fraction) (xs : List Fraction). x ∷ xs) (dot-over n (a 0) z s) (mat_vec-over h n (λ k. a (suc k)) z s)

-- the rows of a whole matrix, each times a number over a scale
pub vec_mat-over : (h n : ℕ) (w : ℕ → ℤ) (a : ℕ → ℕ → ℤ) (s : ℤ) →
    vec_mat n (tabulate h (λ k. over (w k) s)) (tabulate h (λ k. tabulate n (λ j. of_int (a k j))))
    ≡ tabulate n (λ j. over (sum_to h (λ k. w k *ℤ a k j)) s)
vec_mat-over zero n w a s =
    zeros-tabulate n ∙ tabulate-same n (λ k. 0ℚ) (λ j. over (pos 0) s) (λ k l. sym (over-zero s))
vec_mat-over (suc h) n w a s =
    ap₂ (λ (xs ys : List Fraction). plus_all ℚ_ring xs ys) (scale-tabulate (over (w 0) s) n (λ j. of_int (a 0 j)))
    (vec_mat-over h n (λ k. w (suc k)) (λ k. a (suc k)) s)
    ∙ plus_all-tabulate n (λ j. over (w 0) s *ℚ of_int (a 0 j)) (λ j. over (sum_to h (λ k. w (suc k) *ℤ a (suc k) j)) s)
    ∙ tabulate-same n (λ j. over (w 0) s *ℚ of_int (a 0 j) +ℚ over (sum_to h (λ k. w (suc k) *ℤ a (suc k) j)) s)
    (λ j. over (sum_to (suc h) (λ k. w k *ℤ a k j)) s) (λ j l.
    ap (λ x. x +ℚ over (sum_to h (λ k. w (suc k) *ℤ a (suc k) j)) s) (sym (over-mul_right (w 0) (a 0 j) s))
    ∙ first_term h (λ k. w k *ℤ a k j) s)

-- ---- whole rows and matrices by place
pub row-tabulate : (row : List ℤ) (n : ℕ) → length row ≡ n → map of_int row ≡ tabulate n (λ j. of_int (at row j))
row-tabulate [] zero e = refl
row-tabulate [] (suc n) e = cc
row-tabulate (x ∷ row) zero e = cc
row-tabulate (x ∷ row) (suc n) e =
    ap (λ (xs : List Fraction). of_int x ∷ xs) (row-tabulate row n (let d : length row ≡ n = cc in d))

pub matrix-tabulate : (rows : List (List ℤ)) (h n : ℕ) → length rows ≡ h → Rows ℚ_ring n (fractions rows)
    → fractions rows ≡ tabulate h (λ k. tabulate n (λ j. of_int (cell rows k j)))
matrix-tabulate [] zero n e w = refl
matrix-tabulate [] (suc h) n e w = cc
matrix-tabulate (row ∷ rows) zero n e w = cc
matrix-tabulate (row ∷ rows) (suc h) n e w =
    ap₂ (λ (x : List Fraction) (xs : List (List Fraction)). x ∷ xs)
    (row-tabulate row n (sym (length-map row of_int) ∙ w.0))
    (matrix-tabulate rows h n (let d : length rows ≡ h = cc in d) w.1)
