-- The content of a row: one entry more, multiples, and what it divides.
use Rattle.std.proofs.Common.{◌≡◌, ℕ, zero, suc, ◌+◌, ◌*◌, ◌<◌, refl, ap, ◌∙◌, subst, arith, List, [], ◌∷◌, map, length, get_or, take}
use Rattle.std.proofs.Math.Nat.{mul_comm, eq-zero_of_zero-dvd}
use Rattle.std.proofs.lemmas.Int.{ints, unsigned_abs-mul}
use Rattle.std.proofs.lemmas.Nat.Gcd.{dvd_refl, dvd_trans}
use Rattle.std.proofs.lemmas.List.Sums.{fold_more}
use Rattle.std.proofs.lemmas.List.Folds.{fold_stuck}
use Rattle.std.specs.Int.{◌∣◌}
use lib.IntN.{ℤ, pos, ◌*ℤ◌, nat_abs}
use Rattle.rob_algebra.specs.Gcd.{gcd, gcd-mul, IsGcd-gcd}
use Rattle.rob_rows.specs.PrimitiveParts.{content}
pub use Rattle.rob_rows.specs.PrimitiveParts.{content_with}
use Rattle.rob_rows.proofs.Divisors.{gcd-one}

-- one entry more
pub content-take : (row : List ℤ) (i : ℕ) → i < length row
    → content (take (i + 1) row) ≡ gcd (content (take i row)) (nat_abs (get_or row i (pos 0)))
content-take row i l = fold_more (λ common entry. gcd common (nat_abs entry)) 0 row i (pos 0) l

-- once it is 1 it stays
pub content_stays_one : (row : List ℤ) (i : ℕ) → i < length row
    → gcd (content (take i row)) (nat_abs (get_or row i (pos 0))) ≡ 1 → 1 ≡ content row
content_stays_one row i l e =
    fold_stuck (λ common entry. gcd common (nat_abs entry)) 1 (λ entry. gcd-one (nat_abs entry)) 0 row i (pos 0) l e

content_with-scale : (d a : ℕ) (row : List ℤ) → 0 < d
    → content_with (a * d) (map (λ entry. pos d *ℤ entry) row) ≡ content_with a row * d
content_with-scale d a [] h = refl
content_with-scale d a (x ∷ row) h =
    let size : nat_abs (pos d *ℤ x) ≡ nat_abs x * d = unsigned_abs-mul (pos d) x ∙ mul_comm d (nat_abs x) in
    ap (λ t. content_with (gcd (a * d) t) (map (λ entry. pos d *ℤ entry) row)) size
    ∙ ap (λ t. content_with t (map (λ entry. pos d *ℤ entry) row)) (gcd-mul a (nat_abs x) d h)
    ∙ content_with-scale d (gcd a (nat_abs x)) row h

-- the content of a multiple
pub content-scale : (d : ℕ) (row : List ℤ) → 0 < d → content (map (λ entry. pos d *ℤ entry) row) ≡ content row * d
content-scale d row h =
    ap (λ t. content_with t (map (λ entry. pos d *ℤ entry) row)) (zero_times d) ∙ content_with-scale d 0 row h
  where
    zero_times : (d : ℕ) → 0 ≡ 0 * d
    zero_times d = omega arith

pub content_with-divides_first : (a : ℕ) (row : List ℤ) → content_with a row ∣ a
content_with-divides_first a [] = dvd_refl a
content_with-divides_first a (x ∷ row) =
    dvd_trans (content_with (gcd a (nat_abs x)) row) (content_with-divides_first (gcd a (nat_abs x)) row)
    (IsGcd-gcd a (nat_abs x)).0

content_with-divides : (a : ℕ) (row : List ℤ) (k : ℕ) (d : ℤ) → k < length row
    → content_with a row ∣ nat_abs (get_or row k d)
content_with-divides a [] k d l = absurd (omega arith)
content_with-divides a (x ∷ row) zero d l =
    dvd_trans (content_with (gcd a (nat_abs x)) row) (content_with-divides_first (gcd a (nat_abs x)) row)
    (IsGcd-gcd a (nat_abs x)).1
content_with-divides a (x ∷ row) (suc k) d l = content_with-divides (gcd a (nat_abs x)) row k d (omega arith)

-- it divides each entry
pub content-divides : (row : List ℤ) (k : ℕ) → k < length row → content row ∣ nat_abs (get_or row k (pos 0))
content-divides row k l = content_with-divides 0 row k (pos 0) l

-- where it is 0, so is each entry
pub content_zero : (row : List ℤ) (k : ℕ) → content row ≡ 0 → k < length row → get_or row k (pos 0) ≡ pos 0
content_zero row k e l =
    let d : 0 ∣ nat_abs (get_or row k (pos 0)) =
    subst (λ t. t ∣ nat_abs (get_or row k (pos 0))) e (content-divides row k l) in
    let z : nat_abs (get_or row k (pos 0)) ≡ 0 = eq-zero_of_zero-dvd d in
    omega (arith, ints)
