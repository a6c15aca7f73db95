-- Lists that a loop divides entry by entry, and what stands in machine numbers on the way.
use Rattle.std.proofs.Common.{◌≡◌, ◌≢◌, ℕ, ◌+◌, ◌*◌, ◌^◌, ◌<◌, ◌≤◌, sym, ap, ◌∙◌, subst, arith, inl, inr, List, length, get_or, set, Result, Ok, Err, OnErr, to_z, of_z, w64}
use Rattle.std.proofs.lemmas.Bool.{cases_eq}
use Rattle.std.proofs.Math.Nat.{mul-le-mul_right}
use Rattle.std.proofs.lemmas.Int.{ints, unsigned_abs-mul}
use Rattle.std.proofs.lemmas.List.{get_or-map, length-map, get_or_default, get_or-set_same, get_or-set_other}
use mir.Val.{SFits}
use lib.IntN.{ℤ, pos, ◌*ℤ◌, nat_abs}
use Rattle.rob_rows.specs.PrimitiveParts.{IsPrimitivePart, IsWithin, HasWideEntry, HasWidePart}

-- ---- numbers that went to bits and are read again
pub seen : (z : ℤ) → SFits w64 z → to_z w64 (of_z w64 z) ≡ z
seen z h = omega (arith, ints)

pub fits_from_size : (z : ℤ) (limit : ℕ) → nat_abs z ≤ limit → limit < 2 ^ 62 → SFits w64 z
fits_from_size z limit h l = omega (arith, ints)

-- ---- answers
pub on_err : {T E P : Type 0} (r : Result T E) → P → OnErr r P
on_err (Ok x) p = tt
on_err (Err e) p = p

-- ---- one entry written
pub divided_more : (g : ℕ) (row old : List ℤ) (i : ℕ) (w : ℤ) → i < length row
    → ((k : ℕ) → k < i → pos g *ℤ get_or row k (pos 0) ≡ get_or old k (pos 0)) → pos g *ℤ w ≡ get_or old i (pos 0)
    → (k : ℕ) → k < i + 1 → pos g *ℤ get_or (set row i w) k (pos 0) ≡ get_or old k (pos 0)
divided_more g row old i w il h e k l =
    elim (cases_eq k i) [
      | inl s ↦
          ap (λ t. pos g *ℤ get_or (set row i w) t (pos 0)) s
          ∙ ap (λ t. pos g *ℤ t) (get_or-set_same row i w (pos 0) il) ∙ e
          ∙ ap (λ t. get_or old t (pos 0)) (sym s)
      | inr d ↦ ap (λ t. pos g *ℤ t) (get_or-set_other row i k w (pos 0) d) ∙ h k (omega arith)
    ]

pub within_more : (limit : ℕ) (row : List ℤ) (i : ℕ) (w : ℤ) → i < length row
    → ((k : ℕ) → k < i → nat_abs (get_or row k (pos 0)) ≤ limit) → nat_abs w ≤ limit → (k : ℕ) → k < i + 1
    → nat_abs (get_or (set row i w) k (pos 0)) ≤ limit
within_more limit row i w il h e k l =
    elim (cases_eq k i) [
      | inl s ↦
          let a : get_or (set row i w) k (pos 0) ≡ w =
          ap (λ t. get_or (set row i w) t (pos 0)) s ∙ get_or-set_same row i w (pos 0) il in
          subst (λ t. nat_abs t ≤ limit) (sym a) e
      | inr d ↦ subst (λ t. nat_abs t ≤ limit) (sym (get_or-set_other row i k w (pos 0) d)) (h k (omega arith))
    ]

pub kept_more : (row old : List ℤ) (i : ℕ) (w : ℤ) → ((k : ℕ) → i ≤ k → get_or row k (pos 0) ≡ get_or old k (pos 0))
    → (k : ℕ) → i + 1 ≤ k → get_or (set row i w) k (pos 0) ≡ get_or old k (pos 0)
kept_more row old i w h k l = let d : k ≢ i = omega arith in get_or-set_other row i k w (pos 0) d ∙ h k (omega arith)

pub within_all : (limit : ℕ) (row : List ℤ) (n : ℕ) → length row ≤ n
    → ((k : ℕ) → k < n → nat_abs (get_or row k (pos 0)) ≤ limit) → IsWithin limit row
within_all limit row n l h k d kl =
    subst (λ t. nat_abs t ≤ limit) (sym (get_or_default row k d (pos 0) kl)) (h k (omega arith))

-- ---- a row within a limit has its primitive part within it
pub no_wide_part : (limit : ℕ) (whole : List ℤ) → IsWithin limit whole → HasWidePart limit whole → ⊥
no_wide_part limit whole h w =
    let part : IsPrimitivePart w.0 whole = w.1 in
    let x : HasWideEntry limit w.0 = w.2 in
    let kl : x.0 < length w.0 = x.2 in
    let n : length w.0 ≡ length whole =
    sym (length-map w.0 (λ entry. pos part.divisor *ℤ entry)) ∙ ap length part.same_direction in
    let e : pos part.divisor *ℤ get_or w.0 x.0 (pos 0) ≡ get_or whole x.0 (pos 0) =
    sym (get_or-map (λ entry. pos part.divisor *ℤ entry) w.0 x.0 (pos 0) (pos 0) kl)
    ∙ ap (λ t. get_or t x.0 (pos 0)) part.same_direction in
    let a : nat_abs (get_or whole x.0 (pos 0)) ≡ part.divisor * nat_abs (get_or w.0 x.0 (pos 0)) =
    ap nat_abs (sym e) ∙ unsigned_abs-mul (pos part.divisor) (get_or w.0 x.0 (pos 0)) in
    let same : get_or w.0 x.0 (pos 0) ≡ x.1 = get_or_default w.0 x.0 (pos 0) x.1 kl ∙ x.3 in
    let wide : limit < nat_abs x.1 = x.4 in
    let wider : limit < nat_abs (get_or w.0 x.0 (pos 0)) = subst (λ t. limit < nat_abs t) (sym same) wide in
    let positive : 0 < part.divisor = part.positive in
    let b : 1 * nat_abs (get_or w.0 x.0 (pos 0)) ≤ part.divisor * nat_abs (get_or w.0 x.0 (pos 0)) =
    mul-le-mul_right (nat_abs (get_or w.0 x.0 (pos 0))) (omega arith) in
    let small : nat_abs (get_or whole x.0 (pos 0)) ≤ limit = h x.0 (pos 0) (omega arith) in
    omega arith
