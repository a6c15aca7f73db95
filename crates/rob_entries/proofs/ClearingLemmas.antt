-- A row that another row clears of one entry, from the factors in lowest terms.
use Rattle.std.proofs.Common.{◌≡◌, ◌≢◌, ℕ, ◌+◌, ◌*◌, ◌<◌, ◌≤◌, sym, refl, ap, ◌∙◌, subst, arith, inl, inr, List, map, length, get_or, Any, Result, Ok, Err, OnOk}
use Rattle.std.specs.Prelude.{IfOk}
use Rattle.std.proofs.Math.Nat.{mul-le-mul, mul-le-mul_right}
use Rattle.std.proofs.lemmas.Int.{ints, unsigned_abs-mul}
use Rattle.std.proofs.lemmas.Bool.{cases_eq}
use Rattle.std.proofs.lemmas.List.{get_or-map, get_or_default, length-map}
use lib.IntN.{ℤ, pos, ◌-ℤ◌, ◌*ℤ◌, nat_abs}
use lib.Signed.{◌<ℤ◌}
use Rattle.rob_algebra.specs.Gcd.{gcd}
use Rattle.rob_algebra.specs.Integer.{mul_left_comm, mul-zero, *ℤ_comm}
use Rattle.rob_algebra.specs.IntegerOrder.{mul_cancel_lt, mul_cancel_zero}
use Rattle.rob_linear.specs.Vectors.{Vector, at}
use Rattle.rob_linear.specs.Systems.{IsCombined, IsPrimitive}
use Rattle.rob_linear.specs.Multiples.{IsClearedBy}
use Rattle.rob_linear.proofs.RowForms.Multiples.{factors_clear}
use Rattle.rob_rows.specs.PrimitiveParts.{combination, content, IsPrimitivePart, IsWithin, HasWideEntry, HasWidePart}
use Rattle.rob_rows.proofs.Combinations.{combination-at, length-combination}
use Rattle.rob_rows.proofs.Contents.{content_zero}
use Rattle.rob_rows.proofs.Pivots.{pivot_row}
use Rattle.rob_rows.proofs.SizeLemmas.{within_up}
use Rattle.rob_entries.specs.Entries.{ArePartsOf}
use Rattle.rob_entries.specs.Updates.{Clearing, CanApply, CanClearRow, IsNarrowBy, IsBounded, IsWideCleared}
use Rattle.rob_entries.proofs.MappedRows.{number_read}

-- rows with the same entries are cleared alike
pub cleared_ext : (width place : ℕ) (low low' top new new' : Vector) → ((k : ℕ) → k < width → low k ≡ low' k)
    → ((k : ℕ) → k < width → new k ≡ new' k) → place < width
    → IsClearedBy width place low top new → IsClearedBy width place low' top new'
cleared_ext width place low low' top new new' el en pl c = record {
  divisor = c.divisor;
  p = c.p;
  q = c.q;
  divides = c.divides;
  positive = c.positive;
  entries = λ k l. ap (λ t. c.divisor *ℤ t) (sym (en k l)) ∙ c.entries k l
      ∙ ap (λ t. (c.p *ℤ t) -ℤ (c.q *ℤ top k)) (el k l);
  cleared = sym (en place pl) ∙ c.cleared;
}

pub wide_ext : (limit width place : ℕ) (low low' top : Vector) → ((k : ℕ) → k < width → low k ≡ low' k) → place < width
    → IsWideCleared limit width place low top → IsWideCleared limit width place low' top
wide_ext limit width place low low' top el pl w =
    (w.0, cleared_ext width place low low' top w.0 w.0 el (λ k l. refl) pl w.1, w.2, w.3)

-- a row is a multiple of its primitive part
pub part_multiple : (row whole : List ℤ) (part : IsPrimitivePart row whole) (k : ℕ) → k < length row
    → pos part.divisor *ℤ at row k ≡ at whole k
part_multiple row whole part k l =
    sym (get_or-map (λ entry. pos part.divisor *ℤ entry) row k (pos 0) (pos 0) l)
    ∙ ap (λ t. get_or t k (pos 0)) part.same_direction

-- ---- the factors
module _ {t e p q : ℤ} (m : ArePartsOf t e p q) where
  times_positive : pos 0 <ℤ pos m.times
  times_positive = let h : 0 < m.times = m.positive in omega (arith, ints)

  pub factor_positive : pos 0 <ℤ t → pos 0 <ℤ p
  factor_positive h =
      mul_cancel_lt (pos m.times) (pos 0) p times_positive
      (subst (λ x. x <ℤ (pos m.times *ℤ p)) (sym (mul-zero (pos m.times))) (subst (λ x. pos 0 <ℤ x) m.p_is h))

  -- p times the entry is q times the other one
  pub factors_meet : p *ℤ e ≡ q *ℤ t
  factors_meet =
      ap (λ x. p *ℤ x) m.q_is ∙ mul_left_comm p (pos m.times) q ∙ ap (λ x. pos m.times *ℤ x) (*ℤ_comm p q)
      ∙ mul_left_comm (pos m.times) q p
      ∙ ap (λ x. q *ℤ x) (sym m.p_is)

  -- they are no greater than the two numbers
  pub first_low : (limit : ℕ) → nat_abs t ≤ limit → nat_abs p ≤ limit
  first_low limit h =
      let a : nat_abs t ≡ m.times * nat_abs p = ap nat_abs m.p_is ∙ unsigned_abs-mul (pos m.times) p in
      let l : 0 < m.times = m.positive in
      let b : 1 * nat_abs p ≤ m.times * nat_abs p = mul-le-mul_right (nat_abs p) (omega arith) in
      omega arith

  pub second_low : (limit : ℕ) → nat_abs e ≤ limit → nat_abs q ≤ limit
  second_low limit h =
      let a : nat_abs e ≡ m.times * nat_abs q = ap nat_abs m.q_is ∙ unsigned_abs-mul (pos m.times) q in
      let l : 0 < m.times = m.positive in
      let b : 1 * nat_abs q ≤ m.times * nat_abs q = mul-le-mul_right (nat_abs q) (omega arith) in
      omega arith

-- ---- the row
module _ (width place : ℕ) (low top : List ℤ) (p q : ℤ) (wl : length low ≡ width) (wt : length top ≡ width)
    (inside : place < width) (positive : pos 0 <ℤ at top place)
    (m : ArePartsOf (at top place) (at low place) p q) where
  cleared_by_factors : (new : List ℤ) → ((k : ℕ) → k < width → at new k ≡ (p *ℤ at low k) -ℤ (q *ℤ at top k))
      → IsClearedBy width place (at low) (at top) (at new)
  cleared_by_factors new h =
      factors_clear width place (at low) (at top) (at new) p q inside
      (factor_positive m positive)
      (factors_meet m) h

  -- the entry goes
  zero_there : (d : ℤ) (new : Vector) → pos 0 <ℤ d
      → d *ℤ new place ≡ (p *ℤ at low place) -ℤ (q *ℤ at top place) → new place ≡ pos 0
  zero_there d new h e =
      let meet : p *ℤ at low place ≡ q *ℤ at top place = factors_meet m in
      mul_cancel_zero d (new place) h (omega (arith, ints))

  part_length : (new : List ℤ) → IsPrimitivePart new (combination p low q top) → length new ≡ width
  part_length new part =
      sym (length-map new (λ entry. pos part.divisor *ℤ entry)) ∙ ap length part.same_direction
      ∙ length-combination p low q top (wl ∙ sym wt) ∙ wl

  part_entries : (new : List ℤ) (part : IsPrimitivePart new (combination p low q top)) (k : ℕ) → k < width
      → pos part.divisor *ℤ at new k ≡ (p *ℤ at low k) -ℤ (q *ℤ at top k)
  part_entries new part k l =
      let n : length new ≡ width = part_length new part in
      sym (get_or-map (λ entry. pos part.divisor *ℤ entry) new k (pos 0) (pos 0) (omega arith))
      ∙ ap (λ t. get_or t k (pos 0)) part.same_direction
      ∙ combination-at p low q top k (wl ∙ sym wt) (omega arith)

  cleared_by_part : (new : List ℤ) → IsPrimitivePart new (combination p low q top)
      → IsClearedBy width place (at low) (at top) (at new)
  cleared_by_part new part =
      let d : 0 < part.divisor = part.positive in
      let dz : pos 0 <ℤ pos part.divisor = omega (arith, ints) in
      record {
        divisor = pos part.divisor;
        p = p;
        q = q;
        divides = dz;
        positive = factor_positive m positive;
        entries = part_entries new part;
        cleared = zero_there (pos part.divisor) (at new) dz (part_entries new part place inside);
      }

  wide_by_part : (limit : ℕ) → HasWidePart limit (combination p low q top)
      → IsWideCleared limit width place (at low) (at top)
  wide_by_part limit w =
      let part : IsPrimitivePart w.0 (combination p low q top) = w.1 in
      let x : HasWideEntry limit w.0 = w.2 in
      let kl : x.0 < length w.0 = x.2 in
      let n : length w.0 ≡ width = part_length w.0 part in
      let over : limit < nat_abs x.1 = x.4 in
      let wide : limit < nat_abs (at w.0 x.0) =
      subst (λ t. limit < nat_abs t) (sym (get_or_default w.0 x.0 (pos 0) x.1 kl ∙ x.3)) over in
      let il : x.0 < width = omega arith in
      let some : ((p *ℤ at low x.0) -ℤ (q *ℤ at top x.0)) ≢ pos 0 = (λ z. absurd (
      let d : 0 < part.divisor = part.positive in
      let zero : at w.0 x.0 ≡ pos 0 =
      mul_cancel_zero (pos part.divisor) (at w.0 x.0) (omega (arith, ints)) (part_entries w.0 part x.0 il ∙ z) in
      let e : nat_abs (at w.0 x.0) ≡ 0 = ap nat_abs zero in
      omega arith)) in
      let c : IsCombined (length low) p (at low) q (at top) (at w.0) =
      pivot_row w.0 low top p q x.0 (wl ∙ sym wt) (omega arith) some part in
      (at w.0, cleared_by_part w.0 part, subst (λ n. IsPrimitive n (at w.0)) wl c.primitive, (x.0, il, wide))

-- ---- bounds
narrow_by_bounds : (width : ℕ) (row top : List ℤ) (p q : ℤ) (bound other limit sum most : ℕ) → IsWithin bound row
    → IsWithin other top → length row ≡ width → length top ≡ width
    → sum ≡ nat_abs p * bound + nat_abs q * other → sum ≤ limit → limit ≤ most
    → IsNarrowBy most width p q (at row) (at top)
narrow_by_bounds width row top p q bound other limit sum most h k wr wt e l high j jl =
    let first : nat_abs p * nat_abs (at row j) ≤ nat_abs p * bound =
    mul-le-mul (omega arith) (h j (pos 0) (omega arith)) in
    let second : nat_abs q * nat_abs (at top j) ≤ nat_abs q * other =
    mul-le-mul (omega arith) (k j (pos 0) (omega arith)) in
    omega arith

bounded_by_sum : (width : ℕ) (row top new : List ℤ) (p q : ℤ) (bound other limit sum : ℕ) → IsWithin bound row
    → IsWithin other top → length row ≡ width → length top ≡ width → length new ≡ width
    → sum ≡ nat_abs p * bound + nat_abs q * other → sum ≤ limit
    → ((k : ℕ) → k < width → at new k ≡ (p *ℤ at row k) -ℤ (q *ℤ at top k)) → IsBounded limit new sum
bounded_by_sum width row top new p q bound other limit sum h k wr wt wn e l entries = record {
  low = l;
  within = λ j d jl.
      let here : get_or new j d ≡ at new j = get_or_default new j d (pos 0) jl in
      let a : nat_abs (p *ℤ at row j) ≡ nat_abs p * nat_abs (at row j) = unsigned_abs-mul p (at row j) in
      let b : nat_abs (q *ℤ at top j) ≡ nat_abs q * nat_abs (at top j) = unsigned_abs-mul q (at top j) in
      let c : nat_abs p * nat_abs (at row j) ≤ nat_abs p * bound =
      mul-le-mul (omega arith) (h j (pos 0) (omega arith)) in
      let g : nat_abs q * nat_abs (at top j) ≤ nat_abs q * other =
      mul-le-mul (omega arith) (k j (pos 0) (omega arith)) in
      let s : nat_abs ((p *ℤ at row j) -ℤ (q *ℤ at top j)) ≤ nat_abs (p *ℤ at row j) + nat_abs (q *ℤ at top j) =
      less_size (p *ℤ at row j) (q *ℤ at top j) in
      subst (λ t. nat_abs t ≤ sum) (sym (here ∙ entries j (omega arith))) (omega arith);
}
  where
    less_size : (x y : ℤ) → nat_abs (x -ℤ y) ≤ nat_abs x + nat_abs y
    less_size x y = omega (arith, ints)

-- the greatest size is within the limit, where all are
pub largest_low : (row : List ℤ) (size limit : ℕ) → IsWithin limit row
    → (0 < size → Any (λ entry. nat_abs entry ≡ size) row) → size ≤ limit
largest_low row size limit h reached =
    elim (cases_eq size 0) [
      | inl e ↦ omega arith
      | inr d ↦
          let a : Any (λ entry. nat_abs entry ≡ size) row = reached (omega arith) in
          let e : nat_abs a.1 ≡ size = a.4 in
          let s : get_or row a.0 (pos 0) ≡ a.1 = get_or_default row a.0 (pos 0) a.1 a.2 ∙ a.3 in
          let l : nat_abs (get_or row a.0 (pos 0)) ≤ limit = h a.0 (pos 0) a.2 in
          let f : nat_abs (get_or row a.0 (pos 0)) ≡ nat_abs a.1 = ap nat_abs s in
          omega arith
    ]

-- an entry is within what bounds its row
pub entry_low : (row : List ℤ) (place bound limit most : ℕ) → place < length row → IsWithin bound row → bound ≤ limit
    → limit ≤ most → nat_abs (at row place) ≤ most
entry_low row place bound limit most inside h low high =
    let l : nat_abs (at row place) ≤ bound = h place (pos 0) inside in omega arith

-- a row in lowest terms that is not 0 everywhere has the content 1
pub content_one : (row : List ℤ) (k : ℕ) → k < length row → at row k ≢ pos 0 → content row ≤ 1 → content row ≡ 1
content_one row k l some low = elim (cases_eq (content row) 0) [
  | inl z ↦ absurd (some (content_zero row k z l))
  | inr n ↦ omega arith
]

-- ---- a row that another one can clear, by the factors of their entries at the place
module _ {top limit : ℕ} {row : List ℤ} {by : Clearing} {bound place width start marks : ℕ}
    (a : CanClearRow top limit row by bound place width start marks) (within : IsWithin by.bound by.entries)
    (n : length row ≡ width) {p q : ℤ} (m : ArePartsOf (at by.entries place) (at row place) p q) where
  pub first_in : nat_abs p ≤ top
  first_in =
      first_low m top
      (entry_low by.entries place by.bound limit top (omega (arith, a.same_width, a.place_in)) within a.self_low
      a.limit_low)

  pub second_in : nat_abs q ≤ top
  second_in =
      second_low m top
      (entry_low row place bound limit top (omega (arith, n, a.place_in)) a.bounded.within a.bounded.low a.limit_low)

  -- in lowest terms
  pub can_apply : gcd (nat_abs p) (nat_abs q) ≤ 1 → CanApply top limit p q row by.entries width start marks
  can_apply lowest = record {
    same_width = a.same_width;
    marks_in = a.marks_in;
    limit_low = a.limit_low;
    positive = factor_positive m a.positive;
    factors = (first_in, second_in);
    lowest = lowest;
    within = (
      within_up bound limit row a.bounded.low a.bounded.within,
      within_up by.bound limit by.entries a.self_low within,
    );
    some = (place, a.place_in, λ z. absurd (let h = a.positive in omega (arith, ints)));
    own = a.own;
  }

  pub cleared_in_lowest : (new : List ℤ) → IsPrimitivePart new (combination p row q by.entries)
      → IsClearedBy width place (at row) (at by.entries) (at new)
  cleared_in_lowest = cleared_by_part width place row by.entries p q n (sym a.same_width) a.place_in a.positive m

  pub wide_in_lowest : HasWidePart limit (combination p row q by.entries)
      → IsWideCleared limit width place (at row) (at by.entries)
  wide_in_lowest = wide_by_part width place row by.entries p q n (sym a.same_width) a.place_in a.positive m limit

  -- as it comes out, where the bounds say that it is narrow
  pub cleared_as_is : (new : List ℤ)
      → ((k : ℕ) → k < width → at new k ≡ (p *ℤ at row k) -ℤ (q *ℤ at by.entries k))
      → IsClearedBy width place (at row) (at by.entries) (at new)
  cleared_as_is = cleared_by_factors width place row by.entries p q n (sym a.same_width) a.place_in a.positive m

  module _ {sum other : ℕ} (other_is : other ≡ by.bound) (sum_is : sum ≡ nat_abs p * bound + nat_abs q * other)
      (low : sum ≤ limit) where
    bound_is : sum ≡ nat_abs p * bound + nat_abs q * by.bound
    bound_is = sum_is ∙ ap (λ b. nat_abs p * bound + nat_abs q * b) other_is

    pub narrow_as_is : IsNarrowBy top width p q (at row) (at by.entries)
    narrow_as_is =
        narrow_by_bounds width row by.entries p q bound by.bound limit sum top a.bounded.within within n
        (sym a.same_width) bound_is low a.limit_low

    pub bounded_as_is : (new : List ℤ) → length new ≡ width
        → ((k : ℕ) → k < width → at new k ≡ (p *ℤ at row k) -ℤ (q *ℤ at by.entries k)) → IsBounded limit new sum
    bounded_as_is new size entries =
        bounded_by_sum width row by.entries new p q bound by.bound limit sum a.bounded.within within n
        (sym a.same_width) size bound_is low entries

-- ---- what the code reads
-- the factors of the two entries at the place
pub parts_read : {X : Type 0} (value : X → ℤ) (entries row : List X) {top : List ℤ} (place : ℕ) {x y : X} {p q : ℤ}
    → map value entries ≡ top → length row ≡ length top → place < length row
    → x ≡ get_or entries place x → y ≡ get_or row place y → ArePartsOf (value x) (value y) p q
    → ArePartsOf (at top place) (at (map value row) place) p q
parts_read value entries row place {x = x} {y = y} same width inside ex ey m =
    let xl : place < length entries = omega (arith, length-map entries value, ap length same) in
    record {
      times = m.times;
      positive = m.positive;
      p_is = sym (number_read value entries place x xl ex ∙ ap (λ (t : List ℤ). at t place) same) ∙ m.p_is;
      q_is = sym (number_read value row place y inside ey) ∙ m.q_is;
    }

pub read_low : {X : Type 0} (value : X → ℤ) (row : List X) (place : ℕ) (y : X) (bound limit most : ℕ)
    → place < length row → y ≡ get_or row place y → IsWithin bound (map value row) → bound ≤ limit → limit ≤ most
    → nat_abs (value y) ≤ most
read_low value row place y bound limit most l e h low high =
    subst (λ t. nat_abs t ≤ most) (sym (number_read value row place y l e))
    (entry_low (map value row) place bound limit most
    (subst (λ n. place < n) (sym (length-map row value)) l) h low high)

pub ok_if : {T E : Type 0} (r : Result T E) (P Q : Type 0) → (P → Q) → OnOk r P → IfOk r (λ x. Q)
ok_if (Ok x) P Q f h = f h
ok_if (Err e) P Q f h = tt
