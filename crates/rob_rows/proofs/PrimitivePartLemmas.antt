-- Primitive parts: where one comes from, that there is one and no other, and multiples.
use Rattle.std.proofs.Common.{◌≡◌, ℕ, zero, suc, ◌*◌, ◌/◌, ◌<◌, ◌≤◌, sym, refl, ap, ◌∙◌, subst, arith, inl, inr, mul-pos, List, [], ◌∷◌, map, length, get_or, All}
use Rattle.std.proofs.Math.Nat.{div-mul_cancel, zero-mul}
use Rattle.std.proofs.lemmas.Bool.{cases_eq}
use Rattle.std.proofs.lemmas.Int.{ints}
use Rattle.std.proofs.lemmas.List.{get_or-map, length-map, same_lists, get_or_default}
use Rattle.std.specs.Int.{◌∣◌}
use lib.IntN.{ℤ, pos, ◌*ℤ◌, nat_abs}
use Rattle.rob_algebra.specs.Fraction.{int_over, times-over, nat_abs-over}
use Rattle.rob_algebra.specs.Integer.{mul_assoc, *ℤ_comm}
use Rattle.rob_algebra.specs.IntegerOrder.{mul_cancel, mul_cancel_zero}
use Rattle.rob_rows.specs.PrimitiveParts.{content, scaled, IsPrimitivePart, HasWideEntry, HasWidePart}
use Rattle.rob_rows.proofs.Contents.{content-scale, content-divides, content_zero}

scaled_one : (row : List ℤ) → scaled 1 row ≡ row
scaled_one [] = refl
scaled_one (x ∷ row) = let e : pos 1 *ℤ x ≡ x = omega (arith, ints) in
    ap (λ t. t ∷ scaled 1 row) e ∙ ap (λ t. x ∷ t) (scaled_one row)

scaled-scaled : (a b : ℕ) (row : List ℤ) → scaled a (scaled b row) ≡ scaled (a * b) row
scaled-scaled a b [] = refl
scaled-scaled a b (x ∷ row) =
    ap (λ t. t ∷ scaled a (scaled b row)) (sym (mul_assoc (pos a) (pos b) x))
    ∙ ap (λ t. ((pos a *ℤ pos b) *ℤ x) ∷ t) (scaled-scaled a b row)

-- a row that is d times another, entry by entry
pub scaled_is : (d : ℕ) (row whole : List ℤ) → length row ≡ length whole
    → ((k : ℕ) → k < length whole → pos d *ℤ get_or row k (pos 0) ≡ get_or whole k (pos 0)) → scaled d row ≡ whole
scaled_is d row whole n e =
    same_lists (scaled d row) whole (length-map row (λ entry. pos d *ℤ entry) ∙ n)
    (λ k i l.
    let kr : k < length row =
    let m : length (scaled d row) ≡ length row = length-map row (λ entry. pos d *ℤ entry) in omega arith in
    let kw : k < length whole = omega arith in
    get_or-map (λ entry. pos d *ℤ entry) row k (pos 0) i kr ∙ e k kw ∙ get_or_default whole k (pos 0) i kw)

scaled-same : (d : ℕ) (row row' : List ℤ) → 0 < d → scaled d row ≡ scaled d row' → row ≡ row'
scaled-same d [] [] h e = refl
scaled-same d [] (y ∷ row') h e = cc
scaled-same d (x ∷ row) [] h e = cc
scaled-same d (x ∷ row) (y ∷ row') h e =
    let first : pos d *ℤ x ≡ pos d *ℤ y = cc in
    let rest : scaled d row ≡ scaled d row' = cc in
    let same : x ≡ y = mul_cancel (pos d) x y (omega (arith, ints)) first in
    ap (λ t. t ∷ row) same ∙ ap (λ t. y ∷ t) (scaled-same d row row' h rest)

one_left : (c g : ℕ) → 0 < g → c * g ≡ g → c ≡ 1
one_left zero g h e = absurd (omega arith)
one_left (suc zero) g h e = refl
one_left (suc (suc c)) g h e = absurd (omega arith)

-- a row over its content
pub part_over_content : (row whole : List ℤ) (g : ℕ) → 0 < g → g ≡ content whole → scaled g row ≡ whole
    → IsPrimitivePart row whole
part_over_content row whole g h e s =
    let m : content row * g ≡ g = sym (content-scale g row h) ∙ ap content s ∙ sym e in
    let one : content row ≡ 1 = one_left (content row) g h m in
    record { divisor = g; positive = h; same_direction = s; lowest_terms = omega arith }

-- a row that is in lowest terms
pub part_itself : (whole : List ℤ) → content whole ≤ 1 → IsPrimitivePart whole whole
part_itself whole h =
    record { divisor = 1; positive = omega arith; same_direction = scaled_one whole; lowest_terms = h }

-- ---- there is exactly one
over_content : List ℤ → List ℤ
over_content whole = map (λ entry. int_over entry (content whole)) whole

-- an entry, from its quotient
times_quotient : (n : ℤ) (g : ℕ) → g ∣ nat_abs n → pos g *ℤ int_over n g ≡ n
times_quotient n g d = *ℤ_comm (pos g) (int_over n g) ∙ times-over n g (div-mul_cancel g d)

length-over_content : (whole : List ℤ) → length (over_content whole) ≡ length whole
unfolding over_content
length-over_content whole = length-map whole (λ entry. int_over entry (content whole))

over_content_at : (whole : List ℤ) (k : ℕ) → k < length whole
    → get_or (over_content whole) k (pos 0) ≡ int_over (get_or whole k (pos 0)) (content whole)
unfolding over_content
over_content_at whole k l = get_or-map (λ entry. int_over entry (content whole)) whole k (pos 0) (pos 0) l

over_content_is : (whole : List ℤ) → 0 < content whole → IsPrimitivePart (over_content whole) whole
over_content_is whole h =
    part_over_content (over_content whole) whole (content whole) h refl
    (scaled_is (content whole) (over_content whole) whole (length-over_content whole)
    (λ k l. ap (λ t. pos (content whole) *ℤ t) (over_content_at whole k l)
    ∙ times_quotient (get_or whole k (pos 0)) (content whole) (content-divides whole k l)))

pub primitive_part_exists : (whole : List ℤ) → (row : List ℤ) × IsPrimitivePart row whole
primitive_part_exists whole =
    elim (cases_eq (content whole) 0) [
      | inl e ↦ (whole, part_itself whole (omega arith))
      | inr d ↦ (over_content whole, over_content_is whole (omega arith))
    ]

-- the content of the whole is the divisor, or 0
whole_content : (row whole : List ℤ) (p : IsPrimitivePart row whole) → content whole ≡ content row * p.divisor
whole_content row whole p = ap content (sym p.same_direction) ∙ content-scale p.divisor row p.positive

part_of_zeros : (row whole : List ℤ) → content whole ≡ 0 → IsPrimitivePart row whole → row ≡ whole
part_of_zeros row whole z p =
    let s : scaled p.divisor row ≡ whole = p.same_direction in
    let n : length row ≡ length whole = sym (length-map row (λ entry. pos p.divisor *ℤ entry)) ∙ ap length s in
    same_lists row whole n
    (λ k i l.
    let kw : k < length whole = omega arith in
    let zero_at : get_or whole k (pos 0) ≡ pos 0 = content_zero whole k z kw in
    let times : pos p.divisor *ℤ get_or row k (pos 0) ≡ pos 0 =
    sym (get_or-map (λ entry. pos p.divisor *ℤ entry) row k (pos 0) (pos 0) l)
    ∙ ap (λ t. get_or t k (pos 0)) s ∙ zero_at in
    get_or_default row k i (pos 0) l
    ∙ mul_cancel_zero (pos p.divisor) (get_or row k (pos 0)) (let h : 0 < p.divisor = p.positive in
    omega (arith, ints)) times
    ∙ sym zero_at
    ∙ get_or_default whole k (pos 0) i kw)

pub primitive_part_unique : (row row' whole : List ℤ) → IsPrimitivePart row whole
    → IsPrimitivePart row' whole → row ≡ row'
primitive_part_unique row row' whole p q =
    elim (cases_eq (content whole) 0) [
      | inl z ↦ part_of_zeros row whole z p ∙ sym (part_of_zeros row' whole z q)
      | inr n ↦
          let a : p.divisor ≡ content whole =
          divisor_is (content row) p.divisor (content whole) p.lowest_terms n (whole_content row whole p) in
          let b : q.divisor ≡ content whole =
          divisor_is (content row') q.divisor (content whole) q.lowest_terms n (whole_content row' whole q) in
          let r : scaled p.divisor row ≡ whole = p.same_direction in
          let r' : scaled q.divisor row' ≡ whole = q.same_direction in
          scaled-same (content whole) row row' (omega arith)
          (ap (λ t. scaled t row) (sym a) ∙ r ∙ sym r' ∙ ap (λ t. scaled t row') b)
    ]
  where
    divisor_is : (c d g : ℕ) → c ≤ 1 → ¬ (g ≡ 0) → g ≡ c * d → d ≡ g
    divisor_is zero d g h n e = absurd (n (e ∙ zero-mul d))
    divisor_is (suc zero) d g h n e = omega arith
    divisor_is (suc (suc c)) d g h n e = absurd (omega arith)

-- ---- wide parts
pub wide_entry : (row : List ℤ) (limit k : ℕ) → k < length row → limit < nat_abs (get_or row k (pos 0))
    → HasWideEntry limit row
wide_entry row limit k l w = (k, get_or row k (pos 0), l, get_or_default row k (get_or row k (pos 0)) (pos 0) l, w)

pub wide_part : (whole : List ℤ) (g limit k : ℕ) → 0 < g → g ≡ content whole → k < length whole
    → limit < nat_abs (get_or whole k (pos 0)) / g → HasWidePart limit whole
wide_part whole g limit k h e l w =
    let at_k : get_or (over_content whole) k (pos 0) ≡ int_over (get_or whole k (pos 0)) (content whole) =
    over_content_at whole k l in
    let size : nat_abs (get_or (over_content whole) k (pos 0)) ≡ nat_abs (get_or whole k (pos 0)) / g =
    ap nat_abs at_k ∙ nat_abs-over (get_or whole k (pos 0)) (content whole)
    ∙ ap (λ t. nat_abs (get_or whole k (pos 0)) / t) (sym e) in (
      over_content whole,
      over_content_is whole (omega arith),
      wide_entry (over_content whole) limit k (let n : length (over_content whole) ≡ length whole =
          length-over_content whole in omega arith) (omega arith),
    )

-- ---- multiples
pub part-multiple : (row whole : List ℤ) (d : ℕ) → 0 < d → IsPrimitivePart row whole
    → IsPrimitivePart row (scaled d whole)
part-multiple row whole d h p = record {
  divisor = d * p.divisor;
  positive = mul-pos h p.positive;
  same_direction = sym (scaled-scaled d p.divisor row) ∙ ap (scaled d) p.same_direction;
  lowest_terms = p.lowest_terms;
}

pub wide_part-multiple : (limit : ℕ) (whole : List ℤ) (d : ℕ) → 0 < d → HasWidePart limit whole
    → HasWidePart limit (scaled d whole)
wide_part-multiple limit whole d h w = (w.0, part-multiple w.0 whole d h w.1, w.2)

-- zeros
pub zeros_part : (row whole : List ℤ) → length row ≡ length whole → All (λ entry. nat_abs entry ≡ 0) row
    → content whole ≡ 0 → IsPrimitivePart row whole
zeros_part row whole n h z =
    let same : row ≡ whole =
    same_lists row whole n
    (λ k d l.
    let a : nat_abs (get_or row k d) ≡ 0 = h k d l in
    let b : get_or whole k (pos 0) ≡ pos 0 = content_zero whole k z (omega arith) in
    let e : get_or row k d ≡ pos 0 = omega (arith, ints) in
    e ∙ sym b ∙ get_or_default whole k (pos 0) d (omega arith)) in
    subst (λ t. IsPrimitivePart t whole) (sym same) (part_itself whole (omega arith))
