-- The primitive part of a combination is the row after a pivot.
use Rattle.std.proofs.Common.{◌≡◌, ◌≢◌, ℕ, suc, ◌*◌, ◌<◌, ◌≤◌, sym, ap, ◌∙◌, subst, arith, List, [], ◌∷◌, length, get_or}
use Rattle.std.proofs.Math.Nat.{eq-one_of_dvd-one}
use Rattle.std.proofs.lemmas.Int.{ints}
use Rattle.std.proofs.lemmas.List.{get_or-map, length-map}
use Rattle.std.proofs.lemmas.Nat.Gcd.{dvd-zero}
use Rattle.std.specs.Int.{◌∣◌}
use lib.IntN.{ℤ, pos, ◌*ℤ◌, ◌-ℤ◌, nat_abs}
use Rattle.rob_algebra.specs.Gcd.{gcd, IsGcd-gcd}
use Rattle.rob_linear.specs.Vectors.{at}
use Rattle.rob_linear.specs.Systems.{IsCombined, IsPrimitive}
use Rattle.rob_rows.specs.PrimitiveParts.{combination, content, IsPrimitivePart, content_with}
use Rattle.rob_rows.proofs.Contents.{content_zero, content-scale}
use Rattle.rob_rows.proofs.Combinations.{combination-at, length-combination}

pub content_with-greatest : (d a : ℕ) (row : List ℤ) → d ∣ a
    → ((k : ℕ) → k < length row → d ∣ nat_abs (get_or row k (pos 0))) → d ∣ content_with a row
content_with-greatest d a [] h each = h
content_with-greatest d a (x ∷ row) h each =
    content_with-greatest d (gcd a (nat_abs x)) row ((IsGcd-gcd a (nat_abs x)).2 d h (each 0 (omega arith)))
    (λ k l. each (suc k) (omega arith))

-- what divides each entry divides the content
pub content-greatest : (d : ℕ) (row : List ℤ)
    → ((k : ℕ) → k < length row → d ∣ nat_abs (get_or row k (pos 0))) → d ∣ content row
content-greatest d row each = content_with-greatest d 0 row (dvd-zero d) each

-- a row of content 1 is primitive
primitive_of_content : (row : List ℤ) → content row ≡ 1 → IsPrimitive (length row) (at row)
primitive_of_content row e d h = eq-one_of_dvd-one (subst (λ t. d ∣ t) e (content-greatest d row h))

pub pivot_row : (new low top : List ℤ) (p q : ℤ) (k : ℕ) → length low ≡ length top → k < length low
    → ((p *ℤ at low k) -ℤ (q *ℤ at top k)) ≢ pos 0
    → IsPrimitivePart new (combination p low q top) → IsCombined (length low) p (at low) q (at top) (at new)
pivot_row new low top p q k n l d part =
    let whole = combination p low q top in
    let wn : length whole ≡ length low = length-combination p low q top n in
    let nn : length new ≡ length low =
    sym (length-map new (λ entry. pos part.divisor *ℤ entry)) ∙ ap length part.same_direction ∙ wn in
    let some : content new ≢ 0 =
    (λ z. d (sym (combination-at p low q top k n l)
    ∙ content_zero whole k (ap content (sym part.same_direction) ∙ content-scale part.divisor new part.positive
    ∙ ap (λ t. t * part.divisor) z ∙ omega arith) (omega arith))) in
    let lowest : content new ≤ 1 = part.lowest_terms in
    let one : content new ≡ 1 = omega arith in
    let positive : 0 < part.divisor = part.positive in
    record {
      divisor = pos part.divisor;
      positive = omega (arith, ints);
      entries =
          λ j jl.
          sym (get_or-map (λ entry. pos part.divisor *ℤ entry) new j (pos 0) (pos 0) (omega arith))
          ∙ ap (λ t. get_or t j (pos 0)) part.same_direction
          ∙ combination-at p low q top j n jl;
      primitive = subst (λ t. IsPrimitive t (at new)) nn (primitive_of_content new one);
    }
