-- Combinations of two rows, entry by entry.
use Rattle.std.proofs.Common.{◌≡◌, ℕ, zero, suc, ◌<◌, sym, refl, ap, ◌∙◌, subst, arith, List, [], ◌∷◌, length, get_or, to_z, of_z, w64}
use Rattle.std.proofs.lemmas.Int.{ints, to_z-of_z}
use mir.Val.{SFits}
use lib.IntN.{ℤ, pos, ◌*ℤ◌, ◌-ℤ◌}
use Rattle.rob_algebra.specs.Integer.{mul_assoc, mul-sub}
use Rattle.rob_rows.specs.PrimitiveParts.{combination, IsPrimitivePart, HasWidePart, scaled}
use Rattle.rob_rows.specs.Factors.{IsMultiple}
use Rattle.rob_rows.specs.declared.factors.Factors.{Factors}
use Rattle.rob_rows.proofs.PrimitivePartLemmas.{part-multiple, wide_part-multiple}

pub length-combination : (p : ℤ) (top : List ℤ) (q : ℤ) (low : List ℤ) → length top ≡ length low
    → length (combination p top q low) ≡ length top
length-combination p [] q low e = refl
length-combination p (a ∷ top) q [] e = cc
length-combination p (a ∷ top) q (b ∷ low) e = ap suc (length-combination p top q low (omega arith))

-- an entry
pub combination-at : (p : ℤ) (top : List ℤ) (q : ℤ) (low : List ℤ) (k : ℕ) → length top ≡ length low → k < length top
    → get_or (combination p top q low) k (pos 0) ≡ (p *ℤ get_or top k (pos 0)) -ℤ (q *ℤ get_or low k (pos 0))
combination-at p [] q low k e l = absurd (omega arith)
combination-at p (a ∷ top) q [] k e l = absurd (omega arith)
combination-at p (a ∷ top) q (b ∷ low) zero e l = refl
combination-at p (a ∷ top) q (b ∷ low) (suc k) e l = combination-at p top q low k (omega arith) (omega arith)

-- a common divisor of both factors is one of the row
pub combination-scale : (d : ℕ) (p : ℤ) (top : List ℤ) (q : ℤ) (low : List ℤ)
    → combination (pos d *ℤ p) top (pos d *ℤ q) low ≡ scaled d (combination p top q low)
combination-scale d p [] q low = refl
combination-scale d p (a ∷ top) q [] = refl
combination-scale d p (a ∷ top) q (b ∷ low) =
    let first : ((pos d *ℤ p) *ℤ a) -ℤ ((pos d *ℤ q) *ℤ b) ≡ pos d *ℤ ((p *ℤ a) -ℤ (q *ℤ b)) =
    ap (λ t. t -ℤ ((pos d *ℤ q) *ℤ b)) (mul_assoc (pos d) p a)
    ∙ ap (λ t. (pos d *ℤ (p *ℤ a)) -ℤ t) (mul_assoc (pos d) q b) ∙ sym (mul-sub (pos d) (p *ℤ a) (q *ℤ b)) in
    ap (λ t. t ∷ combination (pos d *ℤ p) top (pos d *ℤ q) low) first
    ∙ ap (λ t. (pos d *ℤ ((p *ℤ a) -ℤ (q *ℤ b))) ∷ t) (combination-scale d p top q low)

-- once the first row, and no time the second
pub combination-first : (top low : List ℤ) → length top ≡ length low → combination (pos 1) top (pos 0) low ≡ top
combination-first [] low e = refl
combination-first (a ∷ top) [] e = cc
combination-first (a ∷ top) (b ∷ low) e =
    let first : (pos 1 *ℤ a) -ℤ (pos 0 *ℤ b) ≡ a = omega (arith, ints) in
    ap (λ t. t ∷ combination (pos 1) top (pos 0) low) first ∙ ap (λ t. a ∷ t) (combination-first top low (omega arith))

-- ---- primitive parts of combinations whose factors have a common divisor
combination-lowest : (p : ℤ) (top : List ℤ) (q : ℤ) (low : List ℤ) (factors : Factors)
    (m : IsMultiple p q factors.p factors.q)
    → combination p top q low ≡ scaled m.times (combination factors.p top factors.q low)
combination-lowest p top q low factors m =
    ap (λ t. combination t top q low) m.first ∙ ap (λ t. combination (pos m.times *ℤ factors.p) top t low) m.second
    ∙ combination-scale m.times factors.p top factors.q low

pub part-lowest : (row : List ℤ) (p : ℤ) (top : List ℤ) (q : ℤ) (low : List ℤ) (factors : Factors)
    → IsMultiple p q factors.p factors.q
    → IsPrimitivePart row (combination factors.p top factors.q low) → IsPrimitivePart row (combination p top q low)
part-lowest row p top q low factors m h =
    subst (IsPrimitivePart row) (sym (combination-lowest p top q low factors m))
    (part-multiple row (combination factors.p top factors.q low) m.times m.positive h)

pub wide_part-lowest : (limit : ℕ) (p : ℤ) (top : List ℤ) (q : ℤ) (low : List ℤ) (factors : Factors)
    → IsMultiple p q factors.p factors.q
    → HasWidePart limit (combination factors.p top factors.q low) → HasWidePart limit (combination p top q low)
wide_part-lowest limit p top q low factors m h =
    subst (HasWidePart limit) (sym (combination-lowest p top q low factors m))
    (wide_part-multiple limit (combination factors.p top factors.q low) m.times m.positive h)

-- the factors that the code reads are those that it was given
pub multiple_read : (p q : ℤ) (factors : Factors) → SFits w64 p → SFits w64 q
    → IsMultiple (to_z w64 (of_z w64 p)) (to_z w64 (of_z w64 q)) factors.p factors.q
    → IsMultiple p q factors.p factors.q
multiple_read p q factors f g m =
    record {
      times = m.times;
      positive = m.positive;
      first = sym (to_z-of_z w64 p f) ∙ m.first;
      second = sym (to_z-of_z w64 q g) ∙ m.second;
    }
