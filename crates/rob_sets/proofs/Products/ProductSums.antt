-- The numbers of a product so far, and what is left of it.
use Rattle.std.specs.Prelude.{◌≡◌, ℕ, not, pos, [], ◌∷◌, refl}
use Rattle.std.proofs.Common.{sym, ◌∙◌, ap, ap₂}
use Rattle.rob_algebra.specs.Fraction.{Fraction, ◌+ℚ◌, ◌*ℚ◌}
use Rattle.rob_algebra.specs.FractionLaws as Q
use Rattle.rob_algebra.specs.Polynomials.{lit, ◌:+◌, ◌:*◌, v0, v1, v2, v3, v4}
use Rattle.rob_meaning.specs.Coefficients.{Table, table_times}
use Rattle.rob_meaning.specs.Places.{0ℚ}
use Rattle.rob_sets.proofs.Products.OwnerLemmas.{Owners, sel, split}

-- a new first number: its part begins with the whole second table
pub begins : (so_far x s left g total : Fraction) → so_far +ℚ (x *ℚ s +ℚ left) *ℚ g ≡ total
    → so_far +ℚ x *ℚ s *ℚ g +ℚ left *ℚ g ≡ total
begins so_far x s left g total h =
    Q.ring (so_far ∷ x ∷ s ∷ left ∷ g ∷ []) (v0 :+ v1 :* v2 :* v4 :+ v3 :* v4) (v0 :+ (v1 :* v2 :+ v3) :* v4) refl ∙ h

-- one product more
pub goes_on : (so_far xs yt left rest new total : Fraction) → so_far +ℚ xs *ℚ (yt +ℚ left) +ℚ rest ≡ total
    → new ≡ so_far +ℚ xs *ℚ yt
    → new +ℚ xs *ℚ left +ℚ rest ≡ total
goes_on so_far xs yt left rest new total h e =
    ap (λ u. u +ℚ xs *ℚ left +ℚ rest) e
    ∙ Q.ring (so_far ∷ xs ∷ yt ∷ left ∷ rest ∷ []) (v0 :+ v1 :* v2 :+ v1 :* v3 :+ v4)
    (v0 :+ v1 :* (v2 :+ v3) :+ v4) refl ∙ h

-- no number of the second table is left, and none of the first
pub ends_second : (so_far xs left rest total : Fraction) → left ≡ 0ℚ → so_far +ℚ xs *ℚ left +ℚ rest ≡ total
    → so_far +ℚ rest ≡ total
ends_second so_far xs left rest total e h =
    Q.ring (so_far ∷ xs ∷ rest ∷ []) (v0 :+ v2) (v0 :+ v1 :* lit (pos 0) :+ v2) refl
    ∙ ap (λ u. so_far +ℚ xs *ℚ u +ℚ rest) (sym e) ∙ h

pub ends_first : (so_far left g total : Fraction) → left ≡ 0ℚ → so_far +ℚ left *ℚ g ≡ total → so_far ≡ total
ends_first so_far left g total e h =
    Q.ring (so_far ∷ g ∷ []) v0 (v0 :+ lit (pos 0) :* v1) refl ∙ ap (λ u. so_far +ℚ u *ℚ g) (sym e) ∙ h

-- nothing so far, and all of the first table is left
pub from_start : (f g : Table) (o : Owners f g) (k j : ℕ) (so_far left : Fraction) → so_far ≡ 0ℚ
    → left ≡ f (sel o.p k) (sel o.c j)
    → so_far +ℚ left *ℚ g (sel (not o.p) k) (sel (not o.c) j) ≡ table_times f g k j
from_start f g o k j so_far left e h =
    ap₂ (λ u v. u +ℚ v *ℚ g (sel (not o.p) k) (sel (not o.c) j)) e h
    ∙ Q.ℚ-zero-add (f (sel o.p k) (sel o.c j) *ℚ g (sel (not o.p) k) (sel (not o.c) j)) ∙ sym (split f g o k j)
