-- What the rules 62 and 63 say, and how they bound a tree.
use Rattle.std.specs.Prelude.{◌≡◌, ◌<◌, ◌≤◌, ℕ, suc, leb, Bool, true, false, T, if◌then◌else◌, List, Option, Some, None, ◌↔◌, refl}
use Rattle.std.proofs.Common.{arith, ap, subst, sym}
use Rattle.std.proofs.lemmas.Bool.{leb-true, leb-false}
use Rattle.rob_meaning.specs.RobustModel.{RobustModel}
use Rattle.rob_meaning.specs.WellFormed.{IsModel}
use Rattle.rob_reach.proofs.GrowingLemmas.{leaves_bounded, leaves-branches}
use Rattle.rob_reach.specs.Growing.{IsGrown, start}
use Rattle.rob_reach.specs.Ranges.{are_bounded, product_of_ranges, KeepsBothBounds, KeepsRanges, whole_rule}
use Rattle.rob_reach.specs.Trees.{Tree, leaf_count, branch_count}

-- the rule, by whether bounds are declared and whether the product is small
abbrev rule_by : Bool → Bool → Option ℕ
rule_by bounded small = if bounded then (if small then None else Some 63) else Some 62

abbrev rule_number : Option ℕ → ℕ
rule_number None = 0
rule_number (Some n) = n

module _ (m : RobustModel) (names : List ℕ) where
  -- both rules are kept exactly where none is broken
  pub rules_kept : (whole_rule m names ≡ None) ↔ (KeepsBothBounds m names × KeepsRanges m names)
  rules_kept = (
    λ e. out (are_bounded m.variables names) (leb (product_of_ranges m.variables names) 1000) refl refl e,
    λ h. back (are_bounded m.variables names) (leb (product_of_ranges m.variables names) 1000) refl h.0 h.1,
  )
    where
      out : (b l : Bool) → are_bounded m.variables names ≡ b → leb (product_of_ranges m.variables names) 1000 ≡ l →
          rule_by b l ≡ None → KeepsBothBounds m names × KeepsRanges m names
      out true true d k e = (subst T (sym d) tt, leb-true (product_of_ranges m.variables names) 1000 k)
      out true false d k e = cc
      out false l d k e = cc

      back : (b l : Bool) → leb (product_of_ranges m.variables names) 1000 ≡ l → T b
          → product_of_ranges m.variables names ≤ 1000 →
          rule_by b l ≡ None
      back true true k h g = refl
      back true false k h g = absurd (over (product_of_ranges m.variables names) k g)
        where
          over : (p : ℕ) → leb p 1000 ≡ false → p ≤ 1000 → ⊥
          over p k g = omega (arith, leb-false p 1000 k)
      back false l k h g = absurd h

  -- rule 62 is told exactly where a named variable lacks a bound
  pub rule_62 : (whole_rule m names ≡ Some 62) ↔ (KeepsBothBounds m names → ⊥)
  rule_62 = (
    λ e. out (are_bounded m.variables names) (leb (product_of_ranges m.variables names) 1000) e,
    λ h. back (are_bounded m.variables names) (leb (product_of_ranges m.variables names) 1000) h,
  )
    where
      out : (b l : Bool) → rule_by b l ≡ Some 62 → T b → ⊥
      out true true e h = cc
      out true false e h = apart (ap rule_number e)
        where
          apart : ◌≡◌ {A = ℕ} 63 62 → ⊥
          apart e = omega arith
      out false l e h = h

      back : (b l : Bool) → (T b → ⊥) → rule_by b l ≡ Some 62
      back true l h = absurd (h tt)
      back false l h = refl

  -- rule 63 is told exactly where each has both bounds and the product of the ranges is over 1,000
  pub rule_63 : (whole_rule m names ≡ Some 63)
      ↔ (KeepsBothBounds m names × (1000 < product_of_ranges m.variables names))
  rule_63 = (
    λ e. out (are_bounded m.variables names) (leb (product_of_ranges m.variables names) 1000) refl refl e,
    λ h. back (are_bounded m.variables names) (leb (product_of_ranges m.variables names) 1000) refl h.0 h.1,
  )
    where
      out : (b l : Bool) → are_bounded m.variables names ≡ b → leb (product_of_ranges m.variables names) 1000 ≡ l →
          rule_by b l ≡ Some 63 → KeepsBothBounds m names × (1000 < product_of_ranges m.variables names)
      out true true d k e = cc
      out true false d k e = (subst T (sym d) tt, over (product_of_ranges m.variables names) k)
        where
          over : (p : ℕ) → leb p 1000 ≡ false → 1000 < p
          over p k = omega (arith, leb-false p 1000 k)
      out false l d k e = absurd (apart (ap rule_number e))
        where
          apart : ◌≡◌ {A = ℕ} 62 63 → ⊥
          apart e = omega arith

      back : (b l : Bool) → leb (product_of_ranges m.variables names) 1000 ≡ l → T b
          → 1000 < product_of_ranges m.variables names →
          rule_by b l ≡ Some 63
      back true true k h g =
          absurd (over (product_of_ranges m.variables names) (leb-true (product_of_ranges m.variables names) 1000 k) g)
        where
          over : (p : ℕ) → p ≤ 1000 → 1000 < p → ⊥
          over p h g = omega arith
      back true false k h g = refl
      back false l k h g = absurd h

-- ---- bounds of a tree
pub leaves_at_most_1000 : (m : RobustModel) → IsModel m → (names : List ℕ) → whole_rule m names ≡ None → (t : Tree) →
    IsGrown m names t → (leaf_count t.root ≤ 1000) × (branch_count t.root < 1000)
leaves_at_most_1000 m model names e t h =
    by (leaves_bounded m model names ((rules_kept m names).0 e).0 start h.after t.root h.grows)
    ((rules_kept m names).0 e).1
    (leaves-branches t.root)
  where
    by : {l b p : ℕ} → l ≤ p → p ≤ 1000 → l ≡ suc b → (l ≤ 1000) × (b < 1000)
    by h g e = (omega arith, omega arith)
