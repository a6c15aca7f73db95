-- A row that would be wide is so without the spare column.
use Rattle.std.proofs.Common.{◌≡◌, ℕ, suc, ◌+◌, ◌<◌, ◌≤◌, sym, ap, ◌∙◌, subst, arith, inl, inr}
use Rattle.std.proofs.lemmas.Bool.{cases_eq}
use Rattle.std.specs.Int.RustNames.{unsigned_abs}
use Rattle.std.specs.Int.{◌∣◌}
use Rattle.std.proofs.lemmas.Nat.Gcd.{dvd-zero}
use lib.IntN.{pos}
use Rattle.rob_linear.specs.Vectors.{Vector}
use Rattle.rob_linear.specs.Systems.{IsPrimitive}
use Rattle.rob_linear.specs.Multiples.{IsClearedBy}
use Rattle.rob_entries.specs.Updates.{IsWideCleared}
use Rattle.rob_simplex.specs.Dictionaries.{spare_column}
use Rattle.rob_simplex.proofs.Pivoting.PivotLemmas.{zero_stays}
use Rattle.rob_simplex.proofs.Turns.Ranks.{shorter}

module _ (limit n m width column : ℕ) (low top : Vector) (is : width ≡ suc (suc (suc (suc (n + m)))))
    (w : IsWideCleared limit width column low top)
    (zl : low (spare_column n m) ≡ pos 0) (zt : top (spare_column n m) ≡ pos 0) where
  spare_zero : w.0 (spare_column n m) ≡ pos 0
  spare_zero =
      zero_stays w.1.divisor w.1.p w.1.q (w.0 (spare_column n m)) (low (spare_column n m)) (top (spare_column n m))
      w.1.divides (w.1.entries (spare_column n m) (omega (arith, is))) zl zt

  pub wide_cleared : IsClearedBy (suc (suc (suc (n + m)))) column low top w.0
  wide_cleared = shorter width (suc (suc (suc (n + m)))) column low top w.0 (omega (arith, is)) w.1

  pub wide_primitive : IsPrimitive (suc (suc (suc (n + m)))) w.0
  wide_primitive g each = w.2 g (λ k l. elim (cases_eq k (suc (suc (suc (n + m))))) [
    | inl e ↦ subst (λ v. g ∣ unsigned_abs v) (sym (ap w.0 e ∙ spare_zero)) (dvd-zero g)
    | inr o ↦ each k (omega (arith, is))
  ])

  pub wide_entry : (k : ℕ) × (k ≤ suc (suc (n + m))) × (limit < unsigned_abs (w.0 k))
  wide_entry =
      let over : limit < unsigned_abs (w.0 w.3.0) = w.3.2 in
      let inside : w.3.0 < width = w.3.1 in
      elim (cases_eq w.3.0 (suc (suc (suc (n + m))))) [
        | inl e ↦
            absurd (let z : unsigned_abs (w.0 w.3.0) ≡ 0 =
            ap (λ k. unsigned_abs (w.0 k)) e ∙ ap unsigned_abs spare_zero in omega arith)
        | inr o ↦ (w.3.0, omega (arith, is), over)
      ]
