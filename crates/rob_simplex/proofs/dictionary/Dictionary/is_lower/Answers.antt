use Rattle.std.proofs.Common.{ℕ, refl, sym, subst, pos, IsTrue, ◌↔◌, Option, true}
use lib.IntN.{ℤ}
use lib.Signed.{◌<ℤ◌}
use Rattle.rob_simplex.specs.Dictionaries.{positions, rows_of}
use Rattle.rob_simplex.specs.LeastRows.{IsLower}
use Rattle.rob_simplex.proofs.Leaving.LeastRows.{negative_of, positive_of}
use Rattle.rob_simplex.proofs.dictionary.Dictionary.is_lower.Goals as goal

pub returns-then-not-is_positive-clause-decides : goal.returns-then-not-is_positive-clause-decides
returns-then-not-is_positive-clause-decides g c =
    let t = c.args.self.now in (
      (λ h. absurd (cc)),
      λ x. c.if-not-is_positive.ensures.positive.1 (subst (λ (z : ℤ). pos 0 <ℤ z) (sym c.minus_entry.ensures.entry)
          (positive_of (rows_of t c.args.i c.args.column) x.0)),
    )

pub returns-then-not-is_negative_by-clause-decides : goal.returns-then-not-is_negative_by-clause-decides
returns-then-not-is_negative_by-clause-decides g c =
    ((λ h. absurd (cc)), λ x. c.if-not-is_negative_by.ensures.decides.1 x.2)

pub returns-in-None-clause-decides : goal.returns-in-None-clause-decides
returns-in-None-clause-decides g c =
    let t = c.args.self.now in
    let negative : rows_of t c.args.i c.args.column <ℤ pos 0 =
    negative_of (rows_of t c.args.i c.args.column)
    (subst (λ (z : ℤ). pos 0 <ℤ z) c.minus_entry.ensures.entry (c.if-not-is_positive.ensures.positive.0 refl)) in
    subst (λ (best : Option ℕ).
    IsTrue true ↔ IsLower t.columns (positions t) (rows_of t) c.args.column c.args.i best)
    (sym c.in-None.is)
    ((λ h. (negative, tt, c.if-not-is_negative_by.ensures.decides.0 refl)), λ x. refl)

pub returns-in-Some-clause-decides : goal.returns-in-Some-clause-decides
returns-in-Some-clause-decides g c =
    let t = c.args.self.now in
    let negative : rows_of t c.args.i c.args.column <ℤ pos 0 =
    negative_of (rows_of t c.args.i c.args.column)
    (subst (λ (z : ℤ). pos 0 <ℤ z) c.minus_entry.ensures.entry (c.if-not-is_positive.ensures.positive.0 refl)) in
    subst (λ (best : Option ℕ).
    IsTrue c.comes_lower.result ↔ IsLower t.columns (positions t) (rows_of t) c.args.column c.args.i best)
    (sym c.in-Some.is) (
      (λ h. (negative, c.comes_lower.ensures.decides.0 h, c.if-not-is_negative_by.ensures.decides.0 refl)),
      λ x. c.comes_lower.ensures.decides.1 x.1,
    )
