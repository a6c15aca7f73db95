use Rattle.std.proofs.Common.{◌+◌, refl, inl, inr, pos, neg_ℤ, false}
use Rattle.rob_algebra.specs.IntegerOrder.{le_total}
use Rattle.rob_simplex.specs.Dictionaries.{positions, rows_of}
use Rattle.rob_simplex.proofs.Leaving.LeastRows.{positive_of, below_negative}
use Rattle.rob_simplex.proofs.Leaving.RatioLemmas.{first_decides, apart}
use Rattle.rob_simplex.proofs.dictionary.Dictionary.is_below_best.Goals as goal

pub returns-then-not-is_below_zero-clause-decides : goal.returns-then-not-is_below_zero-clause-decides
returns-then-not-is_below_zero-clause-decides g c =
    let t = c.args.self.now in
    let right = t.columns + positions t + 2 in
    let p = neg_ℤ (rows_of t c.args.i c.args.column) in
    let q = neg_ℤ (rows_of t c.args.e c.args.column) in (
      (λ h. absurd (cc)),
      λ x. elim (le_total (pos 0) (rows_of t c.args.i right)) [
        | inl high ↦
            (first_decides t.columns (positions t) (rows_of t c.args.i) (rows_of t c.args.e) p q false
            (apart p (rows_of t c.args.i right) q (rows_of t c.args.e right)
            (positive_of (rows_of t c.args.i c.args.column) x.0)
            (positive_of (rows_of t c.args.e c.args.column) c.requires.e_below.0) high c.requires.e_below.1)).1 x.1
        | inr low ↦ c.if-not-is_below_zero.ensures.below.1 (x.0, low)
      ],
    )

pub returns-clause-decides : goal.returns-clause-decides
returns-clause-decides g c =
    let t = c.args.self.now in
    let below = c.if-not-is_below_zero.ensures.below.0 refl in (
      (λ h. (
        below.0,
        c.comes_lower.ensures.decides.0 h,
        below_negative t.columns (positions t) (rows_of t c.args.i) below.1,
      )),
      λ x. c.comes_lower.ensures.decides.1 x.1,
    )

pub returns-clause-below : goal.returns-clause-below
returns-clause-below g c = λ h. c.if-not-is_below_zero.ensures.below.0 refl
