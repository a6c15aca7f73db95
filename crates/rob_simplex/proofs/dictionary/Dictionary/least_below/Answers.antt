use Rattle.std.proofs.Common.{◌≡◌, ℕ, ◌+◌, ◌-◌, ◌∙◌, sym, subst, ap, arith, true, false, Some}
use Rattle.rob_simplex.specs.Dictionaries.{Table, positions, rows_of}
use Rattle.rob_simplex.specs.LeastRows.{IsBelowZero}
use Rattle.rob_simplex.proofs.Leaving.LeastRows.{IsLeastSoFar, least_begins, least_takes, least_keeps, least_of_all, may_be_least}
use Rattle.rob_simplex.proofs.dictionary.Dictionary.least_below.Goals as goal
use Rattle.rob_simplex.proofs.dictionary.Dictionary.least_below.Goals.{then-is_below_best, else-is_below_best}

pub loop-passed-init : goal.loop-passed-init
loop-passed-init g c =
    let t = c.args.self.now in
    record {
      least =
          least_begins t.columns (positions t) (rows_of t) c.args.column (Some c.args.first)
          (c.requires.first_in, may_be_least t c.args.column c.args.first c.requires.below);
      below = c.requires.below;
    }

pub loop-passed-preserved : goal.loop-passed-preserved
loop-passed-preserved g c =
    let t = c.args.self.now in
    let n = c.args.self.now.columns in
    let m = positions c.args.self.now in
    let i = c.len-m.result - 1 - c.loop-passed.passed in
    let best = c.loop-passed.best in
    let k = c.loop-passed.passed in
    let em : c.len-m.result ≡ positions c.args.self.now =
    c.len-m.ensures ∙ c.self.inside.basis.ok.0 ∙ ap (λ (t : Table). positions t) c.self.view_is in
    let il : (c.len-m.result - 1 - c.loop-passed.passed) + (c.loop-passed.passed + 1) ≡ positions c.args.self.now =
    omega arith in
    let h = c.loop-passed.invariant in
    elim c.if-is_below_best.branch [
      | then-is_below_best w ↦ record {
        least =
            subst (λ (b : ℕ). IsLeastSoFar n m (rows_of t) c.args.column (k + 1) (Some b)) (sym w.best-is)
            (least_takes n m (rows_of t) c.args.column k i (Some best) il h.least
            (c.is_below_best.ensures.decides.0 w.if-is_below_best.true));
        below =
            subst (λ (b : ℕ). IsBelowZero t c.args.column b) (sym w.best-is)
            (c.is_below_best.ensures.below w.if-is_below_best.true);
      }
      | else-is_below_best w ↦ record {
        least =
            subst (λ (b : ℕ). IsLeastSoFar n m (rows_of t) c.args.column (k + 1) (Some b)) (sym w.best-is)
            (least_keeps n m (rows_of t) c.args.column k i (Some best) il h.least
            (λ x. let y : c.is_below_best.result ≡ true = c.is_below_best.ensures.decides.1 x in
            let f : c.is_below_best.result ≡ false = w.if-is_below_best.false in cc));
        below = subst (λ (b : ℕ). IsBelowZero t c.args.column b) (sym w.best-is) h.below;
      }
    ]

pub returns : goal.returns
returns g c =
    let t = c.args.self.now in
    let em : c.len-m.result ≡ positions c.args.self.now =
    c.len-m.ensures ∙ c.self.inside.basis.ok.0 ∙ ap (λ (t : Table). positions t) c.self.view_is in
    let e : c.loop-passed.passed ≡ positions c.args.self.now = omega arith in
    record {
      least =
          least_of_all t.columns (positions t) (rows_of t) c.args.column (Some c.loop-passed.best)
          (subst (λ (k : ℕ). IsLeastSoFar t.columns (positions t) (rows_of t) c.args.column k (Some c.loop-passed.best))
          e c.loop-passed.invariant.least);
    }
