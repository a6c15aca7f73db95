use Rattle.std.proofs.Common.{◌≡◌, ℕ, ◌+◌, ◌-◌, ◌∙◌, sym, subst, ap, arith, true, false}
use Rattle.rob_simplex.specs.Dictionaries.{Table, positions, rows_of, GoesFirst}
use Rattle.rob_simplex.proofs.Leaving.RatioTests.{IsFirstSoFar, first_takes, first_keeps, first_of_all}
use Rattle.rob_simplex.proofs.dictionary.Dictionary.leaving_by.Goals as goal
use Rattle.rob_simplex.proofs.dictionary.Dictionary.leaving_by.Goals.{then-goes_first, else-goes_first}

pub loop-passed-preserved : goal.loop-passed-preserved
loop-passed-preserved g c =
    let t = c.args.self.now in
    let n = c.args.self.now.columns in
    let m = positions c.args.self.now in
    let em : c.len-m.result ≡ positions c.args.self.now =
    c.len-m.ensures ∙ c.self.inside.basis.ok.0 ∙ ap (λ (t : Table). positions t) c.self.view_is in
    let il : (c.len-m.result - 1 - c.loop-passed.passed) + (c.loop-passed.passed + 1) ≡ positions c.args.self.now =
    omega arith in
    elim c.if-goes_first.branch [
      | then-goes_first w ↦
          let h : GoesFirst c.args.self.now.columns (positions c.args.self.now) (rows_of c.args.self.now) c.args.column
          (c.len-m.result - 1 - c.loop-passed.passed) c.loop-passed.best =
          c.goes_first.ensures.decides.0 w.if-goes_first.true in
          subst (λ t. IsFirstSoFar c.args.self.now.columns (positions c.args.self.now) (rows_of c.args.self.now)
          c.args.column (c.loop-passed.passed + 1) t) (sym w.best-is)
          (first_takes n m (rows_of c.args.self.now) c.args.column c.loop-passed.passed
          (c.len-m.result - 1 - c.loop-passed.passed) c.loop-passed.best il c.loop-passed.invariant h)
      | else-goes_first w ↦
          subst (λ t. IsFirstSoFar c.args.self.now.columns (positions c.args.self.now) (rows_of c.args.self.now)
          c.args.column (c.loop-passed.passed + 1) t) (sym w.best-is)
          (first_keeps n m (rows_of c.args.self.now) c.args.column c.loop-passed.passed
          (c.len-m.result - 1 - c.loop-passed.passed) c.loop-passed.best il c.loop-passed.invariant
          (λ x. let t : c.goes_first.result ≡ true =
          c.goes_first.ensures.decides.1 x in let f : c.goes_first.result ≡ false = w.if-goes_first.false in cc))
    ]

pub returns : goal.returns
returns g c =
    let em : c.len-m.result ≡ positions c.args.self.now =
    c.len-m.ensures ∙ c.self.inside.basis.ok.0 ∙ ap (λ (t : Table). positions t) c.self.view_is in
    let e : c.loop-passed.passed ≡ positions c.args.self.now = omega arith in
    record {
      first =
          first_of_all c.args.self.now.columns (positions c.args.self.now) (rows_of c.args.self.now) c.args.column
          c.loop-passed.best
          (subst (λ (k : ℕ). IsFirstSoFar c.args.self.now.columns (positions c.args.self.now) (rows_of c.args.self.now)
          c.args.column k c.loop-passed.best) e c.loop-passed.invariant);
    }
