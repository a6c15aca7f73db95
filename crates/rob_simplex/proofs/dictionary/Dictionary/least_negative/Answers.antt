use Rattle.std.proofs.Common.{◌≡◌, ℕ, ◌+◌, ◌-◌, ◌∙◌, sym, subst, ap, arith, true, false, Option, None}
use Rattle.rob_simplex.specs.Dictionaries.{Table, positions, rows_of}
use Rattle.rob_simplex.proofs.Leaving.LeastRows.{IsLeastSoFar, least_begins, least_takes, least_keeps, least_of_all, lowest_within}
use Rattle.rob_simplex.proofs.dictionary.Dictionary.least_negative.Goals as goal
use Rattle.rob_simplex.proofs.dictionary.Dictionary.least_negative.Goals.{then-is_lower, else-is_lower}

pub loop-passed-init : goal.loop-passed-init
loop-passed-init g c =
    let t = c.args.self.now in
    record {
      least = least_begins t.columns (positions t) (rows_of t) c.args.column None tt;
      known = c.requires.known;
    }

pub is_lower-requires-clause-best_in : goal.is_lower-requires-clause-best_in
is_lower-requires-clause-best_in g c =
    let t = c.args.self.now in
    lowest_within t.columns (positions t) (rows_of t) c.args.column c.loop-passed.passed c.loop-passed.best
    c.loop-passed.invariant.least

pub loop-passed-preserved : goal.loop-passed-preserved
loop-passed-preserved g c =
    let t = c.args.self.now in
    let n = c.args.self.now.columns in
    let m = positions c.args.self.now in
    let i = c.len-m.result - 1 - c.loop-passed.passed in
    let best = c.loop-passed.best in
    let k = c.loop-passed.passed in
    let em : c.len-m.result ≡ positions c.args.self.now =
    c.len-m.ensures ∙ c.self.inside.basis.ok.0 ∙ ap (λ (t : Table). positions t) c.self.view_is in
    let il : (c.len-m.result - 1 - c.loop-passed.passed) + (c.loop-passed.passed + 1) ≡ positions c.args.self.now =
    omega arith in
    let h = c.loop-passed.invariant in
    record {
      least = elim c.if-is_lower.branch [
        | then-is_lower w ↦
            subst (λ (b : Option ℕ). IsLeastSoFar n m (rows_of t) c.args.column (k + 1) b) (sym w.best-is)
            (least_takes n m (rows_of t) c.args.column k i best il h.least
            (c.is_lower.ensures.decides.0 w.if-is_lower.true))
        | else-is_lower w ↦
            subst (λ (b : Option ℕ). IsLeastSoFar n m (rows_of t) c.args.column (k + 1) b) (sym w.best-is)
            (least_keeps n m (rows_of t) c.args.column k i best il h.least
            (λ x. let y : c.is_lower.result ≡ true = c.is_lower.ensures.decides.1 x in
            let f : c.is_lower.result ≡ false = w.if-is_lower.false in cc))
      ];
      known = c.is_lower.ensures.known;
    }

pub returns-clause-least : goal.returns-clause-least
returns-clause-least g c =
    let t = c.args.self.now in
    let em : c.len-m.result ≡ positions c.args.self.now =
    c.len-m.ensures ∙ c.self.inside.basis.ok.0 ∙ ap (λ (t : Table). positions t) c.self.view_is in
    let e : c.loop-passed.passed ≡ positions c.args.self.now = omega arith in
    least_of_all t.columns (positions t) (rows_of t) c.args.column c.loop-passed.best
    (subst (λ (k : ℕ). IsLeastSoFar t.columns (positions t) (rows_of t) c.args.column k c.loop-passed.best)
    e c.loop-passed.invariant.least)
