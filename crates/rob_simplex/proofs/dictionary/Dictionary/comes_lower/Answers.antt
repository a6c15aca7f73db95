use Rattle.std.proofs.Common.{subst, neg_ℤ, IsTrue, ◌↔◌}
use lib.IntN.{ℤ}
use Rattle.rob_linear.specs.Turns.{ComesBefore}
use Rattle.rob_simplex.specs.Dictionaries.{positions, rows_of, shape}
use Rattle.rob_simplex.proofs.dictionary.Dictionary.comes_lower.Goals as goal

pub returns : goal.returns
returns g c =
    let t = c.args.self.now in
    let S = shape t.columns (positions t) in
    record {
      decides =
          subst (λ (q : ℤ). IsTrue c.comes_before.result ↔ ComesBefore S (rows_of t c.args.i)
          (neg_ℤ (rows_of t c.args.i c.args.column)) (rows_of t c.args.e) q) c.minus_entry.ensures.entry
          (subst (λ (p : ℤ). IsTrue c.comes_before.result ↔ ComesBefore S (rows_of t c.args.i) p (rows_of t c.args.e)
          (g.E.Entry.value c.minus_entry.result)) c.minus_entry-divisor.ensures.entry c.comes_before.ensures.decides);
    }
