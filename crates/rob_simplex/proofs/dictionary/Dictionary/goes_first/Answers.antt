use Rattle.std.proofs.Common.{ℕ, refl, sym, subst, pos, IsTrue, ◌↔◌, Option}
use lib.IntN.{ℤ}
use lib.Signed.{◌<ℤ◌}
use Rattle.rob_linear.specs.Turns.{ComesBefore}
use Rattle.rob_simplex.specs.Dictionaries.{positions, rows_of, shape, GoesFirst}
use Rattle.rob_simplex.proofs.dictionary.Dictionary.goes_first.Goals as goal

pub returns-in-Some : goal.returns-in-Some
returns-in-Some g c =
    let t = c.args.self.now in
    let S = shape t.columns (positions t) in
    let d : IsTrue c.comes_before.result ↔ ComesBefore (shape c.args.self.now.columns (positions c.args.self.now))
    (rows_of c.args.self.now c.args.i) (rows_of c.args.self.now c.args.i c.args.column)
    (rows_of c.args.self.now c.in-Some.e) (rows_of c.args.self.now c.in-Some.e c.args.column) =
    subst (λ (q : ℤ). IsTrue c.comes_before.result ↔ ComesBefore S (rows_of t c.args.i)
    (rows_of t c.args.i c.args.column) (rows_of t c.in-Some.e) q) c.entry.ensures.entry
    (subst (λ (p : ℤ). IsTrue c.comes_before.result ↔ ComesBefore S (rows_of t c.args.i) p (rows_of t c.in-Some.e)
    (g.E.Entry.value c.entry.result)) c.entry-entry.ensures.entry c.comes_before.ensures.decides) in
    let positive : pos 0 <ℤ rows_of c.args.self.now c.args.i c.args.column =
    subst (λ (z : ℤ). pos 0 <ℤ z) c.entry-entry.ensures.entry (c.if-not-is_positive.ensures.positive.0 refl) in
    record {
      decides =
          subst (λ (best : Option ℕ).
          IsTrue c.comes_before.result ↔ GoesFirst t.columns (positions t) (rows_of t) c.args.column c.args.i best)
          (sym c.in-Some.is)
          ((λ h. (positive, d.0 h)), λ x. d.1 x.1);
    }
