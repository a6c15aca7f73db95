use Rattle.std.proofs.Common.{◌≡◌, ◌+◌, ◌∙◌, refl, ap, sym, subst, arith, pos}
use lib.IntN.{ℤ}
use lib.Signed.{◌<ℤ◌}
use Rattle.rob_simplex.specs.Dictionaries.{Table, positions, rows_of}
use Rattle.rob_simplex.proofs.Leaving.LeastRows.{negative_of, positive_of}
use Rattle.rob_simplex.proofs.dictionary.Dictionary.is_below_zero.Goals as goal

pub returns-then-not-is_positive : goal.returns-then-not-is_positive
returns-then-not-is_positive g c =
    let t = c.args.self.now in
    record {
      below = (
        (λ h. absurd (cc)),
        λ x. c.if-not-is_positive.ensures.positive.1 (subst (λ (z : ℤ). pos 0 <ℤ z) (sym c.minus_entry.ensures.entry)
            (positive_of (rows_of t c.args.i c.args.column) x.0)),
      );
    }

pub returns-then-not-is_positive-2 : goal.returns-then-not-is_positive-2
returns-then-not-is_positive-2 g c =
    let t = c.args.self.now in
    let en : c.self.inside.columns ≡ c.args.self.now.columns = ap (λ (t : Table). t.columns) c.self.view_is in
    let em : c.len.result ≡ positions c.args.self.now =
    c.len.ensures ∙ c.self.inside.basis.ok.0 ∙ ap (λ (t : Table). positions t) c.self.view_is in
    let there : c.args.self.now.columns + positions c.args.self.now + 2
    ≡ c.self.inside.columns + c.len.result + 2 = omega arith in
    record {
      below = (
        (λ h. absurd (cc)),
        λ x. c.if-not-is_positive-2.ensures.positive.1
            (subst (λ (z : ℤ). pos 0 <ℤ z) (sym c.minus_entry-2.ensures.entry)
            (positive_of (rows_of t c.args.i (c.self.inside.columns + c.len.result + 2))
            (subst (λ k. rows_of t c.args.i k <ℤ pos 0) there x.1))),
      );
    }

pub returns : goal.returns
returns g c =
    let t = c.args.self.now in
    let en : c.self.inside.columns ≡ c.args.self.now.columns = ap (λ (t : Table). t.columns) c.self.view_is in
    let em : c.len.result ≡ positions c.args.self.now =
    c.len.ensures ∙ c.self.inside.basis.ok.0 ∙ ap (λ (t : Table). positions t) c.self.view_is in
    let there : c.self.inside.columns + c.len.result + 2
    ≡ c.args.self.now.columns + positions c.args.self.now + 2 = omega arith in
    let entry =
    subst (λ (z : ℤ). pos 0 <ℤ z) c.minus_entry.ensures.entry (c.if-not-is_positive.ensures.positive.0 refl) in
    let right =
    subst (λ (z : ℤ). pos 0 <ℤ z) c.minus_entry-2.ensures.entry (c.if-not-is_positive-2.ensures.positive.0 refl) in
    record {
      below = (
        (λ h. (
          negative_of (rows_of t c.args.i c.args.column) entry,
          subst (λ k. rows_of t c.args.i k <ℤ pos 0) there
              (negative_of (rows_of t c.args.i (c.self.inside.columns + c.len.result + 2)) right),
        )),
        λ x. refl,
      );
    }
