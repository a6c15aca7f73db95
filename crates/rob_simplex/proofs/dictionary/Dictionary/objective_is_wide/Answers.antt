use Rattle.std.proofs.Common.{◌≡◌, ◌+◌, ap, ◌∙◌, arith}
use Rattle.rob_algebra.specs.Width.{Fits}
use Rattle.rob_simplex.specs.Dictionaries.{Table, positions}
use Rattle.rob_simplex.specs.Judging.{ratio_of, objective_column}
use Rattle.rob_simplex.proofs.Telling.JudgingLemmas.{value_is_wide, dual_is_wide, dual_fits, fits_more}
use Rattle.rob_simplex.proofs.dictionary.Dictionary.objective_is_wide.Goals as goal

pub returns-then-is_wide_over-clause-wide : goal.returns-then-is_wide_over-clause-wide
returns-then-is_wide_over-clause-wide g c =
    let em : c.len-m.result ≡ positions c.args.self.now =
    c.len-m.ensures ∙ c.self.inside.basis.ok.0 ∙ ap (λ (t : Table). positions t) c.self.view_is in
    let en : c.self.inside.columns ≡ c.args.self.now.columns = ap (λ (t : Table). t.columns) c.self.view_is in
    value_is_wide g.N.Exact.limit c.args.self.now c.len-m.result (c.self.inside.columns + c.len-m.result + 2)
    (c.self.inside.columns + c.len-m.result + 1) em (omega (arith, em, en)) (omega (arith, em, en))
    c.if-is_wide_over.ensures.wide

pub returns-then-is_wide_over-2-clause-wide : goal.returns-then-is_wide_over-2-clause-wide
returns-then-is_wide_over-2-clause-wide g c =
    let em : c.len-m.result ≡ positions c.args.self.now =
    c.len-m.ensures ∙ c.self.inside.basis.ok.0 ∙ ap (λ (t : Table). positions t) c.self.view_is in
    let en : c.self.inside.columns ≡ c.args.self.now.columns = ap (λ (t : Table). t.columns) c.self.view_is in
    dual_is_wide g.N.Exact.limit c.args.self.now c.len-m.result (c.self.inside.columns + c.loop-k.k)
    (c.self.inside.columns + c.len-m.result + 1) em (omega (arith, em, en)) c.loop-k.k
    (omega (arith, em, c.loop-k-test.true)) (omega (arith, en))
    c.if-is_wide_over-2.ensures.wide

pub loop-k-preserved : goal.loop-k-preserved
loop-k-preserved g c =
    let em : c.len-m.result ≡ positions c.args.self.now =
    c.len-m.ensures ∙ c.self.inside.basis.ok.0 ∙ ap (λ (t : Table). positions t) c.self.view_is in
    let en : c.self.inside.columns ≡ c.args.self.now.columns = ap (λ (t : Table). t.columns) c.self.view_is in
    fits_more (λ j. Fits g.N.Exact.limit
    (ratio_of c.args.self.now (positions c.args.self.now) (c.args.self.now.columns + j)
    (objective_column c.args.self.now))) c.loop-k.k c.loop-k.invariant
    (dual_fits g.N.Exact.limit c.args.self.now c.len-m.result (c.self.inside.columns + c.loop-k.k)
    (c.self.inside.columns + c.len-m.result + 1) em (omega (arith, em, en)) c.loop-k.k (omega (arith, en))
    c.if-is_wide_over-2.ensures.fits)
