use Rattle.std.proofs.Common.{◌≡◌, ℕ, ◌+◌, ◌∙◌, subst, ap, arith}
use Rattle.std.specs.Option.{MatchOption}
use Rattle.rob_linear.specs.Beside.{IsLeast, HasNoLeast}
use Rattle.rob_simplex.specs.Dictionaries.{Table, positions, rows_of, shape}
use Rattle.rob_simplex.proofs.dictionary.Dictionary.least_by.Goals as goal

pub returns-in-Some-clause-least : goal.returns-in-Some-clause-least
returns-in-Some-clause-least g c =
    let t = c.args.self.now in
    let en : c.self.inside.columns ≡ c.args.self.now.columns = ap (λ (t : Table). t.columns) c.self.view_is in
    let em : c.len-m.result ≡ positions c.args.self.now =
    c.len-m.ensures ∙ c.self.inside.basis.ok.0 ∙ ap (λ (t : Table). positions t) c.self.view_is in
    let ec : c.self.inside.columns + c.len-m.result ≡ c.args.self.now.columns + positions c.args.self.now =
    omega arith in
    subst (λ (k : ℕ). IsLeast (shape t.columns (positions t)) k (rows_of t) c.least_below.result) ec
    c.least_below.ensures.least

pub returns-in-None-clause-least : goal.returns-in-None-clause-least
returns-in-None-clause-least g c =
    let t = c.args.self.now in
    let en : c.self.inside.columns ≡ c.args.self.now.columns = ap (λ (t : Table). t.columns) c.self.view_is in
    let em : c.len-m.result ≡ positions c.args.self.now =
    c.len-m.ensures ∙ c.self.inside.basis.ok.0 ∙ ap (λ (t : Table). positions t) c.self.view_is in
    let ec : c.self.inside.columns + c.len-m.result ≡ c.args.self.now.columns + positions c.args.self.now =
    omega arith in
    subst (λ (k : ℕ). MatchOption c.least_negative.result (HasNoLeast (shape t.columns (positions t)) k (rows_of t))
    (λ e. IsLeast (shape t.columns (positions t)) k (rows_of t) e)) ec c.least_negative.ensures.least
