use Rattle.std.proofs.Common.{◌≡◌, ◌+◌, ◌∙◌, refl, ap, subst, arith, pos}
use Rattle.rob_simplex.specs.Dictionaries.{Table, positions, rows_of}
use Rattle.rob_simplex.specs.FreeSlacks.{lead}
use Rattle.rob_simplex.proofs.Leaving.RatioLemmas.{first_found}
use Rattle.rob_simplex.proofs.dictionary.Dictionary.comes_before.Goals as goal

pub returns-in-Some : goal.returns-in-Some
returns-in-Some g c =
    let t = c.args.self.now in
    let en : c.self.inside.columns ≡ c.args.self.now.columns = ap (λ (t : Table). t.columns) c.self.view_is in
    let em : c.len-m.result ≡ positions c.args.self.now =
    c.len-m.ensures ∙ c.self.inside.basis.ok.0 ∙ ap (λ (t : Table). positions t) c.self.view_is in
    record {
      decides =
          first_found (rows_of t c.args.i) (rows_of t c.args.e) t.columns (positions t)
          (c.self.inside.columns + c.len-m.result + 2) (g.E.Entry.value c.args.p) (g.E.Entry.value c.args.q)
          (g.E.Entry.value c.args.p) (g.E.Entry.value c.args.q) c.in-Some.less refl refl
          (omega arith) c.in-Some.ensures.order;
    }

pub comes_before_tied-requires-clause-tied : goal.comes_before_tied-requires-clause-tied
comes_before_tied-requires-clause-tied g c =
    let t = c.args.self.now in
    let en : c.self.inside.columns ≡ c.args.self.now.columns = ap (λ (t : Table). t.columns) c.self.view_is in
    let em : c.len-m.result ≡ positions c.args.self.now =
    c.len-m.ensures ∙ c.self.inside.basis.ok.0 ∙ ap (λ (t : Table). positions t) c.self.view_is in
    let there : c.self.inside.columns + c.len-m.result + 2
    ≡ c.args.self.now.columns + positions c.args.self.now + 2 = omega arith in
    subst (λ n. lead t c.args.i (g.E.Entry.value c.args.p) c.args.e (g.E.Entry.value c.args.q) n ≡ pos 0) there
    c.in-None.ensures.order
