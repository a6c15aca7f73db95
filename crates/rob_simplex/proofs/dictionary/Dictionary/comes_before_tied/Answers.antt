use Rattle.std.proofs.Common.{◌≡◌, ◌≤◌, ◌+◌, ◌∙◌, refl, ap, subst, arith, pos, ◌*ℤ◌, ◌-ℤ◌}
use Rattle.rob_simplex.specs.Dictionaries.{Table, positions, rows_of}
use Rattle.rob_simplex.proofs.Leaving.RatioLemmas.{later_found, none_found, zeros_more}
use Rattle.rob_simplex.proofs.dictionary.Dictionary.comes_before_tied.Goals as goal

pub returns-in-Some : goal.returns-in-Some
returns-in-Some g c =
    let t = c.args.self.now in
    let found = c.in-Some.ensures.order in
    record {
      decides =
          later_found (rows_of t c.args.i) (rows_of t c.args.e) t.columns (positions t) t.columns
          (t.columns + positions t + 2) found.0 (g.E.Entry.value c.args.p) (g.E.Entry.value c.args.q)
          (g.E.Entry.value c.args.p) (g.E.Entry.value c.args.q)
          c.in-Some.less refl refl refl refl found.1 c.requires.tied found.2 found.3;
    }

pub returns-in-Some-is_less_at : goal.returns-in-Some-is_less_at
returns-in-Some-is_less_at g c =
    let t = c.args.self.now in
    let en : c.self.inside.columns ≡ c.args.self.now.columns = ap (λ (t : Table). t.columns) c.self.view_is in
    let em : c.len-m.result ≡ positions c.args.self.now =
    c.len-m.ensures ∙ c.self.inside.basis.ok.0 ∙ ap (λ (t : Table). positions t) c.self.view_is in
    record {
      decides =
          later_found (rows_of t c.args.i) (rows_of t c.args.e) t.columns (positions t) c.self.inside.columns
          (t.columns + positions t + 2) c.loop-k.k (g.E.Entry.value c.args.p) (g.E.Entry.value c.args.q)
          (g.E.Entry.value c.args.p) (g.E.Entry.value c.args.q)
          c.in-Some-is_less_at.less refl refl en refl (omega arith) c.requires.tied c.loop-k.invariant
          c.in-Some-is_less_at.ensures.order;
    }

pub loop-k-preserved : goal.loop-k-preserved
loop-k-preserved g c =
    let t = c.args.self.now in
    let p = g.E.Entry.value c.args.p in
    let q = g.E.Entry.value c.args.q in
    let en : c.self.inside.columns ≡ c.args.self.now.columns = ap (λ (t : Table). t.columns) c.self.view_is in
    zeros_more (λ j. (p *ℤ rows_of t c.args.e (t.columns + j)) -ℤ (q *ℤ rows_of t c.args.i (t.columns + j))) c.loop-k.k
    c.loop-k.invariant
    (subst (λ n. (p *ℤ rows_of t c.args.e (n + c.loop-k.k)) -ℤ (q *ℤ rows_of t c.args.i (n + c.loop-k.k)) ≡ pos 0) en
    c.in-None-is_less_at.ensures.order)

pub returns : goal.returns
returns g c =
    let t = c.args.self.now in
    let em : c.len-m.result ≡ positions c.args.self.now =
    c.len-m.ensures ∙ c.self.inside.basis.ok.0 ∙ ap (λ (t : Table). positions t) c.self.view_is in
    let low : c.before_own-before.result ≤ c.args.free.seen = c.before_own-before.ensures.few in
    let few : c.args.free.seen ≤ positions c.args.self.now = c.requires.free.within in
    record {
      decides =
          none_found (rows_of t c.args.i) (rows_of t c.args.e) t.columns (positions t) c.loop-k.k
          (t.columns + positions t + 2) (g.E.Entry.value c.args.p) (g.E.Entry.value c.args.q)
          (g.E.Entry.value c.args.p) (g.E.Entry.value c.args.q) refl refl refl (omega arith)
          c.requires.tied c.loop-k.invariant;
    }
