use Rattle.std.proofs.Common.{◌≡◌, ◌+◌, ap, subst, pos}
use Rattle.std.specs.Option.{MatchOption}
use Rattle.rob_simplex.specs.Dictionaries.{Table, Decided, rows_of}
use Rattle.rob_simplex.specs.FreeSlacks.{lead}
use Rattle.rob_simplex.proofs.Leaving.RatioLemmas.{both_zero}
use Rattle.rob_simplex.proofs.dictionary.Dictionary.is_less_marked.Goals as goal

pub returns-then-is_some_in : goal.returns-then-is_some_in
returns-then-is_some_in g c =
    let t = c.args.self.now in
    let p = g.E.Entry.value c.args.p in
    let q = g.E.Entry.value c.args.q in
    let en : c.self.inside.columns ≡ c.args.self.now.columns = ap (λ (t : Table). t.columns) c.self.view_is in
    record {
      order =
          subst (λ n. MatchOption c.is_less_at.result (lead t c.args.i p c.args.e q (n + c.args.k) ≡ pos 0)
          (λ less. Decided less (lead t c.args.i p c.args.e q (n + c.args.k)))) en c.is_less_at.ensures.order;
    }

pub returns : goal.returns
returns g c =
    let t = c.args.self.now in
    let en : c.self.inside.columns ≡ c.args.self.now.columns = ap (λ (t : Table). t.columns) c.self.view_is in
    record {
      order =
          both_zero (rows_of t c.args.i (t.columns + c.args.k)) (g.E.Entry.value c.args.p)
          (rows_of t c.args.e (t.columns + c.args.k)) (g.E.Entry.value c.args.q)
          (subst (λ n. rows_of t c.args.i (n + c.args.k) ≡ pos 0) en
          (c.is_some_in.ensures.i_zero c.if-is_some_in.false))
          (subst (λ n. rows_of t c.args.e (n + c.args.k) ≡ pos 0) en
          (c.is_some_in.ensures.e_zero c.if-is_some_in.false));
    }
