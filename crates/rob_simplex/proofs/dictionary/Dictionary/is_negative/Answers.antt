use Rattle.std.proofs.Common.{◌≡◌, ◌+◌, ◌∙◌, sym, subst, ap, arith, pos, neg_ℤ}
use lib.IntN.{ℤ}
use Rattle.rob_simplex.specs.Dictionaries.{Table, positions, rows_of, Decided}
use Rattle.rob_simplex.proofs.Leaving.RatioLemmas.{zeros_more}
use Rattle.rob_simplex.proofs.Leaving.LeastRows.{right_decides, slack_decides, none_decides}
use Rattle.rob_simplex.proofs.dictionary.Dictionary.is_negative.Goals as goal

pub returns-in-Some : goal.returns-in-Some
returns-in-Some g c =
    let t = c.args.self.now in
    let en : c.self.inside.columns ≡ c.args.self.now.columns = ap (λ (t : Table). t.columns) c.self.view_is in
    let em : c.len-m.result ≡ positions c.args.self.now =
    c.len-m.ensures ∙ c.self.inside.basis.ok.0 ∙ ap (λ (t : Table). positions t) c.self.view_is in
    record {
      decides =
          right_decides t.columns (positions t) (rows_of t c.args.i) (c.self.inside.columns + c.len-m.result + 2)
          c.in-Some.below (omega arith)
          (subst (λ (z : ℤ). Decided c.in-Some.below (neg_ℤ z)) c.dense_entry.ensures.entry c.in-Some.ensures.sign);
    }

pub returns-in-Some-is_below : goal.returns-in-Some-is_below
returns-in-Some-is_below g c =
    let t = c.args.self.now in
    let en : c.self.inside.columns ≡ c.args.self.now.columns = ap (λ (t : Table). t.columns) c.self.view_is in
    let em : c.len-m.result ≡ positions c.args.self.now =
    c.len-m.ensures ∙ c.self.inside.basis.ok.0 ∙ ap (λ (t : Table). positions t) c.self.view_is in
    record {
      decides =
          slack_decides t.columns (positions t) (rows_of t c.args.i) (c.self.inside.columns + c.len-m.result + 2)
          (c.self.inside.columns + c.loop-k.k) c.loop-k.k c.in-Some-is_below.below (omega arith) (omega arith)
          (omega arith)
          (sym c.dense_entry.ensures.entry ∙ c.in-None.ensures.sign) c.loop-k.invariant
          (subst (λ (z : ℤ). Decided c.in-Some-is_below.below (neg_ℤ z)) c.entry.ensures.entry
          c.in-Some-is_below.ensures.sign);
    }

pub loop-k-preserved : goal.loop-k-preserved
loop-k-preserved g c =
    let t = c.args.self.now in
    let en : c.self.inside.columns ≡ c.args.self.now.columns = ap (λ (t : Table). t.columns) c.self.view_is in
    zeros_more (λ j. rows_of t c.args.i (t.columns + j)) c.loop-k.k c.loop-k.invariant
    (subst (λ n. rows_of t c.args.i (n + c.loop-k.k) ≡ pos 0) en
    (sym c.entry.ensures.entry ∙ c.in-None-is_below.ensures.sign))

pub returns : goal.returns
returns g c =
    let t = c.args.self.now in
    let en : c.self.inside.columns ≡ c.args.self.now.columns = ap (λ (t : Table). t.columns) c.self.view_is in
    let em : c.len-m.result ≡ positions c.args.self.now =
    c.len-m.ensures ∙ c.self.inside.basis.ok.0 ∙ ap (λ (t : Table). positions t) c.self.view_is in
    record {
      decides =
          none_decides t.columns (positions t) (rows_of t c.args.i) (c.self.inside.columns + c.len-m.result + 2)
          c.loop-k.k (omega arith) (omega arith) (sym c.dense_entry.ensures.entry ∙ c.in-None.ensures.sign)
          c.loop-k.invariant;
    }
