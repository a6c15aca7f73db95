use Rattle.std.proofs.Common.{◌≡◌, ◌≤◌, ◌∙◌, ◌+◌, ap, sym, subst, arith, length, List, pos, nat_abs}
use lib.IntN.{ℤ, ◌*ℤ◌}
use Rattle.rob_rows.specs.PrimitiveParts.{content}
use Rattle.rob_linear.specs.Vectors.{at}
use Rattle.rob_simplex.specs.Dictionaries.{Table, positions}
use Rattle.rob_simplex.proofs.Telling.WeightLemmas.{within_from, take_whole}
use Rattle.rob_simplex.proofs.dictionary.Dictionary.lowest_slacks.Goals as goal

pub reduce-requires-clause-within : goal.reduce-requires-clause-within
reduce-requires-clause-within g c k l =
    let el : g.E.Entry.top ≡ c.args.self.now.limit = ap (λ (t : Table). t.limit) c.self.view_is in
    let em : c.len.result ≡ positions c.args.self.now =
    c.len.ensures ∙ c.self.inside.basis.ok.0 ∙ ap (λ (t : Table). positions t) c.self.view_is in
    let et : c.TOP.result ≡ g.E.Entry.top = c.TOP.ensures ∙ g.met.E.Entry.top_told in
    let ls : length c.slacks.new.weights ≡ positions c.args.self.now = c.slacks.ensures.size ∙ c.requires.size in
    let w : nat_abs (at c.slacks.new.weights (0 + k)) ≤ c.args.self.now.limit =
    subst (λ j. nat_abs (at c.slacks.new.weights j) ≤ c.args.self.now.limit) (let e : k ≡ 0 + k = omega arith in e)
    (c.slacks.ensures.within k (pos 0) (omega arith)) in
    omega (arith, w, el, et)

pub returns-clause-weights : goal.returns-clause-weights
returns-clause-weights g c =
    let el : g.E.Entry.top ≡ c.args.self.now.limit = ap (λ (t : Table). t.limit) c.self.view_is in
    let em : c.len.result ≡ positions c.args.self.now =
    c.len.ensures ∙ c.self.inside.basis.ok.0 ∙ ap (λ (t : Table). positions t) c.self.view_is in
    let et : c.TOP.result ≡ g.E.Entry.top = c.TOP.ensures ∙ g.met.E.Entry.top_told in
    let ls : length c.slacks.new.weights ≡ positions c.args.self.now = c.slacks.ensures.size ∙ c.requires.size in (
      c.reduce.ensures.row.times,
      c.reduce.ensures.row.positive,
      λ i l.
          ap (λ k. c.reduce.ensures.row.times *ℤ at c.reduce.new.self k) (let e : i ≡ 0 + i = omega arith in e)
          ∙ c.reduce.ensures.row.entries i (omega arith)
          ∙ ap (at c.slacks.new.weights) (let e : 0 + i ≡ i = omega arith in e)
          ∙ c.slacks.ensures.weights i l,
    )

pub returns-clause-lowest : goal.returns-clause-lowest
returns-clause-lowest g c =
    let el : g.E.Entry.top ≡ c.args.self.now.limit = ap (λ (t : Table). t.limit) c.self.view_is in
    let em : c.len.result ≡ positions c.args.self.now =
    c.len.ensures ∙ c.self.inside.basis.ok.0 ∙ ap (λ (t : Table). positions t) c.self.view_is in
    let et : c.TOP.result ≡ g.E.Entry.top = c.TOP.ensures ∙ g.met.E.Entry.top_told in
    let ls : length c.slacks.new.weights ≡ positions c.args.self.now = c.slacks.ensures.size ∙ c.requires.size in
    subst (λ (w : List ℤ). content w ≤ 1)
    (take_whole c.reduce.new.self c.len.result (c.reduce.ensures.size ∙ ls ∙ sym em)) c.reduce.ensures.lowest

pub returns-clause-within : goal.returns-clause-within
returns-clause-within g c =
    let el : g.E.Entry.top ≡ c.args.self.now.limit = ap (λ (t : Table). t.limit) c.self.view_is in
    let em : c.len.result ≡ positions c.args.self.now =
    c.len.ensures ∙ c.self.inside.basis.ok.0 ∙ ap (λ (t : Table). positions t) c.self.view_is in
    let et : c.TOP.result ≡ g.E.Entry.top = c.TOP.ensures ∙ g.met.E.Entry.top_told in
    let ls : length c.slacks.new.weights ≡ positions c.args.self.now = c.slacks.ensures.size ∙ c.requires.size in
    within_from c.args.self.now.limit c.reduce.new.self
    (λ i l. let b : nat_abs (at c.reduce.new.self i) ≤ c.TOP.result =
    subst (λ k. nat_abs (at c.reduce.new.self k) ≤ c.TOP.result) (let e : 0 + i ≡ i = omega arith in e)
    (c.reduce.ensures.bounded i (omega (arith, c.reduce.ensures.size))) in omega (arith, b, el, et))
