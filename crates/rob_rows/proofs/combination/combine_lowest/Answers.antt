use Rattle.std.proofs.Common.{◌≡◌, ◌∙◌, ap, sym, subst, arith, rules, pos, OnOk, OnErr}
use Rattle.rob_rows.specs.PrimitiveParts.{combination, IsPrimitivePart, HasWidePart}
use Rattle.rob_rows.proofs.Combinations.{combination-first}
use Rattle.rob_rows.proofs.combination.combine_lowest.Goals as goal

pub returns-then-factors-eq0-clause-part : goal.returns-then-factors-eq0-clause-part
returns-then-factors-eq0-clause-part c =
    let one : c.args.factors.p ≡ pos 1 = search rules in
    let none : c.args.factors.q ≡ pos 0 = search rules in
    let whole : c.copy_from_slice.new.self
    ≡ combination c.args.factors.p c.args.top.now c.args.factors.q c.args.low.now =
    c.copy_from_slice.ensures.after ∙ sym (combination-first c.args.top.now c.args.low.now (omega arith))
    ∙ ap (λ t. combination t c.args.top.now (pos 0) c.args.low.now) (sym one)
    ∙ ap (λ t. combination c.args.factors.p c.args.top.now t c.args.low.now) (sym none) in
    subst (λ t. OnOk c.reduce.result (IsPrimitivePart c.reduce.new.row t)) whole c.reduce.ensures.part

pub returns-then-factors-eq0-clause-wide : goal.returns-then-factors-eq0-clause-wide
returns-then-factors-eq0-clause-wide c =
    let one : c.args.factors.p ≡ pos 1 = search rules in
    let none : c.args.factors.q ≡ pos 0 = search rules in
    let whole : c.copy_from_slice.new.self
    ≡ combination c.args.factors.p c.args.top.now c.args.factors.q c.args.low.now =
    c.copy_from_slice.ensures.after ∙ sym (combination-first c.args.top.now c.args.low.now (omega arith))
    ∙ ap (λ t. combination t c.args.top.now (pos 0) c.args.low.now) (sym one)
    ∙ ap (λ t. combination c.args.factors.p c.args.top.now t c.args.low.now) (sym none) in
    subst (λ t. OnErr c.reduce.result (HasWidePart c.args.limit t)) whole c.reduce.ensures.wide
