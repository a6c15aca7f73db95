use Rattle.std.proofs.lemmas.Result.{err_from_is_err_and}
use Rattle.std.proofs.Common.{◌≡◌, ◌<◌, arith, ap, get_or, length, map, subst, sym, ◌∙◌}
use Rattle.std.specs.Prelude.{Some}
use Rattle.rob_meaning.specs.WellFormed.{IsSetLine}
use Rattle.rob_model.specs.View.{robust, set_line_of}
use Rattle.rob_model.proofs.ConditionLemmas.{statement_stops, statement_fails, statement_holds}
use Rattle.rob_model.proofs.PartLemmas.{each_at_map}
use Rattle.rob_model.proofs.statements.broken_statement.Goals as goal

pub holds-requires-clause-line : goal.holds-requires-clause-line
holds-requires-clause-line g c =
    let value = g.N.Exact.value in
    let same = c.items-line-items.ensures.list in
    (each_at_map (IsSetLine (robust value c.args.model.now)) (set_line_of value) c.args.model.now.set_lines
    c.loop-line.line-index c.line-item.result
    (subst (λ l. c.loop-line.line-index < length l) same c.loop-line-test.true)
    (subst (λ l. c.line-item.result ≡ get_or l c.loop-line.line-index c.line-item.result) same c.line-item.is)
    c.loop-line.invariant.lines).0

pub overflow_add-index : goal.overflow_add-index
overflow_add-index g c =
    let same = c.items-line-items.ensures.list in
    omega (
      arith,
      c.loop-line.invariant.number,
      c.requires.small,
      subst (λ l. c.loop-line.line-index < length l) same c.loop-line-test.true,
    )

pub returns-in_err-holds-clause-exact : goal.returns-in_err-holds-clause-exact
returns-in_err-holds-clause-exact g c =
    let value = g.N.Exact.value in
    let same = c.items-line-items.ensures.list in
    let p = err_from_is_err_and c.from_residual.result c.from_residual.ensures.1 in
    rw p.1 (statement_stops g.N.Exact.limit (robust value c.args.model.now) (value c.args.base)
    (map value c.args.vector.now) value c.args.model.now.set_lines c.loop-line.line-index c.loop-line.index
    c.line-item.result (subst (λ l. c.loop-line.line-index < length l) same c.loop-line-test.true)
    (subst (λ l. c.line-item.result ≡ get_or l c.loop-line.line-index c.line-item.result) same c.line-item.is)
    c.in_err-holds.ensures.exact
    ∙ c.loop-line.invariant.rest)

pub returns-then-not-branch-clause-exact : goal.returns-then-not-branch-clause-exact
returns-then-not-branch-clause-exact g c =
    let value = g.N.Exact.value in
    let same = c.items-line-items.ensures.list in
    statement_fails g.N.Exact.limit (robust value c.args.model.now) (value c.args.base)
    (map value c.args.vector.now) value c.args.model.now.set_lines c.loop-line.line-index c.loop-line.index
    c.line-item.result (subst (λ l. c.loop-line.line-index < length l) same c.loop-line-test.true)
    (subst (λ l. c.line-item.result ≡ get_or l c.loop-line.line-index c.line-item.result) same c.line-item.is)
    (ap Some (sym c.if-not-branch.true) ∙ c.in_ok-holds.ensures.exact)
    ∙ c.loop-line.invariant.rest

pub loop-line-preserved : goal.loop-line-preserved
loop-line-preserved g c =
    let value = g.N.Exact.value in
    let same = c.items-line-items.ensures.list in
    let inside = subst (λ l. c.loop-line.line-index < length l) same c.loop-line-test.true in
    let is = subst (λ l. c.line-item.result ≡ get_or l c.loop-line.line-index c.line-item.result) same c.line-item.is in
    record {
      rest = statement_holds g.N.Exact.limit (robust value c.args.model.now) (value c.args.base)
          (map value c.args.vector.now) value c.args.model.now.set_lines c.loop-line.line-index c.loop-line.index
          c.line-item.result inside is
          (ap Some (sym c.if-not-branch.false) ∙ c.in_ok-holds.ensures.exact)
          ∙ c.loop-line.invariant.rest;
      lines = (each_at_map (IsSetLine (robust value c.args.model.now)) (set_line_of value) c.args.model.now.set_lines
          c.loop-line.line-index c.line-item.result inside is c.loop-line.invariant.lines).1;
      number = omega (arith, c.loop-line.invariant.number);
      counted = record {
        ops = omega (arith, c.loop-line.invariant.counted.ops, c.in_ok-holds.ensures.counted.ops);
        wides = omega (arith, c.loop-line.invariant.counted.wides, c.in_ok-holds.ensures.counted.told.never_fell);
      };
    }
