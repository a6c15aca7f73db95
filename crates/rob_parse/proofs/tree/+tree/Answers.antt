use Rattle.std.proofs.Common.{ap, ◌∙◌}
use Rattle.rob_number.proofs.CountLemmas.{only_later}
use Rattle.rob_model.specs.View.{expression_of, signed_of, terms_of, factors_of}
use Rattle.rob_model.proofs.PartLemmas.{signed_is}
use Rattle.rob_parse.proofs.Building.MapLemmas.{map_step, map_end, signed_at, signed_same, factor_at, factor_same, terms_are, factors_are, summands_fit, operands_fit}
use Rattle.rob_parse.proofs.tree.+tree.Goals as goal

pub terms-loop-part-preserved : goal.terms-loop-part-preserved
terms-loop-part-preserved g t c =
    let value = g.N.Exact.value in
    record {
      read =
          map_step (signed_of value) (signed_at c.args.sorts.now c.args.place.count c.args.place.set) c.loop-part.list
          c.args.parts.now c.loop-part.part-index c.part-item.result _ c.loop-part-test.true c.part-item.is
          (signed_is value _ ∙ signed_same c.args.sorts.now c.args.place.count c.args.place.set c.part-item.result
          c.in_ok-inner.ensures.read) c.in_ok-push.ensures.appended c.loop-part.invariant.read;
      fits =
          (summands_fit g.N.Exact.limit c.args.parts.now c.loop-part.part-index c.part-item.result c.loop-part-test.true
          c.part-item.is c.loop-part.invariant.fits).1;
      counted = only_later c.loop-part.invariant.counted c.expression.ensures.counted;
    }

pub terms-returns-clause-read : goal.terms-returns-clause-read
terms-returns-clause-read g t c =
    ap terms_of (map_end (signed_of g.N.Exact.value) (signed_at c.args.sorts.now c.args.place.count c.args.place.set)
    c.loop-part.list c.args.parts.now c.loop-part.part-index c.loop-part-test.false c.loop-part.invariant.read)
    ∙ terms_are c.args.sorts.now c.args.place.count c.args.place.set c.args.parts.now

pub factors-loop-tree-preserved : goal.factors-loop-tree-preserved
factors-loop-tree-preserved g t c =
    let value = g.N.Exact.value in
    record {
      read =
          map_step (expression_of value) (factor_at c.args.sorts.now c.args.place.count c.args.place.set)
          c.loop-tree.list c.args.trees.now c.loop-tree.tree-index c.tree-item.result _ c.loop-tree-test.true
          c.tree-item.is
          (factor_same c.args.sorts.now c.args.place.count c.args.place.set c.tree-item.result
          c.in_ok-factor.ensures.read) c.in_ok-push.ensures.appended c.loop-tree.invariant.read;
      fits =
          (operands_fit g.N.Exact.limit c.args.trees.now c.loop-tree.tree-index c.tree-item.result c.loop-tree-test.true
          c.tree-item.is c.loop-tree.invariant.fits).1;
      counted = only_later c.loop-tree.invariant.counted c.expression.ensures.counted;
    }

pub factors-returns-clause-read : goal.factors-returns-clause-read
factors-returns-clause-read g t c =
    ap factors_of (map_end (expression_of g.N.Exact.value)
    (factor_at c.args.sorts.now c.args.place.count c.args.place.set) c.loop-tree.list c.args.trees.now
    c.loop-tree.tree-index c.loop-tree-test.false c.loop-tree.invariant.read)
    ∙ factors_are c.args.sorts.now c.args.place.count c.args.place.set c.args.trees.now
