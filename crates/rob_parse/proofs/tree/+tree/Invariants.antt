use Rattle.std.proofs.Common.{◌≡◌, ◌++◌, drop, map}
use Rattle.rob_number.specs.Counts.{CountsOnly}
use Rattle.rob_model.specs.View.{expression_of, signed_of}
use Rattle.rob_parse.specs.Building.{FitsSummands, FitsOperands}
use Rattle.rob_syntax.specs.Trees.{tree_of, part_of, summands_of, operands_of}
use Rattle.rob_parse.proofs.Building.MapLemmas.{signed_at, factor_at}
use Rattle.rob_parse.proofs.tree.+tree.Given as goal

abbrev pub invariant-terms-loop-part : goal.invariant-terms-loop-part
invariant-terms-loop-part g l = record {
  read : map (signed_of g.N.Exact.value) l.list ++ map (signed_at l.sorts l.place.count l.place.set)
      (drop l.part-index l.parts) ≡ map (signed_at l.sorts l.place.count l.place.set) l.parts;
  fits : FitsSummands g.N.Exact.limit (summands_of (map part_of (drop l.part-index l.parts)));
  counted : CountsOnly g.L.Ledger.ops g.L.Ledger.wides l.fn.ledger l.ledger;
}

abbrev pub invariant-factors-loop-tree : goal.invariant-factors-loop-tree
invariant-factors-loop-tree g l = record {
  read : map (expression_of g.N.Exact.value) l.list ++ map (factor_at l.sorts l.place.count l.place.set)
      (drop l.tree-index l.trees) ≡ map (factor_at l.sorts l.place.count l.place.set) l.trees;
  fits : FitsOperands g.N.Exact.limit (operands_of (map tree_of (drop l.tree-index l.trees)));
  counted : CountsOnly g.L.Ledger.ops g.L.Ledger.wides l.fn.ledger l.ledger;
}
