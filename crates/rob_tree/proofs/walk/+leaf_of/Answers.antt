use Rattle.std.proofs.Common.{◌≡◌, ◌∙◌, Some, None, ap, rules, sym}
use Rattle.rob_cert.specs.View.{certificate_of}
use Rattle.rob_reach.specs.Trees.{split}
use Rattle.rob_tree.specs.View.{node_of}
use Rattle.rob_tree.proofs.Numbers.WalkLemmas.{first_leaf, first_open, leaf_left, walk_right}
use Rattle.rob_tree.proofs.walk.+leaf_of.Goals as goal

pub returns-then-number-eq1 : goal.returns-then-number-eq1
returns-then-number-eq1 g t c =
    let value = g.N.Exact.value in
    record {
      walk = first_leaf (node_of value c.args.node.now) c.args.number (certificate_of value c.in-Leaf.cert)
          (ap (node_of value) c.in-Leaf.is) c.if-number-eq1.true;
    }

pub returns-then-number-eq1-2 : goal.returns-then-number-eq1-2
returns-then-number-eq1-2 g t c =
    let value = g.N.Exact.value in
    record {
      walk = first_open (node_of value c.args.node.now) c.args.number
          (ap (node_of value) c.in-Open.is) c.if-number-eq1-2.true;
    }

pub returns-in-Here : goal.returns-in-Here
returns-in-Here g t c =
    let value = g.N.Exact.value in
    let n = node_of value c.args.node.now in
    let j = c.in-Split.field-0 in
    let k = c.in-Split.field-1 in
    let x = node_of value c.deref.result.now in
    let first : c.deref.result.now ≡ c.in-Split.below.value = search rules in
    let y = node_of value c.in-Split.above.value in
    let is : n ≡ split j k x y =
    ap (node_of value) c.in-Split.is ∙ ap (λ m. split j k (node_of value m) y) (sym first)
    in
    record {
      walk = leaf_left n x y j k is c.args.number
          (Some (certificate_of value c.in-Here.cert.now)) c.in-Here.ensures.walk;
    }

pub returns-in-Open-leaf_of : goal.returns-in-Open-leaf_of
returns-in-Open-leaf_of g t c =
    let value = g.N.Exact.value in
    let n = node_of value c.args.node.now in
    let j = c.in-Split.field-0 in
    let k = c.in-Split.field-1 in
    let x = node_of value c.deref.result.now in
    let first : c.deref.result.now ≡ c.in-Split.below.value = search rules in
    let y = node_of value c.in-Split.above.value in
    let is : n ≡ split j k x y =
    ap (node_of value) c.in-Split.is ∙ ap (λ m. split j k (node_of value m) y) (sym first)
    in
    record { walk = leaf_left n x y j k is c.args.number None c.in-Open-leaf_of.ensures.walk }

pub returns-in-Behind : goal.returns-in-Behind
returns-in-Behind g t c =
    let value = g.N.Exact.value in
    let n = node_of value c.args.node.now in
    let j = c.in-Split.field-0 in
    let k = c.in-Split.field-1 in
    let x = node_of value c.deref.result.now in
    let first : c.deref.result.now ≡ c.in-Split.below.value = search rules in
    let y = node_of value c.deref-in-Behind.result.now in
    let second : c.deref-in-Behind.result.now ≡ c.in-Split.above.value = search rules in
    let is : n ≡ split j k x y =
    ap (node_of value) c.in-Split.is
    ∙ (ap (λ m. split j k (node_of value m) (node_of value c.in-Split.above.value)) (sym first)
    ∙ ap (λ m. split j k x (node_of value m)) (sym second))
    in
    let left = c.in-Behind.ensures.walk in
    record {
      walk = walk_right n x y j k is c.args.number value c.in-Behind.left c.leaf_of-in-Behind.result left.0 left.1
          c.leaf_of-in-Behind.ensures.walk;
    }
