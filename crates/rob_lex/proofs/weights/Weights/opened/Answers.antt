use Rattle.std.proofs.Common.{◌<◌, ap, arith}
use Rattle.rob_lex.specs.Weights.{total, weights_of}
use Rattle.rob_lex.proofs.WeightLemmas.{le-total, doubled_small}
use Rattle.rob_lex.proofs.weights.Weights.opened.Goals as goal

pub overflow_add-result : goal.overflow_add-result
overflow_add-result c =
    let n = c.self.inside.parens in
    let b = c.self.inside.doubled in
    omega (arith, le-total n b, ap total c.self.view_is, c.requires.room)

pub overflow_mul-result : goal.overflow_mul-result
overflow_mul-result c =
    let n = c.self.inside.parens in
    let b = c.self.inside.doubled in
    let few : total (weights_of n b) < 63 = omega (arith, ap total c.self.view_is, c.requires.room) in
    omega (arith, doubled_small n b few, c.self.invariant.1)

pub overflow_add-result-3 : goal.overflow_add-result-3
overflow_add-result-3 c =
    let n = c.self.inside.parens in
    let b = c.self.inside.doubled in
    let few : total (weights_of n b) < 63 = omega (arith, ap total c.self.view_is, c.requires.room) in
    omega (arith, doubled_small n b few, c.self.invariant.1, c.weight-weight.ensures.few)
