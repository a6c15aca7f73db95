use Rattle.std.proofs.Common.{◌≡◌, ◌+◌, ◌-◌, ◌*◌, ◌/◌, ◌%◌, drop, sym, ap, ◌∙◌, arith}
use Rattle.rob_lex.specs.Weights.{total, weights_of, doubled_of}
use Rattle.rob_lex.proofs.WeightLemmas.{weights_of-some}
use Rattle.rob_lex.proofs.weights.Weights.closed.Goals as goal

pub invariant_of-result-2 : goal.invariant_of-result-2
invariant_of-result-2 c =
    let n = c.self.inside.parens in
    let b = c.self.inside.doubled in
    let first = weights_of-some n b (omega arith) in
    let depth : total (weights_of n b) ≡ (1 + b % 2) + total (weights_of (n - 1) (b / 2)) = ap total first in
    let bits : doubled_of (weights_of n b) ≡ b % 2 + 2 * doubled_of (weights_of (n - 1) (b / 2)) =
    ap doubled_of first ∙ omega arith in
    (omega (arith, c.self.invariant.0, depth), omega (arith, c.self.invariant.1, bits))

pub returns : goal.returns
returns c =
    let first = weights_of-some c.self.inside.parens c.self.inside.doubled (omega arith) in
    record { weights = sym (ap (drop 1) first) ∙ ap (drop 1) c.self.view_is }
