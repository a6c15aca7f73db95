use Rattle.std.proofs.Common.{◌≡◌, ◌+◌, subst, arith}
use Rattle.rob_simplex.specs.Dictionaries.{positions, IsFree}
use Rattle.rob_simplex.specs.Explicit.{FirstTurns}
use Rattle.rob_simplex.proofs.Turns.FirstTurns.{auxiliary_out, second_begins}
use Rattle.rob_simplex.proofs.Places.Sizes.{sized_after}
use Rattle.rob_simplex.proofs.dictionary.Dictionary.first_phase.Goals as goal

pub empty-requires : goal.empty-requires
empty-requires g c =
    let t = c.first_turns.new.self in
    let is : t.columns + positions t ≡ c.columns-n.result + c.positions-m.result =
    omega (arith, c.columns-n.ensures.columns, c.positions-m.ensures.positions) in
    let P = c.requires.starts.0 in
    let h =
    subst (λ v. FirstTurns P v t) c.in-Ok-Feasible.field-0-is (c.in-Ok-Feasible.ensures.ended P c.requires.starts.1) in
    record { free = subst (λ k. IsFree t.columns t.basis k) is (auxiliary_out P t h) }

pub returns-in-Ok-Feasible-clause-ended : goal.returns-in-Ok-Feasible-clause-ended
returns-in-Ok-Feasible-clause-ended g c P s =
    let t = c.first_turns.new.self in
    let is : c.columns-n.result + c.positions-m.result ≡ t.columns + positions t =
    omega (arith, c.columns-n.ensures.columns, c.positions-m.ensures.positions) in
    let h = subst (λ v. FirstTurns P v t) c.in-Ok-Feasible.field-0-is (c.in-Ok-Feasible.ensures.ended P s) in
    second_begins P t h c.empty.new.self (c.columns-n.result + c.positions-m.result) is c.empty.ensures.zero
    c.empty.ensures.others c.empty.ensures.basis c.empty.ensures.sized.columns

pub returns-in-Ok-Feasible-clause-sized : goal.returns-in-Ok-Feasible-clause-sized
returns-in-Ok-Feasible-clause-sized g c = sized_after c.first_turns.ensures.sized c.empty.ensures.sized

pub returns-in-Ok-Infeasible-clause-ended : goal.returns-in-Ok-Infeasible-clause-ended
returns-in-Ok-Infeasible-clause-ended g c P s =
    subst (λ v. FirstTurns P v c.first_turns.new.self) c.in-Ok-Infeasible.field-0-is
    (c.in-Ok-Infeasible.ensures.ended P s)
