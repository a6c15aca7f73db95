use Rattle.std.proofs.Common.{◌≡◌, ◌++◌, map, drop}
use Rattle.rob_model.specs.View.{member_of, robust}
use Rattle.rob_pieces.specs.SplitModel.{member_over}
use Rattle.rob_cells.proofs.lines.members_over.Given as goal

-- the members so far, and those that are left
abbrev pub invariant-loop-member : goal.invariant-loop-member
invariant-loop-member g l =
    let view = member_of g.N.Exact.value in
    let f = member_over (robust g.N.Exact.value l.model) l.c in
    map view l.over ++ map f (map view (drop l.member-index l.members)) ≡ map f (map view l.members)
