use Rattle.std.proofs.Common.{◌≡◌, length, take}
use Rattle.std.specs.Prelude.{◌≢◌}
use Rattle.rob_meaning.specs.Names.{Name}
use Rattle.rob_meaning.specs.Places.{Each}
use Rattle.rob_model.specs.NameGroups.{names_in}
use Rattle.rob_model.proofs.group.Group.find.Given as goal

-- the names so far are others
abbrev pub invariant-loop-k : goal.invariant-loop-k
invariant-loop-k g l =
    let names = names_in g.N.Exact.value l.self in
    record {
      before : Each (λ (other : Name). other ≢ l.name) (take l.k names);
      end : l.k-end ≡ length names;
    }
