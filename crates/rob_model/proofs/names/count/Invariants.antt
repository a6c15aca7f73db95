use Rattle.std.proofs.Common.{◌≡◌, ◌+◌, length}
use Rattle.rob_model.specs.NameGroups.{groups, names}
use Rattle.rob_model.specs.View.{robust}
use Rattle.rob_model.proofs.NamingLemmas.{names_left}
use Rattle.rob_model.proofs.names.count.Given as goal

-- the names so far, and those that are left, are all
abbrev pub invariant-loop-i : goal.invariant-loop-i
invariant-loop-i g l =
    let m = robust g.N.Exact.value l.model in
    record {
      rest : l.total + length (names_left l.kind m l.i) ≡ length (names l.kind m);
      end : l.i-end ≡ length (groups l.kind m);
    }
