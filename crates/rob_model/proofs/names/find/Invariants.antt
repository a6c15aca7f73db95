use Rattle.std.proofs.Common.{◌≡◌, ◌+◌, length}
use Rattle.rob_model.specs.NameGroups.{groups, names}
use Rattle.rob_model.specs.View.{robust}
use Rattle.rob_model.proofs.NamingLemmas.{names_left, LaterOf}
use Rattle.rob_model.proofs.names.find.Given as goal

-- the names so far are others, so what those that are left say of the name, all say
abbrev pub invariant-loop-i : goal.invariant-loop-i
invariant-loop-i g l =
    let m = robust g.N.Exact.value l.model in
    record {
      later : LaterOf l.first (names_left l.kind m l.i) (names l.kind m) l.name;
      rest : l.first + length (names_left l.kind m l.i) ≡ length (names l.kind m);
      end : l.i-end ≡ length (groups l.kind m);
    }
