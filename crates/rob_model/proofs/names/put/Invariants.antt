use Rattle.std.proofs.Common.{◌≡◌, ◌<◌, length}
use Rattle.std.specs.Prelude.{slice_get}
use Rattle.rob_model.specs.NameGroups.{groups, names}
use Rattle.rob_model.specs.View.{robust}
use Rattle.rob_model.proofs.NamingLemmas.{names_left}
use Rattle.rob_model.proofs.names.put.Given as goal

-- the name is among those that are left, and nothing is appended yet
abbrev pub invariant-loop-i : goal.invariant-loop-i
invariant-loop-i g l =
    let m = robust g.N.Exact.value l.model in
    record {
      here : slice_get (names_left l.kind m l.i) l.left ≡ slice_get (names l.kind m) l.index;
      inside : l.left < length (names_left l.kind m l.i);
      end : l.i-end ≡ length (groups l.kind m);
      unchanged : l.out ≡ l.fn.out;
    }
