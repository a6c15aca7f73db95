use Rattle.std.proofs.Common.{◌≡◌, ◌++◌, drop}
use Rattle.std.specs.List.{flat_map}
use Rattle.rob_syntax.specs.Known.{texts}
use Rattle.rob_expand.proofs.Expanding.MakeLemmas.{share_made}
use Rattle.rob_expand.proofs.instance.append_members.Given as goal

abbrev pub invariant-loop-share : goal.invariant-loop-share
invariant-loop-share l =
    l.members ++ flat_map (share_made (texts l.names.own.now.keys) (texts l.names.words.now.keys) l.values)
    (drop l.share-index l.shares)
    ≡ l.fn.members ++ flat_map (share_made (texts l.names.own.now.keys) (texts l.names.words.now.keys) l.values)
    l.shares
