use Rattle.std.proofs.Common.{drop}
use Rattle.rob_cert.specs.NamesView.{naming}
use Rattle.rob_tree.proofs.Numbers.NamedLemmas.{NoneHas}
use Rattle.rob_tree.proofs.nodes.find_named.Given as goal

-- where none of the rest has the name, none of all has it
abbrev pub invariant-loop-column : goal.invariant-loop-column
invariant-loop-column l =
    NoneHas (naming l.names).columns l.name (drop l.column-index l.named)
    → NoneHas (naming l.names).columns l.name l.named
