use Rattle.std.proofs.Common.{◌≡◌, ◌++◌, drop, map}
use Rattle.rob_rules.specs.declared.leaf.Leaf.TheVariants.{Name}
use Rattle.rob_rules.proofs.leaf.append_names.Given as goal

abbrev pub invariant-loop-name : goal.invariant-loop-name
invariant-loop-name l = l.list ++ map Name (drop l.name-index l.names) ≡ l.fn.list ++ map Name l.names
