-- The rules of indices as the code names them.
use Rattle.std.specs.Prelude.{Bool, List, Option, Some, None, if◌then◌else◌}
use Rattle.std.specs.List.{list_any}
use Rattle.rob_index.specs.Statements.{Name, Tree, Indexed}
use Rattle.rob_index.specs.Expansion.{expand}
use Rattle.rob_index.specs.Rules.{is_no_statement}
use Rattle.rob_index.specs.Rules as index
use Rattle.rob_rules.specs.declared.indices.IndexFault.{IndexFault}
use Rattle.rob_rules.specs.declared.indices.IndexFault.TheVariants as code

-- the fault as the definitions have it
abbrev pub seen_fault : IndexFault → index.IndexFault
seen_fault code.Unknown = index.index_unknown
seen_fault code.TooLong = index.range_too_long
seen_fault code.Out = index.index_out
seen_fault code.TooMuch = index.too_much

-- the fault of a line with a range that is too long, where a name is unknown or none is
abbrev pub long_fault : Bool → index.IndexFault
long_fault unknown = if unknown then index.index_unknown else index.range_too_long

-- what is left to be judged where no other rule of indices is broken: what goes by the plain statements
abbrev pub late_fault : List Name → Indexed Tree → Option index.IndexFault
late_fault words s = if list_any is_no_statement (expand words s) then Some index.no_statement else None
