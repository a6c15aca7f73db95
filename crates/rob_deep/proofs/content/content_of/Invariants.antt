-- So far it is the content of the entries before the index.
use Rattle.std.proofs.Common.{◌≡◌, take}
use Rattle.rob_rows.specs.PrimitiveParts.{content}
use Rattle.rob_deep.proofs.content.content_of.Given as goal

abbrev pub invariant-loop-entry : goal.invariant-loop-entry
invariant-loop-entry l = l.common ≡ content (take l.entry-index l.row)
