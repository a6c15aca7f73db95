use Rattle.std.proofs.Common.{subst}
use Rattle.std.proofs.lemmas.List.{map-id}
use Rattle.rob_rows.specs.PrimitiveParts.{IsWithin}
use Rattle.rob_entries.proofs.short.I64Entry.reduce.Goals as goal

pub to_lowest_terms-requires-clause-within : goal.to_lowest_terms-requires-clause-within
to_lowest_terms-requires-clause-within c = subst (IsWithin c.args.limit) (map-id c.args.row.now) c.requires.within
