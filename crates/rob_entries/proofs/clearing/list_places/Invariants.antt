-- The places before k are listed.
use Rattle.std.specs.Prelude.{map}
use Rattle.rob_linear.specs.Vectors.{at}
use Rattle.rob_entries.proofs.Listing.{IsListedTo}
use Rattle.rob_entries.proofs.clearing.list_places.Given as goal

abbrev pub invariant-loop-k : goal.invariant-loop-k
invariant-loop-k g l = IsListedTo (at (map g.E.Entry.value l.fn.row)) l.k l.places l.listed
