-- Of the slack columns before k those that are not basic are listed.
use Rattle.rob_entries.proofs.Listing.{IsListedTo}
use Rattle.rob_simplex.proofs.Leaving.Ties.{free_row}
use Rattle.rob_simplex.proofs.dictionary.Dictionary.list_free.Given as goal

abbrev pub invariant-loop-k : goal.invariant-loop-k
invariant-loop-k g l = IsListedTo (free_row l.fn.self) l.k l.order l.listed
