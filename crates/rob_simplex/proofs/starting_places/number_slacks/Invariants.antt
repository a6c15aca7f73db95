-- The slack columns of the positions before position i are written.
use Rattle.std.specs.Prelude.{◌≡◌, ℕ, ◌<◌, ◌+◌, slice_index_or}
use Rattle.rob_simplex.proofs.starting_places.number_slacks.Given as goal

abbrev pub invariant-loop-i : goal.invariant-loop-i
invariant-loop-i l = (j : ℕ) → j < l.i → slice_index_or l.basis j 0 ≡ l.fn.n + j
