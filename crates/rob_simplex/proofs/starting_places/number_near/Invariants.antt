-- The columns at the places before place k are written.
use Rattle.std.specs.Prelude.{◌≡◌, ℕ, ◌<◌, slice_index_or}
use Rattle.rob_simplex.specs.Starts.{start_column}
use Rattle.rob_simplex.proofs.starting_places.number_near.Given as goal

abbrev pub invariant-loop-k : goal.invariant-loop-k
invariant-loop-k l = (j : ℕ) → j < l.k → slice_index_or l.near j 0 ≡ start_column l.fn.n l.fn.m j
