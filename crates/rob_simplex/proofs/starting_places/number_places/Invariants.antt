-- The places of the columns before column c are written.
use Rattle.std.specs.Prelude.{◌≡◌, ℕ, ◌<◌, slice_index_or}
use Rattle.rob_simplex.specs.Starts.{start_place}
use Rattle.rob_simplex.proofs.starting_places.number_places.Given as goal

abbrev pub invariant-loop-c : goal.invariant-loop-c
invariant-loop-c l = (j : ℕ) → j < l.c → slice_index_or l.places j 0 ≡ start_place l.fn.n l.fn.m j
