-- Marks are on only where they were, and of the rows before row i only at those that are 0 in the column.
use Rattle.std.specs.Prelude.{◌≡◌, ℕ, ◌<◌, pos, true, false}
use Rattle.std.proofs.Common.{get_or}
use Rattle.rob_simplex.specs.Dictionaries.{rows_of}
use Rattle.rob_simplex.proofs.dictionary.Dictionary.spare.Given as goal

abbrev pub invariant-loop-i : goal.invariant-loop-i
invariant-loop-i g l =
    (j : ℕ) → get_or l.known j false ≡ true
    → (get_or l.fn.known j false ≡ true) × (j < l.i → rows_of l.fn.self j l.fn.column ≡ pos 0)
