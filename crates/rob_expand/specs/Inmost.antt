-- The expression inside the sums of one value with which an expression begins.
use Rattle.std.specs.Prelude.{◌≡◌, ℕ, ℤ, List}
use Rattle.rob_index.specs.Statements.{Name}
use Rattle.rob_expand.specs.declared.placed.Placed.{Placed as Code}
use Rattle.rob_expand.specs.Count.{tree_left}
use Rattle.rob_expand.specs.Growing.{printed_at}
use Rattle.rob_expand.specs.Judging.{tree_found}
use Rattle.rob_expand.specs.Placed.{placed_of}

-- the tokens, the plain expression and the findings of an expression at some values are those of the last one at others
pub record IsInmost (placed : Code) (vs : List ℤ) (last : Code) (us : List ℤ) : Type 0 where
  pub counted : (limit room : ℕ)
      → tree_left limit (placed_of placed) vs room ≡ tree_left limit (placed_of last) us room
  pub printed : (own : List Name) → printed_at own (placed_of placed) vs ≡ printed_at own (placed_of last) us
  pub found : tree_found (placed_of placed) vs ≡ tree_found (placed_of last) us
