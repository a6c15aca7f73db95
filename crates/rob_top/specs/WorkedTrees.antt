-- Calls of `checktree` worked by hand, of which the laws say how they must end: `checktree one.rob x one.tree`, where
-- the shelf tells files of these names.
use Rattle.std.specs.Prelude.{ℕ, pos, List, [], ◌∷◌, codes}
use Rattle.rob_algebra.specs.Fraction.{of_int}
use Rattle.rob_meaning.specs.Certificates.{Certificate, optimal}
use Rattle.rob_meaning.specs.Places.{1ℚ}
use Rattle.rob_meaning.specs.RobustModel.{RobustModel}
use Rattle.rob_outside.specs.Files.{file_of}
use Rattle.rob_reach.specs.Trees.{Tree, leaf, split}
use Rattle.rob_write.specs.Canonical.{model_text}
use Rattle.rob_top.specs.Calls.{Call}
use Rattle.rob_top.specs.WorkedCalls.{call_over, model_name}
use Rattle.rob_top.specs.WorkedModels.{no_order, order_12}
use Rattle.rob_words.specs.Values.{Word}

-- the name of the tree's file
abbrev pub tree_name : Word
tree_name = codes "one.tree"

-- `checktree` on the canonical text of a model and the bytes of a tree's file, where x is to take whole numbers
abbrev pub tree_call : RobustModel → List ℕ → Call
tree_call m bytes =
    call_over (codes "checktree" ∷ model_name ∷ codes "x" ∷ tree_name ∷ [])
    (file_of model_name (model_text m) ∷ file_of tree_name bytes ∷ [])

-- ---- trees of the model to minimise x where 2 x >= d for each d in [8, 13], and x lies in [0, 10]

-- with x <= 6: the row at d = 13 and twice x - 6 <= 0 sum to 1 <= 0
abbrev pub not_below_6 : Certificate
not_below_6 = record no_order {
  items =
      record { form = 1; weight = 1ℚ; base = 1ℚ; vector = of_int (pos 13) ∷ [] }
      ∷ record { form = 3; weight = of_int (pos 2); base = 1ℚ; vector = of_int (pos 8) ∷ [] } ∷ [];
}

-- with x >= 7: x = 7
abbrev pub order_7 : Certificate
order_7 = record order_12 {
  value = of_int (pos 7);
  plan = of_int (pos 7) ∷ [];
  items =
      record { form = 0; weight = 1ℚ; base = 1ℚ; vector = of_int (pos 8) ∷ [] }
      ∷ record { form = 2; weight = 1ℚ; base = 1ℚ; vector = of_int (pos 8) ∷ [] } ∷ [];
}

-- so 7 is the least whole order
abbrev pub whole_orders : Tree
whole_orders = record {
  status = optimal;
  value = of_int (pos 7);
  best = 2;
  root = split 0 (pos 6) (leaf not_below_6) (leaf order_7);
}

-- 6 is claimed, and the leaf that is to show it shows 7
abbrev pub cheaper_orders : Tree
cheaper_orders = record whole_orders { value = of_int (pos 6) }
