-- The text of a tree: a line of what it claims, a line of the leaf that shows it, and then its nodes, a branch before
-- the nodes of its two boxes.
use Rattle.std.specs.Fmt.{decimal, signed_decimal}
use Rattle.std.specs.Prelude.{◌≡◌, ◌<◌, ◌≤◌, ℕ, ℤ, nat_abs, List, [], ◌∷◌, ◌++◌, codes, length}
use Rattle.rob_algebra.specs.Fraction.{Fraction}
use Rattle.rob_cert.specs.Lines.{lines_of}
use Rattle.rob_cert.specs.Shape.{HasShape}
use Rattle.rob_cert.specs.Spelling.{Naming, naming_of, name_at, number_text, status_word, spaced, lines_text}
use Rattle.rob_meaning.specs.Certificates.{Certificate, Status, optimal, infeasible, unbounded}
use Rattle.rob_meaning.specs.Names.{column_names}
use Rattle.rob_meaning.specs.RobustModel.{RobustModel}
use Rattle.rob_reach.specs.Trees.{Node, leaf, split, left_open, Tree}
use Rattle.rob_tree.specs.Shape.{HasTreeShape}

-- what a tree's text has behind one another for its nodes: a leaf with its certificate, a branch, or an open leaf
pub data Piece : Type 0 where
  leaf_piece : Certificate → Piece
  branch_piece : (variable : ℕ) (k : ℤ) → Piece
  open_piece : Piece

-- the pieces of a node, a branch before the nodes of its two boxes
abbrev pub pieces : Node → List Piece
pieces (leaf c) = leaf_piece c ∷ []
pieces (split j k below above) = branch_piece j k ∷ (pieces below ++ pieces above)
pieces left_open = open_piece ∷ []

module _ (names : Naming) where
  -- the text of a piece; a certificate is spelled with the names of the model, which are those of its box
  abbrev pub piece_text : Piece → List ℕ
  piece_text (leaf_piece c) = spaced (codes "leaf" ∷ []) ++ lines_text names (lines_of c)
  piece_text (branch_piece j k) = spaced (codes "branch" ∷ (name_at names.columns j ∷ (signed_decimal k ∷ [])))
  piece_text open_piece = spaced (codes "open" ∷ [])

  -- the text of pieces
  abbrev pub pieces_text : List Piece → List ℕ
  pieces_text [] = []
  pieces_text (p ∷ ps) = piece_text p ++ pieces_text ps

-- what the node's lines name has a name, each K is within the limit, and its certificates have their shape for the
-- model
abbrev pub IsSpelledWith : ℕ → RobustModel → Node → Type 0
IsSpelledWith limit m (leaf c) = HasShape m c
IsSpelledWith limit m (split j k below above) =
    (j < length (column_names m)) × (nat_abs k ≤ limit) × IsSpelledWith limit m below × IsSpelledWith limit m above
IsSpelledWith limit m left_open = Unit {0}

-- the first line: what the tree claims
abbrev pub claim_text : Status → Fraction → List ℕ
claim_text optimal value = spaced (codes "tree" ∷ (status_word optimal ∷ (number_text value ∷ [])))
claim_text infeasible value = spaced (codes "tree" ∷ (status_word infeasible ∷ []))
claim_text unbounded value = spaced (codes "tree" ∷ (status_word unbounded ∷ []))

-- the line of the leaf that shows it, where one does
abbrev pub best_text : Status → ℕ → List ℕ
best_text optimal best = spaced (codes "best" ∷ (decimal best ∷ []))
best_text infeasible best = []
best_text unbounded best = spaced (codes "best" ∷ (decimal best ∷ []))

-- the text of a tree
abbrev pub tree_text : RobustModel → Tree → List ℕ
tree_text m t =
    claim_text t.status t.value ++ (best_text t.status t.best ++ pieces_text (naming_of m) (pieces t.root))

-- the tree has its shape, and the text is its text
pub record IsTextOfTree (limit : ℕ) (m : RobustModel) (names : List ℕ) (t : Tree) (text : List ℕ) : Type 0 where
  pub shape : HasTreeShape limit m names t
  pub spelled : text ≡ tree_text m t
