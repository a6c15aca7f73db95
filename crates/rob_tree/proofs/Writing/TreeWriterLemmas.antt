-- The text of a tree, piece by piece.
use Rattle.std.specs.Fmt.{signed_decimal}
use Rattle.std.proofs.Common.{◌≡◌, ℕ, List, [], ◌∷◌, ◌++◌, refl, ap, sym, ◌∙◌, append_assoc, append-nil, codes}
use Rattle.std.proofs.lemmas.Option.{get_or_from_slice_get}
use Rattle.std.specs.Prelude.{ℤ}
use Rattle.rob_cert.specs.Spelling.{cert_text, name_at, naming_of, spaced}
use Rattle.rob_meaning.specs.Certificates.{Certificate}
use Rattle.rob_meaning.specs.Names.{Name, column_names}
use Rattle.rob_meaning.specs.RobustModel.{RobustModel}
use Rattle.rob_model.specs.Naming.{AppendsName}
use Rattle.rob_reach.specs.Trees.{Node, leaf, split}
use Rattle.rob_tree.specs.TreeText.{Piece, piece_text, pieces, pieces_text}

-- the line of a branch
pub branch_line : (names : List Name) (j : ℕ) (k : ℤ) (out a b c d e : List ℕ) → a ≡ out ++ codes "branch "
    → AppendsName names j a b
    → c ≡ b ++ 32 ∷ [] → d ≡ c ++ signed_decimal k → e ≡ d ++ 10 ∷ []
    → e ≡ out ++ spaced (codes "branch" ∷ (name_at names j ∷ (signed_decimal k ∷ [])))
branch_line names j k out a b c d e first second third fourth fifth =
    let B = codes "branch " in
    let W = name_at names j in
    let D = signed_decimal k in
    let named : b ≡ a ++ W =
    second.appended ∙ ap (λ n. a ++ n) (sym (get_or_from_slice_get names j second.name [] second.number)) in
    fifth
    ∙ ap (λ l. l ++ 10 ∷ [])
    (fourth ∙ ap (λ l. l ++ D) (third ∙ ap (λ l. l ++ 32 ∷ []) (named ∙ ap (λ l. l ++ W) first)))
    ∙ append_assoc (((out ++ B) ++ W) ++ 32 ∷ []) D (10 ∷ [])
    ∙ append_assoc ((out ++ B) ++ W) (32 ∷ []) (D ++ 10 ∷ [])
    ∙ append_assoc (out ++ B) W (32 ∷ (D ++ 10 ∷ []))
    ∙ append_assoc out B (W ++ 32 ∷ (D ++ 10 ∷ []))

module _ (m : RobustModel) where
  -- the text of a leaf
  pub leaf_text : (c : Certificate) → spaced (codes "leaf" ∷ []) ++ cert_text m c
      ≡ pieces_text (naming_of m) (pieces (leaf c))
  leaf_text c = sym (append-nil (spaced (codes "leaf" ∷ []) ++ cert_text m c))

  pieces_text-append : (ps qs : List Piece)
      → pieces_text (naming_of m) (ps ++ qs) ≡ pieces_text (naming_of m) ps ++ pieces_text (naming_of m) qs
  pieces_text-append [] qs = refl
  pieces_text-append (p ∷ ps) qs =
      ap (λ l. piece_text (naming_of m) p ++ l) (pieces_text-append ps qs)
      ∙ sym (append_assoc (piece_text (naming_of m) p) (pieces_text (naming_of m) ps) (pieces_text (naming_of m) qs))

  -- the text of a branch with the nodes of its two boxes
  pub split_text : (j : ℕ) (k : ℤ) (below above : Node) (out a b c : List ℕ)
      → a ≡ out ++ spaced (codes "branch" ∷ (name_at (column_names m) j ∷ (signed_decimal k ∷ [])))
      → b ≡ a ++ pieces_text (naming_of m) (pieces below) → c ≡ b ++ pieces_text (naming_of m) (pieces above)
      → c ≡ out ++ pieces_text (naming_of m) (pieces (split j k below above))
  split_text j k below above out a b c first second third =
      let L = spaced (codes "branch" ∷ (name_at (column_names m) j ∷ (signed_decimal k ∷ []))) in
      let P = pieces_text (naming_of m) (pieces below) in
      let Q = pieces_text (naming_of m) (pieces above) in
      third
      ∙ ap (λ l. l ++ Q) (second ∙ ap (λ l. l ++ P) first)
      ∙ append_assoc (out ++ L) P Q
      ∙ append_assoc out L (P ++ Q)
      ∙ ap (λ l. out ++ (L ++ l)) (sym (pieces_text-append (pieces below) (pieces above)))
