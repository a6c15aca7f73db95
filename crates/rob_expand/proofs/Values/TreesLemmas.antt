-- The expressions of a line, as they are placed, are those of the statement: in what they leave of a room, in what is
-- found of them, and in what is made of them.
use Rattle.std.proofs.Common.{◌≡◌, ℕ, List, [], ◌∷◌, ◌++◌, map, refl, sym, ap, ◌∙◌, subst}
use Rattle.std.specs.Prelude.{ℤ}
use Rattle.std.specs.List.{flat_map}
use Rattle.rob_index.specs.Statements.{Name, Tree}
use Rattle.rob_expand.specs.declared.placed.Placed.{Placed as Code}
use Rattle.rob_expand.specs.declared.scope.Binding.{Binding}
use Rattle.rob_expand.specs.Growing.{printed_at}
use Rattle.rob_expand.specs.Judging.{tree_found, worse, worst}
use Rattle.rob_expand.specs.Lines.{rest_of, trees_left}
use Rattle.rob_expand.specs.Making.{first_at, second_at}
use Rattle.rob_expand.specs.Names.{tree_names}
use Rattle.rob_expand.specs.Placed.{placed_of}
use Rattle.rob_expand.specs.Placing.{placed_tree}
use Rattle.rob_settings.specs.Room.{after}
use Rattle.rob_expand.specs.Scopes.{IsPlaced, Pairwise}

-- ---- in no sum, every name has a value of its own
pub placed_within : (bound : List Binding) (shown names : List ℕ) (p : Code) (t : Tree) → bound ≡ []
    → shown ≡ names → IsPlaced bound shown p t → IsPlaced [] names p t
placed_within bound shown names p t none same h =
    subst (λ (ns : List ℕ). IsPlaced [] ns p t) same
    (subst (λ (l : List Binding). IsPlaced l shown p t) none h)

module _ (names : List ℕ) where
  -- the names that another place shows
  pub trees_within : (shown : List ℕ) (ps : List Code) (ts : List Tree) → shown ≡ names
      → Pairwise (IsPlaced [] shown) ps ts → Pairwise (IsPlaced [] names) ps ts
  trees_within shown ps ts same h = subst (λ (ns : List ℕ). Pairwise (IsPlaced [] ns) ps ts) same h

  -- no expression, one, and two
  pub no_trees : (none : List Code) → none ≡ [] → Pairwise (IsPlaced [] names) none []
  no_trees none empty = subst (λ (l : List Code). Pairwise (IsPlaced [] names) l []) (sym empty) tt

  pub one_tree : (none one : List Code) (p : Code) (t : Tree) → none ≡ [] → one ≡ none ++ p ∷ []
      → IsPlaced [] names p t → Pairwise (IsPlaced [] names) one (t ∷ [])
  one_tree none one p t empty is placed =
      subst (λ (l : List Code). Pairwise (IsPlaced [] names) l (t ∷ []))
      (sym (is ∙ ap (λ (l : List Code). l ++ p ∷ []) empty)) (placed, tt)

  pub both_trees : (none one two : List Code) (p q : Code) (t u : Tree) → none ≡ [] → one ≡ none ++ p ∷ []
      → two ≡ one ++ q ∷ [] → IsPlaced [] names p t → IsPlaced [] names q u
      → Pairwise (IsPlaced [] names) two (t ∷ u ∷ [])
  both_trees none one two p q t u empty is next placed behind =
      subst (λ (l : List Code). Pairwise (IsPlaced [] names) l (t ∷ u ∷ []))
      (sym (next ∙ ap (λ (l : List Code). l ++ q ∷ []) (is ∙ ap (λ (l : List Code). l ++ p ∷ []) empty)))
      (placed, (behind, tt))

  -- ---- all of them
  pub trees_counted : (limit : ℕ) (ps : List Code) (ts : List Tree) → Pairwise (IsPlaced [] names) ps ts
      → (vs : List ℤ) (room : ℕ)
      → trees_left limit (map placed_of ps) vs room ≡ trees_left limit (map (placed_tree names) ts) vs room
  trees_counted limit [] [] h vs room = refl
  trees_counted limit [] (t ∷ ts) h vs room = absurd h
  trees_counted limit (p ∷ ps) [] h vs room = absurd h
  trees_counted limit (p ∷ ps) (t ∷ ts) h vs room =
      λ i. after (rest_of (h.0.counted limit room vs i)) (λ k. trees_counted limit ps ts h.1 vs k i)

  pub trees_found : (ps : List Code) (ts : List Tree) → Pairwise (IsPlaced [] names) ps ts → (vs : List ℤ)
      → worst (λ p. tree_found (placed_of p) vs) ps ≡ worst (λ p. tree_found p vs) (map (placed_tree names) ts)
  trees_found [] [] h vs = refl
  trees_found [] (t ∷ ts) h vs = absurd h
  trees_found (p ∷ ps) [] h vs = absurd h
  trees_found (p ∷ ps) (t ∷ ts) h vs = λ i. worse (h.0.found vs i) (trees_found ps ts h.1 vs i)

  module _ (own : List Name) where
    pub trees_named : (ps : List Code) (ts : List Tree) → Pairwise (IsPlaced [] names) ps ts → (vs : List ℤ)
        → flat_map (λ p. tree_names (printed_at own (placed_of p) vs)) ps
        ≡ flat_map (λ p. tree_names (printed_at own p vs)) (map (placed_tree names) ts)
    trees_named [] [] h vs = refl
    trees_named [] (t ∷ ts) h vs = absurd h
    trees_named (p ∷ ps) [] h vs = absurd h
    trees_named (p ∷ ps) (t ∷ ts) h vs = λ i. tree_names (h.0.printed own vs i) ++ trees_named ps ts h.1 vs i

    pub first_tree : (ps : List Code) (ts : List Tree) → Pairwise (IsPlaced [] names) ps ts → (vs : List ℤ)
        → first_at own (map placed_of ps) vs ≡ first_at own (map (placed_tree names) ts) vs
    first_tree [] [] h vs = refl
    first_tree [] (t ∷ ts) h vs = absurd h
    first_tree (p ∷ ps) [] h vs = absurd h
    first_tree (p ∷ ps) (t ∷ ts) h vs = h.0.printed own vs

    pub second_tree : (ps : List Code) (ts : List Tree) → Pairwise (IsPlaced [] names) ps ts → (vs : List ℤ)
        → second_at own (map placed_of ps) vs ≡ second_at own (map (placed_tree names) ts) vs
    second_tree [] [] h vs = refl
    second_tree [] (t ∷ ts) h vs = absurd h
    second_tree (p ∷ ps) [] h vs = absurd h
    second_tree (p ∷ ps) (t ∷ ts) h vs = first_tree ps ts h.1 vs
