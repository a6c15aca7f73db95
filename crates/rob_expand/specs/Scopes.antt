-- Forms that stand for the values around an expression: that of a name which a sum binds is the start of its range, a
-- form over the values further out, and how far it is from there. A setting has only how far it is, and nothing of a
-- name whose range has one value.
use Rattle.std.specs.Prelude.{◌≡◌, ℕ, ℤ, pos, ◌+ℤ◌, Bool, true, false, List, [], ◌∷◌, drop}
use Rattle.rob_index.specs.Forms.{Form, value_of, weighed, first_factor, other_factors, plus_times}
use Rattle.rob_index.specs.Fast.{index_form}
use Rattle.rob_index.specs.Statements.{Name, Index, Tree}
use Rattle.rob_syntax.specs.Seen.{SeenPart}
use Rattle.rob_expand.specs.declared.placed.Placed.{Placed as Code}
use Rattle.rob_expand.specs.declared.scope.Binding.{Binding}
use Rattle.rob_expand.specs.Count.{tree_left}
use Rattle.rob_expand.specs.Growing.{printed_at}
use Rattle.rob_expand.specs.Judging.{tree_found}
use Rattle.rob_expand.specs.Placed.{Placed, Part, placed_of}
use Rattle.rob_expand.specs.Placing.{placed_tree}

-- ---- the names around an expression
-- the names, the innermost first, and what stands for the first of them
pub record Scope : Type 0 where
  pub names : List ℕ
  pub bound : List Binding

-- one name more, inside the others
abbrev pub inside : Scope → ℕ → Binding → Scope
inside s name b = record { names = name ∷ s.names; bound = b ∷ s.bound }

-- one name fewer
abbrev pub outside : Scope → Scope
outside s = record { names = drop 1 s.names; bound = drop 1 s.bound }

-- ---- the values that a setting has: the first belongs to the innermost name that moves; one that is missing is 0
-- how far the name's value is from its start
abbrev pub offset : (moves : Bool) → List ℤ → ℤ
offset false ws = pos 0
offset true ws = first_factor ws

-- what the setting has of the names further out
abbrev pub further : (moves : Bool) → List ℤ → List ℤ
further false ws = ws
further true ws = other_factors ws

-- all values around an expression, the innermost first
abbrev pub values_in : List Binding → List ℤ → List ℤ
values_in [] ws = ws
values_in (b ∷ bound) ws =
    (value_of b.start (further b.moves ws) +ℤ offset b.moves ws) ∷ values_in bound (further b.moves ws)

-- a form over the values further out, and a factor in front of them if there is to be one
abbrev pub in_front : (moves : Bool) → ℤ → Form → Form
in_front false c f = f
in_front true c f = record { constant = f.constant; factors = c ∷ f.factors }

-- a form over the values further out with so many times the name's value
abbrev pub with_first : Binding → ℤ → Form → Form
with_first b c f = in_front b.moves c (plus_times f c b.start)

-- two forms have the same value everywhere
abbrev pub AreEqual : Form → Form → Type 0
AreEqual f g = (ws : List ℤ) → value_of f ws ≡ value_of g ws

-- a form is another one into which these are put
abbrev pub IsPutIn : List Binding → Form → Form → Type 0
IsPutIn bound f whole = (ws : List ℤ) → value_of f ws ≡ value_of whole (values_in bound ws)

-- a form that is 0 everywhere
abbrev pub IsNothing : Form → Type 0
IsNothing f = (ws : List ℤ) → value_of f ws ≡ pos 0

-- factors that add nothing
abbrev pub AddNothing : List ℤ → Type 0
AddNothing cs = (ws : List ℤ) → weighed cs ws ≡ pos 0

-- in every walk an expression is another one into which these forms are put
pub record IsAlike (bound : List Binding) (p whole : Placed) : Type 0 where
  pub counted : (limit room : ℕ) (ws : List ℤ)
      → tree_left limit p ws room ≡ tree_left limit whole (values_in bound ws) room
  pub printed : (own : List Name) (ws : List ℤ) → printed_at own p ws ≡ printed_at own whole (values_in bound ws)
  pub found : (ws : List ℤ) → tree_found p ws ≡ tree_found whole (values_in bound ws)

-- two lists have as many items, and it holds of the first of each, the second, and so on
abbrev pub Pairwise : {A B : Type 0} → (A → B → Type 0) → List A → List B → Type 0
Pairwise Holds [] [] = Unit {0}
Pairwise Holds [] (y ∷ ys) = ⊥
Pairwise Holds (x ∷ xs) [] = ⊥
Pairwise Holds (x ∷ xs) (y ∷ ys) = Holds x y × Pairwise Holds xs ys

module _ (bound : List Binding) (names : List ℕ) where
  -- the form of an index among these names
  abbrev pub IsIndex : Form → Index → Type 0
  IsIndex f x = IsPutIn bound f (index_form names x)

  -- the code's tree of an expression
  abbrev pub IsPlaced : Code → Tree → Type 0
  IsPlaced p t = IsAlike bound (placed_of p) (placed_tree names t)

  -- a signed part
  abbrev pub IsPart : Part → SeenPart → Type 0
  IsPart p x = (p.minus ≡ x.minus) × IsAlike bound p.inner (placed_tree names x.inner)
