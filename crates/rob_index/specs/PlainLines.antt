-- Lines of version 1 among those of version 2: no name has an index, and nothing has a range.
use Rattle.std.specs.Prelude.{◌≡◌, List, [], ◌∷◌, Option, Some, None}
use Rattle.rob_index.specs.Statements.{Name, Member, Statement, Ref, Tree, Ranged, Share, Sides, Indexed}
use Rattle.rob_index.specs.Statements as stated
use Rattle.rob_index.specs.Expansion.{HasNoIndex, IsPlain, word_at, itself}

-- no item has ranges, and no name of one has an index
abbrev pub IsPlainRanged : {A : Type 0} → (A → Ref) → List (Ranged A) → Type 0
IsPlainRanged ref [] = Unit {0}
IsPlainRanged ref (x ∷ xs) = (x.ranges ≡ []) × HasNoIndex (ref x.item) × IsPlainRanged ref xs

-- the name behind `over` has no index
abbrev pub HasPlainOver : Option Ref → Type 0
HasPlainOver None = Unit {0}
HasPlainOver (Some r) = HasNoIndex r

-- nothing on either side has an index or a range
abbrev pub ArePlainSides : Sides Tree → Type 0
ArePlainSides s = IsPlain s.left × IsPlain s.right × HasPlainOver s.over

-- no name of the statement has an index, and nothing of it has a range
abbrev pub IsPlainLine : Indexed Tree → Type 0
IsPlainLine (stated.uncertain r b rs) = HasNoIndex r × (rs ≡ [])
IsPlainLine (stated.over r rs) = HasNoIndex r × (rs ≡ [])
IsPlainLine (stated.set s rs) = ArePlainSides s × (rs ≡ [])
IsPlainLine (stated.budget n ms o) = IsPlainRanged (λ m. m.name) ms × HasPlainOver o
IsPlainLine (stated.variable r b rs) = HasNoIndex r × (rs ≡ [])
IsPlainLine (stated.adaptive r on b rs) = HasNoIndex r × IsPlainRanged (λ r. r) on × (rs ≡ [])
IsPlainLine (stated.goal s e o rs) = IsPlain e × HasPlainOver o × (rs ≡ [])
IsPlainLine (stated.row r s rs) = HasNoIndex r × ArePlainSides s × (rs ≡ [])

-- the statement that such a line is, with the bytes of its names
module _ (words : List Name) where
  -- the bytes of the name behind `over`
  abbrev pub itself_over : Option Ref → Option Name
  itself_over None = None
  itself_over (Some r) = Some (word_at words r.name)

  -- the members with the bytes of their names
  abbrev pub itself_members : List (Ranged Share) → List Member
  itself_members [] = []
  itself_members (m ∷ ms) =
      record { name = word_at words m.item.name.name; centre = m.item.centre; deviation = m.item.deviation }
      ∷ itself_members ms

  -- the bytes of the names of a list
  abbrev pub itself_names : List (Ranged Ref) → List Name
  itself_names [] = []
  itself_names (x ∷ xs) = word_at words x.item.name ∷ itself_names xs

  -- the plain statement that the line is
  abbrev pub itself_line : Indexed Tree → Statement
  itself_line (stated.uncertain r b rs) = stated.uncertain (word_at words r.name) b
  itself_line (stated.over r rs) = stated.over (word_at words r.name)
  itself_line (stated.set s rs) = stated.set (itself words s.left) s.rel (itself words s.right) (itself_over s.over)
  itself_line (stated.budget n ms o) = stated.budget n (itself_members ms) (itself_over o)
  itself_line (stated.variable r b rs) = stated.variable (word_at words r.name) b
  itself_line (stated.adaptive r on b rs) = stated.adaptive (word_at words r.name) (itself_names on) b
  itself_line (stated.goal s e o rs) = stated.goal s (itself words e) (itself_over o)
  itself_line (stated.row r s rs) =
      stated.row (word_at words r.name) (itself words s.left) s.rel (itself words s.right) (itself_over s.over)
