-- What a reader of a part of rob_index' grammar finds at the front of some symbols. A part ends where what follows
-- doesn't go on it, so of all that could be read the longest is (one symbol of look-ahead, three at a `,` behind a
-- range: Aho, Lam, Sethi, Ullman, Compilers (2006), chapter 4).
use Rattle.std.specs.Prelude.{◌≡◌, ◌<◌, ◌≤◌, ℕ, List, [], ◌∷◌, ◌++◌, length}
use Rattle.rob_index.specs.Symbols.{Symbol, name, sign, word}
use Rattle.rob_index.specs.Symbols as is
use Rattle.rob_index.specs.Grammar.{sign_of}
use Rattle.rob_syntax.specs.declared.error.ParseErr.{ParseErr}
use Rattle.rob_syntax.specs.declared.error.ParseErr.TheVariants.{NotAStatement, Memory}

-- ---- where a part ends
-- the symbols don't begin with this one
abbrev pub BeginsNot : Symbol → List Symbol → Type 0
BeginsNot s symbols = (rest : List Symbol) → symbols ≡ s ∷ rest → ⊥

-- they begin with none of these
abbrev pub BeginsNone : {A : Type 0} → (A → Symbol) → List Symbol → Type 0
BeginsNone {A} spell symbols = (item : A) → BeginsNot (spell item) symbols

-- whatever follows
abbrev pub Ends : List Symbol → Type 0
Ends rest = Unit {0}

-- a line ends where nothing follows
abbrev pub EndsLine : List Symbol → Type 0
EndsLine rest = rest ≡ []

-- a number ends where no `/` follows
abbrev pub EndsNumber : List Symbol → Type 0
EndsNumber rest = BeginsNot (sign is.slash) rest

-- an index ends where no `+` and no `-` follows
abbrev pub EndsIndex : List Symbol → Type 0
EndsIndex rest = BeginsNone sign_of rest

-- a name with its indices ends where no `[` follows
abbrev pub EndsRef : List Symbol → Type 0
EndsRef rest = BeginsNot (sign is.open_bracket) rest

-- a `,`, a name and `=` don't follow
abbrev pub BeginsNoRange : List Symbol → Type 0
BeginsNoRange symbols =
    (k : ℕ) (rest : List Symbol) → symbols ≡ sign is.comma ∷ name k ∷ sign is.equal ∷ rest → ⊥

-- they do, and this is what stands behind the `,`
pub record BeginsRange (symbols rest : List Symbol) : Type 0 where
  pub comma : symbols ≡ sign is.comma ∷ rest
  pub name_of : ℕ
  pub behind : List Symbol
  pub begins : rest ≡ name name_of ∷ sign is.equal ∷ behind

-- a list of ranges ends
pub record EndsRanges (rest : List Symbol) : Type 0 where
  pub index : EndsIndex rest
  pub range : BeginsNoRange rest
  pub first : BeginsNot (word is.for) rest

-- the set that a line is over ends
pub record EndsOver (rest : List Symbol) : Type 0 where
  pub ref : EndsRef rest
  pub over : BeginsNot (word is.over) rest

-- bounds end
pub record EndsBounds (rest : List Symbol) : Type 0 where
  pub number : EndsNumber rest
  pub within : BeginsNot (word is.within) rest
  pub at_least : BeginsNot (sign is.at_least) rest
  pub at_most : BeginsNot (sign is.at_most) rest

-- a factor ends
pub record EndsFactor (rest : List Symbol) : Type 0 where
  pub number : EndsNumber rest
  pub ref : EndsRef rest

-- a term ends
pub record EndsTerm (rest : List Symbol) : Type 0 where
  pub factor : EndsFactor rest
  pub star : BeginsNot (sign is.star) rest

-- an expression ends
pub record EndsExpr (rest : List Symbol) : Type 0 where
  pub term : EndsTerm rest
  pub sign : EndsIndex rest

-- both sides of a relation, with the set that it is over, end
pub record EndsSides (rest : List Symbol) : Type 0 where
  pub expr : EndsExpr rest
  pub over : BeginsNot (word is.over) rest

-- a member of a budget with its ranges ends
pub record EndsShare (rest : List Symbol) : Type 0 where
  pub number : EndsNumber rest
  pub ranges : EndsRanges rest

-- an entry of an adaptive variable's list ends with its ranges; a name with `=` behind it would be a range
pub record EndsEntry (rest : List Symbol) : Type 0 where
  pub ref : EndsRef rest
  pub ranges : EndsRanges rest
  pub equal : BeginsNot (sign is.equal) rest

-- items with commas between them, each with a name in front, end
pub record EndsList (EndsItem : List Symbol → Type 0) (rest : List Symbol) : Type 0 where
  pub item : EndsItem rest
  pub comma : BeginsNot (sign is.comma) rest
  pub name : BeginsNone name rest

-- ---- what stands at the front
-- the item stands at the front, and no other item with a rest that ends it does
pub record Found {A : Type 0} (spell : A → List Symbol) (EndsItem : List Symbol → Type 0) (symbols rest : List Symbol)
    (item : A) : Type 0 where
  pub spelled : symbols ≡ spell item ++ rest
  pub only : (other : A) (end : List Symbol) → symbols ≡ spell other ++ end → EndsItem end
      → (other ≡ item) × (end ≡ rest)

-- no item with a rest that ends it stands at the front
pub record IsMissing {A : Type 0} (spell : A → List Symbol) (EndsItem : List Symbol → Type 0) (symbols : List Symbol)
    : Type 0 where
  pub none : (other : A) (end : List Symbol) → symbols ≡ spell other ++ end → EndsItem end → ⊥

-- a refusal's cause at the front of some symbols; want of memory has none
abbrev pub HasCause : {A : Type 0} → (A → List Symbol) → (List Symbol → Type 0) → List Symbol → ParseErr → Type 0
HasCause spell EndsItem symbols NotAStatement = IsMissing spell EndsItem symbols
HasCause spell EndsItem symbols Memory = Unit {0}

-- some item is found, whose value is this
pub record Reads {A V : Type 0} (spell : A → List Symbol) (EndsItem : List Symbol → Type 0) (value_of : A → V)
    (symbols rest : List Symbol) (value : V) : Type 0 where
  pub item : A
  pub found : Found spell EndsItem symbols rest item
  pub value_is : value_of item ≡ value
  pub shorter : length rest < length symbols

-- all items that follow are found; their values stand behind those of a list
pub record ReadsMore {A V : Type 0} (spell : A → List Symbol) (EndsItems : List Symbol → Type 0)
    (values_of : A → List V) (symbols rest : List Symbol) (old new : List V) : Type 0 where
  pub items : A
  pub found : Found spell EndsItems symbols rest items
  pub appended : new ≡ old ++ values_of items
  pub shorter : length rest ≤ length symbols
