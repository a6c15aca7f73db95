-- Statements of a model text, plain and with indices. What a plain statement is, is what a text of version 1 says; a
-- statement with indices stands for a list of them.
use Rattle.std.specs.Prelude.{ℕ, Bool, List, Option}

-- the bytes of a name
abbrev pub Name : Type 0
Name = List ℕ

-- digits, and the digits behind `/`
pub record Numeral : Type 0 where
  pub numerator : ℕ
  pub divisor : Option ℕ

-- a number with an optional `-`
pub record Signed : Type 0 where
  pub minus : Bool
  pub number : Numeral

-- both bounds, or one
pub data Bounds : Type 0 where
  between : (lower upper : Signed) → Bounds
  at_least : Signed → Bounds
  at_most : Signed → Bounds

-- how two expressions are related
pub data Rel : Type 0 where
  at_most : Rel
  at_least : Rel
  equal : Rel

-- the sense of a goal
pub data Sense : Type 0 where
  minimise : Sense
  maximise : Sense

-- ---- plain statements, whose names are bytes
mutual
  -- a number, a name, a sum or a product
  pub data Plain : Type 0 where
    number : Numeral → Plain
    name : Name → Plain
    sum : Parts → Plain
    product : Factors → Plain

  -- the parts of a sum, each added, or subtracted where `minus` is true
  pub data Parts : Type 0 where
    no_parts : Parts
    part : (minus : Bool) → Plain → Parts → Parts

  -- the factors of a product
  pub data Factors : Type 0 where
    no_factors : Factors
    factor : Plain → Factors → Factors

-- a parameter in a budget, its centre and its greatest deviation
pub record Member : Type 0 where
  pub name : Name
  pub centre : Signed
  pub deviation : Numeral

-- what stands behind the keyword
pub data Statement : Type 0 where
  uncertain : Name → Option Bounds → Statement
  over : Name → Statement
  set : Plain → Rel → Plain → (over : Option Name) → Statement
  budget : Numeral → List Member → (over : Option Name) → Statement
  variable : Name → Option Bounds → Statement
  adaptive : Name → (on : List Name) → Option Bounds → Statement
  goal : Sense → Plain → (over : Option Name) → Statement
  row : Name → Plain → Rel → Plain → (over : Option Name) → Statement

-- ---- statements with indices, whose names are numbers of words
-- digits, or the name of a range
pub data Atom : Type 0 where
  digits : ℕ → Atom
  bound : ℕ → Atom

-- an atom added, or subtracted
pub record Step : Type 0 where
  pub minus : Bool
  pub atom : Atom

-- atom { ( "+" | "-" ) atom }
pub record Index : Type 0 where
  pub first : Atom
  pub more : List Step

-- name [ "[" index { "," index } "]" ]; with no index there are no brackets
pub record Ref : Type 0 where
  pub name : ℕ
  pub indices : List Index

-- name "=" index "to" index
pub record Range : Type 0 where
  pub name : ℕ
  pub from : Index
  pub upto : Index

mutual
  -- as a plain expression, with refs for names, and sums over a range
  pub data Tree : Type 0 where
    number : Numeral → Tree
    ref : Ref → Tree
    sum : TreeParts → Tree
    product : TreeFactors → Tree
    ranged : Range → Tree → Tree

  -- the parts of a sum, each added, or subtracted where `minus` is true
  pub data TreeParts : Type 0 where
    no_parts : TreeParts
    part : (minus : Bool) → Tree → TreeParts → TreeParts

  -- the factors of a product
  pub data TreeFactors : Type 0 where
    no_factors : TreeFactors
    factor : Tree → TreeFactors → TreeFactors

-- something with the ranges that bind it, in order
pub record Ranged (A : Type 0) : Type 0 where
  pub item : A
  pub ranges : List Range

-- a member of a budget
pub record Share : Type 0 where
  pub name : Ref
  pub centre : Signed
  pub deviation : Numeral

-- expr rel expr [ "over" ref ]
pub record Sides (E : Type 0) : Type 0 where
  pub left : E
  pub rel : Rel
  pub right : E
  pub over : Option Ref

-- what stands behind the keyword; E is the grammar's expression, or its tree
pub data Indexed (E : Type 0) : Type 0 where
  uncertain : Ref → Option Bounds → List Range → Indexed E
  over : Ref → List Range → Indexed E
  set : Sides E → List Range → Indexed E
  budget : Numeral → List (Ranged Share) → (over : Option Ref) → Indexed E
  variable : Ref → Option Bounds → List Range → Indexed E
  adaptive : Ref → (on : List (Ranged Ref)) → Option Bounds → List Range → Indexed E
  goal : Sense → E → (over : Option Ref) → List Range → Indexed E
  row : Ref → Sides E → List Range → Indexed E
