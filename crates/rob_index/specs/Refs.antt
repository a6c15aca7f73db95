-- What holds of each name of a plain statement, and of each ref of a statement with indices.
use Rattle.std.specs.Prelude.{◌≡◌, ℕ, false, List, [], Option, Some, None}
use Rattle.rob_algebra.specs.Items.{Each}
use Rattle.rob_index.specs.Statements.{Name, Plain, Parts, Factors, Member, Statement, Index, Ref, Tree, TreeParts, TreeFactors, Sides, Indexed}
use Rattle.rob_index.specs.Statements as stated
use Rattle.rob_index.specs.Symbols.{Symbol}
use Rattle.rob_index.specs.Symbols as is
use Rattle.rob_index.specs.Settings.{Setting}
use Rattle.rob_index.specs.Expansion.{ref_name}
use Rattle.rob_index.specs.Rules.{is_out_at}

-- it holds of the item, where there is one
abbrev pub IfThere : {A : Type 0} → (A → Type 0) → Option A → Type 0
IfThere P None = Unit {0}
IfThere P (Some x) = P x

-- ---- plain statements
module _ (P : Name → Type 0) where
  abbrev mutual
    pub EachName : Plain → Type 0
    EachName (stated.number n) = Unit {0}
    EachName (stated.name n) = P n
    EachName (stated.sum ps) = EachPartName ps
    EachName (stated.product ps) = EachFactorName ps

    pub EachPartName : Parts → Type 0
    EachPartName stated.no_parts = Unit {0}
    EachPartName (stated.part minus p ps) = EachName p × EachPartName ps

    pub EachFactorName : Factors → Type 0
    EachFactorName stated.no_factors = Unit {0}
    EachFactorName (stated.factor p ps) = EachName p × EachFactorName ps

  -- of the names on both sides, and of that behind `over`
  abbrev pub EachSideName : Plain → Plain → Option Name → Type 0
  EachSideName l p o = EachName l × EachName p × IfThere P o

  -- of each name that the statement declares, uses or lists
  abbrev pub EachNameOf : Statement → Type 0
  EachNameOf (stated.uncertain n b) = P n
  EachNameOf (stated.over n) = P n
  EachNameOf (stated.set l r p o) = EachSideName l p o
  EachNameOf (stated.budget n ms o) = Each (λ (m : Member). P m.name) ms × IfThere P o
  EachNameOf (stated.variable n b) = P n
  EachNameOf (stated.adaptive n on b) = P n × Each P on
  EachNameOf (stated.goal s e o) = EachName e × IfThere P o
  EachNameOf (stated.row n l r p o) = P n × EachSideName l p o

-- a budget has a member
abbrev pub HasMember : Statement → Type 0
HasMember (stated.budget n [] o) = ⊥
HasMember _ = Unit {0}

-- ---- statements with indices
module _ (Q : Ref → Type 0) where
  abbrev mutual
    pub EachRef : Tree → Type 0
    EachRef (stated.number n) = Unit {0}
    EachRef (stated.ref r) = Q r
    EachRef (stated.sum ts) = EachPartRef ts
    EachRef (stated.product ts) = EachFactorRef ts
    EachRef (stated.ranged r t) = EachRef t

    pub EachPartRef : TreeParts → Type 0
    EachPartRef stated.no_parts = Unit {0}
    EachPartRef (stated.part minus t ts) = EachRef t × EachPartRef ts

    pub EachFactorRef : TreeFactors → Type 0
    EachFactorRef stated.no_factors = Unit {0}
    EachFactorRef (stated.factor t ts) = EachRef t × EachFactorRef ts

  -- of the refs on both sides, and of that behind `over`
  abbrev pub EachSideRef : Sides Tree → Type 0
  EachSideRef s = EachRef s.left × EachRef s.right × IfThere Q s.over

  -- of each ref of the statement
  abbrev pub EachRefOf : Indexed Tree → Type 0
  EachRefOf (stated.uncertain r b rs) = Q r
  EachRefOf (stated.over r rs) = Q r
  EachRefOf (stated.set s rs) = EachSideRef s
  EachRefOf (stated.budget n ms o) = Each (λ m. Q m.item.name) ms × IfThere Q o
  EachRefOf (stated.variable r b rs) = Q r
  EachRefOf (stated.adaptive r on b rs) = Q r × Each (λ x. Q x.item) on
  EachRefOf (stated.goal s e o rs) = EachRef e × IfThere Q o
  EachRefOf (stated.row r s rs) = Q r × EachSideRef s

-- it holds of the number of the name that the symbol is, if it is one
abbrev pub IfName : (ℕ → Type 0) → Symbol → Type 0
IfName P (is.name k) = P k
IfName P _ = Unit {0}

-- the name of a ref of which this holds, in a setting in which no index of it is out of bounds
pub record IsNameOf (words : List Name) (Q : Ref → Type 0) (n : Name) : Type 0 where
  pub named : Ref
  pub setting : Setting
  pub holds : Q named
  pub name_is : n ≡ ref_name words setting named
  pub within : Each (λ (x : Index). is_out_at x setting ≡ false) named.indices
