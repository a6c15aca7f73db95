-- What a statement with indices stands for: the plain statements of its settings, the last range running fastest.
use Rattle.std.specs.Prelude.{◌≡◌, ℕ, ℤ, nat_abs, Bool, false, List, [], ◌∷◌, ◌++◌, map, get_or, Option, Some, None}
use Rattle.std.specs.Fmt.{decimal}
use Rattle.std.specs.List.{flat_map}
use Rattle.rob_index.specs.Statements.{Name, Numeral, Plain, Parts, Factors, Member, Statement, Index, Ref, Range, Tree, TreeParts, TreeFactors, Ranged, Share, Indexed, uncertain, over, set, budget, variable, adaptive, goal, row}
use Rattle.rob_index.specs.Statements as stated
use Rattle.rob_index.specs.Settings.{Setting, index_value, values, with_value, settings}

-- the number 0
abbrev pub zero_numeral : Numeral
zero_numeral = record { numerator = 0; divisor = None }

-- all added
abbrev pub added : List Plain → Parts
added [] = stated.no_parts
added (p ∷ ps) = stated.part false p (added ps)

-- a sum over no settings is the number 0, over one that setting, over more the sum of them
abbrev pub summed : List Plain → Plain
summed [] = stated.number zero_numeral
summed (p ∷ []) = p
summed (p ∷ q ∷ ps) = stated.sum (added (p ∷ q ∷ ps))

-- an item for each setting of its own ranges
abbrev pub expand_each : {A B : Type 0} → (Setting → A → B) → Setting → List (Ranged A) → List B
expand_each expand setting xs = flat_map (λ x. map (λ e. expand e x.item) (settings x.ranges setting)) xs

-- the ranges of the statement
abbrev pub ranges_of : Indexed Tree → List Range
ranges_of (uncertain r b rs) = rs
ranges_of (over r rs) = rs
ranges_of (set s rs) = rs
ranges_of (budget n ms o) = []
ranges_of (variable r b rs) = rs
ranges_of (adaptive r on b rs) = rs
ranges_of (goal s e o rs) = rs
ranges_of (row r s rs) = rs

module _ (words : List Name) where
  -- `_` and a value
  abbrev pub index_text : Setting → Index → List ℕ
  index_text setting x = 95 ∷ decimal (nat_abs (index_value setting x))

  -- the name of a ref: its word, then each index behind `_`
  abbrev pub ref_name : Setting → Ref → Name
  ref_name setting r = get_or words r.name [] ++ flat_map (index_text setting) r.indices

  -- the name behind `over`, if one stands there
  abbrev pub optional_name : Setting → Option Ref → Option Name
  optional_name setting None = None
  optional_name setting (Some r) = Some (ref_name setting r)

  abbrev mutual
    pub expand_tree : Tree → Setting → Plain
    expand_tree (stated.number n) setting = stated.number n
    expand_tree (stated.ref r) setting = stated.name (ref_name setting r)
    expand_tree (stated.sum ts) setting = stated.sum (expand_parts ts setting)
    expand_tree (stated.product fs) setting = stated.product (expand_factors fs setting)
    expand_tree (stated.ranged r t) setting =
        summed (map (λ v. expand_tree t (with_value r setting v)) (values setting r))

    pub expand_parts : TreeParts → Setting → Parts
    expand_parts stated.no_parts setting = stated.no_parts
    expand_parts (stated.part minus t ts) setting = stated.part minus (expand_tree t setting) (expand_parts ts setting)

    pub expand_factors : TreeFactors → Setting → Factors
    expand_factors stated.no_factors setting = stated.no_factors
    expand_factors (stated.factor t ts) setting = stated.factor (expand_tree t setting) (expand_factors ts setting)

  -- the member of one setting
  abbrev pub member_of : Setting → Share → Member
  member_of setting m = record { name = ref_name setting m.name; centre = m.centre; deviation = m.deviation }

  -- the statement of one setting
  abbrev pub statement_at : Indexed Tree → Setting → Statement
  statement_at (uncertain r b rs) setting = stated.uncertain (ref_name setting r) b
  statement_at (over r rs) setting = stated.over (ref_name setting r)
  statement_at (set s rs) setting =
      stated.set (expand_tree s.left setting) s.rel (expand_tree s.right setting) (optional_name setting s.over)
  statement_at (budget n ms o) setting = stated.budget n (expand_each member_of setting ms) (optional_name setting o)
  statement_at (variable r b rs) setting = stated.variable (ref_name setting r) b
  statement_at (adaptive r on b rs) setting = stated.adaptive (ref_name setting r) (expand_each ref_name setting on) b
  statement_at (goal s e o rs) setting = stated.goal s (expand_tree e setting) (optional_name setting o)
  statement_at (row r s rs) setting =
      stated.row (ref_name setting r) (expand_tree s.left setting) s.rel (expand_tree s.right setting)
      (optional_name setting s.over)

  -- the plain statements that a statement stands for
  abbrev pub expand : Indexed Tree → List Statement
  expand s = map (statement_at s) (settings (ranges_of s) [])

  -- ---- the same as a relation
  mutual
    -- the tree stands in this setting for this expression
    pub data Expands : Tree → Setting → Plain → Type 0 where
      number : {n : Numeral} {setting : Setting} → Expands (stated.number n) setting (stated.number n)
      ref : {r : Ref} {setting : Setting} → Expands (stated.ref r) setting (stated.name (ref_name setting r))
      sum : {ts : TreeParts} {setting : Setting} {ps : Parts} → ExpandsParts ts setting ps
          → Expands (stated.sum ts) setting (stated.sum ps)
      product : {ts : TreeFactors} {setting : Setting} {ps : Factors} → ExpandsFactors ts setting ps
          → Expands (stated.product ts) setting (stated.product ps)
      -- a sum over no settings is the number 0
      over_none : {r : Range} {t : Tree} {setting : Setting} → values setting r ≡ []
          → Expands (stated.ranged r t) setting (stated.number zero_numeral)
      -- over one, that setting
      over_one : {r : Range} {t : Tree} {setting : Setting} {p : Plain} (v : ℤ) → values setting r ≡ v ∷ []
          → Expands t (with_value r setting v) p → Expands (stated.ranged r t) setting p
      -- over more, the sum of its settings in order
      over_more : {r : Range} {t : Tree} {setting : Setting} {ps : Parts} (v w : ℤ) (vs : List ℤ)
          → values setting r ≡ v ∷ w ∷ vs → ExpandsEach t r setting (v ∷ w ∷ vs) ps
          → Expands (stated.ranged r t) setting (stated.sum ps)

    -- each part stands for this one
    pub data ExpandsParts : TreeParts → Setting → Parts → Type 0 where
      no_parts : {setting : Setting} → ExpandsParts stated.no_parts setting stated.no_parts
      part : {minus : Bool} {t : Tree} {ts : TreeParts} {setting : Setting} {p : Plain} {ps : Parts}
          → Expands t setting p
          → ExpandsParts ts setting ps → ExpandsParts (stated.part minus t ts) setting (stated.part minus p ps)

    -- each factor stands for this one
    pub data ExpandsFactors : TreeFactors → Setting → Factors → Type 0 where
      no_factors : {setting : Setting} → ExpandsFactors stated.no_factors setting stated.no_factors
      factor : {t : Tree} {ts : TreeFactors} {setting : Setting} {p : Plain} {ps : Factors} → Expands t setting p
          → ExpandsFactors ts setting ps → ExpandsFactors (stated.factor t ts) setting (stated.factor p ps)

    -- the tree for each of these values of a range, all added
    pub data ExpandsEach : Tree → Range → Setting → List ℤ → Parts → Type 0 where
      no_settings : {t : Tree} {r : Range} {setting : Setting} → ExpandsEach t r setting [] stated.no_parts
      next_setting : {t : Tree} {r : Range} {setting : Setting} {v : ℤ} {vs : List ℤ} {p : Plain} {ps : Parts}
          → Expands t (with_value r setting v) p → ExpandsEach t r setting vs ps
          → ExpandsEach t r setting (v ∷ vs) (stated.part false p ps)

-- ---- without indices
abbrev pub HasNoIndex : Ref → Type 0
HasNoIndex r = r.indices ≡ []

abbrev mutual
  -- no name has an index, and no sum has a range
  pub IsPlain : Tree → Type 0
  IsPlain (stated.number n) = Unit {0}
  IsPlain (stated.ref r) = HasNoIndex r
  IsPlain (stated.sum ts) = ArePlainParts ts
  IsPlain (stated.product ts) = ArePlainFactors ts
  IsPlain (stated.ranged r t) = ⊥

  pub ArePlainParts : TreeParts → Type 0
  ArePlainParts stated.no_parts = Unit {0}
  ArePlainParts (stated.part minus t ts) = IsPlain t × ArePlainParts ts

  pub ArePlainFactors : TreeFactors → Type 0
  ArePlainFactors stated.no_factors = Unit {0}
  ArePlainFactors (stated.factor t ts) = IsPlain t × ArePlainFactors ts

module _ (words : List Name) where
  -- the bytes of a word
  abbrev pub word_at : ℕ → Name
  word_at k = get_or words k []

  abbrev mutual
    -- the tree itself, with the bytes of its names
    pub itself : Tree → Plain
    itself (stated.number n) = stated.number n
    itself (stated.ref r) = stated.name (word_at r.name)
    itself (stated.sum ts) = stated.sum (itself_parts ts)
    itself (stated.product ts) = stated.product (itself_factors ts)
    itself (stated.ranged r t) = itself t

    pub itself_parts : TreeParts → Parts
    itself_parts stated.no_parts = stated.no_parts
    itself_parts (stated.part minus t ts) = stated.part minus (itself t) (itself_parts ts)

    pub itself_factors : TreeFactors → Factors
    itself_factors stated.no_factors = stated.no_factors
    itself_factors (stated.factor t ts) = stated.factor (itself t) (itself_factors ts)
