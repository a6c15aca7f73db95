-- What the code makes, seen as what rob_index speaks of: statements with indices, ranges and sums.
use Rattle.std.specs.Prelude.{Bool, List, [], ◌∷◌, map, Option}
use Rattle.std.specs.Option.{option_map}
use Rattle.rob_index.specs.Statements as stated
use Rattle.rob_syntax.specs.declared.syntax.Numeral.{Numeral}
use Rattle.rob_syntax.specs.declared.syntax.Signed.{Signed}
use Rattle.rob_syntax.specs.declared.syntax.Bounds.{Bounds}
use Rattle.rob_syntax.specs.declared.syntax.Bounds.TheVariants.{Between, AtLeast, AtMost}
use Rattle.rob_syntax.specs.declared.syntax.Rel.{Rel}
use Rattle.rob_syntax.specs.declared.syntax.Rel.TheVariants as rel
use Rattle.rob_syntax.specs.declared.syntax.Sense.{Sense}
use Rattle.rob_syntax.specs.declared.syntax.Sense.TheVariants as sense
use Rattle.rob_syntax.specs.declared.syntax.Atom.{Atom}
use Rattle.rob_syntax.specs.declared.syntax.Atom.TheVariants as atom
use Rattle.rob_syntax.specs.declared.syntax.Step.{Step}
use Rattle.rob_syntax.specs.declared.syntax.Index.{Index}
use Rattle.rob_syntax.specs.declared.syntax.Ref.{Ref}
use Rattle.rob_syntax.specs.declared.syntax.Range.{Range}
use Rattle.rob_syntax.specs.declared.syntax.Ranged.{Ranged}
use Rattle.rob_syntax.specs.declared.syntax.Part.{Part, Part-F, fold-Part}
use Rattle.rob_syntax.specs.declared.syntax.Tree.{Tree, Tree-F, fold-Tree}
use Rattle.rob_syntax.specs.declared.syntax.Share.{Share}
use Rattle.rob_syntax.specs.declared.syntax.Sides.{Sides}
use Rattle.rob_syntax.specs.declared.syntax.Indexed.{Indexed}
use Rattle.rob_syntax.specs.declared.syntax.Indexed.TheVariants as parsed

-- ---- numbers and bounds
-- a number as it is written
abbrev pub seen_numeral : Numeral → stated.Numeral
seen_numeral n = record { numerator = n.numerator; divisor = n.divisor }

-- a number with its sign
abbrev pub seen_signed : Signed → stated.Signed
seen_signed s = record { minus = s.minus; number = seen_numeral s.number }

-- bounds
abbrev pub seen_bounds : Bounds → stated.Bounds
seen_bounds (Between both) = stated.between (seen_signed both.lower) (seen_signed both.upper)
seen_bounds (AtLeast a) = stated.at_least (seen_signed a)
seen_bounds (AtMost b) = stated.at_most (seen_signed b)

-- a relation
abbrev pub seen_rel : Rel → stated.Rel
seen_rel rel.AtMost = stated.at_most
seen_rel rel.AtLeast = stated.at_least
seen_rel rel.Equal = stated.equal

-- the sense of a goal
abbrev pub seen_sense : Sense → stated.Sense
seen_sense sense.Minimise = stated.minimise
seen_sense sense.Maximise = stated.maximise

-- ---- indices, ranges and refs
-- an atom
abbrev pub seen_atom : Atom → stated.Atom
seen_atom (atom.Digits n) = stated.digits n
seen_atom (atom.Bound k) = stated.bound k

-- an atom with its sign
abbrev pub seen_step : Step → stated.Step
seen_step s = record { minus = s.minus; atom = seen_atom s.atom }

-- an index
abbrev pub seen_index : Index → stated.Index
seen_index x = record { first = seen_atom x.first; more = map seen_step x.more }

-- a name with its indices
abbrev pub seen_ref : Ref → stated.Ref
seen_ref r = record { name = r.name; indices = map seen_index r.indices }

-- a range
abbrev pub seen_range : Range → stated.Range
seen_range r = record { name = r.name; from = seen_index r.from; upto = seen_index r.upto }

-- ranges
abbrev pub seen_ranges : List Range → List stated.Range
seen_ranges rs = map seen_range rs

-- the name behind `over`
abbrev pub seen_over : Option Ref → Option stated.Ref
seen_over over = option_map seen_ref over

-- ---- expressions
-- a part of a sum, with its sign
pub record SeenPart : Type 0 where
  pub minus : Bool
  pub inner : stated.Tree

-- the parts of a list
abbrev pub parts_of : List SeenPart → stated.TreeParts
parts_of [] = stated.no_parts
parts_of (p ∷ ps) = stated.part p.minus p.inner (parts_of ps)

-- the factors of a list
abbrev pub factors_of : List stated.Tree → stated.TreeFactors
factors_of [] = stated.no_factors
factors_of (f ∷ fs) = stated.factor f (factors_of fs)

-- one level of the code's tree, with what is inside already seen
abbrev pub tree_step : Tree-F stated.Tree SeenPart → stated.Tree
tree_step (Tree-F.Number n) = stated.number (seen_numeral n)
tree_step (Tree-F.Ref r) = stated.ref (seen_ref r)
tree_step (Tree-F.Sum ps) = stated.sum (parts_of ps)
tree_step (Tree-F.Product fs) = stated.product (factors_of fs)
tree_step (Tree-F.Ranged r inner) = stated.ranged (seen_range r) inner.value

-- one level of a signed part
abbrev pub part_step : Part-F stated.Tree SeenPart → SeenPart
part_step p = record { minus = p.minus; inner = p.inner }

-- an expression's tree
abbrev pub seen_tree : Tree → stated.Tree
seen_tree = fold-Tree stated.Tree SeenPart tree_step part_step

-- a signed part of a sum
abbrev pub seen_part : Part → SeenPart
seen_part = fold-Part stated.Tree SeenPart tree_step part_step

-- ---- statements
-- an item with its ranges
abbrev pub seen_ranged : {A B : Type 0} → (A → B) → Ranged A → stated.Ranged B
seen_ranged seen x = record { item = seen x.item; ranges = seen_ranges x.ranges }

-- a member of a budget
abbrev pub seen_share : Share → stated.Share
seen_share m = record { name = seen_ref m.name; centre = seen_signed m.centre; deviation = seen_numeral m.deviation }

-- both sides of a relation
abbrev pub seen_sides : Sides → stated.Sides stated.Tree
seen_sides s =
    record { left = seen_tree s.left; rel = seen_rel s.rel; right = seen_tree s.right; over = seen_over s.over }

-- a statement
abbrev pub seen_statement : Indexed → stated.Indexed stated.Tree
seen_statement (parsed.Uncertain d) =
    stated.uncertain (seen_ref d.name) (option_map seen_bounds d.bounds) (seen_ranges d.ranges)
seen_statement (parsed.Over x) = stated.over (seen_ref x.item) (seen_ranges x.ranges)
seen_statement (parsed.Set x) = stated.set (seen_sides x.item) (seen_ranges x.ranges)
seen_statement (parsed.Budget b) =
    stated.budget (seen_numeral b.limit) (map (seen_ranged seen_share) b.members) (seen_over b.over)
seen_statement (parsed.Var d) =
    stated.variable (seen_ref d.name) (option_map seen_bounds d.bounds) (seen_ranges d.ranges)
seen_statement (parsed.Adaptive p) =
    stated.adaptive (seen_ref p.name) (map (seen_ranged seen_ref) p.on) (option_map seen_bounds p.bounds)
    (seen_ranges p.ranges)
seen_statement (parsed.Goal g) =
    stated.goal (seen_sense g.sense) (seen_tree g.objective) (seen_over g.over) (seen_ranges g.ranges)
seen_statement (parsed.Row name x) = stated.row (seen_ref name) (seen_sides x.item) (seen_ranges x.ranges)
