-- Names found and told group by group.
use Rattle.std.proofs.Common.{◌≡◌, ℕ, zero, suc, ◌+◌, ◌-◌, ◌<◌, ◌≤◌, List, [], ◌∷◌, ◌++◌, map, length, take, drop, arith, refl, ap, sym, ◌∙◌, length-append, append_assoc, subst, add-one, ap₂, zero-add, rules}
use Rattle.std.specs.Prelude.{◌≢◌, Option, Some, None, slice_get, flat_map, codes, Result, Ok, Err, OnOk}
use Rattle.rob_meaning.specs.Names.{Name}
use Rattle.rob_model.specs.GroupNames.{side_names, bound_names, rule_names, statement_row_names, lift_names, condition_names, parameter_bound_names}
use Rattle.rob_meaning.specs.Places.{Each}
use Rattle.rob_meaning.proofs.Lists.EachLemmas.{each_append}
use Rattle.rob_meaning.specs.RobustModel.{Parameter, Variable, AdaptiveVariable, Row, SetLine, RobustModel}
use Rattle.rob_model.specs.NameGroups.{together, groups_by_number, groups, names, row_groups, variable_bound_groups, adaptive_bound_groups, parameter_bound_groups, parameter_groups, lift_groups, condition_groups}
use Rattle.std.proofs.lemmas.Option.{slice_get_within}
use Rattle.rob_model.specs.Naming.{Finds, AppendsName}
use Rattle.rob_model.specs.declared.group.Kind.{Kind}
use Rattle.rob_model.specs.declared.group.Kind.TheVariants.{Form, Column, SetRow, SetPlace, Parameters}
use Rattle.rob_model.proofs.FlatNames.{by_statement, flat_conditions, flat_columns, flat, flat_is}
use Rattle.std.proofs.lemmas.Grind.{common_steps}
use Rattle.rob_model.proofs.KeptLemmas.{some_is}
use Rattle.rob_model.proofs.PartLemmas.{drop_all}

-- ---- the groups are the names
together-append : (xs ys : List (List Name)) → together (xs ++ ys) ≡ together xs ++ together ys
together-append [] ys = refl
together-append (x ∷ xs) ys =
    ap (λ zs. x ++ zs) (together-append xs ys) ∙ sym (append_assoc x (together xs) (together ys))

together-map : {A : Type 0} (f : A → List Name) (xs : List A) → together (map f xs) ≡ flat_map f xs
together-map f [] = refl
together-map f (x ∷ xs) = ap (λ zs. f x ++ zs) (together-map f xs)

together-single : {A : Type 0} (f : A → Name) (xs : List A) → together (map (λ x. f x ∷ []) xs) ≡ map f xs
together-single f [] = refl
together-single f (x ∷ xs) = ap (λ zs. f x ∷ zs) (together-single f xs)

together-by_number : (f : ℕ → SetLine → List Name) (n : ℕ) (cs : List SetLine)
    → together (groups_by_number f n cs) ≡ by_statement f n cs
unfolding by_statement
together-by_number f n [] = refl
together-by_number f n (c ∷ cs) = ap (λ zs. f n c ++ zs) (together-by_number f (suc n) cs)

module _ (m : RobustModel) where
  together-flat : (kind : Kind) → together (groups kind m) ≡ flat m kind
  unfolding flat flat_conditions flat_columns
  together-flat Form =
      ap (λ zs. codes "objective" ∷ zs)
      (together-append (row_groups m) (variable_bound_groups m ++ adaptive_bound_groups m)
      ∙ ap₂ ◌++◌ (together-map (λ (r : Row). side_names r.relation r.name) m.rows)
      (together-append (variable_bound_groups m) (adaptive_bound_groups m)
      ∙ ap₂ ◌++◌ (together-map (λ (x : Variable). bound_names x.name x.lower x.upper) m.variables)
      (together-map (λ (y : AdaptiveVariable). bound_names y.name y.lower y.upper) m.adaptives)))
  together-flat Column =
      together-append (map (λ (x : Variable). x.name ∷ []) m.variables) (map (rule_names m.parameters) m.adaptives)
      ∙ ap₂ ◌++◌ (together-single (λ (x : Variable). x.name) m.variables)
      (together-map (rule_names m.parameters) m.adaptives)
  together-flat SetRow =
      together-append (parameter_bound_groups m) (groups_by_number (statement_row_names m.parameters) 1 m.set_lines)
      ∙ ap₂ ◌++◌ (together-map (λ (d : Parameter). bound_names d.name d.lower d.upper) m.parameters)
      (together-by_number (statement_row_names m.parameters) 1 m.set_lines)
  together-flat SetPlace =
      together-append (parameter_bound_groups m) (condition_groups m ++ (parameter_groups m ++ lift_groups m))
      ∙ ap₂ ◌++◌ (together-map (λ (d : Parameter). bound_names d.name d.lower d.upper) m.parameters)
      (together-append (condition_groups m) (parameter_groups m ++ lift_groups m)
      ∙ ap₂ ◌++◌ (together-by_number condition_names 1 m.set_lines)
      (together-append (parameter_groups m) (lift_groups m)
      ∙ ap₂ ◌++◌ (together-single (λ (d : Parameter). d.name) m.parameters)
      (together-by_number (lift_names m.parameters) 1 m.set_lines)))
      ∙ sym (append_assoc (parameter_bound_names m.parameters)
      (by_statement condition_names 1 m.set_lines) (flat_columns m))
  together-flat Parameters = together-single (λ (d : Parameter). d.name) m.parameters

  pub together-names : (kind : Kind) → together (groups kind m) ≡ names kind m
  together-names kind = together-flat kind ∙ flat_is m kind

-- ---- a group more
-- the names from a group on are its names and those behind it
group_more : (gs : List (List Name)) (i : ℕ) (g : List Name) → slice_get gs i ≡ Some g
    → together (drop i gs) ≡ g ++ together (drop (i + 1) gs)
group_more gs i g e = by gs i e ∙ ap (λ j. g ++ together (drop j gs)) (sym (add-one i))
  where
    by : (gs : List (List Name)) (i : ℕ) → slice_get gs i ≡ Some g
        → together (drop i gs) ≡ g ++ together (drop (suc i) gs)
    by [] i e = cc
    by (x ∷ xs) zero e = ap (λ (y : List Name). y ++ together xs) (some_is e)
    by (x ∷ xs) (suc i) e = by xs i e

group_first : (gs : List (List Name)) → together (drop 0 gs) ≡ together gs
group_first gs = search (rules, common_steps)

-- the names of a kind from a group on
abbrev pub names_left : Kind → RobustModel → ℕ → List Name
names_left kind m i = together (drop i (groups kind m))

module _ (kind : Kind) (m : RobustModel) where
  pub left_all : names_left kind m 0 ≡ names kind m
  left_all = group_first (groups kind m) ∙ together-names m kind

  pub left_none : (i : ℕ) → length (groups kind m) ≤ i → names_left kind m i ≡ []
  left_none i h = ap together (drop_all i (groups kind m) h)

  pub left_more : (i : ℕ) (g : List Name) → slice_get (groups kind m) i ≡ Some g
      → names_left kind m i ≡ g ++ names_left kind m (i + 1)
  left_more i g e = group_more (groups kind m) i g e

  -- so many names so far, and those that are left, are all
  pub count_of_more : (i n : ℕ) (g : List Name) → slice_get (groups kind m) i ≡ Some g
      → n + length (names_left kind m i) ≡ length (names kind m)
      → n + length g + length (names_left kind m (i + 1)) ≡ length (names kind m)
  count_of_more i n g e h = omega (arith, h, ap length (left_more i g e), length-append g (names_left kind m (i + 1)))

-- ---- finding
-- the same as `Finds`, where the first name of the list has the number `first`
FindsFrom : ℕ → List Name → Name → Option ℕ → Type 0
FindsFrom first ns name None = Each (λ other. other ≢ name) ns
FindsFrom first ns name (Some j) =
    (k : ℕ) × (j ≡ first + k) × (slice_get ns k ≡ Some name) × Each (λ other. other ≢ name) (take k ns)

from_zero : (ns : List Name) (name : Name) (r : Option ℕ) → FindsFrom 0 ns name r → Finds ns name r
unfolding FindsFrom
from_zero ns name None h = h
from_zero ns name (Some j) h =
    subst (λ j. Finds ns name (Some j)) (let e : h.0 ≡ j = (let is = h.1 in omega arith) in e) (h.2, h.3)

front : (xs ys : List Name) (k : ℕ) (name : Name) → slice_get xs k ≡ Some name → (slice_get (xs ++ ys) k ≡ Some name)
    × (take k (xs ++ ys) ≡ take k xs)
front [] ys k name e = cc
front (x ∷ xs) ys zero name e = (e, refl)
front (x ∷ xs) ys (suc k) name e = let h = front xs ys k name e in (h.0, ap (λ zs. x ∷ zs) h.1)

behind : (xs ys : List Name) (k : ℕ) → (slice_get (xs ++ ys) (length xs + k) ≡ slice_get ys k)
    × (take (length xs + k) (xs ++ ys) ≡ xs ++ take k ys)
behind [] ys k = (ap (slice_get ys) (zero-add k), ap (λ j. take j ys) (zero-add k))
behind (x ∷ xs) ys k =
    let h = behind xs ys k in
    let next : suc (length xs) + k ≡ suc (length xs + k) = omega arith in
    (ap (slice_get (x ∷ (xs ++ ys))) next ∙ h.0, ap (λ j. take j (x ∷ (xs ++ ys))) next ∙ ap (λ zs. x ∷ zs) h.1)

-- what the names that are left say of a name, that also all say
Later : (first : ℕ) (ns all : List Name) (name : Name) → Type 0
Later first ns all name = (r : Option ℕ) → FindsFrom first ns name r → Finds all name r

pub LaterOf : ℕ → List Name → List Name → Name → Type 0
LaterOf first ns all name = Later first ns all name

pub later_all : (ns all : List Name) (name : Name) → ns ≡ all → LaterOf 0 ns all name
unfolding LaterOf Later
later_all ns all name e r h = subst (λ (xs : List Name). Finds xs name r) e (from_zero ns name r h)

-- a group that has the name
pub later_found : (first : ℕ) (g rest ns all : List Name) (name : Name) (k : ℕ) → ns ≡ g ++ rest
    → LaterOf first ns all name → Finds g name (Some k) → Finds all name (Some (first + k))
unfolding LaterOf Later FindsFrom
later_found first g rest ns all name k e later found =
    let h = front g rest k name found.0 in
    later (Some (first + k)) (subst (λ (xs : List Name). FindsFrom first xs name (Some (first + k))) (sym e)
    (k, refl, h.0, subst (Each (λ (other : Name). other ≢ name)) (sym h.1) found.1))

-- a group that lacks it
pub later_missing : (first : ℕ) (g rest ns all : List Name) (name : Name) → ns ≡ g ++ rest → LaterOf first ns all name
    → Finds g name None → LaterOf (first + length g) rest all name
unfolding LaterOf Later FindsFrom
later_missing first g rest ns all name e later missing None h =
    later None (subst (Each (λ (other : Name). other ≢ name)) (sym e)
    (each_append (λ (other : Name). other ≢ name) g rest missing h))
later_missing first g rest ns all name e later missing (Some j) h =
    let b = behind g rest h.0 in
    later (Some j) (subst (λ (xs : List Name). FindsFrom first xs name (Some j)) (sym e) (
      length g + h.0,
      (let is = h.1 in omega arith),
      b.0 ∙ h.2,
      subst (Each (λ (other : Name). other ≢ name)) (sym b.1)
          (each_append (λ (other : Name). other ≢ name) g (take h.0 rest) missing h.3),
    ))

-- no group is left
pub later_none : (first : ℕ) (ns all : List Name) (name : Name) → ns ≡ []
    → LaterOf first ns all name → Finds all name None
unfolding LaterOf Later FindsFrom
later_none first ns all name e later = later None (subst (Each (λ (other : Name). other ≢ name)) (sym e) tt)

-- ---- telling
pub in_group : (g rest ns : List Name) (k : ℕ) (name : Name) → ns ≡ g ++ rest → slice_get g k ≡ Some name
    → slice_get ns k ≡ Some name
in_group g rest ns k name e h = ap (λ (xs : List Name). slice_get xs k) e ∙ (front g rest k name h).0

pub behind_group : (g rest ns : List Name) (k : ℕ) → ns ≡ g ++ rest → length g ≤ k → k < length ns
    → (slice_get ns k ≡ slice_get rest (k - length g)) × (k - length g < length rest)
behind_group g rest ns k e h lt = (
  ap (λ (xs : List Name). slice_get xs k) e
      ∙ ap (slice_get (g ++ rest)) (let split : k ≡ length g + (k - length g) = omega arith in split)
      ∙ (behind g rest (k - length g)).0,
  omega (arith, ap length e, length-append g rest),
)

pub found_within : (ns : List Name) (name : Name) (k : ℕ) → Finds ns name (Some k) → k < length ns
found_within ns name k h = slice_get_within ns k name h.0

-- a name told from its group
pub told : {T E : Type 0} (r : Result T E) (g rest ns all : List Name) (left index : ℕ) (name : Name) (old new : List ℕ)
    → ns ≡ g ++ rest → slice_get g left ≡ Some name
    → slice_get ns left ≡ slice_get all index → OnOk r (new ≡ old ++ name) → OnOk r (AppendsName all index old new)
told (Ok t) g rest ns all left index name old new e here is grown = record {
  name = name;
  number = sym is ∙ in_group g rest ns left name e here;
  appended = grown;
}
told (Err t) g rest ns all left index name old new e here is grown = tt
