-- The names of a line are those of the plain statement, and which of these are no statements.
use Rattle.std.proofs.Common.{◌≡◌, ℕ, Bool, true, false, List, [], ◌∷◌, ◌++◌, map, refl, sym, ap, ◌∙◌, append_assoc, append-nil}
use Rattle.std.specs.Prelude.{ℤ, fold, ◌||◌, ◌&&◌, Option, Some, None, option_to_list, if◌then◌else◌}
use Rattle.std.specs.Option.{option_map}
use Rattle.std.specs.List.{flat_map, list_any}
use Rattle.std.proofs.lemmas.List.Sums.{fold-append}
use Rattle.std.proofs.lemmas.List.Folds.{list_any-append}
use Rattle.rob_algebra.proofs.ListLemmas.{map_map}
use Rattle.rob_index.specs.Statements.{Name, Plain, Parts, Factors, Member, Statement, Ref, Ranged, Share, Tree, Indexed}
use Rattle.rob_index.specs.Statements as stated
use Rattle.rob_index.specs.Expansion.{added, summed, ranges_of}
use Rattle.rob_index.specs.Forms.{Ends, extensions, values_of}
use Rattle.rob_index.specs.Fast.{names_in, nest_of}
use Rattle.rob_index.specs.Rules.{is_long_name, plain_has_long, parts_have_long, factors_have_long, optional_has_long, has_no_member, is_no_statement}
use Rattle.rob_index.proofs.LinesRead.ListLemmas.{or_false, or_swap, any_map}
use Rattle.rob_syntax.specs.Symbols.{add_word}
use Rattle.rob_syntax.specs.Plain.{is_nothing}
use Rattle.rob_settings.specs.declared.item.Item.{Item}
use Rattle.rob_expand.specs.declared.line.Line.{Line}
use Rattle.rob_settings.specs.declared.item.Named.{Named}
use Rattle.rob_expand.specs.declared.placed.Part.{Part as CodePart}
use Rattle.rob_expand.specs.declared.placed.Placed.{Placed as Code}
use Rattle.rob_expand.specs.Placed.{Placed, over, Part, placed_of}
use Rattle.rob_expand.specs.Placing.{placed_name, placed_tree}
use Rattle.rob_expand.specs.Standing.{plain_at}
use Rattle.rob_expand.specs.Statements.{IsLineOf, head_of, over_of, trees_of, items_of, name_item, member_item}
use Rattle.rob_expand.specs.Names.{tree_names, part_names, factor_names, side_names, names_of, grown}
use Rattle.rob_expand.specs.Growing.{printed, add_name, printed_at, parts_names, factors_names, each_names, over_at, item_names, line_names, lacks_members, is_bare}
use Rattle.rob_expand.specs.Instances.{ref_at, tree_at, set_at, each_at, member_at, instance_at, instance}
use Rattle.rob_expand.proofs.Counting.StepLemmas.{part_is}
use Rattle.rob_expand.proofs.Values.TreesLemmas.{trees_named}
use Rattle.rob_expand.proofs.Walks.WalkLemmas.{or_both, join_both, flat_mapped}
use Rattle.rob_index.proofs.Faults.FastLemmas.{map_flat, flat_same}

-- ---- expressions
-- of a sum over a range
added_names : (ps : List Plain) → part_names (added ps) ≡ flat_map tree_names ps
added_names [] = refl
added_names (p ∷ ps) = ap (λ (l : List Name). tree_names p ++ l) (added_names ps)

pub summed_names : (ps : List Plain) → tree_names (summed ps) ≡ flat_map tree_names ps
summed_names [] = refl
summed_names (p ∷ []) = sym (append-nil (tree_names p))
summed_names (p ∷ q ∷ ps) = added_names (p ∷ q ∷ ps)

-- of an expression at a value
abbrev pub value_names_at : (own : List Name) → Placed → List ℤ → ℤ → List Name
value_names_at own p vs v = tree_names (printed_at own p (v ∷ vs))

-- of a sum over a range
pub over_named : (own : List Name) (vs : List ℤ) (r : Ends) (p : Placed)
    → each_names own p vs (values_of r vs) ≡ tree_names (printed_at own (over r p) vs)
over_named own vs r p =
    sym (summed_names (map (λ v. printed_at own p (v ∷ vs)) (values_of r vs))
    ∙ flat_mapped tree_names (λ v. printed_at own p (v ∷ vs)) (values_of r vs))

-- the names of a plain expression that is told otherwise
module _ {a b : Plain} (same : a ≡ b) where
  pub words_inside : (words next : List Name) → next ≡ fold add_name words (tree_names a)
      → next ≡ fold add_name words (tree_names b)
  words_inside words next is = is ∙ ap (λ (p : Plain). fold add_name words (tree_names p)) same

  pub long_inside : (here : Bool) → here ≡ list_any is_long_name (tree_names a)
      → here ≡ list_any is_long_name (tree_names b)
  long_inside here is = is ∙ ap (λ (p : Plain). list_any is_long_name (tree_names p)) same

module _ (own : List Name) (vs : List ℤ) where
  -- of a part of a sum, and of a factor of a product
  abbrev pub part_names_at : CodePart → List Name
  part_names_at x = tree_names (printed_at own (placed_of x.inner) vs)

  abbrev pub factor_names_at : Code → List Name
  factor_names_at x = tree_names (printed_at own (placed_of x) vs)

  pub parts_named : (ps : List CodePart) → parts_names own vs ps ≡ flat_map part_names_at ps
  parts_named [] = refl
  parts_named (x ∷ ps) =
      ap (λ (p : Part). tree_names (plain_at own printed p.inner vs) ++ parts_names own vs ps) (part_is x)
      ∙ ap (λ (l : List Name). tree_names (printed_at own (placed_of x.inner) vs) ++ l) (parts_named ps)

  pub factors_named : (fs : List Code) → factors_names own vs fs ≡ flat_map factor_names_at fs
  factors_named [] = refl
  factors_named (x ∷ fs) = ap (λ (l : List Name). tree_names (printed_at own (placed_of x) vs) ++ l) (factors_named fs)

  -- ---- lines
  pub set_is : (names : List ℕ) (o : Option Ref)
      → set_at own printed names o vs ≡ over_at own (option_map (placed_name names) o) vs
  set_is names None = refl
  set_is names (Some r) = refl

  pub items_are : (names : List ℕ) (on : List (Ranged Ref))
      → each_at own printed (ref_at own printed) names on vs
      ≡ flat_map (λ (x : Item). item_names own x vs) (map (name_item names) on)
  items_are names [] = refl
  items_are names (x ∷ on) =
      ap (λ (l : List Name).
      map (ref_at own printed (names_in names x.ranges) x.item) (extensions (nest_of names x.ranges) vs) ++ l)
      (items_are names on)

  members_are : (limit : ℕ) (names : List ℕ) (ms : List (Ranged Share))
      → map (λ (m : Member). m.name) (each_at own printed (member_at own printed) names ms vs)
      ≡ flat_map (λ (x : Item). item_names own x vs) (map (member_item limit names) ms)
  members_are limit names ms =
      let make : Ranged Share → List ℤ → Member =
      λ (x : Ranged Share). member_at own printed (names_in names x.ranges) x.item in
      let nest : Ranged Share → List (List ℤ) = λ (x : Ranged Share). extensions (nest_of names x.ranges) vs in
      map_flat (λ (m : Member). m.name) (λ (x : Ranged Share). map (make x) (nest x)) ms
      ∙ flat_same (λ (x : Ranged Share). map (λ (m : Member). m.name) (map (make x) (nest x)))
      (λ (x : Ranged Share). item_names own (member_item limit names x) vs)
      (λ (x : Ranged Share). map_map (λ (m : Member). m.name) (make x) (nest x)) ms
      ∙ sym (flat_mapped (λ (x : Item). item_names own x vs) (member_item limit names) ms)

  -- those of a line, from what the statement has
  abbrev stated_names : (limit : ℕ) → List ℕ → Indexed Tree → List Name
  stated_names limit names s =
      option_to_list (over_at own (option_map (placed_name names) (head_of s)) vs)
      ++ (flat_map (λ (p : Placed). tree_names (printed_at own p vs)) (map (placed_tree names) (trees_of s))
      ++ (flat_map (λ (x : Item). item_names own x vs) (items_of limit names s)
      ++ option_to_list (over_at own (option_map (placed_name names) (over_of s)) vs)))

  sides_named : (l p : Plain) (o : Option Name)
      → side_names l p o ≡ (tree_names l ++ (tree_names p ++ [])) ++ option_to_list o
  sides_named l p o =
      sym (append_assoc (tree_names l) (tree_names p ++ []) (option_to_list o)
      ∙ ap (λ (t : List Name). tree_names l ++ t) (append_assoc (tree_names p) [] (option_to_list o)))

  stated_are : (limit : ℕ) (names : List ℕ) (s : Indexed Tree)
      → names_of (instance_at own printed names s vs) ≡ stated_names limit names s
  stated_are limit names (stated.uncertain r b rs) = refl
  stated_are limit names (stated.over r rs) = refl
  stated_are limit names (stated.set s rs) =
      sides_named (tree_at own printed names s.left vs) (tree_at own printed names s.right vs)
      (set_at own printed names s.over vs)
      ∙ ap (λ (o : Option Name).
      (tree_names (tree_at own printed names s.left vs) ++ (tree_names (tree_at own printed names s.right vs) ++ []))
      ++ option_to_list o) (set_is names s.over)
  stated_are limit names (stated.budget n ms o) =
      join_both (members_are limit names ms) (ap (λ (o : Option Name). option_to_list o) (set_is names o))
  stated_are limit names (stated.variable r b rs) = refl
  stated_are limit names (stated.adaptive r on b rs) =
      ap (λ (l : List Name). ref_at own printed names r vs ∷ l)
      (items_are names on ∙ sym (append-nil (flat_map (λ (x : Item). item_names own x vs) (map (name_item names) on))))
  stated_are limit names (stated.goal s e o rs) =
      join_both (sym (append-nil (tree_names (tree_at own printed names e vs))))
      (ap (λ (o : Option Name). option_to_list o) (set_is names o))
  stated_are limit names (stated.row r s rs) =
      ap (λ (l : List Name). ref_at own printed names r vs ∷ l)
      (sides_named (tree_at own printed names s.left vs) (tree_at own printed names s.right vs)
      (set_at own printed names s.over vs)
      ∙ ap (λ (o : Option Name).
      (tree_names (tree_at own printed names s.left vs) ++ (tree_names (tree_at own printed names s.right vs) ++ []))
      ++ option_to_list o) (set_is names s.over))

  pub line_names_are : (s : Indexed Tree) (line : Line) → IsLineOf s line
      → line_names own line vs ≡ names_of (instance own printed s vs)
  line_names_are s line is =
      let names = names_in [] (ranges_of s) in
      let head = ap (λ (o : Option Named). option_to_list (over_at own o vs)) is.head_is in
      let trees = trees_named names own line.trees (trees_of s) is.trees_are vs in
      let items = ap (flat_map (λ (x : Item). item_names own x vs)) is.items_are in
      let sets = ap (λ (o : Option Named). option_to_list (over_at own o vs)) is.over_is in
      let all : line_names own line vs ≡ stated_names line.limit names s =
      join_both head (join_both trees (join_both items sets)) in
      all ∙ sym (stated_are line.limit names s)

-- ---- words that grow
-- where no name is too long, they grow by all
pub none_long : (words : List Name) (names : List Name) → list_any is_long_name names ≡ false
    → fold add_name words names ≡ fold add_word words names
none_long words [] h = refl
none_long words (n ∷ names) h = go (is_long_name n) refl h (λ e. none_long (add_word words n) names e)
  where
    go : (b : Bool) → is_long_name n ≡ b → (b || list_any is_long_name names) ≡ false
        → (list_any is_long_name names ≡ false
        → fold add_name (add_word words n) names ≡ fold add_word (add_word words n) names)
        → fold add_name (if is_long_name n then words else add_word words n) names
        ≡ fold add_word (add_word words n) names
    go true e any behind = cc
    go false e any behind =
        ap (λ (b : Bool). fold add_name (if b then words else add_word words n) names) e ∙ behind any

pub grown_all : (words : List Name) (ps : List Statement)
    → fold grown words ps ≡ fold add_word words (flat_map names_of ps)
grown_all words [] = refl
grown_all words (p ∷ ps) =
    grown_all (grown words p) ps ∙ sym (fold-append add_word words (names_of p) (flat_map names_of ps))

-- ---- what is no statement
mutual
  plain_long : (p : Plain) → plain_has_long p ≡ list_any is_long_name (tree_names p)
  plain_long (stated.number n) = refl
  plain_long (stated.name n) = sym (or_false (is_long_name n))
  plain_long (stated.sum ps) = parts_long ps
  plain_long (stated.product ps) = factors_long ps

  parts_long : (ps : Parts) → parts_have_long ps ≡ list_any is_long_name (part_names ps)
  parts_long stated.no_parts = refl
  parts_long (stated.part minus p ps) =
      or_both (plain_long p) (parts_long ps)
      ∙ sym (list_any-append is_long_name (tree_names p) (part_names ps))

  factors_long : (ps : Factors) → factors_have_long ps ≡ list_any is_long_name (factor_names ps)
  factors_long stated.no_factors = refl
  factors_long (stated.factor p ps) =
      or_both (plain_long p) (factors_long ps)
      ∙ sym (list_any-append is_long_name (tree_names p) (factor_names ps))

optional_long : (o : Option Name) → optional_has_long o ≡ list_any is_long_name (option_to_list o)
optional_long None = refl
optional_long (Some n) = sym (or_false (is_long_name n))

sides_long : (l p : Plain) (o : Option Name)
    → (plain_has_long l || (plain_has_long p || optional_has_long o)) ≡ list_any is_long_name (side_names l p o)
sides_long l p o =
    or_both (plain_long l) (or_both (plain_long p) (optional_long o))
    ∙ ap (λ (b : Bool). list_any is_long_name (tree_names l) || b)
    (sym (list_any-append is_long_name (tree_names p) (option_to_list o)))
    ∙ sym (list_any-append is_long_name (tree_names l) (tree_names p ++ option_to_list o))

pub no_statement_is : (p : Statement) → is_no_statement p ≡ (lacks_members p || list_any is_long_name (names_of p))
no_statement_is (stated.uncertain n b) = sym (or_false (is_long_name n))
no_statement_is (stated.over n) = sym (or_false (is_long_name n))
no_statement_is (stated.set l r p o) = sides_long l p o
no_statement_is (stated.budget n ms o) =
    ap (λ (b : Bool). has_no_member ms || b)
    (or_both (sym (any_map is_long_name (λ (m : Member). m.name) ms)) (optional_long o)
    ∙ sym (list_any-append is_long_name (map (λ (m : Member). m.name) ms) (option_to_list o)))
no_statement_is (stated.variable n b) = sym (or_false (is_long_name n))
no_statement_is (stated.adaptive n on b) = refl
no_statement_is (stated.goal s e o) =
    or_both (plain_long e) (optional_long o)
    ∙ sym (list_any-append is_long_name (tree_names e) (option_to_list o))
no_statement_is (stated.row n l r p o) = ap (λ (b : Bool). is_long_name n || b) (sides_long l p o)

-- of some statements: one lacks members, or a name is too long
pub no_statements_are : (ps : List Statement)
    → list_any is_no_statement ps ≡ (list_any lacks_members ps || list_any is_long_name (flat_map names_of ps))
no_statements_are [] = refl
no_statements_are (p ∷ ps) =
    or_both (no_statement_is p) (no_statements_are ps)
    ∙ or_swap (lacks_members p) (list_any is_long_name (names_of p)) (list_any lacks_members ps)
    (list_any is_long_name (flat_map names_of ps))
    ∙ ap (λ (b : Bool). (lacks_members p || list_any lacks_members ps) || b)
    (sym (list_any-append is_long_name (names_of p) (flat_map names_of ps)))

-- ---- budgets without a member
and_both : {a b c d : Bool} → a ≡ b → c ≡ d → (a && c) ≡ (b && d)
and_both e f = λ i. e i && f i

no_member_joined : (xs ys : List Member) → has_no_member (xs ++ ys) ≡ (has_no_member xs && has_no_member ys)
no_member_joined [] ys = refl
no_member_joined (x ∷ xs) ys = refl

no_member_mapped : {A : Type 0} (f : A → Member) (xs : List A) → has_no_member (map f xs) ≡ is_nothing xs
no_member_mapped f [] = refl
no_member_mapped f (x ∷ xs) = refl

module _ (own : List Name) (vs : List ℤ) where
  bare_is : (limit : ℕ) (names : List ℕ) (ms : List (Ranged Share))
      → has_no_member (each_at own printed (member_at own printed) names ms vs)
      ≡ is_bare (map (member_item limit names) ms) vs
  bare_is limit names [] = refl
  bare_is limit names (x ∷ ms) =
      let make = member_at own printed (names_in names x.ranges) x.item in
      let nest = extensions (nest_of names x.ranges) vs in
      no_member_joined (map make nest) (each_at own printed (member_at own printed) names ms vs)
      ∙ and_both (no_member_mapped make nest) (bare_is limit names ms)

-- a budget has one instance
pub budget_lacks : (own : List Name) (n : stated.Numeral) (ms : List (Ranged Share)) (o : Option Ref) (line : Line)
    → IsLineOf (stated.budget n ms o) line
    → is_bare line.items []
    ≡ list_any lacks_members (map (instance own printed (stated.budget n ms o)) (extensions (nest_of [] []) []))
budget_lacks own n ms o line is =
    ap (λ (l : List Item). is_bare l []) is.items_are ∙ sym (bare_is own [] line.limit [] ms)
    ∙ sym (or_false (has_no_member (each_at own printed (member_at own printed) [] ms [])))

-- no other statement lacks any
pub none_lacks : {A : Type 0} (f : A → Statement) → ((x : A) → lacks_members (f x) ≡ false) → (xs : List A)
    → false ≡ list_any lacks_members (map f xs)
none_lacks f h [] = refl
none_lacks f h (x ∷ xs) = none_lacks f h xs ∙ ap (λ (b : Bool). b || list_any lacks_members (map f xs)) (sym (h x))
