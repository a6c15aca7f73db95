-- What is made of a statement in a setting is its instance, with the numbers of words for names.
use Rattle.std.proofs.Common.{◌≡◌, ℕ, false, List, [], ◌∷◌, ◌++◌, ◌<◌, ◌≤◌, ◌-◌, map, get_or, take, drop, length, refl, sym, ap, ◌∙◌, subst, arith}
use Rattle.std.specs.Prelude.{ℤ, Option, Some, unwrap_or}
use Rattle.std.specs.Option.{option_map}
use Rattle.std.specs.List.{flat_map}
use Rattle.std.proofs.lemmas.List.{length-append, take_all}
use Rattle.rob_algebra.proofs.ListLemmas.{map_map}
use Rattle.rob_index.specs.Statements.{Name, Plain, Member, Ref, Share, Tree, Indexed}
use Rattle.rob_index.specs.Statements as stated
use Rattle.rob_index.specs.Expansion.{added, summed, ranges_of}
use Rattle.rob_index.specs.Forms.{extensions}
use Rattle.rob_index.specs.Fast.{names_in, nest_of}
use Rattle.rob_syntax.specs.declared.syntax.Rel.{Rel}
use Rattle.rob_syntax.specs.declared.syntax.Syntax.{Syntax}
use Rattle.rob_syntax.specs.declared.syntax.Syntax.TheVariants as syntax
use Rattle.rob_syntax.specs.declared.syntax.Summand.{Summand}
use Rattle.rob_syntax.specs.declared.syntax.Member.{Member as CodeMember}
use Rattle.rob_syntax.specs.declared.syntax.Share.{Share as CodeShare}
use Rattle.rob_syntax.specs.declared.syntax.Ranged.{Ranged as CodeRanged}
use Rattle.rob_syntax.specs.declared.syntax.Ref.{Ref as CodeRef}
use Rattle.rob_syntax.specs.declared.syntax.Sides.{Sides as CodeSides}
use Rattle.rob_syntax.specs.declared.syntax.Entry.{Entry}
use Rattle.rob_syntax.specs.declared.syntax.Shares.{Shares}
use Rattle.rob_syntax.specs.declared.syntax.Rule.{Rule}
use Rattle.rob_syntax.specs.declared.syntax.Target.{Target}
use Rattle.rob_syntax.specs.declared.syntax.Indexed.{Indexed as CodeIndexed}
use Rattle.rob_syntax.specs.declared.syntax.Indexed.TheVariants as parsed
use Rattle.rob_syntax.specs.declared.syntax.Relation.{Relation}
use Rattle.rob_syntax.specs.declared.syntax.Statement.{Statement as CodeStatement}
use Rattle.rob_syntax.specs.declared.syntax.Statement.TheVariants as code
use Rattle.rob_syntax.specs.Numbered.{numbered_tree, numbered_parts, numbered_member, numbered_over, numbered_relation, numbered}
use Rattle.rob_syntax.specs.Seen.{seen_rel, seen_share, seen_ranged, seen_ranges, seen_ref, seen_tree, seen_statement}
use Rattle.rob_syntax.specs.Symbols.{number_of}
use Rattle.rob_settings.specs.declared.item.Item.{Item}
use Rattle.rob_expand.specs.declared.line.Line.{Line}
use Rattle.rob_settings.specs.declared.item.Named.{Named}
use Rattle.rob_expand.specs.declared.placed.Part.{Part as CodePart}
use Rattle.rob_expand.specs.declared.placed.Placed.{Placed as Code}
use Rattle.rob_expand.specs.Placed.{Placed, Part, placed_of}
use Rattle.rob_expand.specs.Placing.{placed_name, placed_tree}
use Rattle.rob_expand.specs.Standing.{plain_at}
use Rattle.rob_expand.specs.Growing.{printed, printed_at, over_at, item_names}
use Rattle.rob_expand.specs.Instances.{ref_at, tree_at, set_at, each_at, member_at, instance}
use Rattle.rob_expand.specs.Making.{summed_of, made_parts, made_factors, made_each, entry_at, first_at, second_at, head_in, relation_in, numbers_in, budget_in}
use Rattle.rob_expand.specs.Statements.{IsLineOf, head_of, over_of, trees_of}
use Rattle.rob_expand.proofs.Counting.StepLemmas.{part_is}
use Rattle.rob_expand.proofs.Values.TreesLemmas.{first_tree, second_tree}
use Rattle.rob_expand.proofs.Walks.WalkLemmas.{flat_mapped}
use Rattle.rob_expand.proofs.Expanding.NameLemmas.{set_is, items_are}
use Rattle.rob_index.proofs.Faults.FastLemmas.{map_flat, flat_same}
use Rattle.rob_syntax.proofs.SeenLemmas.{own-seen_bounds, own-seen_sense}

-- ---- expressions
module _ (own words : List Name) (vs : List ℤ) where
  -- a part
  abbrev pub part_made : CodePart → Summand
  part_made x = record { minus = x.minus; inner = numbered_tree words (printed_at own (placed_of x.inner) vs) }

  pub parts_made : (ps : List CodePart) → made_parts own words vs ps ≡ flat_map (λ x. part_made x ∷ []) ps
  parts_made [] = refl
  parts_made (x ∷ ps) =
      ap (λ (p : Part).
      record { minus = p.minus; inner = numbered_tree words (plain_at own printed p.inner vs) } ∷ made_parts own words
      vs ps)
      (part_is x)
      ∙ ap (λ (l : List Summand). part_made x ∷ l) (parts_made ps)

  -- a factor
  abbrev pub factor_made : Code → Syntax
  factor_made x = numbered_tree words (printed_at own (placed_of x) vs)

  pub factors_made : (fs : List Code) → made_factors own words vs fs ≡ flat_map (λ x. factor_made x ∷ []) fs
  factors_made [] = refl
  factors_made (x ∷ fs) = ap (λ (l : List Syntax). factor_made x ∷ l) (factors_made fs)

  -- an expression at a value
  abbrev pub value_made : Placed → ℤ → Summand
  value_made p v = record { minus = false; inner = numbered_tree words (printed_at own p (v ∷ vs)) }

  pub each_made : (p : Placed) (ws : List ℤ) → made_each own words p vs ws ≡ flat_map (λ v. value_made p v ∷ []) ws
  each_made p [] = refl
  each_made p (v ∷ ws) = ap (λ (l : List Summand). value_made p v ∷ l) (each_made p ws)

-- what is made of a list: of its only item, of none, and of more
pub one_left : (old new : List Summand) (x : Summand) → old ≡ new ++ x ∷ [] → (len : ℕ) → len ≡ length old → len ≤ 1
    → x.inner ≡ summed_of old
one_left old [] x is len len_is few = ap summed_of (sym is)
one_left old (y ∷ ys) x is len len_is few =
    let all = ap (λ (l : List Summand). length l) is in
    let behind = length-append ys (x ∷ []) in
    absurd (omega (arith, all, behind, len_is, few))

pub more_left : (old : List Summand) (len : ℕ) → len ≡ length old → 1 < len → syntax.Sum old ≡ summed_of old
more_left [] len len_is more = absurd (omega (arith, len_is, more))
more_left (x ∷ []) len len_is more = absurd (omega (arith, len_is, more))
more_left (x ∷ y ∷ xs) len len_is more = refl

pub summed_made : (words : List Name) (ps : List Plain)
    → summed_of (numbered_parts words (added ps)) ≡ numbered_tree words (summed ps)
summed_made words [] = refl
summed_made words (p ∷ []) = refl
summed_made words (p ∷ q ∷ ps) = refl

-- ---- the expressions of a line
module _ (own words : List Name) (vs : List ℤ) where
  pub first_some : (ts : List Code) (t : Code) → 0 < length ts → t ≡ get_or ts 0 t
      → numbered_tree words (printed_at own (placed_of t) vs) ≡ numbered_tree words (first_at own (map placed_of ts) vs)
  first_some [] t some is = absurd (omega (arith, some))
  first_some (x ∷ ts) t some is = ap (λ (y : Code). numbered_tree words (printed_at own (placed_of y) vs)) is

  pub second_some : (ts : List Code) → 0 < length ts
      → numbered_tree words (first_at own (map placed_of (take (length ts - 1) (drop 1 ts))) vs)
      ≡ numbered_tree words (second_at own (map placed_of ts) vs)
  second_some [] some = absurd (omega (arith, some))
  second_some (x ∷ ts) some =
      let all : length (x ∷ ts) - 1 ≡ length ts = omega arith in
      ap (λ (n : ℕ). numbered_tree words (first_at own (map placed_of (take n ts)) vs)) all
      ∙ ap (λ (l : List Code). numbered_tree words (first_at own (map placed_of l) vs))
      (take_all (length ts) ts (omega arith))

-- ---- the members of a budget
module _ (own words : List Name) (vs : List ℤ) where
  -- those of one share
  abbrev pub share_made : CodeRanged CodeShare → List CodeMember
  share_made x =
      map (entry_at own words (placed_name (names_in [] (seen_ranges x.ranges)) (seen_ref x.item.name))
      (record { centre = x.item.centre; deviation = x.item.deviation }))
      (extensions (nest_of [] (seen_ranges x.ranges)) vs)

  pub members_made : (ms : List (CodeRanged CodeShare))
      → map (numbered_member words)
      (each_at own printed (member_at own printed) [] (map (seen_ranged seen_share) ms) vs)
      ≡ flat_map share_made ms
  members_made ms =
      let make : stated.Ranged Share → List ℤ → Member =
      λ (x : stated.Ranged Share). member_at own printed (names_in [] x.ranges) x.item in
      let nest : stated.Ranged Share → List (List ℤ) =
      λ (x : stated.Ranged Share). extensions (nest_of [] x.ranges) vs in
      let seen : CodeRanged CodeShare → stated.Ranged Share = seen_ranged seen_share in
      ap (map (numbered_member words)) (flat_mapped (λ (x : stated.Ranged Share). map (make x) (nest x)) seen ms)
      ∙ map_flat (numbered_member words) (λ (x : CodeRanged CodeShare). map (make (seen x)) (nest (seen x))) ms
      ∙ flat_same (λ (x : CodeRanged CodeShare). map (numbered_member words) (map (make (seen x)) (nest (seen x))))
      share_made
      (λ (x : CodeRanged CodeShare). map_map (numbered_member words) (make (seen x)) (nest (seen x))) ms

  -- the numbers of an item's names
  abbrev pub item_made : Item → List ℕ
  item_made x = map (number_of words) (item_names own x vs)

  pub numbers_made : (xs : List Item) → numbers_in own words xs vs ≡ flat_map item_made xs
  numbers_made xs = map_flat (number_of words) (λ (x : Item). item_names own x vs) xs

-- ---- what a line has, by its statement
module _ (own words : List Name) (vs : List ℤ) (s : Indexed Tree) (line : Line) (is : IsLineOf s line) where
  abbrev names : List ℕ
  names = names_in [] (ranges_of s)

  head_made : (r : Ref) → head_of s ≡ Some r
      → head_in own words line vs ≡ number_of words (ref_at own printed names r vs)
  head_made r head =
      ap (λ (o : Option Named). unwrap_or (option_map (number_of words) (over_at own o vs)) 0)
      (is.head_is ∙ ap (option_map (placed_name names)) head)

  set_made : over_at own line.over vs ≡ set_at own printed names (over_of s) vs
  set_made = ap (λ (o : Option Named). over_at own o vs) is.over_is ∙ sym (set_is own vs names (over_of s))

  first_made : (t : Tree) (ts : List Tree) → trees_of s ≡ t ∷ ts
      → first_at own (map placed_of line.trees) vs ≡ tree_at own printed names t vs
  first_made t ts trees =
      first_tree names own line.trees (trees_of s) is.trees_are vs
      ∙ ap (λ (us : List Tree). first_at own (map (placed_tree names) us) vs) trees

  second_made : (t u : Tree) (ts : List Tree) → trees_of s ≡ t ∷ u ∷ ts
      → second_at own (map placed_of line.trees) vs ≡ tree_at own printed names u vs
  second_made t u ts trees =
      second_tree names own line.trees (trees_of s) is.trees_are vs
      ∙ ap (λ (us : List Tree). second_at own (map (placed_tree names) us) vs) trees

  relation_made : (l p : Tree) (r : Rel) → trees_of s ≡ l ∷ p ∷ []
      → relation_in own words r line vs
      ≡ numbered_relation words (tree_at own printed names l vs) (seen_rel r) (tree_at own printed names p vs)
      (set_at own printed names (over_of s) vs)
  relation_made l p r trees =
      let a = first_made l (p ∷ []) trees in
      let b = second_made l p [] trees in
      let o = set_made in
      λ i. numbered_relation words (a i) (seen_rel r) (b i) (o i)

-- ---- statements
module _ (own words : List Name) (vs : List ℤ) (s : CodeIndexed) (line : Line)
    (is : IsLineOf (seen_statement s) line) where
  -- the plain statement
  abbrev plain : CodeIndexed → CodeStatement
  plain x = numbered words (instance own printed (seen_statement x) vs)

  line_at : (x : CodeIndexed) → s ≡ x → IsLineOf (seen_statement x) line
  line_at x here = subst (λ (y : CodeIndexed). IsLineOf (seen_statement y) line) here is

  pub uncertain_made : (x : Entry) → s ≡ parsed.Uncertain x
      → code.Uncertain (record { name = head_in own words line vs; bounds = x.bounds }) ≡ plain s
  uncertain_made x here =
      let y : CodeIndexed = parsed.Uncertain x in
      let n = head_made own words vs (seen_statement y) line (line_at y here) (seen_ref x.name) refl in
      let b = sym (own-seen_bounds x.bounds) in
      let e : code.Uncertain (record { name = head_in own words line vs; bounds = x.bounds }) ≡ plain y =
      λ i. code.Uncertain (record { name = n i; bounds = b i }) in
      e ∙ ap plain (sym here)

  pub var_made : (x : Entry) → s ≡ parsed.Var x
      → code.Var (record { name = head_in own words line vs; bounds = x.bounds }) ≡ plain s
  var_made x here =
      let y : CodeIndexed = parsed.Var x in
      let n = head_made own words vs (seen_statement y) line (line_at y here) (seen_ref x.name) refl in
      let b = sym (own-seen_bounds x.bounds) in
      let e : code.Var (record { name = head_in own words line vs; bounds = x.bounds }) ≡ plain y =
      λ i. code.Var (record { name = n i; bounds = b i }) in
      e ∙ ap plain (sym here)

  pub over_made : (x : CodeRanged CodeRef) → s ≡ parsed.Over x → code.Over (head_in own words line vs) ≡ plain s
  over_made x here =
      let y : CodeIndexed = parsed.Over x in
      ap (λ (n : ℕ). code.Over n)
      (head_made own words vs (seen_statement y) line (line_at y here) (seen_ref x.item) refl)
      ∙ ap plain (sym here)

  pub set_condition_made : (x : CodeRanged CodeSides) → s ≡ parsed.Set x
      → code.Set (relation_in own words x.item.rel line vs) ≡ plain s
  set_condition_made x here =
      let y : CodeIndexed = parsed.Set x in
      ap (λ (r : Relation). code.Set r)
      (relation_made own words vs (seen_statement y) line (line_at y here) (seen_tree x.item.left)
      (seen_tree x.item.right)
      x.item.rel refl)
      ∙ ap plain (sym here)

  pub row_made : (name : CodeRef) (x : CodeRanged CodeSides) → s ≡ parsed.Row name x
      → code.Row (record { name = head_in own words line vs; relation = relation_in own words x.item.rel line vs })
      ≡ plain s
  row_made name x here =
      let y : CodeIndexed = parsed.Row name x in
      let n = head_made own words vs (seen_statement y) line (line_at y here) (seen_ref name) refl in
      let r = relation_made own words vs (seen_statement y) line (line_at y here) (seen_tree x.item.left)
      (seen_tree x.item.right) x.item.rel refl in
      let e : code.Row
      (record { name = head_in own words line vs; relation = relation_in own words x.item.rel line vs }) ≡ plain y =
      λ i. code.Row (record { name = n i; relation = r i }) in
      e ∙ ap plain (sym here)

  pub goal_made : (x : Target) → s ≡ parsed.Goal x
      → code.Goal (record {
        sense = x.sense;
        objective = numbered_tree words (first_at own (map placed_of line.trees) vs);
        over = option_map (number_of words) (over_at own line.over vs);
      })
      ≡ plain s
  goal_made x here =
      let y : CodeIndexed = parsed.Goal x in
      let t = ap (numbered_tree words)
      (first_made own words vs (seen_statement y) line (line_at y here) (seen_tree x.objective) [] refl) in
      let o = ap (numbered_over words) (set_made own words vs (seen_statement y) line (line_at y here)) in
      let n = sym (own-seen_sense x.sense) in
      let e : code.Goal (record {
        sense = x.sense;
        objective = numbered_tree words (first_at own (map placed_of line.trees) vs);
        over = option_map (number_of words) (over_at own line.over vs);
      })
      ≡ plain y =
      λ i. code.Goal (record { sense = n i; objective = t i; over = o i }) in
      e ∙ ap plain (sym here)

  pub budget_made : (x : Shares) → s ≡ parsed.Budget x → code.Budget (budget_in own words x line vs) ≡ plain s
  budget_made x here =
      let y : CodeIndexed = parsed.Budget x in
      let o = ap (numbered_over words) (set_made own words vs (seen_statement y) line (line_at y here)) in
      let b = budget_in own words x line vs in
      let e : code.Budget b ≡ plain y =
      λ i. code.Budget (record { limit = b.limit; members = b.members; over = o i }) in
      e ∙ ap plain (sym here)

  pub policy_made : (x : Rule) → s ≡ parsed.Adaptive x
      → code.Adaptive (record {
        name = head_in own words line vs;
        on = numbers_in own words line.items vs;
        bounds = x.bounds;
      })
      ≡ plain s
  policy_made x here =
      let y : CodeIndexed = parsed.Adaptive x in
      let il = line_at y here in
      let n = head_made own words vs (seen_statement y) line il (seen_ref x.name) refl in
      let b = sym (own-seen_bounds x.bounds) in
      let l = ap (map (number_of words))
      (ap (flat_map (λ (i : Item). item_names own i vs)) il.items_are
      ∙ sym (items_are own vs (names_in [] (seen_ranges x.ranges)) (map (seen_ranged seen_ref) x.on))) in
      let e : code.Adaptive (record {
        name = head_in own words line vs;
        on = numbers_in own words line.items vs;
        bounds = x.bounds;
      })
      ≡ plain y =
      λ i. code.Adaptive (record { name = n i; on = l i; bounds = b i }) in
      e ∙ ap plain (sym here)
