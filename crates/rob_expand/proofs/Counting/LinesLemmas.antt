-- What is left behind the line of a setting is what is left behind its canonical tokens.
use Rattle.std.proofs.Common.{◌≡◌, ℕ, suc, ◌+◌, ◌==◌, Bool, true, false, List, [], ◌∷◌, ◌++◌, length, map, Option, Some, None, refl, sym, ap, ◌∙◌, arith}
use Rattle.std.specs.Prelude.{ℤ, nat_abs, ◌&&◌}
use Rattle.std.proofs.Math.Dec.{eqb-suc-zero}
use Rattle.std.proofs.lemmas.List.{length-map}
use Rattle.rob_algebra.proofs.ListLemmas.{map_map}
use Rattle.rob_index.specs.Statements.{Name, Ref, Range, Ranged, Share, Tree, Indexed}
use Rattle.rob_index.specs.Statements as stated
use Rattle.rob_index.specs.Settings.{Setting, settings}
use Rattle.rob_index.specs.Expansion.{ranges_of, expand_tree, expand_each, member_of, ref_name, optional_name, statement_at, expand}
use Rattle.rob_index.specs.Counting.{star, plain_tokens, over_tokens, member_tokens, members_tokens, names_tokens, line_tokens, lines_tokens}
use Rattle.rob_index.specs.Forms.{Ends, extensions}
use Rattle.rob_index.specs.Fast.{setting_of, nest_of, names_in}
use Rattle.rob_index.proofs.Faults.FastLemmas.{settings_are}
use Rattle.rob_index.proofs.Expanding.WorkLemmas.{settings_paid}
use Rattle.rob_expand.specs.declared.count.Shape.{Shape}
use Rattle.rob_settings.specs.declared.item.Item.{Item}
use Rattle.rob_expand.specs.declared.line.Line.{Line}
use Rattle.rob_settings.specs.Room.{left_of, after}
use Rattle.rob_expand.specs.Placed.{placed_of}
use Rattle.rob_expand.specs.Placing.{placed_tree}
use Rattle.rob_expand.specs.Count.{of_shape}
use Rattle.rob_settings.specs.Settings.{all_left}
use Rattle.rob_expand.specs.Lines.{rest_of, entries_tokens, entry_count, items_left, trees_left, line_left}
use Rattle.rob_expand.specs.Statements.{IsLine, base_of, trees_of, items_of, name_item, member_item}
use Rattle.rob_settings.proofs.RoomLemmas.{left_zero, left_same, left_after, more_crowded}
use Rattle.rob_expand.proofs.Counting.CountLemmas.{tree_left_is}
use Rattle.rob_expand.proofs.Values.PlacingLemmas.{placed_is}
use Rattle.rob_expand.proofs.Values.TreesLemmas.{trees_counted}

pub rest_is : (shape : Shape) (o : Option ℕ) → rest_of (of_shape shape o) ≡ o
rest_is shape None = refl
rest_is shape (Some n) = refl

-- entries of a list, in each setting of their ranges
entries_are : {A : Type 0} (tokens : A → ℕ) (all : Bool → List A → ℕ) (one : ℕ) (make : Setting → A)
    → ((first : Bool) (x : A) (xs : List A) → all first (x ∷ xs) ≡ star 0 first + (tokens x + all false xs))
    → ((e : Setting) → tokens (make e) ≡ one)
    → (first : Bool) (es : List Setting) (rest : List A)
    → all first (map make es ++ rest) ≡ entries_tokens first one (length es) + all (first && length es == 0) rest
entries_are tokens all one make step same first [] rest = by first
  where
    by : (b : Bool) → all b rest ≡ 0 + all (b && true) rest
    by true = omega arith
    by false = omega arith
entries_are tokens all one make step same first (e ∷ es) rest =
    step first (make e) (map make es ++ rest)
    ∙ omega (arith, same e, entries_are tokens all one make step same false es rest, by first)
  where
    by : (b : Bool) → all (b && suc (length es) == 0) rest ≡ all false rest
    by true = ap (λ (b : Bool). all b rest) (eqb-suc-zero (length es))
    by false = refl

module _ (limit : ℕ) (words : List Name) where
  -- some expressions
  abbrev pub trees_tokens : List Tree → Setting → ℕ
  trees_tokens [] setting = 0
  trees_tokens (t ∷ ts) setting = plain_tokens limit (expand_tree words t setting) + trees_tokens ts setting

  trees_are : (names : List ℕ) (ts : List Tree) (vs : List ℤ) (room : ℕ)
      → trees_left limit (map (placed_tree names) ts) vs room ≡ left_of (trees_tokens ts (setting_of names vs)) room
  trees_are names [] vs room = sym (left_zero room)
  trees_are names (t ∷ ts) vs room =
      ap (λ (o : Option ℕ). after o (trees_left limit (map (placed_tree names) ts) vs))
      (ap rest_of (tree_left_is limit words nat_abs (placed_tree names t) vs room)
      ∙ rest_is _ _ ∙ left_same _ _ room (ap (plain_tokens limit) (placed_is words names t vs)))
      ∙ left_after (plain_tokens limit (expand_tree words t (setting_of names vs)))
      (trees_tokens ts (setting_of names vs)) room (trees_left limit (map (placed_tree names) ts) vs)
      (trees_are names ts vs)

  -- so many entries as there are settings
  count_is : (names : List ℕ) (rs : List Range) (vs : List ℤ)
      → length (settings rs (setting_of names vs)) ≡ length (extensions (nest_of names rs) vs)
  count_is names rs vs = ap length (settings_are rs names vs) ∙ length-map (extensions (nest_of names rs) vs) _

  star_is : (first : Bool) → star limit first ≡ star 0 first
  star_is true = refl
  star_is false = refl

  -- the members of a budget
  members_are : (names : List ℕ) (ms : List (Ranged Share)) (vs : List ℤ) (first : Bool) (room : ℕ)
      → items_left first (map (member_item limit names) ms) vs room
      ≡ left_of (members_tokens limit first (expand_each (member_of words) (setting_of names vs) ms)) room
  members_are names [] vs first room = sym (left_zero room)
  members_are names (m ∷ ms) vs first room =
      let item = member_item limit names m in
      let es = settings m.ranges (setting_of names vs) in
      let rest = expand_each (member_of words) (setting_of names vs) ms in
      let one : ℕ = 1 + item.behind in
      let same : length es ≡ entry_count item vs = count_is names m.ranges vs in
      left_after (entries_tokens first one (entry_count item vs))
      (members_tokens limit (first && entry_count item vs == 0) rest) room
      (items_left (first && entry_count item vs == 0) (map (member_item limit names) ms) vs)
      (members_are names ms vs (first && entry_count item vs == 0))
      ∙ left_same _ _ room
      (ap (λ (n : ℕ). entries_tokens first one n + members_tokens limit (first && n == 0) rest) (sym same)
      ∙ sym (entries_are (member_tokens limit) (members_tokens limit) one (λ e. member_of words e m.item)
      (λ first x xs. omega (arith, star_is first)) (λ e. omega arith) first es rest))

  -- the names of a list
  names_are : (names : List ℕ) (on : List (Ranged Ref)) (vs : List ℤ) (first : Bool) (room : ℕ)
      → items_left first (map (name_item names) on) vs room
      ≡ left_of (names_tokens limit first (expand_each (ref_name words) (setting_of names vs) on)) room
  names_are names [] vs first room = sym (left_zero room)
  names_are names (x ∷ xs) vs first room =
      let item = name_item names x in
      let es = settings x.ranges (setting_of names vs) in
      let rest = expand_each (ref_name words) (setting_of names vs) xs in
      let same : length es ≡ entry_count item vs = count_is names x.ranges vs in
      left_after (entries_tokens first 1 (entry_count item vs))
      (names_tokens limit (first && entry_count item vs == 0) rest) room
      (items_left (first && entry_count item vs == 0) (map (name_item names) xs) vs)
      (names_are names xs vs (first && entry_count item vs == 0))
      ∙ left_same _ _ room
      (ap (λ (n : ℕ). entries_tokens first 1 n + names_tokens limit (first && n == 0) rest) (sym same)
      ∙ sym (entries_are (λ (n : Name). 1) (names_tokens limit) 1 (λ e. ref_name words e x.item)
      (λ first x xs. omega (arith, star_is first)) (λ e. refl) first es rest))

  -- the name behind `over` has as many tokens in each setting
  over_is : (o : Option Ref) (setting : Setting)
      → over_tokens limit (optional_name words setting o) ≡ over_tokens limit o
  over_is None setting = refl
  over_is (Some r) setting = refl

  -- the items of a list have so many tokens
  abbrev pub items_tokens : Indexed Tree → Setting → ℕ
  items_tokens (stated.budget n ms o) setting = members_tokens limit true (expand_each (member_of words) setting ms)
  items_tokens (stated.adaptive r on b rs) setting = names_tokens limit true (expand_each (ref_name words) setting on)
  items_tokens (stated.set s rs) setting = 0
  items_tokens (stated.goal s e o rs) setting = 0
  items_tokens (stated.row r s rs) setting = 0
  items_tokens (stated.uncertain r b rs) setting = 0
  items_tokens (stated.over r rs) setting = 0
  items_tokens (stated.variable r b rs) setting = 0

  items_are : (names : List ℕ) (s : Indexed Tree) (vs : List ℤ) (room : ℕ)
      → items_left true (items_of limit names s) vs room ≡ left_of (items_tokens s (setting_of names vs)) room
  items_are names (stated.budget n ms o) vs room = members_are names ms vs true room
  items_are names (stated.adaptive r on b rs) vs room = names_are names on vs true room
  items_are names (stated.set s rs) vs room = sym (left_zero room)
  items_are names (stated.goal s e o rs) vs room = sym (left_zero room)
  items_are names (stated.row r s rs) vs room = sym (left_zero room)
  items_are names (stated.uncertain r b rs) vs room = sym (left_zero room)
  items_are names (stated.over r rs) vs room = sym (left_zero room)
  items_are names (stated.variable r b rs) vs room = sym (left_zero room)

  -- all of a line
  tokens_are : (s : Indexed Tree) (setting : Setting)
      → base_of limit s + (trees_tokens (trees_of s) setting + items_tokens s setting)
      ≡ line_tokens limit (statement_at words s setting)
  tokens_are (stated.budget n ms o) setting = omega (arith, over_is o setting)
  tokens_are (stated.adaptive r on b rs) setting = omega arith
  tokens_are (stated.set s rs) setting = omega (arith, over_is s.over setting)
  tokens_are (stated.goal s e o rs) setting = omega (arith, over_is o setting)
  tokens_are (stated.row r s rs) setting = omega (arith, over_is s.over setting)
  tokens_are (stated.uncertain r b rs) setting = omega arith
  tokens_are (stated.over r rs) setting = refl
  tokens_are (stated.variable r b rs) setting = omega arith

  module _ (s : Indexed Tree) (ranges : List Ends) (line : Line) (is : IsLine limit s ranges line) where
    pub line_is : (vs : List ℤ) (room : ℕ)
        → line_left line vs room
        ≡ left_of (line_tokens limit (statement_at words s (setting_of (names_in [] (ranges_of s)) vs))) room
    line_is vs room =
        let names = names_in [] (ranges_of s) in
        let setting = setting_of names vs in
        left_after line.base (trees_tokens (trees_of s) setting + items_tokens s setting) room
        (λ room. after (trees_left line.limit (map placed_of line.trees) vs room) (items_left true line.items vs))
        (λ k.
        ap (λ (o : Option ℕ). after o (items_left true line.items vs))
        (ap (λ (n : ℕ). trees_left n (map placed_of line.trees) vs k) is.limit_is
        ∙ trees_counted names limit line.trees (trees_of s) is.trees_are vs k ∙ trees_are names (trees_of s) vs k)
        ∙ left_after (trees_tokens (trees_of s) setting) (items_tokens s setting) k (items_left true line.items vs)
        (λ j. ap (λ (l : List Item). items_left true l vs j) is.items_are ∙ items_are names s vs j))
        ∙ left_same _ _ room
        (ap (λ (n : ℕ). n + (trees_tokens (trees_of s) setting + items_tokens s setting)) is.base_is
        ∙ tokens_are s setting)

    -- all lines
    lines_are : (es : List (List ℤ)) (room : ℕ)
        → all_left (line_left line) es room
        ≡ left_of (lines_tokens limit (map (λ vs. statement_at words s (setting_of (names_in [] (ranges_of s)) vs)) es))
        room
    lines_are [] room = sym (left_zero room)
    lines_are (vs ∷ es) room =
        ap (λ (o : Option ℕ). after o (all_left (line_left line) es)) (line_is vs room)
        ∙ left_after (line_tokens limit (statement_at words s (setting_of (names_in [] (ranges_of s)) vs)))
        (lines_tokens limit (map (λ vs. statement_at words s (setting_of (names_in [] (ranges_of s)) vs)) es)) room
        (all_left (line_left line) es) (lines_are es)

    -- what is left behind all that the statement stands for
    pub expansion_left : (room : ℕ)
        → all_left (line_left line) (extensions ranges []) room ≡ left_of (lines_tokens limit (expand words s)) room
    expansion_left room =
        ap (λ (rs : List Ends). all_left (line_left line) (extensions rs []) room) is.ranges_are
        ∙ lines_are (extensions (nest_of [] (ranges_of s)) []) room
        ∙ left_same _ _ room
        (ap (lines_tokens limit)
        (sym (map_map (statement_at words s) (setting_of (names_in [] (ranges_of s)))
        (extensions (nest_of [] (ranges_of s)) []))
        ∙ ap (map (statement_at words s)) (sym (settings_are (ranges_of s) [] []))))

    -- where there is no room for a token for each setting, there is none for the lines
    pub expansion_crowded : (room : ℕ) → left_of (length (extensions ranges [])) room ≡ None
        → left_of (lines_tokens limit (expand words s)) room ≡ None
    expansion_crowded room is_none =
        let same : length (extensions ranges []) ≡ length (settings (ranges_of s) []) =
        ap (λ (rs : List Ends). length (extensions rs [])) is.ranges_are ∙ sym (count_is [] (ranges_of s) []) in
        let paid = settings_paid limit words s (statement_at words s) (settings (ranges_of s) []) in
        more_crowded (length (extensions ranges [])) (lines_tokens limit (expand words s)) room
        (omega (arith, same, paid)) is_none
