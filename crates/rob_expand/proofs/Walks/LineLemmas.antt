-- The walks over the expressions of a line, the items of its list, and the settings of a statement.
use Rattle.std.proofs.Common.{◌≡◌, ℕ, zero, suc, ◌+◌, ◌-◌, ◌*◌, ◌<◌, ◌≤◌, ◌==◌, Bool, true, false, List, [], ◌∷◌, ◌++◌, length, map, drop, get_or, Option, Some, None, refl, sym, ap, ◌∙◌, arith}
use Rattle.std.specs.Prelude.{ℤ, ◌&&◌}
use Rattle.std.proofs.lemmas.List.{at_drop_more, at_drop_all}
use Rattle.rob_index.specs.Forms.{extensions}
use Rattle.rob_expand.specs.declared.count.Counted.{Counted}
use Rattle.rob_settings.specs.declared.item.Item.{Item}
use Rattle.rob_expand.specs.declared.line.Line.{Line}
use Rattle.rob_expand.specs.declared.placed.Placed.{Placed as Code}
use Rattle.rob_settings.specs.Room.{left_of, after}
use Rattle.rob_expand.specs.Placed.{placed_of}
use Rattle.rob_expand.specs.Count.{tree_left}
use Rattle.rob_settings.specs.Settings.{all_left}
use Rattle.rob_expand.specs.Lines.{rest_of, entries_tokens, entry_count, items_left, trees_left, line_left}
use Rattle.rob_settings.proofs.RoomLemmas.{more_crowded}

-- ---- expressions
module _ (limit : ℕ) (vs : List ℤ) where
  -- the expressions from one on
  abbrev pub trees_from : List Code → ℕ → Option ℕ
  trees_from xs room = trees_left limit (map placed_of xs) vs room

  trees_step : (xs : List Code) (i : ℕ) (left : ℕ) (x : Code) → i < length xs → x ≡ get_or xs i x
      → trees_from (drop i xs) left
      ≡ after (rest_of (tree_left limit (placed_of x) vs left)) (trees_from (drop (i + 1) xs))
  trees_step xs i left x inside is =
      at_drop_more (λ (l : List Code). trees_from l left) xs i x inside
      ∙ ap (λ (y : Code). trees_left limit (placed_of y ∷ map placed_of (drop (i + 1) xs)) vs left) (sym is)

  pub trees_more : (xs : List Code) (i : ℕ) (left : ℕ) (x : Code) (counted : Counted) {result : Option ℕ}
      → i < length xs → x ≡ get_or xs i x → tree_left limit (placed_of x) vs left ≡ Some counted
      → trees_from (drop i xs) left ≡ result → trees_from (drop (i + 1) xs) counted.left ≡ result
  trees_more xs i left x counted inside is some so_far =
      sym (ap (λ (o : Option Counted). after (rest_of o) (trees_from (drop (i + 1) xs))) some)
      ∙ sym (trees_step xs i left x inside is) ∙ so_far

  pub trees_stop : (xs : List Code) (i : ℕ) (left : ℕ) (x : Code) {result : Option ℕ}
      → i < length xs → x ≡ get_or xs i x → trees_from (drop i xs) left ≡ result
      → tree_left limit (placed_of x) vs left ≡ None → result ≡ None
  trees_stop xs i left x inside is so_far none =
      sym so_far ∙ trees_step xs i left x inside is
      ∙ ap (λ (o : Option Counted). after (rest_of o) (trees_from (drop (i + 1) xs))) none

  pub trees_end : (xs : List Code) (i left : ℕ) → length xs ≤ i → trees_from (drop i xs) left ≡ Some left
  trees_end xs i left all = at_drop_all (λ (l : List Code). trees_from l left) xs i all

-- ---- items of a list
entries_behind : (tokens n : ℕ) → entries_tokens false tokens n ≡ n * (1 + tokens)
entries_behind tokens zero = omega arith
entries_behind tokens (suc n) = let h = entries_behind tokens n in omega (arith, h)

-- the tokens of some entries, a `,` in front of each but the first of the list
pub entries_later : (behind n : ℕ) → entries_tokens false (1 + behind) n ≡ n * (2 + behind)
entries_later behind n = let h = entries_behind (1 + behind) n in omega (arith, h)

pub entries_first : (behind n : ℕ) → 0 < n → entries_tokens true (1 + behind) n ≡ n * (2 + behind) - 1
entries_first behind zero h = absurd (omega arith)
entries_first behind (suc n) h = let h = entries_behind (1 + behind) n in omega (arith, h)

-- each entry has a token
pub entries_some : (first : Bool) (behind n : ℕ) → n ≤ entries_tokens first (1 + behind) n
entries_some first behind zero = omega arith
entries_some first behind (suc n) = let h = entries_behind (1 + behind) n in omega (arith, h)

-- the items from one on
module _ (vs : List ℤ) where
  items_step : (xs : List Item) (i : ℕ) (first : Bool) (left : ℕ) (x : Item) → i < length xs → x ≡ get_or xs i x
      → items_left first (drop i xs) vs left
      ≡ after (left_of (entries_tokens first (1 + x.behind) (entry_count x vs)) left)
      (items_left (first && entry_count x vs == 0) (drop (i + 1) xs) vs)
  items_step xs i first left x inside is =
      at_drop_more (λ (l : List Item). items_left first l vs left) xs i x inside
      ∙ ap (λ (y : Item). items_left first (y ∷ drop (i + 1) xs) vs left) (sym is)

  -- there is no room for its entries
  pub items_stop : (xs : List Item) (i : ℕ) (first : Bool) (left : ℕ) (x : Item) (entries : ℕ) {result : Option ℕ}
      → i < length xs → x ≡ get_or xs i x → entries ≡ length (extensions x.ranges vs)
      → items_left first (drop i xs) vs left ≡ result
      → left_of (entries_tokens first (1 + x.behind) entries) left ≡ None → result ≡ None
  items_stop xs i first left x entries inside is count so_far none =
      sym so_far ∙ items_step xs i first left x inside is
      ∙ ap (λ (o : Option ℕ). after o (items_left (first && entry_count x vs == 0) (drop (i + 1) xs) vs))
      (ap (λ (n : ℕ). left_of (entries_tokens first (1 + x.behind) n) left) (sym count) ∙ none)

  -- there are more of them than there is room for
  pub items_crowded : (xs : List Item) (i : ℕ) (first : Bool) (left : ℕ) (x : Item) {result : Option ℕ}
      → i < length xs → x ≡ get_or xs i x → items_left first (drop i xs) vs left ≡ result
      → left_of (length (extensions x.ranges vs)) left ≡ None → result ≡ None
  items_crowded xs i first left x inside is so_far none =
      items_stop xs i first left x (length (extensions x.ranges vs)) inside is refl so_far
      (more_crowded (length (extensions x.ranges vs))
      (entries_tokens first (1 + x.behind) (length (extensions x.ranges vs))) left
      (entries_some first x.behind (length (extensions x.ranges vs))) none)

  pub items_end : (xs : List Item) (i : ℕ) (first : Bool) (left : ℕ) → length xs ≤ i
      → items_left first (drop i xs) vs left ≡ Some left
  items_end xs i first left all = at_drop_all (λ (l : List Item). items_left first l vs left) xs i all

-- ---- settings
module _ {A : Type 0} (left : A → ℕ → Option ℕ) where
  pub left_none : (xs : List A) (room : ℕ) → length xs < 1 → all_left left xs room ≡ Some room
  left_none [] room h = refl
  left_none (x ∷ xs) room h = absurd (omega (arith, h))

  left_one : (x : A) (room : ℕ) → left x room ≡ all_left left (x ∷ []) room
  left_one x room = go (left x room)
    where
      go : (o : Option ℕ) → o ≡ after o (all_left left [])
      go None = refl
      go (Some behind) = refl

  pub left_only : (xs : List A) (x : A) (room : ℕ) → length xs ≡ 1 → x ≡ get_or xs 0 x
      → left x room ≡ all_left left xs room
  left_only [] x room one is = absurd (omega (arith, one))
  left_only (y ∷ []) x room one is = left_one x room ∙ ap (λ (z : A). all_left left (z ∷ []) room) is
  left_only (y ∷ z ∷ zs) x room one is = absurd (omega (arith, one))

  left_append : (xs ys : List A) (room : ℕ)
      → all_left left (xs ++ ys) room ≡ after (all_left left xs room) (all_left left ys)
  left_append [] ys room = refl
  left_append (x ∷ xs) ys room = go (left_append xs ys) (left x room)
    where
      go : ((behind : ℕ) → all_left left (xs ++ ys) behind ≡ after (all_left left xs behind) (all_left left ys))
          → (o : Option ℕ) → after o (all_left left (xs ++ ys)) ≡ after (after o (all_left left xs)) (all_left left ys)
      go so None = refl
      go so (Some behind) = so behind

  module _ (all front behind : List A) (is : all ≡ front ++ behind) (room : ℕ) where
    left_split : all_left left all room ≡ after (all_left left front room) (all_left left behind)
    left_split = ap (λ (l : List A). all_left left l room) is ∙ left_append front behind room

    pub left_behind : (rest : ℕ) → all_left left front room ≡ Some rest
        → all_left left behind rest ≡ all_left left all room
    left_behind rest some = sym (left_split ∙ ap (λ (o : Option ℕ). after o (all_left left behind)) some)

    pub left_short : all_left left front room ≡ None → all_left left all room ≡ None
    left_short none = left_split ∙ ap (λ (o : Option ℕ). after o (all_left left behind)) none

-- ---- a line: what it has in any setting, then its expressions, then the items of its list
module _ (line : Line) (vs : List ℤ) (room : ℕ) where
  pub line_baseless : left_of line.base room ≡ None → line_left line vs room ≡ None
  line_baseless none =
      ap (λ (o : Option ℕ). after o (λ room.
      after (trees_left line.limit (map placed_of line.trees) vs room) (items_left true line.items vs))) none

  module _ (left : ℕ) (paid : left_of line.base room ≡ Some left) (trees : List Code) (same : trees ≡ line.trees) where
    line_based : line_left line vs room
        ≡ after (trees_left line.limit (map placed_of trees) vs left) (items_left true line.items vs)
    line_based =
        ap (λ (o : Option ℕ). after o (λ room.
        after (trees_left line.limit (map placed_of line.trees) vs room) (items_left true line.items vs))) paid
        ∙ ap (λ (ts : List Code). after (trees_left line.limit (map placed_of ts) vs left)
        (items_left true line.items vs))
        (sym same)

    pub line_treeless : trees_left line.limit (map placed_of trees) vs left ≡ None → line_left line vs room ≡ None
    line_treeless none = line_based ∙ ap (λ (o : Option ℕ). after o (items_left true line.items vs)) none

    pub line_behind : (behind : ℕ) (items : List Item) → items ≡ line.items
        → trees_left line.limit (map placed_of trees) vs left ≡ Some behind
        → items_left true items vs behind ≡ line_left line vs room
    line_behind behind items are some =
        ap (λ (xs : List Item). items_left true xs vs behind) are
        ∙ sym (line_based ∙ ap (λ (o : Option ℕ). after o (items_left true line.items vs)) some)
