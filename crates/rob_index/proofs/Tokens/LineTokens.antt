-- A line of version 1 has at least as many tokens, its line end among them, as its canonical line: so rule 28 can't be
-- broken where rule 3 isn't.
use Rattle.std.proofs.Common.{ℕ, ◌+◌, ◌≤◌, Bool, true, false, List, [], ◌∷◌, ◌++◌, length, Option, Some, None, ap, arith, length-append}
use Rattle.std.specs.Prelude.{◌&&◌, ◌==◌, not, if◌then◌else◌}
use Rattle.rob_index.specs.Symbols.{sign, word}
use Rattle.rob_index.specs.Symbols as is
use Rattle.rob_index.specs.Statements.{Name, Signed, Bounds, Ref, Ranged, Share, Sides, Indexed, uncertain, over, set, budget, variable, adaptive, goal, row}
use Rattle.rob_index.specs.Statements as stated
use Rattle.rob_index.specs.Grammar.{Expr, spell_ref, spell_ranges, spell_over, spell_number, spell_minus, spell_signed, spell_bounds, spell_expr, spell_more, spell_list, tree_expr}
use Rattle.rob_index.specs.Lines.{spell_rel, spell_sides, spell_ranged, spell_share, spell_line, statement_of, trees_of}
use Rattle.rob_index.specs.Settings.{Setting}
use Rattle.rob_index.specs.Expansion.{expand_tree, optional_name, statement_at}
use Rattle.rob_index.specs.PlainLines.{ArePlainSides, IsPlainLine, itself_members, itself_names}
use Rattle.rob_index.specs.Counting.{fits, number_tokens, signed_tokens, bounds_tokens, over_tokens, members_tokens, names_tokens, plain_tokens, line_tokens}
use Rattle.rob_index.proofs.Expanding.PlainLemmas.{members_are, names_are}
use Rattle.rob_index.proofs.Tokens.DepthLemmas.{number_fits, expr_tokens_fit}

module _ (limit : ℕ) (words : List Name) where
  minus_fits : (m b : Bool) → (if m && b then 1 else 0) ≤ length (spell_minus m)
  minus_fits true true = omega arith
  minus_fits true false = omega arith
  minus_fits false b = omega arith

  signed_fits : (s : Signed) → signed_tokens limit s ≤ length (spell_signed s)
  signed_fits s =
      let h = minus_fits s.minus (not (fits limit s.number && (s.number.numerator == 0))) in
      let k = number_fits limit words s.number in
      let l = length-append (spell_minus s.minus) (spell_number s.number) in
      omega (arith, h, k, l)

  bounds_fit : (b : Option Bounds) → bounds_tokens limit b ≤ length (spell_bounds b)
  bounds_fit None = omega arith
  bounds_fit (Some (stated.between x y)) =
      let h = signed_fits x in
      let k = signed_fits y in
      let l = length-append (spell_signed y) (sign is.close_bracket ∷ []) in
      let m = length-append (spell_signed x) (sign is.comma ∷ (spell_signed y ++ sign is.close_bracket ∷ [])) in
      omega (arith, h, k, l, m)
  bounds_fit (Some (stated.at_least x)) = let h = signed_fits x in omega (arith, h)
  bounds_fit (Some (stated.at_most x)) = let h = signed_fits x in omega (arith, h)

  over_fit : (setting : Setting) (o : Option Ref)
      → over_tokens limit (optional_name words setting o) ≤ length (spell_over o)
  over_fit setting None = omega arith
  over_fit setting (Some r) = omega arith

  share_fit : (x : Ranged Share)
      → 3 + (signed_tokens limit x.item.centre + number_tokens limit x.item.deviation) ≤ length
      (spell_ranged spell_share x)
  share_fit x =
      let h = signed_fits x.item.centre in
      let k = number_fits limit words x.item.deviation in
      let l = length-append (spell_share x.item) (spell_ranges x.ranges) in
      let m = length-append (spell_signed x.item.centre) (word is.by ∷ spell_number x.item.deviation) in
      let n = length-append (spell_ref x.item.name)
      (word is.at ∷ (spell_signed x.item.centre ++ word is.by ∷ spell_number x.item.deviation)) in
      omega (arith, h, k, l, m, n)

  shares_fit : (ms : List (Ranged Share))
      → members_tokens limit false (itself_members words ms) ≤ length (spell_more (spell_ranged spell_share) ms)
  shares_fit [] = omega arith
  shares_fit (m ∷ ms) = let h =
      share_fit m in let k = shares_fit ms in let l = length-append (spell_ranged spell_share m)
      (spell_more (spell_ranged spell_share) ms) in omega (arith, h, k, l)

  members_fit : (ms : List (Ranged Share))
      → members_tokens limit true (itself_members words ms) ≤ length (spell_list (spell_ranged spell_share) ms)
  members_fit [] = omega arith
  members_fit (m ∷ ms) = let h =
      share_fit m in let k = shares_fit ms in let l = length-append (spell_ranged spell_share m)
      (spell_more (spell_ranged spell_share) ms) in omega (arith, h, k, l)

  entry_fit : (x : Ranged Ref) → 1 ≤ length (spell_ranged spell_ref x)
  entry_fit x = let l = length-append (spell_ref x.item) (spell_ranges x.ranges) in omega (arith, l)

  entries_fit : (xs : List (Ranged Ref))
      → names_tokens limit false (itself_names words xs) ≤ length (spell_more (spell_ranged spell_ref) xs)
  entries_fit [] = omega arith
  entries_fit (x ∷ xs) = let h =
      entry_fit x in let k = entries_fit xs in let l = length-append (spell_ranged spell_ref x)
      (spell_more (spell_ranged spell_ref) xs) in omega (arith, h, k, l)

  names_fit : (xs : List (Ranged Ref))
      → names_tokens limit true (itself_names words xs) ≤ length (spell_list (spell_ranged spell_ref) xs)
  names_fit [] = omega arith
  names_fit (x ∷ xs) = let h =
      entry_fit x in let k = entries_fit xs in let l = length-append (spell_ranged spell_ref x)
      (spell_more (spell_ranged spell_ref) xs) in omega (arith, h, k, l)

  sides_fit : (s : Sides Expr) (setting : Setting) → ArePlainSides (trees_of s)
      → 1 + (plain_tokens limit (expand_tree words (tree_expr s.left) setting)
      + (plain_tokens limit (expand_tree words (tree_expr s.right) setting)
      + over_tokens limit (optional_name words setting s.over))) ≤ length (spell_sides s)
  sides_fit s setting h =
      let i = expr_tokens_fit limit words s.left setting h.0 in
      let j = expr_tokens_fit limit words s.right setting h.1 in
      let o = over_fit setting s.over in
      let l = length-append (spell_expr s.right) (spell_over s.over) in
      let m = length-append (spell_expr s.left) (spell_rel s.rel ∷ (spell_expr s.right ++ spell_over s.over)) in
      omega (arith, i, j, o, l, m)

  pub line_tokens_fit : (l : Indexed Expr) (setting : Setting) → IsPlainLine (statement_of l)
      → line_tokens limit (statement_at words (statement_of l) setting) ≤ length (spell_line l) + 1
  line_tokens_fit (uncertain r b rs) setting h =
      let k = bounds_fit b in
      let l = length-append (spell_ref r) (spell_bounds b ++ spell_ranges rs) in
      let m = length-append (spell_bounds b) (spell_ranges rs) in
      omega (arith, k, l, m)
  line_tokens_fit (over r rs) setting h = let l = length-append (spell_ref r) (spell_ranges rs) in omega (arith, l)
  line_tokens_fit (set s rs) setting h =
      let k = sides_fit s setting h.0 in let l = length-append (spell_sides s) (spell_ranges rs) in omega (arith, k, l)
  line_tokens_fit (budget g ms o) setting h =
      let e = ap (members_tokens limit true) (members_are words setting ms h.0) in
      let i = members_fit ms in
      let j = number_fits limit words g in
      let k = over_fit setting o in
      let l = length-append (spell_list (spell_ranged spell_share) ms) (spell_over o) in
      let m = length-append (spell_number g)
      (sign is.colon ∷ (spell_list (spell_ranged spell_share) ms ++ spell_over o)) in
      omega (arith, e, i, j, k, l, m)
  line_tokens_fit (variable r b rs) setting h =
      let k = bounds_fit b in
      let l = length-append (spell_ref r) (spell_bounds b ++ spell_ranges rs) in
      let m = length-append (spell_bounds b) (spell_ranges rs) in
      omega (arith, k, l, m)
  line_tokens_fit (adaptive r on b rs) setting h =
      let e = ap (names_tokens limit {A = Name} true) (names_are words setting on h.1) in
      let i = names_fit on in
      let j = bounds_fit b in
      let l = length-append (spell_bounds b) (spell_ranges rs) in
      let m = length-append (spell_list (spell_ranged spell_ref) on)
      (sign is.closing ∷ (spell_bounds b ++ spell_ranges rs)) in
      let n = length-append (spell_ref r)
      (sign is.opening ∷ (spell_list (spell_ranged spell_ref) on
      ++ sign is.closing ∷ (spell_bounds b ++ spell_ranges rs))) in
      omega (arith, e, i, j, l, m, n)
  line_tokens_fit (goal s e o rs) setting h =
      let j = expr_tokens_fit limit words e setting h.0 in
      let k = over_fit setting o in
      let l = length-append (spell_over o) (spell_ranges rs) in
      let m = length-append (spell_expr e) (spell_over o ++ spell_ranges rs) in
      omega (arith, j, k, l, m)
  line_tokens_fit (row r s rs) setting h =
      let k = sides_fit s setting h.1 in
      let l = length-append (spell_sides s) (spell_ranges rs) in
      let m = length-append (spell_ref r) (sign is.colon ∷ (spell_sides s ++ spell_ranges rs)) in
      omega (arith, k, l, m)
