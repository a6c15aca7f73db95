-- The fuel that the reader of lines needs is in the length of the line.
use Rattle.std.proofs.Common.{◌+◌, ◌*◌, ◌≤◌, List, [], ◌∷◌, ◌++◌, length, Option, Some, None, arith, length-append}
use Rattle.rob_index.specs.Symbols.{sign, word}
use Rattle.rob_index.specs.Symbols as is
use Rattle.rob_index.specs.Statements.{Step, Index, Ref, Range, Ranged, Share, Sides, Indexed, uncertain, over, set, budget, variable, adaptive, goal, row}
use Rattle.rob_index.specs.Grammar.{Factor, Factors, Term, Terms, Expr, number, ref, parens, sum, no_factors, times, term, no_terms, signed, expr, spell_steps, spell_index, spell_more, spell_list, spell_ref, spell_range, spell_ranges, spell_over, spell_number, spell_signed, spell_bounds, spell_minus, spell_factor, spell_factors, spell_term, spell_terms, spell_expr}
use Rattle.rob_index.specs.Lines.{spell_rel, spell_sides, spell_ranged, spell_share, spell_line}
use Rattle.rob_index.proofs.Parsing.PartsRead.{index_size, indices_size, ref_size, range_size, ranges_size, over_size}
use Rattle.rob_index.proofs.Parsing.ExprParser.{factor_size, factors_size, term_size, terms_size, expr_size}
use Rattle.rob_index.proofs.Parsing.LineParser.{sides_size, share_size, shares_size, entry_size, entries_size}
use Rattle.rob_index.proofs.Parsing.OneStatement.{line_size}

steps_fit : (ss : List Step) → length ss ≤ length (spell_steps ss)
steps_fit [] = omega arith
steps_fit (s ∷ ss) = let h = steps_fit ss in omega (arith, h)

index_fits : (x : Index) → index_size x ≤ length (spell_index x)
index_fits x = let h = steps_fit x.more in omega (arith, h)

indices_fit : (xs : List Index) → indices_size xs ≤ length (spell_more spell_index xs) + 1
indices_fit [] = omega arith
indices_fit (x ∷ xs) = let h =
    indices_fit xs in let k = index_fits x in let l = length-append (spell_index x)
    (spell_more spell_index xs) in omega (arith, h, k, l)

pub ref_fits : (r : Ref) → ref_size r ≤ length (spell_ref r)
ref_fits r = go r.indices
  where
    go : (xs : List Index) → indices_size xs ≤ length (spell_ref (record { name = r.name; indices = xs }))
    go [] = omega arith
    go (x ∷ xs) =
        let h = indices_fit xs in
        let k = index_fits x in
        let l = length-append (spell_index x) (spell_more spell_index xs) in
        let m = length-append (spell_index x ++ spell_more spell_index xs) (sign is.close_bracket ∷ []) in
        omega (arith, h, k, l, m)

range_fits : (r : Range) → range_size r ≤ length (spell_range r)
range_fits r = let h = index_fits r.from in let k =
    index_fits r.upto in let l = length-append (spell_index r.from) (word is.to ∷ spell_index r.upto) in omega
    (arith, h, k, l)

more_ranges_fit : (rs : List Range) → ranges_size rs ≤ length (spell_more spell_range rs) + 1
more_ranges_fit [] = omega arith
more_ranges_fit (r ∷ rs) =
    let h = more_ranges_fit rs in let k = range_fits r in let l = length-append (spell_range r)
    (spell_more spell_range rs) in omega (arith, h, k, l)

ranges_fit : (rs : List Range) → ranges_size rs ≤ length (spell_ranges rs) + 1
ranges_fit [] = omega arith
ranges_fit (r ∷ rs) = let h =
    more_ranges_fit rs in let k = range_fits r in let l = length-append (spell_range r)
    (spell_more spell_range rs) in omega (arith, h, k, l)

over_fits : (o : Option Ref) → over_size o ≤ length (spell_over o) + 1
over_fits None = omega arith
over_fits (Some r) = let h = ref_fits r in omega (arith, h)

mutual
  factor_fits : (f : Factor) → factor_size f ≤ 3 * length (spell_factor f)
  factor_fits (number n) = omega arith
  factor_fits (ref r) = let h = ref_fits r in omega (arith, h)
  factor_fits (parens e) =
      let h = expr_fits e in let l = length-append (spell_expr e) (sign is.closing ∷ []) in omega (arith, h, l)
  factor_fits (sum r e) =
      let h = expr_fits e in
      let k = range_fits r in
      let l = length-append (spell_expr e) (sign is.closing ∷ []) in
      let m = length-append (spell_range r) (sign is.colon ∷ (spell_expr e ++ sign is.closing ∷ [])) in
      omega (arith, h, k, l, m)

  factors_fit : (fs : Factors) → factors_size fs ≤ 3 * length (spell_factors fs) + 1
  factors_fit no_factors = omega arith
  factors_fit (times f fs) =
      let h = factor_fits f in let k = factors_fit fs in let l = length-append (spell_factor f)
      (spell_factors fs) in omega (arith, h, k, l)

  term_fits : (t : Term) → term_size t ≤ 3 * length (spell_term t) + 1
  term_fits (term f fs) = let h =
      factor_fits f in let k = factors_fit fs in let l = length-append (spell_factor f) (spell_factors fs) in omega
      (arith, h, k, l)

  terms_fit : (ts : Terms) → terms_size ts ≤ 3 * length (spell_terms ts) + 1
  terms_fit no_terms = omega arith
  terms_fit (signed m t ts) =
      let h = term_fits t in let k = terms_fit ts in let l = length-append (spell_term t) (spell_terms ts) in omega
      (arith, h, k, l)

  pub expr_fits : (e : Expr) → expr_size e ≤ 3 * length (spell_expr e) + 3
  expr_fits (expr m t ts) =
      let h = term_fits t in
      let k = terms_fit ts in
      let l = length-append (spell_term t) (spell_terms ts) in
      let n = length-append (spell_minus m) (spell_term t ++ spell_terms ts) in
      omega (arith, h, k, l, n)

sides_fit : (s : Sides Expr) → sides_size s ≤ 3 * length (spell_sides s) + 7
sides_fit s =
    let h = expr_fits s.left in
    let k = expr_fits s.right in
    let o = over_fits s.over in
    let l = length-append (spell_expr s.right) (spell_over s.over) in
    let m = length-append (spell_expr s.left) (spell_rel s.rel ∷ (spell_expr s.right ++ spell_over s.over)) in
    omega (arith, h, k, o, l, m)

share_fits : (x : Ranged Share) → share_size x ≤ length (spell_ranged spell_share x) + 1
share_fits x =
    let h = ref_fits x.item.name in
    let k = ranges_fit x.ranges in
    let l = length-append (spell_share x.item) (spell_ranges x.ranges) in
    let m = length-append (spell_ref x.item.name)
    (word is.at ∷ (spell_signed x.item.centre ++ word is.by ∷ spell_number x.item.deviation)) in
    omega (arith, h, k, l, m)

shares_fit : (xs : List (Ranged Share)) → shares_size xs ≤ 2 * length (spell_more (spell_ranged spell_share) xs) + 1
shares_fit [] = omega arith
shares_fit (x ∷ xs) = let h =
    shares_fit xs in let k = share_fits x in let l = length-append (spell_ranged spell_share x)
    (spell_more (spell_ranged spell_share) xs) in omega (arith, h, k, l)

list_shares_fit : (xs : List (Ranged Share))
    → shares_size xs ≤ 3 * length (spell_list (spell_ranged spell_share) xs) + 3
list_shares_fit [] = omega arith
list_shares_fit (x ∷ xs) =
    let h = shares_fit xs in let k = share_fits x in let l = length-append (spell_ranged spell_share x)
    (spell_more (spell_ranged spell_share) xs) in omega (arith, h, k, l)

entry_fits : (x : Ranged Ref) → entry_size x ≤ length (spell_ranged spell_ref x) + 1
entry_fits x = let h = ref_fits x.item in let k =
    ranges_fit x.ranges in let l = length-append (spell_ref x.item) (spell_ranges x.ranges) in omega (arith, h, k, l)

entries_fit : (xs : List (Ranged Ref)) → entries_size xs ≤ 2 * length (spell_more (spell_ranged spell_ref) xs) + 1
entries_fit [] = omega arith
entries_fit (x ∷ xs) = let h =
    entries_fit xs in let k = entry_fits x in let l = length-append (spell_ranged spell_ref x)
    (spell_more (spell_ranged spell_ref) xs) in omega (arith, h, k, l)

list_entries_fit : (xs : List (Ranged Ref)) → entries_size xs ≤ 3 * length (spell_list (spell_ranged spell_ref) xs) + 3
list_entries_fit [] = omega arith
list_entries_fit (x ∷ xs) =
    let h = entries_fit xs in let k = entry_fits x in let l = length-append (spell_ranged spell_ref x)
    (spell_more (spell_ranged spell_ref) xs) in omega (arith, h, k, l)

pub line_fits : (l : Indexed Expr) → line_size l ≤ 3 * length (spell_line l) + 12
line_fits (uncertain r b rs) =
    let h = ref_fits r in
    let k = ranges_fit rs in
    let l = length-append (spell_ref r) (spell_bounds b ++ spell_ranges rs) in
    let m = length-append (spell_bounds b) (spell_ranges rs) in
    omega (arith, h, k, l, m)
line_fits (over r rs) = let h =
    ref_fits r in let k = ranges_fit rs in let l = length-append (spell_ref r) (spell_ranges rs) in omega
    (arith, h, k, l)
line_fits (set s rs) = let h =
    sides_fit s in let k = ranges_fit rs in let l = length-append (spell_sides s) (spell_ranges rs) in omega
    (arith, h, k, l)
line_fits (budget g ms o) =
    let h = list_shares_fit ms in
    let k = over_fits o in
    let l = length-append (spell_list (spell_ranged spell_share) ms) (spell_over o) in
    let m = length-append (spell_number g)
    (sign is.colon ∷ (spell_list (spell_ranged spell_share) ms ++ spell_over o)) in
    omega (arith, h, k, l, m)
line_fits (variable r b rs) =
    let h = ref_fits r in
    let k = ranges_fit rs in
    let l = length-append (spell_ref r) (spell_bounds b ++ spell_ranges rs) in
    let m = length-append (spell_bounds b) (spell_ranges rs) in
    omega (arith, h, k, l, m)
line_fits (adaptive r on b rs) =
    let h = ref_fits r in
    let e = list_entries_fit on in
    let k = ranges_fit rs in
    let l = length-append (spell_bounds b) (spell_ranges rs) in
    let m = length-append (spell_list (spell_ranged spell_ref) on)
    (sign is.closing ∷ (spell_bounds b ++ spell_ranges rs)) in
    let n = length-append (spell_ref r)
    (sign is.opening ∷ (spell_list (spell_ranged spell_ref) on
    ++ sign is.closing ∷ (spell_bounds b ++ spell_ranges rs))) in
    omega (arith, h, e, k, l, m, n)
line_fits (goal s e o rs) =
    let h = expr_fits e in
    let j = over_fits o in
    let k = ranges_fit rs in
    let l = length-append (spell_over o) (spell_ranges rs) in
    let m = length-append (spell_expr e) (spell_over o ++ spell_ranges rs) in
    omega (arith, h, j, k, l, m)
line_fits (row r s rs) =
    let h = ref_fits r in
    let j = sides_fit s in
    let k = ranges_fit rs in
    let l = length-append (spell_sides s) (spell_ranges rs) in
    let m = length-append (spell_ref r) (sign is.colon ∷ (spell_sides s ++ spell_ranges rs)) in
    omega (arith, h, j, k, l, m)
