-- One step of the walk over the parts of a sum or the factors of a product.
use Rattle.std.proofs.Common.{◌≡◌, ℕ, ◌+◌, ◌<◌, ◌≤◌, List, [], length, map, drop, get_or, sym, ap, ◌∙◌}
use Rattle.std.specs.Prelude.{Option, Some, unwrap_or}
use Rattle.std.proofs.lemmas.List.{at_drop_more, at_drop_all}
use Rattle.rob_rules.specs.declared.sort.Sort.{Sort}
use Rattle.rob_rules.specs.declared.degree.Weight.{Weight}
use Rattle.rob_syntax.specs.declared.syntax.Syntax.{Syntax}
use Rattle.rob_syntax.specs.declared.syntax.Summand.{Summand, fold_out-Summand}
use Rattle.rob_rules.specs.Degrees.{constant}
use Rattle.rob_syntax.specs.Trees.{Tree, Part, summands_of, operands_of, tree_step, part_step, tree_of, part_of}
use Rattle.rob_rules.specs.Weights.{weight, weight_of, joined, multiplied}
use Rattle.rob_rules.proofs.Trees.WeightLemmas.{sum_from, product_from}

-- a signed part is seen with its sign and its tree
pub part_is : (x : Summand) → part_of x ≡ record { minus = x.minus; inner = tree_of x.inner }
part_is x = fold_out-Summand Tree Part tree_step part_step x

module _ (sorts : List (Option Sort)) where
  pub sum_step : (xs : List Summand) (i : ℕ) (w : Weight) {next new result : Weight} (x : Summand) → i < length xs
      → x ≡ get_or xs i x → next ≡ weight_of sorts (tree_of x.inner) → new ≡ joined w next
      → sum_from sorts w (summands_of (map part_of (drop i xs))) ≡ result
      → sum_from sorts new (summands_of (map part_of (drop (i + 1) xs))) ≡ result
  unfolding sum_from
  sum_step xs i w {next} {new} {result} x inside is weighed joins so_far =
      let rest = summands_of (map part_of (drop (i + 1) xs)) in
      let step = at_drop_more (λ (l : List Summand). sum_from sorts w (summands_of (map part_of l))) xs i x inside in
      ap (λ (v : Weight). sum_from sorts v rest)
      (joins ∙ ap (joined w) (weighed ∙ ap (λ (p : Part). weight_of sorts p.inner) (sym (part_is x) ∙ ap part_of is)))
      ∙ sym step ∙ so_far

  pub product_step : (xs : List Syntax) (i : ℕ) (o : Option Weight) {next new result : Weight} (x : Syntax)
      → i < length xs → x ≡ get_or xs i x → next ≡ weight_of sorts (tree_of x) → new ≡ multiplied o next
      → product_from sorts o (operands_of (map tree_of (drop i xs))) ≡ result
      → product_from sorts (Some new) (operands_of (map tree_of (drop (i + 1) xs))) ≡ result
  unfolding product_from
  product_step xs i o {next} {new} {result} x inside is weighed multiplies so_far =
      let rest = operands_of (map tree_of (drop (i + 1) xs)) in
      let step = at_drop_more (λ (l : List Syntax). product_from sorts o (operands_of (map tree_of l))) xs i x inside in
      ap (λ (v : Weight). product_from sorts (Some v) rest)
      (multiplies ∙ ap (multiplied o) (weighed ∙ ap (λ (t : Syntax). weight_of sorts (tree_of t)) is))
      ∙ sym step ∙ so_far

  pub sum_end : (xs : List Summand) (i : ℕ) {w result : Weight} → length xs ≤ i
      → sum_from sorts w (summands_of (map part_of (drop i xs))) ≡ result → w ≡ result
  unfolding sum_from
  sum_end xs i {w} all so_far =
      sym (at_drop_all (λ (l : List Summand). sum_from sorts w (summands_of (map part_of l))) xs i all) ∙ so_far

  pub product_end : (xs : List Syntax) (i : ℕ) (o : Option Weight) {start result : Weight} → length xs ≤ i
      → start ≡ weight constant [] → product_from sorts o (operands_of (map tree_of (drop i xs))) ≡ result
      → unwrap_or o start ≡ result
  unfolding product_from
  product_end xs i o all is so_far =
      ap (unwrap_or o) is ∙ sym
      (at_drop_all (λ (l : List Syntax). product_from sorts o (operands_of (map tree_of l))) xs i all) ∙ so_far
