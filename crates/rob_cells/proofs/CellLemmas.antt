-- The sides of the cuts, the members of budgets, and the rows of declared bounds, one after another.
use Rattle.std.proofs.Common.{◌≡◌, ℕ, zero, suc, ◌+◌, ◌-◌, ◌<◌, List, [], ◌∷◌, ◌++◌, map, length, get_or, drop, refl, ap, sym, ◌∙◌, append_assoc, arith}
use Rattle.std.specs.Prelude.{Option, Some, option_map, codes, pred}
use Rattle.std.proofs.lemmas.List.{length-drop, length-map, map-append}
use Rattle.rob_algebra.specs.Fraction.{Fraction}
use Rattle.rob_cells.proofs.ListLemmas.{pushed_append}
use Rattle.rob_meaning.specs.Expressions.{adaptive_in}
use Rattle.rob_meaning.specs.RobustModel.{AdaptiveVariable, RobustModel, Row, SetLine, at_least, at_most}
use Rattle.rob_meaning.specs.SetConditions.{if_declared}
use Rattle.rob_model.proofs.PartLemmas.{adaptive_in_is, drop_at}
use Rattle.rob_model.specs.View.{adaptive_of, expression_of, member_of, relation_of, row_of}
use Rattle.rob_model.specs.declared.expr.Expr.{Expr}
use Rattle.rob_model.specs.declared.expr.Expr.TheVariants.{AdaptiveIn}
use Rattle.rob_model.specs.declared.model.Adaptive.{Adaptive}
use Rattle.rob_model.specs.declared.model.Member.{Member}
use Rattle.rob_model.specs.declared.model.Rel.{Rel}
use Rattle.rob_model.specs.declared.model.RowDef.{RowDef}
use Rattle.rob_pieces.specs.Cuts.{Cut, bit}
use Rattle.rob_pieces.specs.SplitModel.{as_side, bound_row, bound_rows, member_over, numbered, parameter_in, rule_in, side_line, side_lines}

module _ {X Y : Type 0} (view : Y → SetLine) (of : X → Cut) (m : RobustModel) (c : ℕ) (xs : List X)
    (all : List SetLine) where
  -- one side more
  pub sides_more : (j : ℕ) (x : X) (y : Y) (done next : List Y) (b : ℕ) → j < length xs → x ≡ get_or xs j x
      → b ≡ bit (length xs - 1 - j) (c - 1) → view y ≡ side_line m c (of x) b → next ≡ done ++ y ∷ []
      → map view done ++ side_lines m c (map of (drop j xs)) ≡ all
      → map view next ++ side_lines m c (map of (drop (j + 1) xs)) ≡ all
  sides_more j x y done next b h e is made pushed so_far =
      pushed_append view done next y (side_lines m c (map of (drop (j + 1) xs))) pushed
      ∙ ap (λ l. map view done ++ l ∷ side_lines m c (map of (drop (j + 1) xs)))
      (made ∙ ap (side_line m c (of x)) (is ∙ same))
      ∙ ap (λ l. map view done ++ side_lines m c (map of l)) (sym (drop_at xs j x h e))
      ∙ so_far
    where
      left : length xs - 1 - j ≡ length (map of (drop (j + 1) xs))
      left = omega (arith, h, length-map (drop (j + 1) xs) of, length-drop (j + 1) xs)

      before : (n : ℕ) → n - 1 ≡ pred n
      before zero = refl
      before (suc n) = omega arith

      same : bit (length xs - 1 - j) (c - 1) ≡ bit (length (map of (drop (j + 1) xs))) (pred c)
      same = ap (λ k. bit k (c - 1)) left ∙ ap (bit (length (map of (drop (j + 1) xs)))) (before c)

-- the rows of one adaptive variable's bounds more
module _ (m : RobustModel) (c : ℕ) where
  bounds_step : (k : ℕ) (y : AdaptiveVariable) (ys : List AdaptiveVariable) (before between behind : List Row)
      → between ≡ before ++ if_declared (bound_row m c (y.name ++ codes "_lower") k at_least) y.lower
      → behind ≡ between ++ if_declared (bound_row m c (y.name ++ codes "_upper") k at_most) y.upper
      → behind ++ bound_rows m c (k + 1) ys ≡ before ++ bound_rows m c k (y ∷ ys)
  bounds_step k y ys before between behind lower upper =
      let low = if_declared (bound_row m c (y.name ++ codes "_lower") k at_least) y.lower in
      let high = if_declared (bound_row m c (y.name ++ codes "_upper") k at_most) y.upper in
      ap (λ l. l ++ bound_rows m c (k + 1) ys) (upper ∙ ap (λ l. l ++ high) lower)
      ∙ append_assoc (before ++ low) high (bound_rows m c (k + 1) ys)
      ∙ append_assoc before low (high ++ bound_rows m c (k + 1) ys)
      ∙ ap (λ n. before ++ (low ++ (high ++ bound_rows m c n ys))) (let e : k + 1 ≡ suc k = omega arith in e)

module _ {N : Type 0} (value : N → Fraction) (m : RobustModel) (c : ℕ) (ys : List (Adaptive N)) (all : List Row) where
  pub bounds_more : (k i : ℕ) (y : Adaptive N) (before between behind : List Row) → i < length ys → y ≡ get_or ys i y
      → between ≡ before
      ++ if_declared (bound_row m c (y.name ++ codes "_lower") k at_least) (adaptive_of value y).lower
      → behind ≡ between
      ++ if_declared (bound_row m c (y.name ++ codes "_upper") k at_most) (adaptive_of value y).upper
      → before ++ bound_rows m c k (map (adaptive_of value) (drop i ys)) ≡ all
      → behind ++ bound_rows m c (k + 1) (map (adaptive_of value) (drop (i + 1) ys)) ≡ all
  bounds_more k i y before between behind h e lower upper so_far =
      bounds_step m c k (adaptive_of value y) (map (adaptive_of value) (drop (i + 1) ys)) before
      between behind lower upper
      ∙ ap (λ l. before ++ bound_rows m c k (map (adaptive_of value) l)) (sym (drop_at ys i y h e))
      ∙ so_far

-- a member with another parameter
abbrev pub member_in : {N : Type 0} → ℕ → Member N → Member N
member_in n h = record { param = n; centre = h.centre; deviation = h.deviation }

module _ {N : Type 0} (value : N → Fraction) (m : RobustModel) (c : ℕ) where
  -- a member over the cell
  pub member_made : (h : Member N) {n : ℕ} → n ≡ parameter_in m c h.param
      → member_of value (member_in n h) ≡ member_over m c (member_of value h)
  member_made h {n} made = ap (λ k. member_of value (member_in k h)) made

  -- the row of a bound that is declared
  pub bound_made : (k rule : ℕ) (rel : Rel) (right : Expr N) (list : List (RowDef N)) (end : List ℕ)
      {next : List (RowDef N)} {name text whole named : List ℕ} {number : N} {bound : Option N}
      → bound ≡ Some number → text ≡ name → whole ≡ text ++ end → named ≡ numbered whole c
      → expression_of value right ≡ as_side (value number)
      → next ≡ list ++ record { name = named; left = AdaptiveIn rule c; rel = rel; right = right } ∷ []
      → rule ≡ rule_in m c k
      → map (row_of value) next ≡ map (row_of value) list
      ++ if_declared (bound_row m c (name ++ end) k (relation_of rel)) (option_map value bound)
  bound_made k rule rel right list end {next} {name} {text} {whole} {named} {number} {bound} some same_text longer
      told side pushed same_rule =
      ap (map (row_of value)) pushed
      ∙ map-append (row_of value) list (row ∷ [])
      ∙ ap (λ r. map (row_of value) list ++ r ∷ []) row_is
      ∙ ap (λ o. map (row_of value) list
      ++ if_declared (bound_row m c (name ++ end) k (relation_of rel)) (option_map value o)) (sym some)
    where
      row : RowDef N
      row = record { name = named; left = AdaptiveIn rule c; rel = rel; right = right }

      row_is : row_of value row ≡ bound_row m c (name ++ end) k (relation_of rel) (value number)
      row_is = λ i. record {
        name = (told ∙ ap (λ (word : List ℕ). numbered word c) (longer ∙ ap (λ word. word ++ end) same_text)) i;
        left = (adaptive_in_is value rule c ∙ ap (λ r. adaptive_in r c) same_rule) i;
        relation = relation_of rel;
        right = side i;
      }
