-- The split model as it is written is well formed, where the model is and the cuts are at its parameters.
use Rattle.std.proofs.Common.{◌≡◌, ℕ, zero, suc, ◌+◌, ◌<◌, ◌≤◌, ℤ, pos, negsuc, max, List, [], ◌∷◌, ◌++◌, length, map, refl, sym, ap, ◌∙◌, subst, arith}
use Rattle.rob_algebra.specs.Fraction.{Fraction}
use Rattle.rob_meaning.proofs.Scenarios.AloneLemmas.{model_alone}
use Rattle.rob_meaning.proofs.Lists.EachLemmas.{each_append}
use Rattle.rob_meaning.proofs.Naming.NamedLemmas.{each_mapped}
use Rattle.rob_meaning.specs.Degrees.{AreLinear, FactorsLinear, IsLinear, degree, one_if_some, product_degree, sum_degree}
use Rattle.rob_meaning.specs.Expressions.{Expression, Terms, Factors, number, parameter, variable, adaptive, adaptive_in, sum, product, no_terms, term, no_factors, factor}
use Rattle.rob_meaning.specs.Names.{Name}
use Rattle.rob_meaning.specs.Places.{Each}
use Rattle.rob_meaning.specs.RobustModel.{AdaptiveVariable, Relation, RobustModel, Row, SetLine, at_least, at_most, budget, line, list_of}
use Rattle.rob_meaning.specs.SetConditions.{if_declared}
use Rattle.rob_meaning.specs.WellFormed.{FactorsInside, IsExpression, IsInside, IsModel, IsSetLine, IsSetSide, TermsInside}
use Rattle.std.specs.Prelude.{Option, Some, None, codes}
use Rattle.rob_pieces.proofs.BlockLemmas.{each_cell, each_flat}
use Rattle.rob_pieces.proofs.ColumnLemmas.{list_in_cell, rule_is_some, variables_count}
use Rattle.rob_pieces.proofs.FormedLemmas.{lists_within}
use Rattle.rob_pieces.proofs.OneSetLemmas.{not_named}
use Rattle.rob_pieces.specs.Cuts.{AreCuts, Cut, IsCell, cell_numbers}
use Rattle.rob_pieces.specs.SplitModel.{as_side, copy_in, rule_in, side_of_sign}
use Rattle.rob_split_text.proofs.WrittenSplits.{bound_written, bounds_written, factors_renamed, line_renamed, lines_written, renamed, row_renamed, rows_written, side_written, sides_written, terms_renamed, written_split}

-- what is said of each row of a declared bound
module _ (m : RobustModel) (c : ℕ) (P : Row → Type 0) where
  declared_rows : (f : Fraction → Row) (Q : Fraction → Type 0) (o : Option Fraction) → Each Q (if_declared (λ x. x) o)
      → ((x : Fraction) → Q x → P (f x)) → Each P (if_declared f o)
  declared_rows f Q None q h = tt
  declared_rows f Q (Some x) q h = (h x q.0, tt)

  pub each_bound_written : (Q : Fraction → Type 0) (k : ℕ) (ys : List AdaptiveVariable)
      → Each (λ (y : AdaptiveVariable). Each Q (if_declared (λ x. x) y.lower)
      × Each Q (if_declared (λ x. x) y.upper)) ys
      → ((name : Name) (j : ℕ) (relation : Relation) (bound : Fraction) → j < k + length ys → Q bound
      → P (bound_written m c name j relation bound))
      → Each P (bounds_written m c k ys)
  each_bound_written Q k [] q h = tt
  each_bound_written Q k (y ∷ ys) q h =
      each_append P _ _ (declared_rows _ Q y.lower q.0.0 (λ x. h (y.name ++ codes "_lower") k at_least x (omega arith)))
      (each_append P _ _ (declared_rows _ Q y.upper q.0.1 (λ x. h (y.name ++ codes "_upper") k at_most x (omega arith)))
      (each_bound_written Q (suc k) ys q.1 (λ name j relation bound small. h name j relation bound (omega arith))))

all_declared : (o : Option Fraction) → Each (λ (x : Fraction). Unit {0}) (if_declared (λ x. x) o)
all_declared None = tt
all_declared (Some x) = (tt, tt)

pub no_condition : (ys : List AdaptiveVariable)
    → Each (λ (y : AdaptiveVariable). Each (λ (x : Fraction). Unit {0}) (if_declared (λ x. x) y.lower)
    × Each (λ (x : Fraction). Unit {0}) (if_declared (λ x. x) y.upper)) ys
no_condition [] = tt
no_condition (y ∷ ys) = ((all_declared y.lower, all_declared y.upper), no_condition ys)

module _ (m : RobustModel) (model : IsModel m) (alone : m.sets ≡ []) (cuts : List Cut) (are : AreCuts m cuts) where
  abbrev w : RobustModel
  w = written_split m cuts

  worst_inside : length m.variables < length w.variables
  worst_inside = subst (λ n. length m.variables < n) (sym (variables_count m cuts)) (omega arith)

  module _ (c : ℕ) (cell : IsCell cuts c) where
    mutual
      inside : (e : Expression) → IsInside m e → IsInside w (renamed m c e)
      inside (number q) h = tt
      inside (parameter k) h = h
      inside (variable k) h = let some : k < length m.variables = h in let more = worst_inside in
          omega (arith, some, more)
      inside (adaptive y) h = rule_is_some m cuts c y cell h
      inside (adaptive_in y S) h = absurd (not_named m alone S h.1 h.2)
      inside (sum ts) h = terms_inside ts h
      inside (product fs) h = factors_inside fs h

      terms_inside : (ts : Terms) → TermsInside m ts → TermsInside w (terms_renamed m c ts)
      terms_inside no_terms h = tt
      terms_inside (term minus e ts) h = (inside e h.0, terms_inside ts h.1)

      factors_inside : (fs : Factors) → FactorsInside m fs → FactorsInside w (factors_renamed m c fs)
      factors_inside no_factors h = tt
      factors_inside (factor e fs) h = (inside e h.0, factors_inside fs h.1)

    -- degrees stay
    module _ (a b : ℕ) (f g : ℕ → ℕ) (same : (y : ℕ) → y < length m.adaptives → f (rule_in m c y) ≡ g y) where
      mutual
        degree_stays : (e : Expression) → IsInside m e → degree a b f (renamed m c e) ≡ degree a b g e
        degree_stays (number q) h = refl
        degree_stays (parameter k) h = refl
        degree_stays (variable k) h = refl
        degree_stays (adaptive y) h = same y h
        degree_stays (adaptive_in y S) h = same y h.0
        degree_stays (sum ts) h = sum_stays ts h
        degree_stays (product fs) h = product_stays fs h

        sum_stays : (ts : Terms) → TermsInside m ts → sum_degree a b f (terms_renamed m c ts) ≡ sum_degree a b g ts
        sum_stays no_terms h = refl
        sum_stays (term minus e ts) h = λ i. max (degree_stays e h.0 i) (sum_stays ts h.1 i)

        product_stays : (fs : Factors) → FactorsInside m fs
            → product_degree a b f (factors_renamed m c fs) ≡ product_degree a b g fs
        product_stays no_factors h = refl
        product_stays (factor e fs) h = λ i. degree_stays e h.0 i + product_stays fs h.1 i

    list_stays : (y : ℕ) → y < length m.adaptives → one_if_some (list_of w (rule_in m c y)) ≡ one_if_some (list_of m y)
    list_stays y some = ap one_if_some (list_in_cell m cuts c y cell some)

    mutual
      linear : (e : Expression) → IsInside m e → IsLinear m e → IsLinear w (renamed m c e)
      linear (number q) h l = tt
      linear (parameter k) h l = tt
      linear (variable k) h l = tt
      linear (adaptive y) h l = tt
      linear (adaptive_in y S) h l = tt
      linear (sum ts) h l = terms_linear ts h l
      linear (product fs) h l = (
        subst (λ n. n ≤ 1)
            (sym (product_stays 1 0 (λ y. one_if_some (list_of w y)) (λ y. one_if_some (list_of m y)) list_stays fs h))
            l.0,
        subst (λ n. n ≤ 1) (sym (product_stays 0 1 (λ y. 1) (λ y. 1) (λ y some. refl) fs h)) l.1,
        factors_linear fs h l.2,
      )

      terms_linear : (ts : Terms) → TermsInside m ts → AreLinear m ts → AreLinear w (terms_renamed m c ts)
      terms_linear no_terms h l = tt
      terms_linear (term minus e ts) h l = (linear e h.0 l.0, terms_linear ts h.1 l.1)

      factors_linear : (fs : Factors) → FactorsInside m fs → FactorsLinear m fs
          → FactorsLinear w (factors_renamed m c fs)
      factors_linear no_factors h l = tt
      factors_linear (factor e fs) h l = (linear e h.0 l.0, factors_linear fs h.1 l.1)

    expression_formed : (e : Expression) → IsExpression m e → IsExpression w (renamed m c e)
    expression_formed e h = (inside e h.0, linear e h.0 h.1)

    set_side_formed : (e : Expression) → IsSetSide m e → IsSetSide w (renamed m c e)
    set_side_formed e h = (expression_formed e h.0, degree_stays 0 1 (λ y. 1) (λ y. 1) (λ y some. refl) e h.0.0 ∙ h.1)

    set_line_formed : (l : SetLine) → IsSetLine m l → IsSetLine w (line_renamed m c l)
    set_line_formed (line l relation r) h = (set_side_formed l h.0, set_side_formed r h.1)
    set_line_formed (budget limit hs) h = h

    number_formed : (q : Fraction) → IsSetSide w (as_side q)
    number_formed q = by q.num
      where
        by : (z : ℤ) → IsSetSide w (side_of_sign z q)
        by (pos n) = ((tt, tt), refl)
        by (negsuc n) = (((tt, tt), (tt, tt)), refl)

    side_formed : (cut : Cut) (b : ℕ) → cut.parameter < length m.parameters → IsSetLine w (side_written m c cut b)
    side_formed cut zero h = (((h, tt), refl), number_formed cut.level)
    side_formed cut (suc b) h = (((h, tt), refl), number_formed cut.level)

    sides_formed : (cs : List Cut) → AreCuts m cs → Each (IsSetLine w) (sides_written m c cs)
    sides_formed [] h = tt
    sides_formed (cut ∷ cs) h = (side_formed cut _ h.0, sides_formed cs h.1)

    lines_formed : Each (IsSetLine w) (lines_written m c cuts)
    lines_formed =
        each_append (IsSetLine w) (map (line_renamed m c) m.set_lines) (sides_written m c cuts)
        (each_mapped (IsSetLine w) (line_renamed m c) (IsSetLine m) set_line_formed m.set_lines model.set_lines)
        (sides_formed cuts are)

    abbrev RowFormed : Row → Type 0
    RowFormed r = IsExpression w r.left × IsExpression w r.right

    rows_formed : Each RowFormed (rows_written m c)
    rows_formed = (
      ((worst_inside, tt), expression_formed m.objective model.objective),
      each_append RowFormed (map (row_renamed m c) m.rows) (bounds_written m c 0 m.adaptives)
          (each_mapped RowFormed (row_renamed m c) (λ (r : Row). IsExpression m r.left × IsExpression m r.right)
          (λ r h. (expression_formed r.left h.0, expression_formed r.right h.1)) m.rows model.rows)
          (each_bound_written m c RowFormed (λ x. Unit {0}) 0 m.adaptives (no_condition m.adaptives)
          (λ name j relation bound small q. (
            expression_formed (adaptive j) (let e : j < length m.adaptives = omega (arith, small) in e, tt),
            (number_formed bound).0,
          ))),
    )

  pub written_is_model : IsModel w
  written_is_model =
      model_alone w refl (λ i. refl) (λ i. refl) refl
      (each_flat (IsSetLine w) (λ c. lines_written m c cuts) (cell_numbers cuts)
      (each_cell cuts (λ c. Each (IsSetLine w) (lines_written m c cuts)) lines_formed))
      (each_flat (λ (y : AdaptiveVariable). Each (λ k. k < length m.parameters) y.on)
      (λ c. map (copy_in m c) m.adaptives) (cell_numbers cuts)
      (each_cell cuts
      (λ c. Each (λ (y : AdaptiveVariable). Each (λ k. k < length m.parameters) y.on)
      (map (copy_in m c) m.adaptives))
      (λ c cell.
      each_mapped (λ (y : AdaptiveVariable). Each (λ k. k < length m.parameters) y.on) (copy_in m c)
      (λ (y : AdaptiveVariable). Each (λ k. k < length m.parameters) y.on) (λ y h. h) m.adaptives
      (lists_within m model alone cuts are))))
      (worst_inside, tt)
      (each_flat (λ (r : Row). IsExpression w r.left × IsExpression w r.right) (rows_written m) (cell_numbers cuts)
      (each_cell cuts (λ c. Each (λ (r : Row). IsExpression w r.left × IsExpression w r.right) (rows_written m c))
      rows_formed))
