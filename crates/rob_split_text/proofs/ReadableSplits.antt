-- The split model as it is written is readable, where the model is and the numbers of the cuts are within the limit.
use Rattle.std.proofs.Common.{◌≡◌, ℕ, zero, suc, ◌<◌, ℤ, pos, negsuc, neg_ℤ, true, false, List, [], ◌∷◌, length, map, refl, sym, ap, ◌∙◌, subst, arith}
use Rattle.std.specs.Prelude.{Option, Some, None, int_lt}
use Rattle.std.proofs.lemmas.List.{length-map}
use Rattle.rob_algebra.specs.Fraction.{Fraction, neg_ℚ}
use Rattle.rob_algebra.specs.Width.{Fits}
use Rattle.rob_algebra.proofs.Parts.{neg_parts}
use Rattle.rob_meaning.proofs.Scenarios.AloneLemmas.{all_taken, set_count-alone}
use Rattle.rob_meaning.proofs.Lists.EachLemmas.{each_append, each_map}
use Rattle.rob_meaning.proofs.Naming.NamedLemmas.{each_mapped}
use Rattle.rob_meaning.specs.Expressions.{Expression, Terms, Factors, number, parameter, variable, adaptive, adaptive_in, sum, product, no_terms, term, no_factors, factor}
use Rattle.rob_meaning.specs.Places.{Each}
use Rattle.rob_meaning.specs.RobustModel as model
use Rattle.rob_meaning.specs.RobustModel.{AdaptiveVariable, Member, RobustModel, Row, SetLine, Variable, budget, line, written_parameters}
use Rattle.rob_meaning.specs.SetConditions.{if_declared}
use Rattle.rob_parse.specs.Models.{in_sets}
use Rattle.rob_pieces.proofs.BlockLemmas.{each_cell, each_flat}
use Rattle.rob_pieces.proofs.ColumnLemmas.{rule_is_some, variables_count, written_parameters_split}
use Rattle.rob_pieces.specs.Cuts.{Cut, IsCell, cell_numbers}
use Rattle.rob_pieces.specs.SplitModel.{as_side, cells_worst, copy_in, rule_in, side_of_sign, split_model}
use Rattle.rob_round_trip.proofs.WithoutSets.SetlessTexts.{in_no_sets}
use Rattle.rob_round_trip.proofs.Written.ReadableLemmas.{negated_fits, not_below}
use Rattle.rob_round_trip.specs.Readable.{FactorsReadable, HasReadableParts, IsBound, IsPlaced, IsReadable, IsReadableMember, IsReadableModel, IsReadableSetLine, IsRealProduct, IsRealSum, TermsReadable}
use Rattle.rob_split_text.proofs.FormedSplits.{each_bound_written}
use Rattle.rob_split_text.proofs.WrittenSplits.{bounds_written, factors_renamed, line_renamed, lines_written, renamed, row_renamed, rows_written, side_written, sides_written, terms_renamed, written_split}
use Rattle.rob_split_text.specs.SplitTexts.{HaveFittingLevels}
use Rattle.rob_write.specs.WrittenModel.{written_model}
use Rattle.rob_write.specs.ExpressionWords.{Naming, naming_of}

-- ---- a number as a side
pos_not_below : (x : ℤ) (n : ℕ) → x ≡ pos n → int_lt x (pos 0) ≡ false
pos_not_below x n is = subst (λ (y : ℤ). int_lt y (pos 0) ≡ false) (sym is) (not_below n)

neg_not_below : (q : Fraction) (n : ℕ) → q.num ≡ negsuc n → int_lt (neg_ℚ q).num (pos 0) ≡ false
neg_not_below q n is = let p = neg_parts q in pos_not_below (neg_ℚ q).num (suc n) (p.0 ∙ ap neg_ℤ is)

pub side_readable : (limit : ℕ) (names : Naming) (q : Fraction) → Fits limit q → IsReadable limit names (as_side q)
side_readable limit names q fits = by q.num refl
  where
    by : (z : ℤ) → q.num ≡ z → IsReadable limit names (side_of_sign z q)
    by (pos n) is = (fits, pos_not_below q.num n is)
    by (negsuc n) is = (tt, ((negated_fits limit q fits, neg_not_below q n is), tt))

-- ---- expressions with the copies of a cell
module _ (m : RobustModel) (c limit : ℕ) (a b : Naming)
    (ps : (k : ℕ) → k < length a.parameters → k < length b.parameters)
    (vs : (k : ℕ) → k < length a.variables → k < length b.variables)
    (ys : (y : ℕ) → y < length a.adaptives → rule_in m c y < length b.adaptives) where
  real_sum : (ts : Terms) → IsRealSum ts → IsRealSum (terms_renamed m c ts)
  real_sum no_terms h = h
  real_sum (term true e ts) h = tt
  real_sum (term false e no_terms) h = h
  real_sum (term false e (term minus f ts)) h = tt

  real_product : (fs : Factors) → IsRealProduct fs → IsRealProduct (factors_renamed m c fs)
  real_product no_factors h = h
  real_product (factor e no_factors) h = h
  real_product (factor e (factor f fs)) h = tt

  mutual
    pub renamed_readable : (e : Expression) → IsReadable limit a e → IsReadable limit b (renamed m c e)
    renamed_readable (number q) h = h
    renamed_readable (parameter k) h = ps k h
    renamed_readable (variable k) h = vs k h
    renamed_readable (adaptive y) h = ys y h
    renamed_readable (adaptive_in y S) h = absurd h
    renamed_readable (sum ts) h = (real_sum ts h.0, terms_readable ts h.1)
    renamed_readable (product fs) h = (real_product fs h.0, factors_readable fs h.1)

    terms_readable : (ts : Terms) → TermsReadable limit a ts → TermsReadable limit b (terms_renamed m c ts)
    terms_readable no_terms h = tt
    terms_readable (term minus e ts) h = (renamed_readable e h.0, terms_readable ts h.1)

    factors_readable : (fs : Factors) → FactorsReadable limit a fs → FactorsReadable limit b (factors_renamed m c fs)
    factors_readable no_factors h = tt
    factors_readable (factor e fs) h = (renamed_readable e h.0, factors_readable fs h.1)

  member_readable : (h : Member) → IsReadableMember limit a h → IsReadableMember limit b h
  member_readable h r = record { parameter = ps h.parameter r.parameter; centre = r.centre; deviation = r.deviation }

  pub line_readable : (l : SetLine) → IsReadableSetLine limit a l → IsReadableSetLine limit b (line_renamed m c l)
  line_readable (line l relation r) h = (renamed_readable l h.0, renamed_readable r h.1)
  line_readable (budget bound []) h = h
  line_readable (budget bound (x ∷ hs)) h =
      (h.0, each_map (IsReadableMember limit a) (IsReadableMember limit b) member_readable (x ∷ hs) h.1)

-- ---- a model of one set has written itself
module _ (m : RobustModel) (alone : m.sets ≡ []) (placed : IsPlaced m) where
  pub own_written : record (written_model m) {
    sets =
        [];
    line_sets = m.line_sets;
    objective_set = m.objective_set;
    row_sets = m.row_sets;
  } ≡ m
  own_written =
      sym (in_no_sets (written_model m) m.line_sets m.row_sets m.objective_set
      (subst (λ (n : ℕ). Each (λ S. S < n) m.line_sets) (set_count-alone m alone) placed.of_lines)
      (subst (λ (n : ℕ). m.objective_set < n) (set_count-alone m alone) placed.of_objective)
      (subst (λ (n : ℕ). Each (λ S. S < n) m.row_sets) (set_count-alone m alone) placed.of_rows))
      ∙ (λ i. in_sets (written_model m) (sym alone i) m.line_sets m.objective_set m.row_sets) ∙ placed.taken_is

-- a model's own parts are readable
record AreOwnReadable (limit : ℕ) (m : RobustModel) : Type 0 where
  parameters : Each (λ (p : model.Parameter). IsBound limit p.lower × IsBound limit p.upper) m.parameters
  set_lines : Each (IsReadableSetLine limit (naming_of m)) m.set_lines
  variables : Each (λ (x : Variable). IsBound limit x.lower × IsBound limit x.upper) m.variables
  adaptives : Each (λ (y : AdaptiveVariable). Each (λ k. k < length (naming_of m).parameters) y.on
      × (IsBound limit y.lower × IsBound limit y.upper)) m.adaptives
  objective : IsReadable limit (naming_of m) m.objective
  rows : Each (λ (r : Row). IsReadable limit (naming_of m) r.left × IsReadable limit (naming_of m) r.right) m.rows

own_readable : (limit : ℕ) (m : RobustModel) → m.sets ≡ [] → IsReadableModel limit (naming_of m) m
    → AreOwnReadable limit m
own_readable limit m alone readable =
    let same = own_written m alone readable.placed in
    let parts = readable.parts in
    let names = naming_of m in
    record {
      parameters =
          subst (Each (λ (p : model.Parameter). IsBound limit p.lower × IsBound limit p.upper))
          (all_taken m alone) parts.parameters;
      set_lines =
          subst (Each (IsReadableSetLine limit names)) (ap (λ (x : RobustModel). x.set_lines) same) parts.set_lines;
      variables = parts.variables;
      adaptives = parts.adaptives;
      objective = subst (IsReadable limit names) (ap (λ (x : RobustModel). x.objective) same) parts.objective;
      rows =
          subst (Each (λ (r : Row). IsReadable limit names r.left × IsReadable limit names r.right))
          (ap (λ (x : RobustModel). x.rows) same) parts.rows;
    }

-- ---- the split model
module _ (limit : ℕ) (m : RobustModel) (alone : m.sets ≡ []) (cuts : List Cut)
    (readable : IsReadableModel limit (naming_of m) m)
    (levels : HaveFittingLevels limit cuts)
    (inside : Each (λ (cut : Cut). cut.parameter < length m.parameters) cuts) where
  abbrev s : RobustModel
  s = split_model m cuts

  abbrev w : RobustModel
  w = written_split m cuts

  abbrev a : Naming
  a = naming_of m

  abbrev b : Naming
  b = naming_of s

  parameters_of : length a.parameters ≡ length m.parameters
  parameters_of =
      length-map (written_parameters m) (λ (p : model.Parameter). p.name)
      ∙ ap (λ (ps : List model.Parameter). length ps) (all_taken m alone)

  split_parameters_of : length b.parameters ≡ length m.parameters
  split_parameters_of =
      length-map (written_parameters s) (λ (p : model.Parameter). p.name)
      ∙ ap (λ (ps : List model.Parameter). length ps) (written_parameters_split m cuts)

  variables_of : length a.variables ≡ length m.variables
  variables_of = length-map m.variables (λ (x : Variable). x.name)

  split_variables_of : length b.variables ≡ suc (length m.variables)
  split_variables_of = length-map s.variables (λ (x : Variable). x.name) ∙ variables_count m cuts

  adaptives_of : length a.adaptives ≡ length m.adaptives
  adaptives_of = length-map m.adaptives (λ (y : AdaptiveVariable). y.name)

  split_adaptives_of : length b.adaptives ≡ length s.adaptives
  split_adaptives_of = length-map s.adaptives (λ (y : AdaptiveVariable). y.name)

  known_parameter : (k : ℕ) → k < length a.parameters → k < length b.parameters
  known_parameter k h = omega (arith, h, parameters_of, split_parameters_of)

  known_variable : (k : ℕ) → k < length a.variables → k < length b.variables
  known_variable k h = omega (arith, h, variables_of, split_variables_of)

  known_copy : (c : ℕ) → IsCell cuts c → (y : ℕ) → y < length a.adaptives → rule_in m c y < length b.adaptives
  known_copy c cell y h =
      subst (λ n. rule_in m c y < n) (sym split_adaptives_of)
      (rule_is_some m cuts c y cell (let e : y < length m.adaptives = omega (arith, h, adaptives_of) in e))

  worst_known : length m.variables < length b.variables
  worst_known = omega (arith, split_variables_of)

  own : AreOwnReadable limit m
  own = own_readable limit m alone readable

  module _ (c : ℕ) (cell : IsCell cuts c) where
    over : (e : Expression) → IsReadable limit a e → IsReadable limit b (renamed m c e)
    over = renamed_readable m c limit a b known_parameter known_variable (known_copy c cell)

    side_of_cut : (cut : Cut) (side : ℕ) → Fits limit cut.level → cut.parameter < length m.parameters
        → IsReadableSetLine limit b (side_written m c cut side)
    side_of_cut cut zero fits h = (omega (arith, h, split_parameters_of), side_readable limit b cut.level fits)
    side_of_cut cut (suc k) fits h = (omega (arith, h, split_parameters_of), side_readable limit b cut.level fits)

    sides_of_cuts : (cs : List Cut) → HaveFittingLevels limit cs
        → Each (λ (cut : Cut). cut.parameter < length m.parameters) cs
        → Each (IsReadableSetLine limit b) (sides_written m c cs)
    sides_of_cuts [] fits h = tt
    sides_of_cuts (cut ∷ cs) fits h = (side_of_cut cut _ fits.0 h.0, sides_of_cuts cs fits.1 h.1)

    lines_readable : Each (IsReadableSetLine limit b) (lines_written m c cuts)
    lines_readable =
        each_append (IsReadableSetLine limit b) (map (line_renamed m c) m.set_lines) (sides_written m c cuts)
        (each_mapped (IsReadableSetLine limit b) (line_renamed m c) (IsReadableSetLine limit a)
        (line_readable m c limit a b known_parameter known_variable (known_copy c cell)) m.set_lines own.set_lines)
        (sides_of_cuts cuts levels inside)

    abbrev RowReadable : Row → Type 0
    RowReadable r = IsReadable limit b r.left × IsReadable limit b r.right

    bound_fits : (o : Option Fraction) → IsBound limit o → Each (Fits limit) (if_declared (λ x. x) o)
    bound_fits None h = tt
    bound_fits (Some q) h = (h, tt)

    bounds_fit : (ys : List AdaptiveVariable)
        → Each (λ (y : AdaptiveVariable). Each (λ k. k < length a.parameters) y.on
        × (IsBound limit y.lower × IsBound limit y.upper)) ys
        → Each (λ (y : AdaptiveVariable). Each (Fits limit) (if_declared (λ x. x) y.lower)
        × Each (Fits limit) (if_declared (λ x. x) y.upper)) ys
    bounds_fit [] h = tt
    bounds_fit (y ∷ ys) h = ((bound_fits y.lower h.0.1.0, bound_fits y.upper h.0.1.1), bounds_fit ys h.1)

    rows_readable : Each RowReadable (rows_written m c)
    rows_readable = (
      (worst_known, over m.objective own.objective),
      each_append RowReadable (map (row_renamed m c) m.rows) (bounds_written m c 0 m.adaptives)
          (each_mapped RowReadable (row_renamed m c) (λ (r : Row). IsReadable limit a r.left
          × IsReadable limit a r.right)
          (λ r h. (over r.left h.0, over r.right h.1)) m.rows own.rows)
          (each_bound_written m c RowReadable (Fits limit) 0 m.adaptives (bounds_fit m.adaptives own.adaptives)
          (λ name j relation bound small fits. (
            known_copy c cell j (let e : j < length a.adaptives = omega (arith, small, adaptives_of) in e),
            side_readable limit b bound fits,
          ))),
    )

    copies_readable : Each (λ (y : AdaptiveVariable). Each (λ k. k < length b.parameters) y.on
        × (IsBound limit y.lower × IsBound limit y.upper)) (map (copy_in m c) m.adaptives)
    copies_readable =
        each_mapped (λ (y : AdaptiveVariable). Each (λ k. k < length b.parameters) y.on
        × (IsBound limit y.lower × IsBound limit y.upper))
        (copy_in m c)
        (λ (y : AdaptiveVariable). Each (λ k. k < length a.parameters) y.on
        × (IsBound limit y.lower × IsBound limit y.upper))
        (λ y h. (
          each_map (λ k. k < length a.parameters) (λ k. k < length b.parameters) known_parameter y.on h.0,
          (tt, tt),
        )) m.adaptives own.adaptives

  pub written_readable : HasReadableParts limit b w
  written_readable = record {
    parameters = own.parameters;
    set_lines =
        each_flat (IsReadableSetLine limit b) (λ c. lines_written m c cuts) (cell_numbers cuts)
        (each_cell cuts (λ c. Each (IsReadableSetLine limit b) (lines_written m c cuts)) lines_readable);
    variables =
        each_append (λ (x : Variable). IsBound limit x.lower × IsBound limit x.upper) m.variables (cells_worst ∷ [])
        own.variables ((tt, tt), tt);
    adaptives =
        each_flat (λ (y : AdaptiveVariable). Each (λ k. k < length b.parameters) y.on
        × (IsBound limit y.lower × IsBound limit y.upper))
        (λ c. map (copy_in m c) m.adaptives) (cell_numbers cuts)
        (each_cell cuts
        (λ c. Each (λ (y : AdaptiveVariable). Each (λ k. k < length b.parameters) y.on
        × (IsBound limit y.lower × IsBound limit y.upper)) (map (copy_in m c) m.adaptives))
        copies_readable);
    objective = worst_known;
    rows =
        each_flat (λ (r : Row). IsReadable limit b r.left × IsReadable limit b r.right)
        (rows_written m) (cell_numbers cuts)
        (each_cell cuts
        (λ c. Each (λ (r : Row). IsReadable limit b r.left × IsReadable limit b r.right) (rows_written m c))
        rows_readable);
  }
