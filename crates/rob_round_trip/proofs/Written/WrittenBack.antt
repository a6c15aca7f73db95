-- What a model in named sets has written is the model over written parameters that it was made of.
use Rattle.std.proofs.Common.{◌≡◌, ℕ, zero, suc, List, [], ◌∷◌, length, map, refl, sym, ap, ◌∙◌, arith}
use Rattle.std.proofs.lemmas.Nat.{mod-mul-add}
use Rattle.rob_meaning.specs.Expressions.{Expression, Terms, Factors, number, parameter, variable, adaptive, adaptive_in, sum, product, no_terms, term, no_factors, factor}
use Rattle.rob_meaning.specs.Places.{Each}
use Rattle.rob_meaning.specs.RobustModel.{Member, RobustModel, Row, SetLine, budget, line}
use Rattle.rob_meaning.specs.WellFormed.{FactorsInside, IsExpression, IsInside, IsMember, IsModel, IsSetLine, TermsInside}
use Rattle.rob_parse.specs.Models.{adaptive_taken, each_taken, factors_taken, in_sets, line_taken, member_taken, row_taken, taken, terms_taken}
use Rattle.rob_parse.proofs.Sets.InSets as placed
use Rattle.rob_write.specs.WrittenModel.{factors_written, line_written, member_written, row_written, terms_written, written, written_model}

module _ (w : RobustModel) (alone : w.sets ≡ []) (names : List (List ℕ)) (of_lines : List ℕ) (of_objective : ℕ)
    (of_rows : List ℕ) where
  abbrev p : ℕ
  p = length w.parameters

  abbrev m : RobustModel
  m = in_sets w names of_lines of_objective of_rows

  written_adaptive : (q S y : ℕ) → written q (adaptive_taken S y) ≡ adaptive y
  written_adaptive q zero y = refl
  written_adaptive q (suc S) y = refl

  -- what is written of what is taken is what was there
  mutual
    pub written_taken : (S : ℕ) (e : Expression) → IsInside w e → written p (taken p S e) ≡ e
    written_taken S (number q) h = refl
    written_taken S (parameter k) h = ap parameter (mod-mul-add S p k h)
    written_taken S (variable k) h = refl
    written_taken S (adaptive y) h = written_adaptive p S y
    written_taken S (adaptive_in y T) h =
        absurd (placed.none_named w alone names of_lines of_objective of_rows T h.1 h.2)
    written_taken S (sum ts) h = ap sum (terms_written_taken S ts h)
    written_taken S (product fs) h = ap product (factors_written_taken S fs h)

    terms_written_taken : (S : ℕ) (ts : Terms) → TermsInside w ts → terms_written p (terms_taken p S ts) ≡ ts
    terms_written_taken S no_terms h = refl
    terms_written_taken S (term minus e ts) h =
        λ i. term minus (written_taken S e h.0 i) (terms_written_taken S ts h.1 i)

    factors_written_taken : (S : ℕ) (fs : Factors) → FactorsInside w fs → factors_written p (factors_taken p S fs) ≡ fs
    factors_written_taken S no_factors h = refl
    factors_written_taken S (factor e fs) h = λ i. factor (written_taken S e h.0 i) (factors_written_taken S fs h.1 i)

  members_written : (S : ℕ) (hs : List Member) → Each (IsMember w) hs
      → map (member_written p) (map (member_taken p S) hs) ≡ hs
  members_written S [] h = refl
  members_written S (x ∷ hs) h =
      λ i. record x { parameter = mod-mul-add S p x.parameter h.0.0 i } ∷ members_written S hs h.1 i

  line_written_taken : (S : ℕ) (c : SetLine) → IsSetLine w c → line_written p (line_taken p S c) ≡ c
  line_written_taken S (line l r x) h = λ i. line (written_taken S l h.0.0.0 i) r (written_taken S x h.1.0.0 i)
  line_written_taken S (budget limit hs) h = ap (budget limit) (members_written S hs h)

  lines_written : (cs : List SetLine) (Ss : List ℕ) → Each (IsSetLine w) cs → length Ss ≡ length cs
      → map (line_written p) (each_taken (line_taken p) cs Ss) ≡ cs
  lines_written [] Ss h same = refl
  lines_written (c ∷ cs) [] h same = absurd (omega (arith, same))
  lines_written (c ∷ cs) (S ∷ Ss) h same =
      λ i. line_written_taken S c h.0 i ∷ lines_written cs Ss h.1 (omega (arith, same)) i

  abbrev RowInside : Row → Type 0
  RowInside r = IsExpression w r.left × IsExpression w r.right

  rows_written : (rs : List Row) (Ss : List ℕ) → Each RowInside rs → length Ss ≡ length rs
      → map (row_written p) (each_taken (row_taken p) rs Ss) ≡ rs
  rows_written [] Ss h same = refl
  rows_written (r ∷ rs) [] h same = absurd (omega (arith, same))
  rows_written (r ∷ rs) (S ∷ Ss) h same =
      λ i. record r { left = written_taken S r.left h.0.0.0 i; right = written_taken S r.right h.0.1.0 i }
      ∷ rows_written rs Ss h.1 (omega (arith, same)) i

  -- what the model in sets has written is the model over written parameters
  pub written_is : IsModel w → length of_lines ≡ length w.set_lines → length of_rows ≡ length w.rows → w.line_sets ≡ []
      → w.objective_set ≡ 0 → w.row_sets ≡ [] → written_model m ≡ w
  written_is good fits_lines fits_rows no_lines no_objective no_rows = λ i. record {
    parameters = placed.parameters_are w alone names of_lines of_objective of_rows i;
    sets = sym alone i;
    set_lines =
        (ap (λ (q : ℕ). map (line_written q) m.set_lines) (placed.count_is w alone names of_lines of_objective of_rows)
        ∙ lines_written w.set_lines of_lines good.set_lines fits_lines) i;
    line_sets = sym no_lines i;
    variables = w.variables;
    adaptives = w.adaptives;
    sense = w.sense;
    objective =
        (ap (λ (q : ℕ). written q m.objective) (placed.count_is w alone names of_lines of_objective of_rows)
        ∙ written_taken of_objective w.objective good.objective.0) i;
    objective_set = sym no_objective i;
    rows = (ap (λ (q : ℕ). map (row_written q) m.rows) (placed.count_is w alone names of_lines of_objective of_rows)
        ∙ rows_written w.rows of_rows good.rows fits_rows) i;
    row_sets = sym no_rows i;
  }
