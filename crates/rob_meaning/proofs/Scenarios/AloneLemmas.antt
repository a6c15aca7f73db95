-- A model without named sets is well formed where its numbers, degrees and
-- deviations are: all parameters are of the one set.
use Rattle.std.specs.Prelude.{◌≡◌, ℕ, zero, suc, ◌+◌, ◌*◌, ◌/◌, ◌<◌, List, [], ◌∷◌, length, take, refl}
use Rattle.std.proofs.Common.{sym, ◌∙◌, ap, subst, arith, append-nil, div-one, take_all, zero-mul}
use Rattle.rob_meaning.proofs.Lists.EachLemmas.{each_map}
use Rattle.rob_meaning.specs.Expressions.{Expression, Factors, Terms, adaptive, adaptive_in, factor, no_factors, no_terms, number, parameter, product, sum, term, variable}
use Rattle.rob_meaning.specs.Places.{Each, EachFrom}
use Rattle.rob_meaning.specs.RobustModel.{AdaptiveVariable, Member, RobustModel, Row, SetLine, budget, joint_parameters, line, line_set, row_set, set_count, written_count, written_parameters}
use Rattle.rob_meaning.specs.WellFormed.{FactorsInside, FactorsOf, IsExpression, IsInside, IsLineOf, IsMember, IsModel, IsOf, IsParameterOf, IsSetLine, TermsInside, TermsOf}

module _ (m : RobustModel) (alone : m.sets ≡ []) where
  pub set_count-alone : set_count m ≡ 1
  set_count-alone = ap (λ (sets : List (List ℕ)). suc (length sets)) alone

  pub all_written : written_count m ≡ length m.parameters
  all_written = ap (λ n. length m.parameters / n) set_count-alone ∙ div-one (length m.parameters)

  pub all_taken : written_parameters m ≡ m.parameters
  all_taken = ap (λ n. take n m.parameters) all_written ∙ take_all (length m.parameters) m.parameters (omega arith)

  pub joint_alone : m.parameters ≡ joint_parameters (written_parameters m) m.sets
  joint_alone =
      sym (ap (λ (sets : List (List ℕ)). joint_parameters (written_parameters m) sets) alone
      ∙ append-nil (written_parameters m) ∙ all_taken)

  of_default : (k : ℕ) → k < length m.parameters → IsParameterOf m 0 k
  of_default k small = (
    k,
    subst (λ n. k < n) (sym all_written) small,
    let e : k ≡ zero * written_count m + k = omega (arith, zero-mul (written_count m)) in e,
  )

  not_named : (S : ℕ) → 0 < S → S < set_count m → S ≡ 0
  not_named S some small = let one = set_count-alone in absurd (omega arith)

  mutual
    pub own : (e : Expression) → IsInside m e → IsOf m 0 e
    own (number q) h = tt
    own (parameter k) h = of_default k h
    own (variable k) h = tt
    own (adaptive k) h = refl
    own (adaptive_in k S) h = not_named S h.1 h.2
    own (sum ts) h = own_terms ts h
    own (product fs) h = own_factors fs h

    own_terms : (ts : Terms) → TermsInside m ts → TermsOf m 0 ts
    own_terms no_terms h = tt
    own_terms (term minus e ts) h = (own e h.0, own_terms ts h.1)

    own_factors : (fs : Factors) → FactorsInside m fs → FactorsOf m 0 fs
    own_factors no_factors h = tt
    own_factors (factor e fs) h = (own e h.0, own_factors fs h.1)

  own_line : (c : SetLine) → IsSetLine m c → IsLineOf m 0 c
  own_line (line l relation r) h = (own l h.0.0.0, own r h.1.0.0)
  own_line (budget limit hs) h =
      each_map (IsMember m) (λ (b : Member). IsParameterOf m 0 b.parameter) (λ b k. of_default b.parameter k.0) hs h

  default_is : 0 < set_count m
  default_is = omega arith

  own_lines : ((i : ℕ) → line_set m i ≡ 0) → (k : ℕ) (cs : List SetLine) → Each (IsSetLine m) cs →
      EachFrom k (λ i c. (line_set m i < set_count m) × IsLineOf m (line_set m i) c) cs
  own_lines default k [] h = tt
  own_lines default k (c ∷ cs) h = (
    subst (λ S. (S < set_count m) × IsLineOf m S c) (sym (default k)) (default_is, own_line c h.0),
    own_lines default (suc k) cs h.1,
  )

  own_rows : ((i : ℕ) → row_set m i ≡ 0) → (k : ℕ) (rs : List Row) →
      Each (λ (r : Row). IsExpression m r.left × IsExpression m r.right) rs →
      EachFrom k (λ i r. (row_set m i < set_count m) × (IsOf m (row_set m i) r.left × IsOf m (row_set m i) r.right)) rs
  own_rows default k [] h = tt
  own_rows default k (r ∷ rs) h = (
    subst (λ S. (S < set_count m) × (IsOf m S r.left × IsOf m S r.right)) (sym (default k))
        (default_is, (own r.left h.0.0.0, own r.right h.0.1.0)),
    own_rows default (suc k) rs h.1,
  )

  -- a model of one set
  pub model_alone : ((i : ℕ) → line_set m i ≡ 0) → ((i : ℕ) → row_set m i ≡ 0) → m.objective_set ≡ 0 →
      Each (IsSetLine m) m.set_lines →
      Each (λ (y : AdaptiveVariable). Each (λ k. k < length m.parameters) y.on) m.adaptives →
      IsExpression m m.objective → Each (λ (r : Row). IsExpression m r.left × IsExpression m r.right) m.rows → IsModel m
  model_alone lines rows objective set_lines lists goal all_rows = record {
    parameters = joint_alone;
    set_lines = set_lines;
    lists = subst (λ n. Each (λ (y : AdaptiveVariable). Each (λ k. k < n) y.on) m.adaptives) (sym all_written) lists;
    objective = goal;
    rows = all_rows;
    own_lines = own_lines lines zero m.set_lines set_lines;
    own_objective =
        subst (λ S. (S < set_count m) × IsOf m S m.objective) (sym objective) (default_is, own m.objective goal.0);
    own_rows = own_rows rows zero m.rows all_rows;
  }
