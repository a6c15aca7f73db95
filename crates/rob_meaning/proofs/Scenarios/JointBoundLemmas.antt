-- Where every set admits something, a plan has a bound set by set exactly where
-- it has it over joint scenarios; and so the statuses are the same.
use Rattle.std.specs.Prelude.{◌≡◌, ℕ, zero, suc, ◌<◌, Bool, true, false, eqb, List, [], ◌∷◌, length, refl, ◌↔◌}
use Rattle.std.proofs.Common.{sym, ◌∙◌, ap, subst, arith}
use Rattle.std.proofs.lemmas.Bool.{eqb-true, eqb-false}
use Rattle.rob_algebra.specs.Fraction.{Fraction}
use Rattle.rob_meaning.proofs.Conditions.AdmittedLemmas.{admits_jointly, each_from_over, joined_admits, jointly_admits, some_admitted_law}
use Rattle.rob_meaning.proofs.Scenarios.JointScenarioLemmas.{Agree, agree_in_each, agree_part, at-joined, rule_same, sides_same, value_same}
use Rattle.rob_meaning.specs.Guarantee.{HasBound, IsNoWorse, KeepsIn}
use Rattle.rob_meaning.specs.JointMeaning.{AdmitsJointly, HasJointBound, IsJointlyInfeasible, IsJointlyOptimal, IsJointlyUnbounded, Keeps}
use Rattle.rob_meaning.specs.Places.{at, Each, EachFrom}
use Rattle.rob_meaning.specs.RobustModel.{AdaptiveVariable, RobustModel, Row, row_set, set_count, written_count}
use Rattle.rob_meaning.specs.Status.{IsInfeasible, IsOptimal, IsUnbounded}
use Rattle.rob_meaning.specs.UncertaintySet.{Admits, AdmitsIn, EachSetAdmits, KeepsBounds, Relates, in_each_set, joined_scenarios, part_of}
use Rattle.rob_meaning.specs.Values.{rule_value, value}
use Rattle.rob_meaning.specs.WellFormed.{IsModel, IsOf}

-- what follows item by item, at the same numbers
pub each_from_same : {A : Type 0} (P Q : ℕ → A → Type 0) (k : ℕ) (xs : List A) → ((i : ℕ) (x : A) → P i x → Q i x) →
    EachFrom k P xs → EachFrom k Q xs
each_from_same P Q k [] f h = tt
each_from_same P Q k (x ∷ xs) f h = (f k x h.0, each_from_same P Q (suc k) xs f h.1)

-- the one or the other
abbrev pick : {A : Type 0} → Bool → A → A → A
pick true a b = a
pick false a b = b

module _ (m : RobustModel) (model : IsModel m) (plan : List Fraction) (tau : Fraction) where
  abbrev RowKept : List Fraction → Row → Type 0
  RowKept u r = Relates r.relation (value m plan u r.left) (value m plan u r.right)

  abbrev RowOwn : ℕ → Row → Type 0
  RowOwn i r = (row_set m i < set_count m) × (IsOf m (row_set m i) r.left × IsOf m (row_set m i) r.right)

  abbrev RuleKept : List Fraction → ℕ → AdaptiveVariable → Type 0
  RuleKept u k y = KeepsBounds y.lower y.upper (rule_value m plan u k)

  rules_same : (u w : List Fraction) → Agree m 0 u w → (k : ℕ) (ys : List AdaptiveVariable)
      → EachFrom k (RuleKept u) ys →
      EachFrom k (RuleKept w) ys
  rules_same u w agree k ys h =
      each_from_same (RuleKept u) (RuleKept w) k ys
      (λ i y kept. subst (λ x. KeepsBounds y.lower y.upper x) (rule_same m model.lists plan 0 u w agree refl i) kept) h

  -- ---- from the sets to joint scenarios
  rows_joint : (u : List Fraction) (k : ℕ) (rs : List Row) → EachFrom k RowOwn rs →
      EachFrom k (λ i r. (S : ℕ) → S < set_count m → row_set m i ≡ S → RowKept (in_each_set m (part_of m S u)) r) rs →
      Each (RowKept u) rs
  rows_joint u k [] own h = tt
  rows_joint u k (r ∷ rs) own h = (
    sides_same m model.lists plan (row_set m k) (in_each_set m (part_of m (row_set m k) u)) u
        (agree_part m (row_set m k) u own.0.0) r.relation r.left r.right own.0.1.0 own.0.1.1
        (h.0 (row_set m k) own.0.0 refl),
    rows_joint u (suc k) rs own.1 h.1,
  )

  keeps_joint : HasBound m plan tau → (u : List Fraction) → Admits m u → Keeps m plan tau u
  keeps_joint h u admitted =
      let S = m.objective_set in
      let some = model.own_objective.0 in
      record {
        objective =
            subst (λ x. IsNoWorse m.sense x tau)
            (value_same m model.lists plan S (in_each_set m (part_of m S u)) u (agree_part m S u some)
            m.objective model.own_objective.1)
            ((h.keeps S some (part_of m S u) (admitted.parts S some)).objective refl);
        rows =
            rows_joint u zero m.rows model.own_rows
            (each_from_over (set_count m) (λ S i r. row_set m i ≡ S
            → RowKept (in_each_set m (part_of m S u)) r) zero m.rows
            (λ S some. (h.keeps S some (part_of m S u) (admitted.parts S some)).rows));
        variables = h.variables;
        adaptives =
            rules_same (in_each_set m (part_of m 0 u)) u (agree_part m 0 u (omega arith)) zero m.adaptives
            ((h.keeps 0 (omega arith) (part_of m 0 u) (admitted.parts 0 (omega arith))).adaptives refl);
      }

  pub bound_joint : HasBound m plan tau → HasJointBound m plan tau
  bound_joint h = record {
    columns = h.columns;
    keeps = λ u jointly. keeps_joint h u (jointly_admits m model u jointly);
  }

  -- ---- from joint scenarios to a set: the other sets keep an admitted scenario
  rows_apart : (S : ℕ) (u w : List Fraction) → Agree m S u w → (k : ℕ) (rs : List Row) → EachFrom k RowOwn rs →
      Each (RowKept u) rs → EachFrom k (λ i r. row_set m i ≡ S → RowKept w r) rs
  rows_apart S u w agree k [] own h = tt
  rows_apart S u w agree k (r ∷ rs) own h = (
    λ e. sides_same m model.lists plan S u w agree r.relation r.left r.right
        (subst (λ T. IsOf m T r.left) e own.0.1.0) (subst (λ T. IsOf m T r.right) e own.0.1.1) h.0,
    rows_apart S u w agree (suc k) rs own.1 h.1,
  )

  pub keeps_apart : (S : ℕ) (u w : List Fraction) → Agree m S w (in_each_set m u) → Keeps m plan tau w
      → KeepsIn m plan tau S u
  keeps_apart S u w agree h = record {
    objective = λ e.
        subst (λ x. IsNoWorse m.sense x tau)
        (value_same m model.lists plan S w (in_each_set m u) agree m.objective
        (subst (λ T. IsOf m T m.objective) e model.own_objective.1)) h.objective;
    rows = rows_apart S w (in_each_set m u) agree zero m.rows model.own_rows h.rows;
    adaptives = λ e.
        rules_same w (in_each_set m u) (subst (λ T. Agree m T w (in_each_set m u)) (sym e) agree) zero
        m.adaptives h.adaptives;
  }

  module _ (inside : List Fraction) (admitted : AdmitsJointly m inside) (S : ℕ) (some : S < set_count m)
      (u : List Fraction) (own : AdmitsIn m S u) where
    -- u in set S, and what the other sets have in `inside`
    abbrev replaced : ℕ → List Fraction
    replaced T = pick (eqb T S) u (part_of m T inside)

    replaced_admits : (T : ℕ) → T < set_count m → AdmitsIn m T (replaced T)
    replaced_admits T small = by (eqb T S) refl
      where
        by : (b : Bool) → eqb T S ≡ b → AdmitsIn m T (pick b u (part_of m T inside))
        by true e = subst (λ T. AdmitsIn m T u) (sym (eqb-true T S e)) own
        by false e = (jointly_admits m model inside admitted).parts T small

    replaced_here : replaced S ≡ u
    replaced_here = by (eqb S S) refl
      where
        by : (b : Bool) → eqb S S ≡ b → pick b u (part_of m S inside) ≡ u
        by true e = refl
        by false e = absurd (eqb-false S S e refl)

    together : List Fraction
    together = joined_scenarios (length m.sets) replaced

    together_agrees : Agree m S together (in_each_set m u)
    unfolding together
    together_agrees k small =
        sym (agree_in_each m S u (joined_scenarios (length m.sets) replaced) some own.numbers
        (λ k small. sym
        (at-joined (written_count m) (length m.sets) replaced
        (λ T small. (replaced_admits T small).numbers) S k some small
        ∙ ap (λ (v : List Fraction). at v k) replaced_here))
        k small)

    together_admitted : AdmitsJointly m together
    unfolding together
    together_admitted =
        admits_jointly m model (joined_scenarios (length m.sets) replaced)
        (joined_admits m model replaced replaced_admits)

    kept_in_set : HasJointBound m plan tau → KeepsIn m plan tau S u
    kept_in_set h = keeps_apart S u together together_agrees (h.keeps together together_admitted)

  pub joint_bound : (inside : List Fraction) → AdmitsJointly m inside → HasJointBound m plan tau → HasBound m plan tau
  joint_bound inside admitted h = record {
    columns = h.columns;
    keeps = λ S some u own. kept_in_set inside admitted S some u own h;
    variables = (h.keeps inside admitted).variables;
  }

-- each set admits something exactly where some joint scenario is admitted
pub some_jointly : (m : RobustModel) → IsModel m → EachSetAdmits m ↔ ((u : List Fraction) × AdmitsJointly m u)
some_jointly m model = (
  λ h. (let some = (some_admitted_law m model).1 h in (some.0, admits_jointly m model some.0 some.1)),
  λ h. (some_admitted_law m model).0 (h.0, jointly_admits m model h.0 h.1),
)

module _ (m : RobustModel) (model : IsModel m) (some : EachSetAdmits m) where
  inside : (u : List Fraction) × AdmitsJointly m u
  inside = (some_jointly m model).0 some

  agree_back : (plan : List Fraction) (tau : Fraction) → HasJointBound m plan tau → HasBound m plan tau
  agree_back plan tau = joint_bound m model plan tau inside.0 inside.1

  pub bounds_agree : (plan : List Fraction) (tau : Fraction) → HasBound m plan tau ↔ HasJointBound m plan tau
  bounds_agree plan tau = (bound_joint m model plan tau, agree_back plan tau)

  pub optimal_agree : (v : Fraction) → IsOptimal m v ↔ IsJointlyOptimal m v
  optimal_agree v = (
    λ h. record {
      attained = (h.attained.0, bound_joint m model h.attained.0 v h.attained.1);
      none_better = λ plan tau b. h.none_better plan tau (agree_back plan tau b);
    },
    λ h. record {
      attained = (h.attained.0, agree_back h.attained.0 v h.attained.1);
      none_better = λ plan tau b. h.none_better plan tau (bound_joint m model plan tau b);
    },
  )

  pub infeasible_agree : IsInfeasible m ↔ IsJointlyInfeasible m
  infeasible_agree = (
    λ h plan tau b. h plan tau (agree_back plan tau b),
    λ h plan tau b. h plan tau (bound_joint m model plan tau b),
  )

  pub unbounded_agree : IsUnbounded m ↔ IsJointlyUnbounded m
  unbounded_agree = (
    λ h tau. ((h tau).0, bound_joint m model (h tau).0 tau (h tau).1),
    λ h tau. ((h tau).0, agree_back (h tau).0 tau (h tau).1),
  )
