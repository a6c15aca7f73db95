-- What is computed is what is meant, and a plan that has its bound keeps it on each line.
use Rattle.std.proofs.Common.{◌≡◌, ℕ, suc, List, [], ◌∷◌, ◌++◌, map, length, refl, sym, ap, ap₂, ◌∙◌, subst, Bool, true, false, inl, inr}
use Rattle.std.specs.Prelude.{Option, Some, None, pos, if◌then◌else◌}
use Rattle.rob_algebra.specs.Fraction.{Fraction, ◌-ℚ◌, ◌≤ℚ◌}
use Rattle.rob_algebra.specs.FractionLaws as Q
use Rattle.rob_algebra.specs.FractionOrderLaws.{nonneg_sub_ℚ}
use Rattle.rob_algebra.specs.Polynomials.{lit, ◌:-◌, v0}
use Rattle.rob_algebra.specs.Width.{kept}
use Rattle.rob_meaning.proofs.Conditions.AdmittedLemmas.{admits_jointly}
use Rattle.rob_meaning.proofs.Scenarios.JointBoundLemmas.{bound_joint}
use Rattle.rob_meaning.specs.Guarantee.{HasBound, IsNoWorse}
use Rattle.rob_meaning.specs.Places.{0ℚ, Each, EachFrom}
use Rattle.rob_meaning.specs.RobustModel.{RobustModel, Row, AdaptiveVariable, Relation, at_most, at_least, equal}
use Rattle.rob_meaning.specs.SetConditions.{if_declared}
use Rattle.rob_meaning.specs.UncertaintySet.{Admits, KeepsBounds, KeepsLower, KeepsUpper, Relates}
use Rattle.rob_meaning.specs.Values.{value, rule_value}
use Rattle.rob_meaning.specs.WellFormed.{IsModel}
use Rattle.rob_model.proofs.JudgingLemmas.{admitted_is}
use Rattle.rob_model.proofs.KeptLemmas.{kept_is, some_is, through}
use Rattle.rob_model.proofs.ValueLemmas.{policy_is, value_is}
use Rattle.rob_model.specs.Within.{◌>>=◌, admits_within, value_within}
use Rattle.rob_replay.specs.Gathering.{all_of}
use Rattle.rob_replay.specs.Lines.{Line, Values, bound_slacks, inside_within, line_outside, line_within, lower_slacks, policies_within, row_slack, slack_of, slacks_within, upper_slacks, values_within, variable_slacks}
use Rattle.rob_replay.specs.Replayed.{AreKept, AreValues, IsKept, IsLine, ShowsBound, all_bound_slacks, bound_slacks_at, row_slack_at, rule_values}

not_true : false ≡ true → ⊥
not_true e = cc

-- ---- each of what is computed is what is meant
abbrev Are : List (Option Fraction) → List Fraction → Type 0
Are [] [] = Unit {0}
Are (o ∷ os) (q ∷ qs) = ((v : Fraction) → o ≡ Some v → q ≡ v) × Are os qs
Are [] (q ∷ qs) = ⊥
Are (o ∷ os) [] = ⊥

are_append : (os ps : List (Option Fraction)) (qs rs : List Fraction) → Are os qs → Are ps rs
    → Are (os ++ ps) (qs ++ rs)
are_append [] ps [] rs h g = g
are_append (o ∷ os) ps (q ∷ qs) rs h g = (h.0, are_append os ps qs rs h.1 g)
are_append [] ps (q ∷ qs) rs h g = absurd h
are_append (o ∷ os) ps [] rs h g = absurd h

all_are : (os : List (Option Fraction)) (qs vs : List Fraction) → Are os qs → all_of os ≡ Some vs → vs ≡ qs
all_are [] [] vs h e = sym (some_is e)
all_are [] (q ∷ qs) vs h e = absurd h
all_are (o ∷ os) [] vs h e = absurd h
all_are (o ∷ os) (q ∷ qs) vs h e =
    let a = through o (λ y. all_of os >>= (λ ys. Some (y ∷ ys))) vs e in
    let b = through (all_of os) (λ ys. Some (a.0 ∷ ys)) vs a.2 in
    sym (some_is b.2) ∙ ap₂ (λ x xs. x ∷ xs) (sym (h.0 a.0 a.1)) (all_are os qs b.0 h.1 b.1)

module _ (limit : ℕ) (m : RobustModel) (plan u : List Fraction) where
  policies_are : (k : ℕ) (ys : List AdaptiveVariable)
      → Are (policies_within limit m plan u k ys) (rule_values m plan u k ys)
  policies_are k [] = tt
  policies_are k (y ∷ ys) = ((λ v h. policy_is limit m plan u k v h), policies_are (suc k) ys)

  row_is : (r : Row) (v : Fraction) → row_slack limit m plan u r ≡ Some v → row_slack_at m plan u r ≡ v
  row_is r v h =
      let a = through (value_within limit m plan u r.left)
      (λ left. value_within limit m plan u r.right >>= (λ right. kept limit (slack_of r.relation left right))) v
      h in
      let b = through (value_within limit m plan u r.right)
      (λ right. kept limit (slack_of r.relation a.0 right)) v a.2 in
      ap₂ (slack_of r.relation) (value_is limit m plan u r.left a.0 a.1) (value_is limit m plan u r.right b.0 b.1)
      ∙ kept_is limit (slack_of r.relation a.0 b.0) v b.2

  rows_are : (rs : List Row) → Are (map (row_slack limit m plan u) rs) (map (row_slack_at m plan u) rs)
  rows_are [] = tt
  rows_are (r ∷ rs) = ((λ v h. row_is r v h), rows_are rs)

  lower_are : (l : Option Fraction) (x : Fraction) → Are (lower_slacks limit l x) (if_declared (λ l. x -ℚ l) l)
  lower_are None x = tt
  lower_are (Some l) x = ((λ v h. kept_is limit (x -ℚ l) v h), tt)

  upper_are : (b : Option Fraction) (x : Fraction) → Are (upper_slacks limit b x) (if_declared (λ b. b -ℚ x) b)
  upper_are None x = tt
  upper_are (Some b) x = ((λ v h. kept_is limit (b -ℚ x) v h), tt)

  bounds_are : (k : ℕ) (ys : List AdaptiveVariable)
      → Are (bound_slacks limit ys (rule_values m plan u k ys)) (all_bound_slacks m plan u k ys)
  bounds_are k [] = tt
  bounds_are k (y ∷ ys) =
      let x = rule_value m plan u k in
      are_append (variable_slacks limit y x) (bound_slacks limit ys (rule_values m plan u (suc k) ys))
      (bound_slacks_at y x) (all_bound_slacks m plan u (suc k) ys)
      (are_append (lower_slacks limit y.lower x) (upper_slacks limit y.upper x) (if_declared (λ l. x -ℚ l) y.lower)
      (if_declared (λ b. b -ℚ x) y.upper) (lower_are y.lower x) (upper_are y.upper x))
      (bounds_are (suc k) ys)

  values_are : (v : Values) → values_within limit m plan u ≡ Some v → AreValues m plan u v
  values_are v h =
      let a = through (all_of (policies_within limit m plan u 0 m.adaptives))
      (λ adaptives. value_within limit m plan u m.objective
      >>= (λ objective. all_of (slacks_within limit m plan u adaptives)
      >>= (λ slacks. Some (let r : Values = record {
        adaptives = adaptives;
        objective = objective;
        slacks = slacks;
      } in r)))) v h in
      let b = through (value_within limit m plan u m.objective) (λ objective. all_of (slacks_within limit m plan u a.0)
      >>= (λ slacks. Some (let r : Values = record { adaptives = a.0; objective = objective; slacks = slacks } in r))) v
      a.2 in
      let d = through (all_of (slacks_within limit m plan u a.0))
      (λ slacks. Some (let r : Values = record { adaptives = a.0; objective = b.0; slacks = slacks } in r)) v b.2 in
      let policies =
      all_are (policies_within limit m plan u 0 m.adaptives) (rule_values m plan u 0 m.adaptives) a.0
      (policies_are 0 m.adaptives) a.1 in
      let computed : all_of (slacks_within limit m plan u (rule_values m plan u 0 m.adaptives)) ≡ Some d.0 =
      ap (λ xs. all_of (slacks_within limit m plan u xs)) (sym policies) ∙ d.1 in
      let slacks =
      all_are (slacks_within limit m plan u (rule_values m plan u 0 m.adaptives))
      (map (row_slack_at m plan u) m.rows ++ all_bound_slacks m plan u 0 m.adaptives) d.0
      (are_append (map (row_slack limit m plan u) m.rows)
      (bound_slacks limit m.adaptives (rule_values m plan u 0 m.adaptives))
      (map (row_slack_at m plan u) m.rows) (all_bound_slacks m plan u 0 m.adaptives) (rows_are m.rows)
      (bounds_are 0 m.adaptives)) computed in
      subst (AreValues m plan u) (some_is d.2) (record {
        adaptives = policies;
        objective = sym (value_is limit m plan u m.objective b.0 b.1);
        slacks = slacks;
      })

  -- a line that is computed says what is so
  module _ (model : IsModel m) (fits : length u ≡ length m.parameters) (number : ℕ) (line : Line) where
    inside_is : Admits m u → inside_within limit m plan number u ≡ Some line
        → (line.number ≡ number) × IsLine m plan u line
    inside_is admitted h =
        let a = through (values_within limit m plan u)
        (λ values. Some (let l : Line = record { number = number; inside = true; values = values } in l)) line h in
        let e = some_is a.2 in (
          ap (λ (l : Line). l.number) (sym e),
          inl (
            ap (λ (l : Line). l.inside) (sym e),
            admitted,
            subst (λ (l : Line). AreValues m plan u l.values) e (values_are a.0 a.1),
          ),
        )

    outside_is : (Admits m u → ⊥) → Some (line_outside number) ≡ Some line
        → (line.number ≡ number) × IsLine m plan u line
    outside_is out h =
        let e = some_is h in
        (ap (λ (l : Line). l.number) (sym e), inr (ap (λ (l : Line). l.inside) (sym e), out))

    line_case : (t : Bool) → admits_within limit m u ≡ Some t
        → (if t then inside_within limit m plan number u else Some (line_outside number)) ≡ Some line
        → (line.number ≡ number) × IsLine m plan u line
    line_case true a h = inside_is ((admitted_is m model u limit fits true a).0 refl) h
    line_case false a h = outside_is (λ admitted. not_true ((admitted_is m model u limit fits false a).1 admitted)) h

    pub line_is : line_within limit m plan number u ≡ Some line → (line.number ≡ number) × IsLine m plan u line
    line_is h =
        let a = through (admits_within limit m u)
        (λ inside. if inside then inside_within limit m plan number u else Some (line_outside number)) line h in
        line_case a.0 a.1 a.2

-- ---- a plan that has its bound
nothing_left : (x : Fraction) → x -ℚ x ≡ 0ℚ
nothing_left x = Q.ring (x ∷ []) (v0 :- v0) (lit (pos 0)) refl

kept_row : (r : Relation) (left right : Fraction) → Relates r left right → IsKept r (slack_of r left right)
kept_row at_most left right h = nonneg_sub_ℚ left right h
kept_row at_least left right h = nonneg_sub_ℚ right left h
kept_row equal left right h = ap (λ x. right -ℚ x) h ∙ nothing_left right

each_append : (xs ys : List Fraction) → Each (λ x. 0ℚ ≤ℚ x) xs → Each (λ x. 0ℚ ≤ℚ x) ys → Each (λ x. 0ℚ ≤ℚ x) (xs ++ ys)
each_append [] ys h g = g
each_append (x ∷ xs) ys h g = (h.0, each_append xs ys h.1 g)

kept_lower : (l : Option Fraction) (x : Fraction) → KeepsLower l x → Each (λ x. 0ℚ ≤ℚ x) (if_declared (λ l. x -ℚ l) l)
kept_lower None x h = tt
kept_lower (Some l) x h = (nonneg_sub_ℚ l x h, tt)

kept_upper : (b : Option Fraction) (x : Fraction) → KeepsUpper b x → Each (λ x. 0ℚ ≤ℚ x) (if_declared (λ b. b -ℚ x) b)
kept_upper None x h = tt
kept_upper (Some b) x h = (nonneg_sub_ℚ x b h, tt)

module _ (m : RobustModel) (plan u : List Fraction) where
  kept_bounds : (k : ℕ) (ys : List AdaptiveVariable)
      → EachFrom k (λ k (y : AdaptiveVariable). KeepsBounds y.lower y.upper (rule_value m plan u k)) ys
      → Each (λ x. 0ℚ ≤ℚ x) (all_bound_slacks m plan u k ys)
  kept_bounds k [] h = tt
  kept_bounds k (y ∷ ys) h =
      let x = rule_value m plan u k in
      each_append (bound_slacks_at y x) (all_bound_slacks m plan u (suc k) ys)
      (each_append (if_declared (λ l. x -ℚ l) y.lower) (if_declared (λ b. b -ℚ x) y.upper) (kept_lower y.lower x h.0.0)
      (kept_upper y.upper x h.0.1))
      (kept_bounds (suc k) ys h.1)

  kept_rows : (rs : List Row) (xs : List Fraction)
      → Each (λ (r : Row). Relates r.relation (value m plan u r.left) (value m plan u r.right)) rs
      → Each (λ x. 0ℚ ≤ℚ x) xs → AreKept rs (map (row_slack_at m plan u) rs ++ xs)
  kept_rows [] xs h g = g
  kept_rows (r ∷ rs) xs h g =
      (kept_row r.relation (value m plan u r.left) (value m plan u r.right) h.0, kept_rows rs xs h.1 g)

  kept_line : IsModel m → (tau : Fraction) (line : Line) → HasBound m plan tau → Admits m u
      → AreValues m plan u line.values
      → AreKept m.rows line.values.slacks × IsNoWorse m.sense line.values.objective tau
  kept_line model tau line bound admitted v =
      let keeps = (bound_joint m model plan tau bound).keeps u (admits_jointly m model u admitted) in (
        subst (AreKept m.rows) (sym v.slacks)
            (kept_rows m.rows (all_bound_slacks m plan u 0 m.adaptives) keeps.rows
            (kept_bounds 0 m.adaptives keeps.adaptives)),
        subst (λ x. IsNoWorse m.sense x tau) (sym v.objective) keeps.objective,
      )

  pub shows_bound : IsModel m → (tau : Fraction) (line : Line) → HasBound m plan tau
      → IsLine m plan u line → ShowsBound m tau line
  shows_bound model tau line bound (inl (inside, admitted, v)) t = kept_line model tau line bound admitted v
  shows_bound model tau line bound (inr (outside, out)) t = cc
