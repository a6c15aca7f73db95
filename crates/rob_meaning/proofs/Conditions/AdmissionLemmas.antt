-- A joint scenario is admitted condition by condition exactly where it meets the set conditions taken once.
use Rattle.std.proofs.Common.{sym, ap, ap₂, subst, refl}
use Rattle.std.specs.Prelude.{◌≡◌, ℕ, zero, suc, pos, List, [], ◌∷◌, Option, Some, None}
use Rattle.rob_algebra.specs.Fraction.{Fraction, ◌+ℚ◌, ◌-ℚ◌, ◌*ℚ◌, ◌/ℚ◌, ◌≤ℚ◌}
use Rattle.rob_algebra.specs.FractionLaws as Q
use Rattle.rob_algebra.specs.Polynomials.{lit, ◌:+◌, ◌:-◌, ◌:*◌, v0, v1}
use Rattle.rob_meaning.proofs.Lists.EachLemmas.{each_append, each_left, each_right}
use Rattle.rob_meaning.specs.Expressions.{Expression}
use Rattle.rob_meaning.specs.JointMeaning.{AdmitsJointly}
use Rattle.rob_meaning.specs.Places.{1ℚ, at, Each, EachFrom}
use Rattle.rob_meaning.specs.RobustModel.{Parameter, Member, SetLine, line, budget, RobustModel}
use Rattle.rob_meaning.specs.SetConditions.{lower_bound, upper_bound, stated, if_declared, bounds_of, bounds_from, all_stated, taken, taken_deviation, total_taken, Holds, Meets}
use Rattle.rob_meaning.specs.UncertaintySet.{abs_ℚ, Relates, KeepsLower, KeepsUpper, KeepsBounds, scaled_deviation, total_deviation, KeepsLine}
use Rattle.rob_meaning.specs.Values.{value}

module _ (m : RobustModel) (u : List Fraction) where
  -- ---- the statements
  taken-once : (e : Expression) → taken m 1ℚ u e ≡ value m [] u e
  taken-once e = Q.ring (value m [] u e ∷ value m [] [] e ∷ []) (v0 :- v1 :+ lit (pos 1) :* v1) v0 refl

  deviation-once : (h : Member) → taken_deviation m 1ℚ u h ≡ scaled_deviation m u h
  deviation-once h = ap (λ c. abs_ℚ (at u h.parameter -ℚ c) /ℚ h.deviation) (Q.ℚ-one-mul h.centre)

  total-once : (hs : List Member) → total_taken m 1ℚ u hs ≡ total_deviation m u hs
  total-once [] = refl
  total-once (h ∷ hs) = ap₂ ◌+ℚ◌ (deviation-once h) (total-once hs)

  pub line_in : (c : SetLine) → KeepsLine m u c → Holds m 1ℚ u (stated c)
  line_in (line l relation r) h =
      subst (λ x. Relates relation x (taken m 1ℚ u r)) (sym (taken-once l))
      (subst (λ y. Relates relation (value m [] u l) y) (sym (taken-once r)) h)
  line_in (budget limit hs) h =
      subst (λ x. x ≤ℚ 1ℚ *ℚ limit) (sym (total-once hs))
      (subst (λ y. total_deviation m u hs ≤ℚ y) (sym (Q.ℚ-one-mul limit)) h)

  line_out : (c : SetLine) → Holds m 1ℚ u (stated c) → KeepsLine m u c
  line_out (line l relation r) h =
      subst (λ x. Relates relation x (value m [] u r)) (taken-once l)
      (subst (λ y. Relates relation (taken m 1ℚ u l) y) (taken-once r) h)
  line_out (budget limit hs) h =
      subst (λ x. x ≤ℚ limit) (total-once hs)
      (subst (λ y. total_taken m 1ℚ u hs ≤ℚ y) (Q.ℚ-one-mul limit) h)

  lines_in : (cs : List SetLine) → Each (KeepsLine m u) cs → Each (Holds m 1ℚ u) (all_stated cs)
  lines_in [] h = tt
  lines_in (c ∷ cs) h = (line_in c h.0, lines_in cs h.1)

  lines_out : (cs : List SetLine) → Each (Holds m 1ℚ u) (all_stated cs) → Each (KeepsLine m u) cs
  lines_out [] h = tt
  lines_out (c ∷ cs) h = (line_out c h.0, lines_out cs h.1)

  -- ---- the declared bounds
  lower_in : (k : ℕ) (o : Option Fraction) → KeepsLower o (at u k) → Each (Holds m 1ℚ u) (if_declared (lower_bound k) o)
  lower_in k None h = tt
  lower_in k (Some l) h = (subst (λ x. x ≤ℚ at u k) (sym (Q.ℚ-one-mul l)) h, tt)

  upper_in : (k : ℕ) (o : Option Fraction) → KeepsUpper o (at u k) → Each (Holds m 1ℚ u) (if_declared (upper_bound k) o)
  upper_in k None h = tt
  upper_in k (Some b) h = (subst (λ x. at u k ≤ℚ x) (sym (Q.ℚ-one-mul b)) h, tt)

  lower_out : (k : ℕ) (o : Option Fraction) → Each (Holds m 1ℚ u) (if_declared (lower_bound k) o) →
      KeepsLower o (at u k)
  lower_out k None h = tt
  lower_out k (Some l) h = subst (λ x. x ≤ℚ at u k) (Q.ℚ-one-mul l) h.0

  upper_out : (k : ℕ) (o : Option Fraction) → Each (Holds m 1ℚ u) (if_declared (upper_bound k) o) →
      KeepsUpper o (at u k)
  upper_out k None h = tt
  upper_out k (Some b) h = subst (λ x. at u k ≤ℚ x) (Q.ℚ-one-mul b) h.0

  pub bounds_in : (k : ℕ) (ps : List Parameter) →
      EachFrom k (λ k (d : Parameter). KeepsBounds d.lower d.upper (at u k)) ps →
      Each (Holds m 1ℚ u) (bounds_from k ps)
  bounds_in k [] h = tt
  bounds_in k (d ∷ ds) h =
      each_append (Holds m 1ℚ u) (bounds_of k d) (bounds_from (suc k) ds)
      (each_append (Holds m 1ℚ u) (if_declared (lower_bound k) d.lower) (if_declared (upper_bound k) d.upper)
      (lower_in k d.lower h.0.0) (upper_in k d.upper h.0.1))
      (bounds_in (suc k) ds h.1)

  bounds_out : (k : ℕ) (ps : List Parameter) → Each (Holds m 1ℚ u) (bounds_from k ps) →
      EachFrom k (λ k (d : Parameter). KeepsBounds d.lower d.upper (at u k)) ps
  bounds_out k [] h = tt
  bounds_out k (d ∷ ds) h =
      let own = each_left (Holds m 1ℚ u) (bounds_of k d) (bounds_from (suc k) ds) h in (
        (
          lower_out k d.lower (each_left (Holds m 1ℚ u) (if_declared (lower_bound k) d.lower)
              (if_declared (upper_bound k) d.upper) own),
          upper_out k d.upper (each_right (Holds m 1ℚ u) (if_declared (lower_bound k) d.lower)
              (if_declared (upper_bound k) d.upper) own),
        ),
        bounds_out (suc k) ds (each_right (Holds m 1ℚ u) (bounds_of k d) (bounds_from (suc k) ds) h),
      )

  -- ---- admission
  pub jointly_meets : AdmitsJointly m u → Meets m 1ℚ u
  jointly_meets h =
      record {
        numbers = h.numbers;
        conditions =
            each_append (Holds m 1ℚ u) (bounds_from zero m.parameters) (all_stated m.set_lines)
            (bounds_in zero m.parameters h.bounds) (lines_in m.set_lines h.lines);
      }

  pub meets_jointly : Meets m 1ℚ u → AdmitsJointly m u
  meets_jointly h =
      record {
        numbers = h.numbers;
        bounds =
            bounds_out zero m.parameters
            (each_left (Holds m 1ℚ u) (bounds_from zero m.parameters) (all_stated m.set_lines) h.conditions);
        lines =
            lines_out m.set_lines
            (each_right (Holds m 1ℚ u) (bounds_from zero m.parameters) (all_stated m.set_lines) h.conditions);
      }
