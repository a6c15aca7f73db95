-- What the first condition that fails says of the conditions.
use Rattle.std.proofs.Common.{◌≡◌, ℕ, suc, ◌+◌, List, [], ◌∷◌, length, take, arith, refl, ap, sym, ◌∙◌, subst, Bool, true, false, ap₂}
use Rattle.std.specs.Prelude.{Option, Some, None, if◌then◌else◌, Result, Ok, Err, IfOk, IsTrue, ◌↔◌, is_none, slice_get}
use Rattle.std.specs.Bool.{Decides}
use Rattle.std.specs.Ordering.{is_le, MatchOrdering}
use Rattle.std.specs.Result.{result_ok}
use Rattle.std.proofs.Common.{Ordering, Less, Equal, Greater}
use Rattle.rob_algebra.specs.Fraction.{Fraction, ◌+ℚ◌, ◌-ℚ◌, ◌*ℚ◌, ◌/ℚ◌, ◌≤ℚ◌, ◌<ℚ◌}
use Rattle.rob_algebra.specs.FractionLaws.{ℚ-add_assoc}
use Rattle.rob_algebra.specs.FractionOrderLaws.{le_refl_ℚ, le_of_lt_ℚ, not_lt_ℚ}
use Rattle.rob_algebra.specs.FractionOrder.{cmp_ℚ, cmp_ℚ-ranks, eq_ℚ-decides}
use Rattle.rob_algebra.specs.Width.{kept}
use Rattle.rob_meaning.proofs.Conditions.AdmittedLemmas.{admission_law}
use Rattle.rob_meaning.specs.WellFormed.{IsModel}
use Rattle.rob_meaning.specs.Expressions.{Expression}
use Rattle.rob_meaning.specs.Places.{0ℚ, 1ℚ, at, Each}
use Rattle.rob_meaning.specs.RobustModel.{RobustModel, Relation, at_most, at_least, equal, Member, line, budget}
use Rattle.rob_meaning.specs.SetConditions.{SetCondition, lower_bound, upper_bound, stated, set_conditions, taken, taken_deviation, total_taken, Holds}
use Rattle.rob_meaning.specs.UncertaintySet.{abs_ℚ, Relates, Admits}
use Rattle.rob_model.specs.FirstBroken.{FailsFirst, IsFirstBroken}
use Rattle.rob_model.specs.Within.{◌>>=◌, value_within, taken_within, deviation_within, total_within, holds_within, first_within, first_broken_within, admits_within, is_at_most, is_related}
use Rattle.rob_model.proofs.KeptLemmas.{some_is, through, through_kept, kept_is}
use Rattle.rob_model.proofs.PartLemmas.{each_get}
use Rattle.rob_model.proofs.ValueLemmas.{value_is, add-zero_ℚ}
use Rattle.rob_algebra.specs.FractionLaws.{ℚ-zero-add}

-- ---- tests
pub at_most_by : (a b : Fraction) (r : Ordering) → MatchOrdering r (a <ℚ b) (a ≡ b) (b <ℚ a)
    → Decides (is_le r) (a ≤ℚ b)
at_most_by a b Less h = (λ e. le_of_lt_ℚ a b h, λ e. refl)
at_most_by a b Equal h = (λ e. subst (λ x. a ≤ℚ x) h (le_refl_ℚ a), λ e. refl)
at_most_by a b Greater h = (λ e. cc, λ e. absurd (not_lt_ℚ a b e h))

pub at_most_decides : (a b : Fraction) → Decides (is_at_most a b) (a ≤ℚ b)
at_most_decides a b = at_most_by a b (cmp_ℚ a b) (cmp_ℚ-ranks a b)

related_decides : (r : Relation) (a b : Fraction) → Decides (is_related r a b) (Relates r a b)
related_decides at_most a b = at_most_decides a b
related_decides at_least a b = at_most_decides b a
related_decides equal a b = eq_ℚ-decides a b

-- a test of equal numbers says whether the fact holds
told_at_most : (x y a b : Fraction) (t : Bool) → x ≡ a → y ≡ b → Some (is_at_most a b) ≡ Some t → Decides t (x ≤ℚ y)
told_at_most x y a b t ex ey h =
    subst (λ t. Decides t (x ≤ℚ y)) (ap₂ is_at_most ex ey ∙ some_is h) (at_most_decides x y)

told_related : (r : Relation) (x y a b : Fraction) (t : Bool) → x ≡ a → y ≡ b → Some (is_related r a b) ≡ Some t
    → Decides t (Relates r x y)
told_related r x y a b t ex ey h =
    subst (λ t. Decides t (Relates r x y)) (ap₂ (is_related r) ex ey ∙ some_is h) (related_decides r x y)

module _ (limit : ℕ) (m : RobustModel) (s : Fraction) (p : List Fraction) where
  -- ---- what is computed in order is what the definitions say
  taken_is : (e : Expression) (v : Fraction) → taken_within limit m s p e ≡ Some v → taken m s p e ≡ v
  taken_is e v h =
      let a = through (value_within limit m [] p e)
      (λ at_vector. value_within limit m [] [] e >>=
      (λ constant. kept limit (at_vector -ℚ constant) >>=
      (λ linear. kept limit (s *ℚ constant) >>= (λ scaled. kept limit (linear +ℚ scaled))))) v h in
      let b = through (value_within limit m [] [] e)
      (λ constant. kept limit (a.0 -ℚ constant) >>=
      (λ linear. kept limit (s *ℚ constant) >>= (λ scaled. kept limit (linear +ℚ scaled)))) v a.2 in
      let d = through_kept limit (a.0 -ℚ b.0)
      (λ linear. kept limit (s *ℚ b.0) >>= (λ scaled. kept limit (linear +ℚ scaled))) v b.2 in
      let e' = through_kept limit (s *ℚ b.0) (λ scaled. kept limit ((a.0 -ℚ b.0) +ℚ scaled)) v d in
      ap₂ (λ x y. x -ℚ y +ℚ s *ℚ y) (value_is limit m [] p e a.0 a.1) (value_is limit m [] [] e b.0 b.1)
      ∙ kept_is limit ((a.0 -ℚ b.0) +ℚ (s *ℚ b.0)) v e'

  deviation_is : (h : Member) (v : Fraction) → deviation_within limit m s p h ≡ Some v → taken_deviation m s p h ≡ v
  deviation_is h v e =
      let a = through_kept limit (s *ℚ h.centre)
      (λ centre. kept limit (at p h.parameter -ℚ centre) >>=
      (λ difference. kept limit (abs_ℚ difference /ℚ h.deviation))) v e in
      let b = through_kept limit (at p h.parameter -ℚ (s *ℚ h.centre))
      (λ difference. kept limit (abs_ℚ difference /ℚ h.deviation)) v a in
      kept_is limit (abs_ℚ (at p h.parameter -ℚ (s *ℚ h.centre)) /ℚ h.deviation) v b

  total_is : (hs : List Member) (so_far v : Fraction) → total_within limit m s p hs so_far ≡ Some v
      → so_far +ℚ total_taken m s p hs ≡ v
  total_is [] so_far v e = add-zero_ℚ so_far ∙ some_is e
  total_is (h ∷ hs) so_far v e =
      let a = through (deviation_within limit m s p h)
      (λ deviation. kept limit (so_far +ℚ deviation) >>= (λ next. total_within limit m s p hs next)) v e in
      let b = through_kept limit (so_far +ℚ a.0) (λ next. total_within limit m s p hs next) v a.2 in
      ap (λ x. so_far +ℚ (x +ℚ total_taken m s p hs)) (deviation_is h a.0 a.1)
      ∙ sym (ℚ-add_assoc so_far a.0 (total_taken m s p hs))
      ∙ total_is hs (so_far +ℚ a.0) v b

  -- a test says whether the condition holds
  pub holds_is : (c : SetCondition) (t : Bool) → holds_within limit m s p c ≡ Some t → Decides t (Holds m s p c)
  holds_is (lower_bound k l) t h =
      told_at_most (s *ℚ l) (at p k) (s *ℚ l) (at p k) t refl refl
      (through_kept limit (s *ℚ l) (λ scaled. Some (is_at_most scaled (at p k))) t h)
  holds_is (upper_bound k b) t h =
      told_at_most (at p k) (s *ℚ b) (at p k) (s *ℚ b) t refl refl
      (through_kept limit (s *ℚ b) (λ scaled. Some (is_at_most (at p k) scaled)) t h)
  holds_is (stated (line left relation right)) t h =
      let a = through (taken_within limit m s p left)
      (λ left_side. taken_within limit m s p right >>=
      (λ right_side. Some (is_related relation left_side right_side))) t h in
      let b = through (taken_within limit m s p right)
      (λ right_side. Some (is_related relation a.0 right_side)) t a.2 in
      told_related relation (taken m s p left) (taken m s p right) a.0 b.0 t (taken_is left a.0 a.1)
      (taken_is right b.0 b.1) b.2
  holds_is (stated (budget most members)) t h =
      let a = through (total_within limit m s p members 0ℚ)
      (λ total. kept limit (s *ℚ most) >>= (λ scaled. Some (is_at_most total scaled))) t h in
      told_at_most (total_taken m s p members) (s *ℚ most) a.0 (s *ℚ most) t
      (sym (ℚ-zero-add (total_taken m s p members)) ∙ total_is members 0ℚ a.0 a.1) refl
      (through_kept limit (s *ℚ most) (λ scaled. Some (is_at_most a.0 scaled)) t a.2)

-- ---- the first condition that fails
-- it has a number, counted from the first of the list; it fails, and those before it hold
record FailsAt (P : SetCondition → Type 0) (cs : List SetCondition) (k : ℕ) : Type 0 where
  condition : SetCondition
  number : slice_get cs k ≡ Some condition
  fails : P condition → ⊥
  before : Each P (take k cs)

-- all hold, or the first that fails has that number, the first of the list having number `first`
Judges : (P : SetCondition → Type 0) (cs : List SetCondition) (first : ℕ) → Option ℕ → Type 0
Judges P cs first None = Each P cs
Judges P cs first (Some j) = (k : ℕ) × (j ≡ first + k) × FailsAt P cs k

module _ (P : SetCondition → Type 0) where
  one_more : (c : SetCondition) (cs : List SetCondition) (first : ℕ) (r : Option ℕ) → P c → Judges P cs (first + 1) r
      → Judges P (c ∷ cs) first r
  unfolding Judges
  one_more c cs first None h all = (h, all)
  one_more c cs first (Some j) h w = (
    suc w.0,
    (let e = w.1 in omega arith),
    record {
      condition = w.2.condition;
      number = w.2.number;
      fails = w.2.fails;
      before = (h, w.2.before);
    },
  )

  stops_here : (c : SetCondition) (cs : List SetCondition) (first : ℕ) (r : Option ℕ) → (P c → ⊥)
      → Some (Some first) ≡ Some r → Judges P (c ∷ cs) first r
  unfolding Judges
  stops_here c cs first None h e = cc
  stops_here c cs first (Some j) h e =
      (0, (let same : first ≡ j = cc in omega arith), record { condition = c; number = refl; fails = h; before = tt })

module _ (limit : ℕ) (m : RobustModel) (s : Fraction) (p : List Fraction) where
  by_test : (c : SetCondition) (cs : List SetCondition) (first : ℕ) (r : Option ℕ) (t : Bool)
      → holds_within limit m s p c ≡ Some t
      → (first_within limit m s p cs (first + 1) ≡ Some r → Judges (Holds m s p) cs (first + 1) r)
      → (if t then first_within limit m s p cs (first + 1) else Some (Some first)) ≡ Some r
      → Judges (Holds m s p) (c ∷ cs) first r
  by_test c cs first r true is go h =
      one_more (Holds m s p) c cs first r ((holds_is limit m s p c true is).0 refl) (go h)
  by_test c cs first r false is go h =
      stops_here (Holds m s p) c cs first r
      (λ holds. (let impossible : false ≡ true = (holds_is limit m s p c false is).1 holds in cc)) h

  judged : (cs : List SetCondition) (first : ℕ) (r : Option ℕ) → first_within limit m s p cs first ≡ Some r
      → Judges (Holds m s p) cs first r
  unfolding Judges
  judged [] first None h = tt
  judged [] first (Some j) h = cc
  judged (c ∷ cs) first r h =
      let a = through (holds_within limit m s p c)
      (λ holds. if holds then first_within limit m s p cs (first + 1) else Some (Some first)) r h in
      by_test c cs first r a.0 a.1 (judged cs (first + 1) r) a.2

  from_zero : length p ≡ length m.parameters → (r : Option ℕ)
      → Judges (Holds m s p) (set_conditions m) 0 r → IsFirstBroken m s p r
  unfolding Judges
  from_zero fits None all = record { numbers = fits; conditions = all }
  from_zero fits (Some j) w =
      subst (FailsFirst m s p) (let e : w.0 ≡ j = (let is = w.1 in omega arith) in e)
      (record { condition = w.2.condition; number = w.2.number; fails = w.2.fails; before = w.2.before })

  broken_is : length p ≡ length m.parameters → (r : Option ℕ)
      → first_broken_within limit m s p ≡ Some r → IsFirstBroken m s p r
  broken_is fits r h = from_zero fits r (judged (set_conditions m) 0 r h)

  -- an answer that is computed in order is the first condition that fails
  pub answer_broken : {E : Type 0} → length p ≡ length m.parameters → (r : Result (Option ℕ) E)
      → result_ok r ≡ first_broken_within limit m s p → IfOk r (IsFirstBroken m s p)
  answer_broken fits (Ok r) h = broken_is fits r (sym h)
  answer_broken fits (Err e) h = tt

-- ---- admission
module _ (m : RobustModel) (model : IsModel m) (u : List Fraction) where
  none_is : (r : Option ℕ) → IsFirstBroken m 1ℚ u r → IsTrue (is_none r) ↔ Admits m u
  none_is None h = (λ e. (admission_law m model u).1 h, λ e. refl)
  none_is (Some k) h = (
    λ e. cc,
    λ e. absurd
        (h.fails (each_get (Holds m 1ℚ u) (set_conditions m) k h.condition h.number
        ((admission_law m model u).0 e).conditions)),
  )

  -- a scenario is admitted where no condition fails
  pub admitted_is : (limit : ℕ) → length u ≡ length m.parameters → (t : Bool)
      → admits_within limit m u ≡ Some t → IsTrue t ↔ Admits m u
  admitted_is limit fits t h =
      let a = through (first_broken_within limit m 1ℚ u) (λ broken. Some (is_none broken)) t h in
      subst (λ t. IsTrue t ↔ Admits m u) (some_is a.2) (none_is a.0 (broken_is limit m 1ℚ u fits a.0 a.1))
