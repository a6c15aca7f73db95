-- What a verdict on conditions says of what they mean: of scenarios and items.
use Rattle.std.proofs.Common.{◌≡◌, ℕ, zero, suc, Bool, true, false, List, [], ◌∷◌, ◌++◌, map, length, refl, inl, inr, ◌⊎◌}
use Rattle.std.specs.Bool.{Decides}
use Rattle.std.specs.Prelude.{Option, Some, None, if◌then◌else◌}
use Rattle.rob_algebra.specs.Fraction.{Fraction, ◌≤ℚ◌, ◌<ℚ◌}
use Rattle.rob_algebra.specs.FractionOrderLaws.{le_total_ℚ, not_lt_ℚ}
use Rattle.rob_cert.specs.Shape.{IsItemOf}
use Rattle.rob_meaning.proofs.Conditions.AdmittedLemmas.{admission_law}
use Rattle.rob_meaning.proofs.Conditions.ConeLemmas.{taken_law}
use Rattle.rob_meaning.specs.Certificates.{Item}
use Rattle.rob_meaning.specs.Places.{0ℚ, 1ℚ, Each}
use Rattle.rob_meaning.specs.Proves.{IsItem}
use Rattle.rob_meaning.specs.RobustModel.{RobustModel}
use Rattle.rob_meaning.specs.SetConditions.{Holds, SetCondition, set_conditions}
use Rattle.rob_meaning.specs.UncertaintySet.{Admits}
use Rattle.rob_meaning.specs.WellFormed.{IsModel}
use Rattle.rob_model.proofs.JudgingLemmas.{at_most_decides, holds_is}
use Rattle.rob_model.specs.Within.{holds_within, is_at_most}
use Rattle.rob_model.specs.declared.place.Place.{Place}
use Rattle.rob_model.specs.declared.place.Place.TheVariants as At
use Rattle.rob_check.specs.Conditions.{inside_tests, item_tests, items_tests, set_tests}
use Rattle.rob_check.specs.Sums.{is_nonnegative, is_positive}
use Rattle.rob_check.specs.Verdicts.{Condition, Judges, decided, verdict}
use Rattle.rob_check.specs.declared.verdict.Verdict.{Verdict}
use Rattle.rob_check.specs.declared.verdict.Verdict.TheVariants.{Accepted, Rejected, TooWide}

-- what a condition's test says of a fact
abbrev pub Tells : Type 0 → Option Bool → Type 0
Tells P (Some true) = P
Tells P (Some false) = P → ⊥
Tells P None = Unit {0}

pub tells_by : (P : Type 0) (o : Option Bool) → ((t : Bool) → o ≡ Some t → Decides t P) → Tells P o
tells_by P (Some true) h = (h true refl).0 refl
tells_by P (Some false) h = λ p. (let impossible : false ≡ true = (h false refl).1 p in cc)
tells_by P None h = tt

pub judges_first : (P Q : Type 0) (place : Place) (holds : Option Bool) (rest : Verdict) → Tells P holds → Judges Q rest
    → Judges (P × Q) (decided place holds rest)
judges_first P Q place (Some true) Accepted p q = (p, q)
judges_first P Q place (Some true) (Rejected other) p q = λ both. q both.1
judges_first P Q place (Some true) (TooWide other) p q = tt
judges_first P Q place (Some false) rest p q = λ both. p both.0
judges_first P Q place None rest p q = tt

pub judges_as : (P Q : Type 0) (v : Verdict) → (P → Q) → (Q → P) → Judges P v → Judges Q v
judges_as P Q Accepted f g h = f h
judges_as P Q (Rejected place) f g h = λ q. h (g q)
judges_as P Q (TooWide place) f g h = tt

pub judges_append : (P Q : Type 0) (xs ys : List Condition) → Judges P (verdict xs) → Judges Q (verdict ys)
    → Judges (P × Q) (verdict (xs ++ ys))
judges_append P Q [] ys p q = judges_as Q (P × Q) (verdict ys) (λ h. (p, h)) (λ h. h.1) q
judges_append P Q (c ∷ xs) ys p q = step (verdict xs) (verdict (xs ++ ys)) c.holds p (λ h. judges_append P Q xs ys h q)
  where
    step : (first both : Verdict) (holds : Option Bool) → Judges P (decided c.place holds first)
        → (Judges P first → Judges (P × Q) both) → Judges (P × Q) (decided c.place holds both)
    step first both (Some true) h k = k h
    step first both (Some false) h k = λ pq. h pq.0
    step first both None h k = tt

-- conditions, one for each item of a list
pub judges_each : {A : Type 0} (P : A → Type 0) (test : A → Condition) → ((a : A) → Tells (P a) (test a).holds)
    → (list : List A) → Judges (Each P list) (verdict (map test list))
judges_each P test h [] = tt
judges_each P test h (a ∷ rest) =
    judges_first (P a) (Each P rest) (test a).place (test a).holds (verdict (map test rest)) (h a)
    (judges_each P test h rest)

-- ---- signs
pub nonnegative_decides : (x : Fraction) → Decides (is_nonnegative x) (0ℚ ≤ℚ x)
nonnegative_decides x = at_most_decides 0ℚ x

pub positive_decides : (x : Fraction) → Decides (is_positive x) (0ℚ <ℚ x)
positive_decides x = by (is_at_most x 0ℚ) (at_most_decides x 0ℚ) (le_total_ℚ x 0ℚ)
  where
    by : (t : Bool) → Decides t (x ≤ℚ 0ℚ) → (x ≤ℚ 0ℚ) ⊎ (0ℚ <ℚ x) → Decides (if t then false else true) (0ℚ <ℚ x)
    by true d total = (λ e. cc, λ h. absurd (not_lt_ℚ x 0ℚ (d.0 refl) h))
    by false d (inl le) = (let impossible : false ≡ true = d.1 le in cc)
    by false d (inr lt) = (λ e. lt, λ h. refl)

pub tells_test : (P : Type 0) (t : Bool) → Decides t P → Tells P (Some t)
tells_test P true d = d.0 refl
tells_test P false d = λ p. (let impossible : false ≡ true = d.1 p in cc)

-- ---- scenarios, rays and items
module _ (limit : ℕ) (m : RobustModel) where
  set_judged : (place : ℕ → Place) (s : Fraction) (p : List Fraction) (k : ℕ) (cs : List SetCondition)
      → Judges (Each (Holds m s p) cs) (verdict (set_tests limit m place s p k cs))
  set_judged place s p k [] = tt
  set_judged place s p k (c ∷ cs) =
      judges_first (Holds m s p c) (Each (Holds m s p) cs) (place k) (holds_within limit m s p c)
      (verdict (set_tests limit m place s p (suc k) cs))
      (tells_by (Holds m s p c) (holds_within limit m s p c) (holds_is limit m s p c)) (set_judged place s p (suc k) cs)

  pub inside_judged : IsModel m → (u : List Fraction) → length u ≡ length m.parameters
      → Judges (Admits m u) (verdict (inside_tests limit m u))
  inside_judged model u fits =
      judges_as (Each (Holds m 1ℚ u) (set_conditions m)) (Admits m u) (verdict (inside_tests limit m u))
      (λ h. (admission_law m model u).1 (record { numbers = fits; conditions = h }))
      (λ h. ((admission_law m model u).0 h).conditions)
      (set_judged At.Inside 1ℚ u zero (set_conditions m))

  module _ (model : IsModel m) where
    item_judged : (i : ℕ) (item : Item) → length item.vector ≡ length m.parameters
        → Judges (IsItem m item) (verdict (item_tests limit m i item))
    item_judged i item fits =
        judges_as ((0ℚ <ℚ item.weight) × ((0ℚ ≤ℚ item.base) × Each (Holds m item.base item.vector) (set_conditions m)))
        (IsItem m item) (verdict (item_tests limit m i item))
        (λ h. record {
          weight = h.0;
          taken = (taken_law m model item.base item.vector).1
              (h.1.0, record { numbers = fits; conditions = h.1.1 });
        })
        (λ h. let both = (taken_law m model item.base item.vector).0 h.taken in (h.weight, (both.0, both.1.conditions)))
        (judges_first (0ℚ <ℚ item.weight) ((0ℚ ≤ℚ item.base) × Each (Holds m item.base item.vector) (set_conditions m))
        (At.Weight i) (Some (is_positive item.weight))
        (verdict (record {
          place = At.Base i;
          holds = Some (is_nonnegative item.base);
        }
        ∷ set_tests limit m (At.Item i) item.base item.vector zero (set_conditions m)))
        (tells_test (0ℚ <ℚ item.weight) (is_positive item.weight) (positive_decides item.weight))
        (judges_first (0ℚ ≤ℚ item.base) (Each (Holds m item.base item.vector) (set_conditions m)) (At.Base i)
        (Some (is_nonnegative item.base))
        (verdict (set_tests limit m (At.Item i) item.base item.vector zero (set_conditions m)))
        (tells_test (0ℚ ≤ℚ item.base) (is_nonnegative item.base) (nonnegative_decides item.base))
        (set_judged (At.Item i) item.base item.vector zero (set_conditions m))))

    pub items_judged : (i : ℕ) (items : List Item) → Each (IsItemOf m) items
        → Judges (Each (IsItem m) items) (verdict (items_tests limit m i items))
    items_judged i [] h = tt
    items_judged i (item ∷ items) h =
        judges_append (IsItem m item) (Each (IsItem m) items) (item_tests limit m i item)
        (items_tests limit m (suc i) items)
        (item_judged i item (let k = h.0 in k.numbers)) (items_judged (suc i) items h.1)
