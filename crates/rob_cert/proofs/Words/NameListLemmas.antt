-- A list of names that grows name by name, and the lengths of a model's lists of names.
use Rattle.std.proofs.Common.{◌≡◌, ℕ, zero, suc, ◌+◌, ◌<◌, ◌≤◌, List, [], ◌∷◌, ◌++◌, length, map, get_or, take, arith, ap, sym, ◌∙◌, add-one}
use Rattle.std.specs.Prelude.{Some, slice_get}
use Rattle.rob_meaning.proofs.Naming.NameLemmas.{length-column_names, length-form_names, length-set_row_names}
use Rattle.std.proofs.lemmas.List.{length-map}
use Rattle.rob_algebra.specs.Fraction.{Fraction}
use Rattle.rob_meaning.specs.Certificates.{Status, optimal, infeasible, unbounded, Cover, Item, Certificate}
use Rattle.rob_meaning.specs.Named.{parameter_names}
use Rattle.rob_meaning.specs.Names.{Name, column_names}
use Rattle.rob_meaning.specs.Places.{Each}
use Rattle.rob_meaning.specs.RobustModel.{Parameter, RobustModel}
use Rattle.rob_model.specs.Limits.{IsWithinLimits}
use Rattle.rob_model.specs.Naming.{AppendsName}
use Rattle.rob_model.specs.View.{parameter_of}
use Rattle.rob_model.specs.declared.model.Param.{Param}
use Rattle.rob_cert.specs.Shape.{HasShape, HasParts, IsCoverOf, IsItemOf}
use Rattle.rob_cert.specs.Spelling.{naming_of, HasNames, IsCoverNamed, IsItemNamed}

-- the names up to one more are those before and that one
pub take_named : (names : List Name) (k : ℕ) (name : Name) → slice_get names k ≡ Some name
    → take (k + 1) names ≡ take k names ++ name ∷ []
take_named [] k name e = cc
take_named (x ∷ xs) zero name e = ap (λ y. y ∷ []) (let h : x ≡ name = cc in h)
take_named (x ∷ xs) (suc k) name e = rw add-one (rw add-one at (ap (λ ys. x ∷ ys) (take_named xs k name e)))

-- one more name, written to an empty text
pub named_more : (names list : List Name) (k : ℕ) (old name : Name) → list ≡ take k names → old ≡ []
    → AppendsName names k old name → list ++ name ∷ [] ≡ take (k + 1) names
named_more names list k old name is empty h =
    ap (λ xs. xs ++ name ∷ []) is ∙ ap (λ n. take k names ++ n ∷ []) (h.appended ∙ ap (λ o. o ++ h.name) empty)
    ∙ sym (take_named names k h.name h.number)

module _ {N : Type 0} (value : N → Fraction) where
  -- one more parameter's name
  pub parameter_more : (ps : List (Param N)) (list : List Name) (k : ℕ) (d : Param N) (old name : Name) → k < length ps
      → d ≡ get_or ps k d → old ≡ [] → name ≡ old ++ d.name
      → list ≡ take k (map (λ (p : Parameter). p.name) (map (parameter_of value) ps))
      → list ++ name ∷ [] ≡ take (k + 1) (map (λ (p : Parameter). p.name) (map (parameter_of value) ps))
  parameter_more ps list k d old name h is empty e before =
      ap (λ xs. xs ++ name ∷ []) before
      ∙ ap (λ n. take k (map (λ (p : Parameter). p.name) (map (parameter_of value) ps)) ++ n ∷ [])
      (e ∙ ap (λ o. o ++ d.name) empty)
      ∙ sym (take_named (map (λ (p : Parameter). p.name) (map (parameter_of value) ps)) k d.name (there ps k d h is))
    where
      there : (ps : List (Param N)) (k : ℕ) (d : Param N) → k < length ps → d ≡ get_or ps k d
          → slice_get (map (λ (p : Parameter). p.name) (map (parameter_of value) ps)) k ≡ Some d.name
      there [] k d h is = absurd (omega arith)
      there (p ∷ ps) zero d h is = ap (λ (p : Param N). Some p.name) (sym is)
      there (p ∷ ps) (suc k) d h is = there ps k d (omega arith) is

pub length-parameter_names : (m : RobustModel) → length (parameter_names m) ≡ length m.parameters
length-parameter_names m = length-map m.parameters (λ (p : Parameter). p.name)

-- ---- all that a certificate in its shape names has a name
covers_named : (m : RobustModel) (cs : List Cover) → Each (IsCoverOf m) cs → Each (IsCoverNamed (naming_of m)) cs
covers_named m [] h = tt
covers_named m (c ∷ cs) h = (
  record {
    form = omega (arith, h.0.form, length-form_names m);
    set_row = omega (arith, h.0.set_row, length-set_row_names m);
  },
  covers_named m cs h.1,
)

items_named : (m : RobustModel) (is : List Item) → Each (IsItemOf m) is → Each (IsItemNamed (naming_of m)) is
items_named m [] h = tt
items_named m (i ∷ is) h = (
  record {
    form = omega (arith, h.0.form, length-form_names m);
    places = omega (arith, h.0.numbers, length-parameter_names m);
  },
  items_named m is h.1,
)

plan_short : (m : RobustModel) (c : Certificate) (s : Status) → HasParts m s c → length c.plan ≤ length (column_names m)
plan_short m c optimal h = omega (arith, h.plan, length-column_names m)
plan_short m c infeasible h = omega (arith, ap length h.plan)
plan_short m c unbounded h = omega (arith, h.plan, length-column_names m)

step_short : (m : RobustModel) (c : Certificate) (s : Status) → HasParts m s c → length c.step ≤ length (column_names m)
step_short m c optimal h = omega (arith, ap length h.step)
step_short m c infeasible h = omega (arith, ap length h.step)
step_short m c unbounded h = omega (arith, h.step, length-column_names m)

pub shape_named : (m : RobustModel) (c : Certificate) → IsWithinLimits m → HasShape m c → HasNames (naming_of m) c
shape_named m c limits h = record {
  inside = omega (arith, h.inside, length-parameter_names m);
  plan = plan_short m c c.status h.parts;
  step = step_short m c c.status h.parts;
  few_columns = omega (arith, limits.columns, length-column_names m);
  few_parameters = omega (arith, limits.parameters, length-parameter_names m);
  covers = covers_named m c.covers h.covers.each;
  holds = covers_named m c.holds h.holds.each;
  items = items_named m c.items h.items.each;
}
