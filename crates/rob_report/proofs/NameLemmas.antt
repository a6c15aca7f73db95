-- The names of a model's parts by their numbers, and how many conditions and columns the set has.
use Rattle.std.proofs.Common.{◌≡◌, ℕ, zero, suc, ◌+◌, ◌*◌, ◌<◌, ◌≤◌, List, [], ◌∷◌, ◌++◌, length, arith, refl, ap, sym, ◌∙◌, length-append}
use Rattle.std.proofs.lemmas.List.{length-map}
use Rattle.std.proofs.lemmas.Option.{get_or_from_slice_get}
use Rattle.rob_algebra.specs.Fraction.{Fraction}
use Rattle.rob_cert.specs.Spelling.{name_at}
use Rattle.rob_meaning.specs.Names.{Name, set_column_names, set_condition_names}
use Rattle.rob_meaning.specs.RobustModel.{SetLine, RobustModel}
use Rattle.rob_meaning.specs.SetConditions.{all_stated, bounds_from, set_conditions}
use Rattle.rob_model.specs.Limits.{most_parameters}
use Rattle.rob_model.specs.Naming.{AppendsName, set_place_names}
use Rattle.rob_model.specs.Valid.{IsValid}
use Rattle.rob_model.specs.View.{parameter_of, set_line_of}
use Rattle.rob_model.specs.declared.model.Model.{Model}
use Rattle.rob_model.specs.declared.model.Param.{Param}
use Rattle.rob_model.specs.declared.model.SetLine as statement

-- the name that is told stands at its number
pub named_at : (names : List Name) (k : ℕ) (old new : List ℕ) → AppendsName names k old new
    → new ≡ old ++ name_at names k
named_at names k old new h = h.appended ∙ ap (λ n. old ++ n) (sym (get_or_from_slice_get names k h.name [] h.number))

-- the items of two lists behind one another
pub at_front : (xs ys : List Name) (k : ℕ) → k < length xs → name_at (xs ++ ys) k ≡ name_at xs k
at_front [] ys k h = absurd (omega arith)
at_front (x ∷ xs) ys zero h = refl
at_front (x ∷ xs) ys (suc k) h = at_front xs ys k (omega arith)

pub at_back : (xs ys : List Name) (i k : ℕ) → i ≡ length xs + k → name_at (xs ++ ys) i ≡ name_at ys k
at_back [] ys i k e = ap (name_at ys) (let h : i ≡ k = omega (arith, e) in h)
at_back (x ∷ xs) ys zero k e = absurd (omega (arith, e))
at_back (x ∷ xs) ys (suc i) k e = at_back xs ys i k (omega (arith, e))

-- ---- how many
length-all_stated : (cs : List SetLine) → length (all_stated cs) ≡ length cs
length-all_stated [] = refl
length-all_stated (c ∷ cs) = ap suc (length-all_stated cs)

module _ (m : RobustModel) where
  -- the conditions are the declared bounds and the statements
  pub length-set_conditions : length (set_conditions m) ≡ length (bounds_from 0 m.parameters) + length m.set_lines
  length-set_conditions =
      length-append (bounds_from 0 m.parameters) (all_stated m.set_lines)
      ∙ ap (λ n. length (bounds_from 0 m.parameters) + n) (length-all_stated m.set_lines)

  -- the places of the set are its conditions and its columns
  pub length-set_place_names : length (set_place_names m) ≡ length (set_condition_names m) + length (set_column_names m)
  length-set_place_names = length-append (set_condition_names m) (set_column_names m)

-- the parameters and statements of a valid model are few, and its conditions too
module _ {N : Type 0} {value : N → Fraction} {m : Model N} (valid : IsValid value m) {params : List (Param N)}
    (same : params ≡ m.params) where
  pub params_few : length params ≤ most_parameters
  params_few = omega (arith, ap length same, length-map m.params (parameter_of value), valid.limits.parameters)

  pub conditions_few : {lines : List (statement.SetLine N)} {bounds : ℕ} → bounds ≤ 2 * length params
      → lines ≡ m.set_lines → bounds + length lines ≤ 256
  conditions_few few list =
      omega (
        arith,
        few,
        params_few,
        ap length list,
        length-map m.set_lines (set_line_of value),
        valid.limits.set_lines,
      )
