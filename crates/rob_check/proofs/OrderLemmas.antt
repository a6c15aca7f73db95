-- The conditions of a certificate, one group behind the other.
use Rattle.std.proofs.Common.{◌≡◌, ℕ, zero, ℤ, List, map, ◌∙◌, ap, ap₂}
use Rattle.std.specs.Prelude.{Option}
use Rattle.rob_algebra.specs.Fraction.{Fraction}
use Rattle.rob_cert.specs.View.{cover_of, item_of}
use Rattle.rob_cert.specs.declared.certificate.Cover.{Cover}
use Rattle.rob_cert.specs.declared.certificate.Item.{Item}
use Rattle.rob_elab.specs.Forms.{IsForms}
use Rattle.rob_elab.specs.declared.forms.Forms.{Forms}
use Rattle.rob_meaning.specs.Certificates as meaning
use Rattle.rob_meaning.specs.Forms.{matrices, plan_vector}
use Rattle.rob_meaning.specs.Places.{1ℚ}
use Rattle.rob_meaning.specs.RobustModel.{RobustModel, Sense, column_count}
use Rattle.rob_meaning.specs.SetConditions.{set_conditions}
use Rattle.rob_model.specs.View.{sense_of}
use Rattle.rob_model.specs.declared.place.Place.TheVariants as At
use Rattle.rob_sets.specs.SetForm.{IsSetForm}
use Rattle.rob_sets.specs.declared.set_form.SetForm.{SetForm}
use Rattle.rob_check.specs.Covers.{Covering, cover_tests}
use Rattle.rob_check.specs.Conditions.{covering_tests, inside_tests, items_tests, set_tests, sum_tests}
use Rattle.rob_check.specs.LiftedSet.{LiftedSet, lifted, lifted_of}
use Rattle.rob_check.specs.Verdicts.{verdict}
use Rattle.rob_check.specs.declared.covering.Covered.{Covered}
use Rattle.rob_check.specs.declared.verdict.Verdict.{Verdict}
use Rattle.rob_check.proofs.GivenLemmas.{lifted_is}

module _ {N : Type 0} (value : N → Fraction) (limit : ℕ) (m : RobustModel) where
  -- the scenario `inside`, taken once
  pub inside_is : (once : N) (vector inside : List N) (v : Verdict) → value once ≡ 1ℚ → vector ≡ inside
      → v ≡ verdict (set_tests limit m (λ k. At.Inside k) (value once) (map value vector) 0 (set_conditions m))
      → v ≡ verdict (inside_tests limit m (map value inside))
  inside_is once vector inside v one same h =
      h ∙ ap₂ (λ (s : Fraction) (xs : List N).
      verdict (set_tests limit m (λ k. At.Inside k) s (map value xs) 0 (set_conditions m))) one same

  pub items_are : (found items : List (Item N)) (v : Verdict) → found ≡ items
      → v ≡ verdict (items_tests limit m 0 (map (item_of value) found))
      → v ≡ verdict (items_tests limit m zero (map (item_of value) items))
  items_are found items v same h =
      h ∙ ap (λ (xs : List (Item N)). verdict (items_tests limit m zero (map (item_of value) xs))) same

  -- the sums over the model's forms
  module _ (forms : Forms) (h : IsForms m forms) where
    sums_same : (n : ℕ) (sense : Sense) (all : List (List (List ℤ))) (asked : Option Fraction)
        (items : List meaning.Item) → forms.columns ≡ n → sense_of forms.sense ≡ sense → forms.matrices ≡ all
        → sum_tests limit forms.matrices (sense_of forms.sense) forms.columns asked items
        ≡ sum_tests limit all sense n asked items
    sums_same n sense all asked items en es ea =
        ap (λ k. sum_tests limit forms.matrices (sense_of forms.sense) k asked items) en
        ∙ ap₂ (λ (s : Sense) (a : List (List (List ℤ))). sum_tests limit a s n asked items) es ea

    pub sums_are : (found items : List (Item N)) (asked : Option Fraction) (v : Verdict) → found ≡ items
        → v ≡ verdict
        (sum_tests limit forms.matrices (sense_of forms.sense) forms.columns asked (map (item_of value) found))
        → v ≡ verdict (sum_tests limit (matrices m) m.sense (column_count m) asked (map (item_of value) items))
    sums_are found items asked v same k =
        k ∙ ap verdict
        (sums_same (column_count m) m.sense (matrices m) asked (map (item_of value) found)
        h.columns h.sense h.matrices)
        ∙ ap (λ (xs : List (Item N)).
        verdict (sum_tests limit (matrices m) m.sense (column_count m) asked (map (item_of value) xs))) same

    -- the covers over the model's forms and its lifted set
    pub covers_are : (set : SetForm) → IsSetForm m set → (g k : Covering) (v : Verdict) → g ≡ k
        → v ≡ verdict (cover_tests limit (lifted_of set) g 0 forms.matrices) → v ≡ verdict (covering_tests limit m k)
    covers_are set s g k v same e =
        e ∙ ap₂ (λ (all : LiftedSet) (a : List (List (List ℤ))). verdict (cover_tests limit all g 0 a))
        (lifted_is m set s) h.matrices
        ∙ ap (λ (g : Covering). verdict (cover_tests limit (lifted m) g 0 (matrices m))) same

module _ {N : Type 0} (value : N → Fraction) (covered : Covered) where
  covering_at : Fraction → Fraction → Fraction → List N → List (Cover N) → Covering
  covering_at scale first bound columns covers =
      record {
        covered = covered;
        scale = scale;
        vector = plan_vector first (map value columns) bound;
        covers = map (cover_of value) covers;
      }

  pub same_covering : (scale other first start bound : Fraction) (columns found : List N) (covers mine : List (Cover N))
      → scale ≡ other → first ≡ start → columns ≡ found → covers ≡ mine
      → ◌≡◌ {A = Covering} (record {
        covered = covered;
        scale = scale;
        vector = plan_vector first (map value columns) bound;
        covers = map (cover_of value) covers;
      })
      (record {
        covered = covered;
        scale = other;
        vector = plan_vector start (map value found) bound;
        covers = map (cover_of value) mine;
      })
  unfolding covering_at
  same_covering scale other first start bound columns found covers mine es ef ec em =
      ap₂ (λ (s : Fraction) (f : Fraction). covering_at s f bound columns covers) es ef
      ∙ ap₂ (λ (xs : List N) (cs : List (Cover N)). covering_at other start bound xs cs) ec em
