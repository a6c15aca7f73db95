-- The fields of a record at their places, and the place of a name among them.
use Rattle.std.proofs.Common.{◌≡◌, ℕ, zero, suc, ◌+◌, ◌≤◌, List, [], ◌∷◌, length, drop, map, refl, sym, ap, ◌∙◌, arith, true, false, add-one}
use Rattle.std.specs.Prelude.{Option, Some, None, bytes_eq}
use Rattle.csv.specs.Records.{field_at}
use Rattle.rob_meaning.specs.Names.{Name}
use Rattle.rob_model.proofs.PartLemmas.{drop_all}
use Rattle.rob_algebra.specs.Fraction.{Fraction}
use Rattle.rob_meaning.specs.RobustModel.{Parameter}
use Rattle.rob_model.specs.View.{parameter_of}
use Rattle.rob_model.specs.declared.model.Param.{Param}
use Rattle.rob_replay.proofs.GatherLemmas.{gathered_all}
use Rattle.rob_replay.specs.Gathering.{all_of, gathered}
use Rattle.rob_replay.specs.Headers.{place_from, places_in}

there : (fields : List (List ℕ)) (i : ℕ) (f : List ℕ) → Some f ≡ field_at fields i
    → drop i fields ≡ f ∷ drop (suc i) fields
unfolding field_at
there [] i f h = cc
there (g ∷ fields) zero f h = let e : f ≡ g = cc in ap (λ x. x ∷ fields) (sym e)
there (g ∷ fields) (suc i) f h = there fields i f h

pub field_there : (fields : List (List ℕ)) (i : ℕ) (f : List ℕ) → Some f ≡ field_at fields i
    → drop i fields ≡ f ∷ drop (i + 1) fields
field_there fields i f h = there fields i f h ∙ ap (λ j. f ∷ drop j fields) (sym (add-one i))

pub field_missing : (fields : List (List ℕ)) (i : ℕ) → None ≡ field_at fields i → length fields ≤ i
unfolding field_at
field_missing [] i h = omega arith
field_missing (g ∷ fields) zero h = cc
field_missing (g ∷ fields) (suc i) h = let l = field_missing fields i h in omega arith

module _ (fields : List Name) (i : ℕ) (f name : Name) (is : drop i fields ≡ f ∷ drop (i + 1) fields) where
  pub place_found : bytes_eq f name ≡ true → place_from i (drop i fields) name ≡ Some i
  place_found one = rw (is, one) refl

  pub place_later : bytes_eq f name ≡ false
      → place_from (i + 1) (drop (i + 1) fields) name ≡ place_from i (drop i fields) name
  place_later other = rw (is, other) (ap (λ k. place_from k (drop (i + 1) fields) name) (add-one i))

pub place_none : (fields : List Name) (i : ℕ) (name : Name) → length fields ≤ i
    → place_from i (drop i fields) name ≡ None
place_none fields i name h = rw (drop_all i fields h) refl

-- the place of a parameter's name
abbrev pub named_place : {N : Type 0} → (N → Fraction) → List Name → Param N → Option ℕ
named_place value header d = place_from 0 header (parameter_of value d).name

pub named_places : {N : Type 0} (value : N → Fraction) (header : List Name) (ds : List (Param N))
    → gathered [] (map (named_place value header) ds)
    ≡ places_in header (map (λ (d : Parameter). d.name) (map (parameter_of value) ds))
named_places {N} value header ds = gathered_all (map (named_place value header) ds) ∙ ap all_of (same ds)
  where
    same : (ds : List (Param N)) → map (named_place value header) ds
        ≡ map (place_from 0 header) (map (λ (d : Parameter). d.name) (map (parameter_of value) ds))
    same [] = refl
    same (d ∷ ds) = ap (λ l. named_place value header d ∷ l) (same ds)
