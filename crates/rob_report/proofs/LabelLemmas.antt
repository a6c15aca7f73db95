-- Lists of names that grow name by name.
use Rattle.std.proofs.Common.{◌≡◌, ℕ, ◌+◌, ◌<◌, ◌≤◌, List, [], ◌∷◌, ◌++◌, map, length, get_or, drop, refl, ap, sym, ◌∙◌, append_assoc, append-nil}
use Rattle.std.specs.Prelude.{codes}
use Rattle.rob_algebra.specs.Fraction.{Fraction}
use Rattle.rob_meaning.specs.Names.{Name}
use Rattle.rob_meaning.specs.RobustModel.{Parameter}
use Rattle.rob_model.proofs.PartLemmas.{drop_all, drop_at}
use Rattle.rob_model.specs.View.{parameter_of}
use Rattle.rob_model.specs.declared.model.Param.{Param}

module _ {N : Type 0} (value : N → Fraction) where
  -- a parameter's name with a star behind it
  abbrev pub front_of : Param N → Name
  front_of p = p.name ++ codes "*"

  pub map-front_of : (ps : List (Param N))
      → map front_of ps ≡ map (λ row. row ++ codes "*") (map (λ (p : Parameter). p.name) (map (parameter_of value) ps))
  map-front_of [] = refl
  map-front_of (p ∷ ps) = ap (λ fs. front_of p ∷ fs) (map-front_of ps)

-- a list of names, and behind it those of the items that are left
module _ {X : Type 0} (name_of : X → Name) (xs : List X) (i : ℕ) (done : List Name) {all : List Name} where
  -- one name more
  pub names_more : {x : X} {name : Name} {next : List Name} → i < length xs → x ≡ get_or xs i x → name ≡ name_of x
      → next ≡ done ++ name ∷ [] → done ++ map name_of (drop i xs) ≡ all
      → next ++ map name_of (drop (i + 1) xs) ≡ all
  names_more {x} {name} h e same pushed so_far =
      ap (λ ns. ns ++ map name_of (drop (i + 1) xs)) pushed
      ∙ append_assoc done (name ∷ []) (map name_of (drop (i + 1) xs))
      ∙ ap (λ n. done ++ n ∷ map name_of (drop (i + 1) xs)) same
      ∙ ap (λ ys. done ++ map name_of ys) (sym (drop_at xs i x h e))
      ∙ so_far

  -- no item is left
  pub names_all : length xs ≤ i → done ++ map name_of (drop i xs) ≡ all → done ≡ all
  names_all h so_far = sym (append-nil done) ∙ ap (λ ys. done ++ map name_of ys) (sym (drop_all i xs h)) ∙ so_far
