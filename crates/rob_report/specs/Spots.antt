-- How spots and places are printed, and the weights that show an empty set.
use Rattle.std.specs.Fmt.{decimal, signed_decimal}
use Rattle.std.specs.Prelude.{ℕ, zero, suc, ◌+◌, ℤ, List, ◌∷◌, ◌++◌, codes, flat_map, length}
use Rattle.rob_cert.specs.Spelling.{name_at}
use Rattle.rob_meaning.specs.Names.{Name, column_names_with_tau, form_names, set_column_names, set_condition_names, set_row_names}
use Rattle.rob_meaning.specs.RobustModel.{RobustModel}
use Rattle.rob_meaning.specs.SetConditions.{bounds_from}
use Rattle.rob_model.specs.declared.place.Place.{Place}
use Rattle.rob_model.specs.declared.place.Place.TheVariants.{Scale, Inside, Weight, Base, Item, Sum, CoverSign, Cover, MoveBound, HoldSign, Hold}
use Rattle.rob_model.specs.declared.place.Program.{Program}
use Rattle.rob_model.specs.declared.place.Program.TheVariants.{Set, Reform, Master, SearchPlan, SearchMove}
use Rattle.rob_model.specs.declared.place.Spot.{Spot}
use Rattle.rob_model.specs.declared.place.Spot.TheVariants as Spots
use Rattle.rob_model.specs.declared.place.Where.{Where}
use Rattle.rob_model.specs.declared.place.Where.TheVariants as Of
use Rattle.rob_report.specs.Lines.{for_pairs, line, unless_zero}

-- the basic columns of a dictionary, each behind a space
abbrev pub basis_words : List ℕ → List ℕ
basis_words basis = flat_map (λ c. codes " " ++ decimal c) basis

-- `SETROW WEIGHT`, where the weight isn't 0
abbrev pub weight_line : Name → ℤ → List ℕ
weight_line name weight = unless_zero weight (line (name ++ (codes " " ++ signed_decimal weight)))

module _ (m : RobustModel) where
  -- a form's name
  abbrev pub form_name : ℕ → Name
  form_name i = name_at (form_names m) i

  -- the name of statement `i` on the set: as a condition it stands behind the declared bounds of the parameters
  abbrev pub statement_name : ℕ → Name
  statement_name i = name_at (set_condition_names m) (length (bounds_from 0 m.parameters) + i)

  -- the words that tell where a number was computed
  abbrev pub where_words : Where → List ℕ
  where_words (Of.Form i) = form_name i
  where_words (Of.SetLine i) = statement_name i
  where_words (Of.SetRow r) = name_at (set_row_names m) r
  where_words Of.Plan = codes "plan"
  where_words Of.Move = codes "move"
  where_words (Of.Cut i) = codes "cut " ++ form_name i
  where_words (Of.Cost i) = codes "cost " ++ form_name i

  -- the words that tell a program
  abbrev pub program_words : Program → List ℕ
  program_words Set = codes "set"
  program_words Reform = codes "reform"
  program_words Master = codes "master"
  program_words (SearchPlan i) = codes "search " ++ (form_name i ++ codes " plan")
  program_words (SearchMove i) = codes "search " ++ (form_name i ++ codes " move")

  -- a form, and a set row of its cover
  abbrev pub sign_words : ℕ → ℕ → List ℕ
  sign_words i r = form_name i ++ (codes " " ++ name_at (set_row_names m) r)

  -- a form, and the constant or a set column of its cover
  abbrev pub sum_words : ℕ → ℕ → List ℕ
  sum_words i zero = form_name i ++ codes " constant"
  sum_words i (suc k) = form_name i ++ (codes " at " ++ name_at (set_column_names m) k)

  -- a condition of a certificate; items are numbered from 1
  abbrev pub place_words : Place → List ℕ
  place_words Scale = codes "scale"
  place_words (Inside c) = codes "inside " ++ name_at (set_condition_names m) c
  place_words (Weight i) = codes "weight " ++ decimal (suc i)
  place_words (Base i) = codes "base " ++ decimal (suc i)
  place_words (Item i c) = codes "item " ++ (decimal (suc i) ++ (codes " " ++ name_at (set_condition_names m) c))
  place_words (Sum j) = codes "sum " ++ name_at (codes "constant" ∷ column_names_with_tau m) j
  place_words (CoverSign i r) = codes "cover " ++ sign_words i r
  place_words (Cover i k) = codes "cover " ++ sum_words i k
  place_words MoveBound = codes "move tau"
  place_words (HoldSign i r) = codes "hold " ++ sign_words i r
  place_words (Hold i k) = codes "hold " ++ sum_words i k

  -- a program, the position of the row, and the basis of the dictionary
  abbrev pub dictionary_words : Program → List ℕ → ℕ → List ℕ
  dictionary_words program basis position =
      program_words program
      ++ (codes " at " ++ (decimal position ++ (codes " basis" ++ basis_words basis)))

  -- what kind of number is wide, and where
  abbrev pub spot_words : Spot → List ℕ
  spot_words (Spots.Coefficient w) = codes "coefficient " ++ where_words w
  spot_words (Spots.Clearing w) = codes "clearing " ++ where_words w
  spot_words (Spots.Dictionary program basis position) = codes "dictionary " ++ dictionary_words program basis position
  spot_words (Spots.Sum w j) = codes "sum " ++ (where_words w ++ (codes " " ++ decimal j))
  spot_words (Spots.Check place) = codes "check " ++ place_words place
  spot_words (Spots.Replay number) = codes "replay " ++ decimal number

  -- the line for a number that is wide
  abbrev pub too_wide_line : Spot → List ℕ
  too_wide_line spot = line (codes "too wide " ++ spot_words spot)

  -- the line for a certificate that is rejected
  abbrev pub rejected_line : Place → List ℕ
  rejected_line place = line (codes "rejected " ++ place_words place)

  -- the lines for weights on the set rows
  abbrev pub weight_lines : List ℤ → List ℕ
  weight_lines weights = for_pairs weight_line (set_row_names m) weights

  -- the lines for a set that the weights show to be empty
  abbrev pub empty_set_lines : List ℤ → List ℕ
  empty_set_lines weights = line (codes "empty set") ++ weight_lines weights
