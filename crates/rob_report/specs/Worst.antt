-- What is printed of the search for the worst case of a form: its slack at the worst scenario, or a ray along which it
-- grows; and the numbers of either that aren't 0.
use Rattle.std.specs.Prelude.{ℕ, List, [], ◌∷◌, ◌++◌, map, codes, if◌then◌else◌}
use Rattle.rob_algebra.specs.Fraction.{Fraction}
use Rattle.rob_algebra.specs.FractionOrder.{eq_ℚ}
use Rattle.rob_cert.specs.Spelling.{number_text, spaced}
use Rattle.rob_cert.specs.declared.ending.Worst.{Worst}
use Rattle.rob_cert.specs.declared.ending.Worst.TheVariants.{At, Along}
use Rattle.rob_meaning.specs.Names.{Name}
use Rattle.rob_meaning.specs.Places.{0ℚ}
use Rattle.rob_meaning.specs.RobustModel.{Parameter, RobustModel}
use Rattle.rob_model.specs.View.{scenario_of}
use Rattle.rob_report.specs.Lines.{for_pairs}
use Rattle.rob_report.specs.Spots.{form_name}

-- `at PARAM NUM`, unless the number is 0
abbrev pub at_line : Fraction → Name → List ℕ
at_line number name = if eq_ℚ number 0ℚ then [] else spaced (codes "at" ∷ (name ∷ (number_text number ∷ [])))

-- the lines of numbers, one for each parameter
abbrev pub at_lines : List Fraction → List Parameter → List ℕ
at_lines numbers ps = for_pairs (λ number (p : Parameter). at_line number p.name) numbers ps

module _ (m : RobustModel) (form : ℕ) where
  -- `worst FORM SLACK`, and the scenario
  abbrev pub greatest_text : Fraction → List Fraction → List ℕ
  greatest_text slack scenario =
      spaced (codes "worst" ∷ (form_name m form ∷ (number_text slack ∷ []))) ++ at_lines scenario m.parameters

  -- `along FORM`, and the ray
  abbrev pub along_text : List Fraction → List ℕ
  along_text ray = spaced (codes "along" ∷ (form_name m form ∷ [])) ++ at_lines ray m.parameters

  -- what the search tells
  abbrev pub worst_of : {N : Type 0} → (N → Fraction) → Worst N → Fraction → List ℕ
  worst_of value (At denominator peak constant scenario basis amounts) slack =
      greatest_text slack (scenario_of value scenario)
  worst_of value (Along ray basis column) slack = along_text (map value ray)
