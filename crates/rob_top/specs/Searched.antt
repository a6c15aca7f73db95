-- The answers of `worst`: the worst case of a form at the plan of a certificate.
use Rattle.std.specs.Prelude.{◌≡◌, ◌≢◌, ◌<◌, ◌≤◌, ℕ, ℤ, nat_abs, List, ◌∷◌, false, length, map}
use Rattle.rob_algebra.specs.Fraction.{Fraction, neg_ℚ, of_int, ◌≤ℚ◌}
use Rattle.rob_algebra.specs.Width.{Fits}
use Rattle.rob_cert.specs.Spelling.{name_at}
use Rattle.rob_dualize.specs.SetSolving.{IsWideInSet}
use Rattle.rob_dualize.specs.Solving.{HasScenario, IsShownEmpty}
use Rattle.rob_meaning.specs.Certificates.{Certificate}
use Rattle.rob_meaning.specs.Forms.{form_at, plan_vector}
use Rattle.rob_meaning.specs.Guarantee.{HasBound}
use Rattle.rob_meaning.specs.Names.{form_names}
use Rattle.rob_meaning.specs.Places.{0ℚ, 1ℚ, Each}
use Rattle.rob_meaning.specs.RobustModel.{RobustModel}
use Rattle.rob_meaning.specs.UncertaintySet.{Admits}
use Rattle.rob_model.specs.declared.place.Spot.{Spot}
use Rattle.rob_model.specs.declared.place.Spot.TheVariants.{Sum}
use Rattle.rob_model.specs.declared.place.Where.TheVariants.{Cost}
use Rattle.rob_report.specs.Spots.{empty_set_lines}
use Rattle.rob_report.specs.Worst.{along_text, greatest_text}
use Rattle.rob_runs.specs.Searches.{FindsRay, FindsScenario}
use Rattle.rob_runs.specs.Spots.{IsWideSlack}
use Rattle.rob_runs.specs.Told.{HasNoGreatestAlong}
use Rattle.rob_worst.specs.Finding.{IsWideAt}
use Rattle.rob_commands.specs.Answers.{no_row_text}
use Rattle.rob_top.specs.Calls.{Call, limit_of}
use Rattle.rob_top.specs.Inputs.{HasPlan, HasSought, TellsForm}
use Rattle.rob_words.specs.Commands.{Line}
use Rattle.rob_words.specs.Values.{Word}
use Rattle.rob_words.specs.declared.verb.Verb.TheVariants as verbs

-- the plan of a certificate with its value as its bound, as the vector at which a form is taken
abbrev pub certificate_vector : Certificate → List Fraction
certificate_vector c = plan_vector 1ℚ c.plan c.value

-- ---- what is printed

module _ (m : RobustModel) (form : ℕ) (z : List Fraction) where
  -- how much the form is below 0 in a scenario; below 0 itself where the form doesn't hold there
  abbrev pub slack_in : List Fraction → Fraction
  slack_in scenario = neg_ℚ (form_at m form 1ℚ scenario z)

  -- the scenario is admitted, the slack is that in it, and in no admitted scenario it is less
  pub record IsWorstScenario (scenario : List Fraction) (slack : Fraction) : Type 0 where
    pub admitted : Admits m scenario
    pub slack_is : slack ≡ slack_in scenario
    pub least : (u : List Fraction) → Admits m u → slack ≤ℚ slack_in u

  -- a worst scenario, in which the slack isn't below 0
  abbrev pub ShowsKept : List ℕ → Type 0
  ShowsKept text =
      (scenario : List Fraction) × (slack : Fraction) × IsWorstScenario scenario slack × (0ℚ ≤ℚ slack)
      × (text ≡ greatest_text m form slack scenario)

-- the slack and a worst scenario, that at the last basis of the search; or, where the slack falls without end over the
-- set, a ray of the set along which it does, that of the last basis. The numbers fit, and none is wide on the way to
-- the slack
pub data ShowsWorst (limit : ℕ) (m : RobustModel) (form : ℕ) (z : List Fraction) (text : List ℕ) : Type 0 where
  attained : (basis : List ℕ) (scenario amounts : List Fraction) (slack : Fraction)
      → FindsScenario m form z basis scenario amounts → IsWorstScenario m form z scenario slack
      → Each (Fits limit) (slack ∷ scenario) → (IsWideSlack limit m form z → ⊥)
      → text ≡ greatest_text m form slack scenario → ShowsWorst limit m form z text
  endless : (basis : List ℕ) (column : ℕ) (ray : List Fraction) → FindsRay m form z basis column ray
      → HasNoGreatestAlong m form z ray → Each (Fits limit) ray → text ≡ along_text m form ray
      → ShowsWorst limit m form z text

-- ---- numbers that are wide

-- the number at the spot is wide: one of a row of a basis on the path of the set's program; or, where some scenario is
-- admitted, one of the search at the plan, or the slack in the scenario that it finds. Where it is one of a row, that
-- program, or the search, is refused for the row
pub data IsWideSought (limit : ℕ) (m : RobustModel) (form : ℕ) (z : List Fraction) (spot : Spot) : Type 0 where
  in_set : IsWideInSet limit m spot → IsWideSought limit m form z spot
  in_search : HasScenario m → IsWideAt limit m false form z spot → IsWideSought limit m form z spot
  in_slack : HasScenario m → spot ≡ Sum (Cost form) 0 → IsWideSlack limit m form z
      → IsWideSought limit m form z spot

module _ (call : Call) where
  -- the form's worst case at the certificate's plan, which isn't checked, is printed. Where the plan has its bound,
  -- that is a scenario, and no slack below 0
  pub record IsSearched (text : List ℕ) : Type 0 where
    pub line : Line
    pub m : RobustModel
    pub c : Certificate
    pub form : ℕ
    pub has : HasSought call line m c form
    pub shows : ShowsWorst (limit_of line) m form (certificate_vector c) text
    pub kept : HasBound m c.plan c.value → ShowsKept m form (certificate_vector c) text

  -- ---- refusals

  -- the word is no form's name
  pub record NamesNoForm (line : Line) (m : RobustModel) (c : Certificate) (name : Word) : Type 0 where
    pub plan : HasPlan call verbs.Worst line m c
    pub told : TellsForm line name
    pub none : (form : ℕ) → form < length (form_names m) → name_at (form_names m) form ≢ name

  -- so it is named
  pub record IsNoRow (text : List ℕ) : Type 0 where
    pub line : Line
    pub m : RobustModel
    pub c : Certificate
    pub name : Word
    pub names_none : NamesNoForm line m c name
    pub printed : text ≡ no_row_text name

  -- no joint scenario is admitted, as the weights show, which fit
  pub record IsEmptySought (weights : List ℤ) (text : List ℕ) : Type 0 where
    pub line : Line
    pub m : RobustModel
    pub c : Certificate
    pub form : ℕ
    pub has : HasSought call line m c form
    pub shown : IsShownEmpty m (map of_int weights)
    pub fits : Each (λ weight. nat_abs weight ≤ limit_of line) weights
    pub printed : text ≡ empty_set_lines m weights
