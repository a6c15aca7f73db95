-- The answers of `rows`, `solve` and `prove`.
use Rattle.std.specs.Prelude.{◌≡◌, ◌≤◌, ℕ, ℤ, nat_abs, List, map}
use Rattle.rob_algebra.specs.Fraction.{of_int}
use Rattle.rob_cert.specs.Apart.{FitsLines}
use Rattle.rob_cert.specs.Shape.{HasShape}
use Rattle.rob_cert.specs.Spelling.{cert_text}
use Rattle.rob_cert.specs.declared.trace.Round.{Round}
use Rattle.rob_cuts.specs.Rounds.{RoundFits}
use Rattle.rob_dualize.specs.Solving.{IsShownEmpty}
use Rattle.rob_meaning.specs.Certificates.{Certificate, Status, optimal, infeasible, unbounded}
use Rattle.rob_meaning.specs.Guarantee.{HasBound, HasWorstCase}
use Rattle.rob_meaning.specs.Places.{Each}
use Rattle.rob_meaning.specs.Proves.{Proves, HasStatus}
use Rattle.rob_meaning.specs.RobustModel.{RobustModel}
use Rattle.rob_report.specs.Report.{report_of}
use Rattle.rob_report.specs.Rows.{rows_of}
use Rattle.rob_report.specs.Spots.{empty_set_lines}
use Rattle.rob_top.specs.Calls.{Call, limit_of}
use Rattle.rob_top.specs.Commands.{IsSolving}
use Rattle.rob_top.specs.Inputs.{HasForms}
use Rattle.rob_top.specs.Routes.{IsFoundBy, with_rounds}
use Rattle.rob_words.specs.Commands.{Line}
use Rattle.rob_words.specs.declared.route.Route.{Route}
use Rattle.rob_words.specs.declared.verb.Verb.{Verb}
use Rattle.rob_words.specs.declared.verb.Verb.TheVariants.{Rows, Solve, Prove}

module _ (call : Call) where
  -- ---- `rows`

  -- the set rows and the forms are printed, in whole numbers
  pub record IsRows (text : List ℕ) : Type 0 where
    pub line : Line
    pub m : RobustModel
    pub forms : HasForms call line m
    pub is_rows : line.verb ≡ Rows
    pub printed : text ≡ rows_of m

  -- ---- `solve` and `prove`

  -- what is printed of a certificate: its plan and policies, by cutting planes with the rounds behind them; or all of
  -- it; other commands print none
  abbrev pub IsPrinted : Verb → Route → RobustModel → Certificate → List Round → List ℕ → Type 0
  IsPrinted Solve way m c rounds text = text ≡ with_rounds way m rounds (report_of m c)
  IsPrinted Prove way m c rounds text = text ≡ cert_text m c
  IsPrinted _ way m c rounds text = ⊥

  -- the plan keeps each row in every scenario that the row's set admits, and its worst case is the value; of an
  -- unbounded model's plan it is a bound
  abbrev pub HasPlanValue : RobustModel → Certificate → Status → Type 0
  HasPlanValue m c optimal = HasWorstCase m c.plan c.value
  HasPlanValue m c infeasible = Unit {0}
  HasPlanValue m c unbounded = HasBound m c.plan c.value

  -- the model has the status: a certificate of it was found that proves it, by the line's route, as the last basis of
  -- the model's counterpart gives it, or the end of a run of the cutting-plane method; and it, or its plan, is
  -- printed. It has its shape and its numbers fit, so that what `prove` prints is the text of a certificate; the
  -- numbers of the rounds' cuts fit too
  pub record IsSolved (status : Status) (text : List ℕ) : Type 0 where
    pub line : Line
    pub m : RobustModel
    pub forms : HasForms call line m
    pub solves : IsSolving line.verb
    pub c : Certificate
    pub status_is : c.status ≡ status
    pub holds : HasStatus m status c.value
    pub kept : HasPlanValue m c status
    pub proves : Proves m c
    pub rounds : List Round
    pub found : IsFoundBy line.way m c rounds
    pub shape : HasShape m c
    pub fits : FitsLines (limit_of line) m c
    pub rounds_fit : Each (RoundFits (limit_of line)) rounds
    pub printed : IsPrinted line.verb line.way m c rounds text

  -- no joint scenario is admitted, as the weights show, which fit
  pub record IsEmptySet (weights : List ℤ) (text : List ℕ) : Type 0 where
    pub line : Line
    pub m : RobustModel
    pub forms : HasForms call line m
    pub solves : IsSolving line.verb
    pub shown : IsShownEmpty m (map of_int weights)
    pub fits : Each (λ weight. nat_abs weight ≤ limit_of line) weights
    pub printed : text ≡ empty_set_lines m weights
