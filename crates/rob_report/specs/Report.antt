-- What is printed of a certificate: its status, and of an optimal one the value and the plan.
use Rattle.std.specs.Prelude.{ℕ, suc, ◌+◌, List, [], ◌∷◌, ◌++◌, length, codes}
use Rattle.rob_algebra.specs.Fraction.{Fraction}
use Rattle.rob_cert.specs.Spelling.{number_text, spaced}
use Rattle.rob_meaning.specs.Certificates.{Status, optimal, infeasible, unbounded, Certificate}
use Rattle.rob_meaning.specs.Names.{Name, parameter_name}
use Rattle.rob_meaning.specs.Places.{at}
use Rattle.rob_meaning.specs.RobustModel.{Parameter, Variable, AdaptiveVariable, RobustModel}
use Rattle.rob_report.specs.Lines.{line}

-- ` NUM*PARAM`
abbrev pub coefficient_text : Fraction → Name → List ℕ
coefficient_text number name = codes " " ++ (number_text number ++ (codes "*" ++ name))

-- the plan has a number for each decision column; `column` is that of the first item
module _ (plan : List Fraction) where
  -- `here NAME NUM` for each variable
  abbrev pub variables_text : (column : ℕ) → List Variable → List ℕ
  variables_text column [] = []
  variables_text column (x ∷ xs) =
      spaced (codes "here" ∷ (x.name ∷ (number_text (at plan column) ∷ []))) ++ variables_text (suc column) xs

  module _ (ps : List Parameter) where
    -- the coefficients of a decision rule, each with its parameter, also those that are 0
    abbrev pub coefficients_text : (column : ℕ) → List ℕ → List ℕ
    coefficients_text column [] = []
    coefficients_text column (k ∷ ks) =
        coefficient_text (at plan column) (parameter_name ps k) ++ coefficients_text (suc column) ks

    -- `policy NAME CONSTANT`, and the coefficients
    abbrev pub policy_line : (column : ℕ) → AdaptiveVariable → List ℕ
    policy_line column y =
        line (codes "policy " ++ (y.name ++ (codes " "
        ++ (number_text (at plan column) ++ coefficients_text (suc column) y.on))))

    -- the policy of each adaptive variable
    abbrev pub policies_text : (column : ℕ) → List AdaptiveVariable → List ℕ
    policies_text column [] = []
    policies_text column (y ∷ ys) = policy_line column y ++ policies_text (suc column + length y.on) ys

-- `optimal VALUE`, and the plan
abbrev pub optimal_text : RobustModel → Fraction → List Fraction → List ℕ
optimal_text m value plan =
    spaced (codes "optimal" ∷ (number_text value ∷ []))
    ++ (variables_text plan 0 m.variables ++ policies_text plan m.parameters (length m.variables) m.adaptives)

-- what a certificate of that status says
abbrev pub report_by : RobustModel → Status → Certificate → List ℕ
report_by m optimal c = optimal_text m c.value c.plan
report_by m infeasible c = line (codes "infeasible")
report_by m unbounded c = line (codes "unbounded")

-- the report of a certificate
abbrev pub report_of : RobustModel → Certificate → List ℕ
report_of m c = report_by m c.status c
