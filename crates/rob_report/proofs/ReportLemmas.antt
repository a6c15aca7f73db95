-- The texts of a plan, line by line.
use Rattle.std.proofs.Common.{◌≡◌, ℕ, suc, ◌+◌, ◌<◌, List, [], ◌∷◌, ◌++◌, map, length, get_or, drop, arith, ap, ap₂, sym, ◌∙◌, append_assoc, append-nil, add-one}
use Rattle.std.specs.Prelude.{codes}
use Rattle.rob_algebra.specs.Fraction.{Fraction}
use Rattle.rob_cert.proofs.Writing.WriterLemmas.{behind}
use Rattle.rob_cert.specs.Spelling.{number_text, spaced}
use Rattle.rob_meaning.specs.Names.{Name, parameter_name}
use Rattle.rob_meaning.specs.Places.{at}
use Rattle.rob_meaning.specs.RobustModel.{Parameter, AdaptiveVariable}
use Rattle.rob_model.specs.View.{adaptive_of, variable_of}
use Rattle.rob_model.specs.declared.model.Adaptive.{Adaptive}
use Rattle.rob_model.specs.declared.model.Var.{Var}
use Rattle.rob_report.proofs.PairLemmas.{drop_here}
use Rattle.rob_report.specs.Report.{coefficient_text, coefficients_text, policies_text, policy_line, variables_text}

-- the end of a line's piece
piece_behind : (a b : List ℕ) → a ++ b ≡ (a ++ []) ++ b
piece_behind a b = ap (λ t. t ++ b) (sym (append-nil a))

module _ {N : Type 0} (value : N → Fraction) (plan : List Fraction) where
  -- the lines of variables, the first having that column
  abbrev pub variables_from : ℕ → List (Var N) → List ℕ
  variables_from column xs = variables_text plan column (map (variable_of value) xs)

  pub variables_from-cons : (column : ℕ) (x : Var N) (xs : List (Var N))
      → variables_from column (x ∷ xs) ≡ variables_from column (x ∷ []) ++ variables_from (suc column) xs
  variables_from-cons column x xs =
      piece_behind (spaced (codes "here" ∷ (x.name ∷ (number_text (at plan column) ∷ []))))
      (variables_from (suc column) xs)

  -- the line of a variable
  pub variable_line : (column : ℕ) (x : Var N) (name : Name) (q : Fraction) (old new : List ℕ)
      → name ≡ x.name → q ≡ at plan column
      → new ≡ old ++ spaced (codes "here" ∷ (name ∷ (number_text q ∷ []))) → new ≡ old ++ variables_from column (x ∷ [])
  variable_line column x name q old new n is grown =
      grown ∙ ap (λ t. old ++ t) (ap₂ (λ a b. spaced (codes "here" ∷ (a ∷ (number_text b ∷ [])))) n is
      ∙ sym (append-nil (spaced (codes "here" ∷ (x.name ∷ (number_text (at plan column) ∷ []))))))

  module _ (ps : List Parameter) where
    -- one coefficient
    pub coefficient_here : (column k : ℕ) (name : Name) (q : Fraction) (old new : List ℕ)
        → name ≡ parameter_name ps k → q ≡ at plan column
        → new ≡ old ++ coefficient_text q name → new ≡ old ++ coefficients_text plan ps column (k ∷ [])
    coefficient_here column k name q old new n is grown =
        grown ∙ ap (λ t. old ++ t) (ap₂ coefficient_text is n
        ∙ sym (append-nil (coefficient_text (at plan column) (parameter_name ps k))))

    -- the pieces of a policy's line
    pub policy_written : (column : ℕ) (y : AdaptiveVariable) (name : Name) (q : Fraction) (on : List ℕ)
        (old o1 o2 o3 o4 o5 new : List ℕ)
        → name ≡ y.name → q ≡ at plan column → on ≡ y.on
        → o1 ≡ old ++ codes "policy " → o2 ≡ o1 ++ name → o3 ≡ o2 ++ codes " " → o4 ≡ o3 ++ number_text q
        → o5 ≡ o4 ++ coefficients_text plan ps (column + 1) on → new ≡ o5 ++ 10 ∷ []
        → new ≡ old ++ policy_line plan ps column y
    policy_written column y name q on old o1 o2 o3 o4 o5 new n is list p1 p2 p3 p4 p5 p6 =
        let whole = behind old o1 o5 (codes "policy ") _ p1 (behind o1 o2 o5 y.name _ (p2 ∙ ap (λ a. o1 ++ a) n)
        (behind o2 o3 o5 (codes " ") _ p3
        (behind o3 o4 o5 (number_text (at plan column)) (coefficients_text plan ps (suc column) y.on)
        (p4 ∙ ap (λ b. o3 ++ number_text b) is)
        (p5 ∙ ap₂ (λ j ks. o4 ++ coefficients_text plan ps j ks) (add-one column) list)))) in
        p6 ∙ ap (λ o. o ++ 10 ∷ []) whole
        ∙ append_assoc old
        (codes "policy "
        ++ (y.name ++ (codes " " ++ (number_text (at plan column) ++ coefficients_text plan ps (suc column) y.on))))
        (10 ∷ [])

    -- the coefficients, the first having that column
    pub coefficients_text-cons : (column k : ℕ) (ks : List ℕ)
        → coefficients_text plan ps column (k ∷ ks)
        ≡ coefficients_text plan ps column (k ∷ []) ++ coefficients_text plan ps (suc column) ks
    coefficients_text-cons column k ks =
        piece_behind (coefficient_text (at plan column) (parameter_name ps k))
        (coefficients_text plan ps (suc column) ks)

    -- the lines of adaptive variables, the columns of the first beginning there
    abbrev pub policies_from : ℕ → List (Adaptive N) → List ℕ
    policies_from column ys = policies_text plan ps column (map (adaptive_of value) ys)

    -- one line more
    pub policies_more : (ys : List (Adaptive N)) (i column count : ℕ) (y d : Adaptive N) (old new total : List ℕ)
        → i < length ys → y ≡ get_or ys i d → count ≡ length y.on
        → new ≡ old ++ policy_line plan ps column (adaptive_of value y)
        → old ++ policies_from column (drop i ys) ≡ total
        → new ++ policies_from (column + (1 + count)) (drop (i + 1) ys) ≡ total
    policies_more ys i column count y d old new total h is n grown before =
        ap (λ o. o ++ policies_from (column + (1 + count)) (drop (i + 1) ys)) grown
        ∙ append_assoc old (policy_line plan ps column (adaptive_of value y))
        (policies_from (column + (1 + count)) (drop (i + 1) ys))
        ∙ ap (λ t. old ++ (policy_line plan ps column (adaptive_of value y) ++ t))
        (ap (λ c. policies_from c (drop (i + 1) ys))
        (let e : column + (1 + count) ≡ suc column + length y.on = omega (arith, n) in e))
        ∙ ap (λ t. old ++ t) (sym (ap (policies_from column) (drop_here ys i y d h is)))
        ∙ before
