-- Where a set or the forms can't be written in whole numbers, the spot that is named is one of the model's.
use Rattle.std.proofs.Common.{ℕ, zero, suc, ◌+◌, ◌<◌, ◌≤◌, List, [], ◌∷◌, ◌++◌, map, length, arith, subst, length-append}
use Rattle.std.proofs.lemmas.List.{length-map}
use Rattle.rob_elab.specs.Forms.{judged_forms, judged_from}
use Rattle.rob_meaning.proofs.Lists.EachLemmas.{each_append}
use Rattle.rob_meaning.specs.Expressions.{Expression}
use Rattle.rob_meaning.specs.Forms.{forms, sides}
use Rattle.rob_meaning.specs.Places.{Each}
use Rattle.rob_meaning.specs.RobustModel.{RobustModel, SetLine, budget, line}
use Rattle.rob_meaning.specs.SetRows.{SetRow, bound_rows, budget_row, expression_row, member_rows, set_rows, statement_rows}
use Rattle.rob_model.specs.declared.place.Spot.{Spot}
use Rattle.rob_report.specs.Places.{IsSpotOf}
use Rattle.rob_sets.specs.FirstWide.{IsFirstWide, Judged, spot_of}
use Rattle.rob_sets.specs.SetForm.{judged_rows, judged_set, judged_sides, judged_statements}

module _ (m : RobustModel) where
  -- the spot of what is judged is the model's
  abbrev IsNamed : Judged → Type 0
  IsNamed j = IsSpotOf m (spot_of j)

  here : (before : List Judged) (j : Judged) (after : List Judged) → Each IsNamed (before ++ j ∷ after) → IsNamed j
  here [] j after h = h.0
  here (x ∷ xs) j after h = here xs j after h.1

  first_named : (limit : ℕ) (all : List Judged) (spot : Spot) → Each IsNamed all
      → IsFirstWide limit m all spot → IsSpotOf m spot
  first_named limit all spot named first =
      subst (IsSpotOf m) first.named (here first.before first.here first.after (subst (Each IsNamed) first.order named))

  -- ---- the forms
  forms_named : (i : ℕ) (es : List Expression) → i + length es ≤ length (forms m) → Each IsNamed (judged_from m i es)
  forms_named i [] h = tt
  forms_named i (e ∷ es) h = (omega (arith, h), (omega (arith, h), forms_named (suc i) es (omega (arith, h))))

  pub forms_spot : (limit : ℕ) (spot : Spot) → IsFirstWide limit m (judged_forms m) spot → IsSpotOf m spot
  forms_spot limit spot first = first_named limit (judged_forms m) spot (forms_named zero (forms m) (omega arith)) first

  -- ---- the set
  rows_named : (r : ℕ) (rows : List SetRow) → r + length rows ≤ length (set_rows m)
      → Each IsNamed (judged_rows m r rows)
  rows_named r [] h = tt
  rows_named r (row ∷ rows) h = (omega (arith, h), rows_named (suc r) rows (omega (arith, h)))

  sides_named : (i r : ℕ) (es : List Expression) → i < length m.set_lines → r + length es ≤ length (set_rows m)
      → Each IsNamed (judged_sides m i r es)
  sides_named i r [] k h = tt
  sides_named i r (e ∷ es) k h = (k, (omega (arith, h), sides_named i (suc r) es k (omega (arith, h))))

  statements_named : (i t r : ℕ) (cs : List SetLine) → i + length cs ≤ length m.set_lines
      → r + length (statement_rows m t cs) ≤ length (set_rows m)
      → Each IsNamed (judged_statements m i t r cs)
  statements_named i t r [] k h = tt
  statements_named i t r (line left relation right ∷ rest) k h =
      let es = sides relation left right in
      let both = length-append (map (expression_row m) es) (statement_rows m t rest) in
      let own = length-map es (expression_row m) in
      each_append IsNamed (judged_sides m i r es) (judged_statements m (suc i) t (length es + r) rest)
      (sides_named i r es (omega (arith, k)) (omega (arith, h, both, own)))
      (statements_named (suc i) t (length es + r) rest (omega (arith, k)) (omega (arith, h, both, own)))
  statements_named i t r (budget limit members ∷ rest) k h =
      let rows = member_rows t members ++ budget_row t limit members ∷ [] in
      let all = length-append (member_rows t members)
      (budget_row t limit members ∷ statement_rows m (length members + t) rest) in
      let own = length-append (member_rows t members) (budget_row t limit members ∷ []) in
      each_append IsNamed (judged_rows m r rows)
      (judged_statements m (suc i) (length members + t) (length rows + r) rest)
      (rows_named r rows (omega (arith, h, all, own)))
      (statements_named (suc i) (length members + t) (length rows + r) rest (omega (arith, k))
      (omega (arith, h, all, own)))

  pub set_spot : (limit : ℕ) (spot : Spot) → IsFirstWide limit m (judged_set m) spot → IsSpotOf m spot
  set_spot limit spot first =
      let bounds = bound_rows zero m.parameters in
      let all = length-append bounds (statement_rows m zero m.set_lines) in
      first_named limit (judged_set m) spot
      (each_append IsNamed (judged_rows m zero bounds) (judged_statements m zero zero (length bounds) m.set_lines)
      (rows_named zero bounds (omega (arith, all)))
      (statements_named zero zero (length bounds) m.set_lines (omega arith) (omega (arith, all))))
      first
