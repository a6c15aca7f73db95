-- A statement by its kind: what a valid model says of its parts, and its rows when they are appended.
use Rattle.std.specs.Prelude.{◌≡◌, ℕ, ◌+◌, ◌*◌, ◌<◌, List, [], ◌∷◌, ◌++◌, length, map, Result}
use Rattle.std.proofs.Common.{sym, ap, arith, subst, append-nil}
use Rattle.std.proofs.lemmas.List.{length-map}
use Rattle.rob_algebra.specs.Fraction.{Fraction}
use Rattle.rob_meaning.specs.Forms.{sides}
use Rattle.rob_meaning.specs.Places.{Each}
use Rattle.rob_meaning.specs.RobustModel as meaning
use Rattle.rob_meaning.specs.RobustModel.{RobustModel}
use Rattle.rob_meaning.specs.SetRows as lifted
use Rattle.rob_meaning.specs.SetRows.{budget_row, expression_row, lift_count, member_rows, statement_rows}
use Rattle.rob_meaning.specs.WellFormed.{IsMember, IsSetLine, IsSetSide}
use Rattle.rob_model.specs.View.{expression_of, member_of, relation_of, set_line_of}
use Rattle.rob_model.specs.declared.expr.Expr.{Expr}
use Rattle.rob_model.specs.declared.model.Member.{Member}
use Rattle.rob_model.specs.declared.model.Rel.{Rel}
use Rattle.rob_model.specs.declared.model.SetLine.{SetLine}
use Rattle.rob_model.specs.declared.model.SetLine.TheVariants as Is
use Rattle.rob_sets.specs.Appending.{Appends}
use Rattle.rob_sets.specs.FirstWide.{Judged}
use Rattle.rob_sets.specs.SetForm.{judged_rows, judged_sides, judged_statements}
use Rattle.rob_sets.specs.declared.error.ElabErr.{ElabErr}
use Rattle.rob_sets.specs.declared.set_form.SetRow.{SetRow}
use Rattle.rob_sets.proofs.WholeRows.StatementLemmas.{line_judged, line_rows}

module _ {N : Type 0} (value : N → Fraction) (m : RobustModel) where
  -- ---- what its parts are
  pub line_sides : {x : SetLine N} {left right : Expr N} {rel : Rel} → x ≡ Is.Line left rel right
      → IsSetLine m (set_line_of value x)
      → IsSetSide m (expression_of value left) × IsSetSide m (expression_of value right)
  line_sides is inside = subst (IsSetLine m) (ap (set_line_of value) is) inside

  pub budget_members : {x : SetLine N} {limit : N} {members items : List (Member N)} → x ≡ Is.Budget limit members
      → items ≡ members
      → IsSetLine m (set_line_of value x) → Each (IsMember m) (map (member_of value) items)
  budget_members is same inside =
      subst (λ (hs : List (Member N)). Each (IsMember m) (map (member_of value) hs)) (sym same)
      (subst (IsSetLine m) (ap (set_line_of value) is) inside)

  budget_lifts : {x : SetLine N} {limit : N} {members items : List (Member N)} → x ≡ Is.Budget limit members
      → items ≡ members
      → lift_count (set_line_of value x ∷ []) ≡ length items
  budget_lifts {x} {limit} {members} {items} is same =
      let count : lift_count (set_line_of value x ∷ []) ≡ length (map (member_of value) members) + 0 =
      ap (λ y. lift_count (set_line_of value y ∷ [])) is in
      omega (arith, count, length-map members (member_of value), ap length same)

  pub budget_rows_few : {x : SetLine N} {limit : N} {members items : List (Member N)} (n : ℕ)
      → x ≡ Is.Budget limit members
      → items ≡ members → n + (2 * lift_count (set_line_of value x ∷ []) + 2) < 1000
      → n + (2 * length items + 1) < 1000
  budget_rows_few n is same few = omega (arith, few, budget_lifts is same)

  pub budget_lifts_few : {x : SetLine N} {limit : N} {members items : List (Member N)} (n : ℕ)
      → x ≡ Is.Budget limit members
      → items ≡ members → n + lift_count (set_line_of value x ∷ []) < 1000 → n + length items < 1000
  budget_lifts_few n is same few = omega (arith, few, budget_lifts is same)

  -- ---- its rows, which a call appends
  module _ (limit i t : ℕ) (rows new : List SetRow) (before now : ℕ) (r : Result (Unit {0}) ElabErr) where
    abbrev Adds : List lifted.SetRow → List Judged → Type 0
    Adds lines judged = Appends limit m lines judged rows new before now r

    abbrev AddsStatement : meaning.SetLine → Type 0
    AddsStatement y = Adds (statement_rows m t (y ∷ [])) (judged_statements m i t (length rows) (y ∷ []))

    pub line_appended : {x : SetLine N} {left right : Expr N} {rel : Rel} → x ≡ Is.Line left rel right
        → Appends limit m
        (map (expression_row m) (sides (relation_of rel) (expression_of value left) (expression_of value right)))
        (judged_sides m i (length rows)
        (sides (relation_of rel) (expression_of value left) (expression_of value right)))
        rows new before now r
        → Appends limit m (statement_rows m t (set_line_of value x ∷ []))
        (judged_statements m i t (length rows) (set_line_of value x ∷ [])) rows new before now r
    line_appended {x} {left} {right} {rel} is h =
        let l = expression_of value left in
        let k = relation_of rel in
        let e = expression_of value right in
        subst (λ (y : meaning.SetLine). AddsStatement y) (sym (ap (set_line_of value) is))
        (subst (λ (js : List Judged). Adds (statement_rows m t (meaning.line l k e ∷ [])) js)
        (sym (line_judged m i t (length rows) l k e))
        (subst (λ (ls : List lifted.SetRow). Adds ls (judged_sides m i (length rows) (sides k l e)))
        (sym (line_rows m t l k e)) h))

    pub budget_appended : {x : SetLine N} {most : N} {members items : List (Member N)} → x ≡ Is.Budget most members
        → items ≡ members
        → Appends limit m
        (member_rows t (map (member_of value) items)
        ++ budget_row t (value most) (map (member_of value) items) ∷ [])
        (judged_rows m (length rows) (member_rows t (map (member_of value) items)
        ++ budget_row t (value most) (map (member_of value) items) ∷ [])) rows new before now r
        → Appends limit m (statement_rows m t (set_line_of value x ∷ []))
        (judged_statements m i t (length rows) (set_line_of value x ∷ [])) rows new before now r
    budget_appended {x} {most} {members} {items} is same h =
        let all : List (Member N) → List lifted.SetRow =
        λ hs. member_rows t (map (member_of value) hs)
        ++ budget_row t (value most) (map (member_of value) hs) ∷ [] in
        subst (λ (y : meaning.SetLine). AddsStatement y) (sym (ap (set_line_of value) is))
        (subst (λ (js : List Judged). Adds (all members) js)
        (sym (append-nil (judged_rows m (length rows) (all members))))
        (subst (λ (hs : List (Member N)). Adds (all hs) (judged_rows m (length rows) (all hs))) same h))
