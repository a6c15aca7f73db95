-- Forms that are appended one after another: those done so far, and those that are left.
use Rattle.std.specs.Prelude.{◌≡◌, ℕ, suc, ◌+◌, ◌≤◌, ℤ, List, [], ◌∷◌, ◌++◌, length, Result, Ok, Err, IsErrAnd, refl}
use Rattle.std.proofs.Common.{◌∙◌, ap, arith, subst}
use Rattle.rob_algebra.specs.Fraction.{Fraction}
use Rattle.rob_meaning.specs.Clearing.{entries}
use Rattle.rob_meaning.specs.Coefficients.{Table, table}
use Rattle.rob_meaning.specs.Expressions.{Expression}
use Rattle.rob_meaning.specs.Forms.{entries_of, matrix_of}
use Rattle.rob_meaning.specs.Places.{Each}
use Rattle.rob_meaning.specs.RobustModel.{RobustModel}
use Rattle.rob_model.specs.declared.place.Where.TheVariants.{Form}
use Rattle.rob_sets.specs.Appending.{AppendsLines, StopsAt}
use Rattle.rob_sets.specs.FirstWide as judge
use Rattle.rob_sets.specs.Subexpressions.{subexpressions, HasWideCoefficient}
use Rattle.rob_sets.specs.Tables.{numbers_of}
use Rattle.rob_sets.specs.Tabulating.{IsTableOf}
use Rattle.rob_sets.specs.declared.error.ElabErr.{ElabErr}
use Rattle.rob_sets.specs.declared.table.Table.{Table as TableData}
use Rattle.rob_sets.proofs.Judging.JudgedLemmas.{stops_right}
use Rattle.rob_sets.proofs.Cells.ListLemmas.{each_none}
use Rattle.rob_sets.proofs.Cells.PartedLemmas.{Parted}
use Rattle.rob_sets.proofs.Judging.ProgressLemmas.{Progress, ends, ends_with, numbered_go_on, numbered_stop}
use Rattle.rob_elab.specs.Appending.{Appends, AppendsTable}
use Rattle.rob_elab.specs.Forms.{MatrixFits, judged_from}

-- matrices in a list
abbrev pub Matrices : Type 0
Matrices = List (List (List ℤ))

pub judged-both : (m : RobustModel) (i : ℕ) (xs ys : List Expression)
    → judged_from m i (xs ++ ys) ≡ judged_from m i xs ++ judged_from m (length xs + i) ys
judged-both m i [] ys = ap (λ n. judged_from m n ys) (let e : i ≡ 0 + i = omega arith in e)
judged-both m i (x ∷ xs) ys =
    ap (λ js. judge.coefficients (Form i) x ∷ (judge.clearing (Form i) (entries (entries_of m (table m x))) ∷ js))
    (judged-both m (suc i) xs ys
    ∙ ap (λ n. judged_from m (suc i) xs ++ judged_from m n ys)
    (let e : length xs + suc i ≡ suc (length xs) + i = omega arith in e))

module _ (limit : ℕ) (m : RobustModel) where
  -- of all forms some are done, and the others are left
  abbrev pub FormProgress : List Expression → List Expression → Matrices → Matrices → Type 0
  FormProgress all left start now =
      Progress (matrix_of m) (MatrixFits limit) limit m all left (judged_from m (length start) all)
      (judged_from m (length now) left) start now

  -- the forms are appended
  abbrev pub AppendsForms : List Expression → Matrices → Matrices → Type 0
  AppendsForms forms old new =
      AppendsLines (matrix_of m) (MatrixFits limit) limit m forms (judged_from m (length old) forms) old new

module _ {limit : ℕ} {m : RobustModel} {all left : List Expression} {start now : Matrices}
    (p : FormProgress limit m all left start now) where
  pub forms_go_on : {here more : List Expression} {next : Matrices} → Parted left here more
      → AppendsForms limit m here now next
      → FormProgress limit m all more start next
  forms_go_on l f = numbered_go_on (judged_from m) (judged-both m) p l f

  pub forms_stop : {here more : List Expression} {before last : ℕ} {e : ElabErr} (b : Matrices) (first : ℕ)
      (r : Result (Unit {0}) ElabErr) → Parted left here more
      → first ≤ before → StopsAt limit m (judged_from m (length now) here) before last e → IsErrAnd r (λ d. d ≡ e)
      → Appends limit m (length start) all start b first last r
  forms_stop b first r l least h is = numbered_stop (judged_from m) (judged-both m) p l b first r least h is

  pub forms_end : left ≡ [] → AppendsForms limit m all start now
  forms_end over = ends p over (ap (judged_from m (length now)) over)

  -- what is left is appended last
  pub forms_end_with : (next : Matrices) (first before last : ℕ) (r : Result (Unit {0}) ElabErr) → first ≤ before
      → Appends limit m (length now) left now next before last r
      → Appends limit m (length start) all start next first last r
  forms_end_with next first before last r least h = ends_with next first before last r p refl refl least h

module _ (limit : ℕ) (m : RobustModel) where
  -- ---- one form, by its table
  by_table : (e : Expression) (a b : Matrices) (first before last : ℕ) (r : Result (Unit {0}) ElabErr)
      → Each (λ s. HasWideCoefficient limit m s → ⊥) (subexpressions e) → first ≤ before
      → AppendsTable limit m (table m e) a b before last r → Appends limit m (length a) (e ∷ []) a b first last r
  by_table e a b first before last (Ok _) none least h = record {
    appended = h.appended;
    fit = h.fit;
    none_wide = (each_none (HasWideCoefficient limit m) (subexpressions e) none, h.none_wide);
  }
  by_table e a b first before last (Err d) none least h =
      stops_right limit m (judge.coefficients (Form (length a)) e ∷ [])
      (judge.clearing (Form (length a)) (entries (entries_of m (table m e))) ∷ []) d first before last least
      (each_none (HasWideCoefficient limit m) (subexpressions e) none, tt) h

  pub form_appends : {N : Type 0} (value : N → Fraction) (t : TableData N) (e : Expression) (a b : Matrices)
      (first before last : ℕ) (r : Result (Unit {0}) ElabErr) → IsTableOf value limit m e t → first ≤ before
      → AppendsTable limit m (numbers_of value t) a b before last r
      → Appends limit m (length a) (e ∷ []) a b first last r
  form_appends value t e a b first before last r here least h =
      let same : numbers_of value t ≡ table m e = λ i k j. here.coefficients k j i in
      by_table e a b first before last r here.none_wide least
      (subst (λ (f : Table). AppendsTable limit m f a b before last r) same h)
