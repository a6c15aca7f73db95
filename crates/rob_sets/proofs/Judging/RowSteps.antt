-- Set rows without an expression that are appended one after another.
use Rattle.std.specs.Prelude.{◌≡◌, ℕ, suc, ◌+◌, ◌≤◌, List, [], ◌∷◌, ◌++◌, length, Result, IsErrAnd}
use Rattle.std.proofs.Common.{◌∙◌, ap, arith}
use Rattle.rob_meaning.specs.RobustModel.{RobustModel}
use Rattle.rob_meaning.specs.SetRows as lifted
use Rattle.rob_sets.specs.Appending.{Appends, AppendsLines, StopsAt}
use Rattle.rob_sets.specs.SetForm.{RowFits, cleared_row, judged_row, judged_rows}
use Rattle.rob_sets.specs.declared.error.ElabErr.{ElabErr}
use Rattle.rob_sets.specs.declared.set_form.SetRow.{SetRow}
use Rattle.rob_sets.proofs.Cells.PartedLemmas.{Parted}
use Rattle.rob_sets.proofs.Judging.ProgressLemmas.{Progress, numbered_go_on, numbered_stop}

pub judged-both : (m : RobustModel) (r : ℕ) (xs ys : List lifted.SetRow)
    → judged_rows m r (xs ++ ys) ≡ judged_rows m r xs ++ judged_rows m (length xs + r) ys
judged-both m r [] ys = ap (λ n. judged_rows m n ys) (let e : r ≡ 0 + r = omega arith in e)
judged-both m r (x ∷ xs) ys =
    ap (λ js. judged_row m r x ∷ js) (judged-both m (suc r) xs ys
    ∙ ap (λ n. judged_rows m (suc r) xs ++ judged_rows m n ys)
    (let e : length xs + suc r ≡ suc (length xs) + r = omega arith in e))

-- of all such rows some are done
abbrev pub RowProgress : ℕ → RobustModel → List lifted.SetRow → List lifted.SetRow → List SetRow → List SetRow → Type 0
RowProgress limit m all left start now =
    Progress (cleared_row m) (RowFits limit) limit m all left (judged_rows m (length start) all)
    (judged_rows m (length now) left) start now

module _ {limit : ℕ} {m : RobustModel} {all left here more : List lifted.SetRow} {start now : List SetRow}
    (p : RowProgress limit m all left start now) (l : Parted left here more) where
  pub rows_go_on : {next : List SetRow}
      → AppendsLines (cleared_row m) (RowFits limit) limit m here (judged_rows m (length now) here) now next
      → RowProgress limit m all more start next
  rows_go_on f = numbered_go_on (judged_rows m) (judged-both m) p l f

  pub rows_stop : {before last : ℕ} {e : ElabErr} (b : List SetRow) (first : ℕ) (r : Result (Unit {0}) ElabErr)
      → first ≤ before
      → StopsAt limit m (judged_rows m (length now) here) before last e → IsErrAnd r (λ d. d ≡ e)
      → Appends limit m all (judged_rows m (length start) all) start b first last r
  rows_stop b first r least h is = numbered_stop (judged_rows m) (judged-both m) p l b first r least h is
