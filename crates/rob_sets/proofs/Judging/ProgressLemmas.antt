-- Lines that are appended one after another, in a loop or call by call: those done so far, and those that are left.
-- What was judged so far, and what came, go one step on by `goes_on`, and stop by `stops`.
use Rattle.std.specs.Prelude.{◌≡◌, ℕ, ◌+◌, ◌≤◌, List, [], ◌++◌, length, map, Result, Ok, Err, IsErrAnd, refl}
use Rattle.std.proofs.Common.{sym, ◌∙◌, ap, arith, subst, append_assoc, append-nil, length-append}
use Rattle.rob_meaning.specs.Places.{Each}
use Rattle.rob_meaning.specs.RobustModel.{RobustModel}
use Rattle.rob_sets.specs.Appending.{AppendsLines, AppendsOr, StopsAt}
use Rattle.rob_sets.specs.FirstWide.{Judged, IsWideThere}
use Rattle.rob_sets.specs.declared.error.ElabErr.{ElabErr}
use Rattle.rob_sets.proofs.Judging.AppendingLemmas.{appended_length, appends_both, appends_err}
use Rattle.rob_sets.proofs.Judging.JudgedLemmas.{stops_judging}
use Rattle.rob_sets.proofs.Judging.JudgingLemmas.{Judging, judging_begins, judging_ends, judging_goes_on}
use Rattle.rob_sets.proofs.Cells.PartedLemmas.{Parted, parted_last}

module _ {A B : Type 0} (made : B → A) (Fits : A → Type 0) (limit : ℕ) (m : RobustModel) where
  -- of all lines and all that is judged for them, some are done, and the others are left
  pub record Progress (all left : List B) (all_judged left_judged : List Judged) (start now : List A) : Type 0 where
    pub done : List B
    pub lines : done ++ left ≡ all
    pub appended : now ≡ start ++ map made done
    pub fit : Each Fits (map made done)
    pub judging : Judging (IsWideThere limit m) all_judged left_judged

module _ {A B : Type 0} {made : B → A} {Fits : A → Type 0} {limit : ℕ} {m : RobustModel} where
  -- what is done is appended
  so_far : {all left : List B} {all_judged left_judged : List Judged} {start now : List A}
      → (p : Progress made Fits limit m all left all_judged left_judged start now)
      → AppendsLines made Fits limit m p.done p.judging.done start now
  so_far p = record { appended = p.appended; fit = p.fit; none_wide = p.judging.none_wide }

  pub so_many : {all left : List B} {all_judged left_judged : List Judged} {start now : List A}
      → Progress made Fits limit m all left all_judged left_judged start now
      → length now + length left ≡ length start + length all
  so_many {left} p = omega (arith, appended_length (so_far p), length-append p.done left, ap length p.lines)

  pub begins : {all : List B} {judged : List Judged} (start : List A)
      → Progress made Fits limit m all all judged judged start start
  begins {judged} start = record {
    done = [];
    lines = refl;
    appended = sym (append-nil start);
    fit = tt;
    judging = judging_begins judged;
  }

  -- one step more
  pub goes_on : {all left here more : List B} {all_judged left_judged judged more_judged : List Judged}
      {start now next : List A} → Progress made Fits limit m all left all_judged left_judged start now
      → Parted left here more → Parted left_judged judged more_judged
      → AppendsLines made Fits limit m here judged now next
      → Progress made Fits limit m all more all_judged more_judged start next
  goes_on {here} {more} p l j f =
      let both = appends_both (so_far p) f in
      record {
        done = p.done ++ here;
        lines = append_assoc p.done here more ∙ ap (λ (ys : List B). p.done ++ ys) (sym l.is) ∙ p.lines;
        appended = both.appended;
        fit = both.fit;
        judging = judging_goes_on p.judging j f.none_wide;
      }

  -- it stops here
  pub stops : {all left : List B} {all_judged left_judged judged more_judged : List Judged} {start now : List A}
      {before last : ℕ} {e : ElabErr} (b : List A) (first : ℕ) (r : Result (Unit {0}) ElabErr)
      → Progress made Fits limit m all left all_judged left_judged start now
      → Parted left_judged judged more_judged → first ≤ before → StopsAt limit m judged before last e
      → IsErrAnd r (λ d. d ≡ e)
      → AppendsOr made Fits limit m all all_judged start b first last r
  stops {all} {start} {before} {last} {e} b first r p j least h is =
      appends_err made Fits all start b first r (stops_judging limit m e first before last p.judging j least h) is

  -- nothing is left
  pub ends : {all left : List B} {all_judged left_judged : List Judged} {start now : List A}
      → Progress made Fits limit m all left all_judged left_judged start now → left ≡ [] → left_judged ≡ []
      → AppendsLines made Fits limit m all all_judged start now
  ends {all} {start} p l j =
      let whole : p.done ≡ all = sym (append-nil p.done) ∙ ap (λ (xs : List B). p.done ++ xs) (sym l) ∙ p.lines in
      record {
        appended = p.appended ∙ ap (λ (xs : List B). start ++ map made xs) whole;
        fit = subst (λ (xs : List B). Each Fits (map made xs)) whole p.fit;
        none_wide = judging_ends p.judging j;
      }

  -- what is left is appended by the last call
  pub ends_with : {all left here : List B} {all_judged left_judged judged : List Judged} {start now : List A}
      (next : List A) (first before last : ℕ) (r : Result (Unit {0}) ElabErr)
      → Progress made Fits limit m all left all_judged left_judged start now → left ≡ here → left_judged ≡ judged
      → first ≤ before → AppendsOr made Fits limit m here judged now next before last r
      → AppendsOr made Fits limit m all all_judged start next first last r
  ends_with next first before last (Ok _) p l j least h = ends (goes_on p (parted_last l) (parted_last j) h) refl refl
  ends_with next first before last (Err e) p l j least h =
      stops_judging limit m e first before last p.judging (parted_last j) least h

-- ---- what is judged for a line goes by its number
module _ {B : Type 0} (J : ℕ → List B → List Judged)
    (both : (n : ℕ) (xs ys : List B) → J n (xs ++ ys) ≡ J n xs ++ J (length xs + n) ys) where
  -- what is judged for the lines that are left: for those that come now, and for those behind
  pub judged_left : {left here more : List B} (n k : ℕ) → Parted left here more → k ≡ n + length here
      → Parted (J n left) (J n here) (J k more)
  judged_left {here} {more} n k l h = record {
    is = ap (J n) l.is ∙ both n here more
        ∙ ap (λ i. J n here ++ J i more) (let e : length here + n ≡ k = omega arith in e);
  }

  module _ {A : Type 0} {made : B → A} {Fits : A → Type 0} {limit : ℕ} {m : RobustModel} {all left here more : List B}
      {all_judged : List Judged}
      {start now : List A} (p : Progress made Fits limit m all left all_judged (J (length now) left) start now)
      (l : Parted left here more) where
    pub numbered_go_on : {next : List A} → AppendsLines made Fits limit m here (J (length now) here) now next
        → Progress made Fits limit m all more all_judged (J (length next) more) start next
    numbered_go_on {next} f = goes_on p l (judged_left (length now) (length next) l (appended_length f)) f

    pub numbered_stop : {before last : ℕ} {e : ElabErr} (b : List A) (first : ℕ) (r : Result (Unit {0}) ElabErr)
        → first ≤ before
        → StopsAt limit m (J (length now) here) before last e → IsErrAnd r (λ d. d ≡ e)
        → AppendsOr made Fits limit m all all_judged start b first last r
    numbered_stop b first r least h is =
        stops b first r p (judged_left (length now) (length now + length here) l refl) least h is
