-- The lines of a sweep, one after another.
use Rattle.std.proofs.Common.{◌≡◌, ℕ, ◌+◌, ◌<◌, ◌≤◌, List, ◌++◌, map, length, get_or, drop, ap, ap₂, sym, ◌∙◌, append_assoc}
use Rattle.std.proofs.lemmas.List.{append-nil}
use Rattle.rob_algebra.specs.Fraction.{Fraction}
use Rattle.rob_model.proofs.PartLemmas.{drop_at, drop_all}
use Rattle.rob_reach.specs.Sweeps.{SweepAnswer}
use Rattle.rob_sweep.specs.SweepText.{answer_line, sweep_text}

module _ {X Y : Type 0} (value : X → Fraction) (view : Y → SweepAnswer) (limits : List X) (answers : List Y)
    (i : ℕ) (all : List ℕ) where
  pub text_more : (g : X) (a : Y) (text next : List ℕ) → i < length limits → i < length answers → g ≡ get_or limits i g
      → a ≡ get_or answers i a → next ≡ text ++ answer_line (value g) (view a)
      → text ++ sweep_text (map value (drop i limits)) (map view (drop i answers)) ≡ all
      → next ++ sweep_text (map value (drop (i + 1) limits)) (map view (drop (i + 1) answers)) ≡ all
  text_more g a text next h k e f appended so_far =
      let rest = sweep_text (map value (drop (i + 1) limits)) (map view (drop (i + 1) answers)) in
      ap (λ (l : List ℕ). l ++ rest) appended
      ∙ append_assoc text (answer_line (value g) (view a)) rest
      ∙ ap₂ (λ (xs : List X) (ys : List Y). text ++ sweep_text (map value xs) (map view ys))
      (sym (drop_at limits i g h e)) (sym (drop_at answers i a k f))
      ∙ so_far

  pub text_all : (text : List ℕ) → length limits ≤ i
      → text ++ sweep_text (map value (drop i limits)) (map view (drop i answers)) ≡ all → text ≡ all
  text_all text h so_far =
      sym (append-nil text)
      ∙ ap (λ (xs : List X). text ++ sweep_text (map value xs) (map view (drop i answers))) (sym (drop_all i limits h))
      ∙ so_far
