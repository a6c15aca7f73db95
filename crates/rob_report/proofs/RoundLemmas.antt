-- The lines of rounds, piece by piece.
use Rattle.std.proofs.Common.{◌≡◌, ℕ, ℤ, suc, ◌+◌, ◌<◌, List, [], ◌∷◌, ◌++◌, map, length, get_or, drop, refl, ap, sym, ◌∙◌, append_assoc, add-one}
use Rattle.std.specs.Fmt.{decimal, signed_decimal}
use Rattle.std.specs.Prelude.{codes}
use Rattle.rob_algebra.specs.Fraction.{Fraction}
use Rattle.rob_cert.proofs.Writing.WriterLemmas.{behind}
use Rattle.rob_cert.specs.declared.trace.Round.{Round}
use Rattle.rob_meaning.specs.RobustModel.{RobustModel}
use Rattle.rob_model.specs.View.{parameter_of}
use Rattle.rob_model.specs.declared.model.Param.{Param}
use Rattle.rob_report.proofs.PairLemmas.{drop_here}
use Rattle.rob_report.specs.Lines.{for_pairs}
use Rattle.rob_report.specs.Rounds.{cut_words, entries_words, entry_words, round_line, round_lines}
use Rattle.rob_report.specs.Spots.{form_name}

module _ {N : Type 0} (value : N → Fraction) where
  -- the numbers of a cut, as the code holds the parameters
  abbrev pub entries_of : List (Param N) → List ℤ → List ℕ
  entries_of ps ns = for_pairs (λ (p : Param N) n. entry_words p.name n) ps ns

  pub entries_whole : (ps : List (Param N)) (ns : List ℤ)
      → entries_of ps ns ≡ entries_words (map (parameter_of value) ps) ns
  entries_whole [] ns = refl
  entries_whole (p ∷ ps) [] = refl
  entries_whole (p ∷ ps) (n ∷ ns) = ap (λ t. entry_words p.name n ++ t) (entries_whole ps ns)

module _ (m : RobustModel) where
  -- a cut: its form, its denominator, and the number of each parameter
  pub cut_written : (r : Round) (old : List ℕ) {o1 o2 o3 o4 new : List ℕ} → o1 ≡ old ++ codes " cut "
      → o2 ≡ o1 ++ form_name m r.form → o3 ≡ o2 ++ codes " " → o4 ≡ o3 ++ signed_decimal r.base
      → new ≡ o4 ++ entries_words m.parameters r.vector → new ≡ old ++ cut_words m r
  cut_written r old {o1} {o2} {o3} {o4} {new} p1 p2 p3 p4 p5 =
      behind old o1 new (codes " cut ") _ p1
      (behind o1 o2 new (form_name m r.form) _ p2
      (behind o2 o3 new (codes " ") _ p3 (behind o3 o4 new (signed_decimal r.base) _ p4 p5)))

  -- one round more
  pub rounds_more : (rounds : List Round) (i : ℕ) (r d : Round) (old new total : List ℕ)
      → i < length rounds → r ≡ get_or rounds i d
      → new ≡ old ++ round_line m (i + 1) r → old ++ round_lines m (suc i) (drop i rounds) ≡ total
      → new ++ round_lines m (suc (i + 1)) (drop (i + 1) rounds) ≡ total
  rounds_more rounds i r d old new total h is grown before =
      ap (λ o. o ++ round_lines m (suc (i + 1)) (drop (i + 1) rounds)) grown
      ∙ append_assoc old (round_line m (i + 1) r) (round_lines m (suc (i + 1)) (drop (i + 1) rounds))
      ∙ ap (λ j. old ++ (round_line m j r ++ round_lines m (suc j) (drop (i + 1) rounds))) (add-one i)
      ∙ ap (λ t. old ++ t) (sym (ap (round_lines m (suc i)) (drop_here rounds i r d h is)))
      ∙ before

  -- the head line and what stands behind it
  pub rounds_begun : (rounds : List Round) (old o1 o2 o3 : List ℕ) → o1 ≡ old ++ codes "rounds "
      → o2 ≡ o1 ++ decimal (length rounds)
      → o3 ≡ o2 ++ 10 ∷ []
      → o3 ++ round_lines m 1 rounds
      ≡ old ++ (((codes "rounds " ++ decimal (length rounds)) ++ 10 ∷ []) ++ round_lines m 1 rounds)
  rounds_begun rounds old o1 o2 o3 p1 p2 p3 =
      ap (λ o. o ++ round_lines m 1 rounds)
      (p3 ∙ ap (λ o. o ++ 10 ∷ []) (behind old o1 o2 (codes "rounds ") _ p1 p2)
      ∙ append_assoc old (codes "rounds " ++ decimal (length rounds)) (10 ∷ []))
      ∙ append_assoc old ((codes "rounds " ++ decimal (length rounds)) ++ 10 ∷ []) (round_lines m 1 rounds)
