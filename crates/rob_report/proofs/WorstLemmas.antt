-- The texts of worst cases, piece by piece.
use Rattle.std.proofs.Common.{◌≡◌, ℕ, List, [], ◌∷◌, ◌++◌, map, refl, ap, sym, ◌∙◌, append_assoc}
use Rattle.std.specs.Prelude.{codes}
use Rattle.rob_algebra.specs.Fraction.{Fraction}
use Rattle.rob_cert.proofs.Writing.WriterLemmas.{behind}
use Rattle.rob_cert.specs.Spelling.{spaced}
use Rattle.rob_model.specs.View.{parameter_of}
use Rattle.rob_model.specs.declared.model.Param.{Param}
use Rattle.rob_report.specs.Lines.{for_pairs}
use Rattle.rob_report.specs.Worst.{at_line, at_lines}

module _ {N : Type 0} (value : N → Fraction) where
  -- the lines of numbers, as the code holds them
  abbrev pub entries_of : List N → List (Param N) → List ℕ
  entries_of xs ps = for_pairs (λ x (p : Param N). at_line (value x) p.name) xs ps

  pub entries_whole : (xs : List N) (ps : List (Param N))
      → entries_of xs ps ≡ at_lines (map value xs) (map (parameter_of value) ps)
  entries_whole [] ps = refl
  entries_whole (x ∷ xs) [] = refl
  entries_whole (x ∷ xs) (p ∷ ps) = ap (λ t. at_line (value x) p.name ++ t) (entries_whole xs ps)

-- a line of a word, a name and a number, and what stands behind it
pub greatest_written : (old o1 o2 o3 o4 o5 new name number entries : List ℕ)
    → o1 ≡ old ++ codes "worst " → o2 ≡ o1 ++ name → o3 ≡ o2 ++ codes " " → o4 ≡ o3 ++ number
    → o5 ≡ o4 ++ 10 ∷ [] → new ≡ o5 ++ entries
    → new ≡ old ++ (spaced (codes "worst" ∷ (name ∷ (number ∷ []))) ++ entries)
greatest_written old o1 o2 o3 o4 o5 new name number entries p1 p2 p3 p4 p5 p6 =
    behind old o1 new (codes "worst ") _ p1
    (behind o1 o2 new name _ p2
    (behind o2 o3 new (codes " ") _ p3 (behind o3 o4 new number _ p4 (behind o4 o5 new (10 ∷ []) entries p5 p6))))
    ∙ ap (λ t. old ++ (codes "worst " ++ t))
    (sym (append_assoc name (32 ∷ (number ++ 10 ∷ [])) entries
    ∙ ap (λ t. name ++ 32 ∷ t) (append_assoc number (10 ∷ []) entries)))

-- a line of a word and a name, and what stands behind it
pub along_written : (old o1 o2 o3 new name entries : List ℕ) → o1 ≡ old ++ codes "along " → o2 ≡ o1 ++ name
    → o3 ≡ o2 ++ 10 ∷ [] → new ≡ o3 ++ entries
    → new ≡ old ++ (spaced (codes "along" ∷ (name ∷ [])) ++ entries)
along_written old o1 o2 o3 new name entries p1 p2 p3 p4 =
    behind old o1 new (codes "along ") _ p1 (behind o1 o2 new name _ p2 (behind o2 o3 new (10 ∷ []) entries p3 p4))
    ∙ ap (λ t. old ++ (codes "along " ++ t)) (sym (append_assoc name (10 ∷ []) entries))
