-- Terms that are left out, and sums of no term.
use Rattle.std.proofs.Common.{◌≡◌, ℕ, zero, suc, List, [], ◌∷◌, ◌++◌, refl, ap, ap₂, ◌∙◌, append_assoc}
use Rattle.std.specs.Prelude.{ℤ, pos, negsuc, codes}
use Rattle.rob_cert.proofs.Writing.WriterLemmas.{behind}
use Rattle.rob_meaning.specs.Names.{Name}
use Rattle.rob_report.specs.Lines.{line, unless_zero}
use Rattle.rob_report.specs.Rows.{form_line}

pub unless_zero-other : (a : ℤ) (text : List ℕ) → (a ≡ pos 0 → ⊥) → unless_zero a text ≡ text
unless_zero-other (pos zero) text h = absurd (h refl)
unless_zero-other (pos (suc n)) text h = refl
unless_zero-other (negsuc n) text h = refl

-- a line of a name, a sum and its limit, piece by piece
pub row_written : (word name sum limit old o1 o2 o3 o4 new : List ℕ) → o1 ≡ old ++ word
    → o2 ≡ o1 ++ name → o3 ≡ o2 ++ codes ":"
    → o4 ≡ o3 ++ sum → new ≡ o4 ++ line limit → new ≡ old ++ line (word ++ (name ++ (codes ":" ++ (sum ++ limit))))
row_written word name sum limit old o1 o2 o3 o4 new p1 p2 p3 p4 p5 =
    let before = behind old o1 o4 word _ p1 (behind o1 o2 o4 name _ p2 (behind o2 o3 o4 (codes ":") sum p3 p4)) in
    p5 ∙ ap (λ o. o ++ line limit) before
    ∙ append_assoc old (word ++ (name ++ (codes ":" ++ sum))) (line limit)
    ∙ ap (λ t. old ++ t) (regroup word name (codes ":") sum limit (10 ∷ []))
  where
    regroup : (a b c d e f : List ℕ) → (a ++ (b ++ (c ++ d))) ++ (e ++ f) ≡ (a ++ (b ++ (c ++ (d ++ e)))) ++ f
    regroup a b c d e f = simp append_assoc

-- a form's line under other names for the same
pub form_line_same : (fronts other_fronts columns other_columns : List Name) (name : Name)
    (matrix other_matrix : List (List ℤ)) → fronts ≡ other_fronts → columns ≡ other_columns → matrix ≡ other_matrix
    → form_line fronts columns name matrix ≡ form_line other_fronts other_columns name other_matrix
form_line_same fronts other_fronts columns other_columns name matrix other_matrix f c m =
    ap₂ (λ fs cs. form_line fs cs name matrix) f c ∙ ap (form_line other_fronts other_columns name) m
