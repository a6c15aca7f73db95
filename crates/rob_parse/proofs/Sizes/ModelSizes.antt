-- Rows and statements of a set are as many inequalities and set rows as they are without it.
use Rattle.std.proofs.Common.{◌≡◌, ℕ, ◌+◌, ◌*◌, List, [], ◌∷◌, refl, ap}
use Rattle.std.proofs.lemmas.List.{length-map}
use Rattle.rob_meaning.specs.RobustModel as model
use Rattle.rob_meaning.proofs.Tables.SizeLemmas.{inequalities, row_inequalities, rows_of}
use Rattle.rob_parse.specs.Models.{each_taken, line_taken, member_taken, row_taken}

pub rows_taken : (p : ℕ) (rs : List model.Row) (Ss : List ℕ)
    → row_inequalities (each_taken (row_taken p) rs Ss) ≡ row_inequalities rs
rows_taken p [] Ss = refl
rows_taken p (r ∷ rs) [] = refl
rows_taken p (r ∷ rs) (S ∷ Ss) = ap (λ (n : ℕ). inequalities r.relation + n) (rows_taken p rs Ss)

pub lines_taken : (p : ℕ) (cs : List model.SetLine) (Ss : List ℕ)
    → rows_of (each_taken (line_taken p) cs Ss) ≡ rows_of cs
lines_taken p [] Ss = refl
lines_taken p (c ∷ cs) [] = refl
lines_taken p (model.line left relation right ∷ cs) (S ∷ Ss) =
    ap (λ (n : ℕ). inequalities relation + n) (lines_taken p cs Ss)
lines_taken p (model.budget limit hs ∷ cs) (S ∷ Ss) =
    λ i. (1 + 2 * length-map hs (member_taken p S) i) + lines_taken p cs Ss i
