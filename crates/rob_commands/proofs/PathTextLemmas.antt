-- The text of a path, branch by branch.
use Rattle.std.proofs.Common.{◌≡◌, ℕ, List, [], ◌∷◌, ◌++◌, Result, Ok, Err, OnOk, ap, sym, ◌∙◌, append_assoc, codes}
use Rattle.std.proofs.lemmas.Option.{get_or_from_slice_get}
use Rattle.rob_cert.specs.Spelling.{name_at}
use Rattle.rob_meaning.specs.Names.{Name}
use Rattle.rob_model.specs.Naming.{AppendsName}

-- how a branch bounds its variable, and the line's end
pub bound_text : (r d out a b c : List ℕ) → a ≡ out ++ r → b ≡ a ++ d → c ≡ b ++ 10 ∷ []
    → c ≡ out ++ (r ++ (d ++ 10 ∷ []))
bound_text r d out a b c first second third =
    third ∙ ap (λ l. l ++ 10 ∷ []) (second ∙ ap (λ l. l ++ d) first)
    ∙ append_assoc (out ++ r) d (10 ∷ []) ∙ append_assoc out r (d ++ 10 ∷ [])

-- the line of a branch
line_text : (names : List Name) (j : ℕ) (tail out a b c : List ℕ) → a ≡ out ++ codes "where " → AppendsName names j a b
    → c ≡ b ++ tail → c ≡ out ++ (codes "where " ++ (name_at names j ++ tail))
line_text names j tail out a b c first second third =
    let W = name_at names j in
    let named : b ≡ a ++ W =
    second.appended ∙ ap (λ n. a ++ n) (sym (get_or_from_slice_get names j second.name [] second.number)) in
    third ∙ ap (λ l. l ++ tail) (named ∙ ap (λ l. l ++ W) first)
    ∙ append_assoc (out ++ codes "where ") W tail ∙ append_assoc out (codes "where ") (W ++ tail)

pub branch_text : {E : Type 0} (r : Result (Unit {0}) E) (names : List Name) (j : ℕ) (told tail out a b c : List ℕ)
    → told ≡ tail
    → a ≡ out ++ codes "where " → AppendsName names j a b → OnOk r (c ≡ b ++ told)
    → OnOk r (c ≡ out ++ (codes "where " ++ (name_at names j ++ tail)))
branch_text (Ok done) names j told tail out a b c same first second third =
    line_text names j tail out a b c first second (third ∙ ap (λ l. b ++ l) same)
branch_text (Err e) names j told tail out a b c same first second third = tt
