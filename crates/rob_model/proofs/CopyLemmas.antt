-- A list that is copied item by item: what is copied so far, with the items that are left, is the whole.
use Rattle.std.proofs.Common.{◌≡◌, ℕ, ◌+◌, ◌<◌, List, [], ◌∷◌, ◌++◌, length, drop, get_or, ap, sym, ◌∙◌, append_assoc}
use Rattle.rob_algebra.proofs.ListLemmas.{drop_at}

-- one item more
pub copied_more : {A : Type 0} (xs done : List A) (i : ℕ) {next whole : List A} {x y : A} → i < length xs
    → x ≡ get_or xs i x → y ≡ x → next ≡ done ++ y ∷ [] → done ++ drop i xs ≡ whole
    → next ++ drop (i + 1) xs ≡ whole
copied_more xs done i {next} {whole} {x} {y} h e same pushed so_far =
    ap (λ l. l ++ drop (i + 1) xs) pushed
    ∙ append_assoc done (y ∷ []) (drop (i + 1) xs)
    ∙ ap (λ z. done ++ z ∷ drop (i + 1) xs) same
    ∙ ap (λ l. done ++ l) (sym (drop_at xs i x h e))
    ∙ so_far
