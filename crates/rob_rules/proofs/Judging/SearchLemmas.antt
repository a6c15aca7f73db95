-- The first item that passes a test.
use Rattle.std.proofs.Common.{◌≡◌, ℕ, ◌+◌, ◌<◌, Bool, false, cond, List, length, drop, get_or, sym, ap, ◌∙◌}
use Rattle.std.specs.Prelude.{Option, Some}
use Rattle.std.specs.List.{find}
use Rattle.std.proofs.lemmas.List.{at_drop_more}

-- an item that doesn't pass is left behind
pub find_more : {X : Type 0} (test : X → Bool) (xs : List X) (i : ℕ) (d : X) {result : Option X} → i < length xs
    → false ≡ test (get_or xs i d) → find test (drop i xs) ≡ result → find test (drop (i + 1) xs) ≡ result
find_more {X} test xs i d inside fails so_far =
    ap (λ (b : Bool). cond b (Some (get_or xs i d)) (find test (drop (i + 1) xs))) fails
    ∙ sym (at_drop_more (find test) xs i d inside) ∙ so_far
