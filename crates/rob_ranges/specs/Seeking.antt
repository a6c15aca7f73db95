-- One step of the search for a place where a form reaches a bound.
use Rattle.std.specs.Prelude.{ℕ, ℤ, List, [], ◌∷◌}
use Rattle.rob_index.specs.Forms.{Form, Ends, values_of}
use Rattle.rob_index.specs.Search.{Searched, missed, search, search_each}

-- values are put in for the outermost range, one after the other
abbrev pub seek : ℕ → List Ends → List ℤ → Form → ℤ → ℕ → Searched
seek price [] vs f bound left = missed left
seek price (r ∷ rs) vs f bound left =
    search_each (λ v left. search price rs (v ∷ vs) f bound left) price (values_of r vs) left
