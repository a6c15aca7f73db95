-- Things gathered in order, each computed when it is its turn, and nothing where one of them is missing.
use Rattle.std.specs.Prelude.{List, [], ◌∷◌, ◌++◌, Option, Some, option_map}
use Rattle.rob_model.specs.Within.{◌>>=◌}

-- all of them in order
abbrev pub all_of : {A : Type 0} → List (Option A) → Option (List A)
all_of [] = Some []
all_of (x ∷ xs) = x >>= (λ y. all_of xs >>= (λ ys. Some (y ∷ ys)))

-- all of them behind those that there are
abbrev pub gathered : {A : Type 0} → List A → List (Option A) → Option (List A)
gathered so_far xs = option_map (λ ys. so_far ++ ys) (all_of xs)
