-- What the code keeps, as the definitions speak of it.
use Rattle.std.specs.Prelude.{ℕ, List, map, Vec}
use Rattle.std.specs.declared.alloc.Global.{Global}

-- the words in a list of owned ones
abbrev pub texts : List (Vec ℕ Global) → List (List ℕ)
texts keys = map (λ (v : Vec ℕ Global). v.items) keys
