-- What the ends of nested ranges tell, whatever is asked of them.
use Rattle.std.specs.Prelude.{◌≡◌, List, [], ◌∷◌, true, false}
use Rattle.rob_index.specs.Forms.{Ends, all_run, is_dead}
use Rattle.rob_ranges.specs.declared.nest.Told.{Told}

-- what the ends of a nest tell, the innermost first
pub record IsTold (nest : List Ends) (told : Told) : Type 0 where
  pub runs : told.runs ≡ all_run nest
  pub dead : told.dead ≡ is_dead nest

-- the last that is told; where nothing is, what is told of no range
abbrev pub last_told : List Told → Told
last_told [] = record { runs = true; dead = false }
last_told (t ∷ []) = t
last_told (t ∷ u ∷ ts) = last_told (u ∷ ts)

-- the same of each range of some, the outermost first, inside a nest; of the inner ones it may be missing
abbrev pub AreTold : List Ends → List Ends → List Told → Type 0
AreTold nest rs [] = Unit {0}
AreTold nest [] (t ∷ ts) = ⊥
AreTold nest (r ∷ rs) (t ∷ ts) = IsTold (r ∷ nest) t × AreTold (r ∷ nest) rs ts

-- all but the last of a list
abbrev pub all_but_last : {A : Type 0} → List A → List A
all_but_last [] = []
all_but_last (x ∷ []) = []
all_but_last (x ∷ y ∷ ys) = x ∷ all_but_last (y ∷ ys)
