-- The settings of ranges, and what is left of a room behind them, one after the other.
use Rattle.std.specs.Prelude.{ℕ, ℤ, List, [], ◌∷◌, Option, Some}
use Rattle.std.specs.List.{flat_map}
use Rattle.rob_index.specs.Settings.{count, upwards}
use Rattle.rob_index.specs.Forms.{Ends, extensions}
use Rattle.rob_settings.specs.Room.{after}

-- what is left behind each of these, in order
abbrev pub all_left : {A : Type 0} → (A → ℕ → Option ℕ) → List A → ℕ → Option ℕ
all_left left [] room = Some room
all_left left (x ∷ xs) room = after (left x room) (all_left left xs)

-- all settings of a range with these ends, and of the ranges inside it
abbrev pub between : ℤ → ℤ → List Ends → List ℤ → List (List ℤ)
between from upto inner vs = flat_map (λ v. extensions inner (v ∷ vs)) (upwards from (count from upto))
