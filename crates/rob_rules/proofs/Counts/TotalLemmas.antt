-- The canonical tokens of the lines so far, from what is left of their room.
use Rattle.std.proofs.Common.{◌≡◌, ℕ, ◌-◌, ◌≤◌, Some, sym, ◌∙◌}
use Rattle.rob_settings.specs.Room.{left_of}
use Rattle.rob_settings.proofs.RoomLemmas.{left_some}

-- what is left
pub left_is : (tokens room left : ℕ) → tokens ≤ room → left_of tokens room ≡ Some left → left ≡ room - tokens
left_is tokens room left fits is =
    let e : Some (room - tokens) ≡ Some left = sym (left_some tokens room fits) ∙ is in cc
