-- The room for tokens: what is left of it behind some tokens, and what stands behind a count that stops.
use Rattle.std.specs.Prelude.{◌≡◌, ℕ, ◌-◌, nat_le, Option, Some, None, if◌then◌else◌}
use Rattle.rob_settings.specs.declared.room.Stop.{Stop}
use Rattle.rob_settings.specs.declared.room.Stop.TheVariants.{TooMuch, Memory}

-- what is left of the room behind so many tokens, if they are there
abbrev pub left_of : ℕ → ℕ → Option ℕ
left_of tokens room = if nat_le tokens room then Some (room - tokens) else None

-- what comes behind, where there was room
abbrev pub after : {A B : Type 0} → Option A → (A → Option B) → Option B
after None f = None
after (Some x) f = f x

-- a count stops for want of room where nothing is left; want of memory has no cause
abbrev pub HasStop : {A : Type 0} → Option A → Stop → Type 0
HasStop left TooMuch = left ≡ None
HasStop left Memory = Unit {0}
