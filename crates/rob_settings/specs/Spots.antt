-- The items of a list that aren't idle in a setting: these alone have entries there, and where ranges that are too long
-- count too, these alone have one there.
use Rattle.std.specs.Prelude.{◌≡◌, ℕ, ℤ, ◌&&◌, not, Bool, false, List, [], ◌∷◌, take, drop, if◌then◌else◌}
use Rattle.std.specs.List.{flat_map}
use Rattle.rob_syntax.specs.Plain.{is_nothing}
use Rattle.rob_index.specs.Forms.{extensions}
use Rattle.rob_settings.specs.declared.item.Item.{Item}
use Rattle.rob_settings.specs.declared.spot.Spot.{Spot}
use Rattle.rob_settings.specs.Inner.{is_long_in}

-- the ranges of an item have no setting at these values; and, where it has to be short, none of them has more than 100
-- values
abbrev pub is_idle : Bool → Item → List ℤ → Bool
is_idle short x vs = is_nothing (extensions x.ranges vs) && not (short && is_long_in x.ranges vs)

-- the items that aren't idle
abbrev pub busy : Bool → List Item → List ℤ → List Item
busy short [] vs = []
busy short (x ∷ xs) vs = if is_idle short x vs then busy short xs vs else x ∷ busy short xs vs

-- the item at a place, if there is one
abbrev pub pick : List Item → ℕ → List Item
pick xs k = take 1 (drop k xs)

-- the items at these places
abbrev pub picks : List Item → List ℕ → List Item
picks xs ks = flat_map (pick xs) ks

-- the items at these places are all, but for some that are idle at these values
abbrev pub IsThinAt : Bool → List Item → List ℕ → List ℤ → Type 0
IsThinAt short xs ks vs = busy short (picks xs ks) vs ≡ busy short xs vs

-- a setting has the places of such items, which need not be short
abbrev pub IsThin : List Item → Spot → Type 0
IsThin xs spot = IsThinAt false xs spot.kept spot.values
