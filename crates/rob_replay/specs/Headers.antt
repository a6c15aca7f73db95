-- The header of a scenario file: the names of the joint parameters in some order. Since names differ, that is as many
-- fields as there are joint parameters, among which the name of each is found.
use Rattle.std.specs.Prelude.{ℕ, suc, List, [], ◌∷◌, length, map, Option, Some, None, bytes_eq, ◌==◌, if◌then◌else◌}
use Rattle.rob_algebra.specs.Fraction.{Fraction}
use Rattle.rob_meaning.specs.Names.{Name}
use Rattle.rob_meaning.specs.Places.{at}
use Rattle.rob_replay.specs.Gathering.{all_of}

-- the place of the first field that is the name, the first of all having place k
abbrev pub place_from : ℕ → List Name → Name → Option ℕ
place_from k [] name = None
place_from k (field ∷ fields) name = if bytes_eq field name then Some k else place_from (suc k) fields name

-- the place of each name
abbrev pub places_in : List Name → List Name → Option (List ℕ)
places_in header names = all_of (map (place_from 0 header) names)

-- the place of each joint parameter, if the header is one for these names; a model with no parameter has none
abbrev pub header_places : List Name → List Name → Option (List ℕ)
header_places header [] = None
header_places header (name ∷ names) =
    if length header == length (name ∷ names) then places_in header (name ∷ names) else None

-- the joint scenario of a record: for each joint parameter the number at its place
abbrev pub scenario_at : List ℕ → List Fraction → List Fraction
scenario_at places numbers = map (at numbers) places
