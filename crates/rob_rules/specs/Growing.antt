-- Names among words.
use Rattle.std.specs.Prelude.{◌≡◌, true, List, [], ◌∷◌}
use Rattle.std.specs.Str.{bytes_eq}
use Rattle.std.specs.List.{list_any}
use Rattle.rob_index.specs.Statements.{Name}

-- the name is among the words
abbrev pub IsAmong : List Name → Name → Type 0
IsAmong words name = list_any (bytes_eq name) words ≡ true

-- each name is
abbrev pub AreAmong : List Name → List Name → Type 0
AreAmong words [] = Unit {0}
AreAmong words (n ∷ ns) = IsAmong words n × AreAmong words ns
