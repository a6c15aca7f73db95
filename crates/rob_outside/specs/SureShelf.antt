-- A shelf in memory that never fails, as contracts see it.
use Rattle.std.specs.Prelude.{List, []}
use Rattle.rob_outside.specs.Fetches.{Fetch}
use Rattle.rob_outside.specs.Files.{File}

-- the files in the order of their adding, and the fetches so far
pub record SureState : Type 0 where
  pub files : List File
  pub log : List Fetch

-- the shelf without a file, before its first fetch
abbrev pub empty_files : SureState
empty_files = record { files = []; log = [] }
