-- What a shelf tells of its files, and what a fetch finds in them.
--
--   File                      a name, and the bytes under it; `file_of name bytes` makes one
--   file_at name files        the bytes of the first file of that name, if there is one
--   IsFirst name bytes files  the same as a relation: the first file of that name holds these bytes
--   Found                     what is found: the whole file, no file, or a file that is too long
--   found_at name max files   what a fetch of at most `max` bytes has to find under the name
--   found_of fetched          what a fetch answered, without the place where its bytes stand
--   Finds                     the fetch found what it had to, where the files are told and it answered no error
--   IsAtMost max              no more than `max` bytes came
use Rattle.std.specs.Prelude.{◌≡◌, ◌≢◌, ℕ, All, ◌++◌, ◌≤◌, nat_le, List, [], ◌∷◌, length, Option, Some, None, Result, IfSome, IfOk, if◌then◌else◌}
use Rattle.std.specs.Str.{bytes_eq}
use Rattle.rob_outside.specs.declared.shelf.Fetched.{Fetched}
use Rattle.rob_outside.specs.declared.shelf.Fetched.TheVariants.{Bytes, Missing, TooLong}

-- a file: its name and its bytes
pub record File : Type 0 where
  pub name : List ℕ
  pub bytes : List ℕ

-- the file of that name with these bytes
abbrev pub file_of : List ℕ → List ℕ → File
file_of name bytes = record { name = name; bytes = bytes }

-- the bytes of the first file of that name, if there is one
abbrev pub file_at : List ℕ → List File → Option (List ℕ)
file_at name [] = None
file_at name (file ∷ files) = if bytes_eq file.name name then Some file.bytes else file_at name files

-- the first file of that name holds these bytes; others of the name stand behind it at most
pub record IsFirst (name bytes : List ℕ) (files : List File) : Type 0 where
  pub front : List File
  pub back : List File
  pub split : files ≡ front ++ file_of name bytes ∷ back
  pub others : All (λ file. file.name ≢ name) front

-- what is found under a name: the whole file, no file, or a file that is too long
pub data Found : Type 0 where
  whole : (bytes : List ℕ) → Found
  missing : Found
  too_long : Found

-- what is found of a file where at most `max` bytes are wanted
abbrev pub found_within : ℕ → Option (List ℕ) → Found
found_within max None = missing
found_within max (Some bytes) = if nat_le (length bytes) max then whole bytes else too_long

-- what a fetch of at most `max` bytes has to find under the name
abbrev pub found_at : List ℕ → ℕ → List File → Found
found_at name max files = found_within max (file_at name files)

-- what a fetch answered, without the place where its bytes stand
abbrev pub found_of : Fetched → Found
found_of (Bytes bytes) = whole bytes.items
found_of Missing = missing
found_of TooLong = too_long

-- where the files are told and the answer is no error, the fetch found what it had to
abbrev pub Finds : {E : Type 0} → Option (List File) → List ℕ → ℕ → Result Fetched E → Type 0
Finds told name max result =
    IfSome told (λ files. IfOk result (λ fetched. found_of fetched ≡ found_at name max files))

-- no more than `max` bytes came
abbrev pub IsAtMost : ℕ → Fetched → Type 0
IsAtMost max (Bytes bytes) = length bytes.items ≤ max
IsAtMost max Missing = Unit {0}
IsAtMost max TooLong = Unit {0}
