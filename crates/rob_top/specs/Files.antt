-- The files that a call's words name: what is found of them, and in which order they are fetched.
use Rattle.std.specs.Prelude.{◌≡◌, ◌≢◌, ◌⊎◌, ℕ, zero, suc, ◌==◌, ◌&&◌, Bool, true, false, List, [], ◌∷◌, ◌++◌, map, Option, Some, None, IfSome, option_map, if◌then◌else◌}
use Rattle.std.specs.Str.{bytes_eq}
use denote.Enum.Bare.{sameb}
use Rattle.rob_meaning.specs.Places.{Each}
use Rattle.rob_outside.specs.Fetches.{Fetch}
use Rattle.rob_outside.specs.Files.{Found, whole, found_at}
use Rattle.rob_top.specs.Calls.{Call, Source, behind}
use Rattle.rob_words.specs.Commands.{Line, IsSpelled}
use Rattle.rob_words.specs.Values.{Word}
use Rattle.rob_words.specs.Verbs.{own_of}
use Rattle.rob_words.specs.contracts.verb.Own.{the_type}
use Rattle.rob_words.specs.declared.verb.Own.TheVariants.{Model, Certificate, Scenarios, Tree as OwnTree}
use Rattle.rob_words.specs.declared.verb.Own.{Own}

-- a file that a command names: its place among the files of a call, from 0, its name, and how many bytes it may have
pub record Request : Type 0 where
  pub place : ℕ
  pub name : Word
  pub most : ℕ

-- the same file behind one more
abbrev pub later : Request → Request
later request = record request { place = suc request.place }

-- what the fetch of this place found, if it asked for this name and bound; nothing, if none did or it answered an error
abbrev pub answer_at : ℕ → Word → ℕ → List Fetch → Option Found
answer_at place name most [] = None
answer_at zero name most (fetch ∷ fetches) =
    if (fetch.most == most) && bytes_eq fetch.name name then fetch.found else None
answer_at (suc place) name most (fetch ∷ fetches) = answer_at place name most fetches

-- what the fetch of the file found, which has the file's place among the fetches of the call
abbrev pub answer_to : Request → List Fetch → Option Found
answer_to request fetches = answer_at request.place request.name request.most fetches

-- this is found of the file, by its fetch in the call, and by the told files: all its bytes, no such file, or too many
abbrev pub IsFoundIn : Source → Request → Found → Type 0
IsFoundIn source request found =
    IfSome source.told (λ files. found_at request.name request.most files ≡ found)
    × IfSome source.came (λ fetches. answer_to request fetches ≡ Some found)

-- how many bytes a file of this kind may have; nothing where the kind names no file
abbrev pub most_of : Own → Option ℕ
most_of Model = Some 65536
most_of Certificate = Some 4194304
most_of Scenarios = Some 4194304
most_of OwnTree = Some 67108864
most_of _ = None

-- the file of this name, of at most so many bytes, where it is the first
abbrev pub file_of : ℕ → Word → Request
file_of most name = record { place = 0; name = name; most = most }

-- the files that words name, with one word more in front of them, where that names a file
abbrev pub with_first : Option ℕ → Word → List Request → List Request
with_first None name files = files
with_first (Some most) name files = file_of most name ∷ map later files

-- the files that own words of these kinds name, in their order
abbrev pub files_of : List Own → List Word → List Request
files_of (kind ∷ kinds) (name ∷ names) = with_first (most_of kind) name (files_of kinds names)
files_of _ _ = []

-- the files that a command line names, in the order of its words
abbrev pub requests : Line → List Request
requests line = files_of (own_of line.verb) line.own

-- the words are a command line that names some file
pub record NamesFile (words : List Word) : Type 0 where
  pub line : Line
  pub spelled : IsSpelled words line
  pub some : requests line ≢ []

-- the file that is asked for among words, with one word more in front of them, which is of its kind or isn't
abbrev pub first_or : Option ℕ → Bool → Word → Option Request → Option Request
first_or None same name request = request
first_or (Some most) true name request = Some (file_of most name)
first_or (Some most) false name request = option_map later request

-- the file that the first own word of this kind names, among own words of these kinds
abbrev pub request_of : Own → List Own → List Word → Option Request
request_of kind (other ∷ kinds) (name ∷ names) =
    first_or (most_of other) (sameb the_type other kind) name (request_of kind kinds names)
request_of kind _ _ = None

-- the first own word of this kind, among own words of these kinds
abbrev pub word_of : Own → List Own → List Word → Option Word
word_of kind (other ∷ kinds) (word ∷ words) =
    if sameb the_type other kind then Some word else word_of kind kinds words
word_of kind _ _ = None

-- the fetch asks for this file
abbrev pub IsFetchOf : Request → Fetch → Type 0
IsFetchOf request fetch = (fetch.name ≡ request.name) × (fetch.most ≡ request.most)

-- the fetch found the whole file
abbrev pub CameWhole : Fetch → Type 0
CameWhole fetch = (bytes : List ℕ) × (fetch.found ≡ Some (whole bytes))

-- the fetches ask for the first of these files, in order and each at most once, and none stands behind one that
-- didn't come whole
abbrev pub AsksInOrder : List Request → List Fetch → Type 0
AsksInOrder requests [] = Unit {0}
AsksInOrder [] (fetch ∷ fetches) = ⊥
AsksInOrder (request ∷ requests) (fetch ∷ fetches) =
    IsFetchOf request fetch × ((fetches ≡ []) ⊎ (CameWhole fetch × AsksInOrder requests fetches))

-- the fetches of a call with these words stand behind the earlier ones: there is none, or the words are a command
-- line, and its files are asked for in the order of the words, each word's once at most, and none behind one that
-- didn't come whole
pub record Fetches (words : List Word) (before now : List Fetch) : Type 0 where
  pub grown : now ≡ before ++ behind before now
  pub in_order : (behind before now ≡ [])
      ⊎ ((line : Line) × IsSpelled words line × AsksInOrder (requests line) (behind before now))

module _ (call : Call) where
  -- this is what is found of a file
  abbrev pub IsFound : Request → Found → Type 0
  IsFound request found = IsFoundIn call.source request found

  -- the file came whole
  abbrev pub Came : Request → Type 0
  Came request = (bytes : List ℕ) × IsFound request (whole bytes)

  -- the file of this kind that the line names came, with these bytes
  pub record HasFile (line : Line) (kind : Own) (bytes : List ℕ) : Type 0 where
    pub request : Request
    pub named : request_of kind (own_of line.verb) line.own ≡ Some request
    pub found : IsFound request (whole bytes)

  -- of the files that the command line names this is the first, in the order of the words, that doesn't come whole,
  -- and this is what is found of it
  pub record IsFirstAbsent (found : Found) (name : Word) : Type 0 where
    pub line : Line
    pub spelled : IsSpelled call.words line
    pub before : List Request
    pub request : Request
    pub behind : List Request
    pub order : requests line ≡ before ++ request ∷ behind
    pub came : Each Came before
    pub absent : IsFound request found
    pub named : request.name ≡ name
