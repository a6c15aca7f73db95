-- The command lines that the program knows.
--
-- A command line is the name of a command, and behind it parts in any order: the command's own words, which name files
-- or are numbers, and options. An option is one word or two: `--bits=8` or `--bits 8`.
use Rattle.std.specs.Prelude.{◌≡◌, ◌≢◌, ◌⊎◌, Bool, true, false, List, [], ◌∷◌, ◌++◌, codes, length}
use Rattle.rob_words.specs.Kinds.{AreOfKinds}
use Rattle.rob_words.specs.Values.{Word, greatest_of, width_text, route_text}
use Rattle.rob_words.specs.Verbs.{own_of, takes_route, verb_word}
use Rattle.rob_words.specs.declared.route.Route.{Route}
use Rattle.rob_words.specs.declared.route.Route.TheVariants.{Dual}
use Rattle.rob_words.specs.declared.verb.Verb.{Verb}
use Rattle.rob_words.specs.declared.width.Width.{Width}
use Rattle.rob_words.specs.declared.width.Width.TheVariants.{SixtyTwo}

-- what a command line says: a command, its own words in their order, a route and a width
pub record Line : Type 0 where
  pub verb : Verb
  pub own : List Word
  pub way : Route
  pub width : Width

-- the options
pub data Setting : Type 0 where
  bits : Setting
  route : Setting

-- a part of a command line behind the command's name: a word of its own, an option with its value behind it in a word
-- apart, or an option with its value joined to it
pub data Part : Type 0 where
  own : (word : Word) → Part
  apart : (setting : Setting) (value : Word) → Part
  joined : (setting : Setting) (value : Word) → Part

-- the word of an option
abbrev pub setting_word : Setting → Word
setting_word bits = codes "--bits"
setting_word route = codes "--route"

-- the words of a part
abbrev pub spelling : Part → List Word
spelling (own word) = word ∷ []
spelling (apart setting value) = setting_word setting ∷ value ∷ []
spelling (joined setting value) = (setting_word setting ++ (codes "=" ++ value)) ∷ []

-- the words of parts
abbrev pub words_of : List Part → List Word
words_of [] = []
words_of (part ∷ parts) = spelling part ++ words_of parts

-- the own words among parts
abbrev pub own_words : List Part → List Word
own_words [] = []
own_words (own word ∷ parts) = word ∷ own_words parts
own_words (_ ∷ parts) = own_words parts

-- the values that parts give to an option
abbrev pub values_of : Setting → List Part → List Word
values_of setting [] = []
values_of bits (apart bits value ∷ parts) = value ∷ values_of bits parts
values_of bits (joined bits value ∷ parts) = value ∷ values_of bits parts
values_of route (apart route value ∷ parts) = value ∷ values_of route parts
values_of route (joined route value ∷ parts) = value ∷ values_of route parts
values_of setting (_ ∷ parts) = values_of setting parts

-- the word is plain, as names of files and values are: it has a byte, and doesn't begin with `-`
abbrev pub IsPlain : Word → Type 0
IsPlain [] = ⊥
IsPlain (byte ∷ bytes) = byte ≢ 45

-- each of the words is plain
abbrev pub ArePlain : List Word → Type 0
ArePlain [] = Unit {0}
ArePlain (word ∷ words) = IsPlain word × ArePlain words

-- an option is given once, and then says x, or not at all, and then x is the default
abbrev pub Says : {X : Type 0} → (X → Word) → X → List Word → X → Type 0
Says text default values x = (values ≡ text x ∷ []) ⊎ ((values ≡ []) × (x ≡ default))

-- the route is told to a command that takes one; no other has that option, and its route is the default
abbrev pub TellsRoute : Bool → List Word → Route → Type 0
TellsRoute true values way = Says route_text Dual values way
TellsRoute false values way = (values ≡ []) × (way ≡ Dual)

-- these parts behind the command's name are the words of the line
pub record HasParts (words : List Word) (line : Line) (parts : List Part) : Type 0 where
  pub spelled : words ≡ verb_word line.verb ∷ words_of parts
  pub own : own_words parts ≡ line.own
  pub count : length line.own ≡ length (own_of line.verb)
  pub names : ArePlain line.own
  pub kinds : AreOfKinds (greatest_of line.width) (own_of line.verb) line.own
  pub width : Says width_text SixtyTwo (values_of bits parts) line.width
  pub route : TellsRoute (takes_route line.verb) (values_of route parts) line.way

-- the words spell the line
abbrev pub IsSpelled : List Word → Line → Type 0
IsSpelled words line = (parts : List Part) × HasParts words line parts

-- the words are a command line
abbrev pub IsCommandLine : List Word → Type 0
IsCommandLine words = (line : Line) × IsSpelled words line
