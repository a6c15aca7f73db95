-- The texts that the words behind a command's name hold, before options are judged.
use Rattle.std.specs.Prelude.{◌≡◌, ◌≢◌, ◌⊎◌, ℕ, Bool, true, false, List, [], ◌∷◌, length, map, Option, Some, None, option_map, string_bytes}
use Rattle.rob_words.specs.Values.{Word}
use Rattle.rob_words.specs.Commands.{Part, own, apart, joined, ArePlain, words_of, own_words, bits, route, values_of}
use Rattle.rob_words.specs.Verbs.{own_of, takes_route}
use Rattle.rob_words.specs.declared.error.WordsErr.{WordsErr}
use Rattle.rob_words.specs.declared.error.WordsErr.TheVariants.{NoCommandLine, Memory}
use Rattle.rob_words.specs.declared.grammar.Texts.{Texts}
use Rattle.rob_words.specs.declared.verb.Verb.{Verb}

-- the words of which there is one or none
abbrev pub listed : Option Word → List Word
listed None = []
listed (Some word) = word ∷ []

-- the words that stand for themselves: own words, and values in a word apart
abbrev pub bare_words : List Part → List Word
bare_words [] = []
bare_words (own word ∷ parts) = word ∷ bare_words parts
bare_words (apart setting value ∷ parts) = value ∷ bare_words parts
bare_words (joined setting value ∷ parts) = bare_words parts

-- a command that doesn't take a route is given none
abbrev pub TakesRoute : Bool → Option Word → Type 0
TakesRoute true way = Unit {0}
TakesRoute false way = way ≡ None

-- what was found in words
pub record Holding : Type 0 where
  pub own : List Word
  pub bits : Option Word
  pub way : Option Word

-- the parts hold the texts, of a command that takes a route or doesn't, and has so many own words
pub record Hold (takes : Bool) (count : ℕ) (parts : List Part) (found : Holding) : Type 0 where
  pub own : own_words parts ≡ found.own
  pub all : length found.own ≡ count
  pub plain : ArePlain (bare_words parts)
  pub bits : values_of bits parts ≡ listed found.bits
  pub way : values_of route parts ≡ listed found.way
  pub takes_route : TakesRoute takes found.way

-- what the texts of the code are
abbrev pub holding_of : Texts → Holding
holding_of texts = record {
  own = map string_bytes texts.own.items;
  bits = option_map (λ s. s.now) texts.bits;
  way = option_map (λ s. s.now) texts.route;
}

-- the words are the spelling of parts that hold the texts
abbrev pub Holds : Verb → List Word → Holding → Type 0
Holds verb words found =
    (parts : List Part) × (words ≡ words_of parts) × Hold (takes_route verb) (length (own_of verb)) parts found

-- words begin with this one, and those behind it hold the texts
abbrev pub HoldsBehind : Verb → List Word → Holding → Type 0
HoldsBehind verb [] found = ⊥
HoldsBehind verb (name ∷ words) found = Holds verb words found

-- an error comes where the words hold no texts, or where memory is refused
abbrev pub HasNoTexts : Verb → List Word → WordsErr → Type 0
HasNoTexts verb words NoCommandLine = (found : Holding) → HoldsBehind verb words found → ⊥
HasNoTexts verb words Memory = Unit {0}

-- these bytes are another `-` and more
abbrev pub IsLong : List ℕ → Type 0
IsLong [] = ⊥
IsLong (byte ∷ []) = ⊥
IsLong (byte ∷ next ∷ bytes) = byte ≡ 45

-- the word is plain, or it begins with `--` and has more bytes
abbrev pub IsAdmitted : Word → Type 0
IsAdmitted [] = ⊥
IsAdmitted (byte ∷ bytes) = (byte ≢ 45) ⊎ ((byte ≡ 45) × IsLong bytes)

-- each of the words is
abbrev pub AreAdmitted : List Word → Type 0
AreAdmitted [] = Unit {0}
AreAdmitted (word ∷ words) = IsAdmitted word × AreAdmitted words
