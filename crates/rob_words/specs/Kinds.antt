-- What a command's own words have to be, by their kinds.
use Rattle.std.specs.Prelude.{ℕ, ◌<◌, ◌≤◌, ◌^◌, List, ◌∷◌, length}
use Rattle.std.specs.Str.Parse.{IsNumeral, digits_value}
use Rattle.rob_words.specs.Cuts.{IsCut, IsCutList}
use Rattle.rob_words.specs.Limits.{IsLimit, IsLimitList}
use Rattle.rob_words.specs.Names.{IsName, IsNameList}
use Rattle.rob_words.specs.Values.{Word}
use Rattle.rob_words.specs.declared.verb.Own.{Own}
use Rattle.rob_words.specs.declared.verb.Own.TheVariants.{Number, Names, Statement, Limit, Limits, Cuts}

-- the number that decimal digits spell
abbrev pub number_of : Word → ℕ
number_of word = digits_value 10 word

-- the word is 1 to 10 decimal digits, which spell a number below 2^32; the first may be zeros
pub record IsNumber (word : Word) : Type 0 where
  pub digits : IsNumeral 10 word
  pub few : length word ≤ 10
  pub fits : number_of word < 2 ^ 32

-- the word is 1 to 3 decimal digits, which are the number of a statement
pub record IsStatement (word : Word) : Type 0 where
  pub number : IsNumber word
  pub few : length word ≤ 3

-- the word may stand in a list of this kind, at a width with this greatest number; the other kinds are no lists
abbrev pub IsPart : ℕ → Own → Word → Type 0
IsPart greatest Names word = IsName word
IsPart greatest Limits word = IsLimit greatest word
IsPart greatest Cuts word = IsCut greatest word
IsPart greatest _ word = ⊥

-- the word is one of the kind, at a width with this greatest number: where that names a file or a form, any plain word
-- is
abbrev pub IsOfKind : ℕ → Own → Word → Type 0
IsOfKind greatest Number word = IsNumber word
IsOfKind greatest Names word = IsNameList word
IsOfKind greatest Statement word = IsStatement word
IsOfKind greatest Limit word = IsLimit greatest word
IsOfKind greatest Limits word = IsLimitList greatest word
IsOfKind greatest Cuts word = IsCutList greatest word
IsOfKind greatest _ word = Unit {0}

-- each word is one of its kind
abbrev pub AreOfKinds : ℕ → List Own → List Word → Type 0
AreOfKinds greatest (kind ∷ kinds) (word ∷ words) = IsOfKind greatest kind word × AreOfKinds greatest kinds words
AreOfKinds greatest _ _ = Unit {0}
