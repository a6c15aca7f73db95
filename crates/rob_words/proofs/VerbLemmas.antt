-- Facts of the tables of commands, each decided by going over all commands.
use Rattle.std.proofs.Common.{◌≡◌, ◌≤◌, ◌==◌, ◌||◌, Bool, true, false, not, arith, refl, [], ◌∷◌, length, rules}
use Rattle.std.specs.Prelude.{leb}
use Rattle.std.specs.Str.{bytes_eq}
use Rattle.std.proofs.lemmas.Bool.{leb-true}
use Rattle.std.proofs.lemmas.Bool.Decides.{nat_tests}
use Rattle.std.proofs.lemmas.Slice.Eq.{bytes_eq-Decides}
use denote.Enum.Bare.{same_true, sameb}
use Rattle.rob_words.specs.contracts.verb.Verb.{enum, the_type}
use Rattle.rob_words.specs.Values.{Word}
use Rattle.rob_words.specs.Commands.{IsPlain}
use Rattle.rob_words.specs.Verbs.{own_of, verb_word}
use Rattle.rob_words.specs.declared.verb.Verb.{Verb}
use Rattle.rob_words.proofs.EachValue.{all_values, each_value}

-- a command has three own words at most
pub own-few : (verb : Verb) → length (own_of verb) ≤ 3
own-few verb = leb-true (length (own_of verb)) 3 (each_value enum (λ v. leb (length (own_of v)) 3) refl verb)

-- the name of a command is plain
abbrev is_plain : Word → Bool
is_plain [] = false
is_plain (byte ∷ bytes) = not (byte == 45)

plain_word : (word : Word) → is_plain word ≡ true → IsPlain word
plain_word [] e = search (e, rules)
plain_word (byte ∷ bytes) e = λ same. (let no : (byte == 45) ≡ true = grind (arith, nat_tests) in search (e, no, rules))

pub verb_word-plain : (verb : Verb) → IsPlain (verb_word verb)
verb_word-plain verb = plain_word (verb_word verb) (each_value enum (λ v. is_plain (verb_word v)) refl verb)

-- a name is that of one command
abbrev tells_apart : Verb → Verb → Bool
tells_apart a b = not (bytes_eq (verb_word a) (verb_word b)) || sameb the_type a b

told_apart : (a b : Verb) → tells_apart a b ≡ true
told_apart a b =
    each_value enum (λ v. tells_apart a v) (each_value enum (λ u. all_values enum (λ v. tells_apart u v)) refl a) b

or_second : (a b : Bool) → (not a || b) ≡ true → a ≡ true → b ≡ true
or_second true b e same = e
or_second false b e same = absurd (search (same, rules))

pub verb_word-one : (a b : Verb) → verb_word a ≡ verb_word b → a ≡ b
verb_word-one a b e =
    same_true the_type tt a b
    (or_second (bytes_eq (verb_word a) (verb_word b)) (sameb the_type a b) (told_apart a b)
    ((bytes_eq-Decides (verb_word a) (verb_word b)).1 e))
