-- What stands behind the name of a command, as `clap` reads it: by the command's own words and options alone.
use Rattle.std.specs.Prelude.{◌≡◌, ◌++◌, Bool, true, false, List, [], ◌∷◌, Some, codes}
use Rattle.clap.specs.Words.{App, Rule, first_value, found_of, new_app, new_rule, with_rule}
use Rattle.clap.specs.declared.parser.matches.ArgMatches.{ArgMatches}
use Rattle.rob_words.specs.Texts.{Holding, listed}
use Rattle.rob_words.specs.Values.{Word}
use Rattle.rob_words.specs.Verbs.{own_of, takes_route}
use Rattle.rob_words.specs.declared.verb.Own.{Own}
use Rattle.rob_words.specs.declared.verb.Verb.{Verb}

-- an option with one value
abbrev pub setting : Word → Rule
setting name = record (new_rule name) { long = Some name }

-- a required word
abbrev pub own_word : Word → Rule
own_word name = record (new_rule name) { required = true }

-- a command with no help and with the option `bits`
abbrev pub with_bits : App
with_bits = let app = new_app (codes "robust") in
    with_rule (record app { top = record app.top { disable_help_flag = true } }) (setting (codes "bits"))

-- with the option `route`, or without it
abbrev pub with_route : Bool → App → App
with_route true app = with_rule app (setting (codes "route"))
with_route false app = app

-- with a required word for each of a command's own, of which there are three at most
abbrev pub with_words : List Own → App → App
with_words [] app = app
with_words (_ ∷ []) app = with_rule app (own_word (codes "first"))
with_words (_ ∷ _ ∷ []) app = with_rule (with_rule app (own_word (codes "first"))) (own_word (codes "second"))
with_words (_ ∷ _ ∷ _ ∷ _) app =
    with_rule (with_rule (with_rule app (own_word (codes "first"))) (own_word (codes "second")))
    (own_word (codes "third"))

-- each command: its options, and its own words
abbrev pub grammar : Verb → App
grammar verb = with_words (own_of verb) (with_route (takes_route verb) with_bits)

-- these texts were found
pub record Finds (matches : ArgMatches) (texts : Holding) : Type 0 where
  pub own : texts.own ≡ listed (first_value (found_of matches) (codes "first"))
      ++ (listed (first_value (found_of matches) (codes "second"))
      ++ listed (first_value (found_of matches) (codes "third")))
  pub bits : first_value (found_of matches) (codes "bits") ≡ texts.bits
  pub way : first_value (found_of matches) (codes "route") ≡ texts.way
