-- A command with so many words more is the one with each of its own words.
use Rattle.std.proofs.Common.{◌≡◌, ◌∙◌, ◌<◌, ◌≤◌, ap, arith, List, [], ◌∷◌, length, Result, Ok, Err, IfOk, codes}
use Rattle.clap.specs.Simple.{App, app_of, with_rule}
use Rattle.clap.specs.declared.builder.command.Command.{Command}
use Rattle.rob_words.specs.Grammar.{own_word, with_words}
use Rattle.rob_words.specs.declared.verb.Own.{Own}

-- the command that was made is this one
abbrev pub Makes : {E : Type 0} → Result Command E → App → Type 0
Makes r app = IfOk r (λ c. app_of c ≡ app)

made_as : {E : Type 0} (r : Result Command E) (a b : App) → a ≡ b → Makes r a → Makes r b
made_as (Ok c) a b e h = h ∙ e
made_as (Err x) a b e h = tt

pub one_made : {E : Type 0} (own : List Own) (app : App) (r : Result Command E) → 1 ≤ length own → length own < 2
    → Makes r (with_rule app (own_word (codes "first"))) → Makes r (with_words own app)
one_made [] app r low high h = absurd (omega (arith, low))
one_made (k ∷ []) app r low high h = h
one_made (k ∷ l ∷ more) app r low high h = absurd (omega (arith, high))

pub two_made : {E : Type 0} (own : List Own) (app first : App) (r : Result Command E) → 2 ≤ length own → length own < 3
    → first ≡ with_rule app (own_word (codes "first")) → Makes r (with_rule first (own_word (codes "second")))
    → Makes r (with_words own app)
two_made [] app first r low high e h = absurd (omega (arith, low))
two_made (k ∷ []) app first r low high e h = absurd (omega (arith, low))
two_made (k ∷ l ∷ []) app first r low high e h = made_as r _ _ (ap (λ a. with_rule a (own_word (codes "second"))) e) h
two_made (k ∷ l ∷ m ∷ more) app first r low high e h = absurd (omega (arith, high))

pub three_made : {E : Type 0} (own : List Own) (app first second : App) (r : Result Command E) → 3 ≤ length own
    → first ≡ with_rule app (own_word (codes "first")) → second ≡ with_rule first (own_word (codes "second"))
    → Makes r (with_rule second (own_word (codes "third"))) → Makes r (with_words own app)
three_made [] app first second r low e f h = absurd (omega (arith, low))
three_made (k ∷ []) app first second r low e f h = absurd (omega (arith, low))
three_made (k ∷ l ∷ []) app first second r low e f h = absurd (omega (arith, low))
three_made (k ∷ l ∷ m ∷ more) app first second r low e f h =
    made_as r _ _
    (ap (λ a. with_rule a (own_word (codes "third"))) (f ∙ ap (λ a. with_rule a (own_word (codes "second"))) e)) h
