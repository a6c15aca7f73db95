-- A command is one command, and does one work.
use Rattle.std.proofs.Common.{◌≡◌, ◌≢◌, Bool, true, false, refl, sym, ◌∙◌, ap}
use Rattle.rob_top.specs.Commands as works
use Rattle.rob_top.specs.Commands.{IsElaborating, Work, makes_forms, work_of}
use Rattle.rob_words.specs.declared.verb.Verb.{Verb}

pub two_verbs : (a b verb : Verb) → a ≢ b → verb ≡ a → verb ≡ b → ⊥
two_verbs a b verb differ e d = differ (sym e ∙ d)

-- one whose work makes no set rows and forms makes none
pub makes_none : (w : Work) (verb : Verb) → makes_forms w ≡ false → work_of verb ≡ w → IsElaborating verb → ⊥
makes_none w verb none is makes = let clash : false ≡ true = sym none ∙ ap makes_forms (sym is) ∙ makes in cc

-- the tests of two works
abbrev pub is_branching_work : Work → Bool
is_branching_work works.branching = true
is_branching_work _ = false

abbrev pub is_splitting_work : Work → Bool
is_splitting_work works.splitting = true
is_splitting_work _ = false

pub branching_is : (w : Work) → is_branching_work w ≡ true → w ≡ works.branching
branching_is works.branching h = refl
branching_is other h = absurd (let no : false ≡ true = h in cc)
