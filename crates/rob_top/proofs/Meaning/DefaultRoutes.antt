-- A command that takes no route has the default one, by which no rounds stand behind a text.
use Rattle.std.proofs.Common.{◌≡◌, ℕ, List, [], subst, sym}
use Rattle.std.specs.Prelude.{Bool, false}
use Rattle.rob_meaning.specs.RobustModel.{RobustModel}
use Rattle.rob_top.specs.Calls.{Call}
use Rattle.rob_top.specs.Inputs.{HasModel}
use Rattle.rob_top.specs.Routes.{with_rounds}
use Rattle.rob_words.specs.Commands.{IsSpelled, Line, TellsRoute, route, values_of}
use Rattle.rob_words.specs.Values.{Word}
use Rattle.rob_words.specs.Verbs.{takes_route}
use Rattle.rob_words.specs.declared.route.Route.{Route}
use Rattle.rob_words.specs.declared.route.Route.TheVariants.{Dual}

default_route : (words : List Word) (line : Line) → IsSpelled words line
    → takes_route line.verb ≡ false → line.way ≡ Dual
default_route words line spelled none =
    (subst (λ (takes : Bool). TellsRoute takes (values_of route spelled.0) line.way) none spelled.1.route).1

-- so its text stands alone
pub told_alone : (call : Call) (line : Line) (m : RobustModel) → HasModel call line m
    → takes_route line.verb ≡ false → (text told : List ℕ)
    → text ≡ told → text ≡ with_rounds line.way m [] told
told_alone call line m has none text told is =
    subst (λ (way : Route). text ≡ with_rounds way m [] told) (sym (default_route call.words line has.spelled none)) is
