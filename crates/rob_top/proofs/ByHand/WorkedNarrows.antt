-- A call of `narrow` worked by hand, and so how it must end.
use Rattle.std.proofs.Common.{◌≡◌, [], ◌∷◌, refl, inr}
use Rattle.std.specs.Fmt.{digits}
use Rattle.std.specs.Prelude.{codes}
use Rattle.rob_algebra.specs.Fraction.{ratio}
use Rattle.rob_dualize.specs.SmallestModel.{one_demand}
use Rattle.rob_outside.specs.Files.{file_of, found_at, whole}
use Rattle.rob_top.proofs.ByHand.WorkedCalls.{one_demand_narrow, one_demand_reads}
use Rattle.rob_top.specs.Completeness.{MustEnd}
use Rattle.rob_top.specs.Endings.{EndsAs}
use Rattle.rob_top.specs.Inputs.{HasForms}
use Rattle.rob_top.specs.WorkedCalls.{model_name, model_request, narrow_call}
use Rattle.rob_commands.specs.declared.ended.Ended.{Ended}
use Rattle.rob_commands.specs.declared.ended.Ended.TheVariants.{Printed}
use Rattle.rob_words.specs.Commands.{Line, own, IsSpelled}
use Rattle.rob_words.specs.declared.route.Route.TheVariants.{Dual}
use Rattle.rob_words.specs.declared.verb.Verb.TheVariants.{Narrow}
use Rattle.rob_words.specs.declared.width.Width.TheVariants.{SixtyTwo}
use Rattle.rob_write.specs.Canonical.{model_text}

-- ---- narrow one.rob, where the shelf tells a file of that name with the text of the smallest model
abbrev line : Line
line = record { verb = Narrow; own = model_name ∷ []; way = Dual; width = SixtyTwo }

line_spelled : IsSpelled (codes "narrow" ∷ model_name ∷ []) line
line_spelled = (
  own model_name ∷ [],
  record {
    spelled = refl;
    own = refl;
    count = refl;
    names = ((λ e. cc), tt);
    kinds = (tt, tt);
    width = inr (refl, refl);
    route = (refl, refl);
  },
)

comes : found_at model_name 65536 (file_of model_name (model_text one_demand) ∷ []) ≡ whole (model_text one_demand)
unfolding ratio digits
comes = refl

forms : HasForms (narrow_call one_demand) line one_demand
forms = record {
  model = record {
    spelled = line_spelled;
    came = ((model_text one_demand, (comes, tt)), tt);
    bytes = model_text one_demand;
    file = record {
      request = model_request;
      named = refl;
      found = (comes, tt);
    };
    reads = one_demand_reads;
  };
  none_wide = one_demand_narrow;
}

-- so its bounds are printed
pub one_demand_has_bounds : (result : Ended) → MustEnd (narrow_call one_demand) result → EndsAs Printed result
one_demand_has_bounds result must = must.narrow line one_demand forms refl
