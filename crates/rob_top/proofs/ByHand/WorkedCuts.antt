-- Calls of `solve` by cutting planes, worked by hand: what their words and
-- files say, and so how the one on the smallest model must end.
use Rattle.std.proofs.Common.{refl, inl, inr}
use Rattle.std.specs.Prelude.{[], ◌∷◌, codes}
use Rattle.rob_dualize.proofs.NarrowModels.{one_demand_admitted, one_demand_costs_12}
use Rattle.rob_dualize.specs.SmallestModel.{one_demand}
use Rattle.rob_meaning.proofs.ByHand.WorkedNotation.{int}
use Rattle.rob_meaning.specs.RobustModel.{RobustModel}
use Rattle.rob_parse.specs.Modelled.{ReadsModel}
use Rattle.rob_top.proofs.Coming.SolveAnswers.{IsSolvedOrWide, optimal_or_wide}
use Rattle.rob_top.proofs.ByHand.WorkedCalls.{Comes, line, one_demand_comes, one_demand_narrow, one_demand_reads}
use Rattle.rob_top.specs.Completeness.{MustEnd}
use Rattle.rob_top.specs.Inputs.{HasForms}
use Rattle.rob_top.specs.WorkedCalls.{cuts_call, model_name, model_request}
use Rattle.rob_top.specs.WorkedModels.{greatest}
use Rattle.rob_commands.specs.declared.ended.Ended.{Ended}
use Rattle.rob_write.specs.Canonical.{model_text}
use Rattle.rob_words.specs.Commands.{IsSpelled, Line, joined, own, route as route_setting}
use Rattle.rob_words.specs.declared.route.Route.TheVariants.{Cuts}
use Rattle.rob_elab.specs.Written.{IsWritten}

-- solve one.rob --route=cuts
abbrev pub by_cuts : Line
by_cuts = record line { way = Cuts }

by_cuts_spelled : IsSpelled (codes "solve" ∷ model_name ∷ codes "--route=cuts" ∷ []) by_cuts
by_cuts_spelled = (
  own model_name ∷ joined route_setting (codes "cuts") ∷ [],
  record {
    spelled = refl;
    own = refl;
    count = refl;
    names = ((λ e. cc), tt);
    kinds = (tt, tt);
    width = inr (refl, refl);
    route = inl refl;
  },
)

pub cut_forms : (m : RobustModel) → Comes m → ReadsModel greatest (model_text m) m
    → IsWritten greatest m → HasForms (cuts_call m) by_cuts m
cut_forms m comes reads narrow = record {
  model = record {
    spelled = by_cuts_spelled;
    came = ((model_text m, (comes, tt)), tt);
    bytes = model_text m;
    file = record {
      request = model_request;
      named = refl;
      found = (comes, tt);
    };
    reads = reads;
  };
  none_wide = narrow;
}

its_forms : HasForms (cuts_call one_demand) by_cuts one_demand
its_forms = cut_forms one_demand one_demand_comes one_demand_reads one_demand_narrow

-- this call has to answer `optimal`, or name a number of a run that is wide
pub one_demand_is_cut : (result : Ended) → MustEnd (cuts_call one_demand) result
    → IsSolvedOrWide Cuts greatest one_demand result
one_demand_is_cut result must =
    optimal_or_wide Cuts greatest one_demand (int 12) (int 8 ∷ []) one_demand_costs_12 one_demand_admitted result
    (must.solving by_cuts one_demand its_forms refl)
