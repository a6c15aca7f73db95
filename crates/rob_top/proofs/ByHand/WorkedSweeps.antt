-- Calls of `sweep` and `sweeptext` worked by hand: a model without statements
-- on its set has no budget, and so how they must end.
use Rattle.std.proofs.Common.{[], ◌∷◌, refl, inl, inr, arith}
use Rattle.std.specs.Prelude.{codes}
use Rattle.rob_dualize.specs.SmallestModel.{one_demand}
use Rattle.rob_meaning.specs.RobustModel.{RobustModel}
use Rattle.rob_parse.specs.Modelled.{ReadsModel}
use Rattle.rob_top.proofs.ByHand.WorkedCalls.{Comes, one_demand_comes, one_demand_reads}
use Rattle.rob_top.specs.Completeness.{MustEnd}
use Rattle.rob_top.specs.Endings.{EndsAs}
use Rattle.rob_top.specs.Inputs.{HasModel}
use Rattle.rob_top.specs.Swept.{limit_value}
use Rattle.rob_top.specs.WorkedCalls.{model_name, model_request, sweep_call}
use Rattle.rob_top.specs.WorkedModels.{greatest}
use Rattle.rob_commands.specs.declared.ended.Ended.{Ended}
use Rattle.rob_commands.specs.declared.ended.Ended.TheVariants.{Sweep}
use Rattle.rob_words.specs.Commands.{Line, own, IsSpelled}
use Rattle.rob_words.specs.declared.route.Route.TheVariants.{Dual}
use Rattle.rob_words.specs.declared.verb.Verb.{Verb}
use Rattle.rob_words.specs.declared.verb.Verb.TheVariants as verbs
use Rattle.rob_words.specs.declared.width.Width.TheVariants.{SixtyTwo}
use Rattle.rob_write.specs.Canonical.{model_text}

-- ---- sweep one.rob 1 0, and sweeptext one.rob 1 0
abbrev pub line : Verb → Line
line verb = record { verb = verb; own = model_name ∷ codes "1" ∷ codes "0" ∷ []; way = Dual; width = SixtyTwo }

sweep_spelled : IsSpelled (codes "sweep" ∷ model_name ∷ codes "1" ∷ codes "0" ∷ []) (line verbs.Sweep)
sweep_spelled = (
  own model_name ∷ own (codes "1") ∷ own (codes "0") ∷ [],
  record {
    spelled = refl;
    own = refl;
    count = refl;
    names = ((λ e. cc), ((λ e. cc), ((λ e. cc), tt)));
    kinds = (
      tt,
      (
        record {
          number = record {
            digits = (omega arith, (omega arith, tt));
            few = omega arith;
            fits = omega arith;
          };
          few = omega arith;
        },
        (
          record {
            parts = (inl (refl, record { digits = (omega arith, (omega arith, tt)); fits = omega arith }), tt);
            few = omega arith;
          },
          tt,
        ),
      ),
    );
    width = inr (refl, refl);
    route = (refl, refl);
  },
)

sweeptext_spelled : IsSpelled (codes "sweeptext" ∷ model_name ∷ codes "1" ∷ codes "0" ∷ []) (line verbs.SweepText)
sweeptext_spelled = (
  own model_name ∷ own (codes "1") ∷ own (codes "0") ∷ [],
  record {
    spelled = refl;
    own = refl;
    count = refl;
    names = ((λ e. cc), ((λ e. cc), ((λ e. cc), tt)));
    kinds = (
      tt,
      (
        record {
          number = record {
            digits = (omega arith, (omega arith, tt));
            few = omega arith;
            fits = omega arith;
          };
          few = omega arith;
        },
        (inl (refl, record { digits = (omega arith, (omega arith, tt)); fits = omega arith }), tt),
      ),
    );
    width = inr (refl, refl);
    route = (refl, refl);
  },
)

pub sweep_on : (m : RobustModel) → Comes m → ReadsModel greatest (model_text m) m
    → HasModel (sweep_call (codes "sweep") m) (line verbs.Sweep) m
sweep_on m comes reads = record {
  spelled = sweep_spelled;
  came = ((model_text m, (comes, tt)), tt);
  bytes = model_text m;
  file = record { request = model_request; named = refl; found = (comes, tt) };
  reads = reads;
}

pub sweeptext_on : (m : RobustModel) → Comes m → ReadsModel greatest (model_text m) m
    → HasModel (sweep_call (codes "sweeptext") m) (line verbs.SweepText) m
sweeptext_on m comes reads = record {
  spelled = sweeptext_spelled;
  came = ((model_text m, (comes, tt)), tt);
  bytes = model_text m;
  file = record { request = model_request; named = refl; found = (comes, tt) };
  reads = reads;
}

-- these calls have to name rule 81
pub no_budget_is_swept : (result : Ended) → MustEnd (sweep_call (codes "sweep") one_demand) result
    → EndsAs (Sweep 81) result
no_budget_is_swept result must =
    must.sweep_rule (line verbs.Sweep) one_demand 1 (limit_value (codes "0") ∷ []) 81
    (record {
      model = sweep_on one_demand one_demand_comes one_demand_reads;
      is_sweep = refl;
      statement = record { word = codes "1"; told = refl; spells = refl };
      limits_are = record { word = codes "0"; told = refl; parts = refl };
    })
    (inl (refl, λ h. h))

pub no_budget_is_limited : (result : Ended) → MustEnd (sweep_call (codes "sweeptext") one_demand) result
    → EndsAs (Sweep 81) result
no_budget_is_limited result must =
    must.limit_rule (line verbs.SweepText) one_demand 1 (limit_value (codes "0"))
    (record {
      model = sweeptext_on one_demand one_demand_comes one_demand_reads;
      is_text = refl;
      statement = record { word = codes "1"; told = refl; spells = refl };
      limit_is = record { word = codes "0"; told = refl; spells = refl };
    })
    (λ h. h)
