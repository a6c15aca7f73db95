-- Calls of `sweep` and `sweeptext` on a model with a budget, worked by hand, and so how they must end.
use Rattle.std.proofs.Common.{arith, refl}
use Rattle.std.proofs.lemmas.Bool.{leb-true}
use Rattle.std.specs.Fmt.{digits}
use Rattle.std.specs.Prelude.{[], ◌∷◌, codes}
use Rattle.rob_algebra.specs.Fraction.{ratio}
use Rattle.rob_meaning.proofs.ByHand.WorkedNotation.{int}
use Rattle.rob_meaning.proofs.ByHand.WorkedTests.{found, test_model}
use Rattle.rob_meaning.specs.Named.{IsNamed, declared_names}
use Rattle.rob_meaning.specs.Places.{Each}
use Rattle.rob_model.specs.Limits.{IsWithinLimits}
use Rattle.rob_parse.specs.Modelled.{ReadsModel}
use Rattle.rob_round_trip.proofs.Canonical.CanonicalReading.{canonical_reads}
use Rattle.rob_round_trip.specs.Readable.{IsReadableModel}
use Rattle.rob_syntax.specs.Names.{IsSpelled as IsSpelledName}
use Rattle.rob_top.proofs.ByHand.WorkedCalls.{Comes, differ, fits_by, free, letter, within_by}
use Rattle.rob_top.proofs.ByHand.WorkedSweeps.{line, sweep_on, sweeptext_on}
use Rattle.rob_top.specs.Completeness.{MustEnd}
use Rattle.rob_top.specs.Endings.{EndsAs, IsSweepAnswer}
use Rattle.rob_top.specs.Swept.{limit_value}
use Rattle.rob_top.specs.WorkedCalls.{sweep_call}
use Rattle.rob_top.specs.WorkedModels.{demand_within_a_budget, greatest}
use Rattle.rob_commands.specs.declared.ended.Ended.{Ended}
use Rattle.rob_commands.specs.declared.ended.Ended.TheVariants.{Printed}
use Rattle.rob_words.specs.declared.verb.Verb.TheVariants as verbs
use Rattle.rob_write.specs.WrittenModel.{written_model}
use Rattle.rob_write.specs.ExpressionWords.{naming_of}
use Rattle.rob_write.specs.Canonical.{model_text}

-- ---- minimise x, where x >= d for each d in [0, 2], within a budget of 1 round 1 by 1
its_spelling : Each IsSpelledName (declared_names demand_within_a_budget)
its_spelling = (letter 100 refl refl, (letter 114 refl refl, (letter 120 refl refl, tt)))

its_names : IsNamed demand_within_a_budget
its_names = record {
  plain = (((λ e. cc), tt), (((λ e. cc), tt), (((λ e. cc), tt), tt)));
  free = (free (codes "d") tt tt tt tt, (free (codes "r") tt tt tt tt, (free (codes "x") tt tt tt tt, tt)));
  distinct = (
    (differ (codes "d") (codes "r") tt, (differ (codes "d") (codes "x") tt, tt)),
    ((differ (codes "r") (codes "x") tt, tt), (tt, tt)),
  );
  lists = tt;
  members = ((tt, tt), tt);
  few = omega arith;
}

its_parts : IsReadableModel greatest (naming_of demand_within_a_budget) demand_within_a_budget
unfolding ratio
its_parts = record {
  placed = record {
    taken_is = refl;
    line_sets = refl;
    row_sets = refl;
    of_lines = (omega arith, tt);
    of_objective = omega arith;
    of_rows = (omega arith, tt);
  };
  parts = record {
    parameters = ((fits_by (int 0) refl refl, fits_by (int 2) refl refl), tt);
    set_lines = (
      (
        (fits_by (int 1) refl refl, refl),
        (
          record {
            parameter = omega arith;
            centre = fits_by (int 1) refl refl;
            deviation = (fits_by (int 1) refl refl, refl);
          },
          tt,
        ),
      ),
      tt,
    );
    variables = ((tt, tt), tt);
    adaptives = tt;
    objective = omega arith;
    rows = ((omega arith, omega arith), tt);
  };
}

it_is_within : IsWithinLimits demand_within_a_budget
it_is_within = within_by demand_within_a_budget refl refl refl refl refl refl refl

it_reads : ReadsModel greatest (model_text demand_within_a_budget) demand_within_a_budget
unfolding ratio
it_reads =
    canonical_reads greatest demand_within_a_budget (omega arith) (omega arith) its_parts
    (found (test_model (written_model demand_within_a_budget)) tt)
    its_names its_spelling ((tt, tt), tt) it_is_within (
      (tt, (tt, (tt, (tt, (tt, (tt, (tt, (tt, tt)))))))),
      (
        (tt, (tt, (tt, (tt, (tt, (tt, (tt, (tt, tt)))))))),
        ((tt, (tt, tt)), ((tt, (tt, tt)), ((tt, (tt, (tt, (tt, (tt, (tt, tt)))))), tt))),
      ),
    ) (leb-true _ _ refl)

it_comes : Comes demand_within_a_budget
unfolding ratio digits
it_comes = refl

-- `sweep` at the limit 0 has to print an answer, or name a wide number
pub a_budget_is_swept : (result : Ended) → MustEnd (sweep_call (codes "sweep") demand_within_a_budget) result
    → IsSweepAnswer greatest demand_within_a_budget 1 (limit_value (codes "0") ∷ []) result
a_budget_is_swept result must =
    must.sweep (line verbs.Sweep) demand_within_a_budget 1 (limit_value (codes "0") ∷ [])
    (record {
      model = sweep_on demand_within_a_budget it_comes it_reads;
      is_sweep = refl;
      statement = record { word = codes "1"; told = refl; spells = refl };
      limits_are = record { word = codes "0"; told = refl; parts = refl };
    })
    (record { budget = tt; rises = tt })

-- `sweeptext` has to print the model with that limit
pub a_budget_is_limited : (result : Ended)
    → MustEnd (sweep_call (codes "sweeptext") demand_within_a_budget) result → EndsAs Printed result
a_budget_is_limited result must =
    must.limited (line verbs.SweepText) demand_within_a_budget 1 (limit_value (codes "0"))
    (record {
      model = sweeptext_on demand_within_a_budget it_comes it_reads;
      is_text = refl;
      statement = record { word = codes "1"; told = refl; spells = refl };
      limit_is = record { word = codes "0"; told = refl; spells = refl };
    })
    tt
