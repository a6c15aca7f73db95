-- A call of `whole` on a model without a scenario, worked by hand, and so how it must end.
use Rattle.std.proofs.Common.{[], ◌∷◌, refl, arith}
use Rattle.std.proofs.lemmas.Bool.{leb-true}
use Rattle.std.specs.Fmt.{digits}
use Rattle.std.specs.Prelude.{codes}
use Rattle.rob_algebra.specs.Fraction.{ratio}
use Rattle.rob_meaning.proofs.Conditions.EmptyLemmas.{shows_empty}
use Rattle.rob_meaning.proofs.ByHand.WorkedNotation.{int}
use Rattle.rob_meaning.proofs.ByHand.WorkedTests.{found, test_empty, test_model}
use Rattle.rob_meaning.specs.Named.{IsNamed}
use Rattle.rob_meaning.specs.Places.{1ℚ}
use Rattle.rob_meaning.specs.UncertaintySet.{IsEmptySet}
use Rattle.rob_meaning.specs.WellFormed.{IsModel}
use Rattle.rob_model.specs.Limits.{IsWithinLimits}
use Rattle.rob_parse.specs.Modelled.{ReadsModel}
use Rattle.rob_round_trip.proofs.Canonical.CanonicalReading.{canonical_reads}
use Rattle.rob_round_trip.specs.Readable.{IsReadableModel}
use Rattle.rob_top.proofs.ByHand.WorkedCalls.{Comes, fits_by, within_by}
use Rattle.rob_top.proofs.ByHand.WorkedWholes.{half_named, half_spelled, line, model_on, x_spelled}
use Rattle.rob_top.specs.Completeness.{MustEnd}
use Rattle.rob_top.specs.Endings.{IsEmptyWholeAnswer}
use Rattle.rob_top.specs.Inputs.{HasWholeVariables}
use Rattle.rob_top.specs.WorkedCalls.{whole_call}
use Rattle.rob_top.specs.WorkedModels.{greatest, impossible_demand}
use Rattle.rob_commands.specs.declared.ended.Ended.{Ended}
use Rattle.rob_write.specs.WrittenModel.{written_model}
use Rattle.rob_write.specs.ExpressionWords.{naming_of}
use Rattle.rob_write.specs.Canonical.{model_text}

-- ---- minimise x, where 2 x >= d and d lies in [13, 8], and x lies in [0, 10]
impossible_model : IsModel impossible_demand
unfolding ratio
impossible_model = found (test_model impossible_demand) tt

-- -d <= -13 and d <= 8 sum to 0 <= -5
impossible_admits_none : IsEmptySet impossible_demand
unfolding ratio
impossible_admits_none =
    shows_empty impossible_demand impossible_model (1ℚ ∷ 1ℚ ∷ [])
    (found (test_empty impossible_demand (1ℚ ∷ 1ℚ ∷ [])) tt)

-- the names are those of the model with scenarios
impossible_named : IsNamed impossible_demand
impossible_named = record {
  plain = half_named.plain;
  free = half_named.free;
  distinct = half_named.distinct;
  lists = half_named.lists;
  members = half_named.members;
  few = half_named.few;
}

impossible_readable : IsReadableModel greatest (naming_of impossible_demand) impossible_demand
unfolding ratio
impossible_readable = record {
  placed = record {
    taken_is = refl;
    line_sets = refl;
    row_sets = refl;
    of_lines = tt;
    of_objective = omega arith;
    of_rows = (omega arith, tt);
  };
  parts = record {
    parameters = ((fits_by (int 13) refl refl, fits_by (int 8) refl refl), tt);
    set_lines = tt;
    variables = ((fits_by (int 0) refl refl, fits_by (int 10) refl refl), tt);
    adaptives = tt;
    objective = omega arith;
    rows = (((tt, ((fits_by (int 2) refl refl, refl), (omega arith, tt))), omega arith), tt);
  };
}

impossible_within : IsWithinLimits impossible_demand
impossible_within = within_by impossible_demand refl refl refl refl refl refl refl

impossible_reads : ReadsModel greatest (model_text impossible_demand) impossible_demand
unfolding ratio
impossible_reads =
    canonical_reads greatest impossible_demand (omega arith) (omega arith) impossible_readable
    (found (test_model (written_model impossible_demand)) tt) impossible_named half_spelled tt impossible_within (
      (tt, (tt, (tt, (tt, (tt, (tt, (tt, (tt, tt)))))))),
      (
        (tt, (tt, (tt, (tt, (tt, (tt, (tt, (tt, tt)))))))),
        ((tt, (tt, tt)), ((tt, (tt, (tt, (tt, (tt, (tt, (tt, (tt, tt)))))))), tt)),
      ),
    )
    (leb-true _ _ refl)

impossible_comes : Comes impossible_demand
unfolding ratio digits
impossible_comes = refl

impossible_variables : HasWholeVariables (whole_call impossible_demand (codes "x")) (line (codes "x"))
    impossible_demand (0 ∷ [])
unfolding ratio
impossible_variables = record {
  named = record {
    model = model_on impossible_demand (codes "x") impossible_comes impossible_reads x_spelled;
    names = codes "x" ∷ [];
    told = record { word = codes "x"; told = refl; parts = refl };
    variables = record { named = refl; kept = record { inside = (omega arith, tt); distinct = (tt, tt) } };
  };
  keeps = refl;
}

-- this call has to answer that the set is empty, or name a wide number of the set's program or before it
pub impossible_demand_is_shown : (result : Ended) → MustEnd (whole_call impossible_demand (codes "x")) result
    → IsEmptyWholeAnswer greatest impossible_demand result
impossible_demand_is_shown result must =
    must.whole_empty (line (codes "x")) impossible_demand (0 ∷ []) impossible_variables refl impossible_admits_none
