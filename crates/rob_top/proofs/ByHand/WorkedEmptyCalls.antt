-- A worked call of `solve` on a model with a set that admits no scenario: the
-- one of WorkedSetCalls with d >= 13 over calm.
use Rattle.std.proofs.Common.{arith, refl}
use Rattle.std.proofs.lemmas.Bool.{leb-true}
use Rattle.std.specs.Fmt.{digits}
use Rattle.std.specs.Prelude.{[], ◌∷◌}
use Rattle.rob_algebra.specs.Fraction.{ratio}
use Rattle.rob_meaning.proofs.Conditions.EmptyLemmas.{shows_empty}
use Rattle.rob_meaning.proofs.ByHand.WorkedNotation.{int}
use Rattle.rob_meaning.proofs.ByHand.WorkedTests.{found, test_empty, test_model}
use Rattle.rob_meaning.specs.Expressions.{parameter, variable}
use Rattle.rob_meaning.specs.Named.{IsNamed}
use Rattle.rob_meaning.specs.Places.{0ℚ, 1ℚ}
use Rattle.rob_meaning.specs.UncertaintySet.{IsEmptySet}
use Rattle.rob_model.specs.Limits.{IsWithinLimits}
use Rattle.rob_round_trip.proofs.Canonical.CanonicalReading.{canonical_reads}
use Rattle.rob_write.specs.WrittenModel.{written_model}
use Rattle.rob_write.specs.ExpressionWords.{naming_of}
use Rattle.rob_write.specs.Canonical.{model_text}
use Rattle.rob_parse.specs.Modelled.{ReadsModel}
use Rattle.rob_round_trip.specs.Readable.{IsReadableModel}
use Rattle.rob_top.proofs.Relations.NarrowForms.{all_narrow, difference_narrow}
use Rattle.rob_top.proofs.ByHand.WorkedCalls.{Comes, fits_by, forms_on, line, within_by}
use Rattle.rob_top.specs.Completeness.{MustEnd}
use Rattle.rob_top.specs.Endings.{IsEmptyAnswer}
use Rattle.rob_top.specs.Inputs.{HasForms}
use Rattle.rob_top.specs.WorkedCalls.{solve_call}
use Rattle.rob_top.specs.WorkedModels.{greatest, never_calm}
use Rattle.rob_commands.specs.declared.ended.Ended.{Ended}
use Rattle.rob_top.proofs.ByHand.WorkedSetCalls.{above_narrow, goal_narrow, its_names, its_parts, its_spelling}
use Rattle.rob_elab.specs.Written.{judged, IsWritten}

-- calm.d <= 12 and -calm.d <= -13 sum to 0 <= -1
never_calm_admits_none : IsEmptySet never_calm
unfolding ratio
never_calm_admits_none =
    shows_empty never_calm (found (test_model never_calm) tt) (0ℚ ∷ 0ℚ ∷ 0ℚ ∷ 1ℚ ∷ 1ℚ ∷ [])
    (found (test_empty never_calm (0ℚ ∷ 0ℚ ∷ 0ℚ ∷ 1ℚ ∷ 1ℚ ∷ [])) tt)

never_calm_named : IsNamed never_calm
never_calm_named = record {
  plain = its_names.plain;
  free = its_names.free;
  distinct = its_names.distinct;
  lists = tt;
  members = (tt, tt);
  few = omega arith;
}

never_calm_readable : IsReadableModel greatest (naming_of never_calm) never_calm
unfolding ratio
never_calm_readable = record {
  placed = record {
    taken_is = refl;
    line_sets = refl;
    row_sets = refl;
    of_lines = its_parts.placed.of_lines;
    of_objective = its_parts.placed.of_objective;
    of_rows = its_parts.placed.of_rows;
  };
  parts = record {
    parameters = its_parts.parts.parameters;
    set_lines = ((omega arith, (fits_by (int 13) refl refl, refl)), tt);
    variables = its_parts.parts.variables;
    adaptives = tt;
    objective = its_parts.parts.objective;
    rows = its_parts.parts.rows;
  };
}

never_calm_within : IsWithinLimits never_calm
never_calm_within = within_by never_calm refl refl refl refl refl refl refl

never_calm_reads : ReadsModel greatest (model_text never_calm) never_calm
unfolding ratio
never_calm_reads =
    canonical_reads greatest never_calm (omega arith) (omega arith) never_calm_readable
    (found (test_model (written_model never_calm)) tt)
    never_calm_named its_spelling (tt, tt) never_calm_within (
      (tt, (tt, (tt, (tt, (tt, (tt, (tt, (tt, tt)))))))),
      (
        (tt, (tt, tt)),
        (
          (tt, (tt, (tt, (tt, (tt, (tt, tt)))))),
          (
            (tt, (tt, tt)),
            (
              (tt, (tt, tt)),
              (
                (tt, (tt, (tt, (tt, tt)))),
                ((tt, (tt, (tt, (tt, (tt, (tt, tt)))))), ((tt, (tt, (tt, (tt, (tt, (tt, (tt, (tt, tt)))))))), tt)),
              ),
            ),
          ),
        ),
      ),
    )
    (leb-true _ _ refl)

never_calm_narrow : IsWritten greatest never_calm
unfolding ratio
never_calm_narrow =
    all_narrow never_calm (judged never_calm) (
      tt,
      (
        tt,
        (
          tt,
          (
            tt,
            (
              above_narrow never_calm,
              (
                tt,
                (
                  goal_narrow never_calm,
                  (
                    tt,
                    (
                      difference_narrow never_calm (parameter 0) 1 0 (λ k j. refl) (variable 0) 0 1 (λ k j. refl),
                      (
                        tt,
                        (
                          difference_narrow never_calm (parameter 1) 2 0 (λ k j. refl) (variable 1) 0 2 (λ k j. refl),
                          (
                            tt,
                            tt,
                          ),
                        ),
                      ),
                    ),
                  ),
                ),
              ),
            ),
          ),
        ),
      ),
    )

never_calm_comes : Comes never_calm
unfolding ratio digits
never_calm_comes = refl

never_calm_forms : HasForms (solve_call never_calm) line never_calm
never_calm_forms = forms_on never_calm never_calm_comes never_calm_reads never_calm_narrow

-- this call has to answer that a set is empty, or name a row of the sets' program
pub never_calm_is_shown : (result : Ended) → MustEnd (solve_call never_calm) result
    → IsEmptyAnswer greatest never_calm result
never_calm_is_shown result must = must.empty line never_calm never_calm_forms refl never_calm_admits_none
