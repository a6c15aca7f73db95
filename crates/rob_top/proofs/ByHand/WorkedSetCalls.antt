-- Calls on texts with a named set, worked by hand: a row that answers to it, and one where it admits no scenario.
use Rattle.std.proofs.Common.{arith, refl, inl, inr}
use Rattle.std.proofs.lemmas.Bool.{leb-true}
use Rattle.std.specs.Fmt.{digits}
use Rattle.std.specs.Prelude.{◌≡◌, ℕ, zero, suc, true, List, [], ◌∷◌, Option, Some, None, codes}
use Rattle.rob_algebra.specs.Fraction.{ratio}
use Rattle.rob_algebra.specs.Width.{IsWide}
use Rattle.rob_meaning.proofs.ByHand.WorkedNotation.{◌⊕◌, ◌⊖◌, int, cover, item, best}
use Rattle.rob_meaning.proofs.ByHand.WorkedTests.{Found, found, test_admits, test_certificate, test_model}
use Rattle.rob_meaning.specs.Certificates.{optimal}
use Rattle.rob_meaning.specs.Coefficients.{table}
use Rattle.rob_meaning.specs.Expressions.{Expression, number, parameter, variable}
use Rattle.rob_meaning.specs.Named.{IsNamed, declared_names}
use Rattle.rob_lex.specs.Bytes.{begins_word, goes_on_word}
use Rattle.rob_meaning.specs.Places.{1ℚ, Each}
use Rattle.rob_meaning.specs.Proves.{HasStatus}
use Rattle.rob_meaning.specs.RobustModel.{RobustModel}
use Rattle.rob_meaning.specs.UncertaintySet.{Admits}
use Rattle.rob_meaning.specs.WellFormed.{IsModel}
use Rattle.rob_model.specs.Limits.{IsWithinLimits}
use Rattle.rob_round_trip.proofs.Canonical.CanonicalReading.{canonical_reads}
use Rattle.rob_write.specs.WrittenModel.{written_model}
use Rattle.rob_write.specs.ExpressionWords.{naming_of}
use Rattle.rob_write.specs.Canonical.{model_text}
use Rattle.rob_parse.specs.Modelled.{ReadsModel}
use Rattle.rob_syntax.specs.Names.{IsSpelled}
use Rattle.rob_round_trip.specs.Readable.{IsReadableModel}
use Rattle.rob_syntax.specs.Symbols.{keyword_among, keywords}
use Rattle.rob_sets.specs.FirstWide.{Some_of}
use Rattle.rob_sets.specs.Subexpressions.{HasWideCoefficient, subexpressions}
use Rattle.rob_top.proofs.Relations.NarrowForms.{all_narrow, difference_narrow, test_fraction}
use Rattle.rob_top.proofs.Coming.SolveAnswers.{IsSolvedOrWide, optimal_or_wide}
use Rattle.rob_top.proofs.ByHand.WorkedCalls.{Comes, differ, fits_by, forms_on, free, letter, line, within_by}
use Rattle.rob_top.specs.Completeness.{MustEnd}
use Rattle.rob_top.specs.Inputs.{HasForms}
use Rattle.rob_top.specs.WorkedCalls.{solve_call}
use Rattle.rob_top.specs.WorkedModels.{greatest, hard_and_soft}
use Rattle.rob_commands.specs.declared.ended.Ended.{Ended}
use Rattle.rob_words.specs.declared.route.Route.TheVariants.{Dual}
use Rattle.rob_elab.specs.Written.{judged, IsWritten}

-- ---- coefficients of an expression over 2 joint parameters and 3 decision columns
-- both facts, where both tests find them
abbrev both : {A B : Type 0} → Option A → Option B → Option (A × B)
both None b = None
both (Some x) None = None
both (Some x) (Some y) = Some (x, y)

module _ (m : RobustModel) (e : Expression) where
  abbrev IsNarrowAt : ℕ → ℕ → Type 0
  IsNarrowAt k j = IsWide greatest (table m e k j) → ⊥

  abbrev test_at : (k j : ℕ) → Option (IsNarrowAt k j)
  test_at k j = test_fraction (table m e k j)

  -- row k at the first four columns, and at one past them
  abbrev IsNarrowRow : ℕ → ℕ → Type 0
  IsNarrowRow k j =
      IsNarrowAt k 0 × (IsNarrowAt k 1 × (IsNarrowAt k 2 × (IsNarrowAt k 3 × IsNarrowAt k (suc (suc (suc (suc j)))))))

  abbrev test_row : (k j : ℕ) → Option (IsNarrowRow k j)
  test_row k j =
      both (test_at k 0)
      (both (test_at k 1) (both (test_at k 2) (both (test_at k 3) (test_at k (suc (suc (suc (suc j))))))))

  -- the first three rows, and one past them
  abbrev test_table : (k j : ℕ)
      → Option (IsNarrowRow 0 j × (IsNarrowRow 1 j × (IsNarrowRow 2 j × IsNarrowRow (suc (suc (suc k))) j)))
  test_table k j = both (test_row 0 j) (both (test_row 1 j) (both (test_row 2 j) (test_row (suc (suc (suc k))) j)))

  row_at : (k : ℕ) → ((j : ℕ) → IsNarrowRow k j) → (j : ℕ) → IsNarrowAt k j
  row_at k h zero = (h 0).0
  row_at k h (suc zero) = (h 0).1.0
  row_at k h (suc (suc zero)) = (h 0).1.1.0
  row_at k h (suc (suc (suc zero))) = (h 0).1.1.1.0
  row_at k h (suc (suc (suc (suc j)))) = (h j).1.1.1.1

  -- the test finds each coefficient narrow
  abbrev IsTested : Type 0
  IsTested = (k j : ℕ) → Found (test_table k j)

  narrow_at : IsTested → (k j : ℕ) → IsNarrowAt k j
  narrow_at h zero = row_at 0 (λ j. (found (test_table 0 j) (h 0 j)).0)
  narrow_at h (suc zero) = row_at 1 (λ j. (found (test_table 0 j) (h 0 j)).1.0)
  narrow_at h (suc (suc zero)) = row_at 2 (λ j. (found (test_table 0 j) (h 0 j)).1.1.0)
  narrow_at h (suc (suc (suc k))) = row_at (suc (suc (suc k))) (λ j. (found (test_table k j) (h k j)).1.1.1)

module _ (m : RobustModel) where
  tested_narrow : (es : List Expression) → Each (IsTested m) es → Some_of (HasWideCoefficient greatest m) es → ⊥
  tested_narrow [] h wide = wide
  tested_narrow (e ∷ es) h (inl wide) = narrow_at m e h.0 wide.0 wide.1 wide.2
  tested_narrow (e ∷ es) h (inr wide) = tested_narrow es h.1 wide

  -- of d <= 10, d >= 13 and x + z - tau no coefficient is wide
  abbrev HasWidePart : Expression → Type 0
  HasWidePart e = Some_of (HasWideCoefficient greatest m) (subexpressions e)

  below_narrow : HasWidePart (parameter 1 ⊖ number (int 10)) → ⊥
  unfolding ratio
  below_narrow =
      tested_narrow (subexpressions (parameter 1 ⊖ number (int 10)))
      ((λ k j. tt), ((λ k j. tt), ((λ k j. tt), ((λ k j. tt), tt))))

  pub above_narrow : HasWidePart (number (int 13) ⊖ parameter 1) → ⊥
  unfolding ratio
  above_narrow =
      tested_narrow (subexpressions (number (int 13) ⊖ parameter 1))
      ((λ k j. tt), ((λ k j. tt), ((λ k j. tt), ((λ k j. tt), tt))))

  pub goal_narrow : HasWidePart ((variable 0 ⊕ variable 1) ⊖ variable 2) → ⊥
  unfolding ratio
  goal_narrow =
      tested_narrow (subexpressions ((variable 0 ⊕ variable 1) ⊖ variable 2))
      ((λ k j. tt), ((λ k j. tt), ((λ k j. tt), ((λ k j. tt), ((λ k j. tt), ((λ k j. tt), ((λ k j. tt), tt)))))))

-- a name of four letters
four : (a b c d : ℕ) → begins_word a ≡ true → goes_on_word b ≡ true → goes_on_word c ≡ true → goes_on_word d ≡ true
    → keyword_among keywords (a ∷ b ∷ c ∷ d ∷ []) ≡ None → IsSpelled (a ∷ b ∷ c ∷ d ∷ [])
four a b c d first second third fourth no_keyword = record {
  is_word = (first, (second, (third, (fourth, tt))));
  no_keyword = no_keyword;
  is_short = omega arith;
}

-- ---- minimise x + z, where x >= d for each d in [8, 12], and z >= d for those that are at most 10
hard_and_soft_model : IsModel hard_and_soft
unfolding ratio
hard_and_soft_model = found (test_model hard_and_soft) tt

hard_and_soft_admitted : Admits hard_and_soft (int 8 ∷ int 8 ∷ [])
unfolding ratio
hard_and_soft_admitted = found (test_admits hard_and_soft hard_and_soft_model (int 8 ∷ int 8 ∷ [])) tt

-- x = 12 and z = 10
hard_and_soft_costs_22 : HasStatus hard_and_soft optimal (int 22)
unfolding ratio
hard_and_soft_costs_22 =
    found
    (test_certificate hard_and_soft
    (best (int 22) (int 8 ∷ int 8 ∷ []) (int 12 ∷ int 10 ∷ [])
    (cover 1 1 1ℚ ∷ cover 2 4 1ℚ ∷ [])
    (item 0 1ℚ (int 12 ∷ int 10 ∷ []) ∷ item 1 1ℚ (int 12 ∷ int 10 ∷ []) ∷ item 2 1ℚ (int 12 ∷ int 10 ∷ []) ∷ [])))
    tt

pub its_spelling : Each IsSpelled (declared_names hard_and_soft)
its_spelling = (
  letter 100 refl refl,
  (
    four 99 97 108 109 refl refl refl refl refl,
    (
      four 104 97 114 100 refl refl refl refl refl,
      (four 115 111 102 116 refl refl refl refl refl, (letter 120 refl refl, (letter 122 refl refl, tt))),
    ),
  ),
)

pub its_names : IsNamed hard_and_soft
its_names = record {
  plain = (
    ((λ e. cc), tt),
    (
      ((λ e. cc), ((λ e. cc), ((λ e. cc), ((λ e. cc), tt)))),
      (
        ((λ e. cc), ((λ e. cc), ((λ e. cc), ((λ e. cc), tt)))),
        (((λ e. cc), ((λ e. cc), ((λ e. cc), ((λ e. cc), tt)))), (((λ e. cc), tt), (((λ e. cc), tt), tt))),
      ),
    ),
  );
  free = (
    free (codes "d") tt tt tt tt,
    (
      free (codes "calm") tt tt tt tt,
      (
        free (codes "hard") tt tt tt tt,
        (
          free (codes "soft") tt tt tt tt,
          (
            free (codes "x") tt tt tt tt,
            (
              free (codes "z") tt tt tt tt,
              tt,
            ),
          ),
        ),
      ),
    ),
  );
  distinct = (
    (
      differ (codes "d") (codes "calm") tt,
      (
        differ (codes "d") (codes "hard") tt,
        (
          differ (codes "d") (codes "soft") tt,
          (differ (codes "d") (codes "x") tt, (differ (codes "d") (codes "z") tt, tt)),
        ),
      ),
    ),
    (
      (
        differ (codes "calm") (codes "hard") tt,
        (
          differ (codes "calm") (codes "soft") tt,
          (differ (codes "calm") (codes "x") tt, (differ (codes "calm") (codes "z") tt, tt)),
        ),
      ),
      (
        (
          differ (codes "hard") (codes "soft") tt,
          (differ (codes "hard") (codes "x") tt, (differ (codes "hard") (codes "z") tt, tt)),
        ),
        (
          (differ (codes "soft") (codes "x") tt, (differ (codes "soft") (codes "z") tt, tt)),
          (
            (differ (codes "x") (codes "z") tt, tt),
            (
              tt,
              tt,
            ),
          ),
        ),
      ),
    ),
  );
  lists = tt;
  members = (tt, tt);
  few = omega arith;
}

pub its_parts : IsReadableModel greatest (naming_of hard_and_soft) hard_and_soft
unfolding ratio
its_parts = record {
  placed = record {
    taken_is = refl;
    line_sets = refl;
    row_sets = refl;
    of_lines = (omega arith, tt);
    of_objective = omega arith;
    of_rows = (omega arith, (omega arith, tt));
  };
  parts = record {
    parameters = ((fits_by (int 8) refl refl, fits_by (int 12) refl refl), tt);
    set_lines = ((omega arith, (fits_by (int 10) refl refl, refl)), tt);
    variables = ((tt, tt), ((tt, tt), tt));
    adaptives = tt;
    objective = (tt, (omega arith, (omega arith, tt)));
    rows = ((omega arith, omega arith), ((omega arith, omega arith), tt));
  };
}

it_is_within : IsWithinLimits hard_and_soft
it_is_within = within_by hard_and_soft refl refl refl refl refl refl refl

pub hard_and_soft_reads : ReadsModel greatest (model_text hard_and_soft) hard_and_soft
unfolding ratio
hard_and_soft_reads =
    canonical_reads greatest hard_and_soft (omega arith) (omega arith) its_parts
    (found (test_model (written_model hard_and_soft)) tt)
    its_names its_spelling (tt, tt) it_is_within (
      (tt, (tt, (tt, (tt, (tt, (tt, (tt, (tt, tt)))))))),
      (
        (tt, (tt, tt)),
        (
          (tt, (tt, (tt, (tt, (tt, (tt, tt)))))),
          (
            (tt, (tt, tt)),
            (
              (tt, (tt, tt)),
              (
                (tt, (tt, (tt, (tt, tt)))),
                ((tt, (tt, (tt, (tt, (tt, (tt, tt)))))), ((tt, (tt, (tt, (tt, (tt, (tt, (tt, (tt, tt)))))))), tt)),
              ),
            ),
          ),
        ),
      ),
    )
    (leb-true _ _ refl)

it_is_narrow : IsWritten greatest hard_and_soft
unfolding ratio
it_is_narrow =
    all_narrow hard_and_soft (judged hard_and_soft) (
      tt,
      (
        tt,
        (
          tt,
          (
            tt,
            (
              below_narrow hard_and_soft,
              (
                tt,
                (
                  goal_narrow hard_and_soft,
                  (
                    tt,
                    (
                      difference_narrow hard_and_soft (parameter 0) 1 0 (λ k j. refl) (variable 0) 0 1 (λ k j. refl),
                      (
                        tt,
                        (
                          difference_narrow hard_and_soft (parameter 1) 2 0 (λ k j. refl)
                              (variable 1) 0 2 (λ k j. refl),
                          (tt, tt),
                        ),
                      ),
                    ),
                  ),
                ),
              ),
            ),
          ),
        ),
      ),
    )

pub hard_and_soft_comes : Comes hard_and_soft
unfolding ratio digits
hard_and_soft_comes = refl

its_forms : HasForms (solve_call hard_and_soft) line hard_and_soft
its_forms = forms_on hard_and_soft hard_and_soft_comes hard_and_soft_reads it_is_narrow

-- this call has to answer `optimal`, or name a wide row
pub hard_and_soft_is_solved : (result : Ended) → MustEnd (solve_call hard_and_soft) result
    → IsSolvedOrWide Dual greatest hard_and_soft result
hard_and_soft_is_solved result must =
    optimal_or_wide Dual greatest hard_and_soft (int 22) (int 8 ∷ int 8 ∷ []) hard_and_soft_costs_22
    hard_and_soft_admitted result
    (must.solving line hard_and_soft its_forms refl)
