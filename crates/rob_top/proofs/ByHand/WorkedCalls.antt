-- Calls worked by hand: what their words and files say, and so how they must end. So what is asked of a call where a
-- status has to be answered, or an empty set, is met by some call.
use Rattle.std.proofs.Common.{arith, refl, inr}
use Rattle.std.proofs.lemmas.Bool.{leb-true}
use Rattle.std.specs.Fmt.{digits}
use Rattle.std.specs.Prelude.{◌≡◌, ◌≢◌, ℕ, leb, nat_abs, true, [], ◌∷◌, length, None, codes}
use Rattle.rob_algebra.specs.Fraction.{Fraction, ratio}
use Rattle.rob_algebra.specs.Width.{Fits}
use Rattle.rob_dualize.proofs.NarrowModels.{one_demand_admitted, one_demand_costs_12, one_demand_not_wide}
use Rattle.rob_dualize.specs.SmallestModel.{one_demand}
use Rattle.rob_meaning.proofs.Conditions.EmptyLemmas.{shows_empty}
use Rattle.rob_meaning.proofs.ByHand.WorkedNotation.{int}
use Rattle.rob_meaning.proofs.ByHand.WorkedTests.{Found, found, test_differ, test_empty, test_model}
use Rattle.rob_meaning.specs.Certificates.{optimal}
use Rattle.rob_meaning.specs.Expressions.{parameter, variable}
use Rattle.rob_meaning.specs.Named.{IsFree, IsNamed, declared_names}
use Rattle.rob_meaning.specs.Names.{Name}
use Rattle.rob_meaning.specs.Places.{1ℚ, Each}
use Rattle.rob_meaning.specs.RobustModel.{RobustModel, column_count}
use Rattle.rob_meaning.specs.SetRows.{lift_count}
use Rattle.rob_meaning.specs.UncertaintySet.{IsEmptySet}
use Rattle.rob_meaning.specs.WellFormed.{IsModel}
use Rattle.rob_outside.specs.Files.{file_of, found_at, whole}
use Rattle.rob_model.specs.Limits.{IsWithinLimits, model_size, most_columns, most_members, most_parameters, most_rows, most_set_lines, most_sets, most_size}
use Rattle.rob_round_trip.proofs.Canonical.CanonicalReading.{canonical_reads}
use Rattle.rob_write.specs.WrittenModel.{written_model}
use Rattle.rob_write.specs.ExpressionWords.{naming_of}
use Rattle.rob_write.specs.Canonical.{model_text}
use Rattle.rob_parse.specs.Modelled.{ReadsModel}
use Rattle.rob_lex.specs.Bytes.{begins_word}
use Rattle.rob_syntax.specs.Symbols.{keyword_among, keywords}
use Rattle.rob_syntax.specs.Names.{IsSpelled as IsSpelledName}
use Rattle.rob_round_trip.specs.Readable.{IsReadableModel}
use Rattle.rob_sets.specs.FirstWide.{NothingWide}
use Rattle.rob_top.proofs.Relations.NarrowForms.{all_narrow, difference_narrow}
use Rattle.rob_top.specs.Completeness.{MustEnd}
use Rattle.rob_top.specs.Endings.{EndsAs, IsEmptyAnswer}
use Rattle.rob_top.specs.Inputs.{HasForms}
use Rattle.rob_top.specs.WorkedCalls.{model_name, model_request, solve_call}
use Rattle.rob_top.specs.WorkedModels.{empty_interval, greatest}
use Rattle.rob_commands.specs.declared.ended.Ended.{Ended}
use Rattle.rob_commands.specs.declared.ended.Ended.TheVariants.{Optimal}
use Rattle.rob_words.specs.Commands.{Line, own, IsSpelled}
use Rattle.rob_words.specs.declared.route.Route.TheVariants.{Dual}
use Rattle.rob_words.specs.declared.verb.Verb.TheVariants.{Solve}
use Rattle.rob_words.specs.declared.width.Width.TheVariants.{SixtyTwo}
use Rattle.rob_elab.specs.Written.{judged, IsWritten}

-- ---- solve one.rob, where the shelf tells a file of that name with the canonical text of a model
abbrev pub line : Line
line = record { verb = Solve; own = model_name ∷ []; way = Dual; width = SixtyTwo }

pub line_spelled : IsSpelled (codes "solve" ∷ model_name ∷ []) line
line_spelled = (
  own model_name ∷ [],
  record {
    spelled = refl;
    own = refl;
    count = refl;
    names = ((λ e. cc), tt);
    kinds = (tt, tt);
    width = inr (refl, refl);
    route = inr (refl, refl);
  },
)

pub fits_by : (q : Fraction) → leb (nat_abs q.num) greatest ≡ true → leb q.den greatest ≡ true → Fits greatest q
fits_by q e f = record { num_fits = leb-true (nat_abs q.num) greatest e; den_fits = leb-true q.den greatest f }

-- the model's file comes whole
abbrev pub Comes : RobustModel → Type 0
Comes m = found_at model_name 65536 (file_of model_name (model_text m) ∷ []) ≡ whole (model_text m)

pub forms_on : (m : RobustModel) → Comes m → ReadsModel greatest (model_text m) m
    → IsWritten greatest m
    → HasForms (solve_call m) line m
forms_on m comes reads narrow = record {
  model = record {
    spelled = line_spelled;
    came = ((model_text m, (comes, tt)), tt);
    bytes = model_text m;
    file = record {
      request = model_request;
      named = refl;
      found = (comes, tt);
    };
    reads = reads;
  };
  none_wide = narrow;
}

-- the counts of a model are within the limits
pub within_by : (m : RobustModel) → leb (length m.parameters) most_parameters ≡ true
    → leb (length m.sets) most_sets ≡ true
    → leb (column_count m) most_columns ≡ true → leb (length m.rows) most_rows ≡ true
    → leb (length m.set_lines) most_set_lines ≡ true
    → leb (lift_count m.set_lines) most_members ≡ true → leb (model_size m) most_size ≡ true → IsWithinLimits m
within_by m parameters sets columns rows set_lines members size = record {
  parameters = leb-true _ _ parameters;
  sets = leb-true _ _ sets;
  columns = leb-true _ _ columns;
  rows = leb-true _ _ rows;
  set_lines = leb-true _ _ set_lines;
  members = leb-true _ _ members;
  size = leb-true _ _ size;
}

-- a name of one letter
pub letter : (b : ℕ) → begins_word b ≡ true → keyword_among keywords (b ∷ []) ≡ None → IsSpelledName (b ∷ [])
letter b word no_keyword = record { is_word = (word, tt); no_keyword = no_keyword; is_short = omega arith }

pub differ : (a b : Name) → Found (test_differ a b) → a ≢ b
differ a b h = found (test_differ a b) h

pub free : (a : Name) → Found (test_differ a (codes "objective")) → Found (test_differ a (codes "tau"))
    → Found (test_differ a (codes "set"))
    → Found (test_differ a (codes "budget")) → IsFree a
free a objective tau set budget = (
  differ a (codes "objective") objective,
  differ a (codes "tau") tau,
  differ a (codes "set") set,
  differ a (codes "budget") budget,
)

-- ---- minimise x, where x >= d for each d in [8, 12]
one_demand_spelled : Each IsSpelledName (declared_names one_demand)
one_demand_spelled = (letter 100 refl refl, (letter 114 refl refl, (letter 120 refl refl, tt)))

one_demand_named : IsNamed one_demand
one_demand_named = record {
  plain = (((λ e. cc), tt), (((λ e. cc), tt), (((λ e. cc), tt), tt)));
  free = (free (codes "d") tt tt tt tt, (free (codes "r") tt tt tt tt, (free (codes "x") tt tt tt tt, tt)));
  distinct = (
    (differ (codes "d") (codes "r") tt, (differ (codes "d") (codes "x") tt, tt)),
    ((differ (codes "r") (codes "x") tt, tt), (tt, tt)),
  );
  lists = tt;
  members = tt;
  few = omega arith;
}

one_demand_readable : IsReadableModel greatest (naming_of one_demand) one_demand
unfolding ratio
one_demand_readable = record {
  placed = record {
    taken_is = refl;
    line_sets = refl;
    row_sets = refl;
    of_lines = tt;
    of_objective = omega arith;
    of_rows = (omega arith, tt);
  };
  parts = record {
    parameters = ((fits_by (int 8) refl refl, fits_by (int 12) refl refl), tt);
    set_lines = tt;
    variables = ((tt, tt), tt);
    adaptives = tt;
    objective = omega arith;
    rows = ((omega arith, omega arith), tt);
  };
}

one_demand_within : IsWithinLimits one_demand
one_demand_within = within_by one_demand refl refl refl refl refl refl refl

pub one_demand_reads : ReadsModel greatest (model_text one_demand) one_demand
unfolding ratio
one_demand_reads =
    canonical_reads greatest one_demand (omega arith) (omega arith) one_demand_readable
    (found (test_model (written_model one_demand)) tt)
    one_demand_named one_demand_spelled tt one_demand_within (
      (tt, (tt, (tt, (tt, (tt, (tt, (tt, (tt, tt)))))))),
      ((tt, (tt, tt)), ((tt, (tt, tt)), ((tt, (tt, (tt, (tt, (tt, (tt, tt)))))), tt))),
    ) (leb-true _ _ refl)

pub one_demand_narrow : IsWritten greatest one_demand
unfolding ratio
one_demand_narrow =
    all_narrow one_demand (judged one_demand) (
      tt,
      (
        tt,
        (
          difference_narrow one_demand (variable 0) 0 1 (λ k j. refl) (variable 1) 0 2 (λ k j. refl),
          (
            tt,
            (difference_narrow one_demand (parameter 0) 1 0 (λ k j. refl) (variable 0) 0 1 (λ k j. refl), (tt, tt)),
          ),
        ),
      ),
    )

pub one_demand_comes : Comes one_demand
unfolding ratio digits
one_demand_comes = refl

pub one_demand_forms : HasForms (solve_call one_demand) line one_demand
one_demand_forms = forms_on one_demand one_demand_comes one_demand_reads one_demand_narrow

-- no row is wide, so this call has to answer `optimal`
pub one_demand_is_solved : (result : Ended) → MustEnd (solve_call one_demand) result → EndsAs Optimal result
one_demand_is_solved result must =
    must.status line one_demand optimal (int 12) (int 8 ∷ []) one_demand_forms refl one_demand_costs_12
    one_demand_admitted one_demand_not_wide

-- ---- minimise x, where d lies in [12, 8], so no scenario is admitted
empty_interval_model : IsModel empty_interval
unfolding ratio
empty_interval_model = found (test_model empty_interval) tt

-- -d <= -12 and d <= 8 sum to 0 <= -4
pub empty_interval_admits_none : IsEmptySet empty_interval
unfolding ratio
empty_interval_admits_none =
    shows_empty empty_interval empty_interval_model (1ℚ ∷ 1ℚ ∷ []) (found (test_empty empty_interval (1ℚ ∷ 1ℚ ∷ [])) tt)

empty_interval_spelled : Each IsSpelledName (declared_names empty_interval)
empty_interval_spelled = (letter 100 refl refl, (letter 120 refl refl, tt))

empty_interval_named : IsNamed empty_interval
empty_interval_named = record {
  plain = (((λ e. cc), tt), (((λ e. cc), tt), tt));
  free = (free (codes "d") tt tt tt tt, (free (codes "x") tt tt tt tt, tt));
  distinct = ((differ (codes "d") (codes "x") tt, tt), (tt, tt));
  lists = tt;
  members = tt;
  few = omega arith;
}

empty_interval_readable : IsReadableModel greatest (naming_of empty_interval) empty_interval
unfolding ratio
empty_interval_readable = record {
  placed = record {
    taken_is = refl;
    line_sets = refl;
    row_sets = refl;
    of_lines = tt;
    of_objective = omega arith;
    of_rows = tt;
  };
  parts = record {
    parameters = ((fits_by (int 12) refl refl, fits_by (int 8) refl refl), tt);
    set_lines = tt;
    variables = ((tt, tt), tt);
    adaptives = tt;
    objective = omega arith;
    rows = tt;
  };
}

empty_interval_within : IsWithinLimits empty_interval
empty_interval_within = within_by empty_interval refl refl refl refl refl refl refl

pub empty_interval_reads : ReadsModel greatest (model_text empty_interval) empty_interval
unfolding ratio
empty_interval_reads =
    canonical_reads greatest empty_interval (omega arith) (omega arith) empty_interval_readable
    (found (test_model (written_model empty_interval)) tt)
    empty_interval_named empty_interval_spelled tt empty_interval_within
    ((tt, (tt, (tt, (tt, (tt, (tt, (tt, (tt, tt)))))))), ((tt, (tt, tt)), ((tt, (tt, tt)), tt))) (leb-true _ _ refl)

pub empty_interval_none_wide : NothingWide greatest empty_interval
    (judged empty_interval)
unfolding ratio
empty_interval_none_wide =
    all_narrow empty_interval (judged empty_interval) (
      tt,
      (
        tt,
        (
          difference_narrow empty_interval (variable 0) 0 1 (λ k j. refl) (variable 1) 0 2 (λ k j. refl),
          (tt, tt),
        ),
      ),
    )

pub empty_interval_comes : Comes empty_interval
unfolding ratio digits
empty_interval_comes = refl

pub empty_interval_forms : HasForms (solve_call empty_interval) line empty_interval
empty_interval_forms = forms_on empty_interval empty_interval_comes empty_interval_reads empty_interval_none_wide

-- this call has to answer that the set is empty, or name a row of the set's program
pub empty_interval_is_shown : (result : Ended) → MustEnd (solve_call empty_interval) result
    → IsEmptyAnswer greatest empty_interval result
empty_interval_is_shown result must =
    must.empty line empty_interval empty_interval_forms refl empty_interval_admits_none
