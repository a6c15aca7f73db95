-- Calls of `whole` worked by hand: a variable without bounds, and a name that
-- is no variable's, and so how each call must end.
use Rattle.std.proofs.Common.{◌≡◌, ℕ, zero, suc, List, [], ◌∷◌, map, refl, inl, inr, ◌⊎◌, arith}
use Rattle.std.proofs.lemmas.Bool.{leb-true}
use Rattle.std.specs.Fmt.{digits}
use Rattle.std.specs.Prelude.{codes}
use Rattle.rob_algebra.specs.Fraction.{ratio}
use Rattle.rob_cert.specs.Spelling.{name_at}
use Rattle.rob_dualize.specs.SmallestModel.{one_demand}
use Rattle.rob_meaning.proofs.ByHand.WorkedNotation.{int}
use Rattle.rob_meaning.proofs.ByHand.WorkedTests.{found, test_admits, test_model}
use Rattle.rob_meaning.specs.Named.{IsNamed, declared_names}
use Rattle.rob_meaning.specs.Names.{column_names}
use Rattle.rob_meaning.specs.Places.{Each}
use Rattle.rob_meaning.specs.RobustModel.{RobustModel}
use Rattle.rob_meaning.specs.UncertaintySet.{Admits}
use Rattle.rob_meaning.specs.WellFormed.{IsModel}
use Rattle.rob_model.specs.Limits.{IsWithinLimits}
use Rattle.rob_model.specs.declared.place.Spot.{Spot}
use Rattle.rob_outside.specs.Files.{whole}
use Rattle.rob_parse.specs.Modelled.{ReadsModel}
use Rattle.rob_reach.proofs.StatusLemmas.{optimal_not_infeasible, optimal_not_unbounded}
use Rattle.rob_reach.proofs.WorkedTests.{test_tree_status}
use Rattle.rob_reach.specs.WholeStatus.{IsWholeOptimal}
use Rattle.rob_round_trip.proofs.Canonical.CanonicalReading.{canonical_reads}
use Rattle.rob_round_trip.specs.Readable.{IsReadableModel}
use Rattle.rob_syntax.specs.Names.{IsSpelled as IsSpelledName}
use Rattle.rob_tree.specs.declared.tree.Branch.{Branch}
use Rattle.rob_top.proofs.ByHand.WorkedCalls.{Comes, differ, fits_by, free, letter, one_demand_comes, one_demand_reads, within_by}
use Rattle.rob_top.specs.Branched.{no_ranges, no_variables}
use Rattle.rob_top.specs.Completeness.{MustEnd}
use Rattle.rob_top.specs.Endings.{EndsAs, IsWholeAnswer}
use Rattle.rob_top.specs.Inputs.{AreVariables, HasModel, HasVariables, HasWholeVariables}
use Rattle.rob_top.specs.WorkedCalls.{model_name, model_request, whole_call}
use Rattle.rob_top.specs.WorkedModels.{greatest, half_a_demand}
use Rattle.rob_top.specs.WorkedTrees.{whole_orders}
use Rattle.rob_commands.specs.declared.ended.Ended.{Ended}
use Rattle.rob_commands.specs.declared.ended.Ended.TheVariants.{Optimal, Infeasible, Unbounded, Printed, Accepted, Rejected, Words, Missing, TooLong, Model, EmptySet, TooWide, WideNode, WideBudget, Cert, Scenarios, Whole as RuleOfWhole, Sweep, Cells, Tree as RuleOfTree, TreeRejected, NoRow, ReadFault, WriteFault, Memory}
use Rattle.rob_words.specs.Commands.{Line, own, IsSpelled}
use Rattle.rob_words.specs.Values.{Word}
use Rattle.rob_words.specs.declared.route.Route.TheVariants.{Dual}
use Rattle.rob_words.specs.declared.verb.Verb.TheVariants.{Whole}
use Rattle.rob_words.specs.declared.width.Width.TheVariants.{SixtyTwo}
use Rattle.rob_write.specs.WrittenModel.{written_model}
use Rattle.rob_write.specs.ExpressionWords.{naming_of}
use Rattle.rob_write.specs.Canonical.{model_text}
use Rattle.rob_meaning.proofs.Naming.JoinedLemmas.{head_same}

-- ---- whole one.rob NAME, where the shelf tells the model's file
abbrev pub line : Word → Line
line name = record { verb = Whole; own = model_name ∷ name ∷ []; way = Dual; width = SixtyTwo }

pub x_spelled : IsSpelled (codes "whole" ∷ model_name ∷ codes "x" ∷ []) (line (codes "x"))
x_spelled = (
  own model_name ∷ own (codes "x") ∷ [],
  record {
    spelled = refl;
    own = refl;
    count = refl;
    names = ((λ e. cc), ((λ e. cc), tt));
    kinds = (tt, (record { parts = (record { is_word = (refl, tt); no_keyword = refl }, tt); few = omega arith }, tt));
    width = inr (refl, refl);
    route = (refl, refl);
  },
)

y_spelled : IsSpelled (codes "whole" ∷ model_name ∷ codes "y" ∷ []) (line (codes "y"))
y_spelled = (
  own model_name ∷ own (codes "y") ∷ [],
  record {
    spelled = refl;
    own = refl;
    count = refl;
    names = ((λ e. cc), ((λ e. cc), tt));
    kinds = (tt, (record { parts = (record { is_word = (refl, tt); no_keyword = refl }, tt); few = omega arith }, tt));
    width = inr (refl, refl);
    route = (refl, refl);
  },
)

pub model_on : (m : RobustModel) (name : Word) → Comes m → ReadsModel greatest (model_text m) m
    → IsSpelled (codes "whole" ∷ model_name ∷ name ∷ []) (line name) → HasModel (whole_call m name) (line name) m
model_on m name comes reads spelled = record {
  spelled = spelled;
  came = ((model_text m, (comes, tt)), tt);
  bytes = model_text m;
  file = record { request = model_request; named = refl; found = (comes, tt) };
  reads = reads;
}

-- ---- x has no bound
x_is_variable : HasVariables (whole_call one_demand (codes "x")) (line (codes "x")) one_demand (0 ∷ [])
x_is_variable = record {
  model = model_on one_demand (codes "x") one_demand_comes one_demand_reads x_spelled;
  names = codes "x" ∷ [];
  told = record { word = codes "x"; told = refl; parts = refl };
  variables = record { named = refl; kept = record { inside = (omega arith, tt); distinct = (tt, tt) } };
}

-- this call has to name rule 62
pub x_is_boundless : (result : Ended) → MustEnd (whole_call one_demand (codes "x")) result
    → EndsAs (RuleOfWhole 62) result
x_is_boundless result must = must.whole_rule (line (codes "x")) one_demand 62 (no_ranges (0 ∷ []) x_is_variable refl)

-- ---- y is no variable
no_y : (numbers : List ℕ) → AreVariables one_demand (codes "y" ∷ []) numbers → ⊥
no_y [] h = absurd (let e : [] ≡ codes "y" ∷ [] = h.named in cc)
no_y (zero ∷ numbers) h =
    differ (codes "x") (codes "y") tt
    (head_same (codes "x") (codes "y") (map (name_at (column_names one_demand)) numbers) [] h.named)
no_y (suc k ∷ numbers) h = absurd (omega (arith, h.kept.inside.0))

-- and this one rule 61
pub y_is_no_variable : (result : Ended) → MustEnd (whole_call one_demand (codes "y")) result
    → EndsAs (RuleOfWhole 61) result
y_is_no_variable result must =
    must.whole_rule (line (codes "y")) one_demand 61
    (no_variables (codes "y" ∷ []) (model_on one_demand (codes "y") one_demand_comes one_demand_reads y_spelled)
    (record { word = codes "y"; told = refl; parts = refl }) no_y refl)

-- ---- minimise x, where 2 x >= d for each d in [8, 13], and x lies in [0, 10]
half_model : IsModel half_a_demand
unfolding ratio
half_model = found (test_model half_a_demand) tt

half_admitted : Admits half_a_demand (int 8 ∷ [])
unfolding ratio
half_admitted = found (test_admits half_a_demand half_model (int 8 ∷ [])) tt

half_costs_7 : IsWholeOptimal half_a_demand (0 ∷ []) (int 7)
unfolding ratio
half_costs_7 = found (test_tree_status half_a_demand (0 ∷ []) whole_orders) tt

pub half_spelled : Each IsSpelledName (declared_names half_a_demand)
half_spelled = (letter 100 refl refl, (letter 114 refl refl, (letter 120 refl refl, tt)))

pub half_named : IsNamed half_a_demand
half_named = record {
  plain = (((λ e. cc), tt), (((λ e. cc), tt), (((λ e. cc), tt), tt)));
  free = (free (codes "d") tt tt tt tt, (free (codes "r") tt tt tt tt, (free (codes "x") tt tt tt tt, tt)));
  distinct = (
    (differ (codes "d") (codes "r") tt, (differ (codes "d") (codes "x") tt, tt)),
    ((differ (codes "r") (codes "x") tt, tt), (tt, tt)),
  );
  lists = tt;
  members = tt;
  few = omega arith;
}

half_readable : IsReadableModel greatest (naming_of half_a_demand) half_a_demand
unfolding ratio
half_readable = record {
  placed = record {
    taken_is = refl;
    line_sets = refl;
    row_sets = refl;
    of_lines = tt;
    of_objective = omega arith;
    of_rows = (omega arith, tt);
  };
  parts = record {
    parameters = ((fits_by (int 8) refl refl, fits_by (int 13) refl refl), tt);
    set_lines = tt;
    variables = ((fits_by (int 0) refl refl, fits_by (int 10) refl refl), tt);
    adaptives = tt;
    objective = omega arith;
    rows = (((tt, ((fits_by (int 2) refl refl, refl), (omega arith, tt))), omega arith), tt);
  };
}

half_within : IsWithinLimits half_a_demand
half_within = within_by half_a_demand refl refl refl refl refl refl refl

pub half_reads : ReadsModel greatest (model_text half_a_demand) half_a_demand
unfolding ratio
half_reads =
    canonical_reads greatest half_a_demand (omega arith) (omega arith) half_readable
    (found (test_model (written_model half_a_demand)) tt)
    half_named half_spelled tt half_within (
      (tt, (tt, (tt, (tt, (tt, (tt, (tt, (tt, tt)))))))),
      (
        (tt, (tt, (tt, (tt, (tt, (tt, (tt, (tt, tt)))))))),
        ((tt, (tt, tt)), ((tt, (tt, (tt, (tt, (tt, (tt, (tt, (tt, tt)))))))), tt)),
      ),
    )
    (leb-true _ _ refl)

half_comes : Comes half_a_demand
unfolding ratio digits
half_comes = refl

half_variables : HasWholeVariables (whole_call half_a_demand (codes "x")) (line (codes "x")) half_a_demand (0 ∷ [])
unfolding ratio
half_variables = record {
  named = record {
    model = model_on half_a_demand (codes "x") half_comes half_reads x_spelled;
    names = codes "x" ∷ [];
    told = record { word = codes "x"; told = refl; parts = refl };
    variables = record { named = refl; kept = record { inside = (omega arith, tt); distinct = (tt, tt) } };
  };
  keeps = refl;
}

-- the status, or a wide number of a box
abbrev IsSolvedOrWide : Ended → Type 0
IsSolvedOrWide result = EndsAs Optimal result ⊎ ((path : List Branch) × (spot : Spot) × (result ≡ WideNode path spot))

its_answer : (result : Ended) → IsWholeAnswer greatest half_a_demand (0 ∷ []) result → IsSolvedOrWide result
its_answer Optimal h = inl (inl refl)
its_answer Infeasible h = absurd (optimal_not_infeasible half_a_demand (0 ∷ []) (int 7) half_costs_7 h.1)
its_answer Unbounded h = absurd (optimal_not_unbounded half_a_demand (0 ∷ []) (int 7) half_costs_7 h.1)
its_answer (EmptySet weights) h = absurd (h (int 8 ∷ []) half_admitted)
its_answer (WideNode path spot) h = inr (path, spot, refl)
its_answer (TooWide spot) h = inl (inr h)
its_answer (WideBudget number spot) h = inl (inr h)
its_answer Printed h = inl (inr h)
its_answer Accepted h = inl (inr h)
its_answer (Rejected place) h = inl (inr h)
its_answer (TreeRejected number fault) h = inl (inr h)
its_answer Words h = inl (inr h)
its_answer Missing h = inl (inr h)
its_answer TooLong h = inl (inr h)
its_answer (Model rule place) h = inl (inr h)
its_answer (Cert rule place) h = inl (inr h)
its_answer (Scenarios rule place) h = inl (inr h)
its_answer (RuleOfWhole rule) h = inl (inr h)
its_answer NoRow h = inl (inr h)
its_answer (RuleOfTree rule place) h = inl (inr h)
its_answer (Sweep rule) h = inl (inr h)
its_answer (Cells rule) h = inl (inr h)
its_answer ReadFault h = inl (inr h)
its_answer WriteFault h = inl (inr h)
its_answer Memory h = inl (inr h)

-- this call has to answer `optimal`, or name such a number
pub half_a_demand_is_solved : (result : Ended)
    → MustEnd (whole_call half_a_demand (codes "x")) result → IsSolvedOrWide result
half_a_demand_is_solved result must =
    its_answer result (must.whole (line (codes "x")) half_a_demand (0 ∷ []) half_variables refl)
