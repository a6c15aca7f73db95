-- Calls of `cells` and `celltext` on the smallest model, worked by hand, and so how they must end: cut at 9; and at 13,
-- where one cell is empty.
use Rattle.std.proofs.Common.{◌≡◌, [], ◌∷◌, List, false, length, refl, inl, inr, ap, subst, sym, arith}
use Rattle.std.specs.Fmt.{digits}
use Rattle.std.specs.Prelude.{codes}
use Rattle.rob_algebra.specs.Fraction.{Fraction, ratio}
use Rattle.rob_cells.proofs.DistinctLemmas.{distinct_decides}
use Rattle.rob_cells.specs.Rules.{KeepsRules}
use Rattle.rob_dualize.proofs.NarrowModels.{one_demand_model}
use Rattle.rob_dualize.specs.SmallestModel.{one_demand}
use Rattle.rob_meaning.proofs.Conditions.EmptyLemmas.{shows_empty}
use Rattle.rob_meaning.proofs.ByHand.WorkedNotation.{best, cover, int, item}
use Rattle.rob_meaning.proofs.ByHand.WorkedTests.{found, test_admits, test_certificate, test_empty}
use Rattle.rob_meaning.specs.Named.{declared_names}
use Rattle.rob_meaning.specs.Places.{0ℚ, 1ℚ, Each}
use Rattle.rob_meaning.specs.RobustModel.{RobustModel}
use Rattle.rob_meaning.specs.Status.{IsOptimal}
use Rattle.rob_meaning.specs.UncertaintySet.{Admits, IsEmptySet}
use Rattle.rob_model.specs.Limits.{IsWithinLimits}
use Rattle.rob_parse.specs.Modelled.{ReadsModel}
use Rattle.rob_pieces.proofs.PieceLemmas.{optimal_agree}
use Rattle.rob_pieces.specs.Cuts.{Cut}
use Rattle.rob_pieces.specs.Pieces.{IsPieceOptimal}
use Rattle.rob_pieces.specs.SplitModel.{split_model}
use Rattle.rob_pieces.specs.SplitNames.{HasGoodNames}
use Rattle.rob_top.proofs.Coming.SolveAnswers.{IsPiecedOrWide, pieced_or_wide}
use Rattle.rob_top.proofs.Meaning.SplittingLemmas.{admits_each, each_admits, split_model_is}
use Rattle.rob_top.proofs.ByHand.WorkedCalls.{Comes, one_demand_comes, one_demand_reads, within_by}
use Rattle.rob_top.specs.Calls.{Call}
use Rattle.rob_top.specs.Commands.{IsSplitting}
use Rattle.rob_top.specs.Files.{Came, files_of, request_of, word_of}
use Rattle.rob_top.specs.Completeness.{MustEnd}
use Rattle.rob_top.specs.Endings.{EndsAs}
use Rattle.rob_top.specs.Inputs.{HasModel}
use Rattle.rob_top.specs.Split.{AreCutsAt, EachCellAdmits, HasCutWord, HasSplit, level_value}
use Rattle.rob_top.specs.SplitEnds.{IsEmptyCellsAnswer}
use Rattle.rob_top.specs.WorkedCalls.{cells_call, model_name, model_request}
use Rattle.rob_top.specs.WorkedModels.{at_13, at_9, greatest}
use Rattle.rob_commands.specs.declared.ended.Ended.{Ended}
use Rattle.rob_commands.specs.declared.ended.Ended.TheVariants.{Printed}
use Rattle.rob_words.specs.Commands.{IsPlain, IsSpelled, Line, TellsRoute, own}
use Rattle.rob_words.specs.Cuts.{IsCutList}
use Rattle.rob_words.specs.Kinds.{AreOfKinds}
use Rattle.rob_words.specs.Names.{parts_of}
use Rattle.rob_words.specs.Values.{Word}
use Rattle.rob_words.specs.Verbs.{own_of, takes_route, verb_word}
use Rattle.rob_words.specs.declared.route.Route.TheVariants.{Dual}
use Rattle.rob_words.specs.declared.verb.Own.TheVariants.{Cuts, Model}
use Rattle.rob_words.specs.declared.verb.Verb.{Verb}
use Rattle.rob_words.specs.declared.verb.Verb.TheVariants.{Cells, CellText}
use Rattle.rob_words.specs.declared.width.Width.TheVariants.{SixtyTwo}
use Rattle.rob_write.specs.Canonical.{model_text}

-- ---- cells one.rob CUTS and celltext one.rob CUTS
abbrev pub line : Verb → Word → Line
line verb cuts = record { verb = verb; own = model_name ∷ cuts ∷ []; way = Dual; width = SixtyTwo }

pub cut_at_9 : IsCutList greatest (codes "d=9")
cut_at_9 = record {
  parts = (
    record {
      equals = omega arith;
      name = record { is_word = (refl, tt); no_keyword = refl };
      level = inl (refl, record { digits = (omega arith, (omega arith, tt)); fits = omega arith });
    },
    tt,
  );
  few = omega arith;
}

cut_at_13 : IsCutList greatest (codes "d=13")
cut_at_13 = record {
  parts = (
    record {
      equals = omega arith;
      name = record { is_word = (refl, tt); no_keyword = refl };
      level = inl (refl, record { digits = (omega arith, (omega arith, (omega arith, tt))); fits = omega arith });
    },
    tt,
  );
  few = omega arith;
}

-- a command whose own words are a model's file and a list of cuts
module _ (name : Word) (verb : Verb) (named : name ≡ verb_word verb) (kinds : own_of verb ≡ Model ∷ Cuts ∷ [])
    (no_route : takes_route verb ≡ false) (word : Word) (plain : IsPlain word) (is : IsCutList greatest word) where
  spelled_as : IsSpelled (name ∷ model_name ∷ word ∷ []) (line verb word)
  spelled_as = (
    own model_name ∷ own word ∷ [],
    record {
      spelled = ap (λ w. w ∷ model_name ∷ word ∷ []) named;
      own = refl;
      count = ap (λ ks. length ks) (sym kinds);
      names = ((λ e. cc), (plain, tt));
      kinds = subst (λ ks. AreOfKinds greatest ks (model_name ∷ word ∷ [])) (sym kinds) (tt, (is, tt));
      width = inr (refl, refl);
      route = subst (λ b. TellsRoute b [] Dual) (sym no_route) (refl, refl);
    },
  )

  module _ (m : RobustModel) (comes : Comes m) (reads : ReadsModel greatest (model_text m) m) where
    abbrev call_on : Call
    call_on = cells_call name word m

    pub model_on : HasModel call_on (line verb word) m
    model_on = record {
      spelled = spelled_as;
      came =
          subst (λ ks. Each (Came call_on) (files_of ks (model_name ∷ word ∷ []))) (sym kinds)
          ((model_text m, (comes, tt)), tt);
      bytes = model_text m;
      file = record {
        request = model_request;
        named = ap (λ ks. request_of Model ks (model_name ∷ word ∷ [])) kinds;
        found = (comes, tt);
      };
      reads = reads;
    }

    module _ (splits : IsSplitting verb) where
      pub word_on : HasCutWord call_on (line verb word) m word
      word_on = record {
        model = model_on;
        is_splitting = splits;
        told = ap (λ ks. word_of Cuts ks (model_name ∷ word ∷ [])) kinds;
      }

      split_on : m.sets ≡ [] → (cuts : List Cut) → AreCutsAt m (parts_of word) cuts → KeepsRules m cuts
          → HasSplit call_on (line verb word) m cuts
      split_on alone cuts are kept =
          record { has_cuts = record { word = word; has_word = word_on; alone = alone; are = are }; keeps = kept }

-- ---- the smallest model in two cells
abbrev cut_at : Fraction → List Cut
cut_at g = record { parameter = 0; level = g } ∷ []

good_names : (g : Fraction) → HasGoodNames (split_model one_demand (cut_at g))
unfolding digits
good_names g = record {
  distinct = (distinct_decides (declared_names (split_model one_demand (cut_at g)))).0 refl;
  short = (
    omega arith,
    (
      omega arith,
      (omega arith, (omega arith, (omega arith, (omega arith, (omega arith, (omega arith, (omega arith, tt))))))),
    ),
  );
}

keeps : (g : Fraction) → IsWithinLimits (split_model one_demand (cut_at g)) → KeepsRules one_demand (cut_at g)
keeps g limits = record { alone = refl; names = good_names g; limits = limits }

pub keeps_9 : KeepsRules one_demand at_9
unfolding digits
keeps_9 = keeps (level_value (codes "9")) (within_by (split_model one_demand at_9) refl refl refl refl refl refl refl)

keeps_13 : KeepsRules one_demand at_13
unfolding digits
keeps_13 =
    keeps (level_value (codes "13")) (within_by (split_model one_demand at_13) refl refl refl refl refl refl refl)

split_at_9 : HasSplit (cells_call (codes "cells") (codes "d=9") one_demand) (line Cells (codes "d=9")) one_demand at_9
split_at_9 =
    split_on (codes "cells") Cells refl refl refl (codes "d=9") (λ e. cc) cut_at_9 one_demand one_demand_comes
    one_demand_reads refl refl at_9 (record { inside = omega arith; named = refl; level = refl }, tt) keeps_9

split_at_13 :
    HasSplit (cells_call (codes "cells") (codes "d=13") one_demand) (line Cells (codes "d=13")) one_demand at_13
split_at_13 =
    split_on (codes "cells") Cells refl refl refl (codes "d=13") (λ e. cc) cut_at_13 one_demand one_demand_comes
    one_demand_reads refl refl at_13 (record { inside = omega arith; named = refl; level = refl }, tt) keeps_13

pub text_at_9 :
    HasSplit (cells_call (codes "celltext") (codes "d=9") one_demand) (line CellText (codes "d=9")) one_demand at_9
text_at_9 =
    split_on (codes "celltext") CellText refl refl refl (codes "d=9") (λ e. cc) cut_at_9 one_demand one_demand_comes
    one_demand_reads refl refl at_9 (record { inside = omega arith; named = refl; level = refl }, tt) keeps_9

-- ---- at 9: d lies in [8, 9] or in [9, 12]
admitted_9 : Admits (split_model one_demand at_9) (int 9 ∷ int 9 ∷ int 9 ∷ [])
unfolding ratio digits
admitted_9 =
    found
    (test_admits (split_model one_demand at_9)
    (split_model_is one_demand one_demand_model at_9 keeps_9 (omega arith, tt))
    (int 9 ∷ int 9 ∷ int 9 ∷ [])) tt

-- 9 is in both cells
each_holds_9 : EachCellAdmits one_demand at_9
each_holds_9 =
    each_admits one_demand one_demand_model at_9 keeps_9 (omega arith, tt) (int 9 ∷ int 9 ∷ int 9 ∷ []) admitted_9

-- the greatest demand is 12, in cell 2
abbrev peak : List Fraction
peak = int 9 ∷ int 9 ∷ int 12 ∷ []

split_costs_12 : IsOptimal (split_model one_demand at_9) (int 12)
unfolding ratio digits
split_costs_12 =
    found
    (test_certificate (split_model one_demand at_9)
    (best (int 12) (int 9 ∷ int 9 ∷ int 9 ∷ []) (int 12 ∷ int 12 ∷ [])
    (cover 2 3 1ℚ ∷ cover 4 5 1ℚ ∷ [])
    (item 0 1ℚ peak ∷ item 1 1ℚ peak ∷ item 4 1ℚ peak ∷ [])))
    tt

pieces_cost_12 : IsPieceOptimal one_demand at_9 (int 12)
pieces_cost_12 = (optimal_agree one_demand one_demand_model refl at_9 (omega arith, tt) (int 12)).0 split_costs_12

-- `cells` has to answer `optimal`, or name a number of the split model that is wide
pub a_demand_is_split : (result : Ended) → MustEnd (cells_call (codes "cells") (codes "d=9") one_demand) result
    → IsPiecedOrWide greatest one_demand at_9 result
a_demand_is_split result must =
    pieced_or_wide greatest one_demand at_9 (int 12) pieces_cost_12 each_holds_9 result
    (must.split.cells (line Cells (codes "d=9")) one_demand at_9 split_at_9 refl)

-- ---- at 13: no d in [8, 12] is in cell 2, as d <= 12 and -d <= -13 sum to 0 <= -1
abbrev apart : List Fraction
apart = 0ℚ ∷ 0ℚ ∷ 0ℚ ∷ 0ℚ ∷ 0ℚ ∷ 1ℚ ∷ 0ℚ ∷ 1ℚ ∷ []

none_beyond_13 : IsEmptySet (split_model one_demand at_13)
unfolding ratio digits
none_beyond_13 =
    shows_empty (split_model one_demand at_13)
    (split_model_is one_demand one_demand_model at_13 keeps_13 (omega arith, tt))
    apart
    (found (test_empty (split_model one_demand at_13) apart) tt)

not_each : EachCellAdmits one_demand at_13 → ⊥
not_each each =
    let w = admits_each one_demand one_demand_model at_13 keeps_13 (omega arith, tt) each in none_beyond_13 w.0 w.1

-- so `cells` has to answer an empty set, with weights that show it, or a number that is wide before that is known
pub a_cell_is_empty : (result : Ended) → MustEnd (cells_call (codes "cells") (codes "d=13") one_demand) result
    → IsEmptyCellsAnswer greatest one_demand at_13 result
a_cell_is_empty result must =
    must.split.empty (line Cells (codes "d=13")) one_demand at_13 split_at_13 refl not_each

-- ---- `celltext` has to print the split model
pub a_split_is_written : (result : Ended) → MustEnd (cells_call (codes "celltext") (codes "d=9") one_demand) result
    → EndsAs Printed result
a_split_is_written result must = must.split.written (line CellText (codes "d=9")) one_demand at_9 text_at_9 refl
