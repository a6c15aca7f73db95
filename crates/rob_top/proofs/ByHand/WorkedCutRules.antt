-- Calls of `cells` whose cuts break a rule, worked by hand, and so how they must end: of a model with a named set, and
-- of the smallest model with a cut at no parameter.
use Rattle.std.proofs.Common.{◌≡◌, ◌<◌, [], ◌∷◌, List, ℕ, zero, suc, refl, inl, arith}
use Rattle.std.specs.Prelude.{codes}
use Rattle.rob_dualize.specs.SmallestModel.{one_demand}
use Rattle.rob_cert.specs.Spelling.{name_at}
use Rattle.rob_pieces.specs.Cuts.{Cut}
use Rattle.rob_top.proofs.ByHand.WorkedCalls.{differ, one_demand_comes, one_demand_reads}
use Rattle.rob_top.proofs.ByHand.WorkedCells.{cut_at_9, line, word_on}
use Rattle.rob_top.proofs.ByHand.WorkedSetCalls.{hard_and_soft_comes, hard_and_soft_reads}
use Rattle.rob_top.specs.Completeness.{MustEnd}
use Rattle.rob_top.specs.Endings.{EndsAs}
use Rattle.rob_top.specs.Split.{AreCutsAt, named_set, no_parameter}
use Rattle.rob_top.specs.WorkedCalls.{cells_call}
use Rattle.rob_top.specs.WorkedModels.{greatest, hard_and_soft}
use Rattle.rob_commands.specs.declared.ended.Ended.{Ended}
use Rattle.rob_commands.specs.declared.ended.Ended.TheVariants.{Cells as CellsRule}
use Rattle.rob_words.specs.Cuts.{IsCutList}
use Rattle.rob_words.specs.Names.{parts_of}
use Rattle.rob_words.specs.declared.verb.Verb.TheVariants.{Cells}

-- the model has the set `calm`
pub calm_is_named : (result : Ended) → MustEnd (cells_call (codes "cells") (codes "d=9") hard_and_soft) result
    → EndsAs (CellsRule 51) result
calm_is_named result must =
    must.split.rule (line Cells (codes "d=9")) hard_and_soft 51
    (named_set (codes "d=9")
    (word_on (codes "cells") Cells refl refl refl (codes "d=9") (λ e. cc) cut_at_9 hard_and_soft hard_and_soft_comes
    hard_and_soft_reads refl)
    (λ e. cc) refl)

cut_at_e : IsCutList greatest (codes "e=9")
cut_at_e = record {
  parts = (
    record {
      equals = omega arith;
      name = record { is_word = (refl, tt); no_keyword = refl };
      level = inl (refl, record { digits = (omega arith, (omega arith, tt)); fits = omega arith });
    },
    tt,
  );
  few = omega arith;
}

-- e is no parameter
no_e : (cuts : List Cut) → AreCutsAt one_demand (parts_of (codes "e=9")) cuts → ⊥
no_e [] h = h
no_e (c ∷ cuts) h = by c.parameter h.0.inside h.0.named
  where
    by : (k : ℕ) → k < 1 → name_at (codes "d" ∷ []) k ≡ codes "e" → ⊥
    by zero inside e = differ (codes "d") (codes "e") tt e
    by (suc k) inside e = absurd (omega (arith, inside))

pub e_is_no_parameter : (result : Ended) → MustEnd (cells_call (codes "cells") (codes "e=9") one_demand) result
    → EndsAs (CellsRule 52) result
e_is_no_parameter result must =
    must.split.rule (line Cells (codes "e=9")) one_demand 52
    (no_parameter (codes "e=9")
    (word_on (codes "cells") Cells refl refl refl (codes "e=9") (λ e. cc) cut_at_e one_demand one_demand_comes
    one_demand_reads refl)
    refl no_e refl)
