-- A model that a text reads as is well formed: each part of what is written is taken in a set that is there.
use Rattle.std.proofs.Common.{◌≡◌, ℕ, suc, ◌<◌, ◌≤◌, List, length, refl, sym, subst, arith}
use Rattle.std.specs.List.{flat_map}
use Rattle.rob_meaning.specs.Places.{Each}
use Rattle.rob_meaning.specs.RobustModel.{RobustModel}
use Rattle.rob_meaning.specs.WellFormed.{IsModel}
use Rattle.rob_parse.specs.Modelled.{ReadsModel}
use Rattle.rob_parse.specs.Written.{goal_in, sets}
use Rattle.rob_parse.specs.Models.{line_sets, objective_set, row_sets}
use Rattle.rob_rules.specs.Scopes.{start}
use Rattle.rob_parse.proofs.Sizes.CountLemmas.{counts}
use Rattle.rob_parse.proofs.Names.ChainLemmas.{model_chain}
use Rattle.rob_parse.proofs.Sets.InSets.{in_sets_model}
use Rattle.rob_parse.proofs.Building.ModelLemmas.{well_formed_written, written_by}
use Rattle.rob_parse.proofs.Sets.SetNumbers.{AreCounted, counted_all, counted_start, lines_beside, lines_there, objective_there, rows_beside, rows_there}

module _ (limit : ℕ) (text : List ℕ) (m : RobustModel) (read : ReadsModel limit text m) where
  abbrev pub names : List (List ℕ)
  names = flat_map (sets read.words) read.list

  abbrev pub of_lines : List ℕ
  of_lines = flat_map (line_sets read.known.sorts) read.list

  abbrev pub of_objective : ℕ
  of_objective = objective_set read.known.sorts (goal_in read.list)

  abbrev pub of_rows : List ℕ
  of_rows = flat_map (row_sets read.known.sorts) read.list

  -- the sets that are declared
  declared : read.known.sizes.sets ≡ length names
  declared =
      let c =
      counts read.words read.known.sorts limit (start (length read.words)) read.list read.known
      (model_chain limit text m read) in
      omega (arith, c.sets_are)

  numbered : AreCounted read.known
  numbered =
      counted_all limit read.words (start (length read.words)) read.list read.known (model_chain limit text m read)
      (counted_start (length read.words))

  pub of_lines_there : Each (λ S. S < suc (length names)) of_lines
  of_lines_there =
      subst (λ (n : ℕ). Each (λ S. S < suc n) of_lines) declared
      (lines_there read.known.sorts read.known.sizes.sets numbered read.list)

  pub of_objective_there : of_objective < suc (length names)
  of_objective_there =
      subst (λ (n : ℕ). of_objective < suc n) declared
      (objective_there read.known.sorts read.known.sizes.sets numbered (goal_in read.list))

  pub of_rows_there : Each (λ S. S < suc (length names)) of_rows
  of_rows_there =
      subst (λ (n : ℕ). Each (λ S. S < suc n) of_rows) declared
      (rows_there read.known.sorts read.known.sizes.sets numbered read.list)

  pub well_formed : 1 ≤ limit → IsModel m
  well_formed low =
      subst IsModel (sym read.model_is)
      (in_sets_model (written_by limit text m read) refl names of_lines of_objective of_rows
      (well_formed_written limit text m low read)
      (lines_beside read.words read.known.sorts read.list) (rows_beside read.words read.known.sorts read.list)
      of_lines_there of_objective_there of_rows_there)
