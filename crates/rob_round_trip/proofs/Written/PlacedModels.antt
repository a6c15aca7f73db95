-- A model that a text reads as: what it has written is what its statements
-- write, and each part of it is taken in its set.
use Rattle.std.proofs.Common.{◌≡◌, ℕ, suc, ◌<◌, ◌≤◌, List, length, refl, sym, ap, ◌∙◌, subst}
use Rattle.rob_meaning.specs.Places.{Each}
use Rattle.rob_meaning.specs.RobustModel.{RobustModel}
use Rattle.rob_parse.specs.Modelled.{ReadsModel}
use Rattle.rob_parse.specs.Models.{in_sets, line_taken, row_taken}
use Rattle.rob_parse.proofs.Sets.InSets.{length-each_taken}
use Rattle.rob_parse.proofs.Building.ModelLemmas.{well_formed_written, written_by}
use Rattle.rob_parse.proofs.Building.PlacedLemmas.{names, of_lines, of_objective, of_rows, of_lines_there, of_objective_there, of_rows_there}
use Rattle.rob_parse.proofs.Sets.SetNumbers.{lines_beside, rows_beside}
use Rattle.rob_write.specs.WrittenModel.{written_model}
use Rattle.rob_round_trip.specs.Readable.{IsPlaced}
use Rattle.rob_round_trip.proofs.Written.WrittenBack.{written_is}

module _ (limit : ℕ) (text : List ℕ) (m : RobustModel) (read : ReadsModel limit text m) where
  pub is_written : 1 ≤ limit → written_model m ≡ written_by limit text m read
  is_written low =
      ap written_model read.model_is
      ∙ written_is (written_by limit text m read) refl (names limit text m read) (of_lines limit text m read)
      (of_objective limit text m read) (of_rows limit text m read)
      (well_formed_written limit text m low read)
      (lines_beside read.words read.known.sorts read.list)
      (rows_beside read.words read.known.sorts read.list) refl refl refl

  pub is_placed : 1 ≤ limit → IsPlaced m
  is_placed low = record {
    taken_is =
        (λ i. in_sets (is_written low i) (read.model_is i).sets (read.model_is i).line_sets
        (read.model_is i).objective_set (read.model_is i).row_sets)
        ∙ sym read.model_is;
    line_sets =
        ap (λ (x : RobustModel). length x.line_sets) read.model_is ∙ lines_beside read.words read.known.sorts read.list
        ∙ sym (length-each_taken (line_taken (length (written_by limit text m read).parameters))
        (written_by limit text m read).set_lines (of_lines limit text m read))
        ∙ ap (λ (x : RobustModel). length x.set_lines) (sym read.model_is);
    row_sets =
        ap (λ (x : RobustModel). length x.row_sets) read.model_is ∙ rows_beside read.words read.known.sorts read.list
        ∙ sym (length-each_taken (row_taken (length (written_by limit text m read).parameters))
        (written_by limit text m read).rows (of_rows limit text m read))
        ∙ ap (λ (x : RobustModel). length x.rows) (sym read.model_is);
    of_lines = subst (λ (x : RobustModel). Each (λ S. S < suc (length x.sets)) x.line_sets) (sym read.model_is)
        (of_lines_there limit text m read);
    of_objective =
        subst (λ (x : RobustModel). x.objective_set < suc (length x.sets)) (sym read.model_is)
        (of_objective_there limit text m read);
    of_rows = subst (λ (x : RobustModel). Each (λ S. S < suc (length x.sets)) x.row_sets) (sym read.model_is)
        (of_rows_there limit text m read);
  }
