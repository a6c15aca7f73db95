-- The canonical text of the split model of a model that a text reads as is read as that split model.
use Rattle.std.proofs.Common.{◌≡◌, ℕ, zero, suc, ◌^◌, ◌<◌, ◌≤◌, List, [], ◌∷◌, ◌++◌, length, map, refl, sym, ap, ◌∙◌, subst, arith}
use Rattle.rob_meaning.proofs.Lists.EachLemmas.{each_append}
use Rattle.rob_meaning.proofs.Naming.NamedLemmas.{each_mapped}
use Rattle.rob_meaning.specs.Named.{HasDistinctMembers, IsNamed, declared_names}
use Rattle.rob_meaning.specs.Places.{Each}
use Rattle.rob_meaning.specs.RobustModel.{RobustModel, SetLine, budget, line, set_count}
use Rattle.rob_meaning.specs.WellFormed.{IsModel}
use Rattle.rob_model.specs.Limits.{IsWithinLimits}
use Rattle.rob_parse.proofs.Building.PlacedLemmas.{well_formed}
use Rattle.rob_parse.proofs.Names.WellNamed.{well_named, well_spelled}
use Rattle.rob_parse.proofs.Sets.InSets.{length-each_taken}
use Rattle.rob_parse.specs.Modelled.{ReadsModel}
use Rattle.rob_parse.specs.Models.{in_sets, line_taken, row_taken}
use Rattle.rob_pieces.proofs.BlockLemmas.{each_cell, each_flat}
use Rattle.rob_pieces.proofs.ColumnLemmas.{sets_count}
use Rattle.rob_pieces.proofs.NamedSplitLemmas.{split_is_named}
use Rattle.rob_pieces.specs.Cuts.{AreCuts, Cut, IsCell, bit, cell_numbers}
use Rattle.rob_pieces.specs.SplitModel.{cell_lines, cell_names, cell_rows, split_model}
use Rattle.rob_pieces.specs.SplitNames.{HasGoodNames}
use Rattle.rob_round_trip.proofs.Canonical.CanonicalReading.{canonical_reads}
use Rattle.rob_round_trip.proofs.Lengths.TokenCounts.{canonical_shallow}
use Rattle.rob_round_trip.proofs.WithoutSets.SetlessTexts.{lines_are_alone}
use Rattle.rob_round_trip.proofs.Written.ReadModels.{readable}
use Rattle.rob_round_trip.proofs.Written.WritableLines.{all_fine}
use Rattle.rob_round_trip.proofs.Written.WrittenBack.{written_is}
use Rattle.rob_round_trip.specs.Pages.{IsShallow, IsWritable}
use Rattle.rob_round_trip.specs.Readable.{HasReadableParts, IsPlaced, IsReadableModel}
use Rattle.rob_split_text.proofs.FewTokens.{few_where_read}
use Rattle.rob_split_text.proofs.FormedSplits.{written_is_model}
use Rattle.rob_split_text.proofs.ReadableSplits.{written_readable}
use Rattle.rob_split_text.proofs.ShallowSplits.{IsLow, lines_low, split_shallow}
use Rattle.rob_split_text.proofs.SpelledSplits.{split_spelled}
use Rattle.rob_split_text.proofs.WrittenSplits.{line_renamed, lines_cells, lines_fit, lines_written, rows_cells, rows_fit, side_written, sides_written, split_in_sets, written_split}
use Rattle.rob_split_text.specs.SplitTexts.{HasFewTokens, HaveFittingLevels}
use Rattle.rob_syntax.specs.Names.{IsSpelled}
use Rattle.rob_write.specs.WrittenModel.{written_model}
use Rattle.rob_write.specs.ExpressionWords.{naming_of}
use Rattle.rob_write.specs.StatementWords.{adaptive_words, declared_set_words, goal_words, lines_over, over_words, parameter_words, row_words, set_words, variable_words}
use Rattle.rob_write.specs.Canonical.{lines_alone, lines_of, model_text}

all_alike : {A : Type 0} (P : ℕ → Type 0) (c : ℕ) (xs : List A) → P c → Each P (map (λ item. c) xs)
all_alike P c [] h = tt
all_alike P c (x ∷ xs) h = (h, all_alike P c xs h)

module _ (limit : ℕ) (text : List ℕ) (m : RobustModel) (cuts : List Cut) (above : 1 ≤ limit) (small : limit < 2 ^ 62)
    (read : ReadsModel limit text m) (alone : m.sets ≡ []) (three : length cuts ≤ 3) (are : AreCuts m cuts)
    (levels : HaveFittingLevels limit cuts) (good : HasGoodNames (split_model m cuts))
    (within : IsWithinLimits (split_model m cuts)) where
  abbrev s : RobustModel
  s = split_model m cuts

  abbrev w : RobustModel
  w = written_split m cuts

  w_formed : IsModel w
  w_formed = written_is_model m (well_formed limit text m read above) alone cuts are

  -- what it has written
  written : written_model s ≡ w
  written =
      ap written_model (sym (split_in_sets m cuts))
      ∙ written_is w refl (cell_names cuts) (lines_cells m cuts) 0 (rows_cells m cuts) w_formed (lines_fit m cuts)
      (rows_fit m cuts) refl refl refl

  cell_is_set : (c : ℕ) → IsCell cuts c → c < set_count s
  cell_is_set c cell = let most = cell.1 in let count = sets_count m cuts in omega (arith, most, count)

  placed : IsPlaced s
  placed = record {
    taken_is = ap (λ (x : RobustModel). in_sets x (cell_names cuts) (lines_cells m cuts) 0 (rows_cells m cuts)) written
        ∙ split_in_sets m cuts;
    line_sets =
        lines_fit m cuts ∙ sym (length-each_taken (line_taken (length m.parameters)) w.set_lines (lines_cells m cuts))
        ∙ ap (λ (x : RobustModel). length x.set_lines) (split_in_sets m cuts);
    row_sets =
        rows_fit m cuts ∙ sym (length-each_taken (row_taken (length m.parameters)) w.rows (rows_cells m cuts))
        ∙ ap (λ (x : RobustModel). length x.rows) (split_in_sets m cuts);
    of_lines =
        each_flat (λ S. S < set_count s) (λ c. map (λ item. c) (cell_lines m c cuts)) (cell_numbers cuts)
        (each_cell cuts (λ c. Each (λ S. S < set_count s) (map (λ item. c) (cell_lines m c cuts)))
        (λ c cell. all_alike (λ S. S < set_count s) c (cell_lines m c cuts) (cell_is_set c cell)));
    of_objective = omega arith;
    of_rows =
        each_flat (λ S. S < set_count s) (λ c. map (λ item. c) (cell_rows m c)) (cell_numbers cuts)
        (each_cell cuts (λ c. Each (λ S. S < set_count s) (map (λ item. c) (cell_rows m c)))
        (λ c cell. all_alike (λ S. S < set_count s) c (cell_rows m c) (cell_is_set c cell)));
  }

  own_readable : IsReadableModel limit (naming_of m) m
  own_readable = readable limit text m above read

  split_readable : IsReadableModel limit (naming_of s) s
  split_readable = record {
    placed = placed;
    parts = subst (HasReadableParts limit (naming_of s)) (sym written)
        (written_readable limit m alone cuts own_readable levels are);
  }

  -- no budget has a parameter twice
  renamed_once : (c : ℕ) (l : SetLine) → HasDistinctMembers l → HasDistinctMembers (line_renamed m c l)
  renamed_once c (line l relation r) h = tt
  renamed_once c (budget limit hs) h = h

  sides_once : (c : ℕ) (cs : List Cut) → Each HasDistinctMembers (sides_written m c cs)
  sides_once c [] = tt
  sides_once c (cut ∷ cs) = (by (bit (length cs) _), sides_once c cs)
    where
      by : (b : ℕ) → HasDistinctMembers (side_written m c cut b)
      by zero = tt
      by (suc b) = tt

  cell_once : (c : ℕ) → IsCell cuts c → Each HasDistinctMembers (lines_written m c cuts)
  cell_once c cell =
      each_append HasDistinctMembers (map (line_renamed m c) m.set_lines) (sides_written m c cuts)
      (each_mapped HasDistinctMembers (line_renamed m c) HasDistinctMembers (renamed_once c) m.set_lines
      (well_named limit text m read).members)
      (sides_once c cuts)

  once : Each HasDistinctMembers (written_model s).set_lines
  once =
      subst (λ (x : RobustModel). Each HasDistinctMembers x.set_lines) (sym written)
      (each_flat HasDistinctMembers (λ c. lines_written m c cuts) (cell_numbers cuts)
      (each_cell cuts (λ c. Each HasDistinctMembers (lines_written m c cuts)) cell_once))

  -- the lines are shallow
  own_low : Each (IsLow 0) (lines_alone m)
  own_low =
      let same : lines_of m ≡ lines_alone m = lines_are_alone m alone own_readable.placed in
      lines_low (lines_alone m)
      (subst (Each (Each IsWritable)) same (all_fine limit small m (well_spelled limit text m read) own_readable))
      (subst (Each (IsShallow 0)) same (canonical_shallow limit text m above read))

  shallow : Each (IsShallow 0) (lines_of s)
  shallow =
      subst
      (λ (x : RobustModel). Each (IsShallow 0)
      (map parameter_words x.parameters
      ++ (map declared_set_words s.sets
      ++ (lines_over (set_words (naming_of s)) s.sets x.set_lines s.line_sets
      ++ (map variable_words s.variables
      ++ (map (adaptive_words (naming_of s)) s.adaptives
      ++ (goal_words (naming_of s) s.sense x.objective ++ over_words s.sets 0)
      ∷ lines_over (row_words (naming_of s)) s.sets x.rows s.row_sets))))))
      (sym written)
      (split_shallow m cuts own_low (naming_of s) s.sets s.line_sets s.row_sets)

  split_named : IsNamed s
  split_named =
      split_is_named m alone cuts three (well_named limit text m read) good
      (let most : length (split_model m cuts).set_lines ≤ 64 = within.set_lines in omega (arith, most))

  split_words : Each IsSpelled (declared_names s)
  split_words = split_spelled m alone cuts three (well_spelled limit text m read) good.short

  pub split_text_reads : HasFewTokens s → ReadsModel limit (model_text s) s
  split_text_reads few =
      canonical_reads limit s above small split_readable (subst IsModel (sym written) w_formed) split_named
      split_words once within shallow few

  -- and only where it has no more tokens than that
  pub split_text_few : (other : RobustModel) → ReadsModel limit (model_text s) other → HasFewTokens s
  split_text_few other reads = few_where_read limit s other (all_fine limit small s split_words split_readable) reads
