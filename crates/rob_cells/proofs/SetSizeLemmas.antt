-- How large the split model's sets are, by the parts of the model.
use Rattle.std.proofs.Common.{◌≡◌, ℕ, zero, suc, ◌+◌, List, [], ◌∷◌, ◌++◌, map, length, refl, ap, ◌∙◌, arith, length-append}
use Rattle.std.specs.Prelude.{pred}
use Rattle.std.proofs.lemmas.List.{length-map}
use Rattle.rob_meaning.specs.RobustModel.{Parameter, RobustModel, SetLine, budget, line}
use Rattle.rob_meaning.specs.SetRows.{lift_count}
use Rattle.rob_model.proofs.ConditionLemmas.{length-bound_names}
use Rattle.rob_model.specs.GroupNames.{bound_names, parameter_bound_names}
use Rattle.rob_pieces.specs.Cuts.{Cut, bit}
use Rattle.rob_pieces.specs.SplitModel.{cell_lines, line_over, member_over, side_line, side_lines}
use Rattle.rob_meaning.proofs.Tables.SizeLemmas.{inequalities, line_rows, parameter_bounds, rows_of}

-- ---- the declared bounds of parameters
pub length-parameter_bound_names : (ps : List Parameter) → length (parameter_bound_names ps) ≡ parameter_bounds ps
length-parameter_bound_names [] = refl
length-parameter_bound_names (p ∷ ps) =
    omega (
      arith,
      length-append (bound_names p.name p.lower p.upper) (parameter_bound_names ps),
      length-bound_names p.name p.lower p.upper,
      length-parameter_bound_names ps,
    )

-- ---- the rows of statements
pub rows_of-append : (cs ds : List SetLine) → rows_of (cs ++ ds) ≡ rows_of cs + rows_of ds
rows_of-append [] ds = omega arith
rows_of-append (c ∷ cs) ds = omega (arith, rows_of-append cs ds)

pub lift_count-append : (cs ds : List SetLine) → lift_count (cs ++ ds) ≡ lift_count cs + lift_count ds
lift_count-append [] ds = omega arith
lift_count-append (line left relation right ∷ cs) ds = lift_count-append cs ds
lift_count-append (budget limit hs ∷ cs) ds = omega (arith, lift_count-append cs ds)

module _ (m : RobustModel) (c : ℕ) where
  rows_over : (cs : List SetLine) → rows_of (map (line_over m c) cs) ≡ rows_of cs
  rows_over [] = refl
  rows_over (line left relation right ∷ cs) = ap (λ n. inequalities relation + n) (rows_over cs)
  rows_over (budget limit hs ∷ cs) = omega (arith, length-map hs (member_over m c), rows_over cs)

  members_over : (cs : List SetLine) → lift_count (map (line_over m c) cs) ≡ lift_count cs
  members_over [] = refl
  members_over (line left relation right ∷ cs) = members_over cs
  members_over (budget limit hs ∷ cs) = omega (arith, length-map hs (member_over m c), members_over cs)

  one_row : (cut : Cut) (b : ℕ) → (line_rows (side_line m c cut b) ≡ 1)
  one_row cut zero = refl
  one_row cut (suc b) = refl

  no_member : (cut : Cut) (b : ℕ) (cs : List SetLine) → lift_count (side_line m c cut b ∷ cs) ≡ lift_count cs
  no_member cut zero cs = refl
  no_member cut (suc b) cs = refl

  side_rows : (cuts : List Cut) → rows_of (side_lines m c cuts) ≡ length cuts
  side_rows [] = refl
  side_rows (cut ∷ cuts) = omega (arith, one_row cut (bit (length cuts) (pred c)), side_rows cuts)

  side_members : (cuts : List Cut) → lift_count (side_lines m c cuts) ≡ 0
  side_members [] = refl
  side_members (cut ∷ cuts) = no_member cut (bit (length cuts) (pred c)) (side_lines m c cuts) ∙ side_members cuts

  length-side_lines : (cuts : List Cut) → length (side_lines m c cuts) ≡ length cuts
  length-side_lines [] = refl
  length-side_lines (cut ∷ cuts) = ap suc (length-side_lines cuts)

  pub cell_line_count : (cuts : List Cut) → length (cell_lines m c cuts) ≡ length m.set_lines + length cuts
  cell_line_count cuts =
      omega (
        arith,
        length-append (map (line_over m c) m.set_lines) (side_lines m c cuts),
        length-map m.set_lines (line_over m c),
        length-side_lines cuts,
      )

  pub cell_set_rows : (cuts : List Cut) → rows_of (cell_lines m c cuts) ≡ rows_of m.set_lines + length cuts
  cell_set_rows cuts =
      omega (
        arith,
        rows_of-append (map (line_over m c) m.set_lines) (side_lines m c cuts),
        rows_over m.set_lines,
        side_rows cuts,
      )

  pub cell_members : (cuts : List Cut) → lift_count (cell_lines m c cuts) ≡ lift_count m.set_lines
  cell_members cuts =
      omega (
        arith,
        lift_count-append (map (line_over m c) m.set_lines) (side_lines m c cuts),
        members_over m.set_lines,
        side_members cuts,
      )
