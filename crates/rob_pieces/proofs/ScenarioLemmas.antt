-- A cell's set in the split model admits the admitted scenarios of the model that the cell holds, and no other.
use Rattle.std.specs.Prelude.{◌≡◌, ℕ, zero, suc, ◌+◌, ◌*◌, ◌<◌, List, [], ◌∷◌, length, map, refl, ◌↔◌}
use Rattle.std.proofs.Common.{sym, ◌∙◌, ap, subst, arith, pow_pos}
use Rattle.rob_algebra.specs.Fraction.{Fraction, ◌≤ℚ◌}
use Rattle.rob_meaning.proofs.Conditions.AdmittedLemmas.{Bounded, some_admitted_law}
use Rattle.rob_meaning.proofs.Scenarios.AloneLemmas.{all_taken, all_written}
use Rattle.rob_meaning.proofs.Lists.EachLemmas.{each_append, each_left, each_map, each_right}
use Rattle.rob_meaning.proofs.Scenarios.JointScenarioLemmas.{at-joined}
use Rattle.rob_meaning.specs.Places.{at, Each, EachFrom}
use Rattle.rob_meaning.specs.RobustModel.{Parameter, RobustModel, SetLine, set_count, written_count, written_parameters}
use Rattle.rob_meaning.specs.UncertaintySet.{Admits, AdmitsIn, IsEmptySet, KeepsLine, in_each_set, part_of}
use Rattle.rob_meaning.specs.Values.{value}
use Rattle.rob_meaning.specs.WellFormed.{IsModel, IsSetLine}
use Rattle.rob_pieces.proofs.BlockLemmas.{by_cells, cell_each, cells_by, each_cell, each_mapped_both, mapped_each}
use Rattle.rob_pieces.proofs.ColumnLemmas.{sets_count, written_parameters_split, written_split}
use Rattle.rob_pieces.proofs.FormedLemmas.{lists_within, split_is_model}
use Rattle.rob_pieces.proofs.OneSetLemmas.{in_one_set, lines_in, lines_out}
use Rattle.rob_pieces.proofs.OverCellLemmas.{Reads, is_set, line_kept, line_was_kept, value_side}
use Rattle.rob_pieces.specs.Cuts.{AreCuts, CellHolds, Cut, IsCell, IsOnSide, bit, cell_numbers}
use Rattle.rob_pieces.specs.SplitModel.{as_side, cell_lines, line_over, parameter_in, side_line, side_lines, split_model}

module _ (m : RobustModel) (model : IsModel m) (alone : m.sets ≡ []) (cuts : List Cut) (are : AreCuts m cuts) where
  abbrev s : RobustModel
  s = split_model m cuts

  module _ (u : List Fraction) where
    numbers_in : length u ≡ written_count m → length u ≡ written_count s
    numbers_in e = e ∙ all_written m alone ∙ sym (written_split m cuts)

    numbers_out : length u ≡ written_count s → length u ≡ written_count m
    numbers_out e = e ∙ written_split m cuts ∙ sym (all_written m alone)

    same_parameters : written_parameters s ≡ written_parameters m
    same_parameters = written_parameters_split m cuts ∙ sym (all_taken m alone)

    bounds_in : EachFrom zero (Bounded u) (written_parameters m) → EachFrom zero (Bounded u) (written_parameters s)
    bounds_in h = subst (λ (ps : List Parameter). EachFrom zero (Bounded u) ps) (sym same_parameters) h

    bounds_out : EachFrom zero (Bounded u) (written_parameters s) → EachFrom zero (Bounded u) (written_parameters m)
    bounds_out h = subst (λ (ps : List Parameter). EachFrom zero (Bounded u) ps) same_parameters h

    -- the default set has the bounds of parameters alone
    pub default_admits : AdmitsIn m 0 u → AdmitsIn s 0 u
    default_admits h = record {
      numbers = numbers_in h.numbers;
      bounds = bounds_in h.bounds;
      lines =
          by_cells (λ c (l : SetLine). c ≡ 0 → KeepsLine s (in_each_set s u) l)
          (λ c. cell_lines m c cuts) (cell_numbers cuts)
          (each_cell cuts (λ c. Each (λ (l : SetLine). c ≡ 0 → KeepsLine s (in_each_set s u) l) (cell_lines m c cuts))
          (λ c cell. none c cell (cell_lines m c cuts)));
    }
      where
        none : (c : ℕ) → IsCell cuts c → (ls : List SetLine)
            → Each (λ (l : SetLine). c ≡ 0 → KeepsLine s (in_each_set s u) l) ls
        none c cell [] = tt
        none c cell (l ∷ ls) = (λ e. absurd (let p = cell.0 in omega arith), none c cell ls)

    module _ (c : ℕ) (cell : IsCell cuts c) (fits : length u ≡ written_count s) where
      reads_own : (k : ℕ) → k < length m.parameters → at (in_each_set s u) (parameter_in m c k) ≡ at u k
      reads_own k some =
          ap (λ n. at (in_each_set s u) (c * n + k)) (sym (written_split m cuts))
          ∙ at-joined (written_count s) (length s.sets) (λ S. u) (λ S some. fits) c k (is_set m alone cuts c cell)
          (subst (λ n. k < n) (sym (written_split m cuts)) some)

      pub reads : Reads m alone cuts c cell (in_each_set s u) (in_each_set m u)
      reads k some = reads_own k some ∙ ap (λ (v : List Fraction). at v k) (sym (in_one_set m alone u))

      -- ---- sides
      side_in : (cut : Cut) (b : ℕ) → cut.parameter < length m.parameters → IsOnSide cut b u →
          KeepsLine s (in_each_set s u) (side_line m c cut b)
      side_in cut zero some h =
          subst (λ x. x ≤ℚ value s [] (in_each_set s u) (as_side cut.level)) (sym (reads_own cut.parameter some))
          (subst (λ x. at u cut.parameter ≤ℚ x) (sym (value_side s [] (in_each_set s u) cut.level)) h)
      side_in cut (suc b) some h =
          subst (λ x. value s [] (in_each_set s u) (as_side cut.level) ≤ℚ x) (sym (reads_own cut.parameter some))
          (subst (λ x. x ≤ℚ at u cut.parameter) (sym (value_side s [] (in_each_set s u) cut.level)) h)

      side_out : (cut : Cut) (b : ℕ) → cut.parameter < length m.parameters →
          KeepsLine s (in_each_set s u) (side_line m c cut b) → IsOnSide cut b u
      side_out cut zero some h =
          subst (λ x. at u cut.parameter ≤ℚ x) (value_side s [] (in_each_set s u) cut.level)
          (subst (λ x. x ≤ℚ value s [] (in_each_set s u) (as_side cut.level)) (reads_own cut.parameter some) h)
      side_out cut (suc b) some h =
          subst (λ x. x ≤ℚ at u cut.parameter) (value_side s [] (in_each_set s u) cut.level)
          (subst (λ x. value s [] (in_each_set s u) (as_side cut.level) ≤ℚ x) (reads_own cut.parameter some) h)

      sides_in : (cs : List Cut) → AreCuts m cs → CellHolds cs c u
          → Each (KeepsLine s (in_each_set s u)) (side_lines m c cs)
      sides_in [] a h = tt
      sides_in (cut ∷ cs) a h = (side_in cut (bit (length cs) _) a.0 h.0, sides_in cs a.1 h.1)

      sides_out : (cs : List Cut) → AreCuts m cs
          → Each (KeepsLine s (in_each_set s u)) (side_lines m c cs) → CellHolds cs c u
      sides_out [] a h = tt
      sides_out (cut ∷ cs) a h = (side_out cut (bit (length cs) _) a.0 h.0, sides_out cs a.1 h.1)

    -- ---- cells
    pub cell_admits : (c : ℕ) → IsCell cuts c → AdmitsIn m 0 u → CellHolds cuts c u → AdmitsIn s c u
    cell_admits c cell h held = record {
      numbers = numbers_in h.numbers;
      bounds = bounds_in h.bounds;
      lines =
          by_cells (λ d (l : SetLine). d ≡ c → KeepsLine s (in_each_set s u) l)
          (λ c. cell_lines m c cuts) (cell_numbers cuts)
          (each_cell cuts (λ d. Each (λ (l : SetLine). d ≡ c → KeepsLine s (in_each_set s u) l) (cell_lines m d cuts))
          kept);
    }
      where
        here : Each (KeepsLine s (in_each_set s u)) (cell_lines m c cuts)
        here =
            each_append (KeepsLine s (in_each_set s u)) (map (line_over m c) m.set_lines) (side_lines m c cuts)
            (each_mapped_both (line_over m c) (IsSetLine m) (KeepsLine m (in_each_set m u))
            (KeepsLine s (in_each_set s u))
            (λ l own kept. line_kept m alone cuts c cell (lists_within m model alone cuts are)
            (in_each_set s u) (in_each_set m u)
            (reads c cell (numbers_in h.numbers)) l own kept)
            m.set_lines model.set_lines
            (lines_out m alone model (KeepsLine m (in_each_set m u)) zero m.set_lines model.own_lines h.lines))
            (sides_in c cell (numbers_in h.numbers) cuts are held)

        kept : (d : ℕ) → IsCell cuts d
            → Each (λ (l : SetLine). d ≡ c → KeepsLine s (in_each_set s u) l) (cell_lines m d cuts)
        kept d other =
            lift (cell_lines m d cuts)
            (λ e. subst (λ d. Each (KeepsLine s (in_each_set s u)) (cell_lines m d cuts)) (sym e) here)
          where
            lift : (ls : List SetLine) → (d ≡ c → Each (KeepsLine s (in_each_set s u)) ls) →
                Each (λ (l : SetLine). d ≡ c → KeepsLine s (in_each_set s u) l) ls
            lift [] f = tt
            lift (l ∷ ls) f = (λ e. (f e).0, lift ls (λ e. (f e).1))

    pub cell_admitted : (c : ℕ) → IsCell cuts c → AdmitsIn s c u → AdmitsIn m 0 u × CellHolds cuts c u
    cell_admitted c cell h = (
      record {
        numbers = numbers_out h.numbers;
        bounds = bounds_out h.bounds;
        lines =
            lines_in m alone model (KeepsLine m (in_each_set m u)) zero m.set_lines
            (mapped_each (line_over m c) (IsSetLine m) (KeepsLine m (in_each_set m u)) (KeepsLine s (in_each_set s u))
            (λ l own kept. line_was_kept m alone cuts c cell (lists_within m model alone cuts are)
            (in_each_set s u) (in_each_set m u)
            (reads c cell h.numbers) l own kept)
            m.set_lines model.set_lines
            (each_left (KeepsLine s (in_each_set s u)) (map (line_over m c) m.set_lines)
            (side_lines m c cuts) here));
      },
      sides_out c cell h.numbers cuts are
          (each_right (KeepsLine s (in_each_set s u)) (map (line_over m c) m.set_lines) (side_lines m c cuts) here),
    )
      where
        here : Each (KeepsLine s (in_each_set s u)) (cell_lines m c cuts)
        here =
            each_map (λ (l : SetLine). c ≡ c → KeepsLine s (in_each_set s u) l)
            (KeepsLine s (in_each_set s u)) (λ l f. f refl)
            (cell_lines m c cuts)
            (cell_each cuts (λ d. Each (λ (l : SetLine). d ≡ c → KeepsLine s (in_each_set s u) l) (cell_lines m d cuts))
            (cells_by (λ d (l : SetLine). d ≡ c → KeepsLine s (in_each_set s u) l) (λ c. cell_lines m c cuts)
            (cell_numbers cuts) h.lines)
            c cell)

  -- ---- empty cells
  pub empty_cell : (c : ℕ) → IsCell cuts c
      → ((u : List Fraction) → AdmitsIn m 0 u → CellHolds cuts c u → ⊥) → IsEmptySet s
  empty_cell c cell none u h =
      (let own = cell_admitted (part_of s c u) c cell (h.parts c (is_set m alone cuts c cell)) in
      none (part_of s c u) own.0 own.1)

  -- ---- no cell is empty
  -- some joint scenario of the split model is admitted exactly where each cell holds an admitted scenario
  pub some_in_each : ((w : List Fraction) × Admits s w) ↔
      ((c : ℕ) → IsCell cuts c → (u : List Fraction) × (AdmitsIn m 0 u × CellHolds cuts c u))
  some_in_each = (
    λ h c cell.
        (let own = cell_admitted (part_of s c h.0) c cell (h.1.parts c (is_set m alone cuts c cell)) in
        (part_of s c h.0, own)),
    λ h. (some_admitted_law s (split_is_model m model alone cuts are)).1 (each_set h),
  )
    where
      each_set : ((c : ℕ) → IsCell cuts c → (u : List Fraction) × (AdmitsIn m 0 u × CellHolds cuts c u)) →
          (S : ℕ) → S < set_count s → (u : List Fraction) × AdmitsIn s S u
      each_set h zero some =
          let first = h 1 (omega arith, pow_pos (length cuts)) in
          (first.0, default_admits first.0 first.1.0)
      each_set h (suc S) some =
          let cell : IsCell cuts (suc S) = (omega arith, (let count = sets_count m cuts in omega arith)) in
          let own = h (suc S) cell in
          (own.0, cell_admits own.0 (suc S) cell own.1.0 own.1.1)
