-- A program with the numbers of the set's, with a search's costs put on, is the search's program.
use Rattle.std.proofs.Common.{◌≡◌, ℕ, ◌+◌, ◌<◌, ◌∙◌, arith}
use lib.IntN.{pos}
use Rattle.rob_linear.specs.Vectors.{Columns, Vector}
use Rattle.rob_linear.specs.Programs.{Program, with_cost}
use Rattle.rob_linear.specs.Paths.{HasAuxiliary, Last, LastFrom}
use Rattle.rob_linear.specs.WideRows.{HasWideRow, HasWideRowFrom}
use Rattle.rob_meaning.specs.RobustModel.{RobustModel}
use Rattle.rob_counterpart.specs.Counterpart.{robust_of, set_program, search_program}
use Rattle.rob_counterpart.specs.RobustProgram.{RobustProgram, number_at}
use Rattle.rob_counterpart.specs.SamePrograms.{AreSame}
use Rattle.rob_counterpart.specs.SetPrograms.{IsOverSet, HasCost, set_of}
use Rattle.rob_counterpart.specs.Splitting.{plus, minus}
use Rattle.rob_counterpart.proofs.Positions.SameSystems.{over_set_same}
use Rattle.rob_counterpart.proofs.Positions.SamePaths.{last_same, last_from, wide_row_from}
use Rattle.rob_counterpart.proofs.Sets.SetLemmas.{over_set_is}
use Rattle.rob_runs.proofs.Searching.SearchPaths.{search_resumed, search_wide}

over_set_back : (d : RobustProgram) (Q : Program) (cost : Vector) → AreSame Q (set_of d)
    → IsOverSet d (with_cost Q cost)
over_set_back d Q cost same =
    let height : Q.m ≡ d.set_rows = same.height in
    let width : Q.n ≡ d.set_columns + d.set_columns = same.width in
    record {
      height = same.height;
      width = same.width;
      at_plus = λ r c rl cl. same.rows r (plus c) (omega arith) (omega arith)
          ∙ (over_set_is d (λ k. pos 0)).at_plus r c rl cl;
      at_minus = λ r c rl cl. same.rows r (minus c) (omega arith) (omega arith)
          ∙ (over_set_is d (λ k. pos 0)).at_minus r c rl cl;
      at_right = λ r rl. same.rights r (omega arith);
    }

module _ (m : RobustModel) (i : ℕ) (z : Vector) (Q : Program) (cost : Vector) (same : AreSame Q (set_program m))
    (costs : HasCost (robust_of m) (λ c. number_at (robust_of m) i c z) (with_cost Q cost)) where
  pub finder_same : AreSame (with_cost Q cost) (search_program m i z)
  finder_same =
      over_set_same (robust_of m) (λ c. number_at (robust_of m) i c z) (with_cost Q cost)
      (over_set_back (robust_of m) Q cost same) costs

  module _ (start : Columns) (last : Last Q start) (without : ¬ (HasAuxiliary Q start)) where
    set_without : ¬ (HasAuxiliary (set_program m) start)
    set_without h =
        let e : Q.m ≡ (set_program m).m = same.height in
        let f : Q.n ≡ (set_program m).n = same.width in
        let l : h.0 < (set_program m).m = h.1 in
        let g : (set_program m).n + (set_program m).m ≡ start h.0 = h.2 in
        without (h.0, omega arith, omega arith)

    pub finder_last : (basis : Columns) → LastFrom (with_cost Q cost) start basis → Last (search_program m i z) basis
    finder_last basis l =
        search_resumed m i z start (last_same Q (set_program m) same start last) set_without basis
        (last_from (with_cost Q cost) (search_program m i z) finder_same start basis l)

    pub finder_wide : (limit : ℕ) (basis : Columns) (k : ℕ) → HasWideRowFrom limit (with_cost Q cost) start basis k
        → HasWideRow limit (search_program m i z) basis k
    finder_wide limit basis k h =
        search_wide m i z start (last_same Q (set_program m) same start last) set_without limit basis k
        (wide_row_from (with_cost Q cost) (search_program m i z) finder_same limit start basis k h)
