-- The linear programs that are solved for a model: over its set, for the worst
-- case of a form, the counterpart, the master.
use Rattle.std.specs.Prelude.{ℕ, ℤ, pos, negsuc, List, [], length, map, slice_index_or}
use Rattle.rob_linear.specs.Vectors.{Vector, at}
use Rattle.rob_linear.specs.Programs.{Program}
use Rattle.rob_meaning.specs.RobustModel.{Sense, minimise, maximise, RobustModel, column_count}
use Rattle.rob_meaning.specs.Forms.{matrices, matrix_at}
use Rattle.rob_meaning.specs.SetRows.{set_rows, set_column_count, whole_row, whole_limit}
use Rattle.rob_counterpart.specs.RobustProgram.{RobustProgram}
use Rattle.rob_counterpart.specs.Reform.{reform}
use Rattle.rob_counterpart.specs.SetPrograms.{set_of, search_of}
use Rattle.rob_counterpart.specs.Master.{Cuts, master_of}

-- the entry of a matrix in row k and column j, 0 past its end
abbrev pub cell : List (List ℤ) → ℕ → ℕ → ℤ
cell rows k j = at (slice_index_or rows k []) j

-- what tau counts in what is maximised
abbrev pub sign_of : Sense → ℤ
sign_of minimise = negsuc 0
sign_of maximise = pos 1

-- the whole numbers of a model: the matrices of its forms, its set rows and their limits
abbrev pub robust_of : RobustModel → RobustProgram
robust_of m = record {
  forms = length (matrices m);
  parameters = length m.parameters;
  decisions = column_count m;
  set_rows = length (set_rows m);
  set_columns = set_column_count m;
  form = λ i k j. cell (matrix_at (matrices m) i) k j;
  left = λ r c. cell (map (whole_row m) (set_rows m)) r c;
  right = at (map (whole_limit m) (set_rows m));
  sense = sign_of m.sense;
}

-- the program of the model's set: it admits something exactly where some scenario is admitted
abbrev pub set_program : RobustModel → Program
set_program m = set_of (robust_of m)

-- the worst case of form i at the whole plan z
abbrev pub search_program : RobustModel → ℕ → Vector → Program
search_program m i z = search_of (robust_of m) i z

-- the model's robust counterpart as a linear program
abbrev pub counterpart : RobustModel → Program
counterpart m = reform (robust_of m)

-- the master over a list of cuts
abbrev pub master_program : RobustModel → Cuts → Program
master_program m cuts = master_of (robust_of m) cuts
