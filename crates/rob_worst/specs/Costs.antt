-- The costs of a search: the numbers of a form at a whole vector, as the code sums them.
use Rattle.std.specs.Prelude.{◌≡◌, ℕ, suc, ◌≤◌, nat_lt, cond, ℤ, pos, ◌*ℤ◌, List, [], ⊤}
use Rattle.rob_linear.specs.Vectors.{Vector, sum_to, at}
use Rattle.rob_meaning.specs.Forms.{matrix_at}
use Rattle.rob_counterpart.specs.Counterpart.{cell}
use Rattle.rob_elab.specs.declared.forms.Forms.{Forms}
use Rattle.rob_model.specs.declared.place.Spot.{Spot}
use Rattle.rob_model.specs.declared.place.Spot.TheVariants.{Sum}
use Rattle.rob_model.specs.declared.place.Where.TheVariants.{Cost}
use Rattle.rob_cert.specs.declared.ending.Stop.{Stop}
use Rattle.rob_cert.specs.declared.ending.Stop.TheVariants.{EmptySet, Wide, Memory}
use Rattle.rob_runs.specs.Spots.{HasWidePrefix}

module _ (forms : Forms) (i : ℕ) where
  -- the products that are summed for the constant part, or, with k over 0, for parameter k - 1
  abbrev pub product_at : ℕ → List ℤ → Vector
  product_at k whole j = cell (matrix_at forms.matrices i) k j *ℤ at whole j

  -- their sum: the form's number for the constant, or for that parameter
  abbrev pub part_at : ℕ → List ℤ → ℤ
  part_at k whole = sum_to (suc (suc forms.columns)) (product_at k whole)

  -- the form's number for set column c: 0 where that is no parameter
  abbrev pub column_part : List ℤ → ℕ → ℤ
  column_part whole c = cond (nat_lt c forms.params) (part_at (suc c) whole) (pos 0)

  -- a prefix of the sum is over the limit in size
  abbrev pub IsWidePart : ℕ → ℕ → List ℤ → Type 0
  IsWidePart limit k whole = HasWidePrefix limit (suc (suc forms.columns)) (product_at k whole)

  -- the spot names a part with such a prefix
  abbrev pub NamesWidePart : ℕ → List ℤ → Spot → Type 0
  NamesWidePart limit whole spot = (k : ℕ) × (k ≤ forms.params) × (spot ≡ Sum (Cost i) k) × IsWidePart limit k whole

  -- a part is wide, or memory was refused
  abbrev pub StopsAtPart : ℕ → List ℤ → Stop → Type 0
  StopsAtPart limit whole (EmptySet weights) = ⊥
  StopsAtPart limit whole (Wide spot trace) = NamesWidePart limit whole spot × (trace.rounds ≡ [])
  StopsAtPart limit whole Memory = ⊤
