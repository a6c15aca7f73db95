-- Factors that are added to those of a form from a place on.
use Rattle.std.specs.Prelude.{ℕ, zero, suc, ℤ, List, [], ◌∷◌}
use Rattle.rob_index.specs.Forms.{joined}

-- those in front of the place, and behind them c times the one plus the other; a place behind the end counts as the end
abbrev pub joined_from : ℕ → ℤ → List ℤ → List ℤ → List ℤ
joined_from zero c bs ds = joined c bs ds
joined_from (suc n) c bs [] = joined c bs []
joined_from (suc n) c bs (d ∷ ds) = d ∷ joined_from n c bs ds
