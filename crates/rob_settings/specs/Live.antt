-- Where the ranges inside a range have values.
use Rattle.std.specs.Prelude.{ℤ, pos, negsuc, ◌+ℤ◌, ◌*ℤ◌, ◌<ℤ◌, List, [], ◌∷◌}
use Rattle.rob_index.specs.Forms.{Ends, value_of}

-- how far the start of a range is behind its end, where the range around it has this value
abbrev pub lack_at : Ends → List ℤ → ℤ → ℤ
lack_at r vs v = value_of r.from (v ∷ vs) +ℤ (negsuc 0 *ℤ value_of r.upto (v ∷ vs))

-- the outermost of the ranges inside has no value there
abbrev pub IsDead : List Ends → List ℤ → ℤ → Type 0
IsDead [] vs v = ⊥
IsDead (r ∷ rs) vs v = pos 0 <ℤ lack_at r vs v
