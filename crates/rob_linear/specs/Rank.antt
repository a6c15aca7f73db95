-- A number that rises with the objective's row where all kept numbers are within a limit. A loop's measure is what is
-- left of it. The keys of that row over its objective entry are fractions with small denominators, so each has a place
-- among finitely many, and the places are the digits of the rank.
use Rattle.std.specs.Prelude.{ℕ, zero, suc, ◌+◌, ◌*◌, ◌/◌, ◌^◌, ◌<◌, ◌≤◌, ℤ, pos, ◌+ℤ◌, ◌*ℤ◌, ◌<ℤ◌}
use Rattle.std.specs.Int.RustNames.{unsigned_abs}
use Rattle.rob_linear.specs.Vectors.{Vector}
use Rattle.rob_linear.specs.Systems.{System, objective}
use Rattle.rob_linear.specs.Turns.{key}

-- the place of the fraction w / o among those whose denominators are at most h
abbrev pub place : ℕ → ℕ → ℕ → ℕ
place h w o = (w * (h * h)) / o

-- n digits as one number, the first the greatest
abbrev pub joined : ℕ → ℕ → (ℕ → ℕ) → ℕ
joined base zero f = 0
joined base (suc n) f = joined base n f * base + f n

-- z + h * o, which is no less than 0 where the size of z is at most h and o is positive
abbrev pub shifted : ℕ → ℤ → ℤ → ℕ
shifted h z o = unsigned_abs (z +ℤ (pos h *ℤ o))

-- the place of entry k of a row's key
abbrev pub row_place : System → ℕ → Vector → ℕ → ℕ
row_place S h r k = place h (shifted h (key S r k) (r (objective S))) (unsigned_abs (r (objective S)))

-- the rank of a row: the places of its key, as digits
abbrev pub rank : System → ℕ → Vector → ℕ
rank S h r = joined (suc ((h + h) * (h * h))) (suc S.m) (row_place S h r)

-- all ranks are below this
abbrev pub rank_limit : System → ℕ → ℕ
rank_limit S h = suc ((h + h) * (h * h)) ^ suc S.m

-- the key and the objective entry of a row are within the limit
pub record IsWithin (S : System) (h : ℕ) (r : Vector) : Type 0 where
  pub keys : (k : ℕ) → k < suc S.m → unsigned_abs (key S r k) ≤ h
  pub positive : pos 0 <ℤ r (objective S)
  pub objective_in : unsigned_abs (r (objective S)) ≤ h
