-- Values of which those that are 0 are counted.
use Rattle.std.specs.Prelude.{ℕ, zero, suc, ℤ, pos, List, [], ◌∷◌}
use Rattle.rob_ranges.specs.declared.values.Place.{Place}

-- so many values 0 in front of others
abbrev pub zeros : ℕ → List ℤ → List ℤ
zeros zero vs = vs
zeros (suc n) vs = pos 0 ∷ zeros n vs

-- the values of places, each with those in front of it, and then others
abbrev pub spread : List Place → List ℤ → List ℤ
spread [] vs = vs
spread (p ∷ ps) vs = zeros p.zeros (p.value ∷ spread ps vs)
