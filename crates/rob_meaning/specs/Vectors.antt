-- Lists of fractions as vectors, and lists of rows as matrices. (Any textbook of linear algebra.)
use Rattle.std.specs.Prelude.{ℕ, List}
use Rattle.rob_algebra.specs.Fraction.{Fraction}
use Rattle.rob_algebra.specs.FractionLaws.{ℚ_ring}
use Rattle.rob_algebra.specs.Lists as Lists

-- x y: the sum of the products of the entries at the same places
abbrev pub dot : List Fraction → List Fraction → Fraction
dot x y = Lists.dot ℚ_ring x y

-- c x: each entry times c
abbrev pub scale : Fraction → List Fraction → List Fraction
scale c x = Lists.scale ℚ_ring c x

-- n zeros
abbrev pub zeros : ℕ → List Fraction
zeros n = Lists.zeros ℚ_ring n

-- A x: each row's dot product with x
abbrev pub mat_vec : List (List Fraction) → List Fraction → List Fraction
mat_vec rows x = Lists.mat_vec ℚ_ring rows x

-- y A: the rows of n entries, each times its entry of y, added up
abbrev pub vec_mat : ℕ → List Fraction → List (List Fraction) → List Fraction
vec_mat n y rows = Lists.vec_mat ℚ_ring n y rows
