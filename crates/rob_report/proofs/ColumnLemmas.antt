-- The columns of a plan that an adaptive variable has.
use Rattle.std.proofs.Common.{◌≡◌, ℕ, suc, ◌+◌, ◌<◌, ◌≤◌, List, [], ◌∷◌, map, length, get_or, drop, arith, ap}
use Rattle.rob_algebra.specs.Fraction.{Fraction}
use Rattle.rob_meaning.specs.RobustModel.{AdaptiveVariable, column_from}
use Rattle.rob_model.specs.View.{adaptive_of}
use Rattle.rob_model.specs.declared.model.Adaptive.{Adaptive}
use Rattle.rob_report.proofs.PairLemmas.{drop_here}

-- the column behind the last one of all, where those of the first begin there
abbrev pub end_of : ℕ → List AdaptiveVariable → ℕ
end_of column ys = column_from column ys (length ys)

-- columns only grow
pub end_grows : (column : ℕ) (ys : List AdaptiveVariable) → column ≤ end_of column ys
end_grows column [] = omega arith
end_grows column (y ∷ ys) = let h = end_grows (suc column + length y.on) ys in omega (arith, h)

module _ {N : Type 0} (value : N → Fraction) where
  -- the columns of the next adaptive variable stand before the end, and those of the rest behind them
  pub next_columns : (ys : List (Adaptive N)) (i column count last : ℕ) (y d : Adaptive N) → i < length ys
      → y ≡ get_or ys i d → count ≡ length y.on
      → end_of column (map (adaptive_of value) (drop i ys)) ≤ last
      → (column + length y.on < last)
      × (end_of (column + (1 + count)) (map (adaptive_of value) (drop (i + 1) ys)) ≤ last)
  next_columns ys i column count last y d h is n before =
      let here : end_of column (map (adaptive_of value) (drop i ys))
      ≡ end_of (suc column + length y.on) (map (adaptive_of value) (drop (i + 1) ys))
      = ap (λ zs. end_of column (map (adaptive_of value) zs)) (drop_here ys i y d h is) in
      let same : end_of (column + (1 + count)) (map (adaptive_of value) (drop (i + 1) ys))
      ≡ end_of (suc column + length y.on) (map (adaptive_of value) (drop (i + 1) ys))
      = ap (λ c. end_of c (map (adaptive_of value) (drop (i + 1) ys)))
      (let e : column + (1 + count) ≡ suc column + length y.on = omega (arith, n) in e) in
      let low = end_grows (suc column + length y.on) (map (adaptive_of value) (drop (i + 1) ys)) in
      (omega (arith, low, here, before), omega (arith, here, same, before))
