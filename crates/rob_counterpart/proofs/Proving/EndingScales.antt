-- The endings in fractions as endings in whole numbers over a scale.
use Rattle.std.proofs.Common.{◌≡◌, ℕ, ◌+◌, ◌<◌, sym, ap₂, ◌∙◌, arith}
use lib.IntN.{ℤ, pos}
use lib.Signed.{◌<ℤ◌}
use Rattle.rob_algebra.specs.Fraction.{Fraction, ◌-ℚ◌}
use Rattle.rob_linear.specs.Vectors.{Matrix, Columns}
use Rattle.rob_linear.specs.Systems.{Point, Move}
use Rattle.rob_linear.specs.Programs.{Program, system_of}
use Rattle.rob_linear.proofs.Meaning.Endings.{own_positive, improving_not_basic}
use Rattle.rob_linear.proofs.Meaning.Optimality.{point_scaled, move_scaled}
use Rattle.rob_linear.proofs.Bases.Unique.{point_exists, move_exists}
use Rattle.rob_counterpart.specs.Endings.{slack_entries, objective_entry, OptimalEnding, UnboundedEnding}
use Rattle.rob_counterpart.proofs.Proving.ScaledEndings.{pair, OptimalPoint, UnboundedMove}
use Rattle.rob_counterpart.proofs.Pairs.QuotientLemmas.{over, over-sub, over_from}
use Rattle.rob_counterpart.specs.Splitting.{plus, minus, difference}

-- x is z / s in the program's own and slack columns
abbrev pub IsOver : Program → (ℕ → Fraction) → ℤ → (ℕ → ℤ) → Type 0
IsOver P x s z = (k : ℕ) → k < P.n + P.m → x k ≡ over (z k) s

-- a pair's difference
pub difference-over : (P : Program) (x : ℕ → Fraction) (s : ℤ) (z : ℕ → ℤ) → IsOver P x s z → (j : ℕ) → minus j < P.n
    → difference x j ≡ over (pair z j) s
difference-over P x s z point j l =
    ap₂ ◌-ℚ◌ (point (plus j) (omega arith)) (point (minus j) (omega arith))
    ∙ sym (over-sub (z (plus j)) (z (minus j)) s)

pub record ScaledOptimal (P : Program) (own : Columns) (rows : Matrix) (x y : ℕ → Fraction) : Type 0 where
  pub s : ℤ
  pub z : ℕ → ℤ
  pub scaled : OptimalPoint P own rows s z
  pub point : IsOver P x s z
  pub objective : pos 0 <ℤ objective_entry P rows
  pub duals : (t : ℕ) → t < P.m → y t ≡ over (slack_entries P rows t) (objective_entry P rows)

pub record ScaledUnbounded (P : Program) (own : Columns) (rows : Matrix) (column : ℕ)
    (x r : ℕ → Fraction) : Type 0 where
  pub s : ℤ
  pub z : ℕ → ℤ
  pub t : ℤ
  pub w : ℕ → ℤ
  pub scaled : UnboundedMove P own rows column s z t w
  pub point : IsOver P x s z
  pub move : IsOver P r t w

pub optimal_scaled : (P : Program) (own : Columns) (rows : Matrix) (x y : ℕ → Fraction) → OptimalEnding P own rows x y
    → ScaledOptimal P own rows x y
optimal_scaled P own rows x y en =
    let p : (s : ℤ) × (z : ℕ → ℤ) × Point (system_of P) own rows s z = point_exists (system_of P) own rows en.basis in
    let op : pos 0 <ℤ objective_entry P rows = own_positive (system_of P) own rows en.basis in
    record {
      s = p.0;
      z = p.1;
      scaled = record { basis = en.basis; ends = en.ends; point = p.2 };
      point = λ k l. over_from (x k) (p.1 k) p.0 p.2.scale
          (point_scaled (system_of P) own rows x p.0 p.1 en.basis en.point p.2 k l);
      objective = op;
      duals = λ t l. over_from (y t) (slack_entries P rows t) (objective_entry P rows) op (en.duals t l);
    }

pub unbounded_scaled : (P : Program) (own : Columns) (rows : Matrix) (column : ℕ) (x r : ℕ → Fraction)
    → UnboundedEnding P own rows column x r → ScaledUnbounded P own rows column x r
unbounded_scaled P own rows column x r en =
    let p : (s : ℤ) × (z : ℕ → ℤ) × Point (system_of P) own rows s z = point_exists (system_of P) own rows en.basis in
    let v : (s : ℤ) × (z : ℕ → ℤ) × Move (system_of P) own rows column s z =
    move_exists (system_of P) own rows column en.basis
    (improving_not_basic (system_of P) own rows column en.basis en.ends.inside en.ends.improving) in
    record {
      s = p.0;
      z = p.1;
      t = v.0;
      w = v.1;
      scaled = record { basis = en.basis; ends = en.ends; point = p.2; move = v.2 };
      point = λ k l. over_from (x k) (p.1 k) p.0 p.2.scale
          (point_scaled (system_of P) own rows x p.0 p.1 en.basis en.point p.2 k l);
      move = λ k l. over_from (r k) (v.1 k) v.0 v.2.scale
          (move_scaled (system_of P) own rows column r v.0 v.1 en.basis en.move v.2 k l);
    }
