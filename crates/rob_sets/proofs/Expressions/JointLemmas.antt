-- The parameters of an adaptive variable's list, in a set.
use Rattle.std.specs.Prelude.{◌≡◌, ℕ, zero, suc, ◌+◌, ◌*◌, ◌<◌, ◌≤◌, List, [], ◌∷◌, map, length, refl}
use Rattle.std.proofs.Common.{sym, ◌∙◌, ap, ap₂, arith, subst, get_or, div-mul-le_self, mul-le-mul_right, mul_comm, suc-mul, zero-mul}
use Rattle.std.proofs.lemmas.List.{get_or-map, length-map}
use Rattle.rob_algebra.specs.Fraction.{◌+ℚ◌}
use Rattle.rob_meaning.specs.Coefficients.{single, rule_table, table}
use Rattle.rob_meaning.specs.Expressions.{adaptive, adaptive_in}
use Rattle.rob_meaning.specs.Places.{Each}
use Rattle.rob_meaning.specs.RobustModel.{AdaptiveVariable, RobustModel, column_of, joint_number, list_of, set_count, written_count}
use Rattle.rob_meaning.proofs.Lists.EachLemmas.{each_list}

-- the row of a list's parameter
pub joint_row : (m : RobustModel) (S w : ℕ) (on : List ℕ) (i : ℕ) → w ≡ written_count m → i < length on
    → get_or (map (joint_number m S) on) i 0 + 1 ≡ S * w + get_or on i 0 + 1
joint_row m S w on i e h =
    ap (λ n. n + 1) (get_or-map (joint_number m S) on i 0 0 h ∙ ap (λ n. S * n + get_or on i 0) (sym e))

-- it is among the joint parameters
joint_below : (m : RobustModel) (S k : ℕ) → S < set_count m → k < written_count m
    → S * written_count m + k < length m.parameters
joint_below m S k some small =
    omega (
      arith,
      mul-le-mul_right (written_count m) (let le : suc S ≤ set_count m = omega arith in le),
      suc-mul S (written_count m),
      div-mul-le_self (length m.parameters) (set_count m),
      mul_comm (set_count m) (written_count m),
    )

pub map_same : (m : RobustModel) (S : ℕ) (on : List ℕ) → length (map (joint_number m S) on) ≡ length on
map_same m S on = length-map on (joint_number m S)

default_list : (m : RobustModel) (ks : List ℕ) → map (joint_number m 0) ks ≡ ks
default_list m [] = refl
default_list m (k ∷ ks) =
    ap₂ (λ (x : ℕ) (xs : List ℕ). x ∷ xs) (let e : 0 * written_count m + k ≡ k =
    omega (arith, zero-mul (written_count m)) in e) (default_list m ks)

-- in the default set the parameters are the list's
pub default_table : (m : RobustModel) (y k j : ℕ) → table m (adaptive_in y 0) k j ≡ table m (adaptive y) k j
default_table m y k j =
    ap (λ (ds : List ℕ). single 0 (suc (column_of m y)) k j +ℚ rule_table ds (suc (column_of m y)) k j)
    (default_list m (list_of m y))

-- what is true of each parameter of a list is true of the one at a place
each_there : (P : ℕ → Type 0) (xs : List ℕ) (i : ℕ) → i < length xs → Each P xs → P (get_or xs i 0)
each_there P [] i h e = absurd (omega arith)
each_there P (x ∷ xs) zero h e = e.0
each_there P (x ∷ xs) (suc i) h e = each_there P xs i (omega arith) e.1

-- the one at a place of a list, in a set, is among the joint parameters
pub listed_below : (m : RobustModel) (S y : ℕ) (items : List ℕ) (i : ℕ) → S < set_count m
    → Each (λ (y : AdaptiveVariable). Each (λ k. k < written_count m) y.on) m.adaptives → items ≡ list_of m y
    → i < length items → S * written_count m + get_or items i 0 < length m.parameters
listed_below m S y items i some lists e h =
    joint_below m S (get_or items i 0) some
    (each_there (λ k. k < written_count m) items i h
    (subst (λ (xs : List ℕ). Each (λ k. k < written_count m) xs) (sym e)
    (each_list (λ k. k < written_count m) m.adaptives y lists)))
