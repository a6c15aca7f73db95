-- A dictionary whose objective's row loses an amount in a column, or becomes that of the cost 0.
use Rattle.std.proofs.Common.{◌≡◌, ◌≢◌, ℕ, suc, ◌+◌, ◌<◌, ◌≤◌, sym, refl, ap, ◌∙◌, subst, arith, inl, inr, List, length}
use Rattle.std.proofs.lemmas.Bool.{cases_eq, cases_lt}
use Rattle.std.proofs.lemmas.Bool.Decides.{nat_tests}
use lib.IntN.{ℤ, pos, ◌*ℤ◌}
use Rattle.rob_linear.specs.Vectors.{Vector}
use Rattle.rob_linear.specs.Systems.{IsPrimitive}
use Rattle.rob_linear.specs.Stages.{unit_row}
use Rattle.rob_linear.proofs.CostChange.Stages.{unit_one, unit_zero}
use Rattle.rob_table.specs.Tables.{row_at}
use Rattle.rob_table.specs.Lowering.{IsLowered, IsWideLowered, step_row}
use Rattle.rob_simplex.specs.Lowering.{HasWay, amount_of}
use Rattle.rob_simplex.specs.Dictionaries.{columns_of, basic_columns, rows_of, IsSound, IsFree}
use Rattle.rob_simplex.proofs.Rows.EditLemmas.{table_with, free_place, objective_place}
use Rattle.rob_simplex.proofs.CostChange.LoweredColumns.{lowered_read, wide_lowered_read}
use Rattle.rob_simplex.proofs.Rows.ReadRows.{read_near, read_own, read_none, basic_high}

-- two places of a row, at one of which it is 0
pub record IsWayAt (width place way : ℕ) (row : Vector) : Type 0 where
  pub way_in : way < width
  pub place_in : place < width
  pub apart : place ≢ way
  pub zero : row way ≡ pos 0

module _ {limit n : ℕ} {basis places near : List ℕ} {table : List ℤ} {bounds : List ℕ} {workspace : ℕ}
    (sound : IsSound limit n basis places near table bounds workspace) where
  -- the objective's own entry
  pub own_entry : rows_of (table_with sound table) (length basis) (suc (n + length basis)) ≡ row_at table (n + 4)
      (length basis) (n + 3)
  own_entry =
      read_own (n + 3) (columns_of places) (length basis) (row_at table (n + 4) (length basis)) (suc (n + length basis))
      (objective_place sound)

  -- ---- two columns stand at two places
  places_apart : (c d : ℕ) → IsFree n basis c → IsFree n basis d → c ≢ d → columns_of places c ≢ columns_of places d
  places_apart c d fc fd o e =
      o (sym (sound.placed.near_column c fc.inside (free_place sound c fc)) ∙ ap (columns_of near) e
      ∙ sound.placed.near_column d fd.inside (free_place sound d fd))

  zero_place : (c : ℕ) → IsFree n basis c → rows_of (table_with sound table) (length basis) c ≡ pos 0
      → row_at table (n + 4) (length basis) (columns_of places c) ≡ pos 0
  zero_place c f z =
      sym (read_near (n + 3) (columns_of places) (length basis) (row_at table (n + 4) (length basis)) c
      (free_place sound c f)) ∙ z

  -- the way and the column's place
  module _ {column : ℕ} (w : HasWay (table_with sound table) column) {x y : ℕ} (ex : x ≡ columns_of places column)
      (ey : y ≡ columns_of places (n + length basis)) where
    pub way_there : IsWayAt (n + 3) x y (row_at table (n + 4) (length basis))
    way_there = record {
      way_in = subst (λ k. k < n + 3) (sym ey) (free_place sound (n + length basis) w.way);
      place_in = subst (λ k. k < n + 3) (sym ex) (free_place sound column w.free);
      apart = λ e. places_apart column (n + length basis) w.free w.way w.other (sym ex ∙ e ∙ ey);
      zero = ap (row_at table (n + 4) (length basis)) ey ∙ zero_place (n + length basis) w.way w.zero;
    }

  -- ---- an amount in a column that is not basic
  module _ {column : ℕ} (free : IsFree n basis column) (factor : ℤ) {x : ℕ} (ex : x ≡ columns_of places column) where
    place_in : columns_of places column < n + 3
    place_in = free_place sound column free

    row_is : (new : Vector) → IsLowered (n + 4) x (factor *ℤ row_at table (n + 4) (length basis) (n + 3))
        (row_at table (n + 4) (length basis)) new
        → IsLowered (suc (n + 3)) (columns_of places column) (amount_of (table_with sound table) factor)
        (row_at table (n + 4) (length basis)) new
    row_is new l =
        let e : n + 4 ≡ suc (n + 3) = omega arith in
        subst (λ k. IsLowered k (columns_of places column) (amount_of (table_with sound table) factor)
        (row_at table (n + 4) (length basis)) new) e
        (subst (λ y. IsLowered (n + 4) y (amount_of (table_with sound table) factor)
        (row_at table (n + 4) (length basis)) new) ex
        (subst (λ a. IsLowered (n + 4) x a (row_at table (n + 4) (length basis)) new)
        (ap (λ z. factor *ℤ z) (sym own_entry)) l))

    -- where the objective's position and the factor are told
    module _ {m : ℕ} {told : ℤ} (em : m ≡ length basis) (seen : told ≡ factor) where
      pub lowered_table : (new : List ℤ)
          → IsLowered (n + 4) x (told *ℤ row_at table (n + 4) m (n + 3)) (row_at table (n + 4) m) (row_at new (n + 4) m)
          → IsLowered (n + length basis + 4) column (amount_of (table_with sound table) factor)
          (rows_of (table_with sound table) (length basis)) (rows_of (table_with sound new) (length basis))
      lowered_table new l =
          lowered_read (length basis) (n + 3) (n + length basis + 4) (columns_of places) (columns_of near)
          (basic_columns n basis) sound.placed (length basis) column (omega arith) free.inside place_in
          (amount_of (table_with sound table) factor) (row_at table (n + 4) (length basis))
          (row_at new (n + 4) (length basis))
          (row_is (row_at new (n + 4) (length basis))
          (subst (λ (i : ℕ). IsLowered (n + 4) x (factor *ℤ row_at table (n + 4) i (n + 3)) (row_at table (n + 4) i)
          (row_at new (n + 4) i)) em
          (subst (λ (z : ℤ). IsLowered (n + 4) x (z *ℤ row_at table (n + 4) m (n + 3)) (row_at table (n + 4) m)
          (row_at new (n + 4) m)) seen l)))

      pub wide_table : IsWideLowered limit (n + 4) x (told *ℤ row_at table (n + 4) m (n + 3)) (row_at table (n + 4) m)
          → IsWideLowered limit (n + length basis + 4) column (amount_of (table_with sound table) factor)
          (rows_of (table_with sound table) (length basis))
      wide_table w =
          let e : n + 4 ≡ suc (n + 3) = omega arith in
          let l =
          subst (λ (i : ℕ). IsLowered (n + 4) x (factor *ℤ row_at table (n + 4) i (n + 3)) (row_at table (n + 4) i) w.0)
          em
          (subst (λ (z : ℤ). IsLowered (n + 4) x (z *ℤ row_at table (n + 4) m (n + 3)) (row_at table (n + 4) m) w.0)
          seen w.1) in
          wide_lowered_read (length basis) (n + 3) (n + length basis + 4) (columns_of places) (columns_of near)
          (basic_columns n basis) sound.placed (length basis) column (omega arith) free.inside place_in limit
          (amount_of (table_with sound table) factor) (row_at table (n + 4) (length basis))
          (w.0, row_is w.0 l, subst (λ k. IsPrimitive k w.0) e w.2, (w.3.0, subst (λ k. w.3.0 < k) e w.3.1, w.3.2))

  -- ---- the cost 0
  step_own : (w k : ℕ) → k ≡ w → step_row w w (pos 1) k ≡ pos 1
  step_own w k e = grind (arith, nat_tests)

  step_low : (w k : ℕ) → k ≢ w → step_row w w (pos 1) k ≡ pos 0
  step_low w k d = grind (arith, nat_tests)

  pub dropped_objective : (t : List ℤ)
      → ((k : ℕ) → k < n + 4 → row_at t (n + 4) (length basis) k ≡ step_row (n + 3) (n + 3) (pos 1) k)
      → (c : ℕ) → c < n + length basis + 4
      → rows_of (table_with sound t) (length basis) c ≡ unit_row (suc (n + length basis)) c
  dropped_objective t h c cl = elim (cases_eq c (suc (n + length basis))) [
    | inl e ↦
        ap (rows_of (table_with sound t) (length basis)) e
        ∙ read_own (n + 3) (columns_of places) (length basis) (row_at t (n + 4) (length basis)) (suc (n + length basis))
        (objective_place sound) ∙ h (n + 3) (omega arith) ∙ step_own (n + 3) (n + 3) refl
        ∙ sym (ap (unit_row (suc (n + length basis))) e ∙ unit_one (suc (n + length basis)))
    | inr d ↦ elim (cases_lt (columns_of places c) (n + 3)) [
      | inl l ↦
          read_near (n + 3) (columns_of places) (length basis) (row_at t (n + 4) (length basis)) c l
          ∙ h (columns_of places c) (omega arith) ∙ step_low (n + 3) (columns_of places c) (λ e. absurd (omega arith))
          ∙ sym (unit_zero (suc (n + length basis)) c d)
      | inr l ↦ elim (cases_eq (columns_of places c) (n + 3 + length basis)) [
        | inr s ↦ read_none (n + 3) (columns_of places) (length basis) (row_at t (n + 4) (length basis)) c l s
            ∙ sym (unit_zero (suc (n + length basis)) c d)
        | inl s ↦
            let b : (i : ℕ) × (i ≤ length basis) × (columns_of places c ≡ n + 3 + i) × (basic_columns n basis i ≡ c) =
            sound.placed.basic_column c cl l in
            let bp : columns_of places c ≡ n + 3 + b.0 = b.2 in
            let e : b.0 ≡ length basis = omega arith in
            absurd (d (sym b.3 ∙ ap (basic_columns n basis) e ∙ basic_high n basis (length basis) (omega arith)))
      ]
    ]
  ]
