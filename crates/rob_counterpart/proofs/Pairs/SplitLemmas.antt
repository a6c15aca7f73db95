-- Two opposite columns of a program, as those of a pair are: they are never basic together, and so one of the two
-- numbers that a point or the move of an improving column has there is 0.
use Rattle.std.proofs.Common.{◌≡◌, ◌≢◌, ℕ, ◌+◌, ◌<◌, ◌≤◌, sym, ap, ◌∙◌, subst, arith, inl, inr, ◌⊎◌}
use Rattle.std.proofs.lemmas.Int.{ints}
use Rattle.std.proofs.lemmas.Bool.{cases_eq}
use lib.IntN.{ℤ, pos, neg_ℤ}
use lib.Signed.{◌<ℤ◌}
use Rattle.rob_linear.specs.Vectors.{Matrix, Columns}
use Rattle.rob_linear.specs.Systems.{System, right, IsBasis}
use Rattle.rob_linear.specs.Optimality.{IsBasicPoint, IsBasicMove}
use Rattle.rob_algebra.specs.Fraction.{Fraction}
use Rattle.rob_linear.specs.Programs.{Program, left_of, starting_row, system_of}
use Rattle.rob_linear.proofs.Bases.Solutions.{basic_or_not}
use Rattle.rob_linear.proofs.LinearPrograms.Programs.{row_left, left_row, left_cost}
use Rattle.rob_counterpart.specs.RobustProgram.{RobustProgram}
use Rattle.rob_counterpart.specs.Reform.{HasTauCost, pairs}
use Rattle.rob_counterpart.specs.SetPrograms.{IsOverSet, HasCost}
use Rattle.rob_counterpart.specs.Master.{Cuts, IsMaster}
use Rattle.rob_counterpart.specs.BasicPairs.{IsNonbasic}
use Rattle.rob_counterpart.proofs.Pairs.OppositeColumns.{opposite_columns_apart, opposite_of_basic}
use Rattle.rob_counterpart.specs.Splitting.{plus, minus, OneIsZero}

pub record AreOpposite (P : Program) (a b : ℕ) : Type 0 where
  pub first_in : a < P.n
  pub second_in : b < P.n
  pub apart : a ≢ b
  pub rows : (t : ℕ) → t < P.m → P.a t b ≡ neg_ℤ (P.a t a)
  pub cost : P.c b ≡ neg_ℤ (P.c a)

pub nonbasic_one : (m : ℕ) (own : Columns) (a b : ℕ) → ((i j : ℕ) → i < m → j < m → own i ≡ a → own j ≡ b → ⊥)
    → IsNonbasic m own a ⊎ IsNonbasic m own b
nonbasic_one m own a b apart =
    elim (basic_or_not m own a) [
      | inl h ↦ inr (λ j jl e. apart h.0 j h.1 jl (sym h.2) (sym e))
      | inr h ↦ inl h
    ]

-- where a column enters, the opposite one is not basic
entering_alone : (S : System) (own : Columns) (rows : Matrix) (a b : ℕ) → IsBasis S own rows → a ≤ right S → b ≤ right S
    → ((t : ℕ) → t ≤ S.m → S.start t b ≡ neg_ℤ (S.start t a)) → rows S.m b <ℤ pos 0 → IsNonbasic S.m own a
entering_alone S own rows a b bas al bl op imp i il e =
    let z : rows S.m b ≡ pos 0 = opposite_of_basic S own rows a b bas al bl op i il (sym e) in
    absurd (omega (arith, ints))

module _ (P : Program) (a b : ℕ) (op : AreOpposite P a b) where
  -- they are opposite in each starting row
  start_opposite : (t : ℕ) → t ≤ P.m → starting_row P t b ≡ neg_ℤ (starting_row P t a)
  start_opposite t tl =
      let first : starting_row P t a ≡ left_of P t a = row_left P t a op.first_in in
      let second : starting_row P t b ≡ left_of P t b = row_left P t b op.second_in in
      elim (cases_eq t P.m) [
        | inl e ↦
            let x : left_of P t a ≡ neg_ℤ (P.c a) = ap (λ v. left_of P v a) e ∙ left_cost P a in
            let y : left_of P t b ≡ neg_ℤ (P.c b) = ap (λ v. left_of P v b) e ∙ left_cost P b in
            let z : P.c b ≡ neg_ℤ (P.c a) = op.cost in
            omega (arith, ints)
        | inr e ↦
            let x : left_of P t a ≡ P.a t a = left_row P t a (omega arith) in
            let y : left_of P t b ≡ P.a t b = left_row P t b (omega arith) in
            let z : P.a t b ≡ neg_ℤ (P.a t a) = op.rows t (omega arith) in
            omega (arith, ints)
      ]

  module _ (own : Columns) (rows : Matrix) (bas : IsBasis (system_of P) own rows) where
    pub opposite_apart : IsNonbasic P.m own a ⊎ IsNonbasic P.m own b
    opposite_apart =
        let al : a < P.n = op.first_in in
        let bl : b < P.n = op.second_in in
        nonbasic_one P.m own a b
        (λ i j il jl. opposite_columns_apart (system_of P) own rows a b bas (omega arith) (omega arith)
        start_opposite i j (omega arith) (omega arith))

    pub point_opposite : (x : ℕ → Fraction) → IsBasicPoint (system_of P) own rows x → OneIsZero (x a) (x b)
    point_opposite x p =
        let al : a < P.n = op.first_in in
        let bl : b < P.n = op.second_in in
        elim opposite_apart [
          | inl n ↦ inl (p.rest a (omega arith) n)
          | inr n ↦ inr (p.rest b (omega arith) n)
        ]

    pub move_opposite : (col : ℕ) (r : ℕ → Fraction) → rows P.m col <ℤ pos 0 → IsBasicMove (system_of P) own rows col r
        → OneIsZero (r a) (r b)
    move_opposite col r imp p =
        let al : a < P.n = op.first_in in
        let bl : b < P.n = op.second_in in
        let back : (t : ℕ) → t ≤ P.m → starting_row P t a ≡ neg_ℤ (starting_row P t b) =
        (λ t tl. let q : starting_row P t b ≡ neg_ℤ (starting_row P t a) =
        start_opposite t tl in omega (arith, ints)) in
        elim (cases_eq a col) [
          | inl e ↦
              let im : rows P.m a <ℤ pos 0 = subst (λ v. rows P.m v <ℤ pos 0) (sym e) imp in
              inr (p.rest b (omega arith)
              (entering_alone (system_of P) own rows b a bas (omega arith) (omega arith) back im)
              (λ f. op.apart (e ∙ sym f)))
          | inr e ↦ elim (cases_eq b col) [
            | inl f ↦
                let im : rows P.m b <ℤ pos 0 = subst (λ v. rows P.m v <ℤ pos 0) (sym f) imp in
                inl (p.rest a (omega arith)
                (entering_alone (system_of P) own rows a b bas (omega arith) (omega arith) start_opposite im) e)
            | inr f ↦ elim opposite_apart [
              | inl n ↦ inl (p.rest a (omega arith) n e)
              | inr n ↦ inr (p.rest b (omega arith) n f)
            ]
          ]
        ]

-- ---- the pairs of the programs are such columns

pub tau_cost_opposite : (d : RobustProgram) (P : Program) → HasTauCost d P → (j : ℕ) → j ≤ d.decisions
    → P.c (minus j) ≡ neg_ℤ (P.c (plus j))
tau_cost_opposite d P co j jl =
    elim (cases_eq j d.decisions) [
      | inl e ↦ subst (λ v. P.c (minus v) ≡ neg_ℤ (P.c (plus v))) (sym e) (co.cost_tau.1 ∙ ap neg_ℤ (sym co.cost_tau.0))
      | inr e ↦ (co.cost_decisions j (omega arith)).1 ∙ ap neg_ℤ (sym (co.cost_decisions j (omega arith)).0)
    ]

pub set_pair : (d : RobustProgram) (f : ℕ → ℤ) (P : Program) → IsOverSet d P → HasCost d f P
    → (c : ℕ) → c < d.set_columns
    → AreOpposite P (plus c) (minus c)
set_pair d f P se co c cl =
    let w : P.n ≡ d.set_columns + d.set_columns = se.width in
    let h : P.m ≡ d.set_rows = se.height in
    record {
      first_in = omega arith;
      second_in = omega arith;
      apart = omega arith;
      rows = λ t tl. se.at_minus t c (omega arith) cl ∙ ap neg_ℤ (sym (se.at_plus t c (omega arith) cl));
      cost = co.cost_minus c cl ∙ ap neg_ℤ (sym (co.cost_plus c cl));
    }

pub master_pair : (d : RobustProgram) (cuts : Cuts) (P : Program) → IsMaster d cuts P → (j : ℕ) → j ≤ d.decisions
    → AreOpposite P (plus j) (minus j)
master_pair d cuts P ma j jl =
    let w : P.n ≡ pairs d = ma.width in
    let h : P.m ≡ cuts.count = ma.height in
    record {
      first_in = omega arith;
      second_in = omega arith;
      apart = omega arith;
      rows = λ t tl. ma.at_minus t j (omega arith) jl ∙ ap neg_ℤ (sym (ma.at_plus t j (omega arith) jl));
      cost = tau_cost_opposite d P ma.cost j jl;
    }
