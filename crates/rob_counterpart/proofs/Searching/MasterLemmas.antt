-- The endings of the master program: its dual values and its Farkas weights weigh the cuts.
use Rattle.std.proofs.Common.{◌≡◌, ℕ, suc, ◌+◌, ◌/◌, ◌<◌, ◌≤◌, sym, refl, ap, ◌∙◌, subst, arith}
use Rattle.std.proofs.lemmas.Int.{ints}
use lib.IntN.{ℤ, pos, ◌+ℤ◌, ◌*ℤ◌, neg_ℤ}
use lib.Signed.{◌<ℤ◌, ◌≤ℤ◌}
use Rattle.rob_linear.specs.Vectors.{Matrix, Columns, sum_to, dot}
use Rattle.rob_linear.specs.Programs.{Program, ShowsEmpty, IsDual}
use Rattle.rob_algebra.specs.Integer.{ring, mul-zero, zero-mul, mul-neg}
use Rattle.rob_linear.proofs.LinearPrograms.Sums.{sum_ext, sum_one, sum_neg}
use Rattle.rob_linear.proofs.Meaning.Truths.{optimal_duals, infeasible}
use Rattle.rob_counterpart.specs.RobustProgram.{RobustProgram}
use Rattle.rob_counterpart.specs.Reform.{pairs}
use Rattle.rob_counterpart.specs.Master.{Cuts, cut_entry, IsMaster, master_of}
use Rattle.rob_counterpart.proofs.Pairs.Blocks.{sum_pairs}
use Rattle.rob_counterpart.proofs.Positions.ReformPlaces.{signed_even, signed_odd, half_even, half_odd, tau_cost_is}
use Rattle.rob_counterpart.specs.Splitting.{plus, minus}
use Rattle.rob_counterpart.proofs.Proving.ScaledEndings.{plan_of, OptimalPoint}
use Rattle.rob_counterpart.specs.Endings.{slack_entries, InfeasibleEnding}
use Rattle.rob_counterpart.proofs.Proving.WholeCertificates.{cuts_entry, CutsSum}

-- weights that keep each column at least a cost that is opposite in pairs
weights_give_cuts : (d : RobustProgram) (cuts : Cuts) (P : Program) (cost y : ℕ → ℤ) (tau : ℤ) → IsMaster d cuts P
    → ((q : ℕ) → q < P.m → pos 0 ≤ℤ y q) → ((k : ℕ) → k < P.n → cost k ≤ℤ sum_to P.m (λ q. y q *ℤ P.a q k))
    → ((j : ℕ) → j < d.decisions → (cost (plus j) ≡ pos 0) × (cost (minus j) ≡ pos 0))
    → ((cost (plus d.decisions) ≡ tau) × (cost (minus d.decisions) ≡ neg_ℤ tau))
    → CutsSum d cuts y tau (neg_ℤ (dot P.m y P.b))
weights_give_cuts d cuts P cost y tau ma yp low cd ct =
    let sums : (j : ℕ) → j ≤ d.decisions → (cost (plus j) ≤ℤ cuts_entry d cuts y (suc j))
    × (cost (minus j) ≤ℤ neg_ℤ (cuts_entry d cuts y (suc j))) =
    (λ j jl.
    let w : P.n ≡ pairs d = ma.width in
    let a : sum_to P.m (λ q. y q *ℤ P.a q (plus j)) ≡ cuts_entry d cuts y (suc j) =
    ap (λ v. sum_to v (λ q. y q *ℤ P.a q (plus j))) ma.height
    ∙ sum_ext cuts.count (λ q. y q *ℤ P.a q (plus j)) (λ q. y q *ℤ cut_entry d cuts q (suc j))
    (λ q ql. ap (λ v. y q *ℤ v) (ma.at_plus q j ql jl)) in
    let b : sum_to P.m (λ q. y q *ℤ P.a q (minus j)) ≡ neg_ℤ (cuts_entry d cuts y (suc j)) =
    ap (λ v. sum_to v (λ q. y q *ℤ P.a q (minus j))) ma.height
    ∙ sum_ext cuts.count (λ q. y q *ℤ P.a q (minus j)) (λ q. neg_ℤ (y q *ℤ cut_entry d cuts q (suc j)))
    (λ q ql. ap (λ v. y q *ℤ v) (ma.at_minus q j ql jl) ∙ mul-neg (y q) (cut_entry d cuts q (suc j)))
    ∙ sum_neg cuts.count (λ q. y q *ℤ cut_entry d cuts q (suc j)) in (
      subst (λ v. cost (plus j) ≤ℤ v) a (low (plus j) (omega arith)),
      subst (λ v. cost (minus j) ≤ℤ v) b (low (minus j) (omega arith)),
    )) in
    record {
      nonnegative = λ q ql. yp q (subst (λ v. q < v) (sym ma.height) ql);
      decisions = λ j jl.
          let a : cost (plus j) ≤ℤ cuts_entry d cuts y (suc j) = (sums j (omega arith)).0 in
          let b : cost (minus j) ≤ℤ neg_ℤ (cuts_entry d cuts y (suc j)) = (sums j (omega arith)).1 in
          let e : cost (plus j) ≡ pos 0 = (cd j jl).0 in
          let f : cost (minus j) ≡ pos 0 = (cd j jl).1 in
          omega (arith, ints);
      on_tau =
          let a : cost (plus d.decisions) ≤ℤ cuts_entry d cuts y (suc d.decisions) =
          (sums d.decisions (omega arith)).0 in
          let b : cost (minus d.decisions) ≤ℤ neg_ℤ (cuts_entry d cuts y (suc d.decisions)) =
          (sums d.decisions (omega arith)).1 in
          let e : cost (plus d.decisions) ≡ tau = ct.0 in
          let f : cost (minus d.decisions) ≡ neg_ℤ tau = ct.1 in
          omega (arith, ints);
      on_constant =
          let a : dot P.m y P.b ≡ neg_ℤ (cuts_entry d cuts y 0) =
          ap (λ v. sum_to v (λ q. y q *ℤ P.b q)) ma.height
          ∙ sum_ext cuts.count (λ q. y q *ℤ P.b q) (λ q. neg_ℤ (y q *ℤ cut_entry d cuts q 0))
          (λ q ql. ap (λ v. y q *ℤ v) (ma.at_right q ql) ∙ mul-neg (y q) (cut_entry d cuts q 0))
          ∙ sum_neg cuts.count (λ q. y q *ℤ cut_entry d cuts q 0) in
          omega (arith, ints);
    }

pub master_cost : (d : RobustProgram) (cuts : Cuts) (P : Program) (s : ℤ) (x : ℕ → ℤ) → IsMaster d cuts P
    → dot P.n P.c x ≡ d.sense *ℤ plan_of s x (suc d.decisions)
master_cost d cuts P s x ma =
    ap (λ v. sum_to v (λ k. P.c k *ℤ x k)) ma.width
    ∙ sum_pairs (suc d.decisions) (λ k. P.c k *ℤ x k)
    ∙ sum_one (suc d.decisions) d.decisions (λ j. (P.c (plus j) *ℤ x (plus j)) +ℤ (P.c (minus j) *ℤ x (minus j)))
    (omega arith) (λ j jl ne.
    let a : P.c (plus j) *ℤ x (plus j) ≡ pos 0 =
    ap (λ v. v *ℤ x (plus j)) (ma.cost_decisions j (omega arith)).0 ∙ zero-mul (x (plus j)) in
    let b : P.c (minus j) *ℤ x (minus j) ≡ pos 0 =
    ap (λ v. v *ℤ x (minus j)) (ma.cost_decisions j (omega arith)).1 ∙ zero-mul (x (minus j)) in
    omega (arith, ints))
    ∙ ap (λ v. (v *ℤ x (plus d.decisions)) +ℤ (P.c (minus d.decisions) *ℤ x (minus d.decisions))) ma.cost_tau.0
    ∙ ap (λ v. (d.sense *ℤ x (plus d.decisions)) +ℤ (v *ℤ x (minus d.decisions))) ma.cost_tau.1
    ∙ simp ring

-- an optimal master's dual values weigh its cuts as an optimal certificate's items
pub master_optimal : (d : RobustProgram) (cuts : Cuts) (P : Program) (own : Columns) (rows : Matrix) (s : ℤ) (x : ℕ → ℤ)
    → IsMaster d cuts P → OptimalPoint P own rows s x
    → (total : ℤ) × CutsSum d cuts (slack_entries P rows) (rows P.m (P.n + P.m) *ℤ d.sense) total
    × (s *ℤ total ≡ neg_ℤ (rows P.m (P.n + P.m) *ℤ (d.sense *ℤ plan_of s x (suc d.decisions))))
master_optimal d cuts P own rows s x ma en =
    let duals : IsDual P (rows P.m (P.n + P.m)) (λ q. rows P.m (P.n + q))
    × (rows P.m (P.n + P.m) *ℤ dot P.n P.c x ≡ s *ℤ dot P.m (λ q. rows P.m (P.n + q)) P.b) =
    optimal_duals P own rows s x en.basis en.ends en.point in (
      neg_ℤ (dot P.m (λ q. rows P.m (P.n + q)) P.b),
      weights_give_cuts d cuts P (λ k. rows P.m (P.n + P.m) *ℤ P.c k) (λ q. rows P.m (P.n + q))
          (rows P.m (P.n + P.m) *ℤ d.sense) ma duals.0.nonnegative duals.0.columns
          (λ j jl. (
            ap (λ v. rows P.m (P.n + P.m) *ℤ v) (ma.cost_decisions j jl).0 ∙ mul-zero (rows P.m (P.n + P.m)),
            ap (λ v. rows P.m (P.n + P.m) *ℤ v) (ma.cost_decisions j jl).1 ∙ mul-zero (rows P.m (P.n + P.m)),
          )) (
            ap (λ v. rows P.m (P.n + P.m) *ℤ v) ma.cost_tau.0,
            ap (λ v. rows P.m (P.n + P.m) *ℤ v) ma.cost_tau.1
                ∙ mul-neg (rows P.m (P.n + P.m)) d.sense,
          ),
      mul-neg s (dot P.m (λ q. rows P.m (P.n + q)) P.b)
          ∙ ap neg_ℤ (sym duals.1 ∙ ap (λ v. rows P.m (P.n + P.m) *ℤ v) (master_cost d cuts P s x ma)),
    )

-- an infeasible one's weights as an infeasible certificate's
pub master_infeasible : (d : RobustProgram) (cuts : Cuts) (P : Program) (own : Columns) (rows : Matrix)
    → IsMaster d cuts P → InfeasibleEnding P own rows
    → (total : ℤ) × CutsSum d cuts (slack_entries P rows) (pos 0) total × (pos 0 <ℤ total)
master_infeasible d cuts P own rows ma en =
    let em : ShowsEmpty P (λ q. rows P.m (P.n + q)) =
    infeasible P own rows en.basis en.ends.no_improving en.ends.below in (
      neg_ℤ (dot P.m (λ q. rows P.m (P.n + q)) P.b),
      weights_give_cuts d cuts P (λ k. pos 0) (λ q. rows P.m (P.n + q)) (pos 0) ma em.nonnegative em.columns
          (λ j jl. (refl, refl)) (refl, refl),
      (let b : dot P.m (λ q. rows P.m (P.n + q)) P.b <ℤ pos 0 = em.below in omega (arith, ints)),
    )

-- the function gives this program
pub master_is : (d : RobustProgram) (cuts : Cuts) → IsMaster d cuts (master_of d cuts)
master_is d cuts = record {
  height = refl;
  width = refl;
  at_plus = λ q j ql jl. signed_even j (cut_entry d cuts q (suc (plus j / 2)))
      ∙ ap (λ v. cut_entry d cuts q (suc v)) (half_even j);
  at_minus = λ q j ql jl. signed_odd j (cut_entry d cuts q (suc (minus j / 2)))
      ∙ ap (λ v. neg_ℤ (cut_entry d cuts q (suc v))) (half_odd j);
  at_right = λ q ql. refl;
  cost = tau_cost_is d (master_of d cuts) (λ k. refl);
}
