-- Programs with the same numbers have the same starting rows, so the same bases and paths.
use Rattle.std.proofs.Common.{◌≡◌, ℕ, suc, ◌+◌, ◌<◌, ◌≤◌, sym, ap, ◌∙◌, subst, arith, inl, inr, cond, ltb, eqb}
use Rattle.std.proofs.Math.Path.{fun_ext}
use Rattle.std.proofs.lemmas.Bool.{cases_eq, cases_lt}
use Rattle.std.proofs.lemmas.Bool.Decides.{nat_tests}
use lib.IntN.{ℤ, pos, negsuc, neg_ℤ}
use Rattle.rob_linear.specs.Programs.{Program, left_of, right_of, starting_row, system_of, auxiliary_row, auxiliary_of}
use Rattle.rob_counterpart.specs.RobustProgram.{RobustProgram}
use Rattle.rob_counterpart.specs.Splitting.{plus, minus}
use Rattle.rob_counterpart.specs.Reform.{HasTauCost, IsReform, reform}
use Rattle.rob_counterpart.specs.SetPrograms.{IsOverSet, HasCost, over_set}
use Rattle.rob_counterpart.specs.Master.{Cuts, IsMaster, master_of}
use Rattle.rob_counterpart.specs.SamePrograms.{AreSame}
use Rattle.rob_counterpart.proofs.Pairs.Blocks.{halves}
use Rattle.rob_counterpart.proofs.Positions.ReformPlaces.{reform_is, reforms_same, costs_same}
use Rattle.rob_counterpart.proofs.Sets.SetLemmas.{over_set_is, cost_is}
use Rattle.rob_counterpart.proofs.Searching.MasterLemmas.{master_is}
use Rattle.rob_linear.proofs.LinearPrograms.Programs.{auxiliary_left, left_row, right_row, row_left}

left_out : (P : Program) (t k : ℕ) → P.m ≤ t → left_of P t k ≡ neg_ℤ (P.c k)
left_out P t k l = grind (arith, nat_tests)

right_out : (P : Program) (t : ℕ) → P.m ≤ t → right_of P t ≡ pos 0
right_out P t l = grind (arith, nat_tests)

left_same : (P Q : Program) (t k : ℕ) → AreSame P Q → k < P.n → left_of P t k ≡ left_of Q t k
left_same P Q t k h kl =
    let m : P.m ≡ Q.m = h.height in
    elim (cases_lt t P.m) [
      | inl l ↦ left_row P t k l ∙ h.rows t k l kl ∙ sym (left_row Q t k (omega arith))
      | inr l ↦ left_out P t k l ∙ ap neg_ℤ (h.costs k kl) ∙ sym (left_out Q t k (omega arith))
    ]

right_same : (P Q : Program) (t : ℕ) → AreSame P Q → right_of P t ≡ right_of Q t
right_same P Q t h =
    let m : P.m ≡ Q.m = h.height in
    elim (cases_lt t P.m) [
      | inl l ↦ right_row P t l ∙ h.rights t l ∙ sym (right_row Q t (omega arith))
      | inr l ↦ right_out P t l ∙ sym (right_out Q t (omega arith))
    ]

at_behind : (P : Program) (t k : ℕ) → P.n ≤ k
    → starting_row P t k ≡ cond (eqb k (P.n + t)) (pos 1) (cond (eqb k (suc (P.n + P.m))) (right_of P t) (pos 0))
at_behind P t k l = grind (arith, nat_tests)

start_same : (P Q : Program) (t k : ℕ) → AreSame P Q → starting_row P t k ≡ starting_row Q t k
start_same P Q t k h =
    let m : P.m ≡ Q.m = h.height in
    let n : P.n ≡ Q.n = h.width in
    elim (cases_lt k P.n) [
      | inl l ↦ row_left P t k l ∙ left_same P Q t k h l ∙ sym (row_left Q t k (omega arith))
      | inr l ↦
          at_behind P t k l
          ∙ ap (λ v. cond (eqb k (P.n + t)) (pos 1) (cond (eqb k (suc (P.n + P.m))) v (pos 0))) (right_same P Q t h)
          ∙ ap (λ v. cond (eqb k (v + t)) (pos 1) (cond (eqb k (suc (v + P.m))) (right_of Q t) (pos 0))) n
          ∙ ap (λ v. cond (eqb k (Q.n + t)) (pos 1) (cond (eqb k (suc (Q.n + v))) (right_of Q t) (pos 0))) m
          ∙ sym (at_behind Q t k (omega arith))
    ]

pub systems_same : (P Q : Program) → AreSame P Q → system_of P ≡ system_of Q
systems_same P Q h =
    let start : starting_row P ≡ starting_row Q = fun_ext (λ t. fun_ext (λ k. start_same P Q t k h)) in
    λ i. record { m = h.height i; columns = h.width i + h.height i; tag = λ t. h.width i + t; start = start i }

aux_left_out : (P : Program) (t k : ℕ) → k < P.n → P.m ≤ t → auxiliary_row P t k ≡ pos 0
aux_left_out P t k l b = grind (arith, nat_tests)

-- behind the columns of variables the entries hang on the sizes and the right side alone
abbrev behind : ℕ → ℕ → ℤ → ℕ → ℕ → ℤ
behind m n right t k =
    cond (eqb k (n + m)) (cond (ltb t m) (negsuc 0) (pos 1))
    (cond (eqb k (cond (ltb t m) (n + t) (suc (n + m)))) (pos 1) (cond (eqb k (suc (suc (n + m)))) right (pos 0)))

aux_behind : (P : Program) (t k : ℕ) → P.n ≤ k → auxiliary_row P t k ≡ behind P.m P.n (right_of P t) t k
aux_behind P t k l = grind (arith, nat_tests)

aux_same : (P Q : Program) (t k : ℕ) → AreSame P Q → auxiliary_row P t k ≡ auxiliary_row Q t k
aux_same P Q t k h =
    let m : P.m ≡ Q.m = h.height in
    let n : P.n ≡ Q.n = h.width in
    elim (cases_lt k P.n) [
      | inl l ↦ elim (cases_lt t P.m) [
        | inl b ↦ auxiliary_left P t k b l ∙ h.rows t k b l ∙ sym (auxiliary_left Q t k (omega arith) (omega arith))
        | inr b ↦ aux_left_out P t k l b ∙ sym (aux_left_out Q t k (omega arith) (omega arith))
      ]
      | inr l ↦
          aux_behind P t k l ∙ ap (λ v. behind P.m P.n v t k) (right_same P Q t h)
          ∙ ap (λ v. behind v P.n (right_of Q t) t k) m
          ∙ ap (λ v. behind Q.m v (right_of Q t) t k) n ∙ sym (aux_behind Q t k (omega arith))
    ]

pub auxiliaries_same : (P Q : Program) → AreSame P Q → auxiliary_of P ≡ auxiliary_of Q
auxiliaries_same P Q h =
    let start : auxiliary_row P ≡ auxiliary_row Q = fun_ext (λ t. fun_ext (λ k. aux_same P Q t k h)) in
    λ i. record {
      m = h.height i;
      columns = suc (h.width i + h.height i);
      tag = λ t. cond (ltb t (h.height i)) (h.width i + t) (suc (h.width i + h.height i));
      start = start i;
    }

-- ---- a program that is described by its places has the numbers of the function

pub reform_same : (d : RobustProgram) (P : Program) → IsReform d P → AreSame P (reform d)
reform_same d P re = record {
  height = re.height;
  width = re.width;
  rows = λ t k tl kl. (reforms_same d P (reform d) re (reform_is d) t tl).0 k kl;
  rights = λ t tl. (reforms_same d P (reform d) re (reform_is d) t tl).1;
  costs = λ k kl. costs_same d P (reform d) re (reform_is d) k kl;
}

-- what holds in both columns of each of n pairs holds in all columns
by_pairs : (n : ℕ) (M : ℕ → Type 0) → ((j : ℕ) → j < n → M (plus j)) → ((j : ℕ) → j < n → M (minus j))
    → (k : ℕ) → k < n + n → M k
by_pairs n M first second k l =
    elim (halves k) [
      | inl h ↦ let e : k ≡ h.0 + h.0 = h.1 in subst M (sym e) (first h.0 (omega arith))
      | inr h ↦ let e : k ≡ suc (h.0 + h.0) = h.1 in subst M (sym e) (second h.0 (omega arith))
    ]

pub over_set_same : (d : RobustProgram) (f : ℕ → ℤ) (P : Program) → IsOverSet d P → HasCost d f P
    → AreSame P (over_set d f)
over_set_same d f P se co =
    let q : IsOverSet d (over_set d f) = over_set_is d f in
    let w : HasCost d f (over_set d f) = cost_is d f in
    record {
      height = se.height;
      width = se.width;
      rows = λ t k tl kl.
          let h : t < d.set_rows = subst (λ v. t < v) se.height tl in
          by_pairs d.set_columns (λ k. P.a t k ≡ (over_set d f).a t k)
          (λ c cl. se.at_plus t c h cl ∙ sym (q.at_plus t c h cl))
          (λ c cl. se.at_minus t c h cl ∙ sym (q.at_minus t c h cl))
          k (subst (λ v. k < v) se.width kl);
      rights = λ t tl. se.at_right t (subst (λ v. t < v) se.height tl);
      costs = λ k kl.
          by_pairs d.set_columns (λ k. P.c k ≡ (over_set d f).c k) (λ c cl. co.cost_plus c cl ∙ sym (w.cost_plus c cl))
          (λ c cl. co.cost_minus c cl ∙ sym (w.cost_minus c cl))
          k (subst (λ v. k < v) se.width kl);
    }

-- two programs in which tau alone counts have one cost at each pair
tau_costs_same : (d : RobustProgram) (P Q : Program) → HasTauCost d P → HasTauCost d Q → (j : ℕ) → j ≤ d.decisions
    → (P.c (plus j) ≡ Q.c (plus j)) × (P.c (minus j) ≡ Q.c (minus j))
tau_costs_same d P Q p q j jl =
    elim (cases_eq j d.decisions) [
      | inl e ↦ subst (λ v. (P.c (plus v) ≡ Q.c (plus v)) × (P.c (minus v) ≡ Q.c (minus v))) (sym e)
          (p.cost_tau.0 ∙ sym q.cost_tau.0, p.cost_tau.1 ∙ sym q.cost_tau.1)
      | inr e ↦ (
        (p.cost_decisions j (omega arith)).0 ∙ sym (q.cost_decisions j (omega arith)).0,
        (p.cost_decisions j (omega arith)).1 ∙ sym (q.cost_decisions j (omega arith)).1,
      )
    ]

pub master_same : (d : RobustProgram) (cuts : Cuts) (P : Program) → IsMaster d cuts P → AreSame P (master_of d cuts)
master_same d cuts P ma =
    let q : IsMaster d cuts (master_of d cuts) = master_is d cuts in
    record {
      height = ma.height;
      width = ma.width;
      rows = λ t k tl kl.
          let h : t < cuts.count = subst (λ v. t < v) ma.height tl in
          by_pairs (suc d.decisions) (λ k. P.a t k ≡ (master_of d cuts).a t k)
          (λ j jl. ma.at_plus t j h (omega arith) ∙ sym (q.at_plus t j h (omega arith)))
          (λ j jl. ma.at_minus t j h (omega arith) ∙ sym (q.at_minus t j h (omega arith)))
          k (subst (λ v. k < v) ma.width kl);
      rights = λ t tl. ma.at_right t (subst (λ v. t < v) ma.height tl);
      costs = λ k kl.
          by_pairs (suc d.decisions) (λ k. P.c k ≡ (master_of d cuts).c k)
          (λ j jl. (tau_costs_same d P (master_of d cuts) ma.cost q.cost j (omega arith)).0)
          (λ j jl. (tau_costs_same d P (master_of d cuts) ma.cost q.cost j (omega arith)).1)
          k (subst (λ v. k < v) ma.width kl);
    }
