-- The counterpart as lists of rows.
use Rattle.std.proofs.Common.{◌≡◌, ◌≢◌, ◌⊎◌, inl, inr, Bool, true, false, ℕ, suc, ◌+◌, ◌-◌, ◌*◌, ◌/◌, ◌%◌, ◌<◌, ◌≤◌, List, [], length, sym, ap, ◌∙◌, subst, arith, cond, ltb, eqb}
use Rattle.std.proofs.lemmas.Nat.{div-mul-add, mod-mul-add}
use Rattle.std.specs.Prelude.{slice_index_or}
use lib.IntN.{ℤ, pos, nat_abs, neg_ℤ}
use Rattle.rob_linear.specs.Vectors.{at}
use Rattle.rob_linear.specs.Programs.{Program}
use Rattle.rob_meaning.specs.Places.{tabulate}
use Rattle.rob_rows.specs.declared.program.Lp.{Lp}
use Rattle.rob_rows.specs.LinearPrograms.{program_of, HasNumbersWithin}
use Rattle.rob_counterpart.specs.RobustProgram.{RobustProgram, entry}
use Rattle.rob_counterpart.specs.Splitting.{signed_entry}
use Rattle.rob_counterpart.specs.Reform.{pairs, block, plan_entry, multiplier_entry, right_entry, row_entry, tau_cost, reform}
use Rattle.rob_counterpart.specs.SamePrograms.{AreSame}
use Rattle.rob_algebra.proofs.WholeNumbers.{at_block}
use Rattle.rob_counterpart.proofs.Positions.ReformPlaces.{where_not_less, where_same, where_other}
use Rattle.rob_counterpart.proofs.Pairs.TabulateLemmas.{length-tabulate}
use Rattle.rob_dualize.proofs.SetProgramLemmas.{negated_within}
use Rattle.rob_dualize.proofs.TabulateLemmas.{item-tabulate}

-- the rows of a program, its right sides and its costs as lists
pub record IsListed (P : Program) (lp : Lp) : Type 0 where
  pub a : lp.a ≡ tabulate P.m (λ t. tabulate P.n (P.a t))
  pub b : lp.b ≡ tabulate P.m P.b
  pub c : lp.c ≡ tabulate P.n P.c

module _ (P : Program) (lp : Lp) (h : IsListed P lp) where
  rights : length lp.b ≡ P.m
  rights = ap length h.b ∙ length-tabulate P.m P.b

  costs : length lp.c ≡ P.n
  costs = ap length h.c ∙ length-tabulate P.n P.c

  rows : length lp.a ≡ P.m
  rows = ap length h.a ∙ length-tabulate P.m (λ t. tabulate P.n (P.a t))

  row_at : (t : ℕ) (d : List ℤ) → t < P.m → slice_index_or lp.a t d ≡ tabulate P.n (P.a t)
  row_at t d l = ap (λ xs. slice_index_or xs t d) h.a ∙ item-tabulate P.m (λ t. tabulate P.n (P.a t)) t d l

  pub listed_same : AreSame (program_of lp) P
  listed_same = record {
    height = rights;
    width = costs;
    rows = λ t k tl kl. ap (λ row. at row k) (row_at t [] (let e : length lp.b ≡ P.m = rights in omega arith))
        ∙ item-tabulate P.n (P.a t) k (pos 0) (let e : length lp.c ≡ P.n = costs in omega arith);
    rights = λ t l. ap (λ xs. at xs t) h.b ∙ item-tabulate P.m P.b t (pos 0)
        (let e : length lp.b ≡ P.m = rights in omega arith);
    costs = λ k l. ap (λ xs. at xs k) h.c ∙ item-tabulate P.n P.c k (pos 0)
        (let e : length lp.c ≡ P.n = costs in omega arith);
  }

  pub listed_within : (limit : ℕ) → ((t k : ℕ) → nat_abs (P.a t k) ≤ limit) → ((t : ℕ) → nat_abs (P.b t) ≤ limit)
      → ((k : ℕ) → nat_abs (P.c k) ≤ limit)
      → HasNumbersWithin limit lp
  listed_within limit ha hb hc = record {
    a = λ t d l k e kl.
        let r : slice_index_or lp.a t d ≡ tabulate P.n (P.a t) =
        row_at t d (let q : length lp.a ≡ P.m = rows in omega arith) in
        let n : length (slice_index_or lp.a t d) ≡ P.n = ap length r ∙ length-tabulate P.n (P.a t) in
        subst (λ (v : ℤ). nat_abs v ≤ limit) (sym (ap (λ row. slice_index_or row k e) r
        ∙ item-tabulate P.n (P.a t) k e (omega arith))) (ha t k);
    b = λ t d l. subst (λ (v : ℤ). nat_abs v ≤ limit) (sym (ap (λ xs. slice_index_or xs t d) h.b
        ∙ item-tabulate P.m P.b t d (let q : length lp.b ≡ P.m = rights in omega arith))) (hb t);
    c = λ k d l. subst (λ (v : ℤ). nat_abs v ≤ limit) (sym (ap (λ xs. slice_index_or xs k d) h.c
        ∙ item-tabulate P.n P.c k d (let q : length lp.c ≡ P.n = costs in omega arith))) (hc k);
  }

-- ---- sizes of the numbers
cond_small : (limit : ℕ) (t : Bool) (v w : ℤ) → nat_abs v ≤ limit → nat_abs w ≤ limit → nat_abs (cond t v w) ≤ limit
cond_small limit true v w hv hw = hv
cond_small limit false v w hv hw = hw

pub signed_small : (limit k : ℕ) (v : ℤ) → nat_abs v ≤ limit → nat_abs (signed_entry k v) ≤ limit
signed_small limit k v h = cond_small limit (eqb (k % 2) 0) v (neg_ℤ v) h (negated_within limit v h)

module _ (d : RobustProgram) (limit : ℕ) (forms : (i k j : ℕ) → nat_abs (d.form i k j) ≤ limit)
    (left : (r c : ℕ) → nat_abs (d.left r c) ≤ limit)
    (right : (r : ℕ) → nat_abs (d.right r) ≤ limit) (sense : nat_abs d.sense ≤ limit) where
  entry_small : (i c j : ℕ) → nat_abs (entry d i c j) ≤ limit
  entry_small i c j = cond_small limit (ltb c d.parameters) (d.form i (suc c) j) (pos 0) (forms i (suc c) j)
      (omega arith)

  plan_small : (i p j : ℕ) → nat_abs (plan_entry d i p j) ≤ limit
  plan_small i p j =
      cond_small limit (ltb p (d.set_columns + d.set_columns)) (signed_entry p (neg_ℤ (entry d i (p / 2) (suc j))))
      (d.form i 0 (suc j))
      (signed_small limit p (neg_ℤ (entry d i (p / 2) (suc j)))
      (negated_within limit (entry d i (p / 2) (suc j)) (entry_small i (p / 2) (suc j)))) (forms i 0 (suc j))

  multiplier_small : (p r : ℕ) → nat_abs (multiplier_entry d p r) ≤ limit
  multiplier_small p r =
      cond_small limit (ltb p (d.set_columns + d.set_columns)) (signed_entry p (d.left r (p / 2))) (d.right r)
      (signed_small limit p (d.left r (p / 2)) (left r (p / 2))) (right r)

  row_small : (i p k : ℕ) → nat_abs (row_entry d i p k) ≤ limit
  row_small i p k =
      cond_small limit (ltb k (pairs d)) (signed_entry k (plan_entry d i p (k / 2)))
      (cond (eqb ((k - pairs d) / d.set_rows) i) (multiplier_entry d p ((k - pairs d) % d.set_rows)) (pos 0))
      (signed_small limit k (plan_entry d i p (k / 2)) (plan_small i p (k / 2)))
      (cond_small limit (eqb ((k - pairs d) / d.set_rows) i) (multiplier_entry d p ((k - pairs d) % d.set_rows))
      (pos 0) (multiplier_small p ((k - pairs d) % d.set_rows)) (omega arith))

  right_small : (i p : ℕ) → nat_abs (right_entry d i p) ≤ limit
  right_small i p =
      cond_small limit (ltb p (d.set_columns + d.set_columns)) (signed_entry p (entry d i (p / 2) 0))
      (neg_ℤ (d.form i 0 0))
      (signed_small limit p (entry d i (p / 2) 0) (entry_small i (p / 2) 0))
      (negated_within limit (d.form i 0 0) (forms i 0 0))

  cost_small : (k : ℕ) → nat_abs (tau_cost d k) ≤ limit
  cost_small k = cond_small limit (eqb (k / 2) d.decisions) (signed_entry k d.sense) (pos 0)
      (signed_small limit k d.sense sense) (omega arith)

  pub reform_within : (lp : Lp) → IsListed (reform d) lp → HasNumbersWithin limit lp
  reform_within lp h = listed_within (reform d) lp h limit (λ t k. row_small (t / block d) (t % block d) k)
      (λ t. right_small (t / block d) (t % block d)) cost_small

-- ---- a row by its columns
behind_plan : (d : RobustProgram) (i p k : ℕ) → pairs d ≤ k
    → row_entry d i p k ≡ cond (eqb ((k - pairs d) / d.set_rows) i)
    (multiplier_entry d p ((k - pairs d) % d.set_rows)) (pos 0)
behind_plan d i p k l = where_not_less k (pairs d) (signed_entry k (plan_entry d i p (k / 2)))
    (cond (eqb ((k - pairs d) / d.set_rows) i) (multiplier_entry d p ((k - pairs d) % d.set_rows)) (pos 0)) l

pub in_multipliers : (d : RobustProgram) (i p k : ℕ) → pairs d + (i * d.set_rows) ≤ k
    → k < (pairs d + (i * d.set_rows)) + d.set_rows
    → row_entry d i p k ≡ multiplier_entry d p (k - (pairs d + (i * d.set_rows)))
in_multipliers d i p k low high =
    let r : ℕ = k - (pairs d + (i * d.set_rows)) in
    let e : k - pairs d ≡ (i * d.set_rows) + (k - (pairs d + (i * d.set_rows))) = omega arith in
    let l : k - (pairs d + (i * d.set_rows)) < d.set_rows = omega arith in
    behind_plan d i p k (omega arith)
    ∙ where_same ((k - pairs d) / d.set_rows) i (multiplier_entry d p ((k - pairs d) % d.set_rows)) (pos 0)
    (ap (λ v. v / d.set_rows) e ∙ div-mul-add i d.set_rows (k - (pairs d + (i * d.set_rows))) l)
    ∙ ap (multiplier_entry d p) (ap (λ v. v % d.set_rows) e ∙ mod-mul-add i d.set_rows
    (k - (pairs d + (i * d.set_rows))) l)

pub outside_multipliers : (d : RobustProgram) (i p k : ℕ) → pairs d ≤ k → k < pairs d + (d.forms * d.set_rows)
    → (k < pairs d + (i * d.set_rows)) ⊎ ((pairs d + (i * d.set_rows)) + d.set_rows ≤ k) → row_entry d i p k ≡ pos 0
outside_multipliers d i p k low high out =
    let g : (h : ℕ) × (r : ℕ) × (h < d.forms) × (r < d.set_rows) × (k - pairs d ≡ (h * d.set_rows) + r) =
    at_block d.forms d.set_rows (k - pairs d) (omega arith) in
    let e : k - pairs d ≡ (g.0 * d.set_rows) + g.1 = g.4 in
    let l : g.1 < d.set_rows = g.3 in
    let other : ((k - pairs d) / d.set_rows) ≢ i = (λ f.
    let h : g.0 ≡ i = sym (ap (λ v. v / d.set_rows) e ∙ div-mul-add g.0 d.set_rows g.1 l) ∙ f in
    let w : g.0 * d.set_rows ≡ i * d.set_rows = ap (λ v. v * d.set_rows) h in
    elim out [
      | inl a ↦ absurd (omega arith)
      | inr b ↦ absurd (omega arith)
    ]) in
    behind_plan d i p k low
    ∙ where_other ((k - pairs d) / d.set_rows) i (multiplier_entry d p ((k - pairs d) % d.set_rows)) (pos 0) other
