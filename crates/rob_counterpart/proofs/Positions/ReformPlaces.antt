-- The function `reform` gives the reformulated program, and each program that is one has its numbers.
use Rattle.std.proofs.Common.{◌≡◌, ◌≢◌, ℕ, suc, ◌+◌, ◌-◌, ◌*◌, ◌/◌, ◌%◌, ◌<◌, ◌≤◌, sym, refl, ap, ◌∙◌, subst, arith, inl, inr, cond, ltb, eqb}
use Rattle.std.proofs.lemmas.Bool.{cases_eq}
use Rattle.std.proofs.lemmas.Bool.Decides.{nat_tests}
use Rattle.std.proofs.lemmas.Nat.{div-mul-add, mod-mul-add}
use lib.IntN.{ℤ, pos, neg_ℤ}
use Rattle.rob_linear.specs.Programs.{Program}
use Rattle.rob_algebra.specs.Integer.{neg-neg}
use Rattle.rob_counterpart.proofs.Pairs.Blocks.{halves}
use Rattle.rob_counterpart.proofs.Positions.ReformSums.{by_rows, by_columns}
use Rattle.rob_counterpart.specs.RobustProgram.{RobustProgram, entry}
use Rattle.rob_counterpart.specs.Reform.{pairs, multiplier, block, positive_row, negative_row, constant_row, RowIs, HasTauCost, IsReform, plan_entry, multiplier_entry, right_entry, row_entry, tau_cost, reform}
use Rattle.rob_counterpart.specs.Splitting.{plus, minus, signed_entry}

pub half_even : (c : ℕ) → (c + c) / 2 ≡ c
half_even c = let e : c + c ≡ (c * 2) + 0 = grind arith in ap (λ v. v / 2) e ∙ div-mul-add c 2 0 (omega arith)

pub half_odd : (c : ℕ) → suc (c + c) / 2 ≡ c
half_odd c = let e : suc (c + c) ≡ (c * 2) + 1 = grind arith in ap (λ v. v / 2) e ∙ div-mul-add c 2 1 (omega arith)

rest_even : (c : ℕ) → (c + c) % 2 ≡ 0
rest_even c = let e : c + c ≡ (c * 2) + 0 = grind arith in ap (λ v. v % 2) e ∙ mod-mul-add c 2 0 (omega arith)

rest_odd : (c : ℕ) → suc (c + c) % 2 ≡ 1
rest_odd c = let e : suc (c + c) ≡ (c * 2) + 1 = grind arith in ap (λ v. v % 2) e ∙ mod-mul-add c 2 1 (omega arith)

pub signed_even : (c : ℕ) (v : ℤ) → signed_entry (c + c) v ≡ v
signed_even c v = ap (λ q. cond (eqb q 0) v (neg_ℤ v)) (rest_even c)

pub signed_odd : (c : ℕ) (v : ℤ) → signed_entry (suc (c + c)) v ≡ neg_ℤ v
signed_odd c v = ap (λ q. cond (eqb q 0) v (neg_ℤ v)) (rest_odd c)

pub where_less : (a b : ℕ) (x y : ℤ) → a < b → cond (ltb a b) x y ≡ x
where_less a b x y l = grind (arith, nat_tests)

pub where_not_less : (a b : ℕ) (x y : ℤ) → b ≤ a → cond (ltb a b) x y ≡ y
where_not_less a b x y l = grind (arith, nat_tests)

pub where_same : (a b : ℕ) (x y : ℤ) → a ≡ b → cond (eqb a b) x y ≡ x
where_same a b x y l = grind (arith, nat_tests)

pub where_other : (a b : ℕ) (x y : ℤ) → a ≢ b → cond (eqb a b) x y ≡ y
where_other a b x y l = grind (arith, nat_tests)

-- ---- a row by its form and place

at_place : (d : RobustProgram) (i p : ℕ) (f : ℕ → ℕ → ℤ) → p < block d
    → f (((i * block d) + p) / block d) (((i * block d) + p) % block d) ≡ f i p
at_place d i p f l =
    ap (λ v. f v (((i * block d) + p) % block d)) (div-mul-add i (block d) p l) ∙ ap (f i) (mod-mul-add i (block d) p l)

entry_plus : (d : RobustProgram) (i p j : ℕ) → j ≤ d.decisions → row_entry d i p (plus j) ≡ plan_entry d i p j
entry_plus d i p j l =
    where_less (plus j) (pairs d) (signed_entry (plus j) (plan_entry d i p (plus j / 2)))
    (cond (eqb ((plus j - pairs d) / d.set_rows) i)
    (multiplier_entry d p ((plus j - pairs d) % d.set_rows)) (pos 0)) (omega arith)
    ∙ signed_even j (plan_entry d i p (plus j / 2)) ∙ ap (plan_entry d i p) (half_even j)

entry_minus : (d : RobustProgram) (i p j : ℕ) → j ≤ d.decisions → row_entry d i p (minus j) ≡ neg_ℤ (plan_entry d i p j)
entry_minus d i p j l =
    where_less (minus j) (pairs d) (signed_entry (minus j) (plan_entry d i p (minus j / 2)))
    (cond (eqb ((minus j - pairs d) / d.set_rows) i)
    (multiplier_entry d p ((minus j - pairs d) % d.set_rows)) (pos 0)) (omega arith)
    ∙ signed_odd j (plan_entry d i p (minus j / 2)) ∙ ap (λ v. neg_ℤ (plan_entry d i p v)) (half_odd j)

entry_multiplier : (d : RobustProgram) (i p h r : ℕ) → r < d.set_rows
    → row_entry d i p (multiplier d h r) ≡ cond (eqb h i) (multiplier_entry d p r) (pos 0)
entry_multiplier d i p h r l =
    let k : multiplier d h r - pairs d ≡ (h * d.set_rows) + r = omega arith in
    where_not_less (multiplier d h r) (pairs d)
    (signed_entry (multiplier d h r) (plan_entry d i p (multiplier d h r / 2)))
    (cond (eqb ((multiplier d h r - pairs d) / d.set_rows) i)
    (multiplier_entry d p ((multiplier d h r - pairs d) % d.set_rows)) (pos 0)) (omega arith)
    ∙ ap (λ v. cond (eqb (v / d.set_rows) i) (multiplier_entry d p (v % d.set_rows)) (pos 0)) k
    ∙ ap (λ v. cond (eqb v i) (multiplier_entry d p (((h * d.set_rows) + r) % d.set_rows)) (pos 0))
    (div-mul-add h d.set_rows r l)
    ∙ ap (λ v. cond (eqb h i) (multiplier_entry d p v) (pos 0)) (mod-mul-add h d.set_rows r l)

-- a row whose numbers at its place are these
row_at : (d : RobustProgram) (i p : ℕ) (plan own : ℕ → ℤ) (right : ℤ) → p < block d
    → ((j : ℕ) → plan_entry d i p j ≡ plan j)
    → ((r : ℕ) → multiplier_entry d p r ≡ own r) → right_entry d i p ≡ right
    → RowIs d (reform d) ((i * block d) + p) i plan own right
row_at d i p plan own right l pl ow ri = record {
  at_plus = λ j jl. at_place d i p (λ h q. row_entry d h q (plus j)) l ∙ entry_plus d i p j jl ∙ pl j;
  at_minus = λ j jl. at_place d i p (λ h q. row_entry d h q (minus j)) l ∙ entry_minus d i p j jl ∙ ap neg_ℤ (pl j);
  at_own = λ r rl. at_place d i p (λ h q. row_entry d h q (multiplier d i r)) l ∙ entry_multiplier d i p i r rl
      ∙ where_same i i (multiplier_entry d p r) (pos 0) refl ∙ ow r;
  at_others = λ h r hl ne rl. at_place d i p (λ v q. row_entry d v q (multiplier d h r)) l
      ∙ entry_multiplier d i p h r rl ∙ where_other h i (multiplier_entry d p r) (pos 0) ne;
  at_right = at_place d i p (right_entry d) l ∙ ri;
}

cost_plus : (d : RobustProgram) (j : ℕ) → tau_cost d (plus j) ≡ cond (eqb j d.decisions) d.sense (pos 0)
cost_plus d j =
    ap (λ v. cond (eqb v d.decisions) (signed_entry (plus j) d.sense) (pos 0)) (half_even j)
    ∙ ap (λ v. cond (eqb j d.decisions) v (pos 0)) (signed_even j d.sense)

cost_minus : (d : RobustProgram) (j : ℕ) → tau_cost d (minus j) ≡ cond (eqb j d.decisions) (neg_ℤ d.sense) (pos 0)
cost_minus d j =
    ap (λ v. cond (eqb v d.decisions) (signed_entry (minus j) d.sense) (pos 0)) (half_odd j)
    ∙ ap (λ v. cond (eqb j d.decisions) v (pos 0)) (signed_odd j d.sense)

cost_multiplier : (d : RobustProgram) (k : ℕ) → pairs d ≤ k → tau_cost d k ≡ pos 0
cost_multiplier d k l =
    elim (halves k) [
      | inl h ↦ let e : k ≡ h.0 + h.0 = h.1 in
          ap (tau_cost d) e ∙ cost_plus d h.0 ∙ where_other h.0 d.decisions d.sense (pos 0) (omega arith)
      | inr h ↦ let e : k ≡ suc (h.0 + h.0) = h.1 in
          ap (tau_cost d) e ∙ cost_minus d h.0 ∙ where_other h.0 d.decisions (neg_ℤ d.sense) (pos 0) (omega arith)
    ]

positive_place : (d : RobustProgram) (c : ℕ) (f : ℕ → ℤ) (y : ℤ) → c < d.set_columns
    → cond (ltb (c + c) (d.set_columns + d.set_columns)) (signed_entry (c + c) (f ((c + c) / 2))) y ≡ f c
positive_place d c f y l =
    where_less (c + c) (d.set_columns + d.set_columns) (signed_entry (c + c) (f ((c + c) / 2))) y (omega arith)
    ∙ signed_even c (f ((c + c) / 2)) ∙ ap f (half_even c)

negative_place : (d : RobustProgram) (c : ℕ) (f : ℕ → ℤ) (y : ℤ) → c < d.set_columns
    → cond (ltb (suc (c + c)) (d.set_columns + d.set_columns)) (signed_entry (suc (c + c)) (f (suc (c + c) / 2))) y
    ≡ neg_ℤ (f c)
negative_place d c f y l =
    where_less (suc (c + c)) (d.set_columns + d.set_columns) (signed_entry (suc (c + c)) (f (suc (c + c) / 2))) y
    (omega arith) ∙ signed_odd c (f (suc (c + c) / 2)) ∙ ap (λ v. neg_ℤ (f v)) (half_odd c)

constant_place : (d : RobustProgram) (x y : ℤ)
    → cond (ltb (d.set_columns + d.set_columns) (d.set_columns + d.set_columns)) x y ≡ y
constant_place d x y = where_not_less (d.set_columns + d.set_columns) (d.set_columns + d.set_columns) x y (omega arith)

pub tau_cost_is : (d : RobustProgram) (P : Program) → ((k : ℕ) → P.c k ≡ tau_cost d k) → HasTauCost d P
tau_cost_is d P e = record {
  cost_decisions = λ j jl. (
    e (plus j) ∙ cost_plus d j ∙ where_other j d.decisions d.sense (pos 0) (omega arith),
    e (minus j) ∙ cost_minus d j ∙ where_other j d.decisions (neg_ℤ d.sense) (pos 0) (omega arith),
  );
  cost_tau = (
    e (plus d.decisions) ∙ cost_plus d d.decisions ∙ where_same d.decisions d.decisions d.sense (pos 0) refl,
    e (minus d.decisions) ∙ cost_minus d d.decisions ∙ where_same d.decisions d.decisions (neg_ℤ d.sense) (pos 0) refl,
  );
}

pub reform_is : (d : RobustProgram) → IsReform d (reform d)
reform_is d = record {
  height = refl;
  width = refl;
  positive = λ i c il cl. row_at d i (c + c) (λ j. neg_ℤ (entry d i c (suc j))) (λ r. d.left r c)
      (entry d i c 0) (omega arith)
      (λ j. positive_place d c (λ v. neg_ℤ (entry d i v (suc j))) (d.form i 0 (suc j)) cl)
      (λ r. positive_place d c (d.left r) (d.right r) cl)
      (positive_place d c (λ v. entry d i v 0) (neg_ℤ (d.form i 0 0)) cl);
  negative = λ i c il cl. row_at d i (suc (c + c)) (λ j. entry d i c (suc j)) (λ r. neg_ℤ (d.left r c))
      (neg_ℤ (entry d i c 0)) (omega arith)
      (λ j. negative_place d c (λ v. neg_ℤ (entry d i v (suc j))) (d.form i 0 (suc j)) cl
      ∙ neg-neg (entry d i c (suc j)))
      (λ r. negative_place d c (d.left r) (d.right r) cl)
      (negative_place d c (λ v. entry d i v 0) (neg_ℤ (d.form i 0 0)) cl);
  constant = λ i il. row_at d i (d.set_columns + d.set_columns) (λ j. d.form i 0 (suc j)) d.right
      (neg_ℤ (d.form i 0 0)) (omega arith)
      (λ j. constant_place d
      (signed_entry (d.set_columns + d.set_columns) (neg_ℤ (entry d i ((d.set_columns + d.set_columns) / 2) (suc j))))
      (d.form i 0 (suc j)))
      (λ r.
      constant_place d (signed_entry (d.set_columns + d.set_columns) (d.left r ((d.set_columns + d.set_columns) / 2)))
      (d.right r))
      (constant_place d
      (signed_entry (d.set_columns + d.set_columns) (entry d i ((d.set_columns + d.set_columns) / 2) 0))
      (neg_ℤ (d.form i 0 0)));
  cost = tau_cost_is d (reform d) (λ k. refl);
  cost_multipliers = λ i r il rl. cost_multiplier d (multiplier d i r) (omega arith);
}

-- ---- two programs that are the reformulation have the same numbers

rows_same : (d : RobustProgram) (P Q : Program) (t i : ℕ) (plan own : ℕ → ℤ) (right : ℤ) → i < d.forms
    → RowIs d P t i plan own right → RowIs d Q t i plan own right
    → ((k : ℕ) → k < pairs d + (d.forms * d.set_rows) → P.a t k ≡ Q.a t k) × (P.b t ≡ Q.b t)
rows_same d P Q t i plan own right il p q = (
  by_columns d (λ k. P.a t k ≡ Q.a t k) (λ j jl. p.at_plus j jl ∙ sym (q.at_plus j jl))
      (λ j jl. p.at_minus j jl ∙ sym (q.at_minus j jl)) (λ h r hl rl. elim (cases_eq h i) [
        | inl e ↦ subst (λ v. P.a t (multiplier d v r) ≡ Q.a t (multiplier d v r)) (sym e)
            (p.at_own r rl ∙ sym (q.at_own r rl))
        | inr e ↦ p.at_others h r hl e rl ∙ sym (q.at_others h r hl e rl)
      ]),
  p.at_right ∙ sym q.at_right,
)

pub reforms_same : (d : RobustProgram) (P Q : Program) → IsReform d P → IsReform d Q → (t : ℕ) → t < P.m
    → ((k : ℕ) → k < P.n → P.a t k ≡ Q.a t k) × (P.b t ≡ Q.b t)
reforms_same d P Q p q t tl =
    let all : ((k : ℕ) → k < pairs d + (d.forms * d.set_rows) → P.a t k ≡ Q.a t k) × (P.b t ≡ Q.b t) =
    by_rows d (λ t. ((k : ℕ) → k < pairs d + (d.forms * d.set_rows) → P.a t k ≡ Q.a t k) × (P.b t ≡ Q.b t))
    (λ i c il cl. rows_same d P Q (positive_row d i c) i (λ j. neg_ℤ (entry d i c (suc j))) (λ r. d.left r c)
    (entry d i c 0) il (p.positive i c il cl) (q.positive i c il cl))
    (λ i c il cl. rows_same d P Q (negative_row d i c) i (λ j. entry d i c (suc j)) (λ r. neg_ℤ (d.left r c))
    (neg_ℤ (entry d i c 0)) il (p.negative i c il cl) (q.negative i c il cl))
    (λ i il. rows_same d P Q (constant_row d i) i (λ j. d.form i 0 (suc j)) d.right (neg_ℤ (d.form i 0 0)) il
    (p.constant i il) (q.constant i il))
    t (subst (λ v. t < v) p.height tl) in (λ k kl. all.0 k (subst (λ v. k < v) p.width kl), all.1)

pub costs_same : (d : RobustProgram) (P Q : Program) → IsReform d P → IsReform d Q → (k : ℕ) → k < P.n → P.c k ≡ Q.c k
costs_same d P Q p q k kl =
    by_columns d (λ k. P.c k ≡ Q.c k)
    (λ j jl. elim (cases_eq j d.decisions) [
      | inl e ↦ subst (λ v. P.c (plus v) ≡ Q.c (plus v)) (sym e) (p.cost_tau.0 ∙ sym q.cost_tau.0)
      | inr e ↦ (p.cost_decisions j (omega arith)).0 ∙ sym (q.cost_decisions j (omega arith)).0
    ])
    (λ j jl. elim (cases_eq j d.decisions) [
      | inl e ↦ subst (λ v. P.c (minus v) ≡ Q.c (minus v)) (sym e) (p.cost_tau.1 ∙ sym q.cost_tau.1)
      | inr e ↦ (p.cost_decisions j (omega arith)).1 ∙ sym (q.cost_decisions j (omega arith)).1
    ])
    (λ i r il rl. p.cost_multipliers i r il rl ∙ sym (q.cost_multipliers i r il rl))
    k (subst (λ v. k < v) p.width kl)
