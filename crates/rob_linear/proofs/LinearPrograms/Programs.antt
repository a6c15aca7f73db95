-- Programs and their starting rows.
use Rattle.std.proofs.Common.{◌≡◌, ◌≢◌, ℕ, suc, ◌+◌, ◌-◌, ◌<◌, ◌≤◌, sym, ap, ◌∙◌, subst, arith, inl, inr, cond, ltb, add-suc}
use Rattle.std.proofs.lemmas.Int.{ints}
use Rattle.std.proofs.lemmas.Bool.{cases_eq, cases_lt}
use Rattle.std.proofs.lemmas.Bool.Decides.{nat_tests}
use lib.IntN.{ℤ, pos, negsuc, ◌+ℤ◌, ◌-ℤ◌, ◌*ℤ◌, neg_ℤ}
use lib.Signed.{◌<ℤ◌, ◌≤ℤ◌}
use Rattle.rob_linear.specs.Vectors.{sum_to, dot}
use Rattle.rob_linear.specs.Systems.{Meets, Solves, IsSolution}
use Rattle.rob_linear.specs.Programs.{Program, Admits, Keeps, left_of, right_of, starting_row, system_of, auxiliary_tag, auxiliary_row}
use Rattle.rob_algebra.specs.Integer.{mul-zero, zero-mul, neg-mul, one-mul}
use Rattle.rob_linear.proofs.LinearPrograms.Sums.{sum_ext, sum_neg, dot_ext, dot_one, sum_split}

pub row_left : (P : Program) (t k : ℕ) → k < P.n → starting_row P t k ≡ left_of P t k
row_left P t k l = grind (arith, nat_tests)

pub row_tag : (P : Program) (t : ℕ) → starting_row P t (P.n + t) ≡ pos 1
row_tag P t = grind (arith, nat_tests)

pub row_zero : (P : Program) (t k : ℕ) → P.n ≤ k → k ≢ P.n + t → k ≢ suc (P.n + P.m) → starting_row P t k ≡ pos 0
row_zero P t k l d e = grind (arith, nat_tests)

pub row_right : (P : Program) (t : ℕ) → t ≤ P.m → starting_row P t (suc (P.n + P.m)) ≡ right_of P t
row_right P t l = grind (arith, nat_tests)

pub left_row : (P : Program) (t k : ℕ) → t < P.m → left_of P t k ≡ P.a t k
left_row P t k l = grind (arith, nat_tests)

pub left_cost : (P : Program) (k : ℕ) → left_of P P.m k ≡ neg_ℤ (P.c k)
left_cost P k = grind (arith, nat_tests)

pub right_row : (P : Program) (t : ℕ) → t < P.m → right_of P t ≡ P.b t
right_row P t l = grind (arith, nat_tests)

pub right_cost : (P : Program) → right_of P P.m ≡ pos 0
right_cost P = grind (arith, nat_tests)

-- a starting row's product: its left part's, and its tag's entry
pub dot_row : (P : Program) (t : ℕ) (z : ℕ → ℤ) → t ≤ P.m
    → dot (suc (P.n + P.m)) (starting_row P t) z ≡ dot P.n (left_of P t) z +ℤ z (P.n + t)
dot_row P t z l =
    ap (λ v. sum_to v (λ k. starting_row P t k *ℤ z k)) (sym (add-suc P.n P.m))
    ∙ sum_split P.n (suc P.m) (λ k. starting_row P t k *ℤ z k)
    ∙ ap (λ v. v +ℤ sum_to (suc P.m) (λ j. starting_row P t (P.n + j) *ℤ z (P.n + j)))
    (dot_ext P.n (starting_row P t) (left_of P t) z (λ k kl. row_left P t k kl))
    ∙ ap (λ v. dot P.n (left_of P t) z +ℤ v)
    (dot_one (suc P.m) t (λ j. starting_row P t (P.n + j)) (λ j. z (P.n + j)) (omega arith)
    (λ j jl d. row_zero P t (P.n + j) (omega arith) (omega arith) (omega arith))
    ∙ ap (λ v. v *ℤ z (P.n + t)) (row_tag P t) ∙ one-mul (z (P.n + t)))

dot_left : (P : Program) (t : ℕ) (z : ℕ → ℤ) → t < P.m → dot P.n (left_of P t) z ≡ dot P.n (P.a t) z
dot_left P t z l = dot_ext P.n (left_of P t) (P.a t) z (λ k kl. left_row P t k l)

dot_cost : (P : Program) (z : ℕ → ℤ) → dot P.n (left_of P P.m) z ≡ neg_ℤ (dot P.n P.c z)
dot_cost P z =
    sum_ext P.n (λ k. left_of P P.m k *ℤ z k) (λ k. neg_ℤ (P.c k *ℤ z k))
    (λ k kl. ap (λ v. v *ℤ z k) (left_cost P k) ∙ neg-mul (P.c k) (z k))
    ∙ sum_neg P.n (λ k. P.c k *ℤ z k)

-- ---- the starting rows of the auxiliary form

pub auxiliary_tag-slack : (P : Program) (t : ℕ) → t < P.m → auxiliary_tag P t ≡ P.n + t
auxiliary_tag-slack P t l = grind (arith, nat_tests)

pub auxiliary_tag-objective : (P : Program) → auxiliary_tag P P.m ≡ suc (P.n + P.m)
auxiliary_tag-objective P = grind (arith, nat_tests)

pub auxiliary_tag-beyond : (P : Program) (i : ℕ) → P.m ≤ i → auxiliary_tag P i ≡ suc (P.n + P.m)
auxiliary_tag-beyond P i l = grind (arith, nat_tests)

pub auxiliary_inside : (P : Program) (t : ℕ) → t < P.m → auxiliary_tag P t < suc (P.n + P.m)
auxiliary_inside P t l = grind (arith, nat_tests)

pub auxiliary_one : (P : Program) (t : ℕ) → t ≤ P.m → auxiliary_row P t (auxiliary_tag P t) ≡ pos 1
auxiliary_one P t l = elim (cases_eq t P.m) [ inl e ↦ grind (arith, nat_tests) | inr d ↦ grind (arith, nat_tests) ]

pub auxiliary_zero : (P : Program) (t u : ℕ) → t ≤ P.m → u ≤ P.m → u ≢ t → auxiliary_row P t (auxiliary_tag P u) ≡ pos 0
auxiliary_zero P t u tl ul d = elim (cases_eq u P.m) [
  | inl e ↦ grind (arith, nat_tests)
  | inr f ↦ elim (cases_eq t P.m) [
    | inl g ↦ grind (arith, nat_tests)
    | inr g ↦ grind (arith, nat_tests)
  ]
]

pub auxiliary_left : (P : Program) (t k : ℕ) → t < P.m → k < P.n → auxiliary_row P t k ≡ P.a t k
auxiliary_left P t k l h = grind (arith, nat_tests)

pub auxiliary_right : (P : Program) (t : ℕ) → t < P.m → auxiliary_row P t (suc (suc (P.n + P.m))) ≡ P.b t
auxiliary_right P t l = grind (arith, nat_tests)

pub auxiliary_entry : (P : Program) (t : ℕ) → t < P.m → auxiliary_row P t (P.n + P.m) ≡ negsuc 0
auxiliary_entry P t l = grind (arith, nat_tests)

pub auxiliary_cost_left : (P : Program) (k : ℕ) → k < P.n → auxiliary_row P P.m k ≡ pos 0
auxiliary_cost_left P k h = grind (arith, nat_tests)

pub auxiliary_cost_right : (P : Program) → auxiliary_row P P.m (suc (suc (P.n + P.m))) ≡ pos 0
auxiliary_cost_right P = grind (arith, nat_tests)

pub auxiliary_cost_zero : (P : Program) (k : ℕ) → k ≢ P.n + P.m → k ≢ suc (P.n + P.m) → auxiliary_row P P.m k ≡ pos 0
auxiliary_cost_zero P k d f = grind (arith, nat_tests)

pub auxiliary_cost_entry : (P : Program) → auxiliary_row P P.m (P.n + P.m) ≡ pos 1
auxiliary_cost_entry P = grind (arith, nat_tests)

pub auxiliary_cost_objective : (P : Program) → auxiliary_row P P.m (suc (P.n + P.m)) ≡ pos 1
auxiliary_cost_objective P = grind (arith, nat_tests)

-- ---- from a solution of the starting rows to the program, and back

slack_of : (P : Program) (s : ℤ) (z : ℕ → ℤ) (i : ℕ) → i < P.m → Meets (system_of P) (starting_row P i) s z
    → dot P.n (P.a i) z +ℤ z (P.n + i) ≡ s *ℤ P.b i
slack_of P s z i l h =
    ap (λ v. v +ℤ z (P.n + i)) (sym (dot_left P i z l)) ∙ sym (dot_row P i z (omega arith)) ∙ h
    ∙ ap (λ v. s *ℤ v) (row_right P i (omega arith) ∙ right_row P i l)

pub value_of : (P : Program) (s : ℤ) (z : ℕ → ℤ) → Solves (system_of P) s z → z (P.n + P.m) ≡ dot P.n P.c z
value_of P s z h =
    let e : dot P.n (left_of P P.m) z +ℤ z (P.n + P.m) ≡ s *ℤ pos 0 =
    sym (dot_row P P.m z (omega arith)) ∙ h P.m (omega arith)
    ∙ ap (λ v. s *ℤ v) (row_right P P.m (omega arith) ∙ right_cost P) in
    let f : s *ℤ pos 0 ≡ pos 0 = mul-zero s in
    let g : dot P.n (left_of P P.m) z ≡ neg_ℤ (dot P.n P.c z) = dot_cost P z in
    omega (arith, ints)

pub admits_from_solution : (P : Program) (s : ℤ) (z : ℕ → ℤ) → pos 0 <ℤ s → IsSolution (system_of P) s z → Admits P s z
admits_from_solution P s z sp sol = record {
  scale = sp;
  nonnegative = λ j l. sol.nonnegative j (omega arith);
  rows = λ i l.
      let e : dot P.n (P.a i) z +ℤ z (P.n + i) ≡ s *ℤ P.b i = slack_of P s z i l (sol.solves i (omega arith)) in
      let w : pos 0 ≤ℤ z (P.n + i) = sol.nonnegative (P.n + i) (omega arith) in
      omega (arith, ints);
}

pub keeps_from_solution : (P : Program) (z : ℕ → ℤ) → IsSolution (system_of P) (pos 0) z → Keeps P z
keeps_from_solution P z sol = record {
  nonnegative = λ j l. sol.nonnegative j (omega arith);
  rows = λ i l.
      let e : dot P.n (P.a i) z +ℤ z (P.n + i) ≡ pos 0 *ℤ P.b i =
      slack_of P (pos 0) z i l (sol.solves i (omega arith)) in
      let f : pos 0 *ℤ P.b i ≡ pos 0 = zero-mul (P.b i) in
      let w : pos 0 ≤ℤ z (P.n + i) = sol.nonnegative (P.n + i) (omega arith) in
      omega (arith, ints);
}

-- the columns, the slacks and the value of a point
abbrev pub lifted : Program → ℤ → (ℕ → ℤ) → ℕ → ℤ
lifted P s x k =
    cond (ltb k P.n) (x k)
    (cond (ltb k (P.n + P.m)) ((s *ℤ P.b (k - P.n)) -ℤ dot P.n (P.a (k - P.n)) x) (dot P.n P.c x))

lifted_left : (P : Program) (s : ℤ) (x : ℕ → ℤ) (k : ℕ) → k < P.n → lifted P s x k ≡ x k
lifted_left P s x k l = grind (arith, nat_tests)

lifted_slack : (P : Program) (s : ℤ) (x : ℕ → ℤ) (i : ℕ) → i < P.m
    → lifted P s x (P.n + i) ≡ (s *ℤ P.b i) -ℤ dot P.n (P.a i) x
lifted_slack P s x i l =
    let e : (P.n + i) - P.n ≡ i = omega arith in
    let f : lifted P s x (P.n + i) ≡ (s *ℤ P.b ((P.n + i) - P.n)) -ℤ dot P.n (P.a ((P.n + i) - P.n)) x =
    grind (arith, nat_tests) in
    f ∙ ap (λ v. (s *ℤ P.b v) -ℤ dot P.n (P.a v) x) e

pub lifted_value : (P : Program) (s : ℤ) (x : ℕ → ℤ) → lifted P s x (P.n + P.m) ≡ dot P.n P.c x
lifted_value P s x = grind (arith, nat_tests)

dot_lifted : (P : Program) (s : ℤ) (x f : ℕ → ℤ) → dot P.n f (lifted P s x) ≡ dot P.n f x
dot_lifted P s x f =
    sum_ext P.n (λ j. f j *ℤ lifted P s x j) (λ j. f j *ℤ x j) (λ j l. ap (λ v. f j *ℤ v) (lifted_left P s x j l))

lifted_solves : (P : Program) (s : ℤ) (x : ℕ → ℤ) → Solves (system_of P) s (lifted P s x)
lifted_solves P s x t l =
    elim (cases_eq t P.m) [
      | inl e ↦ subst (λ v. Meets (system_of P) (starting_row P v) s (lifted P s x)) (sym e)
          (let a : dot P.n (left_of P P.m) (lifted P s x) ≡ neg_ℤ (dot P.n P.c x) =
          dot_cost P (lifted P s x) ∙ ap neg_ℤ (dot_lifted P s x P.c) in
          let b : lifted P s x (P.n + P.m) ≡ dot P.n P.c x = lifted_value P s x in
          let c : s *ℤ starting_row P P.m (suc (P.n + P.m)) ≡ pos 0 =
          ap (λ v. s *ℤ v) (row_right P P.m (omega arith) ∙ right_cost P) ∙ mul-zero s in
          dot_row P P.m (lifted P s x) (omega arith) ∙ omega (arith, ints))
      | inr d ↦
          let tl : t < P.m = omega arith in
          let a : dot P.n (left_of P t) (lifted P s x) ≡ dot P.n (P.a t) x =
          dot_left P t (lifted P s x) tl ∙ dot_lifted P s x (P.a t) in
          let b : lifted P s x (P.n + t) ≡ (s *ℤ P.b t) -ℤ dot P.n (P.a t) x = lifted_slack P s x t tl in
          let c : s *ℤ starting_row P t (suc (P.n + P.m)) ≡ s *ℤ P.b t =
          ap (λ v. s *ℤ v) (row_right P t l ∙ right_row P t tl) in
          dot_row P t (lifted P s x) l ∙ omega (arith, ints)
    ]

pub solution_from_admits : (P : Program) (s : ℤ) (x : ℕ → ℤ) → Admits P s x → IsSolution (system_of P) s (lifted P s x)
solution_from_admits P s x h = record {
  solves = lifted_solves P s x;
  nonnegative = λ k l. elim (cases_lt k P.n) [
    | inl a ↦ rw (lifted_left P s x k a) (h.nonnegative k a)
    | inr a ↦
        let e : P.n + (k - P.n) ≡ k = omega arith in
        let f : lifted P s x k ≡ (s *ℤ P.b (k - P.n)) -ℤ dot P.n (P.a (k - P.n)) x =
        ap (lifted P s x) (sym e) ∙ lifted_slack P s x (k - P.n) (omega arith) in
        let g : dot P.n (P.a (k - P.n)) x ≤ℤ (s *ℤ P.b (k - P.n)) = h.rows (k - P.n) (omega arith) in
        omega (arith, ints)
  ];
}
