-- From the auxiliary form to the program: the auxiliary column has left, and goes.
-- The rows are those of the auxiliary form with the program's own cost; without
-- the auxiliary column they are the program's.
use Rattle.std.proofs.Common.{◌≡◌, ◌≢◌, ℕ, zero, suc, ◌+◌, ◌*◌, ◌/◌, ◌<◌, ◌≤◌, sym, ap, ◌∙◌, subst, arith, inl, inr}
use Rattle.std.proofs.Math.Nat.{mul-div_cancel', dvd-mul_right}
use Rattle.std.proofs.lemmas.Int.{unsigned_abs-mul}
use Rattle.std.proofs.lemmas.Bool.{cases_eq, cases_lt}
use Rattle.std.proofs.lemmas.Bool.Decides.{nat_tests}
use Rattle.std.specs.Int.RustNames.{unsigned_abs}
use Rattle.std.specs.Int.{◌∣◌}
use lib.IntN.{ℤ, pos, negsuc, ◌+ℤ◌, ◌*ℤ◌, neg_ℤ}
use lib.Signed.{◌<ℤ◌}
use Rattle.rob_algebra.specs.Integer.{ring, mul-zero, mul-add}
use Rattle.rob_linear.specs.Vectors.{sum_to}
use Rattle.rob_linear.specs.Systems.{System, right, IsSpanned, IsPrimitive, IsBasis}
use Rattle.rob_linear.specs.Programs.{Program, starting_row, system_of, auxiliary_tag, auxiliary_place, kept_row, kept_of}
use Rattle.rob_linear.specs.Turns.{key, IsLexFeasible}
use Rattle.rob_linear.proofs.LinearPrograms.Sums.{sum_ext}
use Rattle.rob_linear.proofs.Bases.Lexical.{lex_ext}

pub place_low : (P : Program) (k : ℕ) → k < P.n + P.m → auxiliary_place P k ≡ k
place_low P k l = grind (arith, nat_tests)

pub place_high : (P : Program) (k : ℕ) → P.n + P.m ≤ k → auxiliary_place P k ≡ suc k
place_high P k l = grind (arith, nat_tests)

low_same : (P : Program) (t k : ℕ) → t < P.m → k < P.n + P.m → kept_row P t k ≡ starting_row P t k
low_same P t k tl kl = elim (cases_lt k P.n) [
  | inl a ↦ grind (arith, nat_tests)
  | inr a ↦ elim (cases_eq k (P.n + t)) [
    | inl b ↦ grind (arith, nat_tests)
    | inr b ↦ grind (arith, nat_tests)
  ]
]

pub cost_same : (P : Program) (k : ℕ) → k < P.n + P.m → kept_row P P.m k ≡ starting_row P P.m k
cost_same P k kl = elim (cases_lt k P.n) [ inl a ↦ grind (arith, nat_tests) | inr a ↦ grind (arith, nat_tests) ]

high_same : (P : Program) (t : ℕ) → t ≤ P.m → (kept_row P t (suc (P.n + P.m)) ≡ starting_row P t (P.n + P.m))
    × (kept_row P t (suc (suc (P.n + P.m))) ≡ starting_row P t (suc (P.n + P.m)))
high_same P t tl = elim (cases_eq t P.m) [
  | inl e ↦ (grind (arith, nat_tests), grind (arith, nat_tests))
  | inr d ↦ (grind (arith, nat_tests), grind (arith, nat_tests))
]

pub row_placed : (P : Program) (t k : ℕ) → t ≤ P.m → k ≤ suc (P.n + P.m)
    → kept_row P t (auxiliary_place P k) ≡ starting_row P t k
row_placed P t k tl kl =
    elim (cases_lt k (P.n + P.m)) [
      | inl a ↦ ap (kept_row P t) (place_low P k a) ∙ elim (cases_eq t P.m) [
        | inl e ↦ subst (λ v. kept_row P v k ≡ starting_row P v k) (sym e) (cost_same P k a)
        | inr d ↦ low_same P t k (omega arith) a
      ]
      | inr a ↦
          elim (cases_eq k (P.n + P.m)) [
            | inl b ↦ ap (kept_row P t) (place_high P k a ∙ ap suc b) ∙ (high_same P t tl).0
                ∙ ap (starting_row P t) (sym b)
            | inr b ↦
                let c : k ≡ suc (P.n + P.m) = omega arith in
                ap (kept_row P t) (place_high P k a ∙ ap suc c) ∙ (high_same P t tl).1 ∙ ap (starting_row P t) (sym c)
          ]
    ]

-- the tags of the two forms
pub tag_placed : (P : Program) (t : ℕ) → t ≤ P.m → auxiliary_place P (P.n + t) ≡ auxiliary_tag P t
tag_placed P t l = elim (cases_eq t P.m) [ inl e ↦ grind (arith, nat_tests) | inr d ↦ grind (arith, nat_tests) ]

pub place_in : (P : Program) (k : ℕ) → k ≤ suc (P.n + P.m) → auxiliary_place P k ≤ suc (suc (P.n + P.m))
place_in P k kl = elim (cases_lt k (P.n + P.m)) [
  | inl a ↦ let e : auxiliary_place P k ≡ k = place_low P k a in
      omega arith
  | inr a ↦ let e : auxiliary_place P k ≡ suc k = place_high P k a in omega arith
]

-- ---- divisors of a sum
pub times : (d : ℕ) (a : ℤ) → d ∣ unsigned_abs a → (q : ℤ) × (a ≡ pos d *ℤ q)
times d (pos n) h = (pos (n / d), ap pos (sym (mul-div_cancel' d h)))
times d (negsuc n) h =
    let e : d * (suc n / d) ≡ suc n = mul-div_cancel' d h in
    let x : pos d *ℤ neg_ℤ (pos (suc n / d)) ≡ neg_ℤ (pos d *ℤ pos (suc n / d)) = simp ring in
    (neg_ℤ (pos (suc n / d)), sym (x ∙ ap (λ t. neg_ℤ (pos t)) e))

pub divides_times : (d : ℕ) (a q : ℤ) → a ≡ pos d *ℤ q → d ∣ unsigned_abs a
divides_times d a q e =
    subst (λ t. d ∣ t) (sym (ap unsigned_abs e ∙ unsigned_abs-mul (pos d) q)) (dvd-mul_right d (unsigned_abs q))

pub sum_times : (d n : ℕ) (f : ℕ → ℤ) → ((t : ℕ) → t < n → (q : ℤ) × (f t ≡ pos d *ℤ q)) → (q : ℤ)
    × (sum_to n f ≡ pos d *ℤ q)
sum_times d zero f h = (pos 0, sym (mul-zero (pos d)))
sum_times d (suc n) f h =
    let a : (q : ℤ) × (sum_to n f ≡ pos d *ℤ q) = sum_times d n f (λ t l. h t (omega arith)) in
    let b : (q : ℤ) × (f n ≡ pos d *ℤ q) = h n (omega arith) in
    (a.0 +ℤ b.0, ap (λ t. t +ℤ f n) a.1 ∙ ap (λ t. (pos d *ℤ a.0) +ℤ t) b.1 ∙ sym (mul-add (pos d) a.0 b.0))

-- what divides a spanned row's entries in the tags divides all its entries
pub divides_spanned : (S : System) (r : ℕ → ℤ) (d : ℕ) → IsSpanned S r
    → ((t : ℕ) → t ≤ S.m → d ∣ unsigned_abs (r (S.tag t))) → (k : ℕ) → k ≤ right S → d ∣ unsigned_abs (r k)
divides_spanned S r d span h k kl =
    let q : (q : ℤ) × (sum_to (suc S.m) (λ t. r (S.tag t) *ℤ S.start t k) ≡ pos d *ℤ q) =
    sum_times d (suc S.m) (λ t. r (S.tag t) *ℤ S.start t k) (λ t tl.
    let w : (q : ℤ) × (r (S.tag t) ≡ pos d *ℤ q) = times d (r (S.tag t)) (h t (omega arith)) in
    let x : (pos d *ℤ w.0) *ℤ S.start t k ≡ pos d *ℤ (w.0 *ℤ S.start t k) = simp ring in
    (w.0 *ℤ S.start t k, ap (λ v. v *ℤ S.start t k) w.1 ∙ x)) in
    divides_times d (r k) q.0 (span k kl ∙ q.1)

-- ---- the rows
module _ (P : Program) (own own' : ℕ → ℕ) (rows rows' : ℕ → ℕ → ℤ) (b : IsBasis (kept_of P) own rows)
    (out : (i : ℕ) → i < P.m → own i ≢ P.n + P.m) (own_low : (i : ℕ) → i < P.m → own' i ≡ own i)
    (own_last : own' P.m ≡ P.n + P.m) (row_low : (i : ℕ) → i ≤ P.m → (k : ℕ) → k ≤ suc (P.n + P.m)
    → rows' i k ≡ rows i (auxiliary_place P k)) where
  own_in' : (i : ℕ) → i < P.m → own i < P.n + P.m
  own_in' i l = let a : own i < suc (P.n + P.m) = b.inside i l in let d : own i ≢ P.n + P.m = out i l in omega arith

  own_placed : (i : ℕ) → i ≤ P.m → (auxiliary_place P (own' i) ≡ own i) × (own' i ≤ P.n + P.m)
  own_placed i l =
      elim (cases_eq i P.m) [
        | inl e ↦
            let a : own' i ≡ P.n + P.m = ap own' e ∙ own_last in
            let c : own i ≡ suc (P.n + P.m) = ap own e ∙ b.last in
            (ap (auxiliary_place P) a ∙ place_high P (P.n + P.m) (omega arith) ∙ sym c, omega arith)
        | inr d ↦
            let a : own i < P.n + P.m = own_in' i (omega arith) in
            let c : own' i ≡ own i = own_low i (omega arith) in
            (ap (auxiliary_place P) c ∙ place_low P (own i) a, omega arith)
      ]

  at_own : (i j : ℕ) → i ≤ P.m → j ≤ P.m → rows' i (own' j) ≡ rows i (own j)
  at_own i j il jl = let l : own' j ≤ P.n + P.m = (own_placed j jl).1 in
      row_low i il (own' j) (omega arith) ∙ ap (rows i) (own_placed j jl).0

  tag_entry : (i t : ℕ) → i ≤ P.m → t ≤ P.m → rows' i (P.n + t) ≡ rows i (auxiliary_tag P t)
  tag_entry i t il tl = row_low i il (P.n + t) (omega arith) ∙ ap (rows i) (tag_placed P t tl)

  spanned' : (i : ℕ) → i ≤ P.m → IsSpanned (system_of P) (rows' i)
  spanned' i il k kl =
      row_low i il k kl ∙ (b.rows_of i il).spanned (auxiliary_place P k) (place_in P k kl)
      ∙ sum_ext (suc P.m) (λ t. rows i (auxiliary_tag P t) *ℤ kept_row P t (auxiliary_place P k))
      (λ t. rows' i (P.n + t) *ℤ starting_row P t k) (λ t tl.
      ap (λ v. rows i (auxiliary_tag P t) *ℤ v) (row_placed P t k (omega arith) kl)
      ∙ ap (λ v. v *ℤ starting_row P t k) (sym (tag_entry i t il (omega arith))))

  -- the auxiliary entry is a sum of multiples of slack entries, so the other entries have no common divisor either
  primitive' : (i : ℕ) → i ≤ P.m → IsPrimitive (suc (suc (P.n + P.m))) (rows' i)
  primitive' i il d h =
      (b.rows_of i il).primitive d (λ k kl.
      divides_spanned (kept_of P) (rows i) d (b.rows_of i il).spanned
      (λ t tl. subst (λ v. d ∣ unsigned_abs v) (tag_entry i t il tl) (h (P.n + t) (omega arith))) k (omega arith))

  pub phase_basis : IsBasis (system_of P) own' rows'
  phase_basis = record {
    inside = λ i l. subst (λ v. v < P.n + P.m) (sym (own_low i l)) (own_in' i l);
    last = own_last;
    rows_of = λ i l. record {
      along = record {
        zeros = λ j jl jd. at_own i j l jl ∙ (b.rows_of i l).zeros j jl jd;
        spanned = spanned' i l;
      };
      positive = subst (λ v. pos 0 <ℤ v) (sym (at_own i i l l)) (b.rows_of i l).positive;
      primitive = primitive' i l;
    };
  }

  pub phase_order : IsLexFeasible (kept_of P) rows → IsLexFeasible (system_of P) rows'
  phase_order f i il = lex_ext (suc P.m) (key (kept_of P) (rows i)) (key (system_of P) (rows' i)) same_key (f i il)
    where
      same_key : (k : ℕ) → k < suc P.m → key (kept_of P) (rows i) k ≡ key (system_of P) (rows' i) k
      same_key zero l =
          ap (rows i) (sym (place_high P (suc (P.n + P.m)) (omega arith)))
          ∙ sym (row_low i (omega arith) (suc (P.n + P.m)) (omega arith))
      same_key (suc k) l = sym (tag_entry i k (omega arith) (omega arith))
