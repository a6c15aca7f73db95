-- Each row with a positive entry is a multiple of a primitive one, so a pivot can always be made.
use Rattle.std.proofs.Common.{◌≡◌, ◌≢◌, ℕ, zero, suc, ◌*◌, ◌/◌, ◌<◌, ◌≤◌, sym, refl, ap, ◌∙◌, subst, arith, inl, inr, cond, eqb}
use Rattle.std.proofs.Math.Nat.{mul-div_cancel', mul-dvd-mul_left, dvd_of_mul-dvd-mul_left, eq-one_of_dvd-one, pos_of_dvd_of_pos}
use Rattle.std.proofs.lemmas.Int.{ints, unsigned_abs-mul}
use Rattle.std.proofs.lemmas.Bool.{cases_eq}
use Rattle.std.proofs.lemmas.Bool.Decides.{nat_tests}
use Rattle.std.proofs.lemmas.Nat.Gcd.{dvd_trans, dvd-zero}
use Rattle.std.specs.Int.RustNames.{unsigned_abs}
use Rattle.std.specs.Int.{◌∣◌, IsGcd}
use lib.IntN.{ℤ, pos, negsuc, ◌-ℤ◌, ◌*ℤ◌, neg_ℤ}
use lib.Signed.{◌<ℤ◌}
use Rattle.rob_algebra.specs.Gcd.{gcd, IsGcd-gcd}
use Rattle.rob_algebra.specs.Integer.{ring, mul-zero}
use Rattle.rob_algebra.specs.IntegerOrder.{mul-pos_z}
use Rattle.rob_linear.specs.Systems.{System, right, IsPrimitive, IsCombined}
use Rattle.rob_linear.specs.Turns.{IsPivotable, IsExchange, IsPivot}
use Rattle.rob_linear.proofs.Bases.Solutions.{own_in}

-- the greatest common divisor of the first n entries
content : ℕ → (ℕ → ℤ) → ℕ
content zero f = 0
content (suc n) f = gcd (content n f) (unsigned_abs (f n))

content_divides : (n : ℕ) (f : ℕ → ℤ) (j : ℕ) → j < n → content n f ∣ unsigned_abs (f j)
unfolding content
content_divides zero f j l = absurd (omega arith)
content_divides (suc n) f j l =
    let g : IsGcd (content n f) (unsigned_abs (f n)) (gcd (content n f) (unsigned_abs (f n))) =
    IsGcd-gcd (content n f) (unsigned_abs (f n)) in
    elim (cases_eq j n) [
      | inl e ↦ subst (λ v. gcd (content n f) (unsigned_abs (f n)) ∣ unsigned_abs (f v)) (sym e) g.1
      | inr d ↦ dvd_trans (gcd (content n f) (unsigned_abs (f n))) g.0 (content_divides n f j (omega arith))
    ]

content_greatest : (n : ℕ) (f : ℕ → ℤ) (d : ℕ) → ((j : ℕ) → j < n → d ∣ unsigned_abs (f j)) → d ∣ content n f
unfolding content
content_greatest zero f d h = dvd-zero d
content_greatest (suc n) f d h =
    (IsGcd-gcd (content n f) (unsigned_abs (f n))).2 d
    (content_greatest n f d (λ j l. h j (omega arith))) (h n (omega arith))

-- z / g
quotient : ℕ → ℤ → ℤ
quotient g (pos n) = pos (n / g)
quotient g (negsuc n) = neg_ℤ (pos (suc n / g))

quotient_times : (g : ℕ) (z : ℤ) → g ∣ unsigned_abs z → pos g *ℤ quotient g z ≡ z
unfolding quotient
quotient_times g (pos n) h = ap pos (mul-div_cancel' g h)
quotient_times g (negsuc n) h =
    let x : pos g *ℤ neg_ℤ (pos (suc n / g)) ≡ neg_ℤ (pos g *ℤ pos (suc n / g)) = simp ring in
    x ∙ ap (λ t. neg_ℤ (pos t)) (mul-div_cancel' g h)

-- a row divided by what is common to its entries
pub primitive_part : (n : ℕ) (f : ℕ → ℤ) (k : ℕ) → k < n → pos 0 <ℤ f k → (g : ℤ) × (new : ℕ → ℤ) × (pos 0 <ℤ g)
    × ((j : ℕ) → j < n → g *ℤ new j ≡ f j) × IsPrimitive n new
primitive_part n f k kl fp =
    let g : ℕ = content n f in
    let some : 0 < unsigned_abs (f k) = omega (arith, ints) in
    let gp : 0 < content n f = pos_of_dvd_of_pos (content_divides n f k kl) some in
    let eq : (j : ℕ) → j < n → pos (content n f) *ℤ quotient (content n f) (f j) ≡ f j =
    (λ j l. quotient_times (content n f) (f j) (content_divides n f j l)) in (
      pos (content n f),
      (λ j. quotient (content n f) (f j)),
      omega (arith, ints),
      eq,
      (λ d h.
          let all : content n f * d ∣ content n f =
          content_greatest n f (content n f * d) (λ j l.
          subst (λ v. content n f * d ∣ v) (sym (unsigned_abs-mul (pos (content n f)) (quotient (content n f) (f j)))
          ∙ ap unsigned_abs (eq j l)) (mul-dvd-mul_left d (content n f) (h j l))) in
          let one : content n f ≡ content n f * 1 = omega arith in
          eq-one_of_dvd-one (dvd_of_mul-dvd-mul_left d gp (subst (λ v. content n f * d ∣ v) one all))),
    )

-- n rows, from one for each place
pub chosen : (n : ℕ) (Q : ℕ → (ℕ → ℤ) → Type 0) → ((i : ℕ) → i < n → (r : ℕ → ℤ) × Q i r) → (rows : ℕ → ℕ → ℤ)
    × ((i : ℕ) → i < n → Q i (rows i))
chosen zero Q h = ((λ i k. pos 0), (λ i l. absurd (omega arith)))
chosen (suc n) Q h =
    let t : (rows : ℕ → ℕ → ℤ) × ((i : ℕ) → i < n → Q i (rows i)) = chosen n Q (λ i l. h i (omega arith)) in
    let last : (r : ℕ → ℤ) × Q n r = h n (omega arith) in (
      (λ i. cond (eqb i n) last.0 (t.0 i)),
      (λ i l. elim (cases_eq i n) [
        | inl e ↦
            let a : cond (eqb i n) last.0 (t.0 i) ≡ last.0 = grind (arith, nat_tests) in
            subst (λ v. Q v (cond (eqb i n) last.0 (t.0 i))) (sym e) (subst (λ r. Q n r) (sym a) last.1)
        | inr d ↦
            let a : cond (eqb i n) last.0 (t.0 i) ≡ t.0 i = grind (arith, nat_tests) in
            subst (λ r. Q i r) (sym a) (t.1 i (omega arith))
      ]),
    )

-- what a pivot makes of row i
abbrev Becomes : System → (ℕ → ℕ → ℤ) → ℕ → ℕ → ℕ → (ℕ → ℤ) → Type 0
Becomes S rows e col i r =
    (i ≡ e → (k : ℕ) → k ≤ right S → r k ≡ rows e k)
    × (i ≢ e → IsCombined (suc (right S)) (rows e col) (rows i) (rows i col) (rows e) r)

-- each pivot at a positive entry can be made
pub pivot_exists : (S : System) (own own' : ℕ → ℕ) (rows : ℕ → ℕ → ℤ) (e col : ℕ) → IsPivotable S own rows e
    → IsExchange S own own' rows e col → (rows' : ℕ → ℕ → ℤ) × IsPivot S own own' rows rows' e col
pivot_exists S own own' rows e col b v =
    let t : (rows' : ℕ → ℕ → ℤ) × ((i : ℕ) → i < suc S.m → Becomes S rows e col i (rows' i)) =
    chosen (suc S.m) (Becomes S rows e col) (λ i l.
    elim (cases_eq i e) [
      | inl c ↦ (rows e, ((λ z k kl. refl), (λ d. absurd (d c))))
      | inr d ↦
          let ib : own i < suc S.columns = own_in S own b.inside b.last i (omega arith) in
          let z : rows e (own i) ≡ pos 0 = b.along.zeros i (omega arith) d in
          let zz : rows i col *ℤ rows e (own i) ≡ pos 0 = ap (λ t. rows i col *ℤ t) z ∙ mul-zero (rows i col) in
          let p : pos 0 <ℤ (rows e col *ℤ rows i (own i)) =
          mul-pos_z (rows e col) (rows i (own i)) v.entry (b.others i (omega arith) d).positive in
          let w : (g : ℤ) × (new : ℕ → ℤ) × (pos 0 <ℤ g)
          × ((j : ℕ) → j < suc (right S) → g *ℤ new j ≡ (rows e col *ℤ rows i j) -ℤ (rows i col *ℤ rows e j))
          × IsPrimitive (suc (right S)) new =
          primitive_part (suc (right S)) (λ j. (rows e col *ℤ rows i j) -ℤ (rows i col *ℤ rows e j)) (own i)
          (omega arith) (omega (arith, ints)) in
          (w.1, ((λ c. absurd (d c)), (λ n. record { divisor = w.0; positive = w.2; entries = w.3; primitive = w.4 })))
    ]) in
    let el : e < S.m = v.row_in in (
      t.0,
      record {
        exchange = v;
        row_at = (t.1 e (omega arith)).0 refl;
        row_other = λ i il d. (t.1 i (omega arith)).1 d;
      },
    )
