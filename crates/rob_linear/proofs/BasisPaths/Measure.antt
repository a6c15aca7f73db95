-- A number that rises with the objective's row, for rows whose numbers are
-- within a limit: what is left of it is a loop's measure.
use Rattle.std.proofs.Common.{◌≡◌, ℕ, zero, suc, ◌+◌, ◌*◌, ◌/◌, ◌^◌, ◌<◌, ◌≤◌, sym, refl, ap, ◌∙◌, subst, arith, inl, inr}
use Rattle.std.proofs.Math.Nat.{mul-le-mul_left, mul-le-mul_right, le_of_mul-le-mul_left, pow-zero, pow-succ', div-mul-le_self, mul-div-mul_left, le-div_iff_mul-le}
use Rattle.std.proofs.lemmas.Int.{ints}
use Rattle.std.proofs.lemmas.Bool.{cases_eq}
use Rattle.std.specs.Int.RustNames.{unsigned_abs}
use lib.IntN.{ℤ, pos, negsuc, ◌+ℤ◌, ◌-ℤ◌, ◌*ℤ◌}
use lib.Signed.{◌<ℤ◌, ◌≤ℤ◌}
use Rattle.rob_algebra.specs.Integer.{ring, *ℤ_comm}
use Rattle.rob_linear.specs.Systems.{System, objective}
use Rattle.rob_linear.specs.Turns.{key, ComesBefore}
use Rattle.rob_linear.specs.Rank.{place, joined, shifted, row_place, rank, rank_limit, IsWithin}

-- ---- the place of a fraction

rises_by : (h w o v p q : ℕ) → o ≤ h → p ≤ h → w * p < v * o → q * o ≤ w * (h * h) → o * (suc q * p) ≤ o * (v * (h * h))
rises_by h w o v p q oh ph l d =
    let a : (q * o) * p ≤ (w * (h * h)) * p = mul-le-mul_right p d in
    let b : o * p ≤ h * p = mul-le-mul_right p oh in
    let b' : h * p ≤ h * h = mul-le-mul_left h ph in
    let c : suc (w * p) * (h * h) ≤ (v * o) * (h * h) = mul-le-mul_right (h * h) l in
    omega arith

-- w / o < v / p
place_rises : (h w o v p : ℕ) → 0 < o → o ≤ h → 0 < p → p ≤ h → w * p < v * o → place h w o < place h v p
place_rises h w o v p o0 oh p0 ph l =
    (le-div_iff_mul-le p0).1
    (le_of_mul-le-mul_left (rises_by h w o v p (place h w o) oh ph l (div-mul-le_self (w * (h * h)) o)) o0)

pub place_same : (h w o v p : ℕ) → 0 < o → 0 < p → w * p ≡ v * o → place h w o ≡ place h v p
place_same h w o v p o0 p0 e =
    let a : (p * (w * (h * h))) / (p * o) ≡ (w * (h * h)) / o = mul-div-mul_left (w * (h * h)) o p0 in
    let b : (o * (v * (h * h))) / (o * p) ≡ (v * (h * h)) / p = mul-div-mul_left (v * (h * h)) p o0 in
    let c : p * (w * (h * h)) ≡ o * (v * (h * h)) =
    let d : (w * p) * (h * h) ≡ (v * o) * (h * h) = ap (λ t. t * (h * h)) e in omega arith in
    let d : p * o ≡ o * p = omega arith in
    sym a ∙ ap (λ t. t / (p * o)) c ∙ ap (λ t. (o * (v * (h * h))) / t) d ∙ b

le_place : (q h o : ℕ) → 0 < o → q * o ≤ ((h + h) * o) * (h * h) → q < suc ((h + h) * (h * h))
le_place q h o o0 d =
    let e : q ≤ (h + h) * (h * h) =
    le_of_mul-le-mul_left {m = q} {n = (h + h) * (h * h)} {k = o} (omega arith) o0 in omega arith

place_below : (h w o : ℕ) → 0 < o → w ≤ (h + h) * o → place h w o < suc ((h + h) * (h * h))
place_below h w o o0 l =
    let q : ℕ = place h w o in
    let d : place h w o * o ≤ w * (h * h) = div-mul-le_self (w * (h * h)) o in
    let a : w * (h * h) ≤ ((h + h) * o) * (h * h) = mul-le-mul_right (h * h) l in
    le_place (place h w o) h o o0 (omega arith)

-- ---- several places, the first the greatest

pub joined_below : (base n : ℕ) (f : ℕ → ℕ) → ((k : ℕ) → k < n → f k < base) → joined base n f < base ^ n
joined_below base zero f h = rw pow-zero (omega arith)
joined_below base (suc n) f h =
    let ih : joined base n f < base ^ n = joined_below base n f (λ k l. h k (omega arith)) in
    let o : f n < base = h n (omega arith) in
    let k : suc (joined base n f) * base ≤ base ^ n * base = mul-le-mul_right base ih in
    rw pow-succ' (omega arith)

pub joined_same : (base n : ℕ) (f g : ℕ → ℕ) → ((k : ℕ) → k < n → f k ≡ g k) → joined base n f ≡ joined base n g
joined_same base zero f g e = refl
joined_same base (suc n) f g e =
    let ih : joined base n f ≡ joined base n g = joined_same base n f g (λ k l. e k (omega arith)) in
    let o : f n ≡ g n = e n (omega arith) in
    ap (λ t. t * base + f n) ih ∙ ap (λ t. joined base n g * base + t) o

pub joined_rises : (base n k : ℕ) (f g : ℕ → ℕ) → ((j : ℕ) → j < n → f j < base) → k < n → ((j : ℕ) → j < k → f j ≡ g j)
    → f k < g k → joined base n f < joined base n g
joined_rises base zero k f g h kl e l = absurd (omega arith)
joined_rises base (suc n) k f g h kl e l =
    elim (cases_eq k n) [
      | inl c ↦
          let s : joined base n f ≡ joined base n g = joined_same base n f g (λ j jl. e j (omega arith)) in
          let t : joined base n f * base ≡ joined base n g * base = ap (λ t. t * base) s in
          let u : f n < g n = subst (λ t. f t < g t) c l in
          omega arith
      | inr d ↦
          let ih : joined base n f < joined base n g =
          joined_rises base n k f g (λ j jl. h j (omega arith)) (omega arith) e l in
          let o : f n < base = h n (omega arith) in
          let m : suc (joined base n f) * base ≤ joined base n g * base = mul-le-mul_right base ih in
          omega arith
    ]

-- ---- the objective's row

abs_pos : (x : ℤ) → pos 0 ≤ℤ x → pos (unsigned_abs x) ≡ x
abs_pos (pos n) h = refl
abs_pos (negsuc n) h = absurd (omega (arith, ints))

scaled_abs : (h : ℕ) (o : ℤ) → pos 0 <ℤ o → (pos h *ℤ o ≡ pos (h * unsigned_abs o)) × (h ≤ h * unsigned_abs o)
scaled_abs h o op =
    let f : pos (unsigned_abs o) ≡ o = abs_pos o (omega (arith, ints)) in
    let n : 1 ≤ unsigned_abs o = omega (arith, ints) in
    let m : h * 1 ≤ h * unsigned_abs o = mul-le-mul_left h n in
    (ap (λ t. pos h *ℤ t) (sym f), omega arith)

shifted_is : (h : ℕ) (z o : ℤ) → unsigned_abs z ≤ h → pos 0 <ℤ o → pos (shifted h z o) ≡ z +ℤ (pos h *ℤ o)
shifted_is h z o l op =
    let g : (pos h *ℤ o ≡ pos (h * unsigned_abs o)) × (h ≤ h * unsigned_abs o) = scaled_abs h o op in
    let g0 : pos h *ℤ o ≡ pos (h * unsigned_abs o) = g.0 in
    let g1 : h ≤ h * unsigned_abs o = g.1 in
    abs_pos (z +ℤ (pos h *ℤ o)) (omega (arith, ints))

shifted_below : (h : ℕ) (z o : ℤ) → unsigned_abs z ≤ h → pos 0 <ℤ o → shifted h z o ≤ (h + h) * unsigned_abs o
shifted_below h z o l op =
    let g : (pos h *ℤ o ≡ pos (h * unsigned_abs o)) × (h ≤ h * unsigned_abs o) = scaled_abs h o op in
    let g0 : pos h *ℤ o ≡ pos (h * unsigned_abs o) = g.0 in
    let g1 : h ≤ h * unsigned_abs o = g.1 in
    let e : pos (shifted h z o) ≡ z +ℤ (pos h *ℤ o) = shifted_is h z o l op in
    let m : (h + h) * unsigned_abs o ≡ h * unsigned_abs o + h * unsigned_abs o = omega arith in
    omega (arith, ints)

cross_is : (h : ℕ) (z o p : ℤ) → unsigned_abs z ≤ h → pos 0 <ℤ o → pos 0 <ℤ p
    → pos (shifted h z o * unsigned_abs p) ≡ (p *ℤ z) +ℤ (pos h *ℤ (o *ℤ p))
cross_is h z o p l op pp =
    let f : pos (unsigned_abs p) ≡ p = abs_pos p (omega (arith, ints)) in
    let r : (z +ℤ (pos h *ℤ o)) *ℤ p ≡ (p *ℤ z) +ℤ (pos h *ℤ (o *ℤ p)) = simp ring in
    ap (λ t. pos (shifted h z o) *ℤ t) f ∙ ap (λ t. t *ℤ p) (shifted_is h z o l op) ∙ r

pub rank_below : (S : System) (h : ℕ) (r : ℕ → ℤ) → IsWithin S h r → rank S h r < rank_limit S h
rank_below S h r w =
    joined_below (suc ((h + h) * (h * h))) (suc S.m) (row_place S h r) (λ k l.
    place_below h (shifted h (key S r k) (r (objective S))) (unsigned_abs (r (objective S)))
    (let p : pos 0 <ℤ r (objective S) = w.positive in omega (arith, ints))
    (shifted_below h (key S r k) (r (objective S)) (w.keys k l) w.positive))

cross_less : (h : ℕ) (z o v p : ℤ) → unsigned_abs z ≤ h → pos 0 <ℤ o → unsigned_abs v ≤ h → pos 0 <ℤ p
    → (p *ℤ z) <ℤ (o *ℤ v) → shifted h z o * unsigned_abs p < shifted h v p * unsigned_abs o
cross_less h z o v p zl op vl pp l =
    let a : pos (shifted h z o * unsigned_abs p) ≡ (p *ℤ z) +ℤ (pos h *ℤ (o *ℤ p)) = cross_is h z o p zl op pp in
    let b : pos (shifted h v p * unsigned_abs o) ≡ (o *ℤ v) +ℤ (pos h *ℤ (o *ℤ p)) =
    cross_is h v p o vl pp op ∙ ap (λ t. (o *ℤ v) +ℤ (pos h *ℤ t)) (*ℤ_comm p o) in
    omega (arith, ints)

pub cross_same : (h : ℕ) (z o v p : ℤ) → unsigned_abs z ≤ h → pos 0 <ℤ o → unsigned_abs v ≤ h → pos 0 <ℤ p
    → p *ℤ z ≡ o *ℤ v → shifted h z o * unsigned_abs p ≡ shifted h v p * unsigned_abs o
cross_same h z o v p zl op vl pp l =
    let a : pos (shifted h z o * unsigned_abs p) ≡ (p *ℤ z) +ℤ (pos h *ℤ (o *ℤ p)) = cross_is h z o p zl op pp in
    let b : pos (shifted h v p * unsigned_abs o) ≡ (o *ℤ v) +ℤ (pos h *ℤ (o *ℤ p)) =
    cross_is h v p o vl pp op ∙ ap (λ t. (o *ℤ v) +ℤ (pos h *ℤ t)) (*ℤ_comm p o) in
    omega (arith, ints)

pub rank_rises : (S : System) (h : ℕ) (r r' : ℕ → ℤ) → IsWithin S h r → IsWithin S h r'
    → ComesBefore S r (r (objective S)) r' (r' (objective S)) → rank S h r < rank S h r'
rank_rises S h r r' w w' c =
    let o : pos 0 <ℤ r (objective S) = w.positive in
    let o' : pos 0 <ℤ r' (objective S) = w'.positive in
    let on : 0 < unsigned_abs (r (objective S)) = omega (arith, ints) in
    let on' : 0 < unsigned_abs (r' (objective S)) = omega (arith, ints) in
    let cl : c.0 < suc S.m = c.1 in
    joined_rises (suc ((h + h) * (h * h))) (suc S.m) c.0 (row_place S h r) (row_place S h r')
    (λ k l. place_below h (shifted h (key S r k) (r (objective S))) (unsigned_abs (r (objective S))) on
    (shifted_below h (key S r k) (r (objective S)) (w.keys k l) w.positive))
    c.1
    (λ j jl.
    let e : (r (objective S) *ℤ key S r' j) -ℤ (r' (objective S) *ℤ key S r j) ≡ pos 0 = c.2 j jl in
    place_same h (shifted h (key S r j) (r (objective S))) (unsigned_abs (r (objective S)))
    (shifted h (key S r' j) (r' (objective S))) (unsigned_abs (r' (objective S))) on on'
    (cross_same h (key S r j) (r (objective S)) (key S r' j) (r' (objective S)) (w.keys j (omega arith)) w.positive
    (w'.keys j (omega arith)) w'.positive (omega (arith, ints))))
    (let e : pos 0 <ℤ ((r (objective S) *ℤ key S r' c.0) -ℤ (r' (objective S) *ℤ key S r c.0)) = c.3 in
    place_rises h (shifted h (key S r c.0) (r (objective S))) (unsigned_abs (r (objective S)))
    (shifted h (key S r' c.0) (r' (objective S))) (unsigned_abs (r' (objective S))) on
    w.objective_in on' w'.objective_in
    (cross_less h (key S r c.0) (r (objective S)) (key S r' c.0) (r' (objective S)) (w.keys c.0 c.1) w.positive
    (w'.keys c.0 c.1) w'.positive (omega (arith, ints))))
