-- Equations without right sides, in one more unknown, have a small solution: of the vectors of a bounded size more than
-- one give all equations the same values, and the difference of two such is a solution.
use Rattle.std.proofs.Common.{◌≡◌, ◌≢◌, ℕ, zero, suc, ◌+◌, ◌-◌, ◌*◌, ◌^◌, ◌<◌, ◌≤◌, refl, ap, ◌∙◌, arith}
use Rattle.std.proofs.Math.Nat.{mul-le-mul_left, pow-le-pow_left, one-le-pow, pow-succ', mul-le-mul_right}
use Rattle.std.proofs.lemmas.Nat.{mul-pow}
use Rattle.std.proofs.lemmas.Int.{ints}
use Rattle.std.specs.Int.RustNames.{unsigned_abs}
use lib.IntN.{ℤ, pos, negsuc, ◌+ℤ◌, ◌-ℤ◌, ◌*ℤ◌, neg_ℤ}
use Rattle.rob_algebra.specs.Integer.{ring}
use Rattle.rob_linear.specs.Vectors.{sum_to, dot}
use Rattle.rob_linear.proofs.LinearPrograms.Sums.{sum_ext, sum_add, sum_neg}
use Rattle.rob_linear.proofs.BasisPaths.Paths.{code, code_below, code_apart}
use Rattle.rob_bounds.specs.Bounds.{TakesTwice, HasSmallSolution}
use Rattle.rob_bounds.proofs.Pigeonhole.{pigeonhole}
use Rattle.rob_bounds.proofs.Digits.{digits, digits_below, digits_apart}

-- z times x, or what is left of it where z is negative: its size times the way from x up to h
weighed : ℕ → ℤ → ℕ → ℕ
weighed h (pos c) x = c * x
weighed h (negsuc c) x = suc c * (h - x)

-- by how much that is too much
offset : ℕ → ℤ → ℤ
offset h (pos c) = pos 0
offset h (negsuc c) = pos (suc c * h)

weighed_below : (a h : ℕ) (z : ℤ) (x : ℕ) → unsigned_abs z ≤ a → x ≤ h → weighed h z x ≤ a * h
unfolding weighed
weighed_below a h (pos c) x l xl =
    let p : c * x ≤ c * h = mul-le-mul_left c xl in
    let q : c * h ≤ a * h = mul-le-mul_right h l in
    omega arith
weighed_below a h (negsuc c) x l xl =
    let y : h - x ≤ h = omega arith in
    let p : suc c * (h - x) ≤ suc c * h = mul-le-mul_left (suc c) y in
    let q : suc c * h ≤ a * h = mul-le-mul_right h l in
    omega arith

weighed_is : (h : ℕ) (z : ℤ) (x : ℕ) → x ≤ h → pos (weighed h z x) ≡ (z *ℤ pos x) +ℤ offset h z
unfolding weighed offset
weighed_is h (pos c) x l = omega (arith, ints)
weighed_is h (negsuc c) x l =
    let e : x + (h - x) ≡ h = omega arith in
    let f : c * (x + (h - x)) ≡ c * h = ap (λ v. c * v) e in
    omega (arith, ints)

-- f 0 + .. + f (n - 1)
abbrev total : ℕ → (ℕ → ℕ) → ℕ
total zero f = 0
total (suc n) f = total n f + f n

total_below : (n h : ℕ) (f : ℕ → ℕ) → ((j : ℕ) → j < n → f j ≤ h) → total n f ≤ n * h
total_below zero h f l = omega arith
total_below (suc n) h f l =
    let a : total n f ≤ n * h = total_below n h f (λ j jl. l j (omega arith)) in
    let b : f n ≤ h = l n (omega arith) in
    omega arith

total_is : (n : ℕ) (f : ℕ → ℕ) (g : ℕ → ℤ) → ((j : ℕ) → j < n → pos (f j) ≡ g j) → pos (total n f) ≡ sum_to n g
total_is zero f g h = refl
total_is (suc n) f g h =
    let a : pos (total n f) ≡ sum_to n g = total_is n f g (λ j l. h j (omega arith)) in
    let b : pos (f n) ≡ g n = h n (omega arith) in
    omega (arith, ints)

-- an equation's value as a number that isn't negative
value : ℕ → ℕ → (ℕ → ℤ) → (ℕ → ℕ) → ℕ
value n h a x = total n (λ j. weighed h (a j) (x j))

value_is : (n h : ℕ) (a : ℕ → ℤ) (x : ℕ → ℕ) → ((j : ℕ) → j < n → x j ≤ h)
    → pos (value n h a x) ≡ dot n a (λ j. pos (x j)) +ℤ sum_to n (λ j. offset h (a j))
unfolding value
value_is n h a x l =
    total_is n (λ j. weighed h (a j) (x j)) (λ j. (a j *ℤ pos (x j)) +ℤ offset h (a j))
    (λ j jl. weighed_is h (a j) (x j) (l j jl))
    ∙ sum_add n (λ j. a j *ℤ pos (x j)) (λ j. offset h (a j))

-- two vectors of the same value differ by a solution
difference_solves : (n h : ℕ) (a : ℕ → ℤ) (x y : ℕ → ℕ) → ((j : ℕ) → j < n → x j ≤ h) → ((j : ℕ) → j < n → y j ≤ h)
    → value n h a x ≡ value n h a y → dot n a (λ j. pos (x j) -ℤ pos (y j)) ≡ pos 0
difference_solves n h a x y xl yl e =
    let p : pos (value n h a x) ≡ dot n a (λ j. pos (x j)) +ℤ sum_to n (λ j. offset h (a j)) = value_is n h a x xl in
    let q : pos (value n h a y) ≡ dot n a (λ j. pos (y j)) +ℤ sum_to n (λ j. offset h (a j)) = value_is n h a y yl in
    let r : pos (value n h a x) ≡ pos (value n h a y) = ap pos e in
    let s : dot n a (λ j. pos (x j) -ℤ pos (y j)) ≡ dot n a (λ j. pos (x j)) +ℤ neg_ℤ (dot n a (λ j. pos (y j))) =
    sum_ext n (λ j. a j *ℤ (pos (x j) -ℤ pos (y j)))
    (λ j. (a j *ℤ pos (x j)) +ℤ neg_ℤ (a j *ℤ pos (y j))) (λ j l. simp ring)
    ∙ sum_add n (λ j. a j *ℤ pos (x j)) (λ j. neg_ℤ (a j *ℤ pos (y j)))
    ∙ ap (λ v. dot n a (λ j. pos (x j)) +ℤ v) (sum_neg n (λ j. a j *ℤ pos (y j))) in
    omega (arith, ints)

-- there are more vectors than values
more_vectors : (n l h : ℕ) → 0 < l → h ≡ l ^ n → suc (l * h) ^ n < suc h ^ suc n
more_vectors n l h lp e =
    let b : suc (l * h) ≤ l * suc h = omega arith in
    let c : suc (l * h) ^ n ≤ (l * suc h) ^ n = pow-le-pow_left b n in
    let d : (l * suc h) ^ n ≡ l ^ n * suc h ^ n = mul-pow l (suc h) n in
    let f : h * suc h ^ n ≡ l ^ n * suc h ^ n = ap (λ v. v * suc h ^ n) e in
    let g : suc h ^ suc n ≡ suc h * suc h ^ n = pow-succ' (suc h) n in
    let o : 1 ≤ suc h ^ n = one-le-pow n (suc h) (omega arith) in
    omega arith

value_below : (n a h : ℕ) (c : ℕ → ℤ) (x : ℕ → ℕ) → ((j : ℕ) → j < n → unsigned_abs (c j) ≤ a)
    → ((j : ℕ) → j < n → x j ≤ h) → value n h c x < suc ((n * a) * h)
unfolding value
value_below n a h c x within xl =
    let b : total n (λ j. weighed h (c j) (x j)) ≤ n * (a * h) =
    total_below n (a * h) (λ j. weighed h (c j) (x j))
    (λ j jl. weighed_below a h (c j) (x j) (within j jl) (xl j jl)) in
    omega arith

pub small_solution : (n a : ℕ) (c : ℕ → ℕ → ℤ) → 0 < a → ((t j : ℕ) → t < n → j < suc n → unsigned_abs (c t j) ≤ a)
    → HasSmallSolution n ((suc n * a) ^ n) c
small_solution n a c some within =
    from (suc n * a) ((suc n * a) ^ n) refl (omega arith)
    (λ h t x tl xl. value_below (suc n) a h (c t) x (λ j jl. within t j tl jl) xl)
  where
    from : (l h : ℕ) → h ≡ l ^ n → 0 < l
        → ((h : ℕ) (t : ℕ) (x : ℕ → ℕ) → t < n → ((j : ℕ) → j < suc n → x j ≤ h)
        → value (suc n) h (c t) x < suc (l * h)) → HasSmallSolution n h c
    from l h e lp below =
        let few : (u j : ℕ) → digits (suc n) (suc h) u j ≤ h =
        (λ u j. let d : digits (suc n) (suc h) u j < suc h =
        digits_below (suc n) (suc h) u j (omega arith) in omega arith) in
        let small : (u t : ℕ) → t < n → value (suc n) h (c t) (digits (suc n) (suc h) u) < suc (l * h) =
        (λ u t tl. below h t (digits (suc n) (suc h) u) tl (λ j jl. few u j)) in
        let w : TakesTwice (suc h ^ suc n)
        (λ u. code n (suc (l * h)) (λ t. value (suc n) h (c t) (digits (suc n) (suc h) u))) =
        pigeonhole (suc h ^ suc n) (suc (l * h) ^ n)
        (λ u. code n (suc (l * h)) (λ t. value (suc n) h (c t) (digits (suc n) (suc h) u)))
        (more_vectors n l h lp e)
        (λ u ul. code_below n (suc (l * h)) (λ t. value (suc n) h (c t) (digits (suc n) (suc h) u))
        (λ t tl. small u t tl)) in
        let d : (j : ℕ) × (j < suc n) × (digits (suc n) (suc h) w.0 j ≢ digits (suc n) (suc h) w.1 j) =
        digits_apart (suc n) (suc h) w.0 w.1 (omega arith) w.2 w.3 w.4 in
        record {
          x = λ j. pos (digits (suc n) (suc h) w.0 j) -ℤ pos (digits (suc n) (suc h) w.1 j);
          place = d.0;
          inside = d.1;
          nonzero = λ z. d.2 (omega (arith, ints));
          solves = λ t tl. difference_solves (suc n) h (c t) (digits (suc n) (suc h) w.0) (digits (suc n) (suc h) w.1)
              (λ j jl. few w.0 j) (λ j jl. few w.1 j)
              (code_apart n (suc (l * h)) (λ t. value (suc n) h (c t) (digits (suc n) (suc h) w.0))
              (λ t. value (suc n) h (c t) (digits (suc n) (suc h) w.1)) (λ t tl. small w.0 t tl)
              (λ t tl. small w.1 t tl) w.5 t tl);
          small = λ j jl.
              let p : digits (suc n) (suc h) w.0 j ≤ h = few w.0 j in
              let q : digits (suc n) (suc h) w.1 j ≤ h = few w.1 j in
              omega (arith, ints);
        }
