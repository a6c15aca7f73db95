-- A solver of ring identities, over any commutative ring into which the whole numbers map.
--     eval R ρ e      the value of `e`, where the variable i stands for the entry i of the list ρ
--     ring            two expressions whose difference has the normal form [] have equal values
use Rattle.std.specs.Prelude.{◌≡◌, ℕ, zero, suc, ℤ, pos, negsuc, ◌+ℤ◌, ◌*ℤ◌, Bool, true, false, ◌&&◌, T, eqb, ltb, List, [], ◌∷◌, refl}
use Rattle.std.proofs.Common.{sym, ◌∙◌, ap, subst, eqb→eq}
use Rattle.rob_algebra.specs.Ring.{CommRing, add-zero, mul-one, add_left_comm, mul_left_comm, mul-add, zero-mul, mul-zero, neg-is, eq_of_diff, diff_of_eq}
use Rattle.rob_algebra.specs.Polynomials.{Expr, var, lit, plus, times, minus, ◌:+◌, ◌:-◌, ◌:*◌, Mono, Term, insert_var, mono_mul, same, before, is_zero, put, insert_term, poly_add, poly_scale, poly_mul, norm}

by_same : (b : Bool) (x y : ℕ) (xs ys : Mono) → eqb x y ≡ b → (T (same xs ys) → xs ≡ ys)
    → T (b && same xs ys) → x ∷ xs ≡ y ∷ ys
by_same true x y xs ys e h k = let p : x ≡ y = eqb→eq x y (subst T (sym e) tt) in let q : xs ≡ ys = h k in cc
by_same false x y xs ys e h k = absurd k

pub same-eq : (m n : Mono) → T (same m n) → m ≡ n
same-eq [] [] h = refl
same-eq [] (y ∷ ys) h = absurd h
same-eq (x ∷ xs) [] h = absurd h
same-eq (x ∷ xs) (y ∷ ys) h = by_same (eqb x y) x y xs ys refl (same-eq xs ys) h

zero_of : (c : ℤ) → is_zero c ≡ true → c ≡ pos 0
zero_of (pos n) e = ap pos (eqb→eq n 0 (subst T (sym e) tt))
zero_of (negsuc n) e = cc

-- ---- values
module _ (R : CommRing) where
  open R use {carrier, add, mul, neg, int}

  -- the value of the variable i: the entry i of the list
  abbrev pub value_of : List carrier → ℕ → carrier
  value_of [] i = int (pos 0)
  value_of (x ∷ ρ) zero = x
  value_of (x ∷ ρ) (suc i) = value_of ρ i

  -- the value of a polynomial
  abbrev pub eval : List carrier → Expr → carrier
  eval ρ (var i) = value_of ρ i
  eval ρ (lit z) = int z
  eval ρ (plus a b) = add (eval ρ a) (eval ρ b)
  eval ρ (times a b) = mul (eval ρ a) (eval ρ b)
  eval ρ (minus a) = neg (eval ρ a)

  module _ (ρ : List carrier) where
    -- the value of a monomial
    abbrev em : Mono → carrier
    em [] = int (pos 1)
    em (x ∷ xs) = mul (value_of ρ x) (em xs)

    -- of a monomial with its coefficient
    abbrev et : ℤ → Mono → carrier
    et c m = mul (int c) (em m)

    -- of a sum of such terms
    abbrev ep : List Term → carrier
    ep [] = int (pos 0)
    ep (t ∷ p) = add (et t.coef t.mono) (ep p)

    by_insert : (b : Bool) (x y : ℕ) (r ys : Mono) → em r ≡ mul (value_of ρ x) (em ys)
        → em (elim b [ true ↦ y ∷ r | false ↦ x ∷ y ∷ ys ]) ≡ mul (value_of ρ x) (mul (value_of ρ y) (em ys))
    by_insert true x y r ys e = ap (λ z. mul (value_of ρ y) z) e ∙ mul_left_comm R (value_of ρ y) (value_of ρ x) (em ys)
    by_insert false x y r ys e = refl

    em-insert : (x : ℕ) (m : Mono) → em (insert_var x m) ≡ mul (value_of ρ x) (em m)
    em-insert x [] = refl
    em-insert x (y ∷ ys) = by_insert (ltb y x) x y (insert_var x ys) ys (em-insert x ys)

    em-mul : (m n : Mono) → em (mono_mul m n) ≡ mul (em m) (em n)
    em-mul [] n = sym (R.one-mul (em n))
    em-mul (x ∷ xs) n =
        em-insert x (mono_mul xs n) ∙ ap (λ z. mul (value_of ρ x) z) (em-mul xs n)
        ∙ sym (R.mul_assoc (value_of ρ x) (em xs) (em n))

    by_put : (b : Bool) (c : ℤ) (m : Mono) (p : List Term) → is_zero c ≡ b
        → ep (elim b [ true ↦ p | false ↦ record { coef = c; mono = m } ∷ p ]) ≡ add (et c m) (ep p)
    by_put true c m p e =
        sym (ap (λ z. add (et z m) (ep p)) (zero_of c e) ∙ ap (λ z. add z (ep p)) (zero-mul R (em m))
        ∙ R.zero-add (ep p))
    by_put false c m p e = refl

    ep-put : (c : ℤ) (m : Mono) (p : List Term) → ep (put c m p) ≡ add (et c m) (ep p)
    ep-put c m p = by_put (is_zero c) c m p refl

    together : (c d : ℤ) (m n : Mono) (z : carrier) → m ≡ n → add (et (c +ℤ d) m) z ≡ add (et c m) (add (et d n) z)
    together c d m n z e =
        ap (λ w. add (mul w (em m)) z) (R.int-add c d) ∙ ap (λ w. add w z) (R.add-mul (int c) (int d) (em m))
        ∙ R.add_assoc (et c m) (et d m) z
        ∙ ap (λ w. add (et c m) (add (et d w) z)) e

    by_before : (b : Bool) (c : ℤ) (m : Mono) (t : Term) (p r : List Term) → ep r ≡ add (et c m) (ep p) →
        ep (elim b [ true ↦ put c m (t ∷ p) | false ↦ t ∷ r ]) ≡ add (et c m) (ep (t ∷ p))
    by_before true c m t p r e = ep-put c m (t ∷ p)
    by_before false c m t p r e =
        ap (λ z. add (et t.coef t.mono) z) e ∙ add_left_comm R (et t.coef t.mono) (et c m) (ep p)

    by_same_mono : (b : Bool) (c : ℤ) (m : Mono) (t : Term) (p : List Term) (r : List Term) → (T b → m ≡ t.mono)
        → ep r ≡ add (et c m) (ep (t ∷ p)) →
        ep (elim b [ true ↦ put (c +ℤ t.coef) m p | false ↦ r ]) ≡ add (et c m) (ep (t ∷ p))
    by_same_mono true c m t p r h e = ep-put (c +ℤ t.coef) m p ∙ together c t.coef m t.mono (ep p) (h tt)
    by_same_mono false c m t p r h e = e

    ep-insert : (c : ℤ) (m : Mono) (p : List Term) → ep (insert_term c m p) ≡ add (et c m) (ep p)
    ep-insert c m [] = ep-put c m []
    ep-insert c m (t ∷ p) =
        by_same_mono (same m t.mono) c m t p (elim (before m t.mono) [
          | true ↦ put c m (t ∷ p)
          | false ↦ t ∷ insert_term c m p
        ]) (same-eq m t.mono)
        (by_before (before m t.mono) c m t p (insert_term c m p) (ep-insert c m p))

    ep-add : (p q : List Term) → ep (poly_add p q) ≡ add (ep p) (ep q)
    ep-add [] q = sym (R.zero-add (ep q))
    ep-add (t ∷ p) q =
        ep-insert t.coef t.mono (poly_add p q) ∙ ap (λ z. add (et t.coef t.mono) z) (ep-add p q)
        ∙ sym (R.add_assoc (et t.coef t.mono) (ep p) (ep q))

    et-mul : (c d : ℤ) (m n : Mono) → et (c *ℤ d) (mono_mul m n) ≡ mul (et c m) (et d n)
    et-mul c d m n =
        ap (λ w. mul w (em (mono_mul m n))) (R.int-mul c d) ∙ ap (λ w. mul (mul (int c) (int d)) w) (em-mul m n)
        ∙ R.mul_assoc (int c) (int d) (mul (em m) (em n))
        ∙ ap (λ w. mul (int c) w) (mul_left_comm R (int d) (em m) (em n)) ∙ sym (R.mul_assoc (int c) (em m) (et d n))

    ep-scale : (c : ℤ) (m : Mono) (p : List Term) → ep (poly_scale c m p) ≡ mul (et c m) (ep p)
    ep-scale c m [] = sym (mul-zero R (et c m))
    ep-scale c m (t ∷ p) =
        ep-insert (c *ℤ t.coef) (mono_mul m t.mono) (poly_scale c m p)
        ∙ ap (λ z. add z (ep (poly_scale c m p))) (et-mul c t.coef m t.mono)
        ∙ ap (λ z. add (mul (et c m) (et t.coef t.mono)) z) (ep-scale c m p)
        ∙ sym (mul-add R (et c m) (et t.coef t.mono) (ep p))

    ep-mul : (p q : List Term) → ep (poly_mul p q) ≡ mul (ep p) (ep q)
    ep-mul [] q = sym (zero-mul R (ep q))
    ep-mul (t ∷ p) q =
        ep-add (poly_scale t.coef t.mono q) (poly_mul p q)
        ∙ ap (λ z. add z (ep (poly_mul p q))) (ep-scale t.coef t.mono q)
        ∙ ap (λ z. add (mul (et t.coef t.mono) (ep q)) z) (ep-mul p q)
        ∙ sym (R.add-mul (et t.coef t.mono) (ep p) (ep q))

    ep-norm : (e : Expr) → ep (norm e) ≡ eval ρ e
    ep-norm (var i) =
        add-zero R (mul (int (pos 1)) (mul (value_of ρ i) (int (pos 1)))) ∙ R.one-mul (mul (value_of ρ i) (int (pos 1)))
        ∙ mul-one R (value_of ρ i)
    ep-norm (lit z) = ep-put z [] [] ∙ add-zero R (mul (int z) (int (pos 1))) ∙ mul-one R (int z)
    ep-norm (plus a b) =
        ep-add (norm a) (norm b) ∙ ap (λ z. add z (ep (norm b))) (ep-norm a) ∙ ap (λ z. add (eval ρ a) z) (ep-norm b)
    ep-norm (times a b) =
        ep-mul (norm a) (norm b) ∙ ap (λ z. mul z (ep (norm b))) (ep-norm a) ∙ ap (λ z. mul (eval ρ a) z) (ep-norm b)
    ep-norm (minus a) =
        ep-scale (negsuc 0) [] (norm a) ∙ ap (λ z. mul z (ep (norm a))) (mul-one R (int (negsuc 0)))
        ∙ ap (λ z. mul (int (negsuc 0)) z) (ep-norm a) ∙ sym (neg-is R (eval ρ a))

    -- a ring identity: the difference of the two sides has the normal form []
    pub ring : (l r : Expr) → norm (plus l (minus r)) ≡ [] → eval ρ l ≡ eval ρ r
    ring l r e = eq_of_diff R (eval ρ l) (eval ρ r) (sym (ep-norm (plus l (minus r))) ∙ ap ep e)

    -- ---- combinations of equations
    -- l - r is z, and z is 0
    pub from : (l r z : Expr) → norm (plus (plus l (minus r)) (minus z)) ≡ []
        → eval ρ z ≡ int (pos 0) → eval ρ l ≡ eval ρ r
    from l r z e h = eq_of_diff R (eval ρ l) (eval ρ r) (ring (plus l (minus r)) z e ∙ h)

    pub gone : (k p q : Expr) → eval ρ p ≡ eval ρ q → eval ρ (times k (plus p (minus q))) ≡ int (pos 0)
    gone k p q h = ap (λ z. mul (eval ρ k) z) (diff_of_eq R (eval ρ p) (eval ρ q) h) ∙ mul-zero R (eval ρ k)

    pub both_gone : (y z : Expr) → eval ρ y ≡ int (pos 0) → eval ρ z ≡ int (pos 0) → eval ρ (plus y z) ≡ int (pos 0)
    both_gone y z g h = ap (λ w. add w (eval ρ z)) g ∙ R.zero-add (eval ρ z) ∙ h

    -- l - r is k * (p - q)
    pub from_one : (l r k p q : Expr) → norm (l :- r :- k :* (p :- q)) ≡ [] → eval ρ p ≡ eval ρ q → eval ρ l ≡ eval ρ r
    from_one l r k p q e h = from l r (k :* (p :- q)) e (gone k p q h)

    -- l - r is i * (p - q) + j * (s - t)
    pub from_two : (l r i p q j s t : Expr) → norm (l :- r :- (i :* (p :- q) :+ j :* (s :- t))) ≡ [] →
        eval ρ p ≡ eval ρ q → eval ρ s ≡ eval ρ t → eval ρ l ≡ eval ρ r
    from_two l r i p q j s t e h k =
        from l r (i :* (p :- q) :+ j :* (s :- t)) e
        (both_gone (i :* (p :- q)) (j :* (s :- t)) (gone i p q h) (gone j s t k))

    -- l - r is i * (p - q) + j * (s - t) + k * (u - v)
    pub from_three : (l r i p q j s t k u v : Expr)
        → norm (l :- r :- (i :* (p :- q) :+ j :* (s :- t) :+ k :* (u :- v))) ≡ [] →
        eval ρ p ≡ eval ρ q → eval ρ s ≡ eval ρ t → eval ρ u ≡ eval ρ v → eval ρ l ≡ eval ρ r
    from_three l r i p q j s t k u v e h g f =
        from l r (i :* (p :- q) :+ j :* (s :- t) :+ k :* (u :- v)) e
        (both_gone (i :* (p :- q) :+ j :* (s :- t)) (k :* (u :- v))
        (both_gone (i :* (p :- q)) (j :* (s :- t)) (gone i p q h) (gone j s t g)) (gone k u v f))
