-- Polynomials over the variables 0, 1, 2 .., as the solver of ring identities takes them.
--     Expr            polynomials, as they are written
--     norm e          the normal form of one: a list of monomials with their coefficients
use Rattle.std.specs.Prelude.{ℕ, ℤ, pos, negsuc, ◌+ℤ◌, ◌*ℤ◌, Bool, true, false, ◌&&◌, eqb, ltb, List, [], ◌∷◌}

-- a polynomial, as it is written
pub data Expr : Type 0 where
  var : ℕ → Expr
  lit : ℤ → Expr
  plus : Expr → Expr → Expr
  times : Expr → Expr → Expr
  minus : Expr → Expr

-- how expressions are written
infixl 6 ◌:+◌ ◌:-◌
infixl 7 ◌:*◌
-- the sum
abbrev pub ◌:+◌ : Expr → Expr → Expr
a :+ b = plus a b

-- the difference
abbrev pub ◌:-◌ : Expr → Expr → Expr
a :- b = plus a (minus b)

-- the product
abbrev pub ◌:*◌ : Expr → Expr → Expr
a :* b = times a b

-- the variables 0 to 7: the first
abbrev pub v0 : Expr
v0 = var 0

-- the second of them
abbrev pub v1 : Expr
v1 = var 1

-- the third of them
abbrev pub v2 : Expr
v2 = var 2

-- the fourth of them
abbrev pub v3 : Expr
v3 = var 3

-- the fifth of them
abbrev pub v4 : Expr
v4 = var 4

-- the sixth of them
abbrev pub v5 : Expr
v5 = var 5

-- the seventh of them
abbrev pub v6 : Expr
v6 = var 6

-- the eighth of them
abbrev pub v7 : Expr
v7 = var 7

-- the variables of a monomial, in order, each as often as it divides it
abbrev pub Mono : Type 0
Mono = List ℕ

-- a monomial with its coefficient
pub record Term : Type 0 where
  pub coef : ℤ
  pub mono : Mono

-- the variable, put at its place
abbrev pub insert_var : ℕ → Mono → Mono
insert_var x [] = x ∷ []
insert_var x (y ∷ ys) = elim (ltb y x) [ true ↦ y ∷ insert_var x ys | false ↦ x ∷ y ∷ ys ]

-- the product of two monomials
abbrev pub mono_mul : Mono → Mono → Mono
mono_mul [] n = n
mono_mul (x ∷ xs) n = insert_var x (mono_mul xs n)

-- whether two monomials are one
abbrev pub same : Mono → Mono → Bool
same [] [] = true
same [] (y ∷ ys) = false
same (x ∷ xs) [] = false
same (x ∷ xs) (y ∷ ys) = eqb x y && same xs ys

-- an order in which terms are kept: it only serves to find equal monomials
abbrev pub before : Mono → Mono → Bool
before [] [] = false
before [] (y ∷ ys) = true
before (x ∷ xs) [] = false
before (x ∷ xs) (y ∷ ys) = elim (eqb x y) [ true ↦ before xs ys | false ↦ ltb x y ]

-- whether a coefficient is 0
abbrev pub is_zero : ℤ → Bool
is_zero (pos n) = eqb n 0
is_zero (negsuc n) = false

-- a term in front, unless its coefficient is 0
abbrev pub put : ℤ → Mono → List Term → List Term
put c m p = elim (is_zero c) [ true ↦ p | false ↦ record { coef = c; mono = m } ∷ p ]

-- the term, added to the monomial that it shares, or put at its place
abbrev pub insert_term : ℤ → Mono → List Term → List Term
insert_term c m [] = put c m []
insert_term c m (t ∷ p) =
    elim (same m t.mono) [
      | true ↦ put (c +ℤ t.coef) m p
      | false ↦ elim (before m t.mono) [
        | true ↦ put c m (t ∷ p)
        | false ↦ t ∷ insert_term c m p
      ]
    ]

-- the sum of two polynomials
abbrev pub poly_add : List Term → List Term → List Term
poly_add [] q = q
poly_add (t ∷ p) q = insert_term t.coef t.mono (poly_add p q)

-- a polynomial times a term
abbrev pub poly_scale : ℤ → Mono → List Term → List Term
poly_scale c m [] = []
poly_scale c m (t ∷ p) = insert_term (c *ℤ t.coef) (mono_mul m t.mono) (poly_scale c m p)

-- the product of two polynomials
abbrev pub poly_mul : List Term → List Term → List Term
poly_mul [] q = []
poly_mul (t ∷ p) q = poly_add (poly_scale t.coef t.mono q) (poly_mul p q)

-- the normal form
abbrev pub norm : Expr → List Term
norm (var i) = record { coef = pos 1; mono = i ∷ [] } ∷ []
norm (lit z) = put z [] []
norm (plus a b) = poly_add (norm a) (norm b)
norm (times a b) = poly_mul (norm a) (norm b)
norm (minus a) = poly_scale (negsuc 0) [] (norm a)
