-- A function on more numbers than it has values takes one of them twice.
use Rattle.std.proofs.Common.{◌≡◌, ℕ, zero, suc, ◌<◌, ◌≤◌, ◌⊎◌, refl, ap, arith, inl, inr, List, [], ◌∷◌, length}
use Rattle.std.proofs.lemmas.Bool.{cases_eq}
use Rattle.rob_linear.proofs.BasisPaths.Paths.{IsNew, AreDifferent, AreBelow, different_few}
use Rattle.rob_bounds.specs.Bounds.{TakesTwice}

-- f (p - 1), .., f 0
values : (ℕ → ℕ) → ℕ → List ℕ
values f zero = []
values f (suc p) = f p ∷ values f p

length-values : (f : ℕ → ℕ) (p : ℕ) → length (values f p) ≡ p
unfolding values
length-values f zero = refl
length-values f (suc p) = ap suc (length-values f p)

values_below : (q : ℕ) (f : ℕ → ℕ) (p : ℕ) → ((i : ℕ) → i < p → f i < q) → AreBelow q (values f p)
unfolding values
values_below q f zero h = tt
values_below q f (suc p) h = (h p (omega arith), values_below q f p (λ i l. h i (omega arith)))

-- x is one of the values, or none
seen_or_new : (f : ℕ → ℕ) (x p : ℕ) → ((i : ℕ) × (i < p) × (x ≡ f i)) ⊎ IsNew x (values f p)
unfolding values
seen_or_new f x zero = inr tt
seen_or_new f x (suc p) =
    elim (cases_eq x (f p)) [
      | inl e ↦ inl (p, omega arith, e)
      | inr d ↦ elim (seen_or_new f x p) [
        | inl s ↦ let l : s.0 < p = s.1 in inl (s.0, omega arith, s.2)
        | inr n ↦ inr (d, n)
      ]
    ]

twice_or_different : (f : ℕ → ℕ) (p : ℕ) → TakesTwice p f ⊎ AreDifferent (values f p)
unfolding values
twice_or_different f zero = inr tt
twice_or_different f (suc p) =
    elim (twice_or_different f p) [
      | inl t ↦ let il : t.0 < p = t.2 in let jl : t.1 < p = t.3 in inl (t.0, t.1, omega arith, omega arith, t.4, t.5)
      | inr d ↦ elim (seen_or_new f (f p) p) [
        | inl s ↦ let l : s.0 < p = s.1 in inl (p, s.0, omega arith, omega arith, omega arith, s.2)
        | inr n ↦ inr (n, d)
      ]
    ]

pub pigeonhole : (p q : ℕ) (f : ℕ → ℕ) → q < p → ((i : ℕ) → i < p → f i < q) → TakesTwice p f
pigeonhole p q f l h =
    elim (twice_or_different f p) [
      | inl t ↦ t
      | inr d ↦
          let few : length (values f p) ≤ q = different_few q (values f p) (values_below q f p h) d in
          let size : length (values f p) ≡ p = length-values f p in
          absurd (omega arith)
    ]
