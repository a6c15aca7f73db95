-- The starting rows of a program, of its auxiliary form and of its stages are
-- no larger than the program's numbers, or 1.
use Rattle.std.proofs.Common.{◌≡◌, ℕ, suc, ◌+◌, ◌<◌, ◌≤◌, sym, subst, arith, inl, inr}
use Rattle.std.proofs.lemmas.Int.{ints}
use Rattle.std.proofs.lemmas.Bool.{cases_eq, cases_lt}
use Rattle.std.proofs.lemmas.Bool.Decides.{nat_tests}
use Rattle.std.specs.Int.RustNames.{unsigned_abs}
use lib.IntN.{ℤ, pos, negsuc, neg_ℤ}
use Rattle.rob_linear.specs.Programs.{Program, starting_row, system_of, auxiliary_row, auxiliary_of, kept_row, kept_of}
use Rattle.rob_linear.specs.Stages.{cost_before, truncated}
use Rattle.rob_bounds.specs.Bounds.{IsOfSize, StartsWithin}
use Rattle.rob_bounds.proofs.Sizes.{size-neg}

-- an entry that is a number of size a
size_is : (a : ℕ) (x y : ℤ) → x ≡ y → unsigned_abs y ≤ a → unsigned_abs x ≤ a
size_is a x y e l = subst (λ v. unsigned_abs v ≤ a) (sym e) l

module _ (a : ℕ) (P : Program) (some : 0 < a) (h : IsOfSize a P) where
  zero_in : (x : ℤ) → x ≡ pos 0 → unsigned_abs x ≤ a
  zero_in x e = size_is a x (pos 0) e (omega (arith, ints))

  one_in : (x : ℤ) → x ≡ pos 1 → unsigned_abs x ≤ a
  one_in x e = size_is a x (pos 1) e (omega (arith, ints))

  minus_one_in : (x : ℤ) → x ≡ negsuc 0 → unsigned_abs x ≤ a
  minus_one_in x e = size_is a x (negsuc 0) e (omega (arith, ints))

  cost_in : (x : ℤ) (k : ℕ) → k < P.n → x ≡ neg_ℤ (P.c k) → unsigned_abs x ≤ a
  cost_in x k l e = size_is a x (neg_ℤ (P.c k)) e (subst (λ v. v ≤ a) (sym (size-neg (P.c k))) (h.cost k l))

  pub system_sized : StartsWithin a (system_of P)
  system_sized t k tl kl =
      elim (cases_lt t P.m) [
        | inl tm ↦ elim (cases_lt k P.n) [
          | inl kn ↦ size_is a (starting_row P t k) (P.a t k) (grind (arith, nat_tests)) (h.left t k tm kn)
          | inr kn ↦ elim (cases_eq k (P.n + t)) [
            | inl e ↦ one_in (starting_row P t k) (grind (arith, nat_tests))
            | inr d ↦ elim (cases_eq k (suc (P.n + P.m))) [
              | inl f ↦ size_is a (starting_row P t k) (P.b t) (grind (arith, nat_tests)) (h.right t tm)
              | inr f ↦ zero_in (starting_row P t k) (grind (arith, nat_tests))
            ]
          ]
        ]
        | inr tm ↦ elim (cases_lt k P.n) [
          | inl kn ↦ cost_in (starting_row P t k) k kn (grind (arith, nat_tests))
          | inr kn ↦ elim (cases_eq k (P.n + t)) [
            | inl e ↦ one_in (starting_row P t k) (grind (arith, nat_tests))
            | inr d ↦ elim (cases_eq k (suc (P.n + P.m))) [
              | inl f ↦ zero_in (starting_row P t k) (grind (arith, nat_tests))
              | inr f ↦ zero_in (starting_row P t k) (grind (arith, nat_tests))
            ]
          ]
        ]
      ]

  auxiliary_low : (t k : ℕ) → t < P.m → unsigned_abs (auxiliary_row P t k) ≤ a
  auxiliary_low t k tm =
      elim (cases_lt k P.n) [
        | inl kn ↦ size_is a (auxiliary_row P t k) (P.a t k) (grind (arith, nat_tests)) (h.left t k tm kn)
        | inr kn ↦ elim (cases_eq k (P.n + P.m)) [
          | inl e ↦ minus_one_in (auxiliary_row P t k) (grind (arith, nat_tests))
          | inr d ↦ elim (cases_eq k (P.n + t)) [
            | inl e ↦ one_in (auxiliary_row P t k) (grind (arith, nat_tests))
            | inr f ↦ elim (cases_eq k (suc (suc (P.n + P.m)))) [
              | inl g ↦ size_is a (auxiliary_row P t k) (P.b t) (grind (arith, nat_tests)) (h.right t tm)
              | inr g ↦ zero_in (auxiliary_row P t k) (grind (arith, nat_tests))
            ]
          ]
        ]
      ]

  pub auxiliary_sized : StartsWithin a (auxiliary_of P)
  auxiliary_sized t k tl kl =
      elim (cases_lt t P.m) [
        | inl tm ↦ auxiliary_low t k tm
        | inr tm ↦ elim (cases_lt k P.n) [
          | inl kn ↦ zero_in (auxiliary_row P t k) (grind (arith, nat_tests))
          | inr kn ↦ elim (cases_eq k (P.n + P.m)) [
            | inl e ↦ one_in (auxiliary_row P t k) (grind (arith, nat_tests))
            | inr d ↦ elim (cases_eq k (suc (P.n + P.m))) [
              | inl e ↦ one_in (auxiliary_row P t k) (grind (arith, nat_tests))
              | inr f ↦ elim (cases_eq k (suc (suc (P.n + P.m)))) [
                | inl g ↦ zero_in (auxiliary_row P t k) (grind (arith, nat_tests))
                | inr g ↦ zero_in (auxiliary_row P t k) (grind (arith, nat_tests))
              ]
            ]
          ]
        ]
      ]

  pub kept_sized : StartsWithin a (kept_of P)
  kept_sized t k tl kl =
      elim (cases_lt t P.m) [
        | inl tm ↦ size_is a (kept_row P t k) (auxiliary_row P t k) (grind (arith, nat_tests)) (auxiliary_low t k tm)
        | inr tm ↦ elim (cases_lt k P.n) [
          | inl kn ↦ cost_in (kept_row P t k) k kn (grind (arith, nat_tests))
          | inr kn ↦ elim (cases_eq k (suc (P.n + P.m))) [
            | inl e ↦ one_in (kept_row P t k) (grind (arith, nat_tests))
            | inr d ↦ zero_in (kept_row P t k) (grind (arith, nat_tests))
          ]
        ]
      ]

  pub truncated_sized : (j : ℕ) → IsOfSize a (truncated P j)
  truncated_sized j = record {
    left = h.left;
    right = h.right;
    cost = λ k l. elim (cases_lt k j) [
      | inl c ↦ size_is a (cost_before P j k) (P.c k) (grind (arith, nat_tests)) (h.cost k l)
      | inr c ↦ zero_in (cost_before P j k) (grind (arith, nat_tests))
    ];
  }
