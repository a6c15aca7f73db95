-- Rows of entries, and the lists of their numbers.
use Rattle.std.proofs.Common.{◌≡◌, ◌≢◌, ℕ, ◌+◌, ◌*◌, ◌<◌, ◌≤◌, sym, ap, ◌∙◌, subst, arith, inl, inr, List, map, length, get_or, set}
use Rattle.std.proofs.lemmas.Bool.{cases_eq}
use Rattle.std.proofs.lemmas.List.{map-set, get_or-map, length-map, get_or-set_same, get_or-set_other}
use Rattle.std.proofs.lemmas.Int.{ints, unsigned_abs-mul}
use lib.IntN.{ℤ, pos, nat_abs, ◌*ℤ◌, ◌-ℤ◌}
use lib.Signed.{◌<ℤ◌}
use Rattle.rob_linear.specs.Vectors.{at}

module _ {X : Type 0} (f : X → ℤ) where
  -- an entry that an index has read
  pub number_read : (row : List X) (k : ℕ) (x : X) → k < length row → x ≡ get_or row k x → f x ≡ at (map f row) k
  number_read row k x l e = ap f e ∙ sym (get_or-map f row k x (pos 0) l)

  -- after a write at a place
  pub number_here : (row : List X) (k : ℕ) (x : X) → k < length row → at (map f (set row k x)) k ≡ f x
  number_here row k x l =
      ap (λ (t : List ℤ). at t k) (map-set f row k x)
      ∙ get_or-set_same (map f row) k (f x) (pos 0) (subst (λ n. k < n) (sym (length-map row f)) l)

  pub number_other : (row : List X) (k j : ℕ) (x : X) → j ≢ k → at (map f (set row k x)) j ≡ at (map f row) j
  number_other row k j x d =
      ap (λ (t : List ℤ). at t j) (map-set f row k x) ∙ get_or-set_other (map f row) k j (f x) (pos 0) d

  -- one entry more is written
  pub written_more : (row : List X) (new : ℕ → ℤ) (k : ℕ) (x : X) → k < length row
      → ((j : ℕ) → j < k → at (map f row) j ≡ new j) → f x ≡ new k
      → (j : ℕ) → j < k + 1 → at (map f (set row k x)) j ≡ new j
  written_more row new k x kl h e j l =
      elim (cases_eq j k) [
        | inl s ↦ ap (at (map f (set row k x))) s ∙ number_here row k x kl ∙ e ∙ ap new (sym s)
        | inr d ↦ number_other row k j x d ∙ h j (omega arith)
      ]

  -- and the others stay
  pub kept_behind : (row : List X) (start : ℕ → ℤ) (k : ℕ) (x : X) → ((j : ℕ) → k ≤ j → at (map f row) j ≡ start j)
      → (j : ℕ) → k + 1 ≤ j → at (map f (set row k x)) j ≡ start j
  kept_behind row start k x h j l = number_other row k j x (λ e. absurd (omega arith)) ∙ h j (omega arith)

-- the sizes of two products, as an index has read what is multiplied
pub sizes_read : (top : ℕ) (p a q b a' b' : ℤ) → a ≡ a' → b ≡ b' → nat_abs p * nat_abs a' + nat_abs q * nat_abs b' ≤ top
    → nat_abs p * nat_abs a + nat_abs q * nat_abs b ≤ top
sizes_read top p a q b a' b' e f h =
    subst (λ t. nat_abs p * nat_abs t + nat_abs q * nat_abs b ≤ top) (sym e)
    (subst (λ t. nat_abs p * nat_abs a' + nat_abs q * nat_abs t ≤ top) (sym f) h)

-- what is once an entry less q times another one, as an index has read them
pub once : (w p a q b a' b' : ℤ) → w ≡ (p *ℤ a) -ℤ (q *ℤ b) → p ≡ pos 1 → a ≡ a' → b ≡ b' → w ≡ a' -ℤ (q *ℤ b')
once w p a q b a' b' is one e f =
    is ∙ ap (λ t. (t *ℤ a) -ℤ (q *ℤ b)) one ∙ ap (λ t. (pos 1 *ℤ t) -ℤ (q *ℤ b)) e
    ∙ ap (λ t. (pos 1 *ℤ a') -ℤ (q *ℤ t)) f ∙ plain a' (q *ℤ b')
  where
    plain : (x y : ℤ) → (pos 1 *ℤ x) -ℤ y ≡ x -ℤ y
    plain x y = omega (arith, ints)

-- an entry times p alone, as an index has read it
pub alone_narrow : (top : ℕ) (p a z a' : ℤ) → a ≡ a' → z ≡ pos 0 → nat_abs p * nat_abs a' ≤ top
    → nat_abs p * nat_abs a + nat_abs z * nat_abs z ≤ top
alone_narrow top p a z a' e f h =
    subst (λ t. nat_abs p * nat_abs t + nat_abs z * nat_abs z ≤ top) (sym e)
    (subst (λ t. nat_abs p * nat_abs a' + nat_abs t * nat_abs t ≤ top) (sym f) (none (nat_abs p * nat_abs a') h))
  where
    none : (n : ℕ) → n ≤ top → n + 0 ≤ top
    none n l = omega arith

pub alone_read : (w p a z a' : ℤ) → w ≡ (p *ℤ a) -ℤ (z *ℤ z) → a ≡ a' → z ≡ pos 0 → w ≡ p *ℤ a'
alone_read w p a z a' is e f =
    is ∙ ap (λ t. (p *ℤ t) -ℤ (z *ℤ z)) e ∙ ap (λ t. (p *ℤ a') -ℤ (t *ℤ t)) f ∙ plain (p *ℤ a')
  where
    plain : (x : ℤ) → x -ℤ (pos 0 *ℤ pos 0) ≡ x
    plain x = omega (arith, ints)

-- a factor of size 1
pub unit_of : (z : ℤ) → pos 0 <ℤ z → nat_abs z ≡ 1 → z ≡ pos 1
unit_of z h e = omega (arith, ints)

-- once such a product, less q times another entry
pub scaled_narrow : (top : ℕ) (p q a b w : ℤ) → w ≡ p *ℤ a → nat_abs p * nat_abs a + nat_abs q * nat_abs b ≤ top
    → nat_abs (pos 1) * nat_abs w + nat_abs q * nat_abs b ≤ top
scaled_narrow top p q a b w e h =
    let size : nat_abs w ≡ nat_abs p * nat_abs a = ap nat_abs e ∙ unsigned_abs-mul p a in
    subst (λ t. t + nat_abs q * nat_abs b ≤ top) (sym (once_more (nat_abs w) ∙ size)) h
  where
    once_more : (n : ℕ) → 1 * n ≡ n
    once_more n = omega arith
