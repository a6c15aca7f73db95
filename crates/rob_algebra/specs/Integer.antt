-- The whole numbers as a commutative ring. (Birkhoff, Mac Lane, A Survey of Modern Algebra, chapter 1.)
-- An integer z is read as `up z - down z`, two natural numbers, of which one is 0 (`borrow.Author.Differences`).
use Rattle.std.specs.Prelude.{◌≡◌, ℕ, ◌+◌, ◌*◌, ℤ, pos, ◌+ℤ◌, ◌-ℤ◌, ◌*ℤ◌, neg_ℤ}
use Rattle.std.proofs.Common.{arith, sym, ◌∙◌, ap}
use Rattle.std.proofs.lemmas.Int.{ints}
pub use Rattle.std.proofs.Math.IntN.{*ℤ_comm}
use borrow.Author.Differences.{up, down, same_in, product_is, sum_is_lem, neg_is}

pub up-mul : (a b : ℤ) → up (a *ℤ b) ≡ up a * up b + down a * down b
up-mul a b = (product_is a b).0

pub down-mul : (a b : ℤ) → down (a *ℤ b) ≡ up a * down b + down a * up b
down-mul a b = (product_is a b).1

pub mul_assoc : (a b c : ℤ) → (a *ℤ b) *ℤ c ≡ a *ℤ (b *ℤ c)
mul_assoc a b c = same_in ((a *ℤ b) *ℤ c) (a *ℤ (b *ℤ c)) (simp (up-mul, down-mul) (omega arith))

-- the product of a difference m - n
sum_mul : (ua da ub db us ds uc dc : ℕ) → us + da + db ≡ ds + ua + ub →
    (us * uc + ds * dc) + ((ua * dc + da * uc) + (ub * dc + db * uc))
    ≡ (us * dc + ds * uc) + ((ua * uc + da * dc) + (ub * uc + db * dc))
sum_mul ua da ub db us ds uc dc e = omega (arith, ap (λ k. k * uc) e, ap (λ k. k * dc) e)

pub add-mul : (a b c : ℤ) → (a +ℤ b) *ℤ c ≡ a *ℤ c +ℤ b *ℤ c
add-mul a b c =
    same_in ((a +ℤ b) *ℤ c) (a *ℤ c +ℤ b *ℤ c)
    (let e : (up (a +ℤ b) * up c + down (a +ℤ b) * down c)
    + ((up a * down c + down a * up c) + (up b * down c + down b * up c))
    ≡ (up (a +ℤ b) * down c + down (a +ℤ b) * up c)
    + ((up a * up c + down a * down c) + (up b * up c + down b * down c)) =
    sum_mul (up a) (down a) (up b) (down b) (up (a +ℤ b)) (down (a +ℤ b)) (up c) (down c) (sum_is_lem a b) in
    omega (
      arith,
      e,
      up-mul (a +ℤ b) c,
      down-mul (a +ℤ b) c,
      up-mul a c,
      down-mul a c,
      up-mul b c,
      down-mul b c,
      sum_is_lem (a *ℤ c) (b *ℤ c),
    ))

pub mul-add : (a b c : ℤ) → a *ℤ (b +ℤ c) ≡ a *ℤ b +ℤ a *ℤ c
mul-add a b c = *ℤ_comm a (b +ℤ c) ∙ add-mul b c a ∙ rw (*ℤ_comm b a, *ℤ_comm c a)

pub neg-mul : (a b : ℤ) → neg_ℤ a *ℤ b ≡ neg_ℤ (a *ℤ b)
neg-mul a b =
    same_in (neg_ℤ a *ℤ b) (neg_ℤ (a *ℤ b))
    (omega (
      arith,
      up-mul (neg_ℤ a) b,
      down-mul (neg_ℤ a) b,
      up-mul a b,
      down-mul a b,
      neg_is (a *ℤ b),
      ap (λ k. k * up b) (neg_is a).0,
      ap (λ k. k * up b) (neg_is a).1,
      ap (λ k. k * down b) (neg_is a).0,
      ap (λ k. k * down b) (neg_is a).1,
    ))

pub mul-neg : (a b : ℤ) → a *ℤ neg_ℤ b ≡ neg_ℤ (a *ℤ b)
mul-neg a b = *ℤ_comm a (neg_ℤ b) ∙ neg-mul b a ∙ ap neg_ℤ (*ℤ_comm b a)

pub mul_left_comm : (a b c : ℤ) → a *ℤ (b *ℤ c) ≡ b *ℤ (a *ℤ c)
mul_left_comm a b c = sym (mul_assoc a b c) ∙ ap (λ z. z *ℤ c) (*ℤ_comm a b) ∙ mul_assoc b a c

pub add_left_comm : (a b c : ℤ) → a +ℤ (b +ℤ c) ≡ b +ℤ (a +ℤ c)
add_left_comm a b c = omega (arith, ints)

-- multiplies products out, and sorts their factors: `simp products (omega
-- (arith, ints))` proves what is linear in the products that are left
pub ruleset products = (add-mul, mul-add, neg-mul, mul-neg, mul_assoc, *ℤ_comm, mul_left_comm)

-- ---- more of the ring, for `simp`
pub neg-add : (a b : ℤ) → neg_ℤ (a +ℤ b) ≡ neg_ℤ a +ℤ neg_ℤ b
neg-add a b = omega (arith, ints)

pub neg-neg : (a : ℤ) → neg_ℤ (neg_ℤ a) ≡ a
neg-neg a = omega (arith, ints)

pub mul-zero : (a : ℤ) → a *ℤ pos 0 ≡ pos 0
mul-zero a = omega (arith, ints)

pub zero-mul : (a : ℤ) → pos 0 *ℤ a ≡ pos 0
zero-mul a = omega (arith, ints)

pub mul-one : (a : ℤ) → a *ℤ pos 1 ≡ a
mul-one a = omega (arith, ints)

pub one-mul : (a : ℤ) → pos 1 *ℤ a ≡ a
one-mul a = omega (arith, ints)

pub add_comm : (a b : ℤ) → a +ℤ b ≡ b +ℤ a
add_comm a b = omega (arith, ints)

pub add_assoc : (a b c : ℤ) → (a +ℤ b) +ℤ c ≡ a +ℤ (b +ℤ c)
add_assoc a b c = omega (arith, ints)

pub add-zero : (a : ℤ) → a +ℤ pos 0 ≡ a
add-zero a = omega (arith, ints)

pub zero-add : (a : ℤ) → pos 0 +ℤ a ≡ a
zero-add a = omega (arith, ints)

pub mul-sub : (c a b : ℤ) → c *ℤ (a -ℤ b) ≡ (c *ℤ a) -ℤ (c *ℤ b)
mul-sub c a b = mul-add c a (neg_ℤ b) ∙ ap (λ t. (c *ℤ a) +ℤ t) (mul-neg c b)

-- brings both sides of an equation of polynomials into one form, up to cancelling: `simp ring`
pub ruleset ring = (
  mul-add,
  add-mul,
  mul-neg,
  neg-mul,
  neg-add,
  neg-neg,
  mul_assoc,
  *ℤ_comm,
  mul_left_comm,
  add_assoc,
  add_comm,
  add_left_comm,
  mul-zero,
  zero-mul,
  mul-one,
  one-mul,
  add-zero,
  zero-add,
)
