-- The whole numbers as an ordered ring. (Birkhoff, Mac Lane, A Survey of Modern Algebra, chapter 1.)
use Rattle.std.specs.Prelude.{◌≡◌, ◌*◌, ℤ, pos, negsuc, ◌+ℤ◌, ◌-ℤ◌, ◌*ℤ◌, neg_ℤ, ◌≤ℤ◌, ◌<ℤ◌, ◌<◌, ◌⊎◌}
use Rattle.std.proofs.Common.{arith, inl, inr, mul-pos}
use Rattle.std.proofs.lemmas.Int.{ints}
use Rattle.rob_algebra.specs.Integer.{add-mul, neg-mul}

pub add_mono : (a b c d : ℤ) → a ≤ℤ b → c ≤ℤ d → (a +ℤ c) ≤ℤ (b +ℤ d)
add_mono a b c d h k = omega (arith, ints)

pub le_total : (a b : ℤ) → (a ≤ℤ b) ⊎ (b <ℤ a)
le_total a b = grind (arith, ints)

pub le_antisym : (a b : ℤ) → a ≤ℤ b → b ≤ℤ a → a ≡ b
le_antisym a b h k = omega (arith, ints)

pub le_trans_z : (a b c : ℤ) → a ≤ℤ b → b ≤ℤ c → a ≤ℤ c
le_trans_z a b c h k = omega (arith, ints)

pub mul_nonneg : (a b : ℤ) → pos 0 ≤ℤ a → pos 0 ≤ℤ b → pos 0 ≤ℤ (a *ℤ b)
mul_nonneg (pos a) (pos b) h k = omega (arith, ints)
mul_nonneg (negsuc a) b h k = absurd h.le
mul_nonneg (pos a) (negsuc b) h k = absurd k.le

pub mul-pos_z : (a b : ℤ) → pos 0 <ℤ a → pos 0 <ℤ b → pos 0 <ℤ (a *ℤ b)
mul-pos_z (pos a) (pos b) h k =
    let e : 0 < a * b = mul-pos (omega (arith, ints)) (omega (arith, ints)) in omega (arith, ints)
mul-pos_z (negsuc a) b h k = absurd h.lt
mul-pos_z (pos a) (negsuc b) h k = absurd k.lt

pub sub_nonneg : (a b : ℤ) → pos 0 ≤ℤ (b -ℤ a) → a ≤ℤ b
sub_nonneg a b h = omega (arith, ints)

pub nonneg_sub : (a b : ℤ) → a ≤ℤ b → pos 0 ≤ℤ (b -ℤ a)
nonneg_sub a b h = omega (arith, ints)

pub mul_mono : (a b c : ℤ) → a ≤ℤ b → pos 0 ≤ℤ c → (a *ℤ c) ≤ℤ (b *ℤ c)
mul_mono a b c h k =
    sub_nonneg (a *ℤ c) (b *ℤ c)
    (rw (← neg-mul a c, ← add-mul b (neg_ℤ a) c) (mul_nonneg (b -ℤ a) c (nonneg_sub a b h) k))

pub sub_pos : (a b : ℤ) → pos 0 <ℤ (b -ℤ a) → a <ℤ b
sub_pos a b h = omega (arith, ints)

pub pos_sub : (a b : ℤ) → a <ℤ b → pos 0 <ℤ (b -ℤ a)
pos_sub a b h = omega (arith, ints)

pub le_of_lt_z : (a b : ℤ) → a <ℤ b → a ≤ℤ b
le_of_lt_z a b h = omega (arith, ints)

-- a positive factor cancels
pub cancel_le : (a b c : ℤ) → pos 0 <ℤ c → (a *ℤ c) ≤ℤ (b *ℤ c) → a ≤ℤ b
cancel_le a b c h k = by (le_total a b)
  where
    by : (a ≤ℤ b) ⊎ (b <ℤ a) → a ≤ℤ b
    by (inl l) = l
    by (inr l) =
        let e : pos 0 <ℤ (a *ℤ c +ℤ neg_ℤ (b *ℤ c)) =
        rw (← neg-mul b c, ← add-mul a (neg_ℤ b) c) (mul-pos_z (a -ℤ b) c (pos_sub b a l) h) in
        absurd (omega (arith, ints))

pub cancel_eq : (a b c : ℤ) → pos 0 <ℤ c → a *ℤ c ≡ b *ℤ c → a ≡ b
cancel_eq a b c h e = le_antisym a b (cancel_le a b c h (omega (arith, ints))) (cancel_le b a c h (omega (arith, ints)))

pub cancel_lt : (a b c : ℤ) → pos 0 ≤ℤ c → (a *ℤ c) <ℤ (b *ℤ c) → a <ℤ b
cancel_lt a b c h k = by (le_total b a)
  where
    by : (b ≤ℤ a) ⊎ (a <ℤ b) → a <ℤ b
    by (inl l) = let e : (b *ℤ c) ≤ℤ (a *ℤ c) = mul_mono b a c l h in absurd (omega (arith, ints))
    by (inr l) = l

pub mul_mono_lt : (a b c : ℤ) → a <ℤ b → pos 0 <ℤ c → (a *ℤ c) <ℤ (b *ℤ c)
mul_mono_lt a b c h k =
    sub_pos (a *ℤ c) (b *ℤ c) (rw (← neg-mul a c, ← add-mul b (neg_ℤ a) c) (mul-pos_z (b -ℤ a) c (pos_sub a b h) k))

pub square_nonneg : (a : ℤ) → pos 0 ≤ℤ (a *ℤ a)
square_nonneg (pos n) = omega (arith, ints)
square_nonneg (negsuc n) = omega (arith, ints)

-- ---- with the common factor in front
pub mul_le_mul : (c a b : ℤ) → pos 0 ≤ℤ c → a ≤ℤ b → (c *ℤ a) ≤ℤ (c *ℤ b)
mul_le_mul c a b h k = omega (arith, ints, mul_mono a b c k h)

pub mul_cancel_le : (c a b : ℤ) → pos 0 <ℤ c → (c *ℤ a) ≤ℤ (c *ℤ b) → a ≤ℤ b
mul_cancel_le c a b h k = cancel_le a b c h (omega (arith, ints))

pub mul_cancel_lt : (c a b : ℤ) → pos 0 <ℤ c → (c *ℤ a) <ℤ (c *ℤ b) → a <ℤ b
mul_cancel_lt c a b h k = cancel_lt a b c (omega (arith, ints)) (omega (arith, ints))

pub mul_cancel : (c a b : ℤ) → pos 0 <ℤ c → c *ℤ a ≡ c *ℤ b → a ≡ b
mul_cancel c a b h k = cancel_eq a b c h (omega (arith, ints))

pub mul_cancel_zero : (c a : ℤ) → pos 0 <ℤ c → c *ℤ a ≡ pos 0 → a ≡ pos 0
mul_cancel_zero c a h k = mul_cancel c a (pos 0) h (omega (arith, ints))

pub mul_cancel_nonneg : (c a : ℤ) → pos 0 <ℤ c → pos 0 ≤ℤ (c *ℤ a) → pos 0 ≤ℤ a
mul_cancel_nonneg c a h k = mul_cancel_le c (pos 0) a h (omega (arith, ints))
