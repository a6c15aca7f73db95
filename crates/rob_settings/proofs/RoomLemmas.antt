-- What is left of a room, payment after payment.
use Rattle.std.proofs.Common.{◌≡◌, ℕ, ◌+◌, ◌-◌, ◌<◌, ◌≤◌, Bool, true, false, Option, Some, None, refl, sym, ap, ◌∙◌, arith}
use Rattle.std.specs.Prelude.{nat_le}
use Rattle.std.proofs.lemmas.Bool.{leb-true, leb-false, le-leb, lt-leb}
use Rattle.rob_settings.specs.Room.{left_of, after}

pub left_some : (n room : ℕ) → n ≤ room → left_of n room ≡ Some (room - n)
left_some n room h = rw (le-leb n room h)

pub left_none : (n room : ℕ) → room < n → left_of n room ≡ None
left_none n room h = rw (lt-leb n room h)

-- nothing is spent
pub left_zero : (room : ℕ) → left_of 0 room ≡ Some room
left_zero room = left_some 0 room (omega arith) ∙ ap (λ (n : ℕ). Some n) (omega arith)

-- the same number of tokens
pub left_same : (m n room : ℕ) → m ≡ n → left_of m room ≡ left_of n room
left_same m n room e = ap (λ (k : ℕ). left_of k room) e

-- one payment after another
pub left_twice : (m n room : ℕ) → m ≤ room → left_of n (room - m) ≡ left_of (m + n) room
left_twice m n room h = go (nat_le n (room - m)) refl
  where
    go : (b : Bool) → nat_le n (room - m) ≡ b → left_of n (room - m) ≡ left_of (m + n) room
    go true e =
        let l : n ≤ room - m = leb-true n (room - m) e in
        let k : (room - m) - n ≡ room - (m + n) = omega arith in
        left_some n (room - m) l ∙ ap (λ (j : ℕ). Some j) k ∙ sym (left_some (m + n) room (omega arith))
    go false e =
        let l : room - m < n = leb-false n (room - m) e in
        left_none n (room - m) l ∙ sym (left_none (m + n) room (omega arith))

pub left_after : (m n room : ℕ) (f : ℕ → Option ℕ) → ((k : ℕ) → f k ≡ left_of n k)
    → after (left_of m room) f ≡ left_of (m + n) room
left_after m n room f h = go (nat_le m room) refl
  where
    go : (b : Bool) → nat_le m room ≡ b → after (left_of m room) f ≡ left_of (m + n) room
    go true e = let l : m ≤ room = leb-true m room e in rw (le-leb m room l) (h (room - m) ∙ left_twice m n room l)
    go false e = let l : room < m =
        leb-false m room e in rw (lt-leb m room l) (sym (left_none (m + n) room (omega arith)))

-- what is left says that it fits
pub some_fits : (n room left : ℕ) → left_of n room ≡ Some left → nat_le n room ≡ true
some_fits n room left is = go (nat_le n room) refl
  where
    go : (b : Bool) → nat_le n room ≡ b → nat_le n room ≡ true
    go true e = e
    go false e = let none = left_none n room (leb-false n room e) in let same : None ≡ Some left = sym none ∙ is in cc

-- where nothing is left it doesn't
pub none_fits : (n room : ℕ) → left_of n room ≡ None → nat_le n room ≡ false
none_fits n room is = go (nat_le n room) refl
  where
    go : (b : Bool) → nat_le n room ≡ b → nat_le n room ≡ false
    go true e = let some = left_some n room (leb-true n room e) in let same : Some (room - n) ≡ None =
        sym some ∙ is in cc
    go false e = e

pub none_less : (n room : ℕ) → left_of n room ≡ None → room < n
none_less n room is = leb-false n room (none_fits n room is)

-- where fewer don't fit, more don't
pub more_crowded : (m n room : ℕ) → m ≤ n → left_of m room ≡ None → left_of n room ≡ None
more_crowded m n room h is = let l = none_less m room is in left_none n room (omega (arith, h, l))
