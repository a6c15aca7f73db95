-- What is left behind an expression is what is left behind the canonical tokens of what it stands for.
use Rattle.std.proofs.Common.{◌≡◌, ℕ, ◌+◌, Bool, true, false, List, [], ◌∷◌, map, Option, refl, sym, ap, ◌∙◌, arith, ◌-◌, ◌<◌, ◌≤◌}
use Rattle.std.specs.Prelude.{ℤ, nat_le}
use Rattle.rob_index.specs.Statements.{Name, Plain}
use Rattle.rob_index.specs.Statements as stated
use Rattle.rob_index.specs.Expansion.{added, summed}
use Rattle.rob_index.specs.Forms.{values_of}
use Rattle.rob_index.specs.Counting.{lead, star, parens, plain_tokens, parts_tokens, factors_tokens}
use Rattle.rob_index.specs.Counting as counting
use Rattle.rob_expand.specs.declared.count.Shape.{Shape}
use Rattle.rob_expand.specs.declared.count.Shape.TheVariants.{Single, Sum, Product}
use Rattle.rob_expand.specs.declared.count.Counted.{Counted}
use Rattle.rob_settings.specs.Room.{left_of, after}
use Rattle.rob_expand.specs.Placed.{Placed, number, name, sum, product, over, Parts, no_parts, part, Factors, no_factors, factor}
use Rattle.rob_expand.specs.Standing.{plain_at, parts_at, factors_at}
use Rattle.rob_expand.specs.Count.{is_sum, is_compound, of_shape, part_left, factor_left, each_left, over_left, tree_left, parts_left, factors_left}
use Rattle.rob_settings.proofs.RoomLemmas.{left_zero, left_same, left_after, left_none, left_twice}
use Rattle.std.proofs.lemmas.Bool.{leb-true, leb-false, le-leb, lt-leb}

-- what stands around an expression behind it
pub shape_after : (shape : Shape) (m n room : ℕ) (f : Counted → Option ℕ)
    → ((k : ℕ) → f (record { left = k; shape = shape }) ≡ left_of n k)
    → after (of_shape shape (left_of m room)) f ≡ left_of (m + n) room
shape_after shape m n room f h = go (nat_le m room) refl
  where
    go : (b : Bool) → nat_le m room ≡ b → after (of_shape shape (left_of m room)) f ≡ left_of (m + n) room
    go true e = let l : m ≤ room = leb-true m room e in rw (le-leb m room l) (h (room - m) ∙ left_twice m n room l)
    go false e = let l : room < m =
        leb-false m room e in rw (lt-leb m room l) (sym (left_none (m + n) room (omega arith)))

-- what an expression is, as far as parentheses go
abbrev pub shape_of : Plain → Shape
shape_of (stated.number n) = Single
shape_of (stated.name n) = Single
shape_of (stated.sum ps) = Sum
shape_of (stated.product ps) = Product

module _ (limit : ℕ) where
  sum_is : (p : Plain) → is_sum (shape_of p) ≡ counting.is_sum limit p
  sum_is (stated.number n) = refl
  sum_is (stated.name n) = refl
  sum_is (stated.sum ps) = refl
  sum_is (stated.product ps) = refl

  compound_is : (p : Plain) → is_compound (shape_of p) ≡ counting.is_compound limit p
  compound_is (stated.number n) = refl
  compound_is (stated.name n) = refl
  compound_is (stated.sum ps) = refl
  compound_is (stated.product ps) = refl

  -- what is left behind an expression
  abbrev pub plain_left : Plain → ℕ → Option Counted
  plain_left p room = of_shape (shape_of p) (left_of (plain_tokens limit p) room)

  -- a part, and those behind it
  parted : (first minus : Bool) (p : Plain) (make : ℕ → Option Counted) (rest : ℕ → Option ℕ) (n room : ℕ)
      → ((k : ℕ) → make k ≡ plain_left p k) → ((k : ℕ) → rest k ≡ left_of n k)
      → after (part_left limit first minus make room) rest
      ≡ left_of (lead limit first minus + (parens limit (counting.is_sum limit p) + (plain_tokens limit p + n))) room
  parted first minus p make rest n room made behind =
      ap (λ (o : Option ℕ). after o rest)
      (left_after (lead limit first minus) (plain_tokens limit p + parens limit (is_sum (shape_of p))) room
      (λ room. after (make room) (λ c. left_of (parens limit (is_sum c.shape)) c.left))
      (λ k. ap (λ (o : Option Counted). after o (λ c. left_of (parens limit (is_sum c.shape)) c.left)) (made k)
      ∙ shape_after (shape_of p) (plain_tokens limit p) (parens limit (is_sum (shape_of p))) k
      (λ c. left_of (parens limit (is_sum c.shape)) c.left) (λ j. refl)))
      ∙ left_after (lead limit first minus + (plain_tokens limit p + parens limit (is_sum (shape_of p)))) n room rest
      behind
      ∙ left_same _ _ room (omega (arith, ap (parens limit) (sum_is p)))

  -- a factor, and those behind it
  factored : (first : Bool) (p : Plain) (make : ℕ → Option Counted) (rest : ℕ → Option ℕ) (n room : ℕ)
      → ((k : ℕ) → make k ≡ plain_left p k) → ((k : ℕ) → rest k ≡ left_of n k)
      → after (factor_left limit first make room) rest
      ≡ left_of (star limit first + (parens limit (counting.is_compound limit p) + (plain_tokens limit p + n))) room
  factored first p make rest n room made behind =
      ap (λ (o : Option ℕ). after o rest)
      (left_after (star limit first) (plain_tokens limit p + parens limit (is_compound (shape_of p))) room
      (λ room. after (make room) (λ c. left_of (parens limit (is_compound c.shape)) c.left))
      (λ k. ap (λ (o : Option Counted). after o (λ c. left_of (parens limit (is_compound c.shape)) c.left)) (made k)
      ∙ shape_after (shape_of p) (plain_tokens limit p) (parens limit (is_compound (shape_of p))) k
      (λ c. left_of (parens limit (is_compound c.shape)) c.left) (λ j. refl)))
      ∙ left_after (star limit first + (plain_tokens limit p + parens limit (is_compound (shape_of p)))) n room rest
      behind
      ∙ left_same _ _ room (omega (arith, ap (parens limit) (compound_is p)))

  -- one expression for each value
  module _ (f : ℤ → Plain) (make : ℤ → ℕ → Option Counted) (made : (v : ℤ) (k : ℕ) → make v k ≡ plain_left (f v) k)
    where
      each_is : (first : Bool) (vs : List ℤ) (room : ℕ)
          → each_left limit make first vs room ≡ left_of (parts_tokens limit first (added (map f vs))) room
      each_is first [] room = sym (left_zero room)
      each_is first (v ∷ vs) room =
          parted first false (f v) (make v) (each_left limit make false vs)
          (parts_tokens limit false (added (map f vs))) room (made v) (each_is false vs)

      over_is : (vs : List ℤ) (room : ℕ) → over_left limit make vs room ≡ plain_left (summed (map f vs)) room
      over_is [] room = refl
      over_is (v ∷ []) room = made v room
      over_is (v ∷ w ∷ vs) room = ap (of_shape Sum) (each_is true (v ∷ w ∷ vs) room)

  module _ (words : List Name) (print : ℤ → ℕ) where
    mutual
      pub tree_left_is : (p : Placed) (vs : List ℤ) (room : ℕ)
          → tree_left limit p vs room ≡ plain_left (plain_at words print p vs) room
      tree_left_is (number n) vs room = refl
      tree_left_is (name k xs) vs room = refl
      tree_left_is (sum ps) vs room = ap (of_shape Sum) (parts_left_are true ps vs room)
      tree_left_is (product ps) vs room = ap (of_shape Product) (factors_left_are true ps vs room)
      tree_left_is (over r p) vs room =
          over_is (λ v. plain_at words print p (v ∷ vs)) (λ v. tree_left limit p (v ∷ vs))
          (λ v k. tree_left_is p (v ∷ vs) k) (values_of r vs) room

      parts_left_are : (first : Bool) (ps : Parts) (vs : List ℤ) (room : ℕ)
          → parts_left limit first ps vs room ≡ left_of (parts_tokens limit first (parts_at words print ps vs)) room
      parts_left_are first no_parts vs room = sym (left_zero room)
      parts_left_are first (part minus p ps) vs room =
          parted first minus (plain_at words print p vs) (tree_left limit p vs) (parts_left limit false ps vs)
          (parts_tokens limit false (parts_at words print ps vs)) room (tree_left_is p vs) (parts_left_are false ps vs)

      factors_left_are : (first : Bool) (ps : Factors) (vs : List ℤ) (room : ℕ)
          → factors_left limit first ps vs room
          ≡ left_of (factors_tokens limit first (factors_at words print ps vs)) room
      factors_left_are first no_factors vs room = sym (left_zero room)
      factors_left_are first (factor p ps) vs room =
          factored first (plain_at words print p vs) (tree_left limit p vs) (factors_left limit false ps vs)
          (factors_tokens limit false (factors_at words print ps vs)) room (tree_left_is p vs)
          (factors_left_are false ps vs)
