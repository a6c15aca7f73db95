-- The ranges around a place by their names and the forms of their ends: one range more, one fewer.
use Rattle.std.proofs.Common.{◌≡◌, ◌+◌, ℕ, ◌==◌, Bool, true, false, List, [], ◌∷◌, ◌++◌, length, refl, ap, ◌∙◌, arith}
use Rattle.std.specs.Prelude.{◌||◌, not}
use Rattle.std.specs.List.{list_any}
use Rattle.rob_index.specs.Statements.{Atom, digits, bound, Step, Index, Range}
use Rattle.rob_index.specs.Forms.{Ends}
use Rattle.rob_index.specs.Places.{under}
use Rattle.rob_index.specs.Rules.{is_bound, is_unbound_atom, has_unbound}
use Rattle.rob_index.specs.Fast.{ends_of, nest_of, names_in}
use Rattle.rob_index.proofs.LinesRead.ListLemmas.{or_false}
use Rattle.rob_ranges.proofs.NestLists.{all_but_last_is}
use Rattle.rob_places.specs.Around.{Around, inside, outside, around_of, binds, is_loose, has_loose}

names_last : (inner : List ℕ) (rs : List Range) (r : Range)
    → r.name ∷ names_in inner rs ≡ names_in inner (rs ++ r ∷ [])
names_last inner [] r = refl
names_last inner (q ∷ rs) r = names_last (q.name ∷ inner) rs r

names_length_in : (inner : List ℕ) (rs : List Range) → length (names_in inner rs) ≡ length rs + length inner
names_length_in inner [] = omega arith
names_length_in inner (r ∷ rs) = let h = names_length_in (r.name ∷ inner) rs in omega (arith, h)

pub names_length : (rs : List Range) → length (names_in [] rs) ≡ length rs
names_length rs = let h = names_length_in [] rs in omega (arith, h)

nest_last : (inner : List ℕ) (rs : List Range) (r : Range)
    → nest_of inner rs ++ ends_of (names_in inner rs) r ∷ [] ≡ nest_of inner (rs ++ r ∷ [])
nest_last inner [] r = refl
nest_last inner (q ∷ rs) r = ap (λ (es : List Ends). ends_of inner q ∷ es) (nest_last (q.name ∷ inner) rs r)

-- one range more
pub inside_is : (above : List Range) (r : Range) → inside (around_of above) r ≡ around_of (under above r)
inside_is above r = λ i. record { names = names_last [] above r i; nest = nest_last [] above r i }

-- one fewer
pub outside_is : (a : Around) (r : Range) → outside (inside a r) ≡ a
outside_is a r = λ i. record { names = a.names; nest = all_but_last_is a.nest (ends_of a.names r) i }

-- ---- names
either_way : (a b c : Bool) → (a || (b || c)) ≡ ((b || a) || c)
either_way true true c = refl
either_way true false c = refl
either_way false true c = refl
either_way false false c = refl

bound_in : (k : ℕ) (inner : List ℕ) (rs : List Range)
    → list_any (λ (n : ℕ). n == k) (names_in inner rs)
    ≡ (list_any (λ (r : Range). r.name == k) rs || list_any (λ (n : ℕ). n == k) inner)
bound_in k inner [] = refl
bound_in k inner (r ∷ rs) =
    bound_in k (r.name ∷ inner) rs
    ∙ either_way (list_any (λ (r : Range). r.name == k) rs) (r.name == k) (list_any (λ (n : ℕ). n == k) inner)

module _ (is_declared : ℕ → Bool) where
  pub binds_is : (above : List Range) (k : ℕ) → binds (around_of above) k ≡ is_bound is_declared above k
  binds_is above k = bound_in k [] above ∙ or_false (is_bound is_declared above k)

  loose_is : (above : List Range) (t : Atom) → is_loose (around_of above) t ≡ is_unbound_atom is_declared above t
  loose_is above (digits n) = refl
  loose_is above (bound k) = ap not (binds_is above k)

  steps_loose : (above : List Range) (ss : List Step)
      → list_any (λ (s : Step). is_loose (around_of above) s.atom) ss
      ≡ list_any (λ (s : Step). is_unbound_atom is_declared above s.atom) ss
  steps_loose above [] = refl
  steps_loose above (s ∷ ss) = λ i. loose_is above s.atom i || steps_loose above ss i

  pub has_loose_is : (above : List Range) (x : Index)
      → has_loose (around_of above) x ≡ has_unbound is_declared above x
  has_loose_is above x = λ i. loose_is above x.first i || steps_loose above x.more i
