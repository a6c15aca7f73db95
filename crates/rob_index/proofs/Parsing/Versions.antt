-- Of either version some symbols are one statement at most, and it is settled whether they are one.
use Rattle.std.proofs.Common.{◌≡◌, List, [], ◌∷◌, ◌⊎◌, inl, inr, Option, Some, None, refl}
use Rattle.rob_index.specs.Symbols.{Symbol}
use Rattle.rob_index.specs.Statements.{Ref, Ranged, Sides, Tree, TreeParts, TreeFactors, Indexed}
use Rattle.rob_index.specs.Statements as stated
use Rattle.rob_index.specs.Expansion.{IsPlain, ArePlainParts, ArePlainFactors}
use Rattle.rob_index.specs.PlainLines.{IsPlainRanged, HasPlainOver, ArePlainSides, IsPlainLine}
use Rattle.rob_index.specs.Lines.{IsStatement}
use Rattle.rob_index.specs.Reading.{Version, one, two, IsOf}
use Rattle.rob_index.proofs.Parsing.OneStatement.{one_statement}
use Rattle.rob_index.proofs.Parsing.Settled.{statement_settled}

abbrev Known : Type 0 → Type 0
Known A = A ⊎ (A → ⊥)

both : {A B : Type 0} → Known A → Known B → Known (A × B)
both (inl a) (inl b) = inl (a, b)
both (inl a) (inr b) = inr (λ p. b p.1)
both (inr a) b = inr (λ p. a p.0)

three : {A B C : Type 0} → Known A → Known B → Known C → Known (A × B × C)
three (inl a) (inl b) (inl c) = inl (a, b, c)
three (inl a) (inl b) (inr c) = inr (λ p. c p.2)
three (inl a) (inr b) c = inr (λ p. b p.1)
three (inr a) b c = inr (λ p. a p.0)

is_empty : {A : Type 0} (xs : List A) → Known (xs ≡ [])
is_empty [] = inl refl
is_empty (x ∷ xs) = inr (λ e. cc)

mutual
  plain_tree : (t : Tree) → Known (IsPlain t)
  plain_tree (stated.number n) = inl tt
  plain_tree (stated.ref r) = is_empty r.indices
  plain_tree (stated.sum ts) = plain_parts ts
  plain_tree (stated.product ts) = plain_factors ts
  plain_tree (stated.ranged r t) = inr (λ h. h)

  plain_parts : (ts : TreeParts) → Known (ArePlainParts ts)
  plain_parts stated.no_parts = inl tt
  plain_parts (stated.part minus t ts) = both (plain_tree t) (plain_parts ts)

  plain_factors : (ts : TreeFactors) → Known (ArePlainFactors ts)
  plain_factors stated.no_factors = inl tt
  plain_factors (stated.factor t ts) = both (plain_tree t) (plain_factors ts)

plain_ranged : {A : Type 0} (ref : A → Ref) (xs : List (Ranged A)) → Known (IsPlainRanged ref xs)
plain_ranged ref [] = inl tt
plain_ranged ref (x ∷ xs) = three (is_empty x.ranges) (is_empty (ref x.item).indices) (plain_ranged ref xs)

plain_over : (o : Option Ref) → Known (HasPlainOver o)
plain_over None = inl tt
plain_over (Some r) = is_empty r.indices

plain_sides : (s : Sides Tree) → Known (ArePlainSides s)
plain_sides s = three (plain_tree s.left) (plain_tree s.right) (plain_over s.over)

plain_line : (s : Indexed Tree) → Known (IsPlainLine s)
plain_line (stated.uncertain r b rs) = both (is_empty r.indices) (is_empty rs)
plain_line (stated.over r rs) = both (is_empty r.indices) (is_empty rs)
plain_line (stated.set s rs) = both (plain_sides s) (is_empty rs)
plain_line (stated.budget n ms o) = both (plain_ranged (λ m. m.name) ms) (plain_over o)
plain_line (stated.variable r b rs) = both (is_empty r.indices) (is_empty rs)
plain_line (stated.adaptive r on b rs) = three (is_empty r.indices) (plain_ranged (λ r. r) on) (is_empty rs)
plain_line (stated.goal s e o rs) = three (plain_tree e) (plain_over o) (is_empty rs)
plain_line (stated.row r s rs) = three (is_empty r.indices) (plain_sides s) (is_empty rs)

pub one_of : (v : Version) (symbols : List Symbol) (s t : Indexed Tree) → IsOf v symbols s → IsOf v symbols t → s ≡ t
one_of one symbols s t x y = one_statement symbols s t x.0 y.0
one_of two symbols s t x y = one_statement symbols s t x y

pub settled_of : (v : Version) (symbols : List Symbol)
    → ((s : Indexed Tree) × IsOf v symbols s) ⊎ ((s : Indexed Tree) → IsOf v symbols s → ⊥)
settled_of two symbols = statement_settled symbols
settled_of one symbols = go (statement_settled symbols)
  where
    plainly : (s : Indexed Tree) → IsStatement symbols s → Known (IsPlainLine s)
        → ((s : Indexed Tree) × IsOf one symbols s) ⊎ ((s : Indexed Tree) → IsOf one symbols s → ⊥)
    plainly s is (inl h) = inl (s, (is, h))
    plainly s is (inr none) = inr (λ t x. let e : t ≡ s = one_statement symbols t s x.0 is in none (moved e x.1))
      where
        moved : {t : Indexed Tree} → t ≡ s → IsPlainLine t → IsPlainLine s
        moved e h = rw e at h

    go : ((s : Indexed Tree) × IsStatement symbols s) ⊎ ((s : Indexed Tree) → IsStatement symbols s → ⊥)
        → ((s : Indexed Tree) × IsOf one symbols s) ⊎ ((s : Indexed Tree) → IsOf one symbols s → ⊥)
    go (inl x) = plainly x.0 x.1 (plain_line x.0)
    go (inr none) = inr (λ s x. none s x.0)
