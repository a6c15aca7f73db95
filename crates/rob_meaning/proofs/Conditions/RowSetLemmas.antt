-- Each row stands with its set, and what holds of the numbers of a set holds of its rows.
use Rattle.std.proofs.Common.{ap, refl, arith}
use Rattle.std.proofs.lemmas.Nat.{div-mul-add}
use Rattle.std.specs.Prelude.{◌≡◌, ℕ, zero, suc, ◌+◌, ◌<◌, List, [], ◌∷◌, ◌++◌, length, map, get_or, slice_index_or, Option, Some, None}
use Rattle.rob_algebra.specs.Fraction.{Fraction}
use Rattle.rob_meaning.specs.Expressions.{Expression}
use Rattle.rob_meaning.specs.Forms.{sides}
use Rattle.rob_meaning.specs.Places.{Each, EachFrom}
use Rattle.rob_meaning.specs.RobustModel.{Member, Parameter, RobustModel, SetLine, budget, joint_number, line, line_set, written_count}
use Rattle.rob_meaning.specs.SetConditions.{if_declared}
use Rattle.rob_meaning.specs.SetRows.{SetRow, bound_row_sets, bound_rows, budget_row, expression_row, lower_row, member_row_sets, member_rows, set_of_parameter, set_row_sets, set_rows, statement_row_sets, statement_rows, upper_row}
use Rattle.rob_meaning.proofs.Lists.EachLemmas.{each_all}

-- ---- each row with its set
module _ {A : Type 0} (Q : ℕ → A → Type 0) where
  -- each item has the property with the number at its place, and there is a number for each
  abbrev pub Pairs : List ℕ → List A → Type 0
  Pairs [] [] = Unit {0}
  Pairs [] (x ∷ xs) = ⊥
  Pairs (S ∷ Ss) [] = ⊥
  Pairs (S ∷ Ss) (x ∷ xs) = Q S x × Pairs Ss xs

  pub pairs_append : (Ss Ts : List ℕ) (xs ys : List A) → Pairs Ss xs → Pairs Ts ys → Pairs (Ss ++ Ts) (xs ++ ys)
  pairs_append [] Ts [] ys h k = k
  pairs_append [] Ts (x ∷ xs) ys h k = absurd h
  pairs_append (S ∷ Ss) Ts [] ys h k = absurd h
  pairs_append (S ∷ Ss) Ts (x ∷ xs) ys h k = (h.0, pairs_append Ss Ts xs ys h.1 k)

  pub pairs_length : (Ss : List ℕ) (xs : List A) → Pairs Ss xs → length Ss ≡ length xs
  pairs_length [] [] h = refl
  pairs_length [] (x ∷ xs) h = absurd h
  pairs_length (S ∷ Ss) [] h = absurd h
  pairs_length (S ∷ Ss) (x ∷ xs) h = ap suc (pairs_length Ss xs h.1)

  pub pairs_get : (B : Type 0) (f : A → B) (none : B) (Ss : List ℕ) (xs : List A) → Pairs Ss xs → (i : ℕ) →
      i < length xs →
      (x : A) × Q (get_or Ss i 0) x × (slice_index_or (map f xs) i none ≡ f x)
  pairs_get B f none [] [] h i some = absurd (omega arith)
  pairs_get B f none [] (x ∷ xs) h i some = absurd h
  pairs_get B f none (S ∷ Ss) [] h i some = absurd h
  pairs_get B f none (S ∷ Ss) (x ∷ xs) h zero some = (x, h.0, refl)
  pairs_get B f none (S ∷ Ss) (x ∷ xs) h (suc i) some = pairs_get B f none Ss xs h.1 i (omega arith)

  pairs_declared : (S : ℕ) (f : Fraction → A) (o : Option Fraction) → Each (Q S) (if_declared f o) →
      Pairs (if_declared (λ b. S) o) (if_declared f o)
  pairs_declared S f None h = tt
  pairs_declared S f (Some b) h = (h.0, tt)

  pairs_mapped : (B : Type 0) (S : ℕ) (f : B → A) (ys : List B) → Each (Q S) (map f ys) →
      Pairs (map (λ y. S) ys) (map f ys)
  pairs_mapped B S f [] h = tt
  pairs_mapped B S f (y ∷ ys) h = (h.0, pairs_mapped B S f ys h.1)

module _ (m : RobustModel) (Q : ℕ → SetRow → Type 0) where
  -- the rows of the declared bounds
  abbrev pub BoundsHave : ℕ → Parameter → Type 0
  BoundsHave k p =
      Each (Q (set_of_parameter m k)) (if_declared (lower_row k) p.lower)
      × Each (Q (set_of_parameter m k)) (if_declared (upper_row k) p.upper)

  bound_pairs : (k : ℕ) (ps : List Parameter) → EachFrom k BoundsHave ps →
      Pairs Q (bound_row_sets m k ps) (bound_rows k ps)
  bound_pairs k [] h = tt
  bound_pairs k (p ∷ ps) h =
      pairs_append Q
      (if_declared (λ l. set_of_parameter m k) p.lower ++ if_declared (λ b. set_of_parameter m k) p.upper)
      (bound_row_sets m (suc k) ps)
      (if_declared (lower_row k) p.lower ++ if_declared (upper_row k) p.upper) (bound_rows (suc k) ps)
      (pairs_append Q
      (if_declared (λ l. set_of_parameter m k) p.lower) (if_declared (λ b. set_of_parameter m k) p.upper)
      (if_declared (lower_row k) p.lower) (if_declared (upper_row k) p.upper)
      (pairs_declared Q (set_of_parameter m k) (lower_row k) p.lower h.0.0)
      (pairs_declared Q (set_of_parameter m k) (upper_row k) p.upper h.0.1))
      (bound_pairs (suc k) ps h.1)

  member_pairs : (S t : ℕ) (hs : List Member) → Each (Q S) (member_rows t hs) →
      Pairs Q (member_row_sets m S hs) (member_rows t hs)
  member_pairs S t [] h = tt
  member_pairs S t (b ∷ hs) h = (h.0, (h.1.0, member_pairs S (suc t) hs h.1.1))

  -- the rows of the statements, where the next column t has number `t`
  abbrev pub StatementsHave : ℕ → ℕ → List SetLine → Type 0
  StatementsHave i t [] = Unit {0}
  StatementsHave i t (line left relation right ∷ rest) =
      Each (Q (line_set m i)) (map (expression_row m) (sides relation left right)) × StatementsHave (suc i) t rest
  StatementsHave i t (budget limit members ∷ rest) =
      (Each (Q (line_set m i)) (member_rows t members) × Q (line_set m i) (budget_row t limit members))
      × StatementsHave (suc i) (length members + t) rest

  statement_pairs : (i t : ℕ) (cs : List SetLine) → StatementsHave i t cs →
      Pairs Q (statement_row_sets m i cs) (statement_rows m t cs)
  statement_pairs i t [] h = tt
  statement_pairs i t (line left relation right ∷ rest) h =
      pairs_append Q (map (λ side. line_set m i) (sides relation left right)) (statement_row_sets m (suc i) rest)
      (map (expression_row m) (sides relation left right)) (statement_rows m t rest)
      (pairs_mapped Q Expression (line_set m i) (expression_row m) (sides relation left right) h.0)
      (statement_pairs (suc i) t rest h.1)
  statement_pairs i t (budget limit members ∷ rest) h =
      pairs_append Q (member_row_sets m (line_set m i) members) (line_set m i ∷ statement_row_sets m (suc i) rest)
      (member_rows t members) (budget_row t limit members ∷ statement_rows m (length members + t) rest)
      (member_pairs (line_set m i) t members h.0.0)
      (h.0.1, statement_pairs (suc i) (length members + t) rest h.1)

  pub row_pairs : EachFrom zero BoundsHave m.parameters → StatementsHave zero zero m.set_lines →
      Pairs Q (set_row_sets m) (set_rows m)
  row_pairs h k =
      pairs_append Q (bound_row_sets m zero m.parameters) (statement_row_sets m zero m.set_lines)
      (bound_rows zero m.parameters) (statement_rows m zero m.set_lines)
      (bound_pairs zero m.parameters h) (statement_pairs zero zero m.set_lines k)

-- each item has a property of its number, where that is below the end
pub each_below : {A : Type 0} (P : ℕ → A → Type 0) (n k : ℕ) (xs : List A) → k + length xs ≡ n →
    ((j : ℕ) (x : A) → j < n → P j x) → EachFrom k P xs
each_below P n k [] e h = tt
each_below P n k (x ∷ xs) e h = (h k x (omega arith), each_below P n (suc k) xs (omega arith) h)

-- ---- properties of the set alone
module _ (m : RobustModel) where
  module _ (P : ℕ → Type 0) where
    -- the set has the property
    abbrev pub OfSet : ℕ → SetRow → Type 0
    OfSet S r = P S

    statements_of : (i t : ℕ) (cs : List SetLine) → EachFrom i (λ i c. P (line_set m i)) cs →
        StatementsHave m OfSet i t cs
    statements_of i t [] h = tt
    statements_of i t (line left relation right ∷ rest) h = (
      each_all (OfSet (line_set m i)) (λ r. h.0) (map (expression_row m) (sides relation left right)),
      statements_of (suc i) t rest h.1,
    )
    statements_of i t (budget limit members ∷ rest) h = (
      (each_all (OfSet (line_set m i)) (λ r. h.0) (member_rows t members), h.0),
      statements_of (suc i) (length members + t) rest h.1,
    )

    pub pairs_of : ((k : ℕ) → k < length m.parameters → P (set_of_parameter m k)) →
        EachFrom zero (λ i (c : SetLine). P (line_set m i)) m.set_lines → Pairs OfSet (set_row_sets m) (set_rows m)
    pairs_of h l =
        row_pairs m OfSet
        (each_below (BoundsHave m OfSet) (length m.parameters) zero m.parameters (omega arith)
        (λ k p small. (
          each_all (OfSet (set_of_parameter m k)) (λ r. h k small) (if_declared (lower_row k) p.lower),
          each_all (OfSet (set_of_parameter m k)) (λ r. h k small) (if_declared (upper_row k) p.upper),
        )))
        (statements_of zero zero m.set_lines l)

  pub length-row_sets : length (set_row_sets m) ≡ length (set_rows m)
  length-row_sets =
      pairs_length (OfSet (λ S. Unit {0})) (set_row_sets m) (set_rows m)
      (pairs_of (λ S. Unit {0}) (λ k small. tt)
      (each_below (λ i (c : SetLine). Unit {0}) (length m.set_lines) zero m.set_lines (omega arith) (λ i c small. tt)))

  pub set_of_joint : (S k : ℕ) → k < written_count m → set_of_parameter m (joint_number m S k) ≡ S
  set_of_joint S k small = div-mul-add S (written_count m) k small
