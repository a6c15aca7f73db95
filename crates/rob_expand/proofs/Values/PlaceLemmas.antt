-- What is placed of the code's trees, level by level; lists that are placed item by item.
use Rattle.std.proofs.Common.{◌≡◌, ℕ, Bool, true, false, ◌+◌, ◌<◌, ◌≤◌, List, [], ◌∷◌, ◌++◌, length, map, take, get_or, rules, sym, ap, ◌∙◌, subst}
use Rattle.std.specs.declared.alloc.Global.{Global}
use Rattle.std.specs.declared.boxed.Box.{Box}
use Rattle.std.proofs.lemmas.List.{take_all, take_more}
use Rattle.rob_index.specs.Fast.{index_form, ends_of, nothing}
use Rattle.rob_index.specs.Forms.{Form, length_form}
use Rattle.rob_index.specs.Statements as stated
use Rattle.rob_syntax.specs.declared.syntax.Index.{Index}
use Rattle.rob_syntax.specs.declared.syntax.Numeral.{Numeral}
use Rattle.rob_syntax.specs.declared.syntax.Part.{Part as Given}
use Rattle.rob_syntax.specs.declared.syntax.Range.{Range}
use Rattle.rob_syntax.specs.declared.syntax.Ref.{Ref}
use Rattle.rob_syntax.specs.declared.syntax.Tree.{Tree as GivenTree}
use Rattle.rob_syntax.specs.declared.syntax.Tree.TheVariants as given
use Rattle.rob_syntax.specs.Seen.{SeenPart, seen_index, seen_numeral, seen_part, seen_range, seen_tree}
use Rattle.rob_syntax.proofs.Fronts.TreeLemmas as shown
use Rattle.rob_settings.specs.declared.item.Named.{Named}
use Rattle.rob_expand.specs.declared.placed.Part.{Part as CodePart}
use Rattle.rob_expand.specs.declared.placed.Placed.{Placed as Code, the_lemmas}
use Rattle.rob_expand.specs.declared.placed.Placed.TheVariants as code
use Rattle.rob_expand.specs.declared.scope.Binding.{Binding}
use Rattle.rob_expand.specs.Placed.{Placed, Part, number, name, sum, product, over, placed_of, part_of, parts_of, factors_of}
use Rattle.rob_expand.specs.Placing.{placed_tree}
use Rattle.rob_expand.specs.Scopes.{Scope, IsAlike, IsIndex, IsNothing, IsPart, IsPlaced, IsPutIn, Pairwise}
use Rattle.rob_expand.proofs.Values.AlikeLemmas.{number_alike, name_alike, sum_alike, product_alike, over_alike, single_alike}
use Rattle.rob_expand.proofs.Counting.StepLemmas.{part_is}

-- ---- names that another place shows
pub placed_as : {shown : Scope} (names : Scope) (p : Code) (t : stated.Tree) → shown ≡ names
    → IsPlaced shown.bound shown.names p t → IsPlaced names.bound names.names p t
placed_as names p t same h = subst (λ (s : Scope). IsPlaced s.bound s.names p t) same h

-- ---- item by item
pairs_with : {A B : Type 0} (Holds : A → B → Type 0) (xs : List A) (ys : List B) (x : A) (y : B)
    → Pairwise Holds xs ys → Holds x y → Pairwise Holds (xs ++ x ∷ []) (ys ++ y ∷ [])
pairs_with Holds [] [] x y h k = (k, tt)
pairs_with Holds [] (z ∷ ys) x y h k = absurd h
pairs_with Holds (z ∷ xs) [] x y h k = absurd h
pairs_with Holds (z ∷ xs) (w ∷ ys) x y h k = (h.0, pairs_with Holds xs ys x y h.1 k)

-- none is placed, one more, and all
pub pairs_none : {A B : Type 0} (Holds : A → B → Type 0) (done : List A) (xs : List B) → done ≡ []
    → Pairwise Holds done (take 0 xs)
pairs_none {A} {B} Holds done xs none = subst (λ (l : List A). Pairwise Holds l (take 0 xs)) (sym none) tt

pub pairs_more : {A B : Type 0} (Holds : A → B → Type 0) (done next : List A) (xs : List B) (i : ℕ) (y : B) (x : A)
    → i < length xs → y ≡ get_or xs i y → next ≡ done ++ x ∷ [] → Holds x y → Pairwise Holds done (take i xs)
    → Pairwise Holds next (take (i + 1) xs)
pairs_more {A} {B} Holds done next xs i y x inside is pushed holds so_far =
    let with_it : take i xs ++ y ∷ [] ≡ take (i + 1) xs =
    ap (λ (z : B). take i xs ++ z ∷ []) is ∙ sym (take_more xs i y inside) in
    subst (λ (l : List A). Pairwise Holds l (take (i + 1) xs)) (sym pushed)
    (subst (λ (l : List B). Pairwise Holds (done ++ x ∷ []) l) with_it
    (pairs_with Holds done (take i xs) x y so_far holds))

pub pairs_all : {A B : Type 0} (Holds : A → B → Type 0) (done : List A) (xs : List B) (i : ℕ) → length xs ≤ i
    → Pairwise Holds done (take i xs) → Pairwise Holds done xs
pairs_all {A} {B} Holds done xs i all so_far =
    subst (λ (l : List B). Pairwise Holds done l) (take_all i xs all) so_far

-- of lists that are shown otherwise
pub pairs_shown : {A B : Type 0} (Holds : A → B → Type 0) (xs : List A) {shown ys : List B} → shown ≡ ys
    → Pairwise Holds xs shown → Pairwise Holds xs ys
pairs_shown {A} {B} Holds xs same h = subst (λ (l : List B). Pairwise Holds xs l) same h

mapped_pairs : {A B C D : Type 0} (Holds : C → D → Type 0) (f : A → C) (g : B → D) (xs : List A) (ys : List B)
    → Pairwise (λ x y. Holds (f x) (g y)) xs ys → Pairwise Holds (map f xs) (map g ys)
mapped_pairs Holds f g [] [] h = tt
mapped_pairs Holds f g [] (y ∷ ys) h = absurd h
mapped_pairs Holds f g (x ∷ xs) [] h = absurd h
mapped_pairs Holds f g (x ∷ xs) (y ∷ ys) h = (h.0, mapped_pairs Holds f g xs ys h.1)

-- ---- the code's placed trees
number_of : (n : Numeral) → placed_of (code.Number n) ≡ number (seen_numeral n)
number_of n = search (rules, the_lemmas)

name_of : (n : Named) → placed_of (code.Name n) ≡ name n.word n.indices
name_of n = search (rules, the_lemmas)

sum_of : (ps : List CodePart) → placed_of (code.Sum ps) ≡ sum (parts_of (map part_of ps))
sum_of ps = search (rules, the_lemmas)

product_of : (ps : List Code) → placed_of (code.Product ps) ≡ product (factors_of (map placed_of ps))
product_of ps = search (rules, the_lemmas)

module _ (bound : List Binding) (names : List ℕ) where
  -- what is said of one expression is said of the same one
  moved_alike : {p q : Placed} {s t : stated.Tree} → q ≡ p → t ≡ s → IsAlike bound p (placed_tree names s)
      → IsAlike bound q (placed_tree names t)
  moved_alike {p = p} {q = q} {s = s} {t = t} q_is t_is h =
      subst (λ (x : Placed). IsAlike bound x (placed_tree names t)) (sym q_is)
      (subst (λ (u : stated.Tree). IsAlike bound p (placed_tree names u)) (sym t_is) h)

  pub number_placed : (x : GivenTree) (n : Numeral) → x ≡ given.Number n
      → IsPlaced bound names (code.Number n) (seen_tree x)
  number_placed x n is =
      moved_alike (number_of n) (ap seen_tree is ∙ shown.number_is n) (number_alike bound (seen_numeral n))

  indices_placed : (fs : List Form) (xs : List Index)
      → Pairwise (λ f x. IsIndex bound names f (seen_index x)) fs xs
      → Pairwise (IsPutIn bound) fs (map (index_form names) (map seen_index xs))
  indices_placed [] [] h = tt
  indices_placed [] (x ∷ xs) h = absurd h
  indices_placed (f ∷ fs) [] h = absurd h
  indices_placed (f ∷ fs) (x ∷ xs) h = (h.0, indices_placed fs xs h.1)

  pub ref_placed : (x : GivenTree) (r : Ref) (n : Named) → x ≡ given.Ref r → n.word ≡ r.name
      → Pairwise (λ f i. IsIndex bound names f (seen_index i)) n.indices r.indices
      → IsPlaced bound names (code.Name n) (seen_tree x)
  ref_placed x r n is word indices =
      moved_alike (name_of n ∙ ap (λ (k : ℕ). name k n.indices) word) (ap seen_tree is ∙ shown.ref_is r)
      (name_alike bound r.name n.indices (map (index_form names) (map seen_index r.indices))
      (indices_placed n.indices r.indices indices))

  pub sum_placed : (x : GivenTree) (xs items : List Given) (ps : List CodePart) → x ≡ given.Sum xs → items ≡ xs
      → Pairwise (λ p y. IsPart bound names (part_of p) (seen_part y)) ps items
      → IsPlaced bound names (code.Sum ps) (seen_tree x)
  sum_placed x xs items ps is same parts =
      moved_alike (sum_of ps)
      (ap seen_tree is ∙ ap (λ (l : List Given). seen_tree (given.Sum l)) (sym same) ∙ shown.sum_is items)
      (sum_alike bound names (map part_of ps) (map seen_part items)
      (mapped_pairs (IsPart bound names) part_of seen_part ps items parts))

  pub product_placed : (x : GivenTree) (xs items : List GivenTree) (ps : List Code) → x ≡ given.Product xs
      → items ≡ xs → Pairwise (λ p y. IsPlaced bound names p (seen_tree y)) ps items
      → IsPlaced bound names (code.Product ps) (seen_tree x)
  product_placed x xs items ps is same factors =
      moved_alike (product_of ps)
      (ap seen_tree is ∙ ap (λ (l : List GivenTree). seen_tree (given.Product l)) (sym same)
      ∙ shown.product_is items)
      (product_alike bound names (map placed_of ps) (map seen_tree items)
      (mapped_pairs (λ (p : Placed) (t : stated.Tree). IsAlike bound p (placed_tree names t)) placed_of seen_tree ps
      items factors))

  -- a signed part
  pub part_placed : (x : Given) (p : CodePart) → p.minus ≡ x.minus → IsPlaced bound names p.inner (seen_tree x.inner)
      → IsPart bound names (part_of p) (seen_part x)
  part_placed x p minus inner =
      subst (λ (q : Part). IsPart bound names q (seen_part x)) (sym (part_is p))
      (subst (λ (y : SeenPart). IsPart bound names (record { minus = p.minus; inner = placed_of p.inner }) y)
      (sym (shown.part_is x)) (minus, inner))

  -- ---- a sum over a range
  abbrev whole_of : Range → GivenTree → Placed
  whole_of r t = over (ends_of names (seen_range r)) (placed_tree (r.name ∷ names) (seen_tree t))

  pub ranged_placed : (x : GivenTree) (r : Range) (b : Box GivenTree Global) (t : GivenTree) (p : Code)
      → x ≡ given.Ranged r b → t ≡ b.value → IsAlike bound (placed_of p) (whole_of r t)
      → IsPlaced bound names p (seen_tree x)
  ranged_placed x r b t p is same h =
      subst (λ (u : stated.Tree). IsAlike bound (placed_of p) (placed_tree names u))
      (ap (λ (t : GivenTree). stated.ranged (seen_range r) (seen_tree t)) same ∙ sym (shown.ranged_is r b)
      ∙ sym (ap seen_tree is)) h

  module _ (from length : Form) (r : Range) (t : GivenTree) (from_is : IsIndex bound names from (seen_index r.from))
      (length_is : IsPutIn bound length (length_form (ends_of names (seen_range r)))) (moves : Bool) (within : Scope)
      (within_is : within
      ≡ record { names = r.name ∷ names; bound = record { moves = moves; start = from } ∷ bound })
      (p : Code) (placed : IsPlaced within.bound within.names p (seen_tree t)) where
    abbrev inner : Placed
    inner = placed_tree (r.name ∷ names) (seen_tree t)

    alike_in : (m : Bool) → moves ≡ m → IsAlike (record { moves = m; start = from } ∷ bound) (placed_of p) inner
    alike_in m is =
        subst (λ (x : Bool). IsAlike (record { moves = x; start = from } ∷ bound) (placed_of p) inner) is
        (subst (λ (s : Scope). IsAlike s.bound (placed_of p) (placed_tree s.names (seen_tree t))) within_is placed)

    -- that has one value
    pub single_placed : IsNothing length → moves ≡ false → IsAlike bound (placed_of p) (whole_of r t)
    single_placed none is =
        single_alike bound (ends_of names (seen_range r)) from length from_is length_is (placed_of p) inner none
        (alike_in false is)

    -- or may have more
    pub over_is_placed : moves ≡ true → (whole : Code)
        → placed_of whole ≡ over (record { from = nothing; upto = length }) (placed_of p)
        → IsAlike bound (placed_of whole) (whole_of r t)
    over_is_placed is whole whole_is =
        subst (λ (q : Placed). IsAlike bound q (whole_of r t)) (sym whole_is)
        (over_alike bound (ends_of names (seen_range r)) from length from_is length_is (placed_of p) inner
        (alike_in true is))
