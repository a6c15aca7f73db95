-- Lists that consist of one block for each cell, and what is said of each item by its cell.
use Rattle.std.specs.Prelude.{◌≡◌, ℕ, zero, suc, ◌+◌, ◌<◌, List, [], ◌∷◌, ◌++◌, map, flat_map, get_or}
use Rattle.std.proofs.Common.{sym, ◌∙◌, ap, subst, arith}
use Rattle.rob_meaning.proofs.Lists.EachLemmas.{each_append}
use Rattle.rob_meaning.proofs.Lists.TabulateLemmas.{each_tabulate}
use Rattle.rob_meaning.specs.Places.{Each, EachFrom, tabulate}
use Rattle.rob_pieces.specs.Cuts.{Cut, IsCell, cell_count, cell_numbers}

-- ---- over tabulated lists
module _ {A : Type 0} (P : A → Type 0) where
  pub tabulate_each : (n : ℕ) (f : ℕ → A) → Each P (tabulate n f) → (i : ℕ) → i < n → P (f i)
  tabulate_each zero f h i some = absurd (omega arith)
  tabulate_each (suc n) f h zero some = h.0
  tabulate_each (suc n) f h (suc i) some = tabulate_each n (λ i. f (suc i)) h.1 i (omega arith)

-- each cell
module _ (cuts : List Cut) (P : ℕ → Type 0) where
  pub each_cell : ((c : ℕ) → IsCell cuts c → P c) → Each P (cell_numbers cuts)
  each_cell h = each_tabulate P (cell_count cuts) suc (λ i some. h (suc i) (omega arith, omega arith))

  pub cell_each : Each P (cell_numbers cuts) → (c : ℕ) → IsCell cuts c → P c
  cell_each h zero cell = absurd (let z = cell.0 in omega arith)
  cell_each h (suc i) cell = tabulate_each P (cell_count cuts) suc h i (let small = cell.1 in omega arith)

-- the labels from number k on
abbrev IsFrom : List ℕ → ℕ → List ℕ → Type 0
IsFrom all k labels = (i : ℕ) → get_or all (k + i) 0 ≡ get_or labels i 0

first_of : (all labels : List ℕ) (k : ℕ) → IsFrom all k labels → get_or all k 0 ≡ get_or labels 0 0
first_of all labels k e = ap (λ j. get_or all j 0) (let e : k ≡ k + 0 = omega arith in e) ∙ e 0

next_of : (all labels : List ℕ) (l k : ℕ) → IsFrom all k (l ∷ labels) → IsFrom all (suc k) labels
next_of all labels l k e i = ap (λ j. get_or all j 0) (let e : suc k + i ≡ k + suc i = omega arith in e) ∙ e (suc i)

none_of : (all : List ℕ) (k : ℕ) → IsFrom all k [] → IsFrom all (suc k) []
none_of all k e i = ap (λ j. get_or all j 0) (let e : suc k + i ≡ k + suc i = omega arith in e) ∙ e (suc i)

from_zero : (all : List ℕ) → IsFrom all 0 all
from_zero all i = ap (λ j. get_or all j 0) (let e : 0 + i ≡ i = omega arith in e)

-- ---- by block
module _ {A : Type 0} where
  pub each_flat : (P : A → Type 0) (f : ℕ → List A) (cs : List ℕ) → Each (λ c. Each P (f c)) cs → Each P (flat_map f cs)
  each_flat P f [] h = tt
  each_flat P f (c ∷ cs) h = each_append P (f c) (flat_map f cs) h.0 (each_flat P f cs h.1)

  -- each item has the property with its label; what has no label has 0
  abbrev pub EachAs : (ℕ → A → Type 0) → List ℕ → List A → Type 0
  EachAs P labels [] = Unit {0}
  EachAs P [] (x ∷ xs) = P 0 x × EachAs P [] xs
  EachAs P (l ∷ labels) (x ∷ xs) = P l x × EachAs P labels xs

  module _ (P : ℕ → A → Type 0) (all : List ℕ) where
    pub as_from : (labels : List ℕ) (k : ℕ) (xs : List A) → IsFrom all k labels → EachAs P labels xs →
        EachFrom k (λ i x. P (get_or all i 0) x) xs
    as_from labels k [] e h = tt
    as_from [] k (x ∷ xs) e h =
        (subst (λ l. P l x) (sym (first_of all [] k e)) h.0, as_from [] (suc k) xs (none_of all k e) h.1)
    as_from (l ∷ labels) k (x ∷ xs) e h = (
      subst (λ l. P l x) (sym (first_of all (l ∷ labels) k e)) h.0,
      as_from labels (suc k) xs (next_of all labels l k e) h.1,
    )

    pub from_as : (labels : List ℕ) (k : ℕ) (xs : List A) → IsFrom all k labels →
        EachFrom k (λ i x. P (get_or all i 0) x) xs → EachAs P labels xs
    from_as labels k [] e h = tt
    from_as [] k (x ∷ xs) e h =
        (subst (λ l. P l x) (first_of all [] k e) h.0, from_as [] (suc k) xs (none_of all k e) h.1)
    from_as (l ∷ labels) k (x ∷ xs) e h = (
      subst (λ l. P l x) (first_of all (l ∷ labels) k e) h.0,
      from_as labels (suc k) xs (next_of all labels l k e) h.1,
    )

  module _ (P : ℕ → A → Type 0) where
    as_append : (c : ℕ) (labels : List ℕ) (xs ys : List A) → Each (P c) xs → EachAs P labels ys →
        EachAs P (map (λ x. c) xs ++ labels) (xs ++ ys)
    as_append c labels [] ys h k = k
    as_append c labels (x ∷ xs) ys h k = (h.0, as_append c labels xs ys h.1 k)

    as_left : (c : ℕ) (labels : List ℕ) (xs ys : List A)
        → EachAs P (map (λ x. c) xs ++ labels) (xs ++ ys) → Each (P c) xs
    as_left c labels [] ys h = tt
    as_left c labels (x ∷ xs) ys h = (h.0, as_left c labels xs ys h.1)

    as_right : (c : ℕ) (labels : List ℕ) (xs ys : List A)
        → EachAs P (map (λ x. c) xs ++ labels) (xs ++ ys) → EachAs P labels ys
    as_right c labels [] ys h = h
    as_right c labels (x ∷ xs) ys h = as_right c labels xs ys h.1

    module _ (f : ℕ → List A) where
      as_blocks : (cs : List ℕ) → Each (λ c. Each (P c) (f c)) cs →
          EachAs P (flat_map (λ c. map (λ x. c) (f c)) cs) (flat_map f cs)
      as_blocks [] h = tt
      as_blocks (c ∷ cs) h =
          as_append c (flat_map (λ c. map (λ x. c) (f c)) cs) (f c) (flat_map f cs) h.0 (as_blocks cs h.1)

      blocks_as : (cs : List ℕ) → EachAs P (flat_map (λ c. map (λ x. c) (f c)) cs) (flat_map f cs) →
          Each (λ c. Each (P c) (f c)) cs
      blocks_as [] h = tt
      blocks_as (c ∷ cs) h = (
        as_left c (flat_map (λ c. map (λ x. c) (f c)) cs) (f c) (flat_map f cs) h,
        blocks_as cs (as_right c (flat_map (λ c. map (λ x. c) (f c)) cs) (f c) (flat_map f cs) h),
      )

      -- by number, each item with its cell: exactly where each item of each cell has the property with that cell
      pub by_cells : (cs : List ℕ) → Each (λ c. Each (P c) (f c)) cs →
          EachFrom zero (λ i x. P (get_or (flat_map (λ c. map (λ x. c) (f c)) cs) i 0) x) (flat_map f cs)
      by_cells cs h =
          as_from P (flat_map (λ c. map (λ x. c) (f c)) cs) (flat_map (λ c. map (λ x. c) (f c)) cs) zero (flat_map f cs)
          (from_zero (flat_map (λ c. map (λ x. c) (f c)) cs)) (as_blocks cs h)

      pub cells_by : (cs : List ℕ) →
          EachFrom zero (λ i x. P (get_or (flat_map (λ c. map (λ x. c) (f c)) cs) i 0) x) (flat_map f cs) →
          Each (λ c. Each (P c) (f c)) cs
      cells_by cs h =
          blocks_as cs
          (from_as P (flat_map (λ c. map (λ x. c) (f c)) cs)
          (flat_map (λ c. map (λ x. c) (f c)) cs) zero (flat_map f cs)
          (from_zero (flat_map (λ c. map (λ x. c) (f c)) cs)) h)

-- ---- over mapped lists
module _ {A B : Type 0} (f : A → B) where
  pub mapped_each : (P R : A → Type 0) (Q : B → Type 0) → ((x : A) → P x → Q (f x) → R x) → (xs : List A) → Each P xs →
      Each Q (map f xs) → Each R xs
  mapped_each P R Q h [] e d = tt
  mapped_each P R Q h (x ∷ xs) e d = (h x e.0 d.0, mapped_each P R Q h xs e.1 d.1)

  pub each_mapped_both : (P R : A → Type 0) (Q : B → Type 0) → ((x : A) → P x → R x → Q (f x))
      → (xs : List A) → Each P xs →
      Each R xs → Each Q (map f xs)
  each_mapped_both P R Q h [] e d = tt
  each_mapped_both P R Q h (x ∷ xs) e d = (h x e.0 d.0, each_mapped_both P R Q h xs e.1 d.1)
