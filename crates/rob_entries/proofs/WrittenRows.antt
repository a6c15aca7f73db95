-- Rows that were lent and written back, within the cells.
use Rattle.std.proofs.Common.{◌≡◌, ◌⊎◌, ℕ, ◌+◌, ◌-◌, ◌<◌, ◌≤◌, sym, refl, ap, ◌∙◌, subst, arith, inl, inr, rules, List, [], ◌∷◌, ◌++◌, Any, take, drop, length, map, set}
use Rattle.std.proofs.lemmas.Bool.{cases_eq}
use Rattle.std.proofs.lemmas.List.{get_or-take, get_or-drop, length-take, length-drop, length-map, take-map, drop-map, map-append, places, get_or_default, get_or-set_same, get_or-set_other}
use borrow.Rule.Slice.PartMut.{put_mid, post_of, put_same, same_len_mid}
use lib.IntN.{ℤ, pos, nat_abs}
use Rattle.rob_linear.specs.Vectors.{at}
use Rattle.rob_rows.specs.PrimitiveParts.{IsWithin}

pub take_all : {X : Type 0} (xs ys : List X) → take (length xs) (xs ++ ys) ≡ xs
take_all [] ys = refl
take_all (x ∷ xs) ys = ap (λ t. x ∷ t) (take_all xs ys)

-- a list written back whole
pub written_back : {X : Type 0} (new items : List X) (len : ℕ) → length new ≡ len
    → take len (new ++ drop (length new) items) ≡ new
written_back new items len e =
    ap (λ t. take t (new ++ drop (length new) items)) (sym e) ∙ take_all new (drop (length new) items)

-- ---- a list that was lent, and is written back whole
pub back_whole : {X : Type 0} {len : ℕ} {new items lent : List X} → len ≡ length items → lent ≡ items
    → length new ≡ length lent → take len (new ++ drop (length new) items) ≡ new
back_whole {len = len} {new = new} {items = items} ok value kept =
    written_back new items len (kept ∙ ap length value ∙ sym ok)

-- its length, where it was made with so many items
pub lent_length : {X : Type 0} {len n : ℕ} {items lent : List X} → len ≡ length items → lent ≡ items → len ≡ n
    → length lent ≡ n
lent_length ok value made = ap length value ∙ sym ok ∙ made

-- ---- a part of a list
abbrev pub part : {X : Type 0} → List X → ℕ → ℕ → List X
part items a w = take (a + w - a) (drop a items)

abbrev pub put : {X : Type 0} → List X → ℕ → ℕ → List X → List X
put items a w s = put_mid a (a + w - a) items s

pub part_length : {X : Type 0} (items : List X) (a w : ℕ) → a + w ≤ length items → length (part items a w) ≡ w
part_length items a w h = omega (arith, length-take (a + w - a) (drop a items), length-drop a items)

part_at : (row : List ℤ) (a w k : ℕ) → k < w → at (part row a w) k ≡ at row (a + k)
part_at row a w k l = get_or-take (a + w - a) (drop a row) k (pos 0) (omega arith) ∙ get_or-drop a row k (pos 0)

part_numbers : {X : Type 0} (f : X → ℤ) (items : List X) (a w : ℕ) → map f (part items a w) ≡ part (map f items) a w
part_numbers f items a w =
    sym (take-map f (a + w - a) (drop a items)) ∙ ap (take (a + w - a)) (sym (drop-map f a items))

put_numbers : {X : Type 0} (f : X → ℤ) (items : List X) (a w : ℕ) (s : List X)
    → map f (put items a w s) ≡ put (map f items) a w (map f s)
put_numbers f items a w s =
    map-append f (take a items) (s ++ post_of a (a + w - a) items)
    ∙ ap (λ t. t ++ map f (s ++ post_of a (a + w - a) items)) (sym (take-map f a items))
    ∙ ap (λ t. take a (map f items) ++ t)
    (map-append f s (post_of a (a + w - a) items)
    ∙ ap (λ t. map f s ++ t) (sym (drop-map f (a + w - a) (drop a items))
    ∙ ap (drop (a + w - a)) (sym (drop-map f a items))))

put_here : (row s : List ℤ) (a w k : ℕ) → a + w ≤ length row → length s ≡ w → k < w
    → at (put row a w s) (a + k) ≡ at s k
put_here row s a w k h e l = search (rules, places)

put_before : (row s : List ℤ) (a w n : ℕ) → a + w ≤ length row → length s ≡ w → n < a → at (put row a w s) n ≡ at row n
put_before row s a w n h e l = search (rules, places)

put_behind : (row s : List ℤ) (a w n : ℕ) → a + w ≤ length row → length s ≡ w → a + w ≤ n
    → at (put row a w s) n ≡ at row n
put_behind row s a w n h e l = search (rules, places)

put_length : (row s : List ℤ) (a w : ℕ) → a + w ≤ length row → length s ≡ w → length (put row a w s) ≡ length row
put_length row s a w h e = search (rules, places)

-- ---- a row of the cells
-- w of them from place a on, in a vector whose items were lent
pub record IsLent {X : Type 0} (f : X → ℤ) (cells : List ℤ) (items now : List X) (len a w : ℕ) : Type 0 where
  pub view : map f items ≡ cells
  pub lent : now ≡ items
  pub sized : len ≡ length items
  pub inside : a + w ≤ length cells

pub lent_row : {X : Type 0} (f : X → ℤ) {cells : List ℤ} {items now : List X} {len : ℕ} → map f items ≡ cells
    → now ≡ items → len ≡ length items → (a w : ℕ) → a + w ≤ length cells → IsLent f cells items now len a w
lent_row f view lent sized a w inside = record { view = view; lent = lent; sized = sized; inside = inside }

module _ {X : Type 0} {f : X → ℤ} {cells : List ℤ} {items now : List X} {len a w : ℕ}
    (r : IsLent f cells items now len a w) where
  numbers : map f now ≡ cells
  numbers = ap (map f) r.lent ∙ r.view

  fits : a + w ≤ length now
  fits = let n : length cells ≡ length now = sym (ap length numbers) ∙ length-map now f in omega arith

  -- as it is read
  pub row_length : length (part now a w) ≡ w
  row_length = part_length now a w fits

  pub row_part : map f (part now a w) ≡ part cells a w
  row_part = part_numbers f now a w ∙ ap (λ (t : List ℤ). part t a w) numbers

  pub row_at : (k : ℕ) → k < w → at (map f (part now a w)) k ≡ at cells (a + k)
  row_at k l = ap (λ (t : List ℤ). at t k) row_part ∙ part_at cells a w k l

  pub row_within : (bound : ℕ) → ((k : ℕ) → k < w → nat_abs (at cells (a + k)) ≤ bound)
      → IsWithin bound (map f (part now a w))
  row_within bound h k d l =
      let kl : k < w = omega (arith, length-map (part now a w) f, row_length) in
      subst (λ t. nat_abs t ≤ bound) (sym (get_or_default (map f (part now a w)) k d (pos 0) l ∙ row_at k kl)) (h k kl)

  pub numbers_length : length (map f (part now a w)) ≡ w
  numbers_length = length-map (part now a w) f ∙ row_length

  -- what bounds it
  pub row_bounded : (bound : ℕ) → IsWithin bound (map f (part now a w)) → (k : ℕ) → k < w
      → nat_abs (at cells (a + k)) ≤ bound
  row_bounded bound h k l = subst (λ t. nat_abs t ≤ bound) (row_at k l) (h k (pos 0) (omega (arith, numbers_length)))

  pub row_reached : (size : ℕ) → Any (λ entry. nat_abs entry ≡ size) (map f (part now a w)) → (k : ℕ) × (k < w)
      × (nat_abs (at cells (a + k)) ≡ size)
  row_reached size h =
      let kl : h.0 < length (map f (part now a w)) = h.2 in
      let l : h.0 < w = omega (arith, numbers_length) in
      (h.0, l, ap nat_abs (sym (row_at h.0 l) ∙ get_or_default (map f (part now a w)) h.0 (pos 0) h.1 kl ∙ h.3) ∙ h.4)

  -- as it is written back
  module _ (s : List X) (kept : length s ≡ length (part now a w)) where
    -- what the vector then holds
    abbrev pub stored : List X
    stored = take len (put now a w s ++ drop (length (put now a w s)) items)

    new_length : length (map f s) ≡ w
    new_length = length-map s f ∙ kept ∙ row_length

    pub stored_numbers : map f stored ≡ put cells a w (map f s)
    stored_numbers =
        ap (map f) (written_back (put now a w s) items len
        (same_len_mid a (a + w - a) now s kept ∙ ap length r.lent ∙ sym r.sized)) ∙ put_numbers f now a w s
        ∙ ap (λ (t : List ℤ). put t a w (map f s)) numbers

    pub stored_here : (k : ℕ) → k < w → at (map f stored) (a + k) ≡ at (map f s) k
    stored_here k l =
        ap (λ (t : List ℤ). at t (a + k)) stored_numbers ∙ put_here cells (map f s) a w k r.inside new_length l

    pub stored_other : (k : ℕ) → (k < a) ⊎ (a + w ≤ k) → at (map f stored) k ≡ at cells k
    stored_other k c =
        ap (λ (t : List ℤ). at t k) stored_numbers
        ∙ elim c [
          | inl b ↦ put_before cells (map f s) a w k r.inside new_length b
          | inr b ↦ put_behind cells (map f s) a w k r.inside new_length b
        ]

    pub stored_length : length (map f stored) ≡ length cells
    stored_length = ap length stored_numbers ∙ put_length cells (map f s) a w r.inside new_length

    -- where the row is as it was, so are the cells
    pub stored_same : s ≡ part now a w → map f stored ≡ cells
    stored_same e =
        stored_numbers ∙ ap (λ (t : List ℤ). put cells a w t) (ap (map f) e ∙ row_part) ∙ put_same a (a + w - a) cells

-- ---- one number more is written as it is in another list
pub one_more : (xs new ys : List ℤ) (k : ℕ) (x : ℤ) → length xs ≡ length ys → k < length ys → new ≡ set xs k x
    → x ≡ at ys k → ((j : ℕ) → j < k → at xs j ≡ at ys j)
    → (j : ℕ) → j < k + 1 → at new j ≡ at ys j
one_more xs new ys k x size l e is h j jl = elim (cases_eq j k) [
  | inl same ↦ ap (λ (t : List ℤ). at t j) e ∙ ap (at (set xs k x)) same ∙ get_or-set_same xs k x (pos 0) (omega arith)
      ∙ is ∙ ap (at ys) (sym same)
  | inr other ↦ ap (λ (t : List ℤ). at t j) e ∙ get_or-set_other xs k j x (pos 0) other ∙ h j (omega arith)
]
