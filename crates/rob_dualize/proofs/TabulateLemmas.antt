-- Lists by place.
use Rattle.std.proofs.Common.{◌≡◌, ℕ, zero, suc, ◌+◌, ◌<◌, ◌≤◌, ℤ, nat_abs, List, [], ◌∷◌, ◌++◌, map, length, refl, sym, ap, ap₂, ◌∙◌, subst, arith}
use Rattle.std.specs.Prelude.{slice_index_or}
use Rattle.std.proofs.lemmas.List.{get_or_default}
use Rattle.rob_algebra.specs.Fraction.{Fraction}
use Rattle.rob_meaning.specs.Places.{Each, tabulate}
use Rattle.rob_meaning.proofs.Lists.EachLemmas.{each_append}
use Rattle.rob_simplex.specs.Dictionaries.{columns_of}
use Rattle.rob_sets.proofs.WholeRows.RowLemmas.{pushed}
use Rattle.rob_meaning.proofs.Lists.TabulateLemmas.{tabulate_next}

-- the item at a place
pub item-tabulate : {A : Type 0} (n : ℕ) (f : ℕ → A) (k : ℕ) (d : A) → k < n → slice_index_or (tabulate n f) k d ≡ f k
item-tabulate zero f k d l = absurd (omega arith)
item-tabulate (suc n) f zero d l = refl
item-tabulate (suc n) f (suc k) d l = item-tabulate n (λ j. f (suc j)) k d (omega arith)

pub map-tabulate : {A B : Type 0} (g : A → B) (n : ℕ) (f : ℕ → A) → map g (tabulate n f) ≡ tabulate n (λ k. g (f k))
map-tabulate g zero f = refl
map-tabulate g (suc n) f = ap (λ xs. g (f zero) ∷ xs) (map-tabulate g n (λ k. f (suc k)))

-- a list whose items at all places are given
pub is_tabulated : {A : Type 0} (xs : List A) (f : ℕ → A) → ((k : ℕ) (d : A) → k < length xs
    → slice_index_or xs k d ≡ f k) → xs ≡ tabulate (length xs) f
is_tabulated [] f h = refl
is_tabulated {A} (x ∷ xs) f h = ap₂ (λ (y : A) (ys : List A). y ∷ ys) (h zero x (omega arith))
    (is_tabulated xs (λ k. f (suc k)) (λ k d l. h (suc k) d (omega arith)))

-- ---- lists that grow at their end
-- numbers stay within the limit
pub within_more : (limit : ℕ) (items new : List ℤ) (x : ℤ) → Each (λ a. nat_abs a ≤ limit) items
    → new ≡ items ++ x ∷ [] → nat_abs x ≤ limit
    → Each (λ a. nat_abs a ≤ limit) new
within_more limit items new x all e h =
    subst (λ (list : List ℤ). Each (λ a. nat_abs a ≤ limit) list) (sym e)
    (each_append (λ a. nat_abs a ≤ limit) items (x ∷ []) all (h, tt))

pub row_more : {N : Type 0} (value : N → Fraction) (items new : List N) (x : N) (n : ℕ) (f : ℕ → Fraction)
    → map value items ≡ tabulate n f → new ≡ items ++ x ∷ [] → value x ≡ f n
    → map value new ≡ tabulate (n + 1) f
row_more value items new x n f h e is = pushed value items new x (tabulate n f) (f n) h e is ∙ tabulate_next f n

-- a list of columns, by position
pub all_columns : (columns list : List ℕ) (n : ℕ) → n ≡ length columns → list ≡ tabulate n (columns_of columns)
    → list ≡ columns
all_columns columns list n e h =
    h ∙ ap (λ k. tabulate k (columns_of columns)) e
    ∙ sym (is_tabulated columns (columns_of columns) (λ k d l. get_or_default columns k d 0 l))
