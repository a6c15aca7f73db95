-- Covers, items and differences, read one after another; and what is read depends on the places alone that are read.
use Rattle.std.proofs.Common.{◌≡◌, ◌≢◌, ℕ, zero, suc, ◌+◌, ◌*◌, ◌<◌, ◌≤◌, List, [], ◌∷◌, ◌++◌, map, length, refl, sym, ap, ap₂, ◌∙◌, arith, Bool, true, false, inl, inr, append_assoc, drop, ◌^◌, nat_eq, eqb-true, eq-eqb, w32, of_z}
use Rattle.std.specs.Prelude.{if◌then◌else◌, slice_index_or, ◌&&◌}
use Rattle.std.proofs.lemmas.List.{append-nil, map-append}
use Rattle.std.proofs.lemmas.Int.{ints}
use Rattle.std.specs.Prelude.{◌↔◌}
use Rattle.std.specs.Bool.{Decides}
use lib.IntN.{ℤ, pos, negsuc}
use lib.Signed.{mag}
use Rattle.rob_algebra.specs.Fraction.{Fraction, ◌-ℚ◌, neg_ℚ}
use Rattle.rob_algebra.specs.FractionLaws.{ℚ_ring}
use Rattle.rob_algebra.specs.RingSolver as Solver
use Rattle.rob_algebra.specs.Polynomials
use Rattle.rob_algebra.specs.Polynomials.{lit, ◌:-◌, v0, v1}
use Rattle.rob_algebra.specs.FractionOrder.{eq_ℚ, eq_ℚ-decides}
use Rattle.rob_meaning.specs.Certificates.{Cover, Item}
use Rattle.rob_meaning.specs.Places.{0ℚ, 1ℚ, at, tabulate}
use Rattle.rob_meaning.proofs.Lists.PlaceLemmas.{at-tabulate}
use Rattle.rob_cert.specs.View.{cover_of, item_of}
use Rattle.rob_cert.specs.declared.certificate.Cover.{Cover as TheCover}
use Rattle.rob_cert.specs.declared.certificate.Item.{Item as TheItem}
use Rattle.rob_counterpart.specs.RobustProgram.{RobustProgram}
use Rattle.rob_counterpart.specs.Splitting.{difference, plus, minus, OneIsZero}
use Rattle.rob_counterpart.specs.Reform.{multiplier, positive_row, negative_row, constant_row, block, pairs}
use Rattle.rob_counterpart.proofs.Pairs.Blocks.{block_in}
use Rattle.rob_counterpart.proofs.Pairs.TabulateLemmas.{tabulate-same}
use Rattle.rob_meaning.proofs.Lists.TabulateLemmas.{tabulate_next}
use Rattle.rob_dualize.specs.Numbers.{told}
use Rattle.rob_counterpart.specs.ReadNumbers.{differences, cover_at, covers_at, covers_to, vector_at, item_at, items_to, concat, covers_kept, items_kept, all_zero}
use Rattle.rob_counterpart.proofs.Proving.KeptLemmas.{covers_kept-append}

-- ---- covers, one after another
concat-next : (xs : List (List Cover)) (ys : List Cover) → concat (xs ++ ys ∷ []) ≡ concat xs ++ ys
concat-next [] ys = append-nil ys
concat-next (x ∷ xs) ys = ap (λ (zs : List Cover). x ++ zs) (concat-next xs ys) ∙ sym (append_assoc x (concat xs) ys)

-- the covers of one form more
pub covers_next : (d : RobustProgram) (n : ℕ) (x : ℕ → Fraction)
    → covers_to d (n + 1) x ≡ covers_to d n x ++ covers_kept (covers_at d x n)
covers_next d n x =
    ap covers_kept (ap concat (sym (tabulate_next (covers_at d x) n))
    ∙ concat-next (tabulate n (covers_at d x)) (covers_at d x n))
    ∙ covers_kept-append (concat (tabulate n (covers_at d x))) (covers_at d x n)

kept_one : (c : Cover) → c.amount ≢ 0ℚ → covers_kept (c ∷ []) ≡ c ∷ []
kept_one c h = by (eq_ℚ c.amount 0ℚ) (eq_ℚ-decides c.amount 0ℚ).0
  where
    by : (v : Bool) → (v ≡ true → c.amount ≡ 0ℚ) → (if v then [] else c ∷ []) ≡ c ∷ []
    by true d = absurd (h (d refl))
    by false d = refl

kept_none : (c : Cover) → c.amount ≡ 0ℚ → covers_kept (c ∷ []) ≡ []
kept_none c h = by (eq_ℚ c.amount 0ℚ) (eq_ℚ-decides c.amount 0ℚ).1
  where
    by : (v : Bool) → (c.amount ≡ 0ℚ → v ≡ true) → (if v then [] else c ∷ []) ≡ []
    by true d = refl
    by false d = let e : false ≡ true = d h in cc

kept_next : (r : ℕ) (g : ℕ → Cover) → covers_kept (tabulate (r + 1) g) ≡ covers_kept (tabulate r g)
    ++ covers_kept (g r ∷ [])
kept_next r g = ap covers_kept (sym (tabulate_next g r)) ∙ covers_kept-append (tabulate r g) (g r ∷ [])

module _ {N : Type 0} (value : N → Fraction) where
  pub cover_pushed : (all new : List (TheCover N)) (c : TheCover N) (before : List Cover) (g : ℕ → Cover) (r : ℕ)
      → map (cover_of value) all ≡ before ++ covers_kept (tabulate r g)
      → new ≡ all ++ c ∷ [] → cover_of value c ≡ g r → value c.amount ≢ 0ℚ
      → map (cover_of value) new ≡ before ++ covers_kept (tabulate (r + 1) g)
  cover_pushed all new c before g r h e is nonzero =
      ap (map (cover_of value)) e ∙ map-append (cover_of value) all (c ∷ [])
      ∙ ap₂ (λ (xs : List Cover) (y : Cover). xs ++ y ∷ []) h is
      ∙ append_assoc before (covers_kept (tabulate r g)) (g r ∷ [])
      ∙ ap (λ (ys : List Cover). before ++ ys)
      (ap (λ (ys : List Cover). covers_kept (tabulate r g) ++ ys)
      (sym (kept_one (g r) (λ z. nonzero (ap (λ (k : Cover). k.amount) is ∙ z)))) ∙ sym (kept_next r g))

  pub cover_skipped : (all : List (TheCover N)) (before : List Cover) (g : ℕ → Cover) (r : ℕ)
      → map (cover_of value) all ≡ before ++ covers_kept (tabulate r g)
      → (g r).amount ≡ 0ℚ → map (cover_of value) all ≡ before ++ covers_kept (tabulate (r + 1) g)
  cover_skipped all before g r h z =
      h ∙ ap (λ (ys : List Cover). before ++ ys)
      (sym (append-nil (covers_kept (tabulate r g))) ∙ ap (λ (ys : List Cover). covers_kept (tabulate r g) ++ ys)
      (sym (kept_none (g r) z)) ∙ sym (kept_next r g))

-- ---- items, one after another
items_kept-append : (xs ys : List Item) → items_kept (xs ++ ys) ≡ items_kept xs ++ items_kept ys
items_kept-append [] ys = refl
items_kept-append (i ∷ xs) ys = by (all_zero (i.base ∷ i.vector)) (items_kept-append xs ys)
  where
    by : (v : Bool) → items_kept (xs ++ ys) ≡ items_kept xs ++ items_kept ys
        → (if v then items_kept (xs ++ ys) else i ∷ items_kept (xs ++ ys))
        ≡ (if v then items_kept xs else i ∷ items_kept xs) ++ items_kept ys
    by true h = h
    by false h = ap (λ (zs : List Item). i ∷ zs) h

items_next : (d : RobustProgram) (n : ℕ) (y : ℕ → Fraction) → items_to d (n + 1) y ≡ items_to d n y
    ++ items_kept (item_at d y n ∷ [])
items_next d n y = ap items_kept (sym (tabulate_next (item_at d y) n))
    ∙ items_kept-append (tabulate n (item_at d y)) (item_at d y n ∷ [])

item_one : (i : Item) → all_zero (i.base ∷ i.vector) ≡ false → items_kept (i ∷ []) ≡ i ∷ []
item_one i h = ap (λ v. if v then [] else i ∷ []) h

item_none : (i : Item) → all_zero (i.base ∷ i.vector) ≡ true → items_kept (i ∷ []) ≡ []
item_none i h = ap (λ v. if v then [] else i ∷ []) h

module _ {N : Type 0} (value : N → Fraction) (d : RobustProgram) (y : ℕ → Fraction) where
  pub item_pushed : (all new : List (TheItem N)) (i : TheItem N) (n : ℕ) → map (item_of value) all ≡ items_to d n y
      → new ≡ all ++ i ∷ [] → item_of value i ≡ item_at d y n
      → all_zero (value i.base ∷ map value i.vector) ≡ false → map (item_of value) new ≡ items_to d (n + 1) y
  item_pushed all new i n h e is nonzero =
      ap (map (item_of value)) e ∙ map-append (item_of value) all (i ∷ [])
      ∙ ap₂ (λ (xs : List Item) (x : Item). xs ++ x ∷ []) h is
      ∙ ap (λ (ys : List Item). items_to d n y ++ ys) (sym (item_one (item_at d y n)
      (ap (λ (k : Item). all_zero (k.base ∷ k.vector)) (sym is) ∙ nonzero)))
      ∙ sym (items_next d n y)

  pub item_skipped : (all : List (TheItem N)) (n : ℕ) → map (item_of value) all ≡ items_to d n y
      → all_zero (y (constant_row d n) ∷ vector_at d y n) ≡ true
      → map (item_of value) all ≡ items_to d (n + 1) y
  item_skipped all n h z =
      h ∙ sym (append-nil (items_to d n y)) ∙ ap (λ (ys : List Item). items_to d n y ++ ys)
      (sym (item_none (item_at d y n) z)) ∙ sym (items_next d n y)

-- ---- numbers in a list
at-map : {N : Type 0} (value : N → Fraction) (numbers : List N) (k : ℕ) (x : N) → k < length numbers
    → x ≡ slice_index_or numbers k x → at (map value numbers) k ≡ value x
at-map value [] k x l e = absurd (omega arith)
at-map value (y ∷ numbers) zero x l e = ap value (sym e)
at-map value (y ∷ numbers) (suc k) x l e = at-map value numbers k x (omega arith) e

-- the number at a place
pub told_is : {N : Type 0} (value : N → Fraction) (numbers : List N) (k : ℕ) (x : N) → k < length numbers
    → x ≡ slice_index_or numbers k x → told value numbers k ≡ value x
told_is = at-map

-- a number that a solver told
pub told_at : {N : Type 0} (value : N → Fraction) (numbers : List N) (n : ℕ) (f : ℕ → Fraction)
    → map value numbers ≡ tabulate n f → (k : ℕ) → k < n → told value numbers k ≡ f k
told_at value numbers n f h k l = ap (λ xs. at xs k) h ∙ at-tabulate n f k l

-- ---- the places that are read
pub differences_same : (n : ℕ) (x y : ℕ → Fraction) → ((k : ℕ) → k < n + n → x k ≡ y k)
    → differences n x ≡ differences n y
differences_same n x y h = tabulate-same n (difference x) (difference y)
    (λ j l. ap₂ (λ a b. a -ℚ b) (h (plus j) (omega arith)) (h (minus j) (omega arith)))

module _ (d : RobustProgram) (x y : ℕ → Fraction) where
  pub covers_same : (n : ℕ) → n ≤ d.forms → ((k : ℕ) → k < pairs d + (d.forms * d.set_rows) → x k ≡ y k)
      → covers_to d n x ≡ covers_to d n y
  covers_same n nl h =
      ap (λ cs. covers_kept (concat cs))
      (tabulate-same n (covers_at d x) (covers_at d y)
      (λ i l. tabulate-same d.set_rows (cover_at d x i) (cover_at d y i)
      (λ r rl. ap (λ a. record { form = i; set_row = r; amount = a })
      (h (multiplier d i r) (let b : ((i * d.set_rows) + r) < (d.forms * d.set_rows) =
      block_in d.forms d.set_rows i r (omega arith) rl in omega arith)))))

  pub items_same : (n : ℕ) → n ≤ d.forms → d.parameters ≤ d.set_columns
      → ((k : ℕ) → k < d.forms * block d → x k ≡ y k) → items_to d n x ≡ items_to d n y
  items_same n nl pl h =
      ap items_kept
      (tabulate-same n (item_at d x) (item_at d y)
      (λ i l. ap₂ (λ b v. record { form = i; weight = 1ℚ; base = b; vector = v })
      (h (constant_row d i) (block_in d.forms (block d) i (d.set_columns + d.set_columns) (omega arith) (omega arith)))
      (tabulate-same d.parameters (λ c. x (negative_row d i c) -ℚ x (positive_row d i c))
      (λ c. y (negative_row d i c) -ℚ y (positive_row d i c))
      (λ c cl. ap₂ (λ a b. a -ℚ b)
      (h (negative_row d i c) (block_in d.forms (block d) i (suc (c + c)) (omega arith) (omega arith)))
      (h (positive_row d i c) (block_in d.forms (block d) i (c + c) (omega arith) (omega arith)))))))

-- ---- numbers that are read place by place
module _ {N : Type 0} (value : N → Fraction) (numbers : List N) where
  -- the number at a place, as it is counted
  pub told_place : (k place : ℕ) (x : N) → k ≡ place → k < length numbers → x ≡ slice_index_or numbers k x
      → told value numbers place ≡ value x
  told_place k place x e l is = ap (told value numbers) (sym e) ∙ told_is value numbers k x l is

  pub one_told : (a b : ℕ) (x y : N) → told value numbers a ≡ value x → told value numbers b ≡ value y
      → OneIsZero (told value numbers a) (told value numbers b) → OneIsZero (value x) (value y)
  one_told a b x y ax by (inl e) = inl (sym ax ∙ e)
  one_told a b x y ax by (inr e) = inr (sym by ∙ e)

  pub difference_told : (a b : ℕ) (x y : N) (z : Fraction) → told value numbers a ≡ value x
      → told value numbers b ≡ value y → z ≡ value x -ℚ value y
      → z ≡ told value numbers a -ℚ told value numbers b
  difference_told a b x y z ax by e = e ∙ ap₂ (λ p q. p -ℚ q) (sym ax) (sym by)

abbrev item : ℕ → Fraction → Fraction → List Fraction → Item
item i w b v = record { form = i; weight = w; base = b; vector = v }

pub item_is : (i : ℕ) (w b w' b' : Fraction) (v v' : List Fraction) → w ≡ w' → b ≡ b' → v ≡ v'
    → item i w b v ≡ item i w' b' v'
item_is i w b w' b' v v' ew eb ev = ap (λ x. item i x b v) ew ∙ ap₂ (λ x y. item i w' x y) eb ev

-- ---- whether all are 0
pub base_not_zero : (b : Fraction) (v : List Fraction) → b ≢ 0ℚ → all_zero (b ∷ v) ≡ false
base_not_zero b v h = by (eq_ℚ b 0ℚ) (eq_ℚ-decides b 0ℚ).0
  where
    by : (t : Bool) → (t ≡ true → b ≡ 0ℚ) → (t && all_zero v) ≡ false
    by true d = absurd (h (d refl))
    by false d = refl

pub vector_not_zero : (b : Fraction) (v : List Fraction) → all_zero v ≡ false → all_zero (b ∷ v) ≡ false
vector_not_zero b v h = by (eq_ℚ b 0ℚ)
  where
    by : (t : Bool) → (t && all_zero v) ≡ false
    by true = h
    by false = refl

pub both_zero : (b : Fraction) (v : List Fraction) → b ≡ 0ℚ → all_zero (b ∷ v) ≡ all_zero v
both_zero b v h = ap (λ t. t && all_zero v) ((eq_ℚ-decides b 0ℚ).1 h)

module _ {N : Type 0} (value : N → Fraction) where
  pub zero_dropped : (numbers : List N) (k : ℕ) (x : N) → k < length numbers → x ≡ slice_index_or numbers k x
      → value x ≡ 0ℚ
      → all_zero (map value (drop k numbers)) ≡ all_zero (map value (drop (k + 1) numbers))
  zero_dropped [] k x l e z = absurd (omega arith)
  zero_dropped (y ∷ numbers) zero x l e z = both_zero (value y) (map value numbers) (ap value (sym e) ∙ z)
  zero_dropped (y ∷ numbers) (suc k) x l e z =
      let s : suc k + 1 ≡ suc (k + 1) = omega arith in
      zero_dropped numbers k x (omega arith) e z ∙ ap (λ n. all_zero (map value (drop n (y ∷ numbers)))) (sym s)

  pub not_dropped : (numbers : List N) (k : ℕ) (x : N) → k < length numbers → x ≡ slice_index_or numbers k x
      → value x ≢ 0ℚ → all_zero (map value (drop k numbers)) ≡ false
  not_dropped [] k x l e z = absurd (omega arith)
  not_dropped (y ∷ numbers) zero x l e z = base_not_zero (value y) (map value numbers) (λ f. z (ap value e ∙ f))
  not_dropped (y ∷ numbers) (suc k) x l e z = not_dropped numbers k x (omega arith) e z

  pub all_dropped : (numbers : List N) (k : ℕ) → length numbers ≤ k → all_zero (map value (drop k numbers)) ≡ true
  all_dropped [] zero l = refl
  all_dropped [] (suc k) l = refl
  all_dropped (y ∷ numbers) zero l = absurd (omega arith)
  all_dropped (y ∷ numbers) (suc k) l = all_dropped numbers k (omega arith)

-- ---- differences with 0
pub minus_zero : (a b : Fraction) → b ≡ 0ℚ → a ≡ a -ℚ b
minus_zero a b e = sym (Solver.from_one ℚ_ring (a ∷ b ∷ []) (v0 :- v1) v0 (lit (negsuc 0)) v1 (lit (pos 0)) refl e)

pub zero_minus : (a b : Fraction) → a ≡ 0ℚ → neg_ℚ b ≡ a -ℚ b
zero_minus a b e = sym (Solver.from_one ℚ_ring (a ∷ b ∷ []) (v0 :- v1) (Polynomials.minus v1) (lit (pos 1)) v0
    (lit (pos 0)) refl e)

-- ---- the sign of 0
zero_bits : (r : ℤ) → mag r < 2 ^ 31 → of_z w32 r ≡ 0 → r ≡ pos 0
zero_bits r l e = omega (arith, ints)

pub zero_test : {P : Type 0} (r : ℤ) → mag r < 2 ^ 31 → (r ≡ pos 0) ↔ P → Decides (nat_eq (of_z w32 r) 0) P
zero_test r l f = (
  λ e. f.0 (zero_bits r l (eqb-true (of_z w32 r) 0 e)),
  λ p. eq-eqb (of_z w32 r) 0
      (ap (of_z w32) (f.1 p)),
)
