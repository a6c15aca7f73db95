-- The map of the places that may not be 0: what is marked, and what stays.
use Rattle.std.proofs.Common.{◌≡◌, ◌≢◌, ◌⊎◌, ◌↔◌, ℕ, ◌+◌, ◌-◌, ◌<◌, ◌≤◌, refl, sym, ap, ◌∙◌, subst, arith, inl, inr, Bool, true, false, not, List, map, length, get_or, set, Result, Ok, Err, OnErr}
use Rattle.std.specs.Prelude.{IfOk, IsTrue, IsFalse}
use Rattle.std.proofs.lemmas.Bool.{cases_eq, cases_lt}
use Rattle.std.proofs.lemmas.List.{length-set, get_or-set_same, get_or-set_other, map-set, get_or_default, length-map}
use Rattle.std.proofs.lemmas.Int.{ints}
use Rattle.std.proofs.lemmas.Result.{IfOk-weaker, on_err_weaker}
use lib.IntN.{ℤ, pos, ◌*ℤ◌, ◌-ℤ◌}
use lib.Signed.{◌<ℤ◌}
use Rattle.rob_algebra.specs.Integer.{mul-zero}
use Rattle.rob_algebra.specs.IntegerOrder.{mul_cancel_zero}
use Rattle.rob_linear.specs.Vectors.{Vector, at}
use Rattle.rob_linear.specs.Multiples.{IsClearedBy}
use Rattle.rob_linear.proofs.Bases.Square.{cases_zero}
use Rattle.rob_entries.specs.Maps.{IsMapped, AreMarked}
use Rattle.rob_entries.specs.Updates.{AreListed}
use Rattle.rob_entries.proofs.MappedRows.{number_read}
use Rattle.rob_entries.proofs.WrittenRows.{IsLent, part, stored, row_length, row_at, stored_here, stored_other, stored_length}

-- the negation of a test
pub negated_test : {X : Type 0} (test : Bool) → (IsTrue test ↔ X) → (IsFalse (not test) ↔ X)
negated_test true h = (λ e. h.0 refl, λ x. refl)
negated_test false h = (λ e. let f : true ≡ false = e in cc, λ x. let f : false ≡ true = h.1 x in cc)

-- ---- marks that are written
-- a mark that is off behind a write is the one that was written, or it was off
pub written_off : (marks : List Bool) (i j : ℕ) (mark : Bool) → i < length marks
    → get_or (set marks i mark) j true ≡ false → ((j ≡ i) × (mark ≡ false)) ⊎ ((j ≢ i) × (get_or marks j true ≡ false))
written_off marks i j mark l off = elim (cases_eq j i) [
  | inl e ↦ inl (e, sym (ap (λ t. get_or (set marks i mark) t true) e ∙ get_or-set_same marks i mark true l) ∙ off)
  | inr d ↦ inr (d, sym (get_or-set_other marks i j mark true d) ∙ off)
]

-- a number is written, and its mark
pub marked_write : (numbers : List ℤ) (marks : List Bool) → IsMapped numbers marks → (k : ℕ) (x : ℤ) (mark : Bool)
    → k < length numbers → (mark ≡ false → x ≡ pos 0) → IsMapped (set numbers k x) (set marks k mark)
marked_write numbers marks h k x mark l zero =
    let size : length marks ≡ length numbers = h.size in
    record {
      size = length-set marks k mark ∙ h.size ∙ sym (length-set numbers k x);
      zeros = λ j jl off. elim (written_off marks k j mark (omega arith) off) [
        | inl e ↦ ap (at (set numbers k x)) e.0 ∙ get_or-set_same numbers k x (pos 0) l ∙ zero e.1
        | inr d ↦ get_or-set_other numbers k j x (pos 0) d.0
            ∙ h.zeros j (subst (λ n. j < n) (length-set numbers k x) jl) d.1
      ];
    }

-- two numbers change places
pub swapped : {X : Type 0} (f : X → ℤ) (items : List X) (a b : ℕ) (x y : X) → a < length items → b < length items
    → x ≡ get_or items a x → y ≡ get_or items b y
    → map f (set (set items a y) b x) ≡ set (set (map f items) a (at (map f items) b)) b (at (map f items) a)
swapped f items a b x y al bl ex ey =
    map-set f (set items a y) b x ∙ ap (λ (t : List ℤ). set t b (f x)) (map-set f items a y)
    ∙ ap (λ z. set (set (map f items) a (f y)) b z) (number_read f items a x al ex)
    ∙ ap (λ z. set (set (map f items) a z) b (at (map f items) a)) (number_read f items b y bl ey)

-- and so do their marks
pub marked_swap : {X : Type 0} (f : X → ℤ) (items : List X) (marks : List Bool) → IsMapped (map f items) marks
    → (a b : ℕ) (x y : X) (m n : Bool) → a < length items → b < length items → x ≡ get_or items a x
    → y ≡ get_or items b y → m ≡ get_or marks a m → n ≡ get_or marks b n
    → IsMapped (map f (set (set items a y) b x)) (set (set marks a n) b m)
marked_swap f items marks h a b x y m n al bl ex ey em en =
    let size : length marks ≡ length items = h.size ∙ length-map items f in
    let na : f x ≡ at (map f items) a = number_read f items a x al ex in
    let nb : f y ≡ at (map f items) b = number_read f items b y bl ey in
    let ma : get_or marks a true ≡ m = get_or_default marks a true m (omega arith) ∙ sym em in
    let mb : get_or marks b true ≡ n = get_or_default marks b true n (omega arith) ∙ sym en in
    let la : a < length (map f items) = subst (λ k. a < k) (sym (length-map items f)) al in
    let lb : b < length (map f items) = subst (λ k. b < k) (sym (length-map items f)) bl in
    let first : IsMapped (set (map f items) a (f y)) (set marks a n) =
    marked_write (map f items) marks h a (f y) n la (λ e. nb ∙ h.zeros b lb (mb ∙ e)) in
    subst (λ (t : List ℤ). IsMapped t (set (set marks a n) b m))
    (sym (map-set f (set items a y) b x ∙ ap (λ (t : List ℤ). set t b (f x)) (map-set f items a y)))
    (marked_write (set (map f items) a (f y)) (set marks a n) first b (f x) m
    (subst (λ k. b < k) (sym (length-set (map f items) a (f y))) lb) (λ e. na ∙ h.zeros a la (ma ∙ e)))

-- ---- the marks of listed places
-- a mark that is off stands at one of the first places, where the row is 0; or it was off, and stands at none of them
abbrev pub MarkedTo : ℕ → List ℕ → ℕ → Vector → List Bool → List Bool → Type 0
MarkedTo start places count row before after =
    (j : ℕ) → get_or after j true ≡ false
    → ((i : ℕ) × (i < count) × (j ≡ start + get_or places i 0) × (row (get_or places i 0) ≡ pos 0))
    ⊎ ((get_or before j true ≡ false) × ((i : ℕ) → i < count → j ≢ start + get_or places i 0))

-- one place more
pub mark_more : (start : ℕ) (places : List ℕ) (i : ℕ) (row next : Vector) (before after : List Bool) (mark : Bool)
    → start + get_or places i 0 < length after → MarkedTo start places i row before after
    → ((n : ℕ) → n < i → next (get_or places n 0) ≡ row (get_or places n 0))
    → (mark ≡ false → next (get_or places i 0) ≡ pos 0)
    → MarkedTo start places (i + 1) next before (set after (start + get_or places i 0) mark)
mark_more start places i row next before after mark inside h stays zero j off =
    elim (written_off after (start + get_or places i 0) j mark inside off) [
      | inl e ↦ inl (i, omega arith, e.0, zero e.1)
      | inr d ↦ elim (h j d.1) [
        | inl z ↦ let l : z.0 < i = z.1 in inl (z.0, omega arith, z.2, stays z.0 l ∙ z.3)
        | inr z ↦ inr (
          z.0,
          λ n l. elim (cases_eq n i) [
            | inl e ↦ λ m. d.0 (m ∙ ap (λ t. start + get_or places t 0) e)
            | inr o ↦ z.1 n (omega arith)
          ],
        )
      ]
    ]

-- all of them, where they are the places in which another row is not 0
pub all_marked : (start width : ℕ) (places : List ℕ) (row other : Vector) (before after : List Bool)
    → AreListed width other places → MarkedTo start places (length places) row before after
    → AreMarked start width row other before after
all_marked start width places row other before after listed h j off = elim (h j off) [
  | inl z ↦ inl (get_or places z.0 0, listed.inside z.0 z.1, z.2, z.3)
  | inr z ↦ inr (
    z.0,
    λ k l e. elim (cases_zero (other k)) [
      | inl none ↦ none
      | inr some ↦ let n = listed.all k l some in absurd (z.1 n.0 n.1 (e ∙ ap (λ t. start + t) n.2))
    ],
  )
]

-- ---- a row that is written back
module _ {X : Type 0} {f : X → ℤ} {cells : List ℤ} {items now : List X} {len a w : ℕ}
    (r : IsLent f cells items now len a w) (s : List X) (kept : length s ≡ length (part now a w)) {marks : List Bool}
    (next : List Bool) (h : IsMapped cells marks) where
  -- what was 0 stays 0 where the other row is 0
  marked_back : (other : Vector) → length next ≡ length marks → AreMarked a w (at (map f s)) other marks next
      → ((k : ℕ) → k < w → at cells (a + k) ≡ pos 0 → other k ≡ pos 0 → at (map f s) k ≡ pos 0)
      → IsMapped (map f (stored r s kept)) next
  marked_back other size marked zero =
      let n : length (map f (stored r s kept)) ≡ length cells =
      stored_length r s kept in
      record {
        size = size ∙ h.size ∙ sym n;
        zeros = λ j l off. elim (marked j off) [
          | inl z ↦ ap (at (map f (stored r s kept))) z.2
              ∙ stored_here r s kept z.0 z.1 ∙ z.3
          | inr z ↦ elim (cases_lt j a) [
            | inl b ↦ outside j (inl b) (omega arith) z.0
            | inr b ↦ elim (cases_lt j (a + w)) [
              | inr c ↦ outside j (inr (omega arith)) (omega arith) z.0
              | inl c ↦ within j (omega arith) (omega arith) (omega arith) z.0 (z.1 (j - a) (omega arith) (omega arith))
            ]
          ]
        ];
      }
    where
      outside : (j : ℕ) → ((j < a) ⊎ (a + w ≤ j)) → j < length cells → get_or marks j true ≡ false
          → at (map f (stored r s kept)) j ≡ pos 0
      outside j o l off = stored_other r s kept j o ∙ h.zeros j l off

      within : (j : ℕ) → a ≤ j → j < a + w → j < length cells → get_or marks j true ≡ false → other (j - a) ≡ pos 0
          → at (map f (stored r s kept)) j ≡ pos 0
      within j b c l off z =
          let e : a + (j - a) ≡ j = omega arith in
          subst (λ t. at (map f (stored r s kept)) t ≡ pos 0) e
          (stored_here r s kept (j - a) (omega arith)
          ∙ zero (j - a) (omega arith) (ap (at cells) e ∙ h.zeros j l off) z)

  -- where no mark changes
  pub mapped_back : next ≡ marks → ((k : ℕ) → k < w → at cells (a + k) ≡ pos 0 → at (map f s) k ≡ pos 0)
      → IsMapped (map f (stored r s kept)) next
  mapped_back same zero =
      marked_back (λ k. pos 0) (ap length same)
      (λ j off. inr (subst (λ (t : List Bool). get_or t j true ≡ false) same off, λ k l e. refl))
      (λ k l z o. zero k l z)

  -- where the row is cleared, or all stays
  cleared_back : {T E : Type 0} (done : Result T E) (other : Vector) → length next ≡ length marks
      → IfOk done (λ x. AreMarked a w (at (map f s)) other marks next) → OnErr done (next ≡ marks)
      → OnErr done (s ≡ part now a w)
      → ((k : ℕ) → k < w → at cells (a + k) ≡ pos 0 → other k ≡ pos 0 → at (map f s) k ≡ pos 0)
      → IsMapped (map f (stored r s kept)) next
  cleared_back (Ok x) other size marked same unchanged zero = marked_back other size marked zero
  cleared_back (Err x) other size marked same unchanged zero =
      mapped_back same (λ k l z. ap (λ (t : List ℤ). at t k) (ap (map f) unchanged)
      ∙ row_at r k l ∙ z)

-- ---- what stays 0
-- a row with 0 in a place, and a multiple of it
pub part_zero : (d x y : ℤ) → pos 0 <ℤ d → d *ℤ x ≡ y → y ≡ pos 0 → x ≡ pos 0
part_zero d x y h e z = mul_cancel_zero d x h (e ∙ z)

-- where both rows are 0, what is left of one is 0
pub cleared_zero : {T E : Type 0} (r : Result T E) (width place : ℕ) (low top new : Vector) (X : Type 0)
    → IfOk r (λ _. IsClearedBy width place low top new) → OnErr r X → (X → (k : ℕ) → k < width → new k ≡ low k)
    → (k : ℕ) → k < width → low k ≡ pos 0 → top k ≡ pos 0 → new k ≡ pos 0
cleared_zero (Ok x) width place low top new X c o same k l lz tz =
    let p : c.p *ℤ low k ≡ pos 0 = ap (λ t. c.p *ℤ t) lz ∙ mul-zero c.p in
    let q : c.q *ℤ top k ≡ pos 0 = ap (λ t. c.q *ℤ t) tz ∙ mul-zero c.q in
    let e : c.divisor *ℤ new k ≡ (c.p *ℤ low k) -ℤ (c.q *ℤ top k) = c.entries k l in
    mul_cancel_zero c.divisor (new k) c.divides (omega (arith, ints))
cleared_zero (Err x) width place low top new X c o same k l lz tz = same o k l ∙ lz

-- ---- a row that another one has cleared, with the marks of its places
module _ {X : Type 0} {f : X → ℤ} {cells : List ℤ} {items now : List X} {len a w : ℕ}
    (r : IsLent f cells items now len a w) (s : List X) (kept : length s ≡ length (part now a w))
    {marks lent next : List Bool} (h : IsMapped cells marks) (lent_is : lent ≡ marks) where
  pub cleared_mapped : {T E : Type 0} (done : Result T E) (place : ℕ) (top : Vector) → length next ≡ length lent
      → IfOk done (λ x. AreMarked a (length (part now a w)) (at (map f s)) top lent next)
      → IfOk done (λ x. IsClearedBy (length (part now a w)) place (at (map f (part now a w))) top (at (map f s)))
      → OnErr done (next ≡ lent) → OnErr done (s ≡ part now a w) → IsMapped (map f (stored r s kept)) next
  cleared_mapped done place top size marked cleared same unchanged =
      let n : length (part now a w) ≡ w = row_length r in
      cleared_back r s kept next h done top (size ∙ ap length lent_is)
      (IfOk-weaker done (λ x. AreMarked a (length (part now a w)) (at (map f s)) top lent next)
      (λ x. AreMarked a w (at (map f s)) top marks next)
      (λ x m. subst (λ (t : List Bool). AreMarked a w (at (map f s)) top t next) lent_is
      (subst (λ k. AreMarked a k (at (map f s)) top lent next) n m)) marked)
      (on_err_weaker done (λ e. e ∙ lent_is) same) unchanged
      (λ k l z tz. cleared_zero done (length (part now a w)) place (at (map f (part now a w))) top (at (map f s))
      (s ≡ part now a w) cleared unchanged (λ e j jl. ap (λ (t : List X). at (map f t) j) e) k (omega (arith, n))
      (row_at r k l ∙ z) tz)
