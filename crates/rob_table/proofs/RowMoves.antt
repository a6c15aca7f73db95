-- Rows of a table exchanged, copied and emptied, place by place.
use Rattle.std.proofs.Common.{◌≡◌, ◌≢◌, ◌⊎◌, ℕ, ◌+◌, ◌*◌, ◌<◌, ◌≤◌, sym, refl, ap, ◌∙◌, subst, arith, inl, inr, List, length, get_or, set, nat_abs}
use Rattle.std.proofs.lemmas.Bool.{cases_eq}
use Rattle.std.proofs.lemmas.List.{get_or-set_same, get_or-set_other, length-set}
use lib.IntN.{ℤ, pos}
use Rattle.rob_linear.specs.Beside.{exchanged}
use Rattle.rob_linear.proofs.KeptOut.BesidePaths.{exchanged_q, exchanged_p, exchanged_other, exchanged_low}
use Rattle.rob_table.specs.Tables.{row_at, bound_at, HasBounds}
use Rattle.rob_table.proofs.Places.{set_here, set_elsewhere}

-- two entries of a row exchanged
abbrev pub exchanged_entries : List ℤ → ℕ → ℕ → List ℤ
exchanged_entries rows a b = set (set rows a (get_or rows b (pos 0))) b (get_or rows a (pos 0))

-- ---- two entries exchanged, at place k of rows a and b
module _ (rows start : List ℤ) (width a b k : ℕ) (al : a * width + width ≤ length rows)
    (bl : b * width + width ≤ length rows) (kl : k < width) where
  abbrev next : List ℤ
  next = exchanged_entries rows (a * width + k) (b * width + k)

  next_other : (i j : ℕ) → j < width → j ≢ k → row_at next width i j ≡ row_at rows width i j
  next_other i j jl d =
      set_elsewhere (set rows (a * width + k) (get_or rows (b * width + k) (pos 0))) width b k i j
      (get_or rows (a * width + k) (pos 0)) kl jl (inl d)
      ∙ set_elsewhere rows width a k i j (get_or rows (b * width + k) (pos 0)) kl jl (inl d)

  next_row : (i : ℕ) → i ≢ a → i ≢ b → row_at next width i k ≡ row_at rows width i k
  next_row i da db =
      set_elsewhere (set rows (a * width + k) (get_or rows (b * width + k) (pos 0))) width b k i k
      (get_or rows (a * width + k) (pos 0)) kl kl (inr db)
      ∙ set_elsewhere rows width a k i k (get_or rows (b * width + k) (pos 0)) kl kl (inr da)

  next_b : row_at next width b k ≡ row_at rows width a k
  next_b =
      set_here (set rows (a * width + k) (get_or rows (b * width + k) (pos 0))) width b k
      (get_or rows (a * width + k) (pos 0))
      (omega (arith, length-set rows (a * width + k) (get_or rows (b * width + k) (pos 0))))

  next_a : a ≢ b → row_at next width a k ≡ row_at rows width b k
  next_a d =
      set_elsewhere (set rows (a * width + k) (get_or rows (b * width + k) (pos 0))) width b k a k
      (get_or rows (a * width + k) (pos 0)) kl kl (inr d)
      ∙ set_here rows width a k (get_or rows (b * width + k) (pos 0)) (omega arith)

  next_exchanged : (i : ℕ) → row_at next width i k ≡ row_at rows width (exchanged a b i) k
  next_exchanged i = elim (cases_eq i b) [
    | inl e ↦
        subst (λ (x : ℕ). row_at next width x k ≡ row_at rows width (exchanged a b x) k) (sym e)
        (next_b ∙ ap (λ (x : ℕ). row_at rows width x k) (sym (exchanged_p a b)))
    | inr d ↦ elim (cases_eq i a) [
      | inl e ↦
          subst (λ (x : ℕ). row_at next width x k ≡ row_at rows width (exchanged a b x) k) (sym e)
          (next_a (λ s. d (e ∙ s)) ∙ ap (λ (x : ℕ). row_at rows width x k) (sym (exchanged_q a b)))
      | inr o ↦ next_row i o d ∙ ap (λ (x : ℕ). row_at rows width x k) (sym (exchanged_other a b i o d))
    ]
  ]

  pub exchanged_more : ((i j : ℕ) → j < k → j < width → row_at rows width i j ≡ row_at start width (exchanged a b i) j)
      → ((i j : ℕ) → k ≤ j → j < width → row_at rows width i j ≡ row_at start width i j)
      → (new : List ℤ) → new ≡ exchanged_entries rows (a * width + k) (b * width + k) → (i j : ℕ) → j < k + 1
      → j < width → row_at new width i j ≡ row_at start width (exchanged a b i) j
  exchanged_more done same new e i j jk jl =
      ap (λ (t : List ℤ). row_at t width i j) e
      ∙ elim (cases_eq j k) [
        | inl s ↦
            subst (λ (x : ℕ). row_at next width i x ≡ row_at start width (exchanged a b i) x) (sym s)
            (next_exchanged i ∙ same (exchanged a b i) k (omega arith) kl)
        | inr d ↦ next_other i j jl d ∙ done i j (omega arith) jl
      ]

  pub exchanged_rest : ((i j : ℕ) → k ≤ j → j < width → row_at rows width i j ≡ row_at start width i j)
      → (new : List ℤ) → new ≡ exchanged_entries rows (a * width + k) (b * width + k) → (i j : ℕ) → k + 1 ≤ j
      → j < width → row_at new width i j ≡ row_at start width i j
  exchanged_rest same new e i j jk jl =
      ap (λ (t : List ℤ). row_at t width i j) e ∙ next_other i j jl (λ s. absurd (omega arith))
      ∙ same i j (omega arith) jl

-- ---- two rows exchanged, with their bounds
module _ (limit width : ℕ) (rows : List ℤ) (bounds : List ℕ) (h : HasBounds limit width rows bounds) (a b : ℕ)
    (al : a < length bounds) (bl : b < length bounds) where
  abbrev bounds' : List ℕ
  bounds' = set (set bounds a (get_or bounds b 0)) b (get_or bounds a 0)

  same_count : length bounds' ≡ length bounds
  same_count =
      length-set (set bounds a (get_or bounds b 0)) b (get_or bounds a 0) ∙ length-set bounds a (get_or bounds b 0)

  bound_exchanged : (i : ℕ) → bound_at bounds' i ≡ bound_at bounds (exchanged a b i)
  bound_exchanged i = elim (cases_eq i b) [
    | inl e ↦ subst (λ (x : ℕ). bound_at bounds' x ≡ bound_at bounds (exchanged a b x)) (sym e)
        (get_or-set_same (set bounds a (get_or bounds b 0)) b (get_or bounds a 0) 0
        (omega (arith, length-set bounds a (get_or bounds b 0))) ∙ ap (bound_at bounds) (sym (exchanged_p a b)))
    | inr d ↦ elim (cases_eq i a) [
      | inl e ↦ subst (λ (x : ℕ). bound_at bounds' x ≡ bound_at bounds (exchanged a b x)) (sym e)
          (get_or-set_other (set bounds a (get_or bounds b 0)) b a (get_or bounds a 0) 0 (λ s. d (e ∙ s))
          ∙ get_or-set_same bounds a (get_or bounds b 0) 0 al ∙ ap (bound_at bounds) (sym (exchanged_q a b)))
      | inr o ↦ get_or-set_other (set bounds a (get_or bounds b 0)) b i (get_or bounds a 0) 0 d
          ∙ get_or-set_other bounds a i (get_or bounds b 0) 0 o ∙ ap (bound_at bounds) (sym (exchanged_other a b i o d))
    ]
  ]

  pub exchanged_bounds : (new : List ℤ) (news : List ℕ) → length new ≡ length rows → news ≡ bounds'
      → ((i k : ℕ) → k < width → row_at new width i k ≡ row_at rows width (exchanged a b i) k)
      → HasBounds limit width new news
  exchanged_bounds new news ln e same = subst (λ (t : List ℕ). HasBounds limit width new t) (sym e) (record {
    size = ln ∙ h.size ∙ ap (λ t. t * width) (sym same_count);
    within = λ i k il kl.
        subst (λ t. nat_abs t ≤ bound_at bounds' i) (sym (same i k kl))
        (subst (λ (t : ℕ). nat_abs (row_at rows width (exchanged a b i) k) ≤ t) (sym (bound_exchanged i))
        (h.within (exchanged a b i) k (exchanged_low a b i (length bounds) al bl (omega (arith, same_count))) kl));
    low =
        λ i il. subst (λ (t : ℕ). t ≤ limit) (sym (bound_exchanged i))
        (h.low (exchanged a b i) (exchanged_low a b i (length bounds) al bl (omega (arith, same_count))));
  })

-- ---- a row and its bound written anew
pub written_bounds : (limit width : ℕ) (rows new : List ℤ) (bounds news : List ℕ) (to value : ℕ)
    → HasBounds limit width rows bounds → length new ≡ length rows → to < length bounds → news ≡ set bounds to value
    → value ≤ limit
    → ((k : ℕ) → k < width → nat_abs (row_at new width to k) ≤ value)
    → ((i k : ℕ) → i ≢ to → k < width → row_at new width i k ≡ row_at rows width i k) → HasBounds limit width new news
written_bounds limit width rows new bounds news to value h ln tl e vl here others =
    subst (λ (t : List ℕ). HasBounds limit width new t) (sym e) (record {
      size = ln ∙ h.size ∙ ap (λ t. t * width) (sym (length-set bounds to value));
      within = λ i k il kl. elim (cases_eq i to) [
        | inl s ↦
            subst (λ (x : ℕ). nat_abs (row_at new width x k) ≤ bound_at (set bounds to value) x) (sym s)
            (subst (λ (t : ℕ). nat_abs (row_at new width to k) ≤ t) (sym (get_or-set_same bounds to value 0 tl))
            (here k kl))
        | inr d ↦
            subst (λ t. nat_abs t ≤ bound_at (set bounds to value) i) (sym (others i k d kl))
            (subst (λ (t : ℕ). nat_abs (row_at rows width i k) ≤ t) (sym (get_or-set_other bounds to i value 0 d))
            (h.within i k (omega (arith, length-set bounds to value)) kl))
      ];
      low = λ i il. elim (cases_eq i to) [
        | inl s ↦
            subst (λ (x : ℕ). bound_at (set bounds to value) x ≤ limit) (sym s)
            (subst (λ (t : ℕ). t ≤ limit) (sym (get_or-set_same bounds to value 0 tl)) vl)
        | inr d ↦
            subst (λ (t : ℕ). t ≤ limit) (sym (get_or-set_other bounds to i value 0 d))
            (h.low i (omega (arith, length-set bounds to value)))
      ];
    })

pub copied_bounds : (limit width : ℕ) (rows new : List ℤ) (bounds news : List ℕ) (from to : ℕ)
    → HasBounds limit width rows bounds → length new ≡ length rows → from < length bounds → to < length bounds
    → news ≡ set bounds to (get_or bounds from 0)
    → ((k : ℕ) → k < width → row_at new width to k ≡ row_at rows width from k)
    → ((i k : ℕ) → i ≢ to → k < width → row_at new width i k ≡ row_at rows width i k) → HasBounds limit width new news
copied_bounds limit width rows new bounds news from to h ln fl tl e here others =
    written_bounds limit width rows new bounds news to (get_or bounds from 0) h ln tl e (h.low from fl)
    (λ k kl. subst (λ t. nat_abs t ≤ bound_at bounds from) (sym (here k kl)) (h.within from k fl kl)) others

-- ---- an entry copied, at place k of rows from and to
module _ (rows start : List ℤ) (width from to k : ℕ) (fl : from * width + width ≤ length rows)
    (tl : to * width + width ≤ length rows) (kl : k < width)
    (same : (i j : ℕ) → (i ≢ to) ⊎ (k ≤ j) → j < width → row_at rows width i j ≡ row_at start width i j) (new : List ℤ)
    (e : new ≡ set rows (to * width + k) (get_or rows (from * width + k) (pos 0))) where
  pub copied_more : ((j : ℕ) → j < k → j < width → row_at rows width to j ≡ row_at start width from j) → (j : ℕ)
      → j < k + 1 → j < width → row_at new width to j ≡ row_at start width from j
  copied_more done j jk jl =
      ap (λ (t : List ℤ). row_at t width to j) e
      ∙ elim (cases_eq j k) [
        | inl s ↦
            subst (λ (x : ℕ). row_at (set rows (to * width + k) (get_or rows (from * width + k) (pos 0))) width to
            x ≡ row_at start width from x) (sym s)
            (set_here rows width to k (get_or rows (from * width + k) (pos 0)) (omega arith)
            ∙ same from k (inr (omega arith)) kl)
        | inr d ↦ set_elsewhere rows width to k to j (get_or rows (from * width + k) (pos 0)) kl jl (inl d)
            ∙ done j (omega arith) jl
      ]

  pub copied_rest : (i j : ℕ) → (i ≢ to) ⊎ (k + 1 ≤ j) → j < width → row_at new width i j ≡ row_at start width i j
  copied_rest i j d jl =
      ap (λ (t : List ℤ). row_at t width i j) e
      ∙ elim d [
        | inl o ↦ set_elsewhere rows width to k i j (get_or rows (from * width + k) (pos 0)) kl jl (inr o)
            ∙ same i j (inl o) jl
        | inr l ↦
            set_elsewhere rows width to k i j (get_or rows (from * width + k) (pos 0)) kl jl
            (inl (λ s. absurd (omega arith))) ∙ same i j (inr (omega arith)) jl
      ]

-- ---- 0 written at place p of row i
module _ (rows start : List ℤ) (width i p : ℕ) (il : i * width + width ≤ length rows) (pl : p < width) (new : List ℤ)
    (e : new ≡ set rows (i * width + p) (pos 0)) where
  pub zero_here : row_at new width i p ≡ pos 0
  zero_here = ap (λ (t : List ℤ). row_at t width i p) e ∙ set_here rows width i p (pos 0) (omega arith)

  pub zero_elsewhere : (j k : ℕ) → k < width → (k ≢ p) ⊎ (j ≢ i) → row_at new width j k ≡ row_at rows width j k
  zero_elsewhere j k kl d = ap (λ (t : List ℤ). row_at t width j k) e ∙ set_elsewhere rows width i p j k (pos 0) pl kl d

  pub emptied_more : ((j : ℕ) → j < i → row_at rows width j p ≡ pos 0) → (j : ℕ) → j < i + 1
      → row_at new width j p ≡ pos 0
  emptied_more zero j jl = elim (cases_eq j i) [
    | inl s ↦ subst (λ (x : ℕ). row_at new width x p ≡ pos 0) (sym s) zero_here
    | inr d ↦ zero_elsewhere j p pl (inr d) ∙ zero j (omega arith)
  ]

  pub emptied_rest : ((j k : ℕ) → k < width → (i ≤ j) ⊎ (k ≢ p) → row_at rows width j k ≡ row_at start width j k)
      → (j k : ℕ) → k < width → (i + 1 ≤ j) ⊎ (k ≢ p) → row_at new width j k ≡ row_at start width j k
  emptied_rest same j k kl d = elim d [
    | inl l ↦ zero_elsewhere j k kl (inr (λ s. absurd (omega arith))) ∙ same j k kl (inl (omega arith))
    | inr o ↦ zero_elsewhere j k kl (inl o) ∙ same j k kl (inr o)
  ]

  pub row_more : ((k : ℕ) → k < p → row_at rows width i k ≡ pos 0) → (k : ℕ) → k < p + 1 → row_at new width i k ≡ pos 0
  row_more zero k kl = elim (cases_eq k p) [
    | inl s ↦ subst (λ (x : ℕ). row_at new width i x ≡ pos 0) (sym s) zero_here
    | inr d ↦ zero_elsewhere i k (omega arith) (inl d) ∙ zero k (omega arith)
  ]

-- ---- a unit row: 1 at the place and in the own entry
module _ (rows empty new : List ℤ) (width i p w : ℕ) (wl : w + 1 ≡ width) (il : i * width + width ≤ length rows)
    (pl : p + 1 < width) (le : length empty ≡ length rows)
    (e : new ≡ set (set empty (i * width + p) (pos 1)) (i * width + w) (pos 1))
    (others : (j k : ℕ) → j ≢ i → k < width → row_at empty width j k ≡ row_at rows width j k)
    (zero : (k : ℕ) → k < width → row_at empty width i k ≡ pos 0) where
  pub unit_others : (j k : ℕ) → j ≢ i → k < width → row_at new width j k ≡ row_at rows width j k
  unit_others j k d kl =
      ap (λ (t : List ℤ). row_at t width j k) e
      ∙ set_elsewhere (set empty (i * width + p) (pos 1)) width i w j k (pos 1) (omega arith) kl (inr d)
      ∙ set_elsewhere empty width i p j k (pos 1) (omega arith) kl (inr d)
      ∙ others j k d kl

  pub unit_own : row_at new width i w ≡ pos 1
  unit_own =
      ap (λ (t : List ℤ). row_at t width i w) e
      ∙ set_here (set empty (i * width + p) (pos 1)) width i w (pos 1)
      (omega (arith, length-set empty (i * width + p) (pos 1)))

  pub unit_place : row_at new width i p ≡ pos 1
  unit_place =
      ap (λ (t : List ℤ). row_at t width i p) e
      ∙ set_elsewhere (set empty (i * width + p) (pos 1)) width i w i p (pos 1) (omega arith) (omega arith)
      (inl (λ s. absurd (omega arith)))
      ∙ set_here empty width i p (pos 1) (omega arith)

  pub unit_zero : (k : ℕ) → k + 1 < width → k ≢ p → row_at new width i k ≡ pos 0
  unit_zero k kl d =
      ap (λ (t : List ℤ). row_at t width i k) e
      ∙ set_elsewhere (set empty (i * width + p) (pos 1)) width i w i k (pos 1) (omega arith) (omega arith)
      (inl (λ s. absurd (omega arith)))
      ∙ set_elsewhere empty width i p i k (pos 1) (omega arith) (omega arith) (inl d)
      ∙ zero k (omega arith)

  unit_low : (k : ℕ) → k < width → nat_abs (row_at new width i k) ≤ 1
  unit_low k kl = elim (cases_eq k w) [
    | inl s ↦
        subst (λ (x : ℕ). nat_abs (row_at new width i x) ≤ 1) (sym s)
        (subst (λ t. nat_abs t ≤ 1) (sym unit_own) (omega arith))
    | inr d ↦ elim (cases_eq k p) [
      | inl s ↦
          subst (λ (x : ℕ). nat_abs (row_at new width i x) ≤ 1) (sym s)
          (subst (λ t. nat_abs t ≤ 1) (sym unit_place) (omega arith))
      | inr o ↦ subst (λ t. nat_abs t ≤ 1) (sym (unit_zero k (omega arith) o)) (omega arith)
    ]
  ]

  pub unit_bounds : (limit : ℕ) (bounds : List ℕ) → i < length bounds → 1 ≤ limit → HasBounds limit width rows bounds
      → HasBounds limit width new (set bounds i 1)
  unit_bounds limit bounds ib low h =
      written_bounds limit width rows new bounds (set bounds i 1) i 1 h
      (ap length e ∙ length-set (set empty (i * width + p) (pos 1)) (i * width + w) (pos 1)
      ∙ length-set empty (i * width + p) (pos 1) ∙ le)
      ib refl low unit_low unit_others

-- ---- how many numbers there are after a write
pub set_size : (rows new : List ℤ) (k : ℕ) (z : ℤ) (n : ℕ) → length rows ≡ n → new ≡ set rows k z → length new ≡ n
set_size rows new k z n h e = ap length e ∙ length-set rows k z ∙ h

pub swap_size : (rows new : List ℤ) (a b : ℕ) (x y : ℤ) (n : ℕ) → length rows ≡ n → new ≡ set (set rows a x) b y
    → length new ≡ n
swap_size rows new a b x y n h e = ap length e ∙ length-set (set rows a x) b y ∙ length-set rows a x ∙ h

-- ---- numbers written at one place of a row after another
module _ (rows start : List ℤ) (width i k : ℕ) (z : ℤ) (il : i * width + width ≤ length rows) (kl : k < width)
    (new : List ℤ) (e : new ≡ set rows (i * width + k) z) where
  pub written_more : (f : ℕ → ℤ) (low : ℕ) → z ≡ f k → ((j : ℕ) → low ≤ j → j < k → row_at rows width i j ≡ f j)
      → (j : ℕ) → low ≤ j → j < k + 1 → row_at new width i j ≡ f j
  written_more f low h done j lj jk =
      ap (λ (t : List ℤ). row_at t width i j) e
      ∙ elim (cases_eq j k) [
        | inl s ↦
            subst (λ (x : ℕ). row_at (set rows (i * width + k) z) width i x ≡ f x) (sym s)
            (set_here rows width i k z (omega arith) ∙ h)
        | inr d ↦ set_elsewhere rows width i k i j z kl (omega arith) (inl d) ∙ done j lj (omega arith)
      ]

  pub written_elsewhere : (j c : ℕ) → c < width → (c ≢ k) ⊎ (j ≢ i) → row_at rows width j c ≡ row_at start width j c
      → row_at new width j c ≡ row_at start width j c
  written_elsewhere j c cl d h =
      ap (λ (t : List ℤ). row_at t width j c) e ∙ set_elsewhere rows width i k j c z kl cl d ∙ h
