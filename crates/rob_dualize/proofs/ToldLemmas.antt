-- A form's row, told into one list: zeros first, then the plan's numbers, then those of the form's own multipliers.
use Rattle.std.proofs.Common.{◌≡◌, ◌≢◌, ◌⊎◌, inl, inr, ℕ, ◌+◌, ◌*◌, ◌/◌, ◌%◌, ◌<◌, ◌≤◌, ℤ, pos, List, [], length, refl, ap, ap₂, ◌∙◌, sym, subst, arith, set}
use Rattle.std.proofs.lemmas.Bool.{cases_lt, cases_eq}
use Rattle.std.proofs.lemmas.List.{get_or_default, get_or-set_same, get_or-set_other}
use Rattle.std.proofs.lemmas.Nat.{div-mul-add}
use Rattle.std.specs.Prelude.{slice_index_or}
use Rattle.rob_linear.specs.Vectors.{at}
use Rattle.rob_linear.specs.Programs.{Program}
use Rattle.rob_meaning.specs.Places.{tabulate}
use Rattle.rob_counterpart.specs.RobustProgram.{RobustProgram}
use Rattle.rob_counterpart.specs.Reform.{pairs, block, multiplier, row_entry, right_entry, reform}
use Rattle.rob_algebra.proofs.WholeNumbers.{at_block}
use Rattle.rob_counterpart.proofs.Pairs.TabulateLemmas.{length-tabulate}
use Rattle.rob_dualize.specs.Told.{listed}
use Rattle.rob_dualize.proofs.CounterpartLists.{IsListed}
use Rattle.rob_dualize.proofs.EntryLemmas.{zero_before, zero_behind}
use Rattle.rob_dualize.proofs.TabulateLemmas.{is_tabulated, item-tabulate}

-- a program's lists are its numbers
pub listed_is : (P : Program) → IsListed P (listed P)
listed_is P = record { a = refl; b = refl; c = refl }

-- a list of this length whose numbers are given
pub written_out : (xs : List ℤ) (n : ℕ) (f : ℕ → ℤ) → length xs ≡ n → ((k : ℕ) → k < n → at xs k ≡ f k)
    → xs ≡ tabulate n f
written_out xs n f e h = is_tabulated xs f (λ k d l. get_or_default xs k d (pos 0) l ∙ h k (omega (arith, e)))
    ∙ ap (λ (m : ℕ). tabulate m f) e

-- one number more, behind those from `low` on
pub written_next : (low : ℕ) (xs : List ℤ) (k : ℕ) (v : ℤ) (f : ℕ → ℤ) → k < length xs → v ≡ f k
    → ((j : ℕ) → low ≤ j → j < k → at xs j ≡ f j)
    → (j : ℕ) → low ≤ j → j < k + 1 → at (set xs k v) j ≡ f j
written_next low xs k v f kl e h j a l = elim (cases_eq j k) [
  | inl s ↦ ap (at (set xs k v)) s ∙ get_or-set_same xs k v (pos 0) kl ∙ e ∙ ap f (sym s)
  | inr d ↦ get_or-set_other xs k j v (pos 0) d ∙ h j a (omega arith)
]

-- the others stay
pub unwritten : (xs : List ℤ) (k : ℕ) (v : ℤ) (j : ℕ) → j ≢ k → at (set xs k v) j ≡ at xs j
unwritten xs k v j d = get_or-set_other xs k j v (pos 0) d

module _ (d : RobustProgram) (i p : ℕ) (l : i < d.forms) (zeros plan all : List ℤ) (n : length all ≡ (reform d).n)
    (is_zero : (k : ℕ) → k < (reform d).n → at zeros k ≡ pos 0)
    (in_plan : (k : ℕ) → k < pairs d → at plan k ≡ row_entry d i p k)
    (behind : (k : ℕ) → pairs d ≤ k → at plan k ≡ at zeros k)
    (own : (k : ℕ) → multiplier d i 0 ≤ k → k < multiplier d i d.set_rows → at all k ≡ row_entry d i p k)
    (others : (k : ℕ) → (k < multiplier d i 0) ⊎ (multiplier d i d.set_rows ≤ k) → at all k ≡ at plan k) where
  number_is : (k : ℕ) → k < (reform d).n → at all k ≡ row_entry d i p k
  number_is k kl = elim (cases_lt k (multiplier d i 0)) [
    | inl a ↦ elim (cases_lt k (pairs d)) [
      | inl b ↦ others k (inl a) ∙ in_plan k b
      | inr b ↦ others k (inl a) ∙ behind k b ∙ is_zero k kl
          ∙ sym (zero_before d i l (pairs d) d.set_rows refl refl p k b (omega arith))
    ]
    | inr a ↦ elim (cases_lt k (multiplier d i d.set_rows)) [
      | inl b ↦ own k a b
      | inr b ↦ others k (inr b) ∙ behind k (omega arith) ∙ is_zero k kl
          ∙ sym (zero_behind d i l (pairs d) d.set_rows refl refl p k (omega arith) kl)
    ]
  ]

  pub row_written : all ≡ tabulate (reform d).n (row_entry d i p)
  row_written = written_out all (reform d).n (row_entry d i p) n number_is

-- ---- what is told of the program
pub told_columns : (P : Program) → P.n ≡ length (listed P).c
told_columns P = sym (length-tabulate P.n P.c)

pub told_rows : (P : Program) → P.m ≡ length (listed P).b
told_rows P = sym (length-tabulate P.m P.b)

module _ (d : RobustProgram) (t size : ℕ) (e : size ≡ block d) (told : t < length (listed (reform d)).b) where
  inside : t < (reform d).m
  inside = subst (λ (n : ℕ). t < n) (length-tabulate (reform d).m (reform d).b) told

  pub form_in : t / size < d.forms
  form_in =
      let g : (h : ℕ) × (r : ℕ) × (h < d.forms) × (r < block d) × (t ≡ (h * block d) + r) =
      at_block d.forms (block d) t inside in
      let q : t / size ≡ g.0 = ap₂ (λ (x y : ℕ). x / y) g.4 e ∙ div-mul-add g.0 (block d) g.1 g.3 in
      subst (λ (h : ℕ). h < d.forms) (sym q) g.2

  pub told_row : (numbers : List ℤ) → numbers ≡ tabulate (reform d).n (row_entry d (t / size) (t % size))
      → numbers ≡ slice_index_or (listed (reform d)).a t []
  told_row numbers h =
      h ∙ ap (λ (v : ℕ). tabulate (reform d).n (row_entry d (t / v) (t % v))) e
      ∙ sym (item-tabulate (reform d).m (λ s. tabulate (reform d).n ((reform d).a s)) t [] inside)

  pub told_right : (right : ℤ) → right ≡ right_entry d (t / size) (t % size) → right ≡ at (listed (reform d)).b t
  told_right right h = h ∙ ap (λ (v : ℕ). right_entry d (t / v) (t % v)) e
      ∙ sym (item-tabulate (reform d).m (reform d).b t (pos 0) inside)
