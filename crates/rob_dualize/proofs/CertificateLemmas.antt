-- The numbers that a solver tells at its end are those of a certificate.
use Rattle.std.proofs.Common.{◌≡◌, ℕ, suc, ◌+◌, ◌*◌, ◌<◌, ◌≤◌, List, map, length, sym, ap, ap₂, ◌∙◌, subst, arith, inl, inr}
use Rattle.std.proofs.lemmas.List.{length-map}
use Rattle.rob_algebra.specs.Fraction.{Fraction, of_int, ◌-ℚ◌}
use Rattle.rob_linear.specs.Vectors.{Matrix, Columns}
use Rattle.rob_linear.specs.Programs.{system_of, auxiliary_of}
use Rattle.rob_linear.specs.Turns.{own_of}
use Rattle.rob_meaning.specs.Certificates.{Status, Cover, Item, Certificate}
use Rattle.rob_meaning.specs.Places.{tabulate}
use Rattle.rob_number.specs.declared.lp_kind.LpKind.{LpKind}
use Rattle.rob_number.specs.declared.lp_kind.LpKind.TheVariants as kind
use Rattle.rob_simplex.specs.Dictionaries.{columns_of}
use Rattle.rob_simplex.specs.Solvers.{Solver, positions, entries, column_of}
use Rattle.rob_simplex.specs.Solutions.{point_of, dual_of, ray_of, weights_of}
use Rattle.rob_counterpart.specs.RobustProgram.{RobustProgram}
use Rattle.rob_counterpart.specs.Endings.{InfeasibleEnding}
use Rattle.rob_counterpart.specs.ReadCertificates.{weight_of}
use Rattle.rob_counterpart.specs.Splitting.{difference, plus, minus, OneIsZero}
use Rattle.rob_counterpart.specs.Reform.{reform, pairs, block, positive_row, negative_row}
use Rattle.rob_counterpart.proofs.Pairs.Blocks.{block_in}
use Rattle.rob_counterpart.proofs.Pairs.PairNumbers.{point_one, dual_one, weight_one, unbounded_point_one, move_one}
use Rattle.rob_counterpart.proofs.Positions.ReformPlaces.{reform_is}
use Rattle.rob_counterpart.proofs.Pairs.TabulateLemmas.{length-tabulate}
use Rattle.rob_dualize.specs.Ending.{HasEnded}
use Rattle.rob_dualize.specs.Numbers.{told, KeepPairs, KeepRows}
use Rattle.rob_counterpart.specs.ReadNumbers.{differences, covers_to, items_to}
use Rattle.rob_dualize.proofs.EndingLemmas.{optimal_end, unbounded_end, infeasible_end}
use Rattle.rob_dualize.proofs.ReadingLemmas.{told_at, differences_same, covers_same, items_same}

swapped : {a b : Fraction} → OneIsZero a b → OneIsZero b a
swapped (inl e) = inr e
swapped (inr e) = inl e

-- ---- of two numbers that are read as a difference one is 0
module _ (d : RobustProgram) (s : Solver) where
  pub rows_told : (k : LpKind) → HasEnded (reform d) k s → (reform d).m ≡ positions s
  rows_told k h = sym h.same.height ∙ h.rows

  pub columns_told : (k : LpKind) → HasEnded (reform d) k s → (reform d).n ≡ s.columns
  columns_told k h = sym h.same.width ∙ h.columns

  abbrev own : Columns
  own = own_of (system_of (reform d)) (columns_of s.basis)

  pub optimal_pairs : HasEnded (reform d) kind.Optimal s → (j : ℕ) → j ≤ d.decisions
      → OneIsZero (point_of s (plus j)) (point_of s (minus j))
  optimal_pairs h = point_one d (reform d) (reform_is d) own (entries s) (point_of s) (dual_of s)
      (optimal_end (reform d) s h)

  pub optimal_rows : HasEnded (reform d) kind.Optimal s → (i c : ℕ) → i < d.forms → c < d.set_columns
      → OneIsZero (dual_of s (negative_row d i c)) (dual_of s (positive_row d i c))
  optimal_rows h i c il cl = swapped (dual_one d (reform d) (reform_is d) own (entries s) (point_of s) (dual_of s)
      (optimal_end (reform d) s h) i c il cl)

  pub unbounded_pairs : HasEnded (reform d) kind.Unbounded s → (j : ℕ) → j ≤ d.decisions
      → OneIsZero (point_of s (plus j)) (point_of s (minus j))
  unbounded_pairs h = unbounded_point_one d (reform d) (reform_is d) own (entries s) (column_of s.state) (point_of s)
      (ray_of s) (unbounded_end (reform d) s h)

  pub direction_pairs : HasEnded (reform d) kind.Unbounded s → (j : ℕ) → j ≤ d.decisions
      → OneIsZero (ray_of s (plus j)) (ray_of s (minus j))
  direction_pairs h = move_one d (reform d) (reform_is d) own (entries s) (column_of s.state) (point_of s) (ray_of s)
      (unbounded_end (reform d) s h)

  pub infeasible_rows : HasEnded (reform d) kind.Infeasible s → (i c : ℕ) → i < d.forms → c < d.set_columns
      → OneIsZero (of_int (weights_of s (negative_row d i c))) (of_int (weights_of s (positive_row d i c)))
  infeasible_rows h i c il cl =
      let en : (rows : Matrix) × InfeasibleEnding (reform d) (own_of (auxiliary_of (reform d)) (columns_of s.basis))
      rows
      × ((t : ℕ) → t < (reform d).m → of_int (weights_of s t) ≡ weight_of (reform d) rows t) =
      infeasible_end (reform d) s h in
      let one = swapped (weight_one d (reform d) (reform_is d) (own_of (auxiliary_of (reform d)) (columns_of s.basis))
      en.0 en.1 i c il cl) in
      let low = en.2 (positive_row d i c) (block_in d.forms (block d) i (c + c) il (omega arith)) in
      let high = en.2 (negative_row d i c) (block_in d.forms (block d) i (suc (c + c)) il (omega arith)) in
      subst (λ b. OneIsZero (of_int (weights_of s (negative_row d i c))) b) (sym low)
      (subst (λ a. OneIsZero a (weight_of (reform d) en.0 (positive_row d i c))) (sym high) one)

-- ---- numbers in a list
-- they are the first n values of a function
pub record AreTold {N : Type 0} (value : N → Fraction) (numbers : List N) (n : ℕ) (f : ℕ → Fraction) : Type 0 where
  pub numbers_are : map value numbers ≡ tabulate n f

-- as the list that was told has them
pub are_told : {N : Type 0} (value : N → Fraction) {numbers list : List N} {n : ℕ} {f : ℕ → Fraction} → numbers ≡ list
    → map value list ≡ tabulate n f → AreTold value numbers n f
are_told value same told = record { numbers_are = ap (map value) same ∙ told }

module _ {N : Type 0} {value : N → Fraction} {numbers : List N} {n : ℕ} {f : ℕ → Fraction}
    (r : AreTold value numbers n f) where
  pub count_told : length numbers ≡ n
  count_told = sym (length-map numbers value) ∙ ap length r.numbers_are ∙ length-tabulate n f

  one_at : (a b : ℕ) → a < n → b < n → OneIsZero (f a) (f b) → OneIsZero (told value numbers a) (told value numbers b)
  one_at a b al bl one =
      subst (λ y. OneIsZero (told value numbers a) y) (sym (told_at value numbers n f r.numbers_are b bl))
      (subst (λ x. OneIsZero x (f b)) (sym (told_at value numbers n f r.numbers_are a al)) one)

  pub pair_told : (j : ℕ) → suc (j + j) < n → OneIsZero (f (plus j)) (f (minus j))
      → OneIsZero (told value numbers (plus j)) (told value numbers (minus j))
  pair_told j l one = one_at (plus j) (minus j) (omega arith) l one

  pub pairs_told : (count : ℕ) → count + count ≤ n → ((j : ℕ) → j < count → OneIsZero (f (plus j)) (f (minus j)))
      → KeepPairs value numbers count
  pairs_told count l one j jl = pair_told j (omega arith) (one j jl)

  pub rows_kept : (d : RobustProgram) → n ≡ d.forms * block d
      → ((i c : ℕ) → i < d.forms → c < d.set_columns → OneIsZero (f (negative_row d i c)) (f (positive_row d i c)))
      → KeepRows value d numbers
  rows_kept d e one i c il cl =
      let low = block_in d.forms (block d) i (c + c) il (omega arith) in
      let high = block_in d.forms (block d) i (suc (c + c)) il (omega arith) in
      one_at (negative_row d i c) (positive_row d i c) (subst (λ k. negative_row d i c < k) (sym e) high)
      (subst (λ k. positive_row d i c < k) (sym e) low) (one i c il cl)

  pub difference_read : (j : ℕ) → suc (j + j) < n → difference (told value numbers) j ≡ difference f j
  difference_read j l = ap₂ (λ a b. a -ℚ b) (told_at value numbers n f r.numbers_are (plus j) (omega arith))
      (told_at value numbers n f r.numbers_are (minus j) l)

  pub differences_read : (count : ℕ) → count + count ≤ n → differences count (told value numbers) ≡ differences count f
  differences_read count l = differences_same count (told value numbers) f
      (λ k kl. told_at value numbers n f r.numbers_are k (omega arith))

  pub covers_read : (d : RobustProgram) → n ≡ pairs d + (d.forms * d.set_rows)
      → covers_to d d.forms (told value numbers) ≡ covers_to d d.forms f
  covers_read d e = covers_same d (told value numbers) f d.forms (omega arith)
      (λ k kl. told_at value numbers n f r.numbers_are k (subst (λ t. k < t) (sym e) kl))

  pub items_read : (d : RobustProgram) → n ≡ d.forms * block d → d.parameters ≤ d.set_columns
      → items_to d d.forms (told value numbers) ≡ items_to d d.forms f
  items_read d e pl = items_same d (told value numbers) f d.forms (omega arith) pl
      (λ k kl. told_at value numbers n f r.numbers_are k (subst (λ t. k < t) (sym e) kl))

-- ---- certificates part by part
abbrev pub parts : Status → Fraction → Fraction → List Fraction → List Fraction → List Fraction → Fraction
    → List Cover → List Cover → List Item → Certificate
parts status value scale inside plan step bound covers holds items = record {
  status = status;
  value = value;
  scale = scale;
  inside = inside;
  plan = plan;
  step = step;
  step_bound = bound;
  covers = covers;
  holds = holds;
  items = items;
}

pub parts_same : (status : Status) {v v' s s' : Fraction} {u p p' t t' : List Fraction} {b b' : Fraction}
    {cs cs' hs hs' : List Cover} {xs xs' : List Item}
    → v ≡ v' → s ≡ s' → p ≡ p' → t ≡ t' → b ≡ b' → cs ≡ cs' → hs ≡ hs' → xs ≡ xs'
    → parts status v s u p t b cs hs xs ≡ parts status v' s' u p' t' b' cs' hs' xs'
parts_same status {v' = v'} {s' = s'} {u = u} {p = p} {p' = p'} {t = t} {t' = t'} {b = b} {b' = b'} {cs = cs}
    {cs' = cs'} {hs = hs} {hs' = hs'} {xs = xs} ev es ep et eb ec eh ei =
    ap₂ (λ x y. parts status x y u p t b cs hs xs) ev es
    ∙ ap₂ (λ x y. parts status v' s' u x y b cs hs xs) ep et
    ∙ ap₂ (λ x y. parts status v' s' u p' t' x y hs xs) eb ec
    ∙ ap₂ (λ x y. parts status v' s' u p' t' b' cs' x y) eh ei
