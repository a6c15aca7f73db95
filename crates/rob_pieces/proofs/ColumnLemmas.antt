-- The decision columns of a split model: those of a cell's policies stand together, in the order of the model's.
use Rattle.std.specs.Prelude.{◌≡◌, ℕ, zero, suc, pred, ◌+◌, ◌*◌, ◌/◌, ◌<◌, ◌≤◌, List, [], ◌∷◌, ◌++◌, length, map, flat_map, take, refl, codes}
use Rattle.std.proofs.Common.{sym, ◌∙◌, ap, ap₂, subst, arith, length-append, suc-mul, zero-mul, mul_comm, mul-le-mul_right}
use Rattle.std.proofs.lemmas.List.{length-map, take_at}
use Rattle.std.proofs.lemmas.Nat.{div-mul-add}
use Rattle.rob_meaning.proofs.Conditions.AdmittedLemmas.{length-later}
use Rattle.rob_meaning.proofs.Scenarios.JointScenarioLemmas.{length-tabulate, list_in-left}
use Rattle.rob_meaning.specs.Places.{tabulate}
use Rattle.rob_meaning.specs.RobustModel.{AdaptiveVariable, RobustModel, column_count, column_from, column_of, in_set, list_in, list_of, set_count, written_count, written_parameters}
use Rattle.rob_pieces.specs.Cuts.{Cut, cell_count, cell_numbers, IsCell}
use Rattle.rob_pieces.specs.Pieces.{policy_columns}
use Rattle.rob_pieces.specs.SplitModel.{cell_names, copy_in, numbered, rule_in, split_model}

-- ---- columns in general
pub column_shift : (b k : ℕ) (ys : List AdaptiveVariable) (y : ℕ) → column_from (b + k) ys y ≡ b + column_from k ys y
column_shift b k [] y = refl
column_shift b k (first ∷ rest) zero = refl
column_shift b k (first ∷ rest) (suc y) =
    ap (λ n. column_from n rest y)
    (let e : suc (b + k) + length first.on ≡ b + (suc k + length first.on) = omega arith in e)
    ∙ column_shift b (suc k + length first.on) rest y

pub column_base : (b : ℕ) (ys : List AdaptiveVariable) (y : ℕ) → column_from b ys y ≡ b + column_from 0 ys y
column_base b ys y = ap (λ n. column_from n ys y) (let e : b ≡ b + 0 = omega arith in e) ∙ column_shift b 0 ys y

-- columns before those of what comes behind
column_left : (b : ℕ) (xs ys : List AdaptiveVariable) (y : ℕ) → y < length xs
    → column_from b (xs ++ ys) y ≡ column_from b xs y
column_left b [] ys y h = absurd (omega arith)
column_left b (x ∷ xs) ys zero h = refl
column_left b (x ∷ xs) ys (suc y) h = column_left (suc b + length x.on) xs ys y (omega arith)

column_right : (b : ℕ) (xs ys : List AdaptiveVariable) (y : ℕ) →
    column_from b (xs ++ ys) (length xs + y) ≡ column_from (column_from b xs (length xs)) ys y
column_right b [] ys y = ap (λ j. column_from b ys j) (let e : zero + y ≡ y = omega arith in e)
column_right b (x ∷ xs) ys y =
    ap (λ j. column_from b (x ∷ (xs ++ ys)) j) (let e : suc (length xs) + y ≡ suc (length xs + y) = omega arith in e)
    ∙ column_right (suc b + length x.on) xs ys y

list_right : (xs ys : List AdaptiveVariable) (y : ℕ) → list_in (xs ++ ys) (length xs + y) ≡ list_in ys y
list_right [] ys y = ap (λ j. list_in ys j) (let e : zero + y ≡ y = omega arith in e)
list_right (x ∷ xs) ys y =
    ap (λ j. list_in (x ∷ (xs ++ ys)) j) (let e : suc (length xs) + y ≡ suc (length xs + y) = omega arith in e)
    ∙ list_right xs ys y

-- ---- copies
module _ (m : RobustModel) where
  column_copies : (c b : ℕ) (ys : List AdaptiveVariable) (y : ℕ)
      → column_from b (map (copy_in m c) ys) y ≡ column_from b ys y
  column_copies c b [] y = refl
  column_copies c b (first ∷ rest) zero = refl
  column_copies c b (first ∷ rest) (suc y) = column_copies c (suc b + length first.on) rest y

  list_copies : (c : ℕ) (ys : List AdaptiveVariable) (y : ℕ) → list_in (map (copy_in m c) ys) y ≡ list_in ys y
  list_copies c [] y = refl
  list_copies c (first ∷ rest) zero = refl
  list_copies c (first ∷ rest) (suc y) = list_copies c rest y

  module _ (ys : List AdaptiveVariable) where
    abbrev copies : ℕ → List AdaptiveVariable
    copies c = map (copy_in m c) ys

    abbrev width : ℕ
    width = column_from 0 ys (length ys)

    copies_end : (c b : ℕ) → column_from b (copies c) (length (copies c)) ≡ b + width
    copies_end c b =
        column_copies c b ys (length (copies c)) ∙ ap (λ n. column_from b ys n) (length-map ys (copy_in m c))
        ∙ column_base b ys (length ys)

    pub length-blocks : (n : ℕ) (g : ℕ → ℕ) → length (flat_map copies (tabulate n g)) ≡ n * length ys
    length-blocks zero g = sym (zero-mul (length ys))
    length-blocks (suc n) g =
        length-append (copies (g zero)) (flat_map copies (tabulate n (λ k. g (suc k))))
        ∙ ap₂ ◌+◌ (length-map ys (copy_in m (g zero))) (length-blocks n (λ k. g (suc k)))
        ∙ (let e : length ys + n * length ys ≡ suc n * length ys = omega (arith, suc-mul n (length ys)) in e)

    pub column_blocks : (n : ℕ) (g : ℕ → ℕ) (b i y : ℕ) → i < n → y < length ys →
        column_from b (flat_map copies (tabulate n g)) (i * length ys + y) ≡ b + i * width + column_from 0 ys y
    column_blocks zero g b i y small some = absurd (omega arith)
    column_blocks (suc n) g b zero y small some =
        ap (λ j. column_from b (flat_map copies (tabulate (suc n) g)) j)
        (let e : zero * length ys + y ≡ y = omega (arith, zero-mul (length ys)) in e)
        ∙ column_left b (copies (g zero)) (flat_map copies (tabulate n (λ k. g (suc k)))) y
        (subst (λ l. y < l) (sym (length-map ys (copy_in m (g zero)))) some)
        ∙ column_copies (g zero) b ys y ∙ column_base b ys y
        ∙ (let e : b + column_from 0 ys y ≡ b + zero * width + column_from 0 ys y = omega (arith, zero-mul width) in e)
    column_blocks (suc n) g b (suc i) y small some =
        ap (λ j. column_from b (flat_map copies (tabulate (suc n) g)) j)
        (let l = length-map ys (copy_in m (g zero)) in
        let e : suc i * length ys + y ≡ length (copies (g zero)) + (i * length ys + y) =
        omega (arith, suc-mul i (length ys)) in e)
        ∙ column_right b (copies (g zero)) (flat_map copies (tabulate n (λ k. g (suc k)))) (i * length ys + y)
        ∙ ap (λ k. column_from k (flat_map copies (tabulate n (λ k. g (suc k)))) (i * length ys + y))
        (copies_end (g zero) b)
        ∙ column_blocks n (λ k. g (suc k)) (b + width) i y (omega arith) some
        ∙ (let e : (b + width) + i * width + column_from 0 ys y ≡ b + suc i * width + column_from 0 ys y =
        omega (arith, suc-mul i width) in e)

    pub list_blocks : (n : ℕ) (g : ℕ → ℕ) (i y : ℕ) → i < n → y < length ys →
        list_in (flat_map copies (tabulate n g)) (i * length ys + y) ≡ list_in ys y
    list_blocks zero g i y small some = absurd (omega arith)
    list_blocks (suc n) g zero y small some =
        ap (λ j. list_in (flat_map copies (tabulate (suc n) g)) j)
        (let e : zero * length ys + y ≡ y = omega (arith, zero-mul (length ys)) in e)
        ∙ list_in-left (copies (g zero)) (flat_map copies (tabulate n (λ k. g (suc k)))) y
        (subst (λ l. y < l) (sym (length-map ys (copy_in m (g zero)))) some)
        ∙ list_copies (g zero) ys y
    list_blocks (suc n) g (suc i) y small some =
        ap (λ j. list_in (flat_map copies (tabulate (suc n) g)) j)
        (let l = length-map ys (copy_in m (g zero)) in
        let e : suc i * length ys + y ≡ length (copies (g zero)) + (i * length ys + y) =
        omega (arith, suc-mul i (length ys)) in e)
        ∙ list_right (copies (g zero)) (flat_map copies (tabulate n (λ k. g (suc k)))) (i * length ys + y)
        ∙ list_blocks n (λ k. g (suc k)) i y (omega arith) some

    pub blocks_end : (n : ℕ) (g : ℕ → ℕ) (b : ℕ) →
        column_from b (flat_map copies (tabulate n g)) (length (flat_map copies (tabulate n g))) ≡ b + n * width
    blocks_end zero g b = let e : b ≡ b + zero * width = omega (arith, zero-mul width) in e
    blocks_end (suc n) g b =
        ap (λ l. column_from b (flat_map copies (tabulate (suc n) g)) l)
        (length-append (copies (g zero)) (flat_map copies (tabulate n (λ k. g (suc k)))))
        ∙ column_right b (copies (g zero)) (flat_map copies (tabulate n (λ k. g (suc k))))
        (length (flat_map copies (tabulate n (λ k. g (suc k)))))
        ∙ ap (λ k. column_from k (flat_map copies (tabulate n (λ k. g (suc k))))
        (length (flat_map copies (tabulate n (λ k. g (suc k))))))
        (copies_end (g zero) b)
        ∙ blocks_end n (λ k. g (suc k)) (b + width)
        ∙ (let e : (b + width) + n * width ≡ b + suc n * width = omega (arith, suc-mul n width) in e)

-- ---- of a split model
module _ (m : RobustModel) (cuts : List Cut) where
  abbrev split : RobustModel
  split = split_model m cuts

  pub length-names : length (cell_names cuts) ≡ cell_count cuts
  length-names = length-map (cell_numbers cuts) (numbered (codes "cell")) ∙ length-tabulate (cell_count cuts) suc

  pub sets_count : set_count split ≡ suc (cell_count cuts)
  sets_count = ap suc length-names

  pub parameters_count : length split.parameters ≡ suc (cell_count cuts) * length m.parameters
  parameters_count =
      length-append m.parameters (flat_map (λ set. map (in_set set) m.parameters) (cell_names cuts))
      ∙ ap (λ n. length m.parameters + n)
      (length-later m.parameters (cell_names cuts) ∙ ap (λ l. l * length m.parameters) length-names)
      ∙ (let e : length m.parameters + cell_count cuts * length m.parameters
      ≡ suc (cell_count cuts) * length m.parameters
      = omega (arith, suc-mul (cell_count cuts) (length m.parameters)) in e)

  pub written_split : written_count split ≡ length m.parameters
  written_split =
      ap₂ ◌/◌
      (parameters_count
      ∙ (let e : suc (cell_count cuts) * length m.parameters ≡ length m.parameters * suc (cell_count cuts) + 0
      = omega (arith, mul_comm (suc (cell_count cuts)) (length m.parameters)) in e))
      sets_count
      ∙ div-mul-add (length m.parameters) (suc (cell_count cuts)) 0 (omega arith)

  pub written_parameters_split : written_parameters split ≡ m.parameters
  written_parameters_split =
      ap (λ n. take n split.parameters) written_split
      ∙ take_at m.parameters (flat_map (λ set. map (in_set set) m.parameters) (cell_names cuts))
      (length m.parameters) refl

  pub variables_count : length split.variables ≡ suc (length m.variables)
  variables_count =
      length-append m.variables _ ∙ (let e : length m.variables + 1 ≡ suc (length m.variables) = omega arith in e)

  pub adaptives_count : length split.adaptives ≡ cell_count cuts * length m.adaptives
  adaptives_count = length-blocks m m.adaptives (cell_count cuts) suc

  pub columns_count : column_count split ≡ suc (length m.variables) + cell_count cuts * policy_columns m
  columns_count =
      blocks_end m m.adaptives (cell_count cuts) suc (length split.variables)
      ∙ ap (λ b. b + cell_count cuts * policy_columns m) variables_count

  module _ (c y : ℕ) (cell : IsCell cuts c) (some : y < length m.adaptives) where
    below : pred c < cell_count cuts
    below = let p = cell.0 in let q = cell.1 in by c p q
      where
        by : (c : ℕ) → 0 < c → c ≤ cell_count cuts → pred c < cell_count cuts
        by zero p q = absurd (omega arith)
        by (suc c) p q = omega arith

    pub column_in_cell : column_of split (rule_in m c y)
        ≡ suc (length m.variables) + pred c * policy_columns m + column_from 0 m.adaptives y
    column_in_cell =
        column_blocks m m.adaptives (cell_count cuts) suc (length split.variables) (pred c) y below some
        ∙ ap (λ b. b + pred c * policy_columns m + column_from 0 m.adaptives y) variables_count

    pub list_in_cell : list_of split (rule_in m c y) ≡ list_of m y
    list_in_cell = list_blocks m m.adaptives (cell_count cuts) suc (pred c) y below some

    pub rule_is_some : rule_in m c y < length split.adaptives
    rule_is_some =
        subst (λ n. rule_in m c y < n) (sym adaptives_count)
        (room (pred c) (cell_count cuts) (length m.adaptives) below some)
      where
        room : (i n w : ℕ) → i < n → y < w → i * w + y < n * w
        room i n w p q = omega (arith, mul-le-mul_right w (let e : suc i ≤ n = omega arith in e), suc-mul i w)
