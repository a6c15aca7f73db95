-- Plans of the split model and pieces: the same numbers in another order.
use Rattle.std.specs.Prelude.{◌≡◌, ℕ, zero, suc, pred, ◌+◌, ◌*◌, ◌-◌, ◌<◌, List, [], ◌∷◌, ◌++◌, length, get_or, take, drop, refl}
use Rattle.std.proofs.Common.{sym, ◌∙◌, ap, ap₂, arith, length-append, length-drop, length-take-le, take-append-drop, suc-mul, zero-mul}
use Rattle.rob_algebra.specs.Fraction.{Fraction}
use Rattle.rob_meaning.proofs.Scenarios.JointScenarioLemmas.{at-right, length-tabulate}
use Rattle.rob_meaning.proofs.Lists.ListLemmas.{at-tabulate}
use Rattle.rob_meaning.proofs.Lists.TabulateLemmas.{each_tabulate}
use Rattle.rob_meaning.proofs.Tables.TauLemmas.{at-left}
use Rattle.rob_meaning.specs.Places.{at, tabulate, Each}
use Rattle.rob_meaning.specs.RobustModel.{RobustModel, column_count}
use Rattle.rob_pieces.proofs.ColumnLemmas.{column_base, columns_count}
use Rattle.rob_pieces.proofs.OverCellLemmas.{Matches}
use Rattle.rob_pieces.specs.Cuts.{Cut, IsCell, cell_count}
use Rattle.rob_pieces.specs.Pieces.{Piece, joined_lists, piece_of, plan_in, plan_of, policy_at, policy_columns, same_in_all}
use Rattle.rob_pieces.specs.SplitModel.{split_model}

-- ---- lists of lists
module _ (w : ℕ) where
  length-joined_lists : (xss : List (List Fraction)) → Each (λ (xs : List Fraction). length xs ≡ w) xss →
      length (joined_lists xss) ≡ length xss * w
  length-joined_lists [] h = sym (zero-mul w)
  length-joined_lists (xs ∷ xss) h =
      length-append xs (joined_lists xss) ∙ ap₂ ◌+◌ h.0 (length-joined_lists xss h.1)
      ∙ (let e : w + length xss * w ≡ suc (length xss) * w = omega (arith, suc-mul (length xss) w) in e)

  at-joined_lists : (xss : List (List Fraction)) → Each (λ (xs : List Fraction). length xs ≡ w) xss
      → (i j : ℕ) → i < length xss →
      j < w → at (joined_lists xss) (i * w + j) ≡ at (get_or xss i []) j
  at-joined_lists [] h i j small some = absurd (omega arith)
  at-joined_lists (xs ∷ xss) h zero j small some =
      ap (λ k. at (xs ++ joined_lists xss) k) (let e : zero * w + j ≡ j = omega (arith, zero-mul w) in e)
      ∙ at-left xs (joined_lists xss) j (let l = h.0 in omega arith)
  at-joined_lists (xs ∷ xss) h (suc i) j small some =
      ap (λ k. at (xs ++ joined_lists xss) k)
      (let l = h.0 in let e : suc i * w + j ≡ length xs + (i * w + j) = omega (arith, suc-mul i w) in e)
      ∙ at-right xs (joined_lists xss) (i * w + j)
      ∙ at-joined_lists xss h.1 i j (omega arith) some

get_or-tabulate : {A : Type 0} (n : ℕ) (f : ℕ → A) (i : ℕ) (d : A) → i < n → get_or (tabulate n f) i d ≡ f i
get_or-tabulate zero f i d h = absurd (omega arith)
get_or-tabulate (suc n) f zero d h = refl
get_or-tabulate (suc n) f (suc i) d h = get_or-tabulate n (λ k. f (suc k)) i d (omega arith)

pub below_count : (cuts : List Cut) (c : ℕ) → IsCell cuts c → pred c < cell_count cuts
below_count cuts zero cell = absurd (let p = cell.0 in omega arith)
below_count cuts (suc c) cell = let q = cell.1 in omega arith

module _ (m : RobustModel) (alone : m.sets ≡ []) (cuts : List Cut) where
  -- ---- from a piece to a plan
  module _ (piece : Piece) (tau : Fraction) (shared : length piece.variables ≡ length m.variables)
      (cells : length piece.policies ≡ cell_count cuts)
      (columns : Each (λ (policy : List Fraction). length policy ≡ policy_columns m) piece.policies) where
    pub length-plan_of : length (plan_of piece tau) ≡ column_count (split_model m cuts)
    length-plan_of =
        length-append piece.variables (tau ∷ joined_lists piece.policies)
        ∙ ap₂ (λ a b. a + suc b) shared
        (length-joined_lists (policy_columns m) piece.policies columns ∙ ap (λ n. n * policy_columns m) cells)
        ∙ (let e : length m.variables + suc (cell_count cuts * policy_columns m)
        ≡ suc (length m.variables) + cell_count cuts * policy_columns m
        = omega arith in e)
        ∙ sym (columns_count m cuts)

    pub worst_of : at (plan_of piece tau) (length m.variables) ≡ tau
    worst_of =
        ap (λ k. at (plan_of piece tau) k) (let e : length m.variables ≡ length piece.variables + 0 = omega arith in e)
        ∙ at-right piece.variables (tau ∷ joined_lists piece.policies) 0

    pub shared_of : (k : ℕ) → k < length m.variables → at (plan_of piece tau) k ≡ at piece.variables k
    shared_of k some = at-left piece.variables (tau ∷ joined_lists piece.policies) k (omega arith)

    pub plan_matches : (c : ℕ) (cell : IsCell cuts c)
        → Matches m alone cuts c cell (plan_of piece tau) (plan_in piece c)
    plan_matches c cell = record {
      shared = λ k some. shared_of k some
          ∙ sym (at-left piece.variables (get_or piece.policies (pred c) []) k (omega arith));
      policies = λ j some.
          ap (λ k. at (plan_of piece tau) k)
          (let e : suc (length m.variables) + pred c * policy_columns m + j
          ≡ length piece.variables + suc (pred c * policy_columns m + j)
          = omega arith in e)
          ∙ at-right piece.variables (tau ∷ joined_lists piece.policies) (suc (pred c * policy_columns m + j))
          ∙ at-joined_lists (policy_columns m) piece.policies columns (pred c) j
          (let small = below_count cuts c cell in omega arith) some
          ∙ sym
          (ap (λ k. at (plan_in piece c) k)
          (let e : length m.variables + j ≡ length piece.variables + j = omega arith in e)
          ∙ at-right piece.variables (get_or piece.policies (pred c) []) j);
    }

  -- ---- from a plan to a piece
  module _ (all : List Fraction) where
    pub shared_count : length (piece_of m cuts all).variables ≡ length m.variables
    shared_count = length-tabulate (length m.variables) (at all)

    pub cells_count : length (piece_of m cuts all).policies ≡ cell_count cuts
    cells_count = length-tabulate (cell_count cuts) (policy_at m all)

    pub policies_count : Each (λ (policy : List Fraction). length policy ≡ policy_columns m)
        (piece_of m cuts all).policies
    policies_count =
        each_tabulate (λ (policy : List Fraction). length policy ≡ policy_columns m) (cell_count cuts) (policy_at m all)
        (λ i some. length-tabulate (policy_columns m)
        (λ j. at all (suc (length m.variables) + i * policy_columns m + j)))

    pub piece_shares : (k : ℕ) → k < length m.variables → at (piece_of m cuts all).variables k ≡ at all k
    piece_shares k some = at-tabulate (length m.variables) (at all) k some

    pub piece_matches : (c : ℕ) (cell : IsCell cuts c)
        → Matches m alone cuts c cell all (plan_in (piece_of m cuts all) c)
    piece_matches c cell = record {
      shared = λ k some.
          sym
          (at-left (piece_of m cuts all).variables (get_or (piece_of m cuts all).policies (pred c) []) k
          (let l = shared_count in omega arith)
          ∙ piece_shares k some);
      policies = λ j some.
          sym
          (ap (λ k. at (plan_in (piece_of m cuts all) c) k)
          (let l = shared_count in
          let e : length m.variables + j ≡ length (piece_of m cuts all).variables + j = omega arith in e)
          ∙ at-right (piece_of m cuts all).variables (get_or (piece_of m cuts all).policies (pred c) []) j
          ∙ ap (λ (xs : List Fraction). at xs j)
          (get_or-tabulate (cell_count cuts) (policy_at m all) (pred c) [] (below_count cuts c cell))
          ∙ at-tabulate (policy_columns m)
          (λ j. at all (suc (length m.variables) + pred c * policy_columns m + j)) j some);
    }

-- ---- one plan in all cells
module _ (m : RobustModel) (cuts : List Cut) where
  module _ (plan : List Fraction) (fits : length plan ≡ column_count m) where
    width : column_count m ≡ length m.variables + policy_columns m
    width = column_base (length m.variables) m.adaptives (length m.adaptives)

    pub same_shared : length (same_in_all m cuts plan).variables ≡ length m.variables
    same_shared = length-take-le (length m.variables) plan (let w = width in omega arith)

    pub same_cells : length (same_in_all m cuts plan).policies ≡ cell_count cuts
    same_cells = length-tabulate (cell_count cuts) (λ i. drop (length m.variables) plan)

    pub same_columns : Each (λ (policy : List Fraction). length policy ≡ policy_columns m)
        (same_in_all m cuts plan).policies
    same_columns =
        each_tabulate (λ (policy : List Fraction). length policy ≡ policy_columns m) (cell_count cuts)
        (λ i. drop (length m.variables) plan)
        (λ i some. length-drop (length m.variables) plan
        ∙ (let w = width in let e : length plan - length m.variables ≡ policy_columns m = omega arith in e))

    pub same_plan : (c : ℕ) → IsCell cuts c → plan_in (same_in_all m cuts plan) c ≡ plan
    same_plan c cell =
        ap (λ (xs : List Fraction). take (length m.variables) plan ++ xs)
        (get_or-tabulate (cell_count cuts) (λ i. drop (length m.variables) plan) (pred c) [] (below_count cuts c cell))
        ∙ take-append-drop (length m.variables) plan

    pub same_shares : (k : ℕ) → k < length m.variables → at (same_in_all m cuts plan).variables k ≡ at plan k
    same_shares k some =
        sym (at-left (take (length m.variables) plan) (drop (length m.variables) plan) k
        (let l = same_shared in omega arith))
        ∙ ap (λ (xs : List Fraction). at xs k) (take-append-drop (length m.variables) plan)
