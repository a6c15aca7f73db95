-- A piece has a bound exactly where its plan of the split model has it; and so the statuses are the same.
use Rattle.std.specs.Prelude.{◌≡◌, ℕ, zero, suc, ◌+◌, ◌<◌, List, [], ◌∷◌, length, map, flat_map, refl, Option, Some, None, ◌↔◌}
use Rattle.std.proofs.Common.{sym, subst, arith}
use Rattle.rob_algebra.specs.Fraction.{Fraction}
use Rattle.rob_meaning.proofs.Conditions.AdmittedLemmas.{each_from_append, each_from_left, each_from_map}
use Rattle.rob_meaning.proofs.Lists.EachLemmas.{each_append, each_left, each_map, each_right}
use Rattle.rob_meaning.proofs.Proving.StatusLemmas.{better, no_worse_both, no_worse_trans, not_better, no_worse_refl}
use Rattle.rob_meaning.specs.Expressions.{Expression, adaptive}
use Rattle.rob_meaning.specs.Guarantee.{HasBound, IsNoWorse, KeepsIn}
use Rattle.rob_meaning.specs.Names.{Name}
use Rattle.rob_meaning.specs.Places.{0ℚ, at, Each, EachFrom}
use Rattle.rob_meaning.specs.RobustModel.{AdaptiveVariable, Relation, RobustModel, Row, Sense, Variable, at_least, at_most, maximise, minimise, set_count}
use Rattle.rob_meaning.specs.SetConditions.{if_declared}
use Rattle.rob_meaning.specs.Status.{IsInfeasible, IsOptimal, IsUnbounded}
use Rattle.rob_meaning.specs.UncertaintySet.{AdmitsIn, KeepsBounds, KeepsLower, KeepsUpper, Relates, in_each_set}
use Rattle.rob_meaning.specs.Values.{rule_value, value}
use Rattle.rob_meaning.specs.WellFormed.{IsExpression, IsInside, IsModel}
use Rattle.rob_pieces.proofs.BlockLemmas.{by_cells, cell_each, cells_by, each_cell, each_mapped_both, mapped_each}
use Rattle.rob_pieces.proofs.FormedLemmas.{lists_within}
use Rattle.rob_pieces.proofs.OneSetLemmas.{objective_default, rows_in, rows_out}
use Rattle.rob_pieces.proofs.OverCellLemmas.{Matches, Reads, is_set, value_over, value_side}
use Rattle.rob_pieces.proofs.PlanLemmas.{cells_count, length-plan_of, piece_matches, piece_shares, plan_matches, policies_count, same_cells, same_columns, same_plan, same_shared, same_shares, shared_count, shared_of, worst_of}
use Rattle.rob_pieces.proofs.ScenarioLemmas.{cell_admits, cell_admitted, default_admits, reads}
use Rattle.rob_pieces.specs.Cuts.{AreCuts, CellHolds, Cut, IsCell, cell_numbers}
use Rattle.rob_pieces.specs.Pieces.{IsPieceInfeasible, IsPieceOptimal, IsPieceUnbounded, Piece, PieceBound, piece_of, plan_in, plan_of, same_in_all}
use Rattle.rob_pieces.specs.SplitModel.{bound_row, bound_rows, cell_rows, cells_worst, copy_in, cost_relation, over_cell, row_over, split_model}

-- the relation of a cost row says that the cost is no worse
cost_in : (m : RobustModel) (c : ℕ) (sense : Sense) (worst cost : Fraction) → IsNoWorse sense cost worst →
    Relates (cost_relation m c sense) worst cost
cost_in m c minimise worst cost h = h
cost_in m c maximise worst cost h = h

cost_out : (m : RobustModel) (c : ℕ) (sense : Sense) (worst cost : Fraction)
    → Relates (cost_relation m c sense) worst cost →
    IsNoWorse sense cost worst
cost_out m c minimise worst cost h = h
cost_out m c maximise worst cost h = h

module _ (m : RobustModel) (model : IsModel m) (alone : m.sets ≡ []) (cuts : List Cut) (are : AreCuts m cuts) where
  abbrev s : RobustModel
  s = split_model m cuts

  -- ---- the rows of one cell
  module _ (c : ℕ) (cell : IsCell cuts c) (all plan w u : List Fraction) (same : Matches m alone cuts c cell all plan)
      (reads : Reads m alone cuts c cell w u) where
    abbrev Kept : Row → Type 0
    Kept r = Relates r.relation (value s all w r.left) (value s all w r.right)

    abbrev WasKept : Row → Type 0
    WasKept r = Relates r.relation (value m plan u r.left) (value m plan u r.right)

    same_value : (e : Expression) → IsInside m e → value s all w (over_cell m c e) ≡ value m plan u e
    same_value = value_over m alone cuts c cell (lists_within m model alone cuts are) w u reads all plan same

    row_in : (r : Row) → IsExpression m r.left × IsExpression m r.right → WasKept r → Kept (row_over m c r)
    row_in r own h =
        subst (λ x. Relates r.relation x (value s all w (over_cell m c r.right))) (sym (same_value r.left own.0.0))
        (subst (λ x. Relates r.relation (value m plan u r.left) x) (sym (same_value r.right own.1.0)) h)

    row_out : (r : Row) → IsExpression m r.left × IsExpression m r.right → Kept (row_over m c r) → WasKept r
    row_out r own h =
        subst (λ x. Relates r.relation x (value m plan u r.right)) (same_value r.left own.0.0)
        (subst (λ x. Relates r.relation (value s all w (over_cell m c r.left)) x) (same_value r.right own.1.0) h)

    -- ---- declared bounds
    bound_in : (name : Name) (k : ℕ) (relation : Relation) (bound : Fraction) → k < length m.adaptives →
        Relates relation (rule_value m plan u k) bound → Kept (bound_row m c name k relation bound)
    bound_in name k relation bound some h =
        subst (λ x. Relates relation x (value s all w (bound_row m c name k relation bound).right))
        (sym (same_value (adaptive k) some))
        (subst (λ x. Relates relation (rule_value m plan u k) x) (sym (value_side s all w bound)) h)

    bound_out : (name : Name) (k : ℕ) (relation : Relation) (bound : Fraction) → k < length m.adaptives →
        Kept (bound_row m c name k relation bound) → Relates relation (rule_value m plan u k) bound
    bound_out name k relation bound some h =
        subst (λ x. Relates relation x bound) (same_value (adaptive k) some)
        (subst (λ x. Relates relation (value s all w (bound_row m c name k relation bound).left) x)
        (value_side s all w bound) h)

    lower_in : (name : Name) (k : ℕ) (o : Option Fraction) → k < length m.adaptives
        → KeepsLower o (rule_value m plan u k) →
        Each Kept (if_declared (bound_row m c name k at_least) o)
    lower_in name k None some h = tt
    lower_in name k (Some l) some h = (bound_in name k at_least l some h, tt)

    upper_in : (name : Name) (k : ℕ) (o : Option Fraction) → k < length m.adaptives
        → KeepsUpper o (rule_value m plan u k) →
        Each Kept (if_declared (bound_row m c name k at_most) o)
    upper_in name k None some h = tt
    upper_in name k (Some l) some h = (bound_in name k at_most l some h, tt)

    lower_out : (name : Name) (k : ℕ) (o : Option Fraction) → k < length m.adaptives →
        Each Kept (if_declared (bound_row m c name k at_least) o) → KeepsLower o (rule_value m plan u k)
    lower_out name k None some h = tt
    lower_out name k (Some l) some h = bound_out name k at_least l some h.0

    upper_out : (name : Name) (k : ℕ) (o : Option Fraction) → k < length m.adaptives →
        Each Kept (if_declared (bound_row m c name k at_most) o) → KeepsUpper o (rule_value m plan u k)
    upper_out name k None some h = tt
    upper_out name k (Some l) some h = bound_out name k at_most l some h.0

    abbrev RuleKept : ℕ → AdaptiveVariable → Type 0
    RuleKept k y = KeepsBounds y.lower y.upper (rule_value m plan u k)

    rules_in : (k : ℕ) (ys : List AdaptiveVariable) → ((j : ℕ) → j < k + length ys → j < length m.adaptives) →
        EachFrom k RuleKept ys → Each Kept (bound_rows m c k ys)
    rules_in k [] within h = tt
    rules_in k (y ∷ ys) within h =
        let some = within k (omega arith) in
        each_append Kept _ _ (lower_in _ k y.lower some h.0.0)
        (each_append Kept _ _ (upper_in _ k y.upper some h.0.1)
        (rules_in (suc k) ys (λ j small. within j (omega arith)) h.1))

    rules_out : (k : ℕ) (ys : List AdaptiveVariable) → ((j : ℕ) → j < k + length ys → j < length m.adaptives) →
        Each Kept (bound_rows m c k ys) → EachFrom k RuleKept ys
    rules_out k [] within h = tt
    rules_out k (y ∷ ys) within h =
        let some = within k (omega arith) in
        let later = each_right Kept (if_declared (bound_row m c _ k at_least) y.lower) _ h in (
          (
            lower_out _ k y.lower some (each_left Kept _ _ h),
            upper_out _ k y.upper some (each_left Kept _ _ later),
          ),
          rules_out (suc k) ys (λ j small. within j (omega arith)) (each_right Kept _ _ later),
        )

    -- ---- all rows of the cell
    pub cell_in : IsNoWorse m.sense (value m plan u m.objective) (at all (length m.variables)) → Each WasKept m.rows →
        EachFrom zero RuleKept m.adaptives → Each Kept (cell_rows m c)
    cell_in cost rows rules = (
      subst (λ x. Relates (cost_relation m c m.sense) (at all (length m.variables)) x)
          (sym (same_value m.objective model.objective.0))
          (cost_in m c m.sense (at all (length m.variables)) (value m plan u m.objective) cost),
      each_append Kept (map (row_over m c) m.rows) (bound_rows m c 0 m.adaptives)
          (each_mapped_both (row_over m c) (λ (r : Row). IsExpression m r.left × IsExpression m r.right)
          WasKept Kept row_in m.rows
          model.rows rows)
          (rules_in 0 m.adaptives (λ j small. (omega arith)) rules),
    )

    pub cost_kept : Each Kept (cell_rows m c)
        → IsNoWorse m.sense (value m plan u m.objective) (at all (length m.variables))
    cost_kept h =
        cost_out m c m.sense (at all (length m.variables)) (value m plan u m.objective)
        (subst (λ x. Relates (cost_relation m c m.sense) (at all (length m.variables)) x)
        (same_value m.objective model.objective.0) h.0)

    pub rows_kept : Each Kept (cell_rows m c) → Each WasKept m.rows
    rows_kept h =
        mapped_each (row_over m c) (λ (r : Row). IsExpression m r.left × IsExpression m r.right)
        WasKept Kept row_out m.rows
        model.rows (each_left Kept (map (row_over m c) m.rows) (bound_rows m c 0 m.adaptives) h.1)

    pub rules_kept : Each Kept (cell_rows m c) → EachFrom zero RuleKept m.adaptives
    rules_kept h =
        rules_out 0 m.adaptives (λ j small. (omega arith))
        (each_right Kept (map (row_over m c) m.rows) (bound_rows m c 0 m.adaptives) h.1)

  -- ---- the variables
  abbrev VariableKept : List Fraction → ℕ → Variable → Type 0
  VariableKept plan k x = KeepsBounds x.lower x.upper (at plan k)

  same_variables : (a b : List Fraction) → ((k : ℕ) → k < length m.variables → at a k ≡ at b k) →
      EachFrom zero (VariableKept a) m.variables → EachFrom zero (VariableKept b) m.variables
  same_variables a b e h =
      each_from_map (VariableKept a) (VariableKept b) zero zero m.variables
      (λ i x some kept.
      subst (λ q. KeepsBounds x.lower x.upper q) (e (zero + i) (omega arith)) kept)
      h

  -- ---- from a piece to the split model
  module _ (piece : Piece) (tau : Fraction) (h : PieceBound m cuts piece tau) where
    abbrev whole : List Fraction
    whole = plan_of piece tau

    worst_is : at whole (length m.variables) ≡ tau
    worst_is = worst_of m alone cuts piece tau h.shared h.cells h.columns

    copies_kept : (P : ℕ → Fraction) (k : ℕ) (cs : List ℕ) →
        EachFrom k (λ k (y : AdaptiveVariable). KeepsBounds y.lower y.upper (P k))
        (flat_map (λ c. map (copy_in m c) m.adaptives) cs)
    copies_kept P k [] = tt
    copies_kept P k (c ∷ cs) =
        each_from_append _ k (map (copy_in m c) m.adaptives) _ (own k m.adaptives)
        (copies_kept P (k + length (map (copy_in m c) m.adaptives)) cs)
      where
        own : (k : ℕ) (ys : List AdaptiveVariable) →
            EachFrom k (λ k (y : AdaptiveVariable). KeepsBounds y.lower y.upper (P k)) (map (copy_in m c) ys)
        own k [] = tt
        own k (y ∷ ys) = ((tt, tt), own (suc k) ys)

    rows_at : (u : List Fraction) (c : ℕ) → IsCell cuts c → AdmitsIn s c u →
        Each (λ (r : Row). Relates r.relation (value s whole (in_each_set s u) r.left)
        (value s whole (in_each_set s u) r.right)) (cell_rows m c)
    rows_at u c cell admitted =
        let own = cell_admitted m model alone cuts are u c cell admitted in
        let kept = h.keeps u own.0 c cell own.1 in
        cell_in c cell whole (plan_in piece c) (in_each_set s u) (in_each_set m u)
        (plan_matches m alone cuts piece tau h.shared h.cells h.columns c cell)
        (reads m model alone cuts are u c cell admitted.numbers)
        (subst (λ x. IsNoWorse m.sense (value m (plan_in piece c) (in_each_set m u) m.objective) x) (sym worst_is)
        (kept.objective (objective_default m alone model)))
        (rows_out m alone model
        (λ (r : Row). Relates r.relation (value m (plan_in piece c) (in_each_set m u) r.left)
        (value m (plan_in piece c) (in_each_set m u) r.right))
        zero m.rows model.own_rows kept.rows)
        (kept.adaptives refl)

    split_keeps : (S : ℕ) → S < set_count s → (u : List Fraction) → AdmitsIn s S u → KeepsIn s whole tau S u
    split_keeps S some u admitted = record {
      objective = λ e. subst (λ x. IsNoWorse m.sense x tau) (sym worst_is) (no_worse_refl m.sense tau);
      rows =
          by_cells
          (λ c (r : Row). c ≡ S
          → Relates r.relation (value s whole (in_each_set s u) r.left) (value s whole (in_each_set s u) r.right))
          (cell_rows m) (cell_numbers cuts)
          (each_cell cuts
          (λ c. Each (λ (r : Row). c ≡ S
          → Relates r.relation (value s whole (in_each_set s u) r.left) (value s whole (in_each_set s u) r.right))
          (cell_rows m c))
          (λ c cell. lift c (cell_rows m c) (λ e. rows_at u c cell (subst (λ T. AdmitsIn s T u) (sym e) admitted))));
      adaptives = λ e. copies_kept (λ k. rule_value s whole (in_each_set s u) k) zero (cell_numbers cuts);
    }
      where
        lift : (c : ℕ) (rs : List Row) →
            (c ≡ S → Each
            (λ (r : Row). Relates r.relation (value s whole (in_each_set s u) r.left)
            (value s whole (in_each_set s u) r.right)) rs) →
            Each (λ (r : Row). c ≡ S
            → Relates r.relation (value s whole (in_each_set s u) r.left) (value s whole (in_each_set s u) r.right))
            rs
        lift c [] f = tt
        lift c (r ∷ rs) f = (λ e. (f e).0, lift c rs (λ e. (f e).1))

    pub piece_bound : HasBound s whole tau
    piece_bound = record {
      columns = length-plan_of m alone cuts piece tau h.shared h.cells h.columns;
      keeps = split_keeps;
      variables =
          each_from_append (VariableKept whole) zero m.variables (cells_worst ∷ [])
          (same_variables piece.variables whole
          (λ k some. sym (shared_of m alone cuts piece tau h.shared h.cells h.columns k some)) h.variables)
          ((tt, tt), tt);
    }

  -- ---- from the split model to a piece
  pub bound_piece : (all : List Fraction) (tau : Fraction) → HasBound s all tau
      → PieceBound m cuts (piece_of m cuts all) tau
  bound_piece all tau h = record {
    shared = shared_count m alone cuts all;
    cells = cells_count m alone cuts all;
    columns = policies_count m alone cuts all;
    keeps = keeps;
    variables =
        same_variables all (piece_of m cuts all).variables (λ k some. sym (piece_shares m alone cuts all k some))
        (each_from_left (VariableKept all) zero m.variables (cells_worst ∷ []) h.variables);
  }
    where
      keeps : (u : List Fraction) → AdmitsIn m 0 u → (c : ℕ) → IsCell cuts c → CellHolds cuts c u →
          KeepsIn m (plan_in (piece_of m cuts all) c) tau 0 u
      keeps u admitted c cell held = record {
        objective = λ e.
            no_worse_trans m.sense _ (at all (length m.variables)) tau
            (cost_kept c cell all (plan_in (piece_of m cuts all) c) (in_each_set s u) (in_each_set m u) same at_u rows)
            ((h.keeps 0 (omega arith) u (default_admits m model alone cuts are u admitted)).objective refl);
        rows =
            rows_in m alone model
            (λ (r : Row). Relates r.relation (value m (plan_in (piece_of m cuts all) c) (in_each_set m u) r.left)
            (value m (plan_in (piece_of m cuts all) c) (in_each_set m u) r.right))
            zero m.rows
            (rows_kept c cell all (plan_in (piece_of m cuts all) c) (in_each_set s u) (in_each_set m u) same at_u rows);
        adaptives = λ e.
            rules_kept c cell all (plan_in (piece_of m cuts all) c) (in_each_set s u) (in_each_set m u) same at_u rows;
      }
        where
          inside : AdmitsIn s c u
          inside = cell_admits m model alone cuts are u c cell admitted held

          same : Matches m alone cuts c cell all (plan_in (piece_of m cuts all) c)
          same = piece_matches m alone cuts all c cell

          at_u : Reads m alone cuts c cell (in_each_set s u) (in_each_set m u)
          at_u = reads m model alone cuts are u c cell inside.numbers

          rows : Each
              (λ (r : Row). Relates r.relation (value s all (in_each_set s u) r.left)
              (value s all (in_each_set s u) r.right)) (cell_rows m c)
          rows =
              each_map
              (λ (r : Row). c ≡ c
              → Relates r.relation (value s all (in_each_set s u) r.left) (value s all (in_each_set s u) r.right))
              (λ (r : Row). Relates r.relation (value s all (in_each_set s u) r.left)
              (value s all (in_each_set s u) r.right))
              (λ r f. f refl) (cell_rows m c)
              (cell_each cuts
              (λ d. Each (λ (r : Row). d ≡ c
              → Relates r.relation (value s all (in_each_set s u) r.left) (value s all (in_each_set s u) r.right))
              (cell_rows m d))
              (cells_by
              (λ d (r : Row). d ≡ c
              → Relates r.relation (value s all (in_each_set s u) r.left) (value s all (in_each_set s u) r.right))
              (cell_rows m) (cell_numbers cuts) (h.keeps c (is_set m alone cuts c cell) u inside).rows)
              c cell)

  -- ---- the statuses
  pub optimal_agree : (v : Fraction) → IsOptimal s v ↔ IsPieceOptimal m cuts v
  optimal_agree v = (
    λ h. record {
      attained = (piece_of m cuts h.attained.0, bound_piece h.attained.0 v h.attained.1);
      none_better = λ piece tau b. h.none_better (plan_of piece tau) tau (piece_bound piece tau b);
    },
    λ h. record {
      attained = (plan_of h.attained.0 v, piece_bound h.attained.0 v h.attained.1);
      none_better = λ all tau b. h.none_better (piece_of m cuts all) tau (bound_piece all tau b);
    },
  )

  pub infeasible_agree : IsInfeasible s ↔ IsPieceInfeasible m cuts
  infeasible_agree = (
    λ h piece tau b. h (plan_of piece tau) tau (piece_bound piece tau b),
    λ h all tau b. h (piece_of m cuts all) tau (bound_piece all tau b),
  )

  pub unbounded_agree : IsUnbounded s ↔ IsPieceUnbounded m cuts
  unbounded_agree = (
    λ h tau. (piece_of m cuts (h tau).0, bound_piece (h tau).0 tau (h tau).1),
    λ h tau. (plan_of (h tau).0 tau, piece_bound (h tau).0 tau (h tau).1),
  )

-- ---- one policy in all cells
module _ (m : RobustModel) (cuts : List Cut) where
  pub plan_is_piece : (plan : List Fraction) (tau : Fraction) → HasBound m plan tau →
      PieceBound m cuts (same_in_all m cuts plan) tau
  plan_is_piece plan tau h = record {
    shared = same_shared m cuts plan h.columns;
    cells = same_cells m cuts plan h.columns;
    columns = same_columns m cuts plan h.columns;
    keeps = λ u admitted c cell held.
        subst (λ (p : List Fraction). KeepsIn m p tau 0 u) (sym (same_plan m cuts plan h.columns c cell))
        (h.keeps 0 (omega arith) u admitted);
    variables =
        each_from_map (λ k (x : Variable). KeepsBounds x.lower x.upper (at plan k))
        (λ k (x : Variable). KeepsBounds x.lower x.upper (at (same_in_all m cuts plan).variables k)) zero zero
        m.variables
        (λ i x some kept.
        subst (λ q. KeepsBounds x.lower x.upper q)
        (sym (same_shares m cuts plan h.columns (zero + i) (omega arith))) kept)
        h.variables;
  }

  pub never_worse : (v w : Fraction) → IsOptimal m v → IsPieceOptimal m cuts w → IsNoWorse m.sense w v
  never_worse v w h k = k.none_better (same_in_all m cuts h.attained.0) v (plan_is_piece h.attained.0 v h.attained.1)

-- ---- at most one status
module _ (m : RobustModel) (cuts : List Cut) where
  pub one_piece_value : (v w : Fraction) → IsPieceOptimal m cuts v → IsPieceOptimal m cuts w → v ≡ w
  one_piece_value v w h k =
      no_worse_both m.sense v w (h.none_better k.attained.0 w k.attained.1) (k.none_better h.attained.0 v h.attained.1)

  pub piece_not_infeasible : (v : Fraction) → IsPieceOptimal m cuts v → IsPieceInfeasible m cuts → ⊥
  piece_not_infeasible v h none = none h.attained.0 v h.attained.1

  pub piece_not_unbounded : (v : Fraction) → IsPieceOptimal m cuts v → IsPieceUnbounded m cuts → ⊥
  piece_not_unbounded v h all =
      not_better m.sense v (h.none_better (all (better m.sense v)).0 (better m.sense v) (all (better m.sense v)).1)

  pub piece_not_both : IsPieceInfeasible m cuts → IsPieceUnbounded m cuts → ⊥
  piece_not_both none all = none (all 0ℚ).0 0ℚ (all 0ℚ).1
