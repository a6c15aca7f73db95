-- A split model as it is written: over the written parameters, with each statement and each row once for each cell.
-- Each part taken in its cell makes the split model of it.
use Rattle.std.proofs.Common.{◌≡◌, ℕ, zero, suc, pred, ℤ, pos, negsuc, List, [], ◌∷◌, ◌++◌, length, map, refl, sym, ap, ◌∙◌, subst, arith, length-append}
use Rattle.std.specs.Prelude.{Option, Some, None, codes, flat_map}
use Rattle.std.proofs.lemmas.List.{length-map}
use Rattle.rob_algebra.specs.Fraction.{Fraction}
use Rattle.rob_meaning.specs.Expressions.{Expression, Terms, Factors, number, parameter, variable, adaptive, adaptive_in, sum, product, no_terms, term, no_factors, factor}
use Rattle.rob_meaning.specs.Names.{Name}
use Rattle.rob_meaning.specs.Places.{Each}
use Rattle.rob_meaning.specs.RobustModel.{AdaptiveVariable, Member, Relation, RobustModel, Row, SetLine, at_least, at_most, budget, line}
use Rattle.rob_meaning.specs.SetConditions.{if_declared}
use Rattle.rob_parse.specs.Models.{each_taken, factors_taken, in_sets, line_taken, member_taken, row_taken, taken, terms_taken}
use Rattle.rob_pieces.proofs.BlockLemmas.{each_cell}
use Rattle.rob_pieces.specs.Cuts.{Cut, IsCell, bit, cell_numbers}
use Rattle.rob_pieces.specs.SplitModel.{as_side, bound_row, bound_rows, by_cell, cell_lines, cell_names, cell_rows, cells_of, cells_worst, copy_in, cost_relation, cost_row, factors_over, line_over, member_over, numbered, over_cell, parameter_in, row_over, rule_in, side_line, side_lines, side_of_sign, split_model, terms_over}

-- ---- what a cell's parts are as they are written
module _ (m : RobustModel) (c : ℕ) where
  abbrev mutual
    -- an expression, with the cell's own copies of the adaptive variables
    pub renamed : Expression → Expression
    renamed (number q) = number q
    renamed (parameter k) = parameter k
    renamed (variable k) = variable k
    renamed (adaptive y) = adaptive (rule_in m c y)
    renamed (adaptive_in y S) = adaptive (rule_in m c y)
    renamed (sum ts) = sum (terms_renamed ts)
    renamed (product fs) = product (factors_renamed fs)

    pub terms_renamed : Terms → Terms
    terms_renamed no_terms = no_terms
    terms_renamed (term minus e ts) = term minus (renamed e) (terms_renamed ts)

    pub factors_renamed : Factors → Factors
    factors_renamed no_factors = no_factors
    factors_renamed (factor e fs) = factor (renamed e) (factors_renamed fs)

  -- a statement on the set
  abbrev pub line_renamed : SetLine → SetLine
  line_renamed (line left relation right) = line (renamed left) relation (renamed right)
  line_renamed (budget limit members) = budget limit members

  -- the side of a cut
  abbrev pub side_written : Cut → ℕ → SetLine
  side_written cut zero = line (parameter cut.parameter) at_most (as_side cut.level)
  side_written cut (suc side) = line (parameter cut.parameter) at_least (as_side cut.level)

  abbrev pub sides_written : List Cut → List SetLine
  sides_written [] = []
  sides_written (cut ∷ cuts) = side_written cut (bit (length cuts) (pred c)) ∷ sides_written cuts

  abbrev pub lines_written : List Cut → List SetLine
  lines_written cuts = map line_renamed m.set_lines ++ sides_written cuts

  -- the row of the cost, a row, and those of declared bounds
  abbrev pub cost_written : Row
  cost_written = record {
    name = numbered (codes "cost") c;
    left = variable (length m.variables);
    relation = cost_relation m c m.sense;
    right = renamed m.objective;
  }

  abbrev pub row_renamed : Row → Row
  row_renamed r = record {
    name = numbered r.name c;
    left = renamed r.left;
    relation = r.relation;
    right = renamed r.right;
  }

  abbrev pub bound_written : Name → ℕ → Relation → Fraction → Row
  bound_written name k relation bound =
      record { name = numbered name c; left = adaptive (rule_in m c k); relation = relation; right = as_side bound }

  abbrev pub bounds_written : ℕ → List AdaptiveVariable → List Row
  bounds_written k [] = []
  bounds_written k (y ∷ ys) =
      if_declared (bound_written (y.name ++ codes "_lower") k at_least) y.lower
      ++ (if_declared (bound_written (y.name ++ codes "_upper") k at_most) y.upper ++ bounds_written (suc k) ys)

  abbrev pub rows_written : List Row
  rows_written = cost_written ∷ (map row_renamed m.rows ++ bounds_written 0 m.adaptives)

-- the split model as it is written
abbrev pub written_split : RobustModel → List Cut → RobustModel
written_split m cuts = record {
  parameters = m.parameters;
  sets = [];
  set_lines = by_cell cuts (λ c. lines_written m c cuts);
  line_sets = [];
  variables = m.variables ++ cells_worst ∷ [];
  adaptives = by_cell cuts (λ c. map (copy_in m c) m.adaptives);
  sense = m.sense;
  objective = variable (length m.variables);
  objective_set = 0;
  rows = by_cell cuts (rows_written m);
  row_sets = [];
}

-- ---- taken in its cell each part is that of the split model
module _ (m : RobustModel) (c : ℕ) where
  abbrev p : ℕ
  p = length m.parameters

  mutual
    taken_renamed : (e : Expression) → taken p (suc c) (renamed m (suc c) e) ≡ over_cell m (suc c) e
    taken_renamed (number q) = refl
    taken_renamed (parameter k) = refl
    taken_renamed (variable k) = refl
    taken_renamed (adaptive y) = refl
    taken_renamed (adaptive_in y S) = refl
    taken_renamed (sum ts) = ap sum (terms_taken_renamed ts)
    taken_renamed (product fs) = ap product (factors_taken_renamed fs)

    terms_taken_renamed : (ts : Terms) → terms_taken p (suc c) (terms_renamed m (suc c) ts) ≡ terms_over m (suc c) ts
    terms_taken_renamed no_terms = refl
    terms_taken_renamed (term minus e ts) = λ i. term minus (taken_renamed e i) (terms_taken_renamed ts i)

    factors_taken_renamed : (fs : Factors)
        → factors_taken p (suc c) (factors_renamed m (suc c) fs) ≡ factors_over m (suc c) fs
    factors_taken_renamed no_factors = refl
    factors_taken_renamed (factor e fs) = λ i. factor (taken_renamed e i) (factors_taken_renamed fs i)

  members_taken : (hs : List Member) → map (member_taken p (suc c)) hs ≡ map (member_over m (suc c)) hs
  members_taken [] = refl
  members_taken (h ∷ hs) = ap (λ (l : List Member). member_over m (suc c) h ∷ l) (members_taken hs)

  line_taken_renamed : (l : SetLine) → line_taken p (suc c) (line_renamed m (suc c) l) ≡ line_over m (suc c) l
  line_taken_renamed (line l relation r) = λ i. line (taken_renamed l i) relation (taken_renamed r i)
  line_taken_renamed (budget limit hs) = ap (budget limit) (members_taken hs)

  lines_taken_renamed : (ls : List SetLine)
      → map (line_taken p (suc c)) (map (line_renamed m (suc c)) ls) ≡ map (line_over m (suc c)) ls
  lines_taken_renamed [] = refl
  lines_taken_renamed (l ∷ ls) = λ i. line_taken_renamed l i ∷ lines_taken_renamed ls i

  -- a number is taken as it is
  number_taken : (q : Fraction) → taken p (suc c) (as_side q) ≡ as_side q
  number_taken q = by q.num
    where
      by : (z : ℤ) → taken p (suc c) (side_of_sign z q) ≡ side_of_sign z q
      by (pos n) = refl
      by (negsuc n) = refl

  side_taken : (cut : Cut) (b : ℕ) → line_taken p (suc c) (side_written m (suc c) cut b) ≡ side_line m (suc c) cut b
  side_taken cut zero = ap (line (parameter (parameter_in m (suc c) cut.parameter)) at_most) (number_taken cut.level)
  side_taken cut (suc b) =
      ap (line (parameter (parameter_in m (suc c) cut.parameter)) at_least) (number_taken cut.level)

  sides_taken : (cuts : List Cut) → map (line_taken p (suc c)) (sides_written m (suc c) cuts)
      ≡ side_lines m (suc c) cuts
  sides_taken [] = refl
  sides_taken (cut ∷ cuts) = λ i. side_taken cut (bit (length cuts) c) i ∷ sides_taken cuts i

  row_taken_renamed : (r : Row) → row_taken p (suc c) (row_renamed m (suc c) r) ≡ row_over m (suc c) r
  row_taken_renamed r = λ i. record {
    name = numbered r.name (suc c);
    left = taken_renamed r.left i;
    relation = r.relation;
    right = taken_renamed r.right i;
  }

  rows_taken_renamed : (rs : List Row)
      → map (row_taken p (suc c)) (map (row_renamed m (suc c)) rs) ≡ map (row_over m (suc c)) rs
  rows_taken_renamed [] = refl
  rows_taken_renamed (r ∷ rs) = λ i. row_taken_renamed r i ∷ rows_taken_renamed rs i

  bound_taken : (name : Name) (k : ℕ) (relation : Relation) (bound : Fraction)
      → row_taken p (suc c) (bound_written m (suc c) name k relation bound) ≡ bound_row m (suc c) name k relation bound
  bound_taken name k relation bound = λ i. record {
    name = numbered name (suc c);
    left = adaptive_in (rule_in m (suc c) k) (suc c);
    relation = relation;
    right = number_taken bound i;
  }

  declared_taken : (name : Name) (k : ℕ) (relation : Relation) (o : Option Fraction)
      → map (row_taken p (suc c)) (if_declared (bound_written m (suc c) name k relation) o)
      ≡ if_declared (bound_row m (suc c) name k relation) o
  declared_taken name k relation None = refl
  declared_taken name k relation (Some x) = λ i. bound_taken name k relation x i ∷ []

-- what is done to each item of lists behind one another
map_both : {A : Type 0} (f : A → A) (xs ys us vs : List A) → map f xs ≡ us → map f ys ≡ vs → map f (xs ++ ys) ≡ us ++ vs
map_both f [] ys us vs h k = (ap (λ l. l ++ map f ys) h) ∙ ap (λ l. us ++ l) k
map_both f (x ∷ xs) ys us vs h k =
    subst (λ l. map f ((x ∷ xs) ++ ys) ≡ l ++ vs) h (ap (λ l. f x ∷ l) (map_both f xs ys (map f xs) vs refl k))

module _ (m : RobustModel) (c : ℕ) where
  bounds_taken : (k : ℕ) (ys : List AdaptiveVariable)
      → map (row_taken (length m.parameters) (suc c)) (bounds_written m (suc c) k ys) ≡ bound_rows m (suc c) k ys
  bounds_taken k [] = refl
  bounds_taken k (y ∷ ys) =
      map_both _ (if_declared (bound_written m (suc c) (y.name ++ codes "_lower") k at_least) y.lower) _ _ _
      (declared_taken m c (y.name ++ codes "_lower") k at_least y.lower)
      (map_both _ (if_declared (bound_written m (suc c) (y.name ++ codes "_upper") k at_most) y.upper) _ _ _
      (declared_taken m c (y.name ++ codes "_upper") k at_most y.upper) (bounds_taken (suc k) ys))

  cost_taken : row_taken (length m.parameters) (suc c) (cost_written m (suc c)) ≡ cost_row m (suc c)
  cost_taken = λ i. record {
    name = numbered (codes "cost") (suc c);
    left = variable (length m.variables);
    relation = cost_relation m (suc c) m.sense;
    right = taken_renamed m c m.objective i;
  }

-- by the cell's number
module _ (m : RobustModel) (cuts : List Cut) where
  cell_lines_taken : (c : ℕ) → IsCell cuts c
      → map (line_taken (length m.parameters) c) (lines_written m c cuts) ≡ cell_lines m c cuts
  cell_lines_taken zero cell = absurd (let some = cell.0 in omega arith)
  cell_lines_taken (suc c) cell =
      map_both _ (map (line_renamed m (suc c)) m.set_lines) (sides_written m (suc c) cuts) _ _
      (lines_taken_renamed m c m.set_lines) (sides_taken m c cuts)

  cell_rows_taken : (c : ℕ) → IsCell cuts c → map (row_taken (length m.parameters) c) (rows_written m c) ≡ cell_rows m c
  cell_rows_taken zero cell = absurd (let some = cell.0 in omega arith)
  cell_rows_taken (suc c) cell = λ i.
      cost_taken m c i
      ∷ map_both _ (map (row_renamed m (suc c)) m.rows) (bounds_written m (suc c) 0 m.adaptives) _ _
      (rows_taken_renamed m c m.rows) (bounds_taken m c 0 m.adaptives) i

-- ---- one block after another
module _ {A : Type 0} (take : ℕ → A → A) (f g : ℕ → List A) where
  one_block : (c : ℕ) (xs rest : List A) (Ss : List ℕ)
      → each_taken take (xs ++ rest) (map (λ item. c) (map (take c) xs) ++ Ss)
      ≡ map (take c) xs ++ each_taken take rest Ss
  one_block c [] rest Ss = refl
  one_block c (x ∷ xs) rest Ss = ap (λ (l : List A). take c x ∷ l) (one_block c xs rest Ss)

  -- the cell of each item
  abbrev cells : List ℕ → List ℕ
  cells cs = flat_map (λ c. map (λ item. c) (g c)) cs

  blocks_taken : (cs : List ℕ) → Each (λ c. map (take c) (f c) ≡ g c) cs
      → each_taken take (flat_map f cs) (cells cs) ≡ flat_map g cs
  blocks_taken [] h = refl
  blocks_taken (c ∷ cs) h =
      subst (λ (ys : List A). each_taken take (f c ++ flat_map f cs) (map (λ item. c) ys ++ cells cs)
      ≡ ys ++ flat_map g cs) h.0
      (one_block c (f c) (flat_map f cs) (cells cs)
      ∙ ap (λ (l : List A). map (take c) (f c) ++ l) (blocks_taken cs h.1))

  length-cells : (cs : List ℕ) → Each (λ c. map (take c) (f c) ≡ g c) cs → length (cells cs) ≡ length (flat_map f cs)
  length-cells [] h = refl
  length-cells (c ∷ cs) h =
      let same : length (g c) ≡ length (f c) = sym (ap (λ (l : List A). length l) h.0) ∙ length-map (f c) (take c) in
      omega (
        arith,
        length-append (map (λ item. c) (g c)) (cells cs),
        length-append (f c) (flat_map f cs),
        length-map (g c) (λ item. c),
        same,
        length-cells cs h.1,
      )

module _ (m : RobustModel) (cuts : List Cut) where
  abbrev pub lines_cells : List ℕ
  lines_cells = cells_of cuts (λ c. cell_lines m c cuts)

  abbrev pub rows_cells : List ℕ
  rows_cells = cells_of cuts (cell_rows m)

  lines_by_cell : Each (λ c. map (line_taken (length m.parameters) c) (lines_written m c cuts) ≡ cell_lines m c cuts)
      (cell_numbers cuts)
  lines_by_cell =
      each_cell cuts (λ c. map (line_taken (length m.parameters) c) (lines_written m c cuts) ≡ cell_lines m c cuts)
      (cell_lines_taken m cuts)

  rows_by_cell : Each (λ c. map (row_taken (length m.parameters) c) (rows_written m c) ≡ cell_rows m c)
      (cell_numbers cuts)
  rows_by_cell =
      each_cell cuts (λ c. map (row_taken (length m.parameters) c) (rows_written m c) ≡ cell_rows m c)
      (cell_rows_taken m cuts)

  pub lines_fit : length lines_cells ≡ length (written_split m cuts).set_lines
  lines_fit =
      length-cells (line_taken (length m.parameters)) (λ c. lines_written m c cuts) (λ c. cell_lines m c cuts)
      (cell_numbers cuts) lines_by_cell

  pub rows_fit : length rows_cells ≡ length (written_split m cuts).rows
  rows_fit = length-cells (row_taken (length m.parameters)) (rows_written m) (cell_rows m)
      (cell_numbers cuts) rows_by_cell

  -- what is written, each part taken in its cell, is the split model
  pub split_in_sets : in_sets (written_split m cuts) (cell_names cuts) lines_cells 0 rows_cells ≡ split_model m cuts
  split_in_sets = λ i. record (split_model m cuts) {
    set_lines =
        blocks_taken (line_taken (length m.parameters)) (λ c. lines_written m c cuts) (λ c. cell_lines m c cuts)
        (cell_numbers cuts) lines_by_cell i;
    rows = blocks_taken (row_taken (length m.parameters)) (rows_written m) (cell_rows m)
        (cell_numbers cuts) rows_by_cell i;
  }
