-- A line opens as many parentheses at once as its tokens do, read from the
-- left, and no fewer than the canonical lines of its expansion.
use Rattle.std.proofs.Common.{◌≡◌, ℕ, ◌≤◌, max, false, List, [], ◌∷◌, ◌++◌, refl, sym, ap, ◌∙◌, arith, append_assoc, append-nil}
use Rattle.std.specs.Prelude.{Option, Some, None}
use Rattle.rob_index.specs.Symbols.{Symbol, sign, word}
use Rattle.rob_index.specs.Symbols as is
use Rattle.rob_index.specs.Statements.{Name, Signed, Bounds, between, Rel, Sense, minimise, maximise, Ref, Range, Ranged, Share, Sides, Indexed, uncertain, over, set, budget, variable, adaptive, goal, row}
use Rattle.rob_index.specs.Statements as stated
use Rattle.rob_index.specs.Grammar.{Expr, spell_more, spell_list, spell_ref, spell_range, spell_ranges, spell_over, spell_number, spell_minus, spell_signed, spell_bounds, spell_expr}
use Rattle.rob_index.specs.Lines.{spell_rel, spell_sense, spell_sides, spell_ranged, spell_share, spell_line, statement_of}
use Rattle.rob_index.specs.Settings.{Setting}
use Rattle.rob_index.specs.Expansion.{statement_at}
use Rattle.rob_index.specs.Depths.{deepest, expr_open, line_depth, line_open}
use Rattle.rob_index.proofs.Tokens.DepthLemmas.{expr_depth}
use Rattle.rob_index.proofs.Tokens.OpenLemmas.{past_number, past_ref, past_range, past_minus, expr_deepest}

-- ---- symbols that open nothing
module _ (d : ℕ) (st : List ℕ) where
  -- what opens nothing, whatever stands behind it
  abbrev Passes : List Symbol → Type 0
  Passes xs = (rest : List Symbol) → deepest d st false (xs ++ rest) ≡ deepest d st false rest

  past_both : (xs ys : List Symbol) → Passes xs → Passes ys → Passes (xs ++ ys)
  past_both xs ys h k rest = ap (deepest d st false) (append_assoc xs ys rest) ∙ h (ys ++ rest) ∙ k rest

  past_signed : (s : Signed) → Passes (spell_signed s)
  past_signed s =
      past_both (spell_minus s.minus) (spell_number s.number) (past_minus d st s.minus) (past_number d st s.number)

  past_bounds : (b : Option Bounds) → Passes (spell_bounds b)
  past_bounds None rest = refl
  past_bounds (Some (between a b)) rest =
      past_both (spell_signed a) (sign is.comma ∷ (spell_signed b ++ sign is.close_bracket ∷ [])) (past_signed a)
      (past_both (spell_signed b) (sign is.close_bracket ∷ []) (past_signed b) (λ more. refl)) rest
  past_bounds (Some (stated.at_least a)) rest = past_signed a rest
  past_bounds (Some (stated.at_most b)) rest = past_signed b rest

  past_over : (o : Option Ref) → Passes (spell_over o)
  past_over None rest = refl
  past_over (Some r) rest = past_ref d st r rest

  past_rel : (r : Rel) (rest : List Symbol) → deepest d st false (spell_rel r ∷ rest) ≡ deepest d st false rest
  past_rel stated.at_most rest = refl
  past_rel stated.at_least rest = refl
  past_rel stated.equal rest = refl

  past_sense : (s : Sense) (rest : List Symbol) → deepest d st false (spell_sense s ∷ rest) ≡ deepest d st false rest
  past_sense minimise rest = refl
  past_sense maximise rest = refl

  -- items with commas between them
  past_more : {A : Type 0} (spell : A → List Symbol) → ((x : A) → Passes (spell x)) → (xs : List A)
      → Passes (spell_more spell xs)
  past_more spell h [] rest = refl
  past_more spell h (x ∷ xs) rest = past_both (spell x) (spell_more spell xs) (h x) (past_more spell h xs) rest

  past_list : {A : Type 0} (spell : A → List Symbol) → ((x : A) → Passes (spell x)) → (xs : List A)
      → Passes (spell_list spell xs)
  past_list spell h [] rest = refl
  past_list spell h (x ∷ xs) rest = past_both (spell x) (spell_more spell xs) (h x) (past_more spell h xs) rest

  past_ranges : (rs : List Range) → Passes (spell_ranges rs)
  past_ranges [] rest = refl
  past_ranges (r ∷ rs) rest = past_list spell_range (past_range d st) (r ∷ rs) rest

  past_ranged : {A : Type 0} (spell : A → List Symbol) → ((x : A) → Passes (spell x)) → (x : Ranged A)
      → Passes (spell_ranged spell x)
  past_ranged spell h x = past_both (spell x.item) (spell_ranges x.ranges) (h x.item) (past_ranges x.ranges)

  past_share : (m : Share) → Passes (spell_share m)
  past_share m =
      past_both (spell_ref m.name) (word is.at ∷ (spell_signed m.centre ++ word is.by ∷ spell_number m.deviation))
      (past_ref d st m.name)
      (past_both (spell_signed m.centre) (word is.by ∷ spell_number m.deviation) (past_signed m.centre)
      (past_number d st m.deviation))

  -- the same where nothing stands behind
  at_end : (xs : List Symbol) → Passes xs → deepest d st false xs ≡ d
  at_end xs h = ap (deepest d st false) (sym (append-nil xs)) ∙ h []

-- ---- lines
-- bounds and ranges end a line
ends : (b : Option Bounds) (rs : List Range) → deepest 0 [] false (spell_bounds b ++ spell_ranges rs) ≡ 0
ends b rs = past_bounds 0 [] b (spell_ranges rs) ∙ at_end 0 [] (spell_ranges rs) (past_ranges 0 [] rs)

-- the name of a set and ranges do
ends_over : (o : Option Ref) (rs : List Range) → deepest 0 [] false (spell_over o ++ spell_ranges rs) ≡ 0
ends_over o rs = past_over 0 [] o (spell_ranges rs) ∙ at_end 0 [] (spell_ranges rs) (past_ranges 0 [] rs)

sides_deepest : (s : Sides Expr) (rs : List Range)
    → deepest 0 [] false (spell_sides s ++ spell_ranges rs) ≡ max (expr_open s.left) (expr_open s.right)
sides_deepest s rs =
    let tail = spell_over s.over ++ spell_ranges rs in
    let a = ap (deepest 0 [] false)
    (append_assoc (spell_expr s.left) (spell_rel s.rel ∷ (spell_expr s.right ++ spell_over s.over)) (spell_ranges rs)
    ∙ ap (λ (l : List Symbol). spell_expr s.left ++ spell_rel s.rel ∷ l)
    (append_assoc (spell_expr s.right) (spell_over s.over) (spell_ranges rs))) in
    let l = expr_deepest s.left 0 [] (spell_rel s.rel ∷ (spell_expr s.right ++ tail)) in
    let m = past_rel 0 [] s.rel (spell_expr s.right ++ tail) in
    let r = expr_deepest s.right 0 [] tail in
    let e = ends_over s.over rs in
    omega (arith, a, l, m, r, e)

-- the tokens of a line, read from the left, open as many at once as the line does
pub line_deepest : (l : Indexed Expr) → deepest 0 [] false (spell_line l) ≡ line_open l
line_deepest (uncertain r b rs) = past_ref 0 [] r (spell_bounds b ++ spell_ranges rs) ∙ ends b rs
line_deepest (over r rs) = past_ref 0 [] r (spell_ranges rs) ∙ at_end 0 [] (spell_ranges rs) (past_ranges 0 [] rs)
line_deepest (set s rs) = sides_deepest s rs
line_deepest (budget n ms o) =
    past_number 0 [] n (sign is.colon ∷ (spell_list (spell_ranged spell_share) ms ++ spell_over o))
    ∙ past_list 0 [] (spell_ranged spell_share) (past_ranged 0 [] spell_share (past_share 0 [])) ms (spell_over o)
    ∙ at_end 0 [] (spell_over o) (past_over 0 [] o)
line_deepest (variable r b rs) = past_ref 0 [] r (spell_bounds b ++ spell_ranges rs) ∙ ends b rs
line_deepest (adaptive r on b rs) =
    let behind = spell_bounds b ++ spell_ranges rs in
    past_ref 0 [] r (sign is.opening ∷ (spell_list (spell_ranged spell_ref) on ++ sign is.closing ∷ behind))
    ∙ past_list 1 (1 ∷ []) (spell_ranged spell_ref) (past_ranged 1 (1 ∷ []) spell_ref (past_ref 1 (1 ∷ []))) on
    (sign is.closing ∷ behind)
    ∙ ap (max 1) (ends b rs)
line_deepest (goal s e o rs) =
    let a = past_sense 0 [] s (spell_expr e ++ (spell_over o ++ spell_ranges rs)) in
    let l = expr_deepest e 0 [] (spell_over o ++ spell_ranges rs) in
    let k = ends_over o rs in
    omega (arith, a, l, k)
line_deepest (row r s rs) =
    past_ref 0 [] r (sign is.colon ∷ (spell_sides s ++ spell_ranges rs)) ∙ sides_deepest s rs

-- the canonical lines of an expansion are no deeper
pub line_shallow : (words : List Name) (l : Indexed Expr) (setting : Setting)
    → line_depth (statement_at words (statement_of l) setting) ≤ line_open l
line_shallow words (uncertain r b rs) setting = omega arith
line_shallow words (over r rs) setting = omega arith
line_shallow words (set s rs) setting =
    let l = expr_depth words s.left setting in let r = expr_depth words s.right setting in omega (arith, l, r)
line_shallow words (budget n ms o) setting = omega arith
line_shallow words (variable r b rs) setting = omega arith
line_shallow words (adaptive r on b rs) setting = omega arith
line_shallow words (goal s e o rs) setting = let h = expr_depth words e setting in omega (arith, h)
line_shallow words (row r s rs) setting =
    let l = expr_depth words s.left setting in let r = expr_depth words s.right setting in omega (arith, l, r)
