-- Some symbols are one statement at most, and it is settled whether they are one.
use Rattle.std.proofs.Common.{◌≡◌, ℕ, ◌+◌, ◌≤◌, false, List, [], ◌∷◌, ◌++◌, Option, Some, None, refl, sym, ap, ◌∙◌, arith, append-nil}
use Rattle.std.specs.Prelude.{if◌then◌else◌}
use Rattle.rob_index.specs.Symbols.{Symbol, sign, word}
use Rattle.rob_index.specs.Symbols as is
use Rattle.rob_index.specs.Statements.{Numeral, Bounds, Sense, Ref, Range, Ranged, Share, Sides, Indexed, Tree, uncertain, over, set, budget, variable, adaptive, goal, row}
use Rattle.rob_index.specs.Statements as stated
use Rattle.rob_index.specs.Grammar.{Expr, spell_list, spell_ref, spell_ranges, spell_over, spell_bounds, spell_expr}
use Rattle.rob_index.specs.Lines.{spell_sides, spell_ranged, spell_share, spell_line, AreRanges, AreAllRanged, HasMembers, IsLine, IsStatement, statement_of}
use Rattle.rob_index.proofs.Parsing.Parser.{begins, Got, got, next, past, front_number, front_bounds, front_ref, front_ranges, front_over}
use Rattle.rob_index.proofs.Parsing.PartsRead.{number_read, bounds_read, ref_read, ranges_read, over_read, ref_size, ranges_size, over_size, RefEnds, BoundsEnd}
use Rattle.rob_index.proofs.Parsing.ExprParser.{front_expr, expr_size, expr_read}
use Rattle.rob_index.proofs.Parsing.LineParser.{front_sides, sides_size, sides_read, SidesEnd, front_share, front_ranged, front_list, list_read, shares, share_comma, ShareEnds, ShareOk, shares_size, shares_long, shares_ok, entries, entry_comma, EntryEnds, EntryOk, entries_size, entries_long, entries_ok, over_ends}

-- ---- the reader
abbrev pub front_entries : ℕ → List Symbol → Option (Got (List (Ranged Ref)))
front_entries n xs = if begins is.closing xs then got [] xs else front_list (front_ranged (front_ref n) n) n xs

abbrev pub front_goal : ℕ → Sense → List Symbol → Option (Got (Indexed Expr))
front_goal n s xs = next (front_expr n xs)
    (λ e xs. next (front_over n xs) (λ o xs. next (front_ranges n xs) (λ rs xs. got (goal s e o rs) xs)))

abbrev pub front_declared : ℕ → (Ref → Option Bounds → List Range → Indexed Expr) → List Symbol
    → Option (Got (Indexed Expr))
front_declared n make xs = next (front_ref n xs)
    (λ r xs. next (front_bounds xs) (λ b xs. next (front_ranges n xs) (λ rs xs. got (make r b rs) xs)))

abbrev pub front_adaptive : ℕ → List Symbol → Option (Got (Indexed Expr))
front_adaptive n xs =
    next (front_ref n xs) (λ r xs.
    past is.opening xs (λ xs. next (front_entries n xs) (λ on xs. past is.closing xs (λ xs.
    next (front_bounds xs) (λ b xs. next (front_ranges n xs) (λ rs xs. got (adaptive r on b rs) xs))))))

abbrev pub front_budget : ℕ → List Symbol → Option (Got (Indexed Expr))
front_budget n xs = next (front_number xs)
    (λ g xs. past is.colon xs
    (λ xs. next (front_list (front_ranged (front_share n) n) n xs)
    (λ ms xs. next (front_over n xs) (λ o xs. got (budget g ms o) xs))))

abbrev pub front_line : ℕ → List Symbol → Option (Got (Indexed Expr))
front_line n (word is.uncertain ∷ xs) = front_declared n uncertain xs
front_line n (word is.var ∷ xs) = front_declared n variable xs
front_line n (word is.over ∷ xs) =
    next (front_ref n xs) (λ r xs. next (front_ranges n xs) (λ rs xs. got (over r rs) xs))
front_line n (word is.set ∷ xs) =
    next (front_sides n xs) (λ s xs. next (front_ranges n xs) (λ rs xs. got (set s rs) xs))
front_line n (word is.budget ∷ xs) = front_budget n xs
front_line n (word is.adaptive ∷ xs) = front_adaptive n xs
front_line n (word is.minimise ∷ xs) = front_goal n stated.minimise xs
front_line n (word is.maximise ∷ xs) = front_goal n stated.maximise xs
front_line n (word is.row ∷ xs) =
    next (front_ref n xs) (λ r xs.
    past is.colon xs (λ xs. next (front_sides n xs) (λ s xs. next (front_ranges n xs) (λ rs xs. got (row r s rs) xs))))
front_line n _ = None

abbrev pub line_size : Indexed Expr → ℕ
line_size (uncertain r b rs) = ref_size r + ranges_size rs
line_size (over r rs) = ref_size r + ranges_size rs
line_size (set s rs) = sides_size s + ranges_size rs
line_size (budget g ms o) = shares_size ms + over_size o
line_size (variable r b rs) = ref_size r + ranges_size rs
line_size (adaptive r on b rs) = ref_size r + (entries_size on + ranges_size rs)
line_size (goal s e o rs) = expr_size e + (over_size o + ranges_size rs)
line_size (row r s rs) = ref_size r + (sides_size s + ranges_size rs)

-- ---- what stands behind a part
ranges_whole : (rs : List Range) (n : ℕ) → ranges_size rs ≤ n → AreRanges rs
    → front_ranges n (spell_ranges rs) ≡ got rs []
ranges_whole rs n h ok =
    ap (front_ranges n) (sym (append-nil (spell_ranges rs))) ∙ ranges_read rs n [] h ok ((refl, refl), refl, refl)

ranges_end_bounds : (rs : List Range) → BoundsEnd (spell_ranges rs)
ranges_end_bounds [] = (refl, refl, refl, refl)
ranges_end_bounds (r ∷ rs) = (refl, refl, refl, refl)

ranges_end_ref : (rs : List Range) → RefEnds (spell_ranges rs)
ranges_end_ref [] = refl
ranges_end_ref (r ∷ rs) = refl

ranges_end_sides : (rs : List Range) → SidesEnd (spell_ranges rs)
ranges_end_sides [] = ((((refl, refl), refl), refl, refl), refl)
ranges_end_sides (r ∷ rs) = ((((refl, refl), refl), refl, refl), refl)

bounds_end_ref : (b : Option Bounds) (rs : List Range) → RefEnds (spell_bounds b ++ spell_ranges rs)
bounds_end_ref None rs = ranges_end_ref rs
bounds_end_ref (Some (stated.between x y)) rs = refl
bounds_end_ref (Some (stated.at_least x)) rs = refl
bounds_end_ref (Some (stated.at_most x)) rs = refl

over_end_shares : (o : Option Ref) → ShareEnds (spell_over o)
over_end_shares None = (refl, ((refl, refl), refl, refl))
over_end_shares (Some r) = (refl, ((refl, refl), refl, refl))

over_no_comma : (o : Option Ref) → begins is.comma (spell_over o) ≡ false
over_no_comma None = refl
over_no_comma (Some r) = refl

over_whole : (o : Option Ref) (n : ℕ) → over_size o ≤ n → front_over n (spell_over o) ≡ got o []
over_whole o n h = ap (front_over n) (sym (append-nil (spell_over o))) ∙ over_read o n [] h (refl, refl)

-- ---- each line is read
declared_read : (make : Ref → Option Bounds → List Range → Indexed Expr) (r : Ref) (b : Option Bounds)
    (rs : List Range) (n : ℕ) → ref_size r + ranges_size rs ≤ n → AreRanges rs
    → front_declared n make (spell_ref r ++ (spell_bounds b ++ spell_ranges rs)) ≡ got (make r b rs) []
declared_read make r b rs n h ok =
    ap (λ (o : Option (Got Ref)).
    next o (λ r xs. next (front_bounds xs) (λ b xs. next (front_ranges n xs) (λ rs xs. got (make r b rs) xs))))
    (ref_read r n (spell_bounds b ++ spell_ranges rs) (omega arith) (bounds_end_ref b rs))
    ∙ ap (λ (o : Option (Got (Option Bounds))).
    next o (λ b xs. next (front_ranges n xs) (λ rs xs. got (make r b rs) xs)))
    (bounds_read b (spell_ranges rs) (ranges_end_bounds rs))
    ∙ ap (λ (o : Option (Got (List Range))). next o (λ rs xs. got (make r b rs) xs))
    (ranges_whole rs n (omega arith) ok)

goal_read : (s : Sense) (e : Expr) (o : Option Ref) (rs : List Range) (n : ℕ)
    → expr_size e + (over_size o + ranges_size rs) ≤ n → AreRanges rs
    → front_goal n s (spell_expr e ++ (spell_over o ++ spell_ranges rs)) ≡ got (goal s e o rs) []
goal_read s e o rs n h ok =
    let end = ranges_end_sides rs in
    ap (λ (x : Option (Got Expr)).
    next x (λ e xs. next (front_over n xs) (λ o xs. next (front_ranges n xs) (λ rs xs. got (goal s e o rs) xs))))
    (expr_read e n (spell_over o ++ spell_ranges rs) (omega arith) (over_ends o (spell_ranges rs) end.0))
    ∙ ap (λ (x : Option (Got (Option Ref))).
    next x (λ o xs. next (front_ranges n xs) (λ rs xs. got (goal s e o rs) xs)))
    (over_read o n (spell_ranges rs) (omega arith) (end.0.0.0.1, end.1))
    ∙ ap (λ (x : Option (Got (List Range))). next x (λ rs xs. got (goal s e o rs) xs))
    (ranges_whole rs n (omega arith) ok)

-- a list of entries doesn't begin with its closing parenthesis, unless it is empty
entries_read : (on : List (Ranged Ref)) (n : ℕ) (rest : List Symbol) → entries_size on ≤ n → AreAllRanged on
    → front_entries n (spell_list (spell_ranged spell_ref) on ++ sign is.closing ∷ rest)
    ≡ got on (sign is.closing ∷ rest)
entries_read [] n rest h ok = refl
entries_read (x ∷ xs) n rest h ok =
    let l = entries_long xs in
    list_read (front_ranged (front_ref n) n) (spell_ranged spell_ref) EntryEnds (EntryOk n)
    (entries n) entry_comma x xs n
    (sign is.closing ∷ rest) (omega arith) (omega arith, ok.0) (entries_ok n xs (omega arith) ok.1)
    (refl, ((refl, refl), refl, refl), refl) refl

shares_read : (ms : List (Ranged Share)) (o : Option Ref) (n : ℕ) → shares_size ms ≤ n → AreAllRanged ms
    → HasMembers ms → front_list (front_ranged (front_share n) n) n
    (spell_list (spell_ranged spell_share) ms ++ spell_over o)
    ≡ got ms (spell_over o)
shares_read [] o n h ok some = absurd some
shares_read (x ∷ xs) o n h ok some =
    let l = shares_long xs in
    list_read (front_ranged (front_share n) n) (spell_ranged spell_share) ShareEnds (ShareOk n)
    (shares n) share_comma x xs n
    (spell_over o) (omega arith) (omega arith, ok.0) (shares_ok n xs (omega arith) ok.1) (over_end_shares o)
    (over_no_comma o)

pub line_read : (l : Indexed Expr) (n : ℕ) → line_size l ≤ n → IsLine l → front_line n (spell_line l) ≡ got l []
line_read (uncertain r b rs) n h ok = declared_read uncertain r b rs n h ok
line_read (over r rs) n h ok =
    ap (λ (o : Option (Got Ref)). next o (λ r xs. next (front_ranges n xs) (λ rs xs. got (over r rs) xs)))
    (ref_read r n (spell_ranges rs) (omega arith) (ranges_end_ref rs))
    ∙ ap (λ (o : Option (Got (List Range))). next o (λ rs xs. got (over r rs) xs)) (ranges_whole rs n (omega arith) ok)
line_read (set s rs) n h ok =
    ap (λ (o : Option (Got (Sides Expr))). next o (λ s xs. next (front_ranges n xs) (λ rs xs. got (set s rs) xs)))
    (sides_read s n (spell_ranges rs) (omega arith) (ranges_end_sides rs))
    ∙ ap (λ (o : Option (Got (List Range))). next o (λ rs xs. got (set s rs) xs)) (ranges_whole rs n (omega arith) ok)
line_read (budget g ms o) n h ok =
    ap (λ (x : Option (Got Numeral)).
    next x (λ g xs. past is.colon xs
    (λ xs. next (front_list (front_ranged (front_share n) n) n xs)
    (λ ms xs. next (front_over n xs) (λ o xs. got (budget g ms o) xs)))))
    (number_read g (sign is.colon ∷ (spell_list (spell_ranged spell_share) ms ++ spell_over o)) refl)
    ∙ ap (λ (x : Option (Got (List (Ranged Share)))).
    next x (λ ms xs. next (front_over n xs) (λ o xs. got (budget g ms o) xs)))
    (shares_read ms o n (omega arith) ok.0 ok.1)
    ∙ ap (λ (x : Option (Got (Option Ref))). next x (λ o xs. got (budget g ms o) xs)) (over_whole o n (omega arith))
line_read (variable r b rs) n h ok = declared_read variable r b rs n h ok
line_read (adaptive r on b rs) n h ok =
    let behind_it : List Symbol = spell_bounds b ++ spell_ranges rs in
    ap (λ (x : Option (Got Ref)).
    next x (λ r xs. past is.opening xs
    (λ xs. next (front_entries n xs)
    (λ on xs. past is.closing xs
    (λ xs. next (front_bounds xs) (λ b xs. next (front_ranges n xs) (λ rs xs. got (adaptive r on b rs) xs)))))))
    (ref_read r n (sign is.opening ∷ (spell_list (spell_ranged spell_ref) on ++ sign is.closing ∷ behind_it))
    (omega arith) refl)
    ∙ ap (λ (x : Option (Got (List (Ranged Ref)))).
    next x (λ on xs. past is.closing xs
    (λ xs. next (front_bounds xs) (λ b xs. next (front_ranges n xs) (λ rs xs. got (adaptive r on b rs) xs)))))
    (entries_read on n behind_it (omega arith) ok.0)
    ∙ ap (λ (x : Option (Got (Option Bounds))).
    next x (λ b xs. next (front_ranges n xs) (λ rs xs. got (adaptive r on b rs) xs)))
    (bounds_read b (spell_ranges rs) (ranges_end_bounds rs))
    ∙ ap (λ (x : Option (Got (List Range))). next x (λ rs xs. got (adaptive r on b rs) xs))
    (ranges_whole rs n (omega arith) ok.1)
line_read (goal stated.minimise e o rs) n h ok = goal_read stated.minimise e o rs n h ok
line_read (goal stated.maximise e o rs) n h ok = goal_read stated.maximise e o rs n h ok
line_read (row r s rs) n h ok =
    ap (λ (x : Option (Got Ref)).
    next x (λ r xs. past is.colon xs
    (λ xs. next (front_sides n xs) (λ s xs. next (front_ranges n xs) (λ rs xs. got (row r s rs) xs)))))
    (ref_read r n (sign is.colon ∷ (spell_sides s ++ spell_ranges rs)) (omega arith) refl)
    ∙ ap (λ (x : Option (Got (Sides Expr))). next x (λ s xs. next (front_ranges n xs) (λ rs xs. got (row r s rs) xs)))
    (sides_read s n (spell_ranges rs) (omega arith) (ranges_end_sides rs))
    ∙ ap (λ (x : Option (Got (List Range))). next x (λ rs xs. got (row r s rs) xs)) (ranges_whole rs n (omega arith) ok)

-- ---- so two lines of one spelling are one
pub one_line : (k l : Indexed Expr) → IsLine k → IsLine l → spell_line k ≡ spell_line l → k ≡ l
one_line k l a b e =
    let n = line_size k + line_size l in
    let x = line_read k n (omega arith) a in
    let y = line_read l n (omega arith) b in
    let h : got k [] ≡ got l [] = sym x ∙ ap (front_line n) e ∙ y in
    item_of h
  where
    item_of : {k l : Indexed Expr} → got k [] ≡ got l [] → k ≡ l
    item_of {k} {l} h = ap (λ (o : Option (Got (Indexed Expr))).
        elim o as (λ _. Indexed Expr) [ None ↦ k | Some g ↦ g.item ]) h

pub one_statement : (symbols : List Symbol) (s t : Indexed Tree) → IsStatement symbols s → IsStatement symbols t → s ≡ t
one_statement symbols s t x y =
    sym x.statement_is ∙ ap statement_of (one_line x.line y.line x.is_line y.is_line (sym x.spelled ∙ y.spelled))
    ∙ y.statement_is
