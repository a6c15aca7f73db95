-- It is settled whether some symbols are a statement: what the reader finds is compared with them.
use Rattle.std.proofs.Common.{◌≡◌, ℕ, ◌+◌, ◌*◌, Bool, true, false, List, [], ◌∷◌, ◌⊎◌, inl, inr, length, Option, Some, None, refl, sym, ap, ◌∙◌}
use Rattle.std.specs.Prelude.{◌==◌, ◌&&◌, nat_le, if◌then◌else◌}
use Rattle.std.proofs.lemmas.Bool.{eqb-true, eq-eqb, leb-true, le-leb}
use Rattle.rob_index.specs.Symbols.{Symbol, Mark, Keyword, name, digits, sign, word}
use Rattle.rob_index.specs.Symbols as is
use Rattle.rob_index.specs.Statements.{Ranged, Indexed, Tree, uncertain, over, set, budget, variable, adaptive, goal, row}
use Rattle.rob_index.specs.Grammar.{Expr}
use Rattle.rob_index.specs.FewIndices.{has_few_indices}
use Rattle.rob_index.specs.Lines.{spell_line, AreAllRanged, HasMembers, IsLine, IsStatement, statement_of}
use Rattle.rob_index.proofs.LinesRead.ListLemmas.{both_true}
use Rattle.rob_index.proofs.Parsing.Parser.{Got, got, mark_code, word_code}
use Rattle.rob_index.proofs.Parsing.OneStatement.{front_line, line_read, one_line}
use Rattle.rob_index.proofs.Parsing.LineSizes.{line_fits}

mark_at : ℕ → Mark
mark_at n =
    if n == 0 then is.plus else
    (if n == 1 then is.minus else
    (if n == 2 then is.star else (if n == 3 then is.slash else (if n == 4 then is.opening
    else (if n == 5 then is.closing else
    (if n == 6 then is.open_bracket else (if n == 7 then is.close_bracket else (if n == 8 then is.comma
    else (if n == 9 then is.colon else
    (if n == 10 then is.equal else (if n == 11 then is.at_most else is.at_least)))))))))))

mark_back : (m : Mark) → mark_at (mark_code m) ≡ m
unfolding mark_at
mark_back is.plus = refl
mark_back is.minus = refl
mark_back is.star = refl
mark_back is.slash = refl
mark_back is.opening = refl
mark_back is.closing = refl
mark_back is.open_bracket = refl
mark_back is.close_bracket = refl
mark_back is.comma = refl
mark_back is.colon = refl
mark_back is.equal = refl
mark_back is.at_most = refl
mark_back is.at_least = refl

word_at : ℕ → Keyword
word_at n =
    if n == 0 then is.uncertain else
    (if n == 1 then is.over else (if n == 2 then is.set else (if n == 3 then is.budget else (if n == 4 then is.var
    else (if n == 5 then is.adaptive else
    (if n == 6 then is.minimise else (if n == 7 then is.maximise else (if n == 8 then is.row
    else (if n == 9 then is.at else
    (if n == 10 then is.by else
    (if n == 11 then is.within else (if n == 12 then is.sum else (if n == 13 then is.for
    else (if n == 14 then is.to else (if n == 15 then is.model else is.unused)))))))))))))))

word_back : (k : Keyword) → word_at (word_code k) ≡ k
unfolding word_at
word_back is.uncertain = refl
word_back is.over = refl
word_back is.set = refl
word_back is.budget = refl
word_back is.var = refl
word_back is.adaptive = refl
word_back is.minimise = refl
word_back is.maximise = refl
word_back is.row = refl
word_back is.at = refl
word_back is.by = refl
word_back is.within = refl
word_back is.sum = refl
word_back is.for = refl
word_back is.to = refl
word_back is.model = refl
word_back is.unused = refl

-- ---- the same symbols
abbrev same : Symbol → Symbol → Bool
same (name j) (name k) = j == k
same (digits j) (digits k) = j == k
same (sign j) (sign k) = mark_code j == mark_code k
same (word j) (word k) = word_code j == word_code k
same _ _ = false

same_is : (a b : Symbol) → same a b ≡ true → a ≡ b
same_is (name j) (name k) h = ap name (eqb-true j k h)
same_is (digits j) (digits k) h = ap digits (eqb-true j k h)
same_is (sign j) (sign k) h =
    ap sign (sym (mark_back j) ∙ ap mark_at (eqb-true (mark_code j) (mark_code k) h) ∙ mark_back k)
same_is (word j) (word k) h =
    ap word (sym (word_back j) ∙ ap word_at (eqb-true (word_code j) (word_code k) h) ∙ word_back k)
same_is (name j) (digits k) h = cc
same_is (name j) (sign k) h = cc
same_is (name j) (word k) h = cc
same_is (digits j) (name k) h = cc
same_is (digits j) (sign k) h = cc
same_is (digits j) (word k) h = cc
same_is (sign j) (name k) h = cc
same_is (sign j) (digits k) h = cc
same_is (sign j) (word k) h = cc
same_is (word j) (name k) h = cc
same_is (word j) (digits k) h = cc
same_is (word j) (sign k) h = cc

same_self : (a : Symbol) → same a a ≡ true
same_self (name k) = eq-eqb k k refl
same_self (digits k) = eq-eqb k k refl
same_self (sign k) = eq-eqb (mark_code k) (mark_code k) refl
same_self (word k) = eq-eqb (word_code k) (word_code k) refl

abbrev all_same : List Symbol → List Symbol → Bool
all_same [] [] = true
all_same [] (b ∷ bs) = false
all_same (a ∷ as') [] = false
all_same (a ∷ as') (b ∷ bs) = same a b && all_same as' bs

all_same_is : (xs ys : List Symbol) → all_same xs ys ≡ true → xs ≡ ys
all_same_is [] [] h = refl
all_same_is [] (b ∷ bs) h = cc
all_same_is (a ∷ as') [] h = cc
all_same_is (a ∷ as') (b ∷ bs) h =
    let k = both_true (same a b) (all_same as' bs) h in
    let e = same_is a b k.0 in
    let f = all_same_is as' bs k.1 in
    (λ i. e i ∷ f i)

all_same_self : (xs : List Symbol) → all_same xs xs ≡ true
all_same_self [] = refl
all_same_self (x ∷ xs) = let e = same_self x in let f = all_same_self xs in (λ i. e i && f i)

-- ---- no more than two ranges, and a member
abbrev all_ranged : {A : Type 0} → List (Ranged A) → Bool
all_ranged [] = true
all_ranged (x ∷ xs) = nat_le (length x.ranges) 2 && all_ranged xs

abbrev has_members : {A : Type 0} → List A → Bool
has_members [] = false
has_members (x ∷ xs) = true

abbrev is_line : Indexed Expr → Bool
is_line (uncertain r b rs) = nat_le (length rs) 2
is_line (over r rs) = nat_le (length rs) 2
is_line (set s rs) = nat_le (length rs) 2
is_line (budget n ms o) = all_ranged ms && has_members ms
is_line (variable r b rs) = nat_le (length rs) 2
is_line (adaptive r on b rs) = all_ranged on && nat_le (length rs) 2
is_line (goal s e o rs) = nat_le (length rs) 2
is_line (row r s rs) = nat_le (length rs) 2

ranged_from : {A : Type 0} (xs : List (Ranged A)) → all_ranged xs ≡ true → AreAllRanged xs
ranged_from [] h = tt
ranged_from (x ∷ xs) h =
    let k = both_true (nat_le (length x.ranges) 2) (all_ranged xs) h in
    (leb-true (length x.ranges) 2 k.0, ranged_from xs k.1)

ranged_to : {A : Type 0} (xs : List (Ranged A)) → AreAllRanged xs → all_ranged xs ≡ true
ranged_to [] h = refl
ranged_to (x ∷ xs) h = let e = le-leb (length x.ranges) 2 h.0 in let f = ranged_to xs h.1 in (λ i. e i && f i)

members_from : {A : Type 0} (xs : List A) → has_members xs ≡ true → HasMembers xs
members_from [] h = cc
members_from (x ∷ xs) h = tt

members_to : {A : Type 0} (xs : List A) → HasMembers xs → has_members xs ≡ true
members_to [] h = absurd h
members_to (x ∷ xs) h = refl

line_from : (l : Indexed Expr) → is_line l ≡ true → IsLine l
line_from (uncertain r b rs) h = leb-true (length rs) 2 h
line_from (over r rs) h = leb-true (length rs) 2 h
line_from (set s rs) h = leb-true (length rs) 2 h
line_from (budget n ms o) h =
    let k = both_true (all_ranged ms) (has_members ms) h in (ranged_from ms k.0, members_from ms k.1)
line_from (variable r b rs) h = leb-true (length rs) 2 h
line_from (adaptive r on b rs) h =
    let k = both_true (all_ranged on) (nat_le (length rs) 2) h in (ranged_from on k.0, leb-true (length rs) 2 k.1)
line_from (goal s e o rs) h = leb-true (length rs) 2 h
line_from (row r s rs) h = leb-true (length rs) 2 h

line_to : (l : Indexed Expr) → IsLine l → is_line l ≡ true
line_to (uncertain r b rs) h = le-leb (length rs) 2 h
line_to (over r rs) h = le-leb (length rs) 2 h
line_to (set s rs) h = le-leb (length rs) 2 h
line_to (budget n ms o) h = let e = ranged_to ms h.0 in let f = members_to ms h.1 in (λ i. e i && f i)
line_to (variable r b rs) h = le-leb (length rs) 2 h
line_to (adaptive r on b rs) h = let e = ranged_to on h.0 in let f = le-leb (length rs) 2 h.1 in (λ i. e i && f i)
line_to (goal s e o rs) h = le-leb (length rs) 2 h
line_to (row r s rs) h = le-leb (length rs) 2 h

-- ---- settled
fuel : List Symbol → ℕ
fuel symbols = 3 * length symbols + 12

-- whatever line the symbols are, the reader finds it
found : (symbols : List Symbol) (l : Indexed Expr) → IsLine l → symbols ≡ spell_line l
    → front_line (fuel symbols) symbols ≡ got l []
unfolding fuel
found symbols l ok e = ap (λ (s : List Symbol). front_line (3 * length s + 12) s) e
    ∙ line_read l (3 * length (spell_line l) + 12) (line_fits l) ok

pub line_settled : (symbols : List Symbol)
    → ((l : Indexed Expr) × IsLine l × (symbols ≡ spell_line l))
    ⊎ ((l : Indexed Expr) → IsLine l → symbols ≡ spell_line l → ⊥)
line_settled symbols = go (front_line (fuel symbols) symbols) refl
  where
    tested : (g : Got (Indexed Expr)) → front_line (fuel symbols) symbols ≡ Some g → (a b : Bool)
        → all_same symbols (spell_line g.item) ≡ a → is_line g.item ≡ b
        → ((l : Indexed Expr) × IsLine l × (symbols ≡ spell_line l))
        ⊎ ((l : Indexed Expr) → IsLine l → symbols ≡ spell_line l → ⊥)
    tested g e true true h k = inl (g.item, line_from g.item k, all_same_is symbols (spell_line g.item) h)
    tested g e false b h k = inr (λ l ok s.
        let f : Some g ≡ got l [] = sym e ∙ found symbols l ok s in
        let i : g.item ≡ l = ap (λ (o : Option (Got (Indexed Expr))).
        elim o as (λ _. Indexed Expr) [ None ↦ l | Some x ↦ x.item ]) f in
        let w : false ≡ true = sym h ∙ ap (λ (x : Indexed Expr). all_same symbols (spell_line x)) i
        ∙ ap (all_same symbols) (sym s) ∙ all_same_self symbols in
        cc)
    tested g e true false h k = inr (λ l ok s.
        let f : Some g ≡ got l [] = sym e ∙ found symbols l ok s in
        let i : g.item ≡ l = ap (λ (o : Option (Got (Indexed Expr))).
        elim o as (λ _. Indexed Expr) [ None ↦ l | Some x ↦ x.item ]) f in
        let w : false ≡ true = sym k ∙ ap is_line i ∙ line_to l ok in
        cc)

    go : (o : Option (Got (Indexed Expr))) → front_line (fuel symbols) symbols ≡ o
        → ((l : Indexed Expr) × IsLine l × (symbols ≡ spell_line l))
        ⊎ ((l : Indexed Expr) → IsLine l → symbols ≡ spell_line l → ⊥)
    go None e = inr (λ l ok s. let f : None ≡ got l [] = sym e ∙ found symbols l ok s in cc)
    go (Some g) e = tested g e (all_same symbols (spell_line g.item)) (is_line g.item) refl refl

pub statement_settled : (symbols : List Symbol)
    → ((s : Indexed Tree) × IsStatement symbols s) ⊎ ((s : Indexed Tree) → IsStatement symbols s → ⊥)
statement_settled symbols = elim (line_settled symbols) [
  | inl x ↦ of_line x.0 x.1 x.2 (has_few_indices (statement_of x.0)) refl
  | inr none ↦ inr (λ s x. none x.line x.is_line x.spelled)
]
  where
    of_line : (l : Indexed Expr) → IsLine l → symbols ≡ spell_line l → (b : Bool)
        → has_few_indices (statement_of l) ≡ b
        → ((s : Indexed Tree) × IsStatement symbols s) ⊎ ((s : Indexed Tree) → IsStatement symbols s → ⊥)
    of_line l ok spelled true h =
        inl (statement_of l, record { line = l; is_line = ok; spelled = spelled; statement_is = refl; few = h })
    of_line l ok spelled false h = inr (λ s x.
        let same : x.line ≡ l = one_line x.line l x.is_line ok (sym x.spelled ∙ spelled) in
        let is : s ≡ statement_of l = sym x.statement_is ∙ ap statement_of same in
        let w : true ≡ false = sym x.few ∙ ap has_few_indices is ∙ h in
        cc)
