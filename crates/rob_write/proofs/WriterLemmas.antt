-- Steps of the writer: what is put behind what was put.
use Rattle.std.proofs.Common.{◌≡◌, ℕ, zero, suc, ◌+◌, ◌<◌, ◌≤◌, Bool, false, List, [], ◌∷◌, ◌++◌, length, map, drop, take, get_or, refl, sym, ap, ◌∙◌, arith}
use Rattle.std.specs.Prelude.{fold}
use Rattle.std.proofs.lemmas.List.Sums.{fold-append}
use Rattle.rob_algebra.specs.Fraction.{Fraction}
use Rattle.rob_meaning.specs.Expressions.{Expression, number, parameter, variable, adaptive, adaptive_in, sum, product, Terms, term}
use Rattle.rob_model.specs.View.{Signed, expression_of, factors_of, signed_of, terms_of}
use Rattle.rob_model.specs.declared.expr.Expr.{Expr}
use Rattle.rob_model.specs.declared.expr.Term.{Term}
use Rattle.rob_model.proofs.PartLemmas.{drop_at, signed_is}
use Rattle.rob_write.specs.declared.page.Page.{Page}
use Rattle.rob_syntax.specs.declared.symbol.Mark.TheVariants.{Open, Close}
use Rattle.rob_write.specs.Pages.{Written, line_end, put, put_line}
use Rattle.rob_write.specs.WrittenModel.{factors_written, terms_written, written}
use Rattle.rob_write.specs.ExpressionWords.{Naming, paren, enclosed, lead, times, is_compound, is_sum, expression_words, factor_words, term_words}
use Rattle.rob_write.specs.StatementWords.{lines_over, over_words}

-- the name of the item at a place
pub name_here : {A B : Type 0} (view : A → B) (named : B → List ℕ) (xs : List A) (k : ℕ) (x : A) → k < length xs
    → x ≡ get_or xs k x → named (view x) ≡ get_or (map named (map view xs)) k []
name_here view named [] k x h is = absurd (omega arith)
name_here view named (y ∷ xs) zero x h is = ap (λ z. named (view z)) is
name_here view named (y ∷ xs) (suc k) x h is = name_here view named xs k x (omega arith) is

pub name_past : {A B : Type 0} (view : A → B) (named : B → List ℕ) (xs : List A) (k : ℕ) → length xs ≤ k
    → ◌≡◌ {A = List ℕ} [] (get_or (map named (map view xs)) k [])
name_past view named [] k h = refl
name_past view named (y ∷ xs) zero h = absurd (omega arith)
name_past view named (y ∷ xs) (suc k) h = name_past view named xs k (omega arith)

-- the first items as they are seen
pub map_take : {A B : Type 0} (f : A → B) (n : ℕ) (xs : List A) → map f (take n xs) ≡ take n (map f xs)
map_take f zero xs = refl
map_take f (suc n) [] = refl
map_take f (suc n) (x ∷ xs) = λ i. f x ∷ map_take f n xs i

-- words in parentheses, or not
enclosed_put : (b : Bool) (ws : List Written) (page : Page) {one two three : Page} (c d : Bool) → c ≡ b → d ≡ b
    → one ≡ fold put page (paren c Open) → two ≡ fold put one ws → three ≡ fold put two (paren d Close)
    → three ≡ fold put page (enclosed b ws)
enclosed_put b ws page {one} {two} {three} c d is is' opens writes closes =
    closes
    ∙ (λ i. fold put (writes i) (paren (is' i) Close))
    ∙ ap (λ (p : Page). fold put (fold put p ws) (paren b Close))
    (opens ∙ ap (λ (x : Bool). fold put page (paren x Open)) is)
    ∙ sym (fold-append put (fold put page (paren b Open)) ws (paren b Close))
    ∙ sym (fold-append put page (paren b Open) (ws ++ paren b Close))

-- one more term of a sum
term_put : (names : Naming) (first minus : Bool) (e : Expression) (ts : Terms) (page : Page) {one two : Page}
    → one ≡ fold put page (lead first minus) → two ≡ fold put one (enclosed (is_sum e) (expression_words names e))
    → fold put two (term_words names false ts) ≡ fold put page (term_words names first (term minus e ts))
term_put names first minus e ts page leads writes =
    ap (λ (p : Page). fold put p (term_words names false ts))
    (writes ∙ ap (λ (p : Page). fold put p (enclosed (is_sum e) (expression_words names e))) leads)
    ∙ sym (fold-append put (fold put page (lead first minus)) (enclosed (is_sum e) (expression_words names e))
    (term_words names false ts))
    ∙ sym (fold-append put page (lead first minus)
    (enclosed (is_sum e) (expression_words names e) ++ term_words names false ts))

-- what is written of a sum is a sum, and so it is with what is compound
sum_written : (q : ℕ) (e : Expression) → is_sum e ≡ is_sum (written q e)
sum_written q (number x) = refl
sum_written q (parameter k) = refl
sum_written q (variable k) = refl
sum_written q (adaptive y) = refl
sum_written q (adaptive_in y S) = refl
sum_written q (sum ts) = refl
sum_written q (product fs) = refl

compound_written : (q : ℕ) (e : Expression) → is_compound e ≡ is_compound (written q e)
compound_written q (number x) = refl
compound_written q (parameter k) = refl
compound_written q (variable k) = refl
compound_written q (adaptive y) = refl
compound_written q (adaptive_in y S) = refl
compound_written q (sum ts) = refl
compound_written q (product fs) = refl

pub term_step : {N : Type 0} (value : N → Fraction) (q : ℕ) (names : Naming) (xs : List (Term N)) (i : ℕ) (x : Term N)
    (first : Bool) (page : Page) {one two three four result : Page} (c d : Bool) → i < length xs → x ≡ get_or xs i x
    → one ≡ fold put page (lead first x.minus)
    → c ≡ is_sum (expression_of value x.inner) → two ≡ fold put one (paren c Open)
    → three ≡ fold put two (expression_words names (written q (expression_of value x.inner)))
    → d ≡ is_sum (expression_of value x.inner) → four ≡ fold put three (paren d Close)
    → fold put page (term_words names first (terms_written q (terms_of (map (signed_of value) (drop i xs))))) ≡ result
    → fold put four (term_words names false (terms_written q (terms_of (map (signed_of value) (drop (i + 1) xs)))))
    ≡ result
term_step {N = N} value q names xs i x first page c d inside is leads cs opens writes ds closes so_far =
    let e = expression_of value x.inner in
    let w = written q e in
    let same = sum_written q e in
    let rest = terms_written q (terms_of (map (signed_of value) (drop (i + 1) xs))) in
    term_put names first x.minus w rest page leads
    (enclosed_put (is_sum w) (expression_words names w) _ c d (cs ∙ same) (ds ∙ same) opens writes closes)
    ∙ ap (λ (s : Signed). fold put page (term_words names first (term s.0 (written q s.1) rest)))
    (sym (signed_is value x))
    ∙ ap (λ (l : List (Term N)).
    fold put page (term_words names first (terms_written q (terms_of (map (signed_of value) l)))))
    (sym (drop_at xs i x inside is))
    ∙ so_far

-- one more factor of a product
pub factor_step : {N : Type 0} (value : N → Fraction) (q : ℕ) (names : Naming) (xs : List (Expr N)) (i : ℕ) (x : Expr N)
    (first : Bool) (page : Page) {one two three four result : Page} (c d : Bool) → i < length xs → x ≡ get_or xs i x
    → one ≡ fold put page (times first)
    → c ≡ is_compound (expression_of value x) → two ≡ fold put one (paren c Open)
    → three ≡ fold put two (expression_words names (written q (expression_of value x)))
    → d ≡ is_compound (expression_of value x) → four ≡ fold put three (paren d Close)
    → fold put page (factor_words names first (factors_written q (factors_of (map (expression_of value) (drop i xs)))))
    ≡ result
    → fold put four
    (factor_words names false (factors_written q (factors_of (map (expression_of value) (drop (i + 1) xs)))))
    ≡ result
factor_step {N = N} value q names xs i x first page c d inside is leads cs opens writes ds closes so_far =
    let e = expression_of value x in
    let w = written q e in
    let same = compound_written q e in
    let rest = factors_written q (factors_of (map (expression_of value) (drop (i + 1) xs))) in
    let inner = enclosed (is_compound w) (expression_words names w) in
    ap (λ (p : Page). fold put p (factor_words names false rest))
    (enclosed_put (is_compound w) (expression_words names w) _ c d (cs ∙ same) (ds ∙ same) opens writes closes
    ∙ ap (λ (p : Page). fold put p inner) leads)
    ∙ sym (fold-append put (fold put page (times first)) inner (factor_words names false rest))
    ∙ sym (fold-append put page (times first) (inner ++ factor_words names false rest))
    ∙ ap (λ (l : List (Expr N)).
    fold put page (factor_words names first (factors_written q (factors_of (map (expression_of value) l)))))
    (sym (drop_at xs i x inside is))
    ∙ so_far

-- ---- lines that answer to a set each
get_or-drop : (Ss : List ℕ) (i : ℕ) → get_or (drop i Ss) 0 0 ≡ get_or Ss i 0
get_or-drop [] zero = refl
get_or-drop [] (suc i) = refl
get_or-drop (S ∷ Ss) zero = refl
get_or-drop (S ∷ Ss) (suc i) = get_or-drop Ss i

drop_next : (Ss : List ℕ) (i : ℕ) → drop 1 (drop i Ss) ≡ drop (i + 1) Ss
drop_next [] zero = refl
drop_next [] (suc i) = let e : suc (i + 1) ≡ suc i + 1 = omega arith in ap (λ (j : ℕ). drop j []) e
drop_next (S ∷ Ss) zero = refl
drop_next (S ∷ Ss) (suc i) =
    drop_next Ss i ∙ (let e : suc (i + 1) ≡ suc i + 1 = omega arith in ap (λ (j : ℕ). drop j (S ∷ Ss)) e)

first_over : {C : Type 0} (write : C → List Written) (sets : List (List ℕ)) (x : C) (xs : List C) (Ss : List ℕ)
    → lines_over write sets (x ∷ xs) Ss ≡ (write x ++ over_words sets (get_or Ss 0 0))
    ∷ lines_over write sets xs (drop 1 Ss)
first_over write sets x xs [] = refl
first_over write sets x xs (S ∷ Ss) = refl

-- one more line
pub over_step : {A B C : Type 0} (view : A → B) (as_written : B → C) (write : C → List Written) (sets : List (List ℕ))
    (xs : List A) (Ss : List ℕ) (i : ℕ) (x : A) (page : Page) {one two three result : Page}
    → i < length xs → x ≡ get_or xs i x
    → one ≡ fold put page (write (as_written (view x))) → two ≡ fold put one (over_words sets (get_or Ss i 0))
    → three ≡ put two line_end
    → fold put_line page (lines_over write sets (map as_written (map view (drop i xs))) (drop i Ss)) ≡ result
    → fold put_line three (lines_over write sets (map as_written (map view (drop (i + 1) xs))) (drop (i + 1) Ss))
    ≡ result
over_step {A = A} view as_written write sets xs Ss i x page inside is writes overs ends so_far =
    let line = write (as_written (view x)) in
    let rest = map as_written (map view (drop (i + 1) xs)) in
    let end = over_words sets (get_or Ss i 0) in
    ap (λ (p : Page). fold put_line p (lines_over write sets rest (drop (i + 1) Ss)))
    (ends ∙ ap (λ (p : Page). put p line_end)
    (overs ∙ ap (λ (p : Page). fold put p end) writes ∙ sym (fold-append put page line end)))
    ∙ (λ j. fold put_line (put_line page (line ++ over_words sets (sym (get_or-drop Ss i) j)))
    (lines_over write sets rest (sym (drop_next Ss i) j)))
    ∙ ap (fold put_line page) (sym (first_over write sets (as_written (view x)) rest (drop i Ss)))
    ∙ ap (λ (l : List A). fold put_line page (lines_over write sets (map as_written (map view l)) (drop i Ss)))
    (sym (drop_at xs i x inside is))
    ∙ so_far
