-- The reader of expressions.
use Rattle.std.proofs.Common.{◌≡◌, ℕ, zero, suc, ◌+◌, ◌≤◌, Bool, true, false, List, [], ◌∷◌, ◌++◌, Option, None, refl, ap, ◌∙◌, arith, append_assoc}
use Rattle.std.specs.Prelude.{if◌then◌else◌}
use Rattle.rob_index.specs.Symbols.{Symbol, name, digits, sign, word}
use Rattle.rob_index.specs.Symbols as is
use Rattle.rob_index.specs.Statements.{Numeral, Ref, Range}
use Rattle.rob_index.specs.Grammar.{Factor, Factors, Term, Terms, Expr, number, ref, parens, sum, no_factors, times, term, no_terms, signed, expr, spell_range, spell_factor, spell_factors, spell_term, spell_terms, spell_expr}
use Rattle.rob_index.proofs.Parsing.Parser.{begins, tail, Got, got, next, past, behind, front_number, front_ref, front_range}
use Rattle.rob_index.proofs.Parsing.PartsRead.{number_read, ref_read, range_read, ref_size, range_size, NumberEnds, RefEnds}

module _ (e : List Symbol → Option (Got Expr)) (n : ℕ) where
  abbrev pub front_factor : List Symbol → Option (Got Factor)
  front_factor [] = None
  front_factor (digits a ∷ rest) = next (front_number (digits a ∷ rest)) (λ x xs. got (number x) xs)
  front_factor (name k ∷ rest) = next (front_ref n (name k ∷ rest)) (λ r xs. got (ref r) xs)
  front_factor (sign m ∷ rest) =
      past is.opening (sign m ∷ rest) (λ xs. next (e xs) (λ x xs. past is.closing xs (λ xs. got (parens x) xs)))
  front_factor (word w ∷ rest) =
      behind is.sum (word w ∷ rest) (λ xs. past is.opening xs (λ xs.
      next (front_range n xs) (λ r xs.
      past is.colon xs (λ xs. next (e xs) (λ x xs. past is.closing xs (λ xs. got (sum r x) xs))))))

  abbrev pub front_factors : ℕ → List Symbol → Option (Got Factors)
  front_factors zero xs = None
  front_factors (suc m) xs = if begins is.star xs then next (front_factor (tail xs))
      (λ f xs. next (front_factors m xs) (λ fs xs. got (times f fs) xs)) else got no_factors xs

  abbrev pub front_term : List Symbol → Option (Got Term)
  front_term xs = next (front_factor xs) (λ f xs. next (front_factors n xs) (λ fs xs. got (term f fs) xs))

  abbrev pub front_terms : ℕ → List Symbol → Option (Got Terms)
  front_terms zero xs = None
  front_terms (suc m) xs =
      if begins is.plus xs then next (front_term (tail xs))
      (λ t xs. next (front_terms m xs) (λ ts xs. got (signed false t ts) xs))
      else (if begins is.minus xs then next (front_term (tail xs))
      (λ t xs. next (front_terms m xs) (λ ts xs. got (signed true t ts) xs))
      else got no_terms xs)

  abbrev pub front_all : Bool → List Symbol → Option (Got Expr)
  front_all minus xs = next (front_term xs) (λ t xs. next (front_terms n xs) (λ ts xs. got (expr minus t ts) xs))

abbrev pub front_expr : ℕ → List Symbol → Option (Got Expr)
front_expr zero xs = None
front_expr (suc n) xs = if begins is.minus xs then front_all (front_expr n) n true (tail xs) else front_all
    (front_expr n) n false xs

abbrev mutual
  pub factor_size : Factor → ℕ
  factor_size (number n) = 1
  factor_size (ref r) = ref_size r
  factor_size (parens e) = 1 + expr_size e
  factor_size (sum r e) = 1 + (range_size r + expr_size e)

  pub factors_size : Factors → ℕ
  factors_size no_factors = 1
  factors_size (times f fs) = factor_size f + (1 + factors_size fs)

  pub term_size : Term → ℕ
  term_size (term f fs) = factor_size f + factors_size fs

  pub terms_size : Terms → ℕ
  terms_size no_terms = 1
  terms_size (signed m t ts) = term_size t + (1 + terms_size ts)

  pub expr_size : Expr → ℕ
  expr_size (expr m t ts) = 1 + (term_size t + terms_size ts)

abbrev pub FactorEnds : List Symbol → Type 0
FactorEnds rest = NumberEnds rest × RefEnds rest

abbrev pub TermEnds : List Symbol → Type 0
TermEnds rest = FactorEnds rest × (begins is.star rest ≡ false)

abbrev pub ExprEnds : List Symbol → Type 0
ExprEnds rest = TermEnds rest × (begins is.plus rest ≡ false) × (begins is.minus rest ≡ false)

factors_end : (fs : Factors) (rest : List Symbol) → TermEnds rest → FactorEnds (spell_factors fs ++ rest)
factors_end no_factors rest h = h.0
factors_end (times f fs) rest h = (refl, refl)

terms_end : (ts : Terms) (rest : List Symbol) → ExprEnds rest → TermEnds (spell_terms ts ++ rest)
terms_end no_terms rest h = h.0
terms_end (signed true t ts) rest h = ((refl, refl), refl)
terms_end (signed false t ts) rest h = ((refl, refl), refl)

no_minus : (t : Term) (rest : List Symbol) → begins is.minus (spell_term t ++ rest) ≡ false
no_minus (term (number n) fs) rest = refl
no_minus (term (ref r) fs) rest = refl
no_minus (term (parens e) fs) rest = refl
no_minus (term (sum r e) fs) rest = refl

mutual
  pub factor_read : (f : Factor) (n : ℕ) (rest : List Symbol) → factor_size f ≤ n → FactorEnds rest
      → front_factor (front_expr n) n (spell_factor f ++ rest) ≡ got f rest
  factor_read (number x) n rest h e =
      ap (λ (o : Option (Got Numeral)). next o (λ x xs. got (number x) xs)) (number_read x rest e.0)
  factor_read (ref r) n rest h e =
      ap (λ (o : Option (Got Ref)). next o (λ r xs. got (ref r) xs)) (ref_read r n rest h e.1)
  factor_read (parens x) n rest h e =
      let one = expr_read x n (sign is.closing ∷ rest) (omega arith) (((refl, refl), refl), refl, refl) in
      ap (λ (l : List Symbol). next (front_expr n l) (λ x xs. past is.closing xs (λ xs. got (parens x) xs)))
      (append_assoc (spell_expr x) (sign is.closing ∷ []) rest)
      ∙ ap (λ (o : Option (Got Expr)). next o (λ x xs. past is.closing xs (λ xs. got (parens x) xs))) one
  factor_read (sum r x) n rest h e =
      let one = range_read r n (sign is.colon ∷ (spell_expr x ++ sign is.closing ∷ rest)) (omega arith) (refl, refl) in
      let two = expr_read x n (sign is.closing ∷ rest) (omega arith) (((refl, refl), refl), refl, refl) in
      let a : (spell_range r ++ sign is.colon ∷ (spell_expr x ++ sign is.closing ∷ [])) ++ rest
      ≡ spell_range r ++ (sign is.colon ∷ (spell_expr x ++ sign is.closing ∷ rest)) =
      append_assoc (spell_range r) (sign is.colon ∷ (spell_expr x ++ sign is.closing ∷ [])) rest
      ∙ ap (λ (l : List Symbol). spell_range r ++ (sign is.colon ∷ l))
      (append_assoc (spell_expr x) (sign is.closing ∷ []) rest) in
      ap (λ (l : List Symbol).
      next (front_range n l) (λ r xs.
      past is.colon xs (λ xs. next (front_expr n xs) (λ x xs. past is.closing xs (λ xs. got (sum r x) xs))))) a
      ∙ ap (λ (o : Option (Got Range)).
      next o (λ r xs. past is.colon xs
      (λ xs. next (front_expr n xs) (λ x xs. past is.closing xs (λ xs. got (sum r x) xs))))) one
      ∙ ap (λ (o : Option (Got Expr)). next o (λ x xs. past is.closing xs (λ xs. got (sum r x) xs))) two

  pub factors_read : (fs : Factors) (n m : ℕ) (rest : List Symbol) → factors_size fs ≤ n → factors_size fs ≤ m
      → TermEnds rest → front_factors (front_expr n) n m (spell_factors fs ++ rest) ≡ got fs rest
  factors_read no_factors n zero rest h k e = absurd (omega arith)
  factors_read no_factors n (suc m) rest h k e = rw e.1
  factors_read (times f fs) n zero rest h k e = absurd (omega arith)
  factors_read (times f fs) n (suc m) rest h k e =
      let one = factor_read f n (spell_factors fs ++ rest) (omega arith) (factors_end fs rest e) in
      let two = factors_read fs n m rest (omega arith) (omega arith) e in
      ap (λ (l : List Symbol).
      next (front_factor (front_expr n) n l)
      (λ f xs. next (front_factors (front_expr n) n m xs) (λ fs xs. got (times f fs) xs)))
      (append_assoc (spell_factor f) (spell_factors fs) rest)
      ∙ ap (λ (o : Option (Got Factor)).
      next o (λ f xs. next (front_factors (front_expr n) n m xs) (λ fs xs. got (times f fs) xs))) one
      ∙ ap (λ (o : Option (Got Factors)). next o (λ fs xs. got (times f fs) xs)) two

  pub term_read : (t : Term) (n : ℕ) (rest : List Symbol) → term_size t ≤ n → TermEnds rest
      → front_term (front_expr n) n (spell_term t ++ rest) ≡ got t rest
  term_read (term f fs) n rest h e =
      let one = factor_read f n (spell_factors fs ++ rest) (omega arith) (factors_end fs rest e) in
      let two = factors_read fs n n rest (omega arith) (omega arith) e in
      ap (λ (l : List Symbol).
      next (front_factor (front_expr n) n l)
      (λ f xs. next (front_factors (front_expr n) n n xs) (λ fs xs. got (term f fs) xs)))
      (append_assoc (spell_factor f) (spell_factors fs) rest)
      ∙ ap (λ (o : Option (Got Factor)).
      next o (λ f xs. next (front_factors (front_expr n) n n xs) (λ fs xs. got (term f fs) xs))) one
      ∙ ap (λ (o : Option (Got Factors)). next o (λ fs xs. got (term f fs) xs)) two

  pub terms_read : (ts : Terms) (n m : ℕ) (rest : List Symbol) → terms_size ts ≤ n → terms_size ts ≤ m
      → ExprEnds rest → front_terms (front_expr n) n m (spell_terms ts ++ rest) ≡ got ts rest
  terms_read no_terms n zero rest h k e = absurd (omega arith)
  terms_read no_terms n (suc m) rest h k e = rw (e.1, e.2)
  terms_read (signed minus t ts) n zero rest h k e = absurd (omega arith)
  terms_read (signed true t ts) n (suc m) rest h k e =
      let one = term_read t n (spell_terms ts ++ rest) (omega arith) (terms_end ts rest e) in
      let two = terms_read ts n m rest (omega arith) (omega arith) e in
      ap (λ (l : List Symbol).
      next (front_term (front_expr n) n l)
      (λ t xs. next (front_terms (front_expr n) n m xs) (λ ts xs. got (signed true t ts) xs)))
      (append_assoc (spell_term t) (spell_terms ts) rest)
      ∙ ap (λ (o : Option (Got Term)).
      next o (λ t xs. next (front_terms (front_expr n) n m xs) (λ ts xs. got (signed true t ts) xs))) one
      ∙ ap (λ (o : Option (Got Terms)). next o (λ ts xs. got (signed true t ts) xs)) two
  terms_read (signed false t ts) n (suc m) rest h k e =
      let one = term_read t n (spell_terms ts ++ rest) (omega arith) (terms_end ts rest e) in
      let two = terms_read ts n m rest (omega arith) (omega arith) e in
      ap (λ (l : List Symbol).
      next (front_term (front_expr n) n l)
      (λ t xs. next (front_terms (front_expr n) n m xs) (λ ts xs. got (signed false t ts) xs)))
      (append_assoc (spell_term t) (spell_terms ts) rest)
      ∙ ap (λ (o : Option (Got Term)).
      next o (λ t xs. next (front_terms (front_expr n) n m xs) (λ ts xs. got (signed false t ts) xs))) one
      ∙ ap (λ (o : Option (Got Terms)). next o (λ ts xs. got (signed false t ts) xs)) two

  pub expr_read : (x : Expr) (n : ℕ) (rest : List Symbol) → expr_size x ≤ n → ExprEnds rest
      → front_expr n (spell_expr x ++ rest) ≡ got x rest
  expr_read (expr minus t ts) zero rest h e = absurd (omega arith)
  expr_read (expr true t ts) (suc n) rest h e =
      let one = term_read t n (spell_terms ts ++ rest) (omega arith) (terms_end ts rest e) in
      let two = terms_read ts n n rest (omega arith) (omega arith) e in
      ap (λ (l : List Symbol).
      next (front_term (front_expr n) n l)
      (λ t xs. next (front_terms (front_expr n) n n xs) (λ ts xs. got (expr true t ts) xs)))
      (append_assoc (spell_term t) (spell_terms ts) rest)
      ∙ ap (λ (o : Option (Got Term)).
      next o (λ t xs. next (front_terms (front_expr n) n n xs) (λ ts xs. got (expr true t ts) xs))) one
      ∙ ap (λ (o : Option (Got Terms)). next o (λ ts xs. got (expr true t ts) xs)) two
  expr_read (expr false t ts) (suc n) rest h e =
      let one = term_read t n (spell_terms ts ++ rest) (omega arith) (terms_end ts rest e) in
      let two = terms_read ts n n rest (omega arith) (omega arith) e in
      ap (λ (l : List Symbol).
      if begins is.minus l then front_all (front_expr n) n true (tail l) else front_all (front_expr n) n false l)
      (append_assoc (spell_term t) (spell_terms ts) rest)
      ∙ ap (λ (b : Bool). if b then front_all (front_expr n) n true
      (tail (spell_term t ++ (spell_terms ts ++ rest))) else front_all (front_expr n) n false
      (spell_term t ++ (spell_terms ts ++ rest))) (no_minus t (spell_terms ts ++ rest))
      ∙ ap (λ (o : Option (Got Term)).
      next o (λ t xs. next (front_terms (front_expr n) n n xs) (λ ts xs. got (expr false t ts) xs))) one
      ∙ ap (λ (o : Option (Got Terms)). next o (λ ts xs. got (expr false t ts) xs)) two
