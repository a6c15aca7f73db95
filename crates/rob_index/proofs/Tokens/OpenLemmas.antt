-- An expression as it is written opens as many parentheses at once as its tokens do, read from the left.
use Rattle.std.proofs.Common.{◌≡◌, ℕ, ◌+◌, ◌-◌, ◌≤◌, max, Bool, true, false, List, [], ◌∷◌, ◌++◌, map, refl, ap, ◌∙◌, arith, append_assoc}
use Rattle.std.specs.Prelude.{Option, Some, None}
use Rattle.rob_index.specs.Symbols.{Symbol, name, digits, sign, word}
use Rattle.rob_index.specs.Symbols as is
use Rattle.rob_index.specs.Statements.{Numeral, Index, Step, Atom, Ref, Range}
use Rattle.rob_index.specs.Statements as stated
use Rattle.rob_index.specs.Grammar.{Factor, Factors, Term, Terms, Expr, number, ref, parens, sum, no_factors, times, term, no_terms, signed, expr, sign_of, spell_atom, spell_steps, spell_index, spell_more, spell_ref, spell_range, spell_number, spell_minus, spell_factor, spell_factors, spell_term, spell_terms, spell_expr}
use Rattle.rob_index.specs.Depths.{bare, deepest, weight, factor_open, factors_open, term_open, terms_open, expr_open}

-- what is open and no less is the most
no_less : (d : ℕ) (st : List ℕ) (b : Bool) (xs : List Symbol) → d ≤ deepest d st b xs
no_less d st b [] = omega arith
no_less d st b (name k ∷ xs) = no_less d st false xs
no_less d st b (digits k ∷ xs) = no_less d st false xs
no_less d st b (word is.sum ∷ xs) = no_less d st true xs
no_less d st b (word w ∷ xs) = no_less d st false xs
no_less d st true (sign is.opening ∷ xs) = let h = no_less (d + 2) (2 ∷ st) false xs in omega (arith, h)
no_less d st false (sign is.opening ∷ xs) = let h = no_less (d + 1) (1 ∷ st) false xs in omega (arith, h)
no_less d [] b (sign is.closing ∷ xs) = omega arith
no_less d (w ∷ st) b (sign is.closing ∷ xs) = omega arith
no_less d st b (sign m ∷ xs) = no_less d st false xs

-- nothing but `sum` and parentheses is looked at
pub deepest-bare : (d : ℕ) (st : List ℕ) (b : Bool) (xs : List Symbol)
    → deepest d st b (map bare xs) ≡ deepest d st b xs
deepest-bare d st b [] = refl
deepest-bare d st b (name k ∷ xs) = deepest-bare d st false xs
deepest-bare d st b (digits k ∷ xs) = deepest-bare d st false xs
deepest-bare d st b (word is.sum ∷ xs) = deepest-bare d st true xs
deepest-bare d st b (word w ∷ xs) = deepest-bare d st false xs
deepest-bare d st b (sign is.opening ∷ xs) = deepest-bare (d + weight b) (weight b ∷ st) false xs
deepest-bare d [] b (sign is.closing ∷ xs) = ap (max d) (deepest-bare d [] false xs)
deepest-bare d (w ∷ st) b (sign is.closing ∷ xs) = ap (max d) (deepest-bare (d - w) st false xs)
deepest-bare d st b (sign m ∷ xs) = deepest-bare d st false xs

-- symbols that open nothing and end in no `sum`
module _ (d : ℕ) (st : List ℕ) where
  pub past_number : (n : Numeral) (rest : List Symbol)
      → deepest d st false (spell_number n ++ rest) ≡ deepest d st false rest
  past_number n rest = go n.divisor
    where
      go : (o : Option ℕ) → deepest d st false
          (spell_number (record { numerator = n.numerator; divisor = o }) ++ rest) ≡ deepest d st false rest
      go None = refl
      go (Some k) = refl

  past_atom : (b : Bool) (a : Atom) (rest : List Symbol)
      → deepest d st b (spell_atom a ∷ rest) ≡ deepest d st false rest
  past_atom b (stated.digits n) rest = refl
  past_atom b (stated.bound k) rest = refl

  pub past_sign : (b m : Bool) (rest : List Symbol) → deepest d st b (sign_of m ∷ rest) ≡ deepest d st false rest
  past_sign b true rest = refl
  past_sign b false rest = refl

  past_steps : (ss : List Step) (rest : List Symbol)
      → deepest d st false (spell_steps ss ++ rest) ≡ deepest d st false rest
  past_steps [] rest = refl
  past_steps (s ∷ ss) rest =
      past_sign false s.minus (spell_atom s.atom ∷ (spell_steps ss ++ rest))
      ∙ past_atom false s.atom (spell_steps ss ++ rest) ∙ past_steps ss rest

  past_index : (x : Index) (rest : List Symbol) → deepest d st false (spell_index x ++ rest) ≡ deepest d st false rest
  past_index x rest = past_atom false x.first (spell_steps x.more ++ rest) ∙ past_steps x.more rest

  past_more : (xs : List Index) (rest : List Symbol)
      → deepest d st false (spell_more spell_index xs ++ rest) ≡ deepest d st false rest
  past_more [] rest = refl
  past_more (x ∷ xs) rest =
      ap (deepest d st false) (append_assoc (spell_index x) (spell_more spell_index xs) rest)
      ∙ past_index x (spell_more spell_index xs ++ rest) ∙ past_more xs rest

  pub past_ref : (r : Ref) (rest : List Symbol) → deepest d st false (spell_ref r ++ rest) ≡ deepest d st false rest
  past_ref r rest = go r.indices
    where
      go : (xs : List Index) → deepest d st false (spell_ref (record { name = r.name; indices = xs }) ++ rest)
          ≡ deepest d st false rest
      go [] = refl
      go (x ∷ xs) =
          ap (deepest d st false) (append_assoc (spell_index x ++ spell_more spell_index xs)
          (sign is.close_bracket ∷ []) rest
          ∙ append_assoc (spell_index x) (spell_more spell_index xs) (sign is.close_bracket ∷ rest))
          ∙ past_index x (spell_more spell_index xs ++ sign is.close_bracket ∷ rest)
          ∙ past_more xs (sign is.close_bracket ∷ rest)

  pub past_range : (r : Range) (rest : List Symbol)
      → deepest d st false (spell_range r ++ rest) ≡ deepest d st false rest
  past_range r rest =
      ap (deepest d st false) (append_assoc (spell_index r.from) (word is.to ∷ spell_index r.upto) rest)
      ∙ past_index r.from (word is.to ∷ (spell_index r.upto ++ rest))
      ∙ past_index r.upto rest

  pub past_minus : (m : Bool) (rest : List Symbol)
      → deepest d st false (spell_minus m ++ rest) ≡ deepest d st false rest
  past_minus true rest = refl
  past_minus false rest = refl

-- ---- the most that is open in an expression and behind it
mutual
  factor_deepest : (f : Factor) (d : ℕ) (st : List ℕ) (rest : List Symbol)
      → deepest d st false (spell_factor f ++ rest) ≡ max (d + factor_open f) (deepest d st false rest)
  factor_deepest (number n) d st rest =
      let h = past_number d st n rest in let k = no_less d st false rest in omega (arith, h, k)
  factor_deepest (ref r) d st rest =
      let h = past_ref d st r rest in let k = no_less d st false rest in omega (arith, h, k)
  factor_deepest (parens e) d st rest =
      let a = ap (deepest (d + 1) (1 ∷ st) false) (append_assoc (spell_expr e) (sign is.closing ∷ []) rest) in
      let h = expr_deepest e (d + 1) (1 ∷ st) (sign is.closing ∷ rest) in
      let e' : (d + 1) - 1 ≡ d = omega arith in
      let k = ap (λ (n : ℕ). deepest n st false rest) e' in
      let l = no_less d st false rest in
      omega (arith, a, h, k, l)
  factor_deepest (sum r e) d st rest =
      let inner : List Symbol = spell_expr e ++ sign is.closing ∷ rest in
      let a = ap (deepest (d + 2) (2 ∷ st) false)
      (append_assoc (spell_range r) (sign is.colon ∷ (spell_expr e ++ sign is.closing ∷ [])) rest
      ∙ ap (λ (l : List Symbol). spell_range r ++ (sign is.colon ∷ l))
      (append_assoc (spell_expr e) (sign is.closing ∷ []) rest)) in
      let p = past_range (d + 2) (2 ∷ st) r (sign is.colon ∷ (spell_expr e ++ sign is.closing ∷ rest)) in
      let h = expr_deepest e (d + 2) (2 ∷ st) (sign is.closing ∷ rest) in
      let e' : (d + 2) - 2 ≡ d = omega arith in
      let k = ap (λ (n : ℕ). deepest n st false rest) e' in
      let l = no_less d st false rest in
      omega (arith, a, p, h, k, l)

  factors_deepest : (fs : Factors) (d : ℕ) (st : List ℕ) (rest : List Symbol)
      → deepest d st false (spell_factors fs ++ rest) ≡ max (d + factors_open fs) (deepest d st false rest)
  factors_deepest no_factors d st rest = let k = no_less d st false rest in omega (arith, k)
  factors_deepest (times f fs) d st rest =
      let a = ap (deepest d st false) (append_assoc (spell_factor f) (spell_factors fs) rest) in
      let h = factor_deepest f d st (spell_factors fs ++ rest) in
      let k = factors_deepest fs d st rest in
      omega (arith, a, h, k)

  term_deepest : (t : Term) (d : ℕ) (st : List ℕ) (rest : List Symbol)
      → deepest d st false (spell_term t ++ rest) ≡ max (d + term_open t) (deepest d st false rest)
  term_deepest (term f fs) d st rest =
      let a = ap (deepest d st false) (append_assoc (spell_factor f) (spell_factors fs) rest) in
      let h = factor_deepest f d st (spell_factors fs ++ rest) in
      let k = factors_deepest fs d st rest in
      omega (arith, a, h, k)

  terms_deepest : (ts : Terms) (d : ℕ) (st : List ℕ) (rest : List Symbol)
      → deepest d st false (spell_terms ts ++ rest) ≡ max (d + terms_open ts) (deepest d st false rest)
  terms_deepest no_terms d st rest = let k = no_less d st false rest in omega (arith, k)
  terms_deepest (signed m t ts) d st rest =
      let s = past_sign d st false m ((spell_term t ++ spell_terms ts) ++ rest) in
      let a = ap (deepest d st false) (append_assoc (spell_term t) (spell_terms ts) rest) in
      let h = term_deepest t d st (spell_terms ts ++ rest) in
      let k = terms_deepest ts d st rest in
      omega (arith, s, a, h, k)

  pub expr_deepest : (e : Expr) (d : ℕ) (st : List ℕ) (rest : List Symbol)
      → deepest d st false (spell_expr e ++ rest) ≡ max (d + expr_open e) (deepest d st false rest)
  expr_deepest (expr m t ts) d st rest =
      let b = ap (deepest d st false) (append_assoc (spell_minus m) (spell_term t ++ spell_terms ts) rest) in
      let s = past_minus d st m ((spell_term t ++ spell_terms ts) ++ rest) in
      let a = ap (deepest d st false) (append_assoc (spell_term t) (spell_terms ts) rest) in
      let h = term_deepest t d st (spell_terms ts ++ rest) in
      let k = terms_deepest ts d st rest in
      omega (arith, b, s, a, h, k)
