-- Expressions: a term, or a sum of terms with their signs.
use Rattle.std.proofs.Common.{◌≡◌, ◌⊎◌, inl, inr, Bool, true, false, List, [], ◌∷◌, ◌++◌, refl, sym, ap, ◌∙◌, subst, arith}
use Rattle.rob_index.specs.Symbols.{Symbol, sign}
use Rattle.rob_index.specs.Symbols as is
use Rattle.rob_index.specs.Statements.{Tree, TreeParts}
use Rattle.rob_index.specs.Statements as stated
use Rattle.rob_index.specs.Grammar.{number, ref, parens, sum, Term, term, Terms, no_terms, signed, Expr, expr, sign_of, spell_minus, spell_term, spell_terms, spell_expr, tree_term, tree_terms, tree_expr}
use Rattle.rob_syntax.specs.Fronts.{BeginsNot, BeginsNone, EndsTerm, EndsExpr, Found, IsMissing, Reads, ReadsMore}
use Rattle.rob_syntax.specs.Parts.{term_parts}
use Rattle.rob_syntax.specs.Seen.{SeenPart, parts_of}
use Rattle.rob_syntax.proofs.Fronts.PartLemmas.{both, both_found, first_missing, second_missing, found_as, missing_as, shorter_behind}
use Rattle.rob_syntax.proofs.Fronts.ChainLemmas.{Chain}
use Rattle.rob_syntax.proofs.Fronts.IndexLemmas.{one_sign}
use Rattle.rob_syntax.proofs.Fronts.TreeLemmas.{parts_are}

-- ---- terms behind their signs
-- the sign and the term behind it
abbrev pub spell_next : Bool × Term → List Symbol
spell_next p = sign_of p.0 ∷ spell_term p.1

pub term_cases : (s : Terms)
    → (s ≡ no_terms) ⊎ ((x : Bool × Term) × (xs : Terms) × (s ≡ signed x.0 x.1 xs))
term_cases no_terms = inl refl
term_cases (signed m t ts) = inr ((m, t), ts, refl)

-- terms and what is behind them don't go on a term
pub terms_end : (ts : Terms) (end : List Symbol) → EndsExpr end → EndsTerm (spell_terms ts ++ end)
terms_end no_terms end stop = stop.term
terms_end (signed true t ts) end stop = record {
  factor = record { number = λ rest same. cc; ref = λ rest same. cc };
  star = λ rest same. cc;
}
terms_end (signed false t ts) end stop = record {
  factor = record { number = λ rest same. cc; ref = λ rest same. cc };
  star = λ rest same. cc;
}

abbrev pub term_chain : Chain spell_next EndsTerm spell_terms EndsExpr
term_chain = record {
  none = no_terms;
  cons = λ x xs. signed x.0 x.1 xs;
  spell_none = refl;
  spell_cons = λ x xs. refl;
  cases = term_cases;
  behind = terms_end;
}

pub sign_stuck : {rest behind : List Symbol} (minus : Bool) → rest ≡ sign_of minus ∷ behind → EndsExpr rest → ⊥
sign_stuck {rest} {behind} minus first stop = stop.sign minus behind first

pub no_next : {rest : List Symbol} → BeginsNone sign_of rest → (x : Bool × Term) (end : List Symbol)
    → rest ≡ spell_next x ++ end → ⊥
no_next none x end same = none x.0 _ same

pub next_found : {rest behind after : List Symbol} (minus : Bool) {t : Term} → rest ≡ sign_of minus ∷ behind
    → Found spell_term EndsTerm behind after t → Found spell_next EndsTerm rest after (minus, t)
next_found {rest} {behind} {after} minus {t} first found = record {
  spelled = first ∙ ap (λ (l : List Symbol). sign_of minus ∷ l) found.spelled;
  only = only;
}
  where
    only : (other : Bool × Term) (end : List Symbol) → rest ≡ spell_next other ++ end → EndsTerm end
        → (other ≡ (minus, t)) × (end ≡ after)
    only other end same stop =
        let e : sign_of minus ∷ behind ≡ sign_of other.0 ∷ (spell_term other.1 ++ end) = sym first ∙ same in
        let s : sign_of other.0 ≡ sign_of minus = cc in
        let b : behind ≡ spell_term other.1 ++ end = cc in
        let x = found.only other.1 end b stop in
        let m = one_sign other.0 minus s in
        ((λ i. (m i, x.0 i)), x.1)

pub next_missing : {rest behind : List Symbol} (minus : Bool) → rest ≡ sign_of minus ∷ behind
    → IsMissing spell_term EndsTerm behind → IsMissing spell_next EndsTerm rest
next_missing {rest} {behind} minus first missing = record { none = none }
  where
    none : (other : Bool × Term) (end : List Symbol) → rest ≡ spell_next other ++ end → EndsTerm end → ⊥
    none other end same stop =
        let e : sign_of minus ∷ behind ≡ sign_of other.0 ∷ (spell_term other.1 ++ end) = sym first ∙ same in
        let b : behind ≡ spell_term other.1 ++ end = cc in
        missing.none other.1 end b stop

-- a term with its sign in front of others
pub part_in_front : {symbols rest : List Symbol} {value : Tree} (minus : Bool) {part : SeenPart}
    → part ≡ record { minus = minus; inner = value }
    → (read : Reads spell_term EndsTerm tree_term symbols rest value) (ts : Terms)
    → term_parts (signed minus read.item ts) ≡ part ∷ term_parts ts
part_in_front minus is read ts =
    ap (λ (p : SeenPart). p ∷ term_parts ts)
    (ap (λ (v : Tree). record { minus = minus; inner = v }) read.value_is ∙ sym is)

-- ---- an expression
-- a `-` doesn't follow
abbrev EndsMinus : List Symbol → Type 0
EndsMinus rest = BeginsNot (sign is.minus) rest

-- what stands behind the sign in front
abbrev spell_rest : Term × Terms → List Symbol
spell_rest = both spell_term spell_terms

abbrev expr_of : Bool × (Term × Terms) → Expr
expr_of p = expr p.0 p.1.0 p.1.1

abbrev parts_in : Expr → Bool × (Term × Terms)
parts_in (expr m t ts) = (m, (t, ts))

expr_back : (x : Expr) → expr_of (parts_in x) ≡ x
expr_back (expr m t ts) = refl

expr_spelled : (x : Expr) → spell_expr x ≡ both spell_minus spell_rest (parts_in x)
expr_spelled (expr m t ts) = refl

-- no term begins with a `-`
no_minus : (p : Term × Terms) (end : List Symbol) → EndsExpr end → EndsMinus (spell_rest p ++ end)
no_minus (term (number n) fs, ts) end stop rest same = cc
no_minus (term (ref r) fs, ts) end stop rest same = cc
no_minus (term (parens x) fs, ts) end stop rest same = cc
no_minus (term (sum r x) fs, ts) end stop rest same = cc

none_behind : {rest : List Symbol} → BeginsNone sign_of rest → Found spell_terms EndsExpr rest rest no_terms
none_behind {rest} none = record { spelled = refl; only = only }
  where
    only : (other : Terms) (end : List Symbol) → rest ≡ spell_terms other ++ end → EndsExpr end
        → (other ≡ no_terms) × (end ≡ rest)
    only no_terms end same stop = (refl, sym same)
    only (signed m t ts) end same stop = absurd (none m _ same)

module _ {symbols front : List Symbol} {minus : Bool} (sign : Found spell_minus EndsMinus symbols front minus) where
  no_rest : IsMissing spell_rest EndsExpr front → IsMissing spell_expr EndsExpr symbols
  no_rest missing =
      missing_as expr_of parts_in expr_spelled expr_back (λ p. refl) (second_missing spell_rest no_minus sign missing)

  pub no_first_term : IsMissing spell_term EndsTerm front → IsMissing spell_expr EndsExpr symbols
  no_first_term missing = no_rest (first_missing spell_terms terms_end missing)

  module _ {middle : List Symbol} {value : Tree} (first : Reads spell_term EndsTerm tree_term front middle value) where
    pub no_terms_behind : IsMissing spell_terms EndsExpr middle → IsMissing spell_expr EndsExpr symbols
    no_terms_behind missing = no_rest (second_missing spell_terms terms_end first.found missing)

    pub expr_of_one : minus ≡ false → BeginsNone sign_of middle
        → Reads spell_expr EndsExpr tree_expr symbols middle value
    expr_of_one plain none = record {
      item = expr minus first.item no_terms;
      found =
          found_as expr_of parts_in expr_spelled expr_back (λ p. refl)
          (both_found spell_rest no_minus sign (both_found spell_terms terms_end first.found (none_behind none)));
      value_is = ap (λ (m : Bool). tree_expr (expr m first.item no_terms)) plain ∙ first.value_is;
      shorter = let h = first.shorter in let k = shorter_behind sign in omega arith;
    }

    pub expr_of_sum : {rest : List Symbol} {new : List SeenPart} → (minus ≡ false → BeginsNone sign_of middle → ⊥)
        → ReadsMore spell_terms EndsExpr term_parts middle rest (record { minus = minus; inner = value } ∷ []) new
        → BeginsNone sign_of rest → Reads spell_expr EndsExpr tree_expr symbols rest (stated.sum (parts_of new))
    expr_of_sum {rest} {new} some more none = record {
      item = expr minus first.item more.items;
      found =
          found_as expr_of parts_in expr_spelled expr_back (λ p. refl)
          (both_found spell_rest no_minus sign (both_found spell_terms terms_end first.found more.found));
      value_is = tree minus more.items some more.found.spelled more.appended;
      shorter = let h = first.shorter in let k = shorter_behind sign in let j = more.shorter in omega arith;
    }
      where
        all : (m : Bool) (items : Terms) → new ≡ (record { minus = m; inner = value } ∷ []) ++ term_parts items
            → ◌≡◌ {A = Tree} (stated.sum (stated.part m (tree_term first.item) (tree_terms items)))
            (stated.sum (parts_of new))
        all m items appended =
            let made : List SeenPart → Tree = λ l. stated.sum (parts_of l) in
            let whole : TreeParts → Tree = λ l. stated.sum l in
            (λ i. whole (stated.part m (first.value_is i) (sym (parts_are items) i))) ∙ ap made (sym appended)

        tree : (m : Bool) (items : Terms) → (m ≡ false → BeginsNone sign_of middle → ⊥)
            → middle ≡ spell_terms items ++ rest
            → new ≡ (record { minus = m; inner = value } ∷ []) ++ term_parts items
            → tree_expr (expr m first.item items) ≡ stated.sum (parts_of new)
        tree false no_terms some spelled appended =
            absurd (some refl (subst (BeginsNone sign_of) (sym spelled) none))
        tree true no_terms some spelled appended = all true no_terms appended
        tree true (signed n u us) some spelled appended = all true (signed n u us) appended
        tree false (signed n u us) some spelled appended = all false (signed n u us) appended
