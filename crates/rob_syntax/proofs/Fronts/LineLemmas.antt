-- What stands behind the keyword of a line: sides of a relation, sets, bounds and ranges, as the rest of a line.
use Rattle.std.proofs.Common.{◌≡◌, List, [], ◌∷◌, ◌++◌, length, Option, Some, None, refl, sym, ap, ◌∙◌, subst, arith}
use Rattle.rob_index.specs.Symbols.{Symbol, sign, word}
use Rattle.rob_index.specs.Symbols as is
use Rattle.rob_index.specs.Statements.{Bounds, between, Rel, Ref, Range, Sides, Tree}
use Rattle.rob_index.specs.Statements as stated
use Rattle.rob_index.specs.Grammar.{Expr, spell_ref, spell_ranges, spell_over, spell_bounds, spell_expr, tree_expr}
use Rattle.rob_index.specs.Lines.{spell_rel, spell_sides, trees_of}
use Rattle.rob_syntax.specs.Fronts.{BeginsNot, BeginsNone, Ends, EndsLine, EndsRef, EndsRanges, EndsOver, EndsBounds, EndsExpr, EndsSides, Found, IsMissing, Reads}
use Rattle.rob_syntax.specs.Parts.{spell_named, spell_bounded, spell_declared, spell_related, tree_related, spell_ending, tree_ending}
use Rattle.rob_syntax.proofs.Fronts.PartLemmas.{one, one_found, one_missing, both, both_found, first_missing, second_missing, found_as, missing_as, found_within, missing_within, shorter_behind}
use Rattle.rob_syntax.proofs.Fronts.IndexLemmas.{ends_index}

-- ---- the rest of a line
-- where nothing follows, each part ends
at_end : (EndsItem : List Symbol → Type 0) → EndsItem [] → (end : List Symbol) → EndsLine end → EndsItem end
at_end EndsItem empty end stop = subst EndsItem (sym stop) empty

module _ {A : Type 0} {spell : A → List Symbol} {EndsItem : List Symbol → Type 0} (empty : EndsItem []) where
  pub last_found : {symbols rest : List Symbol} {x : A} → Found spell EndsItem symbols rest x → rest ≡ []
      → Found spell EndsLine symbols [] x
  last_found {symbols} {rest} {x} found is =
      subst (λ (l : List Symbol). Found spell EndsLine symbols l x) is (found_within (at_end EndsItem empty) found)

  pub not_last : {symbols rest : List Symbol} {x : A} → Found spell EndsItem symbols rest x → (rest ≡ [] → ⊥)
      → IsMissing spell EndsLine symbols
  not_last {symbols} {rest} {x} found some = record {
    none = λ other end same stop. some (sym (found.only other end same (at_end EndsItem empty end stop)).1 ∙ stop);
  }

  pub last_missing : {symbols : List Symbol} → IsMissing spell EndsItem symbols → IsMissing spell EndsLine symbols
  last_missing missing = missing_within (at_end EndsItem empty) missing

pub empty_ref : EndsRef []
empty_ref rest same = cc

pub empty_ranges : EndsRanges []
empty_ranges = record { index = λ m rest same. cc; range = λ k rest same. cc; first = λ rest same. cc }

pub empty_over : EndsOver []
empty_over = record { ref = λ rest same. cc; over = λ rest same. cc }

pub empty_bounds : EndsBounds []
empty_bounds = record {
  number = λ rest same. cc;
  within = λ rest same. cc;
  at_least = λ rest same. cc;
  at_most = λ rest same. cc;
}

pub empty_sides : EndsSides []
empty_sides = record {
  expr = record {
    term = record { factor = record { number = λ rest same. cc; ref = λ rest same. cc }; star = λ rest same. cc };
    sign = λ m rest same. cc;
  };
  over = λ rest same. cc;
}

-- ---- what ranges at the end of a line are behind
ranges_end_ref : (rs : List Range) (end : List Symbol) → EndsLine end → EndsRef (spell_ranges rs ++ end)
ranges_end_ref [] end stop rest same = empty_ref rest (sym stop ∙ same)
ranges_end_ref (r ∷ rs) end stop rest same = cc

ranges_end_bounds : (rs : List Range) (end : List Symbol) → EndsLine end → EndsBounds (spell_ranges rs ++ end)
ranges_end_bounds [] end stop = subst EndsBounds (sym stop) empty_bounds
ranges_end_bounds (r ∷ rs) end stop = record {
  number = λ rest same. cc;
  within = λ rest same. cc;
  at_least = λ rest same. cc;
  at_most = λ rest same. cc;
}

pub ranges_end_sides : (rs : List Range) (end : List Symbol) → EndsLine end → EndsSides (spell_ranges rs ++ end)
ranges_end_sides [] end stop = subst EndsSides (sym stop) empty_sides
ranges_end_sides (r ∷ rs) end stop = record {
  expr = record {
    term = record { factor = record { number = λ rest same. cc; ref = λ rest same. cc }; star = λ rest same. cc };
    sign = ends_index (word is.for) _ (λ e. cc) (λ e. cc);
  };
  over = λ rest same. cc;
}

-- ---- a name with ranges
pub named_found : {symbols middle : List Symbol} {r : Ref} {rs : List Range} → Found spell_ref EndsRef symbols middle r
    → Found spell_ranges EndsLine middle [] rs → Found spell_named EndsLine symbols [] (r, rs)
named_found first second = both_found spell_ranges ranges_end_ref first second

pub no_named : {symbols : List Symbol} → IsMissing spell_ref EndsRef symbols → IsMissing spell_named EndsLine symbols
no_named missing = first_missing spell_ranges ranges_end_ref missing

pub no_named_ranges : {symbols middle : List Symbol} {r : Ref} → Found spell_ref EndsRef symbols middle r
    → IsMissing spell_ranges EndsLine middle → IsMissing spell_named EndsLine symbols
no_named_ranges first missing = second_missing spell_ranges ranges_end_ref first missing

-- ---- bounds with ranges
pub bounded_found : {symbols middle : List Symbol} {b : Option Bounds} {rs : List Range}
    → Found spell_bounds EndsBounds symbols middle b → Found spell_ranges EndsLine middle [] rs
    → Found spell_bounded EndsLine symbols [] (b, rs)
bounded_found first second = both_found spell_ranges ranges_end_bounds first second

pub no_bounded : {symbols : List Symbol} → IsMissing spell_bounds EndsBounds symbols
    → IsMissing spell_bounded EndsLine symbols
no_bounded missing = first_missing spell_ranges ranges_end_bounds missing

pub no_bounded_ranges : {symbols middle : List Symbol} {b : Option Bounds}
    → Found spell_bounds EndsBounds symbols middle b → IsMissing spell_ranges EndsLine middle
    → IsMissing spell_bounded EndsLine symbols
no_bounded_ranges first missing = second_missing spell_ranges ranges_end_bounds first missing

-- ---- a name with bounds and ranges
bounded_end_ref : (p : Option Bounds × List Range) (end : List Symbol) → EndsLine end → EndsRef (spell_bounded p ++ end)
bounded_end_ref (None, rs) end stop rest same = ranges_end_ref rs end stop rest same
bounded_end_ref (Some (between a b), rs) end stop rest same = cc
bounded_end_ref (Some (stated.at_least a), rs) end stop rest same = cc
bounded_end_ref (Some (stated.at_most b), rs) end stop rest same = cc

pub declared_found : {symbols middle : List Symbol} {r : Ref} {p : Option Bounds × List Range}
    → Found spell_ref EndsRef symbols middle r → Found spell_bounded EndsLine middle [] p
    → Found spell_declared EndsLine symbols [] (r, p)
declared_found first second = both_found spell_bounded bounded_end_ref first second

pub no_declared : {symbols : List Symbol} → IsMissing spell_ref EndsRef symbols
    → IsMissing spell_declared EndsLine symbols
no_declared missing = first_missing spell_bounded bounded_end_ref missing

pub no_declared_bounds : {symbols middle : List Symbol} {r : Ref} → Found spell_ref EndsRef symbols middle r
    → IsMissing spell_bounded EndsLine middle → IsMissing spell_declared EndsLine symbols
no_declared_bounds first missing = second_missing spell_bounded bounded_end_ref first missing

-- ---- an expression and the set that it is over
over_ends : (o : Option Ref) (end : List Symbol) → EndsSides end → EndsExpr (spell_over o ++ end)
over_ends None end stop = stop.expr
over_ends (Some r) end stop = record {
  term = record { factor = record { number = λ rest same. cc; ref = λ rest same. cc }; star = λ rest same. cc };
  sign = ends_index (word is.over) _ (λ e. cc) (λ e. cc);
}

over_within : (end : List Symbol) → EndsSides end → EndsOver end
over_within end stop = record { ref = stop.expr.term.factor.ref; over = stop.over }

module _ {symbols middle : List Symbol} {value : Tree}
    (first : Reads spell_expr EndsExpr tree_expr symbols middle value) where
  pub ending_read : {rest : List Symbol} {o : Option Ref} → Found spell_over EndsOver middle rest o
      → Reads spell_ending EndsSides tree_ending symbols rest (value, o)
  ending_read {rest} {o} second = record {
    item = (first.item, o);
    found = both_found spell_over over_ends first.found (found_within over_within second);
    value_is = ap (λ (t : Tree). (t, o)) first.value_is;
    shorter = let h = first.shorter in let k = shorter_behind second in omega arith;
  }

  pub no_ending_over : IsMissing spell_over EndsOver middle → IsMissing spell_ending EndsSides symbols
  no_ending_over missing = second_missing spell_over over_ends first.found (missing_within over_within missing)

pub no_ending : {symbols : List Symbol} → IsMissing spell_expr EndsExpr symbols
    → IsMissing spell_ending EndsSides symbols
no_ending missing = first_missing spell_over over_ends missing

-- ---- both sides of a relation
pub one_rel : (a b : Rel) → spell_rel a ≡ spell_rel b → a ≡ b
one_rel stated.at_most stated.at_most same = refl
one_rel stated.at_most stated.at_least same = cc
one_rel stated.at_most stated.equal same = cc
one_rel stated.at_least stated.at_most same = cc
one_rel stated.at_least stated.at_least same = refl
one_rel stated.at_least stated.equal same = cc
one_rel stated.equal stated.at_most same = cc
one_rel stated.equal stated.at_least same = cc
one_rel stated.equal stated.equal same = refl

pub no_rel : {symbols : List Symbol} → BeginsNot (sign is.at_most) symbols → BeginsNot (sign is.at_least) symbols
    → BeginsNot (sign is.equal) symbols → BeginsNone spell_rel symbols
no_rel most least equal stated.at_most rest same = most rest same
no_rel most least equal stated.at_least rest same = least rest same
no_rel most least equal stated.equal rest same = equal rest same

-- a relation and the right side
abbrev pub spell_right : Rel × (Expr × Option Ref) → List Symbol
spell_right = both (one spell_rel) spell_ending

rel_ends : (p : Rel × (Expr × Option Ref)) (end : List Symbol) → EndsSides end → EndsExpr (spell_right p ++ end)
rel_ends (stated.at_most, p) end stop = record {
  term = record { factor = record { number = λ rest same. cc; ref = λ rest same. cc }; star = λ rest same. cc };
  sign = ends_index (sign is.at_most) _ (λ e. cc) (λ e. cc);
}
rel_ends (stated.at_least, p) end stop = record {
  term = record { factor = record { number = λ rest same. cc; ref = λ rest same. cc }; star = λ rest same. cc };
  sign = ends_index (sign is.at_least) _ (λ e. cc) (λ e. cc);
}
rel_ends (stated.equal, p) end stop = record {
  term = record { factor = record { number = λ rest same. cc; ref = λ rest same. cc }; star = λ rest same. cc };
  sign = ends_index (sign is.equal) _ (λ e. cc) (λ e. cc);
}

abbrev sides_of : Expr × (Rel × (Expr × Option Ref)) → Sides Expr
sides_of p = record { left = p.0; rel = p.1.0; right = p.1.1.0; over = p.1.1.1 }

abbrev parts_of : Sides Expr → Expr × (Rel × (Expr × Option Ref))
parts_of s = (s.left, (s.rel, (s.right, s.over)))

no_sides_by : {symbols : List Symbol} → IsMissing (both spell_expr spell_right) EndsSides symbols
    → IsMissing spell_sides EndsSides symbols
no_sides_by missing = missing_as sides_of parts_of (λ s. refl) (λ s. refl) (λ p. refl) missing

pub no_sides : {symbols : List Symbol} → IsMissing spell_expr EndsExpr symbols → IsMissing spell_sides EndsSides symbols
no_sides missing = no_sides_by (first_missing spell_right rel_ends missing)

module _ {symbols middle : List Symbol} {value : Tree}
    (first : Reads spell_expr EndsExpr tree_expr symbols middle value) where
  pub no_relation : BeginsNone spell_rel middle → IsMissing spell_sides EndsSides symbols
  no_relation none =
      no_sides_by
      (second_missing spell_right rel_ends first.found
      (first_missing {EndsA = Ends} spell_ending (λ b end stop. tt) (one_missing {spell = spell_rel} none)))

  module _ {last : List Symbol} (rel : Rel) (sign_is : middle ≡ spell_rel rel ∷ last) where
    pub no_right : IsMissing spell_ending EndsSides last → IsMissing spell_sides EndsSides symbols
    no_right missing =
        no_sides_by
        (second_missing spell_right rel_ends first.found
        (second_missing {EndsA = Ends} spell_ending (λ b end stop. tt)
        (one_found {spell = spell_rel} rel one_rel sign_is)
        missing))

    pub sides_read : {rest : List Symbol} {right : Tree} {o : Option Ref}
        → Reads spell_ending EndsSides tree_ending last rest (right, o)
        → Reads spell_sides EndsSides trees_of symbols rest
        (record { left = value; rel = rel; right = right; over = o })
    sides_read {rest} {right} {o} second = record {
      item = record { left = first.item; rel = rel; right = second.item.0; over = second.item.1 };
      found =
          found_as sides_of parts_of (λ s. refl) (λ s. refl) (λ p. refl)
          (both_found spell_right rel_ends first.found
          (both_found {EndsA = Ends} spell_ending (λ b end stop. tt) (one_found {spell = spell_rel} rel one_rel sign_is)
          second.found));
      value_is =
          λ i. record {
            left = first.value_is i;
            rel = rel;
            right = (second.value_is i).0;
            over = (second.value_is i).1;
          };
      shorter = let h = first.shorter in let k = second.shorter in omega (arith, ap length sign_is);
    }

-- ---- a relation with ranges
pub no_related : {symbols : List Symbol} → IsMissing spell_sides EndsSides symbols
    → IsMissing spell_related EndsLine symbols
no_related missing = first_missing spell_ranges ranges_end_sides missing

module _ {symbols middle : List Symbol} {value : Sides Tree}
    (first : Reads spell_sides EndsSides trees_of symbols middle value) where
  pub no_related_ranges : IsMissing spell_ranges EndsLine middle → IsMissing spell_related EndsLine symbols
  no_related_ranges missing = second_missing spell_ranges ranges_end_sides first.found missing

  pub related_read : {rs : List Range} → Found spell_ranges EndsLine middle [] rs
      → Reads spell_related EndsLine tree_related symbols [] (value, rs)
  related_read {rs} second = record {
    item = (first.item, rs);
    found = both_found spell_ranges ranges_end_sides first.found second;
    value_is = ap (λ (s : Sides Tree). (s, rs)) first.value_is;
    shorter = let h = first.shorter in omega arith;
  }
