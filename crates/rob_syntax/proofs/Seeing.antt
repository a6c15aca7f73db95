-- What is seen of symbols tells which they are.
use Rattle.std.proofs.Common.{◌≡◌, ℕ, true, false, eqb, arith, List, [], ◌∷◌, length, map, refl, sym, ap, ◌∙◌}
use Rattle.std.proofs.lemmas.Bool.{eqb-true}
use Rattle.rob_index.specs.Symbols as is
use Rattle.rob_syntax.specs.declared.symbol.Mark.{Mark}
use Rattle.rob_syntax.specs.declared.symbol.Keyword.{Keyword}
use Rattle.rob_syntax.specs.declared.symbol.Symbol.{Symbol}
use Rattle.rob_syntax.specs.declared.symbol.Symbol.TheVariants.{Name, Digits, Sign, Reserved}
use Rattle.rob_syntax.specs.Fronts.{BeginsNot, BeginsNone}
use Rattle.rob_syntax.specs.SeenSymbols.{seen_mark, seen_keyword, seen_symbol, seen_line}
use Rattle.rob_syntax.proofs.SeenLemmas.{own_symbol, own-seen_mark, own-seen_keyword, own-seen_symbol}

line_back : (symbols : List Symbol) → map own_symbol (map seen_symbol symbols) ≡ symbols
line_back [] = refl
line_back (s ∷ ss) = let e = own-seen_symbol s in let f = line_back ss in (λ i. e i ∷ f i)

pub not_mark : (symbols : List Symbol) (m : Mark) → ((rest : List Symbol) → symbols ≡ Sign m ∷ rest → ⊥)
    → BeginsNot (is.sign (seen_mark m)) (seen_line symbols)
not_mark symbols m none rest same =
    none (map own_symbol rest)
    (sym (line_back symbols) ∙ ap (map own_symbol) same
    ∙ ap (λ (k : Mark). Sign k ∷ map own_symbol rest) (own-seen_mark m))

pub not_keyword : (symbols : List Symbol) (w : Keyword) → ((rest : List Symbol) → symbols ≡ Reserved w ∷ rest → ⊥)
    → BeginsNot (is.word (seen_keyword w)) (seen_line symbols)
not_keyword symbols w none rest same =
    none (map own_symbol rest)
    (sym (line_back symbols) ∙ ap (map own_symbol) same
    ∙ ap (λ (k : Keyword). Reserved k ∷ map own_symbol rest) (own-seen_keyword w))

pub no_digits : (symbols : List Symbol) → ((n : ℕ) (rest : List Symbol) → symbols ≡ Digits n ∷ rest → ⊥)
    → BeginsNone is.digits (seen_line symbols)
no_digits symbols none n rest same =
    none n (map own_symbol rest) (sym (line_back symbols) ∙ ap (map own_symbol) same)

pub no_name : (symbols : List Symbol) → ((k : ℕ) (rest : List Symbol) → symbols ≡ Name k ∷ rest → ⊥)
    → BeginsNone is.name (seen_line symbols)
no_name symbols none k rest same =
    none k (map own_symbol rest) (sym (line_back symbols) ∙ ap (map own_symbol) same)

-- nothing is seen where nothing stands
pub seen_empty : (symbols : List Symbol) → true ≡ eqb (length symbols) 0 → seen_line symbols ≡ []
seen_empty [] test = refl
seen_empty (s ∷ ss) test = let e = eqb-true (length (s ∷ ss)) 0 (sym test) in absurd (omega (arith, e))

pub seen_some : (symbols : List Symbol) → false ≡ eqb (length symbols) 0 → seen_line symbols ≡ [] → ⊥
seen_some [] test same = cc
seen_some (s ∷ ss) test same = cc
