-- A canonical text that is read has no more tokens than a text may have: what is written of it is what its tokens are.
use Rattle.std.proofs.Common.{◌≡◌, ℕ, ◌+◌, false, List, [], ◌∷◌, ◌++◌, length, map, refl, subst, arith, length-append}
use Rattle.rob_meaning.proofs.Lists.EachLemmas.{each_append}
use Rattle.rob_meaning.specs.Places.{Each}
use Rattle.rob_meaning.specs.RobustModel.{RobustModel, SetLine, budget, line}
use Rattle.rob_parse.specs.Modelled.{ReadsModel}
use Rattle.rob_round_trip.proofs.Lengths.TokenPlaces.{AreFew, cost, line_cost, lines_few}
use Rattle.rob_round_trip.proofs.Pages.PageSymbols.{read_as}
use Rattle.rob_round_trip.specs.Pages.{IsWritable, ended, kind_of, page_text, symbols_on, words_on}
use Rattle.rob_split_text.specs.SplitTexts.{HasFewTokens}
use Rattle.rob_index.specs.Reading.{one}
use Rattle.rob_syntax.specs.Symbols.{symbol_at}
use Rattle.rob_syntax.specs.declared.symbol.Symbol.{Symbol}
use Rattle.rob_write.specs.Pages.{Written, bytes_of, digits, keyword, line_end, name, negative, sign}
use Rattle.rob_write.specs.WrittenModel.{written_model}
use Rattle.rob_write.specs.ExpressionWords.{Naming, naming_of}
use Rattle.rob_write.specs.StatementWords.{adaptive_words, declared_set_words, lines_over, over_words, parameter_words, row_words, set_words, variable_words}
use Rattle.rob_write.specs.Canonical.{lines_of, model_text}

-- ---- lines with a word
abbrev HasWord : List Written → Type 0
HasWord [] = ⊥
HasWord (w ∷ ws) = Unit {0}

word_there : (ws vs : List Written) → HasWord ws → HasWord (ws ++ vs)
word_there [] vs h = absurd h
word_there (w ∷ ws) vs h = tt

mapped_words : {A : Type 0} (write : A → List Written) → ((x : A) → HasWord (write x)) → (xs : List A)
    → Each HasWord (map write xs)
mapped_words write h [] = tt
mapped_words write h (x ∷ xs) = (h x, mapped_words write h xs)

placed_words : {A : Type 0} (write : A → List Written) → ((x : A) → HasWord (write x))
    → (sets : List (List ℕ)) (xs : List A) (Ss : List ℕ)
    → Each HasWord (lines_over write sets xs Ss)
placed_words write h sets [] Ss = tt
placed_words write h sets (x ∷ xs) [] =
    (word_there (write x) (over_words sets 0) (h x), placed_words write h sets xs [])
placed_words write h sets (x ∷ xs) (S ∷ Ss) =
    (word_there (write x) (over_words sets S) (h x), placed_words write h sets xs Ss)

set_has_word : (names : Naming) (c : SetLine) → HasWord (set_words names c)
set_has_word names (line l relation r) = tt
set_has_word names (budget limit hs) = tt

-- each canonical line has one
module _ (m : RobustModel) where
  all_words : Each HasWord (lines_of m)
  all_words =
      each_append HasWord (map parameter_words (written_model m).parameters) _
      (mapped_words parameter_words (λ p. tt) (written_model m).parameters)
      (each_append HasWord (map declared_set_words m.sets) _ (mapped_words declared_set_words (λ n. tt) m.sets)
      (each_append HasWord (lines_over (set_words (naming_of m)) m.sets (written_model m).set_lines m.line_sets) _
      (placed_words (set_words (naming_of m)) (set_has_word (naming_of m)) m.sets
      (written_model m).set_lines m.line_sets)
      (each_append HasWord (map variable_words m.variables) _ (mapped_words variable_words (λ x. tt) m.variables)
      (each_append HasWord (map (adaptive_words (naming_of m)) m.adaptives) _
      (mapped_words (adaptive_words (naming_of m)) (λ y. tt) m.adaptives) (
        tt,
        placed_words (row_words (naming_of m)) (λ r. tt) m.sets (written_model m).rows m.row_sets,
      )))))

-- ---- what such lines cost
module _ (words : List (List ℕ)) where
  one_symbol : (w : Written) → IsWritable w → length (symbol_at one words (kind_of w) (bytes_of w)) ≡ 1
  one_symbol (name bytes) f = refl
  one_symbol (digits n) f = refl
  one_symbol (keyword k) f = refl
  one_symbol (sign m) f = refl
  one_symbol negative f = refl
  one_symbol line_end f = absurd f

  length-symbols : (ws : List Written) → Each IsWritable ws → length (symbols_on words ws) ≡ length ws
  length-symbols [] f = refl
  length-symbols (w ∷ ws) f =
      omega (
        arith,
        length-append (symbol_at one words (kind_of w) (bytes_of w)) (symbols_on words ws),
        one_symbol w f.0,
        length-symbols ws f.1,
      )

  line_costs : (ws : List Written) → HasWord ws → Each IsWritable ws
      → line_cost false (symbols_on words ws) ≡ length ws + 1
  line_costs [] h f = absurd h
  line_costs (w ∷ ws) h f = by (symbols_on words (w ∷ ws)) (length-symbols (w ∷ ws) f)
    where
      by : (xs : List Symbol) → length xs ≡ length (w ∷ ws) → line_cost false xs ≡ length (w ∷ ws) + 1
      by [] e = absurd (omega (arith, e))
      by (x ∷ xs) e = omega (arith, e)

  lines_cost : (ls : List (List Written)) → Each HasWord ls → Each (Each IsWritable) ls
      → cost (map (symbols_on words) ls ++ [] ∷ []) ≡ length (ended ls)
  lines_cost [] h f = refl
  lines_cost (l ∷ ls) h f =
      omega (arith, line_costs l h.0 f.0, lines_cost ls h.1 f.1, length-append l (line_end ∷ ended ls))

-- the canonical text of a model whose lines may be written is read only where it has no more tokens than that
pub few_where_read : (limit : ℕ) (m other : RobustModel) → Each (Each IsWritable) (lines_of m)
    → ReadsModel limit (model_text m) other → HasFewTokens m
few_where_read limit m other f read =
    let ls = lines_of m in
    let words = words_on ls in
    let costs : AreFew (map (symbols_on words) ls ++ [] ∷ []) =
    subst AreFew (read_as ls f read.reads.tokens read.reads.are_tokens).1
    (lines_few words (page_text ls) read.reads.tokens read.reads.are_tokens) in
    omega (arith, costs.few, lines_cost words ls (all_words m) f)
