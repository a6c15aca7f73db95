-- The names of a model are found among the words of its canonical lines.
use Rattle.std.proofs.Common.{◌≡◌, ℕ, ◌≤◌, Bool, true, false, List, [], ◌∷◌, ◌++◌, length, map, refl, sym, ap, ◌∙◌, subst, arith, append-nil}
use Rattle.std.specs.Prelude.{nat_le, if◌then◌else◌}
use Rattle.std.specs.List.{flat_map}
use Rattle.std.proofs.lemmas.Bool.Decides.{nat_tests}
use Rattle.rob_meaning.specs.Named.{declared_names}
use Rattle.rob_meaning.specs.Places.{Each}
use Rattle.rob_meaning.specs.RobustModel as model
use Rattle.rob_meaning.specs.RobustModel.{RobustModel, written_count}
use Rattle.rob_meaning.proofs.Lists.EachLemmas.{each_both}
use Rattle.rob_syntax.specs.declared.symbol.Mark.TheVariants as mark
use Rattle.rob_syntax.specs.declared.symbol.Keyword.TheVariants as word
use Rattle.rob_syntax.specs.declared.symbol.Keyword.{Keyword}
use Rattle.rob_syntax.specs.declared.symbol.Symbol.{Symbol}
use Rattle.rob_syntax.specs.declared.symbol.Symbol.TheVariants.{Name, Reserved}
use Rattle.rob_write.specs.Pages.{Written, name, digits, keyword, sign, negative, line_end, bytes_of}
use Rattle.rob_write.specs.WrittenModel.{row_written, written_model}
use Rattle.rob_write.specs.ExpressionWords.{naming_of, name_at, listed}
use Rattle.rob_write.specs.StatementWords.{beside, over_words, placed_words, bound_words, comparison_words, set_words, row_words, goal_words}
use Rattle.rob_write.specs.Canonical.{lines_of}
use Rattle.rob_round_trip.specs.Pages.{ended, kind_of, words_on}
use Rattle.rob_syntax.specs.Names.{IsSpelled}
use Rattle.rob_round_trip.specs.Readable.{IsDeclarable, AreDeclarable}
use Rattle.rob_index.specs.Reading.{one}
use Rattle.rob_syntax.specs.Symbols.{longest_name, number_of, word_symbol, word_at}
use Rattle.rob_parse.proofs.Names.WordSetLemmas.{In, words_in, number_found}
use Rattle.rob_round_trip.proofs.Written.WritableLines.{of_parameters, of_sets, of_rows, of_variables, of_adaptives}

abbrev words_in_line : List Written → List (List ℕ)
words_in_line ws = flat_map (λ w. word_at (kind_of w) (bytes_of w)) ws

module _ (P : List ℕ → Type 0) where
  skip : (l ws : List Written) → Each P (words_in_line (l ++ ws)) → Each P (words_in_line ws)
  skip [] ws h = h
  skip (name bytes ∷ l) ws h = skip l ws h.1
  skip (digits n ∷ l) ws h = skip l ws h
  skip (keyword k ∷ l) ws h = skip l ws h.1
  skip (sign s ∷ l) ws h = skip l ws h
  skip (negative ∷ l) ws h = skip l ws h
  skip (line_end ∷ l) ws h = skip l ws h

  -- lines that begin with a keyword and a name hold that name
  heads : {A : Type 0} (k : Keyword) (named : A → List ℕ) (more : A → List Written) (zs : List A)
      (ls : List (List Written))
      → Each P (words_in_line (ended (map (λ z. keyword k ∷ name (named z) ∷ more z) zs ++ ls)))
      → Each (λ z. P (named z)) zs × Each P (words_in_line (ended ls))
  heads k named more [] ls h = (tt, h)
  heads k named more (z ∷ zs) ls h =
      let behind = ended (map (λ z. keyword k ∷ name (named z) ∷ more z) zs ++ ls) in
      let r = heads k named more zs ls (skip (more z) (line_end ∷ behind) h.1.1) in
      ((h.1.0, r.0), r.1)

  others : {A : Type 0} (write : A → List Written) (zs : List A) (ls : List (List Written))
      → Each P (words_in_line (ended (map write zs ++ ls))) → Each P (words_in_line (ended ls))
  others write [] ls h = h
  others write (z ∷ zs) ls h = others write zs ls (skip (write z) (line_end ∷ ended (map write zs ++ ls)) h)

pub name_read : (words : List (List ℕ)) (n : List ℕ) → IsSpelled n → In words n → IsDeclarable words n
name_read words n spelled inside = record {
  is_name = ap (λ (s : Symbol). s ∷ [])
      (ap (word_symbol one words n) spelled.no_keyword ∙ short (nat_le (length n) longest_name) refl);
  word_is = (number_found words n inside).1;
}
  where
    short : (b : Bool) → nat_le (length n) longest_name ≡ b
        → (if b then Name (number_of words n) else Reserved word.Unused) ≡ Name (number_of words n)
    short true is = refl
    short false is = absurd (too_long (length n) longest_name spelled.is_short is)
      where
        too_long : (a c : ℕ) → a ≤ c → nat_le a c ≡ false → ⊥
        too_long a c h is = grind (arith, nat_tests)

declarable_each : {A : Type 0} (words : List (List ℕ)) (named : A → List ℕ) (zs : List A)
    → Each IsSpelled (map named zs) → Each (λ z. In words (named z)) zs → Each (λ z. IsDeclarable words (named z)) zs
declarable_each words named [] a b = tt
declarable_each words named (z ∷ zs) a b = (name_read words (named z) a.0 b.0, declarable_each words named zs a.1 b.1)

-- what is true of the names of rows beside their sets is true of the rows
rows_from : (P : List ℕ → Type 0) (q : ℕ) (rs : List model.Row) (Ss : List ℕ)
    → Each (λ (z : model.Row × ℕ). P z.0.name) (beside (map (row_written q) rs) Ss)
    → Each (λ (r : model.Row). P r.name) rs
rows_from P q [] Ss h = tt
rows_from P q (r ∷ rs) [] h = (h.0, rows_from P q rs [] h.1)
rows_from P q (r ∷ rs) (S ∷ Ss) h = (h.0, rows_from P q rs Ss h.1)

module _ (m : RobustModel) (spelled : Each IsSpelled (declared_names m)) where
  pub all_declarable : AreDeclarable (words_on (lines_of m)) m
  all_declarable =
      let names = naming_of m in
      let words = words_on (lines_of m) in
      let all : Each (In words) (words_in_line (ended (lines_of m))) =
      words_in (words_in_line (ended (lines_of m))) [] in
      let w = written_model m in
      let pairs = beside w.rows m.row_sets in
      let rows = map (placed_words (row_words names) m.sets) pairs in
      let goal = goal_words names m.sense w.objective ++ over_words m.sets m.objective_set in
      let a = heads (In words) word.Uncertain (λ (p : model.Parameter). p.name)
      (λ (p : model.Parameter). bound_words p.lower p.upper) w.parameters _ all in
      let n = heads (In words) word.Over (λ (n : List ℕ). n) (λ (n : List ℕ). []) m.sets _ a.1 in
      let b = others (In words) (placed_words (set_words names) m.sets) (beside w.set_lines m.line_sets) _ n.1 in
      let c = heads (In words) word.Var (λ (x : model.Variable). x.name)
      (λ (x : model.Variable). bound_words x.lower x.upper) m.variables _ b in
      let d = heads (In words) word.Adaptive (λ (y : model.AdaptiveVariable). y.name)
      (λ (y : model.AdaptiveVariable). sign mark.Open
      ∷ (listed (λ k. name_at names.parameters k ∷ []) true y.on ++ sign mark.Close ∷ bound_words y.lower y.upper))
      m.adaptives (goal ∷ rows) c.1 in
      let e : Each (In words) (words_in_line (ended (rows ++ []))) =
      subst (λ (l : List (List Written)). Each (In words) (words_in_line (ended l))) (sym (append-nil rows))
      (skip (In words) goal (line_end ∷ ended rows) d.1) in
      let f = heads (In words) word.Row (λ (z : model.Row × ℕ). z.0.name)
      (λ (z : model.Row × ℕ). sign mark.Colon
      ∷ (comparison_words names z.0.left z.0.relation z.0.right ++ over_words m.sets z.1)) pairs [] e in
      record {
        parameters = declarable_each words (λ (p : model.Parameter). p.name) w.parameters (of_parameters m spelled) a.0;
        sets = each_both IsSpelled (In words) (IsDeclarable words) (λ n s i. name_read words n s i) m.sets
            (of_sets m spelled) n.0;
        variables = declarable_each words (λ (x : model.Variable). x.name) m.variables (of_variables m spelled) c.0;
        adaptives =
            declarable_each words (λ (y : model.AdaptiveVariable). y.name) m.adaptives (of_adaptives m spelled) d.0;
        rows = declarable_each words (λ (r : model.Row). r.name) m.rows (of_rows m spelled)
            (rows_from (In words) (written_count m) m.rows m.row_sets f.0);
      }
