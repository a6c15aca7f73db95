-- Each text of either version reads in one way, or breaks one rule at one line.
use Rattle.std.proofs.Common.{◌≡◌, ℕ, inl, inr, ⊎_elim, List, map, refl, sym, ap, ◌∙◌, subst}
use Rattle.rob_lex.specs.declared.token.Token.{Token}
use Rattle.rob_lex.specs.Offences.{AreTokens, Breaks as BreaksTokens}
use Rattle.rob_lex.proofs.OneReading.{some_reading as some_tokens, one_list, one_rule as one_token_rule, not_both as tokens_not_both}
use Rattle.rob_index.specs.Statements as stated
use Rattle.rob_index.specs.Statements.{Name}
use Rattle.rob_index.specs.Reading.{IsOf, LineFault, line_rule}
use Rattle.rob_index.proofs.Parsing.Versions.{one_of, settled_of}
use Rattle.rob_index.proofs.LinesRead.ReadingLemmas.{some, one_reading, one_fault, never_both}
use Rattle.rob_syntax.specs.declared.syntax.Statement.{Statement}
use Rattle.rob_syntax.specs.Symbols.{words_of}
use Rattle.rob_syntax.specs.Versions.{text_version, text_lines}
use Rattle.rob_syntax.specs.Numbered.{numbered}
use Rattle.rob_syntax.specs.SeenSymbols.{seen_line}
use Rattle.rob_rules.specs.declared.fault.Fault.{Fault}
use Rattle.rob_rules.specs.Scopes.{Earlier}
use Rattle.rob_rules.specs.Faults.{in_order, rule_of}
use Rattle.rob_rules.specs.Names.{Named, named_behind}
use Rattle.rob_rules.specs.Texts.{is_declared, has_goal, has_later, in_front, LinesRead, LinesBreak, Reads, Breaks, HasReading}

module _ (limit : ℕ) (text : List ℕ) where
  pub some_text : HasReading limit text
  some_text =
      ⊎_elim
      (λ (t : (tokens : List Token) × AreTokens text tokens). of_tokens t.0 t.1)
      (λ (b : (rule : ℕ) × (line : ℕ) × BreaksTokens text rule line). inr (b.0, b.1, inl b.2))
      (some_tokens text)
    where
      of_tokens : (tokens : List Token) → AreTokens text tokens → HasReading limit text
      of_tokens tokens are =
          let v = text_version text tokens in
          elim (some limit (words_of text tokens) Named Fault in_order (has_later limit) named_behind is_declared
          (IsOf v)
          (one_of v) (settled_of v) has_goal (in_front limit v (words_of text tokens))
          (map seen_line (text_lines text (words_of text tokens) tokens))) [
            | inl r ↦ inl (
              r.1.known.words,
              map (numbered r.1.known.words) r.0,
              r.1.known.earlier,
              record { tokens = tokens; are_tokens = are; plain = r.0; total = r.1.total; lines = r.2; list_is = refl },
            )
            | inr b ↦ inr (line_rule rule_of b.0, b.1, inr (tokens, b.0, are, b.2, refl))
          ]

  -- the lines of the same tokens
  read_of : (a b : List Token) → a ≡ b → (plain : List stated.Statement) (last : Named) (total : ℕ)
      → LinesRead limit text (words_of text b) b plain last total
      → LinesRead limit text (words_of text a) a plain last total
  read_of a b same plain last total read =
      subst (λ (t : List Token). LinesRead limit text (words_of text t) t plain last total) (sym same) read

  break_of : (a b : List Token) → a ≡ b → (fault : LineFault Fault) (line : ℕ)
      → LinesBreak limit text (words_of text b) b fault line → LinesBreak limit text (words_of text a) a fault line
  break_of a b same fault line broken =
      subst (λ (t : List Token). LinesBreak limit text (words_of text t) t fault line) (sym same) broken

  pub one_text : (words : List Name) (list : List Statement) (known : Earlier) (words' : List Name)
      (list' : List Statement) (known' : Earlier) → Reads limit text words list known
      → Reads limit text words' list' known' → (words ≡ words') × (list ≡ list') × (known ≡ known')
  one_text words list known words' list' known' x y =
      let v = text_version text x.tokens in
      let same : x.tokens ≡ y.tokens = one_list text x.tokens y.tokens x.are_tokens y.are_tokens in
      let both =
      one_reading limit (words_of text x.tokens) Named Fault in_order (has_later limit) named_behind is_declared
      (IsOf v) (one_of v) (settled_of v) has_goal (in_front limit v (words_of text x.tokens))
      (map seen_line (text_lines text (words_of text x.tokens) x.tokens)) x.plain
      (record { known = record { words = words; earlier = known }; total = x.total }) y.plain
      (record { known = record { words = words'; earlier = known' }; total = y.total }) x.lines
      (read_of x.tokens y.tokens same y.plain (record { words = words'; earlier = known' }) y.total y.lines) in
      let same_words : words ≡ words' = λ i. (both.1 i).known.words in (
        same_words,
        sym x.list_is ∙ (λ i. map (numbered (same_words i)) (both.0 i)) ∙ y.list_is,
        λ i. (both.1 i).known.earlier,
      )

  pub one_break : (rule line rule' line' : ℕ) → Breaks limit text rule line → Breaks limit text rule' line'
      → (rule ≡ rule') × (line ≡ line')
  one_break rule line rule' line' (inl x) (inl y) = one_token_rule text rule line rule' line' x y
  one_break rule line rule' line' (inl x) (inr y) = absurd (tokens_not_both text y.0 rule line y.2 x)
  one_break rule line rule' line' (inr x) (inl y) = absurd (tokens_not_both text x.0 rule' line' x.2 y)
  one_break rule line rule' line' (inr x) (inr y) =
      let v = text_version text x.0 in
      let same : x.0 ≡ y.0 = one_list text x.0 y.0 x.2 y.2 in
      let both = one_fault limit (words_of text x.0) Named Fault in_order (has_later limit) named_behind is_declared
      (IsOf v) (one_of v) (settled_of v) has_goal (in_front limit v (words_of text x.0))
      (map seen_line (text_lines text (words_of text x.0) x.0)) x.1 y.1 line line' x.3
      (break_of x.0 y.0 same y.1 line' y.3) in
      (sym x.4 ∙ ap (line_rule rule_of) both.0 ∙ y.4, both.1)

  pub never : (words : List Name) (list : List Statement) (known : Earlier) (rule line : ℕ)
      → Reads limit text words list known → Breaks limit text rule line → ⊥
  never words list known rule line x (inl y) = tokens_not_both text x.tokens rule line x.are_tokens y
  never words list known rule line x (inr y) =
      let v = text_version text x.tokens in
      let same : x.tokens ≡ y.0 = one_list text x.tokens y.0 x.are_tokens y.2 in
      never_both limit (words_of text x.tokens) Named Fault in_order (has_later limit) named_behind is_declared (IsOf v)
      (one_of v) (settled_of v) has_goal (in_front limit v (words_of text x.tokens))
      (map seen_line (text_lines text (words_of text x.tokens) x.tokens)) x.plain
      (record { known = record { words = words; earlier = known }; total = x.total }) y.1 line x.lines
      (break_of x.tokens y.0 same y.1 line y.3)
