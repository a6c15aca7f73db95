-- Which text of version 1 reads as which statements, line by line: what canonical lines are read by.
use Rattle.std.specs.Prelude.{◌≡◌, ℕ, true, List, [], ◌∷◌, length, None}
use Rattle.rob_lex.specs.declared.token.Token.{Token}
use Rattle.rob_lex.specs.Offences.{AreTokens}
use Rattle.rob_syntax.specs.declared.symbol.Symbol.{Symbol}
use Rattle.rob_syntax.specs.declared.syntax.Statement.{Statement}
use Rattle.rob_index.specs.Reading.{one}
use Rattle.rob_syntax.specs.Symbols.{words_of, lines_of}
use Rattle.rob_syntax.specs.Statements.{IsStatement}
use Rattle.rob_rules.specs.Scopes.{Earlier, start, behind}
use Rattle.rob_rules.specs.Faults.{first_fault}

module _ (limit : ℕ) where
  -- each line is empty or the next statement, none has a fault, and so one comes from what is known in front of them to
  -- what is known behind
  abbrev pub Follows : Earlier → List (List Symbol) → List Statement → Earlier → Type 0
  Follows e [] [] f = e ≡ f
  Follows e [] (s ∷ list) f = ⊥
  Follows e ([] ∷ lines) list f = Follows e lines list f
  Follows e ((x ∷ symbols) ∷ lines) [] f = ⊥
  Follows e ((x ∷ symbols) ∷ lines) (s ∷ list) f =
      IsStatement (x ∷ symbols) s × (first_fault limit e e s ≡ None) × Follows (behind e s) lines list f

  -- the text has these words and reads as these statements, behind which this is known
  pub record ReadsPlain (text : List ℕ) (words : List (List ℕ)) (list : List Statement) (known : Earlier) : Type 0 where
    pub tokens : List Token
    pub are_tokens : AreTokens text tokens
    pub words_are : words_of text tokens ≡ words
    pub follows : Follows (start (length words)) (lines_of text one words tokens) list known
    pub goal : known.goal ≡ true
