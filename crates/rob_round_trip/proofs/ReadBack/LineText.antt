-- A canonical line of each kind is a statement, which says its part of the model.
use Rattle.std.proofs.Common.{◌≡◌, ℕ, suc, ◌^◌, ◌<◌, true, false, List, [], ◌∷◌, ◌++◌, length, map, refl, ap, ◌∙◌, append_assoc}
use Rattle.std.specs.Prelude.{Option}
use Rattle.std.specs.List.{flat_map}
use Rattle.rob_meaning.specs.Places.{Each}
use Rattle.rob_meaning.specs.RobustModel as model
use Rattle.rob_rules.specs.declared.sort.Sort.{Sort}
use Rattle.rob_syntax.specs.declared.symbol.Symbol.{Symbol}
use Rattle.rob_syntax.specs.declared.symbol.Symbol.TheVariants.{Name, Sign, Reserved}
use Rattle.rob_syntax.specs.declared.symbol.Mark.TheVariants as mark
use Rattle.rob_syntax.specs.declared.symbol.Keyword.TheVariants as word
use Rattle.rob_syntax.specs.declared.syntax.Statement.{Statement}
use Rattle.rob_syntax.specs.declared.syntax.Statement.TheVariants as parsed
use Rattle.rob_write.specs.Pages.{Written, sign}
use Rattle.rob_write.specs.ExpressionWords.{Naming, number_words, listed, name_at}
use Rattle.rob_write.specs.StatementWords.{declared_set_words, over_words, bound_words, member_words, comparison_words, parameter_words, variable_words, adaptive_words, set_words, row_words}
use Rattle.rob_parse.specs.Written.{sets, parameters, variables, adaptives, set_lines, rows}
use Rattle.rob_parse.specs.Models.{line_sets, row_sets}
use Rattle.rob_round_trip.specs.Pages.{symbols_on}
use Rattle.rob_round_trip.specs.Readable.{IsBound, IsReadable, IsReadableMember, IsReadableSetLine, AreKnown, IsDeclarable}
use Rattle.rob_rules.specs.Scopes.{is_goal}
use Rattle.rob_syntax.specs.declared.syntax.Policy.{Policy}
use Rattle.rob_syntax.specs.Statements.{Shares, Titled, uncertain, over, set, budget, variable, adaptive, row, spell_member, spell_name, statement_of, IsStatement}
use Rattle.rob_syntax.specs.Symbols.{number_of}
use Rattle.rob_round_trip.proofs.ReadBack.ExpressionText.{symbols_append}
use Rattle.rob_round_trip.proofs.ReadBack.NumberText.{numeral_of, number_back, fraction_back}
use Rattle.rob_round_trip.proofs.ReadBack.StatementText.{over_back, bounds_of, bounds_back, lower_back, upper_back, name_back, sides_back, list_back, member_of, member_spelled, members_back, numbers_back, parameter_name}

-- the parts of a model without its goal
pub record Parts : Type 0 where
  pub parameters : List model.Parameter
  pub sets : List (List ℕ)
  pub set_lines : List model.SetLine
  pub line_sets : List ℕ
  pub variables : List model.Variable
  pub adaptives : List model.AdaptiveVariable
  pub rows : List model.Row
  pub row_sets : List ℕ

-- the parts of lines behind lines
abbrev pub both : Parts → Parts → Parts
both a b = record {
  parameters = a.parameters ++ b.parameters;
  sets = a.sets ++ b.sets;
  set_lines = a.set_lines ++ b.set_lines;
  line_sets = a.line_sets ++ b.line_sets;
  variables = a.variables ++ b.variables;
  adaptives = a.adaptives ++ b.adaptives;
  rows = a.rows ++ b.rows;
  row_sets = a.row_sets ++ b.row_sets;
}

module _ (words : List (List ℕ)) (sorts : List (Option Sort)) where
  -- what a statement adds
  abbrev pub part_of : Statement → Parts
  part_of s = record {
    parameters = parameters words s;
    sets = sets words s;
    set_lines = set_lines sorts s;
    line_sets = line_sets sorts s;
    variables = variables words s;
    adaptives = adaptives words sorts s;
    rows = rows words sorts s;
    row_sets = row_sets sorts s;
  }

  -- what statements add
  abbrev pub parts_of : List Statement → Parts
  parts_of list = record {
    parameters = flat_map (parameters words) list;
    sets = flat_map (sets words) list;
    set_lines = flat_map (set_lines sorts) list;
    line_sets = flat_map (line_sets sorts) list;
    variables = flat_map (variables words) list;
    adaptives = flat_map (adaptives words sorts) list;
    rows = flat_map (rows words sorts) list;
    row_sets = flat_map (row_sets sorts) list;
  }

  -- a line is a statement that adds this
  pub record Says (line : List Written) (part : Parts) : Type 0 where
    pub statement : Statement
    pub is : IsStatement (symbols_on words line) statement
    pub adds : part_of statement ≡ part
    pub plain : is_goal statement ≡ false

module _ (limit : ℕ) (small : limit < 2 ^ 62) (words : List (List ℕ)) (sorts : List (Option Sort)) (names : Naming)
    (known : AreKnown words sorts names) where
  -- ---- a line of each kind
  pub parameter_line : (p : model.Parameter) → IsDeclarable words p.name → IsBound limit p.lower → IsBound limit p.upper
      → Says words sorts (parameter_words p) (record {
        parameters = p ∷ [];
        sets = [];
        set_lines = [];
        line_sets = [];
        variables = [];
        adaptives = [];
        rows = [];
        row_sets = [];
      })
  parameter_line p d l u = record {
    statement = parsed.Uncertain (record { name = number_of words p.name; bounds = bounds_of p.lower p.upper });
    is = record {
      line = uncertain (record { name = number_of words p.name; bounds = bounds_of p.lower p.upper });
      spelled = ap (λ (x : List Symbol). Reserved word.Uncertain ∷ x)
          (name_back limit small words sorts names known p.name (bound_words p.lower p.upper) d.is_name
          ∙ ap (λ (x : List Symbol). Name (number_of words p.name) ∷ x)
          (bounds_back limit small words p.lower p.upper l u));
      statement_is = refl;
    };
    adds = λ i. record {
      parameters =
          record {
            name = d.word_is i;
            lower = lower_back p.lower p.upper i;
            upper = upper_back p.lower p.upper i;
          } ∷ [];
      sets = [];
      set_lines = [];
      line_sets = [];
      variables = [];
      adaptives = [];
      rows = [];
      row_sets = [];
    };
    plain = refl;
  }

  pub variable_line : (x : model.Variable) → IsDeclarable words x.name → IsBound limit x.lower → IsBound limit x.upper
      → Says words sorts (variable_words x) (record {
        parameters = [];
        sets = [];
        set_lines = [];
        line_sets = [];
        variables = x ∷ [];
        adaptives = [];
        rows = [];
        row_sets = [];
      })
  variable_line x d l u = record {
    statement = parsed.Var (record { name = number_of words x.name; bounds = bounds_of x.lower x.upper });
    is = record {
      line = variable (record { name = number_of words x.name; bounds = bounds_of x.lower x.upper });
      spelled = ap (λ (y : List Symbol). Reserved word.Var ∷ y)
          (name_back limit small words sorts names known x.name (bound_words x.lower x.upper) d.is_name
          ∙ ap (λ (y : List Symbol). Name (number_of words x.name) ∷ y)
          (bounds_back limit small words x.lower x.upper l u));
      statement_is = refl;
    };
    adds = λ i. record {
      parameters = [];
      sets = [];
      set_lines = [];
      line_sets = [];
      variables = record {
        name = d.word_is i;
        lower = lower_back x.lower x.upper i;
        upper = upper_back x.lower x.upper i;
      } ∷ [];
      adaptives = [];
      rows = [];
      row_sets = [];
    };
    plain = refl;
  }

  pub declared_set_line : (n : List ℕ) → IsDeclarable words n
      → Says words sorts (declared_set_words n) (record {
        parameters = [];
        sets = n ∷ [];
        set_lines = [];
        line_sets = [];
        variables = [];
        adaptives = [];
        rows = [];
        row_sets = [];
      })
  declared_set_line n d = record {
    statement = parsed.Over (number_of words n);
    is = record {
      line = over (number_of words n);
      spelled = ap (λ (x : List Symbol). Reserved word.Over ∷ x)
          (name_back limit small words sorts names known n [] d.is_name);
      statement_is = refl;
    };
    adds = λ i. record {
      parameters = [];
      sets = d.word_is i ∷ [];
      set_lines = [];
      line_sets = [];
      variables = [];
      adaptives = [];
      rows = [];
      row_sets = [];
    };
    plain = refl;
  }

  pub set_line : (c : model.SetLine) → IsReadableSetLine limit names c → (S : ℕ) → S < suc (length names.sets)
      → Says words sorts (set_words names c ++ over_words names.sets S)
      (record {
        parameters = [];
        sets = [];
        set_lines = c ∷ [];
        line_sets = S ∷ [];
        variables = [];
        adaptives = [];
        rows = [];
        row_sets = [];
      })
  set_line (model.line left relation right) h S some =
      let s = sides_back limit small words sorts names known left relation right h.0 h.1 S some in
      record {
        statement = statement_of (set s.sides);
        is = record {
          line = set s.sides;
          spelled = ap (λ (x : List Symbol). Reserved word.Set ∷ x) s.spelled;
          statement_is = refl;
        };
        adds = λ i. record {
          parameters = [];
          sets = [];
          set_lines = model.line (s.left_is i) (s.relation_is i) (s.right_is i) ∷ [];
          line_sets = s.over_is i ∷ [];
          variables = [];
          adaptives = [];
          rows = [];
          row_sets = [];
        };
        plain = refl;
      }
  set_line (model.budget bound []) h S some = absurd h
  set_line (model.budget bound (x ∷ xs)) h S some =
      let o = over_back limit small words sorts names known S some in
      let members = listed (member_words names) true (x ∷ xs) in
      let end = over_words names.sets S in
      let to = member_of limit small words sorts names known in
      let shares : Shares =
      record { limit = numeral_of bound; members = record { first = to x; more = map to xs; over = o.over } } in
      record {
        statement = statement_of (budget shares);
        is = record {
          line = budget shares;
          spelled =
              ap (λ (l : List Symbol). Reserved word.Budget ∷ l)
              (ap (symbols_on words) (append_assoc (number_words bound) (sign mark.Colon ∷ members) end)
              ∙ symbols_append words (number_words bound) (sign mark.Colon ∷ (members ++ end))
              ∙ (λ i. number_back limit words bound small h.0.0 h.0.1 i ++ Sign mark.Colon
              ∷ (symbols_append words members end
              ∙ (λ j. list_back limit small words sorts names known (member_words names) spell_member to
              (IsReadableMember limit names) (member_spelled limit small words sorts names known) (x ∷ xs) h.1 j
              ++ o.spelled j)) i));
          statement_is = refl;
        };
        adds = λ i. record {
          parameters =
              [];
          sets = [];
          set_lines =
              model.budget (fraction_back bound h.0.1 i)
              (members_back limit small words sorts names known (x ∷ xs) h.1 i)
              ∷ [];
          line_sets = o.number_is i ∷ [];
          variables = [];
          adaptives = [];
          rows = [];
          row_sets = [];
        };
        plain = refl;
      }

  pub adaptive_line : (y : model.AdaptiveVariable) → IsDeclarable words y.name
      → Each (λ k. k < length names.parameters) y.on → IsBound limit y.lower → IsBound limit y.upper
      → Says words sorts (adaptive_words names y) (record {
        parameters = [];
        sets = [];
        set_lines = [];
        line_sets = [];
        variables = [];
        adaptives = y ∷ [];
        rows = [];
        row_sets = [];
      })
  adaptive_line y d on l u =
      let to : ℕ → ℕ = λ k. number_of words (parameter_name limit small words sorts names known k) in
      let policy : Policy =
      record { name = number_of words y.name; on = map to y.on; bounds = bounds_of y.lower y.upper } in
      record {
        statement = parsed.Adaptive policy;
        is = record {
          line = adaptive policy;
          spelled =
              ap (λ (x : List Symbol). Reserved word.Adaptive ∷ x)
              (name_back limit small words sorts names known y.name
              (sign mark.Open
              ∷ (listed (λ k. name_at names.parameters k ∷ []) true y.on ++ sign mark.Close
              ∷ bound_words y.lower y.upper)) d.is_name
              ∙ ap (λ (x : List Symbol). Name (number_of words y.name) ∷ Sign mark.Open ∷ x)
              (symbols_append words (listed (λ k. name_at names.parameters k ∷ []) true y.on)
              (sign mark.Close ∷ bound_words y.lower y.upper)
              ∙ (λ i. list_back limit small words sorts names known (λ k. name_at names.parameters k ∷ []) spell_name to
              (λ k. k < length names.parameters)
              (λ k h. name_back limit small words sorts names known
              (parameter_name limit small words sorts names known k) [] (known.parameters k h).is_name) y.on on i
              ++ Sign mark.Close ∷ bounds_back limit small words y.lower y.upper l u i)));
          statement_is = refl;
        };
        adds = λ i. record {
          parameters = [];
          sets = [];
          set_lines = [];
          line_sets = [];
          variables = [];
          adaptives = record {
            name = d.word_is i;
            on = numbers_back limit small words sorts names known y.on on i;
            lower = lower_back y.lower y.upper i;
            upper = upper_back y.lower y.upper i;
          } ∷ [];
          rows = [];
          row_sets = [];
        };
        plain = refl;
      }

  pub row_line : (r : model.Row) → IsDeclarable words r.name → IsReadable limit names r.left
      → IsReadable limit names r.right → (S : ℕ) → S < suc (length names.sets)
      → Says words sorts (row_words names r ++ over_words names.sets S)
      (record {
        parameters = [];
        sets = [];
        set_lines = [];
        line_sets = [];
        variables = [];
        adaptives = [];
        rows = r ∷ [];
        row_sets = S ∷ [];
      })
  row_line r d h k S some =
      let s = sides_back limit small words sorts names known r.left r.relation r.right h k S some in
      let titled : Titled = record { name = number_of words r.name; sides = s.sides } in
      record {
        statement = statement_of (row titled);
        is = record {
          line = row titled;
          spelled =
              ap (λ (x : List Symbol). Reserved word.Row ∷ x)
              (name_back limit small words sorts names known r.name
              (sign mark.Colon ∷ (comparison_words names r.left r.relation r.right ++ over_words names.sets S))
              d.is_name
              ∙ ap (λ (x : List Symbol). Name (number_of words r.name) ∷ Sign mark.Colon ∷ x) s.spelled);
          statement_is = refl;
        };
        adds = λ i. record {
          parameters = [];
          sets = [];
          set_lines = [];
          line_sets = [];
          variables = [];
          adaptives = [];
          rows = record {
            name = d.word_is i;
            left = s.left_is i;
            relation = s.relation_is i;
            right = s.right_is i;
          } ∷ [];
          row_sets = s.over_is i ∷ [];
        };
        plain = refl;
      }
