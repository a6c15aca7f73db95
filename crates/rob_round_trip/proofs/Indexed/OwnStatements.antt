-- A line of symbols is one plain statement at most: rob_index has one line of a
-- spelling at most, and the line without indices tells the statement.
use Rattle.std.proofs.Common.{◌≡◌, ℕ, true, false, List, [], ◌∷◌, map, refl, sym, ap, ◌∙◌}
use Rattle.std.specs.Prelude.{Option, Some, None}
use Rattle.std.specs.Option.{option_map}
use Rattle.rob_index.proofs.Parsing.OneStatement.{one_line}
use Rattle.rob_index.specs.Grammar as plain
use Rattle.rob_index.specs.Lines as lines
use Rattle.rob_index.specs.Statements as stated
use Rattle.rob_index.specs.Statements.{Indexed, Ranged, Ref, Share, Tree, TreeFactors, TreeParts}
use Rattle.rob_round_trip.proofs.Indexed.PlainExpressions.{plain_expr, plain_factor, plain_factors, plain_term, plain_terms}
use Rattle.rob_round_trip.proofs.Indexed.PlainLines.{bare_entry, bare_over, bare_share, is_line, line_seen, plain_line, plain_sides}
use Rattle.rob_syntax.proofs.SeenLemmas.{own-seen_bounds, own-seen_rel, own-seen_sense}
use Rattle.rob_syntax.specs.Grammar.{Expr, Factor, Factors, Term, Terms, expr, name, no_factors, no_terms, number, parens, signed, term, times, tree_expr, tree_factor, tree_factors, tree_term, tree_terms}
use Rattle.rob_syntax.specs.Numbered.{own_bounds, own_numeral, own_rel, own_sense, own_signed}
use Rattle.rob_syntax.specs.SeenSymbols.{seen_line}
use Rattle.rob_syntax.specs.Statements.{IsStatement, Line, Sides, relation_of, spell_line, statement_of}
use Rattle.rob_syntax.specs.Statements as line
use Rattle.rob_syntax.specs.declared.symbol.Symbol.{Symbol}
use Rattle.rob_syntax.specs.declared.syntax.Member.{Member}
use Rattle.rob_syntax.specs.declared.syntax.Relation.{Relation}
use Rattle.rob_syntax.specs.declared.syntax.Statement.{Statement}
use Rattle.rob_syntax.specs.declared.syntax.Statement.TheVariants as parsed
use Rattle.rob_syntax.specs.declared.syntax.Summand.{Summand}
use Rattle.rob_syntax.specs.declared.syntax.Syntax.{Syntax}
use Rattle.rob_syntax.specs.declared.syntax.Syntax.TheVariants as syntax

-- ---- what a line says where no name has an index: each name is its number
abbrev mutual
  own_tree : Tree → Syntax
  own_tree (stated.number n) = syntax.Number (own_numeral n)
  own_tree (stated.ref r) = syntax.Name r.name
  own_tree (stated.sum ts) = syntax.Sum (own_parts ts)
  own_tree (stated.product ts) = syntax.Product (own_factors ts)
  own_tree (stated.ranged r t) = own_tree t

  own_parts : TreeParts → List Summand
  own_parts stated.no_parts = []
  own_parts (stated.part minus t ts) = record { minus = minus; inner = own_tree t } ∷ own_parts ts

  own_factors : TreeFactors → List Syntax
  own_factors stated.no_factors = []
  own_factors (stated.factor t ts) = own_tree t ∷ own_factors ts

abbrev own_over : Option Ref → Option ℕ
own_over o = option_map (λ (r : Ref). r.name) o

abbrev own_member : Ranged Share → Member
own_member m = record {
  name = m.item.name.name;
  spread = record { centre = own_signed m.item.centre; deviation = own_numeral m.item.deviation };
}

abbrev own_entry : Ranged Ref → ℕ
own_entry x = x.item.name

abbrev own_relation : stated.Sides plain.Expr → Relation
own_relation s = record {
  left = own_tree (plain.tree_expr s.left);
  rel = own_rel s.rel;
  right = own_tree (plain.tree_expr s.right);
  over = own_over s.over;
}

abbrev own_statement : Indexed plain.Expr → Statement
own_statement (stated.uncertain r b rs) =
    parsed.Uncertain (record { name = r.name; bounds = option_map own_bounds b })
own_statement (stated.over r rs) = parsed.Over r.name
own_statement (stated.set s rs) = parsed.Set (own_relation s)
own_statement (stated.budget n ms o) =
    parsed.Budget (record { limit = own_numeral n; members = map own_member ms; over = own_over o })
own_statement (stated.variable r b rs) = parsed.Var (record { name = r.name; bounds = option_map own_bounds b })
own_statement (stated.adaptive r on b rs) =
    parsed.Adaptive (record { name = r.name; on = map own_entry on; bounds = option_map own_bounds b })
own_statement (stated.goal s e o rs) =
    parsed.Goal (record { sense = own_sense s; objective = own_tree (plain.tree_expr e); over = own_over o })
own_statement (stated.row r s rs) = parsed.Row (record { name = r.name; relation = own_relation s })

-- ---- of the line without indices that is the reader's tree
mutual
  same_factor : (f : Factor) → own_tree (plain.tree_factor (plain_factor f)) ≡ tree_factor f
  same_factor (number n) = refl
  same_factor (name k) = refl
  same_factor (parens e) = same_expr e

  same_factors : (fs : Factors) → own_factors (plain.tree_factors (plain_factors fs)) ≡ tree_factors fs
  same_factors no_factors = refl
  same_factors (times f fs) =
      let one = same_factor f in
      let more = same_factors fs in
      λ i. one i ∷ more i

  same_term : (t : Term) → own_tree (plain.tree_term (plain_term t)) ≡ tree_term t
  same_term (term f no_factors) = same_factor f
  same_term (term f (times g fs)) =
      let one = same_factor f in
      let two = same_factor g in
      let more = same_factors fs in
      λ i. syntax.Product (one i ∷ two i ∷ more i)

  same_terms : (ts : Terms) → own_parts (plain.tree_terms (plain_terms ts)) ≡ tree_terms ts
  same_terms no_terms = refl
  same_terms (signed m t ts) =
      let one = same_term t in
      let more = same_terms ts in
      λ i. record { minus = m; inner = one i } ∷ more i

  same_expr : (e : Expr) → own_tree (plain.tree_expr (plain_expr e)) ≡ tree_expr e
  same_expr (expr false t no_terms) = same_term t
  same_expr (expr true t ts) =
      let one = same_term t in
      let more = same_terms ts in
      λ i. syntax.Sum (record { minus = true; inner = one i } ∷ more i)
  same_expr (expr false t (signed m u us)) =
      let one = same_term t in
      let more = same_terms (signed m u us) in
      λ i. syntax.Sum (record { minus = false; inner = one i } ∷ more i)

-- ---- and the reader's statement
same_over : (o : Option ℕ) → own_over (bare_over o) ≡ o
same_over None = refl
same_over (Some k) = refl

same_members : (ms : List Member) → map own_member (map bare_share ms) ≡ ms
same_members [] = refl
same_members (m ∷ ms) = let more = same_members ms in λ i. record { name = m.name; spread = m.spread } ∷ more i

same_names : (on : List ℕ) → map own_entry (map bare_entry on) ≡ on
same_names [] = refl
same_names (k ∷ on) = let more = same_names on in λ i. k ∷ more i

same_sides : (s : Sides) → own_relation (plain_sides s) ≡ relation_of s
same_sides s =
    let first = same_expr s.left in
    let second = same_expr s.right.inner in
    let over = same_over s.right.over in
    λ i. record { left = first i; rel = own-seen_rel s.rel i; right = second i; over = over i }

same_line : (l : Line) → own_statement (plain_line l) ≡ statement_of l
same_line (line.uncertain d) = λ i. parsed.Uncertain (record { name = d.name; bounds = own-seen_bounds d.bounds i })
same_line (line.over k) = refl
same_line (line.set s) = ap parsed.Set (same_sides s)
same_line (line.budget s) =
    let m = s.members in
    let more = same_members m.more in
    let over = same_over m.over in
    λ i. parsed.Budget (record {
      limit = s.limit;
      members = record { name = m.first.name; spread = m.first.spread } ∷ more i;
      over = over i;
    })
same_line (line.variable d) = λ i. parsed.Var (record { name = d.name; bounds = own-seen_bounds d.bounds i })
same_line (line.adaptive p) =
    let on = same_names p.on in
    λ i. parsed.Adaptive (record { name = p.name; on = on i; bounds = own-seen_bounds p.bounds i })
same_line (line.goal s e) =
    let objective = same_expr e.inner in
    let over = same_over e.over in
    λ i. parsed.Goal (record { sense = own-seen_sense s i; objective = objective i; over = over i })
same_line (line.row t) =
    let relation = same_sides t.sides in
    λ i. parsed.Row (record { name = t.name; relation = relation i })

-- ---- a line is one statement at most
same_statement : (k l : Line) → spell_line k ≡ spell_line l → statement_of k ≡ statement_of l
same_statement k l same =
    let spelled : lines.spell_line (plain_line k) ≡ lines.spell_line (plain_line l) =
    sym (line_seen k) ∙ ap seen_line same ∙ line_seen l in
    sym (same_line k)
    ∙ ap own_statement (one_line (plain_line k) (plain_line l) (is_line k) (is_line l) spelled)
    ∙ same_line l

pub one_statement : (symbols : List Symbol) (s t : Statement) → IsStatement symbols s → IsStatement symbols t → s ≡ t
one_statement symbols s t a b =
    sym a.statement_is ∙ same_statement a.line b.line (sym a.spelled ∙ b.spelled) ∙ b.statement_is
