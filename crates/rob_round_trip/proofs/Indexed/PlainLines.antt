-- A line of version 1 is one without indices: how it is spelled, that it is
-- plain, and that its statement is the reader's.
use Rattle.std.proofs.Common.{◌≡◌, ◌≤◌, ◌+◌, ℕ, List, [], ◌∷◌, ◌++◌, length, map, refl, sym, ap, ◌∙◌, subst, arith, append-nil}
use Rattle.std.proofs.lemmas.List.{length-map}
use Rattle.std.specs.Prelude.{Option, Some, None}
use Rattle.std.specs.Option.{option_map}
use Rattle.rob_index.proofs.Expanding.FewLemmas.{plain_few}
use Rattle.rob_index.proofs.Tokens.LineTokens.{line_tokens_fit}
use Rattle.rob_index.proofs.Expanding.PlainLemmas.{at_itself}
use Rattle.rob_index.specs.Counting.{line_tokens}
use Rattle.rob_index.specs.Expansion.{itself}
use Rattle.rob_index.specs.Grammar as plain
use Rattle.rob_index.specs.Lines as lines
use Rattle.rob_index.specs.PlainLines.{ArePlainSides, HasPlainOver, IsPlainLine, IsPlainRanged, itself_line, itself_members, itself_names, itself_over}
use Rattle.rob_index.specs.Reading.{one, IsOf}
use Rattle.rob_index.specs.Refs.{HasMember}
use Rattle.rob_index.specs.Statements as stated
use Rattle.rob_index.specs.Statements.{Indexed, Ranged, Ref, Share, Tree}
use Rattle.rob_index.specs.Symbols as is
use Rattle.rob_meaning.proofs.Lists.EachLemmas.{each_left, each_right}
use Rattle.rob_round_trip.proofs.Indexed.PlainExpressions.{AreFound, back_expr, bare_ref, plain_expr, plain_of_expr, seen_both, seen_expr, seen_minus, seen_next, seen_number}
use Rattle.rob_round_trip.specs.Shown.{IsFoundAgain}
use Rattle.rob_syntax.proofs.SeenLemmas.{own-seen_bounds, own-seen_rel, own-seen_sense}
use Rattle.rob_syntax.specs.Grammar.{spell_expr, spell_minus, spell_number}
use Rattle.rob_syntax.specs.Lists.{spell_list, spell_more}
use Rattle.rob_syntax.specs.Numbered.{numbered, numbered_member, numbered_relation}
use Rattle.rob_syntax.specs.SeenSymbols.{seen_line, seen_symbol}
use Rattle.rob_syntax.specs.Seen.{seen_bounds, seen_numeral, seen_rel, seen_sense, seen_signed}
use Rattle.rob_syntax.specs.Statements.{IsStatement, Line, Sides, members_of, relation_of, spell_line, spell_member, spell_members, spell_name, spell_optional, spell_over, spell_rel, spell_sense, spell_sides, spell_signed, statement_of}
use Rattle.rob_syntax.specs.Statements as line
use Rattle.rob_syntax.specs.Symbols.{number_of}
use Rattle.rob_syntax.specs.declared.symbol.Keyword.TheVariants as word
use Rattle.rob_syntax.specs.declared.symbol.Mark.TheVariants as mark
use Rattle.rob_syntax.specs.declared.symbol.Symbol.{Symbol}
use Rattle.rob_syntax.specs.declared.symbol.Symbol.TheVariants.{Name, Reserved, Sign}
use Rattle.rob_syntax.specs.declared.syntax.Bounds.{Bounds}
use Rattle.rob_syntax.specs.declared.syntax.Bounds.TheVariants.{AtLeast, AtMost, Between}
use Rattle.rob_syntax.specs.declared.syntax.Member.{Member}
use Rattle.rob_syntax.specs.declared.syntax.Rel.{Rel}
use Rattle.rob_syntax.specs.declared.syntax.Rel.TheVariants as rel
use Rattle.rob_syntax.specs.declared.syntax.Sense.{Sense}
use Rattle.rob_syntax.specs.declared.syntax.Sense.TheVariants as sense
use Rattle.rob_syntax.specs.declared.syntax.Signed.{Signed}
use Rattle.rob_syntax.specs.declared.syntax.Statement.{Statement}
use Rattle.rob_syntax.specs.declared.syntax.Statement.TheVariants as parsed

-- ---- the line without indices
abbrev pub bare_over : Option ℕ → Option Ref
bare_over o = option_map bare_ref o

abbrev pub bare_share : Member → Ranged Share
bare_share m = record {
  item = record {
    name = bare_ref m.name;
    centre = seen_signed m.spread.centre;
    deviation = seen_numeral m.spread.deviation;
  };
  ranges = [];
}

abbrev pub bare_entry : ℕ → Ranged Ref
bare_entry k = record { item = bare_ref k; ranges = [] }

abbrev pub plain_sides : Sides → stated.Sides plain.Expr
plain_sides s = record {
  left = plain_expr s.left;
  rel = seen_rel s.rel;
  right = plain_expr s.right.inner;
  over = bare_over s.right.over;
}

abbrev pub plain_line : Line → Indexed plain.Expr
plain_line (line.uncertain d) = stated.uncertain (bare_ref d.name) (option_map seen_bounds d.bounds) []
plain_line (line.over k) = stated.over (bare_ref k) []
plain_line (line.set s) = stated.set (plain_sides s) []
plain_line (line.budget s) =
    stated.budget (seen_numeral s.limit) (map bare_share (members_of s.members)) (bare_over s.members.over)
plain_line (line.variable d) = stated.variable (bare_ref d.name) (option_map seen_bounds d.bounds) []
plain_line (line.adaptive p) =
    stated.adaptive (bare_ref p.name) (map bare_entry p.on) (option_map seen_bounds p.bounds) []
plain_line (line.goal s e) = stated.goal (seen_sense s) (plain_expr e.inner) (bare_over e.over) []
plain_line (line.row t) = stated.row (bare_ref t.name) (plain_sides t.sides) []

-- ---- how it is spelled
signed_seen : (s : Signed) → seen_line (spell_signed s) ≡ plain.spell_signed (seen_signed s)
signed_seen s = seen_both (spell_minus s.minus) (spell_number s.number) (seen_minus s.minus) (seen_number s.number)

optional_seen : (b : Option Bounds) → seen_line (spell_optional b) ≡ plain.spell_bounds (option_map seen_bounds b)
optional_seen None = refl
optional_seen (Some (Between both)) =
    let close = Sign mark.CloseBracket ∷ [] in
    let upper = spell_signed both.upper ++ close in
    let inner = spell_signed both.lower ++ Sign mark.Comma ∷ upper in
    seen_next (Reserved word.In) (Sign mark.OpenBracket ∷ inner) (seen_next (Sign mark.OpenBracket) inner
    (seen_both (spell_signed both.lower) (Sign mark.Comma ∷ upper) (signed_seen both.lower)
    (seen_next (Sign mark.Comma) upper (seen_both (spell_signed both.upper) close (signed_seen both.upper) refl))))
optional_seen (Some (AtLeast a)) = seen_next (Sign mark.AtLeast) (spell_signed a) (signed_seen a)
optional_seen (Some (AtMost b)) = seen_next (Sign mark.AtMost) (spell_signed b) (signed_seen b)

over_seen : (o : Option ℕ) → seen_line (spell_over o) ≡ plain.spell_over (bare_over o)
over_seen None = refl
over_seen (Some k) = refl

rel_seen : (r : Rel) → seen_symbol (spell_rel r) ≡ lines.spell_rel (seen_rel r)
rel_seen rel.AtMost = refl
rel_seen rel.AtLeast = refl
rel_seen rel.Equal = refl

sense_seen : (s : Sense) → seen_symbol (spell_sense s) ≡ lines.spell_sense (seen_sense s)
sense_seen sense.Minimise = refl
sense_seen sense.Maximise = refl

member_seen : (m : Member) → seen_line (spell_member m) ≡ lines.spell_ranged lines.spell_share (bare_share m)
member_seen m =
    let deviation = spell_number m.spread.deviation in
    let spread = spell_signed m.spread.centre ++ Reserved word.By ∷ deviation in
    seen_next (Name m.name) (Reserved word.At ∷ spread) (seen_next (Reserved word.At) spread
    (seen_both (spell_signed m.spread.centre) (Reserved word.By ∷ deviation) (signed_seen m.spread.centre)
    (seen_next (Reserved word.By) deviation (seen_number m.spread.deviation))))
    ∙ sym (append-nil (lines.spell_share (bare_share m).item))

-- items with commas between them
more_seen : {A B : Type 0} (spell : A → List Symbol) (write : B → List is.Symbol) (to : A → B)
    → ((x : A) → seen_line (spell x) ≡ write (to x)) → (xs : List A)
    → seen_line (spell_more spell xs) ≡ plain.spell_more write (map to xs)
more_seen spell write to each [] = refl
more_seen spell write to each (x ∷ xs) =
    seen_next (Sign mark.Comma) (spell x ++ spell_more spell xs)
    (seen_both (spell x) (spell_more spell xs) (each x) (more_seen spell write to each xs))

list_seen : {A B : Type 0} (spell : A → List Symbol) (write : B → List is.Symbol) (to : A → B)
    → ((x : A) → seen_line (spell x) ≡ write (to x)) → (xs : List A)
    → seen_line (spell_list spell xs) ≡ plain.spell_list write (map to xs)
list_seen spell write to each [] = refl
list_seen spell write to each (x ∷ xs) =
    seen_both (spell x) (spell_more spell xs) (each x) (more_seen spell write to each xs)

sides_seen : (s : Sides) → seen_line (spell_sides s) ≡ lines.spell_sides (plain_sides s)
sides_seen s =
    let right = spell_expr s.right.inner in
    let over = spell_over s.right.over in
    seen_both (spell_expr s.left) (spell_rel s.rel ∷ (right ++ over)) (seen_expr s.left)
    (seen_next (spell_rel s.rel) (right ++ over)
    (seen_both right over (seen_expr s.right.inner) (over_seen s.right.over))
    ∙ ap (λ (x : is.Symbol).
    x ∷ (plain.spell_expr (plain_expr s.right.inner) ++ plain.spell_over (bare_over s.right.over)))
    (rel_seen s.rel))

-- nothing stands behind
ended : (xs : List Symbol) {us : List is.Symbol} → seen_line xs ≡ us → seen_line xs ≡ us ++ []
ended xs {us} h = h ∙ sym (append-nil us)

pub line_seen : (l : Line) → seen_line (spell_line l) ≡ lines.spell_line (plain_line l)
line_seen (line.uncertain d) =
    let bounds = spell_optional d.bounds in
    seen_next (Reserved word.Uncertain) (Name d.name ∷ bounds)
    (seen_next (Name d.name) bounds (ended bounds (optional_seen d.bounds)))
line_seen (line.over k) = refl
line_seen (line.set s) = seen_next (Reserved word.Set) (spell_sides s) (ended (spell_sides s) (sides_seen s))
line_seen (line.budget s) =
    let first = spell_member s.members.first in
    let more = spell_more spell_member s.members.more in
    let over = spell_over s.members.over in
    let members = (first ++ more) ++ over in
    let limit = spell_number s.limit in
    seen_next (Reserved word.Budget) (limit ++ Sign mark.Colon ∷ members)
    (seen_both limit (Sign mark.Colon ∷ members) (seen_number s.limit) (seen_next (Sign mark.Colon) members
    (seen_both (first ++ more) over
    (seen_both first more (member_seen s.members.first)
    (more_seen spell_member (lines.spell_ranged lines.spell_share) bare_share member_seen s.members.more))
    (over_seen s.members.over))))
line_seen (line.variable d) =
    let bounds = spell_optional d.bounds in
    seen_next (Reserved word.Var) (Name d.name ∷ bounds)
    (seen_next (Name d.name) bounds (ended bounds (optional_seen d.bounds)))
line_seen (line.adaptive p) =
    let bounds = spell_optional p.bounds in
    let on = spell_list spell_name p.on in
    let listed = on ++ Sign mark.Close ∷ bounds in
    seen_next (Reserved word.Adaptive) (Name p.name ∷ Sign mark.Open ∷ listed)
    (seen_next (Name p.name) (Sign mark.Open ∷ listed) (seen_next (Sign mark.Open) listed
    (seen_both on (Sign mark.Close ∷ bounds)
    (list_seen spell_name (lines.spell_ranged plain.spell_ref) bare_entry (λ k. refl) p.on)
    (seen_next (Sign mark.Close) bounds (ended bounds (optional_seen p.bounds))))))
line_seen (line.goal s e) =
    let inner = spell_expr e.inner in
    let over = spell_over e.over in
    seen_next (spell_sense s) (inner ++ over) (seen_both inner over (seen_expr e.inner) (ended over (over_seen e.over)))
    ∙ ap (λ (x : is.Symbol). x ∷ (plain.spell_expr (plain_expr e.inner) ++ (plain.spell_over (bare_over e.over) ++ [])))
    (sense_seen s)
line_seen (line.row t) =
    let sides = spell_sides t.sides in
    seen_next (Reserved word.Row) (Name t.name ∷ Sign mark.Colon ∷ sides)
    (seen_next (Name t.name) (Sign mark.Colon ∷ sides)
    (seen_next (Sign mark.Colon) sides (ended sides (sides_seen t.sides))))

-- ---- it is a line, and plain
shares_ranged : (ms : List Member) → lines.AreAllRanged (map bare_share ms)
shares_ranged [] = tt
shares_ranged (m ∷ ms) = (omega arith, shares_ranged ms)

entries_ranged : (on : List ℕ) → lines.AreAllRanged (map bare_entry on)
entries_ranged [] = tt
entries_ranged (k ∷ on) = (omega arith, entries_ranged on)

pub is_line : (l : Line) → lines.IsLine (plain_line l)
is_line (line.uncertain d) = omega arith
is_line (line.over k) = omega arith
is_line (line.set s) = omega arith
is_line (line.budget s) = (shares_ranged (members_of s.members), tt)
is_line (line.variable d) = omega arith
is_line (line.adaptive p) = (entries_ranged p.on, omega arith)
is_line (line.goal s e) = omega arith
is_line (line.row t) = omega arith

over_plain : (o : Option ℕ) → HasPlainOver (bare_over o)
over_plain None = tt
over_plain (Some k) = refl

shares_plain : (ms : List Member) → IsPlainRanged (λ (m : Share). m.name) (map bare_share ms)
shares_plain [] = tt
shares_plain (m ∷ ms) = (refl, refl, shares_plain ms)

entries_plain : (on : List ℕ) → IsPlainRanged (λ (r : Ref). r) (map bare_entry on)
entries_plain [] = tt
entries_plain (k ∷ on) = (refl, refl, entries_plain on)

sides_plain : (s : Sides) → ArePlainSides (lines.trees_of (plain_sides s))
sides_plain s = (plain_of_expr s.left, plain_of_expr s.right.inner, over_plain s.right.over)

is_plain : (l : Line) → IsPlainLine (lines.statement_of (plain_line l))
is_plain (line.uncertain d) = (refl, refl)
is_plain (line.over k) = (refl, refl)
is_plain (line.set s) = (sides_plain s, refl)
is_plain (line.budget s) = (shares_plain (members_of s.members), over_plain s.members.over)
is_plain (line.variable d) = (refl, refl)
is_plain (line.adaptive p) = (refl, entries_plain p.on, refl)
is_plain (line.goal s e) = (plain_of_expr e.inner, over_plain e.over, refl)
is_plain (line.row t) = (refl, sides_plain t.sides, refl)

-- ---- with numbers for names it is the reader's statement
module _ (words : List (List ℕ)) where
  abbrev Found : List Symbol → Type 0
  Found symbols = AreFound words symbols

  left : (xs ys : List Symbol) → Found (xs ++ ys) → Found xs
  left xs ys h = each_left (IsFoundAgain words) xs ys h

  right : (xs ys : List Symbol) → Found (xs ++ ys) → Found ys
  right xs ys h = each_right (IsFoundAgain words) xs ys h

  over_back : (o : Option ℕ) → Found (spell_over o) → option_map (number_of words) (itself_over words (bare_over o)) ≡ o
  over_back None h = refl
  over_back (Some k) h = ap Some h.1.0

  members_back : (ms : List Member) → Found (spell_more spell_member ms)
      → map (numbered_member words) (itself_members words (map bare_share ms)) ≡ ms
  members_back [] h = refl
  members_back (m ∷ ms) h =
      let one = left (spell_member m) (spell_more spell_member ms) h.1 in
      let more = members_back ms (right (spell_member m) (spell_more spell_member ms) h.1) in
      λ i. record { name = one.0 i; spread = m.spread } ∷ more i

  names_back : (on : List ℕ) → Found (spell_more spell_name on)
      → map (number_of words) (itself_names words (map bare_entry on)) ≡ on
  names_back [] h = refl
  names_back (k ∷ on) h = let more = names_back on h.1.1 in λ i. h.1.0 i ∷ more i

  list_back : (on : List ℕ) → Found (spell_list spell_name on)
      → map (number_of words) (itself_names words (map bare_entry on)) ≡ on
  list_back [] h = refl
  list_back (k ∷ on) h = let more = names_back on h.1 in λ i. h.0 i ∷ more i

  sides_back : (s : Sides) → Found (spell_sides s)
      → numbered_relation words (itself words (plain.tree_expr (plain_expr s.left))) (seen_rel s.rel)
      (itself words (plain.tree_expr (plain_expr s.right.inner))) (itself_over words (bare_over s.right.over))
      ≡ relation_of s
  sides_back s h =
      let end = spell_expr s.right.inner ++ spell_over s.right.over in
      let behind = right (spell_expr s.left) (spell_rel s.rel ∷ end) h in
      let first = back_expr words s.left (left (spell_expr s.left) (spell_rel s.rel ∷ end) h) in
      let second = back_expr words s.right.inner (left (spell_expr s.right.inner) (spell_over s.right.over) behind.1) in
      let over = over_back s.right.over (right (spell_expr s.right.inner) (spell_over s.right.over) behind.1) in
      λ i. record { left = first i; rel = own-seen_rel s.rel i; right = second i; over = over i }

  line_back : (l : Line) → Found (spell_line l)
      → numbered words (itself_line words (lines.statement_of (plain_line l))) ≡ statement_of l
  line_back (line.uncertain d) h = λ i. parsed.Uncertain (record { name = h.1.0 i; bounds = own-seen_bounds d.bounds i })
  line_back (line.over k) h = ap parsed.Over h.1.0
  line_back (line.set s) h = ap parsed.Set (sides_back s h.1)
  line_back (line.budget s) h =
      let m = s.members in
      let listed = spell_member m.first ++ spell_more spell_member m.more in
      let behind = (right (spell_number s.limit) (Sign mark.Colon ∷ spell_members m) h.1).1 in
      let all = left listed (spell_over m.over) behind in
      let first = left (spell_member m.first) (spell_more spell_member m.more) all in
      let more = members_back m.more (right (spell_member m.first) (spell_more spell_member m.more) all) in
      let over = over_back m.over (right listed (spell_over m.over) behind) in
      λ i. parsed.Budget (record {
        limit = s.limit;
        members = record { name = first.0 i; spread = m.first.spread } ∷ more i;
        over = over i;
      })
  line_back (line.variable d) h = λ i. parsed.Var (record { name = h.1.0 i; bounds = own-seen_bounds d.bounds i })
  line_back (line.adaptive p) h =
      let on = list_back p.on (left (spell_list spell_name p.on) (Sign mark.Close ∷ spell_optional p.bounds) h.1.1.1) in
      λ i. parsed.Adaptive (record { name = h.1.0 i; on = on i; bounds = own-seen_bounds p.bounds i })
  line_back (line.goal s e) h =
      let objective = back_expr words e.inner (left (spell_expr e.inner) (spell_over e.over) h.1) in
      let over = over_back e.over (right (spell_expr e.inner) (spell_over e.over) h.1) in
      λ i. parsed.Goal (record { sense = own-seen_sense s i; objective = objective i; over = over i })
  line_back (line.row t) h =
      let relation = sides_back t.sides h.1.1.1 in
      λ i. parsed.Row (record { name = h.1.0 i; relation = relation i })

  -- a budget has a member
  has_member : (l : Line) → HasMember (itself_line words (lines.statement_of (plain_line l)))
  has_member (line.uncertain d) = tt
  has_member (line.over k) = tt
  has_member (line.set s) = tt
  has_member (line.budget s) = tt
  has_member (line.variable d) = tt
  has_member (line.adaptive p) = tt
  has_member (line.goal s e) = tt
  has_member (line.row t) = tt

  -- a statement of version 1 as one of rob_index' version 1
  pub record PlainStatement (symbols : List Symbol) (s : Statement) : Type 0 where
    pub tree : Indexed Tree
    pub is_of : IsOf one (seen_line symbols) tree
    pub has : HasMember (itself_line words tree)
    -- the canonical line has at most the line's tokens, with a line end
    pub few : (limit : ℕ) → line_tokens limit (itself_line words tree) ≤ length symbols + 1
    pub numbered_is : numbered words (itself_line words tree) ≡ s

  -- where its names are found again
  pub plain_statement : (symbols : List Symbol) (s : Statement) → IsStatement symbols s → Found symbols
      → PlainStatement symbols s
  plain_statement symbols s stands h =
      let l = stands.line in
      let t = lines.statement_of (plain_line l) in
      let spelled : seen_line symbols ≡ lines.spell_line (plain_line l) = ap seen_line stands.spelled ∙ line_seen l in
      let itself = at_itself words t [] (is_plain l) in
      let size = ap (λ (xs : List is.Symbol). length xs) spelled in
      record {
        tree = t;
        is_of = (
          record {
            line = plain_line l;
            is_line = is_line l;
            spelled = spelled;
            statement_is = refl;
            few = plain_few t (is_plain l);
          },
          is_plain l,
        );
        has = has_member l;
        few = λ limit.
            let tokens = line_tokens_fit limit words (plain_line l) [] (is_plain l) in
            omega (arith, tokens, ap (line_tokens limit) itself, size, length-map symbols seen_symbol);
        numbered_is = line_back l (subst Found stands.spelled h) ∙ stands.statement_is;
      }
