-- A line of version 1 has no fault of indices, where its canonical tokens are few enough and its names short.
use Rattle.std.proofs.Common.{◌≡◌, ℕ, ◌+◌, ◌≤◌, ◌||◌, Bool, true, false, List, [], ◌∷◌, Option, Some, None, cond, refl, ap, ◌∙◌, arith}
use Rattle.std.specs.Prelude.{length}
use Rattle.std.specs.List.{find, list_any}
use Rattle.std.proofs.lemmas.Bool.{le-leb, le-ltb, or_from}
use Rattle.rob_algebra.specs.Items.{Each}
use Rattle.rob_index.specs.Statements.{Name, Plain, Parts, Factors, Member, Statement, Tree, Indexed}
use Rattle.rob_index.specs.Statements as stated
use Rattle.rob_index.specs.Counting.{line_tokens, lines_tokens}
use Rattle.rob_index.specs.Expansion.{expand}
use Rattle.rob_index.specs.PlainLines.{IsPlainLine, itself_line}
use Rattle.rob_index.specs.Refs.{EachFactorName, EachName, EachNameOf, EachPartName, EachSideName, HasMember, IfThere}
use Rattle.rob_index.specs.Rules.{index_unknown, range_too_long, index_out, too_much, no_statement, most_tokens, longest_name, is_long, is_out, is_unknown, has_great_digits, is_long_name, plain_has_long, parts_have_long, factors_have_long, optional_has_long, has_no_member, is_no_statement, has_fault}
use Rattle.rob_index.specs.Places.{Inside, places}
use Rattle.rob_index.specs.Search.{has_room, named}
use Rattle.rob_index.proofs.LinesRead.ListLemmas.{or_false}
use Rattle.rob_index.proofs.Expanding.PlainLemmas.{line_itself, no_places}
use Rattle.rob_index.proofs.Faults.SearchLemmas.{named_first}
use Rattle.rob_index.proofs.Names.NamingLemmas.{IsShort}

-- ---- a statement whose names are short is one
not_long : (n : Name) → IsShort n → is_long_name n ≡ false
not_long n h = le-ltb longest_name (length n) h

mutual
  plain_not_long : (p : Plain) → EachName IsShort p → plain_has_long p ≡ false
  plain_not_long (stated.number n) h = refl
  plain_not_long (stated.name n) h = not_long n h
  plain_not_long (stated.sum ps) h = parts_not_long ps h
  plain_not_long (stated.product ps) h = factors_not_long ps h

  parts_not_long : (ps : Parts) → EachPartName IsShort ps → parts_have_long ps ≡ false
  parts_not_long stated.no_parts h = refl
  parts_not_long (stated.part minus p ps) h =
      or_from (plain_has_long p) (parts_have_long ps) (plain_not_long p h.0) (parts_not_long ps h.1)

  factors_not_long : (ps : Factors) → EachFactorName IsShort ps → factors_have_long ps ≡ false
  factors_not_long stated.no_factors h = refl
  factors_not_long (stated.factor p ps) h =
      or_from (plain_has_long p) (factors_have_long ps) (plain_not_long p h.0) (factors_not_long ps h.1)

optional_not_long : (o : Option Name) → IfThere IsShort o → optional_has_long o ≡ false
optional_not_long None h = refl
optional_not_long (Some n) h = not_long n h

members_not_long : (ms : List Member) → Each (λ (m : Member). IsShort m.name) ms
    → list_any (λ (m : Member). is_long_name m.name) ms ≡ false
members_not_long [] h = refl
members_not_long (m ∷ ms) h =
    or_from (is_long_name m.name) (list_any (λ (x : Member). is_long_name x.name) ms) (not_long m.name h.0)
    (members_not_long ms h.1)

names_not_long : (ns : List Name) → Each IsShort ns → list_any is_long_name ns ≡ false
names_not_long [] h = refl
names_not_long (n ∷ ns) h =
    or_from (is_long_name n) (list_any is_long_name ns) (not_long n h.0) (names_not_long ns h.1)

sides_not_long : (l p : Plain) (o : Option Name) → EachSideName IsShort l p o
    → (plain_has_long l || (plain_has_long p || optional_has_long o)) ≡ false
sides_not_long l p o h =
    or_from (plain_has_long l) (plain_has_long p || optional_has_long o) (plain_not_long l h.0)
    (or_from (plain_has_long p) (optional_has_long o) (plain_not_long p h.1) (optional_not_long o h.2))

some_member : (n : stated.Numeral) (ms : List Member) (o : Option Name) → HasMember (stated.budget n ms o)
    → has_no_member ms ≡ false
some_member n [] o h = absurd h
some_member n (m ∷ ms) o h = refl

pub is_statement : (p : Statement) → EachNameOf IsShort p → HasMember p → is_no_statement p ≡ false
is_statement (stated.uncertain n b) h k = not_long n h
is_statement (stated.over n) h k = not_long n h
is_statement (stated.set l r p o) h k = sides_not_long l p o h
is_statement (stated.budget n ms o) h k =
    or_from (has_no_member ms) (list_any (λ (m : Member). is_long_name m.name) ms || optional_has_long o)
    (some_member n ms o k)
    (or_from (list_any (λ (m : Member). is_long_name m.name) ms) (optional_has_long o) (members_not_long ms h.0)
    (optional_not_long o h.1))
is_statement (stated.variable n b) h k = not_long n h
is_statement (stated.adaptive n on b) h k =
    or_from (is_long_name n) (list_any is_long_name on) (not_long n h.0) (names_not_long on h.1)
is_statement (stated.goal s e o) h k =
    or_from (plain_has_long e) (optional_has_long o) (plain_not_long e h.0) (optional_not_long o h.1)
is_statement (stated.row n l r p o) h k =
    or_from (is_long_name n) (plain_has_long l || (plain_has_long p || optional_has_long o)) (not_long n h.0)
    (sides_not_long l p o h.1)

-- ---- no fault is named
none_found : {A : Type 0} (p : A → Bool) (x : A) (xs : List A) → p x ≡ false → find p xs ≡ None → find p (x ∷ xs) ≡ None
none_found p x xs h rest = ap (λ (b : Bool). cond b (Some x) (find p xs)) h ∙ rest

module _ (limit : ℕ) (words : List Name) (is_declared : ℕ → Bool) (total : ℕ) (s : Indexed Tree)
    (plain : IsPlainLine s) where
  tokens : lines_tokens limit (expand words s) ≡ line_tokens limit (itself_line words s)
  tokens = ap (lines_tokens limit) (line_itself words s plain) ∙ omega arith

  nowhere : (test : Inside → Bool) → list_any test (places s) ≡ false
  nowhere test = ap (list_any test) (no_places [] s plain)

  pub plain_faultless : total + line_tokens limit (itself_line words s) ≤ most_tokens
      → is_no_statement (itself_line words s) ≡ false → named limit words is_declared total s ≡ None
  plain_faultless few is =
      let fits : total + lines_tokens limit (expand words s) ≤ most_tokens = omega (arith, few, tokens) in
      let room : has_room limit words is_declared total s ≡ true =
      le-leb (total + lines_tokens limit (expand words s)) most_tokens fits in
      let has = has_fault limit words is_declared total s in
      let out = or_from (list_any has_great_digits (places s)) (list_any is_out (places s))
      (nowhere has_great_digits) (nowhere is_out) in
      let much = le-ltb most_tokens (total + lines_tokens limit (expand words s)) fits in
      let one = ap (list_any is_no_statement) (line_itself words s plain)
      ∙ or_false (is_no_statement (itself_line words s)) ∙ is in
      named_first limit words is_declared total s room
      ∙ none_found has index_unknown (range_too_long ∷ index_out ∷ too_much ∷ no_statement ∷ [])
      (nowhere (is_unknown is_declared))
      (none_found has range_too_long (index_out ∷ too_much ∷ no_statement ∷ []) (nowhere is_long)
      (none_found has index_out (too_much ∷ no_statement ∷ []) out
      (none_found has too_much (no_statement ∷ []) much (none_found has no_statement [] one refl))))
