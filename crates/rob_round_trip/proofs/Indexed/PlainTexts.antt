-- A text of version 1 that reads as statements reads as these by rob_index' reading of lines.
use Rattle.std.proofs.Common.{◌≡◌, ◌≤◌, ◌+◌, ℕ, ⊎_elim, Bool, true, false, List, [], ◌∷◌, ◌++◌, length, map, refl, sym, ap, subst, arith}
use Rattle.std.specs.Prelude.{codes, if◌then◌else◌, None}
use Rattle.std.specs.List.{flat_map}
use Rattle.std.specs.Str.{bytes_eq}
use Rattle.std.proofs.lemmas.Bool.{cases_Bool}
use Rattle.std.proofs.lemmas.List.{length-replicate}
use Rattle.std.proofs.lemmas.Slice.Eq.{bytes_eq-Decides}
use Rattle.rob_index.specs.Reading.{Version, one, two, IsOf, is_version_line, version_of, ReadsLines}
use Rattle.rob_index.specs.Rules.{most_tokens}
use Rattle.rob_index.specs.Statements as stated
use Rattle.rob_index.specs.Statements.{Name as Bytes}
use Rattle.rob_lex.specs.declared.token.Kind.{Kind}
use Rattle.rob_lex.specs.declared.token.Kind.TheVariants as kind
use Rattle.rob_lex.specs.declared.token.Token.{Token}
use Rattle.rob_meaning.specs.Places.{Each}
use Rattle.rob_parse.proofs.Names.NamedLemmas.{lines_sound}
use Rattle.rob_parse.proofs.Names.WordSetLemmas.{words_distinct, words_in}
use Rattle.rob_round_trip.proofs.Indexed.PlainFollows.{lines_follow}
use Rattle.rob_round_trip.proofs.Lengths.TokenPlaces.{cost, lines_few}
use Rattle.rob_rules.specs.Faults.{in_order}
use Rattle.rob_rules.specs.Names.{Named, named_behind}
use Rattle.rob_rules.specs.Reading.{Follows, ReadsPlain}
use Rattle.rob_rules.specs.Scopes.{Earlier, start}
use Rattle.rob_rules.specs.Texts as texts
use Rattle.rob_rules.specs.Texts.{has_goal, has_later, in_front, is_declared}
use Rattle.rob_rules.specs.declared.fault.Fault.{Fault}
use Rattle.rob_syntax.proofs.VersionLemmas.{body_of_version_one}
use Rattle.rob_syntax.specs.SeenSymbols.{seen_line}
use Rattle.rob_syntax.specs.Statements.{Line, spell_line}
use Rattle.rob_syntax.specs.Statements as line
use Rattle.rob_syntax.specs.Symbols.{add_token, bytes_of, lines_of, symbol_at, symbols_of, token_lines, word_in, words_of}
use Rattle.rob_syntax.specs.Versions.{body, line_bytes, text_version}
use Rattle.rob_syntax.specs.declared.symbol.Keyword.TheVariants as word
use Rattle.rob_syntax.specs.declared.symbol.Symbol.{Symbol}
use Rattle.rob_syntax.specs.declared.symbol.Symbol.TheVariants.{Reserved}
use Rattle.rob_syntax.specs.declared.syntax.Sense.TheVariants as sense
use Rattle.rob_syntax.specs.declared.syntax.Statement.{Statement}

-- ---- no line has a line end inside
abbrev IsInner : Kind → Type 0
IsInner kind.LineEnd = ⊥
IsInner _ = Unit {0}

abbrev HasInner : Token → Type 0
HasInner t = IsInner t.kind

add_inner : (k : Kind) (t : Token) (lines : List (List Token)) → t.kind ≡ k → Each (Each HasInner) lines
    → Each (Each HasInner) (add_token k t lines)
add_inner kind.LineEnd t lines is all = (tt, all)
add_inner kind.Word t [] is all = ((subst IsInner (sym is) tt, tt), tt)
add_inner kind.Word t (l ∷ lines) is all = ((subst IsInner (sym is) tt, all.0), all.1)
add_inner kind.Digits t [] is all = ((subst IsInner (sym is) tt, tt), tt)
add_inner kind.Digits t (l ∷ lines) is all = ((subst IsInner (sym is) tt, all.0), all.1)
add_inner kind.Sign t [] is all = ((subst IsInner (sym is) tt, tt), tt)
add_inner kind.Sign t (l ∷ lines) is all = ((subst IsInner (sym is) tt, all.0), all.1)

all_inner : (ts : List Token) → Each (Each HasInner) (token_lines ts)
all_inner [] = (tt, tt)
all_inner (t ∷ ts) = add_inner t.kind t (token_lines ts) refl (all_inner ts)

-- ---- no statement begins with `model`
abbrev MayBegin : List Symbol → Type 0
MayBegin (Reserved word.Model ∷ xs) = ⊥
MayBegin (Reserved w ∷ xs) = Unit {0}
MayBegin _ = ⊥

begins : (l : Line) → MayBegin (spell_line l)
begins (line.uncertain d) = tt
begins (line.over k) = tt
begins (line.set s) = tt
begins (line.budget s) = tt
begins (line.variable d) = tt
begins (line.adaptive p) = tt
begins (line.goal sense.Minimise e) = tt
begins (line.goal sense.Maximise e) = tt
begins (line.row t) = tt

module _ (limit : ℕ) where
  first_begins : (e : Earlier) (x : Symbol) (xs : List Symbol) (lines : List (List Symbol)) (list : List Statement)
      (f : Earlier) → Follows limit e ((x ∷ xs) ∷ lines) list f → MayBegin (x ∷ xs)
  first_begins e x xs lines [] f h = absurd h
  first_begins e x xs lines (s ∷ list) f h = subst MayBegin (sym h.0.spelled) (begins h.0.line)

  module _ (text : List ℕ) (words : List (List ℕ)) where
    -- nor does a line that is one
    no_model : (k : Kind) → IsInner k
        → (e : Earlier) (xs : List Symbol) (lines : List (List Symbol)) (list : List Statement)
        (f : Earlier) → Follows limit e ((symbol_at one words k (codes "model") ++ xs) ∷ lines) list f → ⊥
    no_model kind.Word inner e xs lines list f h = first_begins e _ xs lines list f h
    no_model kind.Digits inner e xs lines list f h = first_begins e _ xs lines list f h
    no_model kind.Sign inner e xs lines list f h = first_begins e _ xs lines list f h
    no_model kind.LineEnd inner e xs lines list f h = absurd inner

    other_line : (a : Bytes) (bs : List Bytes) → bytes_eq a (codes "model") ≡ false → is_version_line (a ∷ bs) ≡ false
    other_line a [] h = refl
    other_line a (b ∷ []) h = ap (λ (c : Bool). if c then bytes_eq b (codes "2") else false) h
    other_line a (b ∷ c ∷ bs) h = refl

    version_is : (e : Earlier) (ls : List (List Token)) (list : List Statement) (f : Earlier) → Each (Each HasInner) ls
        → Follows limit e (map (symbols_of text one words) ls) list f → version_of (map (line_bytes text) ls) ≡ one
    version_is e [] list f inner h = refl
    version_is e ([] ∷ ls) list f inner h = version_is e ls list f inner.1 h
    version_is e ((t ∷ ts) ∷ ls) list f inner h =
        let more = symbols_of text one words ts in
        let rest = map (symbols_of text one words) ls in
        let other : bytes_eq (bytes_of text t) (codes "model") ≡ false =
        ⊎_elim
        (λ (yes : bytes_eq (bytes_of text t) (codes "model") ≡ true).
        absurd (no_model t.kind inner.0.0 e more rest list f
        (subst (λ (bytes : List ℕ). Follows limit e ((symbol_at one words t.kind bytes ++ more) ∷ rest) list f)
        ((bytes_eq-Decides (bytes_of text t) (codes "model")).0 yes) h)))
        (λ (no : bytes_eq (bytes_of text t) (codes "model") ≡ false). no)
        (cases_Bool (bytes_eq (bytes_of text t) (codes "model"))) in
        ap (λ (b : Bool). if b then two else one) (other_line (bytes_of text t) (map (bytes_of text) ts) other)

    -- the text has version 1
    pub version_one : (e : Earlier) (tokens : List Token) (list : List Statement) (f : Earlier)
        → Follows limit e (lines_of text one words tokens) list f → text_version text tokens ≡ one
    version_one e tokens list f h = version_is e (token_lines tokens) list f (all_inner tokens) h

  -- the lines of these tokens, read as this version, are the statements
  abbrev ReadAs : (text : List ℕ) (words : List (List ℕ)) → List stated.Statement → Earlier → ℕ → Version
      → List (List Token) → Type 0
  ReadAs text words plain known total v lines =
      ReadsLines limit words Named Fault in_order (has_later limit) named_behind is_declared (IsOf v) has_goal
      (in_front limit v words) (map seen_line (map (symbols_of text v words) lines)) plain
      (record { known = record { words = words; earlier = known }; total = total })

  -- the text reads as before
  pub text_reads : (text : List ℕ) (words : List (List ℕ)) (list : List Statement) (known : Earlier)
      → ReadsPlain limit text words list known → texts.Reads limit text words list known
  text_reads text words list known r =
      let tokens = r.tokens in
      let ws = words_of text tokens in
      let own = flat_map (word_in text) tokens in
      let lines = lines_of text one ws tokens in
      let follows =
      subst (λ (w : List (List ℕ)). Follows limit (start (length w)) (lines_of text one w tokens) list known)
      (sym r.words_are) r.follows in
      let fits : 0 + cost lines ≤ most_tokens = omega (arith, (lines_few ws text tokens r.are_tokens).few) in
      let l = lines_follow limit ws (words_distinct own [] tt) (start (length ws)) 0 lines list known
      (length-replicate (length ws) None) (lines_sound ws text tokens (words_in own [])) fits follows in
      let version = version_one text ws (start (length ws)) tokens list known follows in
      let body_is = body_of_version_one text (token_lines tokens) version in
      let first : ReadAs text ws l.plain known l.last one (token_lines tokens) = record {
        follows = l.reads;
        goal = r.goal;
      } in
      let second = subst (ReadAs text ws l.plain known l.last one) (sym body_is) first in
      let read = subst (λ (v : Version). ReadAs text ws l.plain known l.last v (body text false (token_lines tokens)))
      (sym version) second in
      subst (λ (w : List (List ℕ)). texts.Reads limit text w list known) r.words_are (record {
        tokens = tokens;
        are_tokens = r.are_tokens;
        plain = l.plain;
        total = l.last;
        lines = read;
        list_is = l.numbered_is;
      })
