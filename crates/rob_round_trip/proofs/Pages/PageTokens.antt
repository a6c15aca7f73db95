-- The tokens of a page are what was written on it.
use Rattle.std.proofs.Common.{◌≡◌, ℕ, suc, ◌+◌, ◌<◌, ◌≤◌, Bool, true, false, List, [], ◌∷◌, ◌++◌, length, get_or, map, refl, sym, ap, ◌∙◌, subst, arith}
use Rattle.std.specs.Fmt.{decimal}
use Rattle.std.proofs.lemmas.Fmt.{decimal_nonempty}
use Rattle.rob_lex.specs.declared.token.Kind.{Kind}
use Rattle.rob_lex.specs.declared.token.Kind.TheVariants as kind
use Rattle.rob_lex.specs.declared.token.Token.{Token}
use Rattle.rob_lex.specs.declared.piece.Shape.TheVariants.{Lexeme, Gap}
use Rattle.rob_lex.specs.declared.place.Place.{Place}
use Rattle.rob_lex.specs.Bytes.{begins_word, is_digit}
use Rattle.rob_index.specs.Depths.{weight}
use Rattle.rob_lex.specs.Places.{start, depth_at, behind}
use Rattle.rob_lex.specs.Offences.{most_tokens, most_open, AreTokens, Cause, not_ascii, bad_byte, too_many_tokens, too_deep}
use Rattle.rob_lex.specs.Slices.{Lexed, lexed, lexed_of}
use Rattle.rob_lex.proofs.OffenceLemmas.{free_of}
use Rattle.rob_lex.proofs.OneReading.{same_place}
use Rattle.rob_lex.proofs.PlaceLemmas.{Reached, reached_start, reached_next, read_whole}
use Rattle.rob_lex.proofs.SliceLemmas.{slices}
use Rattle.rob_syntax.specs.declared.symbol.Mark.TheVariants as mark
use Rattle.rob_write.specs.declared.page.Edge.{Edge}
use Rattle.rob_write.specs.declared.page.Edge.TheVariants.{Tight}
use Rattle.rob_write.specs.declared.page.Page.{Page}
use Rattle.rob_meaning.specs.Places.{Each}
use Rattle.rob_write.specs.Pages.{Written, name, digits, keyword, sign, negative, line_end, keyword_text, bytes_of, edge_behind, is_close, gap, blank}
use Rattle.rob_syntax.specs.Names.{IsWord}
use Rattle.rob_round_trip.specs.Pages.{IsToken, IsWritable, depth_behind, MayOpen, IsShallow, IsLine, ended, page_text, kind_of}
use Rattle.rob_round_trip.proofs.Pages.DigitLemmas.{AreDigits, decimal_digits}
use Rattle.rob_round_trip.proofs.Pages.QuietWords.{AreQuiet, IsQuiet, all_tokens, quiet_lines}
use Rattle.rob_round_trip.proofs.Pages.SinglePlaces.{IsSingle, steps}
use Rattle.rob_round_trip.proofs.Pages.PagePieces.{render, text_is, lines_put, IsFit, AreFit, piece_of, gap_pieces, pieces, keyword_word, stands, place}

-- ---- no place offends
-- only an opening parenthesis begins as one
word_first : (bytes after : List ℕ) → IsWord bytes → get_or (bytes ++ after) 0 0 ≡ 40 → ⊥
word_first [] after h e = h
word_first (b ∷ bytes) after h e = let p : begins_word 40 ≡ true = subst (λ (x : ℕ). begins_word x ≡ true) e h.0 in cc

digit_first : (bytes after : List ℕ) → 0 < length bytes → AreDigits bytes → get_or (bytes ++ after) 0 0 ≡ 40 → ⊥
digit_first [] after some h e = omega arith
digit_first (b ∷ bytes) after some h e = let p : is_digit 40 ≡ true = subst (λ (x : ℕ). is_digit x ≡ true) e h.0 in cc

no_deep : (d : ℕ) (w : Written) (after : List ℕ) → IsFit w → MayOpen d w → most_open ≤ d
    → get_or (bytes_of w ++ after) 0 0 ≡ 40 → ⊥
no_deep d (name bytes) after h may deep first = word_first bytes after h first
no_deep d (digits n) after h may deep first =
    digit_first (decimal n) after (decimal_nonempty n h) (decimal_digits n h) first
no_deep d (keyword k) after h may deep first = word_first (keyword_text k) after (keyword_word k h) first
no_deep d (sign mark.Open) after h may deep first = omega arith
no_deep d (sign mark.Plus) after h may deep first = omega arith
no_deep d (sign mark.Minus) after h may deep first = omega arith
no_deep d (sign mark.Star) after h may deep first = omega arith
no_deep d (sign mark.Slash) after h may deep first = omega arith
no_deep d (sign mark.Close) after h may deep first = omega arith
no_deep d (sign mark.OpenBracket) after h may deep first = omega arith
no_deep d (sign mark.CloseBracket) after h may deep first = omega arith
no_deep d (sign mark.Comma) after h may deep first = omega arith
no_deep d (sign mark.Colon) after h may deep first = omega arith
no_deep d (sign mark.Equal) after h may deep first = omega arith
no_deep d (sign mark.AtMost) after h may deep first = omega arith
no_deep d (sign mark.AtLeast) after h may deep first = omega arith
no_deep d negative after h may deep first = omega arith
no_deep d line_end after h may deep first = omega arith

-- whether a line is begun
abbrev pub is_begun : Written → Bool
is_begun line_end = false
is_begun _ = true

-- the last line has its end
abbrev pub EndsLine : Bool → List Written → Type 0
EndsLine begun [] = begun ≡ false
EndsLine begun (w ∷ ws) = EndsLine (is_begun w) ws

begun_is : (at : Place) (w : Written) → (behind at (Lexeme (kind_of w)) (bytes_of w)).begun ≡ is_begun w
begun_is at (name bytes) = refl
begun_is at (digits n) = refl
begun_is at (keyword k) = refl
begun_is at (sign m) = refl
begun_is at negative = refl
begun_is at line_end = refl

abbrev HasTokens : List ℕ → Type 0
HasTokens text = (list : List Token) × AreTokens text list

-- the rest of the page, from a place that was reached
abbrev Goes : List ℕ → Edge → List Written → Type 0
Goes text e ws =
    (at : Place) (tokens : List Token) → Reached text (render e ws) at tokens
    → at.count + length ws ≤ most_tokens → IsSingle at → IsShallow (depth_at at) ws
    → EndsLine at.begun ws → HasTokens text

no_cause_at_end : (at : Place) → at.begun ≡ false → Cause at [] → ⊥
no_cause_at_end at none (not_ascii h) = h
no_cause_at_end at none (bad_byte h k) = h
no_cause_at_end at none (too_many_tokens h k) = let p : true ≡ false = sym k ∙ none in cc
no_cause_at_end at none (too_deep h k b) = b

no_lexeme : (k : Kind) → Gap ≡ Lexeme k → ⊥
no_lexeme k e = cc

word_step : (text : List ℕ) (w : Written) (ws : List Written) → IsFit w → IsQuiet w → Goes text (edge_behind w) ws
    → (at : Place) (tokens : List Token) → Reached text (bytes_of w ++ render (edge_behind w) ws) at tokens
    → at.count + suc (length ws) ≤ most_tokens → IsSingle at → MayOpen (depth_at at) w
    → IsShallow (depth_behind (depth_at at) w) ws → EndsLine (is_begun w) ws → HasTokens text
word_step text w ws h quiet more at tokens r few single may shallow ends =
    let s = steps at w single quiet in
    let once = ap weight single.quiet in
    more (behind at (Lexeme (kind_of w)) (bytes_of w)) _
    (reached_next r (Lexeme (kind_of w)) (bytes_of w) (render (edge_behind w) ws) refl (stands w ws h)
    (free_of at (bytes_of w ++ render (edge_behind w) ws) (Lexeme (kind_of w)) (bytes_of w)
    (render (edge_behind w) ws) refl (stands w ws h)
    (λ k same. omega (arith, few))
    (λ deep first. no_deep (depth_at at) w (render (edge_behind w) ws) h may (omega (arith, deep, once)) first)))
    (omega (arith, few, s.count)) s.single
    (subst (λ (d : ℕ). IsShallow d ws) (sym s.depth) shallow)
    (subst (λ (b : Bool). EndsLine b ws) (sym (begun_is at w)) ends)

gap_step : (text : List ℕ) (close : Bool) (rest : List ℕ) (at : Place) (tokens : List Token)
    → Reached text (gap close ++ rest) at tokens
    → IsSingle at → (next : Place) × (list : List Token) × Reached text rest next list × (next.count ≡ at.count)
    × IsSingle next × (depth_at next ≡ depth_at at)
gap_step text true rest at tokens r single = (at, tokens, r, refl, single, refl)
gap_step text false rest at tokens r single = (
  behind at Gap (32 ∷ []),
  _,
  reached_next r Gap (32 ∷ []) rest refl refl
      (free_of at (32 ∷ rest) Gap (32 ∷ []) rest refl refl (λ k same. absurd (no_lexeme k same))
      (λ deep first. omega arith)),
  refl,
  record { ones = single.ones; quiet = single.quiet },
  refl,
)

goes : (text : List ℕ) (e : Edge) (ws : List Written) → AreFit ws → AreQuiet ws → Goes text e ws
goes text e [] h quiet at tokens r few single shallow ends = (tokens, read_whole r (no_cause_at_end at ends))
goes text e (w ∷ ws) h quiet at tokens r few single shallow ends =
    let g = gap_step text (is_close e w) (bytes_of w ++ render (edge_behind w) ws) at tokens r single in
    word_step text w ws h.0 quiet.0 (goes text (edge_behind w) ws h.1 quiet.1) g.0 g.1 g.2 (omega (arith, few, g.3)) g.4
    (subst (λ (d : ℕ). MayOpen d w) (sym g.5) shallow.0)
    (subst (λ (d : ℕ). IsShallow (depth_behind d w) ws) (sym g.5) shallow.1) ends

-- ---- the tokens of the page are what was written
abbrev pub lexed_written : Written → Lexed
lexed_written w = record { kind = kind_of w; bytes = bytes_of w }

pub lexed_pieces : (e : Edge) (ws : List Written) → lexed_of (pieces e ws) ≡ map lexed_written ws
lexed_pieces e [] = refl
lexed_pieces e (w ∷ ws) =
    go (is_close e w) (ap (λ (l : List Lexed). lexed_written w ∷ l) (lexed_pieces (edge_behind w) ws))
  where
    go : (close : Bool) → lexed_of (piece_of w ∷ pieces (edge_behind w) ws) ≡ lexed_written w ∷ map lexed_written ws
        → lexed_of (gap_pieces close ++ piece_of w ∷ pieces (edge_behind w) ws) ≡ lexed_written w ∷ map lexed_written ws
    go true more = more
    go false more = more

pub page_read : (ws : List Written) → AreFit ws → AreQuiet ws → length ws ≤ most_tokens → IsShallow 0 ws
    → EndsLine false ws → (tokens : List Token) × AreTokens (render Tight ws) tokens
page_read ws h quiet few shallow ends =
    goes (render Tight ws) Tight ws h quiet start [] (reached_start (render Tight ws)) (omega (arith, few))
    (record { ones = tt; quiet = refl }) shallow ends

-- a page has no other tokens
tokens_only : (ws : List Written) → AreFit ws → (tokens : List Token) → AreTokens (render Tight ws) tokens
    → map (lexed (render Tight ws)) tokens ≡ map lexed_written ws
tokens_only ws h tokens are =
    let text = render Tight ws in
    let one = same_place text (pieces Tight ws) [] are.pieces [] (place Tight ws h) are.whole refl in
    ap (map (lexed text)) (sym are.tokens) ∙ slices text are.pieces are.whole
    ∙ ap lexed_of one.0 ∙ lexed_pieces Tight ws

-- ---- lines and their ends
fit_word : (w : Written) → IsToken w → IsFit w
fit_word (name bytes) h = h
fit_word (digits n) h = h
fit_word (keyword k) h = h
fit_word (sign m) h = h
fit_word negative h = h
fit_word line_end h = tt

fit_line : (l rest : List Written) → Each IsToken l → AreFit rest → AreFit (l ++ line_end ∷ rest)
fit_line [] rest h k = (tt, k)
fit_line (w ∷ l) rest h k = (fit_word w h.0, fit_line l rest h.1 k)

fit_lines : (ls : List (List Written)) → Each (Each IsToken) ls → AreFit (ended ls)
fit_lines [] h = tt
fit_lines (l ∷ ls) h = fit_line l (ended ls) h.0 (fit_lines ls h.1)

pub all_writable : (ls : List (List Written)) → Each IsLine ls → Each (Each IsWritable) ls
all_writable [] h = tt
all_writable (l ∷ ls) h = (h.0.writable, all_writable ls h.1)

shallow_line : (d : ℕ) (l rest : List Written) → IsShallow d l → IsShallow 0 rest → IsShallow d (l ++ line_end ∷ rest)
shallow_line d [] rest h k = (tt, k)
shallow_line d (w ∷ l) rest h k = (h.0, shallow_line (depth_behind d w) l rest h.1 k)

shallow_lines : (ls : List (List Written)) → Each IsLine ls → IsShallow 0 (ended ls)
shallow_lines [] h = tt
shallow_lines (l ∷ ls) h = shallow_line 0 l (ended ls) h.0.shallow (shallow_lines ls h.1)

ends_line : (b : Bool) (l rest : List Written) → EndsLine false rest → EndsLine b (l ++ line_end ∷ rest)
ends_line b [] rest k = k
ends_line b (w ∷ l) rest k = ends_line (is_begun w) l rest k

ends_lines : (ls : List (List Written)) → EndsLine false (ended ls)
ends_lines [] = refl
ends_lines (l ∷ ls) = ends_line false l (ended ls) (ends_lines ls)

pub page_is : (ls : List (List Written)) → page_text ls ≡ render Tight (ended ls)
page_is ls = ap (λ (p : Page). p.text) (lines_put blank ls) ∙ text_is blank (ended ls)

pub lines_read : (ls : List (List Written)) → Each IsLine ls → length (ended ls) ≤ most_tokens → (tokens : List Token)
    × AreTokens (page_text ls) tokens
lines_read ls h few =
    let w = all_writable ls h in
    let r = page_read (ended ls) (fit_lines ls (all_tokens ls w)) (quiet_lines ls w) few
    (shallow_lines ls h) (ends_lines ls) in
    (r.0, subst (λ (t : List ℕ). AreTokens t r.0) (sym (page_is ls)) r.1)

pub lines_only : (ls : List (List Written)) → Each (Each IsToken) ls → (tokens : List Token)
    → AreTokens (page_text ls) tokens → map (lexed (page_text ls)) tokens ≡ map lexed_written (ended ls)
lines_only ls h tokens are =
    ap (λ (t : List ℕ). map (lexed t) tokens) (page_is ls)
    ∙ tokens_only (ended ls) (fit_lines ls h) tokens (subst (λ (t : List ℕ). AreTokens t tokens) (page_is ls) are)
