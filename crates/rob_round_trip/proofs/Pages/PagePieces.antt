-- A page is cut into the pieces that were written on it: each shows on both sides where it ends.
use Rattle.std.proofs.Common.{◌≡◌, ℕ, ◌^◌, ◌<◌, Bool, true, false, List, [], ◌∷◌, ◌++◌, length, refl, sym, ap, ◌∙◌, arith, append-nil, append_assoc}
use Rattle.std.specs.Prelude.{fold, if◌then◌else◌}
use Rattle.std.specs.Fmt.{decimal}
use Rattle.std.proofs.lemmas.Bool.Decides.{nat_tests}
use Rattle.std.proofs.lemmas.List.Sums.{fold-append}
use Rattle.std.proofs.lemmas.Fmt.{decimal_nonempty}
use Rattle.rob_lex.specs.declared.token.Kind.TheVariants as kind
use Rattle.rob_lex.specs.declared.piece.Shape.TheVariants.{Lexeme, Gap}
use Rattle.rob_lex.specs.Bytes.{goes_on_word, is_digit}
use Rattle.rob_lex.specs.Pieces.{Piece, IsRun, Stands, IsPlace}
use Rattle.rob_syntax.specs.declared.symbol.Keyword.{Keyword}
use Rattle.rob_syntax.specs.declared.symbol.Keyword.TheVariants as word
use Rattle.rob_syntax.specs.declared.symbol.Mark.{Mark}
use Rattle.rob_syntax.specs.declared.symbol.Mark.TheVariants as mark
use Rattle.rob_write.specs.declared.page.Edge.{Edge}
use Rattle.rob_write.specs.declared.page.Edge.TheVariants.{Tight, Named, Apart}
use Rattle.rob_write.specs.declared.page.Page.{Page}
use Rattle.rob_write.specs.Pages.{Written, name, digits, keyword, sign, negative, line_end, keyword_text, mark_text, bytes_of, edge_behind, is_close, gap, put, put_line}
use Rattle.rob_syntax.specs.Names.{GoesOn, IsWord}
use Rattle.rob_round_trip.specs.Pages.{IsUsed, ended, kind_of}
use Rattle.rob_round_trip.proofs.Pages.DigitLemmas.{AreDigits, decimal_digits}

-- ---- the bytes behind an edge
abbrev pub render : Edge → List Written → List ℕ
render e [] = []
render e (w ∷ ws) = gap (is_close e w) ++ (bytes_of w ++ render (edge_behind w) ws)

pub text_is : (page : Page) (ws : List Written) → (fold put page ws).text ≡ page.text ++ render page.edge ws
text_is page [] = sym (append-nil page.text)
text_is page (w ∷ ws) =
    text_is (put page w) ws
    ∙ append_assoc page.text (gap (is_close page.edge w) ++ bytes_of w) (render (edge_behind w) ws)
    ∙ ap (λ (l : List ℕ). page.text ++ l)
    (append_assoc (gap (is_close page.edge w)) (bytes_of w) (render (edge_behind w) ws))

pub lines_put : (page : Page) (ls : List (List Written)) → fold put_line page ls ≡ fold put page (ended ls)
lines_put page [] = refl
lines_put page (l ∷ ls) = lines_put (put_line page l) ls ∙ sym (fold-append put page l (line_end ∷ ended ls))

-- ---- what may be written on a page, line ends among it
abbrev pub IsFit : Written → Type 0
IsFit line_end = Unit {0}
IsFit (name bytes) = IsWord bytes
IsFit (digits n) = n < 2 ^ 64
IsFit (keyword k) = IsUsed k
IsFit (sign m) = Unit {0}
IsFit negative = Unit {0}

abbrev pub AreFit : List Written → Type 0
AreFit [] = Unit {0}
AreFit (w ∷ ws) = IsFit w × AreFit ws

-- ---- the pieces
abbrev pub piece_of : Written → Piece
piece_of w = record { shape = Lexeme (kind_of w); bytes = bytes_of w }

abbrev pub gap_pieces : Bool → List Piece
gap_pieces close = if close then [] else (record { shape = Gap; bytes = 32 ∷ [] } ∷ [])

abbrev pub pieces : Edge → List Written → List Piece
pieces e [] = []
pieces e (w ∷ ws) = gap_pieces (is_close e w) ++ piece_of w ∷ pieces (edge_behind w) ws

-- no word and no digits go on behind a name, and behind nothing that a space follows
abbrev IsOpenEdge : Edge → Type 0
IsOpenEdge Tight = ⊥
IsOpenEdge Named = Unit {0}
IsOpenEdge Apart = Unit {0}

sign_free : (e : Edge) (m : Mark) (rest : List ℕ) → IsOpenEdge e
    → IsRun goes_on_word [] (gap (is_close e (sign m)) ++ (mark_text m ++ rest))
sign_free Tight m rest e = absurd e
sign_free Named mark.Plus rest e = refl
sign_free Named mark.Minus rest e = refl
sign_free Named mark.Star rest e = refl
sign_free Named mark.Slash rest e = refl
sign_free Named mark.Open rest e = refl
sign_free Named mark.Close rest e = refl
sign_free Named mark.OpenBracket rest e = refl
sign_free Named mark.CloseBracket rest e = refl
sign_free Named mark.Comma rest e = refl
sign_free Named mark.Colon rest e = refl
sign_free Named mark.Equal rest e = refl
sign_free Named mark.AtMost rest e = refl
sign_free Named mark.AtLeast rest e = refl
sign_free Apart mark.Plus rest e = refl
sign_free Apart mark.Minus rest e = refl
sign_free Apart mark.Star rest e = refl
sign_free Apart mark.Slash rest e = refl
sign_free Apart mark.Open rest e = refl
sign_free Apart mark.Close rest e = refl
sign_free Apart mark.OpenBracket rest e = refl
sign_free Apart mark.CloseBracket rest e = refl
sign_free Apart mark.Comma rest e = refl
sign_free Apart mark.Colon rest e = refl
sign_free Apart mark.Equal rest e = refl
sign_free Apart mark.AtMost rest e = refl
sign_free Apart mark.AtLeast rest e = refl

free : (e : Edge) (ws : List Written) → IsOpenEdge e → IsRun goes_on_word [] (render e ws)
free e [] o = tt
free Tight (w ∷ ws) o = absurd o
free Named (name bytes ∷ ws) o = refl
free Named (digits n ∷ ws) o = refl
free Named (keyword k ∷ ws) o = refl
free Named (sign m ∷ ws) o = sign_free Named m (render (edge_behind (sign m)) ws) tt
free Named (negative ∷ ws) o = refl
free Named (line_end ∷ ws) o = refl
free Apart (name bytes ∷ ws) o = refl
free Apart (digits n ∷ ws) o = refl
free Apart (keyword k ∷ ws) o = refl
free Apart (sign m ∷ ws) o = sign_free Apart m (render (edge_behind (sign m)) ws) tt
free Apart (negative ∷ ws) o = refl
free Apart (line_end ∷ ws) o = refl

no_digit : (b : ℕ) → goes_on_word b ≡ false → is_digit b ≡ false
no_digit b h = grind (arith, nat_tests)

digits_free : (after : List ℕ) → IsRun goes_on_word [] after → IsRun is_digit [] after
digits_free [] f = tt
digits_free (b ∷ after) f = no_digit b f

word_run : (bytes after : List ℕ) → GoesOn bytes → IsRun goes_on_word [] after → IsRun goes_on_word bytes after
word_run [] after h f = f
word_run (b ∷ bytes) after h f = (h.0, word_run bytes after h.1 f)

word_stands : (bytes after : List ℕ) → IsWord bytes → IsRun goes_on_word [] after
    → Stands (Lexeme kind.Word) bytes after
word_stands [] after h f = absurd h
word_stands (b ∷ bytes) after h f = (h.0, word_run bytes after h.1 f)

digit_run : (bytes after : List ℕ) → AreDigits bytes → IsRun is_digit [] after → IsRun is_digit bytes after
digit_run [] after h f = f
digit_run (b ∷ bytes) after h f = (h.0, digit_run bytes after h.1 f)

digits_stand : (bytes after : List ℕ) → 0 < length bytes → AreDigits bytes → IsRun is_digit [] after
    → Stands (Lexeme kind.Digits) bytes after
digits_stand [] after some h f = absurd (omega arith)
digits_stand (b ∷ bytes) after some h f = (h.0, digit_run bytes after h.1 f)

pub keyword_word : (k : Keyword) → IsUsed k → IsWord (keyword_text k)
keyword_word word.Uncertain u = (refl, (refl, (refl, (refl, (refl, (refl, (refl, (refl, (refl, tt)))))))))
keyword_word word.Set u = (refl, (refl, (refl, tt)))
keyword_word word.Budget u = (refl, (refl, (refl, (refl, (refl, (refl, tt))))))
keyword_word word.Var u = (refl, (refl, (refl, tt)))
keyword_word word.Adaptive u = (refl, (refl, (refl, (refl, (refl, (refl, (refl, (refl, tt))))))))
keyword_word word.Minimise u = (refl, (refl, (refl, (refl, (refl, (refl, (refl, (refl, tt))))))))
keyword_word word.Maximise u = (refl, (refl, (refl, (refl, (refl, (refl, (refl, (refl, tt))))))))
keyword_word word.Row u = (refl, (refl, (refl, tt)))
keyword_word word.In u = (refl, (refl, tt))
keyword_word word.At u = (refl, (refl, tt))
keyword_word word.By u = (refl, (refl, tt))
keyword_word word.Over u = (refl, (refl, (refl, (refl, tt))))
keyword_word word.Sum u = absurd u
keyword_word word.For u = absurd u
keyword_word word.To u = absurd u
keyword_word word.Model u = absurd u
keyword_word word.Unused u = absurd u

sign_stands : (m : Mark) (after : List ℕ) → Stands (Lexeme kind.Sign) (mark_text m) after
sign_stands mark.Plus after = refl
sign_stands mark.Minus after = refl
sign_stands mark.Star after = refl
sign_stands mark.Slash after = refl
sign_stands mark.Open after = refl
sign_stands mark.Close after = refl
sign_stands mark.OpenBracket after = refl
sign_stands mark.CloseBracket after = refl
sign_stands mark.Comma after = refl
sign_stands mark.Colon after = refl
sign_stands mark.Equal after = refl
sign_stands mark.AtMost after = (refl, refl)
sign_stands mark.AtLeast after = (refl, refl)

pub stands : (w : Written) (ws : List Written) → IsFit w
    → Stands (Lexeme (kind_of w)) (bytes_of w) (render (edge_behind w) ws)
stands (name bytes) ws h = word_stands bytes (render Named ws) h (free Named ws tt)
stands (digits n) ws h =
    digits_stand (decimal n) (render Apart ws) (decimal_nonempty n h) (decimal_digits n h)
    (digits_free (render Apart ws) (free Apart ws tt))
stands (keyword k) ws h = word_stands (keyword_text k) (render Apart ws) (keyword_word k h) (free Apart ws tt)
stands (sign m) ws h = sign_stands m (render (edge_behind (sign m)) ws)
stands negative ws h = refl
stands line_end ws h = refl

-- the page is cut into its pieces
pub place : (e : Edge) (ws : List Written) → AreFit ws → IsPlace (render e ws) (pieces e ws) []
place e [] h = refl
place e (w ∷ ws) h = go (is_close e w) (render (edge_behind w) ws, refl, stands w ws h.0, place (edge_behind w) ws h.1)
  where
    go : (close : Bool) → IsPlace (bytes_of w ++ render (edge_behind w) ws) (piece_of w ∷ pieces (edge_behind w) ws) []
        → IsPlace (gap close ++ (bytes_of w ++ render (edge_behind w) ws))
        (gap_pieces close ++ piece_of w ∷ pieces (edge_behind w) ws) []
    go true more = more
    go false more = (bytes_of w ++ render (edge_behind w) ws, refl, refl, more)
