-- Nothing that is written in a line is the word `sum`.
use Rattle.std.proofs.Common.{◌≡◌, ℕ, true, false, List, [], ◌∷◌, ◌++◌, refl, sym, ap, ◌∙◌, subst, ⊎_elim}
use Rattle.std.specs.Prelude.{codes, None}
use Rattle.std.specs.Fmt.{decimal}
use Rattle.std.specs.Str.{bytes_eq}
use Rattle.std.proofs.lemmas.Bool.{cases_Bool}
use Rattle.std.proofs.lemmas.Slice.Eq.{bytes_eq-Decides}
use Rattle.rob_lex.specs.Bytes.{is_digit}
use Rattle.rob_meaning.specs.Places.{Each}
use Rattle.rob_syntax.specs.declared.symbol.Keyword.{Keyword}
use Rattle.rob_syntax.specs.declared.symbol.Keyword.TheVariants as word
use Rattle.rob_syntax.specs.declared.symbol.Mark.{Mark}
use Rattle.rob_syntax.specs.declared.symbol.Mark.TheVariants as mark
use Rattle.rob_syntax.specs.Symbols.{keyword_among, keywords}
use Rattle.rob_write.specs.Pages.{Written, name, digits, keyword, sign, negative, line_end, keyword_text, mark_text, bytes_of}
use Rattle.rob_round_trip.specs.Pages.{IsToken, IsUsed, IsWritable, ended}
use Rattle.rob_round_trip.proofs.Pages.DigitLemmas.{AreDigits, decimal_digits}

-- ---- what may be written is a token
token_of : (w : Written) → IsWritable w → IsToken w
token_of (name bytes) h = h.0
token_of (digits n) h = h
token_of (keyword k) h = h
token_of (sign m) h = h
token_of negative h = h
token_of line_end h = h

line_tokens : (l : List Written) → Each IsWritable l → Each IsToken l
line_tokens [] h = tt
line_tokens (w ∷ l) h = (token_of w h.0, line_tokens l h.1)

pub all_tokens : (ls : List (List Written)) → Each (Each IsWritable) ls → Each (Each IsToken) ls
all_tokens [] h = tt
all_tokens (l ∷ ls) h = (line_tokens l h.0, all_tokens ls h.1)

-- ---- and isn't that word
-- what is written isn't the word `sum`
abbrev pub IsQuiet : Written → Type 0
IsQuiet w = bytes_eq (bytes_of w) (codes "sum") ≡ false

abbrev pub AreQuiet : List Written → Type 0
AreQuiet ws = Each IsQuiet ws

-- a name that is no keyword isn't `sum`, and neither is another keyword, a sign or a number
no_sum : (bytes : List ℕ) → keyword_among keywords bytes ≡ None → bytes_eq bytes (codes "sum") ≡ false
no_sum bytes h =
    ⊎_elim
    (λ (is : bytes_eq bytes (codes "sum") ≡ true).
    let same : bytes ≡ codes "sum" = (bytes_eq-Decides bytes (codes "sum")).0 is in
    let none : keyword_among keywords (codes "sum") ≡ None = ap (keyword_among keywords) (sym same) ∙ h in cc)
    (λ (no : bytes_eq bytes (codes "sum") ≡ false). no)
    (cases_Bool (bytes_eq bytes (codes "sum")))

quiet_digits : (bytes : List ℕ) → AreDigits bytes → bytes_eq bytes (codes "sum") ≡ false
quiet_digits [] h = refl
quiet_digits (b ∷ bytes) h =
    ⊎_elim
    (λ (is : bytes_eq (b ∷ bytes) (codes "sum") ≡ true).
    let same : b ∷ bytes ≡ codes "sum" = (bytes_eq-Decides (b ∷ bytes) (codes "sum")).0 is in
    let first : b ≡ 115 = cc in
    let p : is_digit 115 ≡ true = subst (λ (x : ℕ). is_digit x ≡ true) first h.0 in cc)
    (λ (no : bytes_eq (b ∷ bytes) (codes "sum") ≡ false). no)
    (cases_Bool (bytes_eq (b ∷ bytes) (codes "sum")))

quiet_keyword : (k : Keyword) → IsUsed k → bytes_eq (keyword_text k) (codes "sum") ≡ false
quiet_keyword word.Uncertain u = refl
quiet_keyword word.Set u = refl
quiet_keyword word.Budget u = refl
quiet_keyword word.Var u = refl
quiet_keyword word.Adaptive u = refl
quiet_keyword word.Minimise u = refl
quiet_keyword word.Maximise u = refl
quiet_keyword word.Row u = refl
quiet_keyword word.In u = refl
quiet_keyword word.At u = refl
quiet_keyword word.By u = refl
quiet_keyword word.Over u = refl
quiet_keyword word.Sum u = absurd u
quiet_keyword word.For u = absurd u
quiet_keyword word.To u = absurd u
quiet_keyword word.Model u = absurd u
quiet_keyword word.Unused u = absurd u

quiet_sign : (m : Mark) → bytes_eq (mark_text m) (codes "sum") ≡ false
quiet_sign mark.Plus = refl
quiet_sign mark.Minus = refl
quiet_sign mark.Star = refl
quiet_sign mark.Slash = refl
quiet_sign mark.Open = refl
quiet_sign mark.Close = refl
quiet_sign mark.OpenBracket = refl
quiet_sign mark.CloseBracket = refl
quiet_sign mark.Comma = refl
quiet_sign mark.Colon = refl
quiet_sign mark.Equal = refl
quiet_sign mark.AtMost = refl
quiet_sign mark.AtLeast = refl

quiet_word : (w : Written) → IsWritable w → IsQuiet w
quiet_word (name bytes) h = no_sum bytes h.1
quiet_word (digits n) h = quiet_digits (decimal n) (decimal_digits n h)
quiet_word (keyword k) h = quiet_keyword k h
quiet_word (sign m) h = quiet_sign m
quiet_word negative h = refl
quiet_word line_end h = absurd h

quiet_line : (l rest : List Written) → Each IsWritable l → AreQuiet rest → AreQuiet (l ++ line_end ∷ rest)
quiet_line [] rest h k = (refl, k)
quiet_line (w ∷ l) rest h k = (quiet_word w h.0, quiet_line l rest h.1 k)

pub quiet_lines : (ls : List (List Written)) → Each (Each IsWritable) ls → AreQuiet (ended ls)
quiet_lines [] h = tt
quiet_lines (l ∷ ls) h = quiet_line l (ended ls) h.0 (quiet_lines ls h.1)
