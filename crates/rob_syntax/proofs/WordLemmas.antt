-- Words, lines and the values of digits.
use Rattle.std.proofs.Common.{◌≡◌, ℕ, ◌+◌, ◌*◌, ◌-◌, ◌^◌, ◌<◌, ◌≤◌, min, Bool, true, false, cond, List, [], ◌∷◌, ◌++◌, length, take, drop, get_or, refl, sym, ap, ◌∙◌, arith, append_assoc, append-nil, Vec, Bor}
use Rattle.std.specs.Prelude.{fold, option_to_list, position, MatchOption, nat_lt, not, ◌||◌, Option, Some, None}
use Rattle.std.specs.Str.{bytes_eq}
use Rattle.std.specs.List.{flat_map, list_any, prefix_len}
use Rattle.std.specs.declared.alloc.Global.{Global}
use Rattle.std.proofs.lemmas.List.{at_drop_more, at_drop_all, take_more, take_all, length-drop, length-map, map-append}
use Rattle.indexmap.specs.IndexSet.{insert_key}
use Rattle.rob_lex.specs.declared.token.Token.{Token}
use Rattle.rob_lex.specs.declared.token.Kind.{Kind}
use Rattle.rob_lex.specs.declared.token.Kind.TheVariants as kind
use Rattle.rob_index.specs.Reading.{Version}
use Rattle.rob_syntax.specs.Known.{texts}
use Rattle.rob_syntax.specs.Symbols.{greatest_digits, add_word, add_token, bytes_of, symbol_at, token_lines}
use Rattle.rob_syntax.specs.declared.symbol.Symbol.{Symbol}

-- the value behind one more digit
abbrev pub digit_step : ℕ → ℕ → ℕ
digit_step value b = 10 * value + (b - 48)

-- what is cut off a value changes nothing of the cut value of what it leads to
pub capped_fold : (a b : ℕ) (xs : List ℕ) → min a greatest_digits ≡ min b greatest_digits
    → min (fold digit_step a xs) greatest_digits ≡ min (fold digit_step b xs) greatest_digits
capped_fold a b [] same = same
capped_fold a b (x ∷ xs) same = capped_fold (digit_step a x) (digit_step b x) xs (omega (arith, same))

-- some tokens in front of the first line
pub prepend : List Token → List (List Token) → List (List Token)
prepend front [] = []
prepend front (line ∷ lines) = (front ++ line) ∷ lines

pub prepend-nil : (lines : List (List Token)) → prepend [] lines ≡ lines
unfolding prepend
prepend-nil [] = refl
prepend-nil (line ∷ lines) = refl

pub prepend-append : (a b : List Token) (lines : List (List Token))
    → prepend (a ++ b) lines ≡ prepend a (prepend b lines)
unfolding prepend
prepend-append a b [] = refl
prepend-append a b (line ∷ lines) = ap (λ (l : List Token). l ∷ lines) (append_assoc a b line)

-- one digit more
pub digits_more : (xs : List ℕ) (i value next result : ℕ) → i < length xs
    → next ≡ min (10 * value + (get_or xs i 0 - 48)) greatest_digits
    → min (fold digit_step value (drop i xs)) greatest_digits ≡ result
    → min (fold digit_step next (drop (i + 1) xs)) greatest_digits ≡ result
digits_more xs i value next result inside is so_far =
    let step : fold digit_step value (drop i xs)
    ≡ fold digit_step (digit_step value (get_or xs i 0)) (drop (i + 1) xs) =
    at_drop_more (fold digit_step value) xs i 0 inside in
    capped_fold next (digit_step value (get_or xs i 0)) (drop (i + 1) xs) (omega (arith, is))
    ∙ ap (λ (v : ℕ). min v greatest_digits) (sym step) ∙ so_far

pub digits_all : (xs : List ℕ) (i value result : ℕ) → length xs ≤ i → value ≤ greatest_digits
    → min (fold digit_step value (drop i xs)) greatest_digits ≡ result → value ≡ result
digits_all xs i value result all small so_far =
    let whole : fold digit_step value (drop i xs) ≡ value = at_drop_all (fold digit_step value) xs i all in
    omega (arith, so_far, whole)

some_line : (ts : List Token) → (line : List Token) × (lines : List (List Token)) × (token_lines ts ≡ line ∷ lines)
some_line [] = ([], [], refl)
some_line (t ∷ ts) = let more = some_line ts in added t.kind more.0 more.1 more.2
  where
    added : (k : Kind) (line : List Token) (lines : List (List Token)) → token_lines ts ≡ line ∷ lines
        → (l : List Token) × (ls : List (List Token)) × (add_token k t (token_lines ts) ≡ l ∷ ls)
    added kind.LineEnd line lines is = ([], token_lines ts, refl)
    added kind.Word line lines is = (t ∷ line, lines, ap (add_token kind.Word t) is)
    added kind.Digits line lines is = (t ∷ line, lines, ap (add_token kind.Digits t) is)
    added kind.Sign line lines is = (t ∷ line, lines, ap (add_token kind.Sign t) is)

-- a token that is no line end stands in front of the first line
token_in_front : (t : Token) (ts : List Token) → (t.kind ≡ kind.LineEnd → ⊥)
    → token_lines (t ∷ ts) ≡ prepend (t ∷ []) (token_lines ts)
unfolding prepend
token_in_front t ts other = let more = some_line ts in go t.kind other more.0 more.1 more.2
  where
    go : (k : Kind) → (k ≡ kind.LineEnd → ⊥) → (line : List Token) (lines : List (List Token))
        → token_lines ts ≡ line ∷ lines → add_token k t (token_lines ts) ≡ prepend (t ∷ []) (token_lines ts)
    go kind.LineEnd other line lines is = absurd (other refl)
    go kind.Word other line lines is = ap (add_token kind.Word t) is ∙ ap (prepend (t ∷ [])) (sym is)
    go kind.Digits other line lines is = ap (add_token kind.Digits t) is ∙ ap (prepend (t ∷ [])) (sym is)
    go kind.Sign other line lines is = ap (add_token kind.Sign t) is ∙ ap (prepend (t ∷ [])) (sym is)

-- a line end ends the first line
line_end_in_front : (t : Token) (ts : List Token) → t.kind ≡ kind.LineEnd → token_lines (t ∷ ts) ≡ [] ∷ token_lines ts
line_end_in_front t ts is = ap (λ (k : Kind). add_token k t (token_lines ts)) is

-- one token of the first line more
pub line_more : (ts : List Token) (i : ℕ) (d : Token) → i < length ts → ((get_or ts i d).kind ≡ kind.LineEnd → ⊥)
    → prepend (take i ts) (token_lines (drop i ts)) ≡ token_lines ts
    → prepend (take (i + 1) ts) (token_lines (drop (i + 1) ts)) ≡ token_lines ts
line_more ts i d inside other so_far =
    let step : token_lines (drop i ts) ≡ token_lines (get_or ts i d ∷ drop (i + 1) ts) =
    at_drop_more token_lines ts i d inside in
    ap (λ (l : List Token). prepend l (token_lines (drop (i + 1) ts))) (take_more ts i d inside)
    ∙ prepend-append (take i ts) (get_or ts i d ∷ []) (token_lines (drop (i + 1) ts))
    ∙ ap (prepend (take i ts)) (sym (token_in_front (get_or ts i d) (drop (i + 1) ts) other) ∙ sym step)
    ∙ so_far

pub line_ends : (ts : List Token) (i : ℕ) (d : Token) → i < length ts → (get_or ts i d).kind ≡ kind.LineEnd
    → prepend (take i ts) (token_lines (drop i ts)) ≡ token_lines ts
    → token_lines ts ≡ take i ts ∷ token_lines (drop (i + 1) ts)
unfolding prepend
line_ends ts i d inside is so_far =
    let step : token_lines (drop i ts) ≡ token_lines (get_or ts i d ∷ drop (i + 1) ts) =
    at_drop_more token_lines ts i d inside in
    sym so_far ∙ ap (prepend (take i ts)) (step ∙ line_end_in_front (get_or ts i d) (drop (i + 1) ts) is)
    ∙ ap (λ (l : List Token). l ∷ token_lines (drop (i + 1) ts)) (append-nil (take i ts))

pub last_line : (ts : List Token) (i : ℕ) → length ts ≤ i
    → prepend (take i ts) (token_lines (drop i ts)) ≡ token_lines ts → token_lines ts ≡ ts ∷ []
unfolding prepend
last_line ts i all so_far =
    let end : token_lines (drop i ts) ≡ [] ∷ [] = at_drop_all token_lines ts i all in
    sym so_far ∙ ap (prepend (take i ts)) end
    ∙ ap (λ (l : List Token). l ∷ []) (append-nil (take i ts) ∙ take_all i ts all)

-- all that is behind
pub drop_all : (ts : List Token) (i : ℕ) → drop i ts ≡ take (length ts - i) (drop i ts)
drop_all ts i = sym (take_all (length ts - i) (drop i ts) (omega (arith, length-drop i ts)))

-- the words before a word, among owned words
prefix-texts : (test : List ℕ → Bool) (keys : List (Vec ℕ Global))
    → prefix_len test (texts keys) ≡ prefix_len (λ (v : Vec ℕ Global). test v.items) keys
prefix-texts test [] = refl
prefix-texts test (k ∷ keys) = ap (λ (n : ℕ). cond (test k.items) (1 + n) 0) (prefix-texts test keys)

-- the number of a word among owned words
pub position-texts : (test : List ℕ → Bool) (keys : List (Vec ℕ Global))
    → position test (texts keys) ≡ position (λ (v : Vec ℕ Global). test v.items) keys
position-texts test keys =
    λ i. cond (nat_lt (prefix-texts (λ x. not (test x)) keys i) (length-map keys (λ (v : Vec ℕ Global). v.items) i))
    (Some (prefix-texts (λ x. not (test x)) keys i)) None

any-texts : (test : List ℕ → Bool) (keys : List (Vec ℕ Global))
    → list_any test (texts keys) ≡ list_any (λ (v : Vec ℕ Global). test v.items) keys
any-texts test [] = refl
any-texts test (k ∷ keys) = ap (λ (b : Bool). test k.items || b) (any-texts test keys)

-- one word more among owned words
pub texts-insert_key : (keys : List (Vec ℕ Global)) (key : Vec ℕ Global)
    → texts (insert_key (λ (a b : Vec ℕ Global). bytes_eq a.items b.items) keys key) ≡ add_word (texts keys) key.items
texts-insert_key keys key =
    chosen (list_any (λ (v : Vec ℕ Global). bytes_eq key.items v.items) keys)
    ∙ ap (λ (b : Bool). cond b (texts keys) (texts keys ++ key.items ∷ [])) (sym (any-texts (bytes_eq key.items) keys))
  where
    chosen : (b : Bool) → texts (cond b keys (keys ++ key ∷ [])) ≡ cond b (texts keys) (texts keys ++ key.items ∷ [])
    chosen true = refl
    chosen false = map-append (λ (v : Vec ℕ Global). v.items) keys (key ∷ [])

-- the lines of the tokens that are left
abbrev pub left : Option (Bor (List Token)) → List (List Token)
left None = []
left (Some tokens) = token_lines tokens.now

-- there are at most as many line ends as tokens
pub lines_at_most : (ts : List Token) → length (token_lines ts) ≤ length ts + 1
lines_at_most [] = omega arith
lines_at_most (t ∷ ts) = let more = some_line ts in go t.kind more.0 more.1 more.2 (lines_at_most ts)
  where
    go : (k : Kind) → (line : List Token) (lines : List (List Token)) → token_lines ts ≡ line ∷ lines
        → length (token_lines ts) ≤ length ts + 1 → length (add_token k t (token_lines ts)) ≤ length (t ∷ ts) + 1
    go kind.LineEnd line lines is h = omega arith
    go kind.Word line lines is h =
        let e = ap (λ (l : List (List Token)). length (add_token kind.Word t l)) is in omega (arith, e, ap length is)
    go kind.Digits line lines is h =
        let e = ap (λ (l : List (List Token)). length (add_token kind.Digits t l)) is in omega (arith, e, ap length is)
    go kind.Sign line lines is h =
        let e = ap (λ (l : List (List Token)). length (add_token kind.Sign t l)) is in omega (arith, e, ap length is)

-- the first line and those that are left behind it
pub front_left : (ts front : List Token) (o : Option (Bor (List Token)))
    → MatchOption o (token_lines ts ≡ front ∷ []) (λ b. token_lines ts ≡ front ∷ token_lines b.now)
    → token_lines ts ≡ front ∷ left o
front_left ts front None is = is
front_left ts front (Some b) is = is

-- the number of a line is small
pub line_fits : (line : ℕ) (rest : Option (Bor (List Token))) (b : Bor (List Token)) (whole : List Token)
    → rest ≡ Some b → line + length (left rest) ≡ length (token_lines whole) → length whole ≤ 2 ^ 30 → line + 1 < 2 ^ 32
line_fits line rest b whole is count small =
    let more = some_line b.now in
    let one : length (left rest) ≡ length (more.0 ∷ more.1) = ap length (ap left is ∙ more.2) in
    omega (arith, one, count, small, lines_at_most whole)

-- ---- what each item of a list gives, one item after the other
module _ {A B : Type 0} (F : A → List B) (xs : List A) where
  pub none_given : {ys : List B} → ys ≡ [] → ys ++ flat_map F (drop 0 xs) ≡ flat_map F xs
  none_given is = ap (λ (l : List B). l ++ flat_map F xs) is

  pub given_more : (i : ℕ) (d : A) (ys here : List B) {next : List B} → i < length xs → here ≡ F (get_or xs i d)
      → next ≡ ys ++ here → ys ++ flat_map F (drop i xs) ≡ flat_map F xs
      → next ++ flat_map F (drop (i + 1) xs) ≡ flat_map F xs
  given_more i d ys here inside is more so_far =
      let rest = flat_map F (drop (i + 1) xs) in
      ap (λ (l : List B). l ++ rest) more ∙ append_assoc ys here rest
      ∙ ap (λ (l : List B). ys ++ l)
      (ap (λ (l : List B). l ++ rest) is ∙ sym (at_drop_more (flat_map F) xs i d inside)) ∙ so_far

  pub given_all : (i : ℕ) (ys : List B) → length xs ≤ i → ys ++ flat_map F (drop i xs) ≡ flat_map F xs
      → ys ≡ flat_map F xs
  given_all i ys over so_far =
      sym (append-nil ys) ∙ ap (λ (l : List B). ys ++ l) (sym (at_drop_all (flat_map F) xs i over)) ∙ so_far

-- one item is pushed, or none
pub pushed_is : {B : Type 0} (ys : List B) {o : Option B} {x : B} {next : List B} → o ≡ Some x → next ≡ ys ++ x ∷ []
    → next ≡ ys ++ option_to_list o
pushed_is {B} ys is more = more ∙ ap (λ (o : Option B). ys ++ option_to_list o) (sym is)

pub kept_is : {B : Type 0} (ys : List B) {o : Option B} {next : List B} → o ≡ None → next ≡ ys
    → next ≡ ys ++ option_to_list o
kept_is {B} ys is same =
    same ∙ sym (append-nil ys) ∙ ap (λ (o : Option B). ys ++ option_to_list o) (sym is)

-- the symbol of a token whose bytes were taken
pub symbol_here : (version : Version) (words : List (List ℕ)) (text : List ℕ) (t : Token) {bytes : List ℕ}
    (o : Option Symbol) → option_to_list o ≡ symbol_at version words t.kind bytes → bytes ≡ bytes_of text t
    → option_to_list o ≡ symbol_at version words t.kind (bytes_of text t)
symbol_here version words text t o is taken = is ∙ ap (λ (b : List ℕ). symbol_at version words t.kind b) taken
