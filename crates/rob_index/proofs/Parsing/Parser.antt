-- A reader of lines, as a function: it finds the line that some symbols are, with one symbol of look-ahead (three at
-- a `,` behind a range). It serves the law that symbols are one statement at most. (Aho, Lam, Sethi, Ullman,
-- Compilers (2006), chapter 4.)
use Rattle.std.proofs.Common.{ℕ, zero, suc, Bool, true, false, List, [], ◌∷◌, Option, Some, None}
use Rattle.std.specs.Prelude.{◌==◌, ◌&&◌, if◌then◌else◌}
use Rattle.rob_index.specs.Symbols.{Symbol, Mark, Keyword, name, digits, sign, word}
use Rattle.rob_index.specs.Symbols as is
use Rattle.rob_index.specs.Statements.{Numeral, Signed, Bounds, Atom, Step, Index, Ref, Range}
use Rattle.rob_index.specs.Statements as stated

-- ---- symbols told apart
abbrev pub mark_code : Mark → ℕ
mark_code is.plus = 0
mark_code is.minus = 1
mark_code is.star = 2
mark_code is.slash = 3
mark_code is.opening = 4
mark_code is.closing = 5
mark_code is.open_bracket = 6
mark_code is.close_bracket = 7
mark_code is.comma = 8
mark_code is.colon = 9
mark_code is.equal = 10
mark_code is.at_most = 11
mark_code is.at_least = 12

abbrev pub word_code : Keyword → ℕ
word_code is.uncertain = 0
word_code is.over = 1
word_code is.set = 2
word_code is.budget = 3
word_code is.var = 4
word_code is.adaptive = 5
word_code is.minimise = 6
word_code is.maximise = 7
word_code is.row = 8
word_code is.at = 9
word_code is.by = 10
word_code is.within = 11
word_code is.sum = 12
word_code is.for = 13
word_code is.to = 14
word_code is.model = 15
word_code is.unused = 16

-- the symbols begin with this sign, or this word
abbrev pub begins : Mark → List Symbol → Bool
begins m (sign k ∷ rest) = mark_code k == mark_code m
begins m _ = false

abbrev pub leads : Keyword → List Symbol → Bool
leads w (word k ∷ rest) = word_code k == word_code w
leads w _ = false

abbrev pub tail : List Symbol → List Symbol
tail [] = []
tail (x ∷ xs) = xs

-- what is found at the front, and the symbols behind it
pub record Got (A : Type 0) : Type 0 where
  pub item : A
  pub rest : List Symbol

abbrev pub got : {A : Type 0} → A → List Symbol → Option (Got A)
got x rest = Some (record { item = x; rest = rest })

abbrev pub next : {A B : Type 0} → Option (Got A) → (A → List Symbol → Option (Got B)) → Option (Got B)
next None f = None
next (Some g) f = f g.item g.rest

-- a sign, or a word, that must stand there
abbrev pub past : {B : Type 0} → Mark → List Symbol → (List Symbol → Option (Got B)) → Option (Got B)
past m xs f = if begins m xs then f (tail xs) else None

abbrev pub behind : {B : Type 0} → Keyword → List Symbol → (List Symbol → Option (Got B)) → Option (Got B)
behind w xs f = if leads w xs then f (tail xs) else None

-- ---- numbers and bounds
abbrev pub front_digits : List Symbol → Option (Got ℕ)
front_digits (digits n ∷ rest) = got n rest
front_digits _ = None

abbrev pub front_number : List Symbol → Option (Got Numeral)
front_number xs = next (front_digits xs) (λ a rest.
    if begins is.slash rest then next (front_digits (tail rest))
    (λ b rest. got (record { numerator = a; divisor = Some b }) rest)
    else got (record { numerator = a; divisor = None }) rest)

abbrev pub front_signed : List Symbol → Option (Got Signed)
front_signed xs =
    if begins is.minus xs then next (front_number (tail xs)) (λ n rest. got (record { minus = true; number = n }) rest)
    else next (front_number xs) (λ n rest. got (record { minus = false; number = n }) rest)

abbrev pub front_bounds : List Symbol → Option (Got (Option Bounds))
front_bounds xs =
    if leads is.within xs then past is.open_bracket (tail xs) (λ xs.
    next (front_signed xs) (λ a xs.
    past is.comma xs (λ xs. next (front_signed xs)
    (λ b xs. past is.close_bracket xs (λ xs. got (Some (stated.between a b)) xs)))))
    else (if begins is.at_least xs then next (front_signed (tail xs)) (λ a xs. got (Some (stated.at_least a)) xs)
    else (if begins is.at_most xs then next (front_signed (tail xs)) (λ a xs. got (Some (stated.at_most a)) xs)
    else got None xs))

-- ---- indices, ranges and refs
abbrev pub front_atom : List Symbol → Option (Got Atom)
front_atom (digits n ∷ rest) = got (stated.digits n) rest
front_atom (name k ∷ rest) = got (stated.bound k) rest
front_atom _ = None

abbrev pub front_steps : ℕ → List Symbol → Option (Got (List Step))
front_steps zero xs = None
front_steps (suc n) xs =
    if begins is.plus xs then next (front_atom (tail xs))
    (λ a xs. next (front_steps n xs) (λ ss xs. got (record { minus = false; atom = a } ∷ ss) xs))
    else (if begins is.minus xs then next (front_atom (tail xs))
    (λ a xs. next (front_steps n xs) (λ ss xs. got (record { minus = true; atom = a } ∷ ss) xs))
    else got [] xs)

abbrev pub front_index : ℕ → List Symbol → Option (Got Index)
front_index n xs = next (front_atom xs)
    (λ a xs. next (front_steps n xs) (λ ss xs. got (record { first = a; more = ss }) xs))

-- { "," item }
abbrev pub front_more : {A : Type 0} → (List Symbol → Option (Got A)) → ℕ → List Symbol → Option (Got (List A))
front_more p zero xs = None
front_more p (suc n) xs = if begins is.comma xs then next (p (tail xs))
    (λ y xs. next (front_more p n xs) (λ ys xs. got (y ∷ ys) xs)) else got [] xs

abbrev pub front_name : List Symbol → Option (Got ℕ)
front_name (name k ∷ rest) = got k rest
front_name _ = None

abbrev pub front_ref : ℕ → List Symbol → Option (Got Ref)
front_ref n xs = next (front_name xs) (λ k xs.
    if begins is.open_bracket xs then next (front_index n (tail xs))
    (λ x xs. next (front_more (front_index n) n xs)
    (λ ys xs. past is.close_bracket xs (λ xs. got (record { name = k; indices = x ∷ ys }) xs)))
    else got (record { name = k; indices = [] }) xs)

abbrev pub front_range : ℕ → List Symbol → Option (Got Range)
front_range n xs = next (front_name xs)
    (λ k xs. past is.equal xs
    (λ xs. next (front_index n xs)
    (λ a xs. behind is.to xs
    (λ xs. next (front_index n xs) (λ b xs. got (record { name = k; from = a; upto = b }) xs)))))

-- a `,`, a name and `=`
abbrev pub begins_name : List Symbol → Bool
begins_name (name k ∷ rest) = begins is.equal rest
begins_name _ = false

abbrev pub goes_on : List Symbol → Bool
goes_on xs = begins is.comma xs && begins_name (tail xs)

abbrev pub front_ranges : ℕ → List Symbol → Option (Got (List Range))
front_ranges n xs =
    if leads is.for xs then next (front_range n (tail xs))
    (λ r xs. if goes_on xs then next (front_range n (tail xs)) (λ s xs. got (r ∷ s ∷ []) xs) else got (r ∷ []) xs)
    else got [] xs

abbrev pub front_over : ℕ → List Symbol → Option (Got (Option Ref))
front_over n xs = if leads is.over xs then next (front_ref n (tail xs)) (λ r xs. got (Some r) xs) else got None xs
