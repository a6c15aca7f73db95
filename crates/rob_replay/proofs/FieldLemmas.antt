-- Blanks and digits of a field, byte by byte.
use Rattle.std.proofs.Common.{◌≡◌, ℕ, zero, suc, ◌+◌, ◌*◌, ◌-◌, ◌<◌, ◌≤◌, List, [], ◌∷◌, ◌++◌, length, get_or, take, drop, refl, sym, ap, ◌∙◌, arith, Bool, true, false, le_trans, inl, inr, subst}
use Rattle.std.specs.Prelude.{Option, Some, None, nat_le, ◌&&◌, if◌then◌else◌}
use Rattle.std.proofs.lemmas.Bool.{cases_Bool}
use Rattle.rob_model.proofs.PartLemmas.{drop_at}
use Rattle.rob_replay.specs.Fields.{is_blank, all_blank, before_blanks, is_digit, all_digits, value_behind}

-- ---- blanks
-- blanks behind change nothing
all_blank_more : (xs : List ℕ) (b : ℕ) → is_blank b ≡ true → all_blank (xs ++ b ∷ []) ≡ all_blank xs
all_blank_more [] b one = rw one refl
all_blank_more (x ∷ xs) b one = ap (λ t. is_blank x && t) (all_blank_more xs b one)

blank_last : (xs : List ℕ) (b : ℕ) → is_blank b ≡ true → before_blanks (xs ++ b ∷ []) ≡ before_blanks xs
blank_last [] b one = rw one refl
blank_last (x ∷ xs) b one =
    ap (λ t. if is_blank x && t then [] else x ∷ before_blanks (xs ++ b ∷ [])) (all_blank_more xs b one)
    ∙ ap (λ l. if is_blank x && all_blank xs then [] else x ∷ l) (blank_last xs b one)

not_all_blank : (xs : List ℕ) (b : ℕ) → is_blank b ≡ false → all_blank (xs ++ b ∷ []) ≡ false
not_all_blank [] b other = rw other refl
not_all_blank (x ∷ xs) b other = elim (cases_Bool (is_blank x)) [
  | inl one ↦ rw one (not_all_blank xs b other)
  | inr gone ↦ rw gone refl
]

no_blank_last : (xs : List ℕ) (b : ℕ) → is_blank b ≡ false → before_blanks (xs ++ b ∷ []) ≡ xs ++ b ∷ []
no_blank_last [] b other = rw other refl
no_blank_last (x ∷ xs) b other = elim (cases_Bool (is_blank x)) [
  | inl one ↦ rw (one, not_all_blank xs b other) (ap (λ l. x ∷ l) (no_blank_last xs b other))
  | inr gone ↦ rw gone (ap (λ l. x ∷ l) (no_blank_last xs b other))
]

-- the bytes before a place are those before the last of them, and that one
take_next : (xs : List ℕ) (k b d : ℕ) → k < length xs → b ≡ get_or xs k d → take (suc k) xs ≡ take k xs ++ b ∷ []
take_next [] k b d h is = absurd (omega arith)
take_next (x ∷ xs) zero b d h is = ap (λ y. y ∷ []) (sym is)
take_next (x ∷ xs) (suc k) b d h is = ap (λ l. x ∷ l) (take_next xs k b d (omega arith) is)

take_last : (field : List ℕ) (end b d : ℕ) → 0 < end → end ≤ length field → b ≡ get_or field (end - 1) d
    → take end field ≡ take (end - 1) field ++ b ∷ []
take_last field zero b d some h is = absurd (omega arith)
take_last field (suc k) b d some h is =
    let e : suc k - 1 ≡ k = omega arith in
    take_next field k b d (omega arith) (subst (λ i. b ≡ get_or field i d) e is)
    ∙ ap (λ i. take i field ++ b ∷ []) (sym e)

module _ (field : List ℕ) (end b d : ℕ) (some : 0 < end) (h : end ≤ length field)
    (is : b ≡ get_or field (end - 1) d) where
  pub before_goes : is_blank b ≡ true → before_blanks (take end field) ≡ before_blanks (take (end - 1) field)
  before_goes one = ap before_blanks (take_last field end b d some h is) ∙ blank_last (take (end - 1) field) b one

  pub before_stops : is_blank b ≡ false → before_blanks (take end field) ≡ take end field
  before_stops other =
      ap before_blanks (take_last field end b d some h is) ∙ no_blank_last (take (end - 1) field) b other
      ∙ sym (take_last field end b d some h is)

-- ---- digits
abbrev pub whole_left : ℕ → ℕ → List ℕ → Option ℕ
whole_left limit so_far bytes =
    if all_digits bytes && nat_le (value_behind so_far bytes) limit then Some (value_behind so_far bytes) else None

pub value_grows : (so_far : ℕ) (bytes : List ℕ) → so_far ≤ value_behind so_far bytes
value_grows so_far [] = omega arith
value_grows so_far (b ∷ bytes) = le_trans (omega arith) (value_grows (so_far * 10 + (b - 48)) bytes)

abbrev pub next_digit : ℕ → ℕ → ℕ → Option ℕ
next_digit limit so_far b =
    if is_digit b && nat_le (so_far * 10 + (b - 48)) limit then Some (so_far * 10 + (b - 48)) else None

over : (limit value : ℕ) → limit < value → nat_le value limit ≡ false
over limit value h = grind arith

pub digit_stops : (limit so_far b : ℕ) (bytes : List ℕ) → None ≡ next_digit limit so_far b
    → whole_left limit so_far (b ∷ bytes) ≡ None
digit_stops limit so_far b bytes h = case (is_digit b) (nat_le (so_far * 10 + (b - 48)) limit) refl refl
  where
    big : nat_le (so_far * 10 + (b - 48)) limit ≡ false → limit < value_behind (so_far * 10 + (b - 48)) bytes
    big l = let g = value_grows (so_far * 10 + (b - 48)) bytes in grind arith

    none : (t : Bool) (n : Option ℕ) → (if t && false then n else None) ≡ None
    none true n = refl
    none false n = refl

    case : (d l : Bool) → is_digit b ≡ d → nat_le (so_far * 10 + (b - 48)) limit ≡ l
        → whole_left limit so_far (b ∷ bytes) ≡ None
    case true true d l = let e : None ≡ Some (so_far * 10 + (b - 48)) = rw (d, l) at h in cc
    case true false d l =
        rw (d, over limit (value_behind (so_far * 10 + (b - 48)) bytes) (big l)) (none (all_digits bytes) _)
    case false l d e = rw d refl

-- ---- a digit at its place
get_or_any : (xs : List ℕ) (i d e : ℕ) → i < length xs → get_or xs i d ≡ get_or xs i e
get_or_any [] i d e h = absurd (omega arith)
get_or_any (x ∷ xs) zero d e h = refl
get_or_any (x ∷ xs) (suc i) d e h = get_or_any xs i d e (omega arith)

pub whole_stops : (limit so_far : ℕ) (digits : List ℕ) (i d : ℕ) → i < length digits
    → None ≡ next_digit limit so_far (get_or digits i d)
    → whole_left limit so_far (drop i digits) ≡ None
whole_stops limit so_far digits i d inside h =
    let b = get_or digits i d in
    ap (whole_left limit so_far) (drop_at digits i b inside (get_or_any digits i d b inside))
    ∙ digit_stops limit so_far b (drop (i + 1) digits) h
