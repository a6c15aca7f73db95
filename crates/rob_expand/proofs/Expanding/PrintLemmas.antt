-- What is printed for an index, and which names are too long.
use Rattle.std.proofs.Common.{◌≡◌, ℕ, ◌+◌, ◌^◌, ◌<◌, ◌≤◌, Bool, true, false, List, [], ◌∷◌, length, get_or, sym, ap, ◌∙◌, to_z, of_z, w64, arith}
use Rattle.std.specs.Prelude.{ℤ, pos, negsuc, nat_abs, int_lt, ◌≤ℤ◌, ◌<ℤ◌, ◌||◌, fold, if◌then◌else◌}
use Rattle.std.specs.List.{flat_map, list_any}
use Rattle.std.proofs.lemmas.Bool.{le-ltb, lt-ltb}
use Rattle.std.proofs.lemmas.Int.{ints}
use Rattle.std.proofs.lemmas.List.{length-append}
use Rattle.rob_index.specs.Statements.{Name}
use Rattle.rob_index.specs.Rules.{greatest_index, longest_name, is_long_name}
use Rattle.rob_index.proofs.Faults.NestLemmas.{lt_not}
use Rattle.rob_number.proofs.CastLemmas.{seen}
use Rattle.rob_ranges.specs.Digits.{base}
use Rattle.rob_syntax.specs.Symbols.{add_word}
use Rattle.rob_settings.specs.declared.item.Named.{Named}
use Rattle.rob_expand.specs.Growing.{printed, index_bytes, add_name, named_at}
use Rattle.rob_index.proofs.LinesRead.ListLemmas.{or_true}

-- ---- an index
abbrev chosen : Bool → ℤ → ℕ
chosen b z = if b then 0 else nat_abs z

pub printed_below : (z : ℤ) → int_lt z (pos 0) ≡ true → 0 ≡ printed z
printed_below z below = sym (ap (λ (b : Bool). chosen (b || int_lt (pos greatest_index) z) z) below)

pub printed_over : (z : ℤ) → int_lt (pos greatest_index) z ≡ true → 0 ≡ printed z
printed_over z over =
    sym (ap (λ (b : Bool). chosen (int_lt z (pos 0) || b) z) over
    ∙ ap (λ (b : Bool). chosen b z) (or_true (int_lt z (pos 0))))

small_abs : (z : ℤ) → pos 0 ≤ℤ z → z ≤ℤ pos greatest_index → nat_abs z < 2 ^ 62
small_abs (pos n) from upto = omega (arith, ints)
small_abs (negsuc n) from upto = absurd (omega (arith, ints))

pub printed_within : (z low : ℤ) → int_lt z (pos 0) ≡ false → int_lt (pos greatest_index) z ≡ false
    → (pos 0 ≤ℤ z → z <ℤ pos base → low ≡ z) → nat_abs (to_z w64 (of_z w64 low)) ≡ printed z
printed_within z low from upto is =
    let a : pos 0 ≤ℤ z = lt_not z (pos 0) from in
    let b : z ≤ℤ pos greatest_index = lt_not (pos greatest_index) z upto in
    ap (λ (y : ℤ). nat_abs (to_z w64 (of_z w64 y))) (is a (omega (arith, ints)))
    ∙ ap nat_abs (seen z (small_abs z a b))
    ∙ sym (ap (λ (b : Bool). chosen (b || int_lt (pos greatest_index) z) z) from ∙ ap (λ (b : Bool). chosen b z) upto)

-- ---- names
module _ (own : List Name) (n : Named) (vs : List ℤ) where
  long_by : longest_name < length (named_at own n vs) → is_long_name (named_at own n vs) ≡ true
  long_by h = lt-ltb longest_name (length (named_at own n vs)) h

  parts : length (named_at own n vs) ≡ length (get_or own n.word []) + length (flat_map (index_bytes vs) n.indices)
  parts = length-append (get_or own n.word []) (flat_map (index_bytes vs) n.indices)

  -- with so long a word it is
  pub long_word : (word : List ℕ) → word ≡ get_or own n.word [] → 32 < length word
      → is_long_name (named_at own n vs) ≡ true
  long_word word is many =
      let all = parts in
      let same = ap (λ (w : List ℕ). length w) is in
      long_by (omega (arith, all, same, many))

-- what the length of its bytes says
pub is_over : (n bytes : Name) → bytes ≡ n → (len : ℕ) → len ≡ length bytes → 32 < len → is_long_name n ≡ true
is_over n bytes is len len_is over =
    lt-ltb longest_name (length n) (omega (arith, ap (λ (b : Name). length b) is, len_is, over))

pub is_within : (n bytes : Name) → bytes ≡ n → (len : ℕ) → len ≡ length bytes → len ≤ 32 → is_long_name n ≡ false
is_within n bytes is len len_is within =
    le-ltb longest_name (length n) (omega (arith, ap (λ (b : Name). length b) is, len_is, within))

-- ---- words
module _ (words : List Name) (n : Name) where
  pub long_left : is_long_name n ≡ true → words ≡ fold add_name words (n ∷ [])
  long_left long = sym (ap (λ (b : Bool). if b then words else add_word words n) long)

  pub long_told : is_long_name n ≡ true → true ≡ list_any is_long_name (n ∷ [])
  long_told long = sym (ap (λ (b : Bool). b || false) long)

  pub short_added : (new : List Name) → is_long_name n ≡ false → new ≡ add_word words n
      → new ≡ fold add_name words (n ∷ [])
  short_added new short is = is ∙ sym (ap (λ (b : Bool). if b then words else add_word words n) short)

  pub short_told : is_long_name n ≡ false → false ≡ list_any is_long_name (n ∷ [])
  short_told short = sym (ap (λ (b : Bool). b || false) short)
