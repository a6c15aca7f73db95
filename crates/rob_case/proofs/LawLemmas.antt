-- Bytes as they are shown spell those bytes.
use Rattle.std.proofs.Common.{◌≡◌, ℕ, suc, ◌+◌, ◌-◌, ◌*◌, ◌/◌, ◌%◌, ◌^◌, ◌<◌, ◌≤◌, Bool, true, false, ◌&&◌, ltb, leb, eqb, List, [], ◌∷◌, ◌++◌, get_or, Some, refl, ap, ◌∙◌, arith}
use Rattle.std.specs.Prelude.{option_map}
use Rattle.std.specs.Char.{digit_char}
use Rattle.std.proofs.lemmas.Bool.{le-leb, leb-true, ltb-true, ltb-false}
use Rattle.rob_case.proofs.NumberLemmas.{right_true}
use Rattle.rob_case.specs.Texts.{hex_value, hex_byte, spelled, shown_byte, shown_bytes, is_plain}

not_le : (a b : ℕ) (v : Bool) → leb a b ≡ v → b < a → leb a b ≡ false
not_le a b true e h = let k = leb-true a b e in absurd (omega arith)
not_le a b false e h = e

-- the value of a digit that is shown
decimal_digit : (d : ℕ) → d < 10 → hex_value (48 + d) ≡ Some d
decimal_digit d h =
    let low : leb 48 (48 + d) ≡ true = le-leb 48 (48 + d) (omega arith) in
    let high : leb (48 + d) 57 ≡ true = le-leb (48 + d) 57 (omega arith) in
    let same : 48 + d - 48 ≡ d = omega arith in
    rw (low, high, same) refl

letter_digit : (d : ℕ) → 10 ≤ d → d < 16 → hex_value (87 + d) ≡ Some d
letter_digit d l h =
    let high : leb (87 + d) 57 ≡ false = not_le (87 + d) 57 (leb (87 + d) 57) refl (omega arith) in
    let low : leb 97 (87 + d) ≡ true = le-leb 97 (87 + d) (omega arith) in
    let top : leb (87 + d) 102 ≡ true = le-leb (87 + d) 102 (omega arith) in
    let first : leb 48 (87 + d) ≡ true = le-leb 48 (87 + d) (omega arith) in
    let same : 87 + d - 87 ≡ d = omega arith in
    rw (first, high, low, top, same) refl

digit_value_by : (d : ℕ) (v : Bool) → ltb d 10 ≡ v → d < 16 → hex_value (digit_char d) ≡ Some d
digit_value_by d true e h = rw e (decimal_digit d (ltb-true d 10 e))
digit_value_by d false e h = rw e (letter_digit d (ltb-false d 10 e) h)

hex_value-digit_char : (d : ℕ) → d < 16 → hex_value (digit_char d) ≡ Some d
hex_value-digit_char d h = digit_value_by d (ltb d 10) refl h

-- two digits that are shown stand for their byte
hex_byte-digits : (byte : ℕ) → byte < 256 → hex_byte (digit_char (byte / 16)) (digit_char (byte % 16)) ≡ Some byte
hex_byte-digits byte h =
    let high : hex_value (digit_char (byte / 16)) ≡ Some (byte / 16) = hex_value-digit_char (byte / 16) (omega arith) in
    let low : hex_value (digit_char (byte % 16)) ≡ Some (byte % 16) = hex_value-digit_char (byte % 16) (omega arith) in
    let whole : byte / 16 * 16 + byte % 16 ≡ byte = omega arith in
    rw (high, low, whole) refl

-- a plain byte begins no escape
plain_no_mark : (byte : ℕ) (v : Bool) → eqb byte 92 ≡ v → is_plain byte ≡ true → eqb byte 92 ≡ false
plain_no_mark byte false e h = e
plain_no_mark byte true e h =
    let k : ((leb 32 byte && leb byte 126) && false) ≡ true = rw e at h in
    let both : false ≡ true = right_true (leb 32 byte && leb byte 126) false k in
    absurd cc

spelled_shown : (byte : ℕ) (v : Bool) (rest : List ℕ) → is_plain byte ≡ v → byte < 256
    → spelled (shown_byte byte ++ rest) ≡ option_map (λ more. byte ∷ more) (spelled rest)
spelled_shown byte true rest e h =
    let no : eqb byte 92 ≡ false = plain_no_mark byte (eqb byte 92) refl e in rw (e, no) refl
spelled_shown byte false rest e h = rw (e, hex_byte-digits byte h) refl

pub spelled-shown_bytes : (bytes : List ℕ) → ((i : ℕ) → get_or bytes i 0 < 2 ^ 8)
    → spelled (shown_bytes bytes) ≡ Some bytes
spelled-shown_bytes [] h = refl
spelled-shown_bytes (byte ∷ rest) h =
    spelled_shown byte (is_plain byte) (shown_bytes rest) refl (h 0)
    ∙ ap (option_map (λ more. byte ∷ more)) (spelled-shown_bytes rest (λ i. h (suc i)))
