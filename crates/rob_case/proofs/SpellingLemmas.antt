-- What the bytes in front of a text spell, and how bytes are shown one after another.
use Rattle.std.proofs.Common.{◌≡◌, ℕ, suc, ◌+◌, ◌-◌, ◌*◌, ◌<◌, ◌≤◌, List, [], ◌∷◌, ◌++◌, length, take, drop, get_or, Some, None, Result, Ok, Err, IsErrAnd, refl, sym, ap, ◌∙◌, add-one, drop-cons, arith}
use Rattle.std.specs.Prelude.{MatchResult, option_map}
use mathlib.Core.List.{append_assoc}
use Rattle.std.proofs.lemmas.List.{append-nil, take_all}
use Rattle.std.proofs.Math.ListN.{drop_of_length-le}
use Rattle.rob_case.specs.declared.trouble.Trouble.{Trouble}
use Rattle.rob_case.specs.declared.trouble.Trouble.TheVariants.{Line}
use Rattle.rob_case.specs.Texts.{hex_value, shown_byte, shown_bytes, spelled}

-- a mark and two digits are one byte
pub pair_spelled : (text : List ℕ) (h l : ℕ) → 3 ≤ length text → get_or text 0 0 ≡ 92
    → hex_value (get_or text 1 0) ≡ Some h → hex_value (get_or text 2 0) ≡ Some l
    → spelled text ≡ option_map (λ more. (h * 16 + l) ∷ more) (spelled (take (length text - 3) (drop 3 text)))
pair_spelled [] h l n m hi lo = absurd (omega arith)
pair_spelled (a ∷ []) h l n m hi lo = absurd (omega arith)
pair_spelled (a ∷ b ∷ []) h l n m hi lo = absurd (omega arith)
pair_spelled (a ∷ b ∷ c ∷ rest) h l n m hi lo =
    let all : take (length (a ∷ b ∷ c ∷ rest) - 3) rest ≡ rest = take_all _ rest (omega arith) in
    rw (all, m, hi, lo) refl

-- a mark whose first digit is none, and one whose second is none
pub high_unspelled : (text : List ℕ) → 3 ≤ length text → get_or text 0 0 ≡ 92 → hex_value (get_or text 1 0) ≡ None
    → spelled text ≡ None
high_unspelled [] n m hi = absurd (omega arith)
high_unspelled (a ∷ []) n m hi = absurd (omega arith)
high_unspelled (a ∷ b ∷ []) n m hi = absurd (omega arith)
high_unspelled (a ∷ b ∷ c ∷ rest) n m hi = rw (m, hi) refl

pub low_unspelled : (text : List ℕ) (h : ℕ) → 3 ≤ length text → get_or text 0 0 ≡ 92
    → hex_value (get_or text 1 0) ≡ Some h → hex_value (get_or text 2 0) ≡ None → spelled text ≡ None
low_unspelled [] h n m hi lo = absurd (omega arith)
low_unspelled (a ∷ []) h n m hi lo = absurd (omega arith)
low_unspelled (a ∷ b ∷ []) h n m hi lo = absurd (omega arith)
low_unspelled (a ∷ b ∷ c ∷ rest) h n m hi lo = rw (m, hi, lo) refl

-- a mark with less than two bytes behind it
pub mark_unspelled : (text : List ℕ) → 1 ≤ length text → length text < 3 → get_or text 0 0 ≡ 92 → spelled text ≡ None
mark_unspelled [] n s m = absurd (omega arith)
mark_unspelled (a ∷ []) n s m = rw m refl
mark_unspelled (a ∷ b ∷ []) n s m = rw m refl
mark_unspelled (a ∷ b ∷ c ∷ rest) n s m = absurd (omega arith)

-- an error of a digit is one of the text
pub line_told : {T Q : Type 0} (P : T → Type 0) (r : Result T Trouble) (e : Trouble) → IsErrAnd r (λ f. f ≡ e)
    → e ≡ Line → Q → MatchResult r P (λ trouble. (trouble ≡ Line) × Q)
line_told P (Ok x) e h l q = absurd h
line_told P (Err f) e h l q = (h ∙ l, q)

-- one byte more is shown
pub byte_shown : (done new bytes : List ℕ) (i : ℕ) → i < length bytes → Some (done ++ shown_byte (get_or bytes i 0)) ≡ Some new
    → new ++ shown_bytes (drop (i + 1) bytes) ≡ done ++ shown_bytes (drop i bytes)
byte_shown done new bytes i l e =
    let n : new ≡ done ++ shown_byte (get_or bytes i 0) = cc in
    rw (n, drop-cons bytes i 0, add-one)
    (append_assoc done (shown_byte (get_or bytes i 0)) (shown_bytes (drop (suc i) bytes)))

-- all are shown
pub all_shown : (done bytes : List ℕ) (i : ℕ) → length bytes ≤ i → done ++ shown_bytes (drop i bytes) ≡ shown_bytes bytes
    → Some (shown_bytes bytes) ≡ Some done
all_shown done bytes i l h = ap Some (sym h ∙ rw (drop_of_length-le bytes l) (append-nil done))
