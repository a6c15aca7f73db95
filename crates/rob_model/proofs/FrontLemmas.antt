-- What stands at the front of a text, and what behind it.
use Rattle.std.proofs.Common.{◌≡◌, ℕ, List, [], ◌∷◌, ◌++◌, length, take, drop, ap, sym, ◌∙◌, true, false, append_assoc, ap₂, take-append-drop, rules, ◌+◌, nat_eq}
use Rattle.std.specs.Prelude.{Option, Some, None, MatchOption, Result, Ok, Err, OnOk}
use Rattle.std.proofs.lemmas.List.{append-nil, append_cancel_left}
use Rattle.std.proofs.lemmas.Grind.{common_steps}
use Rattle.std.specs.Cmp.Lexicographic.{pointwise, same_text, other_text}

-- the text doesn't begin with the piece
abbrev pub IsMissing : List ℕ → List ℕ → Type 0
IsMissing text piece = (rest : List ℕ) → text ≡ piece ++ rest → ⊥

-- where the first part is missing, both are
pub missing_first : (text a b : List ℕ) → IsMissing text a → IsMissing text (a ++ b)
missing_first text a b h rest e = h (b ++ rest) (e ∙ append_assoc a b rest)

-- where the second part is missing behind the first, both are
pub missing_second : (text a b behind : List ℕ) → text ≡ a ++ behind → IsMissing behind b → IsMissing text (a ++ b)
missing_second text a b behind found h rest e =
    h rest (append_cancel_left a behind (b ++ rest) (sym found ∙ e ∙ append_assoc a b rest))

-- one part behind the other
pub found_both : (text a b behind rest : List ℕ) → text ≡ a ++ behind → behind ≡ b ++ rest → text ≡ (a ++ b) ++ rest
found_both text a b behind rest e f = e ∙ ap (λ xs. a ++ xs) f ∙ sym (append_assoc a b rest)

-- the same for an answer
pub both : {X : Type 0} (now : X → List ℕ) (r : Option X) (text a b behind : List ℕ) → text ≡ a ++ behind
    → MatchOption r (IsMissing behind b) (λ x. behind ≡ b ++ now x)
    → MatchOption r (IsMissing text (a ++ b)) (λ x. text ≡ (a ++ b) ++ now x)
both now None text a b behind e h = missing_second text a b behind e h
both now (Some x) text a b behind e h = found_both text a b behind (now x) e h

-- a text is the whole of what it is not missing where nothing stands behind
pub whole_missing : (text whole : List ℕ) → IsMissing text whole → text ≡ whole → ⊥
whole_missing text whole h e = h [] (e ∙ sym (append-nil whole))

-- ---- what `strip_prefix` answers
take-front : (xs ys : List ℕ) → take (length xs) (xs ++ ys) ≡ xs
take-front [] ys = search (rules, common_steps)
take-front (x ∷ xs) ys = ap (λ zs. x ∷ zs) (take-front xs ys)

pub strip_none : (text piece : List ℕ)
    → pointwise nat_eq (take (length piece) text) piece ≡ false → IsMissing text piece
strip_none text piece h rest e =
    other_text (take (length piece) text) piece (sym h) (ap (take (length piece)) e ∙ take-front piece rest)

pub strip_some : (text piece rest : List ℕ) → pointwise nat_eq (take (length piece) text) piece ≡ true
    → rest ≡ drop (length piece) text → text ≡ piece ++ rest
strip_some text piece rest h e =
    sym (take-append-drop (length piece) text) ∙ ap₂ ◌++◌ (same_text (take (length piece) text) piece (sym h)) (sym e)

pub stripped : {X : Type 0} (now : X → List ℕ) (r : Option X) (text piece : List ℕ)
    → MatchOption r (pointwise nat_eq (take (length piece) text) piece ≡ false)
    (λ x. (pointwise nat_eq (take (length piece) text) piece ≡ true) × (now x ≡ drop (length piece) text)
    × (length (now x) + length piece ≡ length text))
    → MatchOption r (IsMissing text piece) (λ x. text ≡ piece ++ now x)
stripped now None text piece h = strip_none text piece h
stripped now (Some x) text piece h = strip_some text piece (now x) h.0 h.1

-- ---- one part after the other
appended_four : (old a b d e x y z w : List ℕ) → x ≡ old ++ a → y ≡ x ++ b → z ≡ y ++ d → w ≡ z ++ e
    → w ≡ old ++ (a ++ (b ++ (d ++ e)))
appended_four old a b d e x y z w ha hb hd he =
    he ∙ ap (λ t. t ++ e) (hd ∙ ap (λ t. t ++ d) (hb ∙ ap (λ t. t ++ b) ha)) ∙ simp append_assoc

pub appended : {T E : Type 0} (r : Result T E) (old a b d e x y z w : List ℕ) → x ≡ old ++ a → y ≡ x ++ b → z ≡ y ++ d
    → OnOk r (w ≡ z ++ e) → OnOk r (w ≡ old ++ (a ++ (b ++ (d ++ e))))
appended (Ok t) old a b d e x y z w ha hb hd he = appended_four old a b d e x y z w ha hb hd he
appended (Err t) old a b d e x y z w ha hb hd he = tt
