-- Lines of a text in one way, and what a line's words tell.
use Rattle.std.proofs.Common.{◌≡◌, ◌≢◌, ℕ, List, [], ◌∷◌, arith, ap, sym, ◌∙◌, subst, Bool, true, false}
use Rattle.std.proofs.lemmas.Fmt.{decimal_digit}
use Rattle.std.specs.Prelude.{codes, IsTrue, ◌↔◌}
use Rattle.rob_algebra.specs.Fraction.{Fraction, ratio}
use Rattle.rob_meaning.specs.Names.{Name}
use Rattle.rob_meaning.specs.Places.{0ℚ}
use Rattle.rob_cert.specs.Reading.{Lacks, BeginsWithLine, words_in}
use Rattle.rob_cert.specs.Spelling.{number_text}
use Rattle.rob_cert.proofs.Words.NumberLemmas.{cut_once, cut_lacks}

-- a text without a line's end begins with no line
pub no_line : (text line after : List ℕ) → Lacks 10 text → BeginsWithLine text line after → ⊥
no_line text line after h b = cut_lacks 10 line after (subst (Lacks 10) b.split h)

-- a text begins with one line
pub one_line : (text a x b y : List ℕ) → BeginsWithLine text a x → BeginsWithLine text b y → (a ≡ b) × (x ≡ y)
one_line text a x b y h k = cut_once 10 a b x y h.whole k.whole (sym h.split ∙ k.split)

-- a line with another first word
pub other_first : (text line after front back word first : List ℕ) (more more' : List Name)
    → BeginsWithLine text front back → words_in front ≡ first ∷ more' → first ≢ word
    → BeginsWithLine text line after → words_in line ≡ word ∷ more → ⊥
other_first text line after front back word first more more' h is ne b e =
    let same = one_line text front back line after h b in
    let p : first ∷ more' ≡ word ∷ more = sym is ∙ ap words_in same.0 ∙ e in
    ne (let q : first ≡ word = cc in q)

pub zero_text : number_text 0ℚ ≡ codes "0"
unfolding ratio
zero_text = decimal_digit 0 (omega arith)

-- a word that is not 0 spells a number that is not 0
pub not_zero : (word : List ℕ) (q : Fraction) (b : Bool) → b ≡ false → (IsTrue b ↔ (word ≡ codes "0"))
    → word ≡ number_text q → q ≢ 0ℚ
not_zero word q b f h is e = let t : b ≡ true = h.1 (is ∙ ap number_text e ∙ zero_text) in cc

-- three words, by the first, the name and the number
pub three_are : (words : List Name) (w f s t name n : Name) (more : List Name) → words ≡ w ∷ more
    → words ≡ f ∷ (s ∷ (t ∷ [])) → name ≡ s → t ≡ n → words ≡ w ∷ (name ∷ (n ∷ []))
three_are words w f s t name n more p q e d = cc
