-- What a word looks like to `clap`.
use Rattle.std.proofs.Common.{◌≡◌, ◌≢◌, ◌∙◌, inl, inr, ◌==◌, ℕ, Bool, true, false, zero, suc, refl, sym, ap, subst, arith, List, [], ◌∷◌, ◌++◌, Some, None, codes}
use Rattle.std.specs.Str.{bytes_eq}
use Rattle.std.proofs.lemmas.Bool.Decides.{nat_tests}
use Rattle.clap.specs.Lexer.{long_of, name_and_value, short_of}
use Rattle.clap.proofs.CutLemmas.{Lacks}
use Rattle.clap.proofs.LexerLemmas.{name_and_value-at, name_and_value-without}
use Rattle.rob_words.specs.Values.{Word}
use Rattle.rob_words.specs.Commands.{IsPlain, Setting, bits, route, setting_word}
use Rattle.rob_words.specs.Texts.{IsAdmitted}
use Rattle.rob_words.proofs.Slots.{id_of}
use Rattle.rob_words.proofs.Finds.{slot_of}

-- ---- plain words

pub plain-dashes : (word : Word) → IsPlain word → bytes_eq word (45 ∷ 45 ∷ []) ≡ false
plain-dashes [] plain = absurd plain
plain-dashes (byte ∷ bytes) plain = let other : (byte == 45) ≡ false = grind (arith, nat_tests) in rw other refl

pub plain-long : (word : Word) → IsPlain word → long_of word ≡ None
plain-long [] plain = absurd plain
plain-long (byte ∷ bytes) plain = let other : (byte == 45) ≡ false = grind (arith, nat_tests) in rw other refl

pub plain-short : (word : Word) → IsPlain word → short_of word ≡ None
plain-short [] plain = absurd plain
plain-short (byte ∷ bytes) plain = let other : (byte == 45) ≡ false = grind (arith, nat_tests) in rw other refl

-- ---- options

Lacks-nil : Lacks 61 []
Lacks-nil i lt = absurd (omega arith)

Lacks-cons : (byte : ℕ) (text : List ℕ) → byte ≢ 61 → Lacks 61 text → Lacks 61 (byte ∷ text)
Lacks-cons byte text other rest zero lt = other
Lacks-cons byte text other rest (suc i) lt = rest i (omega arith)

-- a text has no `=`, or it is cut at the first
data Cut (text : List ℕ) : Type 0 where
  whole : Lacks 61 text → Cut text
  cut : (name value : List ℕ) → text ≡ name ++ 61 ∷ value → Lacks 61 name → Cut text

cut_of : (text : List ℕ) → Cut text
cut_of [] = whole Lacks-nil
cut_of (byte ∷ text) = go (byte == 61) refl (cut_of text)
  where
    go : (b : Bool) → (byte == 61) ≡ b → Cut text → Cut (byte ∷ text)
    go true e rest = let is : byte ≡ 61 = grind (arith, nat_tests) in cut [] text (ap (λ b. b ∷ text) is) Lacks-nil
    go false e (whole lacks) =
        let other : byte ≢ 61 = grind (arith, nat_tests) in whole (Lacks-cons byte text other lacks)
    go false e (cut name value is lacks) =
        let other : byte ≢ 61 = grind (arith, nat_tests) in
        cut (byte ∷ name) value (ap (λ t. byte ∷ t) is) (Lacks-cons byte name other lacks)

-- what an admitted word is: plain, `--name` or `--name=value`
pub data Look (word : Word) : Type 0 where
  plain : IsPlain word → Look word
  named : (name : Word) → word ≡ 45 ∷ 45 ∷ name → long_of word ≡ Some (name, None)
      → bytes_eq word (45 ∷ 45 ∷ []) ≡ false → Look word
  valued : (name value : Word) → word ≡ 45 ∷ 45 ∷ (name ++ 61 ∷ value) → long_of word ≡ Some (name, Some value)
      → bytes_eq word (45 ∷ 45 ∷ []) ≡ false → Look word

dashed : (byte : ℕ) (bytes : Word) → Look (45 ∷ 45 ∷ byte ∷ bytes)
dashed byte bytes = go (cut_of (byte ∷ bytes))
  where
    go : Cut (byte ∷ bytes) → Look (45 ∷ 45 ∷ byte ∷ bytes)
    go (whole lacks) = named (byte ∷ bytes) refl (ap (λ p. Some p) (name_and_value-without (byte ∷ bytes) lacks)) refl
    go (cut name value is lacks) =
        valued name value (ap (λ t. 45 ∷ 45 ∷ t) is)
        (ap (λ t. Some (name_and_value t)) is ∙ ap (λ p. Some p) (name_and_value-at name value lacks)) refl

pub look_of : (word : Word) → IsAdmitted word → Look word
look_of [] admitted = absurd admitted
look_of (byte ∷ bytes) (inl other) = plain other
look_of (byte ∷ []) (inr long) = absurd long.1
look_of (byte ∷ second ∷ []) (inr long) = absurd long.1
look_of (byte ∷ second ∷ third ∷ bytes) (inr long) = both byte second long.0 long.1
  where
    both : (a b : ℕ) → a ≡ 45 → b ≡ 45 → Look (a ∷ b ∷ third ∷ bytes)
    both a b e f =
        subst (λ x. Look (x ∷ b ∷ third ∷ bytes)) (sym e)
        (subst (λ y. Look (45 ∷ y ∷ third ∷ bytes)) (sym f) (dashed third bytes))

-- the words of an option
pub apart-long : (setting : Setting) → long_of (setting_word setting) ≡ Some (id_of (slot_of setting), None)
apart-long bits = refl
apart-long route = refl

pub apart-dashes : (setting : Setting) → bytes_eq (setting_word setting) (45 ∷ 45 ∷ []) ≡ false
apart-dashes bits = refl
apart-dashes route = refl

pub joined-long : (setting : Setting) (value : Word)
    → long_of (setting_word setting ++ (codes "=" ++ value)) ≡ Some (id_of (slot_of setting), Some value)
joined-long bits value = refl
joined-long route value = refl

pub joined-dashes : (setting : Setting) (value : Word)
    → bytes_eq (setting_word setting ++ (codes "=" ++ value)) (45 ∷ 45 ∷ []) ≡ false
joined-dashes bits value = refl
joined-dashes route value = refl

pub setting_word-is : (setting : Setting) → setting_word setting ≡ 45 ∷ 45 ∷ id_of (slot_of setting)
setting_word-is bits = refl
setting_word-is route = refl
