-- Names that a model's text declares are words of a certificate's line: they have no space and no line's end.
use Rattle.std.proofs.Common.{◌≡◌, ◌≢◌, ℕ, true, List, [], ◌∷◌, subst}
use Rattle.rob_cert.specs.Apart.{IsNamedInWords, IsWord}
use Rattle.rob_lex.specs.Bytes.{begins_word, goes_on_word}
use Rattle.rob_meaning.proofs.Lists.EachLemmas.{each_map}
use Rattle.rob_meaning.specs.Named.{declared_names}
use Rattle.rob_meaning.specs.Names.{Name}
use Rattle.rob_meaning.specs.Places.{Each}
use Rattle.rob_meaning.specs.RobustModel.{RobustModel}
use Rattle.rob_syntax.specs.Names.{GoesOn, IsWord as IsReadWord, IsSpelled}

goes_on_apart : (b : ℕ) → goes_on_word b ≡ true → (b ≢ 32) × (b ≢ 10)
goes_on_apart b h = (
  λ e. (let p : goes_on_word 32 ≡ true = subst (λ (x : ℕ). goes_on_word x ≡ true) e h in cc),
  λ e. (let p : goes_on_word 10 ≡ true = subst (λ (x : ℕ). goes_on_word x ≡ true) e h in cc),
)

begins_apart : (b : ℕ) → begins_word b ≡ true → (b ≢ 32) × (b ≢ 10)
begins_apart b h = (
  λ e. (let p : begins_word 32 ≡ true = subst (λ (x : ℕ). begins_word x ≡ true) e h in cc),
  λ e. (let p : begins_word 10 ≡ true = subst (λ (x : ℕ). begins_word x ≡ true) e h in cc),
)

bytes_apart : (bytes : List ℕ) → GoesOn bytes → IsWord bytes
bytes_apart [] h = tt
bytes_apart (b ∷ bytes) h = (goes_on_apart b h.0, bytes_apart bytes h.1)

word_apart : (name : Name) → IsReadWord name → IsWord name
word_apart [] h = absurd h
word_apart (b ∷ bytes) h = (begins_apart b h.0, bytes_apart bytes h.1)

pub named_in_words : (m : RobustModel) → Each IsSpelled (declared_names m) → IsNamedInWords m
named_in_words m h = each_map IsSpelled IsWord (λ name is. word_apart name is.is_word) (declared_names m) h
