-- One symbol; a part and one behind it; a part seen as another.
use Rattle.std.proofs.Common.{◌≡◌, ◌<◌, ◌≤◌, List, [], ◌∷◌, ◌++◌, length, sym, ap, ◌∙◌, subst, arith, map, append_assoc, length-append}
use Rattle.std.proofs.lemmas.List.{map-append}
use Rattle.std.specs.Prelude.{Result, MatchResult, Ok, Err, IsErrAnd}
use Rattle.rob_index.specs.Symbols.{Symbol}
use Rattle.rob_syntax.specs.declared.error.ParseErr.{ParseErr}
use Rattle.rob_syntax.specs.declared.error.ParseErr.TheVariants.{NotAStatement, Memory}
use Rattle.rob_syntax.specs.Fronts.{BeginsNot, BeginsNone, Ends, Found, IsMissing, HasCause, Reads}

-- ---- one symbol
-- an item that is one symbol
abbrev pub one : {A : Type 0} → (A → Symbol) → A → List Symbol
one spell x = spell x ∷ []

-- symbols that are equal have equal parts
pub heads : {a b : Symbol} {x y : List Symbol} → a ∷ x ≡ b ∷ y → a ≡ b
heads same = cc

pub tails : {a b : Symbol} {x y : List Symbol} → a ∷ x ≡ b ∷ y → x ≡ y
tails same = cc

pub one_found : {A : Type 0} {spell : A → Symbol} {symbols rest : List Symbol} (item : A)
    → ((a b : A) → spell a ≡ spell b → a ≡ b) → symbols ≡ spell item ∷ rest → Found (one spell) Ends symbols rest item
one_found {A} {spell} {symbols} {rest} item injective is = record {
  spelled = is;
  only = λ other end same stop.
      let e : spell other ∷ end ≡ spell item ∷ rest = sym same ∙ is in (injective other item (heads e), tails e);
}

pub one_missing : {A : Type 0} {spell : A → Symbol} {symbols : List Symbol} → BeginsNone spell symbols
    → IsMissing (one spell) Ends symbols
one_missing none = record { none = λ other end same stop. none other end same }

-- ---- a symbol in front of a part, or behind it
-- the symbol, then the part
abbrev pub led : {A : Type 0} → Symbol → (A → List Symbol) → A → List Symbol
led s spell x = s ∷ spell x

-- the part, then the symbol
abbrev pub trailed : {A : Type 0} → (A → List Symbol) → Symbol → A → List Symbol
trailed spell s x = spell x ++ s ∷ []

module _ {A : Type 0} {spell : A → List Symbol} {EndsItem : List Symbol → Type 0} where
  pub led_found : {symbols behind rest : List Symbol} {s : Symbol} {item : A} → symbols ≡ s ∷ behind
      → Found spell EndsItem behind rest item → Found (led s spell) EndsItem symbols rest item
  led_found {symbols} {behind} {rest} {s} is found = record {
    spelled = is ∙ ap (λ (l : List Symbol). s ∷ l) found.spelled;
    only = λ other end same stop. found.only other end (tails (sym is ∙ same)) stop;
  }

  pub led_missing : {symbols behind : List Symbol} {s : Symbol} → symbols ≡ s ∷ behind
      → IsMissing spell EndsItem behind → IsMissing (led s spell) EndsItem symbols
  led_missing is missing = record { none = λ other end same stop. missing.none other end (tails (sym is ∙ same)) stop }

  pub not_led : {symbols : List Symbol} {s : Symbol} → BeginsNot s symbols → IsMissing (led s spell) EndsItem symbols
  not_led none = record { none = λ other end same stop. none _ same }

  module _ (s : Symbol) (stops : (end : List Symbol) → EndsItem (s ∷ end)) where
    pub trailed_found : {symbols middle rest : List Symbol} {item : A} → Found spell EndsItem symbols middle item
        → middle ≡ s ∷ rest → Found (trailed spell s) Ends symbols rest item
    trailed_found {symbols} {middle} {rest} {item} found is = record {
      spelled =
          found.spelled ∙ ap (λ (l : List Symbol). spell item ++ l) is ∙ sym (append_assoc (spell item) (s ∷ []) rest);
      only = λ other end same stop.
          let x = found.only other (s ∷ end) (same ∙ append_assoc (spell other) (s ∷ []) end) (stops end) in
          (x.0, tails (x.1 ∙ is));
    }

    pub trailed_missing : {symbols : List Symbol} → IsMissing spell EndsItem symbols
        → IsMissing (trailed spell s) Ends symbols
    trailed_missing missing = record {
      none = λ other end same stop.
          missing.none other (s ∷ end) (same ∙ append_assoc (spell other) (s ∷ []) end) (stops end);
    }

    pub not_trailed : {symbols middle : List Symbol} {item : A} → Found spell EndsItem symbols middle item
        → BeginsNot s middle → IsMissing (trailed spell s) Ends symbols
    not_trailed found none = record {
      none = λ other end same stop.
          let x = found.only other (s ∷ end) (same ∙ append_assoc (spell other) (s ∷ []) end) (stops end) in
          none end (sym x.1);
    }

-- ---- a part and one behind it
-- both spellings
abbrev pub both : {A B : Type 0} → (A → List Symbol) → (B → List Symbol) → A × B → List Symbol
both spell_a spell_b p = spell_a p.0 ++ spell_b p.1

module _ {A B : Type 0} {spell_a : A → List Symbol} {EndsA EndsB : List Symbol → Type 0} (spell_b : B → List Symbol)
    (follows : (b : B) (end : List Symbol) → EndsB end → EndsA (spell_b b ++ end)) where
  pub both_found : {symbols middle rest : List Symbol} {a : A} {b : B} → Found spell_a EndsA symbols middle a
      → Found spell_b EndsB middle rest b → Found (both spell_a spell_b) EndsB symbols rest (a, b)
  both_found {symbols} {middle} {rest} {a} {b} first second = record {
    spelled =
        first.spelled ∙ ap (λ (l : List Symbol). spell_a a ++ l) second.spelled
        ∙ sym (append_assoc (spell_a a) (spell_b b) rest);
    only = λ other end same stop.
        let x = first.only other.0 (spell_b other.1 ++ end)
        (same ∙ append_assoc (spell_a other.0) (spell_b other.1) end)
        (follows other.1 end stop) in
        let y = second.only other.1 end (sym x.1) stop in
        ((λ i. (x.0 i, y.0 i)), y.1);
  }

  pub first_missing : {symbols : List Symbol} → IsMissing spell_a EndsA symbols
      → IsMissing (both spell_a spell_b) EndsB symbols
  first_missing missing = record {
    none = λ other end same stop.
        missing.none other.0 (spell_b other.1 ++ end) (same ∙ append_assoc (spell_a other.0) (spell_b other.1) end)
        (follows other.1 end stop);
  }

  pub second_missing : {symbols middle : List Symbol} {a : A} → Found spell_a EndsA symbols middle a
      → IsMissing spell_b EndsB middle → IsMissing (both spell_a spell_b) EndsB symbols
  second_missing first missing = record {
    none = λ other end same stop.
        let x = first.only other.0 (spell_b other.1 ++ end)
        (same ∙ append_assoc (spell_a other.0) (spell_b other.1) end)
        (follows other.1 end stop) in
        missing.none other.1 end (sym x.1) stop;
  }

-- ---- a part seen as another
module _ {P C : Type 0} {spell_p : P → List Symbol} {spell_c : C → List Symbol} {EndsItem : List Symbol → Type 0}
    (make : P → C) (parts : C → P) (spelled_as : (c : C) → spell_c c ≡ spell_p (parts c))
    (made : (c : C) → make (parts c) ≡ c) (parted : (p : P) → parts (make p) ≡ p) where
  pub found_as : {symbols rest : List Symbol} {p : P} → Found spell_p EndsItem symbols rest p
      → Found spell_c EndsItem symbols rest (make p)
  found_as {symbols} {rest} {p} found = record {
    spelled =
        found.spelled
        ∙ ap (λ (l : List Symbol). l ++ rest) (sym (spelled_as (make p) ∙ ap spell_p (parted p)));
    only = λ other end same stop.
        let x = found.only (parts other) end (same ∙ ap (λ (l : List Symbol). l ++ end) (spelled_as other)) stop in
        (sym (made other) ∙ ap make x.0, x.1);
  }

  pub missing_as : {symbols : List Symbol} → IsMissing spell_p EndsItem symbols → IsMissing spell_c EndsItem symbols
  missing_as missing = record {
    none = λ other end same stop.
        missing.none (parts other) end (same ∙ ap (λ (l : List Symbol). l ++ end) (spelled_as other)) stop;
  }

-- another end at which fewer rests end
pub found_within : {A : Type 0} {spell : A → List Symbol} {EndsItem EndsOther : List Symbol → Type 0}
    {symbols rest : List Symbol} {item : A} → ((end : List Symbol) → EndsOther end → EndsItem end)
    → Found spell EndsItem symbols rest item → Found spell EndsOther symbols rest item
found_within weaker found = record {
  spelled = found.spelled;
  only = λ other end same stop. found.only other end same (weaker end stop);
}

pub missing_within : {A : Type 0} {spell : A → List Symbol} {EndsItem EndsOther : List Symbol → Type 0}
    {symbols : List Symbol} → ((end : List Symbol) → EndsOther end → EndsItem end)
    → IsMissing spell EndsItem symbols → IsMissing spell EndsOther symbols
missing_within weaker missing = record { none = λ other end same stop. missing.none other end same (weaker end stop) }

-- what is behind a part isn't longer
pub shorter_behind : {A : Type 0} {spell : A → List Symbol} {EndsItem : List Symbol → Type 0}
    {symbols rest : List Symbol}
    {item : A} → Found spell EndsItem symbols rest item → length rest ≤ length symbols
shorter_behind {A} {spell} {EndsItem} {symbols} {rest} {item} found =
    omega (arith, ap length found.spelled, length-append (spell item) rest)

-- one more item at the end of a list, as it is seen
pub pushed : {A B : Type 0} (seen : A → B) {new : List A} (old : List A) (x : A) → new ≡ old ++ x ∷ []
    → map seen new ≡ map seen old ++ seen x ∷ []
pushed seen {new} old x is = ap (map seen) is ∙ map-append seen old (x ∷ [])

-- the first item of a list, as it is seen
pub first_pushed : {A B : Type 0} (seen : A → B) {old new : List A} (x : A) → old ≡ [] → new ≡ old ++ x ∷ []
    → map seen new ≡ seen x ∷ []
first_pushed {A} seen {old} {new} x empty is = ap (map seen) (is ∙ ap (λ (l : List A). l ++ x ∷ []) empty)

-- ---- refusals handed up
-- at the exit of a `?`
pub refused_with : {V : Type 0} (r : Result V ParseErr) (P : V → Type 0) (Q : ParseErr → Type 0) (e : ParseErr)
    → IsErrAnd r (λ f. f ≡ e) → Q e → MatchResult r P Q
refused_with (Ok v) P Q e is cause = absurd is
refused_with (Err f) P Q e is cause = subst Q (sym is) cause

-- a refusal of a part is one of the whole
cause_up : {A B : Type 0} {spell : A → List Symbol} {EndsItem : List Symbol → Type 0} {symbols : List Symbol}
    {spell' : B → List Symbol} {EndsItem' : List Symbol → Type 0} {symbols' : List Symbol}
    → (IsMissing spell EndsItem symbols → IsMissing spell' EndsItem' symbols') → (e : ParseErr)
    → HasCause spell EndsItem symbols e → HasCause spell' EndsItem' symbols' e
cause_up up NotAStatement cause = up cause
cause_up up Memory cause = tt

pub refused_up : {A B V : Type 0} {spell : A → List Symbol} {EndsItem : List Symbol → Type 0} {symbols : List Symbol}
    {spell' : B → List Symbol} {EndsItem' : List Symbol → Type 0} {symbols' : List Symbol} (r : Result V ParseErr)
    (P : V → Type 0) (e : ParseErr) → IsErrAnd r (λ f. f ≡ e)
    → (IsMissing spell EndsItem symbols → IsMissing spell' EndsItem' symbols') → HasCause spell EndsItem symbols e
    → MatchResult r P (λ f. HasCause spell' EndsItem' symbols' f)
refused_up {spell'} {EndsItem'} {symbols'} r P e is up cause =
    refused_with r P (λ (f : ParseErr). HasCause spell' EndsItem' symbols' f) e is (cause_up up e cause)

-- behind a symbol and a part
pub led_shorter : {A : Type 0} {spell : A → List Symbol} {EndsItem : List Symbol → Type 0}
    {symbols behind rest : List Symbol} {s : Symbol} {item : A} → symbols ≡ s ∷ behind
    → Found spell EndsItem behind rest item → length rest < length symbols
led_shorter is found = let h = shorter_behind found in omega (arith, ap length is)

-- the same with an equal value
pub read_as : {A V : Type 0} {spell : A → List Symbol} {EndsItem : List Symbol → Type 0} {value_of : A → V}
    {symbols rest : List Symbol} {v w : V} → v ≡ w → Reads spell EndsItem value_of symbols rest v
    → Reads spell EndsItem value_of symbols rest w
read_as same read = record {
  item = read.item;
  found = read.found;
  value_is = read.value_is ∙ same;
  shorter = read.shorter;
}
