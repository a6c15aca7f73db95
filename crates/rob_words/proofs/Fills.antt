-- Parts that fill slots, and the texts that they hold.
use Rattle.std.proofs.Common.{◌≡◌, ◌∙◌, ℕ, Bool, true, false, zero, suc, refl, sym, ap, subst, List, [], ◌∷◌, ◌++◌, take, drop, append-nil, append_assoc, Some, rules}
use Rattle.std.specs.Prelude.{if◌then◌else◌, unwrap_or}
use Rattle.std.specs.Str.{bytes_eq}
use Rattle.std.proofs.lemmas.Slice.Eq.{bytes_eq-Decides}
use Rattle.rob_words.specs.Values.{Word}
use Rattle.rob_words.specs.Commands.{Part, apart, bits, joined, own, own_words, route, values_of}
use Rattle.rob_words.specs.Texts.{listed}
use Rattle.rob_words.proofs.Slots.{Count, Entry, Frame, Slot, bits as bits_slot, first, first_word, frame, given, given_by, given-append, id_of, no_words, one_word, route as route_slot, second_word, third_word, three_words, two_words}
use Rattle.rob_words.proofs.Finds.{file_at, slot_of, takes, word_at}
use Rattle.rob_words.proofs.Walks.{Fill}

-- the slot of an own word, where n stand before it
abbrev pub file_slot : ℕ → Slot
file_slot zero = first_word
file_slot (suc zero) = second_word
file_slot (suc (suc n)) = third_word

-- what parts behind n own words fill
abbrev pub entries : ℕ → List Part → List Entry
entries n [] = []
entries n (own word ∷ parts) = (file_slot n, word) ∷ entries (suc n) parts
entries n (apart setting value ∷ parts) = (slot_of setting, value) ∷ entries n parts
entries n (joined setting value ∷ parts) = (slot_of setting, value) ∷ entries n parts

pub given-bits : (n : ℕ) (parts : List Part) → given bits_slot (entries n parts) ≡ values_of bits parts
given-bits n [] = refl
given-bits zero (own word ∷ parts) = given-bits 1 parts
given-bits (suc zero) (own word ∷ parts) = given-bits 2 parts
given-bits (suc (suc n)) (own word ∷ parts) = given-bits (suc (suc (suc n))) parts
given-bits n (apart bits value ∷ parts) = ap (λ ws. value ∷ ws) (given-bits n parts)
given-bits n (apart route value ∷ parts) = given-bits n parts
given-bits n (joined bits value ∷ parts) = ap (λ ws. value ∷ ws) (given-bits n parts)
given-bits n (joined route value ∷ parts) = given-bits n parts

pub given-route : (n : ℕ) (parts : List Part) → given route_slot (entries n parts) ≡ values_of route parts
given-route n [] = refl
given-route zero (own word ∷ parts) = given-route 1 parts
given-route (suc zero) (own word ∷ parts) = given-route 2 parts
given-route (suc (suc n)) (own word ∷ parts) = given-route (suc (suc (suc n))) parts
given-route n (apart bits value ∷ parts) = given-route n parts
given-route n (apart route value ∷ parts) = ap (λ ws. value ∷ ws) (given-route n parts)
given-route n (joined bits value ∷ parts) = given-route n parts
given-route n (joined route value ∷ parts) = ap (λ ws. value ∷ ws) (given-route n parts)

late-first : (n : ℕ) (parts : List Part) → given first_word (entries (suc n) parts) ≡ []
late-first n [] = refl
late-first zero (own word ∷ parts) = late-first 1 parts
late-first (suc n) (own word ∷ parts) = late-first (suc (suc n)) parts
late-first n (apart bits value ∷ parts) = late-first n parts
late-first n (apart route value ∷ parts) = late-first n parts
late-first n (joined bits value ∷ parts) = late-first n parts
late-first n (joined route value ∷ parts) = late-first n parts

pub given-first : (parts : List Part) → given first_word (entries 0 parts) ≡ take 1 (own_words parts)
given-first [] = refl
given-first (own word ∷ parts) = ap (λ ws. word ∷ ws) (late-first 0 parts)
given-first (apart bits value ∷ parts) = given-first parts
given-first (apart route value ∷ parts) = given-first parts
given-first (joined bits value ∷ parts) = given-first parts
given-first (joined route value ∷ parts) = given-first parts

late-second : (n : ℕ) (parts : List Part) → given second_word (entries (suc (suc n)) parts) ≡ []
late-second n [] = refl
late-second n (own word ∷ parts) = late-second (suc n) parts
late-second n (apart bits value ∷ parts) = late-second n parts
late-second n (apart route value ∷ parts) = late-second n parts
late-second n (joined bits value ∷ parts) = late-second n parts
late-second n (joined route value ∷ parts) = late-second n parts

next-second : (parts : List Part) → given second_word (entries 1 parts) ≡ take 1 (own_words parts)
next-second [] = refl
next-second (own word ∷ parts) = ap (λ ws. word ∷ ws) (late-second 0 parts)
next-second (apart bits value ∷ parts) = next-second parts
next-second (apart route value ∷ parts) = next-second parts
next-second (joined bits value ∷ parts) = next-second parts
next-second (joined route value ∷ parts) = next-second parts

pub given-second : (parts : List Part) → given second_word (entries 0 parts) ≡ take 1 (drop 1 (own_words parts))
given-second [] = refl
given-second (own word ∷ parts) = next-second parts
given-second (apart bits value ∷ parts) = given-second parts
given-second (apart route value ∷ parts) = given-second parts
given-second (joined bits value ∷ parts) = given-second parts
given-second (joined route value ∷ parts) = given-second parts

late-third : (n : ℕ) (parts : List Part) → given third_word (entries (suc (suc n)) parts) ≡ own_words parts
late-third n [] = refl
late-third n (own word ∷ parts) = ap (λ ws. word ∷ ws) (late-third (suc n) parts)
late-third n (apart bits value ∷ parts) = late-third n parts
late-third n (apart route value ∷ parts) = late-third n parts
late-third n (joined bits value ∷ parts) = late-third n parts
late-third n (joined route value ∷ parts) = late-third n parts

next-third : (parts : List Part) → given third_word (entries 1 parts) ≡ drop 1 (own_words parts)
next-third [] = refl
next-third (own word ∷ parts) = late-third 0 parts
next-third (apart bits value ∷ parts) = next-third parts
next-third (apart route value ∷ parts) = next-third parts
next-third (joined bits value ∷ parts) = next-third parts
next-third (joined route value ∷ parts) = next-third parts

pub given-third : (parts : List Part) → given third_word (entries 0 parts) ≡ drop 2 (own_words parts)
given-third [] = refl
given-third (own word ∷ parts) = next-third parts
given-third (apart bits value ∷ parts) = given-third parts
given-third (apart route value ∷ parts) = given-third parts
given-third (joined bits value ∷ parts) = given-third parts
given-third (joined route value ∷ parts) = given-third parts

-- ---- what filling asks of parts

-- the command takes the options, and so many own words
abbrev pub Fits : Frame → ℕ → List Part → Type 0
Fits f n [] = Unit {0}
Fits f n (own word ∷ parts) = (file_at f n ≡ Some (file_slot n)) × Fits f (suc n) parts
Fits f n (apart setting value ∷ parts) = (takes f setting ≡ true) × Fits f n parts
Fits f n (joined setting value ∷ parts) = (takes f setting ≡ true) × Fits f n parts

-- a slot is given one value at most
abbrev pub IsSingle : List Word → Type 0
IsSingle words = words ≡ listed (first words)

word_is : (count : Count) (n : ℕ) (slot : Slot) → word_at count n ≡ Some slot → slot ≡ file_slot n
word_is no_words n slot e = absurd (search (e, rules))
word_is one_word zero slot e = sym (ap (λ o. unwrap_or o first_word) e)
word_is one_word (suc n) slot e = absurd (search (e, rules))
word_is two_words zero slot e = sym (ap (λ o. unwrap_or o first_word) e)
word_is two_words (suc zero) slot e = sym (ap (λ o. unwrap_or o second_word) e)
word_is two_words (suc (suc n)) slot e = absurd (search (e, rules))
word_is three_words zero slot e = sym (ap (λ o. unwrap_or o first_word) e)
word_is three_words (suc zero) slot e = sym (ap (λ o. unwrap_or o second_word) e)
word_is three_words (suc (suc zero)) slot e = sym (ap (λ o. unwrap_or o third_word) e)
word_is three_words (suc (suc (suc n))) slot e = absurd (search (e, rules))

file_is : (f : Frame) (n : ℕ) (slot : Slot) → file_at f n ≡ Some slot → slot ≡ file_slot n
file_is (frame way count) n slot e = word_is count n slot e

-- after one more entry, and those behind it
then_more : (before more after : List Entry) (entry : Entry) → after ≡ (before ++ entry ∷ []) ++ more
    → after ≡ before ++ entry ∷ more
then_more before more after entry e = e ∙ append_assoc before (entry ∷ []) more

pub fill-entries : (f : Frame) (n : ℕ) (parts : List Part) (before after : List Entry) → Fill f n parts before after
    → (after ≡ before ++ entries n parts) × Fits f n parts
fill-entries f n [] before after fill = (fill ∙ sym (append-nil before), tt)
fill-entries f n (own word ∷ parts) before after fill =
    let rest = fill-entries f (suc n) parts _ after fill.3 in
    let is = file_is f n fill.0 fill.1 in (
      then_more before (entries (suc n) parts) after (fill.0, word) rest.0
          ∙ ap (λ s. before ++ (s, word) ∷ entries (suc n) parts) is,
      (fill.1 ∙ ap (λ s. Some s) is, rest.1),
    )
fill-entries f n (apart setting value ∷ parts) before after fill =
    let rest = fill-entries f n parts _ after fill.2 in
    (then_more before (entries n parts) after (slot_of setting, value) rest.0, (fill.0, rest.1))
fill-entries f n (joined setting value ∷ parts) before after fill =
    let rest = fill-entries f n parts _ after fill.2 in
    (then_more before (entries n parts) after (slot_of setting, value) rest.0, (fill.0, rest.1))

-- ---- each slot once

one_more : (slot other : Slot) (value : Word) (before : List Entry) → given other before ≡ []
    → IsSingle (given slot before)
    → IsSingle (given slot (before ++ (other, value) ∷ []))
one_more slot other value before free single =
    subst IsSingle (sym (given-append slot before ((other, value) ∷ [])))
    (go (bytes_eq (id_of other) (id_of slot)) refl)
  where
    go : (b : Bool) → bytes_eq (id_of other) (id_of slot) ≡ b
        → IsSingle (given slot before ++ (if b then value ∷ [] else []))
    go true e =
        let none : given slot before ≡ [] =
        sym (ap (λ id. given_by id before) ((bytes_eq-Decides (id_of other) (id_of slot)).0 e)) ∙ free in
        subst (λ ws. IsSingle (ws ++ value ∷ [])) (sym none) refl
    go false e = subst IsSingle (sym (append-nil (given slot before))) single

pub fill-single : (slot : Slot) (f : Frame) (n : ℕ) (parts : List Part) (before after : List Entry)
    → Fill f n parts before after
    → IsSingle (given slot before) → IsSingle (given slot after)
fill-single slot f n [] before after fill single = subst (λ es. IsSingle (given slot es)) (sym fill) single
fill-single slot f n (own word ∷ parts) before after fill single =
    fill-single slot f (suc n) parts _ after fill.3 (one_more slot fill.0 word before fill.2 single)
fill-single slot f n (apart setting value ∷ parts) before after fill single =
    fill-single slot f n parts _ after fill.2 (one_more slot (slot_of setting) value before fill.1 single)
fill-single slot f n (joined setting value ∷ parts) before after fill single =
    fill-single slot f n parts _ after fill.2 (one_more slot (slot_of setting) value before fill.1 single)

front_free : (a b : List Word) (word : Word) → IsSingle (a ++ word ∷ b) → a ≡ []
front_free [] b word single = refl
front_free (x ∷ []) b word single = absurd (search (single, rules))
front_free (x ∷ y ∷ a) b word single = absurd (search (single, rules))

same_slot : (slot : Slot) (word : Word) (more : List Entry) → given slot ((slot, word) ∷ more) ≡ word ∷ given slot more
same_slot bits_slot word more = refl
same_slot route_slot word more = refl
same_slot first_word word more = refl
same_slot second_word word more = refl
same_slot third_word word more = refl

free_before : (slot : Slot) (word : Word) (before more after : List Entry) → after ≡ before ++ (slot, word) ∷ more
    → IsSingle (given slot after) → given slot before ≡ []
free_before slot word before more after is single =
    front_free (given slot before) (given slot more) word
    (subst IsSingle (ap (given slot) is ∙ given-append slot before ((slot, word) ∷ more)
    ∙ ap (λ ws. given slot before ++ ws) (same_slot slot word more)) single)

then_all : (before more after : List Entry) (entry : Entry) → after ≡ before ++ entry ∷ more
    → after ≡ (before ++ entry ∷ []) ++ more
then_all before more after entry e = e ∙ sym (append_assoc before (entry ∷ []) more)

-- parts that fit fill the slots, where each is given once
pub fill-from : (f : Frame) (n : ℕ) (parts : List Part) (before after : List Entry) → Fits f n parts
    → after ≡ before ++ entries n parts
    → ((slot : Slot) → IsSingle (given slot after)) → Fill f n parts before after
fill-from f n [] before after fits is single = is ∙ append-nil before
fill-from f n (own word ∷ parts) before after fits is single = (
  file_slot n,
  fits.0,
  free_before (file_slot n) word before (entries (suc n) parts) after is (single (file_slot n)),
  fill-from f (suc n) parts (before ++ (file_slot n, word) ∷ []) after fits.1
      (then_all before (entries (suc n) parts) after (file_slot n, word) is) single,
)
fill-from f n (apart setting value ∷ parts) before after fits is single = (
  fits.0,
  free_before (slot_of setting) value before (entries n parts) after is (single (slot_of setting)),
  fill-from f n parts (before ++ (slot_of setting, value) ∷ []) after fits.1
      (then_all before (entries n parts) after (slot_of setting, value) is) single,
)
fill-from f n (joined setting value ∷ parts) before after fits is single = (
  fits.0,
  free_before (slot_of setting) value before (entries n parts) after is (single (slot_of setting)),
  fill-from f n parts (before ++ (slot_of setting, value) ∷ []) after fits.1
      (then_all before (entries n parts) after (slot_of setting, value) is) single,
)
