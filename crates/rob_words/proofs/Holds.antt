-- Parts that fill the slots of a command hold its texts.
use Rattle.std.proofs.Common.{◌≡◌, ◌≤◌, ◌∙◌, ◌⊎◌, inl, inr, ℕ, Bool, true, false, suc, refl, sym, ap, ap₂, subst, arith, List, [], ◌∷◌, ◌++◌, length, take, drop, Option, Some, None, rules}
use Rattle.rob_words.specs.Values.{Word}
use Rattle.rob_words.specs.Commands.{ArePlain, Part, apart, bits, joined, own, own_words, route, values_of}
use Rattle.rob_words.specs.Texts.{Hold, Holding, TakesRoute, bare_words, listed}
use Rattle.rob_words.proofs.Slots.{Count, Entry, Frame, Slot, bits as bits_slot, first, first_word, frame, given, no_words, one_word, route as route_slot, second_word, size, some, third_word, three_words, two_words, word_slots}
use Rattle.rob_words.proofs.Finds.{file_at, takes}
use Rattle.rob_words.proofs.Walks.{Fill}
use Rattle.rob_words.proofs.Fills.{Fits, IsSingle, entries, file_slot, fill-entries, fill-from, fill-single, given-bits, given-first, given-route, given-second, given-third}

-- each of these slots is given a value
abbrev pub AllGiven : List Slot → List Entry → Type 0
AllGiven [] after = Unit {0}
AllGiven (slot ∷ slots) after = (some (given slot after) ≡ true) × AllGiven slots after

-- the command has room for the own words
abbrev Room : Frame → ℕ → List Word → Type 0
Room f n [] = Unit {0}
Room f n (word ∷ words) = (file_at f n ≡ Some (file_slot n)) × Room f (suc n) words

fits-room : (f : Frame) (n : ℕ) (parts : List Part) → Fits f n parts → Room f n (own_words parts)
fits-room f n [] fits = tt
fits-room f n (own word ∷ parts) fits = (fits.0, fits-room f (suc n) parts fits.1)
fits-room f n (apart setting value ∷ parts) fits = fits-room f n parts fits.1
fits-room f n (joined setting value ∷ parts) fits = fits-room f n parts fits.1

fits-route : (f : Frame) (n : ℕ) (parts : List Part) → takes f route ≡ false → Fits f n parts
    → values_of route parts ≡ []
fits-route f n [] none fits = refl
fits-route f n (own word ∷ parts) none fits = fits-route f (suc n) parts none fits.1
fits-route f n (apart bits value ∷ parts) none fits = fits-route f n parts none fits.1
fits-route f n (apart route value ∷ parts) none fits = absurd (search (sym none ∙ fits.0, rules))
fits-route f n (joined bits value ∷ parts) none fits = fits-route f n parts none fits.1
fits-route f n (joined route value ∷ parts) none fits = absurd (search (sym none ∙ fits.0, rules))

fits-from : (f : Frame) (n : ℕ) (parts : List Part) → Room f n (own_words parts) → (takes f route ≡ true)
    ⊎ (values_of route parts ≡ []) → Fits f n parts
fits-from f n [] room way = tt
fits-from f n (own word ∷ parts) room way = (room.0, fits-from f (suc n) parts room.1 way)
fits-from f n (apart bits value ∷ parts) room way = (refl, fits-from f n parts room way)
fits-from f n (apart route value ∷ parts) room (inl taken) = (taken, fits-from f n parts room (inl taken))
fits-from f n (apart route value ∷ parts) room (inr none) = absurd (search (none, rules))
fits-from f n (joined bits value ∷ parts) room way = (refl, fits-from f n parts room way)
fits-from f n (joined route value ∷ parts) room (inl taken) = (taken, fits-from f n parts room (inl taken))
fits-from f n (joined route value ∷ parts) room (inr none) = absurd (search (none, rules))

-- ---- as many own words as the command has

-- the own words are at least so many
abbrev Reaches : Count → List Word → Type 0
Reaches no_words words = Unit {0}
Reaches one_word words = (some (take 1 words) ≡ true) × Unit {0}
Reaches two_words words = (some (take 1 words) ≡ true) × (some (take 1 (drop 1 words)) ≡ true) × Unit {0}
Reaches three_words words =
    (some (take 1 words) ≡ true) × (some (take 1 (drop 1 words)) ≡ true) × (some (drop 2 words) ≡ true) × Unit {0}

given-reaches : (count : Count) (after : List Entry) (words : List Word) → given first_word after ≡ take 1 words
    → given second_word after ≡ take 1 (drop 1 words) → given third_word after ≡ drop 2 words
    → AllGiven (word_slots count) after → Reaches count words
given-reaches no_words after words a b c h = tt
given-reaches one_word after words a b c h = (sym (ap some a) ∙ h.0, tt)
given-reaches two_words after words a b c h = (sym (ap some a) ∙ h.0, sym (ap some b) ∙ h.1.0, tt)
given-reaches three_words after words a b c h =
    (sym (ap some a) ∙ h.0, sym (ap some b) ∙ h.1.0, sym (ap some c) ∙ h.1.1.0, tt)

reaches-given : (count : Count) (after : List Entry) (words : List Word) → given first_word after ≡ take 1 words
    → given second_word after ≡ take 1 (drop 1 words) → given third_word after ≡ drop 2 words → Reaches count words
    → AllGiven (word_slots count) after
reaches-given no_words after words a b c h = tt
reaches-given one_word after words a b c h = (ap some a ∙ h.0, tt)
reaches-given two_words after words a b c h = (ap some a ∙ h.0, (ap some b ∙ h.1, tt))
reaches-given three_words after words a b c h = (ap some a ∙ h.0, (ap some b ∙ h.1, (ap some c ∙ h.2, tt)))

words-all : (way : Bool) (count : Count) (words : List Word) → Room (frame way count) 0 words → Reaches count words
    → length words ≡ size count
words-all way no_words [] room h = refl
words-all way no_words (a ∷ more) room h = absurd (search (room.0, rules))
words-all way one_word [] room h = absurd (search (h.0, rules))
words-all way one_word (a ∷ []) room h = refl
words-all way one_word (a ∷ b ∷ more) room h = absurd (search (room.1.0, rules))
words-all way two_words [] room h = absurd (search (h.0, rules))
words-all way two_words (a ∷ []) room h = absurd (search (h.1, rules))
words-all way two_words (a ∷ b ∷ []) room h = refl
words-all way two_words (a ∷ b ∷ c ∷ more) room h = absurd (search (room.1.1.0, rules))
words-all way three_words [] room h = absurd (search (h.0, rules))
words-all way three_words (a ∷ []) room h = absurd (search (h.1, rules))
words-all way three_words (a ∷ b ∷ []) room h = absurd (search (h.2, rules))
words-all way three_words (a ∷ b ∷ c ∷ []) room h = refl
words-all way three_words (a ∷ b ∷ c ∷ d ∷ more) room h = absurd (search (room.1.1.1.0, rules))

all-room : (way : Bool) (count : Count) (words : List Word) → length words ≡ size count → Room (frame way count) 0 words
all-room way no_words [] e = tt
all-room way no_words (a ∷ more) e = absurd (omega (arith, e))
all-room way one_word [] e = absurd (omega (arith, e))
all-room way one_word (a ∷ []) e = (refl, tt)
all-room way one_word (a ∷ b ∷ more) e = absurd (omega (arith, e))
all-room way two_words [] e = absurd (omega (arith, e))
all-room way two_words (a ∷ []) e = absurd (omega (arith, e))
all-room way two_words (a ∷ b ∷ []) e = (refl, (refl, tt))
all-room way two_words (a ∷ b ∷ c ∷ more) e = absurd (omega (arith, e))
all-room way three_words [] e = absurd (omega (arith, e))
all-room way three_words (a ∷ []) e = absurd (omega (arith, e))
all-room way three_words (a ∷ b ∷ []) e = absurd (omega (arith, e))
all-room way three_words (a ∷ b ∷ c ∷ []) e = (refl, (refl, (refl, tt)))
all-room way three_words (a ∷ b ∷ c ∷ d ∷ more) e = absurd (omega (arith, e))

all-reaches : (count : Count) (words : List Word) → length words ≡ size count → Reaches count words
all-reaches no_words words e = tt
all-reaches one_word [] e = absurd (omega (arith, e))
all-reaches one_word (a ∷ more) e = (refl, tt)
all-reaches two_words [] e = absurd (omega (arith, e))
all-reaches two_words (a ∷ []) e = absurd (omega (arith, e))
all-reaches two_words (a ∷ b ∷ more) e = (refl, refl, tt)
all-reaches three_words [] e = absurd (omega (arith, e))
all-reaches three_words (a ∷ []) e = absurd (omega (arith, e))
all-reaches three_words (a ∷ b ∷ []) e = absurd (omega (arith, e))
all-reaches three_words (a ∷ b ∷ c ∷ more) e = (refl, refl, refl, tt)

size-few : (count : Count) → size count ≤ 3
size-few no_words = omega arith
size-few one_word = omega arith
size-few two_words = omega arith
size-few three_words = omega arith

-- ---- the own words by their places

in_places : (words : List Word) → words ≡ take 1 words ++ (take 1 (drop 1 words) ++ drop 2 words)
in_places [] = refl
in_places (a ∷ []) = refl
in_places (a ∷ b ∷ words) = refl

single-first : (words : List Word) → IsSingle (take 1 words)
single-first [] = refl
single-first (a ∷ words) = refl

single-second : (words : List Word) → IsSingle (take 1 (drop 1 words))
single-second [] = refl
single-second (a ∷ words) = single-first words

single-third : (words : List Word) → length words ≤ 3 → IsSingle (drop 2 words)
single-third [] few = refl
single-third (a ∷ []) few = refl
single-third (a ∷ b ∷ []) few = refl
single-third (a ∷ b ∷ c ∷ []) few = refl
single-third (a ∷ b ∷ c ∷ d ∷ words) few = absurd (omega (arith, few))

-- ---- from filled slots to texts

-- the texts of the slots
abbrev pub held_in : List Entry → Holding
held_in after = record {
  own = listed (first (given first_word after))
      ++ (listed (first (given second_word after)) ++ listed (first (given third_word after)));
  bits = first (given bits_slot after);
  way = first (given route_slot after);
}

none_first : (words : List Word) → words ≡ [] → first words ≡ None
none_first words e = ap first e

module _ (f : Frame) (parts : List Part) (after : List Entry) (fill : Fill f 0 parts [] after) where
  after_is : after ≡ entries 0 parts
  after_is = (fill-entries f 0 parts [] after fill).0

  fits : Fits f 0 parts
  fits = (fill-entries f 0 parts [] after fill).1

  single : (slot : Slot) → IsSingle (given slot after)
  single slot = fill-single slot f 0 parts [] after fill refl

  first-is : given first_word after ≡ take 1 (own_words parts)
  first-is = ap (given first_word) after_is ∙ given-first parts

  second-is : given second_word after ≡ take 1 (drop 1 (own_words parts))
  second-is = ap (given second_word) after_is ∙ given-second parts

  third-is : given third_word after ≡ drop 2 (own_words parts)
  third-is = ap (given third_word) after_is ∙ given-third parts

  words-held : own_words parts ≡ (held_in after).own
  words-held =
      in_places (own_words parts)
      ∙ ap₂ (λ a bc. a ++ bc) (sym first-is ∙ single first_word)
      (ap₂ (λ b c. b ++ c) (sym second-is ∙ single second_word) (sym third-is ∙ single third_word))

  route-is : given route_slot after ≡ values_of route parts
  route-is = ap (given route_slot) after_is ∙ given-route 0 parts

  no_route : takes f route ≡ false → first (given route_slot after) ≡ None
  no_route none = none_first (given route_slot after) (route-is ∙ fits-route f 0 parts none fits)

takes_way : (way : Bool) (count : Count) (parts : List Part) (after : List Entry)
    → Fill (frame way count) 0 parts [] after
    → TakesRoute way (first (given route_slot after))
takes_way true count parts after fill = tt
takes_way false count parts after fill = no_route (frame false count) parts after fill refl

-- the texts of what fills the slots of a command
pub holds : (way : Bool) (count : Count) (parts : List Part) (after : List Entry)
    → Fill (frame way count) 0 parts [] after
    → AllGiven (word_slots count) after → ArePlain (bare_words parts) → Hold way (size count) parts (held_in after)
holds way count parts after fill all plain =
    let f = frame way count in
    let reaches =
    given-reaches count after (own_words parts) (first-is f parts after fill) (second-is f parts after fill)
    (third-is f parts after fill) all in
    record {
      own = words-held f parts after fill;
      all = sym (ap length (words-held f parts after fill))
          ∙ words-all way count (own_words parts) (fits-room f 0 parts (fits f parts after fill)) reaches;
      plain = plain;
      bits = sym (ap (given bits_slot) (after_is f parts after fill) ∙ given-bits 0 parts)
          ∙ single f parts after fill bits_slot;
      way = sym (route-is f parts after fill) ∙ single f parts after fill route_slot;
      takes_route = takes_way way count parts after fill;
    }

-- ---- from texts to filled slots

hold-route : (way : Bool) (value : Option Word) → TakesRoute way value → (way ≡ true) ⊎ (listed value ≡ [])
hold-route true value takes_it = inl refl
hold-route false value takes_it = inr (ap listed takes_it)

listed-single : (o : Option Word) → IsSingle (listed o)
listed-single None = refl
listed-single (Some word) = refl

module _ (way : Bool) (count : Count) (parts : List Part) (found : Holding)
    (hold : Hold way (size count) parts found) where
  firsts : given first_word (entries 0 parts) ≡ take 1 found.own
  firsts = given-first parts ∙ ap (take 1) hold.own

  seconds : given second_word (entries 0 parts) ≡ take 1 (drop 1 found.own)
  seconds = given-second parts ∙ ap (λ ws. take 1 (drop 1 ws)) hold.own

  thirds : given third_word (entries 0 parts) ≡ drop 2 found.own
  thirds = given-third parts ∙ ap (drop 2) hold.own

  single_slots : (slot : Slot) → IsSingle (given slot (entries 0 parts))
  single_slots bits_slot = subst IsSingle (sym (given-bits 0 parts ∙ hold.bits)) (listed-single found.bits)
  single_slots route_slot = subst IsSingle (sym (given-route 0 parts ∙ hold.way)) (listed-single found.way)
  single_slots first_word = subst IsSingle (sym firsts) (single-first found.own)
  single_slots second_word = subst IsSingle (sym seconds) (single-second found.own)
  single_slots third_word =
      subst IsSingle (sym thirds) (single-third found.own (omega (arith, hold.all, size-few count)))

  pub hold-fill : Fill (frame way count) 0 parts [] (entries 0 parts)
  hold-fill = fill-from (frame way count) 0 parts [] (entries 0 parts)
      (fits-from (frame way count) 0 parts
      (subst (Room (frame way count) 0) (sym hold.own) (all-room way count found.own hold.all))
      (subst (λ ws. (way ≡ true) ⊎ (ws ≡ [])) (sym hold.way) (hold-route way found.way hold.takes_route)))
      refl single_slots

  pub hold-complete : AllGiven (word_slots count) (entries 0 parts)
  hold-complete =
      reaches-given count (entries 0 parts) found.own firsts seconds thirds (all-reaches count found.own hold.all)
