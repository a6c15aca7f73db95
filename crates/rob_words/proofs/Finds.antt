-- Which rule a name or a place finds in a command.
use Rattle.std.proofs.Common.{◌≡◌, ℕ, Bool, true, false, zero, suc, refl, sym, ap, arith, map, subst, Option, Some, None, codes, rules}
use Rattle.std.specs.Prelude.{option_map, unwrap_or, ◌==◌}
use Rattle.std.specs.Str.{bytes_eq}
use Rattle.std.proofs.lemmas.Slice.Eq.{bytes_eq-Decides}
use Rattle.clap.specs.Walk.{Text, arg_by_id, arg_by_index, arg_by_long}
use Rattle.rob_words.specs.Commands.{Setting, bits, route}
use Rattle.rob_words.proofs.Slots.{Count, Frame, Slot, bits as bits_slot, first_word, frame, id_of, no_words, one_word, route as route_slot, rule, rules_of, second_word, third_word, three_words, two_words, word_slots}

-- the slot of an option
abbrev pub slot_of : Setting → Slot
slot_of bits = bits_slot
slot_of route = route_slot

-- the command takes the option
abbrev pub takes : Frame → Setting → Bool
takes f bits = true
takes (frame way count) route = way

-- the slot of the next own word, where n words stand before it
abbrev pub word_at : Count → ℕ → Option Slot
word_at one_word zero = Some first_word
word_at two_words zero = Some first_word
word_at two_words (suc zero) = Some second_word
word_at three_words zero = Some first_word
word_at three_words (suc zero) = Some second_word
word_at three_words (suc (suc zero)) = Some third_word
word_at _ _ = None

abbrev pub file_at : Frame → ℕ → Option Slot
file_at (frame way count) n = word_at count n

-- a place behind the last isn't its place
past_one : (n : ℕ) → (1 == suc (suc n)) ≡ false
past_one n = search (rules, arith)

past_two : (n : ℕ) → (2 == suc (suc (suc n))) ≡ false
past_two n = search (rules, arith)

past_three : (n : ℕ) → (3 == suc (suc (suc (suc n)))) ≡ false
past_three n = search (rules, arith)

word_by_index : (count : Count) (n : ℕ)
    → arg_by_index (map rule (word_slots count)) (suc n) ≡ option_map rule (word_at count n)
word_by_index no_words n = refl
word_by_index one_word zero = refl
word_by_index one_word (suc n) = rw (past_one n) refl
word_by_index two_words zero = refl
word_by_index two_words (suc zero) = refl
word_by_index two_words (suc (suc n)) = rw (past_one (suc n), past_two n) refl
word_by_index three_words zero = refl
word_by_index three_words (suc zero) = refl
word_by_index three_words (suc (suc zero)) = refl
word_by_index three_words (suc (suc (suc n))) = rw (past_one (suc (suc n)), past_two (suc n), past_three n) refl

pub by_index : (f : Frame) (n : ℕ) → arg_by_index (rules_of f) (suc n) ≡ option_map rule (file_at f n)
by_index (frame true count) n = word_by_index count n
by_index (frame false count) n = word_by_index count n

-- the name of an option that the command takes finds it, and other names find nothing
pub by_long : (f : Frame) (setting : Setting) → takes f setting ≡ true
    → arg_by_long (rules_of f) (id_of (slot_of setting)) ≡ Some (rule (slot_of setting))
by_long (frame way count) bits t = refl
by_long (frame true count) route t = refl
by_long (frame false count) route t = absurd (search (t, rules))

pub by_id : (f : Frame) (setting : Setting) → takes f setting ≡ true
    → arg_by_id (rules_of f) (id_of (slot_of setting)) ≡ Some (rule (slot_of setting))
by_id (frame way count) bits t = refl
by_id (frame true count) route t = refl
by_id (frame false count) route t = absurd (search (t, rules))

the_slot : (f : Frame) (known slot : Slot) → Some known ≡ Some slot
    → arg_by_id (rules_of f) (id_of known) ≡ Some (rule known)
    → arg_by_id (rules_of f) (id_of slot) ≡ Some (rule slot)
the_slot f known slot e = subst (λ s. arg_by_id (rules_of f) (id_of s) ≡ Some (rule s)) (ap (λ o. unwrap_or o known) e)

pub file_by_id : (f : Frame) (n : ℕ) (slot : Slot) → file_at f n ≡ Some slot
    → arg_by_id (rules_of f) (id_of slot) ≡ Some (rule slot)
file_by_id (frame true no_words) n slot e = absurd (search (e, rules))
file_by_id (frame true one_word) zero slot e = the_slot (frame true one_word) first_word slot e refl
file_by_id (frame true one_word) (suc n) slot e = absurd (search (e, rules))
file_by_id (frame true two_words) zero slot e = the_slot (frame true two_words) first_word slot e refl
file_by_id (frame true two_words) (suc zero) slot e = the_slot (frame true two_words) second_word slot e refl
file_by_id (frame true two_words) (suc (suc n)) slot e = absurd (search (e, rules))
file_by_id (frame true three_words) zero slot e = the_slot (frame true three_words) first_word slot e refl
file_by_id (frame true three_words) (suc zero) slot e = the_slot (frame true three_words) second_word slot e refl
file_by_id (frame true three_words) (suc (suc zero)) slot e = the_slot (frame true three_words) third_word slot e refl
file_by_id (frame true three_words) (suc (suc (suc n))) slot e = absurd (search (e, rules))
file_by_id (frame false no_words) n slot e = absurd (search (e, rules))
file_by_id (frame false one_word) zero slot e = the_slot (frame false one_word) first_word slot e refl
file_by_id (frame false one_word) (suc n) slot e = absurd (search (e, rules))
file_by_id (frame false two_words) zero slot e = the_slot (frame false two_words) first_word slot e refl
file_by_id (frame false two_words) (suc zero) slot e = the_slot (frame false two_words) second_word slot e refl
file_by_id (frame false two_words) (suc (suc n)) slot e = absurd (search (e, rules))
file_by_id (frame false three_words) zero slot e = the_slot (frame false three_words) first_word slot e refl
file_by_id (frame false three_words) (suc zero) slot e = the_slot (frame false three_words) second_word slot e refl
file_by_id (frame false three_words) (suc (suc zero)) slot e = the_slot (frame false three_words) third_word slot e refl
file_by_id (frame false three_words) (suc (suc (suc n))) slot e = absurd (search (e, rules))

-- what a name finds
pub data Found (f : Frame) (name : Text) : Type 0 where
  nothing : arg_by_long (rules_of f) name ≡ None → Found f name
  option : (setting : Setting) → name ≡ id_of (slot_of setting) → takes f setting ≡ true → Found f name

pub found : (f : Frame) (name : Text) → Found f name
found f name = go f (bytes_eq (codes "bits") name) (bytes_eq (codes "route") name) refl refl
  where
    same : (text : Text) → bytes_eq text name ≡ true → name ≡ text
    same text e = sym ((bytes_eq-Decides text name).0 e)

    no_option : (count : Count) → arg_by_long (map rule (word_slots count)) name ≡ None
    no_option no_words = refl
    no_option one_word = refl
    no_option two_words = refl
    no_option three_words = refl

    go : (f : Frame) (a b : Bool) → bytes_eq (codes "bits") name ≡ a → bytes_eq (codes "route") name ≡ b → Found f name
    go (frame way count) true b e g = option bits (same (codes "bits") e) refl
    go (frame true count) false true e g = option route (same (codes "route") g) refl
    go (frame true count) false false e g = nothing (rw (e, g) (no_option count))
    go (frame false count) false b e g = nothing (rw e (no_option count))
