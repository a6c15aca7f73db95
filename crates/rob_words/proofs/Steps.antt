-- What one word does to `clap`'s walk over the words.
use Rattle.std.proofs.Common.{◌≡◌, ◌∙◌, ◌+◌, ◌&&◌, ℕ, Bool, true, false, zero, suc, refl, sym, ap, ap₂, min, List, [], ◌∷◌, Option, Some, None, rules}
use Rattle.std.specs.Prelude.{if◌then◌else◌, option_map}
use Rattle.std.specs.Option.{option_map_or}
use Rattle.std.specs.Str.{bytes_eq}
use Rattle.clap.specs.Lexer.{long_of, usize_max}
use Rattle.clap.specs.Kinds.{Kinds, or_else}
use Rattle.clap.specs.Faults.{bundle_fault, flag_word_fault, long_fault, positional_fault, settle_fault, step_fault, stray_fault, turn_fault, use_fault, word_fault}
use Rattle.clap.specs.Walk.{Held, Row, Rule, Step, Walk, after_flag, after_step, arg_by_id, arg_by_long, idle, is_pending, long_met, long_or_other, long_word, next, option as option_waits, pushed, settled, short_or_plain, to_positional, trailing, used, used_by_id, value, walked, word_met, plain_word, option_word}
use Rattle.clap.specs.declared.error.kind.ErrorKind.{ErrorKind}
use Rattle.clap.specs.declared.error.kind.ErrorKind.TheVariants.{InvalidValue, UnknownArgument}
use Rattle.rob_words.specs.Values.{Word}
use Rattle.rob_words.specs.Commands.{IsPlain, Setting, bits, route}
use Rattle.rob_words.proofs.Slots.{Count, Frame, Slot, frame, id_of, no_words, one_word, rule, rules_of, shape, three_words, two_words}
use Rattle.rob_words.proofs.Finds.{Found, found, nothing, option, by_id, by_index, by_long, file_at, slot_of, takes, word_at}
use Rattle.rob_words.proofs.Words.{plain-dashes, plain-long, plain-short}

-- the walk waits for any word, behind n own words
abbrev pub resting : Held → ℕ → Walk
resting held n = record { held = held; waiting = idle; position = suc n; is_trailing = false; stopped = None }

-- a slot whose value is still pending
abbrev pub pending : List Row → Slot → List Word → ℕ → Held
pending rows slot values skip = record { rows = rows; pending = Some (id_of slot, values); skip = skip }

-- the walk waits for the value of an option
abbrev pub awaiting : Setting → List Row → ℕ → ℕ → Walk
awaiting setting rows skip n = record {
  held = pending rows (slot_of setting) [] skip;
  waiting = option_waits (id_of (slot_of setting));
  position = suc n;
  is_trailing = false;
  stopped = None;
}

-- ---- no faults

pub or_else-nil : (a b : Kinds) → or_else a b ≡ [] → (a ≡ []) × (b ≡ [])
or_else-nil [] b e = (refl, e)
or_else-nil (k ∷ ks) b e = absurd (search (e, rules))

pub some_kind : (k : ErrorKind) (ks : Kinds) → k ∷ ks ≡ [] → ⊥
some_kind k ks e = search (e, rules)

and_false : (b : Bool) → (b && false) ≡ false
and_false true = refl
and_false false = refl

-- ---- plain words

module _ (f : Frame) (word : Word) (plain : IsPlain word) where
  met-plain : (position : ℕ) (held : Held) → word_met (rules_of f) [] false idle position word held ≡ (held, value)
  met-plain position held =
      ap (λ b. if b then (held, trailing position) else long_or_other (rules_of f) idle word (long_of word) held)
      (plain-dashes word plain)
      ∙ ap (λ o. long_or_other (rules_of f) idle word o held) (plain-long word plain)
      ∙ ap (λ o. short_or_plain (rules_of f) idle word o held) (plain-short word plain)

  fault-plain : (held : Held) → flag_word_fault (rules_of f) false (long_of word) word held ≡ []
  fault-plain held =
      ap (λ o. flag_word_fault (rules_of f) false o word held) (plain-long word plain)
      ∙ ap (λ o. option_map_or (λ flags. bundle_fault (rules_of f) false flags held) o []) (plain-short word plain)

  word_fault-plain : (held : Held) → word_fault (shape f) [] false idle word held ≡ []
  word_fault-plain held =
      ap (λ b. if b then [] else flag_word_fault (rules_of f) false (long_of word) word held) (plain-dashes word plain)
      ∙ fault-plain held

  pub walked-plain : (held : Held) (n : ℕ)
      → walked (rules_of f) [] (resting held n) word
      ≡ to_positional (rules_of f) (option_map rule (file_at f n)) word (resting held n) held
  unfolding walked
  walked-plain held n =
      ap (λ (m : Held × Step). after_step (rules_of f) word (resting held n) m.0 m.1) (met-plain (suc n) held)
      ∙ ap (λ o. to_positional (rules_of f) o word (resting held n) held) (by_index f n)

  pub turn_fault-plain : (held : Held) (n : ℕ)
      → turn_fault (shape f) [] (resting held n) word ≡ step_fault (shape f) (suc n) held value
  turn_fault-plain held n =
      ap (λ (m : Held × Step). or_else (word_fault (shape f) [] false idle word held)
      (step_fault (shape f) (suc n) m.0 m.1)) (met-plain (suc n) held)
      ∙ ap (λ ks. or_else ks (step_fault (shape f) (suc n) held value)) (word_fault-plain held)

-- ---- own words

next_word : (count : Count) (n : ℕ) (slot : Slot) → word_at count n ≡ Some slot
    → min (suc n + 1) usize_max ≡ suc (suc n)
next_word no_words n slot e = absurd (search (e, rules))
next_word one_word zero slot e = refl
next_word one_word (suc n) slot e = absurd (search (e, rules))
next_word two_words zero slot e = refl
next_word two_words (suc zero) slot e = refl
next_word two_words (suc (suc n)) slot e = absurd (search (e, rules))
next_word three_words zero slot e = refl
next_word three_words (suc zero) slot e = refl
next_word three_words (suc (suc zero)) slot e = refl
next_word three_words (suc (suc (suc n))) slot e = absurd (search (e, rules))

next_place : (f : Frame) (n : ℕ) (slot : Slot) → file_at f n ≡ Some slot → min (suc n + 1) usize_max ≡ suc (suc n)
next_place (frame way count) n slot e = next_word count n slot e

-- a pending slot is used when it is settled
pub settle-pending : (f : Frame) (rows : List Row) (slot : Slot) (values : List Word) (skip : ℕ)
    → arg_by_id (rules_of f) (id_of slot) ≡ Some (rule slot)
    → settle_fault (rules_of f) false (pending rows slot values skip) ≡ use_fault false (rule slot) values rows
settle-pending f rows slot values skip e = ap (λ o. option_map_or (λ (a : Rule). use_fault false a values rows) o []) e

pub settled-pending : (f : Frame) (rows : List Row) (slot : Slot) (values : List Word) (skip : ℕ)
    → arg_by_id (rules_of f) (id_of slot) ≡ Some (rule slot)
    → (settled (rules_of f) (pending rows slot values skip)).rows ≡ used (rule slot) values rows
settled-pending f rows slot values skip e = ap (λ o. used_by_id o values rows) e

module _ (f : Frame) (word : Word) (plain : IsPlain word) (held : Held) (n : ℕ) where
  -- the word goes to the next slot, after what is pending was settled
  pub walked-own : (slot : Slot) → file_at f n ≡ Some slot
      → walked (rules_of f) [] (resting held n) word
      ≡ resting (pending (settled (rules_of f) held).rows slot (word ∷ []) held.skip) (suc n)
  walked-own slot at =
      walked-plain f word plain held n
      ∙ ap (λ o. to_positional (rules_of f) (option_map rule o) word (resting held n) held) at
      ∙ ap₂ (λ b p.
      record (resting (pushed (id_of slot) word (if b then held else settled (rules_of f) held)) (suc n))
      { position = p })
      (and_false (is_pending (rule slot) held.pending)) (next_place f n slot at)

  pub turn_fault-own : (slot : Slot) → file_at f n ≡ Some slot
      → turn_fault (shape f) [] (resting held n) word ≡ settle_fault (rules_of f) false held
  turn_fault-own slot at =
      turn_fault-plain f word plain held n
      ∙ ap (λ o. option_map_or (λ (a : Rule). positional_fault (rules_of f) false a held) o (stray_fault (shape f)))
      (by_index f n)
      ∙ ap (λ o. option_map_or (λ (a : Rule). positional_fault (rules_of f) false a held) (option_map rule o)
      (stray_fault (shape f))) at
      ∙ ap (λ b. if b then [] else settle_fault (rules_of f) false held)
      (and_false (is_pending (rule slot) held.pending))

  -- one own word too many
  pub turn_fault-stray : file_at f n ≡ None → turn_fault (shape f) [] (resting held n) word ≡ UnknownArgument ∷ []
  turn_fault-stray at =
      turn_fault-plain f word plain held n
      ∙ ap (λ o. option_map_or (λ (a : Rule). positional_fault (rules_of f) false a held) o (stray_fault (shape f)))
      (by_index f n)
      ∙ ap (λ o. option_map_or (λ (a : Rule). positional_fault (rules_of f) false a held) (option_map rule o)
      (stray_fault (shape f))) at

-- ---- options

module _ (f : Frame) (word name : Word) (given_value : Option Word) (long : long_of word ≡ Some (name, given_value))
    (dashes : bytes_eq word (45 ∷ 45 ∷ []) ≡ false) where
  met-long : (position : ℕ) (held : Held)
      → word_met (rules_of f) [] false idle position word held ≡ long_word (rules_of f) idle word name given_value held
  met-long position held =
      ap (λ b. if b then (held, trailing position) else long_or_other (rules_of f) idle word (long_of word) held) dashes
      ∙ ap (λ o. long_or_other (rules_of f) idle word o held) long

  word_fault-long : (held : Held) → word_fault (shape f) [] false idle word held
      ≡ long_fault (rules_of f) false (arg_by_long (rules_of f) name) given_value held
  word_fault-long held =
      ap (λ b. if b then [] else flag_word_fault (rules_of f) false (long_of word) word held) dashes
      ∙ ap (λ o. flag_word_fault (rules_of f) false o word held) long

  -- the walk where a long option stands, by the rule that its name finds
  abbrev pub after_long : Option Rule → Held → ℕ → Walk
  after_long found held n =
      let met = after_flag (rules_of f) idle word (long_met (rules_of f) found given_value held).0
      (long_met (rules_of f) found given_value held).1 in
      after_step (rules_of f) word (resting held n) met.0 met.1

  abbrev pub fault_long : Option Rule → Held → ℕ → Kinds
  fault_long found held n =
      let met = after_flag (rules_of f) idle word (long_met (rules_of f) found given_value held).0
      (long_met (rules_of f) found given_value held).1 in
      or_else (long_fault (rules_of f) false found given_value held) (step_fault (shape f) (suc n) met.0 met.1)

  walked-long : (held : Held) (n : ℕ)
      → walked (rules_of f) [] (resting held n) word ≡ after_long (arg_by_long (rules_of f) name) held n
  unfolding walked
  walked-long held n =
      ap (λ (m : Held × Step). after_step (rules_of f) word (resting held n) m.0 m.1) (met-long (suc n) held)

  turn_fault-long : (held : Held) (n : ℕ)
      → turn_fault (shape f) [] (resting held n) word ≡ fault_long (arg_by_long (rules_of f) name) held n
  turn_fault-long held n =
      ap₂ (λ (ks : Kinds) (m : Held × Step). or_else ks (step_fault (shape f) (suc n) m.0 m.1))
      (word_fault-long held) (met-long (suc n) held)

  -- an option that the command doesn't have
  pub turn_fault-unknown : (held : Held) (n : ℕ) → arg_by_long (rules_of f) name ≡ None
      → turn_fault (shape f) [] (resting held n) word ≡ [] → ⊥
  turn_fault-unknown held n none e =
      some_kind UnknownArgument [] (sym (ap (λ o. fault_long o held n) none) ∙ sym (turn_fault-long held n) ∙ e)

  pub walked-option : (setting : Setting) → name ≡ id_of (slot_of setting)
      → takes f setting ≡ true → (held : Held) (n : ℕ)
      → walked (rules_of f) [] (resting held n) word ≡ after_long (Some (rule (slot_of setting))) held n
  walked-option setting is taken held n =
      walked-long held n ∙ ap (λ t. after_long (arg_by_long (rules_of f) t) held n) is
      ∙ ap (λ o. after_long o held n) (by_long f setting taken)

  pub turn_fault-option : (setting : Setting) → name ≡ id_of (slot_of setting)
      → takes f setting ≡ true → (held : Held) (n : ℕ)
      → turn_fault (shape f) [] (resting held n) word ≡ fault_long (Some (rule (slot_of setting))) held n
  turn_fault-option setting is taken held n =
      turn_fault-long held n ∙ ap (λ t. fault_long (arg_by_long (rules_of f) t) held n) is
      ∙ ap (λ o. fault_long o held n) (by_long f setting taken)

-- ---- an option waits for its value

module _ (f : Frame) (setting : Setting) (taken : takes f setting ≡ true) (rows : List Row) (skip n : ℕ) where
  -- it can't stay without one
  pub settle-awaiting : settle_fault (rules_of f) false (pending rows (slot_of setting) [] skip) ≡ InvalidValue ∷ []
  settle-awaiting = settle-pending f rows (slot_of setting) [] skip (by_id f setting taken)

  module _ (word : Word) (plain : IsPlain word) where
    met-value : word_met (rules_of f) [] false (option_waits (id_of (slot_of setting))) (suc n) word
        (pending rows (slot_of setting) [] skip)
        ≡ plain_word (rules_of f) (option_waits (id_of (slot_of setting))) word (pending rows (slot_of setting) [] skip)
    met-value =
        let held = pending rows (slot_of setting) [] skip in
        let waiting = option_waits (id_of (slot_of setting)) in
        ap (λ b. if b then (held, trailing (suc n)) else long_or_other (rules_of f) waiting word (long_of word) held)
        (plain-dashes word plain)
        ∙ ap (λ o. long_or_other (rules_of f) waiting word o held) (plain-long word plain)
        ∙ ap (λ o. short_or_plain (rules_of f) waiting word o held) (plain-short word plain)

    taken_value : (s : Setting) → after_step (rules_of f) word (awaiting s rows skip n)
        (option_word (Some (rule (slot_of s))) (id_of (slot_of s)) word (pending rows (slot_of s) [] skip)).0
        (next (option_word (Some (rule (slot_of s))) (id_of (slot_of s)) word (pending rows (slot_of s) [] skip)).1)
        ≡ resting (pending rows (slot_of s) (word ∷ []) skip) n
    taken_value bits = refl
    taken_value route = refl

    pub walked-value : walked (rules_of f) [] (awaiting setting rows skip n) word
        ≡ resting (pending rows (slot_of setting) (word ∷ []) skip) n
    unfolding walked
    walked-value =
        ap (λ (m : Held × Step). after_step (rules_of f) word (awaiting setting rows skip n) m.0 m.1) met-value
        ∙ ap (λ o. after_step (rules_of f) word (awaiting setting rows skip n)
        (option_word o (id_of (slot_of setting)) word (pending rows (slot_of setting) [] skip)).0
        (next (option_word o (id_of (slot_of setting)) word (pending rows (slot_of setting) [] skip)).1))
        (by_id f setting taken)
        ∙ taken_value setting

    pub turn_fault-value : turn_fault (shape f) [] (awaiting setting rows skip n) word ≡ []
    turn_fault-value =
        let held = pending rows (slot_of setting) [] skip in
        ap (λ (m : Held × Step).
        or_else (word_fault (shape f) [] false (option_waits (id_of (slot_of setting))) word held)
        (step_fault (shape f) (suc n) m.0 m.1)) met-value
        ∙ ap (λ ks. or_else ks [])
        (ap (λ b. if b then [] else flag_word_fault (rules_of f) false (long_of word) word held)
        (plain-dashes word plain) ∙ fault-plain f word plain held)

  -- the value can't be an option
  pub turn_fault-no_value : (word name : Word) (given_value : Option Word) → long_of word ≡ Some (name, given_value)
      → bytes_eq word (45 ∷ 45 ∷ []) ≡ false
      → turn_fault (shape f) [] (awaiting setting rows skip n) word ≡ [] → ⊥
  turn_fault-no_value word name given_value long dashes e = go (found f name) given_value first_nil
    where
      fault_is : word_fault (shape f) [] false (option_waits (id_of (slot_of setting))) word
          (pending rows (slot_of setting) [] skip)
          ≡ long_fault (rules_of f) false (arg_by_long (rules_of f) name) given_value
          (pending rows (slot_of setting) [] skip)
      fault_is =
          ap (λ b. if b then [] else flag_word_fault (rules_of f) false (long_of word) word
          (pending rows (slot_of setting) [] skip)) dashes
          ∙ ap (λ o. flag_word_fault (rules_of f) false o word (pending rows (slot_of setting) [] skip)) long

      first_nil : long_fault (rules_of f) false (arg_by_long (rules_of f) name) given_value
          (pending rows (slot_of setting) [] skip) ≡ []
      first_nil = sym fault_is ∙ (or_else-nil _ _ e).0

      go : Found f name → (v : Option Word)
          → long_fault (rules_of f) false (arg_by_long (rules_of f) name) v (pending rows (slot_of setting) [] skip)
          ≡ [] → ⊥
      go (nothing none) v none_found =
          some_kind UnknownArgument []
          (sym (ap (λ o. long_fault (rules_of f) false o v (pending rows (slot_of setting) [] skip)) none) ∙ none_found)
      go (option t is t_taken) v none_found =
          faults v (sym
          (ap (λ x. long_fault (rules_of f) false (arg_by_long (rules_of f) x) v
          (pending rows (slot_of setting) [] skip)) is
          ∙ ap (λ o. long_fault (rules_of f) false o v (pending rows (slot_of setting) [] skip)) (by_long f t t_taken))
          ∙ none_found)
        where
          faults : (v : Option Word)
              → long_fault (rules_of f) false (Some (rule (slot_of t))) v (pending rows (slot_of setting) [] skip) ≡ []
              → ⊥
          faults None g = some_kind InvalidValue [] (sym settle-awaiting ∙ g)
          faults (Some x) g = some_kind InvalidValue [] (sym settle-awaiting ∙ (or_else-nil _ _ g).0)
