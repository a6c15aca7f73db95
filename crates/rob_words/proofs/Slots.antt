-- The rules of the commands as `clap` builds them, and the rows that uses of them make.
use Rattle.std.proofs.Common.{◌≡◌, ◌∙◌, ◌&&◌, ◌||◌, ℕ, Bool, true, false, cond, refl, sym, ap, List, [], ◌∷◌, ◌++◌, map, Option, Some, None, append-nil, not, codes, rules}
use Rattle.std.specs.Prelude.{if◌then◌else◌, option_and_then, slice_get, is_some}
use Rattle.std.specs.List.{find}
use Rattle.std.specs.Option.{option_map_or}
use Rattle.clap.specs.Facts.{explicit_source}
use Rattle.clap.specs.Kinds.{Kinds, or_else}
use Rattle.clap.specs.declared.error.kind.ErrorKind.TheVariants.{ArgumentConflict}
use Rattle.std.specs.Str.{bytes_eq}
use Rattle.clap.specs.Faults.{use_fault}
use Rattle.clap.specs.Takes.{is_given}
use Rattle.clap.specs.Simple.{App, Shape, new_shape}
use Rattle.clap.specs.Walk.{Row, Rule, Text, at_row, first_of, has_row, more_values, used, with_values, without}
use Rattle.clap.specs.declared.builder.action.ArgAction.TheVariants.{Set}
use Rattle.clap.specs.declared.builder.value_parser.Reading.TheVariants.{AsWritten}
use Rattle.clap.specs.declared.builder.value_parser.ValueParser.TheVariants.{String}
use Rattle.clap.specs.declared.parser.matches.ValueSource.TheVariants.{CommandLine}
use Rattle.rob_words.specs.Values.{Word}
use Rattle.rob_words.specs.Grammar.{with_bits, with_route, with_words}
use Rattle.rob_words.specs.declared.verb.Own.{Own}

-- how many own words a command has
pub data Count : Type 0 where
  no_words : Count
  one_word : Count
  two_words : Count
  three_words : Count

-- what tells one command from another behind its name: whether it takes a route, and how many own words it has
pub data Frame : Type 0 where
  frame : (way : Bool) (count : Count) → Frame

abbrev pub size : Count → ℕ
size no_words = 0
size one_word = 1
size two_words = 2
size three_words = 3

abbrev pub count_of : List Own → Count
count_of [] = no_words
count_of (_ ∷ []) = one_word
count_of (_ ∷ _ ∷ []) = two_words
count_of (_ ∷ _ ∷ _ ∷ _) = three_words

-- what a command can be given
pub data Slot : Type 0 where
  bits : Slot
  route : Slot
  first_word : Slot
  second_word : Slot
  third_word : Slot

abbrev pub id_of : Slot → Text
id_of bits = codes "bits"
id_of route = codes "route"
id_of first_word = codes "first"
id_of second_word = codes "second"
id_of third_word = codes "third"

abbrev pub long_name : Slot → Option Text
long_name bits = Some (codes "bits")
long_name route = Some (codes "route")
long_name _ = None

abbrev pub index_in : Slot → Option ℕ
index_in first_word = Some 1
index_in second_word = Some 2
index_in third_word = Some 3
index_in _ = None

abbrev pub is_required : Slot → Bool
is_required slot = is_some (index_in slot)

-- the rule of a slot, with all that building fills in
abbrev pub rule : Slot → Rule
rule slot = record {
  id = id_of slot;
  long = long_name slot;
  aliases = [];
  short = None;
  short_aliases = [];
  index = index_in slot;
  action = Some Set;
  range = Some (record { start_inclusive = 1; end_inclusive = 1 });
  value_names = 0;
  defaults = [];
  missing = [];
  trailing_var_arg = false;
  parser = Some String;
  ignore_case = false;
  required = is_required slot;
  is_simple = true;
  is_free = true;
}

-- the slots of a command
abbrev pub ways : Bool → List Slot
ways true = route ∷ []
ways false = []

abbrev pub word_slots : Count → List Slot
word_slots no_words = []
word_slots one_word = first_word ∷ []
word_slots two_words = first_word ∷ second_word ∷ []
word_slots three_words = first_word ∷ second_word ∷ third_word ∷ []

abbrev pub slots : Frame → List Slot
slots (frame way count) = bits ∷ (ways way ++ word_slots count)

abbrev pub rules_of : Frame → List Rule
rules_of f = map rule (slots f)

-- a command as it is built
abbrev pub shape : Frame → Shape
shape f = record (new_shape (codes "robust")) {
  rules = rules_of f;
  disable_help_flag = true;
  disable_help_subcommand = true;
  is_built = true;
}

-- the command that takes a route, or doesn't, and has these own words
abbrev pub app_by : Bool → List Own → App
app_by way own = with_words own (with_route way with_bits)

abbrev pub frame_by : Bool → List Own → Frame
frame_by way own = frame way (count_of own)

-- ---- what is given

-- a slot with the value that it is given
abbrev pub Entry : Type 0
Entry = Slot × Word

abbrev pub row : Entry → Row
row entry = record {
  id = id_of entry.0;
  values = entry.1 ∷ [];
  count = None;
  source = Some CommandLine;
  reading = AsWritten;
}

abbrev pub rows_of : List Entry → List Row
rows_of = map row

-- the values that a slot is given
abbrev pub given_by : Text → List Entry → List Word
given_by id [] = []
given_by id (entry ∷ entries) =
    if bytes_eq (id_of entry.0) id then entry.1 ∷ given_by id entries else given_by id entries

abbrev pub given : Slot → List Entry → List Word
given slot = given_by (id_of slot)

abbrev pub some : {X : Type 0} → List X → Bool
some [] = false
some (x ∷ xs) = true

abbrev pub first : List Word → Option Word
first [] = None
first (word ∷ words) = Some word

pub given-append : (slot : Slot) (a b : List Entry) → given slot (a ++ b) ≡ given slot a ++ given slot b
given-append slot [] b = refl
given-append slot (entry ∷ a) b = go (bytes_eq (id_of entry.0) (id_of slot)) (given-append slot a b)
  where
    go : (same : Bool) → given slot (a ++ b) ≡ given slot a ++ given slot b
        → (if same then entry.1 ∷ given slot (a ++ b) else given slot (a ++ b))
        ≡ (if same then entry.1 ∷ given slot a else given slot a) ++ given slot b
    go true e = ap (λ words. entry.1 ∷ words) e
    go false e = e

pub has_row-rows : (slot : Slot) (entries : List Entry)
    → has_row (id_of slot) (rows_of entries) ≡ some (given slot entries)
has_row-rows slot [] = refl
has_row-rows slot (entry ∷ entries) = go (bytes_eq (id_of entry.0) (id_of slot)) (has_row-rows slot entries)
  where
    go : (same : Bool) → has_row (id_of slot) (rows_of entries) ≡ some (given slot entries)
        → (same || has_row (id_of slot) (rows_of entries))
        ≡ some (if same then entry.1 ∷ given slot entries else given slot entries)
    go true e = refl
    go false e = e

pub is_given-rows : (slot : Slot) (entries : List Entry)
    → is_given (id_of slot) (rows_of entries) ≡ some (given slot entries)
is_given-rows slot [] = refl
is_given-rows slot (entry ∷ entries) = go (bytes_eq (id_of entry.0) (id_of slot)) (is_given-rows slot entries)
  where
    go : (same : Bool) → is_given (id_of slot) (rows_of entries) ≡ some (given slot entries)
        → option_map_or (λ (r : Row). explicit_source r.source)
        (cond same (Some (row entry)) (find (λ (r : Row). bytes_eq r.id (id_of slot)) (rows_of entries))) false
        ≡ some (if same then entry.1 ∷ given slot entries else given slot entries)
    go true e = refl
    go false e = e

pub first_of-rows : (slot : Slot) (entries : List Entry)
    → first_of (id_of slot) (rows_of entries) ≡ first (given slot entries)
first_of-rows slot [] = refl
first_of-rows slot (entry ∷ entries) = go (bytes_eq (id_of entry.0) (id_of slot)) (first_of-rows slot entries)
  where
    go : (same : Bool) → first_of (id_of slot) (rows_of entries) ≡ first (given slot entries)
        → option_and_then (λ (r : Row). slice_get r.values 0)
        (cond same (Some (row entry)) (find (λ (r : Row). bytes_eq r.id (id_of slot)) (rows_of entries)))
        ≡ first (if same then entry.1 ∷ given slot entries else given slot entries)
    go true e = refl
    go false e = e

-- a slot that is given nothing yet is given the value
missing_row : (slot : Slot) (f : Row → List Row) (more : List Row) (entries : List Entry) → given slot entries ≡ []
    → at_row (id_of slot) f more (rows_of entries) ≡ rows_of entries ++ more
missing_row slot f more [] none = refl
missing_row slot f more (entry ∷ entries) none =
    go (bytes_eq (id_of entry.0) (id_of slot)) none (missing_row slot f more entries)
  where
    go : (same : Bool) → (if same then entry.1 ∷ given slot entries else given slot entries) ≡ []
        → (given slot entries ≡ [] → at_row (id_of slot) f more (rows_of entries) ≡ rows_of entries ++ more)
        → (if same then f (row entry) ++ rows_of entries else row entry ∷ at_row (id_of slot) f more (rows_of entries))
        ≡ row entry ∷ (rows_of entries ++ more)
    go true e next = absurd (search (e, rules))
    go false e next = ap (λ rows. row entry ∷ rows) (next e)

pub rows_of-append : (a b : List Entry) → rows_of (a ++ b) ≡ rows_of a ++ rows_of b
rows_of-append [] b = refl
rows_of-append (entry ∷ a) b = ap (λ rows. row entry ∷ rows) (rows_of-append a b)

pub used-new : (slot : Slot) (value : Word) (entries : List Entry) → given slot entries ≡ []
    → used (rule slot) (value ∷ []) (rows_of entries) ≡ rows_of (entries ++ (slot, value) ∷ [])
used-new slot value entries none =
    let kept : without (id_of slot) (rows_of entries) ≡ rows_of entries =
    missing_row slot (λ row. []) [] entries none ∙ append-nil (rows_of entries) in
    ap (with_values (id_of slot) AsWritten CommandLine (value ∷ [])) kept
    ∙ missing_row slot (more_values CommandLine (value ∷ [])) (row (slot, value) ∷ []) entries none
    ∙ sym (rows_of-append entries ((slot, value) ∷ []))

-- a slot may be used where it is given nothing yet
abbrev repeat : List Word → Kinds
repeat words = if some words && not false then ArgumentConflict ∷ [] else []

use_fault-given : (slot : Slot) (value : Word) (entries : List Entry)
    → use_fault false (rule slot) (value ∷ []) (rows_of entries) ≡ or_else (repeat (given slot entries)) []
use_fault-given slot value entries =
    ap (λ has. or_else (if has && not false then ArgumentConflict ∷ [] else []) []) (has_row-rows slot entries)

pub use_fault-new : (slot : Slot) (value : Word) (entries : List Entry) → given slot entries ≡ []
    → use_fault false (rule slot) (value ∷ []) (rows_of entries) ≡ []
use_fault-new slot value entries none =
    use_fault-given slot value entries ∙ ap (λ words. or_else (repeat words) []) none

pub new-use_fault : (slot : Slot) (value : Word) (entries : List Entry)
    → use_fault false (rule slot) (value ∷ []) (rows_of entries) ≡ [] → given slot entries ≡ []
new-use_fault slot value entries none = go (given slot entries) (sym (use_fault-given slot value entries) ∙ none)
  where
    go : (words : List Word) → or_else (repeat words) [] ≡ [] → words ≡ []
    go [] e = refl
    go (word ∷ words) e = absurd (search (e, rules))
