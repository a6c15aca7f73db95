-- `clap` takes words exactly where they hold texts, and finds those texts.
use Rattle.std.proofs.Common.{◌≡◌, ◌∙◌, ◌||◌, Bool, true, false, not, refl, sym, ap, ap₂, subst, List, [], ◌∷◌, ◌++◌, map}
use Rattle.std.specs.Prelude.{if◌then◌else◌}
use Rattle.std.specs.List.{fold}
use Rattle.clap.specs.Kinds.{Kinds, or_else}
use Rattle.clap.specs.Faults.{check_fault, default_fault, defaults_fault, fault_of, is_simple_and_free, level_fault, settle_fault, walk_fault}
use Rattle.clap.specs.Simple.{is_simple, matches_of}
use Rattle.clap.specs.Takes.{is_given}
use Rattle.clap.specs.Walk.{Row, finished, first_of, has_row, nothing_held, with_default}
use Rattle.clap.specs.declared.error.kind.ErrorKind.TheVariants.{MissingRequiredArgument}
use Rattle.clap.proofs.FaultLemmas.{leaf_fault}
use Rattle.rob_words.specs.Values.{Word}
use Rattle.rob_words.specs.Commands.{Part, words_of}
use Rattle.rob_words.specs.Texts.{AreAdmitted, Hold, Holding, listed}
use Rattle.rob_words.specs.declared.verb.Own.{Own}
use Rattle.rob_words.proofs.Slots.{Count, Entry, Frame, Slot, app_by, bits, count_of, first, first_of-rows, first_word, frame, frame_by, given, id_of, is_given-rows, no_words, one_word, route, rows_of, rule, rules_of, second_word, shape, size, slots, third_word, three_words, two_words, word_slots}
use Rattle.rob_words.proofs.Steps.{or_else-nil, resting, some_kind}
use Rattle.rob_words.proofs.Walks.{Passes, Reads, end, reads_all, settled_rows, walks}
use Rattle.rob_words.proofs.Fills.{entries}
use Rattle.rob_words.proofs.Holds.{AllGiven, held_in, hold-complete, hold-fill, holds}

pub simple : (way : Bool) (own : List Own) → is_simple_and_free (app_by way own) ≡ true
simple true [] = refl
simple true (k ∷ []) = refl
simple true (k ∷ l ∷ []) = refl
simple true (k ∷ l ∷ m ∷ more) = refl
simple false [] = refl
simple false (k ∷ []) = refl
simple false (k ∷ l ∷ []) = refl
simple false (k ∷ l ∷ m ∷ more) = refl

pub simple_app : (way : Bool) (own : List Own) → is_simple (app_by way own) ≡ true
simple_app true [] = refl
simple_app true (k ∷ []) = refl
simple_app true (k ∷ l ∷ []) = refl
simple_app true (k ∷ l ∷ m ∷ more) = refl
simple_app false [] = refl
simple_app false (k ∷ []) = refl
simple_app false (k ∷ l ∷ []) = refl
simple_app false (k ∷ l ∷ m ∷ more) = refl

fault-level : (way : Bool) (own : List Own) (name : Word) (words : List Word)
    → fault_of (app_by way own) (name ∷ words) ≡ level_fault (shape (frame_by way own)) [] nothing_held words false []
fault-level true [] name words =
    leaf_fault (record { top = shape (frame true no_words); subs = [] }) nothing_held words refl
fault-level true (k ∷ []) name words =
    leaf_fault (record { top = shape (frame true one_word); subs = [] }) nothing_held words refl
fault-level true (k ∷ l ∷ []) name words =
    leaf_fault (record { top = shape (frame true two_words); subs = [] }) nothing_held words refl
fault-level true (k ∷ l ∷ m ∷ more) name words =
    leaf_fault (record { top = shape (frame true three_words); subs = [] }) nothing_held words refl
fault-level false [] name words =
    leaf_fault (record { top = shape (frame false no_words); subs = [] }) nothing_held words refl
fault-level false (k ∷ []) name words =
    leaf_fault (record { top = shape (frame false one_word); subs = [] }) nothing_held words refl
fault-level false (k ∷ l ∷ []) name words =
    leaf_fault (record { top = shape (frame false two_words); subs = [] }) nothing_held words refl
fault-level false (k ∷ l ∷ m ∷ more) name words =
    leaf_fault (record { top = shape (frame false three_words); subs = [] }) nothing_held words refl

-- ---- no slot has a default

kept_row : (slot : Slot) (rows : List Row) → with_default rows (rule slot) ≡ rows
kept_row slot rows = go (has_row (id_of slot) rows)
  where
    go : (b : Bool) → (if b then rows else rows) ≡ rows
    go true = refl
    go false = refl

kept_rows : (ss : List Slot) (rows : List Row) → fold with_default rows (map rule ss) ≡ rows
kept_rows [] rows = refl
kept_rows (slot ∷ ss) rows = ap (λ rs. fold with_default rs (map rule ss)) (kept_row slot rows) ∙ kept_rows ss rows

pick : Bool → Kinds
pick b = if b then [] else []

no_default : (slot : Slot) (rows : List Row) → default_fault rows (rule slot) ≡ []
unfolding pick
no_default slot rows = go (has_row (id_of slot) rows)
  where
    go : (b : Bool) → pick (b || true) ≡ []
    go true = refl
    go false = refl

no_defaults : (ss : List Slot) (rows : List Row) → defaults_fault rows (map rule ss) ≡ []
unfolding defaults_fault
no_defaults [] rows = refl
no_defaults (slot ∷ ss) rows =
    ap (λ ks. or_else ks (defaults_fault (with_default rows (rule slot)) (map rule ss))) (no_default slot rows)
    ∙ no_defaults ss (with_default rows (rule slot))

matches-rows : (way : Bool) (own : List Own) (name : Word) (words : List Word)
    → matches_of (app_by way own) (name ∷ words)
    ≡ settled_rows (frame_by way own) (end (frame_by way own) (resting nothing_held 0) words)
matches-rows true [] name words = kept_rows (slots (frame true no_words)) _
matches-rows true (k ∷ []) name words = kept_rows (slots (frame true one_word)) _
matches-rows true (k ∷ l ∷ []) name words = kept_rows (slots (frame true two_words)) _
matches-rows true (k ∷ l ∷ m ∷ more) name words = kept_rows (slots (frame true three_words)) _
matches-rows false [] name words = kept_rows (slots (frame false no_words)) _
matches-rows false (k ∷ []) name words = kept_rows (slots (frame false one_word)) _
matches-rows false (k ∷ l ∷ []) name words = kept_rows (slots (frame false two_words)) _
matches-rows false (k ∷ l ∷ m ∷ more) name words = kept_rows (slots (frame false three_words)) _

-- ---- what is required

abbrev missing : Bool → Kinds
missing b = if b then MissingRequiredArgument ∷ [] else []

-- one of the slots is given nothing
abbrev lacks : List Slot → List Entry → Bool
lacks [] after = false
lacks (slot ∷ slots) after = not (is_given (id_of slot) (rows_of after)) || lacks slots after

all_given : (slots : List Slot) (after : List Entry) → missing (lacks slots after) ≡ [] → AllGiven slots after
all_given [] after e = tt
all_given (slot ∷ slots) after e = go (is_given (id_of slot) (rows_of after)) refl e (all_given slots after)
  where
    go : (b : Bool) → is_given (id_of slot) (rows_of after) ≡ b → missing (not b || lacks slots after) ≡ []
        → (missing (lacks slots after) ≡ [] → AllGiven slots after) → AllGiven (slot ∷ slots) after
    go true same f rest = (sym (is_given-rows slot after) ∙ same, rest f)
    go false same f rest = absurd (some_kind MissingRequiredArgument [] f)

given_all : (slots : List Slot) (after : List Entry) → AllGiven slots after → missing (lacks slots after) ≡ []
given_all [] after h = refl
given_all (slot ∷ slots) after h =
    ap (λ b. missing (not b || lacks slots after)) (is_given-rows slot after ∙ h.0) ∙ given_all slots after h.1

check-tests : (way : Bool) (count : Count) (after : List Entry)
    → check_fault (shape (frame way count)) (rows_of after) false ≡ missing (lacks (word_slots count) after)
check-tests true no_words after = refl
check-tests true one_word after = refl
check-tests true two_words after = refl
check-tests true three_words after = refl
check-tests false no_words after = refl
check-tests false one_word after = refl
check-tests false two_words after = refl
check-tests false three_words after = refl

-- ---- a whole command

-- the faults of a level: of the walk, of what is pending behind it, and of what is required
module _ (f : Frame) (words : List Word) where
  abbrev final : Kinds
  final = check_fault (shape f) (finished (rules_of f) (end f (resting nothing_held 0) words)) false

  abbrev defaults : Kinds
  defaults = defaults_fault (settled_rows f (end f (resting nothing_held 0) words)) (rules_of f)

  level-passes : level_fault (shape f) [] nothing_held words false [] ≡ []
      → Passes f (resting nothing_held 0) words × (final ≡ [])
  level-passes e =
      let p = or_else-nil (walk_fault (shape f) [] (resting nothing_held 0) words) _ e in
      let q = or_else-nil (settle_fault (rules_of f) false (end f (resting nothing_held 0) words)) _ p.1 in
      (record { turns = p.0; settles = q.0 }, (or_else-nil defaults final q.1).1)

  passes-level : Passes f (resting nothing_held 0) words → final ≡ []
      → level_fault (shape f) [] nothing_held words false [] ≡ []
  passes-level passes none =
      ap (λ ks. or_else ks
      (or_else []
      (or_else (settle_fault (rules_of f) false (end f (resting nothing_held 0) words)) (or_else defaults final))))
      passes.turns
      ∙ ap (λ ks. or_else ks (or_else defaults final)) passes.settles
      ∙ ap₂ or_else (no_defaults (slots f) (settled_rows f (end f (resting nothing_held 0) words))) none

  final-is : (after : List Entry) → settled_rows f (end f (resting nothing_held 0) words) ≡ rows_of after
      → final ≡ check_fault (shape f) (rows_of after) false
  final-is after e =
      ap (λ rows. check_fault (shape f) rows false)
      (kept_rows (slots f) (settled_rows f (end f (resting nothing_held 0) words)) ∙ e)

-- the texts that the rows of a parse hold
abbrev pub texts_in : List Row → Holding
texts_in rows = record {
  own = listed (first_of (id_of first_word) rows)
      ++ (listed (first_of (id_of second_word) rows) ++ listed (first_of (id_of third_word) rows));
  bits = first_of (id_of bits) rows;
  way = first_of (id_of route) rows;
}

held-texts : (after : List Entry) (rows : List Row) → rows ≡ rows_of after → held_in after ≡ texts_in rows
held-texts after rows e =
    let of : (slot : Slot) → first (given slot after) ≡ first_of (id_of slot) rows =
    λ slot. sym (first_of-rows slot after) ∙ sym (ap (first_of (id_of slot)) e) in
    (λ i. record {
      own = listed (of first_word i) ++ (listed (of second_word i) ++ listed (of third_word i));
      bits = of bits i;
      way = of route i;
    })

-- words that `clap` takes hold the texts that it finds
module _ (way : Bool) (own : List Own) (name : Word) (words : List Word) (admitted : AreAdmitted words)
    (none : fault_of (app_by way own) (name ∷ words) ≡ []) where
  abbrev f : Frame
  f = frame_by way own

  level : Passes f (resting nothing_held 0) words × (final f words ≡ [])
  level = level-passes f words (sym (fault-level way own name words) ∙ none)

  reads : Reads f 0 words [] (end f (resting nothing_held 0) words)
  reads = (reads_all words).0 f nothing_held 0 [] admitted level.0 refl

  complete : AllGiven (word_slots (count_of own)) reads.after
  complete = all_given (word_slots (count_of own)) reads.after
      (sym (check-tests way (count_of own) reads.after) ∙ sym (final-is f words reads.after reads.rows) ∙ level.1)

  rows-are : matches_of (app_by way own) (name ∷ words) ≡ rows_of reads.after
  rows-are = matches-rows way own name words ∙ reads.rows

  pub texts-held : (parts : List Part) × (words ≡ words_of parts)
      × Hold way (size (count_of own)) parts (texts_in (matches_of (app_by way own) (name ∷ words)))
  texts-held = (
    reads.parts,
    reads.spelled,
    subst (Hold way (size (count_of own)) reads.parts)
        (held-texts reads.after (matches_of (app_by way own) (name ∷ words)) rows-are)
        (holds way (count_of own) reads.parts reads.after reads.fill complete reads.bare),
  )

-- words that hold texts are taken by `clap`
pub holds-taken : (way : Bool) (own : List Own) (name : Word) (words : List Word) (parts : List Part) (found : Holding)
    → words ≡ words_of parts
    → Hold way (size (count_of own)) parts found → fault_of (app_by way own) (name ∷ words) ≡ []
holds-taken way own name words parts found spelled hold =
    subst (λ ws. fault_of (app_by way own) (name ∷ ws) ≡ []) (sym spelled)
    (let count = count_of own in
    let f = frame way count in
    let after = entries 0 parts in
    let walk = walks f parts nothing_held 0 [] after (hold-fill way count parts found hold) hold.plain refl refl in
    fault-level way own name (words_of parts) ∙ passes-level f (words_of parts) walk.passes
    (final-is f (words_of parts) after walk.rows ∙ check-tests way count after
    ∙ given_all (word_slots count) after (hold-complete way count parts found hold)))
