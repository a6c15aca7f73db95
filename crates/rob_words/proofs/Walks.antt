-- `clap`'s walk passes over words exactly where they are the spelling of parts that fill slots.
use Rattle.std.proofs.Common.{◌≡◌, ◌∙◌, ℕ, true, false, suc, refl, sym, ap, ap₂, subst, List, [], ◌∷◌, ◌++◌, Option, Some, None}
use Rattle.std.specs.List.{fold}
use Rattle.std.specs.Str.{bytes_eq}
use Rattle.clap.specs.Lexer.{long_of}
use Rattle.clap.specs.Kinds.{or_else}
use Rattle.clap.specs.Faults.{settle_fault, turn_fault, use_fault, walk_fault}
use Rattle.clap.specs.Walk.{Held, Row, Walk, arg_by_id, settled, used, walked}
use Rattle.clap.specs.declared.error.kind.ErrorKind.TheVariants.{InvalidValue, UnknownArgument}
use Rattle.rob_words.specs.Values.{Word}
use Rattle.rob_words.specs.Commands.{ArePlain, IsPlain, Part, Setting, apart, joined, own, setting_word, words_of}
use Rattle.rob_words.specs.Texts.{AreAdmitted, bare_words}
use Rattle.rob_words.proofs.Slots.{Entry, Frame, Slot, given, id_of, new-use_fault, rows_of, rule, rules_of, shape, use_fault-new, used-new}
use Rattle.rob_words.proofs.Finds.{Found, by_id, file_at, file_by_id, found, nothing, option, slot_of, takes}
use Rattle.rob_words.proofs.Words.{apart-dashes, apart-long, joined-dashes, joined-long, look_of, Look, named, plain, setting_word-is, valued}
use Rattle.rob_words.proofs.Steps.{awaiting, or_else-nil, pending, resting, settle-awaiting, settle-pending, settled-pending, some_kind, turn_fault-no_value, turn_fault-option, turn_fault-own, turn_fault-stray, turn_fault-unknown, turn_fault-value, walked-option, walked-own, walked-value}

-- where the walk stands behind the words
abbrev pub end : Frame → Walk → List Word → Held
end f at words = (fold (walked (rules_of f) []) at words).held

-- the walk passes over the words, and what is pending behind them may be settled
pub record Passes (f : Frame) (at : Walk) (words : List Word) : Type 0 where
  pub turns : walk_fault (shape f) [] at words ≡ []
  pub settles : settle_fault (rules_of f) false (end f at words) ≡ []

pub first_turn : (f : Frame) (at : Walk) (word : Word) (words : List Word) → Passes f at (word ∷ words)
    → turn_fault (shape f) [] at word ≡ []
unfolding walk_fault
first_turn f at word words passes = (or_else-nil (turn_fault (shape f) [] at word) _ passes.turns).0

pub other_turns : (f : Frame) (at : Walk) (word : Word) (words : List Word) → Passes f at (word ∷ words)
    → Passes f (walked (rules_of f) [] at word) words
unfolding walk_fault
other_turns f at word words passes = record {
  turns = (or_else-nil (turn_fault (shape f) [] at word) _ passes.turns).1;
  settles = passes.settles;
}

pub turn_passes : (f : Frame) (at : Walk) (word : Word) (words : List Word) → turn_fault (shape f) [] at word ≡ []
    → Passes f (walked (rules_of f) [] at word) words → Passes f at (word ∷ words)
unfolding walk_fault
turn_passes f at word words turn passes = record {
  turns = ap (λ ks. or_else ks (walk_fault (shape f) [] (walked (rules_of f) [] at word) words)) turn ∙ passes.turns;
  settles = passes.settles;
}

-- the parts behind n own words fill slots that are free
abbrev pub Fill : Frame → ℕ → List Part → List Entry → List Entry → Type 0
Fill f n [] before after = after ≡ before
Fill f n (own word ∷ parts) before after =
    (slot : Slot) × (file_at f n ≡ Some slot) × (given slot before ≡ [])
    × Fill f (suc n) parts (before ++ (slot, word) ∷ []) after
Fill f n (apart setting value ∷ parts) before after =
    (takes f setting ≡ true) × (given (slot_of setting) before ≡ [])
    × Fill f n parts (before ++ (slot_of setting, value) ∷ []) after
Fill f n (joined setting value ∷ parts) before after =
    (takes f setting ≡ true) × (given (slot_of setting) before ≡ [])
    × Fill f n parts (before ++ (slot_of setting, value) ∷ []) after

-- ---- from parts to a walk

-- the rows once what is pending is settled
abbrev pub settled_rows : Frame → Held → List Row
settled_rows f held = (settled (rules_of f) held).rows

pub record Walks (f : Frame) (at : Walk) (words : List Word) (after : List Entry) : Type 0 where
  pub passes : Passes f at words
  pub rows : settled_rows f (end f at words) ≡ rows_of after

pub walks : (f : Frame) (parts : List Part) (held : Held) (n : ℕ) (before after : List Entry)
    → Fill f n parts before after
    → ArePlain (bare_words parts) → settle_fault (rules_of f) false held ≡ [] → settled_rows f held ≡ rows_of before
    → Walks f (resting held n) (words_of parts) after
unfolding walk_fault
walks f [] held n before after fill bare clean rows = record {
  passes = record { turns = refl; settles = clean };
  rows = rows ∙ ap rows_of (sym fill);
}
walks f (own word ∷ parts) held n before after fill bare clean rows =
    let slot = fill.0 in
    let by = file_by_id f n slot fill.1 in
    let next = pending (settled_rows f held) slot (word ∷ []) held.skip in
    let free : use_fault false (rule slot) (word ∷ []) (settled_rows f held) ≡ [] =
    ap (use_fault false (rule slot) (word ∷ [])) rows ∙ use_fault-new slot word before fill.2 in
    let settled_next =
    settled-pending f (settled_rows f held) slot (word ∷ []) held.skip by ∙ ap (used (rule slot) (word ∷ [])) rows
    ∙ used-new slot word before fill.2 in
    let rest = walks f parts next (suc n) (before ++ (slot, word) ∷ []) after fill.3 bare.1
    (settle-pending f (settled_rows f held) slot (word ∷ []) held.skip by ∙ free) settled_next in
    let step = walked-own f word bare.0 held n slot fill.1 in
    record {
      passes = turn_passes f (resting held n) word (words_of parts)
          (turn_fault-own f word bare.0 held n slot fill.1 ∙ clean)
          (subst (λ at. Passes f at (words_of parts)) (sym step) rest.passes);
      rows = ap (λ at. settled_rows f (end f at (words_of parts))) step ∙ rest.rows;
    }
walks f (apart setting value ∷ parts) held n before after fill bare clean rows =
    let slot = slot_of setting in
    let word = setting_word setting in
    let by = by_id f setting fill.0 in
    let next = pending (settled_rows f held) slot (value ∷ []) held.skip in
    let free : use_fault false (rule slot) (value ∷ []) (settled_rows f held) ≡ [] =
    ap (use_fault false (rule slot) (value ∷ [])) rows ∙ use_fault-new slot value before fill.1 in
    let settled_next =
    settled-pending f (settled_rows f held) slot (value ∷ []) held.skip by ∙ ap (used (rule slot) (value ∷ [])) rows
    ∙ used-new slot value before fill.1 in
    let rest = walks f parts next n (before ++ (slot, value) ∷ []) after fill.2 bare.1
    (settle-pending f (settled_rows f held) slot (value ∷ []) held.skip by ∙ free) settled_next in
    let wait = awaiting setting (settled_rows f held) held.skip n in
    let to_wait : walked (rules_of f) [] (resting held n) word ≡ wait =
    walked-option f word (id_of slot) None (apart-long setting) (apart-dashes setting) setting refl fill.0 held n in
    let turn : turn_fault (shape f) [] (resting held n) word ≡ or_else (settle_fault (rules_of f) false held) [] =
    turn_fault-option f word (id_of slot) None (apart-long setting) (apart-dashes setting) setting refl fill.0 held n in
    let step = walked-value f setting fill.0 (settled_rows f held) held.skip n value bare.0 in
    let waited : Passes f wait (value ∷ words_of parts) =
    turn_passes f wait value (words_of parts)
    (turn_fault-value f setting fill.0 (settled_rows f held) held.skip n value bare.0)
    (subst (λ at. Passes f at (words_of parts)) (sym step) rest.passes) in
    record {
      passes = turn_passes f (resting held n) word (value ∷ words_of parts) (turn ∙ ap (λ ks. or_else ks []) clean)
          (subst (λ at. Passes f at (value ∷ words_of parts)) (sym to_wait) waited);
      rows = ap (λ at. settled_rows f (end f at (value ∷ words_of parts))) to_wait
          ∙ ap (λ at. settled_rows f (end f at (words_of parts))) step ∙ rest.rows;
    }
walks f (joined setting value ∷ parts) held n before after fill bare clean rows =
    let slot = slot_of setting in
    let word = setting_word setting ++ 61 ∷ value in
    let next = record held { rows = used (rule slot) (value ∷ []) (settled_rows f held); pending = None } in
    let free : use_fault false (rule slot) (value ∷ []) (settled_rows f held) ≡ [] =
    ap (use_fault false (rule slot) (value ∷ [])) rows ∙ use_fault-new slot value before fill.1 in
    let settled_next : settled_rows f next ≡ rows_of (before ++ (slot, value) ∷ []) =
    ap (used (rule slot) (value ∷ [])) rows ∙ used-new slot value before fill.1 in
    let rest = walks f parts next n (before ++ (slot, value) ∷ []) after fill.2 bare refl settled_next in
    let step : walked (rules_of f) [] (resting held n) word ≡ resting next n =
    walked-option f word (id_of slot) (Some value) (joined-long setting value) (joined-dashes setting value)
    setting refl fill.0 held n in
    let turn : turn_fault (shape f) [] (resting held n) word
    ≡ or_else (or_else (settle_fault (rules_of f) false held)
    (use_fault false (rule slot) (value ∷ []) (settled_rows f held))) [] =
    turn_fault-option f word (id_of slot) (Some value) (joined-long setting value) (joined-dashes setting value)
    setting refl fill.0 held n in
    record {
      passes = turn_passes f (resting held n) word (words_of parts)
          (turn ∙ ap₂ (λ ks ls. or_else (or_else ks ls) []) clean free)
          (subst (λ at. Passes f at (words_of parts)) (sym step) rest.passes);
      rows = ap (λ at. settled_rows f (end f at (words_of parts))) step ∙ rest.rows;
    }

-- ---- from a walk to parts

-- the words are parts that fill slots, and the walk ends with them
pub record Reads (f : Frame) (n : ℕ) (words : List Word) (before : List Entry) (last : Held) : Type 0 where
  pub parts : List Part
  pub after : List Entry
  pub spelled : words ≡ words_of parts
  pub fill : Fill f n parts before after
  pub bare : ArePlain (bare_words parts)
  pub rows : settled_rows f last ≡ rows_of after

-- so they are behind an option that waits for its value
pub record Waits (f : Frame) (setting : Setting) (n : ℕ) (words : List Word) (before : List Entry)
    (last : Held) : Type 0 where
  pub value : Word
  pub rest : List Word
  pub spelled : words ≡ value ∷ rest
  pub plain : IsPlain value
  pub free : given (slot_of setting) before ≡ []
  pub reads : Reads f n rest (before ++ (slot_of setting, value) ∷ []) last

abbrev pub RestingReads : List Word → Type 0
RestingReads words =
    (f : Frame) (held : Held) (n : ℕ) (before : List Entry) → AreAdmitted words → Passes f (resting held n) words
    → settled_rows f held ≡ rows_of before → Reads f n words before (end f (resting held n) words)

abbrev pub AwaitingReads : List Word → Type 0
AwaitingReads words =
    (f : Frame) (setting : Setting) → takes f setting ≡ true → (rows : List Row) (skip n : ℕ) (before : List Entry)
    → AreAdmitted words → Passes f (awaiting setting rows skip n) words → rows ≡ rows_of before
    → Waits f setting n words before (end f (awaiting setting rows skip n) words)

-- a word that the walk passes over settles what is pending before it
turn_settles : (f : Frame) (held : Held) (n : ℕ) (word : Word) → Look word
    → turn_fault (shape f) [] (resting held n) word ≡ []
    → settle_fault (rules_of f) false held ≡ []
turn_settles f held n word (plain plain_word) e = go (file_at f n) refl
  where
    go : (slot : Option Slot) → file_at f n ≡ slot → settle_fault (rules_of f) false held ≡ []
    go None at = absurd (some_kind UnknownArgument [] (sym (turn_fault-stray f word plain_word held n at) ∙ e))
    go (Some slot) at = sym (turn_fault-own f word plain_word held n slot at) ∙ e
turn_settles f held n word (named name is long dashes) e = go (found f name)
  where
    go : Found f name → settle_fault (rules_of f) false held ≡ []
    go (nothing none) = absurd (turn_fault-unknown f word name None long dashes held n none e)
    go (option setting same taken) =
        (or_else-nil (settle_fault (rules_of f) false held) []
        (sym (turn_fault-option f word name None long dashes setting same taken held n) ∙ e)).0
turn_settles f held n word (valued name value is long dashes) e = go (found f name)
  where
    go : Found f name → settle_fault (rules_of f) false held ≡ []
    go (nothing none) = absurd (turn_fault-unknown f word name (Some value) long dashes held n none e)
    go (option setting same taken) =
        let free = use_fault false (rule (slot_of setting)) (value ∷ []) (settled_rows f held) in
        (or_else-nil (settle_fault (rules_of f) false held) free
        (or_else-nil (or_else (settle_fault (rules_of f) false held) free) []
        (sym (turn_fault-option f word name (Some value) long dashes setting same taken held n) ∙ e)).0).0

settles_first : (f : Frame) (held : Held) (n : ℕ) (words : List Word) → AreAdmitted words
    → Passes f (resting held n) words
    → settle_fault (rules_of f) false held ≡ []
settles_first f held n [] admitted passes = passes.settles
settles_first f held n (word ∷ words) admitted passes =
    turn_settles f held n word (look_of word admitted.0) (first_turn f (resting held n) word words passes)

-- what is pending for a slot is settled in a free one
module _ (f : Frame) (slot : Slot) (word : Word) (rows : List Row) (skip : ℕ) (before : List Entry)
    (found_by : arg_by_id (rules_of f) (id_of slot) ≡ Some (rule slot)) (same : rows ≡ rows_of before) where
  free_of : settle_fault (rules_of f) false (pending rows slot (word ∷ []) skip) ≡ [] → given slot before ≡ []
  free_of clean = new-use_fault slot word before
      (sym (ap (use_fault false (rule slot) (word ∷ [])) same)
      ∙ sym (settle-pending f rows slot (word ∷ []) skip found_by) ∙ clean)

  settled_as : given slot before ≡ []
      → settled_rows f (pending rows slot (word ∷ []) skip) ≡ rows_of (before ++ (slot, word) ∷ [])
  settled_as free =
      settled-pending f rows slot (word ∷ []) skip found_by ∙ ap (used (rule slot) (word ∷ [])) same
      ∙ used-new slot word before free

resting_own : (word : Word) (words : List Word) → IsPlain word → RestingReads words → RestingReads (word ∷ words)
resting_own word words plain_word reads f held n before admitted passes rows = go (file_at f n) refl
  where
    go : (slot : Option Slot) → file_at f n ≡ slot
        → Reads f n (word ∷ words) before (end f (resting held n) (word ∷ words))
    go None at =
        absurd (some_kind UnknownArgument []
        (sym (turn_fault-stray f word plain_word held n at) ∙ first_turn f (resting held n) word words passes))
    go (Some slot) at =
        let next = pending (settled_rows f held) slot (word ∷ []) held.skip in
        let step = walked-own f word plain_word held n slot at in
        let passes_on : Passes f (resting next (suc n)) words =
        subst (λ w. Passes f w words) step (other_turns f (resting held n) word words passes) in
        let by = file_by_id f n slot at in
        let free = free_of f slot word (settled_rows f held) held.skip before by rows
        (settles_first f next (suc n) words admitted.1 passes_on) in
        let rest = reads f next (suc n) (before ++ (slot, word) ∷ []) admitted.1 passes_on
        (settled_as f slot word (settled_rows f held) held.skip before by rows free) in
        record {
          parts = own word ∷ rest.parts;
          after = rest.after;
          spelled = ap (λ ws. word ∷ ws) rest.spelled;
          fill = (slot, at, free, rest.fill);
          bare = (plain_word, rest.bare);
          rows = ap (λ w. settled_rows f (end f w words)) step ∙ rest.rows;
        }

awaiting_value : (word : Word) (words : List Word) → IsPlain word → RestingReads words → AwaitingReads (word ∷ words)
awaiting_value word words plain_word reads f setting taken rows skip n before admitted passes same =
    let slot = slot_of setting in
    let next = pending rows slot (word ∷ []) skip in
    let step = walked-value f setting taken rows skip n word plain_word in
    let passes_on : Passes f (resting next n) words =
    subst (λ w. Passes f w words) step (other_turns f (awaiting setting rows skip n) word words passes) in
    let by = by_id f setting taken in
    let free = free_of f slot word rows skip before by same (settles_first f next n words admitted.1 passes_on) in
    let rest = reads f next n (before ++ (slot, word) ∷ []) admitted.1 passes_on
    (settled_as f slot word rows skip before by same free) in
    record {
      value = word;
      rest = words;
      spelled = refl;
      plain = plain_word;
      free = free;
      reads = subst (Reads f n words (before ++ (slot, word) ∷ [])) (sym (ap (λ w. end f w words) step)) rest;
    }

resting_named : (word name : Word) (words : List Word) → word ≡ 45 ∷ 45 ∷ name → long_of word ≡ Some (name, None)
    → bytes_eq word (45 ∷ 45 ∷ []) ≡ false
    → AwaitingReads words → RestingReads (word ∷ words)
resting_named word name words is long dashes reads f held n before admitted passes rows = go (found f name)
  where
    go : Found f name → Reads f n (word ∷ words) before (end f (resting held n) (word ∷ words))
    go (nothing none) =
        absurd (turn_fault-unknown f word name None long dashes held n none
        (first_turn f (resting held n) word words passes))
    go (option setting same taken) =
        let wait = awaiting setting (settled_rows f held) held.skip n in
        let step : walked (rules_of f) [] (resting held n) word ≡ wait =
        walked-option f word name None long dashes setting same taken held n in
        let rest = reads f setting taken (settled_rows f held) held.skip n before admitted.1
        (subst (λ w. Passes f w words) step (other_turns f (resting held n) word words passes)) rows in
        let word_is : word ≡ setting_word setting = is ∙ ap (λ t. 45 ∷ 45 ∷ t) same ∙ sym (setting_word-is setting) in
        record {
          parts = apart setting rest.value ∷ rest.reads.parts;
          after = rest.reads.after;
          spelled = ap₂ (λ w ws. w ∷ ws) word_is (rest.spelled ∙ ap (λ ws. rest.value ∷ ws) rest.reads.spelled);
          fill = (taken, rest.free, rest.reads.fill);
          bare = (rest.plain, rest.reads.bare);
          rows = ap (λ w. settled_rows f (end f w words)) step ∙ rest.reads.rows;
        }

resting_valued : (word name value : Word) (words : List Word) → word ≡ 45 ∷ 45 ∷ (name ++ 61 ∷ value)
    → long_of word ≡ Some (name, Some value)
    → bytes_eq word (45 ∷ 45 ∷ []) ≡ false → RestingReads words → RestingReads (word ∷ words)
resting_valued word name value words is long dashes reads f held n before admitted passes rows = go (found f name)
  where
    go : Found f name → Reads f n (word ∷ words) before (end f (resting held n) (word ∷ words))
    go (nothing none) =
        absurd (turn_fault-unknown f word name (Some value) long dashes held n none
        (first_turn f (resting held n) word words passes))
    go (option setting same taken) =
        let slot = slot_of setting in
        let next = record held { rows = used (rule slot) (value ∷ []) (settled_rows f held); pending = None } in
        let step : walked (rules_of f) [] (resting held n) word ≡ resting next n =
        walked-option f word name (Some value) long dashes setting same taken held n in
        let taken_by = use_fault false (rule slot) (value ∷ []) (settled_rows f held) in
        let turn : or_else (or_else (settle_fault (rules_of f) false held) taken_by) [] ≡ [] =
        sym (turn_fault-option f word name (Some value) long dashes setting same taken held n)
        ∙ first_turn f (resting held n) word words passes in
        let use_nil : taken_by ≡ [] = (or_else-nil (settle_fault (rules_of f) false held) taken_by
        (or_else-nil (or_else (settle_fault (rules_of f) false held) taken_by) [] turn).0).1 in
        let free = new-use_fault slot value before
        (sym (ap (use_fault false (rule slot) (value ∷ [])) rows) ∙ use_nil) in
        let next_rows : settled_rows f next ≡ rows_of (before ++ (slot, value) ∷ []) =
        ap (used (rule slot) (value ∷ [])) rows ∙ used-new slot value before free in
        let rest = reads f next n (before ++ (slot, value) ∷ []) admitted.1
        (subst (λ w. Passes f w words) step (other_turns f (resting held n) word words passes)) next_rows in
        let word_is : word ≡ setting_word setting ++ 61 ∷ value =
        is ∙ ap (λ t. 45 ∷ 45 ∷ (t ++ 61 ∷ value)) same ∙ sym (ap (λ t. t ++ 61 ∷ value) (setting_word-is setting)) in
        record {
          parts = joined setting value ∷ rest.parts;
          after = rest.after;
          spelled = ap₂ (λ w ws. w ∷ ws) word_is rest.spelled;
          fill = (taken, free, rest.fill);
          bare = rest.bare;
          rows = ap (λ w. settled_rows f (end f w words)) step ∙ rest.rows;
        }

one_more : (word : Word) (words : List Word) → RestingReads words × AwaitingReads words → RestingReads (word ∷ words)
    × AwaitingReads (word ∷ words)
one_more word words rest = (
  λ f held n before admitted passes rows. rests f held n before admitted passes rows (look_of word admitted.0),
  λ f setting taken rows skip n before admitted passes same.
      awaits f setting taken rows skip n before admitted passes same (look_of word admitted.0),
)
  where
    rests : (f : Frame) (held : Held) (n : ℕ) (before : List Entry) → AreAdmitted (word ∷ words)
        → Passes f (resting held n) (word ∷ words)
        → settled_rows f held ≡ rows_of before → Look word
        → Reads f n (word ∷ words) before (end f (resting held n) (word ∷ words))
    rests f held n before admitted passes rows (plain p) =
        resting_own word words p rest.0 f held n before admitted passes rows
    rests f held n before admitted passes rows (named name is long dashes) =
        resting_named word name words is long dashes rest.1 f held n before admitted passes rows
    rests f held n before admitted passes rows (valued name value is long dashes) =
        resting_valued word name value words is long dashes rest.0 f held n before admitted passes rows

    awaits : (f : Frame) (setting : Setting) → takes f setting ≡ true
        → (rows : List Row) (skip n : ℕ) (before : List Entry)
        → AreAdmitted (word ∷ words) → Passes f (awaiting setting rows skip n) (word ∷ words) → rows ≡ rows_of before
        → Look word → Waits f setting n (word ∷ words) before (end f (awaiting setting rows skip n) (word ∷ words))
    awaits f setting taken rows skip n before admitted passes same (plain p) =
        awaiting_value word words p rest.0 f setting taken rows skip n before admitted passes same
    awaits f setting taken rows skip n before admitted passes same (named name is long dashes) =
        absurd (turn_fault-no_value f setting taken rows skip n word name None long dashes
        (first_turn f (awaiting setting rows skip n) word words passes))
    awaits f setting taken rows skip n before admitted passes same (valued name value is long dashes) =
        absurd (turn_fault-no_value f setting taken rows skip n word name (Some value) long dashes
        (first_turn f (awaiting setting rows skip n) word words passes))

pub reads_all : (words : List Word) → RestingReads words × AwaitingReads words
reads_all [] = (
  λ f held n before admitted passes rows. record {
    parts = [];
    after = before;
    spelled = refl;
    fill = refl;
    bare = tt;
    rows = rows;
  },
  λ f setting taken rows skip n before admitted passes same.
      absurd (some_kind InvalidValue [] (sym (settle-awaiting f setting taken rows skip n) ∙ passes.settles)),
)
reads_all (word ∷ words) = one_more word words (reads_all words)
