-- What the next byte does to the `csv` reader of a scenario file.
use Rattle.std.proofs.Common.{◌≡◌, ℕ, List, ◌∷◌, refl, true, false, inl, inr}
use Rattle.std.specs.Prelude.{Some, ◌==◌}
use Rattle.std.proofs.lemmas.Bool.{cases_Bool, eqb-true}
use Rattle.csv.specs.Machine.{field_after, fields_after, is_end, next_record, step}
use Rattle.csv.specs.Reading.{default_config}
use Rattle.csv.specs.declared.parser.Action.{Action}
use Rattle.csv.specs.declared.parser.State.{State}
use Rattle.csv.specs.declared.parser.State.TheVariants as st
use Rattle.csv.specs.declared.parser.Action.TheVariants as act
use Rattle.rob_replay.specs.Files.{ends_field, is_line_end}

-- the reader stands at the start of a record
abbrev pub IsFresh : State → Type 0
IsFresh st.StartRecord = Unit {0}
IsFresh st.AfterCr = Unit {0}
IsFresh s = ⊥

-- ---- one byte
pub goes_step : (s s2 : State) (a : Action) (c : ℕ) (xs : List ℕ) (fields : List (List ℕ)) (field : List ℕ)
    → step default_config s c ≡ (s2, a) → is_end a ≡ false
    → next_record default_config s fields field (c ∷ xs)
    ≡ next_record default_config s2 (fields_after a fields field) (field_after a c field) xs
unfolding next_record
goes_step s s2 a c xs fields field e n = rw (e, n) refl

pub ends_step : (s s2 : State) (a : Action) (c : ℕ) (xs : List ℕ) (fields : List (List ℕ)) (field : List ℕ)
    → step default_config s c ≡ (s2, a) → is_end a ≡ true
    → next_record default_config s fields field (c ∷ xs) ≡ Some (fields_after a fields field, s2, xs)
unfolding next_record
ends_step s s2 a c xs fields field e n = rw (e, n) refl

pub same_step : (s s2 : State) (c : ℕ) (xs : List ℕ) (fields : List (List ℕ)) (field : List ℕ)
    → step default_config s c ≡ step default_config s2 c
    → next_record default_config s fields field (c ∷ xs) ≡ next_record default_config s2 fields field (c ∷ xs)
unfolding next_record
same_step s s2 c xs fields field e = rw e refl

-- what a byte in a field does: it ends the field, it ends the record, or it joins the field
pub data Byte (c : ℕ) : Type 0 where
  ends_it : c ≡ 44 → step default_config st.InField c ≡ (st.StartField, act.EndField) → ends_field c ≡ true → Byte c
  ends_all : (s : State) → step default_config st.InField c ≡ (s, act.EndRecord) → IsFresh s → is_line_end c ≡ true
      → ends_field c ≡ true → Byte c
  joins : step default_config st.InField c ≡ (st.InField, act.Copy) → ends_field c ≡ false → Byte c

byte_comma : (c : ℕ) → (c == 44) ≡ true → Byte c
byte_comma c h = ends_it (eqb-true c 44 h) (rw h refl) (rw h refl)

byte_cr : (c : ℕ) → (c == 44) ≡ false → (c == 13) ≡ true → Byte c
byte_cr c h e = ends_all st.AfterCr (rw (h, e) refl) tt (rw e refl) (rw (h, e) refl)

byte_lf : (c : ℕ) → (c == 44) ≡ false → (c == 13) ≡ false → (c == 10) ≡ true → Byte c
byte_lf c h e l = ends_all st.StartRecord (rw (h, e, l) refl) tt (rw (e, l) refl) (rw (h, e, l) refl)

byte_other : (c : ℕ) → (c == 44) ≡ false → (c == 13) ≡ false → (c == 10) ≡ false → Byte c
byte_other c h e l = joins (rw (h, e, l) refl) (rw (h, e, l) refl)

pub byte : (c : ℕ) → Byte c
byte c = elim (cases_Bool (c == 44)) [
  | inl h ↦ byte_comma c h
  | inr h ↦ elim (cases_Bool (c == 13)) [
    | inl e ↦ byte_cr c h e
    | inr e ↦ elim (cases_Bool (c == 10)) [
      | inl l ↦ byte_lf c h e l
      | inr l ↦ byte_other c h e l
    ]
  ]
]

-- ---- at the start of a record
pub line_step : (c : ℕ) → is_line_end c ≡ true → step default_config st.StartRecord c ≡ (st.StartRecord, act.Skip)
line_step c e = rw e refl

pub field_step : (c : ℕ) → is_line_end c ≡ false
    → step default_config st.StartRecord c ≡ step default_config st.StartField c
field_step c e = rw e refl
