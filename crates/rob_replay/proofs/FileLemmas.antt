-- The records that `csv` reads are the records of a scenario file.
use Rattle.std.proofs.Common.{◌≡◌, ℕ, List, [], ◌∷◌, ◌++◌, refl, sym, ap, ◌∙◌, subst, true, false, inl, inr}
use Rattle.std.specs.Prelude.{Some, None, ◌==◌}
use Rattle.std.proofs.lemmas.Bool.{cases_Bool}
use Rattle.csv.specs.Machine.{Read, next_record}
use Rattle.csv.specs.Reading.{Reached, default_config, strip_bom}
use Rattle.csv.specs.declared.parser.State.{State}
use Rattle.csv.specs.declared.parser.State.TheVariants as st
use Rattle.csv.specs.declared.parser.Action.TheVariants as act
use Rattle.rob_replay.proofs.ByteLemmas.{Byte, IsFresh, byte, ends_all, ends_it, ends_step, field_step, goes_step, joins, line_step, same_step}
use Rattle.rob_replay.specs.Files.{AreFields, AreLineEnds, AreRecords, IsFile, NextRecord, is_line_end}
use Rattle.rob_model.proofs.KeptLemmas.{none_is_none}
use Rattle.rob_replay.proofs.RecordLemmas.{Starts, reads}

-- ---- a field or a record that has begun ends
record Ends (xs : List ℕ) : Type 0 where
  in_field : (fields : List (List ℕ)) (field : List ℕ)
      → next_record default_config st.InField fields field xs ≡ None → ⊥
  starts : (fields : List (List ℕ)) → next_record default_config st.StartField fields [] xs ≡ None → ⊥
  in_quotes : (fields : List (List ℕ)) (field : List ℕ)
      → next_record default_config st.InQuoted fields field xs ≡ None → ⊥
  behind_quote : (fields : List (List ℕ)) (field : List ℕ)
      → next_record default_config st.AfterQuote fields field xs ≡ None → ⊥

is_there : {A : Type 0} (x : A) → Some x ≡ None → ⊥
is_there x h = cc

ends_nothing : Ends []
unfolding next_record
ends_nothing = record {
  in_field = λ fields field h. is_there (fields ++ (field ∷ []), st.StartRecord, []) h;
  starts = λ fields h. is_there (fields ++ ([] ∷ []), st.StartRecord, []) h;
  in_quotes = λ fields field h. is_there (fields ++ (field ∷ []), st.StartRecord, []) h;
  behind_quote = λ fields field h. is_there (fields ++ (field ∷ []), st.StartRecord, []) h;
}

module _ (c : ℕ) (xs : List ℕ) (later : Ends xs) where
  in_field_ends : (fields : List (List ℕ)) (field : List ℕ) → Byte c
      → next_record default_config st.InField fields field (c ∷ xs) ≡ None → ⊥
  in_field_ends fields field (ends_it e is ended) h =
      later.starts (fields ++ field ∷ [])
      (sym (goes_step st.InField st.StartField act.EndField c xs fields field is refl) ∙ h)
  in_field_ends fields field (ends_all s is fresh line ended) h =
      is_there (fields ++ field ∷ [], s, xs) (sym (ends_step st.InField s act.EndRecord c xs fields field is refl) ∙ h)
  in_field_ends fields field (joins is within) h =
      later.in_field fields (field ++ c ∷ [])
      (sym (goes_step st.InField st.InField act.Copy c xs fields field is refl) ∙ h)

  ends_more : Ends (c ∷ xs)
  ends_more = record {
    in_field = λ fields field h. in_field_ends fields field (byte c) h;
    starts = λ fields h. elim (cases_Bool (c == 34)) [
      | inl e ↦ later.in_quotes fields []
          (sym (goes_step st.StartField st.InQuoted act.Skip c xs fields [] (rw e refl) refl) ∙ h)
      | inr e ↦ in_field_ends fields [] (byte c)
          (sym (same_step st.StartField st.InField c xs fields [] (rw e refl)) ∙ h)
    ];
    in_quotes = λ fields field h. elim (cases_Bool (c == 34)) [
      | inl e ↦ later.behind_quote fields field
          (sym (goes_step st.InQuoted st.AfterQuote act.Skip c xs fields field (rw e refl) refl) ∙ h)
      | inr e ↦ later.in_quotes fields (field ++ c ∷ [])
          (sym (goes_step st.InQuoted st.InQuoted act.Copy c xs fields field (rw e refl) refl) ∙ h)
    ];
    behind_quote = λ fields field h. elim (cases_Bool (c == 34)) [
      | inl e ↦ later.in_quotes fields (field ++ c ∷ [])
          (sym (goes_step st.AfterQuote st.InQuoted act.Copy c xs fields field (rw e refl) refl) ∙ h)
      | inr e ↦ in_field_ends fields field (byte c)
          (sym (same_step st.AfterQuote st.InField c xs fields field (rw e refl)) ∙ h)
    ];
  }

ends : (xs : List ℕ) → Ends xs
ends [] = ends_nothing
ends (c ∷ xs) = ends_more c xs (ends xs)

-- ---- lines of no bytes, and the next record
abbrev pub Found : List ℕ → Read → Type 0
Found xs p = NextRecord xs p.0 p.2 × IsFresh p.1

empty_more : (c : ℕ) (xs : List ℕ) (p : Read) → is_line_end c ≡ true → Found xs p → Found (c ∷ xs) p
empty_more c xs p e (r, fresh) = (
  record {
    empty_lines = c ∷ r.empty_lines;
    rest = r.rest;
    split = ap (λ l. c ∷ l) r.split;
    empty = (e, r.empty);
    begins = r.begins;
    fields = r.fields;
  },
  fresh,
)

begins_record : (c : ℕ) (xs : List ℕ) (p : Read) → is_line_end c ≡ false → Starts [] (c ∷ xs) p → Found (c ∷ xs) p
begins_record c xs p e r = (
  record {
    empty_lines = [];
    rest = c ∷ xs;
    split = refl;
    empty = tt;
    begins = e;
    fields = subst (λ l. AreFields (c ∷ xs) l p.2) (sym r.all) r.fields_left;
  },
  r.fresh,
)

pub from_record : (xs : List ℕ) (p : Read) → next_record default_config st.StartRecord [] [] xs ≡ Some p → Found xs p
unfolding next_record
from_record [] p h = absurd (none_is_none p h)
from_record (c ∷ xs) p h = elim (cases_Bool (is_line_end c)) [
  | inl e ↦ empty_more c xs p e
      (from_record xs p (sym (goes_step st.StartRecord st.StartRecord act.Skip c xs [] [] (line_step c e) refl) ∙ h))
  | inr e ↦ begins_record c xs p e
      ((reads (c ∷ xs)).starts [] p (sym (same_step st.StartRecord st.StartField c xs [] [] (field_step c e)) ∙ h))
]

pub no_record : (xs : List ℕ) → next_record default_config st.StartRecord [] [] xs ≡ None → AreLineEnds xs
unfolding next_record
no_record [] h = tt
no_record (c ∷ xs) h = elim (cases_Bool (is_line_end c)) [
  | inl e ↦ (
    e,
    no_record xs (sym (goes_step st.StartRecord st.StartRecord act.Skip c xs [] [] (line_step c e) refl) ∙ h),
  )
  | inr e ↦ absurd
      ((ends (c ∷ xs)).starts [] (sym (same_step st.StartRecord st.StartField c xs [] [] (field_step c e)) ∙ h))
]

-- behind a CR a LF is skipped, as a line of no bytes is
after_cr : (xs : List ℕ) → next_record default_config st.AfterCr [] [] xs
    ≡ next_record default_config st.StartRecord [] [] xs
unfolding next_record
after_cr [] = refl
after_cr (c ∷ xs) = elim (cases_Bool (c == 10)) [
  | inl e ↦ goes_step st.AfterCr st.StartRecord act.Skip c xs [] [] (rw e refl) refl
      ∙ sym (goes_step st.StartRecord st.StartRecord act.Skip c xs [] [] (line_step c (is_line c e)) refl)
  | inr e ↦ same_step st.AfterCr st.StartRecord c xs [] [] (rw e refl)
]
  where
    is_line : (c : ℕ) → (c == 10) ≡ true → is_line_end c ≡ true
    is_line c e = elim (cases_Bool (c == 13)) [
      | inl a ↦ rw a refl
      | inr a ↦ rw (a, e) refl
    ]

pub at_start : (s : State) (xs : List ℕ) → IsFresh s
    → next_record default_config s [] [] xs ≡ next_record default_config st.StartRecord [] [] xs
at_start st.StartRecord xs h = refl
at_start st.AfterCr xs h = after_cr xs
at_start st.StartField xs h = absurd h
at_start st.InField xs h = absurd h
at_start st.InQuoted xs h = absurd h
at_start st.AfterQuote xs h = absurd h
at_start st.InEscape xs h = absurd h
at_start st.InComment xs h = absurd h

-- ---- all records
are_records : (s : State) (xs : List ℕ) (rows : List (List (List ℕ))) (s2 : State) (ys : List ℕ) → IsFresh s
    → Reached default_config s xs rows s2 ys → next_record default_config s2 [] [] ys ≡ None → AreRecords xs rows
unfolding Reached
are_records s xs [] s2 ys fresh h none =
    no_record xs (sym (at_start s xs fresh) ∙ (λ i. next_record default_config (h.0 i) [] [] (h.1 i)) ∙ none)
are_records s xs (r ∷ rs) s2 ys fresh (p, e, is, more) none =
    let found = from_record xs p (sym (at_start s xs fresh) ∙ e) in
    (p.2, subst (λ l. NextRecord xs l p.2) (sym is) found.0, are_records p.1 p.2 rs s2 ys found.1 more none)

pub is_file : (text : List ℕ) (rows : List (List (List ℕ))) (s2 : State) (ys : List ℕ)
    → Reached default_config st.StartRecord (strip_bom text) rows s2 ys
    → next_record default_config s2 [] [] ys ≡ None → IsFile text rows
is_file text rows s2 ys h none = are_records st.StartRecord (strip_bom text) rows s2 ys tt h none
