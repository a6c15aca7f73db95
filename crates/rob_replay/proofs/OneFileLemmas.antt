-- A file has one list of records: `csv` would read each list of records that a text is.
use Rattle.std.proofs.Common.{◌≡◌, ℕ, List, [], ◌∷◌, ◌++◌, refl, sym, ap, ap₂, ◌∙◌, subst, append_assoc, append-nil, Bool, true, false, inl, inr, zero, suc, length, ◌≤◌, ◌<◌, arith}
use Rattle.std.specs.Prelude.{Option, Some, None, ◌==◌, if◌then◌else◌}
use Rattle.std.proofs.lemmas.Bool.{cases_Bool, eqb-true}
use Rattle.csv.specs.Machine.{Read, ends_at_end, field_after, fields_after, is_end, next_record, step}
use Rattle.csv.specs.Reading.{default_config, strip_bom}
use Rattle.csv.specs.declared.parser.Action.TheVariants as act
use Rattle.csv.specs.declared.parser.State.{State}
use Rattle.csv.specs.declared.parser.State.TheVariants as st
use Rattle.rob_replay.proofs.ByteLemmas.{Byte, IsFresh, byte, ends_all, ends_it, ends_step, field_step, goes_step, joins, line_step, same_step}
use Rattle.rob_replay.proofs.FileLemmas.{from_record, no_record}
use Rattle.rob_replay.specs.Files.{AreFields, AreLineEnds, AreRecords, BeginsRecord, EndsRecord, IsField, IsFile, IsUnquoted, IsWithin, NextRecord, doubled, ends_field, is_line_end, quote}

-- ---- bytes that join the field
join_byte : (c : ℕ) → Byte c → ends_field c ≡ false → step default_config st.InField c ≡ (st.InField, act.Copy)
join_byte c (ends_it e is ended) h = cc
join_byte c (ends_all s is fresh line ended) h = cc
join_byte c (joins is within) h = is

module _ (fields : List (List ℕ)) where
  joined : (field more rest : List ℕ) → IsWithin more
      → next_record default_config st.InField fields field (more ++ rest)
      ≡ next_record default_config st.InField fields (field ++ more) rest
  joined field [] rest h = ap (λ f. next_record default_config st.InField fields f rest) (sym (append-nil field))
  joined field (c ∷ more) rest h =
      goes_step st.InField st.InField act.Copy c (more ++ rest) fields field (join_byte c (byte c) h.0) refl
      ∙ joined (field ++ c ∷ []) more rest h.1
      ∙ ap (λ f. next_record default_config st.InField fields f rest) (append_assoc field (c ∷ []) more)

  -- bytes between quotes
  quote_twice : (field rest : List ℕ)
      → next_record default_config st.InQuoted fields field (quote ∷ quote ∷ rest)
      ≡ next_record default_config st.InQuoted fields (field ++ quote ∷ []) rest
  quote_twice field rest =
      goes_step st.InQuoted st.AfterQuote act.Skip quote (quote ∷ rest) fields field refl refl
      ∙ goes_step st.AfterQuote st.InQuoted act.Copy quote rest fields field refl refl

  between_quotes : (field between rest : List ℕ)
      → next_record default_config st.InQuoted fields field (doubled between ++ rest)
      ≡ next_record default_config st.InQuoted fields (field ++ between) rest
  between_quotes field [] rest = ap (λ f. next_record default_config st.InQuoted fields f rest) (sym (append-nil field))
  between_quotes field (c ∷ between) rest = elim (cases_Bool (c == 34)) [
    | inl e ↦ twice c e (between_quotes (field ++ quote ∷ []) between rest)
    | inr e ↦ once c e (between_quotes (field ++ c ∷ []) between rest)
  ]
    where
      twice : (c : ℕ) → (c == 34) ≡ true
          → next_record default_config st.InQuoted fields (field ++ quote ∷ []) (doubled between ++ rest)
          ≡ next_record default_config st.InQuoted fields ((field ++ quote ∷ []) ++ between) rest
          → next_record default_config st.InQuoted fields field (doubled (c ∷ between) ++ rest)
          ≡ next_record default_config st.InQuoted fields (field ++ (c ∷ between)) rest
      twice c e ih =
          rw e (quote_twice field (doubled between ++ rest)) ∙ ih
          ∙ ap (λ f. next_record default_config st.InQuoted fields f rest)
          (append_assoc field (quote ∷ []) between ∙ ap (λ b. field ++ (b ∷ between)) (sym (eqb-true c 34 e)))

      once : (c : ℕ) → (c == 34) ≡ false
          → next_record default_config st.InQuoted fields (field ++ c ∷ []) (doubled between ++ rest)
          ≡ next_record default_config st.InQuoted fields ((field ++ c ∷ []) ++ between) rest
          → next_record default_config st.InQuoted fields field (doubled (c ∷ between) ++ rest)
          ≡ next_record default_config st.InQuoted fields (field ++ (c ∷ between)) rest
      once c e ih =
          rw e (goes_step st.InQuoted st.InQuoted act.Copy c (doubled between ++ rest) fields field (rw e refl) refl)
          ∙ ih
          ∙ ap (λ f. next_record default_config st.InQuoted fields f rest) (append_assoc field (c ∷ []) between)

  behind_quote : (field rest : List ℕ) → IsUnquoted rest
      → next_record default_config st.AfterQuote fields field rest
      ≡ next_record default_config st.InField fields field rest
  unfolding next_record
  behind_quote field [] h = refl
  behind_quote field (c ∷ rest) h = same_step st.AfterQuote st.InField c rest fields field (rw h refl)

  plain_begins : (text : List ℕ) → IsUnquoted text
      → next_record default_config st.StartField fields [] text ≡ next_record default_config st.InField fields [] text
  unfolding next_record
  plain_begins [] h = refl
  plain_begins (c ∷ rest) h = same_step st.StartField st.InField c rest fields [] (rw h refl)

  open_ends : (field : List ℕ) → next_record default_config st.InQuoted fields field []
      ≡ next_record default_config st.InField fields field []
  unfolding next_record
  open_ends field = refl

  -- a field that a text begins with is read
  field_read : (text field rest : List ℕ) → IsField text field rest
      → next_record default_config st.StartField fields [] text
      ≡ next_record default_config st.InField fields field rest
  field_read text field rest (inl f) =
      plain_begins text f.unquoted ∙ ap (next_record default_config st.InField fields []) f.split
      ∙ joined [] field rest f.within
  field_read text field rest (inr (inl f)) =
      ap (next_record default_config st.StartField fields []) f.split
      ∙ goes_step st.StartField st.InQuoted act.Skip quote
      (doubled f.between ++ quote ∷ (f.more ++ rest)) fields [] refl refl
      ∙ between_quotes [] f.between (quote ∷ (f.more ++ rest))
      ∙ goes_step st.InQuoted st.AfterQuote act.Skip quote (f.more ++ rest) fields f.between refl refl
      ∙ behind_quote f.between (f.more ++ rest) f.closed
      ∙ joined f.between f.more rest f.within
      ∙ ap (λ x. next_record default_config st.InField fields x rest) (sym f.field_is)
  field_read text field rest (inr (inr f)) =
      ap (next_record default_config st.StartField fields []) f.split
      ∙ goes_step st.StartField st.InQuoted act.Skip quote (doubled field) fields [] refl refl
      ∙ ap (next_record default_config st.InQuoted fields []) (sym (append-nil (doubled field)))
      ∙ between_quotes [] field []
      ∙ open_ends field
      ∙ ap (next_record default_config st.InField fields field) (sym f.last)

-- ---- the end of a record
record Gives (fields : List (List ℕ)) (behind : List ℕ) (o : Option Read) : Type 0 where
  state : State
  fresh : IsFresh state
  is : o ≡ Some (fields, state, behind)

end_byte : (fields : List (List ℕ)) (field : List ℕ) (c : ℕ) (rest : List ℕ) → Byte c → is_line_end c ≡ true
    → Gives (fields ++ field ∷ []) rest (next_record default_config st.InField fields field (c ∷ rest))
end_byte fields field c rest (ends_it e is ended) h = absurd (comma_not c e h)
  where
    comma_not : (c : ℕ) → c ≡ 44 → is_line_end c ≡ true → ⊥
    comma_not c e h = let t : is_line_end 44 ≡ true = subst (λ b. is_line_end b ≡ true) e h in cc t
end_byte fields field c rest (ends_all s is fresh line ended) h = record {
  state = s;
  fresh = fresh;
  is = ends_step st.InField s act.EndRecord c rest fields field is refl;
}
end_byte fields field c rest (joins is within) h = absurd (line_not c within h)
  where
    line_not : (c : ℕ) → ends_field c ≡ false → is_line_end c ≡ true → ⊥
    line_not c w h = elim (cases_Bool (c == 44)) [
      | inl e ↦ (let t : true ≡ false = rw e at w in cc t)
      | inr e ↦ (let t : true ≡ false = rw (e, h) at w in cc t)
    ]

end_read : (fields : List (List ℕ)) (field rest behind : List ℕ) → EndsRecord rest behind
    → Gives (fields ++ field ∷ []) behind (next_record default_config st.InField fields field rest)
unfolding next_record
end_read fields field [] behind h =
    record { state = st.StartRecord; fresh = tt; is = ap (λ b. Some (fields ++ field ∷ [], st.StartRecord, b)) (sym h) }
end_read fields field (c ∷ rest) behind h =
    subst (λ b. Gives (fields ++ field ∷ []) b (next_record default_config st.InField fields field (c ∷ rest)))
    (sym h.1) (end_byte fields field c rest (byte c) h.0)

comma_read : (fields : List (List ℕ)) (field after : List ℕ)
    → next_record default_config st.InField fields field (44 ∷ after)
    ≡ next_record default_config st.StartField (fields ++ field ∷ []) [] after
comma_read fields field after = goes_step st.InField st.StartField act.EndField 44 after fields field refl refl

fields_read : (fields : List (List ℕ)) (text : List ℕ) (left : List (List ℕ)) (behind : List ℕ)
    → AreFields text left behind
    → Gives (fields ++ left) behind (next_record default_config st.StartField fields [] text)
fields_read fields text [] behind h = absurd h
fields_read fields text (field ∷ []) behind (rest, is, goes) =
    subst (Gives (fields ++ field ∷ []) behind) (sym (field_read fields text field rest is))
    (end_read fields field rest behind goes)
fields_read fields text (field ∷ g ∷ gs) behind (rest, is, (after, comes, more)) =
    let later = fields_read (fields ++ field ∷ []) after (g ∷ gs) behind more in
    subst (Gives (fields ++ (field ∷ g ∷ gs)) behind)
    (sym (field_read fields text field rest is ∙ ap (next_record default_config st.InField fields field) comes
    ∙ comma_read fields field after))
    (subst (λ l. Gives l behind (next_record default_config st.StartField (fields ++ field ∷ []) [] after))
    (append_assoc fields (field ∷ []) (g ∷ gs)) later)

-- ---- records
lines_skipped : (ends rest : List ℕ) → AreLineEnds ends
    → next_record default_config st.StartRecord [] [] (ends ++ rest)
    ≡ next_record default_config st.StartRecord [] [] rest
lines_skipped [] rest h = refl
lines_skipped (c ∷ ends) rest h =
    goes_step st.StartRecord st.StartRecord act.Skip c (ends ++ rest) [] [] (line_step c h.0) refl
    ∙ lines_skipped ends rest h.1

none_left : (text : List ℕ) → AreLineEnds text → next_record default_config st.StartRecord [] [] text ≡ None
unfolding next_record
none_left [] h = refl
none_left (c ∷ text) h =
    goes_step st.StartRecord st.StartRecord act.Skip c text [] [] (line_step c h.0) refl ∙ none_left text h.1

begun : (rest : List ℕ) → BeginsRecord rest
    → next_record default_config st.StartRecord [] [] rest ≡ next_record default_config st.StartField [] [] rest
begun [] h = absurd h
begun (c ∷ rest) h = same_step st.StartRecord st.StartField c rest [] [] (field_step c h)

record_read : (text : List ℕ) (row : List (List ℕ)) (behind : List ℕ) → NextRecord text row behind
    → Gives row behind (next_record default_config st.StartRecord [] [] text)
record_read text row behind r =
    subst (Gives row behind)
    (sym (ap (next_record default_config st.StartRecord [] []) r.split ∙ lines_skipped r.empty_lines r.rest r.empty
    ∙ begun r.rest r.begins))
    (fields_read [] r.rest row behind r.fields)

one_more : (a b : List (List ℕ)) (s t : State) (x y : List ℕ)
    → (let o : Option Read = Some (a, s, x) in o) ≡ Some (b, t, y) → (a ≡ b) × (x ≡ y)
one_more a b s t x y h = let e : (a, s, x) ≡ (b, t, y) = cc in (ap (λ (p : Read). p.0) e, ap (λ (p : Read). p.2) e)

none_more : (p : Read) → (let o : Option Read = None in o) ≡ Some p → ⊥
none_more p h = cc

one_list : (text : List ℕ) (rows others : List (List (List ℕ))) → AreRecords text rows
    → AreRecords text others → rows ≡ others
one_list text [] [] h g = refl
one_list text [] (r ∷ rs) h (behind, next, more) =
    let a = record_read text r behind next in absurd (none_more (r, a.state, behind) (sym (none_left text h) ∙ a.is))
one_list text (r ∷ rs) [] (behind, next, more) g =
    let a = record_read text r behind next in absurd (none_more (r, a.state, behind) (sym (none_left text g) ∙ a.is))
one_list text (r ∷ rs) (q ∷ qs) (behind, next, more) (behind2, next2, more2) =
    let a = record_read text r behind next in
    let b = record_read text q behind2 next2 in
    let e = one_more r q a.state b.state behind behind2 (sym a.is ∙ b.is) in
    ap₂ (λ x xs. x ∷ xs) e.0 (one_list behind rs qs more (subst (λ y. AreRecords y qs) (sym e.1) more2))

pub one_file : (text : List ℕ) (rows others : List (List (List ℕ))) → IsFile text rows
    → IsFile text others → rows ≡ others
one_file text rows others h g = one_list (strip_bom text) rows others h g

-- ---- each file has records
nothing_left : (t : Bool) (fields : List (List ℕ)) (p : Read)
    → (if t then (let o : Option Read = Some (fields, st.StartRecord, []) in o) else None) ≡ Some p → length p.2 ≤ 0
nothing_left true fields p e =
    let d : (fields, st.StartRecord, []) ≡ p = cc in
    subst (λ (q : Read). length q.2 ≤ 0) d (omega arith)
nothing_left false fields p e = absurd (none_more p e)

one_byte : (t : Bool) (fields : List (List ℕ)) (s : State) (xs : List ℕ) (o : Option Read) (p : Read)
    → (if t then (let r : Option Read = Some (fields, s, xs) in r) else o) ≡ Some p
    → (o ≡ Some p → length p.2 ≤ length xs) → length p.2 ≤ length xs
one_byte true fields s xs o p e ih =
    let d : (fields, s, xs) ≡ p = cc in
    subst (λ (q : Read). length q.2 ≤ length xs) d (omega arith)
one_byte false fields s xs o p e ih = ih e

-- a byte is taken
behind_byte : (s : State) (fields : List (List ℕ)) (field : List ℕ) (c : ℕ) (xs : List ℕ) (p : Read)
    → ((s2 : State) (fields2 : List (List ℕ)) (field2 : List ℕ)
    → next_record default_config s2 fields2 field2 xs ≡ Some p → length p.2 ≤ length xs)
    → next_record default_config s fields field (c ∷ xs) ≡ Some p → length p.2 ≤ length xs
unfolding next_record
behind_byte s fields field c xs p later h =
    one_byte (is_end (step default_config s c).1) (fields_after (step default_config s c).1 fields field)
    (step default_config s c).0 xs
    (next_record default_config (step default_config s c).0 (fields_after (step default_config s c).1 fields field)
    (field_after (step default_config s c).1 c field) xs) p h
    (later (step default_config s c).0 (fields_after (step default_config s c).1 fields field)
    (field_after (step default_config s c).1 c field))

left_shorter : (xs : List ℕ) (p : Read) (s : State) (fields : List (List ℕ)) (field : List ℕ)
    → next_record default_config s fields field xs ≡ Some p → length p.2 ≤ length xs
unfolding next_record
left_shorter [] p s fields field h = nothing_left (ends_at_end s) (fields ++ (field ∷ [])) p h
left_shorter (c ∷ xs) p s fields field h = omega (arith, behind_byte s fields field c xs p (left_shorter xs p) h)

-- a record takes at least a byte
record_shorter : (xs : List ℕ) (p : Read) → next_record default_config st.StartRecord [] [] xs ≡ Some p
    → length p.2 < length xs
unfolding next_record
record_shorter [] p h = absurd (none_more p h)
record_shorter (c ∷ xs) p h = omega (arith, behind_byte st.StartRecord [] [] c xs p (left_shorter xs p) h)

some_list : (n : ℕ) (text : List ℕ) → length text ≤ n → (rows : List (List (List ℕ))) × AreRecords text rows
some_list n text few = found n text few (next_record default_config st.StartRecord [] [] text) refl
  where
    found : (n : ℕ) (text : List ℕ) → length text ≤ n → (o : Option Read)
        → next_record default_config st.StartRecord [] [] text ≡ o
        → (rows : List (List (List ℕ))) × AreRecords text rows
    found n text few None h = ([], no_record text h)
    found zero text few (Some p) h = absurd (omega (arith, record_shorter text p h))
    found (suc n) text few (Some p) h =
        let later =
        found n p.2 (omega (arith, record_shorter text p h))
        (next_record default_config st.StartRecord [] [] p.2) refl in
        (p.0 ∷ later.0, (p.2, (from_record text p h).0, later.1))

pub some_file : (text : List ℕ) → (rows : List (List (List ℕ))) × IsFile text rows
some_file text = some_list (length (strip_bom text)) (strip_bom text) (omega arith)
