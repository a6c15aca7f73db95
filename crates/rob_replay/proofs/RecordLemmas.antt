-- The rest of a record, from each state in which its reading stands.
use Rattle.std.proofs.Common.{◌≡◌, ℕ, List, [], ◌∷◌, ◌++◌, refl, sym, ap, ◌∙◌, subst, append_assoc, append-nil, false, inl, inr}
use Rattle.std.specs.Prelude.{Some, ◌==◌}
use Rattle.std.proofs.lemmas.Bool.{cases_Bool, eqb-true}
use Rattle.csv.specs.Machine.{Read, next_record}
use Rattle.csv.specs.Reading.{default_config}
use Rattle.csv.specs.declared.parser.State.TheVariants as st
use Rattle.csv.specs.declared.parser.Action.TheVariants as act
use Rattle.rob_replay.proofs.ByteLemmas.{Byte, IsFresh, byte, ends_all, ends_it, ends_step, goes_step, joins, same_step}
use Rattle.rob_replay.specs.Files.{AreFields, GoesOn, HasEnded, IsUnquoted, IsWithin, doubled, ends_field, quote}

-- ---- the rest of a record from a state, with the fields and the bytes of the field so far
-- the fields that are left when a field has ended, `rest` standing behind it
pub record Ended (fields : List (List ℕ)) (field rest : List ℕ) (p : Read) : Type 0 where
  pub left : List (List ℕ)
  pub all : p.0 ≡ fields ++ (field ∷ left)
  pub goes : GoesOn (λ after. AreFields after left p.2) left rest p.2
  pub ended : HasEnded rest
  pub fresh : IsFresh p.1

-- in a field that is not quoted, or behind the quotes of one that is
pub record InField (fields : List (List ℕ)) (field xs : List ℕ) (p : Read) : Type 0 where
  pub more : List ℕ
  pub rest : List ℕ
  pub split : xs ≡ more ++ rest
  pub within : IsWithin more
  pub behind : Ended fields (field ++ more) rest p

-- between quotes
pub data InQuotes (fields : List (List ℕ)) (field xs : List ℕ) (p : Read) : Type 0 where
  closes : (between more rest : List ℕ) → xs ≡ doubled between ++ quote ∷ (more ++ rest)
      → IsUnquoted (more ++ rest) → IsWithin more
      → Ended fields (field ++ (between ++ more)) rest p → InQuotes fields field xs p
  stays : (between : List ℕ) → xs ≡ doubled between → p.0 ≡ fields ++ ((field ++ between) ∷ []) → p.2 ≡ [] → IsFresh p.1
      → InQuotes fields field xs p

-- behind the first quote that may close it
pub data BehindQuote (fields : List (List ℕ)) (field xs : List ℕ) (p : Read) : Type 0 where
  closed : IsUnquoted xs → InField fields field xs p → BehindQuote fields field xs p
  again : (rest : List ℕ) → xs ≡ quote ∷ rest → InQuotes fields (field ++ quote ∷ []) rest p
      → BehindQuote fields field xs p

-- at the start of a field
pub record Starts (fields : List (List ℕ)) (xs : List ℕ) (p : Read) : Type 0 where
  pub left : List (List ℕ)
  pub all : p.0 ≡ fields ++ left
  pub fields_left : AreFields xs left p.2
  pub fresh : IsFresh p.1

-- what holds of a text in each of these states
pub record Reads (xs : List ℕ) : Type 0 where
  pub in_field : (fields : List (List ℕ)) (field : List ℕ) (p : Read)
      → next_record default_config st.InField fields field xs ≡ Some p → InField fields field xs p
  pub starts : (fields : List (List ℕ)) (p : Read)
      → next_record default_config st.StartField fields [] xs ≡ Some p → Starts fields xs p
  pub in_quotes : (fields : List (List ℕ)) (field : List ℕ) (p : Read)
      → next_record default_config st.InQuoted fields field xs ≡ Some p → InQuotes fields field xs p
  pub behind_quote : (fields : List (List ℕ)) (field : List ℕ) (p : Read)
      → next_record default_config st.AfterQuote fields field xs ≡ Some p → BehindQuote fields field xs p

-- ---- the end of the text
module _ (fields : List (List ℕ)) (field : List ℕ) (p : Read)
    (h : Some (fields ++ (field ∷ []), st.StartRecord, []) ≡ Some p) where
  end_is : (fields ++ (field ∷ []), st.StartRecord, []) ≡ p
  end_is = cc

  field_ends : InField fields field [] p
  field_ends = subst (InField fields field []) end_is (record {
    more = [];
    rest = [];
    split = refl;
    within = tt;
    behind = record {
      left = [];
      all = ap (λ f. fields ++ (f ∷ [])) (sym (append-nil field));
      goes = refl;
      ended = tt;
      fresh = tt;
    };
  })

  quotes_end : InQuotes fields field [] p
  quotes_end =
      subst (InQuotes fields field []) end_is
      (stays [] refl (ap (λ f. fields ++ (f ∷ [])) (sym (append-nil field))) refl tt)

start_ends : (fields : List (List ℕ)) (p : Read)
    → Some (fields ++ ([] ∷ []), st.StartRecord, []) ≡ Some p → Starts fields [] p
start_ends fields p h = subst (Starts fields []) (end_is fields [] p h) (record {
  left = [] ∷ [];
  all = refl;
  fields_left = ([], inl (record { split = refl; unquoted = tt; within = tt; ended = tt }), refl);
  fresh = tt;
})

reads_nothing : Reads []
unfolding next_record
reads_nothing = record {
  in_field = λ fields field p h. field_ends fields field p h;
  starts = λ fields p h. start_ends fields p h;
  in_quotes = λ fields field p h. quotes_end fields field p h;
  behind_quote = λ fields field p h. closed tt (field_ends fields field p h);
}

-- ---- one byte more
module _ (c : ℕ) (xs : List ℕ) (later : Reads xs) where
  goes_on : (left : List (List ℕ)) (behind : List ℕ) → c ≡ 44 → AreFields xs left behind
      → GoesOn (λ after. AreFields after left behind) left (c ∷ xs) behind
  goes_on [] behind e f = absurd f
  goes_on (g ∷ gs) behind e f = (xs, ap (λ b. b ∷ xs) e, f)

  more_in_field : (fields : List (List ℕ)) (field : List ℕ) (p : Read) → InField fields (field ++ c ∷ []) xs p
      → ends_field c ≡ false → InField fields field (c ∷ xs) p
  more_in_field fields field p r within = record {
    more = c ∷ r.more;
    rest = r.rest;
    split = ap (λ l. c ∷ l) r.split;
    within = (within, r.within);
    behind = subst (λ f. Ended fields f r.rest p) (append_assoc field (c ∷ []) r.more) r.behind;
  }

  in_field_more : (fields : List (List ℕ)) (field : List ℕ) (p : Read) → Byte c
      → next_record default_config st.InField fields field (c ∷ xs) ≡ Some p → InField fields field (c ∷ xs) p
  in_field_more fields field p (ends_it e is ended) h =
      let s = later.starts (fields ++ field ∷ []) p
      (sym (goes_step st.InField st.StartField act.EndField c xs fields field is refl) ∙ h) in
      record {
        more = [];
        rest = c ∷ xs;
        split = refl;
        within = tt;
        behind = record {
          left = s.left;
          all = s.all ∙ append_assoc fields (field ∷ []) s.left
              ∙ ap (λ f. fields ++ (f ∷ s.left)) (sym (append-nil field));
          goes = goes_on s.left p.2 e s.fields_left;
          ended = ended;
          fresh = s.fresh;
        };
      }
  in_field_more fields field p (ends_all s is fresh line ended) h =
      let q : Some (fields ++ field ∷ [], s, xs) ≡ Some p =
      sym (ends_step st.InField s act.EndRecord c xs fields field is refl) ∙ h in
      let e : (fields ++ field ∷ [], s, xs) ≡ p = cc in
      subst (InField fields field (c ∷ xs)) e (record {
        more = [];
        rest = c ∷ xs;
        split = refl;
        within = tt;
        behind = record {
          left = [];
          all = ap (λ f. fields ++ (f ∷ [])) (sym (append-nil field));
          goes = (line, refl);
          ended = ended;
          fresh = fresh;
        };
      })
  in_field_more fields field p (joins is within) h =
      more_in_field fields field p
      (later.in_field fields (field ++ c ∷ []) p
      (sym (goes_step st.InField st.InField act.Copy c xs fields field is refl) ∙ h)) within

  -- a quote between quotes is doubled
  quote_more : (fields : List (List ℕ)) (field : List ℕ) (p : Read) (rest : List ℕ) → c ≡ quote → xs ≡ quote ∷ rest
      → InQuotes fields (field ++ quote ∷ []) rest p → InQuotes fields field (c ∷ xs) p
  quote_more fields field p rest e is (closes between more behind split unquoted within ended) =
      closes (quote ∷ between) more behind
      (ap (λ b. b ∷ xs) e ∙ ap (λ l. quote ∷ l) is ∙ ap (λ l. quote ∷ quote ∷ l) split) unquoted within
      (subst (λ f. Ended fields f behind p) (append_assoc field (quote ∷ []) (between ++ more)) ended)
  quote_more fields field p rest e is (stays between split all last fresh) =
      stays (quote ∷ between) (ap (λ b. b ∷ xs) e ∙ ap (λ l. quote ∷ l) is ∙ ap (λ l. quote ∷ quote ∷ l) split)
      (all ∙ ap (λ f. fields ++ (f ∷ [])) (append_assoc field (quote ∷ []) between)) last fresh

  -- another byte stands for itself
  other_more : (fields : List (List ℕ)) (field : List ℕ) (p : Read) → (c == 34) ≡ false
      → InQuotes fields (field ++ c ∷ []) xs p → InQuotes fields field (c ∷ xs) p
  other_more fields field p e (closes between more behind split unquoted within ended) =
      closes (c ∷ between) more behind (rw e (ap (λ l. c ∷ l) split)) unquoted within
      (subst (λ f. Ended fields f behind p) (append_assoc field (c ∷ []) (between ++ more)) ended)
  other_more fields field p e (stays between split all last fresh) =
      stays (c ∷ between) (rw e (ap (λ l. c ∷ l) split))
      (all ∙ ap (λ f. fields ++ (f ∷ [])) (append_assoc field (c ∷ []) between)) last fresh

  quote_closes : (fields : List (List ℕ)) (field : List ℕ) (p : Read) → c ≡ quote → BehindQuote fields field xs p
      → InQuotes fields field (c ∷ xs) p
  quote_closes fields field p e (closed unquoted r) =
      closes [] r.more r.rest (ap (λ b. b ∷ xs) e ∙ ap (λ l. quote ∷ l) r.split)
      (subst IsUnquoted r.split unquoted) r.within r.behind
  quote_closes fields field p e (again rest is r) = quote_more fields field p rest e is r

  in_quotes_more : (fields : List (List ℕ)) (field : List ℕ) (p : Read)
      → next_record default_config st.InQuoted fields field (c ∷ xs) ≡ Some p → InQuotes fields field (c ∷ xs) p
  in_quotes_more fields field p h = elim (cases_Bool (c == 34)) [
    | inl e ↦ quote_closes fields field p (eqb-true c 34 e) (later.behind_quote fields field p
        (sym (goes_step st.InQuoted st.AfterQuote act.Skip c xs fields field (rw e refl) refl) ∙ h))
    | inr e ↦ other_more fields field p e (later.in_quotes fields (field ++ c ∷ []) p
        (sym (goes_step st.InQuoted st.InQuoted act.Copy c xs fields field (rw e refl) refl) ∙ h))
  ]

  behind_quote_more : (fields : List (List ℕ)) (field : List ℕ) (p : Read)
      → next_record default_config st.AfterQuote fields field (c ∷ xs) ≡ Some p → BehindQuote fields field (c ∷ xs) p
  behind_quote_more fields field p h = elim (cases_Bool (c == 34)) [
    | inl e ↦ again xs (ap (λ b. b ∷ xs) (eqb-true c 34 e))
        (subst (λ b. InQuotes fields (field ++ b ∷ []) xs p) (eqb-true c 34 e)
        (later.in_quotes fields (field ++ c ∷ []) p
        (sym (goes_step st.AfterQuote st.InQuoted act.Copy c xs fields field (rw e refl) refl) ∙ h)))
    | inr e ↦ closed e
        (in_field_more fields field p (byte c)
        (sym (same_step st.AfterQuote st.InField c xs fields field (rw e refl)) ∙ h))
  ]

  -- ---- the first byte of a field
  plain_start : (fields : List (List ℕ)) (p : Read) → (c == 34) ≡ false → InField fields [] (c ∷ xs) p
      → Starts fields (c ∷ xs) p
  plain_start fields p e r = record {
    left = r.more ∷ r.behind.left;
    all = r.behind.all;
    fields_left = (
      r.rest,
      inl (record { split = r.split; unquoted = e; within = r.within; ended = r.behind.ended }),
      r.behind.goes,
    );
    fresh = r.behind.fresh;
  }

  quoted_start : (fields : List (List ℕ)) (p : Read) → c ≡ quote → InQuotes fields [] xs p → Starts fields (c ∷ xs) p
  quoted_start fields p e (closes between more rest split unquoted within ended) = record {
    left = (between ++ more) ∷ ended.left;
    all = ended.all;
    fields_left = (
      rest,
      inr (inl (record {
        between = between;
        more = more;
        split = ap (λ b. b ∷ xs) e ∙ ap (λ l. quote ∷ l) split;
        field_is = refl;
        closed = unquoted;
        within = within;
        ended = ended.ended;
      })),
      ended.goes,
    );
    fresh = ended.fresh;
  }
  quoted_start fields p e (stays between split all last fresh) = record {
    left = between ∷ [];
    all = all;
    fields_left =
        ([], inr (inr (record { split = ap (λ b. b ∷ xs) e ∙ ap (λ l. quote ∷ l) split; last = refl })), last);
    fresh = fresh;
  }

  starts_more : (fields : List (List ℕ)) (p : Read)
      → next_record default_config st.StartField fields [] (c ∷ xs) ≡ Some p → Starts fields (c ∷ xs) p
  starts_more fields p h = elim (cases_Bool (c == 34)) [
    | inl e ↦ quoted_start fields p (eqb-true c 34 e) (later.in_quotes fields [] p
        (sym (goes_step st.StartField st.InQuoted act.Skip c xs fields [] (rw e refl) refl) ∙ h))
    | inr e ↦ plain_start fields p e
        (in_field_more fields [] p (byte c) (sym (same_step st.StartField st.InField c xs fields [] (rw e refl)) ∙ h))
  ]

  reads_more : Reads (c ∷ xs)
  reads_more = record {
    in_field = λ fields field p h. in_field_more fields field p (byte c) h;
    starts = starts_more;
    in_quotes = in_quotes_more;
    behind_quote = behind_quote_more;
  }

pub reads : (xs : List ℕ) → Reads xs
reads [] = reads_nothing
reads (c ∷ xs) = reads_more c xs (reads xs)
