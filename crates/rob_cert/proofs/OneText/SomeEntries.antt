-- The entries of a vector stand at the front of any text, up to the first line of another kind, or one of them has an
-- offence.
use Rattle.std.proofs.Common.{◌≡◌, ◌≢◌, ℕ, zero, suc, ◌+◌, ◌<◌, ◌≤◌, List, [], ◌∷◌, length, get_or, set, arith, refl, ap, sym, ◌∙◌, inl, inr}
use Rattle.std.specs.Prelude.{◌⊎◌, codes}
use Rattle.rob_algebra.specs.Fraction.{Fraction}
use Rattle.rob_algebra.specs.Width.{Fits}
use Rattle.rob_meaning.specs.Certificates.{Status}
use Rattle.rob_meaning.specs.Names.{Name}
use Rattle.rob_meaning.specs.Places.{0ℚ}
use Rattle.rob_cert.specs.Causes.{HasCause, rule_of}
use Rattle.rob_cert.specs.declared.error.CertErr.TheVariants.{Rule}
use Rattle.rob_cert.specs.declared.error.Offence.{Offence}
use Rattle.rob_cert.specs.declared.error.Offence.TheVariants.{NoLine, NoShape, NoNumber}
use Rattle.rob_cert.specs.declared.kind.Vector.{Vector}
use Rattle.rob_cert.specs.Kinds.{entries}
use Rattle.rob_cert.specs.Reading.{BeginsWithLine, words_in, Stage}
use Rattle.rob_cert.specs.ReaderLines.{StandsAt}
use Rattle.rob_cert.specs.Entries.{IsEntry, HasEntryFault, AreEntries, IsZeroVector}
use Rattle.rob_cert.specs.Spelling.{Naming, entry_names, name_at, number_text, vector_word}
use Rattle.rob_cert.proofs.Readers.CauseLemmas.{entries_fault}
use Rattle.rob_cert.proofs.OneText.Decisions.{Decided, same_number, same_word, next_line, two_words, nth, some_name, Spells, some_number}
use Rattle.rob_cert.proofs.Readers.EntryLemmas.{zero_text}
use Rattle.rob_cert.proofs.Readers.SectionLemmas.{shorter, EntriesSoFar, entries_start, entries_more}

-- ---- vectors of zeros
zeros : ℕ → List Fraction
zeros zero = []
zeros (suc n) = 0ℚ ∷ zeros n

are_zeros : (n : ℕ) → IsZeroVector n (zeros n)
unfolding zeros
are_zeros zero = record { size = refl; zero_at = λ k. refl }
are_zeros (suc n) = let rest = are_zeros n in
    record {
      size = ap suc rest.size;
      zero_at = λ k. elim k as (λ j. get_or (0ℚ ∷ zeros n) j 0ℚ ≡ 0ℚ) [
        | zero ↦ refl
        | suc j ↦ rest.zero_at j
      ];
    }

-- a word that is not 0 spells no 0
pub spells_other : (limit : ℕ) (word : Name) (q : Fraction) → word ≢ codes "0" → Spells limit word q → q ≢ 0ℚ
spells_other limit word q ne h e = ne (h.1 ∙ ap number_text e ∙ zero_text)

-- the words behind the first, where there are so many words
pub count_more : (words more : List Name) (word : Name) (n : ℕ) → words ≡ word ∷ more
    → length words ≡ suc n → length more ≡ n
count_more words more word n is e = let k : suc (length more) ≡ suc n = sym (ap length is) ∙ e in omega arith

-- ---- entries
module _ (names : Naming) (limit : ℕ) (v : Vector) where
  -- a line of the kind is an entry, or has an offence
  abbrev Entry : ℕ → List Name → Type 0
  Entry least words =
      ((k : ℕ) × (q : Fraction) × Fits limit q × IsEntry names limit v least words k q)
      ⊎ ((o : Offence) × HasEntryFault names limit v least words o)

  entry_number : (least k : ℕ) (words : List Name) (name word : Name) → words ≡ vector_word v ∷ (name ∷ (word ∷ []))
      → k < length (entry_names names v) → least ≤ k → name_at (entry_names names v) k ≡ name
      → word ≢ codes "0" → Decided ((q : Fraction) × Spells limit word q) → Entry least words
  entry_number least k words name word is named ordered here ne (inl (q, s)) =
      inl (
        k,
        q,
        s.0,
        record {
          is = is ∙ ap (λ n. vector_word v ∷ (n ∷ (word ∷ []))) (sym here)
              ∙ ap (λ w. vector_word v ∷ (name_at (entry_names names v) k ∷ (w ∷ []))) s.1;
          ordered = ordered;
          named = named;
          not_zero = spells_other limit word q ne s;
        },
      )
  entry_number least k words name word is named ordered here ne (inr none) = inr (
    NoNumber,
    (
      k,
      word,
      record {
        is = is ∙ ap (λ n. vector_word v ∷ (n ∷ (word ∷ []))) (sym here);
        ordered = ordered;
        named = named;
        not_zero = ne;
      },
      λ q f j e. none (q, (f, ap (nth 2) (sym is ∙ e))),
    ),
  )

  entry_place : (least : ℕ) (words : List Name) (name word : Name) → words ≡ vector_word v ∷ (name ∷ (word ∷ []))
      → Decided ((k : ℕ) × (k < length (entry_names names v))
      × ((least ≤ k) × (name_at (entry_names names v) k ≡ name))) → Decided (word ≡ codes "0") → Entry least words
  entry_place least words name word is (inl (k, named, h)) (inl nothing) =
      inr (NoShape, (ap length is, λ j w s. s.not_zero (ap (nth 2) (sym s.is ∙ is) ∙ nothing)))
  entry_place least words name word is (inl (k, named, h)) (inr ne) =
      entry_number least k words name word is named h.0 h.1 ne (some_number limit word)
  entry_place least words name word is (inr none) zero_word =
      inr (NoShape, (ap length is, λ k w s. none (k, s.named, (s.ordered, ap (nth 1) (sym s.is ∙ is)))))

  some_entry : (least : ℕ) (words more : List Name) → words ≡ vector_word v ∷ more → Entry least words
  some_entry least words more is = by (same_number (length words) 3)
    where
      by : Decided (length words ≡ 3) → Entry least words
      by (inr ne) = inr (NoLine, ne)
      by (inl e) =
          let (name, word, are) = two_words more (count_more words more (vector_word v) 2 is e) in
          entry_place least words name word (is ∙ ap (λ l. vector_word v ∷ l) are)
          (some_name (entry_names names v) least name) (same_word word (codes "0"))

  -- the entries of a vector are at the front of the text, or one of them has an offence
  abbrev pub Entries : List ℕ → ℕ → Type 0
  Entries text number =
      ((qs : List Fraction) × (rest : List ℕ) × (line : ℕ) × (length rest ≤ length text)
      × AreEntries names limit v (length (entry_names names v)) text number qs rest line)
      ⊎ ((rule : ℕ) × (line : ℕ)
      × ((s : Status) (form : ℕ) (stage : Stage) → StandsAt s (entries v) form 0 stage
      → HasCause names limit stage text number (Rule rule line)))

  entries_on : (text : List ℕ) (number n : ℕ) (qs : List Fraction) (least : ℕ) (rest : List ℕ) (line : ℕ)
      → length rest < n → length rest ≤ length text
      → EntriesSoFar names limit v text number (length (entry_names names v)) qs least rest line → Entries text number
  entries_on text number zero qs least rest line l m so = absurd (omega arith)
  entries_on text number (suc n) qs least rest line l m so = elim (next_line (vector_word v) rest) [
    | inl g ↦ (let (front, back, more, begins, words) = g in
        by (entries_on text number n) front back more begins words (some_entry least (words_in front) more words))
    | inr none ↦
        inl (
          qs,
          rest,
          line,
          m,
          record {
            size = so.size;
            section = so.section;
            least = least;
            leads = so.leads;
            stopped = none;
          },
        )
  ]
    where
      by : ((ps : List Fraction) (low : ℕ) (tail : List ℕ) (at : ℕ) → length tail < n → length tail ≤ length text
          → EntriesSoFar names limit v text number (length (entry_names names v)) ps low tail at
          → Entries text number)
          → (front back : List ℕ) (more : List Name) → BeginsWithLine rest front back
          → words_in front ≡ vector_word v ∷ more → Entry least (words_in front) → Entries text number
      by again front back more begins words (inl (k, q, f, e)) =
          let short = shorter rest front back begins in
          again (set qs k q) (k + 1) back (line + 1) (omega (arith, short)) (omega (arith, short))
          (entries_more names limit v text number (length (entry_names names v)) qs least rest line front
          back k q so refl begins e f)
      by again front back more begins words (inr (o, fault)) =
          inr (
            rule_of o,
            line,
            λ s form stage h. (
              o,
              refl,
              entries_fault names limit v text number (length (entry_names names v)) qs least rest line
                  front back more o so begins words fault s form stage h,
            ),
          )

  pub some_entries : (text : List ℕ) (number : ℕ) → Entries text number
  some_entries text number =
      let none = are_zeros (length (entry_names names v)) in
      entries_on text number (suc (length text)) (zeros (length (entry_names names v))) 0 text number
      (omega arith) (omega arith)
      (entries_start names limit v text number (length (entry_names names v))
      (zeros (length (entry_names names v))) none.size none.zero_at)
