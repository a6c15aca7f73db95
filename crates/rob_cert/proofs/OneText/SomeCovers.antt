-- Covers stand at the front of any text, up to the first line of another kind, or one of them has an offence.
use Rattle.std.proofs.Common.{◌≡◌, ◌≢◌, ℕ, zero, suc, ◌+◌, ◌<◌, List, [], ◌∷◌, ◌++◌, length, arith, refl, ap, sym, ◌∙◌, inl, inr}
use Rattle.std.specs.Prelude.{◌⊎◌, codes}
use Rattle.rob_algebra.specs.Fraction.{Fraction}
use Rattle.rob_algebra.specs.Width.{Fits}
use Rattle.rob_meaning.specs.Certificates.{Status, Cover}
use Rattle.rob_meaning.specs.Names.{Name}
use Rattle.rob_cert.specs.Causes.{HasCause, rule_of}
use Rattle.rob_cert.specs.declared.error.CertErr.TheVariants.{Rule}
use Rattle.rob_cert.specs.declared.error.Offence.{Offence}
use Rattle.rob_cert.specs.declared.error.Offence.TheVariants.{NoLine, NoShape, NoNumber}
use Rattle.rob_cert.specs.declared.kind.Multipliers.{Multipliers}
use Rattle.rob_cert.specs.Kinds.{multipliers}
use Rattle.rob_cert.specs.Reading.{BeginsWithLine, words_in, Stage}
use Rattle.rob_cert.specs.ReaderLines.{StandsBehind}
use Rattle.rob_cert.specs.Covers.{IsCoverLine, HasCoverFault, IsPair, AreCovers}
use Rattle.rob_cert.specs.Spelling.{Naming, multipliers_word, name_at}
use Rattle.rob_cert.proofs.Readers.CoverLemmas.{CoversSoFar, covers_start, covers_more, covers_fault}
use Rattle.rob_cert.proofs.OneText.Decisions.{Decided, same_number, same_word, next_line, three_words, nth, some_pair, Spells, some_number}
use Rattle.rob_cert.proofs.Readers.SectionLemmas.{shorter}
use Rattle.rob_cert.proofs.OneText.SomeEntries.{count_more, spells_other}

module _ (names : Naming) (limit : ℕ) (which : Multipliers) where
  -- a line of the kind is a cover, or has an offence
  abbrev CoverLine : (form place : ℕ) → List Name → Type 0
  CoverLine form place words =
      ((c : Cover) × Fits limit c.amount × IsCoverLine names limit which form place words c.form c.set_row c.amount)
      ⊎ ((o : Offence) × HasCoverFault names limit which form place words o)

  cover_number : (form place i r : ℕ) (words : List Name) (form_name row_name word : Name)
      → words ≡ multipliers_word which ∷ (form_name ∷ (row_name ∷ (word ∷ [])))
      → IsPair names form place form_name row_name i r
      → word ≢ codes "0" → Decided ((q : Fraction) × Spells limit word q) → CoverLine form place words
  cover_number form place i r words form_name row_name word is pair ne (inl (q, s)) = inl (
    record { form = i; set_row = r; amount = q },
    s.0,
    record {
      is = is ∙ ap (λ n. multipliers_word which ∷ (n ∷ (row_name ∷ (word ∷ [])))) (sym pair.form_is)
          ∙ ap (λ n. multipliers_word which ∷ (name_at names.forms i ∷ (n ∷ (word ∷ [])))) (sym pair.row_is)
          ∙ ap (λ w. multipliers_word which ∷ (name_at names.forms i ∷ (name_at names.set_rows r ∷ (w ∷ [])))) s.1;
      ordered = pair.ordered;
      form_named = pair.form_named;
      row_named = pair.row_named;
      not_zero = spells_other limit word q ne s;
    },
  )
  cover_number form place i r words form_name row_name word is pair ne (inr none) = inr (
    NoNumber,
    (
      i,
      r,
      word,
      record {
        is = is ∙ ap (λ n. multipliers_word which ∷ (n ∷ (row_name ∷ (word ∷ [])))) (sym pair.form_is)
            ∙ ap (λ n. multipliers_word which ∷ (name_at names.forms i ∷ (n ∷ (word ∷ [])))) (sym pair.row_is);
        ordered = pair.ordered;
        form_named = pair.form_named;
        row_named = pair.row_named;
        not_zero = ne;
      },
      λ q f j k e. none (q, (f, ap (nth 3) (sym is ∙ e))),
    ),
  )

  cover_place : (form place : ℕ) (words : List Name) (form_name row_name word : Name)
      → words ≡ multipliers_word which ∷ (form_name ∷ (row_name ∷ (word ∷ [])))
      → Decided ((i : ℕ) × (r : ℕ) × IsPair names form place form_name row_name i r) → Decided (word ≡ codes "0")
      → CoverLine form place words
  cover_place form place words form_name row_name word is (inl (i, r, pair)) (inl nothing) =
      inr (NoShape, (ap length is, λ j k w s. s.not_zero (ap (nth 3) (sym s.is ∙ is) ∙ nothing)))
  cover_place form place words form_name row_name word is (inl (i, r, pair)) (inr ne) =
      cover_number form place i r words form_name row_name word is pair ne (some_number limit word)
  cover_place form place words form_name row_name word is (inr none) zero_word = inr (
    NoShape,
    (
      ap length is,
      λ i r w s. none (
        i,
        r,
        record {
          ordered = s.ordered;
          form_named = s.form_named;
          row_named = s.row_named;
          form_is = ap (nth 1) (sym s.is ∙ is);
          row_is = ap (nth 2) (sym s.is ∙ is);
        },
      ),
    ),
  )

  some_cover : (form place : ℕ) (words more : List Name) → words ≡ multipliers_word which ∷ more
      → CoverLine form place words
  some_cover form place words more is = by (same_number (length words) 4)
    where
      by : Decided (length words ≡ 4) → CoverLine form place words
      by (inr ne) = inr (NoLine, ne)
      by (inl e) =
          let (form_name, row_name, word, are) =
          three_words more (count_more words more (multipliers_word which) 3 is e) in
          cover_place form place words form_name row_name word (is ∙ ap (λ l. multipliers_word which ∷ l) are)
          (some_pair names form place form_name row_name) (same_word word (codes "0"))

  -- covers are at the front of the text, or one of them has an offence
  abbrev pub CoverList : List ℕ → ℕ → Type 0
  CoverList text number =
      ((cs : List Cover) × (rest : List ℕ) × (line : ℕ) × AreCovers names limit which text number cs rest line)
      ⊎ ((rule : ℕ) × (line : ℕ)
      × ((s : Status) (stage : Stage) → StandsBehind s (multipliers which) 0 0 stage
      → HasCause names limit stage text number (Rule rule line)))

  covers_on : (text : List ℕ) (number n : ℕ) (cs : List Cover) (form place : ℕ) (rest : List ℕ) (line : ℕ)
      → length rest < n → CoversSoFar names limit which text number cs form place rest line → CoverList text number
  covers_on text number zero cs form place rest line l so = absurd (omega arith)
  covers_on text number (suc n) cs form place rest line l so = elim (next_line (multipliers_word which) rest) [
    | inl g ↦ (let (front, back, more, begins, words) = g in
        by (covers_on text number n) front back more begins words (some_cover form place (words_in front) more words))
    | inr none ↦
        inl (
          cs,
          rest,
          line,
          record {
            section = so.section;
            each = so.each;
            ordered = so.ordered;
            form = form;
            place = place;
            leads = so.leads;
            stopped = none;
          },
        )
  ]
    where
      by : ((ds : List Cover) (f p : ℕ) (tail : List ℕ) (at : ℕ) → length tail < n
          → CoversSoFar names limit which text number ds f p tail at → CoverList text number)
          → (front back : List ℕ) (more : List Name) → BeginsWithLine rest front back
          → words_in front ≡ multipliers_word which ∷ more
          → CoverLine form place (words_in front) → CoverList text number
      by again front back more begins words (inl (c, f, e)) =
          again (cs ++ c ∷ []) c.form (c.set_row + 1) back (line + 1) (omega (arith, shorter rest front back begins))
          (covers_more names limit which text number cs form place rest line front back c so begins e f)
      by again front back more begins words (inr (o, fault)) =
          inr (
            rule_of o,
            line,
            λ s stage h. (
              o,
              refl,
              covers_fault names limit which text number cs form place rest line front back more o so
                  begins words fault s stage h,
            ),
          )

  pub some_covers : (text : List ℕ) (number : ℕ) → CoverList text number
  some_covers text number =
      covers_on text number (suc (length text)) [] 0 0 text number (omega arith)
      (covers_start names limit which text number)
