-- The text of a certificate breaks no rule, and is the text of one certificate alone.
use Rattle.std.proofs.Common.{◌≡◌, ◌≢◌, ℕ, ◌-◌, ◌^◌, ◌≤◌, List, [], ◌∷◌, ◌++◌, length, arith, refl, ap, sym, ◌∙◌, subst, inl, inr, append-nil, append_assoc, length-append}
use Rattle.std.specs.Prelude.{codes, pos}
use Rattle.rob_algebra.specs.Fraction.{Fraction, den_pos}
use Rattle.rob_algebra.specs.Width.{Fits}
use Rattle.rob_algebra.proofs.WidthLaws.{Fits-of_int}
use Rattle.rob_meaning.proofs.Naming.NamedFormLemmas.{distinct_columns, distinct_forms}
use Rattle.rob_meaning.proofs.Naming.NamedSetLemmas.{distinct_set_rows}
use Rattle.rob_meaning.proofs.Naming.DeclaredLemmas.{parameters_distinct}
use Rattle.rob_meaning.proofs.Lists.DistinctLemmas.{distinct_left}
use Rattle.rob_meaning.proofs.Lists.EachLemmas.{each_append}
use Rattle.rob_meaning.specs.Certificates.{Status, Certificate}
use Rattle.rob_meaning.specs.Named.{AreDistinct, IsNamed}
use Rattle.rob_meaning.specs.Names.{Name, column_names}
use Rattle.rob_meaning.specs.Places.{0ℚ, Each}
use Rattle.rob_meaning.specs.RobustModel.{RobustModel}
use Rattle.rob_meaning.specs.WellFormed.{IsModel}
use Rattle.rob_cert.specs.Apart.{IsWord, IsNamedInWords, FitsLines}
use Rattle.rob_cert.specs.Causes.{HasCause}
use Rattle.rob_cert.specs.declared.error.CertErr.TheVariants.{Rule}
use Rattle.rob_cert.specs.declared.error.Offence.{Offence}
use Rattle.rob_cert.specs.declared.error.Offence.TheVariants.{NoLine, NoShape, NoNumber}
use Rattle.rob_cert.specs.declared.kind.Vector.TheVariants.{Inside, Plan, Move, At}
use Rattle.rob_cert.specs.Lines.{Line, status_line, value_line, scale_line, entry_line, cover_line, item_line, end_line, lines_of}
use Rattle.rob_cert.specs.Kinds as kinds
use Rattle.rob_cert.specs.Reading.{BeginsWithLine, words_in, Stage, start, behind, MayStand, Follows, FitsLine, IsNotZero, IsNotZeroWord, IsPlaced, IsLineAt, IsCause, Leads, BreaksFrom, advanced}
use Rattle.rob_cert.specs.Kinds.{kind_of, ends}
use Rattle.rob_cert.specs.Spelling.{Naming, naming_of, entry_names, number_text, words_of, spelled, line_text, lines_text}
use Rattle.rob_cert.specs.Whole.{IsTextOf}
use Rattle.rob_cert.proofs.OneText.ApartLemmas.{TellsApart, number_same, line_of, begins_with, line_has_words, lines_once, leads_same}
use Rattle.rob_cert.proofs.Readers.EntryLemmas.{one_line, zero_text}
use Rattle.rob_cert.proofs.Words.KindLemmas.{kind_of-spelled}
use Rattle.rob_cert.proofs.Writing.LeadLemmas.{cert_leads}
use Rattle.rob_cert.proofs.Words.NameWords.{letters, words_of_parameters, words_of_columns, words_of_forms, words_of_set_rows}
use Rattle.rob_cert.proofs.Writing.ShapeLemmas.{spaced_some}

-- ---- a model's names tell apart
pub model_tells_apart : (m : RobustModel) → IsModel m → IsNamed m → IsNamedInWords m → TellsApart (naming_of m)
model_tells_apart m model named words =
    let tau : Each IsWord (codes "tau" ∷ []) = (letters (codes "tau") refl, tt) in
    record {
      distinct_entries = λ v. elim v as (λ u. AreDistinct (entry_names (naming_of m) u)) [
        | Inside ↦ parameters_distinct m model named
        | Plan ↦ distinct_left (column_names m) (codes "tau" ∷ []) (distinct_columns m model named)
        | Move ↦ distinct_columns m model named
        | At ↦ parameters_distinct m model named
      ];
      distinct_forms = distinct_forms m model named;
      distinct_set_rows = distinct_set_rows m model named;
      words_of_entries = λ v. elim v as (λ u. Each IsWord (entry_names (naming_of m) u)) [
        | Inside ↦ words_of_parameters m model words
        | Plan ↦ words_of_columns m model words
        | Move ↦ each_append IsWord (column_names m) (codes "tau" ∷ []) (words_of_columns m model words) tau
        | At ↦ words_of_parameters m model words
      ];
      words_of_forms = words_of_forms m model words;
      words_of_set_rows = words_of_set_rows m model words (omega (arith, named.few));
    }

-- ---- the words of a line that may stand at a stage
pub line_at : (names : Naming) (stage : Stage) (line : Line Name) → MayStand stage (kind_of line)
    → IsLineAt stage (words_of names line)
line_at names start (status_line s) h = (s, refl)
line_at names start (value_line a) h = absurd h
line_at names start (scale_line a) h = absurd h
line_at names start (entry_line v k a) h = absurd h
line_at names start (cover_line which i r a) h = absurd h
line_at names start (item_line i w b) h = absurd h
line_at names start end_line h = absurd h
line_at names (behind s last form place) (status_line t) h =
    (_, h, record { arguments = _; spelled = refl; count = refl })
line_at names (behind s last form place) (value_line a) h =
    (_, h, record { arguments = _; spelled = refl; count = refl })
line_at names (behind s last form place) (scale_line a) h =
    (_, h, record { arguments = _; spelled = refl; count = refl })
line_at names (behind s last form place) (entry_line v k a) h =
    (kinds.entries v, h, record { arguments = _; spelled = refl; count = refl })
line_at names (behind s last form place) (cover_line which i r a) h =
    (kinds.multipliers which, h, record { arguments = _; spelled = refl; count = refl })
line_at names (behind s last form place) (item_line i w b) h =
    (_, h, record { arguments = _; spelled = refl; count = refl })
line_at names (behind s last form place) end_line h = (_, h, record { arguments = _; spelled = refl; count = refl })

module _ (names : Naming) (apart : TellsApart names) (limit : ℕ) (low : limit ≤ 2 ^ 62 - 1) where
  -- ---- a line that may stand at a stage has no offence there
  word_not_zero : (q : Fraction) → Fits limit q → q ≢ 0ℚ → IsNotZeroWord (number_text q)
  word_not_zero q f ne e =
      ne (number_same limit low q 0ℚ f
      (Fits-of_int limit (pos 0) (omega (arith, f.den_fits, den_pos q)) (omega arith)) (e ∙ sym zero_text))

  placed_word : (stage : Stage) (line : Line Fraction) → FitsLine names limit line
      → IsPlaced names limit IsNotZero stage line → IsPlaced names limit IsNotZeroWord stage (spelled line)
  placed_word start line f p = tt
  placed_word (behind s last form place) (status_line t) f p = tt
  placed_word (behind s last form place) (value_line q) f p = tt
  placed_word (behind s last form place) (scale_line q) f p = tt
  placed_word (behind s last form place) (entry_line v k q) f p = (p.0, p.1, word_not_zero q f p.2)
  placed_word (behind s last form place) (cover_line which i r q) f p = (p.0, p.1, p.2, word_not_zero q f p.3)
  placed_word (behind s last form place) (item_line i w b) f p = p
  placed_word (behind s last form place) end_line f p = tt

  -- a text that goes on with a line that may stand there breaks no rule there
  pub no_offence : (stage : Stage) (line : Line Fraction) (rest back : List ℕ) (o : Offence)
      → Follows names limit IsNotZero stage line → FitsLine names limit line → rest ≡ line_text names line ++ back
      → IsCause names limit stage rest o → ⊥
  no_offence stage line rest back o follows fits is cause = by o cause
    where
      begins : BeginsWithLine rest (line_of (words_of names (spelled line))) back
      begins = subst (λ t. BeginsWithLine t (line_of (words_of names (spelled line))) back) (sym is)
          (begins_with names apart limit low line back fits)

      words : words_in (line_of (words_of names (spelled line))) ≡ words_of names (spelled line)
      words = line_has_words names apart limit low line fits

      shaped : Follows names limit IsNotZeroWord stage (spelled line)
      shaped = record {
        kind = subst (MayStand stage) (sym (kind_of-spelled line)) follows.kind;
        placed = placed_word stage line fits follows.placed;
      }

      by : (o : Offence) → IsCause names limit stage rest o → ⊥
      by NoLine h =
          h (line_of (words_of names (spelled line))) back begins
          (subst (IsLineAt stage) (sym words) (line_at names stage (spelled line) shaped.kind))
      by NoShape (other, after, b, there, none) =
          let same = one_line rest (line_of (words_of names (spelled line))) back other after begins b in
          none (spelled line, sym words ∙ ap words_in same.0, shaped)
      by NoNumber (other, after, b, there, none) =
          let same = one_line rest (line_of (words_of names (spelled line))) back other after begins b in
          none (line, sym words ∙ ap words_in same.0, follows, fits)

  -- ---- lines that lead to the end break no rule
  pub leads_split : (stage : Stage) (xs ys : List (Line Fraction)) (b : Stage) → Leads names limit stage (xs ++ ys) b
      → (c : Stage) × Leads names limit stage xs c × Leads names limit c ys b
  leads_split stage [] ys b h = (stage, refl, h)
  leads_split stage (x ∷ xs) ys b h =
      let (c, k, l) = leads_split (advanced stage x) xs ys b h.2 in (c, (h.0, h.1, k), l)

  no_text : (x : Line Fraction) (xs : List (Line Fraction)) (rest : List ℕ) → [] ≡ lines_text names (x ∷ xs) ++ rest → ⊥
  no_text x xs rest e = omega (
    arith,
    ap length e,
    length-append (lines_text names (x ∷ xs)) rest,
    length-append (line_text names x) (lines_text names xs),
    spaced_some (words_of names (spelled x)),
  )

  no_breach : (s : Status) (ls : List (Line Fraction)) (text : List ℕ) (o : Offence) (n : ℕ)
      → text ≡ lines_text names ls → Leads names limit start ls (behind s ends 0 0)
      → BreaksFrom names limit start text 1 o n → ⊥
  no_breach s ls text o n is leads b =
      elim (lines_once names apart limit low start b.before ls b.stage (behind s ends 0 0) b.rest [] b.good leads
      (sym b.split ∙ is ∙ sym (append-nil (lines_text names ls)))) [
        | inl g ↦ further g.0 g.1 g.2
        | inr g ↦ shorter g.0 g.1 g.2
      ]
    where
      at_end : (rest : List ℕ) → b.rest ≡ [] → ls ≡ b.before → ⊥
      at_end rest none same =
          b.more s 0 0
          (leads_same names apart limit low start b.before b.stage (behind s ends 0 0) b.good
          (subst (λ l. Leads names limit start l (behind s ends 0 0)) same leads)) none

      further : (more : List (Line Fraction)) → ls ≡ b.before ++ more → b.rest ≡ lines_text names more ++ [] → ⊥
      further [] same rest = at_end b.rest rest (same ∙ append-nil b.before)
      further (x ∷ more) same rest =
          let (c, h, k) =
          leads_split start b.before (x ∷ more) (behind s ends 0 0)
          (subst (λ l. Leads names limit start l (behind s ends 0 0)) same leads) in
          let at = leads_same names apart limit low start b.before c b.stage h b.good in
          no_offence b.stage x b.rest (lines_text names more ++ []) o
          (subst (λ st. Follows names limit IsNotZero st x) at k.0) k.1
          (rest ∙ append_assoc (line_text names x) (lines_text names more) []) b.cause

      shorter : (more : List (Line Fraction)) → b.before ≡ ls ++ more → [] ≡ lines_text names more ++ b.rest → ⊥
      shorter [] same rest = at_end b.rest (sym rest) (sym (same ∙ append-nil ls))
      shorter (x ∷ more) same rest = no_text x more b.rest rest

  -- two lists of lines with one text, each leading to the end, are one
  pub lines_same : (s t : Status) (xs ys : List (Line Fraction)) → Leads names limit start xs (behind s ends 0 0)
      → Leads names limit start ys (behind t ends 0 0) → lines_text names xs ≡ lines_text names ys → xs ≡ ys
  lines_same s t xs ys h k e =
      elim (lines_once names apart limit low start xs ys (behind s ends 0 0) (behind t ends 0 0) [] [] h k
      (ap (λ l. l ++ []) e)) [
        | inl g ↦ sym (only g.0 xs ys g.1 g.2)
        | inr g ↦ only g.0 ys xs g.1 g.2
      ]
    where
      only : (more us vs : List (Line Fraction)) → vs ≡ us ++ more → [] ≡ lines_text names more ++ [] → vs ≡ us
      only [] us vs is none = is ∙ append-nil us
      only (x ∷ more) us vs is none = absurd (no_text x more [] none)

-- the text of a certificate in its shape breaks no rule
pub breaks_none : (m : RobustModel) (limit : ℕ) (c : Certificate) (text : List ℕ) → IsModel m → IsNamed m
    → IsNamedInWords m → limit ≤ 2 ^ 62 - 1 → IsTextOf m c text → FitsLines limit m c → (rule line : ℕ)
    → HasCause (naming_of m) limit start text 1 (Rule rule line) → ⊥
breaks_none m limit c text model named words low is fits rule line (o, r, b) =
    no_breach (naming_of m) (model_tells_apart m model named words) limit low c.status (lines_of c) text o line
    is.spelled (cert_leads m limit c is.shape fits) b
