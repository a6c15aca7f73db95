-- The lines of a leaf's certificate stand at the front of a text in one way,
-- and the text of a certificate is such lines.
use Rattle.std.proofs.Common.{◌≡◌, ◌≢◌, ℕ, ◌-◌, ◌^◌, ◌≤◌, List, [], ◌∷◌, ◌++◌, arith, refl, ap, sym, ◌∙◌, subst, append_assoc, append-nil}
use Rattle.std.proofs.lemmas.List.{append_cancel_left, append_cancel_right}
use Rattle.std.specs.Prelude.{codes}
use Rattle.rob_algebra.specs.Fraction.{Fraction}
use Rattle.rob_cert.proofs.OneText.ApartLemmas.{TellsApart, begins_with, line_has_words, line_of, spaced-line}
use Rattle.rob_cert.proofs.Readers.EntryLemmas.{no_line, one_line}
use Rattle.rob_cert.proofs.Writing.LeadLemmas.{cert_leads}
use Rattle.rob_cert.proofs.OneText.OneCertificate.{read_once}
use Rattle.rob_cert.proofs.OneText.SpellingLaws.{model_tells_apart}
use Rattle.rob_cert.specs.Apart.{FitsLines, IsNamedInWords}
use Rattle.rob_cert.specs.declared.kind.Multipliers.TheVariants.{Covers, Holds}
use Rattle.rob_cert.specs.declared.kind.Vector.TheVariants.{Inside, Plan, Move, At}
use Rattle.rob_cert.specs.Lines.{Line, status_line, value_line, scale_line, entry_line, cover_line, item_line, end_line, lines_of}
use Rattle.rob_cert.specs.Kinds.{ends}
use Rattle.rob_cert.specs.Reading.{BeginsWithLine, words_in, Stage, start, behind, advanced, Follows, IsNotZero, Leads}
use Rattle.rob_cert.specs.Shape.{HasShape}
use Rattle.rob_cert.specs.Spelling.{Naming, naming_of, words_of, spelled, line_text, lines_text}
use Rattle.rob_meaning.specs.Certificates.{Certificate, Status}
use Rattle.rob_meaning.specs.Named.{IsNamed}
use Rattle.rob_meaning.specs.Names.{Name}
use Rattle.rob_meaning.specs.RobustModel.{RobustModel}
use Rattle.rob_meaning.specs.WellFormed.{IsModel}
use Rattle.rob_tree.specs.Reading.{IsCertificatePart, of_end, of_line, of_rest}

-- the front of a text up to the next line `end` is one
pub part_once : (text part other : List ℕ) → IsCertificatePart text part → IsCertificatePart text other → part ≡ other
part_once text part other (of_end after b e) (of_end then c d) = e ∙ sym d
part_once text part other (of_end after b e) (of_line line then more c ne h d) =
    absurd (ne (one_line text line then (codes "end") after c b).0)
part_once text part other (of_end after b e) (of_rest none d) = absurd (no_line text (codes "end") after none b)
part_once text part other (of_line line after more b ne h e) (of_end then c d) =
    absurd (ne (one_line text line after (codes "end") then b c).0)
part_once text part other (of_line line after more b ne h e) (of_line front then rest c nf k d) =
    let same = one_line text line after front then b c in
    e ∙ ap (λ l. l ++ 10 ∷ more) same.0
    ∙ ap (λ t. front ++ 10 ∷ t) (part_once after more rest h (subst (λ t. IsCertificatePart t rest) (sym same.1) k))
    ∙ sym d
part_once text part other (of_line line after more b ne h e) (of_rest none d) = absurd (no_line text line after none b)
part_once text part other (of_rest none e) (of_end then c d) = absurd (no_line text (codes "end") then none c)
part_once text part other (of_rest none e) (of_line line then more c ne h d) = absurd (no_line text line then none c)
part_once text part other (of_rest none e) (of_rest also d) = e ∙ sym d

-- a line of one word is the word
word_line : (w : Name) → line_of (w ∷ []) ≡ w
word_line w = sym (append_cancel_right w (line_of (w ∷ [])) (10 ∷ []) (spaced-line (w ∷ [])))

-- the first letter of a line of words
abbrev pub first_letter : List Name → ℕ
first_letter [] = 0
first_letter ([] ∷ ws) = 0
first_letter ((b ∷ w) ∷ ws) = b

-- the stage isn't behind an end
abbrev IsOn : Stage → Type 0
IsOn stage = (s : Status) (form place : ℕ) → stage ≡ behind s ends form place → ⊥

-- a line is the end, or begins with another letter, and behind it a certificate is still on
pub data IsEndOr (names : Naming) (stage : Stage) (line : Line Fraction) : Type 0 where
  is_end : line ≡ end_line → IsEndOr names stage line
  is_other : (words_of names (spelled line) ≡ codes "end" ∷ [] → ⊥) → IsOn (advanced stage line)
      → IsEndOr names stage line

module _ (names : Naming) where
  other_word : (ws : List Name) (a : ℕ) → first_letter ws ≡ a → a ≢ 101 → ws ≡ codes "end" ∷ [] → ⊥
  other_word ws a is ne e = ne (sym is ∙ ap first_letter e)

  end_or : (stage : Stage) (line : Line Fraction) → IsOn stage → IsEndOr names stage line
  end_or start (status_line s) on = is_other (other_word _ 99 refl (λ e. omega (arith, e))) (λ t f p e. cc)
  end_or start (value_line q) on = is_other (other_word _ 118 refl (λ e. omega (arith, e))) on
  end_or start (scale_line q) on = is_other (other_word _ 115 refl (λ e. omega (arith, e))) on
  end_or start (entry_line Inside k q) on = is_other (other_word _ 105 refl (λ e. omega (arith, e))) on
  end_or start (entry_line Plan k q) on = is_other (other_word _ 112 refl (λ e. omega (arith, e))) on
  end_or start (entry_line Move k q) on = is_other (other_word _ 109 refl (λ e. omega (arith, e))) on
  end_or start (entry_line At k q) on = is_other (other_word _ 97 refl (λ e. omega (arith, e))) on
  end_or start (cover_line Covers i r q) on = is_other (other_word _ 99 refl (λ e. omega (arith, e))) on
  end_or start (cover_line Holds i r q) on = is_other (other_word _ 104 refl (λ e. omega (arith, e))) on
  end_or start (item_line i w b) on = is_other (other_word _ 105 refl (λ e. omega (arith, e))) on
  end_or start end_line on = is_end refl
  end_or (behind s last form place) (status_line t) on = is_other (other_word _ 99 refl (λ e. omega (arith, e))) on
  end_or (behind s last form place) (value_line q) on =
      is_other (other_word _ 118 refl (λ e. omega (arith, e))) (λ t f p e. cc)
  end_or (behind s last form place) (scale_line q) on =
      is_other (other_word _ 115 refl (λ e. omega (arith, e))) (λ t f p e. cc)
  end_or (behind s last form place) (entry_line Inside k q) on =
      is_other (other_word _ 105 refl (λ e. omega (arith, e))) (λ t f p e. cc)
  end_or (behind s last form place) (entry_line Plan k q) on =
      is_other (other_word _ 112 refl (λ e. omega (arith, e))) (λ t f p e. cc)
  end_or (behind s last form place) (entry_line Move k q) on =
      is_other (other_word _ 109 refl (λ e. omega (arith, e))) (λ t f p e. cc)
  end_or (behind s last form place) (entry_line At k q) on =
      is_other (other_word _ 97 refl (λ e. omega (arith, e))) (λ t f p e. cc)
  end_or (behind s last form place) (cover_line Covers i r q) on =
      is_other (other_word _ 99 refl (λ e. omega (arith, e))) (λ t f p e. cc)
  end_or (behind s last form place) (cover_line Holds i r q) on =
      is_other (other_word _ 104 refl (λ e. omega (arith, e))) (λ t f p e. cc)
  end_or (behind s last form place) (item_line i w b) on =
      is_other (other_word _ 105 refl (λ e. omega (arith, e))) (λ t f p e. cc)
  end_or (behind s last form place) end_line on = is_end refl

module _ (names : Naming) (apart : TellsApart names) (limit : ℕ) (low : limit ≤ 2 ^ 62 - 1) where
  -- nothing may stand behind the end
  nothing_behind : (s t : Status) (form place : ℕ) (ls : List (Line Fraction)) (last : Stage)
      → Leads names limit (behind s ends form place) ls last → ls ≡ []
  nothing_behind s t form place [] last h = refl
  nothing_behind s t form place (x ∷ ls) last h = absurd (let e = h.0.kind in cc)

  -- lines that lead to the end are the lines up to it
  lines_part : (stage : Stage) (s : Status) (ls : List (Line Fraction)) (back : List ℕ) → IsOn stage
      → Leads names limit stage ls (behind s ends 0 0)
      → IsCertificatePart (lines_text names ls ++ back) (lines_text names ls)
  lines_part stage s [] back on h = absurd (on s 0 0 h)
  lines_part stage s (x ∷ ls) back on h =
      by (end_or names stage x on) (λ on. lines_part (advanced stage x) s ls back on h.2)
    where
      begins : BeginsWithLine (lines_text names (x ∷ ls) ++ back) (line_of (words_of names (spelled x)))
          ((lines_text names ls) ++ back)
      begins =
          subst (λ t. BeginsWithLine t (line_of (words_of names (spelled x))) ((lines_text names ls) ++ back))
          (sym (append_assoc (line_text names x) (lines_text names ls) back))
          (begins_with names apart limit low x ((lines_text names ls) ++ back) h.1)

      by : IsEndOr names stage x
          → (IsOn (advanced stage x) → IsCertificatePart ((lines_text names ls) ++ back) (lines_text names ls))
          → IsCertificatePart (lines_text names (x ∷ ls) ++ back) (lines_text names (x ∷ ls))
      by (is_end e) again =
          let none : ls ≡ [] =
          ended stage (subst (λ l. Leads names limit (advanced stage l) ls (behind s ends 0 0)) e h.2)
          (subst (λ l. Follows names limit IsNotZero stage l) e h.0) in
          of_end ((lines_text names ls) ++ back)
          (subst (λ l. BeginsWithLine (lines_text names (x ∷ ls) ++ back) l ((lines_text names ls) ++ back))
          (ap (λ l. line_of (words_of names (spelled l))) e ∙ word_line (codes "end")) begins)
          (ap (λ l. line_text names l ++ (lines_text names ls)) e ∙ ap (λ l. codes "end\n" ++ lines_text names l) none
          ∙ append-nil (codes "end\n"))
        where
          ended : (stage : Stage) → Leads names limit (advanced {A = Fraction} stage end_line) ls (behind s ends 0 0)
              → Follows names limit IsNotZero stage end_line → ls ≡ []
          ended start k f = absurd f.kind
          ended (behind t last form place) k f = nothing_behind t s 0 0 ls (behind s ends 0 0) k
      by (is_other other on) again =
          of_line (line_of (words_of names (spelled x))) ((lines_text names ls) ++ back) (lines_text names ls) begins
          (λ e. other (sym (line_has_words names apart limit low x h.1) ∙ ap words_in e))
          (again on)
          (ap (λ t. t ++ (lines_text names ls)) (spaced-line (words_of names (spelled x)))
          ∙ append_assoc (line_of (words_of names (spelled x))) (10 ∷ []) (lines_text names ls))

module _ (m : RobustModel) (limit : ℕ) (model : IsModel m) (named : IsNamed m) (words : IsNamedInWords m)
    (low : limit ≤ 2 ^ 62 - 1) where
  leads_of : (c : Certificate) → HasShape m c → FitsLines limit m c
      → Leads (naming_of m) limit start (lines_of c) (behind c.status ends 0 0)
  leads_of c shape fits = cert_leads m limit c shape fits

  -- the text of a certificate is the lines up to the next end
  pub certificate_lines : (c : Certificate) (back : List ℕ) → HasShape m c → FitsLines limit m c
      → IsCertificatePart (lines_text (naming_of m) (lines_of c) ++ back) (lines_text (naming_of m) (lines_of c))
  certificate_lines c back shape fits =
      lines_part (naming_of m) (model_tells_apart m model named words) limit low start c.status (lines_of c) back
      (λ s f p e. cc) (leads_of c shape fits)

  -- and a text begins with that of one certificate
  pub one_certificate : (c d : Certificate) (r t : List ℕ) → HasShape m c → FitsLines limit m c
      → HasShape m d → FitsLines limit m d
      → lines_text (naming_of m) (lines_of c) ++ r ≡ lines_text (naming_of m) (lines_of d) ++ t → (c ≡ d) × (r ≡ t)
  one_certificate c d r t sc fc sd fd e =
      let first = certificate_lines c r sc fc in
      let second =
      subst (λ text. IsCertificatePart text (lines_text (naming_of m) (lines_of d))) (sym e)
      (certificate_lines d t sd fd) in
      let same = part_once (lines_text (naming_of m) (lines_of c) ++ r) (lines_text (naming_of m) (lines_of c))
      (lines_text (naming_of m) (lines_of d)) first second in (
        read_once m limit c d (lines_text (naming_of m) (lines_of c)) model named words low
            (record { shape = sc; spelled = refl }) (record { shape = sd; spelled = same }) fc fd,
        append_cancel_left (lines_text (naming_of m) (lines_of c)) r t (e ∙ ap (λ l. l ++ t) (sym same)),
      )
