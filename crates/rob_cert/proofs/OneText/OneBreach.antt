-- A text breaks one rule of certificates, at one line.
use Rattle.std.proofs.Common.{◌≡◌, ℕ, ◌+◌, ◌-◌, ◌^◌, ◌≤◌, List, [], ◌∷◌, ◌++◌, length, refl, ap, sym, ◌∙◌, subst, inl, inr, append-nil, append_assoc}
use Rattle.rob_algebra.specs.Fraction.{Fraction}
use Rattle.rob_meaning.specs.Named.{IsNamed}
use Rattle.rob_meaning.specs.Names.{Name}
use Rattle.rob_meaning.specs.RobustModel.{RobustModel}
use Rattle.rob_meaning.specs.WellFormed.{IsModel}
use Rattle.rob_cert.specs.Apart.{IsNamedInWords}
use Rattle.rob_cert.specs.Causes.{HasCause, rule_of}
use Rattle.rob_cert.specs.declared.error.CertErr.TheVariants.{Rule}
use Rattle.rob_cert.specs.declared.error.Offence.{Offence}
use Rattle.rob_cert.specs.declared.error.Offence.TheVariants.{NoLine, NoShape, NoNumber}
use Rattle.rob_cert.specs.Lines.{Line}
use Rattle.rob_cert.specs.Reading.{words_in, Stage, start, Follows, IsNotZero, IsLineAt, IsShapedAt, IsCause, Leads, BreaksFrom}
use Rattle.rob_cert.specs.Spelling.{Naming, naming_of, line_text, lines_text}
use Rattle.rob_cert.proofs.OneText.ApartLemmas.{TellsApart, lines_once, leads_same}
use Rattle.rob_cert.proofs.Readers.EntryLemmas.{one_line}
use Rattle.rob_cert.proofs.OneText.SpellingLaws.{model_tells_apart, line_at, no_offence, leads_split}

module _ (names : Naming) (apart : TellsApart names) (limit : ℕ) (low : limit ≤ 2 ^ 62 - 1) where
  shaped_line : (stage : Stage) (words : List Name) → IsShapedAt names limit stage words → IsLineAt stage words
  shaped_line stage words (line, is, follows) = subst (IsLineAt stage) is (line_at names stage line follows.kind)

  -- at a stage a text breaks one rule
  one_offence : (stage : Stage) (rest : List ℕ) (a b : Offence) → IsCause names limit stage rest a
      → IsCause names limit stage rest b → a ≡ b
  one_offence stage rest NoLine NoLine h k = refl
  one_offence stage rest NoShape NoShape h k = refl
  one_offence stage rest NoNumber NoNumber h k = refl
  one_offence stage rest NoLine NoShape h (line, after, b, there, none) = absurd (h line after b there)
  one_offence stage rest NoLine NoNumber h (line, after, b, shaped, none) =
      absurd (h line after b (shaped_line stage (words_in line) shaped))
  one_offence stage rest NoShape NoLine (line, after, b, there, none) k = absurd (k line after b there)
  one_offence stage rest NoNumber NoLine (line, after, b, shaped, none) k =
      absurd (k line after b (shaped_line stage (words_in line) shaped))
  one_offence stage rest NoShape NoNumber (line, after, b, there, none) (other, back, c, shaped, no_number) =
      absurd (none
      (subst (λ l. IsShapedAt names limit stage (words_in l))
      (sym (one_line rest line after other back b c).0) shaped))
  one_offence stage rest NoNumber NoShape (line, after, b, shaped, no_number) (other, back, c, there, none) =
      absurd (none
      (subst (λ l. IsShapedAt names limit stage (words_in l)) (one_line rest line after other back b c).0 shaped))

  -- two breaches, of which the second stands behind no fewer lines, are one
  same_breach : (text : List ℕ) (n : ℕ) (a b : Offence) (i j : ℕ) (h : BreaksFrom names limit start text n a i)
      (g : BreaksFrom names limit start text n b j) (more : List (Line Fraction))
      → g.before ≡ h.before ++ more → h.rest ≡ lines_text names more ++ g.rest → (a ≡ b) × (i ≡ j)
  same_breach text n a b i j h g [] same rest =
      let good : g.before ≡ h.before = same ∙ append-nil h.before in
      let stages : g.stage ≡ h.stage =
      leads_same names apart limit low start h.before g.stage h.stage
      (subst (λ l. Leads names limit start l g.stage) good g.good) h.good in
      let cause : IsCause names limit g.stage h.rest b =
      subst (λ r. IsCause names limit g.stage r b) (sym rest) g.cause in (
        one_offence h.stage h.rest a b h.cause (subst (λ s. IsCause names limit s h.rest b) stages cause),
        h.number_is ∙ ap (λ (ls : List (Line Fraction)). n + length ls) (sym good) ∙ sym g.number_is,
      )
  same_breach text n a b i j h g (x ∷ more) same rest =
      let (c, to, on) =
      leads_split names apart limit low start h.before (x ∷ more) g.stage
      (subst (λ l. Leads names limit start l g.stage) same g.good) in
      let here : c ≡ h.stage = leads_same names apart limit low start h.before c h.stage to h.good in
      absurd
      (no_offence names apart limit low h.stage x h.rest (lines_text names more ++ g.rest) a
      (subst (λ s. Follows names limit IsNotZero s x) here on.0) on.1
      (rest ∙ append_assoc (line_text names x) (lines_text names more) g.rest) h.cause)

  one_breach : (text : List ℕ) (n : ℕ) (a b : Offence) (i j : ℕ) → BreaksFrom names limit start text n a i
      → BreaksFrom names limit start text n b j → (a ≡ b) × (i ≡ j)
  one_breach text n a b i j h g =
      elim (lines_once names apart limit low start h.before g.before h.stage g.stage h.rest g.rest h.good g.good
      (sym h.split ∙ g.split)) [
        | inl d ↦ same_breach text n a b i j h g d.0 d.1 d.2
        | inr d ↦ let same = same_breach text n b a j i g h d.0 d.1 d.2 in (sym same.0, sym same.1)
      ]

-- a text breaks one rule of certificates, at one line
pub one_cause : (m : RobustModel) (limit : ℕ) (text : List ℕ) → IsModel m → IsNamed m → IsNamedInWords m
    → limit ≤ 2 ^ 62 - 1 → (rule line other number : ℕ)
    → HasCause (naming_of m) limit start text 1 (Rule rule line)
    → HasCause (naming_of m) limit start text 1 (Rule other number) → (rule ≡ other) × (line ≡ number)
one_cause m limit text model named words low rule line other number (a, r, h) (b, s, g) =
    let same = one_breach (naming_of m) (model_tells_apart m model named words) limit low text 1 a b line number h g in
    (r ∙ ap (λ (o : Offence). rule_of o) same.0 ∙ sym s, same.1)
