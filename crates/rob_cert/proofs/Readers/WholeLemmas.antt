-- A whole certificate from its parts.
use Rattle.std.proofs.Common.{◌≡◌, ℕ, List, [], ◌∷◌, ◌++◌, ap, ◌∙◌, subst, append_assoc}
use Rattle.rob_algebra.specs.Fraction.{Fraction}
use Rattle.rob_meaning.specs.Certificates.{Status, Cover, Item, Certificate}
use Rattle.rob_cert.specs.declared.error.CertErr.{CertErr}
use Rattle.rob_cert.specs.declared.kind.Multipliers.TheVariants.{Covers, Holds}
use Rattle.rob_cert.specs.declared.kind.Vector.TheVariants.{Inside, Plan, Move}
use Rattle.rob_cert.specs.Lines.{Line, status_line, bound_lines, entry_lines, cover_lines, item_lines, end_line, lines_of}
use Rattle.rob_cert.specs.ReadSoFar.{SoFar, Extends, Fails}
use Rattle.rob_cert.specs.Spelling.{Naming, lines_text}
use Rattle.rob_cert.specs.Whole.{vector_lines, list_lines, EndsWith, IsMoved}

module _ (names : Naming) (limit : ℕ) (s : Status) where
  pub then_fails : (n m : ℕ) (rest : List ℕ) (line : ℕ) (more : List (Line Fraction)) (rest' : List ℕ)
      (line' : ℕ) (e : CertErr)
      → Extends names limit s n m rest line more rest' line' → Fails names limit s m rest' line' e
      → Fails names limit s n rest line e
  then_fails n m rest line more rest' line' e h k text lines so = k text (lines ++ more) (h text lines so)

  pub then_extends : (n m k : ℕ) (rest : List ℕ) (line : ℕ) (more : List (Line Fraction)) (rest' : List ℕ) (line' : ℕ)
      (more' : List (Line Fraction)) (rest'' : List ℕ) (line'' : ℕ)
      → Extends names limit s n m rest line more rest' line' → Extends names limit s m k rest' line' more' rest'' line''
      → Extends names limit s n k rest line (more ++ more') rest'' line''
  then_extends n m k rest line more rest' line' more' rest'' line'' h g text lines so =
      subst (λ ls. SoFar names limit s text ls rest'' line'' k) (append_assoc lines more more')
      (g text (lines ++ more) (h text lines so))

  -- the lists and the end, one behind the other
  pub ends_with : (rest : List ℕ) (line : ℕ) (cs : List Cover) (r1 : List ℕ) (l1 : ℕ) (hs : List Cover) (r2 : List ℕ)
      (l2 : ℕ) (is : List Item) (r3 : List ℕ) (l3 : ℕ)
      → Extends names limit s 6 7 rest line (cover_lines Covers cs) r1 l1
      → Extends names limit s 7 8 r1 l1 (cover_lines Holds hs) r2 l2
      → Extends names limit s 8 9 r2 l2 (item_lines is) r3 l3
      → ((lim : ℕ) (text : List ℕ) (lines : List (Line Fraction)) → SoFar names lim s text lines r3 l3 9
      → text ≡ lines_text names (lines ++ end_line ∷ []))
      → EndsWith names limit s rest line cs hs is
  ends_with rest line cs r1 l1 hs r2 l2 is r3 l3 a b c last text lines so =
      last limit text (((lines ++ cover_lines Covers cs) ++ cover_lines Holds hs) ++ item_lines is)
      (c text _ (b text _ (a text lines so)))
      ∙ ap (lines_text names) (simp append_assoc)

regroup : (x : Line Fraction) (b i p m r : List (Line Fraction))
    → ((x ∷ b) ++ (i ++ (p ++ m))) ++ r ≡ x ∷ (b ++ (i ++ (p ++ (m ++ r))))
regroup x b i p m r = simp append_assoc

-- the whole text
pub whole_text : (names : Naming) (limit : ℕ) (text rest : List ℕ) (line : ℕ) (c : Certificate) (moved : List Fraction)
    (rest' : List ℕ) (line' : ℕ)
    → SoFar names limit c.status text (status_line c.status ∷ bound_lines c.status c.value c.scale) rest line 3
    → Extends names limit c.status 3 6 rest line (vector_lines c.inside c.plan moved) rest' line'
    → EndsWith names limit c.status rest' line' c.covers c.holds c.items → IsMoved moved c.step c.step_bound
    → text ≡ lines_text names (lines_of c)
whole_text names limit text rest line c moved rest' line' so vectors lists direction =
    let front = status_line c.status ∷ bound_lines c.status c.value c.scale in
    let end = list_lines c.covers c.holds c.items in
    lists text (front ++ vector_lines c.inside c.plan moved) (vectors text front so)
    ∙ ap (lines_text names)
    (regroup (status_line c.status) (bound_lines c.status c.value c.scale) (entry_lines Inside 0 c.inside)
    (entry_lines Plan 0 c.plan) (entry_lines Move 0 moved) end)
    ∙ ap (λ m. lines_text names
    (status_line c.status
    ∷ (bound_lines c.status c.value c.scale
    ++ (entry_lines Inside 0 c.inside ++ (entry_lines Plan 0 c.plan ++ (m ++ end)))))) direction.lines
