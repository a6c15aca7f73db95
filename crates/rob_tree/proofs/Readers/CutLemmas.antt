-- A text is cut behind each of its lines in turn.
use Rattle.std.proofs.Common.{◌≡◌, ◌≢◌, ℕ, ◌+◌, ◌≤◌, List, [], ◌∷◌, ◌++◌, length, take, drop, arith, refl, ap, sym, ◌∙◌, subst, append_assoc, length-append}
use Rattle.std.proofs.Math.Seq.{drop-append_seam, take-append_seam}
use Rattle.std.proofs.lemmas.List.{length-take-le, take-append-drop}
use Rattle.std.specs.Prelude.{codes}
use Rattle.rob_cert.specs.Reading.{BeginsWithLine, Lacks}
use Rattle.rob_tree.proofs.Readers.ReadingLemmas.{line_ends-append, line_ends_within, no_ends, one_end}
use Rattle.rob_tree.specs.Reading.{IsCertificatePart, line_ends, of_end, of_line, of_rest}

module _ (text front back : List ℕ) (at to : ℕ) (within : at ≤ length text) (is : drop at text ≡ front ++ 10 ∷ back)
    (to_is : to ≡ at + length front + 1) where
  whole : text ≡ (take at text ++ (front ++ 10 ∷ [])) ++ back
  whole =
      sym (take-append-drop at text) ∙ ap (λ t. take at text ++ t) (is ∙ sym (append_assoc front (10 ∷ []) back))
      ∙ sym (append_assoc (take at text) (front ++ 10 ∷ []) back)

  size : length (take at text ++ (front ++ 10 ∷ [])) ≡ at + length front + 1
  size = omega (
    arith,
    length-append (take at text) (front ++ 10 ∷ []),
    length-append front (10 ∷ []),
    length-take-le at text within,
  )

  pub cut_before : take to text ≡ take at text ++ (front ++ 10 ∷ [])
  cut_before =
      ap (λ n. take n text) (to_is ∙ sym size) ∙ ap (take (length (take at text ++ (front ++ 10 ∷ [])))) whole
      ∙ take-append_seam (take at text ++ (front ++ 10 ∷ [])) back

  pub cut_behind : drop to text ≡ back
  cut_behind =
      ap (λ n. drop n text) (to_is ∙ sym size) ∙ ap (drop (length (take at text ++ (front ++ 10 ∷ [])))) whole
      ∙ drop-append_seam (take at text ++ (front ++ 10 ∷ [])) back

  pub cut_within : to ≤ length text
  cut_within = omega (arith, size, to_is, ap length whole, length-append (take at text ++ (front ++ 10 ∷ [])) back)

  -- the count of lines goes on
  pub cut_counted : (count : ℕ) → Lacks 10 front → count ≡ line_ends (take at text)
      → count + 1 ≡ line_ends (take to text)
  cut_counted count lacks e =
      omega (arith, e, ap line_ends cut_before, line_ends-append (take at text) (front ++ 10 ∷ []), one_end front lacks)

  -- a text of that many bytes has no more lines
  pub cut_few : (count : ℕ) → count ≡ line_ends (take at text) → count + 1 ≤ length text
  cut_few count e = omega (arith, e, line_ends_within (take at text), length-take-le at text within, cut_within, to_is)

  -- a line that isn't the end goes on to the lines behind it
  pub cut_goes_on : Lacks 10 front → front ≢ codes "end"
      → ((more : List ℕ) → IsCertificatePart (drop at text) more → IsCertificatePart text (take at text ++ more))
      → (more : List ℕ) → IsCertificatePart (drop to text) more → IsCertificatePart text (take to text ++ more)
  cut_goes_on lacks ne so more h =
      subst (IsCertificatePart text)
      (ap (λ t. take at text ++ t) (sym (append_assoc front (10 ∷ []) more))
      ∙ sym (append_assoc (take at text) (front ++ 10 ∷ []) more)
      ∙ ap (λ t. t ++ more) (sym cut_before))
      (so (front ++ 10 ∷ more)
      (of_line front back more (record { split = is; whole = lacks }) ne
      (subst (λ t. IsCertificatePart t more) cut_behind h) refl))

  -- the end is the last of them
  pub cut_ends : Lacks 10 front → front ≡ codes "end"
      → ((more : List ℕ) → IsCertificatePart (drop at text) more → IsCertificatePart text (take at text ++ more))
      → IsCertificatePart text (take to text)
  cut_ends lacks e so =
      subst (IsCertificatePart text) (ap (λ l. take at text ++ (l ++ 10 ∷ [])) (sym e) ∙ sym cut_before)
      (so (codes "end\n")
      (of_end back (subst (λ l. BeginsWithLine (drop at text) l back) e (record { split = is; whole = lacks }))
      refl))

-- where no line ends any more, all of the text is part of it
pub cut_nothing : (text : List ℕ) (at : ℕ) → Lacks 10 (drop at text)
    → ((more : List ℕ) → IsCertificatePart (drop at text) more → IsCertificatePart text (take at text ++ more))
    → IsCertificatePart text text
cut_nothing text at lacks so =
    subst (IsCertificatePart text) (take-append-drop at text) (so (drop at text) (of_rest lacks refl))

pub cut_counted_all : (text : List ℕ) (at count : ℕ) → Lacks 10 (drop at text) → count ≡ line_ends (take at text)
    → count ≡ line_ends text
cut_counted_all text at count lacks e =
    omega (
      arith,
      e,
      ap line_ends (take-append-drop at text),
      line_ends-append (take at text) (drop at text),
      no_ends (drop at text) lacks,
    )
