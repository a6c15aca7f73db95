-- What the first lines of a tree's text and the lines of its nodes tell, or why they tell nothing.
use Rattle.std.proofs.Common.{◌≡◌, ◌≢◌, ℕ, ◌+◌, ◌-◌, ◌^◌, ◌<◌, ◌≤◌, List, [], ◌∷◌, ◌++◌, length, length-append, arith, refl, ap, sym, ◌∙◌, subst}
use Rattle.std.proofs.lemmas.Fmt.{signed_decimal_injective}
use Rattle.std.proofs.lemmas.Bool.Decides.{nat_tests}
use Rattle.std.specs.Fmt.{decimal, signed_decimal}
use Rattle.std.specs.Prelude.{codes, ℤ, pos, nat_abs, if◌then◌else◌, ◌==◌, Bool, true, false}
use mir.Val.{to_z, of_z}
use Rattle.std.proofs.Common.{w64}
use Rattle.rob_number.proofs.CastLemmas.{seen}
use Rattle.rob_algebra.proofs.Parts.{of_int-parts}
use Rattle.rob_algebra.proofs.WidthLaws.{Fits-of_int}
use Rattle.rob_algebra.specs.Fraction.{Fraction, of_int}
use Rattle.rob_algebra.specs.Width.{Fits}
use Rattle.rob_cert.proofs.OneText.ApartLemmas.{number_same}
use Rattle.rob_cert.proofs.Readers.EndLemmas.{line_by_words}
use Rattle.rob_cert.proofs.Readers.EntryLemmas.{no_line, one_line}
use Rattle.rob_cert.specs.Reading.{Lacks, words_in}
use Rattle.rob_cert.specs.Spelling.{number_text, spaced, status_word}
use Rattle.rob_meaning.specs.Certificates.{Status, optimal, infeasible, unbounded}
use Rattle.rob_meaning.specs.Names.{Name}
use Rattle.rob_meaning.specs.RobustModel.{RobustModel}
use Rattle.rob_cert.proofs.Words.NumberLemmas.{mag_small}
use Rattle.rob_tree.proofs.Readers.ReadingLemmas.{one_end_of_words, text_of_words}
use Rattle.rob_tree.specs.Parts.{IsBestRead, IsHead, IsHeadRead, head_words}
use Rattle.rob_tree.specs.ClaimLines.{HasBest, IsBestCause, IsBestFault, IsBestLineOf, IsClaimCause, IsClaimFault, IsClaimLine, IsWholeWord, first_node, greatest_leaf}
use Rattle.rob_tree.specs.Reading.{IsBranchWord, IsNodeCause, IsNodeFault, IsNodeLine, of_branch, of_leaf, of_open}
use Rattle.rob_tree.specs.declared.nodes.Head.{Head}
use Rattle.rob_tree.specs.declared.error.Offence.{Offence}
use Rattle.rob_tree.specs.declared.error.Offence.TheVariants.{NoLine, NoName, NoNumber}

-- ---- whole numbers
-- a fraction with denominator 1 is spelled as its numerator
pub whole_text : (q : Fraction) → q.den ≡ 1 → number_text q ≡ signed_decimal q.num
whole_text q e = by (q.den == 1) refl
  where
    by : (t : Bool) → q.den == 1 ≡ t
        → (if t then signed_decimal q.num else (signed_decimal q.num ++ (codes "/" ++ decimal q.den)))
        ≡ signed_decimal q.num
    by true h = refl
    by false h = absurd (grind (arith, nat_tests))

whole_spelled : (z : ℤ) → number_text (of_int z) ≡ signed_decimal z
whole_spelled z = whole_text (of_int z) (of_int-parts z).1 ∙ ap signed_decimal (of_int-parts z).0

module _ (limit : ℕ) (one : 1 ≤ limit) where
  -- a word that spells no fraction spells no whole number
  pub no_whole : (word : Name) → ((q : Fraction) → Fits limit q → word ≡ number_text q → ⊥) → IsWholeWord limit word → ⊥
  no_whole word none (z, small, e) = none (of_int z) (Fits-of_int limit z one small) (e ∙ sym (whole_spelled z))

  -- nor does one that spells a fraction with another denominator
  pub not_whole : limit ≤ 2 ^ 62 - 1 → (word : Name) (q : Fraction) → Fits limit q → word ≡ number_text q
      → (q.den ≡ 1 → ⊥) → IsWholeWord limit word → ⊥
  not_whole low word q fits is other (z, small, e) =
      other (ap (λ (x : Fraction). x.den)
      (number_same limit low q (of_int z) fits (Fits-of_int limit z one small) (sym is ∙ e ∙ sym (whole_spelled z)))
      ∙ (of_int-parts z).1)

module _ (limit : ℕ) where
  -- ---- claims
  -- a line that is neither of the two without a value, and not one of an optimum
  pub no_claim : (line : List ℕ) → line ≢ codes "tree infeasible" → line ≢ codes "tree unbounded"
      → ((word : Name) → words_in line ≡ codes "tree" ∷ (status_word optimal ∷ (word ∷ [])) → ⊥)
      → IsClaimFault limit (words_in line) NoLine
  no_claim line a b f optimal (word, e) = f word e
  no_claim line a b f infeasible e = a (line_by_words line (codes "tree infeasible") e)
  no_claim line a b f unbounded e = b (line_by_words line (codes "tree unbounded") e)

  pub claim_missing : (text : List ℕ) → Lacks 10 text → IsClaimCause limit text NoLine
  claim_missing text h line after b s c = no_line text line after h b

  pub claim_cause : (text front back : List ℕ) (o : Offence) → text ≡ front ++ 10 ∷ back → Lacks 10 front
      → IsClaimFault limit (words_in front) o
      → IsClaimCause limit text o
  claim_cause text front back NoLine is whole h = λ line after b s c.
      h s (subst (λ l. IsClaimLine s (words_in l))
      (sym (one_line text front back line after (record { split = is; whole = whole }) b).0) c)
  claim_cause text front back NoName is whole h = h
  claim_cause text front back NoNumber is whole h = (front, back, record { split = is; whole = whole }, h)

-- ---- the leaf that shows it
pub best_missing : (text : List ℕ) → Lacks 10 text → IsBestCause text NoLine
best_missing text h line after b word c = no_line text line after h b

pub best_cause : (text front back : List ℕ) (o : Offence) → text ≡ front ++ 10 ∷ back → Lacks 10 front
    → IsBestFault (words_in front) o
    → IsBestCause text o
best_cause text front back NoLine is whole h = λ line after b word c.
    h word (ap words_in (one_line text front back line after (record { split = is; whole = whole }) b).0 ∙ c)
best_cause text front back NoName is whole h = h
best_cause text front back NoNumber is whole h = (front, back, record { split = is; whole = whole }, h)

-- the line of a whole number, where the status has one
pub best_line_of : (s : Status) → HasBest s → (z : ℤ) → nat_abs z ≤ greatest_leaf
    → IsBestLineOf s (spaced (codes "best" ∷ (signed_decimal z ∷ []))) z
best_line_of optimal has z h = (h, refl)
best_line_of infeasible has z h = absurd has
best_line_of unbounded has z h = (h, refl)

third_line : (s : Status) → HasBest s → 3 ≡ first_node s
third_line optimal has = refl
third_line infeasible has = absurd has
third_line unbounded has = refl

pub best_read : (s : Status) → HasBest s → (text front back : List ℕ) (z told : ℤ) → told ≡ z
    → text ≡ front ++ 10 ∷ back
    → nat_abs z ≤ greatest_leaf → words_in front ≡ codes "best" ∷ (signed_decimal z ∷ [])
    → IsBestRead s text told back 3
best_read s has text front back z told same is small e =
    subst (λ y. IsBestRead s text y back 3) (sym same)
    (record {
      shown = spaced (codes "best" ∷ (signed_decimal z ∷ []));
      split = text_of_words text front back (codes "best" ∷ (signed_decimal z ∷ [])) is e;
      is_best = best_line_of s has z small;
      line_is = third_line s has;
    })

-- of two words of a machine that are one, the numbers are one
pub told_limit : (limit : ℕ) → limit ≤ 2 ^ 62 - 1 → (k l : ℤ) → nat_abs k ≤ limit → l ≡ pos limit
    → of_z w64 k ≡ of_z w64 l → k ≡ pos limit
told_limit limit low k l small is e =
    let within : nat_abs l < 2 ^ 62 = omega (arith, ap nat_abs is) in
    sym (seen k (omega (arith, small))) ∙ ap (λ x. to_z w64 x) e ∙ seen l within ∙ is

-- the limit itself is no K
pub limit_word : (limit : ℕ) → limit ≤ 2 ^ 62 - 1 → (word : Name) (k : ℤ) → nat_abs k ≤ limit
    → word ≡ signed_decimal k → k ≡ pos limit
    → IsBranchWord limit word → ⊥
limit_word limit low word k small is at (z, inside, ne, e) =
    ne (signed_decimal_injective z k (omega (arith, mag_small z (omega (arith, inside))))
    (omega (arith, mag_small k (omega (arith, small)))) (sym e ∙ is) ∙ at)

-- ---- nodes
module _ (limit : ℕ) (m : RobustModel) (names : List ℕ) (status : Status) (branches : ℕ) where
  pub node_missing : (text : List ℕ) → Lacks 10 text → IsNodeCause limit m names status branches text NoLine
  node_missing text h line after b c = no_line text line after h b

  pub node_cause : (text front back : List ℕ) (o : Offence) → text ≡ front ++ 10 ∷ back → Lacks 10 front
      → IsNodeFault limit m names status branches (words_in front) o → IsNodeCause limit m names status branches text o
  node_cause text front back NoLine is whole h = λ line after b c.
      h (subst (λ l. IsNodeLine status branches (words_in l))
      (sym (one_line text front back line after (record { split = is; whole = whole }) b).0) c)
  node_cause text front back NoName is whole h = (front, back, record { split = is; whole = whole }, h)
  node_cause text front back NoNumber is whole h = (front, back, record { split = is; whole = whole }, h)

  -- a line that is neither a leaf's nor an open one, and not one of a branch that may stand there
  pub no_node : (line : List ℕ) → line ≢ codes "leaf" → (status ≡ unbounded → line ≢ codes "open")
      → ((name word : Name) → branches < 999 → words_in line ≡ codes "branch" ∷ (name ∷ (word ∷ [])) → ⊥)
      → IsNodeFault limit m names status branches (words_in line) NoLine
  no_node line a b f (of_leaf e) = a (line_by_words line (codes "leaf") e)
  no_node line a b f (of_branch name word few e) = f name word few e
  no_node line a b f (of_open s e) = b s (line_by_words line (codes "open") e)

-- the line of a node that is read
pub head_read : (limit : ℕ) (names : List ℕ) (columns : List Name) (status : Status) (text front back : List ℕ)
    (line branches : ℕ) (head : Head)
    → text ≡ front ++ 10 ∷ back → Lacks 10 front → IsHead limit names columns status branches (words_in front) head
    → IsHeadRead limit names columns status text line branches head back (line + 1) branches
head_read limit names columns status text front back line branches head is whole h = record {
  split = text_of_words text front back (head_words columns head) is h.words_are;
  shorter = omega (arith, ap length is, length-append front (10 ∷ back));
  line_is = refl;
  ends = one_end_of_words front (head_words columns head) whole h.words_are;
  branches_are = refl;
  may = h.may;
}
