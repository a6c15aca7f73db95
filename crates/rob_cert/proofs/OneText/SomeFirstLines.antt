-- A text has a status, a value and a scale in its first lines, or breaks a rule there; and a direction with its bound.
use Rattle.std.proofs.Common.{◌≡◌, ℕ, ◌+◌, List, [], ◌∷◌, ◌++◌, length, arith, refl, ap, sym, ◌∙◌, subst, inl, inr, length-append}
use Rattle.std.specs.Prelude.{◌⊎◌}
use Rattle.rob_algebra.specs.Fraction.{Fraction}
use Rattle.rob_algebra.specs.Width.{Fits}
use Rattle.rob_meaning.specs.Certificates.{Status, optimal, infeasible, unbounded}
use Rattle.rob_meaning.specs.Names.{Name}
use Rattle.rob_meaning.specs.Places.{0ℚ, Each}
use Rattle.rob_cert.specs.declared.error.Offence.{Offence}
use Rattle.rob_cert.specs.declared.error.Offence.TheVariants.{NoLine, NoNumber}
use Rattle.rob_cert.specs.declared.kind.Bound.{Bound}
use Rattle.rob_cert.specs.declared.kind.Vector.TheVariants.{Move}
use Rattle.rob_cert.specs.FirstLines.{bound_kind, bound_line, status_bytes, HasBoundFault}
use Rattle.rob_cert.specs.Lines.{Line, entry_lines}
use Rattle.rob_cert.specs.Kinds.{word_of}
use Rattle.rob_cert.specs.Reading.{Lacks, BeginsWithLine, words_in, Stage, FitsLine, Leads}
use Rattle.rob_cert.specs.ReaderLines.{IsSection, HasNoLineOf}
use Rattle.rob_cert.specs.Spelling.{Naming}
use Rattle.rob_cert.specs.Whole.{IsMoved}
use Rattle.rob_cert.proofs.OneText.Decisions.{Decided, same_number, same_word, first_line, next_line, one_word, Spells, some_number}
use Rattle.rob_cert.proofs.Words.NumberLemmas.{cut_lacks}
use Rattle.rob_cert.proofs.Readers.FirstLinesLemmas.{other_status, bound_count, bound_read}
use Rattle.rob_cert.proofs.Readers.SectionLemmas.{line_of_zero}
use Rattle.rob_cert.proofs.OneText.SomeEntries.{count_more}

-- ---- lines that lead on have numbers that fit
pub leads_fit : (names : Naming) (limit : ℕ) (a : Stage) (lines : List (Line Fraction)) (b : Stage)
    → Leads names limit a lines b → Each (FitsLine names limit) lines
leads_fit names limit a [] b h = tt
leads_fit names limit a (x ∷ xs) b h = (h.1, leads_fit names limit _ xs b h.2)

-- ---- a direction and its bound
last_of : (q : Fraction) (qs : List Fraction) → (step : List Fraction) × (bound : Fraction)
    × (q ∷ qs ≡ step ++ bound ∷ [])
last_of q [] = ([], q, refl)
last_of q (r ∷ qs) = let (step, bound, is) = last_of r qs in (q ∷ step, bound, ap (λ l. q ∷ l) is)

pub some_direction : (moved : List Fraction) → (step : List Fraction) × (bound : Fraction) × IsMoved moved step bound
some_direction [] = ([], 0ℚ, record { lines = sym (line_of_zero Move 0 0ℚ refl); size = refl; nothing = λ e. refl })
some_direction (q ∷ qs) =
    let (step, bound, is) = last_of q qs in (
      step,
      bound,
      record {
        lines = ap (entry_lines Move 0) is;
        size = omega (arith, ap length is, length-append step (bound ∷ []));
        nothing = λ none. absurd (omega arith);
      },
    )

pub and_then : {A B C : Type 0} → A ⊎ B → (A → C ⊎ B) → C ⊎ B
and_then (inl a) f = f a
and_then (inr b) f = inr b

-- ---- the value and the scale
module _ (names : Naming) (limit : ℕ) (which : Bound) (rest : List ℕ) (line : ℕ) where
  -- the line of the value or the scale is next, or there is an offence
  abbrev pub BoundRead : Type 0
  BoundRead =
      ((q : Fraction) × (back : List ℕ) × Fits limit q
      × IsSection names rest line (bound_line which q ∷ []) back (line + 1))
      ⊎ ((o : Offence) × HasBoundFault limit which rest o)

  bound_number : (front back : List ℕ) (word : Name) → BeginsWithLine rest front back
      → words_in front ≡ word_of (bound_kind which) ∷ (word ∷ [])
      → Decided ((q : Fraction) × Spells limit word q) → BoundRead
  bound_number front back word b is (inl (q, s)) =
      inl (
        q,
        back,
        s.0,
        bound_read names limit which rest front back line (word_of (bound_kind which)) (word_of (bound_kind which))
            word (word ∷ []) q b is refl is s.1,
      )
  bound_number front back word b is (inr none) = inr (NoNumber, (front, back, word, b, is, λ q f e. none (q, (f, e))))

  pub some_bound : BoundRead
  some_bound = by (next_line (word_of (bound_kind which)) rest)
    where
      counted : (front back : List ℕ) (more : List Name) → BeginsWithLine rest front back
          → words_in front ≡ word_of (bound_kind which) ∷ more → Decided (length (words_in front) ≡ 2) → BoundRead
      counted front back more b is (inr ne) = inr (NoLine, bound_count limit which rest front back b ne)
      counted front back more b is (inl e) =
          let (word, are) = one_word more (count_more (words_in front) more (word_of (bound_kind which)) 1 is e) in
          bound_number front back word b (is ∙ ap (λ l. word_of (bound_kind which) ∷ l) are) (some_number limit word)

      by : ((front : List ℕ) × (back : List ℕ) × (more : List Name) × BeginsWithLine rest front back
          × (words_in front ≡ word_of (bound_kind which) ∷ more))
          ⊎ HasNoLineOf (word_of (bound_kind which)) rest → BoundRead
      by (inl (front, back, more, b, is)) = counted front back more b is (same_number (length (words_in front)) 2)
      by (inr none) = inr (NoLine, λ front after b has. none front after has.arguments b has.spelled)

-- ---- the status
is_status : (line : List ℕ) → ((s : Status) × (line ≡ status_bytes s)) ⊎ ((s : Status) → line ≡ status_bytes s → ⊥)
is_status line =
    by (same_word line (status_bytes optimal)) (same_word line (status_bytes infeasible))
    (same_word line (status_bytes unbounded))
  where
    by : Decided (line ≡ status_bytes optimal) → Decided (line ≡ status_bytes infeasible)
        → Decided (line ≡ status_bytes unbounded)
        → ((s : Status) × (line ≡ status_bytes s)) ⊎ ((s : Status) → line ≡ status_bytes s → ⊥)
    by (inl e) q r = inl (optimal, e)
    by (inr n) (inl e) r = inl (infeasible, e)
    by (inr n) (inr m) (inl e) = inl (unbounded, e)
    by (inr n) (inr m) (inr k) =
        inr (λ s. elim s as (λ t. line ≡ status_bytes t → ⊥) [ optimal ↦ n | infeasible ↦ m | unbounded ↦ k ])

-- a text begins with a status line, or not
pub some_status : (text : List ℕ) → ((s : Status) × (rest : List ℕ) × (text ≡ status_bytes s ++ 10 ∷ rest))
    ⊎ ((s : Status) (rest : List ℕ) → text ≡ status_bytes s ++ 10 ∷ rest → ⊥)
some_status text = by (first_line text)
  where
    told : (front back : List ℕ) → BeginsWithLine text front back → ((s : Status) × (front ≡ status_bytes s))
        ⊎ ((s : Status) → front ≡ status_bytes s → ⊥)
        → ((s : Status) × (rest : List ℕ) × (text ≡ status_bytes s ++ 10 ∷ rest))
        ⊎ ((s : Status) (rest : List ℕ) → text ≡ status_bytes s ++ 10 ∷ rest → ⊥)
    told front back b (inl (s, e)) = inl (s, back, b.split ∙ ap (λ l. l ++ 10 ∷ back) e)
    told front back b (inr none) = inr (other_status text front back b.split b.whole none)

    by : ((line : List ℕ) × (after : List ℕ) × BeginsWithLine text line after) ⊎ Lacks 10 text
        → ((s : Status) × (rest : List ℕ) × (text ≡ status_bytes s ++ 10 ∷ rest))
        ⊎ ((s : Status) (rest : List ℕ) → text ≡ status_bytes s ++ 10 ∷ rest → ⊥)
    by (inl (front, back, b)) = told front back b (is_status front)
    by (inr none) = inr (λ s rest e. cut_lacks 10 (status_bytes s) rest (subst (Lacks 10) e none))
