-- The lines of covers: what leads on, what is found, and offences.
use Rattle.std.proofs.Common.{◌≡◌, ◌≢◌, ℕ, zero, suc, ◌+◌, ◌<◌, ◌≤◌, List, [], ◌∷◌, ◌++◌, length, get_or, arith, refl, ap, sym, ◌∙◌, subst, Bool, true, false, inl, inr, add-one}
use Rattle.std.proofs.lemmas.Bool.Decides.{nat_tests}
use Rattle.std.proofs.lemmas.List.{map-append}
use Rattle.std.specs.Prelude.{if◌then◌else◌, ◌==◌, ◌⊎◌}
use Rattle.rob_algebra.specs.Fraction.{Fraction}
use Rattle.rob_algebra.specs.Width.{Fits}
use Rattle.rob_meaning.specs.Certificates.{Status, optimal, infeasible, unbounded, Cover, IsBefore}
use Rattle.rob_meaning.specs.Named.{AreDistinct}
use Rattle.rob_meaning.specs.Names.{Name}
use Rattle.rob_meaning.specs.Places.{0ℚ, Each, InOrder}
use Rattle.rob_cert.specs.declared.error.Offence.{Offence}
use Rattle.rob_cert.specs.declared.error.Offence.TheVariants.{NoLine, NoShape, NoNumber}
use Rattle.rob_cert.specs.declared.kind.Multipliers.{Multipliers}
use Rattle.rob_cert.specs.declared.kind.Multipliers.TheVariants.{Covers, Holds}
use Rattle.rob_cert.specs.Lines.{Line, cover_line, cover_lines}
use Rattle.rob_cert.specs.Kinds.{Kind, claims, values, scales, items, ends, entries, multipliers, may_follow, word_of, kind_of}
use Rattle.rob_cert.specs.Reading.{BeginsWithLine, words_in, Stage, behind, advanced, Follows, FitsLine, IsNotZero, IsNotZeroWord, IsAtLeast, IsCause, BreaksFrom, from}
use Rattle.rob_cert.specs.ReaderLines.{IsSection, StandsBehind}
use Rattle.rob_cert.specs.Covers.{IsCoverLine, IsCoverShape, HasCoverFault, CoversLeadOn, IsGoodCover, IsPair}
use Rattle.rob_cert.specs.Spelling.{Naming, name_at, words_of, spelled}
use Rattle.rob_cert.proofs.Readers.CauseLemmas.{cause_line, cause_shape, cause_number}
use Rattle.rob_cert.proofs.Words.KindLemmas.{cover_by_kind, from_multipliers}
use Rattle.rob_cert.proofs.Readers.SectionLemmas.{Leads-push, further, section_further, section_line, offence_here}
use Rattle.rob_meaning.proofs.Lists.EachLemmas.{each_map, each_push}

-- ---- lists in order
pub InOrder-push : {A : Type 0} (R : A → A → Type 0) (xs : List A) (x : A) → InOrder R xs → Each (λ y. R y x) xs
    → InOrder R (xs ++ x ∷ [])
InOrder-push R [] x h e = (tt, tt)
InOrder-push R (y ∷ xs) x h e = (each_push (R y) xs x h.0 e.0, InOrder-push R xs x h.1 e.1)

-- ---- names that are distinct
distinct_head : (x : Name) (xs : List Name) (k : ℕ) → Each (λ y. x ≢ y) xs → k < length xs → get_or xs k [] ≢ x
distinct_head x [] k h l e = absurd (omega arith)
distinct_head x (y ∷ xs) zero h l e = h.0 (sym e)
distinct_head x (y ∷ xs) (suc k) h l e = distinct_head x xs k h.1 (omega arith) e

-- a name has one number
pub one_number : (names : List Name) (i j : ℕ) → AreDistinct names → i < length names → j < length names
    → name_at names i ≡ name_at names j → i ≡ j
one_number [] i j h l m e = absurd (omega arith)
one_number (x ∷ xs) zero zero h l m e = refl
one_number (x ∷ xs) zero (suc j) h l m e = absurd (distinct_head x xs j h.0 (omega arith) (sym e))
one_number (x ∷ xs) (suc i) zero h l m e = absurd (distinct_head x xs i h.0 (omega arith) e)
one_number (x ∷ xs) (suc i) (suc j) h l m e = ap suc (one_number xs i j h.1 (omega arith) (omega arith) e)

-- ---- finding a form and a set row
row_by : (form i place r : ℕ) (t : Bool) → (i == form) ≡ t → IsAtLeast form place i r → (if t then place else 0) ≤ r
row_by form i place r true e (inl l) = let p : i ≡ form = grind (arith, nat_tests) in absurd (omega arith)
row_by form i place r true e (inr h) = h.1
row_by form i place r false e h = omega arith

pub row_at_least : (form i place r : ℕ) → IsAtLeast form place i r → (if i == form then place else 0) ≤ r
row_at_least form i place r h = row_by form i place r (i == form) refl h

-- where the set row is missing behind the form's first place, the pair is
pub pair_missing : (names : Naming) (form place : ℕ) (form_name row_name : Name) (i least : ℕ) → AreDistinct names.forms
    → i < length names.forms → name_at names.forms i ≡ form_name → least ≡ (if i == form then place else 0)
    → ((r : ℕ) → least ≤ r → r < length names.set_rows → name_at names.set_rows r ≡ row_name → ⊥)
    → (j r : ℕ) → IsPair names form place form_name row_name j r → ⊥
pair_missing names form place form_name row_name i least distinct h is l none j r p =
    let same : j ≡ i = one_number names.forms j i distinct p.form_named h (p.form_is ∙ sym is) in
    none r (subst (λ n. n ≤ r) (sym l)
    (subst (λ k. (if k == form then place else 0) ≤ r) same (row_at_least form j place r p.ordered))) p.row_named
    p.row_is

-- four words, by the first, the names and the number
pub four_are : (words : List Name) (w f s t u name other n : Name) (more : List Name) → words ≡ w ∷ more
    → words ≡ f ∷ (s ∷ (t ∷ (u ∷ []))) → name ≡ s → other ≡ t → u ≡ n → words ≡ w ∷ (name ∷ (other ∷ (n ∷ [])))
four_are words w f s t u name other n more p q e d m = cc

-- ---- where covers may stand
pub multipliers_again : (s : Status) (last : Kind) (w : Multipliers) → may_follow s last (multipliers w) ≡ true
    → may_follow s (multipliers w) (multipliers w) ≡ true
multipliers_again optimal last Covers e = refl
multipliers_again unbounded last w e = by w
  where
    by : (w : Multipliers) → may_follow unbounded (multipliers w) (multipliers w) ≡ true
    by Covers = refl
    by Holds = refl
multipliers_again infeasible claims w e = absurd (never w e)
  where
    never : (w : Multipliers) → may_follow infeasible claims (multipliers w) ≡ true → ⊥
    never Covers e = cc
    never Holds e = cc
multipliers_again infeasible values w e = absurd (cc)
multipliers_again infeasible ends w e = absurd (cc)
multipliers_again infeasible scales Covers e = absurd (cc)
multipliers_again infeasible scales Holds e = absurd (cc)
multipliers_again infeasible items Covers e = absurd (cc)
multipliers_again infeasible items Holds e = absurd (cc)
multipliers_again infeasible (entries v) Covers e = absurd (cc)
multipliers_again infeasible (entries v) Holds e = absurd (cc)
multipliers_again infeasible (multipliers v) Covers e = absurd (cc)
multipliers_again infeasible (multipliers v) Holds e = absurd (cc)
multipliers_again optimal claims Holds e = absurd (cc)
multipliers_again optimal values Holds e = absurd (cc)
multipliers_again optimal scales Holds e = absurd (cc)
multipliers_again optimal items Holds e = absurd (cc)
multipliers_again optimal ends Holds e = absurd (cc)
multipliers_again optimal (entries v) Holds e = absurd (cc)
multipliers_again optimal (multipliers v) Holds e = absurd (cc)

-- ---- what a reader of covers has of a text so far
-- the cover stands below that form and place
abbrev pub IsBelow : ℕ → ℕ → Cover → Type 0
IsBelow form place c = (c.form < form) ⊎ ((c.form ≡ form) × (c.set_row < place))

below_before : (form place : ℕ) (c d : Cover) → IsAtLeast form place d.form d.set_row
    → IsBelow form place c → IsBefore c d
below_before form place c d (inl l) (inl b) = inl (omega arith)
below_before form place c d (inl l) (inr b) = inl (omega (arith, b.0))
below_before form place c d (inr l) (inl b) = inl (omega (arith, l.0))
below_before form place c d (inr l) (inr b) = inr (omega (arith, b.0, l.0), omega (arith, b.1, l.1))

before_below : (c d : Cover) → IsBefore c d → IsBelow d.form (suc d.set_row) c
before_below c d (inl l) = inl l
before_below c d (inr e) = inr (e.0, omega (arith, e.1))

pub record CoversSoFar (names : Naming) (limit : ℕ) (which : Multipliers) (text : List ℕ) (number : ℕ) (cs : List Cover)
    (form place : ℕ) (rest : List ℕ) (line : ℕ) : Type 0 where
  pub section : IsSection names text number (cover_lines which cs) rest line
  pub each : Each (IsGoodCover names) cs
  pub ordered : InOrder IsBefore cs
  pub below : Each (IsBelow form place) cs
  pub leads : CoversLeadOn names limit which form place (cover_lines which cs)

module _ (names : Naming) (limit : ℕ) (which : Multipliers) where
  pub covers_start : (text : List ℕ) (number : ℕ) → CoversSoFar names limit which text number [] 0 0 text number
  covers_start text number = record {
    section = record { split = refl; counted = omega arith };
    each = tt;
    ordered = tt;
    below = tt;
    leads = λ s stage h. (stage, refl, h, inl (refl, refl));
  }

  pub cover_follows : (s : Status) (form place i r : ℕ) (q : Fraction) (stage : Stage)
      → StandsBehind s (multipliers which) form place stage → IsAtLeast form place i r → i < length names.forms
      → r < length names.set_rows → q ≢ 0ℚ
      → Follows names limit IsNotZero stage (cover_line which i r q)
  cover_follows s form place i r q stage h l m n ne =
      subst (λ st. Follows names limit IsNotZero st (cover_line which i r q)) (sym h.is)
      (record {
        kind = h.may;
        placed = (
          subst (λ f. IsAtLeast f (from h.last (multipliers which) h.last_place) i r) (sym h.form_anew)
              (subst (λ p. IsAtLeast form p i r) (sym h.place_anew) l),
          m,
          n,
          ne,
        );
      })

  pub covers_more : (text : List ℕ) (number : ℕ) (cs : List Cover) (form place : ℕ) (rest : List ℕ) (line : ℕ)
      (front back : List ℕ) (c : Cover)
      → CoversSoFar names limit which text number cs form place rest line → BeginsWithLine rest front back
      → IsCoverLine names limit which form place (words_in front) c.form c.set_row c.amount → Fits limit c.amount
      → CoversSoFar names limit which text number (cs ++ c ∷ []) c.form (c.set_row + 1) back (line + 1)
  covers_more text number cs form place rest line front back c so begins e fits =
      let new = cover_line which c.form c.set_row c.amount in
      let lines : cover_lines which (cs ++ c ∷ []) ≡ cover_lines which cs ++ new ∷ [] =
      map-append (λ (d : Cover). cover_line which d.form d.set_row d.amount) cs (c ∷ []) in
      let before =
      each_map (IsBelow form place) (λ d. IsBefore d c)
      (λ d b. below_before form place d c e.ordered b) cs so.below in
      record {
        section = subst (λ ls. IsSection names text number ls back (line + 1)) (sym lines)
            (section_further names limit (cover_lines which cs) (new ∷ []) text rest back number line (line + 1)
            so.section (section_line names limit rest front back line new begins e.is));
        each = each_push (IsGoodCover names) cs c so.each
            (record { form = e.form_named; set_row = e.row_named; amount = e.not_zero });
        ordered = InOrder-push IsBefore cs c so.ordered before;
        below = subst (λ n. Each (IsBelow c.form n) (cs ++ c ∷ [])) (sym (add-one c.set_row))
            (each_push (IsBelow c.form (suc c.set_row)) cs c
            (each_map (λ d. IsBefore d c) (IsBelow c.form (suc c.set_row)) (λ d b. before_below d c b) cs before)
            (inr (refl, omega arith)));
        leads = subst (λ ls. CoversLeadOn names limit which c.form (c.set_row + 1) ls) (sym lines) (λ s stage h.
            let old = so.leads s stage h in
            let at : advanced old.0 new ≡ behind s (multipliers which) c.form (suc c.set_row) =
            ap (λ st. advanced st new) old.2.is in (
              advanced old.0 new,
              Leads-push names limit stage (cover_lines which cs) old.0 new old.1
                  (cover_follows s form place c.form c.set_row c.amount old.0 old.2 e.ordered e.form_named
                  e.row_named e.not_zero) fits,
              record {
                last = multipliers which;
                last_form = c.form;
                last_place = suc c.set_row;
                is = at;
                may = multipliers_again s old.2.last which old.2.may;
                form_anew = from_multipliers which c.form;
                place_anew = from_multipliers which (suc c.set_row) ∙ sym (add-one c.set_row);
              },
              inr (c.form, suc c.set_row, at),
            ));
      }

  -- ---- offences
  cover_shape : (s : Status) (last : Kind) (f p form place : ℕ) (words : List Name) (line : Line Name)
      → from last (multipliers which) f ≡ form → from last (multipliers which) p ≡ place
      → ((i r : ℕ) (word : Name) → IsCoverShape names limit which form place words i r word → ⊥)
      → kind_of line ≡ multipliers which → words_of names line ≡ words
      → Follows names limit IsNotZeroWord (behind s last f p) line → ⊥
  cover_shape s last f p form place words line form_anew place_anew none kind is fol =
      let (i, r, word, e) = cover_by_kind which line kind in
      let placed = (subst (Follows names limit IsNotZeroWord (behind s last f p)) e fol).placed in
      none i r word (record {
        is = sym is ∙ ap (words_of names) e;
        ordered = subst (λ n. IsAtLeast form n i r) place_anew
            (subst (λ n. IsAtLeast n (from last (multipliers which) p) i r) form_anew placed.0);
        form_named = placed.1;
        row_named = placed.2;
        not_zero = placed.3;
      })

  cover_cause : (s : Status) (last : Kind) (f p form place : ℕ) (rest front back : List ℕ) (more : List Name)
      (o : Offence) → may_follow s last (multipliers which) ≡ true
      → from last (multipliers which) f ≡ form → from last (multipliers which) p ≡ place
      → BeginsWithLine rest front back → words_in front ≡ word_of (multipliers which) ∷ more
      → HasCoverFault names limit which form place (words_in front) o
      → IsCause names limit (behind s last f p) rest o
  cover_cause s last f p form place rest front back more NoLine may form_anew place_anew begins words fault =
      cause_line names limit s last f p rest front back begins (multipliers which) more words fault
  cover_cause s last f p form place rest front back more NoShape may form_anew place_anew begins words fault =
      cause_shape names limit s last f p rest front back begins (multipliers which) more words may fault.0
      (λ line kind is fol. cover_shape s last f p form place (words_in front) line form_anew
      place_anew fault.1 kind is fol)
  cover_cause s last f p form place rest front back more NoNumber may form_anew place_anew begins words fault =
      let (i, r, word, shape, none) = fault in
      cause_number names limit s last f p rest front back begins (multipliers which) more words (
        cover_line which i r word,
        sym shape.is,
        record {
          kind = may;
          placed = (
            subst (λ n. IsAtLeast n (from last (multipliers which) p) i r) (sym form_anew)
                (subst (λ n. IsAtLeast form n i r) (sym place_anew) shape.ordered),
            shape.form_named,
            shape.row_named,
            shape.not_zero,
          );
        },
      )
      (λ line kind is fol fits.
      let (j, k, q, e) = cover_by_kind which line kind in
      none q (subst (FitsLine names limit) e fits) j k
      (sym is ∙ ap (λ (l : Line Fraction). words_of names (spelled l)) e))

  pub covers_fault : (text : List ℕ) (number : ℕ) (cs : List Cover) (form place : ℕ) (rest : List ℕ) (line : ℕ)
      (front back : List ℕ) (more : List Name) (o : Offence)
      → CoversSoFar names limit which text number cs form place rest line → BeginsWithLine rest front back
      → words_in front ≡ word_of (multipliers which) ∷ more
      → HasCoverFault names limit which form place (words_in front) o
      → (s : Status) (stage : Stage) → StandsBehind s (multipliers which) 0 0 stage
      → BreaksFrom names limit stage text number o line
  covers_fault text number cs form place rest line front back more o so begins words fault s stage h =
      let (new, leads, at, there) = so.leads s stage h in
      further names limit stage new (cover_lines which cs) text rest number line line o leads so.section
      (offence_here names limit new rest front back line o begins
      (subst (λ st. IsCause names limit st rest o) (sym at.is)
      (cover_cause s at.last at.last_form at.last_place form place rest front back more o at.may at.form_anew
      at.place_anew begins words fault)))
