-- How the offence of a line of a kind is a cause at a stage.
use Rattle.std.proofs.Common.{◌≡◌, ◌≢◌, ℕ, suc, ◌≤◌, List, ◌∷◌, length, arith, ap, sym, ◌∙◌, subst, true}
use Rattle.rob_algebra.specs.Fraction.{Fraction}
use Rattle.rob_algebra.specs.Width.{Fits}
use Rattle.rob_meaning.specs.Certificates.{Status}
use Rattle.rob_meaning.specs.Names.{Name}
use Rattle.rob_cert.specs.declared.error.Offence.{Offence}
use Rattle.rob_cert.specs.declared.error.Offence.TheVariants.{NoLine, NoShape, NoNumber}
use Rattle.rob_cert.specs.declared.kind.Vector.{Vector}
use Rattle.rob_cert.specs.Lines.{Line, entry_line, entry_lines}
use Rattle.rob_cert.specs.Kinds.{Kind, entries, word_of, kind_of, argument_count, may_follow}
use Rattle.rob_cert.specs.Reading.{BeginsWithLine, words_in, Stage, behind, Follows, FitsLine, IsNotZero, IsNotZeroWord, IsShapedAt, IsCause, BreaksFrom, from}
use Rattle.rob_cert.specs.ReaderLines.{StandsAt}
use Rattle.rob_cert.specs.Entries.{IsEntryShape, HasEntryFault}
use Rattle.rob_cert.specs.Spelling.{Naming, words_of, spelled}
use Rattle.rob_cert.proofs.Readers.EntryLemmas.{one_line}
use Rattle.rob_cert.proofs.Words.KindLemmas.{word_injective, kind_by_word, kind_by_spelled, entry_by_kind}
use Rattle.rob_cert.proofs.Readers.SectionLemmas.{EntriesSoFar, further, offence_here}

module _ (names : Naming) (limit : ℕ) (s : Status) (last : Kind) (form place : ℕ) (rest front back : List ℕ)
    (begins : BeginsWithLine rest front back) (kind : Kind) (more : List Name)
    (words : words_in front ≡ word_of kind ∷ more) where
  -- another number of words
  pub cause_line : length (words_in front) ≢ suc (argument_count kind)
      → IsCause names limit (behind s last form place) rest NoLine
  cause_line ne line after b (other, stand, has) =
      let same = one_line rest front back line after begins b in
      let here : word_of kind ∷ more ≡ word_of other ∷ has.arguments = sym words ∙ ap words_in same.0 ∙ has.spelled in
      let word : word_of kind ≡ word_of other = cc in
      let tails : more ≡ has.arguments = cc in
      let kinds = word_injective kind other word in
      ne (ap length words ∙ ap suc (ap length tails ∙ has.count ∙ ap argument_count (sym kinds)))

  -- the right number of words, and no line of the kind has them
  pub cause_shape : may_follow s last kind ≡ true → length (words_in front) ≡ suc (argument_count kind)
      → ((line : Line Name) → kind_of line ≡ kind → words_of names line ≡ words_in front
      → Follows names limit IsNotZeroWord (behind s last form place) line → ⊥)
      → IsCause names limit (behind s last form place) rest NoShape
  cause_shape may count none =
      let n : suc (length more) ≡ suc (argument_count kind) = sym (ap length words) ∙ count in (
        front,
        back,
        begins,
        (kind, may, record { arguments = more; spelled = words; count = omega arith }),
        λ (line, e, f). none line (kind_by_word names line kind (words_in front) more e words) e f,
      )

  -- a line of the kind has them, and none with numbers
  pub cause_number : IsShapedAt names limit (behind s last form place) (words_in front)
      → ((line : Line Fraction) → kind_of line ≡ kind → words_of names (spelled line) ≡ words_in front
      → Follows names limit IsNotZero (behind s last form place) line → FitsLine names limit line → ⊥)
      → IsCause names limit (behind s last form place) rest NoNumber
  cause_number shaped none = (
    front,
    back,
    begins,
    shaped,
    λ (line, e, f, fits).
        none line (kind_by_spelled names line kind (words_in front) more e words) e f fits,
  )

-- ---- entries
module _ (names : Naming) (limit : ℕ) (v : Vector) where
  entry_shape : (s : Status) (last : Kind) (form place least : ℕ) (words : List Name) (line : Line Name)
      → from last (entries v) place ≡ least
      → ((k : ℕ) (word : Name) → IsEntryShape names limit v least words k word → ⊥)
      → kind_of line ≡ entries v → words_of names line ≡ words
      → Follows names limit IsNotZeroWord (behind s last form place) line → ⊥
  entry_shape s last form place least words line anew none kind is f =
      let (k, word, e) = entry_by_kind v line kind in
      let placed = (subst (Follows names limit IsNotZeroWord (behind s last form place)) e f).placed in
      none k word (record {
        is = sym is ∙ ap (words_of names) e;
        ordered = subst (λ n. n ≤ k) anew placed.0;
        named = placed.1;
        not_zero = placed.2;
      })

  entry_number : (s : Status) (last : Kind) (form place : ℕ) (words : List Name) (line : Line Fraction)
      → ((q : Fraction) → Fits limit q → (j : ℕ) → words ≡ words_of names (spelled (entry_line v j q)) → ⊥)
      → kind_of line ≡ entries v → words_of names (spelled line) ≡ words → FitsLine names limit line → ⊥
  entry_number s last form place words line none kind is fits =
      let (k, q, e) = entry_by_kind v line kind in
      none q (subst (FitsLine names limit) e fits) k (sym is ∙ ap (λ (l : Line Fraction). words_of names (spelled l)) e)

  entry_cause : (s : Status) (last : Kind) (form place least : ℕ) (rest front back : List ℕ) (more : List Name)
      (o : Offence) → may_follow s last (entries v) ≡ true → from last (entries v) place ≡ least
      → BeginsWithLine rest front back → words_in front ≡ word_of (entries v) ∷ more
      → HasEntryFault names limit v least (words_in front) o → IsCause names limit (behind s last form place) rest o
  entry_cause s last form place least rest front back more NoLine may anew begins words fault =
      cause_line names limit s last form place rest front back begins (entries v) more words fault
  entry_cause s last form place least rest front back more NoShape may anew begins words fault =
      cause_shape names limit s last form place rest front back begins (entries v) more words may fault.0
      (λ line kind is f. entry_shape s last form place least (words_in front) line anew fault.1 kind is f)
  entry_cause s last form place least rest front back more NoNumber may anew begins words fault =
      let (k, word, shape, none) = fault in
      cause_number names limit s last form place rest front back begins (entries v) more words (
        entry_line v k word,
        sym shape.is,
        record {
          kind = may;
          placed = (subst (λ n. n ≤ k) (sym anew) shape.ordered, shape.named, shape.not_zero);
        },
      )
      (λ line kind is f fits. entry_number s last form place (words_in front) line none kind is fits)

  -- an offence of an entry is one of the text
  pub entries_fault : (text : List ℕ) (number count : ℕ) (qs : List Fraction) (least : ℕ) (rest : List ℕ) (line : ℕ)
      (front back : List ℕ) (more : List Name) (o : Offence)
      → EntriesSoFar names limit v text number count qs least rest line → BeginsWithLine rest front back
      → words_in front ≡ word_of (entries v) ∷ more → HasEntryFault names limit v least (words_in front) o
      → (s : Status) (form : ℕ) (stage : Stage) → StandsAt s (entries v) form 0 stage
      → BreaksFrom names limit stage text number o line
  entries_fault text number count qs least rest line front back more o so begins words fault s form stage h =
      let (new, leads, at, there) = so.leads s form stage h in
      further names limit stage new (entry_lines v 0 qs) text rest number line line o leads so.section
      (offence_here names limit new rest front back line o begins
      (subst (λ st. IsCause names limit st rest o) (sym at.is)
      (entry_cause s at.last form at.last_place least rest front back more o at.may at.anew begins words fault)))
