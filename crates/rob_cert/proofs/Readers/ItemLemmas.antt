-- The lines of items: what leads on, and offences.
use Rattle.std.proofs.Common.{◌≡◌, ℕ, ◌+◌, ◌<◌, ◌≤◌, List, [], ◌∷◌, ◌++◌, length, arith, refl, ap, sym, ◌∙◌, subst, true, inl, inr, append_assoc, append-nil}
use Rattle.std.specs.Prelude.{◌⊎◌, codes}
use Rattle.rob_algebra.specs.Fraction.{Fraction}
use Rattle.rob_algebra.specs.Width.{Fits}
use Rattle.rob_meaning.specs.Certificates.{Status, optimal, infeasible, unbounded, Item}
use Rattle.rob_meaning.specs.Names.{Name}
use Rattle.rob_meaning.specs.Places.{Each, InOrder}
use Rattle.rob_cert.specs.Causes.{HasCause}
use Rattle.rob_cert.specs.declared.error.CertErr.{CertErr}
use Rattle.rob_cert.specs.declared.error.CertErr.TheVariants.{Rule, Memory}
use Rattle.rob_cert.specs.declared.error.Offence.{Offence}
use Rattle.rob_cert.specs.declared.error.Offence.TheVariants.{NoLine, NoShape, NoNumber}
use Rattle.rob_cert.specs.declared.kind.Vector.TheVariants.{At}
use Rattle.rob_cert.specs.Lines.{Line, item_line, item_lines, entry_lines}
use Rattle.rob_cert.specs.Kinds.{Kind, claims, values, scales, items, ends, entries, multipliers, may_follow, word_of, rank}
use Rattle.rob_cert.specs.Reading.{BeginsWithLine, words_in, Stage, behind, advanced, Follows, FitsLine, IsNotZero, IsNotZeroWord, IsCause, BreaksFrom, from}
use Rattle.rob_cert.specs.ReaderLines.{HasNoLineOf, IsSection, StandsAt, IsThereOrIn}
use Rattle.rob_cert.specs.Items.{StandsItem, IsItemLine, HasItemFault, IsItemRead, HasItemReadFault, ItemsLeadOn, IsGoodItem}
use Rattle.rob_cert.specs.Spelling.{Naming, words_of, spelled}
use Rattle.rob_cert.proofs.Readers.CauseLemmas.{cause_line, cause_shape, cause_number}
use Rattle.rob_cert.proofs.Readers.CoverLemmas.{InOrder-push}
use Rattle.rob_cert.proofs.Words.KindLemmas.{item_by_kind}
use Rattle.rob_cert.proofs.Readers.SectionLemmas.{Leads-append, further, section_further, section_line, offence_here}
use Rattle.rob_meaning.proofs.Lists.EachLemmas.{each_map, each_push}

-- ---- where items may stand
-- where items may stand, an entry of an item and a further item may stand behind one
pub entries_behind_item : (s : Status) (last : Kind) → may_follow s last items ≡ true
    → may_follow s items (entries At) ≡ true
entries_behind_item optimal last e = refl
entries_behind_item infeasible last e = refl
entries_behind_item unbounded claims e = absurd (cc)
entries_behind_item unbounded values e = absurd (cc)
entries_behind_item unbounded scales e = absurd (cc)
entries_behind_item unbounded items e = absurd (cc)
entries_behind_item unbounded ends e = absurd (cc)
entries_behind_item unbounded (entries v) e = absurd (cc)
entries_behind_item unbounded (multipliers w) e = absurd (cc)

pub item_behind_item : (s : Status) → may_follow s items (entries At) ≡ true → may_follow s items items ≡ true
item_behind_item optimal e = refl
item_behind_item infeasible e = refl
item_behind_item unbounded e = absurd (cc)

pub item_behind_entry : (s : Status) → may_follow s items (entries At) ≡ true → may_follow s (entries At) items ≡ true
item_behind_entry optimal e = refl
item_behind_entry infeasible e = refl
item_behind_entry unbounded e = absurd (cc)

-- the lines of items and one more
pub item_lines-push : (is : List Item) (i : Item)
    → item_lines (is ++ i ∷ []) ≡ item_lines is ++ (item_line i.form i.weight i.base ∷ entry_lines At 0 i.vector)
item_lines-push [] i = append-nil (item_line i.form i.weight i.base ∷ entry_lines At 0 i.vector)
item_lines-push (j ∷ is) i =
    let one = item_line j.form j.weight j.base ∷ entry_lines At 0 j.vector in
    ap (λ ls. one ++ ls) (item_lines-push is i)
    ∙ sym (append_assoc one (item_lines is) (item_line i.form i.weight i.base ∷ entry_lines At 0 i.vector))

pub record ItemsSoFar (names : Naming) (limit : ℕ) (text : List ℕ) (number : ℕ) (is : List Item) (form : ℕ)
    (rest : List ℕ) (line : ℕ) : Type 0 where
  pub section : IsSection names text number (item_lines is) rest line
  pub each : Each (IsGoodItem names) is
  pub ordered : InOrder (λ (a b : Item). a.form ≤ b.form) is
  pub below : Each (λ (a : Item). a.form ≤ form) is
  pub leads : ItemsLeadOn names limit form (item_lines is)
  pub no_entry : (is ≡ []) ⊎ HasNoLineOf (codes "at") rest

module _ (names : Naming) (limit : ℕ) where
  pub items_start : (text : List ℕ) (number : ℕ) → ItemsSoFar names limit text number [] 0 text number
  items_start text number = record {
    section = record { split = refl; counted = omega arith };
    each = tt;
    ordered = tt;
    below = tt;
    leads = λ s stage h. (stage, refl, h, inl (refl, refl));
    no_entry = inl refl;
  }

  pub item_follows : (s : Status) (form i : ℕ) (w b : Fraction) (stage : Stage) → StandsItem s form stage → form ≤ i
      → i < length names.forms → Follows names limit IsNotZero stage (item_line i w b)
  item_follows s form i w b stage h l m =
      subst (λ st. Follows names limit IsNotZero st (item_line i w b)) (sym h.is)
      (record { kind = h.may; placed = (subst (λ n. n ≤ i) (sym h.anew) l, m) })

  -- an item's entries may stand behind its line
  pub entries_stand : (s : Status) (form i : ℕ) (w b : Fraction) (stage : Stage) → StandsItem s form stage
      → StandsAt s (entries At) i 0 (advanced stage (item_line i w b))
  entries_stand s form i w b stage h = record {
    last = items;
    last_place = 0;
    is = ap (λ st. advanced st (item_line i w b)) h.is;
    may = entries_behind_item s h.last h.may;
    anew = refl;
  }

  -- behind an item's entries a further item may stand
  pub item_stands : (s : Status) (i least : ℕ) (lines : List (Line Fraction)) (stage new : Stage)
      → stage ≡ behind s items i 0 → may_follow s items (entries At) ≡ true → StandsAt s (entries At) i least new
      → IsThereOrIn s (entries At) stage lines new
      → StandsItem s i new
      × ((kind : Kind) × (form : ℕ) × (place : ℕ) × (new ≡ behind s kind form place) × (rank kind ≡ 8))
  item_stands s i least lines stage new here may at (inl e) = (
    record {
      last = items;
      last_form = i;
      last_place = 0;
      is = e.1 ∙ here;
      may = item_behind_item s may;
      anew = refl;
    },
    (items, i, 0, e.1 ∙ here, refl),
  )
  item_stands s i least lines stage new here may at (inr (form, place, e)) =
      let same : behind s (entries At) form place ≡ behind s at.last i at.last_place = sym e ∙ at.is in
      let forms : form ≡ i = cc in (
        record {
          last = entries At;
          last_form = i;
          last_place = place;
          is = e
              ∙ ap (λ f. behind s (entries At) f place) forms;
          may = item_behind_entry s may;
          anew = refl;
        },
        (entries At, form, place, e, refl),
      )

  pub items_more : (text : List ℕ) (number : ℕ) (is : List Item) (form : ℕ) (rest : List ℕ) (line : ℕ)
      (front back : List ℕ) (i : Item) (last : List ℕ) (n : ℕ)
      → ItemsSoFar names limit text number is form rest line → BeginsWithLine rest front back
      → IsItemRead names limit form (words_in front) back (line + 1) i last n
      → ItemsSoFar names limit text number (is ++ i ∷ []) i.form last n
  items_more text number is form rest line front back i last n so begins e =
      let new = item_line i.form i.weight i.base in
      let rests = entry_lines At 0 i.vector in
      let lines = item_lines-push is i in
      let least =
      each_map (λ (a : Item). a.form ≤ form) (λ (a : Item). a.form ≤ i.form)
      (λ a b. omega (arith, b, e.head.ordered)) is so.below in
      record {
        section = subst (λ ls. IsSection names text number ls last n) (sym lines)
            (section_further names limit (item_lines is) (new ∷ rests) text rest last number line n so.section
            (section_further names limit (new ∷ []) rests rest back last line (line + 1) n
            (section_line names limit rest front back line new begins e.head.is) e.vector.section));
        each = each_push (IsGoodItem names) is i so.each (record { form = e.head.named; numbers = e.vector.size });
        ordered = InOrder-push (λ (a b : Item). a.form ≤ b.form) is i so.ordered least;
        below = each_push (λ (a : Item). a.form ≤ i.form) is i least (omega arith);
        leads = subst (λ ls. ItemsLeadOn names limit i.form ls) (sym lines) (λ s stage h.
            let old = so.leads s stage h in
            let at = entries_stand s form i.form i.weight i.base old.0 old.2 in
            let then = e.vector.leads s i.form (advanced old.0 new) at in
            let stands =
            item_stands s i.form e.vector.least rests (advanced old.0 new) then.0
            (ap (λ st. advanced st new) old.2.is) (entries_behind_item s old.2.last old.2.may) then.2 then.3 in (
              then.0,
              Leads-append names limit stage (item_lines is) (new ∷ rests) old.0 then.0 old.1 (
                item_follows s form i.form i.weight i.base old.0 old.2 e.head.ordered e.head.named,
                (e.weight_fits, e.base_fits),
                then.1,
              ),
              stands.0,
              inr stands.1,
            ));
        no_entry = inr e.vector.stopped;
      }

  -- ---- offences
  item_cause : (s : Status) (last : Kind) (f p form : ℕ) (rest front back : List ℕ) (more : List Name) (o : Offence)
      → may_follow s last items ≡ true → from last items f ≡ form
      → BeginsWithLine rest front back → words_in front ≡ word_of items ∷ more
      → HasItemFault names limit form (words_in front) o → IsCause names limit (behind s last f p) rest o
  item_cause s last f p form rest front back more NoLine may anew begins words fault =
      cause_line names limit s last f p rest front back begins items more words fault
  item_cause s last f p form rest front back more NoShape may anew begins words fault =
      cause_shape names limit s last f p rest front back begins items more words may fault.0
      (λ line kind is fol.
      let (i, w, b, e) = item_by_kind line kind in
      let placed = (subst (Follows names limit IsNotZeroWord (behind s last f p)) e fol).placed in
      fault.1 i w b (record {
        is = sym is ∙ ap (words_of names) e;
        ordered = subst (λ n. n ≤ i) anew placed.0;
        named = placed.1;
      }))
  item_cause s last f p form rest front back more NoNumber may anew begins words fault =
      let (i, w, b, shape, none) = fault in
      cause_number names limit s last f p rest front back begins items more words (
        item_line i w b,
        sym shape.is,
        record {
          kind = may;
          placed = (subst (λ n. n ≤ i) (sym anew) shape.ordered, shape.named);
        },
      )
      (λ line kind is fol fits.
      let (j, x, y, e) = item_by_kind line kind in
      let both = subst (FitsLine names limit) e fits in
      none x y both.0 both.1 j (sym is ∙ ap (λ (l : Line Fraction). words_of names (spelled l)) e))

  pub items_fault : (text : List ℕ) (number : ℕ) (is : List Item) (form : ℕ) (rest : List ℕ) (line : ℕ)
      (front back : List ℕ) (more : List Name) (e : CertErr)
      → ItemsSoFar names limit text number is form rest line → BeginsWithLine rest front back
      → words_in front ≡ word_of items ∷ more
      → HasItemReadFault names limit form (words_in front) back (line + 1) line e
      → (s : Status) (stage : Stage) → StandsItem s 0 stage → HasCause names limit stage text number e
  items_fault text number is form rest line front back more (Rule rule n) so begins words
      (inl (o, r, l, fault)) s stage h =
      let (new, leads, at, there) = so.leads s stage h in (
        o,
        r,
        subst (λ k. BreaksFrom names limit stage text number o k) (sym l)
            (further names limit stage new (item_lines is) text rest number line line o leads so.section
            (offence_here names limit new rest front back line o begins
            (subst (λ st. IsCause names limit st rest o) (sym at.is)
            (item_cause s at.last at.last_form at.last_place form rest front back more o at.may
            at.anew begins words fault)))),
      )
  items_fault text number is form rest line front back more (Rule rule n) so begins words
      (inr (i, w, b, head, fw, fb, fault)) s stage h =
      let (new, leads, at, there) = so.leads s stage h in
      let line_of = item_line i w b in
      let (o, r, breaks) = fault s i (advanced new line_of) (entries_stand s form i w b new at) in (
        o,
        r,
        further names limit stage new (item_lines is) text rest number line n o leads so.section
            (further names limit new (advanced new line_of) (line_of ∷ []) rest back line (line + 1) n o
            (item_follows s form i w b new at head.ordered head.named, (fw, fb), refl)
            (section_line names limit rest front back line line_of begins head.is) breaks),
      )
  items_fault text number is form rest line front back more Memory so begins words fault s stage h = tt

  -- an offence of an entry behind an item's line
  pub item_read_fault : (form : ℕ) (words : List Name) (text : List ℕ) (number here i : ℕ) (w b : Fraction)
      (e : CertErr) → IsItemLine names limit form words i w b → Fits limit w → Fits limit b
      → ((s : Status) (f : ℕ) (stage : Stage) → StandsAt s (entries At) f 0 stage
      → HasCause names limit stage text number e) → HasItemReadFault names limit form words text number here e
  item_read_fault form words text number here i w b (Rule rule line) head fw fb fault =
      inr (i, w, b, head, fw, fb, fault)
  item_read_fault form words text number here i w b Memory head fw fb fault = tt
