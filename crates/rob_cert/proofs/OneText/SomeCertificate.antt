-- Each text is that of a certificate with numbers that fit, or breaks a rule at a line.
use Rattle.std.proofs.Common.{◌≡◌, ◌≢◌, ℕ, suc, ◌+◌, ◌^◌, ◌<◌, List, [], ◌∷◌, ◌++◌, length, arith, refl, ap, sym, ◌∙◌, subst, Bool, true, false, inl, inr, append_assoc}
use Rattle.std.specs.Prelude.{◌⊎◌, codes}
use Rattle.rob_algebra.specs.Fraction.{Fraction}
use Rattle.rob_algebra.specs.Width.{Fits}
use Rattle.rob_meaning.proofs.Lists.EachLemmas.{each_append}
use Rattle.rob_meaning.specs.Certificates.{Status, optimal, infeasible, unbounded, Cover, Item, Certificate}
use Rattle.rob_meaning.specs.Places.{0ℚ, 1ℚ, Each}
use Rattle.rob_meaning.specs.RobustModel.{RobustModel}
use Rattle.rob_cert.specs.Apart.{FitsLines}
use Rattle.rob_cert.specs.Causes.{HasCause, rule_of}
use Rattle.rob_cert.specs.declared.error.CertErr.TheVariants.{Rule}
use Rattle.rob_cert.specs.declared.error.Offence.TheVariants.{NoLine}
use Rattle.rob_cert.specs.declared.kind.Bound.TheVariants.{Value, Scale}
use Rattle.rob_cert.specs.declared.kind.Multipliers.{Multipliers}
use Rattle.rob_cert.specs.declared.kind.Multipliers.TheVariants.{Covers, Holds}
use Rattle.rob_cert.specs.declared.kind.Vector.{Vector}
use Rattle.rob_cert.specs.declared.kind.Vector.TheVariants.{Inside, Plan, Move}
use Rattle.rob_cert.specs.FirstLines.{status_bytes}
use Rattle.rob_cert.specs.Lines.{Line, status_line, value_line, scale_line, end_line, bound_lines, entry_lines, cover_lines, item_lines, lines_of}
use Rattle.rob_cert.specs.ReadSoFar.{SoFar}
use Rattle.rob_cert.specs.Kinds.{entries, multipliers, items, rank, is_used}
use Rattle.rob_cert.specs.Reading.{Lacks, BeginsWithLine, start, behind, FitsLine}
use Rattle.rob_cert.specs.ReaderLines.{IsSection}
use Rattle.rob_cert.specs.Covers.{AreGoodCovers}
use Rattle.rob_cert.specs.Items.{AreGoodItems}
use Rattle.rob_cert.specs.Spelling.{Naming, naming_of, entry_names, lines_text}
use Rattle.rob_cert.specs.Whole.{HasSize, IsTextOf, IsWellRead}
use Rattle.rob_cert.proofs.OneText.Decisions.{Decided, same_word, first_line}
use Rattle.rob_cert.proofs.Readers.EndLemmas.{items_part, unused_items, end_reads, end_missing, end_followed, no_end, end_line_is, whole_end}
use Rattle.rob_cert.proofs.Readers.EntryLemmas.{no_line}
use Rattle.rob_cert.proofs.Readers.FirstLinesLemmas.{value_fails, scale_fails, status_fails, bounds_fail, front_alone, front_is}
use Rattle.rob_cert.proofs.Readers.RankLemmas.{low_entries, low_multipliers, apart_multipliers}
use Rattle.rob_cert.proofs.Readers.PartLemmas.{unused_part, entries_part, entries_fails, covers_part, covers_fails, items_fails}
use Rattle.rob_cert.proofs.Readers.SectionLemmas.{section_further}
use Rattle.rob_cert.proofs.Writing.ShapeLemmas.{well_read}
use Rattle.rob_cert.proofs.OneText.SomeEntries.{some_entries}
use Rattle.rob_cert.proofs.OneText.SomeCovers.{some_covers}
use Rattle.rob_cert.proofs.OneText.SomeItems.{some_items}
use Rattle.rob_cert.proofs.OneText.SomeFirstLines.{leads_fit, some_direction, and_then, BoundRead, some_bound, some_status}

-- ---- part behind part
module _ (names : Naming) (limit : ℕ) (text : List ℕ) where
  -- the text breaks a rule at a line
  abbrev IsBroken : Type 0
  IsBroken = (rule : ℕ) × (line : ℕ) × HasCause names limit start text 1 (Rule rule line)

  -- the first lines are read
  record Front : Type 0 where
    status : Status
    value : Fraction
    scale : Fraction
    rest : List ℕ
    line : ℕ
    bounds : status ≡ infeasible → (value ≡ 0ℚ) × (scale ≡ 1ℚ)
    so : SoFar names limit status text (status_line status ∷ bound_lines status value scale) rest line 3

  -- the value and the scale are read
  record Bounds (rest : List ℕ) : Type 0 where
    value : Fraction
    scale : Fraction
    back : List ℕ
    value_fits : Fits limit value
    scale_fits : Fits limit scale
    section : IsSection names rest 2 (value_line value ∷ (scale_line scale ∷ [])) back 4

  some_bounds : (s : Status) (rest : List ℕ) → s ≢ infeasible → text ≡ status_bytes s ++ 10 ∷ rest
      → Bounds rest ⊎ IsBroken
  some_bounds s rest plan is = by_value (some_bound names limit Value rest 2)
    where
      by_scale : (v : Fraction) (back : List ℕ) → Fits limit v → IsSection names rest 2 (value_line v ∷ []) back 3
          → BoundRead names limit Scale back 3 → Bounds rest ⊎ IsBroken
      by_scale v back f section (inl (c, last, g, more)) = inl (record {
        value = v;
        scale = c;
        back = last;
        value_fits = f;
        scale_fits = g;
        section = section_further names limit (value_line v ∷ []) (scale_line c ∷ []) rest back last 2 3 4 section more;
      })
      by_scale v back f section (inr (o, fault)) =
          inr (
            rule_of o,
            3,
            bounds_fail names limit text s rest (Rule (rule_of o) 3) is
                (scale_fails names limit s plan rest 2 v back 3 o (rule_of o) refl f section fault),
          )

      by_value : BoundRead names limit Value rest 2 → Bounds rest ⊎ IsBroken
      by_value (inl (v, back, f, section)) = by_scale v back f section (some_bound names limit Scale back 3)
      by_value (inr (o, fault)) =
          inr (
            rule_of o,
            2,
            bounds_fail names limit text s rest (Rule (rule_of o) 2) is
                (value_fails names limit s plan rest 2 o (rule_of o) refl fault),
          )

  front_by : (s : Status) (rest : List ℕ) → text ≡ status_bytes s ++ 10 ∷ rest → Front ⊎ IsBroken
  front_by optimal rest is = and_then (some_bounds optimal rest (λ e. cc) is) (λ b. inl (record {
    status = optimal;
    value = b.value;
    scale = b.scale;
    rest = b.back;
    line = 4;
    bounds = λ e. absurd (cc);
    so = front_is names limit optimal text rest b.back 4 b.value b.scale is b.value_fits b.scale_fits b.section;
  }))
  front_by unbounded rest is = and_then (some_bounds unbounded rest (λ e. cc) is) (λ b. inl (record {
    status = unbounded;
    value = b.value;
    scale = b.scale;
    rest = b.back;
    line = 4;
    bounds = λ e. absurd (cc);
    so = front_is names limit unbounded text rest b.back 4 b.value b.scale is b.value_fits b.scale_fits b.section;
  }))
  front_by infeasible rest is =
      inl (record {
        status = infeasible;
        value = 0ℚ;
        scale = 1ℚ;
        rest = rest;
        line = 2;
        bounds = λ e. (refl, refl);
        so = front_alone names limit text rest rest 2 is (record { split = refl; counted = refl });
      })

  some_front : Front ⊎ IsBroken
  some_front = elim (some_status text) [
    | inl h ↦ front_by h.0 h.1 h.2
    | inr none ↦ inr (rule_of NoLine, 1, (NoLine, refl, status_fails names limit text none))
  ]

  module _ (s : Status) where
    -- a vector is read behind the lines
    record VectorRead (v : Vector) (lines : List (Line Fraction)) : Type 0 where
      numbers : List Fraction
      rest : List ℕ
      line : ℕ
      size : HasSize names s v numbers
      so : SoFar names limit s text (lines ++ entry_lines v 0 numbers) rest line (suc (rank (entries v)))

    -- the lines up to the vector's last
    abbrev behind_vector : {v : Vector} {lines : List (Line Fraction)} → VectorRead v lines → List (Line Fraction)
    behind_vector {v} {lines} r = lines ++ entry_lines v 0 r.numbers

    some_vector : (v : Vector) (lines : List (Line Fraction)) (rest : List ℕ) (line : ℕ) → rank (entries v) ≢ 8
        → SoFar names limit s text lines rest line (rank (entries v)) → VectorRead v lines ⊎ IsBroken
    some_vector v lines rest line ne so = by (is_used s (entries v)) refl
      where
        by : (t : Bool) → is_used s (entries v) ≡ t → VectorRead v lines ⊎ IsBroken
        by true e = elim (some_entries names limit v rest line) [
          | inl h ↦ (
              let (qs, last, at, short, are) = h in
              inl (record {
                numbers = qs;
                rest = last;
                line = at;
                size = rw e are.size;
                so = entries_part names limit s v (length (entry_names names v)) rest line qs last at (low_entries v)
                    ne e are text lines so;
              }))
          | inr h ↦ inr (h.0, h.1, entries_fails names limit s v rest line (Rule h.0 h.1) ne e h.2 text lines so)
        ]
        by false e =
            inl (record {
              numbers = [];
              rest = rest;
              line = line;
              size = rw e refl;
              so = unused_part names limit s (entries v) rest line (low_entries v) ne e text lines so;
            })

    -- covers are read behind the lines
    record CoversRead (which : Multipliers) (lines : List (Line Fraction)) : Type 0 where
      list : List Cover
      rest : List ℕ
      line : ℕ
      good : AreGoodCovers names (is_used s (multipliers which)) list
      so : SoFar names limit s text (lines ++ cover_lines which list) rest line (suc (rank (multipliers which)))

    abbrev behind_covers : {which : Multipliers} {lines : List (Line Fraction)}
        → CoversRead which lines → List (Line Fraction)
    behind_covers {which} {lines} r = lines ++ cover_lines which r.list

    some_list : (which : Multipliers) (lines : List (Line Fraction)) (rest : List ℕ) (line : ℕ)
        → SoFar names limit s text lines rest line (rank (multipliers which)) → CoversRead which lines ⊎ IsBroken
    some_list which lines rest line so = by (is_used s (multipliers which)) refl
      where
        by : (t : Bool) → is_used s (multipliers which) ≡ t → CoversRead which lines ⊎ IsBroken
        by true e = elim (some_covers names limit which rest line) [
          | inl h ↦ (
              let (cs, last, at, are) = h in
              inl (record {
                list = cs;
                rest = last;
                line = at;
                good = record {
                  each = are.each;
                  ordered = are.ordered;
                  unused = λ f. absurd (let p : true ≡ false = sym e ∙ f in cc);
                };
                so = covers_part names limit s which rest line cs last at (low_multipliers which)
                    (apart_multipliers which) e are text lines so;
              }))
          | inr h ↦ inr (h.0, h.1, covers_fails names limit s which rest line (Rule h.0 h.1) e h.2 text lines so)
        ]
        by false e = inl (record {
          list = [];
          rest = rest;
          line = line;
          good = record { each = tt; ordered = tt; unused = λ f. refl };
          so = unused_part names limit s (multipliers which) rest line (low_multipliers which)
              (apart_multipliers which) e text lines so;
        })

    -- items are read behind the lines
    record ItemsRead (lines : List (Line Fraction)) : Type 0 where
      list : List Item
      rest : List ℕ
      line : ℕ
      good : AreGoodItems names (is_used s items) list
      so : SoFar names limit s text (lines ++ item_lines list) rest line 9

    abbrev behind_items : {lines : List (Line Fraction)} → ItemsRead lines → List (Line Fraction)
    behind_items {lines} r = lines ++ item_lines r.list

    some_item_list : (lines : List (Line Fraction)) (rest : List ℕ) (line : ℕ)
        → SoFar names limit s text lines rest line 8 → ItemsRead lines ⊎ IsBroken
    some_item_list lines rest line so = by (is_used s items) refl
      where
        by : (t : Bool) → is_used s items ≡ t → ItemsRead lines ⊎ IsBroken
        by true e = elim (some_items names limit rest line) [
          | inl h ↦ (
              let (list, last, at, are) = h in
              inl (record {
                list = list;
                rest = last;
                line = at;
                good = record {
                  each = are.each;
                  ordered = are.ordered;
                  unused = λ f. absurd (let p : true ≡ false = sym e ∙ f in cc);
                };
                so = items_part names limit s rest line list last at e are text lines so;
              }))
          | inr h ↦ inr (h.0, h.1, items_fails names limit s rest line (Rule h.0 h.1) e h.2 text lines so)
        ]
        by false e =
            inl (record {
              list = [];
              rest = rest;
              line = line;
              good = record {
                each = tt;
                ordered = tt;
                unused = λ f. refl;
              };
              so = unused_items names limit s rest line e text lines so;
            })

    -- the end is read behind the lines, and nothing stands behind it
    abbrev EndRead : List (Line Fraction) → Type 0
    EndRead lines =
        (text ≡ lines_text names (lines ++ end_line ∷ [])) × Each (FitsLine names limit) (lines ++ end_line ∷ [])

    some_end : (lines : List (Line Fraction)) (rest : List ℕ) (line : ℕ) → SoFar names limit s text lines rest line 9
        → EndRead lines ⊎ IsBroken
    some_end lines rest line so = by (first_line rest)
      where
        missing : ((after : List ℕ) → BeginsWithLine rest (codes "end") after → ⊥) → EndRead lines ⊎ IsBroken
        missing none =
            inr (rule_of NoLine, line, (NoLine, refl, end_missing names limit s text lines rest line so none))

        last : (front back : List ℕ) → BeginsWithLine rest front back → front ≡ codes "end" → EndRead lines ⊎ IsBroken
        last front [] b e = inl (
          end_reads names limit s text lines rest line so (whole_end rest front [] b.split e refl),
          each_append (FitsLine names limit) lines (end_line ∷ [])
              (leads_fit names limit start lines (behind s so.last so.form so.place) so.leads) (tt, tt),
        )
        last front (x ∷ back) b e =
            inr (
              rule_of NoLine,
              line + 1,
              (
                NoLine,
                refl,
                end_followed names limit s text lines rest line so (x ∷ back)
                    (end_line_is rest front (x ∷ back) b.split b.whole e) (λ none. cc),
              ),
            )

        told : (front back : List ℕ) → BeginsWithLine rest front back → Decided (front ≡ codes "end")
            → EndRead lines ⊎ IsBroken
        told front back b (inl e) = last front back b e
        told front back b (inr ne) = missing (no_end rest front back b.split b.whole ne)

        by : ((line : List ℕ) × (after : List ℕ) × BeginsWithLine rest line after) ⊎ Lacks 10 rest
            → EndRead lines ⊎ IsBroken
        by (inl (front, back, b)) = told front back b (same_word front (codes "end"))
        by (inr none) = missing (λ after b. no_line rest (codes "end") after none b)

  -- ---- the whole
  -- the text is that of a certificate by the names, with numbers that fit
  record Spelled : Type 0 where
    cert : Certificate
    is : text ≡ lines_text names (lines_of cert)
    well_read : IsWellRead names cert
    fits : Each (FitsLine names limit) (lines_of cert)

  regroup : (x : Line Fraction) (b i p t v h l e : List (Line Fraction))
      → (((((((x ∷ b) ++ i) ++ p) ++ t) ++ v) ++ h) ++ l) ++ e ≡ x ∷ (b ++ (i ++ (p ++ (t ++ (v ++ (h ++ (l ++ e)))))))
  regroup x b i p t v h l e = simp append_assoc

  -- what is read part by part is the text of a certificate
  whole : (f : Front) (i : VectorRead f.status Inside (status_line f.status ∷ bound_lines f.status f.value f.scale))
      (p : VectorRead f.status Plan (behind_vector f.status i))
      (t : VectorRead f.status Move (behind_vector f.status p))
      (v : CoversRead f.status Covers (behind_vector f.status t))
      (h : CoversRead f.status Holds (behind_covers f.status v)) (l : ItemsRead f.status (behind_covers f.status h))
      → EndRead f.status (behind_items f.status l) → Spelled
  whole f i p t v h l e =
      let (step, bound, direction) = some_direction t.numbers in
      let c : Certificate = record {
        status = f.status;
        value = f.value;
        scale = f.scale;
        inside = i.numbers;
        plan = p.numbers;
        step = step;
        step_bound = bound;
        covers = v.list;
        holds = h.list;
        items = l.list;
      } in
      let x = status_line f.status in
      let b = bound_lines f.status f.value f.scale in
      let is = regroup x b (entry_lines Inside 0 i.numbers) (entry_lines Plan 0 p.numbers)
      (entry_lines Move 0 t.numbers) (cover_lines Covers v.list) (cover_lines Holds h.list)
      (item_lines l.list) (end_line ∷ [])
      ∙ ap (λ m. x
      ∷ (b ++ (entry_lines Inside 0 i.numbers
      ++ (entry_lines Plan 0 p.numbers
      ++ (m ++ (cover_lines Covers v.list
      ++ (cover_lines Holds h.list ++ (item_lines l.list ++ end_line ∷ [])))))))) direction.lines in
      record {
        cert = c;
        is = e.0 ∙ ap (lines_text names) is;
        well_read = record {
          moved = t.numbers;
          sizes = record { inside_size = i.size; plan_size = p.size; moved_size = t.size };
          direction = direction;
          lists = record { good_covers = v.good; good_holds = h.good; good_items = l.good };
          bounds = f.bounds;
        };
        fits = subst (Each (FitsLine names limit)) is e.1;
      }

  some_cert : Spelled ⊎ IsBroken
  some_cert = and_then some_front (λ f.
      and_then (some_vector f.status Inside _ f.rest f.line (λ e. omega arith) f.so) (λ i.
      and_then (some_vector f.status Plan _ i.rest i.line (λ e. omega arith) i.so) (λ p.
      and_then (some_vector f.status Move _ p.rest p.line (λ e. omega arith) p.so) (λ t.
      and_then (some_list f.status Covers _ t.rest t.line t.so) (λ v.
      and_then (some_list f.status Holds _ v.rest v.line v.so) (λ h.
      and_then (some_item_list f.status _ h.rest h.line h.so) (λ l.
      and_then (some_end f.status _ l.rest l.line l.so) (λ e. inl (whole f i p t v h l e)))))))))

-- each text of fewer than 2^32 bytes is that of a certificate in its shape with
-- numbers that fit, or breaks a rule at a line
pub some_certificate : (m : RobustModel) (limit : ℕ) (text : List ℕ) → length text < 2 ^ 32
    → ((c : Certificate) × IsTextOf m c text × FitsLines limit m c)
    ⊎ ((rule : ℕ) × (line : ℕ) × HasCause (naming_of m) limit start text 1 (Rule rule line))
some_certificate m limit text small = elim (some_cert (naming_of m) limit text) [
  | inl h ↦ inl (h.cert, well_read m h.cert text small h.is h.well_read, h.fits)
  | inr h ↦ inr h
]
