-- The parts of a text behind one another: what each part adds, and that its errors are the text's.
use Rattle.std.proofs.Common.{◌≡◌, ◌≢◌, ℕ, suc, ◌<◌, ◌≤◌, List, [], ◌++◌, arith, refl, ap, sym, ◌∙◌, subst, true, false, inl, inr, append-nil}
use Rattle.std.specs.Prelude.{◌⊎◌}
use Rattle.rob_algebra.specs.Fraction.{Fraction}
use Rattle.rob_meaning.specs.Certificates.{Status, Cover}
use Rattle.rob_cert.specs.Causes.{HasCause}
use Rattle.rob_cert.specs.declared.error.CertErr.{CertErr}
use Rattle.rob_cert.specs.declared.error.CertErr.TheVariants.{Rule, Memory}
use Rattle.rob_cert.specs.declared.kind.Multipliers.{Multipliers}
use Rattle.rob_cert.specs.declared.kind.Vector.{Vector}
use Rattle.rob_cert.specs.declared.kind.Vector.TheVariants.{At}
use Rattle.rob_cert.specs.Lines.{Line, entry_lines, cover_lines}
use Rattle.rob_cert.specs.ReadSoFar.{IsReady, SoFar, Extends, Fails}
use Rattle.rob_cert.specs.Kinds.{Kind, items, entries, multipliers, rank, is_used, may_follow, word_of}
use Rattle.rob_cert.specs.Reading.{from, Stage, start, behind, Leads}
use Rattle.rob_cert.specs.ReaderLines.{IsSection, HasNoLineOf, StandsAt, StandsBehind, IsThereOrIn}
use Rattle.rob_cert.specs.Entries.{AreEntries}
use Rattle.rob_cert.specs.Covers.{AreCovers}
use Rattle.rob_cert.specs.Items.{StandsItem}
use Rattle.rob_cert.specs.Spelling.{Naming, lines_text}
use Rattle.rob_cert.proofs.Readers.SectionLemmas.{Leads-append, further, section_further}
use Rattle.rob_cert.proofs.Readers.RankLemmas.{rank_injective, used, ready_entries, ready_multipliers, ready_more, lt_cases, entries_le, multipliers_le}

pub none_read : (names : Naming) (more : List (Line Fraction)) (rest rest' : List ℕ) (line line' : ℕ) → more ≡ []
    → IsSection names rest line more rest' line' → (rest ≡ rest')
none_read names more rest rest' line line' none h = h.split ∙ ap (λ ls. lines_text names ls ++ rest') none

module _ (names : Naming) (limit : ℕ) (s : Status) where
  -- a part that is not used
  pub unused_part : (kind : Kind) (rest : List ℕ) (line : ℕ) → 3 ≤ rank kind → rank kind ≢ 8 → is_used s kind ≡ false
      → Extends names limit s (rank kind) (suc (rank kind)) rest line [] rest line
  unused_part kind rest line l ne none text lines so = record {
    last = so.last;
    form = so.form;
    place = so.place;
    leads = subst (λ ls. Leads names limit start ls (behind s so.last so.form so.place))
        (sym (append-nil lines)) so.leads;
    section = subst (λ ls. IsSection names text 1 ls rest line) (sym (append-nil lines)) so.section;
    ready = ready_more s so.last (rank kind) so.ready;
    passed = λ other may m. passed_by other may (lt_cases (rank other) (rank kind) m);
  }
    where
      passed_by : (other : Kind) → may_follow s so.last other ≡ true → (rank other < rank kind)
          ⊎ (rank other ≡ rank kind) → HasNoLineOf (word_of other) rest
      passed_by other may (inl m) = so.passed other may m
      passed_by other may (inr e) =
          let same = rank_injective other kind ne e in
          absurd (let t : is_used s kind ≡ true =
          subst (λ k. is_used s k ≡ true) same (used s so.last other (subst (λ n. 3 ≤ n) (sym e) l) may) in cc)

  -- ---- a part of a kind that is used
  -- the kind may begin
  begins_at : (n : ℕ) (kind : Kind) (text : List ℕ) (lines : List (Line Fraction)) (rest : List ℕ) (line : ℕ)
      (so : SoFar names limit s text lines rest line n) → n ≤ rank kind → is_used s kind ≡ true → kind ≢ entries At
      → (may_follow s so.last kind ≡ true) × ((k : ℕ) → from so.last kind k ≡ 0)
  begins_at n kind text lines rest line so l u ne = let h = so.ready kind l u ne in (h.0, λ k. rw h.1 refl)

  pub part_step : (kind : Kind) (rest : List ℕ) (line : ℕ) (more : List (Line Fraction)) (rest' : List ℕ) (line' : ℕ)
      (text : List ℕ) (lines : List (Line Fraction))
      (so : SoFar names limit s text lines rest line (rank kind)) (new : Stage)
      → 3 ≤ rank kind → rank kind ≢ 8 → IsReady s kind (suc (rank kind))
      → ((other : Kind) → may_follow s kind other ≡ true → rank kind ≤ rank other)
      → Leads names limit (behind s so.last so.form so.place) more new → IsSection names rest line more rest' line'
      → IsThereOrIn s kind (behind s so.last so.form so.place) more new → HasNoLineOf (word_of kind) rest'
      → SoFar names limit s text (lines ++ more) rest' line' (suc (rank kind))
  part_step kind rest line more rest' line' text lines so new l ne ready order leads section
      (inl (none, same)) stopped =
      let rests = none_read names more rest rest' line line' none section in
      record {
        last = so.last;
        form = so.form;
        place = so.place;
        leads = Leads-append names limit start lines more (behind s so.last so.form so.place)
            (behind s so.last so.form so.place) so.leads
            (subst (λ st. Leads names limit (behind s so.last so.form so.place) more st) same leads);
        section = section_further names limit lines more text rest rest' 1 line line' so.section section;
        ready = ready_more s so.last (rank kind) so.ready;
        passed = λ other may m. by other may (lt_cases (rank other) (rank kind) m);
      }
    where
      by : (other : Kind) → may_follow s so.last other ≡ true → (rank other < rank kind) ⊎ (rank other ≡ rank kind)
          → HasNoLineOf (word_of other) rest'
      by other may (inl m) =
          subst (HasNoLineOf (word_of other))
          (none_read names more rest rest' line line' none section) (so.passed other may m)
      by other may (inr e) = subst (λ k. HasNoLineOf (word_of k) rest') (sym (rank_injective other kind ne e)) stopped
  part_step kind rest line more rest' line' text lines so new l ne ready order leads section
      (inr (form, place, e)) stopped = record {
        last = kind;
        form = form;
        place = place;
        leads = Leads-append names limit start lines more (behind s so.last so.form so.place) (behind s kind form place)
            so.leads (subst (λ st. Leads names limit (behind s so.last so.form so.place) more st) e leads);
        section = section_further names limit lines more text rest rest' 1 line line' so.section section;
        ready = ready;
        passed = λ other may m. subst (λ k. HasNoLineOf (word_of k) rest')
            (sym (rank_injective other kind ne (omega (arith, order other may, m)))) stopped;
      }

  -- entries
  stands_entries : (v : Vector) (text : List ℕ) (lines : List (Line Fraction)) (rest : List ℕ) (line : ℕ)
      (so : SoFar names limit s text lines rest line (rank (entries v)))
      → is_used s (entries v) ≡ true → rank (entries v) ≢ 8
      → StandsAt s (entries v) so.form 0 (behind s so.last so.form so.place)
  stands_entries v text lines rest line so u ne =
      let b = begins_at (rank (entries v)) (entries v) text lines rest line so (omega arith) u (λ e. ne (ap rank e)) in
      record { last = so.last; last_place = so.place; is = refl; may = b.0; anew = b.1 so.place }

  pub entries_part : (v : Vector) (count : ℕ) (rest : List ℕ) (line : ℕ) (qs : List Fraction) (rest' : List ℕ)
      (line' : ℕ) → 3 ≤ rank (entries v) → rank (entries v) ≢ 8 → is_used s (entries v) ≡ true
      → AreEntries names limit v count rest line qs rest' line'
      → Extends names limit s (rank (entries v)) (suc (rank (entries v))) rest line (entry_lines v 0 qs) rest' line'
  entries_part v count rest line qs rest' line' l ne u r text lines so =
      let (new, leads, at, there) =
      r.leads s so.form (behind s so.last so.form so.place) (stands_entries v text lines rest line so u ne) in
      part_step (entries v) rest line (entry_lines v 0 qs) rest' line' text lines so new l ne (ready_entries s v)
      (λ other may. entries_le s v other ne may) leads r.section there r.stopped

  pub entries_fails : (v : Vector) (rest : List ℕ) (line : ℕ) (e : CertErr) → rank (entries v) ≢ 8
      → is_used s (entries v) ≡ true
      → ((t : Status) (form : ℕ) (stage : Stage) → StandsAt t (entries v) form 0 stage
      → HasCause names limit stage rest line e) → Fails names limit s (rank (entries v)) rest line e
  entries_fails v rest line (Rule rule l) ne u fault text lines so =
      let (o, r, breaks) =
      fault s so.form (behind s so.last so.form so.place) (stands_entries v text lines rest line so u ne) in (
        o,
        r,
        further names limit start (behind s so.last so.form so.place) lines text rest 1 line l o
            so.leads so.section breaks,
      )
  entries_fails v rest line Memory ne u fault text lines so = tt

  -- covers
  stands_covers : (w : Multipliers) (text : List ℕ) (lines : List (Line Fraction)) (rest : List ℕ) (line : ℕ)
      (so : SoFar names limit s text lines rest line (rank (multipliers w))) → is_used s (multipliers w) ≡ true
      → StandsBehind s (multipliers w) 0 0 (behind s so.last so.form so.place)
  stands_covers w text lines rest line so u =
      let b = begins_at (rank (multipliers w)) (multipliers w) text lines rest line so (omega arith) u (λ e. cc) in
      record {
        last = so.last;
        last_form = so.form;
        last_place = so.place;
        is = refl;
        may = b.0;
        form_anew = b.1 so.form;
        place_anew = b.1 so.place;
      }

  pub covers_part : (w : Multipliers) (rest : List ℕ) (line : ℕ) (cs : List Cover) (rest' : List ℕ) (line' : ℕ)
      → 3 ≤ rank (multipliers w) → rank (multipliers w) ≢ 8 → is_used s (multipliers w) ≡ true
      → AreCovers names limit w rest line cs rest' line'
      → Extends names limit s (rank (multipliers w)) (suc (rank (multipliers w))) rest line
      (cover_lines w cs) rest' line'
  covers_part w rest line cs rest' line' l ne u r text lines so =
      let (new, leads, at, there) =
      r.leads s (behind s so.last so.form so.place) (stands_covers w text lines rest line so u) in
      part_step (multipliers w) rest line (cover_lines w cs) rest' line' text lines so new l ne (ready_multipliers s w)
      (λ other may. multipliers_le s w other ne may) leads r.section there r.stopped

  pub covers_fails : (w : Multipliers) (rest : List ℕ) (line : ℕ) (e : CertErr) → is_used s (multipliers w) ≡ true
      → ((t : Status) (stage : Stage) → StandsBehind t (multipliers w) 0 0 stage
      → HasCause names limit stage rest line e) → Fails names limit s (rank (multipliers w)) rest line e
  covers_fails w rest line (Rule rule l) u fault text lines so =
      let (o, r, breaks) = fault s (behind s so.last so.form so.place) (stands_covers w text lines rest line so u) in (
        o,
        r,
        further names limit start (behind s so.last so.form so.place) lines text rest 1 line l o
            so.leads so.section breaks,
      )
  covers_fails w rest line Memory u fault text lines so = tt

  -- items
  pub stands_items : (text : List ℕ) (lines : List (Line Fraction)) (rest : List ℕ) (line : ℕ)
      (so : SoFar names limit s text lines rest line 8) → is_used s items ≡ true
      → StandsItem s 0 (behind s so.last so.form so.place)
  stands_items text lines rest line so u =
      let b = begins_at 8 items text lines rest line so (omega arith) u (λ e. cc) in
      record { last = so.last; last_form = so.form; last_place = so.place; is = refl; may = b.0; anew = b.1 so.form }

  pub items_fails : (rest : List ℕ) (line : ℕ) (e : CertErr) → is_used s items ≡ true
      → ((t : Status) (stage : Stage) → StandsItem t 0 stage → HasCause names limit stage rest line e)
      → Fails names limit s 8 rest line e
  items_fails rest line (Rule rule l) u fault text lines so =
      let (o, r, breaks) = fault s (behind s so.last so.form so.place) (stands_items text lines rest line so u) in (
        o,
        r,
        further names limit start (behind s so.last so.form so.place) lines text rest 1 line l o
            so.leads so.section breaks,
      )
  items_fails rest line Memory u fault text lines so = tt
