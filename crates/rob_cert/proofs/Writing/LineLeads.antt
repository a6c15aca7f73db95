-- Entries, covers and items, one behind another, lead on: what stands behind the last line of them.
use Rattle.std.proofs.Common.{◌≡◌, ◌≢◌, ℕ, suc, ◌+◌, ◌≤◌, List, [], ◌∷◌, ◌++◌, length, arith, refl, ap, ◌∙◌, Bool, true, false, inl, inr}
use Rattle.std.specs.Prelude.{if◌then◌else◌}
use Rattle.rob_algebra.specs.Fraction.{Fraction}
use Rattle.rob_algebra.specs.FractionOrder.{eq_ℚ, eq_ℚ-decides}
use Rattle.rob_meaning.proofs.Lists.EachLemmas.{each_left, each_right, each_map}
use Rattle.rob_meaning.specs.Certificates.{Status, Cover, Item, IsBefore}
use Rattle.rob_meaning.specs.Places.{0ℚ, Each, InOrder}
use Rattle.rob_cert.specs.declared.kind.Multipliers.{Multipliers}
use Rattle.rob_cert.specs.declared.kind.Vector.{Vector}
use Rattle.rob_cert.specs.declared.kind.Vector.TheVariants.{At}
use Rattle.rob_cert.specs.Lines.{Line, entry_line, cover_line, item_line, entry_lines, cover_lines, item_lines}
use Rattle.rob_cert.specs.Kinds.{Kind, entries, multipliers, rank}
use Rattle.rob_cert.specs.Reading.{Stage, behind, advanced, FitsLine, IsAtLeast, Leads}
use Rattle.rob_cert.specs.ReaderLines.{StandsAt, StandsBehind, IsThereOrIn}
use Rattle.rob_cert.specs.Covers.{IsGoodCover}
use Rattle.rob_cert.specs.Items.{StandsItem, IsThereOrInItem, IsGoodItem}
use Rattle.rob_cert.specs.Spelling.{Naming, entry_names}
use Rattle.rob_cert.proofs.Readers.CoverLemmas.{cover_follows, multipliers_again}
use Rattle.rob_cert.proofs.Readers.ItemLemmas.{item_follows, entries_stand, item_stands, entries_behind_item}
use Rattle.rob_cert.proofs.Words.KindLemmas.{entries_again, from_entries, from_multipliers}
use Rattle.rob_cert.proofs.Readers.SectionLemmas.{Leads-append, entry_follows, entry_advanced}

module _ (names : Naming) (limit : ℕ) where
  -- ---- entries
  -- the lines lead on, behind the last of them as before it
  pub record EntriesLed (s : Status) (form : ℕ) (v : Vector) (stage : Stage) (lines : List (Line Fraction))
      : Type 0 where
    pub new : Stage
    pub leads : Leads names limit stage lines new
    pub least : ℕ
    pub stands : StandsAt s (entries v) form least new
    pub there : IsThereOrIn s (entries v) stage lines new

  then_in : (s : Status) (kind : Kind) (form place : ℕ) (stage new : Stage) (x : Line Fraction)
      (xs : List (Line Fraction)) → advanced stage x ≡ behind s kind form place
      → IsThereOrIn s kind (advanced stage x) xs new → IsThereOrIn s kind stage (x ∷ xs) new
  then_in s kind form place stage new x xs is (inl (none, same)) = inr (form, place, same ∙ is)
  then_in s kind form place stage new x xs is (inr w) = inr w

  pub entries_lead : (s : Status) (form : ℕ) (v : Vector) (p : ℕ) (qs : List Fraction) (stage : Stage) (least : ℕ)
      → p + length qs ≤ length (entry_names names v) → Each (FitsLine names limit) (entry_lines v p qs) → least ≤ p
      → StandsAt s (entries v) form least stage → EntriesLed s form v stage (entry_lines v p qs)
  entries_lead s form v p [] stage least room fits l h = record {
    new = stage;
    leads = refl;
    least = least;
    stands = h;
    there = inl (refl, refl);
  }
  entries_lead s form v p (q ∷ qs) stage least room fits l h =
      by (eq_ℚ q 0ℚ) refl fits (λ st n f k at. entries_lead s form v (suc p) qs st n (omega arith) f k at)
    where
      by : (t : Bool) → eq_ℚ q 0ℚ ≡ t
          → Each (FitsLine names limit)
          (if t then entry_lines v (suc p) qs else (entry_line v p q ∷ entry_lines v (suc p) qs))
          → ((st : Stage) (n : ℕ) → Each (FitsLine names limit) (entry_lines v (suc p) qs) → n ≤ suc p
          → StandsAt s (entries v) form n st → EntriesLed s form v st (entry_lines v (suc p) qs))
          → EntriesLed s form v stage
          (if t then entry_lines v (suc p) qs else (entry_line v p q ∷ entry_lines v (suc p) qs))
      by true e f again = again stage least f (omega arith) h
      by false e f again =
          let ne : q ≢ 0ℚ = λ z. let t : eq_ℚ q 0ℚ ≡ true = (eq_ℚ-decides q 0ℚ).1 z in cc in
          let at = entry_advanced names limit v s form least p q stage h in
          let stands : StandsAt s (entries v) form (suc p) (advanced stage (entry_line v p q)) = record {
            last = entries v;
            last_place = suc p;
            is = at;
            may = entries_again s h.last v h.may;
            anew = from_entries v (suc p);
          } in
          let rest = again (advanced stage (entry_line v p q)) (suc p) f.1 (omega arith) stands in
          record {
            new = rest.new;
            leads = (entry_follows names limit v s form least p q stage h l (omega arith) ne, f.0, rest.leads);
            least = rest.least;
            stands = rest.stands;
            there = then_in s (entries v) form (suc p) stage rest.new (entry_line v p q)
                (entry_lines v (suc p) qs) at rest.there;
          }

  -- ---- covers
  pub record CoversLed (s : Status) (which : Multipliers) (stage : Stage) (lines : List (Line Fraction)) : Type 0 where
    pub new : Stage
    pub leads : Leads names limit stage lines new
    pub there : IsThereOrIn s (multipliers which) stage lines new

  behind_least : (c d : Cover) → IsBefore c d → IsAtLeast c.form (suc c.set_row) d.form d.set_row
  behind_least c d (inl l) = inl l
  behind_least c d (inr e) = inr (e.0, omega (arith, e.1))

  pub covers_lead : (s : Status) (which : Multipliers) (form place : ℕ) (cs : List Cover) (stage : Stage)
      → Each (IsGoodCover names) cs → InOrder IsBefore cs
      → Each (λ (c : Cover). IsAtLeast form place c.form c.set_row) cs
      → Each (FitsLine names limit) (cover_lines which cs) → StandsBehind s (multipliers which) form place stage
      → CoversLed s which stage (cover_lines which cs)
  covers_lead s which form place [] stage good order least fits h = record {
    new = stage;
    leads = refl;
    there = inl (refl, refl);
  }
  covers_lead s which form place (c ∷ cs) stage good order least fits h =
      let line = cover_line which c.form c.set_row c.amount in
      let at : advanced stage line ≡ behind s (multipliers which) c.form (suc c.set_row) =
      ap (λ st. advanced st line) h.is in
      let stands : StandsBehind s (multipliers which) c.form (suc c.set_row) (advanced stage line) = record {
        last = multipliers which;
        last_form = c.form;
        last_place = suc c.set_row;
        is = at;
        may = multipliers_again s h.last which h.may;
        form_anew = from_multipliers which c.form;
        place_anew = from_multipliers which (suc c.set_row);
      } in
      let rest = covers_lead s which c.form (suc c.set_row) cs (advanced stage line) good.1 order.1
      (each_map (IsBefore c) (λ (d : Cover). IsAtLeast c.form (suc c.set_row) d.form d.set_row)
      (λ d b. behind_least c d b) cs order.0) fits.1 stands in
      record {
        new = rest.new;
        leads = (
          cover_follows names limit which s form place c.form c.set_row c.amount stage h least.0 good.0.form
              good.0.set_row good.0.amount,
          fits.0,
          rest.leads,
        );
        there = then_in s (multipliers which) c.form (suc c.set_row) stage rest.new line
            (cover_lines which cs) at rest.there;
      }

  -- ---- items
  pub record ItemsLed (s : Status) (stage : Stage) (lines : List (Line Fraction)) : Type 0 where
    pub new : Stage
    pub leads : Leads names limit stage lines new
    pub there : IsThereOrInItem s stage lines new

  then_in_item : (s : Status) (stage middle new : Stage) (xs ys : List (Line Fraction))
      → ((kind : Kind) × (form : ℕ) × (place : ℕ) × (middle ≡ behind s kind form place) × (rank kind ≡ 8))
      → IsThereOrInItem s middle ys new → IsThereOrInItem s stage xs new
  then_in_item s stage middle new xs ys w (inl (none, same)) =
      let (kind, form, place, is, eight) = w in inr (kind, form, place, same ∙ is, eight)
  then_in_item s stage middle new xs ys w (inr u) = inr u

  pub items_lead : (s : Status) (form : ℕ) (list : List Item) (stage : Stage) → Each (IsGoodItem names) list
      → InOrder (λ (a b : Item). a.form ≤ b.form) list → Each (λ (i : Item). form ≤ i.form) list
      → Each (FitsLine names limit) (item_lines list) → StandsItem s form stage → ItemsLed s stage (item_lines list)
  items_lead s form [] stage good order least fits h = record { new = stage; leads = refl; there = inl (refl, refl) }
  items_lead s form (i ∷ list) stage good order least fits h =
      let line = item_line i.form i.weight i.base in
      let own = entry_lines At 0 i.vector in
      let vector =
      entries_lead s i.form At 0 i.vector (advanced stage line) 0 (omega (arith, good.0.numbers))
      (each_left (FitsLine names limit) own (item_lines list) fits.1) (omega arith)
      (entries_stand names limit s form i.form i.weight i.base stage h) in
      let next = item_stands names limit s i.form vector.least own (advanced stage line) vector.new
      (ap (λ st. advanced st line) h.is) (entries_behind_item s h.last h.may) vector.stands vector.there in
      let rest = items_lead s i.form list vector.new good.1 order.1 order.0
      (each_right (FitsLine names limit) own (item_lines list) fits.1) next.0 in
      record {
        new = rest.new;
        leads = (
          item_follows names limit s form i.form i.weight i.base stage h least.0 good.0.form,
          fits.0,
          Leads-append names limit (advanced stage line) own (item_lines list) vector.new rest.new
              vector.leads rest.leads,
        );
        there = then_in_item s stage vector.new rest.new (line ∷ (own ++ item_lines list))
            (item_lines list) next.1 rest.there;
      }
