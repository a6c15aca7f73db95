-- The lines of a certificate in its shape lead from the start of a text to its end.
use Rattle.std.proofs.Common.{◌≡◌, ◌≢◌, ℕ, zero, suc, ◌+◌, ◌≤◌, List, [], ◌∷◌, ◌++◌, length, arith, refl, ap, sym, ◌∙◌, subst, true, inl, inr, append_assoc, append-nil, length-append}
use Rattle.std.specs.Prelude.{codes}
use Rattle.rob_algebra.specs.Fraction.{Fraction}
use Rattle.rob_algebra.specs.Width.{Fits}
use Rattle.rob_meaning.proofs.Lists.EachLemmas.{each_left, each_right, each_map}
use Rattle.rob_meaning.proofs.Naming.NameLemmas.{length-column_names, length-form_names, length-set_row_names}
use Rattle.rob_meaning.specs.Certificates.{Status, optimal, infeasible, unbounded, Cover, Item, Certificate, IsBefore}
use Rattle.rob_meaning.specs.Names.{column_names}
use Rattle.rob_meaning.specs.Places.{0ℚ, Each, InOrder}
use Rattle.rob_meaning.specs.RobustModel.{RobustModel}
use Rattle.rob_cert.specs.Apart.{FitsLines}
use Rattle.rob_cert.specs.declared.kind.Multipliers.{Multipliers}
use Rattle.rob_cert.specs.declared.kind.Multipliers.TheVariants.{Covers, Holds}
use Rattle.rob_cert.specs.declared.kind.Vector.{Vector}
use Rattle.rob_cert.specs.declared.kind.Vector.TheVariants.{Inside, Plan, Move}
use Rattle.rob_cert.specs.FirstLines.{status_bytes}
use Rattle.rob_cert.specs.Lines.{Line, status_line, end_line, bound_lines, entry_lines, cover_lines, item_lines, lines_of}
use Rattle.rob_cert.specs.ReadSoFar.{IsReady}
use Rattle.rob_cert.specs.Kinds.{Kind, claims, items, ends, entries, multipliers, rank, is_used, may_follow}
use Rattle.rob_cert.specs.Reading.{Stage, start, behind, FitsLine, IsAtLeast, Leads}
use Rattle.rob_cert.specs.ReaderLines.{IsThereOrIn}
use Rattle.rob_cert.specs.Covers.{IsGoodCover}
use Rattle.rob_cert.specs.Items.{IsThereOrInItem, IsGoodItem}
use Rattle.rob_cert.specs.Shape.{HasShape, HasParts, AreCoversOf, AreItemsOf, IsCoverOf, IsItemOf}
use Rattle.rob_cert.specs.Spelling.{Naming, naming_of, entry_names, lines_text}
use Rattle.rob_cert.proofs.Readers.EndLemmas.{ready_eight}
use Rattle.rob_cert.proofs.Readers.FirstLinesLemmas.{front_is, ready_claims}
use Rattle.rob_cert.proofs.Words.NameListLemmas.{length-parameter_names}
use Rattle.rob_cert.proofs.Readers.RankLemmas.{ready_entries, ready_multipliers, ready_more}
use Rattle.rob_cert.proofs.Readers.SectionLemmas.{Leads-append, line_of_zero}
use Rattle.rob_cert.proofs.Writing.LineLeads.{entries_lead, covers_lead, items_lead}

module _ (names : Naming) (limit : ℕ) where
  -- ---- part behind part
  -- the lines lead from the start, and kinds from rank `n` on may follow
  record Led (s : Status) (lines : List (Line Fraction)) (n : ℕ) : Type 0 where
    last : Kind
    form : ℕ
    place : ℕ
    leads : Leads names limit start lines (behind s last form place)
    ready : IsReady s last n

  led_by_front : (s : Status) (v c : Fraction) → Fits limit v → Fits limit c
      → Led s (status_line s ∷ bound_lines s v c) 3
  led_by_front s v c fv fc =
      let rest = lines_text names (bound_lines s v c) ++ [] in
      let so = front_is names limit s (status_bytes s ++ 10 ∷ rest) rest [] (2 + length (bound_lines s v c)) v c refl fv
      fc (record { split = refl; counted = refl }) in
      record { last = so.last; form = so.form; place = so.place; leads = so.leads; ready = so.ready }

  led_front : (s : Status) (v c : Fraction) → Each (FitsLine names limit) (bound_lines s v c)
      → Led s (status_line s ∷ bound_lines s v c) 3
  led_front optimal v c fits = led_by_front optimal v c fits.0 fits.1.0
  led_front unbounded v c fits = led_by_front unbounded v c fits.0 fits.1.0
  led_front infeasible v c fits =
      record {
        last = claims;
        form = 0;
        place = 0;
        leads = (record { kind = tt; placed = tt }, tt, refl);
        ready = ready_claims names limit;
      }

  led_more : (s : Status) (kind : Kind) (lines more : List (Line Fraction)) (n : ℕ) (so : Led s lines n) (new : Stage)
      → IsReady s kind (suc n) → Leads names limit (behind s so.last so.form so.place) more new
      → IsThereOrIn s kind (behind s so.last so.form so.place) more new → Led s (lines ++ more) (suc n)
  led_more s kind lines more n so new ready leads (inl (none, same)) = record {
    last = so.last;
    form = so.form;
    place = so.place;
    leads = Leads-append names limit start lines more (behind s so.last so.form so.place)
        (behind s so.last so.form so.place) so.leads
        (subst (Leads names limit (behind s so.last so.form so.place) more) same leads);
    ready = ready_more s so.last n so.ready;
  }
  led_more s kind lines more n so new ready leads (inr (form, place, is)) = record {
    last = kind;
    form = form;
    place = place;
    leads = Leads-append names limit start lines more (behind s so.last so.form so.place) (behind s kind form place)
        so.leads (subst (Leads names limit (behind s so.last so.form so.place) more) is leads);
    ready = ready;
  }

  led_none : (s : Status) (lines more : List (Line Fraction)) (n : ℕ) → Led s lines n → more ≡ []
      → Led s (lines ++ more) (suc n)
  led_none s lines more n so none = record {
    last = so.last;
    form = so.form;
    place = so.place;
    leads = subst (λ ls. Leads names limit start ls (behind s so.last so.form so.place))
        (sym (ap (λ m. lines ++ m) none ∙ append-nil lines)) so.leads;
    ready = ready_more s so.last n so.ready;
  }

  led_entries : (s : Status) (v : Vector) (qs : List Fraction) (lines : List (Line Fraction)) → rank (entries v) ≢ 8
      → is_used s (entries v) ≡ true → length qs ≤ length (entry_names names v)
      → Each (FitsLine names limit) (entry_lines v 0 qs)
      → Led s lines (rank (entries v)) → Led s (lines ++ entry_lines v 0 qs) (suc (rank (entries v)))
  led_entries s v qs lines ne u room fits so =
      let b = so.ready (entries v) (omega arith) u (λ e. ne (ap rank e)) in
      let l = entries_lead names limit s so.form v 0 qs (behind s so.last so.form so.place) 0 (omega arith) fits
      (omega arith) (record { last = so.last; last_place = so.place; is = refl; may = b.0; anew = rw b.1 refl }) in
      led_more s (entries v) lines (entry_lines v 0 qs) (rank (entries v)) so l.new (ready_entries s v) l.leads l.there

  led_covers : (s : Status) (which : Multipliers) (cs : List Cover) (lines : List (Line Fraction))
      → is_used s (multipliers which) ≡ true → Each (IsGoodCover names) cs → InOrder IsBefore cs
      → Each (FitsLine names limit) (cover_lines which cs)
      → Led s lines (rank (multipliers which)) → Led s (lines ++ cover_lines which cs) (suc (rank (multipliers which)))
  led_covers s which cs lines u good order fits so =
      let b = so.ready (multipliers which) (omega arith) u (λ e. cc) in
      let l = covers_lead names limit s which 0 0 cs (behind s so.last so.form so.place) good order
      (each_map (IsGoodCover names) (λ (c : Cover). IsAtLeast 0 0 c.form c.set_row)
      (λ c h. least_zero c.form c.set_row) cs good) fits
      (record {
        last = so.last;
        last_form = so.form;
        last_place = so.place;
        is = refl;
        may = b.0;
        form_anew = rw b.1 refl;
        place_anew = rw b.1 refl;
      }) in
      led_more s (multipliers which) lines (cover_lines which cs) (rank (multipliers which)) so l.new
      (ready_multipliers s which) l.leads l.there
    where
      least_zero : (i r : ℕ) → IsAtLeast 0 0 i r
      least_zero zero r = inr (refl, omega arith)
      least_zero (suc i) r = inl (omega arith)

  led_items : (s : Status) (list : List Item) (lines : List (Line Fraction)) → is_used s items ≡ true
      → Each (IsGoodItem names) list → InOrder (λ (a b : Item). a.form ≤ b.form) list
      → Each (FitsLine names limit) (item_lines list)
      → Led s lines 8 → Led s (lines ++ item_lines list) 9
  led_items s list lines u good order fits so =
      let b = so.ready items (omega arith) u (λ e. cc) in
      let l = items_lead names limit s 0 list (behind s so.last so.form so.place) good order
      (each_map (IsGoodItem names) (λ (i : Item). 0 ≤ i.form) (λ i h. omega arith) list good) fits
      (record {
        last = so.last;
        last_form = so.form;
        last_place = so.place;
        is = refl;
        may = b.0;
        anew = rw b.1 refl;
      }) in
      by l.new l.leads l.there
    where
      by : (new : Stage) → Leads names limit (behind s so.last so.form so.place) (item_lines list) new
          → IsThereOrInItem s (behind s so.last so.form so.place) (item_lines list) new
          → Led s (lines ++ item_lines list) 9
      by new leads (inl w) = led_more s items lines (item_lines list) 8 so new (ready_eight s items refl) leads (inl w)
      by new leads (inr (kind, form, place, is, eight)) =
          led_more s kind lines (item_lines list) 8 so new (ready_eight s kind eight) leads (inr (form, place, is))

  led_end : (s : Status) (lines : List (Line Fraction)) → Led s lines 9
      → Leads names limit start (lines ++ end_line ∷ []) (behind s ends 0 0)
  led_end s lines so =
      let may : may_follow s so.last ends ≡ true = (so.ready ends (omega arith) (used s) (λ e. cc)).0 in
      Leads-append names limit start lines (end_line ∷ []) (behind s so.last so.form so.place) (behind s ends 0 0)
      so.leads (record { kind = may; placed = tt }, tt, refl)
    where
      used : (s : Status) → is_used s ends ≡ true
      used s = refl

-- ---- a certificate in its shape
module _ (m : RobustModel) (limit : ℕ) (c : Certificate) where
  abbrev Fit : List (Line Fraction) → Type 0
  Fit ls = Each (FitsLine (naming_of m) limit) ls

  good_covers : (cs : List Cover) → Each (IsCoverOf m) cs → Each (IsGoodCover (naming_of m)) cs
  good_covers cs h = each_map (IsCoverOf m) (IsGoodCover (naming_of m)) (λ d g. record {
    form = omega (arith, g.form, length-form_names m);
    set_row = omega (arith, g.set_row, length-set_row_names m);
    amount = g.amount;
  }) cs h

  good_items : (list : List Item) → Each (IsItemOf m) list → Each (IsGoodItem (naming_of m)) list
  good_items list h = each_map (IsItemOf m) (IsGoodItem (naming_of m)) (λ i g. record {
    form = omega (arith, g.form, length-form_names m);
    numbers = omega (arith, g.numbers, length-parameter_names m);
  }) list h

  abbrev led : Status → List (Line Fraction) → ℕ → Type 0
  led s lines n = Led (naming_of m) limit s lines n

  led_plan : (s : Status) (lines : List (Line Fraction)) → HasParts m s c → Fit (entry_lines Plan 0 c.plan)
      → led s lines 4 → led s (lines ++ entry_lines Plan 0 c.plan) 5
  led_plan optimal lines h f so =
      led_entries (naming_of m) limit optimal Plan c.plan lines (λ e. omega arith) refl
      (omega (arith, h.plan, length-column_names m)) f so
  led_plan infeasible lines h f so =
      led_none (naming_of m) limit infeasible lines (entry_lines Plan 0 c.plan) 4 so (ap (entry_lines Plan 0) h.plan)
  led_plan unbounded lines h f so =
      led_entries (naming_of m) limit unbounded Plan c.plan lines (λ e. omega arith) refl
      (omega (arith, h.plan, length-column_names m)) f so

  no_move : c.step ≡ [] → c.step_bound ≡ 0ℚ → entry_lines Move 0 (c.step ++ c.step_bound ∷ []) ≡ []
  no_move e z =
      ap (λ (xs : List Fraction). entry_lines Move 0 (xs ++ c.step_bound ∷ [])) e ∙ line_of_zero Move 0 c.step_bound z

  led_move : (s : Status) (lines : List (Line Fraction)) → HasParts m s c
      → Fit (entry_lines Move 0 (c.step ++ c.step_bound ∷ [])) → led s lines 5
      → led s (lines ++ entry_lines Move 0 (c.step ++ c.step_bound ∷ [])) 6
  led_move optimal lines h f so =
      led_none (naming_of m) limit optimal lines (entry_lines Move 0 (c.step ++ c.step_bound ∷ [])) 5 so
      (no_move h.step h.step_bound)
  led_move infeasible lines h f so =
      led_none (naming_of m) limit infeasible lines (entry_lines Move 0 (c.step ++ c.step_bound ∷ [])) 5 so
      (no_move h.step h.step_bound)
  led_move unbounded lines h f so =
      led_entries (naming_of m) limit unbounded Move (c.step ++ c.step_bound ∷ []) lines (λ e. omega arith) refl
      (omega (
        arith,
        h.step,
        length-append c.step (c.step_bound ∷ []),
        length-append (column_names m) (codes "tau" ∷ []),
        length-column_names m,
      )) f so

  led_c : (s : Status) (lines : List (Line Fraction)) → HasParts m s c → AreCoversOf m c.covers
      → Fit (cover_lines Covers c.covers) → led s lines 6 → led s (lines ++ cover_lines Covers c.covers) 7
  led_c optimal lines h k f so =
      led_covers (naming_of m) limit optimal Covers c.covers lines refl (good_covers c.covers k.each) k.ordered f so
  led_c infeasible lines h k f so =
      led_none (naming_of m) limit infeasible lines (cover_lines Covers c.covers) 6 so
      (ap (cover_lines Covers) h.covers)
  led_c unbounded lines h k f so =
      led_covers (naming_of m) limit unbounded Covers c.covers lines refl (good_covers c.covers k.each) k.ordered f so

  led_h : (s : Status) (lines : List (Line Fraction)) → HasParts m s c → AreCoversOf m c.holds
      → Fit (cover_lines Holds c.holds) → led s lines 7 → led s (lines ++ cover_lines Holds c.holds) 8
  led_h optimal lines h k f so =
      led_none (naming_of m) limit optimal lines (cover_lines Holds c.holds) 7 so (ap (cover_lines Holds) h.holds)
  led_h infeasible lines h k f so =
      led_none (naming_of m) limit infeasible lines (cover_lines Holds c.holds) 7 so (ap (cover_lines Holds) h.holds)
  led_h unbounded lines h k f so =
      led_covers (naming_of m) limit unbounded Holds c.holds lines refl (good_covers c.holds k.each) k.ordered f so

  led_i : (s : Status) (lines : List (Line Fraction)) → HasParts m s c → AreItemsOf m c.items → Fit (item_lines c.items)
      → led s lines 8 → led s (lines ++ item_lines c.items) 9
  led_i optimal lines h k f so =
      led_items (naming_of m) limit optimal c.items lines refl (good_items c.items k.each) k.ordered f so
  led_i infeasible lines h k f so =
      led_items (naming_of m) limit infeasible c.items lines refl (good_items c.items k.each) k.ordered f so
  led_i unbounded lines h k f so =
      led_none (naming_of m) limit unbounded lines (item_lines c.items) 8 so (ap item_lines h.items)

  regroup : (x : Line Fraction) (b i p t v h l e : List (Line Fraction))
      → x ∷ (b ++ (i ++ (p ++ (t ++ (v ++ (h ++ (l ++ e))))))) ≡ (((((((x ∷ b) ++ i) ++ p) ++ t) ++ v) ++ h) ++ l) ++ e
  regroup x b i p t v h l e = sym (simp append_assoc)

  -- the lines of a certificate in its shape lead to the end
  pub cert_leads : HasShape m c → FitsLines limit m c
      → Leads (naming_of m) limit start (lines_of c) (behind c.status ends 0 0)
  cert_leads shape fits =
      let s = c.status in
      let b = bound_lines s c.value c.scale in
      let i = entry_lines Inside 0 c.inside in
      let p = entry_lines Plan 0 c.plan in
      let t = entry_lines Move 0 (c.step ++ c.step_bound ∷ []) in
      let v = cover_lines Covers c.covers in
      let h = cover_lines Holds c.holds in
      let l = item_lines c.items in
      let e : List (Line Fraction) = end_line ∷ [] in
      let F = FitsLine (naming_of m) limit in
      let f1 = each_right F b (i ++ (p ++ (t ++ (v ++ (h ++ (l ++ e)))))) fits.1 in
      let f2 = each_right F i (p ++ (t ++ (v ++ (h ++ (l ++ e))))) f1 in
      let f3 = each_right F p (t ++ (v ++ (h ++ (l ++ e)))) f2 in
      let f4 = each_right F t (v ++ (h ++ (l ++ e))) f3 in
      let f5 = each_right F v (h ++ (l ++ e)) f4 in
      let f6 = each_right F h (l ++ e) f5 in
      let k0 = led_front (naming_of m) limit s c.value c.scale
      (each_left F b (i ++ (p ++ (t ++ (v ++ (h ++ (l ++ e)))))) fits.1) in
      let k1 = led_entries (naming_of m) limit s Inside c.inside (status_line s ∷ b) (λ e. omega arith) refl
      (omega (arith, shape.inside, length-parameter_names m))
      (each_left F i (p ++ (t ++ (v ++ (h ++ (l ++ e))))) f1) k0 in
      let k2 = led_plan s _ shape.parts (each_left F p (t ++ (v ++ (h ++ (l ++ e)))) f2) k1 in
      let k3 = led_move s _ shape.parts (each_left F t (v ++ (h ++ (l ++ e))) f3) k2 in
      let k4 = led_c s _ shape.parts shape.covers (each_left F v (h ++ (l ++ e)) f4) k3 in
      let k5 = led_h s _ shape.parts shape.holds (each_left F h (l ++ e) f5) k4 in
      let k6 = led_i s _ shape.parts shape.items (each_left F l e f6) k5 in
      subst (λ ls. Leads (naming_of m) limit start ls (behind s ends 0 0))
      (sym (regroup (status_line s) b i p t v h l e)) (led_end (naming_of m) limit s _ k6)
