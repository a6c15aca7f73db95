-- The lines of a certificate in its shape tell the certificate.
use Rattle.std.proofs.Common.{◌≡◌, ℕ, suc, ◌-◌, ◌^◌, ◌≤◌, List, [], ◌∷◌, ◌++◌, length, arith, refl, ap, ap₂, sym, ◌∙◌, subst, Bool, true, false}
use Rattle.std.specs.Prelude.{if◌then◌else◌, nat_eq}
use Rattle.rob_algebra.specs.Fraction.{Fraction}
use Rattle.rob_algebra.specs.FractionOrder.{eq_ℚ, eq_ℚ-decides}
use Rattle.rob_meaning.specs.Certificates.{Status, optimal, infeasible, unbounded, Cover, Item, Certificate}
use Rattle.rob_meaning.specs.Named.{IsNamed}
use Rattle.rob_meaning.specs.Places.{0ℚ, Each}
use Rattle.rob_meaning.specs.RobustModel.{RobustModel}
use Rattle.rob_meaning.specs.WellFormed.{IsModel}
use Rattle.rob_cert.specs.Apart.{IsNamedInWords, FitsLines}
use Rattle.rob_cert.specs.declared.kind.Multipliers.{Multipliers}
use Rattle.rob_cert.specs.declared.kind.Multipliers.TheVariants.{Covers, Holds}
use Rattle.rob_cert.specs.declared.kind.Vector.{Vector}
use Rattle.rob_cert.specs.declared.kind.Vector.TheVariants.{Inside, Plan, Move, At}
use Rattle.rob_cert.specs.Lines.{Line, status_line, entry_line, end_line, bound_lines, entry_lines, cover_lines, item_lines, lines_of}
use Rattle.rob_cert.specs.Kinds.{entries, multipliers, kind_of, rank}
use Rattle.rob_cert.specs.Shape.{HasShape, HasParts, IsItemOf}
use Rattle.rob_cert.specs.Spelling.{naming_of}
use Rattle.rob_cert.specs.Whole.{IsTextOf}
use Rattle.rob_cert.proofs.Writing.LeadLemmas.{cert_leads}
use Rattle.rob_cert.proofs.OneText.SpellingLaws.{lines_same, model_tells_apart}

-- ---- a list is cut where a test first fails
module _ {A : Type 0} (test : A → Bool) where
  -- the list is empty, or its first item fails the test
  abbrev pub StopsAt : List A → Type 0
  StopsAt [] = Unit {0}
  StopsAt (x ∷ xs) = test x ≡ false

  pub peel : (xs ys r t : List A) → Each (λ x. test x ≡ true) xs → Each (λ x. test x ≡ true) ys → StopsAt r → StopsAt t
      → xs ++ r ≡ ys ++ t → (xs ≡ ys) × (r ≡ t)
  peel [] [] r t h k hr ht e = (refl, e)
  peel [] (y ∷ ys) r t h k hr ht e =
      let f : test y ≡ false = subst StopsAt e hr in let g : test y ≡ true = k.0 in absurd (cc)
  peel (x ∷ xs) [] r t h k hr ht e =
      let f : test x ≡ false = subst StopsAt (sym e) ht in let g : test x ≡ true = h.0 in absurd (cc)
  peel (x ∷ xs) (y ∷ ys) r t h k hr ht e =
      let head : x ≡ y = cc in
      let tail : xs ++ r ≡ ys ++ t = cc in
      let rest = peel xs ys r t h.1 k.1 hr ht tail in
      (ap₂ (λ (z : A) (zs : List A). z ∷ zs) head rest.0, rest.1)

  pub stops_behind : (xs r : List A) → Each (λ x. test x ≡ false) xs → StopsAt r → StopsAt (xs ++ r)
  stops_behind [] r h k = k
  stops_behind (x ∷ xs) r h k = h.0

-- ---- the kinds of the lines of a part
at_rank : ℕ → Line Fraction → Bool
at_rank n line = nat_eq (rank (kind_of line)) n

entry_ranks : (n : ℕ) (b : Bool) (v : Vector) (p : ℕ) (qs : List Fraction) → nat_eq (rank (entries v)) n ≡ b
    → Each (λ x. at_rank n x ≡ b) (entry_lines v p qs)
unfolding at_rank
entry_ranks n b v p [] e = tt
entry_ranks n b v p (q ∷ qs) e = by (eq_ℚ q 0ℚ) (entry_ranks n b v (suc p) qs e)
  where
    by : (t : Bool) → Each (λ (x : Line Fraction). nat_eq (rank (kind_of x)) n ≡ b) (entry_lines v (suc p) qs)
        → Each (λ (x : Line Fraction). nat_eq (rank (kind_of x)) n ≡ b)
        (if t then entry_lines v (suc p) qs else (entry_line v p q ∷ entry_lines v (suc p) qs))
    by true rest = rest
    by false rest = (e, rest)

cover_ranks : (n : ℕ) (b : Bool) (which : Multipliers) (cs : List Cover) → nat_eq (rank (multipliers which)) n ≡ b
    → Each (λ x. at_rank n x ≡ b) (cover_lines which cs)
unfolding at_rank
cover_ranks n b which [] e = tt
cover_ranks n b which (c ∷ cs) e = (e, cover_ranks n b which cs e)

item_ranks : (n : ℕ) (b : Bool) (list : List Item) → nat_eq 8 n ≡ b → Each (λ x. at_rank n x ≡ b) (item_lines list)
unfolding at_rank
item_ranks n b [] e = tt
item_ranks n b (i ∷ list) e =
    (e, both (entry_lines At 0 i.vector) (item_lines list) (entry_ranks n b At 0 i.vector e) (item_ranks n b list e))
  where
    both : (xs ys : List (Line Fraction)) → Each (λ (x : Line Fraction). nat_eq (rank (kind_of x)) n ≡ b) xs
        → Each (λ (x : Line Fraction). nat_eq (rank (kind_of x)) n ≡ b) ys
        → Each (λ (x : Line Fraction). nat_eq (rank (kind_of x)) n ≡ b) (xs ++ ys)
    both [] ys h k = k
    both (x ∷ xs) ys h k = (h.0, both xs ys h.1 k)

-- ---- a part tells its numbers
-- the first line of a vector's entries from place `p` on stands at `p` or behind it
first_place : (v : Vector) (p : ℕ) (qs : List Fraction) (k : ℕ) (r : Fraction) (more : List (Line Fraction))
    → entry_lines v p qs ≡ entry_line v k r ∷ more → p ≤ k
first_place v p [] k r more e = absurd (cc)
first_place v p (q ∷ qs) k r more e = by (eq_ℚ q 0ℚ) e (λ d. first_place v (suc p) qs k r more d)
  where
    by : (t : Bool) → (if t then entry_lines v (suc p) qs else (entry_line v p q ∷ entry_lines v (suc p) qs))
        ≡ entry_line v k r ∷ more → (entry_lines v (suc p) qs ≡ entry_line v k r ∷ more → suc p ≤ k) → p ≤ k
    by true e later = let l = later e in omega arith
    by false e later = let same : p ≡ k = cc in omega arith

pub entries_same : (v : Vector) (p : ℕ) (qs rs : List Fraction) → length qs ≡ length rs
    → entry_lines v p qs ≡ entry_lines v p rs → qs ≡ rs
entries_same v p [] [] l e = refl
entries_same v p [] (r ∷ rs) l e = absurd (omega arith)
entries_same v p (q ∷ qs) [] l e = absurd (omega arith)
entries_same v p (q ∷ qs) (r ∷ rs) l e =
    by (eq_ℚ q 0ℚ) (eq_ℚ r 0ℚ) refl refl e (λ d. entries_same v (suc p) qs rs (omega arith) d)
  where
    by : (t u : Bool) → eq_ℚ q 0ℚ ≡ t → eq_ℚ r 0ℚ ≡ u
        → (if t then entry_lines v (suc p) qs else (entry_line v p q ∷ entry_lines v (suc p) qs))
        ≡ (if u then entry_lines v (suc p) rs else (entry_line v p r ∷ entry_lines v (suc p) rs))
        → (entry_lines v (suc p) qs ≡ entry_lines v (suc p) rs → qs ≡ rs) → q ∷ qs ≡ r ∷ rs
    by true true z w e rest =
        ap₂ (λ (x : Fraction) (xs : List Fraction). x ∷ xs)
        ((eq_ℚ-decides q 0ℚ).0 z ∙ sym ((eq_ℚ-decides r 0ℚ).0 w)) (rest e)
    by true false z w e rest = absurd (let h = first_place v (suc p) qs p r (entry_lines v (suc p) rs) e in omega arith)
    by false true z w e rest =
        absurd (let h = first_place v (suc p) rs p q (entry_lines v (suc p) qs) (sym e) in omega arith)
    by false false z w e rest =
        let head : q ≡ r = cc in
        let tail : entry_lines v (suc p) qs ≡ entry_lines v (suc p) rs = cc in
        ap₂ (λ (x : Fraction) (xs : List Fraction). x ∷ xs) head (rest tail)

cover_is : (c d : Cover) → c.form ≡ d.form → c.set_row ≡ d.set_row → c.amount ≡ d.amount → c ≡ d
cover_is c d p q r = λ i. record { form = p i; set_row = q i; amount = r i }

pub covers_same : (which : Multipliers) (cs ds : List Cover) → cover_lines which cs ≡ cover_lines which ds → cs ≡ ds
covers_same which [] [] e = refl
covers_same which [] (d ∷ ds) e = absurd (cc)
covers_same which (c ∷ cs) [] e = absurd (cc)
covers_same which (c ∷ cs) (d ∷ ds) e =
    let tail : cover_lines which cs ≡ cover_lines which ds = cc in
    let form : c.form ≡ d.form = cc in
    let row : c.set_row ≡ d.set_row = cc in
    let amount : c.amount ≡ d.amount = cc in
    ap₂ (λ (x : Cover) (xs : List Cover). x ∷ xs) (cover_is c d form row amount) (covers_same which cs ds tail)

item_is : (i j : Item) → i.form ≡ j.form → i.weight ≡ j.weight → i.base ≡ j.base → i.vector ≡ j.vector → i ≡ j
item_is i j p q r t = λ k. record { form = p k; weight = q k; base = r k; vector = t k }

-- an entry of an item's vector
is_own : Line Fraction → Bool
is_own (entry_line v k q) = true
is_own _ = false

own_entries : (v : Vector) (p : ℕ) (qs : List Fraction) → Each (λ x. is_own x ≡ true) (entry_lines v p qs)
unfolding is_own
own_entries v p [] = tt
own_entries v p (q ∷ qs) = by (eq_ℚ q 0ℚ) (own_entries v (suc p) qs)
  where
    by : (t : Bool) → Each (λ x. is_own x ≡ true) (entry_lines v (suc p) qs)
        → Each (λ x. is_own x ≡ true)
        (if t then entry_lines v (suc p) qs else (entry_line v p q ∷ entry_lines v (suc p) qs))
    by true rest = rest
    by false rest = (refl, rest)

own_stops : (list : List Item) → StopsAt is_own (item_lines list)
unfolding is_own
own_stops [] = tt
own_stops (i ∷ list) = refl

pub items_same : (n : ℕ) (is js : List Item) → Each (λ (i : Item). length i.vector ≡ n) is
    → Each (λ (i : Item). length i.vector ≡ n) js → item_lines is ≡ item_lines js → is ≡ js
items_same n [] [] h k e = refl
items_same n [] (j ∷ js) h k e = absurd (cc)
items_same n (i ∷ is) [] h k e = absurd (cc)
items_same n (i ∷ is) (j ∷ js) h k e =
    let own = entry_lines At 0 i.vector in
    let other = entry_lines At 0 j.vector in
    let form : i.form ≡ j.form = cc in
    let weight : i.weight ≡ j.weight = cc in
    let base : i.base ≡ j.base = cc in
    let tail : own ++ item_lines is ≡ other ++ item_lines js = cc in
    let both = peel is_own own other (item_lines is) (item_lines js) (own_entries At 0 i.vector)
    (own_entries At 0 j.vector) (own_stops is) (own_stops js) tail in
    ap₂ (λ (x : Item) (xs : List Item). x ∷ xs)
    (item_is i j form weight base (entries_same At 0 i.vector j.vector (h.0 ∙ sym k.0) both.0))
    (items_same n is js h.1 k.1 both.1)

-- ---- certificates
cert_is : (c d : Certificate) → c.status ≡ d.status → c.value ≡ d.value → c.scale ≡ d.scale → c.inside ≡ d.inside
    → c.plan ≡ d.plan → c.step ≡ d.step → c.step_bound ≡ d.step_bound
    → c.covers ≡ d.covers → c.holds ≡ d.holds → c.items ≡ d.items → c ≡ d
cert_is c d p0 p1 p2 p3 p4 p5 p6 p7 p8 p9 = λ i. record {
  status = p0 i;
  value = p1 i;
  scale = p2 i;
  inside = p3 i;
  plan = p4 i;
  step = p5 i;
  step_bound = p6 i;
  covers = p7 i;
  holds = p8 i;
  items = p9 i;
}

-- what stands behind the value and the scale
abbrev behind_bounds : Certificate → List (Line Fraction)
behind_bounds c =
    entry_lines Inside 0 c.inside
    ++ (entry_lines Plan 0 c.plan
    ++ (entry_lines Move 0 (c.step ++ c.step_bound ∷ [])
    ++ (cover_lines Covers c.covers ++ (cover_lines Holds c.holds ++ (item_lines c.items ++ end_line ∷ [])))))

-- what two certificates have in common behind their bounds
record SameBehind (c d : Certificate) : Type 0 where
  inside : entry_lines Inside 0 c.inside ≡ entry_lines Inside 0 d.inside
  plan : entry_lines Plan 0 c.plan ≡ entry_lines Plan 0 d.plan
  move : entry_lines Move 0 (c.step ++ c.step_bound ∷ []) ≡ entry_lines Move 0 (d.step ++ d.step_bound ∷ [])
  covers : cover_lines Covers c.covers ≡ cover_lines Covers d.covers
  holds : cover_lines Holds c.holds ≡ cover_lines Holds d.holds
  items : item_lines c.items ≡ item_lines d.items

-- behind a part no line has its rank
module _ (c : Certificate) where
  behind_items : StopsAt (at_rank 8) (end_line ∷ [])
  unfolding at_rank
  behind_items = refl

  behind_holds : StopsAt (at_rank 7) (item_lines c.items ++ end_line ∷ [])
  unfolding at_rank
  behind_holds = stops_behind (at_rank 7) (item_lines c.items) (end_line ∷ []) (item_ranks 7 false c.items refl) refl

  behind_covers : StopsAt (at_rank 6) (cover_lines Holds c.holds ++ (item_lines c.items ++ end_line ∷ []))
  unfolding at_rank
  behind_covers =
      stops_behind (at_rank 6) (cover_lines Holds c.holds) (item_lines c.items ++ end_line ∷ [])
      (cover_ranks 6 false Holds c.holds refl)
      (stops_behind (at_rank 6) (item_lines c.items) (end_line ∷ []) (item_ranks 6 false c.items refl) refl)

  behind_move : StopsAt (at_rank 5)
      (cover_lines Covers c.covers ++ (cover_lines Holds c.holds ++ (item_lines c.items ++ end_line ∷ [])))
  unfolding at_rank
  behind_move =
      stops_behind (at_rank 5) (cover_lines Covers c.covers)
      (cover_lines Holds c.holds ++ (item_lines c.items ++ end_line ∷ []))
      (cover_ranks 5 false Covers c.covers refl)
      (stops_behind (at_rank 5) (cover_lines Holds c.holds) (item_lines c.items ++ end_line ∷ [])
      (cover_ranks 5 false Holds c.holds refl)
      (stops_behind (at_rank 5) (item_lines c.items) (end_line ∷ []) (item_ranks 5 false c.items refl) refl))

  abbrev moved : List Fraction
  moved = c.step ++ c.step_bound ∷ []

  abbrev lists : List (Line Fraction)
  lists = cover_lines Covers c.covers ++ (cover_lines Holds c.holds ++ (item_lines c.items ++ end_line ∷ []))

  lists_stop : (n : ℕ) → nat_eq 6 n ≡ false → nat_eq 7 n ≡ false → nat_eq 8 n ≡ false → nat_eq 9 n ≡ false
      → StopsAt (at_rank n) lists
  unfolding at_rank
  lists_stop n a b d e =
      stops_behind (at_rank n) (cover_lines Covers c.covers)
      (cover_lines Holds c.holds ++ (item_lines c.items ++ end_line ∷ [])) (cover_ranks n false Covers c.covers a)
      (stops_behind (at_rank n) (cover_lines Holds c.holds) (item_lines c.items ++ end_line ∷ [])
      (cover_ranks n false Holds c.holds b)
      (stops_behind (at_rank n) (item_lines c.items) (end_line ∷ []) (item_ranks n false c.items d) e))

  behind_plan : StopsAt (at_rank 4) (entry_lines Move 0 moved ++ lists)
  behind_plan =
      stops_behind (at_rank 4) (entry_lines Move 0 moved) lists (entry_ranks 4 false Move 0 moved refl)
      (lists_stop 4 refl refl refl refl)

  behind_inside : StopsAt (at_rank 3) (entry_lines Plan 0 c.plan ++ (entry_lines Move 0 moved ++ lists))
  behind_inside =
      stops_behind (at_rank 3) (entry_lines Plan 0 c.plan) (entry_lines Move 0 moved ++ lists)
      (entry_ranks 3 false Plan 0 c.plan refl)
      (stops_behind (at_rank 3) (entry_lines Move 0 moved) lists (entry_ranks 3 false Move 0 moved refl)
      (lists_stop 3 refl refl refl refl))

same_behind : (c d : Certificate) → behind_bounds c ≡ behind_bounds d → SameBehind c d
same_behind c d e =
    let a = peel (at_rank 3) _ _ _ _ (entry_ranks 3 true Inside 0 c.inside refl)
    (entry_ranks 3 true Inside 0 d.inside refl) (behind_inside c) (behind_inside d) e in
    let b = peel (at_rank 4) _ _ _ _ (entry_ranks 4 true Plan 0 c.plan refl) (entry_ranks 4 true Plan 0 d.plan refl)
    (behind_plan c) (behind_plan d) a.1 in
    let m = peel (at_rank 5) _ _ _ _ (entry_ranks 5 true Move 0 (moved c) refl)
    (entry_ranks 5 true Move 0 (moved d) refl) (behind_move c) (behind_move d) b.1 in
    let v = peel (at_rank 6) _ _ _ _ (cover_ranks 6 true Covers c.covers refl) (cover_ranks 6 true Covers d.covers refl)
    (behind_covers c) (behind_covers d) m.1 in
    let h = peel (at_rank 7) _ _ _ _ (cover_ranks 7 true Holds c.holds refl) (cover_ranks 7 true Holds d.holds refl)
    (behind_holds c) (behind_holds d) v.1 in
    let l = peel (at_rank 8) _ _ _ _ (item_ranks 8 true c.items refl) (item_ranks 8 true d.items refl)
    (behind_items c) (behind_items d) h.1 in
    record { inside = a.0; plan = b.0; move = m.0; covers = v.0; holds = h.0; items = l.0 }

last_same : (xs ys : List Fraction) (x y : Fraction) → length xs ≡ length ys
    → xs ++ x ∷ [] ≡ ys ++ y ∷ [] → (xs ≡ ys) × (x ≡ y)
last_same [] [] x y l e = (refl, cc)
last_same [] (b ∷ ys) x y l e = absurd (omega arith)
last_same (a ∷ xs) [] x y l e = absurd (omega arith)
last_same (a ∷ xs) (b ∷ ys) x y l e =
    let head : a ≡ b = cc in
    let tail : xs ++ x ∷ [] ≡ ys ++ y ∷ [] = cc in
    let rest = last_same xs ys x y (omega arith) tail in
    (ap₂ (λ (z : Fraction) (zs : List Fraction). z ∷ zs) head rest.0, rest.1)

pushed_long : (xs ys : List Fraction) (x y : Fraction) → length xs ≡ length ys
    → length (xs ++ x ∷ []) ≡ length (ys ++ y ∷ [])
pushed_long [] [] x y l = refl
pushed_long [] (b ∷ ys) x y l = absurd (omega arith)
pushed_long (a ∷ xs) [] x y l = absurd (omega arith)
pushed_long (a ∷ xs) (b ∷ ys) x y l = ap suc (pushed_long xs ys x y (omega arith))

same_move : (c d : Certificate) → length c.step ≡ length d.step
    → entry_lines Move 0 (moved c) ≡ entry_lines Move 0 (moved d) → (c.step ≡ d.step) × (c.step_bound ≡ d.step_bound)
same_move c d l e =
    last_same c.step d.step c.step_bound d.step_bound l
    (entries_same Move 0 (moved c) (moved d) (pushed_long c.step d.step c.step_bound d.step_bound l) e)

module _ (m : RobustModel) (c d : Certificate) (sc : HasShape m c) (sd : HasShape m d)
    (status : c.status ≡ d.status) where
  same_inside : SameBehind c d → c.inside ≡ d.inside
  same_inside b = entries_same Inside 0 c.inside d.inside (sc.inside ∙ sym sd.inside) b.inside

  vectors : (list : List Item) → Each (IsItemOf m) list
      → Each (λ (i : Item). length i.vector ≡ length m.parameters) list
  vectors [] h = tt
  vectors (i ∷ list) h = (h.0.numbers, vectors list h.1)

  same_items : SameBehind c d → c.items ≡ d.items
  same_items b =
      items_same (length m.parameters) c.items d.items (vectors c.items sc.items.each)
      (vectors d.items sd.items.each) b.items

  by_status : (s : Status) → HasParts m s c → HasParts m s d
      → bound_lines s c.value c.scale ++ behind_bounds c ≡ bound_lines s d.value d.scale ++ behind_bounds d → c ≡ d
  by_status optimal hc hd e =
      let value : c.value ≡ d.value = cc in
      let scale : c.scale ≡ d.scale = cc in
      let rest : behind_bounds c ≡ behind_bounds d = cc in
      let b = same_behind c d rest in
      cert_is c d status value scale (same_inside b) (entries_same Plan 0 c.plan d.plan (hc.plan ∙ sym hd.plan) b.plan)
      (hc.step ∙ sym hd.step) (hc.step_bound ∙ sym hd.step_bound)
      (covers_same Covers c.covers d.covers b.covers) (hc.holds ∙ sym hd.holds) (same_items b)
  by_status infeasible hc hd e =
      let b = same_behind c d e in
      cert_is c d status (hc.value ∙ sym hd.value) (hc.scale ∙ sym hd.scale) (same_inside b) (hc.plan ∙ sym hd.plan)
      (hc.step ∙ sym hd.step) (hc.step_bound ∙ sym hd.step_bound)
      (hc.covers ∙ sym hd.covers) (hc.holds ∙ sym hd.holds) (same_items b)
  by_status unbounded hc hd e =
      let value : c.value ≡ d.value = cc in
      let scale : c.scale ≡ d.scale = cc in
      let rest : behind_bounds c ≡ behind_bounds d = cc in
      let b = same_behind c d rest in
      let move = same_move c d (hc.step ∙ sym hd.step) b.move in
      cert_is c d status value scale (same_inside b)
      (entries_same Plan 0 c.plan d.plan (hc.plan ∙ sym hd.plan) b.plan) move.0 move.1
      (covers_same Covers c.covers d.covers b.covers) (covers_same Holds c.holds d.holds b.holds)
      (hc.items ∙ sym hd.items)

tails_same : (x y : Line Fraction) (xs ys : List (Line Fraction)) → x ∷ xs ≡ y ∷ ys → xs ≡ ys
tails_same x y xs ys e = cc

statuses_same : (s t : Status) (xs ys : List (Line Fraction)) → status_line s ∷ xs ≡ status_line t ∷ ys → s ≡ t
statuses_same s t xs ys e = cc

-- a certificate in its shape is told by its lines
pub told_by_lines : (m : RobustModel) (c d : Certificate) → HasShape m c → HasShape m d
    → lines_of c ≡ lines_of d → c ≡ d
told_by_lines m c d sc sd e =
    let status =
    statuses_same c.status d.status (bound_lines c.status c.value c.scale ++ behind_bounds c)
    (bound_lines d.status d.value d.scale ++ behind_bounds d) e in
    by_status m c d sc sd status c.status sc.parts (subst (λ s. HasParts m s d) (sym status) sd.parts)
    (tails_same (status_line c.status) (status_line d.status) (bound_lines c.status c.value c.scale ++ behind_bounds c)
    (bound_lines d.status d.value d.scale ++ behind_bounds d) e
    ∙ ap (λ s. bound_lines s d.value d.scale ++ behind_bounds d) (sym status))

-- a text is that of one certificate
pub read_once : (m : RobustModel) (limit : ℕ) (c d : Certificate) (text : List ℕ) → IsModel m → IsNamed m
    → IsNamedInWords m → limit ≤ 2 ^ 62 - 1 → IsTextOf m c text → IsTextOf m d text
    → FitsLines limit m c → FitsLines limit m d → c ≡ d
read_once m limit c d text model named words low is it fits fit =
    told_by_lines m c d is.shape it.shape
    (lines_same (naming_of m) (model_tells_apart m model named words) limit low c.status d.status (lines_of c)
    (lines_of d) (cert_leads m limit c is.shape fits) (cert_leads m limit d it.shape fit)
    (sym is.spelled ∙ it.spelled))
