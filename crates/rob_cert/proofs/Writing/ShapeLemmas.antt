-- What is read has its shape, and so have no covers and no items.
use Rattle.std.proofs.Common.{◌≡◌, ℕ, ◌^◌, ◌<◌, ◌≤◌, List, [], ◌∷◌, ◌++◌, length, arith, refl, sym, subst, length-append}
use Rattle.std.proofs.lemmas.List.{nil_from_length}
use Rattle.std.specs.Prelude.{codes, Result, Ok, Err, IfOk}
use Rattle.rob_algebra.specs.Fraction.{Fraction}
use Rattle.rob_meaning.proofs.Naming.NameLemmas.{length-column_names, length-form_names, length-set_row_names}
use Rattle.rob_meaning.specs.Certificates.{Status, optimal, infeasible, unbounded, Cover, Item, Certificate}
use Rattle.rob_meaning.specs.Names.{Name, column_names, form_names, set_row_names}
use Rattle.rob_model.proofs.NameCountLemmas.{kind_few}
use Rattle.rob_model.specs.declared.group.Kind.TheVariants.{Form, Column, SetRow}
use Rattle.rob_model.specs.Limits.{IsWithinLimits}
use Rattle.rob_meaning.specs.Places.{0ℚ, 1ℚ, Each}
use Rattle.rob_meaning.specs.RobustModel.{RobustModel}
use Rattle.rob_cert.specs.declared.kind.Multipliers.TheVariants.{Covers, Holds}
use Rattle.rob_cert.specs.declared.kind.Vector.TheVariants.{Inside, Plan, Move, At}
use Rattle.rob_cert.specs.Lines.{Line, status_line, item_line, bound_lines, entry_lines, cover_lines, item_lines, end_line, lines_of}
use Rattle.rob_cert.specs.Covers.{IsGoodCover}
use Rattle.rob_cert.specs.Items.{IsGoodItem}
use Rattle.rob_cert.specs.Shape.{AreCoversOf, AreItemsOf, HasParts, IsCoverOf, IsItemOf}
use Rattle.rob_cert.specs.Spelling.{Naming, naming_of, line_text, lines_text, spaced, behind_spaces, words_of, spelled}
use Rattle.rob_cert.specs.Whole.{HasSizes, AreGoodLists, IsMoved, IsWellRead, IsTextOf}
use Rattle.rob_meaning.proofs.Lists.EachLemmas.{each_map}
use Rattle.rob_cert.proofs.Words.NameListLemmas.{length-parameter_names}

-- ---- no covers and no items are a model's
pub no_covers : (m : RobustModel) → AreCoversOf m []
no_covers m = record { each = tt; ordered = tt }

pub no_items : (m : RobustModel) → AreItemsOf m []
no_items m = record { each = tt; ordered = tt; few = omega arith }

-- ---- the text is as long as there are items
pub spaced_some : (ws : List Name) → 1 ≤ length (spaced ws)
spaced_some [] = omega arith
spaced_some (w ∷ ws) = omega (arith, length-append w (behind_spaces ws), behind_some ws)
  where
    behind_some : (ws : List Name) → 1 ≤ length (behind_spaces ws)
    behind_some [] = omega arith
    behind_some (v ∷ vs) = omega arith

pub lines_long : (names : Naming) (ls : List (Line Fraction)) → length ls ≤ length (lines_text names ls)
lines_long names [] = omega arith
lines_long names (l ∷ ls) =
    omega (
      arith,
      length-append (line_text names l) (lines_text names ls),
      lines_long names ls,
      spaced_some (words_of names (spelled l)),
    )

items_long : (is : List Item) → length is ≤ length (item_lines is)
items_long [] = omega arith
items_long (i ∷ is) =
    omega (
      arith,
      items_long is,
      length-append (item_line i.form i.weight i.base ∷ entry_lines At 0 i.vector) (item_lines is),
    )

tail_long : {A : Type 0} (n : ℕ) (xs ys : List A) → n ≤ length ys → n ≤ length (xs ++ ys)
tail_long n xs ys h = omega (arith, length-append xs ys)

head_long : {A : Type 0} (xs ys : List A) → length xs ≤ length (xs ++ ys)
head_long xs ys = omega (arith, length-append xs ys)

more_long : {A : Type 0} (n : ℕ) (x : A) (xs : List A) → n ≤ length xs → n ≤ length (x ∷ xs)
more_long n x xs h = omega arith

-- one list among the parts of a text
among : (x : Line Fraction) (b i p m v h t e : List (Line Fraction))
    → length t ≤ length (x ∷ (b ++ (i ++ (p ++ (m ++ (v ++ (h ++ (t ++ e))))))))
among x b i p m v h t e =
    more_long (length t) x _
    (tail_long (length t) b _
    (tail_long (length t) i _
    (tail_long (length t) p _
    (tail_long (length t) m _ (tail_long (length t) v _ (tail_long (length t) h (t ++ e) (head_long t e)))))))

le_trans : (a b c : ℕ) → a ≤ b → b ≤ c → a ≤ c
le_trans a b c h k = omega arith

below_limit : (n : ℕ) → n ≤ 2 ^ 30 → n < 2 ^ 32
below_limit n h = omega arith

under : (n t : ℕ) → n ≤ t → t < 2 ^ 32 → n < 2 ^ 32
under n t h k = omega arith

few_items : (names : Naming) (c : Certificate) (text : List ℕ) → length text < 2 ^ 32
    → text ≡ lines_text names (lines_of c) → length c.items < 2 ^ 32
few_items names c text small is =
    let lines =
    among (status_line c.status) (bound_lines c.status c.value c.scale) (entry_lines Inside 0 c.inside)
    (entry_lines Plan 0 c.plan) (entry_lines Move 0 (c.step ++ c.step_bound ∷ []))
    (cover_lines Covers c.covers) (cover_lines Holds c.holds) (item_lines c.items) (end_line ∷ []) in
    let a = le_trans (length c.items) (length (item_lines c.items)) (length (lines_of c)) (items_long c.items) lines in
    let b = le_trans (length c.items) (length (lines_of c)) (length (lines_text names (lines_of c))) a
    (lines_long names (lines_of c)) in
    under (length c.items) (length text) (subst (λ t. length c.items ≤ length t) (sym is) b) small

-- ---- by the model
good_covers : (m : RobustModel) (cs : List Cover) → Each (IsGoodCover (naming_of m)) cs → Each (IsCoverOf m) cs
good_covers m cs h = each_map (IsGoodCover (naming_of m)) (IsCoverOf m) (λ c g. record {
  form = omega (arith, g.form, length-form_names m);
  set_row = omega (arith, g.set_row, length-set_row_names m);
  amount = g.amount;
}) cs h

good_items : (m : RobustModel) (is : List Item) → Each (IsGoodItem (naming_of m)) is → Each (IsItemOf m) is
good_items m is h = each_map (IsGoodItem (naming_of m)) (IsItemOf m) (λ i g. record {
  form = omega (arith, g.form, length-form_names m);
  numbers = omega (arith, g.numbers, length-parameter_names m);
}) is h

parts_by : (m : RobustModel) (c : Certificate) (moved : List Fraction) (s : Status)
    → HasSizes (naming_of m) s c.inside c.plan moved → IsMoved moved c.step c.step_bound
    → AreGoodLists (naming_of m) s c.covers c.holds c.items
    → (s ≡ infeasible → (c.value ≡ 0ℚ) × (c.scale ≡ 1ℚ)) → HasParts m s c
parts_by m c moved optimal sizes dir lists bounds = record {
  plan = omega (arith, sizes.plan_size, length-column_names m);
  step = nil_from_length c.step (omega (arith, sizes.moved_size, dir.size));
  step_bound = dir.nothing sizes.moved_size;
  holds = lists.good_holds.unused refl;
}
parts_by m c moved infeasible sizes dir lists bounds = record {
  value = (bounds refl).0;
  scale = (bounds refl).1;
  plan = nil_from_length c.plan sizes.plan_size;
  step = nil_from_length c.step (omega (arith, sizes.moved_size, dir.size));
  step_bound = dir.nothing sizes.moved_size;
  covers = lists.good_covers.unused refl;
  holds = lists.good_holds.unused refl;
}
parts_by m c moved unbounded sizes dir lists bounds = record {
  plan = omega (arith, sizes.plan_size, length-column_names m);
  step = omega (
    arith,
    sizes.moved_size,
    dir.size,
    length-append (column_names m) (codes "tau" ∷ []),
    length-column_names m,
  );
  items = lists.good_items.unused refl;
}

-- what is read by a model's names has its shape, and is its text
pub well_read : (m : RobustModel) (c : Certificate) (text : List ℕ) → length text < 2 ^ 32
    → text ≡ lines_text (naming_of m) (lines_of c) → IsWellRead (naming_of m) c → IsTextOf m c text
well_read m c text small is h = record {
  shape = record {
    inside = omega (arith, h.sizes.inside_size, length-parameter_names m);
    parts = parts_by m c h.moved c.status h.sizes h.direction h.lists h.bounds;
    covers = record { each = good_covers m c.covers h.lists.good_covers.each; ordered = h.lists.good_covers.ordered };
    holds = record { each = good_covers m c.holds h.lists.good_holds.each; ordered = h.lists.good_holds.ordered };
    items = record {
      each = good_items m c.items h.lists.good_items.each;
      ordered = h.lists.good_items.ordered;
      few = few_items (naming_of m) c text small is;
    };
  };
  spelled = is;
}

-- the same of an answer
pub well_read_both : {T E : Type 0} (m : RobustModel) (names : Naming) (of : T → Certificate) (text : List ℕ)
    (r : Result T E) → length text ≤ 2 ^ 30 → names ≡ naming_of m
    → IfOk r (λ x. text ≡ lines_text names (lines_of (of x))) → IfOk r (λ x. IsWellRead names (of x))
    → IfOk r (λ x. IsTextOf m (of x) text)
well_read_both m names of text (Ok x) small e is h =
    well_read m (of x) text (below_limit (length text) small) (subst (λ n. text ≡ lines_text n (lines_of (of x))) e is)
    (subst (λ n. IsWellRead n (of x)) e h)
well_read_both m names of text (Err x) small e is h = tt

-- few names
pub few_names : (m : RobustModel) → IsWithinLimits m → (length (form_names m) < 2 ^ 32)
    × (length (set_row_names m) < 2 ^ 32) × (length (column_names m) < 2 ^ 32)
few_names m limits = (
  omega (arith, kind_few m limits Form),
  omega (arith, kind_few m limits SetRow),
  omega (arith, kind_few m limits Column),
)
