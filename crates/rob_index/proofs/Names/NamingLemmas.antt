-- The names of an expansion are those of the statement's refs in settings that are reached.
use Rattle.std.proofs.Common.{◌≡◌, ◌≤◌, Bool, true, false, ◌||◌, List, [], ◌∷◌, ◌++◌, map, length, refl, sym, ◌∙◌, subst, arith}
use Rattle.std.specs.Prelude.{ℤ, Option, Some, None}
use Rattle.std.specs.List.{list_any}
use Rattle.std.proofs.lemmas.Bool.{or_parts, false_from_ne_true}
use Rattle.std.proofs.lemmas.Bool.Decides.{nat_tests}
use Rattle.std.proofs.lemmas.List.Folds.{list_any-append}
use Rattle.rob_algebra.specs.Items.{Each}
use Rattle.rob_algebra.proofs.ListLemmas.{each_append}
use Rattle.rob_index.specs.Statements.{Name, Plain, Parts, Factors, Member, Statement, Index, Ref, Range, Tree, TreeParts, TreeFactors, Ranged, Sides, Indexed}
use Rattle.rob_index.specs.Statements as stated
use Rattle.rob_index.specs.Settings.{Setting, settings, with_value, values}
use Rattle.rob_index.specs.Expansion.{ref_name, optional_name, added, summed, expand_each, expand_tree, expand_parts, expand_factors, member_of, ranges_of, statement_at, expand}
use Rattle.rob_index.specs.Membership.{Among, here, there}
use Rattle.rob_index.specs.Refs.{IfThere, EachName, EachPartName, EachFactorName, EachSideName, EachNameOf, EachRef, EachPartRef, EachFactorRef, EachSideRef, EachRefOf, IsNameOf}
use Rattle.rob_index.specs.Rules.{is_out_at, is_out, longest_name, is_long_name, plain_has_long, parts_have_long, factors_have_long, optional_has_long, has_no_member, is_no_statement}
use Rattle.rob_index.specs.Places.{of_index, ref_places, optional_places, range_places, under, tree_places, part_places, factor_places, each_places, sides_places, inner_places, places}
use Rattle.rob_index.proofs.Expanding.ExpansionLemmas.{settings-append}
use Rattle.rob_index.proofs.LinesRead.ListLemmas.{any_from, flat_among}

-- ---- tests that no item passes
pub none_both : {A : Type 0} (p : A → Bool) (xs ys : List A) → list_any p (xs ++ ys) ≡ false
    → (list_any p xs ≡ false) × (list_any p ys ≡ false)
none_both p xs ys h = or_parts (list_any p xs) (list_any p ys) (sym (list_any-append p xs ys) ∙ h)

pub none_among : {A : Type 0} (p : A → Bool) (xs : List A) (x : A) → list_any p xs ≡ false → Among x xs → p x ≡ false
none_among p xs x h m = false_from_ne_true (p x) (λ (yes : p x ≡ true). let all = any_from p xs x m yes in cc)

-- ---- items
each_mapped : {A B : Type 0} (P : B → Type 0) (f : A → B) (xs : List A) → ((x : A) → Among x xs → P (f x))
    → Each P (map f xs)
each_mapped P f [] h = tt
each_mapped P f (x ∷ xs) h = (h x here, each_mapped P f xs (λ y m. h y (there m)))

pub among_mapped : {A B : Type 0} (f : A → B) (xs : List A) (y : B) → Among y (map f xs) → (x : A)
    × Among x xs × (f x ≡ y)
among_mapped f [] y m = elim m [ ]
among_mapped f (x ∷ xs) y here = (x, here, refl)
among_mapped f (x ∷ xs) y (there m) = let r = among_mapped f xs y m in (r.0, there r.1, r.2)

-- ---- settings inside more ranges
pub inside_more : (above rs : List Range) (setting next : Setting) → Among setting (settings above [])
    → Among next (settings rs setting) → Among next (settings (above ++ rs) [])
inside_more above rs setting next m n =
    subst (Among next) (sym (settings-append above rs []))
    (flat_among (settings rs) (settings above []) setting next m n)

pub inside_one : (above : List Range) (r : Range) (setting : Setting) (v : ℤ) → Among setting (settings above [])
    → Among v (values setting r) → Among (with_value r setting v) (settings (under above r) [])
inside_one above r setting v m n =
    inside_more above (r ∷ []) setting (with_value r setting v) m
    (flat_among (λ w. settings [] (with_value r setting w)) (values setting r) v (with_value r setting v) n here)

-- ---- indices within bounds
pub indices_within : (above : List Range) (xs : List Index) → list_any is_out (map (of_index above) xs) ≡ false
    → (setting : Setting) → Among setting (settings above []) → Each (λ (x : Index). is_out_at x setting ≡ false) xs
indices_within above [] h setting m = tt
indices_within above (x ∷ xs) h setting m =
    let parts =
    or_parts (list_any (is_out_at x) (settings above [])) (list_any is_out (map (of_index above) xs)) h in (
      none_among (is_out_at x) (settings above []) setting parts.0 m,
      indices_within above xs parts.1 setting m,
    )

module _ (words : List Name) (Q : Ref → Type 0) where
  -- a name of a ref
  abbrev Named : Name → Type 0
  Named n = IsNameOf words Q n

  ref_named : (above : List Range) (r : Ref) → Q r → list_any is_out (ref_places above r) ≡ false
      → (setting : Setting) → Among setting (settings above []) → Named (ref_name words setting r)
  ref_named above r q h setting m = record {
    named = r;
    setting = setting;
    holds = q;
    name_is = refl;
    within = indices_within above r.indices h setting m;
  }

  optional_named : (above : List Range) (o : Option Ref) → IfThere Q o
      → list_any is_out (optional_places above o) ≡ false
      → (setting : Setting) → Among setting (settings above []) → IfThere Named (optional_name words setting o)
  optional_named above None q h setting m = tt
  optional_named above (Some r) q h setting m = ref_named above r q h setting m

  added_named : (f : ℤ → Plain) (vs : List ℤ) → ((v : ℤ) → Among v vs → EachName Named (f v))
      → EachPartName Named (added (map f vs))
  added_named f [] h = tt
  added_named f (v ∷ vs) h = (h v here, added_named f vs (λ w m. h w (there m)))

  summed_named : (f : ℤ → Plain) (vs : List ℤ) → ((v : ℤ) → Among v vs → EachName Named (f v))
      → EachName Named (summed (map f vs))
  summed_named f [] h = tt
  summed_named f (v ∷ []) h = h v here
  summed_named f (v ∷ w ∷ vs) h = added_named f (v ∷ w ∷ vs) h

  mutual
    tree_named : (above : List Range) (t : Tree) → EachRef Q t → list_any is_out (tree_places above t) ≡ false
        → (setting : Setting) → Among setting (settings above []) → EachName Named (expand_tree words t setting)
    tree_named above (stated.number n) q h setting m = tt
    tree_named above (stated.ref r) q h setting m = ref_named above r q h setting m
    tree_named above (stated.sum ts) q h setting m = parts_named above ts q h setting m
    tree_named above (stated.product ts) q h setting m = factors_named above ts q h setting m
    tree_named above (stated.ranged r t) q h setting m =
        summed_named (λ v. expand_tree words t (with_value r setting v)) (values setting r)
        (λ v n. tree_named (under above r) t q h (with_value r setting v) (inside_one above r setting v m n))

    parts_named : (above : List Range) (ts : TreeParts) → EachPartRef Q ts
        → list_any is_out (part_places above ts) ≡ false
        → (setting : Setting) → Among setting (settings above []) → EachPartName Named (expand_parts words ts setting)
    parts_named above stated.no_parts q h setting m = tt
    parts_named above (stated.part minus t ts) q h setting m =
        let none = none_both is_out (tree_places above t) (part_places above ts) h in
        (tree_named above t q.0 none.0 setting m, parts_named above ts q.1 none.1 setting m)

    factors_named : (above : List Range) (ts : TreeFactors) → EachFactorRef Q ts
        → list_any is_out (factor_places above ts) ≡ false
        → (setting : Setting) → Among setting (settings above [])
        → EachFactorName Named (expand_factors words ts setting)
    factors_named above stated.no_factors q h setting m = tt
    factors_named above (stated.factor t ts) q h setting m =
        let none = none_both is_out (tree_places above t) (factor_places above ts) h in
        (tree_named above t q.0 none.0 setting m, factors_named above ts q.1 none.1 setting m)

  -- items, each inside its own ranges
  items_named : {A B : Type 0} (make : Setting → A → B) (ref : A → Ref) (P : B → Type 0)
      → ((setting : Setting) (x : A) → Named (ref_name words setting (ref x)) → P (make setting x))
      → (above : List Range) (xs : List (Ranged A)) → Each (λ x. Q (ref x.item)) xs
      → list_any is_out (each_places ref above xs) ≡ false
      → (setting : Setting) → Among setting (settings above []) → Each P (expand_each make setting xs)
  items_named make ref P to above [] q h setting m = tt
  items_named make ref P to above (x ∷ xs) q h setting m =
      let own = range_places above x.ranges in
      let name = ref_places (above ++ x.ranges) (ref x.item) in
      let none = none_both is_out (own ++ name) (each_places ref above xs) h in
      let here_none = (none_both is_out own name none.0).1 in
      each_append P (map (λ e. make e x.item) (settings x.ranges setting)) (expand_each make setting xs)
      (each_mapped P (λ e. make e x.item) (settings x.ranges setting)
      (λ e n. to e x.item
      (ref_named (above ++ x.ranges) (ref x.item) q.0 here_none e (inside_more above x.ranges setting e m n))))
      (items_named make ref P to above xs q.1 none.1 setting m)

  sides_named : (rs : List Range) (s : Sides Tree) → EachSideRef Q s → list_any is_out (sides_places rs s) ≡ false
      → (setting : Setting) → Among setting (settings rs [])
      → EachSideName Named (expand_tree words s.left setting) (expand_tree words s.right setting)
      (optional_name words setting s.over)
  sides_named rs s q h setting m =
      let left = none_both is_out (tree_places rs s.left) (tree_places rs s.right ++ optional_places rs s.over) h in
      let right = none_both is_out (tree_places rs s.right) (optional_places rs s.over) left.1 in (
        tree_named rs s.left q.0 left.0 setting m,
        tree_named rs s.right q.1 right.0 setting m,
        optional_named rs s.over q.2 right.1 setting m,
      )

  statement_named : (s : Indexed Tree) → EachRefOf Q s → list_any is_out (inner_places s) ≡ false
      → (setting : Setting) → Among setting (settings (ranges_of s) [])
      → EachNameOf Named (statement_at words s setting)
  statement_named (stated.uncertain r b rs) q h setting m = ref_named rs r q h setting m
  statement_named (stated.over r rs) q h setting m = ref_named rs r q h setting m
  statement_named (stated.set s rs) q h setting m = sides_named rs s q h setting m
  statement_named (stated.budget n ms o) q h setting m =
      let none = none_both is_out (each_places (λ x. x.name) [] ms) (optional_places [] o) h in (
        items_named (member_of words) (λ x. x.name) (λ (x : Member). Named x.name) (λ e x k. k) []
            ms q.0 none.0 setting m,
        optional_named [] o q.1 none.1 setting m,
      )
  statement_named (stated.variable r b rs) q h setting m = ref_named rs r q h setting m
  statement_named (stated.adaptive r on b rs) q h setting m =
      let none = none_both is_out (ref_places rs r) (each_places (λ x. x) rs on) h in (
        ref_named rs r q.0 none.0 setting m,
        items_named (ref_name words) (λ x. x) Named (λ e x k. k) rs on q.1 none.1 setting m,
      )
  statement_named (stated.goal s e o rs) q h setting m =
      let none = none_both is_out (tree_places rs e) (optional_places rs o) h in
      (tree_named rs e q.0 none.0 setting m, optional_named rs o q.1 none.1 setting m)
  statement_named (stated.row r s rs) q h setting m =
      let none = none_both is_out (ref_places rs r) (sides_places rs s) h in
      (ref_named rs r q.0 none.0 setting m, sides_named rs s q.1 none.1 setting m)

  pub names_of_refs : (s : Indexed Tree) → EachRefOf Q s → list_any is_out (places s) ≡ false
      → (p : Statement) → Among p (expand words s) → EachNameOf Named p
  names_of_refs s q h p m =
      let from = among_mapped (statement_at words s) (settings (ranges_of s) []) p m in
      subst (EachNameOf Named) from.2
      (statement_named s q (none_both is_out (range_places [] (ranges_of s)) (inner_places s) h).1 from.0 from.1)

-- ---- none is too long
abbrev pub IsShort : Name → Type 0
IsShort n = length n ≤ longest_name

short : (n : Name) → is_long_name n ≡ false → IsShort n
short n h = grind (arith, nat_tests)

mutual
  plain_short : (p : Plain) → plain_has_long p ≡ false → EachName IsShort p
  plain_short (stated.number n) h = tt
  plain_short (stated.name n) h = short n h
  plain_short (stated.sum ps) h = parts_short ps h
  plain_short (stated.product ps) h = factors_short ps h

  parts_short : (ps : Parts) → parts_have_long ps ≡ false → EachPartName IsShort ps
  parts_short stated.no_parts h = tt
  parts_short (stated.part minus p ps) h =
      let none = or_parts (plain_has_long p) (parts_have_long ps) h in (plain_short p none.0, parts_short ps none.1)

  factors_short : (ps : Factors) → factors_have_long ps ≡ false → EachFactorName IsShort ps
  factors_short stated.no_factors h = tt
  factors_short (stated.factor p ps) h =
      let none = or_parts (plain_has_long p) (factors_have_long ps) h in
      (plain_short p none.0, factors_short ps none.1)

optional_short : (o : Option Name) → optional_has_long o ≡ false → IfThere IsShort o
optional_short None h = tt
optional_short (Some n) h = short n h

members_short : (ms : List Member) → list_any (λ (m : Member). is_long_name m.name) ms ≡ false
    → Each (λ (m : Member). IsShort m.name) ms
members_short [] h = tt
members_short (m ∷ ms) h =
    let none = or_parts (is_long_name m.name) (list_any (λ (x : Member). is_long_name x.name) ms) h in
    (short m.name none.0, members_short ms none.1)

names_short : (ns : List Name) → list_any is_long_name ns ≡ false → Each IsShort ns
names_short [] h = tt
names_short (n ∷ ns) h =
    let none = or_parts (is_long_name n) (list_any is_long_name ns) h in (short n none.0, names_short ns none.1)

sides_short : (l p : Plain) (o : Option Name) → (plain_has_long l || (plain_has_long p || optional_has_long o)) ≡ false
    → EachSideName IsShort l p o
sides_short l p o h =
    let left = or_parts (plain_has_long l) (plain_has_long p || optional_has_long o) h in
    let right = or_parts (plain_has_long p) (optional_has_long o) left.1 in
    (plain_short l left.0, plain_short p right.0, optional_short o right.1)

pub all_short : (p : Statement) → is_no_statement p ≡ false → EachNameOf IsShort p
all_short (stated.uncertain n b) h = short n h
all_short (stated.over n) h = short n h
all_short (stated.set l r p o) h = sides_short l p o h
all_short (stated.budget n ms o) h =
    let some = or_parts (has_no_member ms)
    (list_any (λ (m : Member). is_long_name m.name) ms || optional_has_long o) h in
    let rest = or_parts (list_any (λ (m : Member). is_long_name m.name) ms) (optional_has_long o) some.1 in
    (members_short ms rest.0, optional_short o rest.1)
all_short (stated.variable n b) h = short n h
all_short (stated.adaptive n on b) h =
    let none = or_parts (is_long_name n) (list_any is_long_name on) h in (short n none.0, names_short on none.1)
all_short (stated.goal s e o) h =
    let none = or_parts (plain_has_long e) (optional_has_long o) h in
    (plain_short e none.0, optional_short o none.1)
all_short (stated.row n l r p o) h =
    let none = or_parts (is_long_name n) (plain_has_long l || (plain_has_long p || optional_has_long o)) h in
    (short n none.0, sides_short l p o none.1)
