-- Lists that may be empty, of items that begin with a name: members of a budget, entries of an adaptive variable.
use Rattle.std.proofs.Common.{◌≡◌, ℕ, List, [], ◌∷◌, ◌++◌, refl, sym, ap, ◌∙◌}
use Rattle.rob_index.specs.Symbols.{Symbol, name, sign, word}
use Rattle.rob_index.specs.Symbols as is
use Rattle.rob_index.specs.Statements.{Numeral, Signed, Index, Ref, Range, Ranged, Share}
use Rattle.rob_index.specs.Grammar.{spell_list, spell_more, spell_number, spell_ranges, spell_ref, spell_signed}
use Rattle.rob_index.specs.Lines.{spell_ranged, spell_share}
use Rattle.rob_syntax.specs.Fronts.{BeginsNot, EndsNumber, EndsRef, EndsRanges, EndsShare, EndsEntry, EndsList, Found, IsMissing, ReadsMore}
use Rattle.rob_syntax.proofs.Fronts.PartLemmas.{tails, led, led_found, led_missing, not_led, both, both_found, first_missing, second_missing, found_as, missing_as, found_within, missing_within}
use Rattle.rob_syntax.proofs.Fronts.ChainLemmas.{Chain}
use Rattle.rob_syntax.proofs.Fronts.IndexLemmas.{after_comma, comma_chain, comma_ends_index}

-- ---- a list of such items
module _ {A : Type 0} (spell : A → List Symbol) {EndsItem : List Symbol → Type 0}
    (follows : (xs : List A) (end : List Symbol) → EndsList EndsItem end → EndsItem (spell_more spell xs ++ end)) where
  module _ {symbols behind : List Symbol} (k : ℕ) (leads : symbols ≡ name k ∷ behind) where
    no_list : IsMissing (both spell (spell_more spell)) (EndsList EndsItem) symbols
        → IsMissing (spell_list spell) (EndsList EndsItem) symbols
    no_list missing = record { none = none }
      where
        none : (other : List A) (end : List Symbol) → symbols ≡ spell_list spell other ++ end → EndsList EndsItem end
            → ⊥
        none [] end same stop = stop.name k behind (sym same ∙ leads)
        none (x ∷ xs) end same stop = missing.none (x, xs) end same stop

    pub no_first_item : IsMissing spell EndsItem symbols → IsMissing (spell_list spell) (EndsList EndsItem) symbols
    no_first_item missing = no_list (first_missing (spell_more spell) follows missing)

    pub no_more_items : {middle : List Symbol} {x : A} → Found spell EndsItem symbols middle x
        → IsMissing (spell_more spell) (EndsList EndsItem) middle
        → IsMissing (spell_list spell) (EndsList EndsItem) symbols
    no_more_items first missing = no_list (second_missing (spell_more spell) follows first missing)

    pub list_found : {middle rest : List Symbol} {x : A} {new : List A} → Found spell EndsItem symbols middle x
        → ReadsMore (spell_more spell) (EndsList EndsItem) (λ xs. xs) middle rest (x ∷ []) new
        → Found (spell_list spell) (EndsList EndsItem) symbols rest new
    list_found {middle} {rest} {x} {new} first more = record {
      spelled = all.spelled ∙ ap (λ (l : List A). spell_list spell l ++ rest) (sym more.appended);
      only = only;
    }
      where
        all : Found (both spell (spell_more spell)) (EndsList EndsItem) symbols rest (x, more.items)
        all = both_found (spell_more spell) follows first more.found

        only : (other : List A) (end : List Symbol) → symbols ≡ spell_list spell other ++ end → EndsList EndsItem end
            → (other ≡ new) × (end ≡ rest)
        only [] end same stop = absurd (stop.name k behind (sym same ∙ leads))
        only (y ∷ ys) end same stop =
            let e = all.only (y, ys) end same stop in
            (ap (λ (p : A × List A). p.0 ∷ p.1) e.0 ∙ sym more.appended, e.1)

-- ---- members of a budget
-- `by`, and the deviation
abbrev pub spell_by : Numeral → List Symbol
spell_by = led (word is.by) spell_number

-- `at`, the centre and the deviation
abbrev pub spell_at : Signed × Numeral → List Symbol
spell_at = led (word is.at) (both spell_signed spell_by)

by_ends : (n : Numeral) (end : List Symbol) → EndsNumber end → EndsNumber (spell_by n ++ end)
by_ends n end stop rest same = cc

at_ends : (p : Signed × Numeral) (end : List Symbol) → EndsNumber end → EndsRef (spell_at p ++ end)
at_ends p end stop rest same = cc

abbrev share_of : Ref × (Signed × Numeral) → Share
share_of p = record { name = p.0; centre = p.1.0; deviation = p.1.1 }

abbrev parts_of : Share → Ref × (Signed × Numeral)
parts_of m = (m.name, (m.centre, m.deviation))

no_share : {symbols : List Symbol} → IsMissing (both spell_ref spell_at) EndsNumber symbols
    → IsMissing spell_share EndsNumber symbols
no_share missing = missing_as share_of parts_of (λ m. refl) (λ m. refl) (λ p. refl) missing

pub no_share_name : {symbols : List Symbol} → IsMissing spell_ref EndsRef symbols
    → IsMissing spell_share EndsNumber symbols
no_share_name missing = no_share (first_missing spell_at at_ends missing)

module _ {symbols middle : List Symbol} {r : Ref} (called : Found spell_ref EndsRef symbols middle r) where
  pub no_at : BeginsNot (word is.at) middle → IsMissing spell_share EndsNumber symbols
  no_at none = no_share (second_missing spell_at at_ends called (not_led none))

  module _ {inside : List Symbol} (at_it : middle ≡ word is.at ∷ inside) where
    pub no_centre : IsMissing spell_signed EndsNumber inside → IsMissing spell_share EndsNumber symbols
    no_centre missing =
        no_share (second_missing spell_at at_ends called (led_missing at_it (first_missing spell_by by_ends missing)))

    module _ {last : List Symbol} {c : Signed} (centre : Found spell_signed EndsNumber inside last c) where
      pub no_by : BeginsNot (word is.by) last → IsMissing spell_share EndsNumber symbols
      no_by none =
          no_share
          (second_missing spell_at at_ends called
          (led_missing at_it (second_missing spell_by by_ends centre (not_led none))))

      module _ {behind : List Symbol} (by_it : last ≡ word is.by ∷ behind) where
        pub no_deviation : IsMissing spell_number EndsNumber behind → IsMissing spell_share EndsNumber symbols
        no_deviation missing =
            no_share
            (second_missing spell_at at_ends called
            (led_missing at_it (second_missing spell_by by_ends centre (led_missing by_it missing))))

        pub share_found : {rest : List Symbol} {d : Numeral} → Found spell_number EndsNumber behind rest d
            → Found spell_share EndsNumber symbols rest (record { name = r; centre = c; deviation = d })
        share_found deviation =
            found_as share_of parts_of (λ m. refl) (λ m. refl) (λ p. refl)
            (both_found spell_at at_ends called
            (led_found at_it (both_found spell_by by_ends centre (led_found by_it deviation))))

-- ---- an item with its ranges
module _ {A : Type 0} {spell : A → List Symbol} {EndsItem EndsAll : List Symbol → Type 0}
    (follows : (rs : List Range) (end : List Symbol) → EndsAll end → EndsItem (spell_ranges rs ++ end))
    (ranges : (end : List Symbol) → EndsAll end → EndsRanges end) where
  pub ranged_found : {symbols middle rest : List Symbol} {x : A} {rs : List Range}
      → Found spell EndsItem symbols middle x → Found spell_ranges EndsRanges middle rest rs
      → Found (spell_ranged spell) EndsAll symbols rest (record { item = x; ranges = rs })
  ranged_found first second =
      found_as (λ (p : A × List Range). record { item = p.0; ranges = p.1 }) (λ (y : Ranged A). (y.item, y.ranges))
      (λ y. refl) (λ y. refl) (λ p. refl) (both_found spell_ranges follows first (found_within ranges second))

  pub no_item : {symbols : List Symbol} → IsMissing spell EndsItem symbols
      → IsMissing (spell_ranged spell) EndsAll symbols
  no_item missing =
      missing_as (λ (p : A × List Range). record { item = p.0; ranges = p.1 }) (λ (y : Ranged A). (y.item, y.ranges))
      (λ y. refl) (λ y. refl) (λ p. refl) (first_missing spell_ranges follows missing)

  pub no_item_ranges : {symbols middle : List Symbol} {x : A} → Found spell EndsItem symbols middle x
      → IsMissing spell_ranges EndsRanges middle → IsMissing (spell_ranged spell) EndsAll symbols
  no_item_ranges first missing =
      missing_as (λ (p : A × List Range). record { item = p.0; ranges = p.1 }) (λ (y : Ranged A). (y.item, y.ranges))
      (λ y. refl) (λ y. refl) (λ p. refl) (second_missing spell_ranges follows first (missing_within ranges missing))

pub share_ranges : (rs : List Range) (end : List Symbol) → EndsShare end → EndsNumber (spell_ranges rs ++ end)
share_ranges [] end stop rest same = stop.number rest same
share_ranges (r ∷ rs) end stop rest same = cc

pub share_stop : (end : List Symbol) → EndsShare end → EndsRanges end
share_stop end stop = stop.ranges

pub entry_ranges : (rs : List Range) (end : List Symbol) → EndsEntry end → EndsRef (spell_ranges rs ++ end)
entry_ranges [] end stop rest same = stop.ref rest same
entry_ranges (r ∷ rs) end stop rest same = cc

pub entry_stop : (end : List Symbol) → EndsEntry end → EndsRanges end
entry_stop end stop = stop.ranges

-- ---- behind a comma
-- a name with a bracket or a word behind it is no range
pub share_comma : (x : Ranged Share) (end : List Symbol) → EndsShare end
    → EndsShare (sign is.comma ∷ (spell_ranged spell_share x ++ end))
share_comma x end stop = record {
  number = λ rest same. cc;
  ranges = record {
    index = comma_ends_index (spell_ranged spell_share x ++ end);
    range = λ j rest same. range x.item.name.indices j rest same;
    first = λ rest same. cc;
  };
}
  where
    range : (ix : List Index) (j : ℕ) (rest : List Symbol)
        → sign is.comma
        ∷ (((spell_ref (record { name = x.item.name.name; indices = ix })
        ++ word is.at ∷ (spell_signed x.item.centre ++ word is.by ∷ spell_number x.item.deviation))
        ++ spell_ranges x.ranges) ++ end)
        ≡ sign is.comma ∷ name j ∷ sign is.equal ∷ rest → ⊥
    range [] j rest same = cc
    range (i ∷ is') j rest same = cc

abbrev pub share_chain : Chain (after_comma (spell_ranged spell_share)) EndsShare
    (spell_more (spell_ranged spell_share))
    (EndsList EndsShare)
share_chain = comma_chain (spell_ranged spell_share) EndsShare (EndsList EndsShare) (λ end stop. stop.item) share_comma

pub entry_comma : (x : Ranged Ref) (end : List Symbol) → EndsEntry end
    → EndsEntry (sign is.comma ∷ (spell_ranged spell_ref x ++ end))
entry_comma x end stop = record {
  ref = λ rest same. cc;
  ranges = record {
    index = comma_ends_index (spell_ranged spell_ref x ++ end);
    range = λ j rest same. range x.item.indices x.ranges j rest same;
    first = λ rest same. cc;
  };
  equal = λ rest same. cc;
}
  where
    range : (ix : List Index) (rs : List Range) (j : ℕ) (rest : List Symbol)
        → sign is.comma ∷ ((spell_ref (record { name = x.item.name; indices = ix }) ++ spell_ranges rs) ++ end)
        ≡ sign is.comma ∷ name j ∷ sign is.equal ∷ rest → ⊥
    range [] [] j rest same = stop.equal rest (tails (tails same))
    range [] (r ∷ rs) j rest same = cc
    range (i ∷ is') rs j rest same = cc

abbrev pub entry_chain : Chain (after_comma (spell_ranged spell_ref)) EndsEntry (spell_more (spell_ranged spell_ref))
    (EndsList EndsEntry)
entry_chain = comma_chain (spell_ranged spell_ref) EndsEntry (EndsList EndsEntry) (λ end stop. stop.item) entry_comma
