-- Ranges. A `,` goes on a list of them exactly where a name and `=` follow.
use Rattle.std.proofs.Common.{◌≡◌, ℕ, List, [], ◌∷◌, ◌++◌, refl, sym, ap, ◌∙◌}
use Rattle.rob_index.specs.Symbols.{Symbol, name, sign, word}
use Rattle.rob_index.specs.Symbols as is
use Rattle.rob_index.specs.Statements.{Index, Range}
use Rattle.rob_index.specs.Grammar.{spell_index, spell_more, spell_range, spell_ranges}
use Rattle.rob_syntax.specs.Fronts.{BeginsNot, BeginsNone, BeginsNoRange, BeginsRange, Ends, EndsIndex, EndsRanges, Found, IsMissing, ReadsMore}
use Rattle.rob_syntax.proofs.Fronts.PartLemmas.{tails, one_found, led, led_found, led_missing, not_led, both, both_found, first_missing, second_missing, found_as, missing_as}
use Rattle.rob_syntax.proofs.Fronts.ChainLemmas.{Chain}
use Rattle.rob_syntax.proofs.Fronts.IndexLemmas.{one_name, after_comma, comma_chain, comma_ends_index, ends_index}

-- ---- one range
-- `to`, and the last value
abbrev pub spell_upto : Index → List Symbol
spell_upto = led (word is.to) spell_index

-- `=`, and both ends
abbrev pub spell_span : Index × Index → List Symbol
spell_span = led (sign is.equal) (both spell_index spell_upto)

upto_ends : (x : Index) (end : List Symbol) → EndsIndex end → EndsIndex (spell_upto x ++ end)
upto_ends x end stop = ends_index (word is.to) (spell_index x ++ end) (λ e. cc) (λ e. cc)

-- a range from its name and its ends
abbrev range_of : ℕ × (Index × Index) → Range
range_of p = record { name = p.0; from = p.1.0; upto = p.1.1 }

abbrev parts_of : Range → ℕ × (Index × Index)
parts_of r = (r.name, (r.from, r.upto))

pub no_range : {symbols : List Symbol} → BeginsNone name symbols → IsMissing spell_range EndsIndex symbols
no_range none = record { none = λ other end same stop. none other.name _ same }

module _ {symbols behind : List Symbol} (k : ℕ) (first : symbols ≡ name k ∷ behind) where
  no_span : IsMissing spell_span EndsIndex behind → IsMissing spell_range EndsIndex symbols
  no_span missing =
      missing_as range_of parts_of (λ r. refl) (λ r. refl) (λ p. refl)
      (second_missing {EndsA = Ends} spell_span (λ b end stop. tt) (one_found {spell = name} k one_name first) missing)

  pub no_equal : BeginsNot (sign is.equal) behind → IsMissing spell_range EndsIndex symbols
  no_equal none = no_span (not_led none)

  module _ {inside : List Symbol} (equal : behind ≡ sign is.equal ∷ inside) where
    pub no_from : IsMissing spell_index EndsIndex inside → IsMissing spell_range EndsIndex symbols
    no_from missing = no_span (led_missing equal (first_missing spell_upto upto_ends missing))

    module _ {middle : List Symbol} {a : Index} (from : Found spell_index EndsIndex inside middle a) where
      pub no_to : BeginsNot (word is.to) middle → IsMissing spell_range EndsIndex symbols
      no_to none = no_span (led_missing equal (second_missing spell_upto upto_ends from (not_led none)))

      module _ {last : List Symbol} (to : middle ≡ word is.to ∷ last) where
        pub no_upto : IsMissing spell_index EndsIndex last → IsMissing spell_range EndsIndex symbols
        no_upto missing =
            no_span (led_missing equal (second_missing spell_upto upto_ends from (led_missing to missing)))

        pub range_found : {rest : List Symbol} {b : Index} → Found spell_index EndsIndex last rest b
            → Found spell_range EndsIndex symbols rest (record { name = k; from = a; upto = b })
        range_found upto =
            found_as range_of parts_of (λ r. refl) (λ r. refl) (λ p. refl)
            (both_found {EndsA = Ends} spell_span (λ b end stop. tt) (one_found {spell = name} k one_name first)
            (led_found equal (both_found spell_upto upto_ends from (led_found to upto))))

-- ---- what goes on
pub no_range_equal : {symbols behind rest : List Symbol} (k : ℕ) → symbols ≡ sign is.comma ∷ behind
    → behind ≡ name k ∷ rest → BeginsNot (sign is.equal) rest → BeginsNoRange symbols
no_range_equal k comma first none j end same =
    none end (tails (sym first ∙ tails (sym comma ∙ same)))

pub range_begins : {symbols behind rest last : List Symbol} (k : ℕ) → symbols ≡ sign is.comma ∷ behind
    → behind ≡ name k ∷ rest → rest ≡ sign is.equal ∷ last → BeginsRange symbols behind
range_begins {symbols} {behind} {rest} {last} k comma first equal = record {
  comma = comma;
  name_of = k;
  behind = last;
  begins = first ∙ ap (λ (l : List Symbol). name k ∷ l) equal;
}

-- ---- ranges behind commas
abbrev pub range_chain : Chain (after_comma spell_range) EndsIndex (spell_more spell_range) EndsRanges
range_chain =
    comma_chain spell_range EndsIndex EndsRanges (λ end stop. stop.index)
    (λ x end stop. comma_ends_index (spell_range x ++ end))

pub range_stuck : {rest behind : List Symbol} → BeginsRange rest behind → EndsRanges rest → ⊥
range_stuck {rest} {behind} begins stop =
    stop.range begins.name_of begins.behind
    (begins.comma ∙ ap (λ (l : List Symbol). sign is.comma ∷ l) begins.begins)

pub no_range_item : {rest : List Symbol} → BeginsNoRange rest → (r : Range) (end : List Symbol)
    → rest ≡ after_comma spell_range r ++ end → ⊥
no_range_item none r end same = none r.name _ same

-- ---- ranges behind `for`
-- a range, and those behind commas
abbrev spell_some : Range × List Range → List Symbol
spell_some = both spell_range (spell_more spell_range)

more_ends : (rs : List Range) (end : List Symbol) → EndsRanges end → EndsIndex (spell_more spell_range rs ++ end)
more_ends rs end stop = range_chain.behind rs end stop

module _ {symbols inside : List Symbol} (leads : symbols ≡ word is.for ∷ inside) where
  no_some : IsMissing spell_some EndsRanges inside → IsMissing spell_ranges EndsRanges symbols
  no_some missing = record { none = none }
    where
      none : (other : List Range) (end : List Symbol) → symbols ≡ spell_ranges other ++ end → EndsRanges end → ⊥
      none [] end same stop = stop.first inside (sym same ∙ leads)
      none (r ∷ rs) end same stop = missing.none (r, rs) end (tails (sym leads ∙ same)) stop

  pub no_first_range : IsMissing spell_range EndsIndex inside → IsMissing spell_ranges EndsRanges symbols
  no_first_range missing = no_some (first_missing (spell_more spell_range) more_ends missing)

  pub no_more_ranges : {middle : List Symbol} {r : Range} → Found spell_range EndsIndex inside middle r
      → IsMissing (spell_more spell_range) EndsRanges middle → IsMissing spell_ranges EndsRanges symbols
  no_more_ranges first missing = no_some (second_missing (spell_more spell_range) more_ends first missing)

  pub ranges_found : {middle rest : List Symbol} {r : Range} {new : List Range}
      → Found spell_range EndsIndex inside middle r
      → ReadsMore (spell_more spell_range) EndsRanges (λ xs. xs) middle rest (r ∷ []) new
      → Found spell_ranges EndsRanges symbols rest new
  ranges_found {middle} {rest} {r} {new} first more = record {
    spelled = leads ∙ ap (λ (l : List Symbol). word is.for ∷ l) some.spelled
        ∙ ap (λ (l : List Range). spell_ranges l ++ rest) (sym more.appended);
    only = only;
  }
    where
      some : Found spell_some EndsRanges inside rest (r, more.items)
      some = both_found (spell_more spell_range) more_ends first more.found

      only : (other : List Range) (end : List Symbol) → symbols ≡ spell_ranges other ++ end → EndsRanges end
          → (other ≡ new) × (end ≡ rest)
      only [] end same stop = absurd (stop.first inside (sym same ∙ leads))
      only (s ∷ ss) end same stop =
          let e = some.only (s, ss) end (tails (sym leads ∙ same)) stop in
          (ap (λ (p : Range × List Range). p.0 ∷ p.1) e.0 ∙ sym more.appended, e.1)
