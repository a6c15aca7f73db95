-- An expression into which forms are put is the whole one in every respect: a name by its indices, a sum and a product
-- item by item, and a sum over a range by what is inside it at the values that are as far from its start.
use Rattle.std.proofs.Common.{◌≡◌, ℕ, zero, suc, Bool, true, false, List, [], ◌∷◌, ◌++◌, map, get_or, refl, sym, ap, ◌∙◌, arith}
use Rattle.std.specs.Prelude.{ℤ, pos, ◌+ℤ◌, ◌-ℤ◌, int_lt, Option}
use Rattle.std.specs.Fmt.{decimal}
use Rattle.std.specs.List.{flat_map}
use Rattle.std.proofs.lemmas.Int.{ints}
use Rattle.rob_algebra.proofs.ListLemmas.{map_map}
use Rattle.rob_index.specs.Statements as stated
use Rattle.rob_index.specs.Statements.{Name, Tree}
use Rattle.rob_index.specs.Expansion.{summed}
use Rattle.rob_index.specs.Forms.{Form, Ends, value_of, values_of, length_form}
use Rattle.rob_index.specs.Fast.{nothing}
use Rattle.rob_index.specs.Settings.{count, natural, upwards}
use Rattle.rob_index.proofs.Faults.FormLemmas.{minus_is}
use Rattle.rob_syntax.specs.Seen as seen
use Rattle.rob_syntax.specs.Seen.{SeenPart}
use Rattle.rob_expand.specs.declared.count.Counted.{Counted}
use Rattle.rob_expand.specs.declared.count.Shape.TheVariants as shape
use Rattle.rob_expand.specs.declared.finding.Finding.{Finding}
use Rattle.rob_expand.specs.declared.scope.Binding.{Binding}
use Rattle.rob_expand.specs.Count.{of_shape, part_left, factor_left, each_left, over_left, tree_left, parts_left, factors_left}
use Rattle.rob_expand.specs.Growing.{printed, printed_at}
use Rattle.rob_expand.specs.Judging.{finding, is_outside, worse, worst, indices_found, tree_found, parts_found, factors_found}
use Rattle.rob_expand.specs.Placed.{Placed, Part, number, name, sum, product, over, parts_of, factors_of}
use Rattle.rob_expand.specs.Placing.{placed_tree, placed_parts, placed_factors}
use Rattle.rob_settings.specs.Room.{after}
use Rattle.rob_expand.specs.Scopes.{values_in, IsPutIn, IsNothing, IsAlike, IsPart, Pairwise}
use Rattle.rob_expand.specs.Standing.{parts_at, factors_at}
use Rattle.rob_expand.proofs.Walks.FindingLemmas.{worst_map}
use Rattle.rob_expand.proofs.Counting.InmostLemmas.{one_counted, one_printed, one_found}

-- ---- values that are moved by a number
upwards_moved : (s t : ℤ) (n : ℕ) → upwards (s +ℤ t) n ≡ map (λ w. s +ℤ w) (upwards t n)
upwards_moved s t zero = refl
upwards_moved s t (suc n) =
    let next : (s +ℤ t) +ℤ pos 1 ≡ s +ℤ (t +ℤ pos 1) = omega (arith, ints) in
    ap (λ (l : List ℤ). (s +ℤ t) ∷ l)
    (ap (λ (a : ℤ). upwards a n) next ∙ upwards_moved s (t +ℤ pos 1) n)

module _ (limit : ℕ) (make : ℤ → ℕ → Option Counted) (at : ℤ → ℤ) where
  each_mapped : (first : Bool) (ws : List ℤ) (room : ℕ)
      → each_left limit make first (map at ws) room ≡ each_left limit (λ w. make (at w)) first ws room
  each_mapped first [] room = refl
  each_mapped first (w ∷ ws) room =
      λ i. after (part_left limit first false (make (at w)) room) (λ k. each_mapped false ws k i)

  over_mapped : (ws : List ℤ) (room : ℕ)
      → over_left limit make (map at ws) room ≡ over_left limit (λ w. make (at w)) ws room
  over_mapped [] room = refl
  over_mapped (w ∷ []) room = refl
  over_mapped (w ∷ x ∷ ws) room = ap (λ (o : Option ℕ). of_shape shape.Sum o) (each_mapped true (w ∷ x ∷ ws) room)

module _ (bound : List Binding) where
  -- ---- a number, and a name
  pub number_alike : (n : stated.Numeral) → IsAlike bound (number n) (number n)
  number_alike n = record {
    counted = λ limit room ws. refl;
    printed = λ own ws. refl;
    found = λ ws. refl;
  }

  indices_printed : (fs gs : List Form) → Pairwise (IsPutIn bound) fs gs → (ws : List ℤ)
      → flat_map (λ (f : Form). 95 ∷ decimal (printed (value_of f ws))) fs
      ≡ flat_map (λ (f : Form). 95 ∷ decimal (printed (value_of f (values_in bound ws)))) gs
  indices_printed [] [] h ws = refl
  indices_printed [] (g ∷ gs) h ws = absurd h
  indices_printed (f ∷ fs) [] h ws = absurd h
  indices_printed (f ∷ fs) (g ∷ gs) h ws =
      λ i. (95 ∷ decimal (printed (h.0 ws i))) ++ indices_printed fs gs h.1 ws i

  indices_alike : (fs gs : List Form) → Pairwise (IsPutIn bound) fs gs → (ws : List ℤ)
      → indices_found fs ws ≡ indices_found gs (values_in bound ws)
  indices_alike [] [] h ws = refl
  indices_alike [] (g ∷ gs) h ws = absurd h
  indices_alike (f ∷ fs) [] h ws = absurd h
  indices_alike (f ∷ fs) (g ∷ gs) h ws =
      λ i. worse (finding false (is_outside (h.0 ws i))) (indices_alike fs gs h.1 ws i)

  pub name_alike : (k : ℕ) (fs gs : List Form) → Pairwise (IsPutIn bound) fs gs
      → IsAlike bound (name k fs) (name k gs)
  name_alike k fs gs h = record {
    counted = λ limit room ws. refl;
    printed = λ own ws. ap (λ (t : List ℕ). stated.name (get_or own k [] ++ t)) (indices_printed fs gs h ws);
    found = λ ws. indices_alike fs gs h ws;
  }

  -- ---- sums and products
  module _ (names : List ℕ) where
    parts_counted : (ps : List Part) (xs : List SeenPart) → Pairwise (IsPart bound names) ps xs
        → (limit : ℕ) (first : Bool) (ws : List ℤ) (room : ℕ)
        → parts_left limit first (parts_of ps) ws room
        ≡ parts_left limit first (placed_parts names (seen.parts_of xs)) (values_in bound ws) room
    parts_counted [] [] h limit first ws room = refl
    parts_counted [] (x ∷ xs) h limit first ws room = absurd h
    parts_counted (p ∷ ps) [] h limit first ws room = absurd h
    parts_counted (p ∷ ps) (x ∷ xs) h limit first ws room =
        λ i. after (part_left limit first (h.0.0 i) (λ k. h.0.1.counted limit k ws i) room)
        (λ k. parts_counted ps xs h.1 limit false ws k i)

    parts_printed : (ps : List Part) (xs : List SeenPart) → Pairwise (IsPart bound names) ps xs
        → (own : List Name) (ws : List ℤ)
        → parts_at own printed (parts_of ps) ws
        ≡ parts_at own printed (placed_parts names (seen.parts_of xs)) (values_in bound ws)
    parts_printed [] [] h own ws = refl
    parts_printed [] (x ∷ xs) h own ws = absurd h
    parts_printed (p ∷ ps) [] h own ws = absurd h
    parts_printed (p ∷ ps) (x ∷ xs) h own ws =
        λ i. stated.part (h.0.0 i) (h.0.1.printed own ws i) (parts_printed ps xs h.1 own ws i)

    parts_alike : (ps : List Part) (xs : List SeenPart) → Pairwise (IsPart bound names) ps xs → (ws : List ℤ)
        → parts_found (parts_of ps) ws ≡ parts_found (placed_parts names (seen.parts_of xs)) (values_in bound ws)
    parts_alike [] [] h ws = refl
    parts_alike [] (x ∷ xs) h ws = absurd h
    parts_alike (p ∷ ps) [] h ws = absurd h
    parts_alike (p ∷ ps) (x ∷ xs) h ws = λ i. worse (h.0.1.found ws i) (parts_alike ps xs h.1 ws i)

    pub sum_alike : (ps : List Part) (xs : List SeenPart) → Pairwise (IsPart bound names) ps xs
        → IsAlike bound (sum (parts_of ps)) (sum (placed_parts names (seen.parts_of xs)))
    sum_alike ps xs h = record {
      counted = λ limit room ws.
          ap (λ (o : Option ℕ). of_shape shape.Sum o) (parts_counted ps xs h limit true ws room);
      printed = λ own ws. ap (λ (t : stated.Parts). stated.sum t) (parts_printed ps xs h own ws);
      found = λ ws. parts_alike ps xs h ws;
    }

    abbrev IsFactor : Placed → Tree → Type 0
    IsFactor p t = IsAlike bound p (placed_tree names t)

    factors_counted : (ps : List Placed) (ts : List Tree) → Pairwise IsFactor ps ts
        → (limit : ℕ) (first : Bool) (ws : List ℤ) (room : ℕ)
        → factors_left limit first (factors_of ps) ws room
        ≡ factors_left limit first (placed_factors names (seen.factors_of ts)) (values_in bound ws) room
    factors_counted [] [] h limit first ws room = refl
    factors_counted [] (t ∷ ts) h limit first ws room = absurd h
    factors_counted (p ∷ ps) [] h limit first ws room = absurd h
    factors_counted (p ∷ ps) (t ∷ ts) h limit first ws room =
        λ i. after (factor_left limit first (λ k. h.0.counted limit k ws i) room)
        (λ k. factors_counted ps ts h.1 limit false ws k i)

    factors_printed : (ps : List Placed) (ts : List Tree) → Pairwise IsFactor ps ts → (own : List Name) (ws : List ℤ)
        → factors_at own printed (factors_of ps) ws
        ≡ factors_at own printed (placed_factors names (seen.factors_of ts)) (values_in bound ws)
    factors_printed [] [] h own ws = refl
    factors_printed [] (t ∷ ts) h own ws = absurd h
    factors_printed (p ∷ ps) [] h own ws = absurd h
    factors_printed (p ∷ ps) (t ∷ ts) h own ws =
        λ i. stated.factor (h.0.printed own ws i) (factors_printed ps ts h.1 own ws i)

    factors_alike : (ps : List Placed) (ts : List Tree) → Pairwise IsFactor ps ts → (ws : List ℤ)
        → factors_found (factors_of ps) ws
        ≡ factors_found (placed_factors names (seen.factors_of ts)) (values_in bound ws)
    factors_alike [] [] h ws = refl
    factors_alike [] (t ∷ ts) h ws = absurd h
    factors_alike (p ∷ ps) [] h ws = absurd h
    factors_alike (p ∷ ps) (t ∷ ts) h ws = λ i. worse (h.0.found ws i) (factors_alike ps ts h.1 ws i)

    pub product_alike : (ps : List Placed) (ts : List Tree) → Pairwise IsFactor ps ts
        → IsAlike bound (product (factors_of ps)) (product (placed_factors names (seen.factors_of ts)))
    product_alike ps ts h = record {
      counted = λ limit room ws.
          ap (λ (o : Option ℕ). of_shape shape.Product o) (factors_counted ps ts h limit true ws room);
      printed = λ own ws. ap (λ (t : stated.Factors). stated.product t) (factors_printed ps ts h own ws);
      found = λ ws. factors_alike ps ts h ws;
    }

  -- ---- a sum over a range, whose ends are these forms over the values that a setting has
  module _ (whole : Ends) (from length : Form) (from_is : IsPutIn bound from whole.from)
      (length_is : IsPutIn bound length (length_form whole)) (p inner : Placed) where
    -- the last value of the range
    upto_at : (ws : List ℤ) → value_of whole.upto (values_in bound ws) ≡ value_of from ws +ℤ value_of length ws
    upto_at ws =
        let far = length_is ws ∙ minus_is whole.upto whole.from (values_in bound ws) in
        omega (arith, ints, far, from_is ws)

    -- the range from 0 up by its length
    abbrev moving : Ends
    moving = record { from = nothing; upto = length }

    nothing_at : (ws : List ℤ) → value_of nothing ws ≡ pos 0
    nothing_at ws = omega (arith, ints)

    values_moved : (ws : List ℤ)
        → values_of whole (values_in bound ws) ≡ map (λ w. value_of from ws +ℤ w) (values_of moving ws)
    values_moved ws =
        let s = value_of from ws in
        let u = s +ℤ value_of length ws in
        let zero = nothing_at ws in
        let reach : (u +ℤ pos 1) -ℤ s ≡ (value_of length ws +ℤ pos 1) -ℤ value_of nothing ws =
        omega (arith, ints, zero) in
        let many : count s u ≡ count (value_of nothing ws) (value_of length ws) = ap natural reach in
        let start : s ≡ s +ℤ pos 0 = omega (arith, ints) in
        (λ i. upwards (sym (from_is ws) i) (count (sym (from_is ws) i) (upto_at ws i)))
        ∙ ap (λ (a : ℤ). upwards a (count s u)) start
        ∙ upwards_moved s (pos 0) (count s u)
        ∙ (λ i. map (λ w. s +ℤ w) (upwards (sym zero i) (many i)))

    length_alike : (ws : List ℤ) → value_of (length_form moving) ws ≡ value_of (length_form whole) (values_in bound ws)
    length_alike ws =
        let zero = nothing_at ws in
        let a = minus_is length nothing ws in
        let own : value_of (length_form moving) ws ≡ value_of length ws = omega (arith, ints, zero, a) in
        own ∙ length_is ws

    pub over_alike : IsAlike (record { moves = true; start = from } ∷ bound) p inner
        → IsAlike bound (over moving p) (over whole inner)
    over_alike alike = record {
      counted = λ limit room ws.
          let vs = values_in bound ws in
          let make : ℤ → ℕ → Option Counted = λ v k. tree_left limit inner (v ∷ vs) k in
          let each : (w : ℤ) (k : ℕ) → tree_left limit p (w ∷ ws) k ≡ make (value_of from ws +ℤ w) k =
          λ w k. alike.counted limit k (w ∷ ws) in
          (λ i. over_left limit (λ w k. each w k i) (values_of moving ws) room)
          ∙ sym (over_mapped limit make (λ w. value_of from ws +ℤ w) (values_of moving ws) room)
          ∙ ap (λ (l : List ℤ). over_left limit make l room) (sym (values_moved ws));
      printed = λ own ws.
          let vs = values_in bound ws in
          let make : ℤ → stated.Plain = λ v. printed_at own inner (v ∷ vs) in
          let each : (w : ℤ) → printed_at own p (w ∷ ws) ≡ make (value_of from ws +ℤ w) =
          λ w. alike.printed own (w ∷ ws) in
          (λ i. summed (map (λ w. each w i) (values_of moving ws)))
          ∙ ap (λ (l : List stated.Plain). summed l)
          (sym (map_map make (λ w. value_of from ws +ℤ w) (values_of moving ws))
          ∙ ap (map make) (sym (values_moved ws)));
      found = λ ws.
          let vs = values_in bound ws in
          let make : ℤ → Finding = λ v. tree_found inner (v ∷ vs) in
          let each : (w : ℤ) → tree_found p (w ∷ ws) ≡ make (value_of from ws +ℤ w) =
          λ w. alike.found (w ∷ ws) in
          let inside : worst (λ w. tree_found p (w ∷ ws)) (values_of moving ws) ≡ worst make (values_of whole vs) =
          (λ i. worst (λ w. each w i) (values_of moving ws))
          ∙ sym (worst_map make (λ w. value_of from ws +ℤ w) (values_of moving ws))
          ∙ ap (worst make) (sym (values_moved ws)) in
          λ i. worse (finding (int_lt (pos 99) (length_alike ws i)) false) (inside i);
    }

    -- that has one value
    pub single_alike : IsNothing length → IsAlike (record { moves = false; start = from } ∷ bound) p inner
        → IsAlike bound p (over whole inner)
    single_alike none alike =
        let first : (ws : List ℤ) → value_of from ws +ℤ pos 0 ≡ value_of whole.from (values_in bound ws) =
        λ ws. let a = from_is ws in omega (arith, ints, a) in
        let last : (ws : List ℤ) → value_of from ws +ℤ pos 0 ≡ value_of whole.upto (values_in bound ws) =
        λ ws. let a = upto_at ws in let b = none ws in omega (arith, ints, a, b) in
        record {
          counted = λ limit room ws.
              alike.counted limit room ws
              ∙ sym (one_counted whole (values_in bound ws) (value_of from ws +ℤ pos 0) (first ws) (last ws) inner
              limit room);
          printed = λ own ws.
              alike.printed own ws
              ∙ sym (one_printed whole (values_in bound ws) (value_of from ws +ℤ pos 0) (first ws) (last ws) inner
              own);
          found = λ ws.
              alike.found ws
              ∙ sym (one_found whole (values_in bound ws) (value_of from ws +ℤ pos 0) (first ws) (last ws) inner);
        }
