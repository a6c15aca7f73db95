-- A sum over a range of one value is the expression inside it, with that value in front.
use Rattle.std.proofs.Common.{◌≡◌, ℕ, List, [], ◌∷◌, map, refl, sym, ap, ◌∙◌, arith}
use Rattle.std.specs.Prelude.{ℤ, pos, ◌+ℤ◌, Bool, false, Some, Result, MatchResult}
use Rattle.std.proofs.lemmas.Int.{ints}
use Rattle.rob_index.specs.Statements.{Name}
use Rattle.rob_index.specs.Expansion.{summed}
use Rattle.rob_index.specs.Forms.{Ends, value_of, values_of, length_form}
use Rattle.rob_index.specs.Settings.{count, upwards}
use Rattle.rob_index.proofs.Faults.FormLemmas.{minus_is}
use Rattle.rob_index.proofs.Faults.NestLemmas.{le_to}
use Rattle.rob_ranges.proofs.DigitLemmas.{lt_no}
use Rattle.rob_ranges.proofs.NestLemmas.{le_no, run_next, run_over}
use Rattle.rob_expand.specs.declared.count.Counted.{Counted}
use Rattle.rob_expand.specs.declared.finding.Finding.TheVariants.{Nothing}
use Rattle.rob_expand.specs.declared.placed.Placed.{Placed as Code}
use Rattle.rob_expand.specs.declared.placed.Placed.TheVariants as code
use Rattle.rob_settings.specs.declared.room.Stop.{Stop}
use Rattle.rob_expand.specs.Count.{tree_left, over_left}
use Rattle.rob_expand.specs.Growing.{printed_at}
use Rattle.rob_expand.specs.Inmost.{IsInmost}
use Rattle.rob_expand.specs.Judging.{finding, length_found, tree_found, worse, worst}
use Rattle.rob_expand.specs.Placed.{Placed, over, placed_of}
use Rattle.rob_expand.proofs.Walks.FindingLemmas.{worse_nothing}
use Rattle.rob_settings.specs.Room.{HasStop}
use Rattle.rob_settings.proofs.AnswerLemmas.{moved}
use Rattle.rob_expand.proofs.Counting.StepLemmas.{over_seen}

-- a range whose ends are one number has that value alone
one_upwards : (v : ℤ) → upwards v (count v v) ≡ v ∷ []
one_upwards v =
    run_next v v (v +ℤ pos 1) (le_to v v (omega (arith, ints))) refl
    ∙ ap (λ (vs : List ℤ). v ∷ vs) (run_over (v +ℤ pos 1) v (le_no (v +ℤ pos 1) v (omega (arith, ints))))

module _ (r : Ends) (vs : List ℤ) (v : ℤ) (from : v ≡ value_of r.from vs) (upto : v ≡ value_of r.upto vs) where
  one_value : values_of r vs ≡ v ∷ []
  one_value = (λ i. upwards (sym from i) (count (sym from i) (sym upto i))) ∙ one_upwards v

  -- and is not too long
  none_long : length_found r vs ≡ Nothing
  none_long =
      ap (λ (b : Bool). finding b false)
      (lt_no (pos 99) (value_of (length_form r) vs) (omega (arith, ints, minus_is r.upto r.from vs, from, upto)))

  -- a sum over it is the expression inside
  module _ (p : Placed) where
    pub one_counted : (limit room : ℕ) → tree_left limit (over r p) vs room ≡ tree_left limit p (v ∷ vs) room
    one_counted limit room =
        ap (λ (ws : List ℤ). over_left limit (λ w. tree_left limit p (w ∷ vs)) ws room) one_value

    pub one_printed : (own : List Name) → printed_at own (over r p) vs ≡ printed_at own p (v ∷ vs)
    one_printed own = ap (λ (ws : List ℤ). summed (map (λ w. printed_at own p (w ∷ vs)) ws)) one_value

    pub one_found : tree_found (over r p) vs ≡ tree_found p (v ∷ vs)
    one_found =
        (λ i. worse (none_long i) (worst (λ w. tree_found p (w ∷ vs)) (one_value i)))
        ∙ worse_nothing (tree_found p (v ∷ vs))

-- one that is
module _ (ends : Ends) (inner : _) (whole shown last : Code) (vs us : List ℤ) (v : ℤ)
    (is : whole ≡ code.Over ends inner) (same : shown ≡ inner.value) (from : v ≡ value_of ends.from vs)
    (upto : v ≡ value_of ends.upto vs) (inside : IsInmost shown (v ∷ vs) last us) where
  seen : placed_of whole ≡ over ends (placed_of shown)
  seen = sym (over_seen ends inner whole shown is same)

  pub inmost_more : IsInmost whole vs last us
  inmost_more = record {
    counted = λ limit room.
        ap (λ (p : Placed). tree_left limit p vs room) seen
        ∙ one_counted ends vs v from upto (placed_of shown) limit room
        ∙ inside.counted limit room;
    printed = λ own.
        ap (λ (p : Placed). printed_at own p vs) seen
        ∙ one_printed ends vs v from upto (placed_of shown) own
        ∙ inside.printed own;
    found =
        ap (λ (p : Placed). tree_found p vs) seen
        ∙ one_found ends vs v from upto (placed_of shown)
        ∙ inside.found;
  }

-- ---- what is told of the last expression is told of the first
module _ {first last : Code} {vs us : List ℤ} (h : IsInmost first vs last us) where
  pub counted_inside : (limit room : ℕ) (r : Result Counted Stop)
      → MatchResult r (λ c. tree_left limit (placed_of last) us room ≡ Some c)
      (λ e. HasStop (tree_left limit (placed_of last) us room) e)
      → MatchResult r (λ c. tree_left limit (placed_of first) vs room ≡ Some c)
      (λ e. HasStop (tree_left limit (placed_of first) vs room) e)
  counted_inside limit room r given =
      moved r (tree_left limit (placed_of last) us room) (tree_left limit (placed_of first) vs room)
      (sym (h.counted limit room)) given

  module _ {ws : List ℤ} (there : vs ≡ ws) where
    pub printed_inside : (own : List Name) → printed_at own (placed_of last) us ≡ printed_at own (placed_of first) ws
    printed_inside own = sym (h.printed own) ∙ ap (printed_at own (placed_of first)) there

    pub found_inside : tree_found (placed_of last) us ≡ tree_found (placed_of first) ws
    found_inside = sym h.found ∙ ap (tree_found (placed_of first)) there
