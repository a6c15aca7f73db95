-- How many ranges stand beside each other, as it is tested.
use Rattle.std.proofs.Common.{◌≡◌, Bool, true, false, List, [], ◌∷◌, length, refl, sym, ◌∙◌}
use Rattle.std.specs.Prelude.{MatchBool}
use Rattle.std.proofs.lemmas.Bool.{leb-true, le-leb}
use Rattle.rob_index.specs.Statements.{Range, Ranged, Indexed}
use Rattle.rob_index.specs.Statements as stated
use Rattle.rob_index.specs.Lines.{AreRanges, AreAllRanged, HasMembers, IsLine}
use Rattle.rob_syntax.specs.Few.{are_few, all_few, has_some, is_line}
use Rattle.rob_index.proofs.LinesRead.ListLemmas.{both_true, true_both}

few_from : (rs : List Range) → are_few rs ≡ true → AreRanges rs
few_from rs h = leb-true (length rs) 2 h

few_to : (rs : List Range) → AreRanges rs → are_few rs ≡ true
few_to rs h = le-leb (length rs) 2 h

all_from : {A : Type 0} (xs : List (Ranged A)) → all_few xs ≡ true → AreAllRanged xs
all_from [] h = tt
all_from (x ∷ xs) h = let k = both_true (are_few x.ranges) (all_few xs) h in (few_from x.ranges k.0, all_from xs k.1)

all_to : {A : Type 0} (xs : List (Ranged A)) → AreAllRanged xs → all_few xs ≡ true
all_to [] h = refl
all_to (x ∷ xs) h = true_both (few_to x.ranges h.0) (all_to xs h.1)

some_from : {A : Type 0} (xs : List A) → has_some xs ≡ true → HasMembers xs
some_from [] h = cc
some_from (x ∷ xs) h = tt

some_to : {A : Type 0} (xs : List A) → HasMembers xs → has_some xs ≡ true
some_to [] h = absurd h
some_to (x ∷ xs) h = refl

module _ {E : Type 0} where
  line_from : (s : Indexed E) → is_line s ≡ true → IsLine s
  line_from (stated.uncertain r b rs) h = few_from rs h
  line_from (stated.over r rs) h = few_from rs h
  line_from (stated.set s rs) h = few_from rs h
  line_from (stated.budget n ms o) h =
      let k = both_true (all_few ms) (has_some ms) h in (all_from ms k.0, some_from ms k.1)
  line_from (stated.variable r b rs) h = few_from rs h
  line_from (stated.adaptive r on b rs) h =
      let k = both_true (all_few on) (are_few rs) h in (all_from on k.0, few_from rs k.1)
  line_from (stated.goal s e o rs) h = few_from rs h
  line_from (stated.row r s rs) h = few_from rs h

  line_to : (s : Indexed E) → IsLine s → is_line s ≡ true
  line_to (stated.uncertain r b rs) h = few_to rs h
  line_to (stated.over r rs) h = few_to rs h
  line_to (stated.set s rs) h = few_to rs h
  line_to (stated.budget n ms o) h = true_both (all_to ms h.0) (some_to ms h.1)
  line_to (stated.variable r b rs) h = few_to rs h
  line_to (stated.adaptive r on b rs) h = true_both (all_to on h.0) (few_to rs h.1)
  line_to (stated.goal s e o rs) h = few_to rs h
  line_to (stated.row r s rs) h = few_to rs h

  not_line : (s : Indexed E) → is_line s ≡ false → IsLine s → ⊥
  not_line s h k = let e : false ≡ true = sym h ∙ line_to s k in cc

  -- what the test tells
  pub line_told : (s : Indexed E) (b : Bool) → b ≡ is_line s → MatchBool b (IsLine s) (IsLine s → ⊥)
  line_told s true is = line_from s (sym is)
  line_told s false is = not_line s (sym is)
