-- A sum over the values of a range: none, one, or more of them.
use Rattle.std.proofs.Common.{◌≡◌, ℕ, Bool, true, false, List, [], ◌∷◌, Option, Some, sym, ap, ◌∙◌, subst}
use Rattle.std.specs.Prelude.{ℤ, Result, MatchResult, Err}
use Rattle.rob_index.specs.Counting.{lead}
use Rattle.rob_index.specs.Forms.{Ends, values_of}
use Rattle.rob_expand.specs.declared.count.Counted.{Counted}
use Rattle.rob_expand.specs.declared.count.Inside.TheVariants as place
use Rattle.rob_expand.specs.declared.count.Many.{Many}
use Rattle.rob_expand.specs.declared.count.Many.TheVariants.{Empty, One, Several}
use Rattle.rob_expand.specs.declared.count.Shape.TheVariants.{Single, Sum}
use Rattle.rob_expand.specs.declared.placed.Placed.{Placed as Code}
use Rattle.rob_expand.specs.declared.placed.Placed.TheVariants as code
use Rattle.rob_settings.specs.declared.room.Stop.{Stop}
use Rattle.rob_expand.specs.Count.{AreMany, of_shape, item_left, tree_left, each_left, over_left}
use Rattle.rob_expand.specs.Placed.{Placed, over, placed_of}
use Rattle.rob_settings.specs.Room.{left_of, after, HasStop}
use Rattle.rob_settings.proofs.AnswerLemmas.{moved, refused}
use Rattle.rob_expand.proofs.Counting.StepLemmas.{over_seen}

-- what a call answers of what is left
abbrev Tells : Option Counted → Result Counted Stop → Type 0
Tells o r = MatchResult r (λ c. o ≡ Some c) (λ e. HasStop o e)

-- a sum over a range is counted by its expression as another place shows it
pub over_told : (limit : ℕ) (vs : List ℤ) (room : ℕ) (ends : Ends) (inner : _) (whole shown : Code)
    → whole ≡ code.Over ends inner → shown ≡ inner.value → (r : Result Counted Stop)
    → Tells (over_left limit (λ v. tree_left limit (placed_of shown) (v ∷ vs)) (values_of ends vs) room) r
    → Tells (tree_left limit (placed_of whole) vs room) r
over_told limit vs room ends inner whole shown is same r given =
    moved r (tree_left limit (over ends (placed_of shown)) vs room) (tree_left limit (placed_of whole) vs room)
    (ap (λ (p : Placed). tree_left limit p vs room) (over_seen ends inner whole shown is same)) given

module _ (limit : ℕ) (x : Code) (vs : List ℤ) where
  -- the expression, at a value in front of the others
  abbrev pub at_value : ℤ → ℕ → Option Counted
  at_value v = tree_left limit (placed_of x) (v ∷ vs)

  module _ (all : List ℤ) (room : ℕ) where
    abbrev whole : Option Counted
    whole = over_left limit at_value all room

    module _ {many : Many} (r : Result Counted Stop) where
      pub over_empty : many ≡ Empty → AreMany all many → Tells (of_shape Single (left_of 1 room)) r → Tells whole r
      over_empty is told given =
          moved r (of_shape Single (left_of 1 room)) whole
          (sym (ap (λ (l : List ℤ). over_left limit at_value l room) (subst (AreMany all) is told))) given

      pub over_one : {value : ℤ} {inside : List ℤ} → many ≡ One value → AreMany all many → inside ≡ value ∷ vs
          → Tells (tree_left limit (placed_of x) inside room) r → Tells whole r
      over_one {value = value} {inside = inside} is told here given =
          let only : all ≡ value ∷ [] = subst (AreMany all) is told in
          moved r (tree_left limit (placed_of x) inside room) whole
          (ap (λ (us : List ℤ). tree_left limit (placed_of x) us room) here
          ∙ sym (ap (λ (l : List ℤ). over_left limit at_value l room) only)) given

      pub over_several : many ≡ Several → AreMany all many
          → Tells (of_shape Sum (each_left limit at_value true all room)) r → Tells whole r
      over_several is told given =
          let more : (v : ℤ) × (w : ℤ) × (ws : List ℤ) × (all ≡ v ∷ w ∷ ws) = subst (AreMany all) is told in
          moved r (of_shape Sum (each_left limit at_value true all room)) whole
          (ap (λ (l : List ℤ). of_shape Sum (each_left limit at_value true l room)) more.3
          ∙ sym (ap (λ (l : List ℤ). over_left limit at_value l room) more.3)) given

-- ---- what is left behind some values, and behind all
pub record HasEachLeft (limit : ℕ) (x : Code) (vs : List ℤ) (first : Bool) (run : List ℤ) (left : ℕ) (all : List ℤ)
    (room : ℕ) : Type 0 where
  pub same : each_left limit (at_value limit x vs) first run left
      ≡ each_left limit (at_value limit x vs) true all room

module _ {limit : ℕ} {x : Code} {vs : List ℤ} {first : Bool} {run : List ℤ} {left : ℕ} {all : List ℤ} {room : ℕ}
    (h : HasEachLeft limit x vs first run left all room) where
  module _ {value : ℤ} {new shown : List ℤ} {sign : ℕ} (is : run ≡ value ∷ new) (here : shown ≡ value ∷ vs)
      (sign_is : sign ≡ lead limit first false) where
    abbrev value_item : Option ℕ
    value_item = item_left limit sign place.Sum (tree_left limit (placed_of x) shown) left

    each_on : {o : Option ℕ} → value_item ≡ o
        → each_left limit (at_value limit x vs) true all room
        ≡ after o (each_left limit (at_value limit x vs) false new)
    each_on paid =
        sym h.same
        ∙ ap (λ (l : List ℤ). each_left limit (at_value limit x vs) first l left) is
        ∙ ap (λ (o : Option ℕ). after o (each_left limit (at_value limit x vs) false new))
        (ap (λ (n : ℕ). item_left limit n place.Sum (at_value limit x vs value) left) (sym sign_is)
        ∙ ap (λ (us : List ℤ). item_left limit sign place.Sum (tree_left limit (placed_of x) us) left) (sym here)
        ∙ paid)

    -- one value more
    pub each_more : {behind : ℕ} → value_item ≡ Some behind → HasEachLeft limit x vs false new behind all room
    each_more paid = record { same = sym (each_on paid) }

    -- a value that there is no room for
    pub each_stop : {V : Type 0} {r : Result V Stop} (P : V → Type 0) (e : Stop)
        → ((f : Stop) × (r ≡ Err f) × (f ≡ e)) → HasStop value_item e
        → MatchResult r P (λ e. HasStop (of_shape Sum (each_left limit (at_value limit x vs) true all room)) e)
    each_stop {r = r} P e p cause =
        refused r P value_item (of_shape Sum (each_left limit (at_value limit x vs) true all room)) e p.0 p.1 p.2
        (λ none. ap (of_shape Sum) (each_on none)) cause

  pub each_end : run ≡ []
      → of_shape Sum (each_left limit (at_value limit x vs) true all room)
      ≡ Some (record { left = left; shape = Sum })
  each_end none =
      ap (of_shape Sum) (sym h.same ∙ ap (λ (l : List ℤ). each_left limit (at_value limit x vs) first l left) none)
