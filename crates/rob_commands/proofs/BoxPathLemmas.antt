-- A path of branches that certificates allow: what its branches name, and what
-- a spot of the box behind it names, is the model's.
use Rattle.std.proofs.Common.{◌≡◌, ℕ, ◌<◌, List, [], ◌∷◌, ◌++◌, length, map, T, refl, sym, ap, subst, inl, inr, ◌⊎◌}
use Rattle.rob_dualize.specs.Models.{IsWideIn}
use Rattle.rob_dualize.specs.Solving.{IsWideOnPath}
use Rattle.rob_elab.specs.Forms.{judged_forms}
use Rattle.rob_meaning.specs.Names.{column_names}
use Rattle.rob_meaning.specs.Places.{Each}
use Rattle.rob_meaning.specs.RobustModel.{RobustModel}
use Rattle.rob_model.specs.declared.place.Spot.{Spot}
use Rattle.rob_model.specs.declared.place.Spot.TheVariants as spots
use Rattle.rob_model.specs.declared.place.Program.TheVariants as programs
use Rattle.rob_model.specs.declared.place.Where.{Where}
use Rattle.rob_model.specs.declared.place.Where.TheVariants as places
use Rattle.rob_reach.proofs.RangeLemmas.{bounded_in, changes_bounded}
use Rattle.rob_reach.specs.Boxes.{Branch, at_least_branch, at_most_branch, behind, box}
use Rattle.rob_reach.specs.Growing.{IsAllowed, IsAllowedPath}
use Rattle.rob_reach.specs.Ranges.{are_bounded}
use Rattle.rob_reach.specs.Trees.{IsIn}
use Rattle.rob_report.proofs.SpotLemmas.{forms_spot, set_spot}
use Rattle.rob_report.specs.Places.{IsSpotOf, IsWhereOf}
use Rattle.rob_sets.specs.FirstWide.{IsFirstWide, IsWideThere, Judged, NothingWide, clearing, coefficients, spot_of}
use Rattle.rob_sets.specs.SetForm.{judged_set}
use Rattle.rob_tree.proofs.BoxShapes.MovedShapes.{HasCountsOf, flipped, same_behind, same_self, same_through}
use Rattle.rob_tree.proofs.BoxShapes.SpelledLemmas.{column_inside}
use Rattle.rob_tree.specs.View.{branch_of}
use Rattle.rob_tree.specs.declared.tree.Branch as declared
use Rattle.rob_elab.specs.Written.{judged}

module _ (names : List ℕ) where
  allowed_named : (m : RobustModel) (b : Branch) → IsAllowed m names b → IsIn b.variable names
  allowed_named m b h = by h.side
    where
      by : (b ≡ at_most_branch h.variable h.k) ⊎ (b ≡ at_least_branch h.variable h.k) → IsIn b.variable names
      by (inl e) = subst (λ (x : Branch). IsIn x.variable names) (sym e) h.allows.named
      by (inr e) = subst (λ (x : Branch). IsIn x.variable names) (sym e) h.allows.named

  -- its branches are on columns
  pub path_columns : (m n : RobustModel) (path : List declared.Branch) → T (are_bounded m.variables names)
      → IsAllowedPath n names (map branch_of path)
      → Each (λ (b : declared.Branch). b.column < length (column_names m)) path
  path_columns m n [] bounded h = tt
  path_columns m n (b ∷ path) bounded h = (
    column_inside m names b.column bounded (allowed_named n (branch_of b) h.0),
    path_columns m (behind n (branch_of b)) path bounded h.1,
  )

  -- the box has as many forms and set rows
  pub path_counts : (m : RobustModel) (path : List Branch) → T (are_bounded m.variables names)
      → IsAllowedPath m names path
      → HasCountsOf (box m path) m
  path_counts m [] bounded h = same_self m
  path_counts m (b ∷ path) bounded h =
      same_through (box (behind m b) path) (behind m b) m
      (path_counts (behind m b) path (changes_bounded b.is_upper b.bound b.variable m.variables names bounded) h.1)
      (flipped m (behind m b)
      (same_behind m b (bounded_in m.variables names b.variable (allowed_named m b h.0) bounded)))

-- and the same statements on its set
pub path_lines_same : (m : RobustModel) (path : List Branch) → (box m path).set_lines ≡ m.set_lines
path_lines_same m [] = refl
path_lines_same m (b ∷ path) = path_lines_same (behind m b) path

-- ---- spots
module _ (a b : RobustModel) (same : HasCountsOf a b) (lines : length a.set_lines ≡ length b.set_lines) where
  where_moves : (w : Where) → IsWhereOf a w → IsWhereOf b w
  where_moves (places.Form i) h = subst (λ n. i < n) same.forms_same h
  where_moves (places.SetLine i) h = subst (λ n. i < n) lines h
  where_moves (places.SetRow r) h = subst (λ n. r < n) same.rows_same h
  where_moves places.Plan h = tt
  where_moves places.Move h = tt
  where_moves (places.Cut i) h = subst (λ n. i < n) same.forms_same h
  where_moves (places.Cost i) h = subst (λ n. i < n) same.forms_same h

  judged_moves : (j : Judged) → IsSpotOf a (spot_of j) → IsSpotOf b (spot_of j)
  judged_moves (coefficients w e) h = where_moves w h
  judged_moves (clearing w numbers) h = where_moves w h

  pub first_moves : (limit : ℕ) (n : RobustModel) (all : List Judged) (spot : Spot)
      → IsFirstWide limit n all spot → IsSpotOf a spot
      → IsSpotOf b spot
  first_moves limit n all spot first h =
      subst (λ (s : Spot). IsSpotOf b s) first.named
      (judged_moves first.here (subst (λ (s : Spot). IsSpotOf a s) (sym first.named) h))

-- the first of two lists has the first wide number, or the second one has it
first_of_both : (limit : ℕ) (m : RobustModel) (xs ys : List Judged) (spot : Spot) → IsFirstWide limit m (xs ++ ys) spot
    → IsFirstWide limit m xs spot ⊎ IsFirstWide limit m ys spot
first_of_both limit m xs ys spot h = by xs h.before h.order h.none_before
  where
    left : (zs before after : List Judged) → zs ≡ before ++ h.here ∷ after → NothingWide limit m before
        → IsFirstWide limit m zs spot
    left zs before after order none =
        record {
          before = before;
          here = h.here;
          after = after;
          order = order;
          none_before = none;
          wide = h.wide;
          named = h.named;
        }

    one_more : (z : Judged) (zs : List Judged) → (IsWideThere limit m z → ⊥) → IsFirstWide limit m zs spot
        → IsFirstWide limit m (z ∷ zs) spot
    one_more z zs narrow k = record {
      before = z ∷ k.before;
      here = k.here;
      after = k.after;
      order = ap (λ (list : List Judged). z ∷ list) k.order;
      none_before = (narrow, k.none_before);
      wide = k.wide;
      named = k.named;
    }

    by : (zs before : List Judged) → zs ++ ys ≡ before ++ h.here ∷ h.after → NothingWide limit m before
        → IsFirstWide limit m zs spot ⊎ IsFirstWide limit m ys spot
    by [] before order none = inr (left ys before h.after order none)
    by (z ∷ zs) [] order none =
        let same : z ≡ h.here = cc in inl (left (z ∷ zs) [] zs (ap (λ (j : Judged). j ∷ zs) same) tt)
    by (z ∷ zs) (b ∷ before) order none =
        let same : z ≡ b = cc in
        let rest : zs ++ ys ≡ before ++ h.here ∷ h.after = cc in
        more z b same none.0 (by zs before rest none.1)
      where
        more : (z b : Judged) → z ≡ b → (IsWideThere limit m b → ⊥) → IsFirstWide limit m zs spot
            ⊎ IsFirstWide limit m ys spot
            → IsFirstWide limit m (z ∷ zs) spot ⊎ IsFirstWide limit m ys spot
        more z b same narrow (inl k) =
            inl (one_more z zs (subst (λ (j : Judged). IsWideThere limit m j → ⊥) (sym same) narrow) k)
        more z b same narrow (inr k) = inr k

pub judged_spot : (limit : ℕ) (m : RobustModel) (spot : Spot) → IsFirstWide limit m (judged m) spot → IsSpotOf m spot
judged_spot limit m spot h = by (first_of_both limit m (judged_set m) (judged_forms m) spot h)
  where
    by : IsFirstWide limit m (judged_set m) spot ⊎ IsFirstWide limit m (judged_forms m) spot → IsSpotOf m spot
    by (inl k) = set_spot m limit spot k
    by (inr k) = forms_spot m limit spot k

-- a spot on the path of a program names nothing of a model
program_spot : (limit : ℕ) (a b : RobustModel) (spot : Spot) → IsWideOnPath limit a spot → IsSpotOf b spot
program_spot limit a b (spots.Dictionary programs.Set basis i) h = tt
program_spot limit a b (spots.Dictionary programs.Reform basis i) h = tt
program_spot limit a b (spots.Dictionary programs.Master basis i) h = tt
program_spot limit a b (spots.Dictionary (programs.SearchPlan form) basis i) h = absurd h
program_spot limit a b (spots.Dictionary (programs.SearchMove form) basis i) h = absurd h
program_spot limit a b (spots.Coefficient w) h = absurd h
program_spot limit a b (spots.Clearing w) h = absurd h
program_spot limit a b (spots.Sum w j) h = absurd h
program_spot limit a b (spots.Check place) h = absurd h
program_spot limit a b (spots.Replay number) h = tt

-- a spot that is wide for a model names what the model has
pub spot_in : (limit : ℕ) (m : RobustModel) (spot : Spot) → IsWideIn limit m spot → IsSpotOf m spot
spot_in limit m spot (inl first) = judged_spot limit m spot first
spot_in limit m spot (inr wide) = program_spot limit m m spot wide.1

-- what is wide in the box is told by the model's names
pub box_spot : (limit : ℕ) (m : RobustModel) (names : List ℕ) (path : List Branch) (spot : Spot)
    → T (are_bounded m.variables names)
    → IsAllowedPath m names path → IsWideIn limit (box m path) spot → IsSpotOf m spot
box_spot limit m names path spot bounded allowed (inl first) =
    first_moves (box m path) m (path_counts names m path bounded allowed)
    (ap length (path_lines_same m path)) limit (box m path)
    (judged (box m path)) spot first (judged_spot limit (box m path) spot first)
box_spot limit m names path spot bounded allowed (inr wide) = program_spot limit (box m path) m spot wide.1
