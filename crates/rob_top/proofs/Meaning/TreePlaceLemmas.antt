-- What a verdict on a tree names is the model's: the box of a leaf has as many
-- forms, set rows and columns, and the same set.
use Rattle.std.proofs.Common.{◌≡◌, ◌<◌, ◌≤◌, ℕ, zero, suc, ◌+◌, List, [], ◌∷◌, ◌++◌, length, map, Some, None, Option, IfSome, refl, sym, ap, subst, ◌∙◌}
use Rattle.rob_branch.specs.Verdicts.{HasVerdict, IsRejectedAt, IsTooWideAt, IsVerdict, IsWideInLeaf, TellsFault, checking, path_at, paths, writing}
use Rattle.rob_cert.specs.Shape.{HasShape}
use Rattle.rob_check.specs.Conditions.{verdict_of}
use Rattle.rob_check.specs.declared.verdict.Verdict.TheVariants as check
use Rattle.rob_meaning.proofs.Lists.EachLemmas.{each_append, each_map, each_right}
use Rattle.rob_meaning.specs.Certificates.{Certificate, Status, optimal, infeasible, unbounded}
use Rattle.rob_meaning.specs.Names.{column_names}
use Rattle.rob_meaning.specs.Places.{Each}
use Rattle.rob_meaning.specs.Proves.{Proves}
use Rattle.rob_meaning.specs.RobustModel.{Parameter, RobustModel, SetLine}
use Rattle.rob_meaning.specs.SetConditions.{all_stated, bounds_from, set_conditions}
use Rattle.rob_meaning.specs.SetRows.{lift_count, set_column_count}
use Rattle.rob_model.specs.declared.place.Place.{Place}
use Rattle.rob_model.specs.declared.place.Place.TheVariants as at
use Rattle.rob_model.specs.declared.place.Spot.{Spot}
use Rattle.rob_reach.proofs.RangeLemmas.{bounded_in, changes_bounded}
use Rattle.rob_reach.specs.Boxes.{Branch, at_least_branch, at_most_branch, behind, box_above, box_below}
use Rattle.rob_reach.specs.Ranges.{KeepsBothBounds}
use Rattle.rob_reach.specs.Trees.{BranchesOn, IsIn, Leaf, Node, Tree, leaf, leaves, left_open, split}
use Rattle.rob_reach.specs.Verdicts.{LeafFault as ReachFault, Condition, HoldsOf, IsFirstFault, best, proof, status, value, whole, best_conditions, last_conditions, leaf_at, leaf_conditions}
use Rattle.rob_reach.proofs.VerdictLemmas.{at_place}
use Rattle.rob_report.specs.Places.{IsPlaceOf, IsSignOf, IsSpotOf, IsSumOf}
use Rattle.rob_tree.proofs.BoxShapes.MovedShapes.{HasCountsOf, flipped, same_behind, same_self, same_through}
use Rattle.rob_tree.proofs.BoxShapes.SpelledLemmas.{column_inside}
use Rattle.rob_tree.specs.Shape.{HasTreeShape, IsShaped}
use Rattle.rob_tree.specs.View.{branch_of}
use Rattle.rob_tree.specs.declared.tree.Branch as declared
use Rattle.rob_tree.specs.declared.verdict.LeafFault.{LeafFault}
use Rattle.rob_tree.specs.declared.verdict.TreeVerdict.{TreeVerdict}
use Rattle.rob_tree.specs.declared.verdict.TreeVerdict.TheVariants as verdict
use Rattle.rob_commands.proofs.BoxPathLemmas.{first_moves, judged_spot}
use Rattle.rob_top.proofs.Meaning.CheckingLemmas.{rejected_place, too_wide_place}
use Rattle.rob_top.specs.TreeWork.{IsFaultOf, IsVerdictOf}
use Rattle.rob_elab.specs.Written.{judged}

-- ---- the boxes of leaves

-- a model with the counts of another, and its set
record IsLike (a m : RobustModel) : Type 0 where
  pub counts : HasCountsOf a m
  pub lines : a.set_lines ≡ m.set_lines
  pub parameters : a.parameters ≡ m.parameters

like_self : (m : RobustModel) → IsLike m m
like_self m = record { counts = same_self m; lines = refl; parameters = refl }

module _ (names : List ℕ) where
  -- what is like the box behind a branch is like the model
  like_behind : (a m : RobustModel) (b : Branch) → IsIn b.variable names → KeepsBothBounds m names
      → IsLike a (behind m b) → IsLike a m
  like_behind a m b named bounded h = record {
    counts = same_through a (behind m b) m h.counts
        (flipped m (behind m b) (same_behind m b (bounded_in m.variables names b.variable named bounded)));
    lines = h.lines;
    parameters = h.parameters;
  }

  abbrev AllLike : RobustModel → List Leaf → Type 0
  AllLike m ls = Each (λ (l : Leaf). IsLike l.box m) ls

  side_like : (m : RobustModel) (b : Branch) (ls : List Leaf) → IsIn b.variable names → KeepsBothBounds m names
      → AllLike (behind m b) ls
      → AllLike m ls
  side_like m b ls named bounded h =
      each_map (λ (l : Leaf). IsLike l.box (behind m b)) (λ (l : Leaf). IsLike l.box m)
      (λ l k. like_behind l.box m b named bounded k) ls h

  still_bounded : (m : RobustModel) (b : Branch) → KeepsBothBounds m names → KeepsBothBounds (behind m b) names
  still_bounded m b bounded = changes_bounded b.is_upper b.bound b.variable m.variables names bounded

  leaves_like : (m : RobustModel) (node : Node) → KeepsBothBounds m names → BranchesOn names node
      → AllLike m (leaves m node)
  leaves_like m (leaf c) bounded on = (like_self m, tt)
  leaves_like m (split j k below above) bounded on =
      each_append (λ (l : Leaf). IsLike l.box m) (leaves (box_below m j k) below) (leaves (box_above m j k) above)
      (side_like m (at_most_branch j k) (leaves (box_below m j k) below) on.0 bounded
      (leaves_like (box_below m j k) below (still_bounded m (at_most_branch j k) bounded) on.1))
      (side_like m (at_least_branch j k) (leaves (box_above m j k) above) on.0 bounded
      (leaves_like (box_above m j k) above (still_bounded m (at_least_branch j k) bounded) on.2))
  leaves_like m left_open bounded on = (like_self m, tt)

-- ---- what holds of each leaf

module _ (P : Leaf → Type 0) where
  abbrev OfLeaf : Condition → Type 0
  OfLeaf c = P c.leaf

  leaf_conditions_all : (i : ℕ) (ls : List Leaf) → Each P ls → Each OfLeaf (leaf_conditions i ls)
  leaf_conditions_all i [] h = tt
  leaf_conditions_all i (l ∷ ls) h = (h.0, (h.0, (h.0, leaf_conditions_all (suc i) ls h.1)))

  best_conditions_all : (i : ℕ) (ls : List Leaf) → Each P ls → (o : Option Leaf) → leaf_at ls i ≡ o
      → Each OfLeaf (best_conditions i o)
  best_conditions_all i ls h None e = tt
  best_conditions_all i ls h (Some l) e = (at_place P ls i l e h, (at_place P ls i l e h, tt))

  last_conditions_all : (status : Status) (i : ℕ) (ls : List Leaf) → Each P ls
      → Each OfLeaf (last_conditions status i ls)
  last_conditions_all optimal i ls h = best_conditions_all i ls h (leaf_at ls i) refl
  last_conditions_all infeasible i ls h = tt
  last_conditions_all unbounded i ls h = best_conditions_all i ls h (leaf_at ls i) refl

  -- holds of the leaf of the first condition that fails
  first_leaf : (m : RobustModel) (names : List ℕ) (t : Tree) (c : Condition) → Each P (leaves m t.root)
      → IsFirstFault m names t c → P c.leaf
  first_leaf m names t c h first =
      (each_right OfLeaf first.before (c ∷ first.after)
      (subst (λ (cs : List Condition). Each OfLeaf cs) first.stands
      (each_append OfLeaf (leaf_conditions 1 (leaves m t.root)) (last_conditions t.status t.best (leaves m t.root))
      (leaf_conditions_all 1 (leaves m t.root) h) (last_conditions_all t.status t.best (leaves m t.root) h)))).0

-- ---- the path of each leaf

module _ (names : List ℕ) where
  abbrev AreNamed : List Branch → Type 0
  AreNamed path = Each (λ (b : Branch). IsIn b.variable names) path

  paths_named : (front : List Branch) (node : Node) → BranchesOn names node → AreNamed front
      → Each AreNamed (paths front node)
  paths_named front (leaf c) on h = (h, tt)
  paths_named front (split j k below above) on h =
      each_append AreNamed (paths (front ++ at_most_branch j k ∷ []) below)
      (paths (front ++ at_least_branch j k ∷ []) above)
      (paths_named (front ++ at_most_branch j k ∷ []) below on.1
      (each_append (λ (b : Branch). IsIn b.variable names) front (at_most_branch j k ∷ []) h (on.0, tt)))
      (paths_named (front ++ at_least_branch j k ∷ []) above on.2
      (each_append (λ (b : Branch). IsIn b.variable names) front (at_least_branch j k ∷ []) h (on.0, tt)))
  paths_named front left_open on h = (h, tt)

  path_named : (ps : List (List Branch)) (i : ℕ) → Each AreNamed ps → AreNamed (path_at ps i)
  path_named [] i h = tt
  path_named (p ∷ ps) zero h = tt
  path_named (p ∷ ps) (suc zero) h = h.0
  path_named (p ∷ ps) (suc (suc i)) h = path_named ps (suc i) h.1

  -- its branches are on columns
  named_columns : (m : RobustModel) (path : List declared.Branch) → KeepsBothBounds m names
      → AreNamed (map branch_of path)
      → Each (λ (b : declared.Branch). b.column < length (column_names m)) path
  named_columns m [] bounded h = tt
  named_columns m (b ∷ path) bounded h = (column_inside m names b.column bounded h.0, named_columns m path bounded h.1)

-- ---- places and spots

module _ (a m : RobustModel) (like : IsLike a m) where
  condition_moves : (c : ℕ) → c < length (set_conditions a) → c < length (set_conditions m)
  condition_moves c h =
      subst (λ (ps : List Parameter). c < length (bounds_from zero ps ++ all_stated m.set_lines)) like.parameters
      (subst (λ (ls : List SetLine). c < length (bounds_from zero a.parameters ++ all_stated ls)) like.lines h)

  set_columns : set_column_count a ≡ set_column_count m
  set_columns = ap (λ (ps : List Parameter). length ps + lift_count a.set_lines) like.parameters
      ∙ ap (λ (ls : List SetLine). length m.parameters + lift_count ls) like.lines

  sign_moves : (i r : ℕ) → IsSignOf a i r → IsSignOf m i r
  sign_moves i r h = record {
    form = subst (λ n. i < n) like.counts.forms_same h.form;
    set_row = subst (λ n. r < n) like.counts.rows_same h.set_row;
  }

  sum_moves : (i k : ℕ) → IsSumOf a i k → IsSumOf m i k
  sum_moves i k h = record {
    form = subst (λ n. i < n) like.counts.forms_same h.form;
    column = subst (λ n. k ≤ n) set_columns h.column;
  }

  place_moves : (place : Place) → IsPlaceOf a place → IsPlaceOf m place
  place_moves at.Scale h = tt
  place_moves (at.Inside c) h = condition_moves c h
  place_moves (at.Weight i) h = tt
  place_moves (at.Base i) h = tt
  place_moves (at.Item i c) h = condition_moves c h
  place_moves (at.Sum j) h = subst (λ n. j ≤ suc n) like.counts.columns_same h
  place_moves (at.CoverSign i r) h = sign_moves i r h
  place_moves (at.Cover i k) h = sum_moves i k h
  place_moves at.MoveBound h = tt
  place_moves (at.HoldSign i r) h = sign_moves i r h
  place_moves (at.Hold i k) h = sum_moves i k h

-- what is wide for a leaf is told by the model's names
wide_spot : (limit : ℕ) (m : RobustModel) (l : Leaf) (spot : Spot) → IsLike l.box m → IsShaped l
    → IsWideInLeaf limit l spot → IsSpotOf m spot
wide_spot limit m l spot like shaped (writing c some first) =
    first_moves l.box m like.counts (ap length like.lines) limit l.box (judged l.box) spot first
    (judged_spot limit l.box spot first)
wide_spot limit m l spot like shaped (checking c place some h is) =
    let shape : HasShape l.box c = subst (λ (o : Option Certificate). IfSome o (HasShape l.box)) some shaped in
    subst (λ (s : Spot). IsSpotOf m s) (sym is)
    (place_moves l.box m like place
    (too_wide_place limit l.box c (verdict_of limit l.box c) place shape refl h.verdict))

-- what is told of a leaf at which a condition fails is too; of an open leaf no proof is asked
told_named : (limit : ℕ) (m : RobustModel) (f : ReachFault) (told : LeafFault) (l : Leaf) → IsLike l.box m → IsShaped l
    → (f ≡ proof → l.certificate ≡ None → ⊥) → TellsFault limit f told l → IsFaultOf m told
told_named limit m proof told l like shaped there h =
    subst (λ (f : LeafFault). IsFaultOf m f) (sym h.1) (by l.certificate refl shaped h.2)
  where
    by : (o : Option Certificate) → l.certificate ≡ o → IfSome o (HasShape l.box)
        → IfSome o (λ (d : Certificate). HasVerdict limit l.box d (check.Rejected h.0)) → IsPlaceOf m h.0
    by None e shape k = absurd (there refl e)
    by (Some d) e shape k =
        place_moves l.box m like h.0 (rejected_place limit l.box d (verdict_of limit l.box d) h.0 shape refl k.verdict)
told_named limit m status told l like shaped there h = subst (λ (f : LeafFault). IsFaultOf m f) (sym h.0) tt
told_named limit m value told l like shaped there h = subst (λ (f : LeafFault). IsFaultOf m f) (sym h.0) tt
told_named limit m best told l like shaped there h = subst (λ (f : LeafFault). IsFaultOf m f) (sym h) tt
told_named limit m whole told l like shaped there h = subst (λ (f : LeafFault). IsFaultOf m f) (sym h) tt

module _ (limit : ℕ) (m : RobustModel) (names : List ℕ) (t : Tree) (shape : HasTreeShape limit m names t)
    (bounded : KeepsBothBounds m names) where
  all_like : AllLike names m (leaves m t.root)
  all_like = leaves_like names m t.root bounded shape.tree.on_names

  rejected_named : (i : ℕ) (told : LeafFault) → IsRejectedAt limit m names t i told → IsFaultOf m told
  rejected_named i told h =
      told_named limit m h.condition.fault told h.condition.leaf
      (first_leaf (λ (l : Leaf). IsLike l.box m) m names t h.condition all_like h.first)
      (first_leaf IsShaped m names t h.condition shape.shaped h.first) there h.tells
    where
      there : h.condition.fault ≡ proof → h.condition.leaf.certificate ≡ None → ⊥
      there is none =
          h.first.fails
          (subst (λ (f : ReachFault). HoldsOf f m.sense names t.status t.value h.condition.leaf) (sym is)
          (subst (λ (o : Option Certificate). IfSome o (λ c. Proves h.condition.leaf.box c)) (sym none) tt))

  wide_named : (path : List declared.Branch) (spot : Spot) → IsTooWideAt limit m names t (map branch_of path) spot
      → IsSpotOf m spot × Each (λ (b : declared.Branch). b.column < length (column_names m)) path
  wide_named path spot h = (
    wide_spot limit m h.leaf spot
        (at_place (λ (l : Leaf). IsLike l.box m) (leaves m t.root) h.number h.leaf h.here all_like)
        (at_place IsShaped (leaves m t.root) h.number h.leaf h.here shape.shaped) h.wide,
    named_columns names m path bounded
        (subst (λ (p : List Branch). AreNamed names p) h.path_is
        (path_named names (paths [] t.root) h.number (paths_named names [] t.root shape.tree.on_names tt))),
  )

  -- what a verdict names is the model's
  pub verdict_named : (v : TreeVerdict) → IsVerdict limit m names t v → IsVerdictOf m v
  verdict_named verdict.Accepted h = tt
  verdict_named (verdict.Rejected number told) h = rejected_named number told h
  verdict_named (verdict.TooWide path spot) h = wide_named path spot h
  verdict_named verdict.Memory h = tt
