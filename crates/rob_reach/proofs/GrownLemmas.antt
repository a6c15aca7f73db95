-- A tree that has grown proves: what the leaves so far show is kept from box to box; and growing ends.
use Rattle.std.specs.Prelude.{◌≡◌, ◌≤◌, ℕ, zero, suc, ◌+◌, ℤ, pos, ◌+ℤ◌, Bool, true, false, T, List, [], ◌∷◌, ◌++◌, length, Option, Some, None, ◌⊎◌, refl}
use Rattle.std.proofs.Common.{ap, sym, ◌∙◌, subst, inl, inr, arith, Ordering, Less, Equal, Greater}
use Rattle.std.proofs.lemmas.List.{append_assoc, length-append}
use Rattle.std.specs.Ordering.{MatchOrdering}
use Rattle.rob_algebra.specs.Fraction.{Fraction, ◌≤ℚ◌, ◌<ℚ◌}
use Rattle.rob_algebra.specs.FractionOrderLaws as Q
use Rattle.rob_algebra.specs.FractionOrder.{cmp_ℚ, cmp_ℚ-ranks}
use Rattle.rob_meaning.proofs.Proving.StatusLemmas.{no_worse_trans, no_worse_refl}
use Rattle.rob_meaning.specs.Certificates.{Certificate, Status, optimal, infeasible, unbounded}
use Rattle.rob_meaning.specs.Guarantee.{IsNoWorse}
use Rattle.rob_meaning.specs.Places.{Each}
use Rattle.rob_meaning.specs.Proves.{Proves}
use Rattle.rob_meaning.specs.RobustModel.{RobustModel, Sense, minimise, maximise}
use Rattle.rob_meaning.specs.WellFormed.{IsModel}
use Rattle.rob_reach.proofs.BoxLemmas.{model_behind}
use Rattle.rob_reach.proofs.RangeLemmas.{changes_bounded}
use Rattle.rob_reach.proofs.SplitLemmas.{product_positive}
use Rattle.rob_reach.proofs.GrowingLemmas.{all_whole, allows_branch, measure_splits, grows_on}
use Rattle.rob_reach.proofs.TreeLemmas.{tree_true}
use Rattle.rob_reach.specs.Boxes.{box_below, box_above, at_most_branch, at_least_branch}
use Rattle.rob_reach.specs.Growing.{Best, Search, start, is_least, is_no_better, is_beaten, first_broken, Outcome, ends, branches, counted, improved, shown_endless, outcome_by, outcome, Decides, Grows, tree_by, IsGrown, Solves}
use Rattle.rob_reach.specs.Ranges.{are_bounded, product_of_ranges}
use Rattle.rob_reach.specs.Trees.{Node, leaf, split, left_open, Tree, Leaf, leaves, BranchesOn, HasLeaf, IsProved, IsInfeasibleLeaf, IsNoBetterLeaf, IsBestLeaf, IsEndlessLeaf, ProvesTree}
use Rattle.rob_reach.specs.WholeStatus.{HasWholeStatus}
use Rattle.rob_meaning.proofs.Lists.EachLemmas.{each_append}

-- ---- comparing values
no_better_true : (sense : Sense) (a b : Fraction) → is_no_better sense a b ≡ true → IsNoWorse sense b a
no_better_true minimise a b e = by (cmp_ℚ b a) (cmp_ℚ-ranks b a) e
  where
    by : (r : Ordering) → MatchOrdering r (b <ℚ a) (b ≡ a) (a <ℚ b) → is_least r ≡ true → b ≤ℚ a
    by Less h e = Q.le_of_lt_ℚ b a h
    by Equal h e = subst (λ x. b ≤ℚ x) h (Q.le_refl_ℚ b)
    by Greater h e = cc
no_better_true maximise a b e = by (cmp_ℚ a b) (cmp_ℚ-ranks a b) e
  where
    by : (r : Ordering) → MatchOrdering r (a <ℚ b) (a ≡ b) (b <ℚ a) → is_least r ≡ true → a ≤ℚ b
    by Less h e = Q.le_of_lt_ℚ a b h
    by Equal h e = subst (λ x. a ≤ℚ x) h (Q.le_refl_ℚ a)
    by Greater h e = cc

no_better_false : (sense : Sense) (a b : Fraction) → is_no_better sense a b ≡ false → IsNoWorse sense a b
no_better_false minimise a b e = by (cmp_ℚ b a) (cmp_ℚ-ranks b a) e
  where
    by : (r : Ordering) → MatchOrdering r (b <ℚ a) (b ≡ a) (a <ℚ b) → is_least r ≡ false → a ≤ℚ b
    by Less h e = cc
    by Equal h e = cc
    by Greater h e = Q.le_of_lt_ℚ a b h
no_better_false maximise a b e = by (cmp_ℚ a b) (cmp_ℚ-ranks a b) e
  where
    by : (r : Ordering) → MatchOrdering r (a <ℚ b) (a ≡ b) (b <ℚ a) → is_least r ≡ false → b ≤ℚ a
    by Less h e = cc
    by Equal h e = cc
    by Greater h e = Q.le_of_lt_ℚ b a h

-- ---- what the leaves so far show
has_leaf_left : (P : Leaf → Type 0) (xs ys : List Leaf) (i : ℕ) → HasLeaf P xs i → HasLeaf P (xs ++ ys) i
has_leaf_left P [] ys i h = absurd h
has_leaf_left P (x ∷ xs) ys zero h = absurd h
has_leaf_left P (x ∷ xs) ys (suc zero) h = h
has_leaf_left P (x ∷ xs) ys (suc (suc i)) h = has_leaf_left P xs ys (suc i) h

has_leaf_last : (P : Leaf → Type 0) (xs : List Leaf) (l : Leaf) → P l → HasLeaf P (xs ++ l ∷ []) (suc (length xs))
has_leaf_last P [] l h = h
has_leaf_last P (x ∷ xs) l h = has_leaf_last P xs l h

each_map : (P Q : Leaf → Type 0) → ((l : Leaf) → P l → Q l) → (ls : List Leaf) → Each P ls → Each Q ls
each_map P Q f [] h = tt
each_map P Q f (l ∷ ls) h = (f l h.0, each_map P Q f ls h.1)

-- what they show, by the leaf that showed the model to be unbounded and the best whole plan
abbrev pub ShowsSoFar : List ℕ → Sense → Option ℕ → Option Best → List Leaf → Type 0
ShowsSoFar names sense (Some i) best done = HasLeaf (IsEndlessLeaf names) done i
ShowsSoFar names sense None (Some b) done =
    Each (IsNoBetterLeaf sense b.value) done × HasLeaf (IsBestLeaf names b.value) done b.number
ShowsSoFar names sense None None done = Each IsInfeasibleLeaf done

pub record Stands (names : List ℕ) (sense : Sense) (done : List Leaf) (s : Search) : Type 0 where
  pub count : s.count ≡ length done
  pub proved : Each IsProved done
  pub shows : ShowsSoFar names sense s.endless s.best done

module _ (names : List ℕ) (sense : Sense) (done : List Leaf) (l : Leaf) where
  more_infeasible : (e : Option ℕ) (b : Option Best) → IsInfeasibleLeaf l → ShowsSoFar names sense e b done →
      ShowsSoFar names sense e b (done ++ l ∷ [])
  more_infeasible (Some i) b h k = has_leaf_left (IsEndlessLeaf names) done (l ∷ []) i k
  more_infeasible None (Some b) h k = (
    each_append (IsNoBetterLeaf sense b.value) done (l ∷ []) k.0 ((h.0, h.1, inl h.2), tt),
    has_leaf_left (IsBestLeaf names b.value) done (l ∷ []) b.number k.1,
  )
  more_infeasible None None h k = each_append IsInfeasibleLeaf done (l ∷ []) k (h, tt)

  more_open : (e : Option ℕ) (b : Option Best) (i : ℕ) → e ≡ Some i → ShowsSoFar names sense e b done →
      ShowsSoFar names sense e b (done ++ l ∷ [])
  more_open (Some i) b j same k = has_leaf_left (IsEndlessLeaf names) done (l ∷ []) i k
  more_open None b j same k = cc

  module _ (c : Certificate) (here : l.certificate ≡ Some c) (status : c.status ≡ optimal) where
    more_beaten : (e : Option ℕ) (b : Option Best) → e ≡ None → is_beaten sense b c.value ≡ true →
        ShowsSoFar names sense e b done → ShowsSoFar names sense e b (done ++ l ∷ [])
    more_beaten (Some i) b none beaten k = cc
    more_beaten None None none beaten k = cc
    more_beaten None (Some b) none beaten k = (
      each_append (IsNoBetterLeaf sense b.value) done (l ∷ []) k.0
          ((c, here, inr (status, no_better_true sense c.value b.value beaten)), tt),
      has_leaf_left (IsBestLeaf names b.value) done (l ∷ []) b.number k.1,
    )

    no_better_yet : (e : Option ℕ) (b : Option Best) → e ≡ None → is_beaten sense b c.value ≡ false →
        ShowsSoFar names sense e b done → Each (IsNoBetterLeaf sense c.value) done
    no_better_yet (Some i) b none beaten k = cc
    no_better_yet None None none beaten k =
        each_map IsInfeasibleLeaf (IsNoBetterLeaf sense c.value) (λ x h. (h.0, h.1, inl h.2)) done k
    no_better_yet None (Some b) none beaten k =
        each_map (IsNoBetterLeaf sense b.value) (IsNoBetterLeaf sense c.value)
        (λ x h. (h.0, h.1, worse h.0 h.2)) done k.0
      where
        worse : (d : Certificate) → (d.status ≡ infeasible) ⊎ ((d.status ≡ optimal) × IsNoWorse sense b.value d.value) →
            (d.status ≡ infeasible) ⊎ ((d.status ≡ optimal) × IsNoWorse sense c.value d.value)
        worse d (inl h) = inl h
        worse d (inr h) =
            inr (h.0, no_worse_trans sense c.value b.value d.value (no_better_false sense c.value b.value beaten) h.1)

-- ---- from box to box
-- a leaf
module _ (m : RobustModel) (names : List ℕ) (done : List Leaf) (before after : Search) (c : Certificate)
    (stands : Stands names m.sense done before) (h : Decides m names before c (ends after)) where
  abbrev this : Leaf
  this = record { box = m; certificate = Some c }

  proved_more : Each IsProved (done ++ this ∷ [])
  proved_more = each_append IsProved done (this ∷ []) stands.proved (h.proves, tt)

  count_more : suc before.count ≡ length (done ++ this ∷ [])
  count_more = ap suc stands.count ∙ sym (length-append done (this ∷ []) ∙ (omega arith))

  same_end : (s : Search) → ends s ≡ ends after → s ≡ after
  same_end s e = ap search_of e
    where
      search_of : Outcome → Search
      search_of (ends s) = s
      search_of (branches j k) = start

  leaf_stands : Stands names m.sense (done ++ this ∷ []) after
  leaf_stands =
      by c.status (is_beaten m.sense before.best c.value) (first_broken names c.plan) refl refl refl h.decides
    where
      by : (status : Status) (beaten : Bool) (broken : Option ℕ) → c.status ≡ status →
          is_beaten m.sense before.best c.value ≡ beaten → first_broken names c.plan ≡ broken →
          outcome_by before c status beaten broken ≡ ends after → Stands names m.sense (done ++ this ∷ []) after
      by infeasible beaten broken t d b e =
          subst (λ s. Stands names m.sense (done ++ this ∷ []) s) (same_end (counted before) e)
          record {
            count = count_more;
            proved = proved_more;
            shows = more_infeasible names m.sense done this before.endless before.best (c, refl, t) stands.shows;
          }
      by optimal true broken t d b e =
          subst (λ s. Stands names m.sense (done ++ this ∷ []) s) (same_end (counted before) e)
          record {
            count = count_more;
            proved = proved_more;
            shows = more_beaten names m.sense done this c refl t before.endless before.best h.going d stands.shows;
          }
      by optimal false None t d b e =
          subst (λ s. Stands names m.sense (done ++ this ∷ []) s) (same_end (improved before c.value) e)
          record {
            count = count_more;
            proved = proved_more;
            shows =
                subst (λ o. ShowsSoFar names m.sense o (Some record {
                  number = suc before.count;
                  value = c.value;
                }) (done ++ this ∷ []))
                (sym h.going) (
                  each_append (IsNoBetterLeaf m.sense c.value) done (this ∷ [])
                      (no_better_yet names m.sense done this c refl t before.endless before.best h.going d stands.shows)
                      ((c, refl, inr (t, no_worse_refl m.sense c.value)), tt),
                  subst (λ n. HasLeaf (IsBestLeaf names c.value) (done ++ this ∷ []) n) (ap suc (sym stands.count))
                      (has_leaf_last (IsBestLeaf names c.value) done this
                      record {
                        certificate = c;
                        here = refl;
                        status = t;
                        value = refl;
                        whole = all_whole names c.plan b;
                      }),
                );
          }
      by optimal false (Some j) t d b e = cc
      by unbounded beaten None t d b e =
          subst (λ s. Stands names m.sense (done ++ this ∷ []) s) (same_end (shown_endless before) e)
          record {
            count = count_more;
            proved = proved_more;
            shows =
                subst (λ n. HasLeaf (IsEndlessLeaf names) (done ++ this ∷ []) n) (ap suc (sym stands.count))
                (has_leaf_last (IsEndlessLeaf names) done this
                record { certificate = c; here = refl; status = t; whole = all_whole names c.plan b });
          }
      by unbounded beaten (Some j) t d b e = cc

abbrev open_leaf : RobustModel → Leaf
open_leaf m = record { box = m; certificate = None }

-- a node
pub grows_stands : (m : RobustModel) (names : List ℕ) (done : List Leaf) (before after : Search) (node : Node) →
    Grows m names before node after → Stands names m.sense done before
    → Stands names m.sense (done ++ leaves m node) after
grows_stands m names done before after (leaf c) h stands = leaf_stands m names done before after c stands h
grows_stands m names done before after left_open h stands =
    subst (λ s. Stands names m.sense (done ++ open_leaf m ∷ []) s) (sym h.1)
    record {
      count = ap suc stands.count ∙ sym (length-append done (open_leaf m ∷ []) ∙ (omega arith));
      proved = each_append IsProved done (open_leaf m ∷ []) stands.proved (tt, tt);
      shows = more_open names m.sense done (open_leaf m) before.endless before.best h.0.0 h.0.1 stands.shows;
    }
grows_stands m names done before after (split j k below above) h stands =
    subst (λ ls. Stands names m.sense ls after)
    (append_assoc done (leaves (box_below m j k) below) (leaves (box_above m j k) above))
    (grows_stands (box_above m j k) names (done ++ leaves (box_below m j k) below) h.1.0 after above h.1.1.1
    (grows_stands (box_below m j k) names done before h.1.0 below h.1.1.0 stands))

-- ---- the tree of a search that is over
shown_by : (m : RobustModel) (names : List ℕ) (root : Node) (e : Option ℕ) (b : Option Best)
    → Each IsProved (leaves m root) →
    ShowsSoFar names m.sense e b (leaves m root) → ProvesTree m names (tree_by e b root)
shown_by m names root (Some i) b proved h = record { proved = proved; shows = h }
shown_by m names root None (Some b) proved h = record { proved = proved; shows = h }
shown_by m names root None None proved h = record { proved = proved; shows = h }

root-tree_by : (e : Option ℕ) (b : Option Best) (root : Node) → (tree_by e b root).root ≡ root
root-tree_by (Some i) b root = refl
root-tree_by None (Some b) root = refl
root-tree_by None None root = refl

module _ (m : RobustModel) (names : List ℕ) (t : Tree) (h : IsGrown m names t) where
  pub grown_proves : ProvesTree m names t
  grown_proves =
      subst (λ t. ProvesTree m names t) (sym h.finished)
      (shown_by m names t.root h.after.endless h.after.best last.proved last.shows)
    where
      last : Stands names m.sense (leaves m t.root) h.after
      last = grows_stands m names [] start h.after t.root h.grows record { count = refl; proved = tt; shows = tt }

  pub grown_on : BranchesOn names t.root
  grown_on = grows_on m names start h.after t.root h.grows

  pub grown_true : IsModel m → T (are_bounded m.variables names) → HasWholeStatus m names t.status t.value
  grown_true model bounded = tree_true m model names bounded t grown_on grown_proves

-- ---- growing ends
-- what a box grows into, and where the search is then
pub record Growth (m : RobustModel) (names : List ℕ) (before : Search) : Type 0 where
  pub node : Node
  pub after : Search
  pub grows : Grows m names before node after

-- boxes with a measure of at most n grow
abbrev GrowsWithin : ℕ → List ℕ → Type 0
GrowsWithin n names =
    (m : RobustModel) → IsModel m → T (are_bounded m.variables names)
    → product_of_ranges m.variables names ≤ n → Solves m →
    (before : Search) → Growth m names before

module _ (names : List ℕ) (n : ℕ) (smaller : GrowsWithin n names) (m : RobustModel) (model : IsModel m)
    (bounded : T (are_bounded m.variables names))
    (small : product_of_ranges m.variables names ≤ suc n) (solve : Solves m)
    (before : Search) where
  branched : (c : Certificate) (j : ℕ) (k : ℤ) → Decides m names before c (branches j k) → Growth m names before
  branched c j k h =
      let sum = measure_splits m model names bounded c j k (allows_branch m names before c j k h) in
      let below = smaller (box_below m j k) (model_behind m (at_most_branch j k) model)
      (changes_bounded true k j m.variables names bounded)
      (less (product_positive (box_above m j k).variables names) sum small)
      (λ path. solve (at_most_branch j k ∷ path)) before in
      let above = smaller (box_above m j k) (model_behind m (at_least_branch j k) model)
      (changes_bounded false (k +ℤ pos 1) j m.variables names bounded)
      (less_too (product_positive (box_below m j k).variables names) sum small)
      (λ path. solve (at_least_branch j k ∷ path)) below.after in
      record {
        node = split j k below.node above.node;
        after = above.after;
        grows = ((c, h), (below.after, (below.grows, above.grows)));
      }
    where
      less : {p q r n : ℕ} → 1 ≤ q → p + q ≤ r → r ≤ suc n → p ≤ n
      less h g k = omega arith

      less_too : {p q r n : ℕ} → 1 ≤ p → p + q ≤ r → r ≤ suc n → q ≤ n
      less_too h g k = omega arith

  grow_one : Growth m names before
  grow_one = by before.endless refl
    where
      decided : (c : Certificate) → Proves m c → before.endless ≡ None → (o : Outcome)
          → outcome names m.sense before c ≡ o →
          Growth m names before
      decided c proves going (ends after) e =
          record { node = leaf c; after = after; grows = record { going = going; proves = proves; decides = e } }
      decided c proves going (branches j k) e = branched c j k record { going = going; proves = proves; decides = e }

      by : (endless : Option ℕ) → before.endless ≡ endless → Growth m names before
      by (Some i) e = record { node = left_open; after = counted before; grows = ((i, e), refl) }
      by None e = decided (solve []).0 (solve []).1 e (outcome names m.sense before (solve []).0) refl

pub grow_within : (names : List ℕ) (n : ℕ) → GrowsWithin n names
grow_within names zero m model bounded small solve before =
    absurd (none (product_positive m.variables names) small)
  where
    none : {p : ℕ} → 1 ≤ p → p ≤ 0 → ⊥
    none h k = omega arith
grow_within names (suc n) m model bounded small solve before =
    grow_one names n (grow_within names n) m model bounded small solve before

-- each model whose boxes all have certificates grows into a tree
pub grown : (m : RobustModel) → IsModel m → (names : List ℕ) → T (are_bounded m.variables names) → Solves m →
    (t : Tree) × IsGrown m names t
grown m model names bounded solve =
    let g = grow_within names (product_of_ranges m.variables names) m model bounded (omega arith) solve start in (
      tree_by g.after.endless g.after.best g.node,
      record {
        after = g.after;
        grows = subst (λ root. Grows m names start root g.after)
            (sym (root-tree_by g.after.endless g.after.best g.node)) g.grows;
        finished =
            ap (λ root. tree_by g.after.endless g.after.best root)
            (sym (root-tree_by g.after.endless g.after.best g.node));
      },
    )
