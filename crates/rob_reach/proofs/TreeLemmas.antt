-- A tree that proves gives its status: each plan with whole numbers that has a bound has it in the box of some leaf.
use Rattle.std.specs.Prelude.{◌≡◌, ℕ, zero, suc, pos, T, List, [], ◌∷◌, ◌++◌, length, Option, Some, None, IfSome, ◌⊎◌, refl}
use Rattle.std.proofs.Common.{ap, sym, ◌∙◌, subst, inl, inr, arith}
use Rattle.rob_algebra.specs.Fraction.{Fraction, ◌+ℚ◌, ◌*ℚ◌, ◌≤ℚ◌}
use Rattle.rob_algebra.specs.FractionLaws as Q
use Rattle.rob_algebra.specs.FractionLaws.{ℚ_ring}
use Rattle.rob_algebra.specs.Lists.{scale, plus_all, length-scale}
use Rattle.rob_algebra.specs.Polynomials.{lit, ◌:+◌, ◌:*◌, v0, v1}
use Rattle.rob_meaning.proofs.Lists.PlaceLemmas.{at-scale, at-plus_all}
use Rattle.rob_meaning.proofs.Proving.ProvesLemmas.{certificate_true, moved_bound, optimal_bound, reached}
use Rattle.rob_meaning.proofs.Proving.StatusLemmas.{no_worse_trans, bound_weakens}
use Rattle.rob_meaning.specs.Certificates.{Certificate, Status, optimal, infeasible, unbounded}
use Rattle.rob_meaning.specs.Guarantee.{HasBound, IsNoWorse}
use Rattle.rob_meaning.specs.Places.{0ℚ, at, Each}
use Rattle.rob_meaning.specs.Proves.{Proves, ProvesAs, ProvesUnbounded, HasStatus}
use Rattle.rob_meaning.specs.RobustModel.{RobustModel}
use Rattle.rob_meaning.specs.WellFormed.{IsModel}
use Rattle.rob_reach.proofs.BoxLemmas.{whole_at, split_covers, bound_out, model_behind}
use Rattle.rob_reach.proofs.DirectionLemmas.{stands_still}
use Rattle.rob_reach.proofs.RangeLemmas.{both_right, bounded_in, number_between, lower_at, upper_at, changes_bounded}
use Rattle.rob_reach.specs.Boxes.{Branch, behind, box_below, box_above, at_most_branch, at_least_branch}
use Rattle.rob_reach.specs.Ranges.{is_bounded, are_bounded}
use Rattle.rob_reach.specs.Trees.{Node, leaf, split, left_open, Tree, Leaf, leaves, BranchesOn, HasLeaf, IsProved, IsInfeasibleLeaf, IsNoBetterLeaf, IsBestLeaf, IsEndlessLeaf, ShowsStatus, ProvesTree}
use Rattle.rob_reach.specs.WholeNumbers.{IsWhole}
use Rattle.rob_reach.specs.WholeStatus.{IsWholeOn, WholeBound, IsWholeInfeasible, IsWholeUnbounded, HasWholeStatus}
use Rattle.rob_meaning.proofs.Lists.EachLemmas.{each_append}

-- ---- lists of leaves
-- some leaf has the property
abbrev pub HasSome : (Leaf → Type 0) → List Leaf → Type 0
HasSome P [] = ⊥
HasSome P (l ∷ ls) = P l ⊎ HasSome P ls

some_of_two : {A B : Type 0} (P : Leaf → Type 0) (xs ys : List Leaf) → (A → HasSome P xs) → (B → HasSome P ys) → A ⊎ B →
    HasSome P (xs ++ ys)
some_of_two P xs ys f g (inl h) = left P xs ys (f h)
  where
    left : (P : Leaf → Type 0) (xs ys : List Leaf) → HasSome P xs → HasSome P (xs ++ ys)
    left P [] ys h = absurd h
    left P (x ∷ xs) ys (inl h) = inl h
    left P (x ∷ xs) ys (inr h) = inr (left P xs ys h)
some_of_two P xs ys f g (inr h) = right P xs ys (g h)
  where
    right : (P : Leaf → Type 0) (xs ys : List Leaf) → HasSome P ys → HasSome P (xs ++ ys)
    right P [] ys h = h
    right P (x ∷ xs) ys h = inr (right P xs ys h)

each_and : (P Q : Leaf → Type 0) (xs : List Leaf) → Each P xs → Each Q xs → Each (λ l. P l × Q l) xs
each_and P Q [] h k = tt
each_and P Q (x ∷ xs) h k = ((h.0, k.0), each_and P Q xs h.1 k.1)

-- a leaf with a property that some have and one that each has
found : (P Q : Leaf → Type 0) (xs : List Leaf) → HasSome P xs → Each Q xs → (l : Leaf) × (P l × Q l)
found P Q [] h k = absurd h
found P Q (x ∷ xs) (inl h) k = (x, (h, k.0))
found P Q (x ∷ xs) (inr h) k = found P Q xs h k.1

numbered : (P Q : Leaf → Type 0) (xs : List Leaf) (i : ℕ) → HasLeaf P xs i → Each Q xs → (l : Leaf) × (P l × Q l)
numbered P Q [] i h k = absurd h
numbered P Q (x ∷ xs) zero h k = absurd h
numbered P Q (x ∷ xs) (suc zero) h k = (x, (h, k.0))
numbered P Q (x ∷ xs) (suc (suc i)) h k = numbered P Q xs (suc i) h k.1

-- ---- the boxes of the leaves
-- a plan with whole numbers that has a bound has it in the box of some leaf
pub leaves_cover : (m : RobustModel) (names : List ℕ) (node : Node) → BranchesOn names node → (plan : List Fraction)
    (tau : Fraction) → IsWholeOn names plan → HasBound m plan tau
    → HasSome (λ l. HasBound l.box plan tau) (leaves m node)
leaves_cover m names (leaf c) on plan tau whole h = inl h
leaves_cover m names left_open on plan tau whole h = inl h
leaves_cover m names (split j k below above) on plan tau whole h =
    some_of_two (λ l. HasBound l.box plan tau) (leaves (box_below m j k) below) (leaves (box_above m j k) above)
    (leaves_cover (box_below m j k) names below on.1 plan tau whole)
    (leaves_cover (box_above m j k) names above on.2 plan tau whole)
    (split_covers m j k plan tau (whole_at names plan j on.0 whole) h)

-- what the box of a leaf keeps of the model
pub record IsBoxOf (m : RobustModel) (l : Leaf) : Type 0 where
  pub bound : (plan : List Fraction) (tau : Fraction) → HasBound l.box plan tau → HasBound m plan tau
  pub model : IsModel m → IsModel l.box
  pub sense : l.box.sense ≡ m.sense
  pub bounded : (names : List ℕ) → T (are_bounded m.variables names) → T (are_bounded l.box.variables names)

box_of_self : (m : RobustModel) (o : Option Certificate) → IsBoxOf m (record { box = m; certificate = o })
box_of_self m o = record { bound = λ plan tau h. h; model = λ h. h; sense = refl; bounded = λ names h. h }

box_of_behind : (m : RobustModel) (b : Branch) (ls : List Leaf) → Each (IsBoxOf (behind m b)) ls → Each (IsBoxOf m) ls
box_of_behind m b [] h = tt
box_of_behind m b (l ∷ ls) h = (
  record {
    bound = λ plan tau k. bound_out m b plan tau (h.0.bound plan tau k);
    model = λ k. h.0.model (model_behind m b k);
    sense = h.0.sense;
    bounded = λ names k. h.0.bounded names (changes_bounded b.is_upper b.bound b.variable m.variables names k);
  },
  box_of_behind m b ls h.1,
)

pub leaves_boxed : (m : RobustModel) (node : Node) → Each (IsBoxOf m) (leaves m node)
leaves_boxed m (leaf c) = (box_of_self m (Some c), tt)
leaves_boxed m left_open = (box_of_self m None, tt)
leaves_boxed m (split j k below above) =
    each_append (IsBoxOf m) (leaves (box_below m j k) below) (leaves (box_above m j k) above)
    (box_of_behind m (at_most_branch j k) (leaves (box_below m j k) below) (leaves_boxed (box_below m j k) below))
    (box_of_behind m (at_least_branch j k) (leaves (box_above m j k) above) (leaves_boxed (box_above m j k) above))

-- ---- a proved leaf
proved_as : (l : Leaf) (c : Certificate) (s : Status) → l.certificate ≡ Some c → c.status ≡ s
    → IsProved l → ProvesAs s l.box c
proved_as l c s here status h =
    subst (λ t. ProvesAs t l.box c) status (subst (λ o. IfSome o (λ c. Proves l.box c)) here h)

status_as : (l : Leaf) (c : Certificate) (s : Status) → IsModel l.box → l.certificate ≡ Some c
    → c.status ≡ s → IsProved l →
    HasStatus l.box s c.value
status_as l c s model here status h =
    subst (λ t. HasStatus l.box t c.value) status
    (certificate_true l.box model c (subst (λ o. IfSome o (λ c. Proves l.box c)) here h))

module _ (m : RobustModel) (model : IsModel m) (names : List ℕ) (root : Node) (on : BranchesOn names root)
    (proved : Each IsProved (leaves m root)) where
  both : Each (λ l. IsBoxOf m l × IsProved l) (leaves m root)
  both = each_and (IsBoxOf m) IsProved (leaves m root) (leaves_boxed m root) proved

  -- ---- optimal
  attained : (v : Fraction) (i : ℕ) → HasLeaf (IsBestLeaf names v) (leaves m root) i → (plan : List Fraction)
      × WholeBound m names plan v
  attained v i h = by (numbered (IsBestLeaf names v) (λ l. IsBoxOf m l × IsProved l) (leaves m root) i h both)
    where
      by : (l : Leaf) × (IsBestLeaf names v l × (IsBoxOf m l × IsProved l)) → (plan : List Fraction)
          × WholeBound m names plan v
      by g =
          let l : Leaf = g.0 in
          let c : Certificate = g.1.0.certificate in
          let box : IsBoxOf m l = g.1.1.0 in (
            c.plan,
            record {
              bound = box.bound c.plan v (subst (λ x. HasBound l.box c.plan x) g.1.0.value
                  (optimal_bound l.box (box.model model) c (proved_as l c optimal g.1.0.here g.1.0.status g.1.1.1)));
              whole = g.1.0.whole;
            },
          )

  none_better : (v : Fraction) → Each (IsNoBetterLeaf m.sense v) (leaves m root)
      → (plan : List Fraction) (tau : Fraction) →
      WholeBound m names plan tau → IsNoWorse m.sense v tau
  none_better v each plan tau h =
      by (found (λ l. HasBound l.box plan tau)
      (λ l. (IsBoxOf m l × IsProved l) × IsNoBetterLeaf m.sense v l) (leaves m root)
      (leaves_cover m names root on plan tau h.whole h.bound)
      (each_and (λ l. IsBoxOf m l × IsProved l) (IsNoBetterLeaf m.sense v) (leaves m root) both each))
    where
      by : (l : Leaf) × (HasBound l.box plan tau × ((IsBoxOf m l × IsProved l) × IsNoBetterLeaf m.sense v l))
          → IsNoWorse m.sense v tau
      by g = cases g.1.1.1.2
        where
          cases : (g.1.1.1.0.status ≡ infeasible)
              ⊎ ((g.1.1.1.0.status ≡ optimal) × IsNoWorse m.sense v g.1.1.1.0.value) →
              IsNoWorse m.sense v tau
          cases (inl e) =
              absurd (status_as g.0 g.1.1.1.0 infeasible (g.1.1.0.0.model model) g.1.1.1.1 e g.1.1.0.1 plan tau g.1.0)
          cases (inr e) =
              no_worse_trans m.sense v g.1.1.1.0.value tau e.1
              (subst (λ s. IsNoWorse s g.1.1.1.0.value tau) g.1.1.0.0.sense
              ((status_as g.0 g.1.1.1.0 optimal (g.1.1.0.0.model model) g.1.1.1.1 e.0 g.1.1.0.1).none_better plan tau
              g.1.0))

  -- ---- infeasible
  none_at_all : Each IsInfeasibleLeaf (leaves m root) → IsWholeInfeasible m names
  none_at_all each plan tau h =
      by (found (λ l. HasBound l.box plan tau) (λ l. (IsBoxOf m l × IsProved l) × IsInfeasibleLeaf l) (leaves m root)
      (leaves_cover m names root on plan tau h.whole h.bound)
      (each_and (λ l. IsBoxOf m l × IsProved l) IsInfeasibleLeaf (leaves m root) both each))
    where
      by : (l : Leaf) × (HasBound l.box plan tau × ((IsBoxOf m l × IsProved l) × IsInfeasibleLeaf l)) → ⊥
      by g =
          status_as g.0 g.1.1.1.0 infeasible (g.1.1.0.0.model model) g.1.1.1.1 g.1.1.1.2 g.1.1.0.1 plan tau g.1.0

-- ---- unbounded
module _ (m : RobustModel) (model : IsModel m) (names : List ℕ)
    (bounded : T (are_bounded m.variables names)) (c : Certificate)
    (h : ProvesUnbounded m c) (whole : IsWholeOn names c.plan) where
  lengths : (t : Fraction) → length c.plan ≡ length (scale ℚ_ring t c.step)
  lengths t = h.columns ∙ sym (length-scale ℚ_ring t c.step ∙ h.step_columns)

  number_moved : (t : Fraction) (j : ℕ) →
      at (plus_all ℚ_ring c.plan (scale ℚ_ring t c.step)) j ≡ at c.plan j +ℚ t *ℚ at c.step j
  number_moved t j =
      at-plus_all c.plan (scale ℚ_ring t c.step) j (lengths t) ∙ ap (λ x. at c.plan j +ℚ x) (at-scale t c.step j)

  -- the step leaves named variables where they are, since they have both bounds
  named_stand_still : (j : ℕ) → T (is_bounded m.variables j) → at c.step j ≡ 0ℚ
  named_stand_still j some =
      stands_still (at c.plan j) (at c.step j) (lower_at m.variables j) (upper_at m.variables j)
      (λ t nonneg. subst (λ x. (lower_at m.variables j ≤ℚ x) × (x ≤ℚ upper_at m.variables j)) (number_moved t j)
      (subst (λ n. (lower_at m.variables j ≤ℚ at (plus_all ℚ_ring c.plan (scale ℚ_ring t c.step)) n)
      × (at (plus_all ℚ_ring c.plan (scale ℚ_ring t c.step)) n ≤ℚ upper_at m.variables j)) (omega arith)
      (number_between (plus_all ℚ_ring c.plan (scale ℚ_ring t c.step)) zero m.variables j some
      (moved_bound m model c h t nonneg).variables)))

  moved_whole : (t : Fraction) (js : List ℕ) → T (are_bounded m.variables js) → IsWholeOn js c.plan →
      IsWholeOn js (plus_all ℚ_ring c.plan (scale ℚ_ring t c.step))
  moved_whole t [] some k = tt
  moved_whole t (j ∷ js) some k = (
    subst IsWhole
        (sym (number_moved t j ∙ ap (λ x. at c.plan j +ℚ t *ℚ x)
        (named_stand_still j (bounded_in m.variables (j ∷ js) j (inl refl) some))
        ∙ Q.ring (at c.plan j ∷ t ∷ []) (v0 :+ v1 :* lit (pos 0)) v0 refl))
        k.0,
    moved_whole t js (rest j js some) k.1,
  )
    where
      rest : (j : ℕ) (js : List ℕ) → T (are_bounded m.variables (j ∷ js)) → T (are_bounded m.variables js)
      rest j js some = both_right (is_bounded m.variables j) (are_bounded m.variables js) some

  pub endless : IsWholeUnbounded m names
  endless tau =
      let r = reached m.sense c.value c.step_bound tau h.improves in (
        plus_all ℚ_ring c.plan (scale ℚ_ring r.0 c.step),
        record {
          bound = bound_weakens m (plus_all ℚ_ring c.plan (scale ℚ_ring r.0 c.step))
              (c.value +ℚ r.0 *ℚ c.step_bound) tau r.1.1
              (moved_bound m model c h r.0 r.1.0);
          whole = moved_whole r.0 names bounded whole;
        },
      )

-- ---- the law of trees
module _ (m : RobustModel) (model : IsModel m) (names : List ℕ) (bounded : T (are_bounded m.variables names)) where
  unbounded_true : (root : Node) (i : ℕ) → Each IsProved (leaves m root)
      → HasLeaf (IsEndlessLeaf names) (leaves m root) i →
      IsWholeUnbounded m names
  unbounded_true root i proved h =
      by (numbered (IsEndlessLeaf names) (λ l. IsBoxOf m l × IsProved l) (leaves m root) i h
      (each_and (IsBoxOf m) IsProved (leaves m root) (leaves_boxed m root) proved))
    where
      by : (l : Leaf) × (IsEndlessLeaf names l × (IsBoxOf m l × IsProved l)) → IsWholeUnbounded m names
      by g tau =
          let l : Leaf = g.0 in
          let c : Certificate = g.1.0.certificate in
          let box : IsBoxOf m l = g.1.1.0 in
          let plan : (plan : List Fraction) × WholeBound l.box names plan tau =
          endless l.box (box.model model) names (box.bounded names bounded) c
          (proved_as l c unbounded g.1.0.here g.1.0.status g.1.1.1) g.1.0.whole tau in
          (plan.0, record { bound = box.bound plan.0 tau plan.1.bound; whole = plan.1.whole })

  pub tree_true : (t : Tree) → BranchesOn names t.root → ProvesTree m names t → HasWholeStatus m names t.status t.value
  tree_true t on h = by t.status h.shows
    where
      by : (s : Status) → ShowsStatus s m names t → HasWholeStatus m names s t.value
      by optimal k =
          record {
            attained = attained m model names t.root on h.proved t.value t.best k.1;
            none_better = none_better m model names t.root on h.proved t.value k.0;
          }
      by infeasible k = none_at_all m model names t.root on h.proved k
      by unbounded k = unbounded_true t.root t.best h.proved k
