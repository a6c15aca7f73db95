-- The verdict on a tree, from what is said of its leaves in order and of the one that is to show the status.
use Rattle.std.proofs.Common.{◌≡◌, ◌≢◌, ℕ, suc, ◌+◌, ◌-◌, List, [], ◌∷◌, ◌++◌, length, arith, refl, ap, sym, ◌∙◌, subst, append_assoc, inl, inr}
use Rattle.std.specs.Prelude.{T, Option, Some, None, IfSome, take}
use Rattle.rob_algebra.specs.Fraction.{Fraction}
use Rattle.rob_check.proofs.ProofLaws.{proves_judged}
use Rattle.rob_check.specs.Conditions.{verdict_of}
use Rattle.rob_check.specs.Verdicts.{Judges}
use Rattle.rob_check.specs.declared.verdict.Verdict.TheVariants as check
use Rattle.rob_meaning.proofs.Lists.EachLemmas.{each_append, each_both, each_left, each_map}
use Rattle.rob_meaning.specs.Certificates.{Certificate, Status, optimal, infeasible, unbounded}
use Rattle.rob_meaning.specs.Places.{Each}
use Rattle.rob_meaning.specs.Proves.{Proves}
use Rattle.rob_meaning.specs.RobustModel.{RobustModel}
use Rattle.rob_meaning.specs.WellFormed.{IsModel}
use Rattle.rob_model.specs.declared.place.Spot.{Spot}
use Rattle.rob_reach.proofs.TreeLemmas.{IsBoxOf, leaves_boxed, tree_true}
use Rattle.rob_reach.proofs.VerdictLemmas.{conditions_law}
use Rattle.rob_reach.specs.Boxes.{Branch, box}
use Rattle.rob_reach.specs.Trees.{Tree, Leaf, leaves, IsProved}
use Rattle.rob_reach.specs.Verdicts.{Condition, Holds, HoldsOf, IsFirstFault, KeepsValue, MayBe, Shows, best_conditions, last_conditions, leaf_at, leaf_conditions, tree_conditions, proof, status, value, best, whole}
use Rattle.rob_reach.specs.Verdicts as verdicts
use Rattle.rob_reach.specs.Ranges.{are_bounded}
use Rattle.rob_reach.specs.WholeStatus.{HasWholeStatus, IsWholeOn}
use Rattle.rob_cert.specs.Shape.{HasShape}
use Rattle.rob_tree.specs.Shape.{HasTreeShape, IsShaped}
use Rattle.rob_tree.specs.declared.verdict.LeafFault.{LeafFault}
use Rattle.rob_tree.specs.declared.verdict.LeafFault.TheVariants as fault
use Rattle.rob_tree.specs.declared.verdict.TreeVerdict.{TreeVerdict}
use Rattle.rob_tree.specs.declared.verdict.TreeVerdict.TheVariants.{Accepted, Rejected, TooWide, Memory}
use Rattle.rob_branch.proofs.LeafLemmas.{leaf_at_front, path_at_front}
use Rattle.rob_branch.proofs.PathLemmas.{box_at}
use Rattle.rob_branch.specs.Leaves.{Ends, FailsAt, IsLeafJudged, IsPassedLeaf, Stops, StopsAt}
use Rattle.rob_branch.specs.declared.leaf.LeafCheck.TheVariants as leaf
use Rattle.rob_branch.specs.Verdicts.{HasVerdict, IsAccepted, IsKept, IsPassed, IsRejectedAt, IsTooWideAt, IsVerdict, IsWideInLeaf, OnAccepted, RoseIfTooWide, path_at, paths}
use Rattle.std.proofs.lemmas.List.{take_at}

if_some : (o : Option Certificate) (P Q : Certificate → Type 0) → ((c : Certificate) → P c → Q c) → IfSome o P
    → IfSome o Q
if_some None P Q f h = tt
if_some (Some c) P Q f h = f c h

if_both : (o : Option Certificate) (P Q R : Certificate → Type 0) → ((c : Certificate) → P c → Q c → R c)
    → IfSome o P → IfSome o Q → IfSome o R
if_both None P Q R f h g = tt
if_both (Some c) P Q R f h g = f c h g

leaf_conditions-append : (i : ℕ) (xs ys : List Leaf)
    → leaf_conditions i (xs ++ ys) ≡ leaf_conditions i xs ++ leaf_conditions (i + length xs) ys
leaf_conditions-append i [] ys = ap (λ n. leaf_conditions n ys) (omega arith)
leaf_conditions-append i (l ∷ xs) ys =
    let p : Condition = record { number = i; fault = proof; leaf = l } in
    let s : Condition = record { number = i; fault = status; leaf = l } in
    let v : Condition = record { number = i; fault = value; leaf = l } in
    ap (λ cs. p ∷ (s ∷ (v ∷ cs))) (leaf_conditions-append (suc i) xs ys
    ∙ ap (λ n. leaf_conditions (suc i) xs ++ leaf_conditions n ys) (omega arith))

module _ (limit : ℕ) (m : RobustModel) (names : List ℕ) (t : Tree) (model : IsModel m)
    (shape : HasTreeShape limit m names t) where
  -- a leaf whose box is one of the model's, and whose certificate has its shape
  pub record IsLeafOf (l : Leaf) : Type 0 where
    pub boxed : IsBoxOf m l
    pub shaped : IsShaped l

  pub all_leaves : Each IsLeafOf (leaves m t.root)
  all_leaves = each_both (IsBoxOf m) IsShaped IsLeafOf (λ l h g. record { boxed = h; shaped = g }) (leaves m t.root)
      (leaves_boxed m t.root) shape.shaped

  abbrev kept : Leaf → Certificate → Type 0
  kept l c = IsLeafJudged limit t.status t.value l.box c leaf.Passed

  kept_of : (l : Leaf) → IsLeafOf l → IsPassedLeaf limit t.status t.value l → IsKept limit m names t l
  kept_of l is h = record {
    passed = if_some l.certificate (kept l) (λ c. HasVerdict limit l.box c check.Accepted) (λ c q. q.0) h;
    status = if_some l.certificate (kept l) (λ c. MayBe t.status c.status) (λ c q. q.1) h;
    value = if_some l.certificate (kept l) (λ c. KeepsValue t.status m.sense t.value c)
        (λ c q. subst (λ s. KeepsValue t.status s t.value c) is.boxed.sense q.2) h;
  }

  -- what the verdict on a leaf's certificate says of it
  judged : (l : Leaf) (c : Certificate) → IsLeafOf l → HasShape l.box c
      → Judges (Proves l.box c) (verdict_of limit l.box c)
  judged l c is h = proves_judged limit l.box (is.boxed.model model) c h

  pub proved : (l : Leaf) → IsLeafOf l → IsPassed limit l → IsProved l
  proved l is h =
      if_both l.certificate (HasShape l.box) (λ c. HasVerdict limit l.box c check.Accepted) (λ c. Proves l.box c)
      (λ c g q. subst (λ v. Judges (Proves l.box c) v) q.verdict (judged l c is g)) is.shaped h

  conditions_of : (i : ℕ) (ls : List Leaf) → Each IsLeafOf ls → Each (IsKept limit m names t) ls
      → Each (Holds m.sense names t) (leaf_conditions i ls)
  conditions_of i [] is h = tt
  conditions_of i (l ∷ ls) is h =
      (proved l is.0 h.0.passed, (h.0.status, (h.0.value, conditions_of (suc i) ls is.1 h.1)))

  -- ---- a leaf that stops the check
  module _ (i : ℕ) (path : List Branch) (P : Leaf → Type 0)
      (h : StopsAt limit t.status t.value m [] t.root 1 i path P) where
    these : Each IsLeafOf h.done
    these = each_left IsLeafOf h.done (h.here ∷ h.rest) (subst (Each IsLeafOf) h.order all_leaves)

    here_is : IsLeafOf h.here
    here_is = (by h.done (subst (Each IsLeafOf) h.order all_leaves))
      where
        by : (xs : List Leaf) → Each IsLeafOf (xs ++ h.here ∷ h.rest) → IsLeafOf h.here
        by [] g = g.0
        by (x ∷ xs) g = by xs g.1

    done_kept : Each (IsKept limit m names t) h.done
    done_kept = each_both IsLeafOf (IsPassedLeaf limit t.status t.value) (IsKept limit m names t) kept_of h.done
        these h.passed

    number_is : i ≡ suc (length h.done)
    number_is = omega (arith, h.number)

    taken : take (i - 1) (leaves m t.root) ≡ h.done
    taken =
        ap (λ n. take n (leaves m t.root)) (omega (arith, h.number)) ∙ ap (λ ls. take (length h.done) ls) h.order
        ∙ take_at h.done (h.here ∷ h.rest) (length h.done) refl

    before_kept : Each (IsKept limit m names t) (take (i - 1) (leaves m t.root))
    before_kept = subst (Each (IsKept limit m names t)) (sym taken) done_kept

    before_passed : Each (IsPassed limit) (take (i - 1) (leaves m t.root))
    before_passed = each_map (IsKept limit m names t) (IsPassed limit) (λ l k. k.passed)
        (take (i - 1) (leaves m t.root)) before_kept

    -- the condition of that leaf, and those behind it
    abbrev of_here : verdicts.LeafFault → Condition
    of_here f = record { number = 1 + length h.done; fault = f; leaf = h.here }

    abbrev behind : List Condition
    behind = leaf_conditions (suc (1 + length h.done)) h.rest ++ last_conditions t.status t.best (leaves m t.root)

    stands : tree_conditions m t ≡ leaf_conditions 1 h.done ++ of_here
        proof ∷ (of_here status ∷ (of_here value ∷ behind))
    stands =
        let last = last_conditions t.status t.best (leaves m t.root) in
        ap (λ ls. leaf_conditions 1 ls ++ last) h.order
        ∙ ap (λ cs. cs ++ last) (leaf_conditions-append 1 h.done (h.here ∷ h.rest))
        ∙ append_assoc (leaf_conditions 1 h.done) (leaf_conditions (1 + length h.done) (h.here ∷ h.rest)) last

    done_hold : Each (Holds m.sense names t) (leaf_conditions 1 h.done)
    done_hold = conditions_of 1 h.done these done_kept

    at_proof : (HoldsOf proof m.sense names t.status t.value h.here → ⊥) → IsFirstFault m names t (of_here proof)
    at_proof f = record {
      before = leaf_conditions 1 h.done;
      after = of_here status ∷ (of_here value ∷ behind);
      stands = stands;
      hold = done_hold;
      fails = f;
    }

    at_status : IsPassed limit h.here → (HoldsOf status m.sense names t.status t.value h.here → ⊥)
        → IsFirstFault m names t (of_here status)
    at_status p f = record {
      before = leaf_conditions 1 h.done ++ of_here proof ∷ [];
      after = of_here value ∷ behind;
      stands = stands ∙ sym (append_assoc (leaf_conditions 1 h.done) (of_here proof ∷ [])
          (of_here status ∷ (of_here value ∷ behind)));
      hold = each_append (Holds m.sense names t) (leaf_conditions 1 h.done) (of_here proof ∷ []) done_hold
          (proved h.here here_is p, tt);
      fails = f;
    }

    at_value : IsPassed limit h.here → HoldsOf status m.sense names t.status t.value h.here
        → (HoldsOf value m.sense names t.status t.value h.here → ⊥)
        → IsFirstFault m names t (of_here value)
    at_value p s f = record {
      before = leaf_conditions 1 h.done ++ of_here proof ∷ (of_here status ∷ []);
      after = behind;
      stands = stands ∙ sym (append_assoc (leaf_conditions 1 h.done) (of_here proof ∷ (of_here status ∷ []))
          (of_here value ∷ behind));
      hold = each_append (Holds m.sense names t) (leaf_conditions 1 h.done) (of_here proof ∷ (of_here status ∷ []))
          done_hold (proved h.here here_is p, (s, tt));
      fails = f;
    }

    passes : (c : Certificate) → h.here.certificate ≡ Some c → HasVerdict limit h.here.box c check.Accepted
        → IsPassed limit h.here
    passes c some q = subst (λ o. IfSome o (λ c. HasVerdict limit h.here.box c check.Accepted)) (sym some) q

    rejects : (c : Certificate) (told : LeafFault) → h.here.certificate ≡ Some c
        → IsLeafJudged limit t.status t.value h.here.box c (leaf.Fails told)
        → IsRejectedAt limit m names t i told
    rejects c (fault.At place) some q = record {
      condition = of_here proof;
      first = at_proof (λ p. subst (λ v. Judges (Proves h.here.box c) v) q.verdict
          (judged h.here c here_is (subst (λ o. IfSome o (HasShape h.here.box)) some here_is.shaped))
          (subst (λ o. IfSome o (λ c. Proves h.here.box c)) some p));
      number = sym h.number;
      tells = (
        place,
        refl,
        subst (λ o. IfSome o (λ c. HasVerdict limit h.here.box c (check.Rejected place)))
            (sym some) q,
      );
      before = before_passed;
    }
    rejects c fault.Status some q =
        let p : IsPassed limit h.here = passes c some q.0 in
        record {
          condition = of_here status;
          first = at_status p (λ s. q.1 (subst (λ o. IfSome o (λ c. MayBe t.status c.status)) some s));
          number = sym h.number;
          tells = (refl, p);
          before = before_passed;
        }
    rejects c fault.Value some q =
        let p : IsPassed limit h.here = passes c some q.0 in
        record {
          condition = of_here value;
          first = at_value p (subst (λ o. IfSome o (λ c. MayBe t.status c.status)) (sym some) q.1)
              (λ v. q.2 (subst (λ s. KeepsValue t.status s t.value c) (sym here_is.boxed.sense)
              (subst (λ o. IfSome o (λ c. KeepsValue t.status m.sense t.value c)) some v)));
          number = sym h.number;
          tells = (refl, p);
          before = before_passed;
        }
    rejects c fault.Best some q = absurd q
    rejects c fault.Whole some q = absurd q

  rejected_at : (i : ℕ) (path : List Branch) (told : LeafFault)
      → StopsAt limit t.status t.value m [] t.root 1 i path (FailsAt limit t.status t.value told)
      → IsRejectedAt limit m names t i told
  rejected_at i path told h = rejects i path (FailsAt limit t.status t.value told) h h.holds.0 told h.holds.1 h.holds.2

  too_wide_at : (i : ℕ) (path : List Branch) (spot : Spot)
      → StopsAt limit t.status t.value m [] t.root 1 i path (λ l. IsWideInLeaf limit l spot)
      → IsTooWideAt limit m names t path spot
  too_wide_at i path spot h =
      let place : i ≡ suc (length h.done) = number_is i path (λ l. IsWideInLeaf limit l spot) h in
      let here : leaf_at (leaves m t.root) i ≡ Some h.here =
      ap (λ ls. leaf_at ls i) h.order ∙ ap (λ n. leaf_at (h.done ++ h.here ∷ h.rest) n) place
      ∙ leaf_at_front h.done h.here h.rest
      in
      let path_is : path_at (paths [] t.root) i ≡ path =
      ap (λ ps. path_at ps i) h.paths_order
      ∙ ap (λ n. path_at (h.paths_before ++ path ∷ h.paths_after) n) (place ∙ ap suc (sym h.same_place))
      ∙ path_at_front h.paths_before path h.paths_after
      in
      record {
        number = i;
        leaf = h.here;
        here = here;
        path_is = path_is;
        boxed = box_at m t.root i h.here here ∙ ap (box m) path_is;
        wide = h.holds;
        before = before_kept i path (λ l. IsWideInLeaf limit l spot) h;
      }

  -- the verdict where the check of the root stops
  pub stopped_verdict : (v : TreeVerdict) → Stops limit t.status t.value m [] t.root 1 v → IsVerdict limit m names t v
  stopped_verdict Accepted h = absurd h
  stopped_verdict (Rejected i told) h = rejected_at i h.0 told h.1
  stopped_verdict (TooWide path spot) h = too_wide_at h.0 _ spot h.1
  stopped_verdict Memory h = tt

  -- ---- the leaf that is to show the status
  last_are : (s : Status) (i : ℕ) (ls : List Leaf) (l : Leaf) → s ≢ infeasible → leaf_at ls i ≡ Some l
      → last_conditions s i ls ≡ best_conditions i (Some l)
  last_are optimal i ls l ne e = ap (best_conditions i) e
  last_are infeasible i ls l ne e = absurd (ne refl)
  last_are unbounded i ls l ne e = ap (best_conditions i) e

  module _ (passed : Each (IsPassedLeaf limit t.status t.value) (leaves m t.root)) where
    all_kept : Each (IsKept limit m names t) (leaves m t.root)
    all_kept = each_both IsLeafOf (IsPassedLeaf limit t.status t.value) (IsKept limit m names t) kept_of
        (leaves m t.root) all_leaves passed

    all_passed : Each (IsPassed limit) (leaves m t.root)
    all_passed = each_map (IsKept limit m names t) (IsPassed limit) (λ l k. k.passed) (leaves m t.root) all_kept

    all_hold : Each (Holds m.sense names t) (leaf_conditions 1 (leaves m t.root))
    all_hold = conditions_of 1 (leaves m t.root) all_leaves all_kept

    abbrev of_last : verdicts.LeafFault → Leaf → Condition
    of_last f l = record { number = t.best; fault = f; leaf = l }

    accepted : Each (Holds m.sense names t) (last_conditions t.status t.best (leaves m t.root))
        → IsAccepted limit m names t
    accepted h = record {
      proves = (conditions_law m names t shape.tree.closed shape.tree.best).1
          (each_append (Holds m.sense names t) (leaf_conditions 1 (leaves m t.root))
          (last_conditions t.status t.best (leaves m t.root)) all_hold h);
      passed = all_passed;
    }

    nothing_last : t.status ≡ infeasible
        → Each (Holds m.sense names t) (last_conditions t.status t.best (leaves m t.root))
    nothing_last e = subst (λ s. Each (Holds m.sense names t) (last_conditions s t.best (leaves m t.root))) (sym e) tt

    both_last : (l : Leaf) (c : Certificate) → leaf_at (leaves m t.root) t.best ≡ Some l → l.certificate ≡ Some c
        → Shows t.status t.value c → IsWholeOn names c.plan
        → Each (Holds m.sense names t) (last_conditions t.status t.best (leaves m t.root))
    both_last l c here some shows is_whole = by t.status refl
      where
        both : Each (Holds m.sense names t) (best_conditions t.best (Some l))
        both = ((c, (some, shows)), (subst (λ o. IfSome o (λ c. IsWholeOn names c.plan)) (sym some) is_whole, tt))

        by : (s : Status) → s ≡ t.status → Each (Holds m.sense names t) (last_conditions s t.best (leaves m t.root))
        by optimal e = subst (Each (Holds m.sense names t)) (ap (best_conditions t.best) (sym here)) both
        by infeasible e = tt
        by unbounded e = subst (Each (Holds m.sense names t)) (ap (best_conditions t.best) (sym here)) both

    pub ended_verdict : (v : TreeVerdict) → Ends t.status names t.value t.best (leaves m t.root) v
        → IsVerdict limit m names t v
    ended_verdict Accepted (inl e) = accepted (nothing_last e)
    ended_verdict Accepted (inr h) = accepted (both_last h.0 h.2.0 h.1 h.2.1 h.2.2 h.2.3)
    ended_verdict (Rejected i fault.Best) (ne, at, (l, here, none)) = record {
      condition = of_last best l;
      first = record {
        before = leaf_conditions 1 (leaves m t.root);
        after = of_last whole l ∷ [];
        stands = ap (λ cs. leaf_conditions 1 (leaves m t.root) ++ cs)
            (last_are t.status t.best (leaves m t.root) l ne here);
        hold = all_hold;
        fails = λ (c, (some, shows)). none c some shows;
      };
      number = sym at;
      tells = refl;
      before = all_passed;
    }
    ended_verdict (Rejected i fault.Whole) (ne, at, (l, here, (c, some, shows, broken))) = record {
      condition = of_last whole l;
      first = record {
        before = leaf_conditions 1 (leaves m t.root) ++ of_last best l ∷ [];
        after = [];
        stands =
            ap (λ cs. leaf_conditions 1 (leaves m t.root) ++ cs) (last_are t.status t.best (leaves m t.root) l ne here)
            ∙ sym (append_assoc (leaf_conditions 1 (leaves m t.root)) (of_last best l ∷ []) (of_last whole l ∷ []));
        hold = each_append (Holds m.sense names t) (leaf_conditions 1 (leaves m t.root)) (of_last best l ∷ [])
            all_hold ((c, (some, shows)), tt);
        fails = λ w. broken (subst (λ o. IfSome o (λ c. IsWholeOn names c.plan)) some w);
      };
      number = sym at;
      tells = refl;
      before = all_passed;
    }
    ended_verdict (Rejected i (fault.At place)) h = absurd h
    ended_verdict (Rejected i fault.Status) h = absurd h
    ended_verdict (Rejected i fault.Value) h = absurd h
    ended_verdict (TooWide path spot) h = absurd h
    ended_verdict Memory h = absurd h

  -- ---- what follows
  -- a check that stops does not accept
  pub stopped_claims : (P : Type 0) (v : TreeVerdict) → Stops limit t.status t.value m [] t.root 1 v → OnAccepted v P
  stopped_claims P Accepted h = absurd h
  stopped_claims P (Rejected i told) h = tt
  stopped_claims P (TooWide path spot) h = tt
  stopped_claims P Memory h = tt

  -- an accepted tree tells the truth
  pub accepted_claims : T (are_bounded m.variables names) → (v : TreeVerdict) → IsVerdict limit m names t v
      → OnAccepted v (HasWholeStatus m names t.status t.value)
  accepted_claims bounded Accepted h = tree_true m model names bounded t shape.tree.on_names h.proves
  accepted_claims bounded (Rejected i told) h = tt
  accepted_claims bounded (TooWide path spot) h = tt
  accepted_claims bounded Memory h = tt

-- the leaf that is to show the status is judged without a wide number
pub ended_rose : (claimed : Status) (names : List ℕ) (claim : Fraction) (i : ℕ) (ls : List Leaf) (before now : ℕ)
    (v : TreeVerdict)
    → Ends claimed names claim i ls v → RoseIfTooWide before now v
ended_rose claimed names claim i ls before now Accepted h = tt
ended_rose claimed names claim i ls before now (Rejected j told) h = tt
ended_rose claimed names claim i ls before now (TooWide path spot) h = absurd h
ended_rose claimed names claim i ls before now Memory h = tt
