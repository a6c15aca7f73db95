-- A box that grows, one step at a time: its scenario, what is asked of it and of a box behind it, what is counted, and
-- why it may stop.
use Rattle.std.proofs.Common.{◌≡◌, ℕ, List, [], ◌⊎◌, inl, inr, refl, sym, subst, append-nil, ◌≢◌, ◌+◌, ◌-◌, ◌^◌, ◌<◌, ◌≤◌, ◌∷◌, ◌++◌, T, ap, ◌∙◌, to_z, of_z, w64, arith}
use Rattle.std.specs.Prelude.{map, None, Result, Ok, Err, IfErr, ℤ, pos, nat_abs}
use Rattle.std.proofs.lemmas.List.{map-append}
use Rattle.rob_cert.specs.declared.ending.Stop.{Stop}
use Rattle.rob_cert.specs.declared.ending.Stop.TheVariants as route
use Rattle.rob_dualize.specs.Models.{HasModelCause, IsWideIn}
use Rattle.rob_meaning.specs.Certificates.{Certificate, Status, optimal, infeasible, unbounded}
use Rattle.rob_meaning.specs.Proves.{Proves, ProvesAs}
use Rattle.rob_meaning.specs.RobustModel.{RobustModel}
use Rattle.rob_number.proofs.CountLemmas.{later, rise_later}
use Rattle.rob_meaning.specs.WellFormed.{IsModel}
use Rattle.rob_number.proofs.CastLemmas.{seen}
use Rattle.rob_number.specs.Counts.{NeverFell}
use Rattle.rob_reach.proofs.BoxLemmas.{admits_in}
use Rattle.rob_reach.proofs.RangeLemmas.{bounded_in, changes_bounded}
use Rattle.rob_reach.proofs.RuleLemmas.{rules_kept}
use Rattle.rob_reach.proofs.SplitLemmas.{product_positive}
use Rattle.rob_reach.specs.Boxes as boxes
use Rattle.rob_reach.specs.Growing.{IsAllowed, Search, Visits, branches, outcome, start}
use Rattle.rob_reach.specs.Ranges.{KeepsBothBounds, is_bounded, product_of_ranges, whole_rule}
use Rattle.rob_reach.specs.Trees.{IsIn}
use Rattle.rob_tree.specs.View.{branch_of}
use Rattle.rob_tree.specs.declared.error.TreeStop.{TreeStop}
use Rattle.rob_tree.specs.declared.tree.Branch.{Branch}
use Rattle.rob_tree.specs.declared.error.TreeStop.TheVariants.{Rule, EmptySet, Wide, Memory}
use Rattle.rob_dualize.specs.Solving.{HasScenario, IsSolution}
use Rattle.rob_branch.specs.Growth.{CountsGrowth, HasCause, HasCauseBehind, IsWrittenUpTo, RoseIfWide, TellsStop, is_wide, CanGrow, IsBranchedAt, IsSolvedBy, MayGrow}
use Rattle.rob_branch.proofs.GrowthLemmas.{falls_behind}
use Rattle.rob_elab.specs.Written.{IsWritten}

-- the scenario of a certificate that proves is admitted
pub scenario_of : (m : RobustModel) (c : Certificate) → Proves m c → HasScenario m
scenario_of m c h = by c.status h
  where
    by : (s : Status) → ProvesAs s m c → HasScenario m
    by optimal h = (c.inside, h.inside)
    by infeasible h = (c.inside, h.inside)
    by unbounded h = (c.inside, h.inside)

-- a branch that is allowed is on a named variable
pub allowed_named : (m : RobustModel) (names : List ℕ) (b : boxes.Branch) → IsAllowed m names b → IsIn b.variable names
allowed_named m names b h = by h.side
  where
    by : (b ≡ boxes.at_most_branch h.variable h.k) ⊎ (b ≡ boxes.at_least_branch h.variable h.k) → IsIn b.variable names
    by (inl e) = subst (λ (b : boxes.Branch). IsIn b.variable names) (sym e) h.allows.named
    by (inr e) = subst (λ (b : boxes.Branch). IsIn b.variable names) (sym e) h.allows.named

-- ---- what is asked
-- the search has room for a leaf
pub one_free : {m : RobustModel} {names : List ℕ} {before : Search} → CanGrow m names before → before.count < 1000
one_free {m = m} {names = names} h = omega (arith, h.few, product_positive m.variables names)

-- the root can grow, where no rule is broken
pub root_grows : (m : RobustModel) (names : List ℕ) (before : Search) → before ≡ start → whole_rule m names ≡ None
    → CanGrow m names before
root_grows m names before e kept =
    let rules = (rules_kept m names).0 kept in
    let none : before.count ≡ 0 = ap (λ (s : Search). s.count) e in
    record { bounded = rules.0; few = omega (arith, none, rules.1) }

-- what solving a box answers is what is asked of its certificate
pub solved_by : (limit : ℕ) {m : RobustModel} {c : Certificate} → IsSolution m c → IsWritten limit m
    → IsSolvedBy limit m c
solved_by limit h written = record { proves = h.proves; shape = h.shape; written = written }

-- a box whose certificate asks for a branch at K is branched there, and so at K as it is read
pub branched_at : {limit : ℕ} {m : RobustModel} {c : Certificate} (names : List ℕ) (before : Search) (column : ℕ)
    (k : ℤ) → limit ≤ 2 ^ 62 - 1
    → before.endless ≡ None → IsSolvedBy limit m c → outcome names m.sense before c ≡ branches column k
    → (nat_abs k ≤ limit) × (k ≢ pos limit) → IsBranchedAt limit m names before column (to_z w64 (of_z w64 k))
branched_at {limit = limit} {m = m} {c = c} names before column k high going solved decides fits =
    let size : nat_abs k ≤ limit = fits.0 in
    subst (IsBranchedAt limit m names before column) (sym (seen k (omega arith))) record {
      decides = (c, record { going = going; proves = solved.proves; decides = decides });
      within = fits;
      written = solved.written;
    }

-- a box that is branched admits a scenario
pub branched_admits : {limit : ℕ} {m : RobustModel} {names : List ℕ} {before : Search} {column : ℕ} {k : ℤ}
    → IsBranchedAt limit m names before column k → HasScenario m
branched_admits {m = m} h = scenario_of m h.decides.0 h.decides.1.proves

-- the variable of a branch that may grow has both bounds
pub may_bounded : {limit : ℕ} {m : RobustModel} {names : List ℕ} {count : ℕ} {b : boxes.Branch}
    → MayGrow limit m names count b → KeepsBothBounds m names → T (is_bounded m.variables b.variable)
may_bounded {m = m} {names = names} {b = b} h bounded =
    bounded_in m.variables names b.variable (allowed_named m names b h.allowed) bounded

-- the box behind such a branch, told otherwise, has a lesser product of ranges, can grow, and admits a scenario
pub side_grows : {limit : ℕ} {m side : RobustModel} {names : List ℕ} {b : boxes.Branch} (before : Search)
    → MayGrow limit m names before.count b → side ≡ boxes.behind m b → IsModel m → KeepsBothBounds m names
    → HasScenario m → (product_of_ranges side.variables names < product_of_ranges m.variables names)
    × CanGrow side names before × HasScenario side
side_grows {m = m} {names = names} {b = b} before may tight model bounded some =
    let P : RobustModel → Type 0 =
    λ (n : RobustModel). (product_of_ranges n.variables names < product_of_ranges m.variables names)
    × CanGrow n names before × HasScenario n
    in
    subst P (sym tight) (
      falls_behind m model names bounded b may.allowed,
      record { bounded = changes_bounded b.is_upper b.bound b.variable m.variables names bounded; few = may.few },
      (some.0, admits_in m b some.0 some.1),
    )

-- ---- what a search counts
pub counts_behind : {S T : Type 0} (ops wides : S → ℕ) (old mid now : S) (r : Result T TreeStop)
    → NeverFell ops wides old mid → CountsGrowth ops wides mid now r
    → CountsGrowth ops wides old now r
counts_behind {T = T} ops wides old mid now r h g = record {
  never_fell = later h g.never_fell;
  refused = by r g.refused;
}
  where
    by : (r : Result T TreeStop) → IfErr r (RoseIfWide (wides mid) (wides now))
        → IfErr r (RoseIfWide (wides old) (wides now))
    by (Ok x) k = tt
    by (Err e) k = rise_later (is_wide e) (wides old) (wides mid) (wides now) h.wides k

-- ---- causes
-- a cause of a box stays one where the box is told otherwise, and its path as that of the box before it with a branch
pub cause_told : {T : Type 0} (limit : ℕ) {told box : RobustModel} (names : List ℕ) (before : Search)
    (back path : List Branch) (b : Branch) (r : Result T TreeStop)
    → told ≡ box → back ≡ path ++ b ∷ [] → IfErr r (HasCauseBehind limit told names before (map branch_of back))
    → IfErr r (HasCauseBehind limit box names before (map branch_of path ++ branch_of b ∷ []))
cause_told limit {box = box} names before back path b r e f h =
    subst (λ front. IfErr r (HasCauseBehind limit box names before front))
    (ap (map branch_of) f ∙ map-append branch_of path (b ∷ []))
    (subst (λ (m : RobustModel). IfErr r (HasCauseBehind limit m names before (map branch_of back))) e h)

-- the stop of a box that has a scenario is a cause behind it
pub cause_here : (limit : ℕ) (m : RobustModel) (names : List ℕ) (before : Search) (path : List Branch) (stop : Stop)
    (told : TreeStop) → before.endless ≡ None
    → HasScenario m → HasModelCause limit m stop → TellsStop path stop told
    → HasCauseBehind limit m names before (map branch_of path) told
cause_here limit m names before path (route.EmptySet weights) told going some h e =
    absurd (h.1.shown.empty some.0 some.1)
cause_here limit m names before path (route.Wide spot trace) told going some h (inl e) =
    subst (HasCauseBehind limit m names before (map branch_of path)) (sym e)
    ([], sym (append-nil (map branch_of path)), (before, (going, refl)), tt, h.0)
cause_here limit m names before path (route.Wide spot trace) told going some h (inr e) =
    subst (HasCauseBehind limit m names before (map branch_of path)) (sym e) tt
cause_here limit m names before path route.Memory told going some h e =
    subst (HasCauseBehind limit m names before (map branch_of path)) (sym e) tt

-- the stop of the root's box is a cause
pub cause_at_root : (limit : ℕ) (m : RobustModel) (names : List ℕ) (stop : Stop) (told : TreeStop)
    → HasModelCause limit m stop → TellsStop [] stop told
    → HasCause limit m names told
cause_at_root limit m names (route.EmptySet weights) told h e = subst (HasCause limit m names) (sym e) h
cause_at_root limit m names (route.Wide spot trace) told h (inl e) =
    subst (HasCause limit m names) (sym e) ((start, (refl, refl)), tt, h.0)
cause_at_root limit m names (route.Wide spot trace) told h (inr e) = subst (HasCause limit m names) (sym e) tt
cause_at_root limit m names route.Memory told h e = subst (HasCause limit m names) (sym e) tt

-- and so is one behind it
pub cause_of_root : (limit : ℕ) (m : RobustModel) (names : List ℕ) (stop : TreeStop)
    → HasCauseBehind limit m names start [] stop → HasCause limit m names stop
cause_of_root limit m names (Rule rule) h = absurd h
cause_of_root limit m names (EmptySet weights) h = absurd h
cause_of_root limit m names (Wide path spot) h =
    subst (λ path. Visits m names start path × IsWrittenUpTo limit m path × IsWideIn limit (boxes.box m path) spot)
    (sym h.1) (h.2, h.3, h.4)
cause_of_root limit m names Memory h = tt
