-- No list and no budget has a parameter twice.
use Rattle.std.proofs.Common.{Bool, ◌≡◌, ◌≢◌, ℕ, zero, suc, ◌<◌, ◌⊎◌, inl, inr, true, false, List, [], ◌∷◌, ◌++◌, map, get_or, set, refl, sym, ap, ◌∙◌, subst, arith}
use Rattle.std.specs.Prelude.{◌&&◌, ◌==◌, Option, Some, None, is_some}
use Rattle.std.specs.List.{list_any, flat_map}
use Rattle.std.proofs.lemmas.Bool.Decides.{nat_tests}
use Rattle.rob_meaning.specs.Named.{AreDistinct}
use Rattle.rob_meaning.specs.Places.{Each}
use Rattle.rob_meaning.specs.RobustModel as model
use Rattle.rob_rules.specs.declared.sort.Sort.{Sort}
use Rattle.rob_rules.specs.declared.sort.Sort.TheVariants as sort
use Rattle.rob_rules.specs.declared.sort.Sort.TheVariants.{Parameter, Decision, Policy, RowName}
use Rattle.rob_rules.specs.declared.fault.Fault.TheVariants.{NoObjective}
use Rattle.rob_rules.specs.declared.leaf.Leaf.{Leaf}
use Rattle.rob_rules.specs.declared.leaf.Leaf.TheVariants.{Name, Number}
use Rattle.rob_rules.specs.Leaves.{bound_leaves, member_leaves, statement_leaves}
use Rattle.rob_syntax.specs.declared.syntax.Member.{Member}
use Rattle.rob_syntax.specs.declared.syntax.Statement.{Statement}
use Rattle.rob_syntax.specs.declared.syntax.Statement.TheVariants as parsed
use Rattle.rob_rules.specs.Degrees.{sort_at}
use Rattle.rob_rules.specs.Faults.{is_of_set, is_listing, is_name, is_unknown, is_usable, is_decision, names_decision, has_twice, has_fault, in_order, first_fault, is_declared}
use Rattle.rob_parse.specs.Written.{parameter_number, parameter_at, member, adaptives}
use Rattle.rob_rules.specs.Chains.{Chain}
use Rattle.rob_rules.specs.Links.{Keeps}
use Rattle.rob_rules.specs.Scopes.{Earlier, behind, start, declared_by, declare}
use Rattle.rob_rules.proofs.Judging.ReadingLemmas.{none_found, true_of_not}
use Rattle.rob_rules.proofs.Joining.GrowingLemmas.{nothing_at}
use Rattle.rob_parse.proofs.Names.SortLemmas.{Names, set_cases, is_new, kept_behind, AllNamed, named_behind}
use Rattle.rob_parse.proofs.Degrees.UsedLemmas.{Free, IsFreeName, left, tail, free_list, free_members}
use Rattle.std.proofs.lemmas.Bool.{or_parts}
use Rattle.rob_index.proofs.Names.NamingLemmas.{none_both}

-- ---- names that stand once
abbrev Once : List Leaf → Type 0
Once ls = has_twice ls ≡ false

other : (k j : ℕ) → (k == j) ≡ false → k ≢ j
other k j h e = grind (arith, nat_tests)

others : (k : ℕ) (js : List ℕ) → Each (IsFreeName (is_name k)) js → Each (λ j. k ≢ j) js
others k [] h = tt
others k (j ∷ js) h = (other k j h.0, others k js h.1)

list_once : (on : List ℕ) (rest : List Leaf) → Once (map Name on ++ rest) → AreDistinct on
list_once [] rest h = tt
list_once (k ∷ on) rest h =
    let b = or_parts (list_any (is_name k) (map Name on ++ rest)) (has_twice (map Name on ++ rest)) h in
    (others k on (free_list (is_name k) on (none_both (is_name k) (map Name on) rest b.0).0), list_once on rest b.1)

other_members : (k : ℕ) (ms : List Member) → Each (λ (h : Member). IsFreeName (is_name k) h.name) ms
    → Each (λ j. k ≢ j) (map (λ (h : Member). h.name) ms)
other_members k [] h = tt
other_members k (m ∷ ms) h = (other k m.name h.0, other_members k ms h.1)

members_once : (ms : List Member) → Once (flat_map member_leaves ms) → AreDistinct (map (λ (h : Member). h.name) ms)
members_once [] h = tt
members_once (m ∷ ms) h =
    let b =
    or_parts (list_any (is_name m.name) (flat_map member_leaves ms)) (has_twice (flat_map member_leaves ms)) h in
    (other_members m.name ms (free_members (is_name m.name) ms b.0), members_once ms b.1)

-- ---- two names of parameters have two numbers
abbrev pub IsInjective : List (Option Sort) → Type 0
IsInjective sorts = (j k n : ℕ) → sort_at sorts j ≡ Some (Parameter n) → sort_at sorts k ≡ Some (Parameter n) → j ≡ k

set_where : (sorts : List (Option Sort)) (i k : ℕ) (v : Sort) → (k ≡ i)
    ⊎ (sort_at (set sorts i (Some v)) k ≡ sort_at sorts k)
set_where [] i k v = inr refl
set_where (o ∷ sorts) zero zero v = inl refl
set_where (o ∷ sorts) zero (suc k) v = inr refl
set_where (o ∷ sorts) (suc i) zero v = inr refl
set_where (o ∷ sorts) (suc i) (suc k) v = go (set_where sorts i k v)
  where
    go : (k ≡ i) ⊎ (sort_at (set sorts i (Some v)) k ≡ sort_at sorts k) → (suc k ≡ suc i)
        ⊎ (sort_at (set sorts i (Some v)) k ≡ sort_at sorts k)
    go (inl e) = inl (ap suc e)
    go (inr e) = inr e

module _ (sorts : List (Option Sort)) (i : ℕ) (v : Sort) (bound : ℕ)
    (below : (k n : ℕ) → sort_at sorts k ≡ Some (Parameter n) → n < bound) (fresh : is_some (sort_at sorts i) ≡ false)
    (numbered : (n : ℕ) → v ≡ Parameter n → n ≡ bound) where
  -- the written name has a number that no other has
  not_both : (k n : ℕ) → sort_at (set sorts i (Some v)) i ≡ Some (Parameter n) → sort_at sorts k ≡ Some (Parameter n)
      → ⊥
  not_both k n new old = go (set_cases sorts i i v)
    where
      go : (sort_at (set sorts i (Some v)) i ≡ Some v) ⊎ (sort_at (set sorts i (Some v)) i ≡ sort_at sorts i) → ⊥
      go (inl e) = let same : v ≡ Parameter n = cc in let is = numbered n same in let h = below k n old in omega arith
      go (inr e) = let some : is_some (sort_at sorts i) ≡ true = ap is_some (sym e ∙ new) in cc

  injective_set : IsInjective sorts → IsInjective (set sorts i (Some v))
  injective_set inj j k n a b = go (set_where sorts i j v) (set_where sorts i k v)
    where
      go : (j ≡ i) ⊎ (sort_at (set sorts i (Some v)) j ≡ sort_at sorts j) → (k ≡ i)
          ⊎ (sort_at (set sorts i (Some v)) k ≡ sort_at sorts k) → j ≡ k
      go (inl p) (inl q) = p ∙ sym q
      go (inl p) (inr q) =
          absurd (not_both k n (subst (λ (x : ℕ). sort_at (set sorts i (Some v)) x ≡ Some (Parameter n)) p a)
          (sym q ∙ b))
      go (inr p) (inl q) =
          absurd (not_both j n (subst (λ (x : ℕ). sort_at (set sorts i (Some v)) x ≡ Some (Parameter n)) q b)
          (sym p ∙ a))
      go (inr p) (inr q) = inj j k n (sym p ∙ a) (sym q ∙ b)

module _ (limit : ℕ) (words : List (List ℕ)) (sorts : List (Option Sort)) where
  below_all : (e : Earlier) (ys : List model.AdaptiveVariable) → AllNamed e ys → (k n : ℕ)
      → sort_at e.sorts k ≡ Some (Parameter n) → n < e.sizes.parameters
  below_all e ys all k n is = subst (Names e.sizes.parameters e.sizes.variables ys) is (all.1 k)

  injective_behind : (e : Earlier) (s : Statement) (ys : List model.AdaptiveVariable) → AllNamed e ys
      → is_declared e.sorts (declared_by e.sizes s) ≡ false → IsInjective e.sorts
      → IsInjective (declare e.sorts (declared_by e.sizes s))
  injective_behind e (parsed.Uncertain d) ys all fresh inj =
      injective_set e.sorts d.name (Parameter e.sizes.parameters) e.sizes.parameters (below_all e ys all) fresh
      (λ n same. cc) inj
  injective_behind e (parsed.Var d) ys all fresh inj =
      injective_set e.sorts d.name _ e.sizes.parameters (below_all e ys all) fresh (λ n same. cc) inj
  injective_behind e (parsed.Adaptive p) ys all fresh inj =
      injective_set e.sorts p.name _ e.sizes.parameters (below_all e ys all) fresh (λ n same. cc) inj
  injective_behind e (parsed.Row r) ys all fresh inj =
      injective_set e.sorts r.name _ e.sizes.parameters (below_all e ys all) fresh (λ n same. cc) inj
  injective_behind e (parsed.Over k) ys all fresh inj =
      injective_set e.sorts k _ e.sizes.parameters (below_all e ys all) fresh (λ n same. cc) inj
  injective_behind e (parsed.Set r) ys all fresh inj = inj
  injective_behind e (parsed.Budget b) ys all fresh inj = inj
  injective_behind e (parsed.Goal g) ys all fresh inj = inj

  pub injective : (e : Earlier) (list : List Statement) (f : Earlier) (ys : List model.AdaptiveVariable)
      → Chain limit words e list f → AllNamed e ys → IsInjective e.sorts → IsInjective f.sorts
  injective e [] f ys chain all inj = subst (λ (x : Earlier). IsInjective x.sorts) chain inj
  injective e (s ∷ list) f ys chain all inj =
      injective (behind e s) list f (ys ++ adaptives words sorts s) chain.1 (named_behind words sorts e s ys all)
      (injective_behind e s ys all (is_new limit chain.0.before e s chain.0.faultless) inj)

pub injective_start : (n : ℕ) → IsInjective (start n).sorts
injective_start n j k m a b = let p = nothing_at n j in cc

-- ---- the numbers of different parameters are different
abbrev IsParameter : List (Option Sort) → ℕ → Type 0
IsParameter sorts k = (n : ℕ) × (sort_at sorts k ≡ Some (Parameter n))

module _ (sorts : List (Option Sort)) (inj : IsInjective sorts) where
  two_numbers : (j k : ℕ) → IsParameter sorts j → IsParameter sorts k → j ≢ k
      → parameter_at sorts j ≢ parameter_at sorts k
  two_numbers j k a b apart same =
      let p : parameter_at sorts j ≡ a.0 = ap parameter_number a.1 in
      let q : parameter_at sorts k ≡ b.0 = ap parameter_number b.1 in
      apart (inj j k a.0 a.1 (b.1 ∙ ap (λ (n : ℕ). Some (Parameter n)) (sym q ∙ sym same ∙ p)))

  others_apart : (k : ℕ) (js : List ℕ) → IsParameter sorts k → Each (IsParameter sorts) js → Each (λ j. k ≢ j) js
      → Each (λ n. parameter_at sorts k ≢ n) (map (parameter_at sorts) js)
  others_apart k [] a b d = tt
  others_apart k (j ∷ js) a b d = (two_numbers k j a b.0 d.0, others_apart k js a b.1 d.1)

  numbers_distinct : (on : List ℕ) → Each (IsParameter sorts) on → AreDistinct on
      → AreDistinct (map (parameter_at sorts) on)
  numbers_distinct [] a d = tt
  numbers_distinct (k ∷ on) a d = (others_apart k on a.0 a.1 d.0, numbers_distinct on a.1 d.1)

members_numbers : (sorts : List (Option Sort)) (ms : List Member)
    → map (λ (h : model.Member). h.parameter) (map (member sorts) ms) ≡ map (parameter_at sorts)
    (map (λ (h : Member). h.name) ms)
members_numbers sorts [] = refl
members_numbers sorts (m ∷ ms) = ap (λ (l : List ℕ). parameter_at sorts m.name ∷ l) (members_numbers sorts ms)

module _ (limit : ℕ) (f : Earlier) (inj : IsInjective f.sorts) where
  -- a statement has no parameter twice
  abbrev pub IsOnce : Statement → Type 0
  IsOnce (parsed.Adaptive p) = AreDistinct (map (parameter_at f.sorts) p.on)
  IsOnce (parsed.Budget b) = AreDistinct (map (λ (h : model.Member). h.parameter) (map (member f.sorts) b.members))
  IsOnce _ = Unit {0}

  module _ (e : Earlier) (kept : Keeps e f) where
    a_parameter : (k : ℕ) → IsFreeName (is_unknown e.sorts) k → IsFreeName (names_decision e.sorts) k
        → IsParameter f.sorts k
    a_parameter k known undecided = go (sort_at e.sorts k) refl (true_of_not _ known) undecided
      where
        go : (o : Option Sort) → sort_at e.sorts k ≡ o → is_usable o ≡ true → is_decision o ≡ false
            → IsParameter f.sorts k
        go (Some (Parameter n)) is u d = (n, kept k (Parameter n) is)
        go (Some (Decision n)) is u d = cc
        go (Some (Policy n b)) is u d = cc
        go (Some RowName) is u d = cc
        go (Some (sort.Set S)) is u d = cc
        go None is u d = cc

    parameters_of : (on : List ℕ) → Each (IsFreeName (is_unknown e.sorts)) on
        → Each (IsFreeName (names_decision e.sorts)) on → Each (IsParameter f.sorts) on
    parameters_of [] a b = tt
    parameters_of (k ∷ on) a b = (a_parameter k a.0 b.0, parameters_of on a.1 b.1)

    members_of : (ms : List Member) → Each (λ (h : Member). IsFreeName (is_unknown e.sorts) h.name) ms
        → Each (λ (h : Member). IsFreeName (names_decision e.sorts) h.name) ms
        → Each (IsParameter f.sorts) (map (λ (h : Member). h.name) ms)
    members_of [] a b = tt
    members_of (m ∷ ms) a b = (a_parameter m.name a.0 b.0, members_of ms a.1 b.1)

    module _ (now : Earlier) (s : Statement) (clean : first_fault limit e now s ≡ None) where
      free_of : (i : ℕ) → i < 11 → has_fault limit e now s (get_or in_order i NoObjective) ≡ false
      free_of i inside = none_found (has_fault limit e now s) in_order i NoObjective clean inside

      known_in : Free (is_unknown e.sorts) (statement_leaves s)
      known_in = (or_parts (list_any (is_unknown e.sorts) (statement_leaves s)) _ (free_of 1 (omega arith))).0

      undecided_in : is_of_set s ≡ true → Free (names_decision e.sorts) (statement_leaves s)
      undecided_in of_set =
          ap (λ (b : Bool). b && list_any (names_decision e.sorts) (statement_leaves s)) (sym of_set)
          ∙ free_of 7 (omega arith)

      once_in : is_listing s ≡ true → Once (statement_leaves s)
      once_in listing =
          ap (λ (b : Bool). b && has_twice (statement_leaves s)) (sym listing)
          ∙ (or_parts (is_declared now.sorts (declared_by now.sizes s)) _ (free_of 0 (omega arith))).1

    once_statement : (now : Earlier) (s : Statement) → first_fault limit e now s ≡ None → IsOnce s
    once_statement now (parsed.Uncertain d) clean = tt
    once_statement now (parsed.Over k) clean = tt
    once_statement now (parsed.Set r) clean = tt
    once_statement now (parsed.Var d) clean = tt
    once_statement now (parsed.Goal g) clean = tt
    once_statement now (parsed.Row r) clean = tt
    once_statement now (parsed.Budget b) clean =
        let s = parsed.Budget b in
        let names = flat_map member_leaves b.members in
        let unknown = is_unknown e.sorts in
        let decided = names_decision e.sorts in
        let known = free_members unknown b.members (tail unknown (Number b.limit) names (known_in now s clean)) in
        let undecided =
        free_members decided b.members (tail decided (Number b.limit) names (undecided_in now s clean refl)) in
        subst AreDistinct (sym (members_numbers f.sorts b.members))
        (numbers_distinct f.sorts inj (map (λ (h : Member). h.name) b.members) (members_of b.members known undecided)
        (members_once b.members (once_in now s clean refl)))
    once_statement now (parsed.Adaptive p) clean =
        let s = parsed.Adaptive p in
        let names = map Name p.on in
        let rest = bound_leaves p.bounds in
        let unknown = is_unknown e.sorts in
        let decided = names_decision e.sorts in
        let known = free_list unknown p.on (left unknown names rest (known_in now s clean)) in
        let undecided = free_list decided p.on (left decided names rest (undecided_in now s clean refl)) in
        numbers_distinct f.sorts inj p.on (parameters_of p.on known undecided)
        (list_once p.on rest (once_in now s clean refl))

  pub all_once : (words : List (List ℕ)) (e : Earlier) (list : List Statement) → Chain limit words e list f
      → Each IsOnce list
  all_once words e [] chain = tt
  all_once words e (s ∷ list) chain = (
    once_statement chain.0.before (kept_behind limit words e s list f chain) e s chain.0.faultless,
    all_once words (behind e s) list chain.1,
  )
