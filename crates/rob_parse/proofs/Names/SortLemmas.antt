-- What names stand for, from line to line.
use Rattle.std.proofs.Common.{◌≡◌, ℕ, zero, suc, ◌+◌, ◌<◌, ◌≤◌, ◌⊎◌, inl, inr, Bool, false, cond, List, [], ◌∷◌, ◌++◌, length, map, set, refl, sym, ap, ◌∙◌, subst, arith, append_assoc, append-nil, length-append}
use Rattle.std.specs.Prelude.{Option, Some, None}
use Rattle.std.specs.List.{flat_map}
use Rattle.rob_meaning.specs.Degrees.{one_if_some}
use Rattle.rob_meaning.specs.RobustModel.{AdaptiveVariable, list_in}
use Rattle.rob_rules.specs.declared.sort.Sort.{Sort}
use Rattle.rob_rules.specs.declared.sort.Sort.TheVariants as sort
use Rattle.rob_rules.specs.declared.sort.Sort.TheVariants.{Parameter, Decision, Policy, RowName}
use Rattle.rob_rules.specs.declared.size.Sizes.{Sizes}
use Rattle.rob_rules.specs.declared.fault.Fault.TheVariants.{NoObjective}
use Rattle.rob_syntax.specs.declared.syntax.Statement.{Statement}
use Rattle.rob_syntax.specs.declared.syntax.Statement.TheVariants as parsed
use Rattle.rob_rules.specs.Degrees.{sort_at}
use Rattle.rob_rules.specs.Faults.{has_fault, in_order, first_fault, is_declared}
use Rattle.rob_parse.specs.Written.{adaptives, parameter_at, lower_bound, upper_bound, word_of}
use Rattle.rob_rules.specs.Chains.{Chain}
use Rattle.rob_rules.specs.Links.{Keeps}
use Rattle.rob_rules.specs.Scopes.{Earlier, behind, start, has_some, declare, declared_by}
use Rattle.rob_rules.specs.Sizes.{counted}
use Rattle.rob_rules.proofs.Joining.GrowingLemmas.{nothing_at}
use Rattle.rob_rules.proofs.Joining.LinkLemmas.{set_kept}
use Rattle.rob_rules.proofs.Judging.ReadingLemmas.{none_found}
use Rattle.std.proofs.lemmas.Bool.{or_parts}
use Rattle.rob_meaning.proofs.Scenarios.JointScenarioLemmas.{list_in-left}

-- ---- writing one sort
pub set_cases : (sorts : List (Option Sort)) (i k : ℕ) (v : Sort) → (sort_at (set sorts i (Some v)) k ≡ Some v)
    ⊎ (sort_at (set sorts i (Some v)) k ≡ sort_at sorts k)
set_cases [] i k v = inr refl
set_cases (o ∷ sorts) zero zero v = inl refl
set_cases (o ∷ sorts) zero (suc k) v = inr refl
set_cases (o ∷ sorts) (suc i) zero v = inr refl
set_cases (o ∷ sorts) (suc i) (suc k) v = set_cases sorts i k v

-- a name that is declared keeps what it stands for, where the name that is written isn't
pub declare_kept : (sorts : List (Option Sort)) (d : Option (ℕ × Sort)) (k : ℕ) (x : Sort) → is_declared sorts d ≡ false
    → sort_at sorts k ≡ Some x → sort_at (declare sorts d) k ≡ Some x
declare_kept sorts None k x new is = is
declare_kept sorts (Some d) k x new is = set_kept sorts d.0 k d.1 x new is

module _ (limit : ℕ) where
  -- the name that a statement without a fault declares is new
  pub is_new : (before now : Earlier) (s : Statement) → first_fault limit before now s ≡ None
      → is_declared now.sorts (declared_by now.sizes s) ≡ false
  is_new before now s clean =
      (or_parts _ _ (none_found (has_fault limit before now s) in_order 0 NoObjective clean (omega arith))).0

  -- so a name keeps what it stands for
  pub stays : (words : List (List ℕ)) (e : Earlier) (list : List Statement) (f : Earlier) → Chain limit words e list f
      → Keeps e f
  stays words e [] f chain k x is = ap (λ (a : Earlier). sort_at a.sorts k) (sym chain) ∙ is
  stays words e (s ∷ list) f chain k x is =
      stays words (behind e s) list f chain.1 k x
      (declare_kept e.sorts (declared_by e.sizes s) k x (is_new chain.0.before e s chain.0.faultless) is)

  -- what is known in front of a statement's line is known at the end
  pub kept_behind : (words : List (List ℕ)) (e : Earlier) (s : Statement) (list : List Statement) (f : Earlier)
      → (chain : Chain limit words e (s ∷ list) f) → Keeps chain.0.before f
  kept_behind words e s list f chain k x is = stays words e (s ∷ list) f chain k x (chain.0.keeps k x is)

-- ---- numbers name what is counted
-- 1 where an adaptive variable depends on a parameter
abbrev pub depends_by : Bool → ℕ
depends_by d = cond d 1 0

abbrev pub Names : ℕ → ℕ → List AdaptiveVariable → Option Sort → Type 0
Names parameters variables ys (Some (Parameter j)) = j < parameters
Names parameters variables ys (Some (Decision j)) = j < variables
Names parameters variables ys (Some (Policy j d)) = (j < length ys) × (one_if_some (list_in ys j) ≡ depends_by d)
Names parameters variables ys (Some RowName) = Unit {0}
Names parameters variables ys (Some (sort.Set S)) = Unit {0}
Names parameters variables ys None = Unit {0}

list_last : (ys : List AdaptiveVariable) (z : AdaptiveVariable) → list_in (ys ++ z ∷ []) (length ys) ≡ z.on
list_last [] z = refl
list_last (y ∷ ys) z = list_last ys z

names_more : (p q v w : ℕ) (ys zs : List AdaptiveVariable) (o : Option Sort) → p ≤ q → v ≤ w → Names p v ys o
    → Names q w (ys ++ zs) o
names_more p q v w ys zs (Some (Parameter j)) a b h = omega arith
names_more p q v w ys zs (Some (Decision j)) a b h = omega arith
names_more p q v w ys zs (Some (Policy j d)) a b h =
    (omega (arith, h.0, length-append ys zs), ap one_if_some (list_in-left ys zs j h.0) ∙ h.1)
names_more p q v w ys zs (Some RowName) a b h = tt
names_more p q v w ys zs (Some (sort.Set S)) a b h = tt
names_more p q v w ys zs None a b h = tt

-- what each word stands for names what is counted so far
abbrev pub AllNamed : Earlier → List AdaptiveVariable → Type 0
AllNamed e ys =
    (length ys ≡ e.sizes.adaptives) × ((k : ℕ) → Names e.sizes.parameters e.sizes.variables ys (sort_at e.sorts k))

depends_is : (sorts : List (Option Sort)) (on : List ℕ)
    → one_if_some (map (parameter_at sorts) on) ≡ depends_by (has_some on)
depends_is sorts [] = refl
depends_is sorts (k ∷ on) = refl

module _ (words : List (List ℕ)) (sorts : List (Option Sort)) where
  -- one name more
  one_named : (e : Earlier) (s : Statement) (ys : List AdaptiveVariable) (i : ℕ) (v : Sort) (n : Sizes)
      → n ≡ counted e.sizes s → AllNamed e ys
      → e.sizes.parameters ≤ n.parameters → e.sizes.variables ≤ n.variables
      → Names n.parameters n.variables (ys ++ adaptives words sorts s) (Some v)
      → (k : ℕ) → Names n.parameters n.variables (ys ++ adaptives words sorts s) (sort_at (set e.sorts i (Some v)) k)
  one_named e s ys i v n is all p q new k = either (set_cases e.sorts i k v)
    where
      either : (sort_at (set e.sorts i (Some v)) k ≡ Some v) ⊎ (sort_at (set e.sorts i (Some v)) k ≡ sort_at e.sorts k)
          → Names n.parameters n.variables (ys ++ adaptives words sorts s) (sort_at (set e.sorts i (Some v)) k)
      either (inl h) = subst (Names n.parameters n.variables (ys ++ adaptives words sorts s)) (sym h) new
      either (inr h) =
          subst (Names n.parameters n.variables (ys ++ adaptives words sorts s)) (sym h)
          (names_more e.sizes.parameters n.parameters e.sizes.variables n.variables ys (adaptives words sorts s)
          (sort_at e.sorts k) p q (all.1 k))

  pub named_behind : (e : Earlier) (s : Statement) (ys : List AdaptiveVariable) → AllNamed e ys
      → AllNamed (behind e s) (ys ++ adaptives words sorts s)
  named_behind e (parsed.Uncertain d) ys all = (
    ap length (append-nil ys)
        ∙ all.0,
    one_named e (parsed.Uncertain d) ys d.name (Parameter e.sizes.parameters) _ refl all (omega arith)
        (omega arith) (omega arith),
  )
  named_behind e (parsed.Var d) ys all = (
    ap length (append-nil ys)
        ∙ all.0,
    one_named e (parsed.Var d) ys d.name (Decision e.sizes.variables) _ refl all (omega arith) (omega arith)
        (omega arith),
  )
  named_behind e (parsed.Adaptive p) ys all =
      let y : AdaptiveVariable =
      record {
        name = word_of words p.name;
        on = map (parameter_at sorts) p.on;
        lower = lower_bound p.bounds;
        upper =
            upper_bound p.bounds;
      } in
      let count : length (ys ++ y ∷ []) ≡ e.sizes.adaptives + 1 =
      length-append ys (y ∷ []) ∙ ap (λ (n : ℕ). n + 1) all.0 in (
        count,
        one_named e (parsed.Adaptive p) ys p.name (Policy e.sizes.adaptives (has_some p.on)) _ refl all (omega arith)
            (omega arith) (
              omega (arith, count),
              ap (λ (j : ℕ). one_if_some (list_in (ys ++ y ∷ []) j)) (sym all.0)
                  ∙ ap one_if_some (list_last ys y) ∙ depends_is sorts p.on,
            ),
      )
  named_behind e (parsed.Row r) ys all = (
    ap length (append-nil ys)
        ∙ all.0,
    one_named e (parsed.Row r) ys r.name RowName _ refl all (omega arith) (omega arith) tt,
  )
  named_behind e (parsed.Over k) ys all = (
    ap length (append-nil ys)
        ∙ all.0,
    one_named e (parsed.Over k) ys k (sort.Set (e.sizes.sets + 1)) _ refl all (omega arith) (omega arith) tt,
  )
  named_behind e (parsed.Set r) ys all = subst (AllNamed e) (sym (append-nil ys)) all
  named_behind e (parsed.Budget b) ys all = subst (AllNamed e) (sym (append-nil ys)) all
  named_behind e (parsed.Goal g) ys all = subst (AllNamed e) (sym (append-nil ys)) all

  pub all_named : (limit : ℕ) (e : Earlier) (list : List Statement) (f : Earlier) (ys : List AdaptiveVariable)
      → Chain limit words e list f → AllNamed e ys → AllNamed f (ys ++ flat_map (adaptives words sorts) list)
  all_named limit e [] f ys chain all =
      subst (λ (x : Earlier). AllNamed x (ys ++ [])) chain (subst (AllNamed e) (sym (append-nil ys)) all)
  all_named limit e (s ∷ list) f ys chain all =
      subst (AllNamed f) (append_assoc ys (adaptives words sorts s) (flat_map (adaptives words sorts) list))
      (all_named limit (behind e s) list f (ys ++ adaptives words sorts s) chain.1 (named_behind e s ys all))

-- in front of the first line
pub none_named : (n : ℕ) → AllNamed (start n) []
none_named n = (refl, λ k. subst (Names 0 0 []) (sym (nothing_at n k)) tt)
