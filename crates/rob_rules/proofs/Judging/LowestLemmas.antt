-- The lowest fault of the statements of a line, statement by statement.
use Rattle.std.proofs.Common.{◌≡◌, ℕ, ◌+◌, ◌<◌, ◌≤◌, Bool, true, false, cond, List, [], ◌∷◌, length, drop, get_or, Option, Some, None, refl, sym, ap, ◌∙◌, subst, arith}
use Rattle.std.specs.Prelude.{◌||◌, ◌&&◌, nat_lt, if◌then◌else◌}
use Rattle.std.specs.List.{find}
use Rattle.std.proofs.lemmas.Bool.{and_parts, lt-ltb, le-ltb, ltb-true, ltb-false}
use Rattle.std.proofs.lemmas.List.{drop_more, drop_all}
use Rattle.rob_syntax.specs.declared.syntax.Statement.{Statement}
use Rattle.rob_rules.specs.declared.fault.Fault.{Fault}
use Rattle.rob_rules.specs.declared.size.Sizes.{Sizes}
use Rattle.rob_rules.specs.Faults.{has_fault, in_order, rule_of, first_fault}
use Rattle.rob_rules.specs.Scopes.{Earlier, behind, declared_by}
use Rattle.rob_rules.specs.Sizes.{IsSmall}
use Rattle.rob_rules.specs.Stages.{some_has, lowest_fault, lower_of, behind_all, declare_all, mark_declared, LeaveRoom}

-- ---- the lower of two
pub lower_none : (o : Option Fault) → lower_of o None ≡ o
lower_none None = refl
lower_none (Some f) = refl

lower_three : (f g h : Fault) (p q : Bool) → nat_lt (rule_of g) (rule_of f) ≡ p → nat_lt (rule_of h) (rule_of g) ≡ q
    → lower_of (if p then Some g else Some f) (Some h) ≡ lower_of (Some f) (if q then Some h else Some g)
lower_three f g h true true is_p is_q =
    let a = ltb-true (rule_of g) (rule_of f) is_p in
    let b = ltb-true (rule_of h) (rule_of g) is_q in
    ap (λ (b : Bool). if b then Some h else Some g) is_q
    ∙ sym (ap (λ (b : Bool). if b then Some h else Some f) (lt-ltb (rule_of h) (rule_of f) (omega (arith, a, b))))
lower_three f g h true false is_p is_q =
    ap (λ (b : Bool). if b then Some h else Some g) is_q ∙ sym (ap (λ (b : Bool). if b then Some g else Some f) is_p)
lower_three f g h false true is_p is_q = refl
lower_three f g h false false is_p is_q =
    let a = ltb-false (rule_of g) (rule_of f) is_p in
    let b = ltb-false (rule_of h) (rule_of g) is_q in
    ap (λ (b : Bool). if b then Some h else Some f) (le-ltb (rule_of h) (rule_of f) (omega (arith, a, b)))
    ∙ sym (ap (λ (b : Bool). if b then Some g else Some f) is_p)

pub lower_assoc : (a b c : Option Fault) → lower_of (lower_of a b) c ≡ lower_of a (lower_of b c)
lower_assoc None b c = refl
lower_assoc (Some f) None c = refl
lower_assoc (Some f) (Some g) None = lower_none (lower_of (Some f) (Some g))
lower_assoc (Some f) (Some g) (Some h) =
    lower_three f g h (nat_lt (rule_of g) (rule_of f)) (nat_lt (rule_of h) (rule_of g)) refl refl

-- ---- a search for either of two
-- the number is below that of each fault's rule
abbrev are_above : ℕ → List Fault → Bool
are_above n [] = true
are_above n (f ∷ fs) = nat_lt n (rule_of f) && are_above n fs

-- each fault's rule has a lower number than those behind it
abbrev is_rising : List Fault → Bool
is_rising [] = true
is_rising (f ∷ fs) = are_above (rule_of f) fs && is_rising fs

-- what is found behind a fault is higher
found_behind : (q : Fault → Bool) (f : Fault) (fs : List Fault) → are_above (rule_of f) fs ≡ true
    → lower_of (Some f) (find q fs) ≡ Some f
found_behind q f [] above = refl
found_behind q f (g ∷ fs) above =
    let parts = and_parts (nat_lt (rule_of f) (rule_of g)) (are_above (rule_of f) fs) above in
    go (found_behind q f fs parts.1) (ltb-true (rule_of f) (rule_of g) parts.0) (q g)
  where
    go : lower_of (Some f) (find q fs) ≡ Some f → rule_of f < rule_of g → (b : Bool)
        → lower_of (Some f) (cond b (Some g) (find q fs)) ≡ Some f
    go more l true = ap (λ (b : Bool). if b then Some g else Some f) (le-ltb (rule_of g) (rule_of f) (omega (arith, l)))
    go more l false = more

found_in_front : (q : Fault → Bool) (f : Fault) (fs : List Fault) → are_above (rule_of f) fs ≡ true
    → lower_of (find q fs) (Some f) ≡ Some f
found_in_front q f [] above = refl
found_in_front q f (g ∷ fs) above =
    let parts = and_parts (nat_lt (rule_of f) (rule_of g)) (are_above (rule_of f) fs) above in
    go (found_in_front q f fs parts.1) (ltb-true (rule_of f) (rule_of g) parts.0) (q g)
  where
    go : lower_of (find q fs) (Some f) ≡ Some f → rule_of f < rule_of g → (b : Bool)
        → lower_of (cond b (Some g) (find q fs)) (Some f) ≡ Some f
    go more l true = ap (λ (b : Bool). if b then Some f else Some g) (lt-ltb (rule_of f) (rule_of g) l)
    go more l false = more

-- what passes either test first is the lower of what passes each first
find_either : (p q : Fault → Bool) (fs : List Fault) → is_rising fs ≡ true
    → find (λ f. p f || q f) fs ≡ lower_of (find p fs) (find q fs)
find_either p q [] rising = refl
find_either p q (f ∷ fs) rising =
    let parts = and_parts (are_above (rule_of f) fs) (is_rising fs) rising in
    go (find_either p q fs parts.1) parts.0 (p f) (q f)
  where
    go : find (λ f. p f || q f) fs ≡ lower_of (find p fs) (find q fs) → are_above (rule_of f) fs ≡ true → (a b : Bool)
        → cond (a || b) (Some f) (find (λ f. p f || q f) fs)
        ≡ lower_of (cond a (Some f) (find p fs)) (cond b (Some f) (find q fs))
    go more above true true =
        sym (ap (λ (b : Bool). if b then Some f else Some f) (le-ltb (rule_of f) (rule_of f) (omega arith)))
    go more above true false = sym (found_behind q f fs above)
    go more above false true = sym (found_in_front p f fs above)
    go more above false false = more

-- ---- statement by statement
lowest_step : (limit : ℕ) (before now : Earlier) (s : Statement) (list : List Statement)
    → lowest_fault limit before now (s ∷ list)
    ≡ lower_of (first_fault limit before now s) (lowest_fault limit before (behind now s) list)
lowest_step limit before now s list =
    find_either (has_fault limit before now s) (some_has limit before (behind now s) list) in_order refl

-- what is left of the statements, from one of them on
next_is : (list : List Statement) (i : ℕ) (s : Statement) → i < length list → s ≡ get_or list i s
    → drop i list ≡ s ∷ drop (i + 1) list
next_is list i s inside is =
    drop_more list i s inside ∙ ap (λ (x : Statement). x ∷ drop (i + 1) list) (sym is)

-- the counts leave room for one statement
pub room_now : (sizes : Sizes) (list : List Statement) → LeaveRoom sizes list → IsSmall sizes
room_now sizes [] h = h
room_now sizes (s ∷ list) h = h.0

module _ (limit : ℕ) (front : Earlier) (all : Option Fault) (last : Earlier) where
  -- the lowest fault of the statements so far, with those that are left, is that of all
  pub record IsJudged (rest : List Statement) (now : Earlier) (lowest : Option Fault) : Type 0 where
    pub small : LeaveRoom now.sizes rest
    pub fault : lower_of lowest (lowest_fault limit front now rest) ≡ all
    pub noted : behind_all now rest ≡ last

  step_judged : (s : Statement) (rest : List Statement) (now : Earlier) (lowest : Option Fault)
      → IsJudged (s ∷ rest) now lowest
      → IsJudged rest (behind now s) (lower_of lowest (first_fault limit front now s))
  step_judged s rest now lowest judged = record {
    small = judged.small.1;
    fault =
        lower_assoc lowest (first_fault limit front now s) (lowest_fault limit front (behind now s) rest)
        ∙ ap (lower_of lowest) (sym (lowest_step limit front now s rest)) ∙ judged.fault;
    noted = judged.noted;
  }

  -- one statement more is judged
  pub judged_more : (list : List Statement) (i : ℕ) (s : Statement) (now next : Earlier)
      (lowest fault lower : Option Fault)
      → i < length list → s ≡ get_or list i s → IsJudged (drop i list) now lowest
      → fault ≡ first_fault limit front now s → lower ≡ lower_of lowest fault → next ≡ behind now s
      → IsJudged (drop (i + 1) list) next lower
  judged_more list i s now next lowest fault lower inside is judged fault_is lower_is next_is_behind =
      let here = subst (λ (l : List Statement). IsJudged l now lowest) (next_is list i s inside is) judged in
      subst (λ (e : Earlier). IsJudged (drop (i + 1) list) e lower) (sym next_is_behind)
      (subst (λ (o : Option Fault). IsJudged (drop (i + 1) list) (behind now s) o)
      (sym (lower_is ∙ ap (lower_of lowest) fault_is)) (step_judged s (drop (i + 1) list) now lowest here))

  -- all are
  pub judged_all : (list : List Statement) (i : ℕ) (now : Earlier) (lowest : Option Fault) → length list ≤ i
      → IsJudged (drop i list) now lowest → (lowest ≡ all) × (now ≡ last)
  judged_all list i now lowest past judged =
      let done = subst (λ (l : List Statement). IsJudged l now lowest) (drop_all i list past) judged in
      (sym (lower_none lowest) ∙ done.fault, done.noted)

module _ (last : Earlier) (table : List Bool) where
  -- what is known behind the statements so far, and those that are left, is what is known behind all
  pub record IsCaughtUp (rest : List Statement) (now : Earlier) (declared : List Bool) : Type 0 where
    pub small : LeaveRoom now.sizes rest
    pub front : behind_all now rest ≡ last
    pub declared_are : declare_all now declared rest ≡ table

  step_caught : (s : Statement) (rest : List Statement) (now : Earlier) (declared : List Bool)
      → IsCaughtUp (s ∷ rest) now declared
      → IsCaughtUp rest (behind now s) (mark_declared declared (declared_by now.sizes s))
  step_caught s rest now declared caught =
      record { small = caught.small.1; front = caught.front; declared_are = caught.declared_are }

  pub caught_more : (list : List Statement) (i : ℕ) (s : Statement) (now next : Earlier) (declared marked : List Bool)
      → i < length list → s ≡ get_or list i s → IsCaughtUp (drop i list) now declared
      → marked ≡ mark_declared declared (declared_by now.sizes s) → next ≡ behind now s
      → IsCaughtUp (drop (i + 1) list) next marked
  caught_more list i s now next declared marked inside is caught marked_is next_is_behind =
      let here = subst (λ (l : List Statement). IsCaughtUp l now declared) (next_is list i s inside is) caught in
      subst (λ (e : Earlier). IsCaughtUp (drop (i + 1) list) e marked) (sym next_is_behind)
      (subst (λ (t : List Bool). IsCaughtUp (drop (i + 1) list) (behind now s) t) (sym marked_is)
      (step_caught s (drop (i + 1) list) now declared here))

  pub caught_all : (list : List Statement) (i : ℕ) (now : Earlier) (declared : List Bool) → length list ≤ i
      → IsCaughtUp (drop i list) now declared → (now ≡ last) × (declared ≡ table)
  caught_all list i now declared past caught =
      let done = subst (λ (l : List Statement). IsCaughtUp l now declared) (drop_all i list past) caught in
      (done.front, done.declared_are)
