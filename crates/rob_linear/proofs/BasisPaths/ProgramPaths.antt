-- Each program has one path of bases: it begins at one basis, has one basis after k turns, and one last basis.
use Rattle.std.proofs.Common.{◌≡◌, ℕ, zero, suc, ◌+◌, ◌^◌, ◌<◌, ◌≤◌, sym, refl, ap, ◌∙◌, subst, arith, inl, inr, cond, eqb}
use Rattle.std.proofs.lemmas.Int.{ints}
use Rattle.std.proofs.lemmas.Bool.{cases_eq, cases_order}
use Rattle.std.proofs.lemmas.Bool.Decides.{nat_tests}
use lib.IntN.{ℤ, pos, ◌-ℤ◌, ◌*ℤ◌, neg_ℤ}
use lib.Signed.{◌<ℤ◌, ◌≤ℤ◌}
use Rattle.rob_linear.specs.Systems.{System}
use Rattle.rob_linear.specs.Programs.{Program, starting_row, system_of, auxiliary_tag, auxiliary_row, auxiliary_of}
use Rattle.rob_linear.specs.Turns.{key, Rises, IsSameBasis, StandsWith, TurnsTo, TurnsFrom}
use Rattle.rob_linear.specs.Paths.{StartsAtSlacks, StartsAtAuxiliary, HasAuxiliary, Steps, Turned, Reached, Last}
use Rattle.rob_linear.proofs.Bases.Solutions.{tags_in, start_is_basis}
use Rattle.rob_linear.proofs.Bases.Lexical.{lex_ext, lex_cases, not_proportional}
use Rattle.rob_linear.proofs.BasisPaths.Starts.{system_tagged, auxiliary_tagged}
use Rattle.rob_linear.proofs.Bases.Turns.{turn_same, turn_unique, turn_stands}
use Rattle.rob_linear.proofs.BasisPaths.Paths.{turns_bounded}
use Rattle.rob_linear.proofs.BasisPaths.TwoPhases.{InFirst, first_start, slacks_stand, stands_without, Standing, turned_standing, auxiliary_or_not}

-- ---- one start
auxiliary_start_unique : (P : Program) (basis basis' : ℕ → ℕ) (s : StartsAtAuxiliary P basis)
    (t : StartsAtAuxiliary P basis') → s.row ≡ t.row
auxiliary_start_unique P basis basis' s t =
    let S : System = auxiliary_of P in
    let a : ℕ → ℤ = auxiliary_row P s.row in
    let b : ℕ → ℤ = auxiliary_row P t.row in
    elim (cases_eq s.row t.row) [
      | inl e ↦ e
      | inr d ↦ elim (lex_cases (suc P.m)
          (λ k. (pos 1 *ℤ key (auxiliary_of P) (auxiliary_row P t.row) k)
          -ℤ (pos 1 *ℤ key (auxiliary_of P) (auxiliary_row P s.row) k))) [
            | inl h ↦ absurd (t.first s.row s.inside h)
            | inr (inl h) ↦
                absurd (s.first t.row t.inside
                (lex_ext (suc P.m)
                (λ k. neg_ℤ
                ((pos 1 *ℤ key (auxiliary_of P) (auxiliary_row P t.row) k)
                -ℤ (pos 1 *ℤ key (auxiliary_of P) (auxiliary_row P s.row) k)))
                (λ k. (pos 1 *ℤ key (auxiliary_of P) (auxiliary_row P s.row) k)
                -ℤ (pos 1 *ℤ key (auxiliary_of P) (auxiliary_row P t.row) k)) (λ k kl. omega (arith, ints)) h))
            | inr (inr h) ↦
                absurd (not_proportional (auxiliary_of P) (auxiliary_tag P) (auxiliary_row P)
                t.row s.row (pos 1) (pos 1)
                (tags_in (auxiliary_of P) (auxiliary_tagged P)) (auxiliary_tagged P).last
                (start_is_basis (auxiliary_of P) (auxiliary_tagged P)) t.inside s.inside (λ e. d (sym e))
                (omega (arith, ints)) h)
          ]
    ]

start_not_both : (P : Program) (basis basis' : ℕ → ℕ) → StartsAtSlacks P basis → ¬ (StartsAtAuxiliary P basis')
start_not_both P basis basis' s t =
    let a : pos 0 ≤ℤ P.b t.row = s.nonnegative t.row t.inside in
    let b : P.b t.row <ℤ pos 0 = t.negative in omega (arith, ints)

pub start_unique : (P : Program) (basis basis' : ℕ → ℕ) → Turned P zero basis → Turned P zero basis'
    → IsSameBasis P.m basis basis'
start_unique P basis basis' s t =
    elim s [
      | inl a ↦ elim t [
        | inl b ↦ (λ i l. a.slacks i l ∙ sym (b.slacks i l))
        | inr b ↦ absurd (start_not_both P basis basis' a b)
      ]
      | inr a ↦ elim t [
        | inl b ↦ absurd (start_not_both P basis' basis b a)
        | inr b ↦ (λ i l. a.exchanged i l
            ∙ ap (λ v. cond (eqb i v) (P.n + P.m) (P.n + i)) (auxiliary_start_unique P basis basis' a b)
            ∙ sym (b.exchanged i l))
      ]
    ]

-- ---- one next basis
pub auxiliary_same : (P : Program) (basis basis' : ℕ → ℕ) → IsSameBasis P.m basis basis'
    → HasAuxiliary P basis → HasAuxiliary P basis'
auxiliary_same P basis basis' h a = (a.0, a.1, a.2 ∙ h a.0 a.1)

pub steps_same : (P : Program) (basis basis' next : ℕ → ℕ) → IsSameBasis P.m basis basis'
    → Steps P basis next → Steps P basis' next
steps_same P basis basis' next h t =
    elim t [
      | inl a ↦ inl (auxiliary_same P basis basis' h a.0, turn_same (auxiliary_of P) basis basis' next h a.1)
      | inr a ↦ inr (
        (λ w. a.0 (auxiliary_same P basis' basis (λ i l. sym (h i l)) w)),
        turn_same (system_of P) basis basis' next h a.1,
      )
    ]

pub steps_unique : (P : Program) (basis next next' : ℕ → ℕ) → Steps P basis next → Steps P basis next'
    → IsSameBasis P.m next next'
steps_unique P basis next next' s t =
    elim s [
      | inl a ↦ elim t [
        | inl b ↦ turn_unique (auxiliary_of P) basis next next' (auxiliary_tagged P) a.1 b.1
        | inr b ↦ absurd (b.0 a.0)
      ]
      | inr a ↦ elim t [
        | inl b ↦ absurd (a.0 b.0)
        | inr b ↦ turn_unique (system_of P) basis next next' (system_tagged P) a.1 b.1
      ]
    ]

-- one basis after k turns
pub turned_unique : (P : Program) (k : ℕ) (basis basis' : ℕ → ℕ) → Turned P k basis → Turned P k basis'
    → IsSameBasis P.m basis basis'
turned_unique P zero basis basis' s t = start_unique P basis basis' s t
turned_unique P (suc k) basis basis' s t =
    steps_unique P t.0 basis basis' (steps_same P s.0 t.0 basis (turned_unique P k s.0 t.0 s.1 t.1) s.2) t.2

-- ---- one last basis
left_before : (P : Program) (j k : ℕ) (basis : ℕ → ℕ) → j < k → Turned P k basis → (before : ℕ → ℕ) × (next : ℕ → ℕ)
    × Turned P j before × Steps P before next
left_before P j zero basis l t = absurd (omega arith)
left_before P j (suc k) basis l t =
    elim (cases_eq j k) [
      | inl e ↦ (t.0, basis, subst (λ v. Turned P v t.0) (sym e) t.1, t.2)
      | inr d ↦ left_before P j k t.0 (omega arith) t.1
    ]

-- nothing is turned beyond a last basis
last_is_end : (P : Program) (j k : ℕ) (basis basis' : ℕ → ℕ) → j < k → Turned P j basis
    → ((next : ℕ → ℕ) → ¬ (Steps P basis next)) → ¬ (Turned P k basis')
last_is_end P j k basis basis' l s ends t =
    let w : (before : ℕ → ℕ) × (next : ℕ → ℕ) × Turned P j before × Steps P before next =
    left_before P j k basis' l t in
    ends w.1 (steps_same P w.0 basis w.1 (turned_unique P j w.0 basis w.2 s) w.3)

pub last_unique : (P : Program) (basis basis' : ℕ → ℕ) → Last P basis → Last P basis' → IsSameBasis P.m basis basis'
last_unique P basis basis' s t =
    let a : Turned P s.reached.0 basis = s.reached.1 in
    let b : Turned P t.reached.0 basis' = t.reached.1 in
    elim (cases_order s.reached.0 t.reached.0) [
      | inl e ↦ turned_unique P s.reached.0 basis basis' a (subst (λ v. Turned P v basis') (sym e) b)
      | inr (inl l) ↦ absurd (last_is_end P s.reached.0 t.reached.0 basis basis' l a s.ends b)
      | inr (inr l) ↦ absurd (last_is_end P t.reached.0 s.reached.0 basis' basis l b t.ends a)
    ]

-- ---- the path is finite
-- once the auxiliary column has left it never comes back
pub stays_out : (P : Program) (basis next : ℕ → ℕ) → Standing P basis → ¬ (HasAuxiliary P basis)
    → TurnsTo (system_of P) basis next → ¬ (HasAuxiliary P next)
stays_out P basis next s no_aux t =
    elim s [
      | inl f ↦ absurd (no_aux f.0)
      | inr f ↦
          let w : (rows' : ℕ → ℕ → ℤ) × StandsWith (system_of P) next rows'
          × Rises (system_of P) (f.1.0 P.m) (rows' P.m) =
          turn_stands (system_of P) basis next f.1.0 (system_tagged P) f.1.1 t in
          stands_without P next w.0 w.1
    ]

pub step_stays_out : (P : Program) (basis next : ℕ → ℕ) → Reached P basis → ¬ (HasAuxiliary P basis)
    → Steps P basis next → ¬ (HasAuxiliary P next)
step_stays_out P basis next r no_aux t =
    elim t [
      | inl a ↦ absurd (no_aux a.0)
      | inr a ↦ stays_out P basis next (turned_standing P r.0 basis r.1) no_aux a.1
    ]

start_has : (P : Program) (basis : ℕ → ℕ) → StartsAtAuxiliary P basis → HasAuxiliary P basis
start_has P basis s =
    let e : cond (eqb s.row s.row) (P.n + P.m) (P.n + s.row) ≡ P.n + P.m = grind (arith, nat_tests) in
    (s.row, s.inside, sym (s.exchanged s.row s.inside ∙ e))

-- a first phase is a path of the auxiliary form
pub first_path : (P : Program) (k : ℕ) (basis : ℕ → ℕ) → Turned P k basis → HasAuxiliary P basis → (start : ℕ → ℕ)
    × StartsAtAuxiliary P start × TurnsFrom (auxiliary_of P) start k basis
first_path P zero basis t h =
    elim t [
      | inl s ↦ absurd (stands_without P basis (starting_row P) (slacks_stand P basis s) h)
      | inr s ↦ (basis, s, (λ i l. refl))
    ]
first_path P (suc k) basis t h =
    elim t.2 [
      | inl a ↦
          let w : (start : ℕ → ℕ) × StartsAtAuxiliary P start × TurnsFrom (auxiliary_of P) start k t.0 =
          first_path P k t.0 t.1 a.0 in
          (w.0, w.1, (t.0, w.2, a.1))
      | inr a ↦ absurd (stays_out P t.0 basis (turned_standing P k t.0 t.1) a.0 a.1 h)
    ]

first_bounded : (P : Program) (k : ℕ) (basis : ℕ → ℕ) → Turned P k basis → HasAuxiliary P basis
    → k < suc (P.n + P.m) ^ P.m
first_bounded P k basis t h =
    let w : (start : ℕ → ℕ) × StartsAtAuxiliary P start × TurnsFrom (auxiliary_of P) start k basis =
    first_path P k basis t h in
    let f : InFirst P w.0 = first_start P w.0 w.1 in
    turns_bounded (auxiliary_of P) w.0 f.rows k basis (auxiliary_tagged P) f.stands w.2

-- a second phase is a path of the program, from the basis where it began
record SecondPath (P : Program) (k : ℕ) (basis : ℕ → ℕ) : Type 0 where
  before : ℕ
  since : ℕ
  sum : k ≡ before + since
  few : before ≤ suc (P.n + P.m) ^ P.m
  start : ℕ → ℕ
  rows : ℕ → ℕ → ℤ
  stands : StandsWith (system_of P) start rows
  path : TurnsFrom (system_of P) start since basis

second_path : (P : Program) (k : ℕ) (basis : ℕ → ℕ) → Turned P k basis → ¬ (HasAuxiliary P basis) → SecondPath P k basis
second_path P zero basis t no_aux =
    elim t [
      | inl s ↦ record {
        before = 0;
        since = 0;
        sum = refl;
        few = omega arith;
        start = basis;
        rows = starting_row P;
        stands = slacks_stand P basis s;
        path = λ i l. refl;
      }
      | inr s ↦ absurd (no_aux (start_has P basis s))
    ]
second_path P (suc k) basis t no_aux =
    elim t.2 [
      | inl a ↦ elim (turned_standing P (suc k) basis t) [
        | inl f ↦ absurd (no_aux f.0)
        | inr f ↦
            let l : k < suc (P.n + P.m) ^ P.m = first_bounded P k t.0 t.1 a.0 in
            record {
              before = suc k;
              since = 0;
              sum = omega arith;
              few = l;
              start = basis;
              rows = f.1.0;
              stands = f.1.1;
              path = λ i l. refl;
            }
      ]
      | inr a ↦
          let w : SecondPath P k t.0 = second_path P k t.0 t.1 a.0 in
          let e : k ≡ w.before + w.since = w.sum in
          record {
            before = w.before;
            since = suc w.since;
            sum = omega arith;
            few = w.few;
            start = w.start;
            rows = w.rows;
            stands = w.stands;
            path = (t.0, w.path, a.1);
          }
    ]

-- fewer turns than there are lists of m columns, with the auxiliary column and without it
pub turned_bounded : (P : Program) (k : ℕ) (basis : ℕ → ℕ) → Turned P k basis
    → k < suc (P.n + P.m) ^ P.m + (P.n + P.m) ^ P.m
turned_bounded P k basis t =
    elim (auxiliary_or_not P basis) [
      | inl h ↦ let l : k < suc (P.n + P.m) ^ P.m = first_bounded P k basis t h in omega arith
      | inr h ↦
          let w : SecondPath P k basis = second_path P k basis t h in
          let e : k ≡ w.before + w.since = w.sum in
          let f : w.before ≤ suc (P.n + P.m) ^ P.m = w.few in
          let l : w.since < (P.n + P.m) ^ P.m =
          turns_bounded (system_of P) w.start w.rows w.since basis (system_tagged P) w.stands w.path in
          omega arith
    ]
