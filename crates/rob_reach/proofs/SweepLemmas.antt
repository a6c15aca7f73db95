-- A greater budget admits more, so plans keep fewer bounds: what that does to the answers of a sweep.
use Rattle.std.specs.Prelude.{◌≡◌, ◌≢◌, ◌<◌, ℕ, zero, suc, List, [], ◌∷◌, length, slice_get, Some, ◌↔◌, ◌^◌, refl}
use Rattle.std.proofs.Common.{ap, ap₂, sym, subst, arith}
use Rattle.rob_algebra.specs.Fraction.{Fraction, ◌≤ℚ◌, ◌<ℚ◌}
use Rattle.rob_algebra.specs.FractionOrderLaws as Q
use Rattle.rob_meaning.proofs.Proving.StatusLemmas.{one_optimum, optimal_not_infeasible, optimal_not_unbounded, infeasible_not_unbounded}
use Rattle.rob_meaning.specs.Guarantee.{HasBound, IsNoWorse}
use Rattle.rob_meaning.specs.Named.{IsNamed, HasDistinctMembers}
use Rattle.rob_meaning.specs.Places.{Each, EachFrom}
use Rattle.rob_meaning.specs.RobustModel.{SetLine, line, budget, Member, RobustModel, set_count, line_set}
use Rattle.rob_meaning.specs.Status.{IsOptimal, IsInfeasible, IsUnbounded}
use Rattle.rob_meaning.specs.UncertaintySet.{in_each_set, part_of, Admits, AdmitsIn, IsEmptySet, KeepsLine, total_deviation}
use Rattle.rob_meaning.specs.WellFormed.{IsModel, IsSetLine, IsLineOf}
use Rattle.rob_reach.proofs.SameColumns as Same
use Rattle.rob_meaning.proofs.Lists.EachLemmas.{each_map}
use Rattle.rob_reach.specs.Sweeps.{limited, limit_at, with_budget, Rises, SweepAnswer, is_optimal, is_infeasible, is_unbounded, is_empty, Answers, Swept, GrowsHarder}

-- ---- one number is replaced
pub length-limit_at : (n : ℕ) (g : Fraction) (cs : List SetLine) → length (limit_at n g cs) ≡ length cs
length-limit_at n g [] = refl
length-limit_at zero g (c ∷ cs) = refl
length-limit_at (suc zero) g (c ∷ cs) = refl
length-limit_at (suc (suc n)) g (c ∷ cs) = ap suc (length-limit_at (suc n) g cs)

pub limit_here : (k : ℕ) (g limit : Fraction) (members : List Member) (cs : List SetLine) →
    slice_get cs k ≡ Some (budget limit members) → slice_get (limit_at (suc k) g cs) k ≡ Some (budget g members)
limit_here k g limit members [] e = cc
limit_here zero g limit members (c ∷ cs) e =
    let same : c ≡ budget limit members = cc in ap (λ d. Some (limited g d)) same
limit_here (suc k) g limit members (c ∷ cs) e = limit_here k g limit members cs e

pub limit_elsewhere : (n k : ℕ) (g : Fraction) (cs : List SetLine) → suc k ≢ n
    → slice_get (limit_at n g cs) k ≡ slice_get cs k
limit_elsewhere n k g [] h = refl
limit_elsewhere zero k g (c ∷ cs) h = refl
limit_elsewhere (suc zero) zero g (c ∷ cs) h = absurd (h refl)
limit_elsewhere (suc zero) (suc k) g (c ∷ cs) h = refl
limit_elsewhere (suc (suc n)) zero g (c ∷ cs) h = refl
limit_elsewhere (suc (suc n)) (suc k) g (c ∷ cs) h = limit_elsewhere (suc n) k g cs (λ e. h (ap suc e))

-- what says nothing of limits holds of the new statements too
limit_each : (P : SetLine → Type 0) (g : Fraction) → ((c : SetLine) → P c → P (limited g c))
    → (n : ℕ) (cs : List SetLine) →
    Each P cs → Each P (limit_at n g cs)
limit_each P g f n [] h = tt
limit_each P g f zero (c ∷ cs) h = h
limit_each P g f (suc zero) (c ∷ cs) h = (f c h.0, h.1)
limit_each P g f (suc (suc n)) (c ∷ cs) h = (h.0, limit_each P g f (suc n) cs h.1)

limit_each_from : (P : ℕ → SetLine → Type 0) (g : Fraction) → ((i : ℕ) (c : SetLine) → P i c → P i (limited g c)) →
    (n k : ℕ) (cs : List SetLine) → EachFrom k P cs → EachFrom k P (limit_at n g cs)
limit_each_from P g f n k [] h = tt
limit_each_from P g f zero k (c ∷ cs) h = h
limit_each_from P g f (suc zero) k (c ∷ cs) h = (f k c h.0, h.1)
limit_each_from P g f (suc (suc n)) k (c ∷ cs) h = (h.0, limit_each_from P g f (suc n) (suc k) cs h.1)

pub with_budget_model : (m : RobustModel) (n : ℕ) (g : Fraction) → IsModel m → IsModel (with_budget m n g)
with_budget_model m n g h =
    Same.model-other m (limit_at n g m.set_lines) m.variables refl h
    (limit_each (IsSetLine m) g kept n m.set_lines h.set_lines)
    (limit_each_from (λ i c. (line_set m i < set_count m) × IsLineOf m (line_set m i) c) g own n zero
    m.set_lines h.own_lines)
  where
    kept : (c : SetLine) → IsSetLine m c → IsSetLine m (limited g c)
    kept (line l relation r) h = h
    kept (budget limit members) h = h

    own : (i : ℕ) (c : SetLine) → (line_set m i < set_count m) × IsLineOf m (line_set m i) c →
        (line_set m i < set_count m) × IsLineOf m (line_set m i) (limited g c)
    own i (line l relation r) h = h
    own i (budget limit members) h = h

pub with_budget_named : (m : RobustModel) (n : ℕ) (g : Fraction) → IsNamed m → IsNamed (with_budget m n g)
with_budget_named m n g h =
    record {
      plain = h.plain;
      free = h.free;
      distinct = h.distinct;
      lists = h.lists;
      members = limit_each HasDistinctMembers g kept n m.set_lines h.members;
      few = subst (λ k. k < 2 ^ 32) (sym (length-limit_at n g m.set_lines)) h.few;
    }
  where
    kept : (c : SetLine) → HasDistinctMembers c → HasDistinctMembers (limited g c)
    kept (line l relation r) h = h
    kept (budget limit members) h = h

-- ---- a greater budget admits more
module _ (m : RobustModel) (n : ℕ) (g h : Fraction) (le : g ≤ℚ h) where
  lines_at : (S : ℕ) (u : List Fraction) (n k : ℕ) (cs : List SetLine) →
      EachFrom k (λ i c. line_set m i ≡ S → KeepsLine m u c) (limit_at n g cs) →
      EachFrom k (λ i c. line_set m i ≡ S → KeepsLine m u c) (limit_at n h cs)
  lines_at S u n k [] e = tt
  lines_at S u zero k (c ∷ cs) e = e
  lines_at S u (suc zero) k (line l relation r ∷ cs) e = e
  lines_at S u (suc zero) k (budget limit members ∷ cs) e =
      (λ own. Q.le_trans_ℚ (total_deviation m u members) g h (e.0 own) le, e.1)
  lines_at S u (suc (suc n)) k (c ∷ cs) e = (e.0, lines_at S u (suc n) (suc k) cs e.1)

  -- a scenario that a set admits at the smaller budget it admits at the greater one
  set_admits_more : (S : ℕ) (u : List Fraction) → AdmitsIn (with_budget m n g) S u → AdmitsIn (with_budget m n h) S u
  set_admits_more S u k =
      record {
        numbers = k.numbers;
        bounds = k.bounds;
        lines =
            Same.set_lines_in m (limit_at n h m.set_lines) m.variables refl S u zero (limit_at n h m.set_lines)
            (lines_at S (in_each_set m u) n zero m.set_lines
            (Same.set_lines_out m (limit_at n g m.set_lines) m.variables refl S u zero
            (limit_at n g m.set_lines) k.lines));
      }

  pub admits_more : (u : List Fraction) → Admits (with_budget m n g) u → Admits (with_budget m n h) u
  admits_more u k = record { numbers = k.numbers; parts = λ S l. set_admits_more S (part_of m S u) (k.parts S l) }

  -- a bound at the greater budget is a bound at the smaller one
  pub bound_at_less : (plan : List Fraction) (tau : Fraction) → HasBound (with_budget m n h) plan tau →
      HasBound (with_budget m n g) plan tau
  bound_at_less plan tau k =
      record {
        columns = k.columns;
        keeps = λ S some u admitted.
            Same.keeps_in m (limit_at n g m.set_lines) m.variables refl plan u tau S
            (Same.keeps_out m (limit_at n h m.set_lines) m.variables refl plan u tau S
            (k.keeps S some u (set_admits_more S u admitted)));
        variables = k.variables;
      }

  pub empty_before : IsEmptySet (with_budget m n h) → IsEmptySet (with_budget m n g)
  empty_before none u admitted = none u (admits_more u admitted)

  pub no_better_later : (v w : Fraction) → IsOptimal (with_budget m n g) v → IsOptimal (with_budget m n h) w →
      IsNoWorse m.sense v w
  no_better_later v w a b = a.none_better b.attained.0 w (bound_at_less b.attained.0 w b.attained.1)

  pub infeasible_later : IsInfeasible (with_budget m n g) → IsInfeasible (with_budget m n h)
  infeasible_later none plan tau b = none plan tau (bound_at_less plan tau b)

  pub unbounded_before : IsUnbounded (with_budget m n h) → IsUnbounded (with_budget m n g)
  unbounded_before all tau = ((all tau).0, bound_at_less (all tau).0 tau (all tau).1)

-- ---- one answer
pub one_answer : (m : RobustModel) (a b : SweepAnswer) → Answers m a → Answers m b → a ≡ b
one_answer m (is_optimal v) (is_optimal w) h k = ap is_optimal (one_optimum m v w h.1 k.1)
one_answer m (is_optimal v) is_infeasible h k = absurd (optimal_not_infeasible m v h.1 k.1)
one_answer m (is_optimal v) is_unbounded h k = absurd (optimal_not_unbounded m v h.1 k.1)
one_answer m (is_optimal v) is_empty h k = absurd (h.0 k)
one_answer m is_infeasible (is_optimal w) h k = absurd (optimal_not_infeasible m w k.1 h.1)
one_answer m is_infeasible is_infeasible h k = refl
one_answer m is_infeasible is_unbounded h k = absurd (infeasible_not_unbounded m h.1 k.1)
one_answer m is_infeasible is_empty h k = absurd (h.0 k)
one_answer m is_unbounded (is_optimal w) h k = absurd (optimal_not_unbounded m w k.1 h.1)
one_answer m is_unbounded is_infeasible h k = absurd (infeasible_not_unbounded m k.1 h.1)
one_answer m is_unbounded is_unbounded h k = refl
one_answer m is_unbounded is_empty h k = absurd (h.0 k)
one_answer m is_empty (is_optimal w) h k = absurd (k.0 h)
one_answer m is_empty is_infeasible h k = absurd (k.0 h)
one_answer m is_empty is_unbounded h k = absurd (k.0 h)
one_answer m is_empty is_empty h k = refl

-- the answer is empty exactly where the set admits nothing
pub empty_exactly : (m : RobustModel) (a : SweepAnswer) → Answers m a → (a ≡ is_empty) ↔ IsEmptySet m
empty_exactly m a h = (λ e. subst (Answers m) e h, λ none. one_answer m a is_empty h none)

pub one_sweep : (m : RobustModel) (n : ℕ) (limits : List Fraction) (xs ys : List SweepAnswer) → Swept m n limits xs →
    Swept m n limits ys → xs ≡ ys
one_sweep m n [] [] [] h k = refl
one_sweep m n [] [] (y ∷ ys) h k = absurd k
one_sweep m n [] (x ∷ xs) ys h k = absurd h
one_sweep m n (g ∷ limits) [] ys h k = absurd h
one_sweep m n (g ∷ limits) (x ∷ xs) [] h k = absurd k
one_sweep m n (g ∷ limits) (x ∷ xs) (y ∷ ys) h k =
    ap₂ (λ (a : SweepAnswer) (as_ : List SweepAnswer). a ∷ as_) (one_answer (with_budget m n g) x y h.0 k.0)
    (one_sweep m n limits xs ys h.1 k.1)

-- ---- an earlier and a later answer
module _ (m : RobustModel) (n : ℕ) (g h : Fraction) (le : g ≤ℚ h) (a b : SweepAnswer)
    (earlier : Answers (with_budget m n g) a)
    (later : Answers (with_budget m n h) b) where
  status_of : (m : RobustModel) (x y : SweepAnswer) → Answers m x → x ≡ y → Answers m y
  status_of m x y k e = subst (Answers m) e k

  pub harder : GrowsHarder m.sense a b
  harder =
      record {
        empty = λ e.
            one_answer (with_budget m n g) a is_empty earlier
            (empty_before m n g h le (status_of (with_budget m n h) b is_empty later e));
        value = λ v w e f.
            no_better_later m n g h le v w (status_of (with_budget m n g) a (is_optimal v) earlier e).1
            (status_of (with_budget m n h) b (is_optimal w) later f).1;
        infeasible = λ e.
            one_answer (with_budget m n h) b is_infeasible later (
              λ none. (status_of (with_budget m n g) a is_infeasible earlier e).0 (empty_before m n g h le none),
              infeasible_later m n g h le (status_of (with_budget m n g) a is_infeasible earlier e).1,
            );
        unbounded = λ e some.
            one_answer (with_budget m n g) a is_unbounded earlier (
              λ none. some (one_answer (with_budget m n g) a is_empty earlier none),
              unbounded_before m n g h le (status_of (with_budget m n h) b is_unbounded later e).1,
            );
      }

-- ---- in a sweep
below_all : (g : Fraction) (gs : List Fraction) → Rises (g ∷ gs) → Each (λ h. g <ℚ h) gs
below_all g [] rises = tt
below_all g (h ∷ gs) rises = (
  rises.0,
  each_map (λ x. h <ℚ x) (λ x. g <ℚ x) (λ x k. Q.lt_le_trans_ℚ g h x rises.0 (Q.le_of_lt_ℚ h x k)) gs
      (below_all h gs rises.1),
)

rest_rises : (g : Fraction) (gs : List Fraction) → Rises (g ∷ gs) → Rises gs
rest_rises g [] rises = tt
rest_rises g (h ∷ gs) rises = rises.1

module _ (m : RobustModel) (n : ℕ) where
  behind_first : (g : Fraction) (a : SweepAnswer) → Answers (with_budget m n g) a → (limits : List Fraction) →
      Each (λ h. g <ℚ h) limits → (answers : List SweepAnswer) → Swept m n limits answers → (j : ℕ) (b : SweepAnswer) →
      slice_get answers j ≡ Some b → GrowsHarder m.sense a b
  behind_first g a first [] below [] swept j b e = cc
  behind_first g a first [] below (c ∷ answers) swept j b e = absurd swept
  behind_first g a first (h ∷ limits) below [] swept j b e = absurd swept
  behind_first g a first (h ∷ limits) below (c ∷ answers) swept zero b e =
      let same : c ≡ b = cc in
      harder m n g h (Q.le_of_lt_ℚ g h below.0) a b first (subst (Answers (with_budget m n h)) same swept.0)
  behind_first g a first (h ∷ limits) below (c ∷ answers) swept (suc j) b e =
      behind_first g a first limits below.1 answers swept.1 j b e

  -- for any two answers, an earlier and a later one
  pub sweep_grows_harder : (limits : List Fraction) (answers : List SweepAnswer) → Rises limits
      → Swept m n limits answers →
      (i j : ℕ) → i < j → (a b : SweepAnswer) → slice_get answers i ≡ Some a → slice_get answers j ≡ Some b →
      GrowsHarder m.sense a b
  sweep_grows_harder [] [] rises swept i j lt a b e f = cc
  sweep_grows_harder [] (c ∷ answers) rises swept i j lt a b e f = absurd swept
  sweep_grows_harder (g ∷ limits) [] rises swept i j lt a b e f = absurd swept
  sweep_grows_harder (g ∷ limits) (c ∷ answers) rises swept i zero lt a b e f = absurd (omega arith)
  sweep_grows_harder (g ∷ limits) (c ∷ answers) rises swept zero (suc j) lt a b e f =
      let same : c ≡ a = cc in
      behind_first g a (subst (Answers (with_budget m n g)) same swept.0) limits
      (below_all g limits rises) answers swept.1 j b f
  sweep_grows_harder (g ∷ limits) (c ∷ answers) rises swept (suc i) (suc j) lt a b e f =
      sweep_grows_harder limits answers (rest_rises g limits rises) swept.1 i j (omega arith) a b e f
