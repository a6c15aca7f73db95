-- No basis comes back, a path has fewer turns than there are lists of m columns, and it is the only one from its start.
use Rattle.std.proofs.Common.{◌≡◌, ◌≢◌, ℕ, zero, suc, ◌+◌, ◌*◌, ◌^◌, ◌<◌, ◌≤◌, sym, refl, ap, ◌∙◌, subst, arith, inl, inr, List, [], ◌∷◌, length}
use Rattle.std.proofs.Math.Nat.{mul-le-mul_left, pow-zero, pow-succ'}
use Rattle.std.proofs.lemmas.Int.{ints}
use Rattle.std.proofs.lemmas.Bool.{cases_eq, cases_order}
use lib.IntN.{ℤ, pos, ◌-ℤ◌, ◌*ℤ◌}
use lib.Signed.{◌<ℤ◌}
use Rattle.rob_linear.specs.Systems.{IsTagged, System, objective, right, IsBasis}
use Rattle.rob_linear.specs.Turns.{key, Rises, own_of, IsSameBasis, StandsWith, TurnsTo, TurnsFrom}
use Rattle.rob_linear.proofs.Meaning.Endings.{own_positive}
use Rattle.rob_linear.proofs.Bases.Solutions.{tags_in}
use Rattle.rob_linear.proofs.Bases.Lexical.{lex_not_zero, rises_trans}
use Rattle.rob_linear.proofs.Bases.Unique.{rows_unique}
use Rattle.rob_linear.proofs.Bases.Turns.{own_same, basis_same, turn_same, turn_unique, stands_same, turn_stands}

-- ---- the same basis has the same objective's row, up to a factor

key_equal : (S : System) (r r' : ℕ → ℤ) → IsTagged S
    → ((k : ℕ) → k ≤ right S → r' (objective S) *ℤ r k ≡ r (objective S) *ℤ r' k) → (k : ℕ) → k < suc S.m
    → (r (objective S) *ℤ key S r' k) -ℤ (r' (objective S) *ℤ key S r k) ≡ pos 0
key_equal S r r' g h zero l =
    let e : r' (objective S) *ℤ r (right S) ≡ r (objective S) *ℤ r' (right S) =
    h (right S) (omega arith) in omega (arith, ints)
key_equal S r r' g h (suc k) l =
    let e : r' (objective S) *ℤ r (S.tag k) ≡ r (objective S) *ℤ r' (S.tag k) =
    h (S.tag k) ((tags_in S g) k (omega arith)) in omega (arith, ints)

pub no_basis_comes_back : (S : System) (own own' : ℕ → ℕ) (rows rows' : ℕ → ℕ → ℤ) → IsTagged S → IsBasis S own rows
    → IsBasis S own' rows' → ((i : ℕ) → i ≤ S.m → own' i ≡ own i) → ¬ (Rises S (rows S.m) (rows' S.m))
no_basis_comes_back S own own' rows rows' g b b' e =
    let c : IsBasis S own rows' = basis_same S own own' rows' e b' in
    let u : (k : ℕ) → k ≤ right S → rows' S.m (objective S) *ℤ rows S.m k ≡ rows S.m (objective S) *ℤ rows' S.m k =
    (λ k kl. subst (λ v. rows' S.m v *ℤ rows S.m k ≡ rows S.m v *ℤ rows' S.m k) b.last
    (rows_unique S own rows rows' b c S.m (omega arith) k kl)) in
    lex_not_zero (suc S.m)
    (λ k. (rows S.m (objective S) *ℤ key S (rows' S.m) k) -ℤ (rows' S.m (objective S) *ℤ key S (rows S.m) k))
    (key_equal S (rows S.m) (rows' S.m) g u)

-- ---- lists of columns as numbers

abbrev pub code : ℕ → ℕ → (ℕ → ℕ) → ℕ
code zero base own = 0
code (suc m) base own = own m + base * code m base own

pub code_below : (m base : ℕ) (own : ℕ → ℕ) → ((i : ℕ) → i < m → own i < base) → code m base own < base ^ m
code_below zero base own h = rw pow-zero (omega arith)
code_below (suc m) base own h =
    let ih : code m base own < base ^ m = code_below m base own (λ i l. h i (omega arith)) in
    let o : own m < base = h m (omega arith) in
    let k : base * suc (code m base own) ≤ base * base ^ m = mul-le-mul_left base ih in
    rw pow-succ' (omega arith)

digits_apart : (base a b x y : ℕ) → a < base → b < base → a + base * x ≡ b + base * y → (a ≡ b) × (x ≡ y)
digits_apart base a b x y al bl e =
    elim (cases_order x y) [
      | inl h ↦ let k : base * x ≡ base * y = ap (λ v. base * v) h in (omega arith, h)
      | inr (inl h) ↦ let k : base * suc x ≤ base * y = mul-le-mul_left base h in absurd (omega arith)
      | inr (inr h) ↦ let k : base * suc y ≤ base * x = mul-le-mul_left base h in absurd (omega arith)
    ]

pub code_apart : (m base : ℕ) (own own' : ℕ → ℕ) → ((i : ℕ) → i < m → own i < base) → ((i : ℕ) → i < m → own' i < base)
    → code m base own ≡ code m base own' → (i : ℕ) → i < m → own i ≡ own' i
code_apart zero base own own' h h' e i l = absurd (omega arith)
code_apart (suc m) base own own' h h' e i l =
    let d : (own m ≡ own' m) × (code m base own ≡ code m base own') =
    digits_apart base (own m) (own' m) (code m base own) (code m base own') (h m (omega arith))
    (h' m (omega arith)) e in
    elim (cases_eq i m) [
      | inl g ↦ ap own g ∙ d.0 ∙ ap own' (sym g)
      | inr g ↦ code_apart m base own own' (λ j jl. h j (omega arith)) (λ j jl. h' j (omega arith)) d.1 i (omega arith)
    ]

-- ---- different numbers below n are at most n

abbrev pub IsNew : ℕ → List ℕ → Type 0
IsNew x [] = Unit {0}
IsNew x (y ∷ ys) = (x ≢ y) × IsNew x ys

abbrev pub AreDifferent : List ℕ → Type 0
AreDifferent [] = Unit {0}
AreDifferent (x ∷ xs) = IsNew x xs × AreDifferent xs

abbrev pub AreBelow : ℕ → List ℕ → Type 0
AreBelow n [] = Unit {0}
AreBelow n (x ∷ xs) = (x < n) × AreBelow n xs

-- n itself taken out
below_but : (n : ℕ) (xs : List ℕ) → AreBelow (suc n) xs → IsNew n xs → AreBelow n xs
below_but n [] b f = tt
below_but n (x ∷ xs) b f = let l : x < suc n = b.0 in let d : n ≢ x = f.0 in (omega arith, below_but n xs b.1 f.1)

taken_out : (n : ℕ) (xs : List ℕ) → AreBelow (suc n) xs → AreDifferent xs → (ys : List ℕ) × AreBelow n ys
    × AreDifferent ys × (length xs ≤ suc (length ys)) × ((x : ℕ) → IsNew x xs → IsNew x ys)
taken_out n [] b d = ([], tt, tt, omega arith, (λ x f. tt))
taken_out n (x ∷ xs) b d =
    elim (cases_eq x n) [
      | inl e ↦ (xs, below_but n xs b.1 (subst (λ v. IsNew v xs) e d.0), d.1, omega arith, (λ z f. f.1))
      | inr e ↦
          let t : (ys : List ℕ) × AreBelow n ys × AreDifferent ys × (length xs ≤ suc (length ys))
          × ((x : ℕ) → IsNew x xs → IsNew x ys) = taken_out n xs b.1 d.1 in
          let l : x < suc n = b.0 in
          let s : length xs ≤ suc (length t.0) = t.3 in
          (x ∷ t.0, (omega arith, t.1), (t.4 x d.0, t.2), omega arith, (λ z f. (f.0, t.4 z f.1)))
    ]

pub different_few : (n : ℕ) (xs : List ℕ) → AreBelow n xs → AreDifferent xs → length xs ≤ n
different_few zero [] b d = omega arith
different_few zero (x ∷ xs) b d = absurd (let l : x < 0 = b.0 in omega arith)
different_few (suc n) xs b d =
    let t : (ys : List ℕ) × AreBelow n ys × AreDifferent ys × (length xs ≤ suc (length ys))
    × ((x : ℕ) → IsNew x xs → IsNew x ys) = taken_out n xs b d in
    let s : length xs ≤ suc (length t.0) = t.3 in
    let r : length t.0 ≤ n = different_few n t.0 t.1 t.2 in
    omega arith

-- ---- the bases that a path has passed

-- x is the number of a basis from which the objective's row has risen to r
abbrev pub Passed : System → (ℕ → ℤ) → ℕ → Type 0
Passed S r x =
    (own : ℕ → ℕ) × (rows : ℕ → ℕ → ℤ) × IsBasis S own rows × (x ≡ code S.m S.columns own) × Rises S (rows S.m) r

abbrev pub AllPassed : System → (ℕ → ℤ) → List ℕ → Type 0
AllPassed S r [] = Unit {0}
AllPassed S r (x ∷ xs) = Passed S r x × AllPassed S r xs

passed_on : (S : System) (r r' : ℕ → ℤ) → pos 0 <ℤ r (objective S) → pos 0 <ℤ r' (objective S) → Rises S r r'
    → (xs : List ℕ) → AllPassed S r xs → AllPassed S r' xs
passed_on S r r' p p' h [] a = tt
passed_on S r r' p p' h (x ∷ xs) a =
    let w : Passed S r x = a.0 in (
      (w.0, w.1, w.2, w.3, rises_trans S (w.1 S.m) r r' (own_positive S w.0 w.1 w.2) p p' w.4 h),
      passed_on S r r' p p' h xs a.1,
    )

passed_new : (S : System) (own : ℕ → ℕ) (rows : ℕ → ℕ → ℤ) → IsTagged S → IsBasis S own rows → (xs : List ℕ)
    → AllPassed S (rows S.m) xs → IsNew (code S.m S.columns own) xs
passed_new S own rows g b [] a = tt
passed_new S own rows g b (x ∷ xs) a =
    let w : Passed S (rows S.m) x = a.0 in (
      (λ e.
          let same : (i : ℕ) → i < S.m → own i ≡ w.0 i =
          code_apart S.m S.columns own w.0 b.inside w.2.inside (e ∙ w.3) in
          no_basis_comes_back S w.0 own w.1 rows g w.2 b (λ i l. elim (cases_eq i S.m) [
            | inl c ↦ ap own c ∙ b.last ∙ sym w.2.last ∙ ap w.0 (sym c)
            | inr d ↦ same i (omega arith)
          ]) w.4),
      passed_new S own rows g b xs a.1,
    )

passed_below : (S : System) (r : ℕ → ℤ) (xs : List ℕ) → AllPassed S r xs → AreBelow (S.columns ^ S.m) xs
passed_below S r [] a = tt
passed_below S r (x ∷ xs) a =
    let w : Passed S r x = a.0 in
    (subst (λ v. v < S.columns ^ S.m) (sym w.3) (code_below S.m S.columns w.0 w.2.inside), passed_below S r xs a.1)

-- what is known of a basis that a path has reached in k turns: the bases before it, all different
record Trail (S : System) (k : ℕ) (own : ℕ → ℕ) (rows : ℕ → ℕ → ℤ) : Type 0 where
  basis : IsBasis S own rows
  past : List ℕ
  count : length past ≡ k
  passed : AllPassed S (rows S.m) past
  different : AreDifferent past

trail_on : (S : System) (k : ℕ) (own own' : ℕ → ℕ) (rows rows' : ℕ → ℕ → ℤ) → IsTagged S → Trail S k own rows
    → IsBasis S own' rows' → Rises S (rows S.m) (rows' S.m) → Trail S (suc k) own' rows'
trail_on S k own own' rows rows' g t b' r = record {
  basis = b';
  past = code S.m S.columns own ∷ t.past;
  count = ap suc t.count;
  passed = (
    (own, rows, t.basis, refl, r),
    passed_on S (rows S.m) (rows' S.m) (own_positive S own rows t.basis)
        (own_positive S own' rows' b') r t.past t.passed,
  );
  different = (passed_new S own rows g t.basis t.past t.passed, t.different);
}

trail : (S : System) (start : ℕ → ℕ) (rows : ℕ → ℕ → ℤ) (k : ℕ) (basis : ℕ → ℕ) → IsTagged S → StandsWith S start rows
    → TurnsFrom S start k basis → (rows' : ℕ → ℕ → ℤ) × StandsWith S basis rows' × Trail S k (own_of S basis) rows'
trail S start rows zero basis g s t =
    let s' : StandsWith S basis rows = stands_same S start basis rows (λ i l. sym (t i l)) s in
    (rows, s', record { basis = s'.is_basis; past = []; count = refl; passed = tt; different = tt })
trail S start rows (suc k) basis g s t =
    let w : (rows' : ℕ → ℕ → ℤ) × StandsWith S t.0 rows' × Trail S k (own_of S t.0) rows' =
    trail S start rows k t.0 g s t.1 in
    let n : (rows' : ℕ → ℕ → ℤ) × StandsWith S basis rows' × Rises S (w.0 S.m) (rows' S.m) =
    turn_stands S t.0 basis w.0 g w.1 t.2 in
    (n.0, n.1, trail_on S k (own_of S t.0) (own_of S basis) w.0 n.0 g w.2 n.1.is_basis n.2)

-- each basis of a path has its rows, in order
pub path_stands : (S : System) (start : ℕ → ℕ) (rows : ℕ → ℕ → ℤ) (k : ℕ) (basis : ℕ → ℕ) → IsTagged S
    → StandsWith S start rows → TurnsFrom S start k basis → (rows' : ℕ → ℕ → ℤ) × StandsWith S basis rows'
path_stands S start rows k basis g s t =
    let w : (rows' : ℕ → ℕ → ℤ) × StandsWith S basis rows' × Trail S k (own_of S basis) rows' =
    trail S start rows k basis g s t in (w.0, w.1)

-- a path has fewer turns than there are lists of m columns
pub turns_bounded : (S : System) (start : ℕ → ℕ) (rows : ℕ → ℕ → ℤ) (k : ℕ) (basis : ℕ → ℕ) → IsTagged S
    → StandsWith S start rows → TurnsFrom S start k basis → k < S.columns ^ S.m
turns_bounded S start rows k basis g s t =
    let v : (rows' : ℕ → ℕ → ℤ) × StandsWith S basis rows' × Trail S k (own_of S basis) rows' =
    trail S start rows k basis g s t in
    let w : Trail S k (own_of S basis) v.0 = v.2 in
    let c : length w.past ≡ k = w.count in
    let l : suc (length w.past) ≤ S.columns ^ S.m =
    different_few (S.columns ^ S.m) (code S.m S.columns (own_of S basis) ∷ w.past)
    (code_below S.m S.columns (own_of S basis) w.basis.inside, passed_below S (v.0 S.m) w.past w.passed)
    (passed_new S (own_of S basis) v.0 g w.basis w.past w.passed, w.different) in
    omega arith

-- the objective's row has risen since the start
pub path_rises : (S : System) (start : ℕ → ℕ) (rows : ℕ → ℕ → ℤ) (k : ℕ) (basis : ℕ → ℕ) → IsTagged S
    → StandsWith S start rows → TurnsFrom S start (suc k) basis → (rows' : ℕ → ℕ → ℤ) × StandsWith S basis rows'
    × Rises S (rows S.m) (rows' S.m)
path_rises S start rows zero basis g s t =
    turn_stands S t.0 basis rows g (stands_same S start t.0 rows (λ i l. sym (t.1 i l)) s) t.2
path_rises S start rows (suc k) basis g s t =
    let w : (rows' : ℕ → ℕ → ℤ) × StandsWith S t.0 rows' × Rises S (rows S.m) (rows' S.m) =
    path_rises S start rows k t.0 g s t.1 in
    let n : (rows' : ℕ → ℕ → ℤ) × StandsWith S basis rows' × Rises S (w.0 S.m) (rows' S.m) =
    turn_stands S t.0 basis w.0 g w.1 t.2 in (
      n.0,
      n.1,
      rises_trans S (rows S.m) (w.0 S.m) (n.0 S.m) (own_positive S (own_of S start) rows s.is_basis)
          (own_positive S (own_of S t.0) w.0 w.1.is_basis) (own_positive S (own_of S basis) n.0 n.1.is_basis) w.2 n.2,
    )

-- so it does not come back to its start
pub no_return : (S : System) (start : ℕ → ℕ) (rows : ℕ → ℕ → ℤ) (k : ℕ) (basis : ℕ → ℕ) → IsTagged S
    → StandsWith S start rows → TurnsFrom S start (suc k) basis → ¬ (IsSameBasis S.m start basis)
no_return S start rows k basis g s t h =
    let w : (rows' : ℕ → ℕ → ℤ) × StandsWith S basis rows' × Rises S (rows S.m) (rows' S.m) =
    path_rises S start rows k basis g s t in
    no_basis_comes_back S (own_of S start) (own_of S basis) rows w.0 g s.is_basis w.1.is_basis
    (λ i l. sym (own_same S start basis h i)) w.2

-- a path has one basis after k turns
pub path_unique : (S : System) (start : ℕ → ℕ) (k : ℕ) (basis basis' : ℕ → ℕ) → IsTagged S → TurnsFrom S start k basis
    → TurnsFrom S start k basis' → IsSameBasis S.m basis basis'
path_unique S start zero basis basis' g t u = λ i l. t i l ∙ sym (u i l)
path_unique S start (suc k) basis basis' g t u =
    turn_unique S u.0 basis basis' g (turn_same S t.0 u.0 basis (path_unique S start k t.0 u.0 g t.1 u.1) t.2) u.2

left_before : (S : System) (start : ℕ → ℕ) (j k : ℕ) (basis : ℕ → ℕ) → j < k → TurnsFrom S start k basis
    → (before : ℕ → ℕ) × (next : ℕ → ℕ) × TurnsFrom S start j before × TurnsTo S before next
left_before S start j zero basis l t = absurd (omega arith)
left_before S start j (suc k) basis l t =
    elim (cases_eq j k) [
      | inl e ↦ (t.0, basis, subst (λ v. TurnsFrom S start v t.0) (sym e) t.1, t.2)
      | inr d ↦ left_before S start j k t.0 (omega arith) t.1
    ]

-- nothing is turned beyond an end
end_is_last : (S : System) (start : ℕ → ℕ) (j k : ℕ) (basis basis' : ℕ → ℕ) → IsTagged S → j < k
    → TurnsFrom S start j basis → ((next : ℕ → ℕ) → ¬ (TurnsTo S basis next)) → ¬ (TurnsFrom S start k basis')
end_is_last S start j k basis basis' g l s ends t =
    let w : (before : ℕ → ℕ) × (next : ℕ → ℕ) × TurnsFrom S start j before × TurnsTo S before next =
    left_before S start j k basis' l t in
    ends w.1 (turn_same S w.0 basis w.1 (path_unique S start j w.0 basis g w.2 s) w.3)

-- a path has one end
pub end_unique : (S : System) (start : ℕ → ℕ) (j k : ℕ) (basis basis' : ℕ → ℕ) → IsTagged S → TurnsFrom S start j basis
    → ((next : ℕ → ℕ) → ¬ (TurnsTo S basis next)) → TurnsFrom S start k basis'
    → ((next : ℕ → ℕ) → ¬ (TurnsTo S basis' next)) → IsSameBasis S.m basis basis'
end_unique S start j k basis basis' g s e t f =
    elim (cases_order j k) [
      | inl c ↦ path_unique S start j basis basis' g s (subst (λ v. TurnsFrom S start v basis') (sym c) t)
      | inr (inl l) ↦ absurd (end_is_last S start j k basis basis' g l s e t)
      | inr (inr l) ↦ absurd (end_is_last S start k j basis' basis g l t f s)
    ]
