-- A joint scenario is admitted exactly where it is admitted condition by condition: each bound and each statement
-- belongs to a set. And some joint scenario is admitted exactly where each set admits something.
use Rattle.std.specs.Prelude.{◌≡◌, ℕ, zero, suc, ◌+◌, ◌*◌, ◌<◌, List, [], ◌∷◌, ◌++◌, length, map, flat_map, refl, ◌↔◌}
use Rattle.std.proofs.Common.{sym, ◌∙◌, ap, ap₂, subst, arith, length-append, suc-mul, zero-mul, length-take-le, div-le_self}
use Rattle.std.proofs.lemmas.List.{length-map}
use Rattle.rob_algebra.specs.Fraction.{Fraction}
use Rattle.rob_meaning.proofs.Conditions.AdmissionLemmas.{jointly_meets, meets_jointly}
use Rattle.rob_meaning.proofs.Lists.ListLemmas.{same_by_places}
use Rattle.rob_meaning.proofs.Scenarios.AloneLemmas.{set_count-alone, all_written}
use Rattle.rob_meaning.proofs.Scenarios.JointScenarioLemmas.{agree_part, at-part_of, length-joined, length-part_of, line_same, part_of_joined}
use Rattle.rob_meaning.specs.JointMeaning.{AdmitsJointly}
use Rattle.rob_meaning.specs.Places.{1ℚ, at, Each, EachFrom}
use Rattle.rob_meaning.specs.RobustModel.{Parameter, RobustModel, SetLine, in_set, joint_parameters, line_set, set_count, written_count, written_parameters}
use Rattle.rob_meaning.specs.SetConditions.{Meets}
use Rattle.rob_meaning.specs.UncertaintySet.{Admits, AdmitsIn, KeepsBounds, KeepsLine, in_each_set, joined_scenarios, part_of}
use Rattle.rob_meaning.specs.WellFormed.{IsLineOf, IsModel}

-- ---- properties by number
module _ {A : Type 0} where
  pub each_from_map : (P Q : ℕ → A → Type 0) (a b : ℕ) (xs : List A) →
      ((i : ℕ) (x : A) → i < length xs → P (a + i) x → Q (b + i) x) → EachFrom a P xs → EachFrom b Q xs
  each_from_map P Q a b [] f h = tt
  each_from_map P Q a b (x ∷ xs) f h = (
    subst (λ j. Q j x) (let e : b + 0 ≡ b = omega arith in e)
        (f 0 x (omega arith) (subst (λ j. P j x) (let e : a ≡ a + 0 = omega arith in e) h.0)),
    each_from_map P Q (suc a) (suc b) xs
        (λ i y some k. subst (λ j. Q j y) (let e : b + suc i ≡ suc b + i = omega arith in e)
        (f (suc i) y (omega arith) (subst (λ j. P j y) (let e : suc a + i ≡ a + suc i = omega arith in e) k)))
        h.1,
  )

  pub each_from_append : (P : ℕ → A → Type 0) (k : ℕ) (xs ys : List A) → EachFrom k P xs →
      EachFrom (k + length xs) P ys → EachFrom k P (xs ++ ys)
  each_from_append P k [] ys h l = subst (λ j. EachFrom j P ys) (let e : k + 0 ≡ k = omega arith in e) l
  each_from_append P k (x ∷ xs) ys h l = (
    h.0,
    each_from_append P (suc k) xs ys h.1
        (subst (λ j. EachFrom j P ys) (let e : k + suc (length xs) ≡ suc k + length xs = omega arith in e) l),
  )

  pub each_from_left : (P : ℕ → A → Type 0) (k : ℕ) (xs ys : List A) → EachFrom k P (xs ++ ys) → EachFrom k P xs
  each_from_left P k [] ys h = tt
  each_from_left P k (x ∷ xs) ys h = (h.0, each_from_left P (suc k) xs ys h.1)

  pub each_from_right : (P : ℕ → A → Type 0) (k : ℕ) (xs ys : List A) → EachFrom k P (xs ++ ys) →
      EachFrom (k + length xs) P ys
  each_from_right P k [] ys h = subst (λ j. EachFrom j P ys) (let e : k ≡ k + 0 = omega arith in e) h
  each_from_right P k (x ∷ xs) ys h =
      subst (λ j. EachFrom j P ys) (let e : suc k + length xs ≡ k + suc (length xs) = omega arith in e)
      (each_from_right P (suc k) xs ys h.1)

  -- what holds in each set, item by item
  pub each_from_over : (count : ℕ) (P : ℕ → ℕ → A → Type 0) (k : ℕ) (xs : List A) →
      ((S : ℕ) → S < count → EachFrom k (P S) xs) → EachFrom k (λ i x. (S : ℕ) → S < count → P S i x) xs
  each_from_over count P k [] h = tt
  each_from_over count P k (x ∷ xs) h =
      (λ S some. (h S some).0, each_from_over count P (suc k) xs (λ S some. (h S some).1))

-- ---- bounds: the same in each set
module _ (u : List Fraction) where
  abbrev pub Bounded : ℕ → Parameter → Type 0
  Bounded k d = KeepsBounds d.lower d.upper (at u k)

  mapped_in : (set : List ℕ) (k : ℕ) (ps : List Parameter) → EachFrom k Bounded ps
      → EachFrom k Bounded (map (in_set set) ps)
  mapped_in set k [] h = tt
  mapped_in set k (p ∷ ps) h = (h.0, mapped_in set (suc k) ps h.1)

  mapped_out : (set : List ℕ) (k : ℕ) (ps : List Parameter)
      → EachFrom k Bounded (map (in_set set) ps) → EachFrom k Bounded ps
  mapped_out set k [] h = tt
  mapped_out set k (p ∷ ps) h = (h.0, mapped_out set (suc k) ps h.1)

  module _ (ps : List Parameter) where
    abbrev later : List (List ℕ) → List Parameter
    later sets = flat_map (λ set. map (in_set set) ps) sets

    same_offset : (k : ℕ) (set : List ℕ) → k + length (map (in_set set) ps) ≡ k + length ps
    same_offset k set = ap (λ n. k + n) (length-map ps (in_set set))

    pub blocks_out : (sets : List (List ℕ)) (k : ℕ) → EachFrom k Bounded (joint_parameters ps sets) → (S : ℕ) →
        S < suc (length sets) → EachFrom (k + S * length ps) Bounded ps
    blocks_out sets k h zero some =
        subst (λ j. EachFrom j Bounded ps) (let e : k ≡ k + zero * length ps = omega (arith, zero-mul (length ps)) in e)
        (each_from_left Bounded k ps (later sets) h)
    blocks_out [] k h (suc S) some = absurd (omega arith)
    blocks_out (set ∷ sets) k h (suc S) some =
        let next = each_from_right Bounded k ps (later (set ∷ sets)) h in
        subst (λ j. EachFrom j Bounded ps)
        (let e : (k + length ps) + S * length ps ≡ k + suc S * length ps = omega (arith, suc-mul S (length ps)) in e)
        (blocks_out sets (k + length ps)
        (each_from_append Bounded (k + length ps) ps (later sets)
        (mapped_out set (k + length ps) ps
        (each_from_left Bounded (k + length ps) (map (in_set set) ps) (later sets) next))
        (subst (λ j. EachFrom j Bounded (later sets)) (same_offset (k + length ps) set)
        (each_from_right Bounded (k + length ps) (map (in_set set) ps) (later sets) next)))
        S (omega arith))

    pub blocks_in : (sets : List (List ℕ)) (k : ℕ) →
        ((S : ℕ) → S < suc (length sets) → EachFrom (k + S * length ps) Bounded ps) →
        EachFrom k Bounded (joint_parameters ps sets)
    blocks_in [] k h =
        each_from_append Bounded k ps []
        (subst (λ j. EachFrom j Bounded ps) (let e : k + zero * length ps ≡ k =
        omega (arith, zero-mul (length ps)) in e)
        (h zero (omega arith))) tt
    blocks_in (set ∷ sets) k h =
        let next : EachFrom (k + length ps) Bounded (joint_parameters ps sets) =
        blocks_in sets (k + length ps)
        (λ S some. subst (λ j. EachFrom j Bounded ps)
        (let e : k + suc S * length ps ≡ (k + length ps) + S * length ps = omega (arith, suc-mul S (length ps)) in e)
        (h (suc S) (omega arith))) in
        each_from_append Bounded k ps (later (set ∷ sets))
        (subst (λ j. EachFrom j Bounded ps) (let e : k + zero * length ps ≡ k =
        omega (arith, zero-mul (length ps)) in e)
        (h zero (omega arith)))
        (each_from_append Bounded (k + length ps) (map (in_set set) ps) (later sets)
        (mapped_in set (k + length ps) ps (each_from_left Bounded (k + length ps) ps (later sets) next))
        (subst (λ j. EachFrom j Bounded (later sets)) (sym (same_offset (k + length ps) set))
        (each_from_right Bounded (k + length ps) ps (later sets) next)))

pub length-later : (ps : List Parameter) (sets : List (List ℕ)) →
    length (flat_map (λ set. map (in_set set) ps) sets) ≡ length sets * length ps
length-later ps [] = sym (zero-mul (length ps))
length-later ps (set ∷ sets) =
    length-append (map (in_set set) ps) (flat_map (λ set. map (in_set set) ps) sets)
    ∙ ap₂ ◌+◌ (length-map ps (in_set set)) (length-later ps sets)
    ∙ (let e : length ps + length sets * length ps ≡ suc (length sets) * length ps =
    omega (arith, suc-mul (length sets) (length ps)) in e)

module _ (m : RobustModel) (model : IsModel m) where
  -- ---- counts
  pub length-written : length (written_parameters m) ≡ written_count m
  length-written = length-take-le (written_count m) m.parameters (div-le_self (length m.parameters) (set_count m))

  pub length-parameters : length m.parameters ≡ set_count m * written_count m
  length-parameters =
      ap length model.parameters
      ∙ length-append (written_parameters m) (flat_map (λ set. map (in_set set) (written_parameters m)) m.sets)
      ∙ ap₂ ◌+◌ length-written
      (length-later (written_parameters m) m.sets ∙ ap (λ n. length m.sets * n) length-written)
      ∙ (let e : written_count m + length m.sets * written_count m ≡ suc (length m.sets) * written_count m
      = omega (arith, suc-mul (length m.sets) (written_count m)) in e)

  module _ (u : List Fraction) where
    -- ---- bounds
    pub bounds_joint : ((S : ℕ) → S < set_count m → EachFrom zero (Bounded (part_of m S u)) (written_parameters m)) →
        EachFrom zero (Bounded u) m.parameters
    bounds_joint h =
        subst (λ (ps : List Parameter). EachFrom zero (Bounded u) ps) (sym model.parameters)
        (blocks_in u (written_parameters m) m.sets zero
        (λ S some.
        each_from_map (Bounded (part_of m S u)) (Bounded u) zero (zero + S * length (written_parameters m))
        (written_parameters m)
        (λ i d small k.
        (let n = length-written in
        let below : i < written_count m = omega arith in
        subst (λ x. KeepsBounds d.lower d.upper x)
        (ap (λ j. at (part_of m S u) j) (let e : zero + i ≡ i = omega arith in e)
        ∙ at-part_of m S u i below
        ∙ ap (λ j. at u j)
        (ap (λ l. S * l + i) (sym length-written)
        ∙ (let e : S * length (written_parameters m) + i ≡ zero + S * length (written_parameters m) + i = omega arith in
        e)))
        k))
        (h S some)))

    bounds_apart : EachFrom zero (Bounded u) m.parameters → (S : ℕ) → S < set_count m →
        EachFrom zero (Bounded (part_of m S u)) (written_parameters m)
    bounds_apart h S some =
        each_from_map (Bounded u) (Bounded (part_of m S u)) (zero + S * length (written_parameters m)) zero
        (written_parameters m)
        (λ i d small k.
        (let n = length-written in
        let below : i < written_count m = omega arith in
        subst (λ x. KeepsBounds d.lower d.upper x)
        (sym (ap (λ j. at (part_of m S u) j) (let e : zero + i ≡ i = omega arith in e)
        ∙ at-part_of m S u i below
        ∙ ap (λ j. at u j)
        (ap (λ l. S * l + i) (sym length-written)
        ∙ (let e : S * length (written_parameters m) + i ≡ zero + S * length (written_parameters m) + i = omega arith in
        e))))
        k))
        (blocks_out u (written_parameters m) m.sets zero
        (subst (λ (ps : List Parameter). EachFrom zero (Bounded u) ps) model.parameters h) S some)

    -- ---- statements
    lines_joint : (k : ℕ) (cs : List SetLine) →
        EachFrom k (λ i c. (line_set m i < set_count m) × IsLineOf m (line_set m i) c) cs →
        EachFrom k (λ i c. (S : ℕ) → S < set_count m → line_set m i ≡ S
        → KeepsLine m (in_each_set m (part_of m S u)) c) cs →
        Each (KeepsLine m u) cs
    lines_joint k [] own h = tt
    lines_joint k (c ∷ cs) own h = (
      line_same m model.lists (line_set m k) (in_each_set m (part_of m (line_set m k) u)) u
          (agree_part m (line_set m k) u own.0.0) c own.0.1 (h.0 (line_set m k) own.0.0 refl),
      lines_joint (suc k) cs own.1 h.1,
    )

    lines_apart : (S : ℕ) → S < set_count m → (k : ℕ) (cs : List SetLine) →
        EachFrom k (λ i c. (line_set m i < set_count m) × IsLineOf m (line_set m i) c) cs → Each (KeepsLine m u) cs →
        EachFrom k (λ i c. line_set m i ≡ S → KeepsLine m (in_each_set m (part_of m S u)) c) cs
    lines_apart S some k [] own h = tt
    lines_apart S some k (c ∷ cs) own h = (
      λ e. line_same m model.lists S u (in_each_set m (part_of m S u))
          (λ j small. sym (agree_part m S u some j small)) c
          (subst (λ T. IsLineOf m T c) e own.0.1) h.0,
      lines_apart S some (suc k) cs own.1 h.1,
    )

    -- ---- admission
    pub admits_jointly : Admits m u → AdmitsJointly m u
    admits_jointly h = record {
      numbers = h.numbers;
      bounds = bounds_joint (λ S some. (h.parts S some).bounds);
      lines =
          lines_joint zero m.set_lines model.own_lines
          (each_from_over (set_count m) (λ S i c. line_set m i ≡ S
          → KeepsLine m (in_each_set m (part_of m S u)) c) zero m.set_lines
          (λ S some. (h.parts S some).lines));
    }

    pub jointly_admits : AdmitsJointly m u → Admits m u
    jointly_admits h = record {
      numbers = h.numbers;
      parts = λ S some. record {
        numbers = length-part_of m S u;
        bounds = bounds_apart h.bounds S some;
        lines = lines_apart S some zero m.set_lines model.own_lines h.lines;
      };
    }

    pub admits_meets : Admits m u → Meets m 1ℚ u
    admits_meets h = jointly_meets m u (admits_jointly h)

    pub meets_admits : Meets m 1ℚ u → Admits m u
    meets_admits h = jointly_admits (meets_jointly m u h)

    pub admission_law : Admits m u ↔ Meets m 1ℚ u
    admission_law = (admits_meets, meets_admits)

  -- ---- each set admits something
  pub joined_admits : (f : ℕ → List Fraction) → ((S : ℕ) → S < set_count m → AdmitsIn m S (f S)) →
      Admits m (joined_scenarios (length m.sets) f)
  joined_admits f h = record {
    numbers = length-joined (written_count m) (length m.sets) f (λ S some. (h S some).numbers) ∙ sym length-parameters;
    parts = λ S some.
        subst (λ (u : List Fraction). AdmitsIn m S u)
        (sym (part_of_joined m f (λ S some. (h S some).numbers) S some)) (h S some);
  }

-- ---- one set alone
module _ (m : RobustModel) (model : IsModel m) (alone : m.sets ≡ []) where
  own_part : (u : List Fraction) → length u ≡ written_count m → part_of m 0 u ≡ u
  own_part u fits =
      same_by_places (part_of m 0 u) u (length-part_of m 0 u ∙ sym fits)
      (λ k small.
      (let some = length-part_of m 0 u in
      at-part_of m 0 u k (omega arith)
      ∙ ap (λ j. at u j) (let e : zero * written_count m + k ≡ k = omega (arith, zero-mul (written_count m)) in e)))

  only_part : (u : List Fraction) → AdmitsIn m 0 (part_of m 0 u) → (S : ℕ) → S < set_count m
      → AdmitsIn m S (part_of m S u)
  only_part u h zero some = h
  only_part u h (suc S) some = absurd (let one = set_count-alone m alone in omega arith)

  pub one_set_law : (u : List Fraction) → AdmitsIn m 0 u ↔ AdmitsJointly m u
  one_set_law u = (
    λ h. admits_jointly m model u
        (record {
          numbers = h.numbers ∙ all_written m alone;
          parts = only_part u (subst (λ (v : List Fraction). AdmitsIn m 0 v) (sym (own_part u h.numbers)) h);
        }),
    λ h. subst (λ (v : List Fraction). AdmitsIn m 0 v) (own_part u (h.numbers ∙ sym (all_written m alone)))
        ((jointly_admits m model u h).parts 0 (omega arith)),
  )

abbrev first_then : {A : Type 0} → A → (ℕ → A) → ℕ → A
first_then a f zero = a
first_then a f (suc S) = f S

-- a choice in each of the first sets, as a function
choice : (A : Type 0) (x : A) (P : ℕ → A → Type 0) (count : ℕ) → ((S : ℕ) → S < count → (a : A) × P S a) →
    (f : ℕ → A) × ((S : ℕ) → S < count → P S (f S))
choice A x P zero h = (λ S. x, λ S some. absurd (omega arith))
choice A x P (suc count) h = by (choice A x (λ S. P (suc S)) count (λ S some. h (suc S) (omega arith)))
  where
    by : (f : ℕ → A) × ((S : ℕ) → S < count → P (suc S) (f S)) → (f : ℕ → A) × ((S : ℕ) → S < suc count → P S (f S))
    by rest = (first_then (h zero (omega arith)).0 rest.0, all)
      where
        all : (S : ℕ) → S < suc count → P S (first_then (h zero (omega arith)).0 rest.0 S)
        all zero some = (h zero (omega arith)).1
        all (suc S) some = rest.1 S (omega arith)

pub some_admitted_law : (m : RobustModel) → IsModel m →
    ((u : List Fraction) × Admits m u) ↔ ((S : ℕ) → S < set_count m → (u : List Fraction) × AdmitsIn m S u)
some_admitted_law m model = (
  λ h S some. (part_of m S h.0, h.1.parts S some),
  λ h.
      (let chosen = choice (List Fraction) [] (λ S u. AdmitsIn m S u) (set_count m) h in
      (joined_scenarios (length m.sets) chosen.0, joined_admits m model chosen.0 chosen.1)),
)
