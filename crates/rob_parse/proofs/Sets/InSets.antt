-- A model over written parameters and the model that it is in named sets: each written parameter stands once for each
-- set, and each statement, row and objective is taken in its set.
use Rattle.std.proofs.Common.{◌≡◌, ◌≢◌, ℕ, zero, suc, ◌+◌, ◌*◌, ◌/◌, ◌<◌, ◌≤◌, List, [], ◌∷◌, length, map, take, get_or, max, refl, sym, ap, ◌∙◌, subst, arith, length-append, suc-mul, div-one}
use Rattle.std.specs.List.{flat_map}
use Rattle.std.proofs.Math.Nat.{mul-div_cancel_left, mul-le-mul_right}
use Rattle.std.proofs.Math.Seq.{take-append_seam}
use Rattle.std.proofs.lemmas.List.{length-map}
use Rattle.rob_meaning.proofs.Conditions.AdmittedLemmas.{length-later}
use Rattle.rob_meaning.specs.Degrees as degrees
use Rattle.rob_meaning.specs.Degrees.{IsLinear, AreLinear, FactorsLinear}
use Rattle.rob_meaning.specs.Expressions.{Expression, Terms, Factors, number, parameter, variable, adaptive, adaptive_in, sum, product, no_terms, term, no_factors, factor}
use Rattle.rob_meaning.specs.Named.{AreDistinct, HasDistinctMembers}
use Rattle.rob_meaning.specs.Places.{Each, EachFrom}
use Rattle.rob_meaning.specs.RobustModel.{AdaptiveVariable, Member, Parameter, RobustModel, Row, SetLine, budget, in_set, joint_parameters, line, line_set, row_set, set_count, written_count, written_parameters}
use Rattle.rob_meaning.specs.SetRows.{lift_count}
use Rattle.rob_meaning.specs.WellFormed.{FactorsInside, FactorsOf, IsExpression, IsInside, IsLineOf, IsMember, IsModel, IsOf, IsParameterOf, IsSetLine, TermsInside, TermsOf}
use Rattle.rob_parse.specs.Models.{adaptive_taken, each_taken, factors_taken, in_sets, line_taken, member_taken, row_taken, taken, terms_taken}

-- ---- the joint parameters
pub length_joint : (ps : List Parameter) (sets : List (List ℕ))
    → length (joint_parameters ps sets) ≡ suc (length sets) * length ps
length_joint ps sets =
    length-append ps (flat_map (λ set. map (in_set set) ps) sets)
    ∙ (let e : length ps + length (flat_map (λ set. map (in_set set) ps) sets) ≡ suc (length sets) * length ps
    = omega (arith, length-later ps sets, suc-mul (length sets) (length ps)) in e)

-- a written parameter in a set is a joint one
pub joint_inside : (p n S k : ℕ) → k < p → S < n → S * p + k < n * p
joint_inside p n S k small some =
    let h : suc S * p ≤ n * p = mul-le-mul_right p some in
    omega (arith, h, suc-mul S p)

-- ---- what is taken in a set
module _ (p S : ℕ) where
  -- degrees stay
  module _ (a b : ℕ) (c : ℕ → ℕ) where
    adaptive_degree : (S y : ℕ) → degrees.degree a b c (adaptive_taken S y) ≡ c y
    adaptive_degree zero y = refl
    adaptive_degree (suc S) y = refl

    mutual
      pub taken_degree : (e : Expression) → degrees.degree a b c (taken p S e) ≡ degrees.degree a b c e
      taken_degree (number q) = refl
      taken_degree (parameter k) = refl
      taken_degree (variable k) = refl
      taken_degree (adaptive y) = adaptive_degree S y
      taken_degree (adaptive_in y T) = refl
      taken_degree (sum ts) = terms_degree ts
      taken_degree (product fs) = factors_degree fs

      terms_degree : (ts : Terms) → degrees.sum_degree a b c (terms_taken p S ts) ≡ degrees.sum_degree a b c ts
      terms_degree no_terms = refl
      terms_degree (term minus e ts) = λ i. max (taken_degree e i) (terms_degree ts i)

      factors_degree : (fs : Factors)
          → degrees.product_degree a b c (factors_taken p S fs) ≡ degrees.product_degree a b c fs
      factors_degree no_factors = refl
      factors_degree (factor e fs) = λ i. taken_degree e i + factors_degree fs i

-- ---- written forms
module _ (w : RobustModel) (alone : w.sets ≡ []) (names : List (List ℕ)) (of_lines : List ℕ) (of_objective : ℕ)
    (of_rows : List ℕ) where
  abbrev p : ℕ
  p = length w.parameters

  abbrev m : RobustModel
  m = in_sets w names of_lines of_objective of_rows

  pub count_is : written_count m ≡ p
  count_is =
      ap (λ (n : ℕ). n / suc (length names)) (length_joint w.parameters names)
      ∙ mul-div_cancel_left p (let some : zero < suc (length names) = omega arith in some)

  pub parameters_are : written_parameters m ≡ w.parameters
  parameters_are =
      ap (λ (n : ℕ). take n (joint_parameters w.parameters names)) count_is
      ∙ take-append_seam w.parameters (flat_map (λ set. map (in_set set) w.parameters) names)

  -- no set of its own: so no adaptive variable is taken in one
  pub none_named : (S : ℕ) → zero < S → S < set_count w → ⊥
  none_named S some small = let e : set_count w ≡ 1 = ap (λ (l : List (List ℕ)). suc (length l)) alone in omega arith

  abbrev RowInside : Row → Type 0
  RowInside r = IsExpression w r.left × IsExpression w r.right

  -- ---- well formed
  module _ (good : IsModel w) (fits_lines : length of_lines ≡ length w.set_lines)
      (fits_rows : length of_rows ≡ length w.rows)
      (lines_there : Each (λ S. S < suc (length names)) of_lines) (objective_there : of_objective < suc (length names))
      (rows_there : Each (λ S. S < suc (length names)) of_rows) where
    adaptive_inside : (S y : ℕ) → S < suc (length names) → y < length w.adaptives → IsInside m (adaptive_taken S y)
    adaptive_inside zero y some h = h
    adaptive_inside (suc S) y some h = (h, (let k : zero < suc S = omega arith in k), some)

    joint_small : (S k : ℕ) → S < suc (length names) → k < p → S * p + k < length m.parameters
    joint_small S k some small =
        subst (λ (n : ℕ). S * p + k < n) (sym (length_joint w.parameters names))
        (joint_inside p (suc (length names)) S k small some)

    mutual
      inside : (S : ℕ) → S < suc (length names) → (e : Expression) → IsInside w e → IsInside m (taken p S e)
      inside S some (number q) h = tt
      inside S some (parameter k) h = joint_small S k some h
      inside S some (variable k) h = h
      inside S some (adaptive y) h = adaptive_inside S y some h
      inside S some (adaptive_in y T) h = absurd (none_named T h.1 h.2)
      inside S some (sum ts) h = terms_inside S some ts h
      inside S some (product fs) h = factors_inside S some fs h

      terms_inside : (S : ℕ) → S < suc (length names) → (ts : Terms) → TermsInside w ts
          → TermsInside m (terms_taken p S ts)
      terms_inside S some no_terms h = tt
      terms_inside S some (term minus e ts) h = (inside S some e h.0, terms_inside S some ts h.1)

      factors_inside : (S : ℕ) → S < suc (length names) → (fs : Factors) → FactorsInside w fs
          → FactorsInside m (factors_taken p S fs)
      factors_inside S some no_factors h = tt
      factors_inside S some (factor e fs) h = (inside S some e h.0, factors_inside S some fs h.1)

    own_adaptive : (S y : ℕ) → IsOf m S (adaptive_taken S y)
    own_adaptive zero y = refl
    own_adaptive (suc S) y = refl

    own_parameter : (S k : ℕ) → k < p → IsParameterOf m S (S * p + k)
    own_parameter S k small =
        (k, subst (λ (n : ℕ). k < n) (sym count_is) small, ap (λ (n : ℕ). S * n + k) (sym count_is))

    mutual
      own : (S : ℕ) (e : Expression) → IsInside w e → IsOf m S (taken p S e)
      own S (number q) h = tt
      own S (parameter k) h = own_parameter S k h
      own S (variable k) h = tt
      own S (adaptive y) h = own_adaptive S y
      own S (adaptive_in y T) h = absurd (none_named T h.1 h.2)
      own S (sum ts) h = terms_own S ts h
      own S (product fs) h = factors_own S fs h

      terms_own : (S : ℕ) (ts : Terms) → TermsInside w ts → TermsOf m S (terms_taken p S ts)
      terms_own S no_terms h = tt
      terms_own S (term minus e ts) h = (own S e h.0, terms_own S ts h.1)

      factors_own : (S : ℕ) (fs : Factors) → FactorsInside w fs → FactorsOf m S (factors_taken p S fs)
      factors_own S no_factors h = tt
      factors_own S (factor e fs) h = (own S e h.0, factors_own S fs h.1)

    adaptive_linear : (S y : ℕ) → IsLinear m (adaptive_taken S y)
    adaptive_linear zero y = tt
    adaptive_linear (suc S) y = tt

    mutual
      linear : (S : ℕ) (e : Expression) → IsLinear w e → IsLinear m (taken p S e)
      linear S (number q) h = tt
      linear S (parameter k) h = tt
      linear S (variable k) h = tt
      linear S (adaptive y) h = adaptive_linear S y
      linear S (adaptive_in y T) h = tt
      linear S (sum ts) h = terms_linear S ts h
      linear S (product fs) h = (
        subst (λ (n : ℕ). n ≤ 1) (sym (taken_degree p S 1 0 _ (product fs))) h.0,
        subst (λ (n : ℕ). n ≤ 1) (sym (taken_degree p S 0 1 (λ y. 1) (product fs))) h.1,
        factors_linear S fs h.2,
      )

      terms_linear : (S : ℕ) (ts : Terms) → AreLinear w ts → AreLinear m (terms_taken p S ts)
      terms_linear S no_terms h = tt
      terms_linear S (term minus e ts) h = (linear S e h.0, terms_linear S ts h.1)

      factors_linear : (S : ℕ) (fs : Factors) → FactorsLinear w fs → FactorsLinear m (factors_taken p S fs)
      factors_linear S no_factors h = tt
      factors_linear S (factor e fs) h = (linear S e h.0, factors_linear S fs h.1)

    expression : (S : ℕ) → S < suc (length names) → (e : Expression) → IsExpression w e → IsExpression m (taken p S e)
    expression S some e h = (inside S some e h.0, linear S e h.1)

    members_in : (S : ℕ) → S < suc (length names) → (hs : List Member) → Each (IsMember w) hs
        → Each (IsMember m) (map (member_taken p S) hs)
    members_in S some [] h = tt
    members_in S some (x ∷ hs) h = ((joint_small S x.parameter some h.0.0, h.0.1), members_in S some hs h.1)

    members_own : (S : ℕ) (hs : List Member) → Each (IsMember w) hs
        → Each (λ (x : Member). IsParameterOf m S x.parameter) (map (member_taken p S) hs)
    members_own S [] h = tt
    members_own S (x ∷ hs) h = (own_parameter S x.parameter h.0.0, members_own S hs h.1)

    set_line : (S : ℕ) → S < suc (length names) → (c : SetLine) → IsSetLine w c → IsSetLine m (line_taken p S c)
    set_line S some (line l r x) h = (
      (expression S some l h.0.0, taken_degree p S 0 1 (λ y. 1) l ∙ h.0.1),
      (expression S some x h.1.0, taken_degree p S 0 1 (λ y. 1) x ∙ h.1.1),
    )
    set_line S some (budget limit hs) h = members_in S some hs h

    line_own : (S : ℕ) (c : SetLine) → IsSetLine w c → IsLineOf m S (line_taken p S c)
    line_own S (line l r x) h = (own S l h.0.0.0, own S x h.1.0.0)
    line_own S (budget limit hs) h = members_own S hs h

    -- items beside their sets
    beside : {A : Type 0} (take : ℕ → A → A) (P Q : A → Type 0)
        → ((S : ℕ) → S < suc (length names) → (x : A) → P x → Q (take S x)) → (xs : List A) (Ss : List ℕ)
        → Each P xs → length Ss ≡ length xs → Each (λ S. S < suc (length names)) Ss → Each Q (each_taken take xs Ss)
    beside take P Q to [] Ss h same there = tt
    beside take P Q to (x ∷ xs) [] h same there = absurd (omega (arith, same))
    beside take P Q to (x ∷ xs) (S ∷ Ss) h same there =
        (to S there.0 x h.0, beside take P Q to xs Ss h.1 (omega (arith, same)) there.1)

    beside_own : {A : Type 0} (take : ℕ → A → A) (P : A → Type 0) (Q : ℕ → A → Type 0)
        → ((S : ℕ) (x : A) → P x → Q S (take S x)) → (at : ℕ → ℕ) (k : ℕ) (xs : List A) (Ss : List ℕ)
        → Each P xs → length Ss ≡ length xs → Each (λ S. S < suc (length names)) Ss
        → ((i : ℕ) → at (k + i) ≡ get_or Ss i 0)
        → EachFrom k (λ i x. (at i < suc (length names)) × Q (at i) x) (each_taken take xs Ss)
    beside_own take P Q to at k [] Ss h same there is = tt
    beside_own take P Q to at k (x ∷ xs) [] h same there is = absurd (omega (arith, same))
    beside_own take P Q to at k (x ∷ xs) (S ∷ Ss) h same there is =
        let here : at k ≡ S = (let e : k ≡ k + zero = omega arith in ap at e) ∙ is zero in (
          subst (λ (T : ℕ). (T < suc (length names)) × Q T (take S x)) (sym here) (there.0, to S x h.0),
          beside_own take P Q to at (suc k) xs Ss h.1 (omega (arith, same)) there.1
              (λ i. (let e : suc k + i ≡ k + suc i = omega arith in ap at e) ∙ is (suc i)),
        )

    written_w : written_count w ≡ p
    written_w = ap (λ (n : ℕ). p / n) (ap (λ (l : List (List ℕ)). suc (length l)) alone) ∙ div-one p

    pub in_sets_model : IsModel m
    in_sets_model = record {
      parameters = ap (λ (ps : List Parameter). joint_parameters ps names) (sym parameters_are);
      set_lines =
          beside (line_taken p) (IsSetLine w) (IsSetLine m) set_line w.set_lines of_lines good.set_lines fits_lines
          lines_there;
      lists =
          subst (λ (n : ℕ). Each (λ (y : AdaptiveVariable). Each (λ k. k < n) y.on) w.adaptives)
          (written_w ∙ sym count_is) good.lists;
      objective = expression of_objective objective_there w.objective good.objective;
      rows = beside (row_taken p) RowInside (λ (r : Row). IsExpression m r.left × IsExpression m r.right)
          (λ S some r h. (expression S some r.left h.0, expression S some r.right h.1)) w.rows of_rows good.rows
          fits_rows rows_there;
      own_lines =
          beside_own (line_taken p) (IsSetLine w) (IsLineOf m) line_own (line_set m) zero w.set_lines of_lines
          good.set_lines fits_lines lines_there
          (λ i. let e : zero + i ≡ i = omega arith in ap (λ (j : ℕ). get_or of_lines j 0) e);
      own_objective = (objective_there, own of_objective w.objective good.objective.0);
      own_rows =
          beside_own (row_taken p) RowInside (λ S (r : Row). IsOf m S r.left × IsOf m S r.right)
          (λ S r h. (own S r.left h.0.0, own S r.right h.1.0))
          (row_set m) zero w.rows of_rows good.rows fits_rows rows_there
          (λ i. let e : zero + i ≡ i = omega arith in ap (λ (j : ℕ). get_or of_rows j 0) e);
    }

  -- ---- no budget has a parameter twice
  apart_taken : (S k : ℕ) (hs : List Member) → Each (λ j. k ≢ j) (map (λ (x : Member). x.parameter) hs)
      → Each (λ j. S * p + k ≢ j) (map (λ (x : Member). x.parameter) (map (member_taken p S) hs))
  apart_taken S k [] h = tt
  apart_taken S k (x ∷ hs) h = ((λ e. h.0 (omega (arith, e))), apart_taken S k hs h.1)

  distinct_taken : (S : ℕ) (hs : List Member) → AreDistinct (map (λ (x : Member). x.parameter) hs)
      → AreDistinct (map (λ (x : Member). x.parameter) (map (member_taken p S) hs))
  distinct_taken S [] h = tt
  distinct_taken S (x ∷ hs) h = (apart_taken S x.parameter hs h.0, distinct_taken S hs h.1)

  line_distinct : (S : ℕ) (c : SetLine) → HasDistinctMembers c → HasDistinctMembers (line_taken p S c)
  line_distinct S (line l r x) h = tt
  line_distinct S (budget limit hs) h = distinct_taken S hs h

  pub lines_distinct : (cs : List SetLine) (Ss : List ℕ) → Each HasDistinctMembers cs
      → Each HasDistinctMembers (each_taken (line_taken p) cs Ss)
  lines_distinct [] Ss h = tt
  lines_distinct (c ∷ cs) [] h = h
  lines_distinct (c ∷ cs) (S ∷ Ss) h = (line_distinct S c h.0, lines_distinct cs Ss h.1)

-- ---- counts and names stay
pub length-each_taken : {A : Type 0} (take : ℕ → A → A) (xs : List A) (Ss : List ℕ)
    → length (each_taken take xs Ss) ≡ length xs
length-each_taken take [] Ss = refl
length-each_taken take (x ∷ xs) [] = refl
length-each_taken take (x ∷ xs) (S ∷ Ss) = ap suc (length-each_taken take xs Ss)

pub lifts_taken : (p : ℕ) (cs : List SetLine) (Ss : List ℕ)
    → lift_count (each_taken (line_taken p) cs Ss) ≡ lift_count cs
lifts_taken p [] Ss = refl
lifts_taken p (c ∷ cs) [] = refl
lifts_taken p (line l r x ∷ cs) (S ∷ Ss) = lifts_taken p cs Ss
lifts_taken p (budget limit hs ∷ cs) (S ∷ Ss) = λ i. length-map hs (member_taken p S) i + lifts_taken p cs Ss i

pub names_taken : (p : ℕ) (rs : List Row) (Ss : List ℕ)
    → map (λ (r : Row). r.name) (each_taken (row_taken p) rs Ss) ≡ map (λ (r : Row). r.name) rs
names_taken p [] Ss = refl
names_taken p (r ∷ rs) [] = refl
names_taken p (r ∷ rs) (S ∷ Ss) = ap (λ (l : List (List ℕ)). r.name ∷ l) (names_taken p rs Ss)
