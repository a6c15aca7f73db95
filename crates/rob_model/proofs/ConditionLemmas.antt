-- One set condition more: the declared bounds of a parameter, a statement, a member of a budget.
use Rattle.std.proofs.Common.{◌≡◌, ℕ, suc, ◌+◌, ◌<◌, ◌≤◌, List, [], ◌∷◌, ◌++◌, map, length, get_or, drop, arith, refl, ap, sym, ◌∙◌, add-one, Bool, true, false, append_assoc, ap₂, length-append}
use Rattle.std.specs.Prelude.{Option, Some, None, if◌then◌else◌, option_map, option_to_list, codes}
use Rattle.rob_algebra.specs.Fraction.{Fraction, ◌+ℚ◌}
use Rattle.rob_algebra.specs.Width.{kept}
use Rattle.rob_model.specs.GroupNames.{dotted, bound_names, parameter_bound_names}
use Rattle.rob_meaning.specs.RobustModel.{RobustModel, Parameter}
use Rattle.rob_meaning.specs.SetConditions.{SetCondition, lower_bound, upper_bound, stated, if_declared, bounds_from, all_stated}
use Rattle.rob_meaning.proofs.Tables.SizeLemmas.{length-declared}
use Rattle.rob_model.specs.View.{parameter_of, set_line_of, member_of}
use Rattle.rob_model.specs.Within.{◌>>=◌, holds_within, declared_within, deviation_within, total_within, first_within}
use Rattle.rob_model.proofs.PartLemmas.{drop_at, drop_all, stops, goes}
use Rattle.rob_model.specs.declared.model.Member.{Member}
use Rattle.rob_model.specs.declared.model.Param.{Param}
use Rattle.rob_model.specs.declared.model.SetLine.{SetLine}

-- how many bounds an `Option` declares
abbrev pub count_of : {A : Type 0} → Option A → ℕ
count_of o = length (option_to_list o)

pub few_declared : {A : Type 0} (o : Option A) → count_of o ≤ 1
few_declared None = omega arith
few_declared (Some x) = omega arith

-- of two bounds at most two are declared
pub two_declared : {A B : Type 0} (a : Option A) (b : Option B) {lower upper : ℕ}
    → lower ≡ count_of a → upper ≡ count_of b → lower + upper ≤ 2
two_declared a b l u = omega (arith, l, u, few_declared a, few_declared b)

pub count-map : {A B : Type 0} (f : A → B) (o : Option A) → count_of (option_map f o) ≡ count_of o
count-map f None = refl
count-map f (Some x) = refl

-- what follows from a test of condition `k`: the rest, or its number
abbrev pub next_or : Option (Option ℕ) → ℕ → Bool → Option (Option ℕ)
next_or rest k holds = if holds then rest else Some (Some k)

module _ (limit : ℕ) (m : RobustModel) (s : Fraction) (p : List Fraction) where
  -- a declared bound before other conditions
  declared_step : (f : Fraction → SetCondition) (o : Option Fraction) (cs : List SetCondition) (k : ℕ)
      → first_within limit m s p (if_declared f o ++ cs) k
      ≡ (declared_within limit m s p f o >>= next_or (first_within limit m s p cs (k + count_of o)) k)
  declared_step f None cs k = ap (first_within limit m s p cs) (let e : k ≡ k + 0 = omega arith in e)
  declared_step f (Some b) cs k = refl

  module _ {N : Type 0} (value : N → Fraction) where
    -- the bounds of the parameters from a place on
    abbrev pub bounds_left : List (Param N) → ℕ → ℕ → Option (Option ℕ)
    bounds_left ps i k = first_within limit m s p (bounds_from i (map (parameter_of value) (drop i ps))) k

    module _ (ps : List (Param N)) (i k : ℕ) (d : Param N) (h : i < length ps) (is : d ≡ get_or ps i d) where
      -- what the upper bound and the parameters behind give
      behind_lower : Option (Option ℕ)
      behind_lower = declared_within limit m s p (upper_bound i) (option_map value d.upper)
          >>= next_or (bounds_left ps (i + 1) (k + count_of d.lower + count_of d.upper)) (k + count_of d.lower)

      bounds_step : bounds_left ps i k
          ≡ (declared_within limit m s p (lower_bound i) (option_map value d.lower) >>= next_or behind_lower k)
      unfolding behind_lower
      bounds_step =
          let lower = option_map value d.lower in
          let upper = option_map value d.upper in
          let rest = bounds_from (suc i) (map (parameter_of value) (drop (i + 1) ps)) in
          ap (λ (xs : List (Param N)). first_within limit m s p (bounds_from i (map (parameter_of value) xs)) k)
          (drop_at ps i d h is)
          ∙ ap (λ cs. first_within limit m s p cs k)
          (append_assoc (if_declared (lower_bound i) lower) (if_declared (upper_bound i) upper) rest)
          ∙ declared_step (lower_bound i) lower (if_declared (upper_bound i) upper ++ rest) k
          ∙ ap (λ x. declared_within limit m s p (lower_bound i) lower >>= next_or x k)
          (declared_step (upper_bound i) upper rest (k + count_of lower)
          ∙ ap (λ j. declared_within limit m s p (upper_bound i) upper >>= next_or
          (first_within limit m s p (bounds_from j (map (parameter_of value) (drop (i + 1) ps)))
          (k + count_of lower + count_of upper)) (k + count_of lower)) (sym (add-one i))
          ∙ ap (λ c. declared_within limit m s p (upper_bound i) upper >>= next_or
          (bounds_left ps (i + 1) (k + c + count_of upper)) (k + c)) (count-map value d.lower)
          ∙ ap (λ c. declared_within limit m s p (upper_bound i) upper >>= next_or
          (bounds_left ps (i + 1) (k + count_of d.lower + c)) (k + count_of d.lower)) (count-map value d.upper))

      pub lower_stops : None ≡ declared_within limit m s p (lower_bound i) (option_map value d.lower)
          → None ≡ bounds_left ps i k
      lower_stops none = stops _ (next_or behind_lower k) none ∙ sym bounds_step

      pub lower_fails : Some false ≡ declared_within limit m s p (lower_bound i) (option_map value d.lower)
          → Some (Some k) ≡ bounds_left ps i k
      lower_fails broken = goes _ (next_or behind_lower k) false broken ∙ sym bounds_step

      behind : Some true ≡ declared_within limit m s p (lower_bound i) (option_map value d.lower)
          → behind_lower ≡ bounds_left ps i k
      behind lower_holds = goes _ (next_or behind_lower k) true lower_holds ∙ sym bounds_step

      module _ (lower_holds : Some true ≡ declared_within limit m s p (lower_bound i) (option_map value d.lower)) where
        pub upper_stops : None ≡ declared_within limit m s p (upper_bound i) (option_map value d.upper)
            → None ≡ bounds_left ps i k
        unfolding behind_lower
        upper_stops none =
            stops _ (next_or (bounds_left ps (i + 1) (k + count_of d.lower + count_of d.upper)) (k + count_of d.lower))
            none ∙ behind lower_holds

        pub upper_fails : Some false ≡ declared_within limit m s p (upper_bound i) (option_map value d.upper)
            → Some (Some (k + count_of d.lower)) ≡ bounds_left ps i k
        unfolding behind_lower
        upper_fails broken =
            goes _ (next_or (bounds_left ps (i + 1) (k + count_of d.lower + count_of d.upper)) (k + count_of d.lower))
            false broken ∙ behind lower_holds

        pub bounds_hold : Some true ≡ declared_within limit m s p (upper_bound i) (option_map value d.upper)
            → bounds_left ps (i + 1) (k + count_of d.lower + count_of d.upper) ≡ bounds_left ps i k
        unfolding behind_lower
        bounds_hold upper_holds =
            goes _ (next_or (bounds_left ps (i + 1) (k + count_of d.lower + count_of d.upper)) (k + count_of d.lower))
            true upper_holds ∙ behind lower_holds

    -- the statements from a place on
    abbrev pub statements_left : List (SetLine N) → ℕ → ℕ → Option (Option ℕ)
    statements_left ls i k = first_within limit m s p (all_stated (map (set_line_of value) (drop i ls))) k

    module _ (ls : List (SetLine N)) (i k : ℕ) (l : SetLine N) (h : i < length ls) (is : l ≡ get_or ls i l) where
      statement_step : statements_left ls i k
          ≡ (holds_within limit m s p (stated (set_line_of value l)) >>= next_or (statements_left ls (i + 1) (k + 1)) k)
      statement_step =
          ap (λ (xs : List (SetLine N)). first_within limit m s p (all_stated (map (set_line_of value) xs)) k)
          (drop_at ls i l h is)

      pub statement_stops : None ≡ holds_within limit m s p (stated (set_line_of value l))
          → None ≡ statements_left ls i k
      statement_stops none = stops _ (next_or (statements_left ls (i + 1) (k + 1)) k) none ∙ sym statement_step

      pub statement_fails : Some false ≡ holds_within limit m s p (stated (set_line_of value l))
          → Some (Some k) ≡ statements_left ls i k
      statement_fails broken = goes _ (next_or (statements_left ls (i + 1) (k + 1)) k) false broken ∙ sym statement_step

      pub statement_holds : Some true ≡ holds_within limit m s p (stated (set_line_of value l))
          → statements_left ls (i + 1) (k + 1) ≡ statements_left ls i k
      statement_holds kept_line =
          goes _ (next_or (statements_left ls (i + 1) (k + 1)) k) true kept_line ∙ sym statement_step

    -- the members from a place on
    abbrev pub total_left : List (Member N) → ℕ → Fraction → Option Fraction
    total_left hs i so_far = total_within limit m s p (map (member_of value) (drop i hs)) so_far

    module _ (hs : List (Member N)) (i : ℕ) (so_far : Fraction) (member : Member N) (h : i < length hs)
        (is : member ≡ get_or hs i member) where
      total_step : total_left hs i so_far
          ≡ (deviation_within limit m s p (member_of value member) >>=
          (λ part. kept limit (so_far +ℚ part) >>= total_left hs (i + 1)))
      total_step =
          ap (λ (xs : List (Member N)). total_within limit m s p (map (member_of value) xs) so_far)
          (drop_at hs i member h is)

      pub total_stops : None ≡ deviation_within limit m s p (member_of value member) → None ≡ total_left hs i so_far
      total_stops none = stops _ (λ part. kept limit (so_far +ℚ part) >>= total_left hs (i + 1)) none ∙ sym total_step

      pub total_goes : (part : Fraction) (next : Option Fraction)
          → Some part ≡ deviation_within limit m s p (member_of value member)
          → next ≡ kept limit (so_far +ℚ part) → (next >>= total_left hs (i + 1)) ≡ total_left hs i so_far
      total_goes part next some kept_is =
          ap (λ o. o >>= total_left hs (i + 1)) kept_is
          ∙ goes _ (λ part. kept limit (so_far +ℚ part) >>= total_left hs (i + 1)) part some ∙ sym total_step

      -- behind the last member nothing is added
      pub total_goes_on : (part next : Fraction) → Some part ≡ deviation_within limit m s p (member_of value member)
          → Some next ≡ kept limit (so_far +ℚ part) → (whole : Option Fraction) → total_left hs i so_far ≡ whole
          → total_left hs (i + 1) next ≡ whole
      total_goes_on part next some kept_is whole rest = total_goes part (Some next) some kept_is ∙ rest

    pub total_ends : (hs : List (Member N)) (i : ℕ) (so_far : Fraction) → length hs ≤ i
        → Some so_far ≡ total_left hs i so_far
    total_ends hs i so_far h =
        ap (λ (xs : List (Member N)). total_within limit m s p (map (member_of value) xs) so_far)
        (sym (drop_all i hs h))

-- ---- two lists of conditions
-- the first that fails in the second list, where none does in the first
or_else : Option (Option ℕ) → Option (Option ℕ) → Option (Option ℕ)
or_else None rest = None
or_else (Some None) rest = rest
or_else (Some (Some k)) rest = Some (Some k)

-- a test before both
after : (o : Option Bool) (k : ℕ) (both first rest : Option (Option ℕ)) → both ≡ or_else first rest
    → (o >>= next_or both k) ≡ or_else (o >>= next_or first k) rest
unfolding or_else
after None k both first rest h = refl
after (Some false) k both first rest h = refl
after (Some true) k both first rest h = h

module _ (limit : ℕ) (m : RobustModel) (s : Fraction) (p : List Fraction) where
  first-append : (xs ys : List SetCondition) (k : ℕ)
      → first_within limit m s p (xs ++ ys) k
      ≡ or_else (first_within limit m s p xs k) (first_within limit m s p ys (k + length xs))
  unfolding or_else
  first-append [] ys k = ap (first_within limit m s p ys) (let e : k ≡ k + 0 = omega arith in e)
  first-append (x ∷ xs) ys k =
      after (holds_within limit m s p x) k (first_within limit m s p (xs ++ ys) (k + 1))
      (first_within limit m s p xs (k + 1)) (first_within limit m s p ys (k + suc (length xs)))
      (first-append xs ys (k + 1)
      ∙ ap (λ j. or_else (first_within limit m s p xs (k + 1)) (first_within limit m s p ys j))
      (let e : (k + 1) + length xs ≡ k + suc (length xs) = omega arith in e))

  module _ (xs ys : List SetCondition) where
    pub append_stops : None ≡ first_within limit m s p xs 0 → None ≡ first_within limit m s p (xs ++ ys) 0
    unfolding or_else
    append_stops none =
        ap (λ o. or_else o (first_within limit m s p ys (0 + length xs))) none ∙ sym (first-append xs ys 0)

    pub append_fails : (k : ℕ) → Some (Some k) ≡ first_within limit m s p xs 0
        → Some (Some k) ≡ first_within limit m s p (xs ++ ys) 0
    unfolding or_else
    append_fails k broken =
        ap (λ o. or_else o (first_within limit m s p ys (0 + length xs))) broken ∙ sym (first-append xs ys 0)

    pub append_goes : (n : ℕ) → n ≡ length xs → Some None ≡ first_within limit m s p xs 0
        → first_within limit m s p ys n ≡ first_within limit m s p (xs ++ ys) 0
    unfolding or_else
    append_goes n is all =
        ap (first_within limit m s p ys) (is ∙ (let e : length xs ≡ 0 + length xs = omega arith in e))
        ∙ ap (λ o. or_else o (first_within limit m s p ys (0 + length xs))) all ∙ sym (first-append xs ys 0)

-- ---- the number of declared bounds
-- as many names as conditions
pub length-bounds : (k : ℕ) (ps : List Parameter) → length (bounds_from k ps) ≡ length (parameter_bound_names ps)
length-bounds k [] = refl
length-bounds k (d ∷ ps) =
    let lower = if_declared (lower_bound k) d.lower in
    let upper = if_declared (upper_bound k) d.upper in
    let lower_name = if_declared (λ l. dotted d.name (codes "lower")) d.lower in
    let upper_name = if_declared (λ b. dotted d.name (codes "upper")) d.upper in
    omega (
      arith,
      length-bounds (suc k) ps,
      length-append (lower ++ upper) (bounds_from (suc k) ps),
      length-append lower upper,
      length-append (lower_name ++ upper_name) (parameter_bound_names ps),
      length-append lower_name upper_name,
      length-declared (lower_bound k) d.lower,
      length-declared (upper_bound k) d.upper,
      length-declared (λ l. dotted d.name (codes "lower")) d.lower,
      length-declared (λ b. dotted d.name (codes "upper")) d.upper,
    )

-- the number of names of declared bounds
pub length-bound_names : (name : List ℕ) (lower upper : Option Fraction)
    → length (bound_names name lower upper) ≡ count_of lower + count_of upper
length-bound_names name lower upper =
    length-append (if_declared (λ l. dotted name (codes "lower")) lower)
    (if_declared (λ b. dotted name (codes "upper")) upper)
    ∙ ap₂ ◌+◌ (length-declared (λ l. dotted name (codes "lower")) lower)
    (length-declared (λ b. dotted name (codes "upper")) upper)

module _ {N : Type 0} (value : N → Fraction) where
  -- the statements behind the bounds have the numbers behind those of the bounds
  pub count_is : (n : ℕ) (ps : List (Param N)) → n ≡ length (parameter_bound_names (map (parameter_of value) ps))
      → n ≡ length (bounds_from 0 (map (parameter_of value) ps))
  count_is n ps h = h ∙ sym (length-bounds 0 (map (parameter_of value) ps))

  -- one parameter more
  pub count_more : (ps : List (Param N)) (i n : ℕ) (d : Param N) → i < length ps → d ≡ get_or ps i d
      → n + length (parameter_bound_names (map (parameter_of value) (drop i ps)))
      ≡ length (parameter_bound_names (map (parameter_of value) ps))
      → n + (count_of d.lower + count_of d.upper)
      + length (parameter_bound_names (map (parameter_of value) (drop (i + 1) ps)))
      ≡ length (parameter_bound_names (map (parameter_of value) ps))
  count_more ps i n d h is before =
      let rest = parameter_bound_names (map (parameter_of value) (drop (i + 1) ps)) in
      let here = bound_names d.name (option_map value d.lower) (option_map value d.upper) in
      omega (
        arith,
        before,
        ap (λ (xs : List (Param N)). length (parameter_bound_names (map (parameter_of value) xs)))
            (drop_at ps i d h is),
        length-append here rest,
        length-bound_names d.name (option_map value d.lower) (option_map value d.upper),
        count-map value d.lower,
        count-map value d.upper,
      )
