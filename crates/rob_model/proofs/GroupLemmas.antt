-- The names of a group by their numbers.
use Rattle.std.proofs.Common.{◌≡◌, ℕ, zero, suc, ◌+◌, ◌*◌, ◌<◌, ◌≤◌, ◌-◌, List, [], ◌∷◌, ◌++◌, map, length, get_or, arith, refl, ap, sym, ◌∙◌, append_assoc, ap₂, add-one, subst, take, Bool, true, false}
use Rattle.std.specs.Prelude.{Some, None, slice_get, flat_map, codes, option_map, if◌then◌else◌, ◌==◌}
use Rattle.std.specs.Fmt.{decimal}
use Rattle.std.proofs.lemmas.List.{append-nil, length-map, get_or-map}
use Rattle.std.proofs.lemmas.Option.{slice_get-map, slice_get_read, slice_get-get_or}
use Rattle.rob_algebra.specs.Fraction.{Fraction}
use Rattle.rob_meaning.specs.Names.{Name, parameter_name}
use Rattle.rob_model.specs.GroupNames.{dotted, numbered, rule_names, statement_row_names, lift_names}
use Rattle.rob_meaning.specs.Places.{Each}
use Rattle.rob_meaning.specs.RobustModel.{Parameter, SetLine, line, budget, Member as MemberOf}
use Rattle.rob_model.specs.NameGroups.{member_count}
use Rattle.rob_model.specs.Spelling.{spelled}
use Rattle.rob_model.specs.View.{parameter_of, adaptive_of, member_of, set_line_of}
use Rattle.rob_model.proofs.KeptLemmas.{some_is}
use Rattle.rob_model.specs.declared.model.Adaptive.{Adaptive}
use Rattle.rob_model.specs.declared.model.Member.{Member}
use Rattle.rob_model.specs.declared.model.Param.{Param}
use Rattle.rob_model.specs.declared.model.SetLine.{SetLine as SetLineOf}
use Rattle.rob_model.specs.declared.model.SetLine.TheVariants.{Budget}

-- ---- spellings
pub spelled-numbered_last : (word : Name) (n : ℕ) (last : Name)
    → spelled word (Some n) None (Some last) ≡ dotted (numbered word n) last
spelled-numbered_last word n last = sym (append_assoc word (codes "." ++ decimal n) (codes "." ++ last))

pub spelled-numbered_second : (word : Name) (n : ℕ) (part : Name)
    → spelled word (Some n) (Some part) None ≡ dotted (numbered word n) part
spelled-numbered_second word n part =
    ap (λ tail. word ++ ((codes "." ++ decimal n) ++ tail)) (append-nil (codes "." ++ part))
    ∙ sym (append_assoc word (codes "." ++ decimal n) (codes "." ++ part))

pub spelled-all : (word : Name) (n : ℕ) (part last : Name)
    → spelled word (Some n) (Some part) (Some last) ≡ dotted (dotted (numbered word n) part) last
spelled-all word n part last =
    sym (append_assoc (word ++ (codes "." ++ decimal n)) (codes "." ++ part) (codes "." ++ last)
    ∙ append_assoc word (codes "." ++ decimal n) ((codes "." ++ part) ++ (codes "." ++ last)))

-- ---- parameters
module _ {N : Type 0} (value : N → Fraction) where
  pub parameter_here : (ps : List (Param N)) (k : ℕ) (d : Param N) → k < length ps → d ≡ get_or ps k d
      → parameter_name (map (parameter_of value) ps) k ≡ d.name
  parameter_here [] k d h e = absurd (omega arith)
  parameter_here (p ∷ ps) zero d h e = ap (λ (q : Param N). q.name) (sym e)
  parameter_here (p ∷ ps) (suc k) d h e = parameter_here ps k d (omega arith) e

  pub parameter_past : (ps : List (Param N)) (k : ℕ) → length ps ≤ k
      → parameter_name (map (parameter_of value) ps) k ≡ []
  parameter_past [] k h = refl
  parameter_past (p ∷ ps) zero h = absurd (omega arith)
  parameter_past (p ∷ ps) (suc k) h = parameter_past ps k (omega arith)

-- ---- the rows of a budget: two for each member, and then the sum
module _ {A : Type 0} (up down : A → Name) (last : Name) where
  pub pairs : List A → List Name
  pairs hs = flat_map (λ h. up h ∷ down h ∷ []) hs ++ last ∷ []

  first_of : (a b : Name) (rest : List Name) (r : ℕ) → r < 2 → slice_get (a ∷ b ∷ rest) r ≡ slice_get (a ∷ b ∷ []) r
  first_of a b rest zero h = refl
  first_of a b rest (suc zero) h = refl
  first_of a b rest (suc (suc r)) h = absurd (omega arith)

  pub pair_at : (hs : List A) (i r index : ℕ) (h : A) → i < length hs → h ≡ get_or hs i h → r < 2 → index ≡ 2 * i + r
      → slice_get (pairs hs) index ≡ slice_get (up h ∷ down h ∷ []) r
  unfolding pairs
  pair_at [] i r index h lt e small is = absurd (omega arith)
  pair_at (x ∷ xs) zero r index h lt e small is =
      ap (slice_get (up x ∷ down x ∷ (flat_map (λ h. up h ∷ down h ∷ []) xs ++ last ∷ [])))
      (let same : index ≡ r = omega arith in same)
      ∙ first_of (up x) (down x) (flat_map (λ h. up h ∷ down h ∷ []) xs ++ last ∷ []) r small
      ∙ ap (λ h. slice_get (up h ∷ down h ∷ []) r) (sym e)
  pair_at (x ∷ xs) (suc i) r zero h lt e small is = absurd (omega arith)
  pair_at (x ∷ xs) (suc i) r (suc zero) h lt e small is = absurd (omega arith)
  pair_at (x ∷ xs) (suc i) r (suc (suc index)) h lt e small is =
      pair_at xs i r index h (omega arith) e small (omega arith)

  pub pair_last : (hs : List A) (index : ℕ) → index ≡ 2 * length hs → slice_get (pairs hs) index ≡ Some last
  unfolding pairs
  pair_last [] zero is = refl
  pair_last [] (suc index) is = absurd (omega arith)
  pair_last (x ∷ xs) zero is = absurd (omega arith)
  pair_last (x ∷ xs) (suc zero) is = absurd (omega arith)
  pair_last (x ∷ xs) (suc (suc index)) is = pair_last xs index (omega arith)

  length-pairs : (hs : List A) → length (pairs hs) ≡ 2 * length hs + 1
  unfolding pairs
  length-pairs [] = refl
  length-pairs (x ∷ xs) =
      ap (λ n. suc (suc n)) (length-pairs xs)
      ∙ (let e : suc (suc (2 * length xs + 1)) ≡ 2 * suc (length xs) + 1 = omega arith in e)

way_at : (a b : Name) (r : ℕ) → r < 2 → slice_get (a ∷ b ∷ []) r ≡ Some (if r == 0 then a else b)
way_at a b zero h = refl
way_at a b (suc zero) h = refl
way_at a b (suc (suc r)) h = absurd (omega arith)

way_out : (name a b : Name) (t : Bool) → (if t then dotted name a else dotted name b) ≡ dotted name (if t then a else b)
way_out name a b true = refl
way_out name a b false = refl

-- ---- statements
module _ {N : Type 0} (value : N → Fraction) (ps : List Parameter) (n : ℕ) where
  up_name : MemberOf → Name
  up_name h = dotted (dotted (numbered (codes "budget") n) (parameter_name ps h.parameter)) (codes "up")

  down_name : MemberOf → Name
  down_name h = dotted (dotted (numbered (codes "budget") n) (parameter_name ps h.parameter)) (codes "down")

  -- a member's row
  pub budget_member : (limit : Fraction) (hs : List (Member N)) (place r index : ℕ) (h : Member N) (part way : Name)
      → place < length hs → h ≡ get_or hs place h
      → r < 2 → index ≡ 2 * place + r → part ≡ parameter_name ps h.param
      → way ≡ (if r == 0 then codes "up" else codes "down")
      → slice_get (statement_row_names ps n (budget limit (map (member_of value) hs))) index
      ≡ Some (spelled (codes "budget") (Some n) (Some part) (Some way))
  unfolding pairs up_name down_name
  budget_member limit hs place r index h part way lt e small is part_is way_is =
      let here : member_of value h ≡ get_or (map (member_of value) hs) place (member_of value h) =
      ap (member_of value) e ∙ sym (get_or-map (member_of value) hs place h (member_of value h) lt) in
      let name = dotted (numbered (codes "budget") n) (parameter_name ps h.param) in
      pair_at up_name down_name (dotted (numbered (codes "budget") n) (codes "sum")) (map (member_of value) hs) place r
      index (member_of value h)
      (omega (arith, length-map hs (member_of value))) here small is
      ∙ way_at (dotted name (codes "up")) (dotted name (codes "down")) r small
      ∙ ap Some (way_out name (codes "up") (codes "down") (r == 0)
      ∙ ap₂ (λ a b. dotted (dotted (numbered (codes "budget") n) a) b) (sym part_is) (sym way_is)
      ∙ sym (spelled-all (codes "budget") n part way))

  -- the row of the sum
  pub budget_sum : (limit : Fraction) (hs : List (Member N)) (index : ℕ) → index ≡ 2 * length hs
      → slice_get (statement_row_names ps n (budget limit (map (member_of value) hs))) index
      ≡ Some (spelled (codes "budget") (Some n) None (Some (codes "sum")))
  unfolding pairs up_name down_name
  budget_sum limit hs index is =
      pair_last up_name down_name (dotted (numbered (codes "budget") n) (codes "sum")) (map (member_of value) hs) index
      (omega (arith, is, length-map hs (member_of value)))
      ∙ ap Some (sym (spelled-numbered_last (codes "budget") n (codes "sum")))

  pub length-budget_rows : (limit : Fraction) (hs : List MemberOf)
      → length (statement_row_names ps n (budget limit hs)) ≡ 2 * length hs + 1
  unfolding pairs up_name down_name
  length-budget_rows limit hs = length-pairs up_name down_name (dotted (numbered (codes "budget") n) (codes "sum")) hs

  -- a statement has at least as many rows as members
  pub members_few : (c : SetLine) → member_count c ≤ length (statement_row_names ps n c)
  members_few (line left relation right) = omega arith
  members_few (budget limit hs) = omega (arith, length-budget_rows limit hs)

  module _ (statement : SetLineOf N) (limit : N) (hs xs : List (Member N))
      (is : statement ≡ Budget limit hs) (same : xs ≡ hs) where
    statement_is : set_line_of value statement ≡ budget (value limit) (map (member_of value) xs)
    statement_is =
        ap (set_line_of value) is
        ∙ ap (λ (ys : List (Member N)). budget (value limit) (map (member_of value) ys)) (sym same)

    pub length-rows : length (statement_row_names ps n (set_line_of value statement)) ≡ 2 * length xs + 1
    length-rows =
        ap (λ c. length (statement_row_names ps n c)) statement_is
        ∙ length-budget_rows (value limit) (map (member_of value) xs)
        ∙ ap (λ k. 2 * k + 1) (length-map xs (member_of value))

    pub row_of_budget : (index : ℕ) (name : Name)
        → slice_get (statement_row_names ps n (budget (value limit) (map (member_of value) xs))) index ≡ Some name
        → slice_get (statement_row_names ps n (set_line_of value statement)) index ≡ Some name
    row_of_budget index name h = ap (λ c. slice_get (statement_row_names ps n c) index) statement_is ∙ h

    pub length-lift_names : length (lift_names ps n (set_line_of value statement)) ≡ length xs
    length-lift_names =
        ap (λ c. length (lift_names ps n c)) statement_is
        ∙ length-map (map (member_of value) xs)
        (λ (h : MemberOf). dotted (numbered (codes "t") n) (parameter_name ps h.parameter))
        ∙ length-map xs (member_of value)

    pub lift_of_budget : (index : ℕ) (h : Member N) (part : Name) → index < length xs → h ≡ get_or xs index h
        → part ≡ parameter_name ps h.param
        → slice_get (lift_names ps n (set_line_of value statement)) index
        ≡ Some (spelled (codes "t") (Some n) (Some part) None)
    lift_of_budget index h part lt e part_is =
        let name = λ (h : MemberOf). dotted (numbered (codes "t") n) (parameter_name ps h.parameter) in
        ap (λ c. slice_get (lift_names ps n c) index) statement_is
        ∙ slice_get-map name (map (member_of value) xs) index
        ∙ ap (option_map name) (slice_get-map (member_of value) xs index
        ∙ ap (option_map (member_of value)) (slice_get_read xs (length xs) index h refl lt e))
        ∙ ap Some (ap (dotted (numbered (codes "t") n)) (sym part_is)
        ∙ sym (spelled-numbered_second (codes "t") n part))

  -- a coefficient of an adaptive variable
  pub rule_later : (y : Adaptive N) (index : ℕ) (on : List ℕ) (name part : Name) → on ≡ y.on → name ≡ y.name → 0 < index
      → index < length (rule_names ps (adaptive_of value y)) → part ≡ parameter_name ps (get_or on (index - 1) 0)
      → slice_get (rule_names ps (adaptive_of value y)) index ≡ Some (dotted name part)
  rule_later y zero on name part on_is name_is some lt part_is = absurd (omega arith)
  rule_later y (suc j) on name part on_is name_is some lt part_is =
      let before : suc j - 1 ≡ j = omega arith in
      let inside : j < length y.on = omega (arith, lt, length-map y.on (λ d. dotted y.name (parameter_name ps d))) in
      slice_get-map (λ d. dotted y.name (parameter_name ps d)) y.on j
      ∙ ap (option_map (λ d. dotted y.name (parameter_name ps d))) (slice_get-get_or y.on j 0 inside)
      ∙ ap Some (ap₂ dotted (sym name_is)
      (ap (λ (xs : List ℕ). parameter_name ps (get_or xs j 0)) (sym on_is)
      ∙ ap (λ i. parameter_name ps (get_or on i 0)) (sym before) ∙ sym part_is))

-- ---- names passed by a search
module _ (P : Name → Type 0) where
  pub each_take_more : (names : List Name) (k : ℕ) (name : Name) → slice_get names k ≡ Some name → P name
      → Each P (take k names) → Each P (take (k + 1) names)
  each_take_more names k name e h all = subst (λ j. Each P (take j names)) (sym (add-one k)) (by names k name e h all)
    where
      by : (names : List Name) (k : ℕ) (name : Name) → slice_get names k ≡ Some name → P name → Each P (take k names)
          → Each P (take (suc k) names)
      by [] k name e h all = cc
      by (x ∷ xs) zero name e h all = (subst P (sym (some_is e)) h, tt)
      by (x ∷ xs) (suc k) name e h all = (all.0, by xs k name e h all.1)
