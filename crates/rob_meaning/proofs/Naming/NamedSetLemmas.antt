-- In a model whose declared names are plain, free and distinct, no two set
-- rows, set columns or set conditions share a name.
use Rattle.std.proofs.Common.{inl, inr, sym, ◌∙◌, ap, ap₂, subst, refl, arith, append-nil, length-append}
use Rattle.std.specs.Fmt.{decimal}
use Rattle.std.specs.Prelude.{◌≡◌, ◌≢◌, ◌⊎◌, ℕ, ◌+◌, ◌<◌, ◌≤◌, ◌^◌, List, [], ◌∷◌, ◌++◌, length, map, flat_map, codes}
use Rattle.rob_algebra.proofs.ListLemmas.{map_map}
use Rattle.rob_meaning.proofs.Naming.DeclaredLemmas.{IsShort, parameters_distinct, parameters_short, pname_same}
use Rattle.rob_meaning.proofs.Lists.DistinctLemmas.{distinct_append, apart_by, distinct_map, Keyed, flat_distinct}
use Rattle.rob_meaning.proofs.Lists.EachLemmas.{each_append}
use Rattle.rob_meaning.proofs.Naming.FineNames.{all_plain, behind_begins, behind_two, first_part_of, front, front_append, joined_split, split, split_each, split_long, split_plain, split_same, split_then_plain}
use Rattle.rob_meaning.proofs.Naming.JoinedLemmas.{ArePlain, distinct_joined, decimal_plain}
use Rattle.rob_meaning.proofs.Naming.NamedLemmas.{part, plain_word, last_part, up_is_not_down, sides_distinct, sides_plain, each_mapped, each_all, each_flat, number_each, number_distinct}
use Rattle.rob_meaning.specs.Named.{AreDistinct, IsFree, HasDistinctMembers, IsNamed}
use Rattle.rob_meaning.specs.Names.{Name, Parts, joined, parameter_name, bound_parts, side_parts, parameter_bound_parts, member_parts, statement_parts, lift_parts, condition_parts, by_number, set_row_names, set_column_names, set_condition_names}
use Rattle.rob_meaning.specs.Places.{Each}
use Rattle.rob_meaning.specs.RobustModel.{Relation, at_most, at_least, equal, Parameter, Member, SetLine, line, budget, RobustModel}
use Rattle.rob_meaning.specs.WellFormed.{IsMember, IsSetLine, IsModel}
pub use Rattle.rob_meaning.proofs.Naming.FinePartLemmas.{flat_joined, number_joined, both_joined, fine_bounds, fine_bounds_joined, fine_bounds_distinct, each_bound}

module _ (m : RobustModel) (model : IsModel m) (named : IsNamed m) where
  -- ---- the uncertainty sets
  abbrev parameter_bound : Parameter → List Parts
  parameter_bound p = fine_bounds p.name p.lower p.upper

  -- the names of the parameters by their plain parts
  names_distinct : AreDistinct (map (λ (p : Parameter). split p.name) m.parameters)
  names_distinct =
      subst AreDistinct (map_map split (λ (p : Parameter). p.name) m.parameters)
      (distinct_map (λ name. Unit {0}) split (λ x y h k e. split_same x y e)
      (map (λ (p : Parameter). p.name) m.parameters)
      (each_all (λ name. Unit {0}) (λ name. tt) (map (λ (p : Parameter). p.name) m.parameters))
      (parameters_distinct m model named))

  bounds_of_parameters : Keyed front (λ (p : Parameter). split p.name) parameter_bound m.parameters
  bounds_of_parameters =
      each_all (λ d. Each (λ p. front p ≡ split d.name) (parameter_bound d))
      (λ d. each_bound (λ p. front p ≡ split d.name) d.name d.lower d.upper
      (front_append (split d.name) (codes "lower"))
      (front_append (split d.name) (codes "upper"))) m.parameters

  abbrev all_bounds : List Parts
  all_bounds = flat_map parameter_bound m.parameters

  all_bounds_joined : map joined all_bounds ≡ map joined (parameter_bound_parts m.parameters)
  all_bounds_joined =
      flat_joined parameter_bound (λ (p : Parameter). bound_parts p.name p.lower p.upper)
      (λ p. fine_bounds_joined p.name p.lower p.upper) m.parameters

  parameter_bounds_distinct : AreDistinct all_bounds
  parameter_bounds_distinct =
      flat_distinct front (λ (p : Parameter). split p.name) parameter_bound m.parameters names_distinct
      bounds_of_parameters
      (each_all (λ d. AreDistinct (parameter_bound d)) (λ d. fine_bounds_distinct d.name d.lower d.upper) m.parameters)

  parameter_bounds_plain : Each ArePlain all_bounds
  parameter_bounds_plain =
      each_flat ArePlain (λ d. Unit {0}) parameter_bound
      (λ d h. each_bound ArePlain d.name d.lower d.upper
      (split_then_plain d.name (codes "lower" ∷ []) (plain_word (codes "lower") refl, tt))
      (split_then_plain d.name (codes "upper" ∷ []) (plain_word (codes "upper") refl, tt))) m.parameters
      (each_all (λ d. Unit {0}) (λ d. tt) m.parameters)

  parameter_bounds_free : Each (λ p. IsFree (part 0 p)) all_bounds
  parameter_bounds_free =
      each_flat (λ p. IsFree (part 0 p)) (IsShort m model named) parameter_bound
      (λ d h. each_bound (λ p. IsFree (part 0 p)) d.name d.lower d.upper
      (subst IsFree (sym (first_part_of d.name (codes "lower" ∷ []))) h.0)
      (subst IsFree (sym (first_part_of d.name (codes "upper" ∷ []))) h.0)) m.parameters
      (parameters_short m model named)

  -- the name begins with the word of a set line or of a budget
  abbrev BeginsStated : Parts → Type 0
  BeginsStated p = (part 0 p ≡ codes "set") ⊎ (part 0 p ≡ codes "budget")

  free_not_stated : (p q : Parts) → IsFree (part 0 p) → BeginsStated q → p ≢ q
  free_not_stated p q free (inl e) same = free.2 (ap (part 0) same ∙ e)
  free_not_stated p q free (inr e) same = free.3 (ap (part 0) same ∙ e)

  few : 1 + length m.set_lines < 2 ^ 64
  few = omega (arith, named.few)

  -- bounds of parameters, and what the statements have, by plain parts that are joined to the same names
  stated_distinct : (f g : ℕ → SetLine → List Parts) →
      ((n : ℕ) (c : SetLine) → map joined (g n c) ≡ map joined (f n c)) →
      ((n : ℕ) (c : SetLine) → Each (λ p. part 1 p ≡ decimal n) (g n c)) →
      ((n : ℕ) (c : SetLine) → Each BeginsStated (g n c)) →
      ((n : ℕ) (c : SetLine) → n < 2 ^ 64 → Each ArePlain (g n c)) →
      (Good : SetLine → Type 0) → Each Good m.set_lines → ((n : ℕ) (c : SetLine) → Good c → AreDistinct (g n c)) →
      AreDistinct (map joined (parameter_bound_parts m.parameters ++ by_number f 1 m.set_lines))
  stated_distinct f g same keyed begins plain Good good distinct =
      subst AreDistinct
      (both_joined all_bounds (by_number g 1 m.set_lines) (parameter_bound_parts m.parameters)
      (by_number f 1 m.set_lines)
      all_bounds_joined (number_joined g f same 1 m.set_lines))
      (distinct_joined (all_bounds ++ by_number g 1 m.set_lines)
      (each_append ArePlain all_bounds (by_number g 1 m.set_lines) parameter_bounds_plain
      (number_each g ArePlain plain 1 m.set_lines few))
      (distinct_append all_bounds (by_number g 1 m.set_lines) parameter_bounds_distinct
      (number_distinct g keyed Good distinct 1 m.set_lines good few)
      (apart_by (λ p. IsFree (part 0 p)) BeginsStated free_not_stated all_bounds
      (by_number g 1 m.set_lines)
      parameter_bounds_free (number_each g BeginsStated (λ n c small. begins n c) 1 m.set_lines few))))

  -- ---- set conditions
  conditions_keyed : (n : ℕ) (c : SetLine) → Each (λ p. part 1 p ≡ decimal n) (condition_parts n c)
  conditions_keyed n (line l relation r) = (refl, tt)
  conditions_keyed n (budget limit hs) = (refl, tt)

  conditions_begin : (n : ℕ) (c : SetLine) → Each BeginsStated (condition_parts n c)
  conditions_begin n (line l relation r) = (inl refl, tt)
  conditions_begin n (budget limit hs) = (inr refl, tt)

  conditions_plain : (n : ℕ) (c : SetLine) → n < 2 ^ 64 → Each ArePlain (condition_parts n c)
  conditions_plain n (line l relation r) small = ((plain_word (codes "set") refl, (decimal_plain n small, tt)), tt)
  conditions_plain n (budget limit hs) small = ((plain_word (codes "budget") refl, (decimal_plain n small, tt)), tt)

  condition_distinct : (n : ℕ) (c : SetLine) → Unit {0} → AreDistinct (condition_parts n c)
  condition_distinct n (line l relation r) good = (tt, tt)
  condition_distinct n (budget limit hs) good = (tt, tt)

  pub distinct_set_conditions : AreDistinct (set_condition_names m)
  distinct_set_conditions =
      stated_distinct condition_parts condition_parts (λ n c. refl) conditions_keyed conditions_begin
      conditions_plain (λ c. Unit {0})
      (each_all (λ c. Unit {0}) (λ c. tt) m.set_lines) condition_distinct

  -- ---- set rows
  abbrev sum_part : ℕ → List Parts
  sum_part n = (codes "budget" ∷ decimal n ∷ codes "sum" ∷ []) ∷ []

  abbrev pname : ℕ → Parts
  pname k = split (parameter_name m.parameters k)

  -- the rows of a member of budget n, by their plain parts
  abbrev fine_member : ℕ → Member → List Parts
  fine_member n h =
      (codes "budget" ∷ decimal n ∷ (pname h.parameter ++ codes "up" ∷ []))
      ∷ (codes "budget" ∷ decimal n ∷ (pname h.parameter ++ codes "down" ∷ [])) ∷ []

  -- the rows of statement n
  abbrev fine_statement : ℕ → SetLine → List Parts
  fine_statement n (line left relation right) = side_parts relation (codes "set" ∷ decimal n ∷ [])
  fine_statement n (budget limit members) = flat_map (fine_member n) members ++ sum_part n

  fine_behind : (n k : ℕ) (rest : Parts) → (word : Name) →
      joined (word ∷ decimal n ∷ (pname k ++ rest)) ≡ joined (word ∷ decimal n ∷ parameter_name m.parameters k ∷ rest)
  fine_behind n k rest word =
      ap (λ (x : Name). word ++ (46 ∷ (decimal n ++ x))) (behind_begins (parameter_name m.parameters k) rest)

  fine_statement_joined : (n : ℕ) (c : SetLine) →
      map joined (fine_statement n c) ≡ map joined (statement_parts m.parameters n c)
  fine_statement_joined n (line l relation r) = refl
  fine_statement_joined n (budget limit hs) =
      both_joined (flat_map (fine_member n) hs) (sum_part n) (flat_map (member_parts m.parameters n) hs) (sum_part n)
      (flat_joined (fine_member n) (member_parts m.parameters n)
      (λ h. ap₂ (λ (x : Name) (y : Name). x ∷ y ∷ []) (fine_behind n h.parameter (codes "up" ∷ []) (codes "budget"))
      (fine_behind n h.parameter (codes "down" ∷ []) (codes "budget"))) hs)
      refl

  set_keyed : (n : ℕ) (relation : Relation) →
      Each (λ p. part 1 p ≡ decimal n) (side_parts relation (codes "set" ∷ decimal n ∷ []))
  set_keyed n at_most = (refl, tt)
  set_keyed n at_least = (refl, tt)
  set_keyed n equal = (refl, (refl, tt))

  set_begins : (n : ℕ) (relation : Relation) → Each BeginsStated (side_parts relation (codes "set" ∷ decimal n ∷ []))
  set_begins n at_most = (inl refl, tt)
  set_begins n at_least = (inl refl, tt)
  set_begins n equal = (inl refl, (inl refl, tt))

  -- a property of each row of a budget
  each_member : (P : Parts → Type 0) (n : ℕ) (hs : List Member) →
      ((k : ℕ) → P (codes "budget" ∷ decimal n ∷ (pname k ++ codes "up" ∷ []))) →
      ((k : ℕ) → P (codes "budget" ∷ decimal n ∷ (pname k ++ codes "down" ∷ []))) →
      Each P (flat_map (fine_member n) hs)
  each_member P n [] up down = tt
  each_member P n (h ∷ hs) up down = (up h.parameter, (down h.parameter, each_member P n hs up down))

  each_budget : (P : Parts → Type 0) (n : ℕ) (hs : List Member) →
      ((k : ℕ) → P (codes "budget" ∷ decimal n ∷ (pname k ++ codes "up" ∷ []))) →
      ((k : ℕ) → P (codes "budget" ∷ decimal n ∷ (pname k ++ codes "down" ∷ []))) →
      P (codes "budget" ∷ decimal n ∷ codes "sum" ∷ []) →
      Each P (flat_map (fine_member n) hs ++ sum_part n)
  each_budget P n hs up down sum =
      each_append P (flat_map (fine_member n) hs) (sum_part n) (each_member P n hs up down) (sum, tt)

  statements_keyed : (n : ℕ) (c : SetLine) → Each (λ p. part 1 p ≡ decimal n) (fine_statement n c)
  statements_keyed n (line l relation r) = set_keyed n relation
  statements_keyed n (budget limit hs) = each_budget (λ p. part 1 p ≡ decimal n) n hs (λ k. refl) (λ k. refl) refl

  statements_begin : (n : ℕ) (c : SetLine) → Each BeginsStated (fine_statement n c)
  statements_begin n (line l relation r) = set_begins n relation
  statements_begin n (budget limit hs) = each_budget BeginsStated n hs (λ k. inr refl) (λ k. inr refl) (inr refl)

  statements_plain : (n : ℕ) (c : SetLine) → n < 2 ^ 64 → Each ArePlain (fine_statement n c)
  statements_plain n (line l relation r) small =
      sides_plain relation (codes "set") (decimal n ∷ []) (plain_word (codes "set") refl, (decimal_plain n small, tt))
  statements_plain n (budget limit hs) small =
      let word = plain_word (codes "budget") refl in
      let digits = decimal_plain n small in
      each_budget ArePlain n hs
      (λ k. (
        word,
        (digits, split_each (parameter_name m.parameters k) (codes "up" ∷ []) (plain_word (codes "up") refl, tt)),
      ))
      (λ k. (
        word,
        (
          digits,
          split_each (parameter_name m.parameters k) (codes "down" ∷ [])
              (plain_word (codes "down") refl, tt),
        ),
      ))
      (word, (digits, (plain_word (codes "sum") refl, tt)))

  -- the members' parameters have distinct names
  members_named : (hs : List Member) → Each (IsMember m) hs → AreDistinct (map (λ (h : Member). h.parameter) hs) →
      AreDistinct (map (λ (h : Member). pname h.parameter) hs)
  members_named hs inside d =
      subst AreDistinct (map_map pname (λ (h : Member). h.parameter) hs)
      (distinct_map (λ k. k < length m.parameters) pname
      (λ i j hi hj e. pname_same m model named i j hi hj
      (split_same (parameter_name m.parameters i) (parameter_name m.parameters j) e))
      (map (λ (h : Member). h.parameter) hs)
      (each_mapped (λ k. k < length m.parameters) (λ (h : Member). h.parameter) (IsMember m) (λ h k. k.0) hs inside) d)

  member_long : (n k : ℕ) (x : Name) → 4 ≤ length (codes "budget" ∷ decimal n ∷ (pname k ++ x ∷ []))
  member_long n k x =
      let some = split_long (parameter_name m.parameters k) in
      let all = length-append (pname k) (x ∷ []) in
      omega arith

  statement_distinct : (n : ℕ) (c : SetLine) → IsSetLine m c × HasDistinctMembers c →
      AreDistinct (fine_statement n c)
  statement_distinct n (line l relation r) good = sides_distinct relation (codes "set" ∷ decimal n ∷ [])
  statement_distinct n (budget limit hs) good =
      distinct_append (flat_map (fine_member n) hs) (sum_part n)
      (flat_distinct (λ p. front (behind_two p)) (λ (h : Member). pname h.parameter) (fine_member n) hs
      (members_named hs good.0 good.1)
      (each_all (λ h. Each (λ p. front (behind_two p) ≡ pname h.parameter) (fine_member n h))
      (λ h. (front_append (pname h.parameter) (codes "up"), (front_append (pname h.parameter) (codes "down"), tt))) hs)
      (each_all (λ h. AreDistinct (fine_member n h))
      (λ h. (
        (
          (λ e. up_is_not_down
              (sym (last_part (pname h.parameter) (codes "up"))
              ∙ ap (λ p. part (length (pname h.parameter)) (behind_two p)) e
              ∙ last_part (pname h.parameter) (codes "down"))),
          tt,
        ),
        (tt, tt),
      )) hs))
      (tt, tt)
      (apart_by (λ p. 4 ≤ length p) (λ p. length p ≡ 3)
      (λ p q four three same. shorter (length p) four (ap length same ∙ three))
      (flat_map (fine_member n) hs) (sum_part n)
      (each_member (λ p. 4 ≤ length p) n hs (λ k. member_long n k (codes "up")) (λ k. member_long n k (codes "down")))
      (refl, tt))
    where
      shorter : (k : ℕ) → 4 ≤ k → k ≡ 3 → ⊥
      shorter k h e = omega arith

  both_good : (cs : List SetLine) → Each (IsSetLine m) cs → Each HasDistinctMembers cs →
      Each (λ c. IsSetLine m c × HasDistinctMembers c) cs
  both_good [] h k = tt
  both_good (c ∷ cs) h k = ((h.0, k.0), both_good cs h.1 k.1)

  pub distinct_set_rows : AreDistinct (set_row_names m)
  distinct_set_rows =
      stated_distinct (statement_parts m.parameters) fine_statement fine_statement_joined
      statements_keyed statements_begin
      statements_plain (λ c. IsSetLine m c × HasDistinctMembers c)
      (both_good m.set_lines model.set_lines named.members) statement_distinct

  -- ---- set columns
  abbrev parameter_part : Parameter → Parts
  parameter_part p = split p.name

  -- the column t of a member of budget n, by its plain parts
  abbrev fine_lift : ℕ → SetLine → List Parts
  fine_lift n (line left relation right) = []
  fine_lift n (budget limit members) = map (λ (h : Member). codes "t" ∷ decimal n ∷ pname h.parameter) members

  fine_lift_joined : (n : ℕ) (c : SetLine) → map joined (fine_lift n c) ≡ map joined (lift_parts m.parameters n c)
  fine_lift_joined n (line l relation r) = refl
  fine_lift_joined n (budget limit hs) = by hs
    where
      by : (hs : List Member) → map joined (map (λ (h : Member). codes "t" ∷ decimal n ∷ pname h.parameter) hs)
          ≡ map joined (map (λ (h : Member). codes "t" ∷ decimal n ∷ parameter_name m.parameters h.parameter ∷ []) hs)
      by [] = refl
      by (h ∷ hs) =
          ap₂ (λ (x : Name) (xs : List Name). x ∷ xs)
          (ap (λ (ps : Parts). joined (codes "t" ∷ decimal n ∷ ps)) (sym (append-nil (pname h.parameter)))
          ∙ fine_behind n h.parameter [] (codes "t")) (by hs)

  each_lift : (P : Parts → Type 0) (n : ℕ) → ((k : ℕ) → P (codes "t" ∷ decimal n ∷ pname k)) → (c : SetLine) →
      Each P (fine_lift n c)
  each_lift P n h (line l relation r) = tt
  each_lift P n h (budget limit hs) =
      each_mapped P (λ (b : Member). codes "t" ∷ decimal n ∷ pname b.parameter) (λ b. Unit {0})
      (λ b k. h b.parameter) hs
      (each_all (λ b. Unit {0}) (λ b. tt) hs)

  lift_distinct : (n : ℕ) (c : SetLine) → IsSetLine m c × HasDistinctMembers c → AreDistinct (fine_lift n c)
  lift_distinct n (line l relation r) good = tt
  lift_distinct n (budget limit hs) good =
      subst AreDistinct (map_map (λ (ps : Parts). codes "t" ∷ decimal n ∷ ps) (λ (h : Member). pname h.parameter) hs)
      (distinct_map (λ p. Unit {0}) (λ (ps : Parts). codes "t" ∷ decimal n ∷ ps) (λ x y h k e. ap behind_two e)
      (map (λ (h : Member). pname h.parameter) hs)
      (each_all (λ p. Unit {0}) (λ p. tt) (map (λ (h : Member). pname h.parameter) hs))
      (members_named hs good.0 good.1))

  lift_long : (n k : ℕ) → 3 ≤ length (codes "t" ∷ decimal n ∷ pname k)
  lift_long n k = let some = split_long (parameter_name m.parameters k) in omega arith

  pub distinct_set_columns : AreDistinct (set_column_names m)
  distinct_set_columns =
      let own = map parameter_part m.parameters in
      let lifts = by_number fine_lift 1 m.set_lines in
      subst AreDistinct
      (both_joined own lifts (map (λ (p : Parameter). p.name ∷ []) m.parameters)
      (by_number (lift_parts m.parameters) 1 m.set_lines)
      (own_joined m.parameters) (number_joined fine_lift (lift_parts m.parameters) fine_lift_joined 1 m.set_lines))
      (distinct_joined (own ++ lifts)
      (each_append ArePlain own lifts
      (each_mapped ArePlain parameter_part (λ (p : Parameter). Unit {0}) (λ p h. split_plain p.name) m.parameters
      (each_all (λ p. Unit {0}) (λ p. tt) m.parameters))
      (number_each fine_lift ArePlain
      (λ n c small. each_lift ArePlain n
      (λ k. (
        plain_word (codes "t") refl,
        (decimal_plain n small, all_plain (pname k) (split_plain (parameter_name m.parameters k))),
      )) c)
      1 m.set_lines few))
      (distinct_append own lifts names_distinct
      (number_distinct fine_lift (λ n c. each_lift (λ p. part 1 p ≡ decimal n) n (λ k. refl) c)
      (λ c. IsSetLine m c × HasDistinctMembers c) lift_distinct 1 m.set_lines
      (both_good m.set_lines model.set_lines named.members) few)
      (apart_by (λ p. length p ≤ 2) (λ p. 3 ≤ length p)
      (λ p q two three same. shorter (length p) (length q) two three (ap length same)) own lifts
      (each_mapped (λ p. length p ≤ 2) parameter_part (IsShort m model named) (λ p k. k.1) m.parameters
      (parameters_short m model named))
      (number_each fine_lift (λ p. 3 ≤ length p)
      (λ n c small. each_lift (λ p. 3 ≤ length p) n (lift_long n) c) 1 m.set_lines few))))
    where
      shorter : (a b : ℕ) → a ≤ 2 → 3 ≤ b → a ≡ b → ⊥
      shorter a b h k e = omega arith

      own_joined : (ps : List Parameter)
          → map joined (map parameter_part ps) ≡ map joined (map (λ (p : Parameter). p.name ∷ []) ps)
      own_joined [] = refl
      own_joined (p ∷ ps) =
          ap₂ (λ (x : Name) (xs : List Name). x ∷ xs) (joined_split p.name ∙ sym (append-nil p.name)) (own_joined ps)
