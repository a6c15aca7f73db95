-- Names that are joined from words are words, so the names of a model's parts are.
use Rattle.std.proofs.Common.{◌≡◌, ◌≢◌, ℕ, zero, suc, ◌+◌, ◌<◌, ◌^◌, List, [], ◌∷◌, ◌++◌, length, map, arith, refl, sym, subst, Bool, true, false}
use Rattle.std.proofs.lemmas.Bool.{ltb-true}
use Rattle.std.specs.Fmt.{decimal}
use Rattle.std.specs.Prelude.{codes, flat_map, ltb, if◌then◌else◌, Option, Some, None}
use Rattle.rob_algebra.specs.Fraction.{Fraction}
use Rattle.rob_meaning.proofs.Lists.EachLemmas.{each_append, each_left, each_right, each_both}
use Rattle.rob_meaning.proofs.Naming.NamedLemmas.{is_plain_word, each_mapped, each_unmapped, each_all, each_flat, number_each}
use Rattle.rob_meaning.specs.Named.{parameter_names, written_names, row_names, variable_names, adaptive_names}
use Rattle.rob_meaning.specs.Names.{Name, Parts, joined, behind_dots, parameter_name, bound_parts, side_parts, rule_parts, column_parts, column_names, form_parts, form_names, parameter_bound_parts, member_parts, statement_parts, by_number, set_row_names}
use Rattle.rob_meaning.specs.Places.{Each}
use Rattle.rob_meaning.specs.RobustModel.{Relation, at_most, at_least, equal, Parameter, Variable, AdaptiveVariable, Member, SetLine, line, budget, Row, RobustModel, in_set, joint_parameters, written_parameters}
use Rattle.rob_meaning.specs.WellFormed.{IsModel}
use Rattle.rob_cert.specs.Apart.{IsWord, IsNamedInWords}
use Rattle.rob_cert.proofs.Words.NumberLemmas.{decimal_lacks}

-- all parts are words
abbrev AreWords : Parts → Type 0
AreWords ps = Each IsWord ps

-- ---- words
letters_by : (x : ℕ) (xs : Name) (b : Bool) → ltb 46 x ≡ b → (if b then is_plain_word xs else false) ≡ true
    → (is_plain_word xs ≡ true → IsWord xs) → IsWord (x ∷ xs)
letters_by x xs true h e rest = ((λ s. above s, λ n. high n), rest e)
  where
    big : 46 < x
    big = ltb-true 46 x h

    above : x ≡ 32 → ⊥
    above s = let b = big in omega arith

    high : x ≡ 10 → ⊥
    high s = let b = big in omega arith
letters_by x xs false h e rest = cc

-- letters alone make a word
pub letters : (word : Name) → is_plain_word word ≡ true → IsWord word
letters [] e = tt
letters (x ∷ xs) e = letters_by x xs (ltb 46 x) refl e (letters xs)

pub digits : (n : ℕ) → n < 2 ^ 64 → IsWord (decimal n)
digits n h =
    each_both (λ b. b ≢ 32) (λ b. b ≢ 10) (λ b. (b ≢ 32) × (b ≢ 10)) (λ b p q. (p, q)) (decimal n)
    (decimal_lacks 32 n h (omega arith)) (decimal_lacks 10 n h (omega arith))

behind_word : (ps : Parts) → AreWords ps → IsWord (behind_dots ps)
behind_word [] h = tt
behind_word (p ∷ ps) h = (
  (λ s. omega arith, λ n. omega arith),
  each_append (λ byte. (byte ≢ 32) × (byte ≢ 10)) p (behind_dots ps) h.0 (behind_word ps h.1),
)

joined_word : (ps : Parts) → AreWords ps → IsWord (joined ps)
joined_word [] h = tt
joined_word (p ∷ ps) h = each_append (λ byte. (byte ≢ 32) × (byte ≢ 10)) p (behind_dots ps) h.0 (behind_word ps h.1)

all_joined : (list : List Parts) → Each AreWords list → Each IsWord (map joined list)
all_joined list h = each_mapped IsWord joined AreWords joined_word list h

-- ---- parts
bounds_words : (name : Name) (lo hi : Option Fraction) → IsWord name → Each AreWords (bound_parts name lo hi)
bounds_words name None None h = tt
bounds_words name None (Some b) h = ((h, (letters (codes "upper") refl, tt)), tt)
bounds_words name (Some l) None h = ((h, (letters (codes "lower") refl, tt)), tt)
bounds_words name (Some l) (Some b) h =
    ((h, (letters (codes "lower") refl, tt)), ((h, (letters (codes "upper") refl, tt)), tt))

sides_words : (relation : Relation) (ps : Parts) → AreWords ps → Each AreWords (side_parts relation ps)
sides_words at_most ps h = (h, tt)
sides_words at_least ps h = (h, tt)
sides_words equal ps h = (
  each_append IsWord ps (codes "le" ∷ []) h (letters (codes "le") refl, tt),
  (each_append IsWord ps (codes "ge" ∷ []) h (letters (codes "ge") refl, tt), tt),
)

parameter_word : (ps : List Parameter) → Each IsWord (map (λ (p : Parameter). p.name) ps) → (k : ℕ)
    → IsWord (parameter_name ps k)
parameter_word [] h k = tt
parameter_word (p ∷ ps) h zero = h.0
parameter_word (p ∷ ps) h (suc k) = parameter_word ps h.1 k

-- ---- the names of a model's parts
module _ (m : RobustModel) (model : IsModel m) (words : IsNamedInWords m) where
  behind : Each IsWord (m.sets ++ (row_names m ++ (variable_names m ++ adaptive_names m)))
  behind = each_right IsWord (written_names m) (m.sets ++ (row_names m ++ (variable_names m ++ adaptive_names m))) words

  later : Each IsWord (row_names m ++ (variable_names m ++ adaptive_names m))
  later = each_right IsWord m.sets (row_names m ++ (variable_names m ++ adaptive_names m)) behind

  last : Each IsWord (variable_names m ++ adaptive_names m)
  last = each_right IsWord (row_names m) (variable_names m ++ adaptive_names m) later

  on_written : Each (λ (p : Parameter). IsWord p.name) (written_parameters m)
  on_written = each_unmapped IsWord (λ (p : Parameter). p.name) (written_parameters m)
      (each_left IsWord (written_names m) (m.sets ++ (row_names m ++ (variable_names m ++ adaptive_names m))) words)

  pub words_of_parameters : Each IsWord (parameter_names m)
  words_of_parameters =
      subst (λ (ps : List Parameter). Each IsWord (map (λ (p : Parameter). p.name) ps)) (sym model.parameters)
      (each_mapped IsWord (λ (p : Parameter). p.name) (λ (p : Parameter). IsWord p.name) (λ p h. h)
      (joint_parameters (written_parameters m) m.sets)
      (each_append (λ (p : Parameter). IsWord p.name) (written_parameters m)
      (flat_map (λ set. map (in_set set) (written_parameters m)) m.sets)
      on_written
      (each_flat (λ (p : Parameter). IsWord p.name) IsWord (λ set. map (in_set set) (written_parameters m))
      (λ set h. each_mapped (λ (p : Parameter). IsWord p.name) (in_set set) (λ (p : Parameter). IsWord p.name)
      (λ p k. each_append (λ byte. (byte ≢ 32) × (byte ≢ 10)) set (46 ∷ p.name) h
      ((λ s. omega arith, λ n. omega arith), k))
      (written_parameters m) on_written)
      m.sets (each_left IsWord m.sets (row_names m ++ (variable_names m ++ adaptive_names m)) behind))))

  on_rows : Each (λ (r : Row). IsWord r.name) m.rows
  on_rows = each_unmapped IsWord (λ (r : Row). r.name) m.rows
      (each_left IsWord (row_names m) (variable_names m ++ adaptive_names m) later)

  on_variables : Each (λ (x : Variable). IsWord x.name) m.variables
  on_variables =
      each_unmapped IsWord (λ (x : Variable). x.name) m.variables
      (each_left IsWord (variable_names m) (adaptive_names m) last)

  on_adaptives : Each (λ (y : AdaptiveVariable). IsWord y.name) m.adaptives
  on_adaptives =
      each_unmapped IsWord (λ (y : AdaptiveVariable). y.name) m.adaptives
      (each_right IsWord (variable_names m) (adaptive_names m) last)

  parameter_at : (k : ℕ) → IsWord (parameter_name m.parameters k)
  parameter_at k = parameter_word m.parameters words_of_parameters k

  rule_words : (y : AdaptiveVariable) → IsWord y.name → Each AreWords (rule_parts m.parameters y)
  rule_words y h = (
    (h, tt),
    each_mapped AreWords (λ d. y.name ∷ parameter_name m.parameters d ∷ []) (λ d. Unit {0})
        (λ d k. (h, (parameter_at d, tt))) y.on (each_all (λ d. Unit {0}) (λ d. tt) y.on),
  )

  pub words_of_columns : Each IsWord (column_names m)
  words_of_columns = all_joined (column_parts m)
      (each_append AreWords (map (λ (x : Variable). x.name ∷ []) m.variables)
      (flat_map (rule_parts m.parameters) m.adaptives)
      (each_mapped AreWords (λ (x : Variable). x.name ∷ []) (λ (x : Variable). IsWord x.name) (λ x h. (h, tt))
      m.variables on_variables)
      (each_flat AreWords (λ (y : AdaptiveVariable). IsWord y.name) (rule_parts m.parameters) rule_words
      m.adaptives on_adaptives))

  abbrev own_rows : List Parts
  own_rows = flat_map (λ (r : Row). side_parts r.relation (r.name ∷ [])) m.rows

  abbrev own_variables : List Parts
  own_variables = flat_map (λ (x : Variable). bound_parts x.name x.lower x.upper) m.variables

  abbrev own_adaptives : List Parts
  own_adaptives = flat_map (λ (y : AdaptiveVariable). bound_parts y.name y.lower y.upper) m.adaptives

  pub words_of_forms : Each IsWord (form_names m)
  words_of_forms = all_joined (form_parts m) (
    (letters (codes "objective") refl, tt),
    each_append AreWords own_rows (own_variables ++ own_adaptives)
        (each_flat AreWords (λ (r : Row). IsWord r.name) (λ (r : Row). side_parts r.relation (r.name ∷ []))
        (λ r h. sides_words r.relation (r.name ∷ []) (h, tt)) m.rows on_rows)
        (each_append AreWords own_variables own_adaptives
        (each_flat AreWords (λ (x : Variable). IsWord x.name) (λ (x : Variable). bound_parts x.name x.lower x.upper)
        (λ x h. bounds_words x.name x.lower x.upper h) m.variables on_variables)
        (each_flat AreWords (λ (y : AdaptiveVariable). IsWord y.name)
        (λ (y : AdaptiveVariable). bound_parts y.name y.lower y.upper)
        (λ y h. bounds_words y.name y.lower y.upper h) m.adaptives on_adaptives)),
  )

  members_words : (n : ℕ) → n < 2 ^ 64 → (hs : List Member) → Each AreWords (flat_map (member_parts m.parameters n) hs)
  members_words n small [] = tt
  members_words n small (h ∷ hs) = (
    (letters (codes "budget") refl, (digits n small, (parameter_at h.parameter, (letters (codes "up") refl, tt)))),
    (
      (letters (codes "budget") refl, (digits n small, (parameter_at h.parameter, (letters (codes "down") refl, tt)))),
      members_words n small hs,
    ),
  )

  statement_words : (n : ℕ) (c : SetLine) → n < 2 ^ 64 → Each AreWords (statement_parts m.parameters n c)
  statement_words n (line l relation r) small =
      sides_words relation (codes "set" ∷ decimal n ∷ []) (letters (codes "set") refl, (digits n small, tt))
  statement_words n (budget limit hs) small =
      each_append AreWords (flat_map (member_parts m.parameters n) hs)
      ((codes "budget" ∷ decimal n ∷ codes "sum" ∷ []) ∷ []) (members_words n small hs)
      ((letters (codes "budget") refl, (digits n small, (letters (codes "sum") refl, tt))), tt)

  pub words_of_set_rows : 1 + length m.set_lines < 2 ^ 64 → Each IsWord (set_row_names m)
  words_of_set_rows few =
      all_joined (parameter_bound_parts m.parameters ++ by_number (statement_parts m.parameters) 1 m.set_lines)
      (each_append AreWords (parameter_bound_parts m.parameters)
      (by_number (statement_parts m.parameters) 1 m.set_lines)
      (each_flat AreWords (λ (p : Parameter). IsWord p.name) (λ (p : Parameter). bound_parts p.name p.lower p.upper)
      (λ p h. bounds_words p.name p.lower p.upper h) m.parameters
      (each_unmapped IsWord (λ (p : Parameter). p.name) m.parameters words_of_parameters))
      (number_each (statement_parts m.parameters) AreWords statement_words 1 m.set_lines few))
