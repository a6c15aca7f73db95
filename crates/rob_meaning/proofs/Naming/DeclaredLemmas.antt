-- The declared names of a model by kind, and those of joint parameters by number.
use Rattle.std.proofs.Common.{sym, ◌∙◌, ap, ap₂, subst, refl, arith, map-id, div-le_self}
use Rattle.std.proofs.lemmas.List.{map-append}
use Rattle.std.specs.Prelude.{◌≡◌, ℕ, zero, suc, ◌<◌, ◌≤◌, List, [], ◌∷◌, ◌++◌, length, map, flat_map, take}
use Rattle.rob_meaning.proofs.Lists.DistinctLemmas.{Apart, apart_by, apart_left, apart_right, distinct_append, distinct_apart, distinct_left, distinct_map, distinct_right, flat_distinct}
use Rattle.rob_meaning.proofs.Lists.EachLemmas.{each_append, each_both, each_left, each_right}
use Rattle.rob_meaning.proofs.Naming.FineNames.{split, split_one, split_two}
use Rattle.rob_meaning.proofs.Naming.JoinedLemmas.{ArePlain, distinct_joined}
use Rattle.rob_meaning.proofs.Naming.NamedLemmas.{each_all, each_flat, each_mapped, each_unmapped, parameter_plain, parameter_same, part}
use Rattle.rob_meaning.specs.Named.{AreDistinct, written_names, row_names, variable_names, adaptive_names, declared_names, IsFree, IsPlain, IsNamed}
use Rattle.rob_meaning.specs.Names.{Name, Parts, joined, parameter_name}
use Rattle.rob_meaning.specs.Places.{Each}
use Rattle.rob_meaning.specs.RobustModel.{Parameter, RobustModel, in_set, joint_parameters, set_count, written_count, written_parameters}
use Rattle.rob_meaning.specs.WellFormed.{IsModel}
use Rattle.std.proofs.lemmas.List.{append-nil}
use Rattle.rob_algebra.proofs.ListLemmas.{map_map}

module _ (m : RobustModel) (named : IsNamed m) where
  -- the names behind those of the parameters, behind those of the sets, and behind those of the rows
  abbrev later : List Name
  later = m.sets ++ (row_names m ++ (variable_names m ++ adaptive_names m))

  abbrev behind : List Name
  behind = row_names m ++ (variable_names m ++ adaptive_names m)

  abbrev last : List Name
  last = variable_names m ++ adaptive_names m

  later_distinct : AreDistinct (m.sets ++ (row_names m ++ (variable_names m ++ adaptive_names m)))
  later_distinct = distinct_right (written_names m) later named.distinct

  behind_distinct : AreDistinct (row_names m ++ (variable_names m ++ adaptive_names m))
  behind_distinct = distinct_right m.sets behind later_distinct

  last_distinct : AreDistinct (variable_names m ++ adaptive_names m)
  last_distinct = distinct_right (row_names m) last behind_distinct

  -- ---- distinct, by kind
  pub written_distinct : AreDistinct (written_names m)
  written_distinct = distinct_left (written_names m) later named.distinct

  pub sets_distinct : AreDistinct m.sets
  sets_distinct = distinct_left m.sets behind later_distinct

  pub rows_distinct : AreDistinct (row_names m)
  rows_distinct = distinct_left (row_names m) last behind_distinct

  pub variables_distinct : AreDistinct (variable_names m)
  variables_distinct = distinct_left (variable_names m) (adaptive_names m) last_distinct

  pub adaptives_distinct : AreDistinct (adaptive_names m)
  adaptives_distinct = distinct_right (variable_names m) (adaptive_names m) last_distinct

  pub variables_apart_adaptives : Apart (variable_names m) (adaptive_names m)
  variables_apart_adaptives = distinct_apart (variable_names m) (adaptive_names m) last_distinct

  pub rows_apart_variables : Apart (row_names m) (variable_names m)
  rows_apart_variables =
      apart_left (row_names m) (variable_names m) (adaptive_names m) (distinct_apart (row_names m) last behind_distinct)

  pub rows_apart_adaptives : Apart (row_names m) (adaptive_names m)
  rows_apart_adaptives =
      apart_right (row_names m) (variable_names m) (adaptive_names m)
      (distinct_apart (row_names m) last behind_distinct)

  -- ---- a property of all declared names, by kind
  module _ (P : Name → Type 0) (all : Each P (declared_names m)) where
    on_later : Each P (m.sets ++ (row_names m ++ (variable_names m ++ adaptive_names m)))
    on_later = each_right P (written_names m) later all

    on_behind : Each P (row_names m ++ (variable_names m ++ adaptive_names m))
    on_behind = each_right P m.sets behind on_later

    on_last : Each P (variable_names m ++ adaptive_names m)
    on_last = each_right P (row_names m) last on_behind

    pub on_parameters : Each P (written_names m)
    on_parameters = each_left P (written_names m) later all

    pub on_sets : Each P m.sets
    on_sets = each_left P m.sets behind on_later

    pub on_rows : Each P (row_names m)
    on_rows = each_left P (row_names m) last on_behind

    pub on_variables : Each P (variable_names m)
    on_variables = each_left P (variable_names m) (adaptive_names m) on_last

    pub on_adaptives : Each P (adaptive_names m)
    on_adaptives = each_right P (variable_names m) (adaptive_names m) on_last

-- ---- the names of joint parameters: `d` in the default set, and `S.d` in a set S
module _ (m : RobustModel) (model : IsModel m) (named : IsNamed m) where
  abbrev own : Parameter → Parts
  own p = p.name ∷ []

  abbrev in_parts : Name → Parameter → Parts
  in_parts set p = set ∷ p.name ∷ []

  -- joint parameters by their parts
  abbrev joint_parts : List Parameter → List Name → List Parts
  joint_parts ps sets = map own ps ++ flat_map (λ set. map (in_parts set) ps) sets

  own_joined : (ps : List Parameter) → map joined (map own ps) ≡ map (λ (p : Parameter). p.name) ps
  own_joined [] = refl
  own_joined (p ∷ ps) = ap₂ (λ (x : Name) (xs : List Name). x ∷ xs) (append-nil p.name) (own_joined ps)

  set_joined : (set : Name) (ps : List Parameter) →
      map joined (map (in_parts set) ps) ≡ map (λ (p : Parameter). p.name) (map (in_set set) ps)
  set_joined set [] = refl
  set_joined set (p ∷ ps) =
      ap₂ (λ (x : Name) (xs : List Name). x ∷ xs)
      (ap (λ (x : Name). set ++ (46 ∷ x)) (append-nil p.name)) (set_joined set ps)

  later_joined : (ps : List Parameter) (sets : List Name) →
      map joined (flat_map (λ set. map (in_parts set) ps) sets)
      ≡ map (λ (p : Parameter). p.name) (flat_map (λ set. map (in_set set) ps) sets)
  later_joined ps [] = refl
  later_joined ps (set ∷ sets) =
      map-append joined (map (in_parts set) ps) (flat_map (λ set. map (in_parts set) ps) sets)
      ∙ ap₂ (λ (a : List Name) (b : List Name). a ++ b) (set_joined set ps) (later_joined ps sets)
      ∙ sym (map-append (λ (p : Parameter). p.name) (map (in_set set) ps) (flat_map (λ set. map (in_set set) ps) sets))

  joint_joined : (ps : List Parameter) (sets : List Name) →
      map joined (joint_parts ps sets) ≡ map (λ (p : Parameter). p.name) (joint_parameters ps sets)
  joint_joined ps sets =
      map-append joined (map own ps) (flat_map (λ set. map (in_parts set) ps) sets)
      ∙ ap₂ (λ (a : List Name) (b : List Name). a ++ b) (own_joined ps) (later_joined ps sets)
      ∙ sym (map-append (λ (p : Parameter). p.name) ps (flat_map (λ set. map (in_set set) ps) sets))

  abbrev written : List Parameter
  written = written_parameters m

  plain_parameters : Each (λ (p : Parameter). IsPlain p.name) (written_parameters m)
  plain_parameters =
      each_unmapped IsPlain (λ (p : Parameter). p.name) written (on_parameters m named IsPlain named.plain)

  joint_parts_plain : Each ArePlain (joint_parts (written_parameters m) m.sets)
  joint_parts_plain =
      each_append ArePlain (map own written) (flat_map (λ set. map (in_parts set) written) m.sets)
      (each_mapped ArePlain own (λ (p : Parameter). IsPlain p.name) (λ p h. (h, tt)) written plain_parameters)
      (each_flat ArePlain IsPlain (λ set. map (in_parts set) written)
      (λ set h. each_mapped ArePlain (in_parts set) (λ (p : Parameter). IsPlain p.name) (λ p k. (h, (k, tt)))
      written plain_parameters)
      m.sets (on_sets m named IsPlain named.plain))

  joint_parts_distinct : AreDistinct (joint_parts (written_parameters m) m.sets)
  joint_parts_distinct =
      distinct_append (map own written) (flat_map (λ set. map (in_parts set) written) m.sets)
      (subst AreDistinct (map_map (λ (name : Name). name ∷ []) (λ (p : Parameter). p.name) written)
      (distinct_map (λ name. Unit {0}) (λ (name : Name). name ∷ []) (λ x y h k e. ap (part 0) e) (written_names m)
      (each_all (λ name. Unit {0}) (λ name. tt) (written_names m)) (written_distinct m named)))
      (flat_distinct (part 0) (λ (set : Name). set) (λ set. map (in_parts set) written) m.sets
      (subst AreDistinct (sym (map-id m.sets)) (sets_distinct m named))
      (each_all (λ set. Each (λ a. part 0 a ≡ set) (map (in_parts set) written))
      (λ set. each_mapped (λ a. part 0 a ≡ set) (in_parts set) (λ p. Unit {0}) (λ p k. refl) written
      (each_all (λ p. Unit {0}) (λ p. tt) written)) m.sets)
      (each_all (λ set. AreDistinct (map (in_parts set) written))
      (λ set. subst AreDistinct (map_map (λ (name : Name). set ∷ name ∷ []) (λ (p : Parameter). p.name) written)
      (distinct_map (λ name. Unit {0}) (λ (name : Name). set ∷ name ∷ []) (λ x y h k e. ap (part 1) e) (written_names m)
      (each_all (λ name. Unit {0}) (λ name. tt) (written_names m)) (written_distinct m named))) m.sets))
      (apart_by (λ p. length p ≡ 1) (λ p. length p ≡ 2)
      (λ p q one two same. shorter (sym one ∙ ap length same ∙ two)) (map own written)
      (flat_map (λ set. map (in_parts set) written) m.sets)
      (each_mapped (λ p. length p ≡ 1) own (λ p. Unit {0}) (λ p k. refl) written
      (each_all (λ p. Unit {0}) (λ p. tt) written))
      (each_flat (λ p. length p ≡ 2) (λ set. Unit {0}) (λ set. map (in_parts set) written)
      (λ set h. each_mapped (λ p. length p ≡ 2) (in_parts set) (λ p. Unit {0}) (λ p k. refl) written
      (each_all (λ p. Unit {0}) (λ p. tt) written)) m.sets (each_all (λ set. Unit {0}) (λ set. tt) m.sets)))
    where
      shorter : suc zero ≡ suc (suc zero) → ⊥
      shorter e = omega arith

  -- no two joint parameters share a name
  pub parameters_distinct : AreDistinct (map (λ (p : Parameter). p.name) m.parameters)
  parameters_distinct =
      subst (λ (ps : List Parameter). AreDistinct (map (λ (p : Parameter). p.name) ps)) (sym model.parameters)
      (subst AreDistinct (joint_joined written m.sets)
      (distinct_joined (joint_parts written m.sets) joint_parts_plain joint_parts_distinct))

  -- their names have one part or two, and the first is none of the words that names begin with
  abbrev pub IsShort : Parameter → Type 0
  IsShort p = IsFree (part 0 (split p.name)) × (length (split p.name) ≤ 2)

  short_one : (p : Parameter) → IsPlain p.name × IsFree p.name → IsShort p
  short_one p h =
      subst (λ (ps : Parts). IsFree (part 0 ps) × (length ps ≤ 2)) (sym (split_one p.name h.0)) (h.1, omega arith)

  short_two : (set : Name) → IsPlain set × IsFree set → (p : Parameter) → IsPlain p.name → IsShort (in_set set p)
  short_two set h p k =
      subst (λ (ps : Parts). IsFree (part 0 ps) × (length ps ≤ 2)) (sym (split_two set p.name h.0 k)) (h.1, omega arith)

  pub parameters_short : Each IsShort m.parameters
  parameters_short =
      subst (λ (ps : List Parameter). Each IsShort ps) (sym model.parameters)
      (each_append IsShort written (flat_map (λ set. map (in_set set) written) m.sets)
      (each_both (λ (p : Parameter). IsPlain p.name) (λ (p : Parameter). IsFree p.name) IsShort
      (λ p h k. short_one p (h, k)) written plain_parameters
      (each_unmapped IsFree (λ (p : Parameter). p.name) written (on_parameters m named IsFree named.free)))
      (each_flat IsShort (λ set. IsPlain set × IsFree set) (λ set. map (in_set set) written)
      (λ set h. each_mapped IsShort (in_set set) (λ (p : Parameter). IsPlain p.name) (short_two set h)
      written plain_parameters)
      m.sets
      (each_both IsPlain IsFree (λ set. IsPlain set × IsFree set) (λ set h k. (h, k)) m.sets
      (on_sets m named IsPlain named.plain) (on_sets m named IsFree named.free))))

  -- ---- the names of parameters, by number
  pub pname_same : (i j : ℕ) → i < length m.parameters → j < length m.parameters →
      parameter_name m.parameters i ≡ parameter_name m.parameters j → i ≡ j
  pname_same = parameter_same m.parameters parameters_distinct

  name_taken : (n : ℕ) (ps : List Parameter) (k : ℕ) → k < n → parameter_name (take n ps) k ≡ parameter_name ps k
  name_taken zero ps k h = absurd (omega arith)
  name_taken (suc n) [] k h = refl
  name_taken (suc n) (p ∷ ps) zero h = refl
  name_taken (suc n) (p ∷ ps) (suc k) h = name_taken n ps k (omega arith)

  -- those of written parameters are plain
  pub wname_plain : (k : ℕ) → k < written_count m → IsPlain (parameter_name m.parameters k)
  wname_plain k small =
      subst IsPlain (name_taken (written_count m) m.parameters k small)
      (parameter_plain (written_parameters m) (on_parameters m named IsPlain named.plain) k)

  pub written_below : (k : ℕ) → k < written_count m → k < length m.parameters
  written_below k small =
      let most = div-le_self (length m.parameters) (set_count m) in omega arith
