-- In a model whose declared names are plain, free and distinct, no two decision columns and no two forms share a name.
use Rattle.std.proofs.Common.{sym, ◌∙◌, ap, subst, refl, arith}
use Rattle.std.proofs.lemmas.List.{map-append}
use Rattle.std.proofs.lemmas.List.Concat.{flat_map_single}
use Rattle.std.specs.Prelude.{◌≡◌, ◌≢◌, zero, suc, ◌<◌, List, [], ◌∷◌, ◌++◌, length, map, flat_map, codes}
use Rattle.rob_meaning.proofs.Lists.DistinctLemmas.{distinct_append, apart_append, apart_by, distinct_map, Keyed, flat_distinct, flat_apart}
use Rattle.rob_meaning.proofs.Lists.EachLemmas.{each_append, each_both, each_map}
use Rattle.rob_meaning.proofs.Naming.JoinedLemmas.{ArePlain, distinct_joined}
use Rattle.rob_meaning.proofs.Naming.NamedLemmas.{part, plain_word, bounds_distinct, bounds_keyed, bounds_plain, sides_distinct, sides_plain, row_keyed, each_mapped, each_unmapped, each_all, each_flat, keyed_has}
use Rattle.rob_meaning.specs.Named.{AreDistinct, IsPlain, IsFree, IsNamed}
use Rattle.rob_meaning.specs.Names.{Parts, joined, parameter_name, bound_parts, side_parts, rule_parts, column_parts, column_names_with_tau, form_parts, form_names}
use Rattle.rob_meaning.specs.Places.{Each}
use Rattle.rob_meaning.specs.RobustModel.{Variable, AdaptiveVariable, Row, RobustModel, written_count}
use Rattle.rob_meaning.specs.WellFormed.{IsModel}
use Rattle.rob_meaning.proofs.Naming.DeclaredLemmas.{rows_distinct, variables_distinct, adaptives_distinct, variables_apart_adaptives, rows_apart_variables, rows_apart_adaptives, on_rows, on_variables, on_adaptives, wname_plain, pname_same, written_below}

module _ (m : RobustModel) (model : IsModel m) (named : IsNamed m) where
  -- ---- decision columns
  rule_distinct : (y : AdaptiveVariable) → Each (λ k. k < written_count m) y.on → AreDistinct y.on →
      AreDistinct (rule_parts m.parameters y)
  rule_distinct y inside d = (
    each_mapped (λ q. (y.name ∷ []) ≢ q) (λ d. y.name ∷ parameter_name m.parameters d ∷ [])
        (λ k. k < written_count m)
        (λ k some e. shorter (ap length e)) y.on inside,
    distinct_map (λ k. k < written_count m) (λ d. y.name ∷ parameter_name m.parameters d ∷ [])
        (λ i j hi hj e. pname_same m model named i j (written_below m model named i hi)
        (written_below m model named j hj)
        (ap (part 1) e)) y.on inside d,
  )
    where
      shorter : suc zero ≡ suc (suc zero) → ⊥
      shorter e = omega arith

  rules_distinct : (as_listed : List AdaptiveVariable) →
      Each (λ (y : AdaptiveVariable). Each (λ k. k < written_count m) y.on) as_listed →
      Each (λ (y : AdaptiveVariable). AreDistinct y.on) as_listed → Each
      (λ y. AreDistinct (rule_parts m.parameters y)) as_listed
  rules_distinct [] h k = tt
  rules_distinct (y ∷ rest) h k = (rule_distinct y h.0 k.0, rules_distinct rest h.1 k.1)

  rules_keyed : Keyed (part 0) (λ (y : AdaptiveVariable). y.name) (rule_parts m.parameters) m.adaptives
  rules_keyed = each_all (λ y. Each (λ p. part 0 p ≡ y.name) (rule_parts m.parameters y)) own m.adaptives
    where
      own : (y : AdaptiveVariable) → Each (λ p. part 0 p ≡ y.name) (rule_parts m.parameters y)
      own y = (
        refl,
        each_mapped (λ p. part 0 p ≡ y.name) (λ d. y.name ∷ parameter_name m.parameters d ∷ []) (λ d. Unit {0})
            (λ d k. refl) y.on (each_all (λ d. Unit {0}) (λ d. tt) y.on),
      )

  abbrev variable_part : Variable → List Parts
  variable_part x = (x.name ∷ []) ∷ []

  variables_keyed : Keyed (part 0) (λ (x : Variable). x.name) variable_part m.variables
  variables_keyed = each_all (λ x. Each (λ p. part 0 p ≡ x.name) (variable_part x)) (λ x. (refl, tt)) m.variables

  abbrev columns : List Parts
  columns = flat_map variable_part m.variables ++ flat_map (rule_parts m.parameters) m.adaptives

  columns_are : columns ≡ column_parts m
  columns_are =
      ap (λ zs. zs ++ flat_map (rule_parts m.parameters) m.adaptives)
      (flat_map_single (λ (x : Variable). x.name ∷ []) m.variables)

  columns_distinct : AreDistinct columns
  columns_distinct =
      distinct_append (flat_map variable_part m.variables) (flat_map (rule_parts m.parameters) m.adaptives)
      (flat_distinct (part 0) (λ (x : Variable). x.name) variable_part m.variables
      (variables_distinct m named) variables_keyed
      (each_all (λ x. AreDistinct (variable_part x)) (λ x. (tt, tt)) m.variables))
      (flat_distinct (part 0) (λ (y : AdaptiveVariable). y.name) (rule_parts m.parameters) m.adaptives
      (adaptives_distinct m named) rules_keyed
      (rules_distinct m.adaptives model.lists named.lists))
      (flat_apart (part 0) (λ (x : Variable). x.name) variable_part m.variables (λ (y : AdaptiveVariable). y.name)
      (rule_parts m.parameters) m.adaptives
      (variables_apart_adaptives m named) variables_keyed rules_keyed)

  rule_plain : (y : AdaptiveVariable) → IsPlain y.name × Each (λ k. k < written_count m) y.on →
      Each ArePlain (rule_parts m.parameters y)
  rule_plain y h = (
    (h.0, tt),
    each_mapped ArePlain (λ d. y.name ∷ parameter_name m.parameters d ∷ []) (λ k. k < written_count m)
        (λ d k. (h.0, (wname_plain m model named d k, tt))) y.on h.1,
  )

  columns_plain : Each ArePlain columns
  columns_plain =
      each_append ArePlain (flat_map variable_part m.variables) (flat_map (rule_parts m.parameters) m.adaptives)
      (each_flat ArePlain (λ (x : Variable). IsPlain x.name) variable_part (λ x h. ((h, tt), tt)) m.variables
      (each_unmapped IsPlain (λ (x : Variable). x.name) m.variables (on_variables m named IsPlain named.plain)))
      (each_flat ArePlain (λ (y : AdaptiveVariable). IsPlain y.name × Each (λ k. k < written_count m) y.on)
      (rule_parts m.parameters) rule_plain m.adaptives
      (each_both (λ (y : AdaptiveVariable). IsPlain y.name) (λ y. Each (λ k. k < written_count m) y.on)
      (λ y. IsPlain y.name × Each (λ k. k < written_count m) y.on) (λ y h k. (h, k)) m.adaptives
      (each_unmapped IsPlain (λ (y : AdaptiveVariable). y.name) m.adaptives (on_adaptives m named IsPlain named.plain))
      model.lists))

  -- none of them begins with a word that is kept
  columns_free : Each (λ p. IsFree (part 0 p)) columns
  columns_free =
      each_append (λ p. IsFree (part 0 p)) (flat_map variable_part m.variables)
      (flat_map (rule_parts m.parameters) m.adaptives)
      (keyed_has (part 0) IsFree (λ (x : Variable). x.name) variable_part m.variables
      (on_variables m named IsFree named.free) variables_keyed)
      (keyed_has (part 0) IsFree (λ (y : AdaptiveVariable). y.name) (rule_parts m.parameters) m.adaptives
      (on_adaptives m named IsFree named.free) rules_keyed)

  abbrev tau_part : List Parts
  tau_part = (codes "tau" ∷ []) ∷ []

  pub distinct_columns : AreDistinct (column_names_with_tau m)
  distinct_columns =
      subst AreDistinct (map-append joined (column_parts m) tau_part)
      (subst (λ zs. AreDistinct (map joined (zs ++ tau_part))) columns_are
      (distinct_joined (columns ++ tau_part)
      (each_append ArePlain columns tau_part columns_plain ((plain_word (codes "tau") refl, tt), tt))
      (distinct_append columns tau_part columns_distinct (tt, tt)
      (apart_by (λ p. IsFree (part 0 p)) (λ p. part 0 p ≡ codes "tau")
      (λ p q free e same. free.1 (ap (part 0) same ∙ e))
      columns tau_part columns_free (refl, tt)))))

  -- ---- forms
  abbrev row_part : Row → List Parts
  row_part r = side_parts r.relation (r.name ∷ [])

  abbrev variable_bound : Variable → List Parts
  variable_bound x = bound_parts x.name x.lower x.upper

  abbrev adaptive_bound : AdaptiveVariable → List Parts
  adaptive_bound y = bound_parts y.name y.lower y.upper

  abbrev own_rows : List Parts
  own_rows = flat_map row_part m.rows

  abbrev own_variables : List Parts
  own_variables = flat_map variable_bound m.variables

  abbrev own_adaptives : List Parts
  own_adaptives = flat_map adaptive_bound m.adaptives

  rows_keyed : Keyed (part 0) (λ (r : Row). r.name) row_part m.rows
  rows_keyed = each_all (λ r. Each (λ p. part 0 p ≡ r.name) (row_part r)) (λ r. row_keyed r.relation r.name) m.rows

  bounds_of_variables : Keyed (part 0) (λ (x : Variable). x.name) variable_bound m.variables
  bounds_of_variables =
      each_all (λ x. Each (λ p. part 0 p ≡ x.name) (variable_bound x))
      (λ x. bounds_keyed x.name x.lower x.upper) m.variables

  bounds_of_adaptives : Keyed (part 0) (λ (y : AdaptiveVariable). y.name) adaptive_bound m.adaptives
  bounds_of_adaptives =
      each_all (λ y. Each (λ p. part 0 p ≡ y.name) (adaptive_bound y))
      (λ y. bounds_keyed y.name y.lower y.upper) m.adaptives

  later_forms_distinct : AreDistinct (own_rows ++ (own_variables ++ own_adaptives))
  later_forms_distinct =
      distinct_append own_rows (own_variables ++ own_adaptives)
      (flat_distinct (part 0) (λ (r : Row). r.name) row_part m.rows (rows_distinct m named) rows_keyed
      (each_all (λ r. AreDistinct (row_part r)) (λ r. sides_distinct r.relation (r.name ∷ [])) m.rows))
      (distinct_append own_variables own_adaptives
      (flat_distinct (part 0) (λ (x : Variable). x.name) variable_bound m.variables
      (variables_distinct m named) bounds_of_variables
      (each_all (λ x. AreDistinct (variable_bound x)) (λ x. bounds_distinct x.name x.lower x.upper) m.variables))
      (flat_distinct (part 0) (λ (y : AdaptiveVariable). y.name) adaptive_bound m.adaptives
      (adaptives_distinct m named) bounds_of_adaptives
      (each_all (λ y. AreDistinct (adaptive_bound y)) (λ y. bounds_distinct y.name y.lower y.upper) m.adaptives))
      (flat_apart (part 0) (λ (x : Variable). x.name) variable_bound m.variables
      (λ (y : AdaptiveVariable). y.name) adaptive_bound m.adaptives
      (variables_apart_adaptives m named) bounds_of_variables bounds_of_adaptives))
      (apart_append own_rows own_variables own_adaptives
      (flat_apart (part 0) (λ (r : Row). r.name) row_part m.rows (λ (x : Variable). x.name) variable_bound m.variables
      (rows_apart_variables m named) rows_keyed bounds_of_variables)
      (flat_apart (part 0) (λ (r : Row). r.name) row_part m.rows
      (λ (y : AdaptiveVariable). y.name) adaptive_bound m.adaptives
      (rows_apart_adaptives m named) rows_keyed bounds_of_adaptives))

  later_forms_free : Each (λ p. IsFree (part 0 p)) (own_rows ++ (own_variables ++ own_adaptives))
  later_forms_free =
      each_append (λ p. IsFree (part 0 p)) own_rows (own_variables ++ own_adaptives)
      (keyed_has (part 0) IsFree (λ (r : Row). r.name) row_part m.rows (on_rows m named IsFree named.free) rows_keyed)
      (each_append (λ p. IsFree (part 0 p)) own_variables own_adaptives
      (keyed_has (part 0) IsFree (λ (x : Variable). x.name) variable_bound m.variables
      (on_variables m named IsFree named.free) bounds_of_variables)
      (keyed_has (part 0) IsFree (λ (y : AdaptiveVariable). y.name) adaptive_bound m.adaptives
      (on_adaptives m named IsFree named.free) bounds_of_adaptives))

  later_forms_plain : Each ArePlain (own_rows ++ (own_variables ++ own_adaptives))
  later_forms_plain =
      each_append ArePlain own_rows (own_variables ++ own_adaptives)
      (each_flat ArePlain (λ (r : Row). IsPlain r.name) row_part
      (λ r h. sides_plain r.relation r.name [] (h, tt)) m.rows
      (each_unmapped IsPlain (λ (r : Row). r.name) m.rows (on_rows m named IsPlain named.plain)))
      (each_append ArePlain own_variables own_adaptives
      (each_flat ArePlain (λ (x : Variable). IsPlain x.name) variable_bound
      (λ x h. bounds_plain x.name x.lower x.upper h) m.variables
      (each_unmapped IsPlain (λ (x : Variable). x.name) m.variables (on_variables m named IsPlain named.plain)))
      (each_flat ArePlain (λ (y : AdaptiveVariable). IsPlain y.name) adaptive_bound
      (λ y h. bounds_plain y.name y.lower y.upper h) m.adaptives
      (each_unmapped IsPlain (λ (y : AdaptiveVariable). y.name) m.adaptives
      (on_adaptives m named IsPlain named.plain))))

  pub distinct_forms : AreDistinct (form_names m)
  distinct_forms =
      distinct_joined (form_parts m) ((plain_word (codes "objective") refl, tt), later_forms_plain) (
        each_map (λ p. IsFree (part 0 p)) (λ p. (codes "objective" ∷ []) ≢ p) (λ p free e. free.0 (sym (ap (part 0) e)))
            (own_rows ++ (own_variables ++ own_adaptives)) later_forms_free,
        later_forms_distinct,
      )
