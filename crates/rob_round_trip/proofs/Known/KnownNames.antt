-- What the names of a text stand for: each declared name stands for its own thing, a name that stands for something is
-- that thing's name, and a name behind `over` stands for a set.
use Rattle.std.proofs.Common.{◌≡◌, ℕ, zero, suc, ◌+◌, ◌<◌, ◌⊎◌, inl, inr, Bool, false, List, [], ◌∷◌, length, map, get_or, refl, sym, ap, ◌∙◌, subst, arith}
use Rattle.std.specs.Prelude.{not, Option, Some, None}
use Rattle.std.specs.List.{flat_map}
use Rattle.std.proofs.lemmas.List.{get_or-set_same, length-replicate}
use Rattle.rob_meaning.specs.Named.{AreDistinct, adaptive_names, row_names, variable_names, written_names}
use Rattle.rob_meaning.specs.Places.{Each}
use Rattle.rob_meaning.specs.RobustModel as model
use Rattle.rob_meaning.specs.RobustModel.{RobustModel, list_in}
use Rattle.rob_rules.specs.declared.fault.Fault.TheVariants.{NoObjective}
use Rattle.rob_rules.specs.declared.size.Sizes.{Sizes}
use Rattle.rob_rules.specs.declared.sort.Sort.{Sort}
use Rattle.rob_rules.specs.declared.sort.Sort.TheVariants as sort
use Rattle.rob_rules.specs.declared.sort.Sort.TheVariants.{Parameter, Decision, Policy, RowName}
use Rattle.rob_syntax.specs.declared.syntax.Statement.{Statement}
use Rattle.rob_syntax.specs.declared.syntax.Statement.TheVariants as parsed
use Rattle.rob_write.specs.ExpressionWords.{naming_of}
use Rattle.rob_rules.specs.Degrees.{sort_at}
use Rattle.rob_rules.specs.Faults.{first_fault, has_fault, in_order, is_over_none, is_set, over_of}
use Rattle.rob_parse.specs.Modelled.{EndsInSet, IsOfSet}
use Rattle.rob_parse.specs.Written.{adaptives, goal_in, parameters, rows, sets, variables, word_of, written_of}
use Rattle.rob_parse.specs.Models.{line_sets, model_of, objective_set, row_sets}
use Rattle.rob_syntax.specs.Names.{IsWord}
use Rattle.rob_round_trip.specs.Readable.{AreKnown, HasByName, IsDeclarable}
use Rattle.rob_rules.specs.Chains.{Chain, IsNumber}
use Rattle.rob_rules.specs.Texts.{Reads}
use Rattle.rob_rules.specs.Scopes.{Earlier, behind, declare, declared_by, has_some, start}
use Rattle.rob_rules.specs.Sizes.{counted, start_sizes}
use Rattle.rob_syntax.specs.Symbols.{number_of}
use Rattle.rob_parse.proofs.Names.DeclaredLemmas.{adaptive_names_are, adaptive_numbers, flat_names, flat_sets, parameter_names_are, parameter_numbers, row_names_are, row_numbers, set_numbers, variable_names_are, variable_numbers}
use Rattle.rob_parse.proofs.Sets.InSets.{names_taken, parameters_are}
use Rattle.rob_parse.proofs.Names.NamedLemmas.{IsDeclared, declared_so, names_spelled}
use Rattle.rob_rules.proofs.Judging.ReadingLemmas.{none_found}
use Rattle.rob_parse.proofs.Chains.TextChains.{text_words}
use Rattle.rob_parse.proofs.Names.ChainLemmas.{reads_chain}
use Rattle.rob_parse.proofs.Names.SortLemmas.{Names, all_named, kept_behind, none_named, stays}
use Rattle.rob_rules.proofs.Joining.GrowingLemmas.{nothing_at}
use Rattle.rob_rules.proofs.Joining.WidenedLemmas.{declare_length}
use Rattle.rob_parse.proofs.Names.WordSetLemmas.{in_place, number_found, one_number}
use Rattle.rob_round_trip.proofs.Written.DeclarableLines.{name_read}
use Rattle.rob_round_trip.proofs.Known.NamedThings.{IsDeclaredIn, IsThing, things, declared_in, found_at, depends_same}
use Rattle.std.proofs.lemmas.Bool.{or_parts}

-- ---- what is declared stands for the numbers of its kind, in order
module _ (words : List (List ℕ)) (sorts : List (Option Sort)) where
  -- these are names, and stand for what is numbered so from some number on
  abbrev Numbered : (ℕ → Option Sort → Type 0) → ℕ → List ℕ → Type 0
  Numbered Is n [] = Unit {0}
  Numbered Is n (k ∷ ks) = (IsNumber words k × Is n (sort_at sorts k)) × Numbered Is (n + 1) ks

abbrev IsParameter : ℕ → Option Sort → Type 0
IsParameter n o = o ≡ Some (Parameter n)

abbrev IsSet : ℕ → Option Sort → Type 0
IsSet n o = o ≡ Some (sort.Set (n + 1))

abbrev IsVariable : ℕ → Option Sort → Type 0
IsVariable n o = o ≡ Some (Decision n)

abbrev IsAdaptive : ℕ → Option Sort → Type 0
IsAdaptive n o = (depends : Bool) × (o ≡ Some (Policy n depends))

record AreNumbered (words : List (List ℕ)) (sorts : List (Option Sort)) (s : Sizes)
    (list : List Statement) : Type 0 where
  parameters : Numbered words sorts IsParameter s.parameters (flat_map parameter_numbers list)
  sets : Numbered words sorts IsSet s.sets (flat_map set_numbers list)
  variables : Numbered words sorts IsVariable s.variables (flat_map variable_numbers list)
  adaptives : Numbered words sorts IsAdaptive s.adaptives (flat_map adaptive_numbers list)

module _ (words : List (List ℕ)) (f : Earlier) where
  -- what is declared at a line stands so at the end
  abbrev Stay : List (Option Sort) → Type 0
  Stay sorts = (k : ℕ) (x : Sort) → sort_at sorts k ≡ Some x → sort_at f.sorts k ≡ Some x

  declared_stays : (sorts : List (Option Sort)) (k : ℕ) (x : Sort) → length sorts ≡ length words → IsNumber words k
      → Stay (declare sorts (Some (k, x)))
      → sort_at f.sorts k ≡ Some x
  declared_stays sorts k x long is stay = stay k x (get_or-set_same sorts k (Some x) None (omega (arith, long, is.0)))

  -- one statement more
  numbered_more : (e : Earlier) (s : Statement) (list : List Statement) → length e.sorts ≡ length words
      → IsDeclared words (declared_by e.sizes s)
      → Stay (declare e.sorts (declared_by e.sizes s)) → AreNumbered words f.sorts (counted e.sizes s) list
      → AreNumbered words f.sorts e.sizes (s ∷ list)
  unfolding parameter_numbers set_numbers variable_numbers adaptive_numbers
  numbered_more e (parsed.Uncertain d) list long is stay rest = record {
    parameters = ((is, declared_stays e.sorts d.name _ long is stay), rest.parameters);
    sets = rest.sets;
    variables = rest.variables;
    adaptives = rest.adaptives;
  }
  numbered_more e (parsed.Over k) list long is stay rest = record {
    parameters = rest.parameters;
    sets = ((is, declared_stays e.sorts k _ long is stay), rest.sets);
    variables = rest.variables;
    adaptives = rest.adaptives;
  }
  numbered_more e (parsed.Var d) list long is stay rest = record {
    parameters = rest.parameters;
    sets = rest.sets;
    variables = ((is, declared_stays e.sorts d.name _ long is stay), rest.variables);
    adaptives = rest.adaptives;
  }
  numbered_more e (parsed.Adaptive p) list long is stay rest = record {
    parameters = rest.parameters;
    sets = rest.sets;
    variables = rest.variables;
    adaptives = ((is, (has_some p.on, declared_stays e.sorts p.name _ long is stay)), rest.adaptives);
  }
  numbered_more e (parsed.Set r) list long is stay rest = record {
    parameters = rest.parameters;
    sets = rest.sets;
    variables = rest.variables;
    adaptives = rest.adaptives;
  }
  numbered_more e (parsed.Budget b) list long is stay rest = record {
    parameters = rest.parameters;
    sets = rest.sets;
    variables = rest.variables;
    adaptives = rest.adaptives;
  }
  numbered_more e (parsed.Goal g) list long is stay rest = record {
    parameters = rest.parameters;
    sets = rest.sets;
    variables = rest.variables;
    adaptives = rest.adaptives;
  }
  numbered_more e (parsed.Row r) list long is stay rest = record {
    parameters = rest.parameters;
    sets = rest.sets;
    variables = rest.variables;
    adaptives = rest.adaptives;
  }

  module _ (limit : ℕ) where
    numbered : (e : Earlier) (list : List Statement) → length e.sorts ≡ length words → Chain limit words e list f
        → AreNumbered words f.sorts e.sizes list
    numbered e [] long chain = record { parameters = tt; sets = tt; variables = tt; adaptives = tt }
    numbered e (s ∷ list) long chain =
        numbered_more e s list long (declared_so words e.sizes s chain.0.formed)
        (stays limit words (behind e s) list f chain.1)
        (numbered (behind e s) list (declare_length e.sorts (declared_by e.sizes s) ∙ long) chain.1)

-- ---- a name by its number
module _ (words : List (List ℕ)) (all : Each IsWord words) (distinct : AreDistinct words) where
  sound_name : (k : ℕ) → IsNumber words k → IsDeclarable words (word_of words k)
  sound_name k is =
      name_read words (word_of words k) (names_spelled words (k ∷ []) all (is, tt)).0 (in_place words k is.0)

  number_is : (k : ℕ) → k < length words → number_of words (word_of words k) ≡ k
  number_is k inside =
      let found = number_found words (word_of words k) (in_place words k inside) in
      one_number words (number_of words (word_of words k)) k distinct found.0 inside found.1

  -- name `j` of a list of names stands for the thing of its number
  module _ (sorts : List (Option Sort)) (Is : ℕ → Option Sort → Type 0) where
    word_stands : (n : ℕ) (ks : List ℕ) → Numbered words sorts Is n ks → (j : ℕ) → j < length (map (word_of words) ks)
        → IsDeclarable words (get_or (map (word_of words) ks) j [])
        × Is (n + j) (sort_at sorts (number_of words (get_or (map (word_of words) ks) j [])))
    word_stands n [] h j inside = absurd (omega arith)
    word_stands n (k ∷ ks) h zero inside = (
      sound_name k h.0.0,
      subst (λ (i : ℕ). Is i (sort_at sorts (number_of words (word_of words k)))) (let e : n ≡ n + 0 = omega arith in e)
          (subst (λ (i : ℕ). Is n (sort_at sorts i)) (sym (number_is k h.0.0.0)) h.0.1),
    )
    word_stands n (k ∷ ks) h (suc j) inside =
        let r = word_stands (n + 1) ks h.1 j (omega arith) in (
          r.0,
          subst (λ (i : ℕ). Is i (sort_at sorts (number_of words (get_or (map (word_of words) ks) j []))))
              (let e : (n + 1) + j ≡ n + suc j = omega arith in e) r.1,
        )

    -- the same of a list of names that is known
    name_stands : (names : List (List ℕ)) (ks : List ℕ) → names ≡ map (word_of words) ks → Numbered words sorts Is 0 ks
        → (j : ℕ) → j < length names
        → IsDeclarable words (get_or names j []) × Is j (sort_at sorts (number_of words (get_or names j [])))
    name_stands names ks same h j inside =
        let r = word_stands 0 ks h j (subst (λ (ns : List (List ℕ)). j < length ns) same inside) in
        subst (λ (ns : List (List ℕ)). IsDeclarable words (get_or ns j [])
        × Is j (sort_at sorts (number_of words (get_or ns j [])))) (sym same) (
          r.0,
          subst (λ (i : ℕ). Is i (sort_at sorts (number_of words (get_or (map (word_of words) ks) j []))))
              (let e : 0 + j ≡ j = omega arith in e) r.1,
        )

-- the names of the written parameters
written_names_are : (words : List (List ℕ)) (sorts : List (Option Sort)) (list : List Statement)
    → written_names (model_of words sorts list) ≡ map (word_of words) (flat_map parameter_numbers list)
written_names_are words sorts list =
    ap (map (λ (x : model.Parameter). x.name))
    (parameters_are (written_of words sorts list) refl (flat_map (sets words) list) (flat_map (line_sets sorts) list)
    (objective_set sorts (goal_in list)) (flat_map (row_sets sorts) list))
    ∙ flat_names (parameters words) (λ (x : model.Parameter). x.name) parameter_numbers (word_of words)
    (parameter_names_are words sorts) list

-- ---- what stands behind `over`
is_sets : (o : Option Sort) → not (is_set o) ≡ false → (S : ℕ) × (o ≡ Some (sort.Set S))
is_sets (Some (sort.Set S)) h = (S, refl)
is_sets (Some (Parameter j)) h = cc
is_sets (Some (Decision j)) h = cc
is_sets (Some (Policy j depends)) h = cc
is_sets (Some RowName) h = cc
is_sets None h = cc

module _ (limit : ℕ) (f : Earlier) where
  -- a set that is declared at a line is there at the end
  of_set : (sorts : List (Option Sort))
      → ((k : ℕ) (x : Sort) → sort_at sorts k ≡ Some x → sort_at f.sorts k ≡ Some x) → (o : Option ℕ)
      → is_over_none sorts o ≡ false → IsOfSet f.sorts o
  of_set sorts stay None known = tt
  of_set sorts stay (Some k) known = let is = is_sets (sort_at sorts k) known in (is.0, stay k (sort.Set is.0) is.1)

  -- a statement that ends in such a set
  ends_so : (sorts : List (Option Sort))
      → ((k : ℕ) (x : Sort) → sort_at sorts k ≡ Some x → sort_at f.sorts k ≡ Some x) → (s : Statement)
      → is_over_none sorts (over_of s) ≡ false → EndsInSet f.sorts s
  ends_so sorts stay (parsed.Set r) known = of_set sorts stay r.over known
  ends_so sorts stay (parsed.Budget b) known = of_set sorts stay b.over known
  ends_so sorts stay (parsed.Goal g) known = of_set sorts stay g.over known
  ends_so sorts stay (parsed.Row r) known = of_set sorts stay r.relation.over known
  ends_so sorts stay (parsed.Uncertain d) known = tt
  ends_so sorts stay (parsed.Over k) known = tt
  ends_so sorts stay (parsed.Var d) known = tt
  ends_so sorts stay (parsed.Adaptive p) known = tt

  -- a statement without a fault
  over_known : (before now : Earlier) (s : Statement) → first_fault limit before now s ≡ None
      → is_over_none before.sorts (over_of s) ≡ false
  over_known before now s clean =
      (or_parts _ _ (none_found (has_fault limit before now s) in_order 1 NoObjective clean (omega arith))).1

  all_end : (words : List (List ℕ)) (e : Earlier) (list : List Statement) → Chain limit words e list f
      → Each (EndsInSet f.sorts) list
  all_end words e [] chain = tt
  all_end words e (s ∷ list) chain = (
    ends_so chain.0.before.sorts (kept_behind limit words e s list f chain) s
        (over_known chain.0.before e s chain.0.faultless),
    all_end words (behind e s) list chain.1,
  )

-- ---- the laws
pub ends_in_sets : (limit : ℕ) (text : List ℕ) (words : List (List ℕ)) (list : List Statement) (e : Earlier)
    → Reads limit text words list e
    → Each (EndsInSet e.sorts) list
ends_in_sets limit text words list e read =
    all_end limit e words (start (length words)) list (reads_chain limit text words list e read)

pub known : (limit : ℕ) (text : List ℕ) (words : List (List ℕ)) (list : List Statement) (e : Earlier)
    → Reads limit text words list e
    → AreKnown words e.sorts (naming_of (model_of words e.sorts list))
known limit text words list e read =
    let w_are = text_words limit text words list e read in
    let chain = reads_chain limit text words list e read in
    let n = numbered words e limit (start (length words)) list (length-replicate (length words) None) chain in
    let w = word_of words in
    let sorts = e.sorts in
    let p = name_stands words w_are.are w_are.distinct sorts IsParameter
    (naming_of (model_of words sorts list)).parameters (flat_map parameter_numbers list)
    (written_names_are words sorts list) n.parameters in
    let s = name_stands words w_are.are w_are.distinct sorts IsSet (flat_map (sets words) list)
    (flat_map set_numbers list) (flat_sets words sorts list) n.sets in
    let v = name_stands words w_are.are w_are.distinct sorts IsVariable
    (naming_of (model_of words sorts list)).variables (flat_map variable_numbers list)
    (flat_names (variables words) (λ (x : model.Variable). x.name) variable_numbers w
    (variable_names_are words sorts) list) n.variables in
    let a = name_stands words w_are.are w_are.distinct sorts IsAdaptive
    (naming_of (model_of words sorts list)).adaptives (flat_map adaptive_numbers list)
    (flat_names (adaptives words sorts) (λ (x : model.AdaptiveVariable). x.name) adaptive_numbers w
    (adaptive_names_are words sorts) list) n.adaptives in
    record {
      parameters = λ k h. record { is_name = (p k h).0.is_name; sort_is = (p k h).1 };
      sets = λ k h. record {
        is_name = (s k h).0.is_name;
        sort_is = (s k h).1
            ∙ ap (λ (i : ℕ). Some (sort.Set i)) (let e : k + 1 ≡ suc k = omega arith in e);
      };
      variables = λ k h. record { is_name = (v k h).0.is_name; sort_is = (v k h).1 };
      adaptives = λ k h. ((a k h).1.0, record { is_name = (a k h).0.is_name; sort_is = (a k h).1.1 });
    }

module _ (limit : ℕ) (text : List ℕ) (words : List (List ℕ)) (list : List Statement) (e : Earlier)
    (read : Reads limit text words list e) where
  abbrev m : RobustModel
  m = model_of words e.sorts list

  of_kind : (k : ℕ) (x : Sort) → sort_at e.sorts k ≡ Some x → IsThing start_sizes list k x
      → HasByName m (word_of words k) x
  of_kind k (Parameter j) is h =
      found_at words (written_names m) (flat_map parameter_numbers list) k j (written_names_are words e.sorts list) h
  of_kind k (Decision j) is h =
      found_at words (variable_names m) (flat_map variable_numbers list) k j
      (flat_names (variables words) (λ (x : model.Variable). x.name) variable_numbers (word_of words)
      (variable_names_are words e.sorts) list) h
  of_kind k (Policy j depends) is h =
      let all = all_named words e.sorts limit (start (length words)) list e []
      (reads_chain limit text words list e read) (none_named (length words)) in
      let named = subst (Names e.sizes.parameters e.sizes.variables m.adaptives) is (all.1 k) in (
        found_at words (adaptive_names m) (flat_map adaptive_numbers list) k j
            (flat_names (adaptives words e.sorts) (λ (y : model.AdaptiveVariable). y.name) adaptive_numbers
            (word_of words) (adaptive_names_are words e.sorts) list) h,
        depends_same (list_in m.adaptives j) depends named.1,
      )
  of_kind k RowName is h = (
    h.0,
    found_at words (row_names m) (flat_map row_numbers list) k h.0
        (names_taken (length (flat_map (parameters words) list)) (flat_map (rows words e.sorts) list)
        (flat_map (row_sets e.sorts) list)
        ∙ flat_names (rows words e.sorts) (λ (r : model.Row). r.name) row_numbers (word_of words)
        (row_names_are words e.sorts) list) h.1,
  )
  of_kind k (sort.Set S) is h =
      (h.0, h.1, found_at words m.sets (flat_map set_numbers list) k h.0 (flat_sets words e.sorts list) h.2)

  pub has_by_name : (k : ℕ) (x : Sort) → sort_at e.sorts k ≡ Some x → HasByName m (word_of words k) x
  has_by_name k x is =
      go (declared_in limit words e k x is (start (length words)) list (reads_chain limit text words list e read))
    where
      go : IsDeclaredIn start_sizes list k x ⊎ (sort_at (start (length words)).sorts k ≡ Some x)
          → HasByName m (word_of words k) x
      go (inl h) = of_kind k x is (things start_sizes list k x h)
      go (inr h) = let p = nothing_at (length words) k in cc
