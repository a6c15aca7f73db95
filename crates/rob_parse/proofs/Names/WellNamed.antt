-- The names of a model that a text reads as are plain, free and distinct.
use Rattle.std.proofs.Common.{ℕ, ◌<◌, ◌^◌, List, [], length, refl, sym, ap, subst, arith}
use Rattle.std.specs.List.{flat_map}
use Rattle.rob_meaning.specs.Named.{AreDistinct, IsPlain, IsFree, IsNamed, HasDistinctMembers, declared_names}
use Rattle.rob_meaning.specs.Places.{Each}
use Rattle.rob_meaning.specs.RobustModel as model
use Rattle.rob_meaning.specs.RobustModel.{RobustModel}
use Rattle.rob_syntax.specs.declared.syntax.Statement.{Statement}
use Rattle.rob_syntax.specs.declared.syntax.Statement.TheVariants as parsed
use Rattle.rob_parse.specs.Modelled.{ReadsModel}
use Rattle.rob_parse.specs.Written.{adaptives, goal_in, set_lines, sets, written_of}
use Rattle.rob_parse.specs.Models.{line_sets, objective_set, row_sets, model_of}
use Rattle.rob_syntax.specs.Names.{IsWord, IsSpelled}
use Rattle.rob_rules.specs.Chains.{Chain, IsNumber}
use Rattle.rob_rules.specs.Scopes.{Earlier, start}
use Rattle.rob_parse.proofs.Sizes.LimitLemmas.{within_limits}
use Rattle.rob_parse.proofs.Names.DeclaredLemmas.{numbers, all_declared, declared_are}
use Rattle.rob_parse.proofs.Sets.InSets.{lines_distinct}
use Rattle.rob_meaning.proofs.Naming.NamedLemmas.{each_flat}
use Rattle.rob_parse.proofs.Names.ChainLemmas.{model_chain, model_words}
use Rattle.rob_parse.proofs.Names.NamedLemmas.{names_free, names_plain, names_distinct, names_spelled}
use Rattle.rob_parse.proofs.Names.OnceLemmas.{IsInjective, IsOnce, all_once, injective, injective_start}
use Rattle.rob_parse.proofs.Names.SortLemmas.{none_named}

module _ (limit : ℕ) (f : Earlier) (inj : IsInjective f.sorts) where
  once_list : (words : List (List ℕ)) (s : Statement) → IsOnce limit f inj s
      → Each (λ (y : model.AdaptiveVariable). AreDistinct y.on) (adaptives words f.sorts s)
  once_list words (parsed.Adaptive p) once = (once, tt)
  once_list words (parsed.Set r) once = tt
  once_list words (parsed.Budget b) once = tt
  once_list words (parsed.Uncertain d) once = tt
  once_list words (parsed.Over k) once = tt
  once_list words (parsed.Var d) once = tt
  once_list words (parsed.Goal g) once = tt
  once_list words (parsed.Row r) once = tt

  once_members : (s : Statement) → IsOnce limit f inj s → Each HasDistinctMembers (set_lines f.sorts s)
  once_members (parsed.Budget b) once = (once, tt)
  once_members (parsed.Set r) once = (tt, tt)
  once_members (parsed.Adaptive p) once = tt
  once_members (parsed.Uncertain d) once = tt
  once_members (parsed.Over k) once = tt
  once_members (parsed.Var d) once = tt
  once_members (parsed.Goal g) once = tt
  once_members (parsed.Row r) once = tt

module _ (limit : ℕ) (words : List (List ℕ)) (list : List Statement) (f : Earlier)
    (chain : Chain limit words (start (length words)) list f) where
  declared : Each (IsNumber words) (numbers list) × AreDistinct (numbers list)
  declared = all_declared limit words list f chain

  inj : IsInjective f.sorts
  inj =
      let begin = start (length words) in
      injective limit words f.sorts begin list f [] chain (none_named (length words)) (injective_start (length words))

  once : Each (IsOnce limit f inj) list
  once = all_once limit f inj words (start (length words)) list chain

  pub written_members : Each HasDistinctMembers (flat_map (set_lines f.sorts) list)
  written_members =
      each_flat HasDistinctMembers (IsOnce limit f inj) (set_lines f.sorts) (once_members limit f inj) list once

  pub named_parts : Each IsPlain words → AreDistinct words → length (model_of words f.sorts list).set_lines < 2 ^ 32
      → IsNamed (model_of words f.sorts list)
  named_parts plain apart few =
      let are = declared_are words f.sorts list in
      record {
        plain = subst (Each IsPlain) (sym are) (names_plain words (numbers list) plain declared.0);
        free = subst (Each IsFree) (sym are) (names_free words (numbers list) declared.0);
        distinct = subst AreDistinct (sym are) (names_distinct words (numbers list) apart declared.0 declared.1);
        lists =
            each_flat (λ (y : model.AdaptiveVariable). AreDistinct y.on) (IsOnce limit f inj) (adaptives words f.sorts)
            (once_list limit f inj words) list once;
        members =
            lines_distinct (written_of words f.sorts list) refl (flat_map (sets words) list)
            (flat_map (line_sets f.sorts) list) (objective_set f.sorts (goal_in list))
            (flat_map (row_sets f.sorts) list)
            (flat_map (set_lines f.sorts) list) (flat_map (line_sets f.sorts) list) written_members;
        few = few;
      }

  pub spelled_parts : Each IsWord words → Each IsSpelled (declared_names (model_of words f.sorts list))
  spelled_parts all =
      subst (Each IsSpelled) (sym (declared_are words f.sorts list)) (names_spelled words (numbers list) all declared.0)

-- the law
pub well_named : (limit : ℕ) (text : List ℕ) (m : RobustModel) → ReadsModel limit text m → IsNamed m
well_named limit text m read =
    let words = model_words limit text m read in
    let few : length (model_of read.words read.known.sorts read.list).set_lines < 2 ^ 32 =
    omega (
      arith,
      (within_limits limit text m read).set_lines,
      ap (λ (x : RobustModel). length x.set_lines) read.model_is,
    )
    in
    subst IsNamed (sym read.model_is)
    (named_parts limit read.words read.list read.known (model_chain limit text m read) words.plain words.distinct few)

-- the declared names are words, no keywords, and not too long
pub well_spelled : (limit : ℕ) (text : List ℕ) (m : RobustModel) → ReadsModel limit text m
    → Each IsSpelled (declared_names m)
well_spelled limit text m read =
    subst (λ (x : RobustModel). Each IsSpelled (declared_names x)) (sym read.model_is)
    (spelled_parts limit read.words read.list read.known (model_chain limit text m read)
    (model_words limit text m read).are)

-- no budget that is written has a name twice
pub once_written : (limit : ℕ) (text : List ℕ) (m : RobustModel) (read : ReadsModel limit text m)
    → Each HasDistinctMembers (flat_map (set_lines read.known.sorts) read.list)
once_written limit text m read =
    written_members limit read.words read.list read.known (model_chain limit text m read)
