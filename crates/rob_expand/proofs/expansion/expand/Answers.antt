use Rattle.std.proofs.Common.{List, [], ◌++◌, sym, ap, ◌∙◌}
use Rattle.std.specs.Prelude.{ℤ, fold}
use Rattle.std.specs.List.{list_any}
use Rattle.rob_algebra.proofs.ListLemmas.{map_map}
use Rattle.rob_index.specs.Rules.{is_long_name}
use Rattle.rob_syntax.specs.declared.syntax.Statement.{Statement}
use Rattle.rob_syntax.specs.Numbered.{numbered}
use Rattle.rob_index.specs.Forms.{Ends, extensions}
use Rattle.rob_syntax.specs.Known.{texts}
use Rattle.rob_syntax.specs.Seen.{seen_statement}
use Rattle.rob_expand.specs.Growing.{add_name, line_names, printed}
use Rattle.rob_expand.specs.Instances.{instance}
use Rattle.rob_expand.proofs.Expanding.ExpandLemmas.{line_of_is, words_are, list_is, is_refused, are_statements, lacks_refused}
use Rattle.rob_expand.proofs.Counting.ThinLemmas.{spots_flat, spots_map}
use Rattle.rob_settings.proofs.SpotLemmas.{thin_spots, values_in}
use Rattle.rob_expand.proofs.expansion.expand.Goals as goal

pub lacks_members-requires : goal.lacks_members-requires
lacks_members-requires c = record {
  line = line_of_is c.args.limit (seen_statement c.args.statement.now) _ _ c.in_ok-ranges.ensures.line;
}

pub append_instances-requires : goal.append_instances-requires
append_instances-requires c = record {
  line = line_of_is c.args.limit (seen_statement c.args.statement.now) _ _ c.in_ok-ranges.ensures.line;
  thin = thin_spots _ _ _ _ c.items-2.ensures.list c.items-5.ensures.list c.in_ok-spots.ensures.thin;
}

pub grow_lines-requires : goal.grow_lines-requires
grow_lines-requires c = record {
  thin = thin_spots _ _ _ _ c.items-2.ensures.list c.items-4.ensures.list c.in_ok-spots.ensures.thin;
}

pub returns-then-lacking-clause-refused : goal.returns-then-lacking-clause-refused
returns-then-lacking-clause-refused c =
    let own = texts c.args.own.now.keys in
    let settings = c.in_ok-settings.ensures.settings ∙ ap (λ (rs : List Ends). extensions rs []) c.items.ensures.list in
    lacks_refused own c.args.limit (seen_statement c.args.statement.now) _ _ c.in_ok-ranges.ensures.line
    c.requires.within
    c.in_ok-settings.settings settings c.in_ok-lacking.lacking (c.in_ok-lacking.ensures.lacks own) c.if-lacking.true

pub returns-then-long-clause-refused : goal.returns-then-long-clause-refused
returns-then-long-clause-refused c =
    let own = texts c.args.own.now.keys in
    let settings = c.in_ok-settings.ensures.settings ∙ ap (λ (rs : List Ends). extensions rs []) c.items.ensures.list in
    is_refused own c.args.limit (seen_statement c.args.statement.now) _ _ c.in_ok-ranges.ensures.line c.requires.within
    c.in_ok-settings.settings settings c.in_ok-long.long
    (c.in_ok-long.ensures.long
    ∙ ap (list_any is_long_name)
    (spots_flat (line_names own c.in_ok-ranges.line) c.items-4.result.now c.in_ok-settings.settings
    (ap values_in c.items-4.ensures.list ∙ c.in_ok-spots.ensures.values ∙ c.items-3.ensures.list)))
    c.if-long.true

pub returns : goal.returns
returns c =
    let own = texts c.args.own.now.keys in
    let s = seen_statement c.args.statement.now in
    let is = c.in_ok-ranges.ensures.line in
    let settings = c.in_ok-settings.ensures.settings ∙ ap (λ (rs : List Ends). extensions rs []) c.items.ensures.list in
    let names = line_names own c.in_ok-ranges.line in
    let old = texts c.args.words.now.keys in
    let new = texts c.grow_lines.new.words.keys in
    let values = c.in_ok-spots.ensures.values ∙ c.items-3.ensures.list in
    let same = spots_flat names c.items-4.result.now c.in_ok-settings.settings
    (ap values_in c.items-4.ensures.list ∙ values) in
    let told = c.in_ok-long.ensures.long ∙ ap (list_any is_long_name) same in
    let by = c.in_ok-long.ensures.words ∙ ap (fold add_name old) same in
    let made : List ℤ → Statement = λ (vs : List ℤ). numbered new (instance own printed s vs) in
    record {
      words =
          words_are own c.args.limit s _ _ is c.requires.within c.in_ok-settings.settings settings c.in_ok-long.long
          told old new by c.if-long.false;
      list =
          list_is own c.args.limit s _ _ is c.requires.within c.in_ok-settings.settings settings new c.args.list.now _
          (c.in_ok-append_instances.ensures.appended
          ∙ ap (λ (l : List Statement). c.args.list.now ++ l)
          (spots_map made c.items-5.result.now c.in_ok-settings.settings
          (ap values_in c.items-5.ensures.list ∙ values)
          ∙ sym (map_map (numbered new) (instance own printed s) c.in_ok-settings.settings)));
      refused =
          are_statements own c.args.limit s _ _ is c.requires.within c.in_ok-settings.settings settings
          c.in_ok-long.long told
          c.in_ok-lacking.lacking (c.in_ok-lacking.ensures.lacks own) c.if-long.false c.if-lacking.false;
    }
