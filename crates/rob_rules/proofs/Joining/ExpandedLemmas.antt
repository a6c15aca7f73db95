-- A line that breaks no rule of indices: what is kept when its plain statements are appended.
use Rattle.std.proofs.Common.{◌≡◌, ℕ, ◌+◌, ◌-◌, ◌≤◌, Bool, true, false, List, ◌++◌, length, map, Option, Some, None, sym, ap, ◌∙◌, subst, arith, append_assoc, length-append}
use Rattle.std.specs.Prelude.{fold, is_some, if◌then◌else◌}
use Rattle.std.specs.List.{list_any}
use Rattle.std.specs.Option.{MatchOption}
use Rattle.std.proofs.lemmas.Option.{MatchOption-at_some, MatchOption-at_none}
use Rattle.rob_index.specs.Counting.{lines_tokens}
use Rattle.rob_index.specs.Expansion.{expand}
use Rattle.rob_index.specs.Rules.{IndexFault, no_statement, most_tokens, is_no_statement, rule_of as index_rule}
use Rattle.rob_index.specs.Search.{named}
use Rattle.rob_index.specs.Statements.{Name, Indexed, Tree}
use Rattle.rob_places.specs.Tests.{is_set}
use Rattle.rob_syntax.specs.Known.{texts}
use Rattle.rob_syntax.specs.Numbered.{numbered}
use Rattle.rob_expand.specs.declared.name.Refusal.{Refusal}
use Rattle.rob_expand.specs.declared.name.Refusal.TheVariants.{NoStatement}
use Rattle.rob_expand.specs.Growing.{HasRefusal}
use Rattle.rob_rules.specs.declared.indices.IndexFault.{IndexFault as IndexErr}
use Rattle.rob_rules.specs.declared.lines.Reader.{Reader}
use Rattle.rob_rules.specs.declared.lines.Stop.TheVariants as stop
use Rattle.rob_rules.specs.Degrees.{sort_at}
use Rattle.rob_rules.specs.Indices.{late_fault, seen_fault}
use Rattle.rob_rules.specs.Names.{grown, widened}
use Rattle.rob_rules.specs.Scopes.{Earlier, earlier_of}
use Rattle.rob_rules.specs.Sizes.{IsKept}
use Rattle.rob_rules.specs.Stages.{IsBetween, IsExpanded, IsWidened, HasIndexStop, LeaveRoom, named_of, named_behind_lines, padded}
use Rattle.rob_rules.specs.Texts.{is_declared}
use Rattle.rob_rules.proofs.Counts.CountLemmas.{kept_up_to, leaves_room}
use Rattle.rob_rules.proofs.Judging.IndicesLemmas.{room_named, same_named}
use Rattle.rob_rules.proofs.Steps.MoreLines.{all_grown}
use Rattle.rob_rules.proofs.Joining.PaddedLemmas.{length-padded, get_or-padded}

module _ (limit : ℕ) (own : List Name) (s : Indexed Tree) (old : Reader) (between : IsBetween own old) where
  -- what the table of declared names tells
  pub named_is : named limit own (is_set old.declared.items) old.total s ≡ named_behind_lines limit own s old
  named_is = same_named limit own (is_set old.declared.items) (is_declared (named_of old)) old.total s between.declared

  -- a rule that is named
  pub stops : (f : IndexFault) (rule : ℕ) → named limit own (is_set old.declared.items) old.total s ≡ Some f
      → rule ≡ index_rule f → HasIndexStop limit own s old (stop.Rule rule)
  stops f rule is r = (f, sym named_is ∙ is, sym r)

  -- what is said of the rules of indices, by a table of declared names
  abbrev pub Judged : List Bool → Option IndexErr → Type 0
  Judged table o =
      (words : List Name) → MatchOption o (named limit words (is_set table) old.total s ≡ late_fault words s)
      (λ (f : IndexErr). named limit words (is_set table) old.total s ≡ Some (seen_fault f))

  -- one of them is broken
  pub stops_early : (table : List Bool) → table ≡ old.declared.items → (o : Option IndexErr) (f : IndexErr) (rule : ℕ)
      → o ≡ Some f → rule ≡ index_rule (seen_fault f) → Judged table o → HasIndexStop limit own s old (stop.Rule rule)
  stops_early table same o f rule some r judged =
      stops (seen_fault f) rule
      (subst (λ (t : List Bool). named limit own (is_set t) old.total s ≡ Some (seen_fault f)) same
      (MatchOption-at_some (named limit own (is_set table) old.total s ≡ late_fault own s)
      (λ (f : IndexErr). named limit own (is_set table) old.total s ≡ Some (seen_fault f)) f some (judged own))) r

  -- none is but for what goes by the plain statements
  pub late_only : (table : List Bool) → table ≡ old.declared.items → (o : Option IndexErr) → o ≡ None → Judged table o
      → (words : List Name) → named limit words (is_set old.declared.items) old.total s ≡ late_fault words s
  late_only table same o none judged words =
      subst (λ (t : List Bool). named limit words (is_set t) old.total s ≡ late_fault words s) same
      (MatchOption-at_none (named limit words (is_set table) old.total s ≡ late_fault words s)
      (λ (f : IndexErr). named limit words (is_set table) old.total s ≡ Some (seen_fault f)) none (judged words))

  module _ (judged : named limit own (is_set old.declared.items) old.total s ≡ late_fault own s) where
    -- a plain statement of the line is none
    pub stops_late : (why : Refusal) (rule : ℕ) → why ≡ NoStatement
        → HasRefusal (list_any is_no_statement (expand own s)) why
        → rule ≡ 11 → HasIndexStop limit own s old (stop.Rule rule)
    stops_late why rule is refused r =
        let late : list_any is_no_statement (expand own s) ≡ true =
        subst (λ (e : Refusal). HasRefusal (list_any is_no_statement (expand own s)) e) is refused in
        stops no_statement rule
        (judged ∙ ap (λ (b : Bool). if b then Some no_statement else None) late) r

    -- the reader, with the plain statements and their names, but for what is known of these
    pub record IsAppended (mid : Reader) : Type 0 where
      pub list : mid.list ≡ old.list ++ map (numbered (texts mid.words.keys)) (expand own s)
      pub own_kept : mid.own ≡ old.own
      pub words_are : texts mid.words.keys ≡ fold grown (texts old.words.keys) (expand own s)
      pub scope : mid.scope ≡ old.scope
      pub front : mid.front ≡ old.front
      pub declared : mid.declared ≡ old.declared
      pub total : mid.total ≡ old.total + lines_tokens limit (expand own s)
      pub all_are : list_any is_no_statement (expand own s) ≡ false

    module _ (mid new : Reader) (wide : IsWidened mid new) (appended : IsAppended mid) where
      abbrev before : List Name
      before = texts old.words.keys

      abbrev words : List Name
      words = texts new.words.keys

      own_same : texts new.own.keys ≡ texts old.own.keys
      own_same = λ i. texts ((wide.own ∙ appended.own_kept) i).keys

      words_same : texts mid.words.keys ≡ words
      words_same = λ i. texts (sym wide.words i).keys

      grows : words ≡ fold grown before (expand own s)
      grows = sym words_same ∙ appended.words_are

      longer : length before ≤ length words
      longer =
          let g = all_grown (expand own s) before in
          omega (arith, ap length (grows ∙ g.1), length-append before g.0)

      few : length old.declared.items ≤ length words
      few = omega (arith, between.wide, longer)

      scope_is : earlier_of new.scope ≡ widened words (earlier_of old.scope)
      scope_is = wide.scope ∙ (λ i. widened (words_same i) (earlier_of (appended.scope i)))

      front_is : earlier_of new.front ≡ widened words (earlier_of old.front)
      front_is = wide.front ∙ (λ i. widened (words_same i) (earlier_of (appended.front i)))

      declared_is : new.declared.items ≡ padded (length words) false old.declared.items
      declared_is = wide.declared ∙ (λ i. padded (length (words_same i)) false (appended.declared i).items)

      scope_long : length new.scope.sorts.items ≡ length words
      scope_long =
          ap (λ (e : Earlier). length e.sorts) scope_is
          ∙ length-padded (length words) None old.scope.sorts.items (omega (arith, between.level.scope, few))

      front_long : length new.front.sorts.items ≡ length words
      front_long =
          ap (λ (e : Earlier). length e.sorts) front_is
          ∙ length-padded (length words) None old.front.sorts.items (omega (arith, between.level.front, few))

      declared_long : length new.declared.items ≡ length words
      declared_long = ap length declared_is ∙ length-padded (length words) false old.declared.items few

      declared_at : (k : ℕ) → is_set new.declared.items k ≡ is_declared (named_of new) k
      declared_at k =
          ap (λ (table : List Bool). is_set table k) declared_is
          ∙ get_or-padded false old.declared.items (length words - length old.declared.items) k
          ∙ between.declared k
          ∙ sym (ap (λ (e : Earlier). is_some (sort_at e.sorts k)) scope_is
          ∙ ap is_some
          (get_or-padded None old.scope.sorts.items (length words - length old.scope.sorts.items) k))

      tokens : new.total ≤ most_tokens
      tokens =
          let total = wide.total ∙ appended.total in
          let room = room_named limit own (is_set old.declared.items) old.total s judged in
          omega (arith, total, room)

      kept : IsKept new.scope.sizes
      kept = subst IsKept (sym (ap (λ (e : Earlier). e.sizes) scope_is)) between.kept

      between_new : IsBetween own new
      between_new = record {
        own_are = own_same ∙ between.own_are;
        own_first =
            let g = all_grown (expand own s) before in (
              between.own_first.0 ++ g.0,
              grows ∙ g.1 ∙ ap (λ (l : List Name). l ++ g.0) between.own_first.1
                  ∙ append_assoc own between.own_first.0 g.0,
            );
        front = front_is ∙ ap (widened words) between.front ∙ sym scope_is;
        declared = declared_at;
        level = record { scope = scope_long ∙ sym declared_long; front = front_long ∙ sym declared_long };
        wide = declared_long;
        tokens = tokens;
        kept = kept;
      }

      room : LeaveRoom new.scope.sizes (map (numbered words) (expand own s))
      room =
          let few = room_named limit own (is_set old.declared.items) old.total s judged in
          leaves_room limit words 20000 new.scope.sizes (expand own s) (kept_up_to new.scope.sizes kept)
          (omega (arith, few))

      pub expanded : IsExpanded limit own s old new
      expanded = record {
        faultless =
            sym named_is ∙ judged
            ∙ ap (λ (b : Bool). if b then Some no_statement else None) appended.all_are;
        appended =
            wide.list ∙ appended.list
            ∙ (λ i. old.list ++ map (numbered (words_same i)) (expand own s));
        grows = grows;
        total_is = wide.total ∙ appended.total;
        earlier_is = scope_is;
        room = room;
        between = between_new;
      }
