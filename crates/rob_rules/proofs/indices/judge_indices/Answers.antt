use Rattle.std.proofs.Common.{◌≤◌, ◌-◌, [], Bool, Some, ap, sym, ◌∙◌, arith}
use Rattle.std.proofs.lemmas.Bool.{leb-true}
use Rattle.rob_index.specs.Counting.{lines_tokens}
use Rattle.rob_index.specs.Expansion.{expand}
use Rattle.rob_index.specs.Rules.{IndexFault}
use Rattle.rob_places.specs.Tests.{is_set}
use Rattle.rob_syntax.specs.Seen.{seen_statement}
use Rattle.rob_rules.specs.Indices.{long_fault}
use Rattle.rob_rules.proofs.Judging.IndicesLemmas.{no_room, first_long, first_great, first_out, none_first, room_left}
use Rattle.rob_rules.proofs.Judging.ShownLemmas.{shown_named}
use Rattle.rob_rules.proofs.Counts.TotalLemmas.{left_is}
use Rattle.rob_rules.proofs.indices.judge_indices.Goals as goal

pub returns-then-shown-clause-named : goal.returns-then-shown-clause-named
returns-then-shown-clause-named c words =
    let s = seen_statement c.args.statement.now in
    let declared = is_set c.args.declared.now in
    shown_named c.args.limit words declared c.args.total s (sym c.in_ok-shown.ensures.shown ∙ c.if-shown.true)
    ∙ ap (λ (b : Bool). Some (long_fault b)) (sym c.in_ok-early.ensures.found)
    ∙ ap (λ (f : IndexFault). Some f) (sym c.long_fault.ensures.fault)

pub returns-then-not-fits-clause-named : goal.returns-then-not-fits-clause-named
returns-then-not-fits-clause-named c words =
    let s = seen_statement c.args.statement.now in
    let declared = is_set c.args.declared.now in
    no_room c.args.limit words declared c.args.total s
    (room_left c.args.limit words declared c.args.total s c.in_ok-fits.fits c.requires.total
    (c.in_ok-fits.ensures.room words) ∙ c.if-not-fits.true)
    _ (c.in_ok-fault.ensures.named c.args.limit c.args.total words)

pub returns-then-judged-clause-named : goal.returns-then-judged-clause-named
returns-then-judged-clause-named c words =
    let s = seen_statement c.args.statement.now in
    let declared = is_set c.args.declared.now in
    first_long c.args.limit words declared c.args.total s
    (room_left c.args.limit words declared c.args.total s c.in_ok-fits.fits c.requires.total
    (c.in_ok-fits.ensures.room words) ∙ c.if-not-fits.false)
    (sym c.in_ok-unknown.ensures.found ∙ c.if-unknown.false)
    (sym c.in_ok-judged.ensures.long ∙ c.if-judged.true)

pub returns-then-great-clause-named : goal.returns-then-great-clause-named
returns-then-great-clause-named c words =
    let s = seen_statement c.args.statement.now in
    let declared = is_set c.args.declared.now in
    first_great c.args.limit words declared c.args.total s
    (room_left c.args.limit words declared c.args.total s c.in_ok-fits.fits c.requires.total
    (c.in_ok-fits.ensures.room words) ∙ c.if-not-fits.false)
    (sym c.in_ok-unknown.ensures.found ∙ c.if-unknown.false)
    (sym c.in_ok-judged.ensures.long ∙ c.if-judged.false)
    (sym c.in_ok-great.ensures.found ∙ c.if-great.true)

pub returns-then-judged-2-clause-named : goal.returns-then-judged-2-clause-named
returns-then-judged-2-clause-named c words =
    let s = seen_statement c.args.statement.now in
    let declared = is_set c.args.declared.now in
    first_out c.args.limit words declared c.args.total s
    (room_left c.args.limit words declared c.args.total s c.in_ok-fits.fits c.requires.total
    (c.in_ok-fits.ensures.room words) ∙ c.if-not-fits.false)
    (sym c.in_ok-unknown.ensures.found ∙ c.if-unknown.false)
    (sym c.in_ok-judged.ensures.long ∙ c.if-judged.false)
    (sym c.in_ok-great.ensures.found ∙ c.if-great.false)
    (sym (c.in_ok-judged.ensures.out c.if-judged.false) ∙ c.if-judged-2.true)

pub returns-clause-named : goal.returns-clause-named
returns-clause-named c words =
    let s = seen_statement c.args.statement.now in
    let declared = is_set c.args.declared.now in
    none_first c.args.limit words declared c.args.total s
    (room_left c.args.limit words declared c.args.total s c.in_ok-fits.fits c.requires.total
    (c.in_ok-fits.ensures.room words) ∙ c.if-not-fits.false)
    (sym c.in_ok-unknown.ensures.found ∙ c.if-unknown.false)
    (sym c.in_ok-judged.ensures.long ∙ c.if-judged.false)
    (sym c.in_ok-great.ensures.found ∙ c.if-great.false)
    (sym (c.in_ok-judged.ensures.out c.if-judged.false) ∙ c.if-judged-2.false)

pub returns-clause-behind : goal.returns-clause-behind
returns-clause-behind c none words =
    let s = seen_statement c.args.statement.now in
    let tokens = lines_tokens c.args.limit (expand words s) in
    let room : tokens ≤ 20000 - c.args.total =
    leb-true tokens (20000 - c.args.total) (sym (c.in_ok-fits.ensures.room words) ∙ c.if-not-fits.false) in
    let left = left_is tokens (20000 - c.args.total) c.has_room.new.room room
    (c.in_ok-fits.ensures.left c.if-not-fits.false words) in
    omega (arith, room, left, c.requires.total)

pub overflow_sub-behind : goal.overflow_sub-behind
overflow_sub-behind c =
    let tokens = lines_tokens c.args.limit (expand [] (seen_statement c.args.statement.now)) in
    let room : tokens ≤ 20000 - c.args.total =
    leb-true tokens (20000 - c.args.total) (sym (c.in_ok-fits.ensures.room []) ∙ c.if-not-fits.false) in
    let left = left_is tokens (20000 - c.args.total) c.has_room.new.room room
    (c.in_ok-fits.ensures.left c.if-not-fits.false []) in
    omega (arith, left)
