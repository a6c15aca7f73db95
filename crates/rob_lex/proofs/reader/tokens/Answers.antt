use Rattle.std.proofs.Common.{◌≡◌, ◌+◌, ◌≤◌, List, ◌++◌, length, take, sym, ap, ◌∙◌, subst, arith, take-append-drop, length-take-le, length-append, ℕ}
use Rattle.std.proofs.lemmas.Bool.Decides.{nat_tests}
use Rattle.rob_lex.specs.declared.token.Token.{Token}
use Rattle.rob_lex.specs.declared.place.Place.{Place}
use Rattle.rob_lex.specs.Pieces.{Stands}
use Rattle.rob_lex.specs.Places.{start, depth_at, behind}
use Rattle.rob_lex.specs.Offences.{most_open}
use Rattle.rob_lex.proofs.PlaceLemmas.{Reached, reached_start, reached_next, offends_here, offends_at_end, read_at_end, GoesOn, goes_on, stays_shallow}
use Rattle.rob_lex.proofs.reader.tokens.Goals as goal

pub loop-rest-init : goal.loop-rest-init
loop-rest-init c =
    let at_start : c.start-at.result ≡ start = c.start-at.ensures.place in
    let text = c.args.text.now in
    record {
      reached = subst (λ (a : Place). Reached text text a c.new-list.result.items) (sym at_start)
          (subst (λ (l : List Token). Reached text text start l) (sym c.new-list.ensures.items) (reached_start text));
      offset = omega (arith, ap (λ (a : Place). a.offset) at_start);
      line = omega (arith, ap (λ (a : Place). a.line) at_start, ap (λ (a : Place). a.offset) at_start);
      count = omega (arith, ap (λ (a : Place). a.count) at_start);
      depth = omega (arith, ap depth_at at_start);
    }

pub returns-in-Err-clause-cause : goal.returns-in-Err-clause-cause
returns-in-Err-clause-cause c = (
  c.in-Err.offence,
  sym c.rule.ensures.rule,
  offends_here c.loop-rest.invariant.reached c.in-Err.offence c.in-Err.ensures.piece,
)

pub loop-rest-preserved : goal.loop-rest-preserved
loop-rest-preserved c =
    let text = c.args.text.now in
    let rest = c.loop-rest.rest.now in
    let parts = c.split_at.ensures in
    let found = c.in-Ok.found in
    let free = c.in-Ok.ensures.piece in
    let bytes = c.split_at.result.0.now in
    let after = c.split_at.result.1.now in
    let split : rest ≡ bytes ++ after =
    sym (take-append-drop found.len rest) ∙ (λ i. (sym parts.front) i ++ (sym parts.back) i) in
    let stands : Stands found.shape bytes after =
    subst (λ (x : List ℕ). Stands found.shape x after) (sym parts.front)
    (subst (λ (x : List ℕ). Stands found.shape (take found.len rest) x) (sym parts.back) free.piece.stands) in
    let next = reached_next c.loop-rest.invariant.reached found.shape bytes after split stands free.no_cause in
    let on : GoesOn c.loop-rest.at c.behind-at.result bytes =
    subst (λ (a : Place). GoesOn c.loop-rest.at a bytes) (sym c.behind-at.ensures.place)
    (goes_on c.loop-rest.at found.shape bytes) in
    let len : length bytes ≡ found.len = ap length parts.front ∙ length-take-le found.len rest free.piece.within in
    let left : length rest ≡ length bytes + length after = ap length split ∙ length-append bytes after in
    record {
      reached = subst (λ (a : Place). Reached text after a c.push_token.new.list.items) (sym c.behind-at.ensures.place)
          (subst (λ (l : List Token). Reached text after (behind c.loop-rest.at found.shape bytes) l)
          (sym c.in_ok-push_token.ensures.pushed) next);
      offset = omega (arith, on.offset);
      line = omega (arith, on.offset, on.line, free.piece.some);
      count = omega (arith, on.offset, on.count, free.piece.some);
      depth = subst (λ (a : Place). depth_at a ≤ most_open) (sym c.behind-at.ensures.place)
          (stays_shallow c.loop-rest.at rest found.shape bytes after split stands free.no_cause
          c.loop-rest.invariant.depth);
    }

pub returns-in-None-clause-read : goal.returns-in-None-clause-read
returns-in-None-clause-read c =
    let none : length c.loop-rest.rest.now ≤ 0 = grind (arith, nat_tests) in
    read_at_end c.loop-rest.invariant.reached none c.in-None.ensures.offence

pub returns-in-Some-clause-cause : goal.returns-in-Some-clause-cause
returns-in-Some-clause-cause c =
    let none : length c.loop-rest.rest.now ≤ 0 = grind (arith, nat_tests) in (
      c.in-Some.offence,
      sym c.rule-in-Some.ensures.rule,
      offends_at_end c.loop-rest.invariant.reached none c.in-Some.offence c.in-Some.ensures.offence,
    )
