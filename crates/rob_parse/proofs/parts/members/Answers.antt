use Rattle.std.proofs.Common.{get_or, sym, ◌∙◌}
use Rattle.rob_algebra.proofs.ListLemmas.{map_map}
use Rattle.rob_number.proofs.CountLemmas.{only_later}
use Rattle.rob_model.specs.View.{member_of}
use Rattle.rob_model.proofs.PartLemmas.{each_at}
use Rattle.rob_parse.specs.Building.{FitsMember}
use Rattle.rob_parse.specs.Written.{member}
use Rattle.rob_parse.specs.Models.{member_taken}
use Rattle.rob_syntax.specs.declared.syntax.Member.{Member}
use Rattle.rob_parse.proofs.Building.MapLemmas.{map_step, map_end, any_default, no_member}
use Rattle.rob_parse.proofs.parts.members.Goals as goal

pub member-requires-clause-fits : goal.member-requires-clause-fits
member-requires-clause-fits g c =
    let next = get_or c.args.members.now c.loop-next.next-index no_member in
    (each_at (FitsMember g.N.Exact.limit) c.args.members.now c.loop-next.next-index next c.loop-next-test.true
    (any_default c.args.members.now c.loop-next.next-index no_member next c.loop-next-test.true)
    c.loop-next.invariant.fits).0

pub loop-next-preserved : goal.loop-next-preserved
loop-next-preserved g c =
    let next = get_or c.args.members.now c.loop-next.next-index no_member in
    let is = any_default c.args.members.now c.loop-next.next-index no_member next c.loop-next-test.true in
    record {
      read =
          map_step (member_of g.N.Exact.value)
          (λ (h : Member). member_taken c.args.place.count c.args.place.set (member c.args.sorts.now h))
          c.loop-next.list c.args.members.now c.loop-next.next-index next _ c.loop-next-test.true is
          c.member.ensures.read c.in_ok-push.ensures.appended c.loop-next.invariant.read;
      fits =
          (each_at (FitsMember g.N.Exact.limit) c.args.members.now c.loop-next.next-index next c.loop-next-test.true is
          c.loop-next.invariant.fits).1;
      counted = only_later c.loop-next.invariant.counted c.member.ensures.counted;
    }

pub returns-clause-read : goal.returns-clause-read
returns-clause-read g c =
    map_end (member_of g.N.Exact.value)
    (λ (h : Member). member_taken c.args.place.count c.args.place.set (member c.args.sorts.now h)) c.loop-next.list
    c.args.members.now c.loop-next.next-index c.loop-next-test.false c.loop-next.invariant.read
    ∙ sym (map_map (member_taken c.args.place.count c.args.place.set) (member c.args.sorts.now) c.args.members.now)
