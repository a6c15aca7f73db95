use Rattle.std.proofs.Common.{refl}
use Rattle.rob_top.proofs.Coming.CompletenessLemmas.{means_complete}
use Rattle.rob_top.proofs.Relations.NarrowLawLemmas.{narrow_has_status, narrow_refuses_none, narrow_shows_empty, says_narrow}
use Rattle.rob_commands.specs.declared.ended.Ended.TheVariants.{TooWide}
use Rattle.rob_top.proofs.laws.narrow_then_solve.Goals as goal

pub returns : goal.returns
returns c = record {
  narrow = λ narrowing text front narrowed yes. says_narrow narrowing text narrowed front yes;
  not_refused = λ narrowing solving text front shown narrowed yes known line width solves by_dual has spot means.
      narrow_refuses_none narrowing text narrowed front yes solving known line width solves by_dual has (TooWide spot)
      (means_complete solving (TooWide spot) shown means known) spot refl;
  status = λ narrowing solving text front shown narrowed yes known line width solves by_dual has ended means.
      narrow_has_status narrowing text narrowed front yes solving known line width solves by_dual has ended
      (means_complete solving ended shown means known);
  empty = λ narrowing solving text front shown narrowed yes known line width solves has ended means.
      narrow_shows_empty narrowing text narrowed front yes solving known line width solves has ended
      (means_complete solving ended shown means known);
}
