use Rattle.std.proofs.Common.{Bor, List, ℕ, ◌++◌}
use Rattle.std.specs.Option.{option_copied}
use Rattle.rob_model.specs.Spelling.{tail_of, number_tail}
use Rattle.rob_model.proofs.FrontLemmas.{missing_first, missing_second, both}
use Rattle.rob_model.proofs.spelling.Spelling.behind.Goals as goal

pub returns-in_err-rest-2 : goal.returns-in_err-rest-2
returns-in_err-rest-2 c =
    let s = c.args.self.now in
    let behind = tail_of (option_copied s.second) ++ tail_of (option_copied s.last) in
    rw c.from_residual-in_err-rest-2.ensures record {
      found = missing_second c.args.text.now s.first.now (number_tail s.number ++ behind) c.in_ok-rest.rest.now
          c.in_ok-rest.ensures.found
          (missing_first c.in_ok-rest.rest.now (number_tail s.number) behind c.in_err-rest-2.ensures.found);
    }

pub returns-in_err-rest-3 : goal.returns-in_err-rest-3
returns-in_err-rest-3 c =
    let s = c.args.self.now in
    let second = tail_of (option_copied s.second) in
    let last = tail_of (option_copied s.last) in
    rw c.from_residual-in_err-rest-3.ensures record {
      found = missing_second c.args.text.now s.first.now (number_tail s.number ++ (second ++ last))
          c.in_ok-rest.rest.now c.in_ok-rest.ensures.found
          (missing_second c.in_ok-rest.rest.now (number_tail s.number) (second ++ last) c.in_ok-rest-2.rest.now
          c.in_ok-rest-2.ensures.found
          (missing_first c.in_ok-rest-2.rest.now second last c.in_err-rest-3.ensures.found));
    }

pub returns : goal.returns
returns c =
    let s = c.args.self.now in
    let second = tail_of (option_copied s.second) in
    let last = tail_of (option_copied s.last) in
    let now = λ (x : Bor (List ℕ)). x.now in
    record {
      found = both now c.strip_part-2.result c.args.text.now s.first.now (number_tail s.number ++ (second ++ last))
          c.in_ok-rest.rest.now c.in_ok-rest.ensures.found
          (both now c.strip_part-2.result c.in_ok-rest.rest.now (number_tail s.number) (second ++ last)
          c.in_ok-rest-2.rest.now c.in_ok-rest-2.ensures.found
          (both now c.strip_part-2.result c.in_ok-rest-2.rest.now second last c.in_ok-rest-3.rest.now
          c.in_ok-rest-3.ensures.found c.strip_part-2.ensures.found));
    }
