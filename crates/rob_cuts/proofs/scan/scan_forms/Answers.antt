use Rattle.std.proofs.Common.{length, refl, ap, ◌∙◌, arith}
use Rattle.rob_dualize.specs.Wholes.{HoldsOfEach}
use Rattle.rob_cuts.specs.Scans.{vector_of, by_step_of}
use Rattle.rob_number.proofs.CountLemmas.{later}
use Rattle.rob_cuts.proofs.RouteLemmas.{route_forms, route_set, of_route}
use Rattle.rob_cuts.proofs.ScanLemmas.{IsReached, target_size, holds_here, few_amounts, kept_none, judged_more, broken_first, search_stops, cut_stops, all_kept}
use Rattle.rob_cuts.proofs.SolvingLemmas.{counts_since, counts_stop}
use Rattle.rob_cuts.proofs.scan.scan_forms.Given.{Over}
use Rattle.rob_cuts.proofs.scan.scan_forms.Goals as goal
use Rattle.rob_cuts.proofs.scan.scan_forms.Goals.{After-search}

-- the scan has come to a form
reached_here : (g : Over) (c : After-search g) → HoldsOfEach c.args.model.forms.now c.args.model.set.now
    (λ m. IsReached m g.N.Exact.value (vector_of g.N.Exact.value c.args.target) c.loop-form.form c.loop-form.scale
    c.loop-form.covers)
reached_here g c m model f st = record {
  model = model;
  size = target_size g.N.Exact.value c.args.target f c.requires.target;
  form_in = omega (arith, c.loop-form-test.true, ap length c.items.ensures.list, ap length f.matrices);
  so_far = c.loop-form.invariant.kept m model f st;
}

pub loop-form-init : goal.loop-form-init
loop-form-init g c = record {
  finder = c.requires.finder;
  kept = λ m model f st. kept_none c.new-covers.ensures.empty;
  wides = refl;
  counted = record { ops = omega arith; wides = omega arith };
}

pub overflow_cast-forms : goal.overflow_cast-forms
overflow_cast-forms g c = omega (arith, ap length c.items.ensures.list, route_forms c.requires.model)

pub search-requires : goal.search-requires
search-requires g c = record {
  model = c.requires.model;
  finder = c.loop-form.invariant.finder;
  form_in = omega (arith, c.loop-form-test.true, ap length c.items.ensures.list);
  target = c.requires.target;
}

pub returns-in-Err-clause-scanned : goal.returns-in-Err-clause-scanned
returns-in-Err-clause-scanned g c m model f st =
    search_stops (reached_here g (goal.at.returns-in-Err-clause-scanned g c).After-search m model f st) g.N.Exact.limit
    (by_step_of c.args.target) c.in-Err.stop (c.in-Err.ensures.answer m model f st).stopped

pub returns-in-Err-clause-wides : goal.returns-in-Err-clause-wides
returns-in-Err-clause-wides g c =
    counts_since c.loop-form.invariant.wides _ c.in-Err.stop (of_route c.requires.model c.in-Err.ensures.answer).counted

pub judge-requires : goal.judge-requires
judge-requires g c =
    let r = of_route c.requires.model (reached_here g (goal.at.judge-requires g c).After-search) in
    record {
      amounts = few_amounts r c.requires.model.elaborated.is_set (route_set c.requires.model) c.in-Ok.worst
          (of_route c.requires.model c.in-Ok.ensures.answer).found;
      constant = c.in-Ok.ensures.within;
    }

pub loop-form-preserved : goal.loop-form-preserved
loop-form-preserved g c = record {
  finder = c.search.ensures.finder;
  kept = λ m model f st.
      let r = reached_here g (goal.at.loop-form-preserved g c).After-search m model f st in
      judged_more r g.N.Exact.limit c.in-Ok-Kept.field-0-is
      (holds_here r c.in-Ok-Kept.ensures.judged (c.in-Ok.ensures.answer m model f st).found);
  wides = (of_route c.requires.model c.in-Ok.ensures.answer).counted ∙ c.loop-form.invariant.wides;
  counted = later c.loop-form.invariant.counted c.search.ensures.counted;
}

pub returns-in-Ok-Broken-clause-scanned : goal.returns-in-Ok-Broken-clause-scanned
returns-in-Ok-Broken-clause-scanned g c m model f st =
    let r = reached_here g (goal.at.returns-in-Ok-Broken-clause-scanned g c).After-search m model f st in
    broken_first r g.N.Exact.limit c.judge.new.covers c.in-Ok-Broken.field-0-is
    (holds_here r c.in-Ok-Broken.ensures.judged (c.in-Ok.ensures.answer m model f st).found)

pub returns-in-Ok-Broken-clause-wides : goal.returns-in-Ok-Broken-clause-wides
returns-in-Ok-Broken-clause-wides g c =
    (of_route c.requires.model c.in-Ok.ensures.answer).counted ∙ c.loop-form.invariant.wides

pub returns-in-Err-judge : goal.returns-in-Err-judge
returns-in-Err-judge g c = record {
  scanned = λ m model f st.
      let r = reached_here g (goal.at.returns-in-Err-judge g c).After-search m model f st in
      cut_stops r g.N.Exact.limit (by_step_of c.args.target) c.in-Err-judge.stop
      (holds_here r c.in-Err-judge.ensures.judged (c.in-Ok.ensures.answer m model f st).found);
  finder = c.search.ensures.finder;
  wides = counts_since ((of_route c.requires.model c.in-Ok.ensures.answer).counted ∙ c.loop-form.invariant.wides) _
      c.in-Err-judge.stop c.count.ensures.counted;
  counted = counts_stop (later c.loop-form.invariant.counted c.search.ensures.counted) c.count.ensures.unchanged
      c.in-Err-judge.stop c.count.ensures.counted;
}

pub returns-clause-scanned : goal.returns-clause-scanned
returns-clause-scanned g c m model f st =
    let all = ap length c.items.ensures.list ∙ ap length f.matrices in
    all_kept g.N.Exact.limit (omega (arith, all, c.loop-form-test.false, c.loop-form.auto.form-end))
    (c.loop-form.invariant.kept m model f st)
