use Rattle.rob_syntax.proofs.Fronts.PartLemmas.{refused_up}
use Rattle.rob_index.specs.Lines.{spell_ranged, spell_share}
use Rattle.rob_syntax.proofs.Fronts.ListLemmas.{list_found, no_first_item, no_more_items, share_chain}
use Rattle.rob_syntax.proofs.indexed.budget.members.Goals as goal

pub returns-in_err-first : goal.returns-in_err-first
returns-in_err-first c = record {
  read = refused_up _ _ _ c.from_residual.ensures.1
      (no_first_item (spell_ranged spell_share) share_chain.behind c.in-Some.field-0.0 c.in-Some.ensures.read)
      c.in_err-first.ensures.read;
}

pub returns-in_err-list : goal.returns-in_err-list
returns-in_err-list c = record {
  read =
      refused_up _ _ _ c.from_residual-in_err-list.ensures.1 (λ missing. no_more_items (spell_ranged spell_share)
      share_chain.behind c.in-Some.field-0.0 c.in-Some.ensures.read c.in_ok-first.ensures.read missing)
      c.in_err-list.ensures.read;
}

pub returns : goal.returns
returns c = record {
  read = list_found (spell_ranged spell_share) share_chain.behind c.in-Some.field-0.0 c.in-Some.ensures.read
      c.in_ok-first.ensures.read c.in_ok-list.ensures.read;
}
