use Rattle.std.proofs.Common.{sym, ◌∙◌}
use Rattle.rob_tree.proofs.OneText.SomeTree.{some_tree}
use Rattle.rob_tree.proofs.OneText.TreeLaws as laws
use Rattle.rob_tree.proofs.laws.spelling_laws.Goals as goal

pub returns : goal.returns
returns c = record {
  spelled_once = λ m limit names t r s h k. h.spelled ∙ sym k.spelled;
  breaks_none = λ m limit names model named words low bounded t text is fits rule line cause.
      laws.breaks_none m limit names model named words low bounded t text is fits rule line cause;
  read_once = λ m limit names model named words low bounded t u text it iu ft fu.
      laws.read_once m limit names model named words low bounded t u text it iu ft fu;
  one_cause = λ m limit names model named words low bounded text rule line other number h k.
      laws.one_cause m limit names model named words low bounded text rule line other number h k;
  some = λ m limit names one low bounded text small. some_tree limit m names one low bounded text small;
}
