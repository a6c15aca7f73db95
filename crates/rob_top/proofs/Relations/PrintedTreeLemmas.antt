-- The text that `tree` printed is that of its tree, at each line of the same width; so `checktree` accepts it.
use Rattle.std.proofs.Common.{◌≡◌, ◌⊎◌, ℕ, ◌-◌, ◌^◌, List, ◌∙◌, subst, sym}
use Rattle.rob_meaning.specs.Certificates.{Status, optimal}
use Rattle.rob_meaning.specs.RobustModel.{RobustModel}
use Rattle.rob_reach.proofs.StatusLemmas.{one_optimum}
use Rattle.rob_reach.specs.WholeStatus.{HasWholeStatus}
use Rattle.rob_tree.specs.Reading.{TreeFits}
use Rattle.rob_tree.specs.Shape.{HasTreeShape}
use Rattle.rob_top.proofs.Coming.WholeAnswerLemmas.{same_whole_status}
use Rattle.rob_top.specs.Branched.{IsBranched, IsPrintedTree}
use Rattle.rob_top.specs.Calls.{Call, Known, known_call, limit_of}
use Rattle.rob_top.specs.Completeness.{MustEnd}
use Rattle.rob_top.specs.Endings.{EndsAs, NamesWidth}
use Rattle.rob_top.specs.TreeChecked.{HasTree, HasTreeFile, IsTreeAccepted}
use Rattle.rob_commands.specs.declared.ended.Ended.{Ended}
use Rattle.rob_commands.specs.declared.ended.Ended.TheVariants.{Accepted}
use Rattle.rob_words.specs.Commands.{Line}
use Rattle.rob_words.specs.Values.{bits_of}
use Rattle.rob_words.specs.declared.verb.Verb.{Verb}
use Rattle.rob_words.specs.declared.verb.Verb.TheVariants as verb
use Rattle.rob_words.specs.declared.width.Width.{Width}

module _ (growing checking : Call) (known : Known checking.source) (status : Status) (text : List ℕ)
    (b : IsBranched growing status text)
    (line : Line) (width : line.width ≡ b.line.width) where
  printed_tree : b.line.verb ≡ verb.Tree → HasTreeFile (known_call checking known) line b.m b.names text
      → HasTree (known_call checking known) line b.m b.names b.t
  printed_tree is file = record {
    bytes = text;
    file = file;
    text = record {
      shape = subst (λ (w : Width). HasTreeShape (2 ^ bits_of w - 1) b.m b.names b.t) (sym width) b.shape;
      spelled = subst (λ (v : Verb). IsPrintedTree v b.m b.names b.t text) is b.printed;
    };
    fits = subst (λ (w : Width). TreeFits (2 ^ bits_of w - 1) b.m b.t) (sym width) b.fits;
  }

  pub grown_then_checked : b.line.verb ≡ verb.Tree
      → HasTreeFile (known_call checking known) line b.m b.names text → (ended : Ended)
      → MustEnd (known_call checking known) ended → EndsAs Accepted ended
      ⊎ NamesWidth (limit_of line) b.m b.names b.t ended
  grown_then_checked is file ended must = must.tree.proved line b.m b.names b.t (printed_tree is file) b.proves

-- a tree that is accepted claims the status that a tree has grown for, and the value of an optimum
pub accepted_status : (growing checking : Call) (status : Status) (text shown : List ℕ)
    (b : IsBranched growing status text)
    (a : IsTreeAccepted checking shown) → a.m ≡ b.m → a.names ≡ b.names
    → (a.t.status ≡ status) × (status ≡ optimal → a.t.value ≡ b.t.value)
accepted_status growing checking status text shown b a same alike = (one, value)
  where
    here : HasWholeStatus b.m b.names a.t.status a.t.value
    here =
        subst (λ (m : RobustModel). HasWholeStatus m b.names a.t.status a.t.value) same
        (subst (λ (names : List ℕ). HasWholeStatus a.m names a.t.status a.t.value) alike a.holds)

    one : a.t.status ≡ status
    one = same_whole_status b.m b.names a.t.status status a.t.value b.t.value here b.holds

    value : status ≡ optimal → a.t.value ≡ b.t.value
    value is =
        one_optimum b.m b.names a.t.value b.t.value
        (subst (λ (s : Status). HasWholeStatus b.m b.names s a.t.value) (one ∙ is) here)
        (subst (λ (s : Status). HasWholeStatus b.m b.names s b.t.value) is b.holds)
