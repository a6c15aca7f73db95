use Rattle.std.proofs.Common.{◌≡◌, ◌++◌, drop}
use Rattle.rob_cert.proofs.Writing.WriterLemmas.{covers_text}
use Rattle.rob_cert.specs.NamesView.{naming}
use Rattle.rob_cert.specs.View.{cover_of}
use Rattle.rob_cert.proofs.writer.put_covers.Given as goal

abbrev pub invariant-loop-cover : goal.invariant-loop-cover
invariant-loop-cover g l =
    let text = covers_text (naming l.names) (cover_of g.N.Exact.value) l.which in
    l.out ++ text l.cover-index (drop l.cover-index l.list) ≡ l.fn.out ++ text 0 l.list
