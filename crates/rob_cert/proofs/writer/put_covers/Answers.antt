use Rattle.rob_cert.specs.NamesView.{naming}
use Rattle.rob_cert.specs.Spelling.{IsCoverNamed}
use Rattle.rob_cert.specs.View.{cover_of}
use Rattle.rob_meaning.proofs.Lists.EachLemmas.{each_get}
use Rattle.rob_cert.proofs.writer.put_covers.Goals as goal

pub put_cover-requires : goal.put_cover-requires
put_cover-requires g c = record {
  named = each_get (IsCoverNamed (naming c.args.names.now)) (cover_of g.N.Exact.value) c.args.list.now
      c.loop-cover.cover-index c.cover-item.result c.loop-cover-test.true c.cover-item.is c.requires.named;
}
