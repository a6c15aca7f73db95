use Rattle.rob_cert.proofs.Writing.WriterLemmas.{text_more, items_text, items_text-cons}
use Rattle.rob_cert.specs.NamesView.{naming}
use Rattle.rob_cert.specs.Spelling.{IsItemNamed}
use Rattle.rob_cert.specs.View.{item_of}
use Rattle.rob_meaning.proofs.Lists.EachLemmas.{each_get}
use Rattle.rob_cert.proofs.writer.put_items.Goals as goal

pub put_item-requires-clause-named : goal.put_item-requires-clause-named
put_item-requires-clause-named g c =
    each_get (IsItemNamed (naming c.args.names.now)) (item_of g.N.Exact.value) c.args.list.now c.loop-item.item-index
    c.item-item.result c.loop-item-test.true c.item-item.is c.requires.named

pub loop-item-preserved : goal.loop-item-preserved
loop-item-preserved g c =
    text_more (items_text (naming c.args.names.now) (item_of g.N.Exact.value))
    (items_text-cons (naming c.args.names.now) (item_of g.N.Exact.value))
    c.loop-item.item-index c.args.list.now c.loop-item.item-index c.item-item.result _ _ _ c.loop-item-test.true
    c.item-item.is c.in_ok-put_item.ensures.appended c.loop-item.invariant
