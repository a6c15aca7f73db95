use Rattle.std.proofs.Common.{◌+◌}
use Rattle.rob_cert.specs.NamesView.{naming}
use Rattle.rob_cert.specs.Reading.{words_in}
use Rattle.rob_cert.proofs.Readers.ItemLemmas.{item_read_fault}
use Rattle.rob_cert.proofs.items.read_item.Goals as goal

pub returns-in-Err-read_entries-clause-fault : goal.returns-in-Err-read_entries-clause-fault
returns-in-Err-read_entries-clause-fault g c =
    let value = g.N.Exact.value in
    item_read_fault (naming c.args.names.now) g.N.Exact.limit c.args.least (words_in c.args.split.front.now)
    c.args.split.back.now (c.args.line + 1) c.args.line c.in-Ok.head.form
    (value c.in-Ok.head.weight) (value c.in-Ok.head.base) c.in-Err-read_entries.error c.in-Ok.ensures.head
    (g.met.N.Exact.fits c.in-Ok.head.weight) (g.met.N.Exact.fits c.in-Ok.head.base)
    c.in-Err-read_entries.ensures.fault
