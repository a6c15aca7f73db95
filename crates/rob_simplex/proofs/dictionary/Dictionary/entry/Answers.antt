use Rattle.rob_simplex.proofs.Places.EntryLemmas.{near_read, own_read}
use Rattle.rob_simplex.proofs.dictionary.Dictionary.entry.Goals as goal

pub returns-then-place-self-clause-entry : goal.returns-then-place-self-clause-entry
returns-then-place-self-clause-entry g c =
    (near_read c.self.invariant c.self.view_is c.args.i c.args.column c.requires.row_in c.requires.column_in
    c.index-place.result.now c.index-place.ensures c.if-place-self.true (g.E.Entry.value c.get.result)
    c.get.ensures.entry).0

pub returns-then-place-self-clause-within : goal.returns-then-place-self-clause-within
returns-then-place-self-clause-within g c =
    (near_read c.self.invariant c.self.view_is c.args.i c.args.column c.requires.row_in c.requires.column_in
    c.index-place.result.now c.index-place.ensures c.if-place-self.true (g.E.Entry.value c.get.result)
    c.get.ensures.entry).1

pub returns-then-place-self-clause-top : goal.returns-then-place-self-clause-top
returns-then-place-self-clause-top g c =
    (near_read c.self.invariant c.self.view_is c.args.i c.args.column c.requires.row_in c.requires.column_in
    c.index-place.result.now c.index-place.ensures c.if-place-self.true (g.E.Entry.value c.get.result)
    c.get.ensures.entry).2

pub returns-then-place-self-2-clause-entry : goal.returns-then-place-self-2-clause-entry
returns-then-place-self-2-clause-entry g c =
    (own_read c.self.invariant c.self.view_is c.args.i c.args.column c.requires.row_in c.requires.column_in
    c.index-place.result.now c.index-place.ensures c.if-place-self-2.true
    (g.E.Entry.value c.get-then-place-self-2.result) c.get-then-place-self-2.ensures.entry).0

pub returns-then-place-self-2-clause-within : goal.returns-then-place-self-2-clause-within
returns-then-place-self-2-clause-within g c =
    (own_read c.self.invariant c.self.view_is c.args.i c.args.column c.requires.row_in c.requires.column_in
    c.index-place.result.now c.index-place.ensures c.if-place-self-2.true
    (g.E.Entry.value c.get-then-place-self-2.result) c.get-then-place-self-2.ensures.entry).1

pub returns-then-place-self-2-clause-top : goal.returns-then-place-self-2-clause-top
returns-then-place-self-2-clause-top g c =
    (own_read c.self.invariant c.self.view_is c.args.i c.args.column c.requires.row_in c.requires.column_in
    c.index-place.result.now c.index-place.ensures c.if-place-self-2.true
    (g.E.Entry.value c.get-then-place-self-2.result) c.get-then-place-self-2.ensures.entry).2
