use Rattle.std.proofs.Common.{◌∙◌, ap, refl, sym, string_bytes}
use Rattle.rob_top.proofs.Fetching.FetchesLemmas.{files_short, words_asked, words_later, words_once}
use Rattle.rob_top.proofs.Fetching.FilesLemmas.{got_answer, got_bytes, none_of}
use Rattle.rob_top.proofs.Fetching.FirstWordLemmas.{words_absent, words_fetched, words_passed}
use Rattle.rob_top.specs.Calls.{count, source_of}
use Rattle.rob_top.proofs.files.+fetch_all.Goals as goal

pub returns-in_ok-rest-in-Bytes-clause-fetched : goal.returns-in_ok-rest-in-Bytes-clause-fetched
returns-in_ok-rest-in-Bytes-clause-fetched g t c =
    words_fetched string_bytes c.args.kinds.now c.args.names.now _ c.name-item.result c.as_str.result.now
    c.in-len1-up.len_at_least c.in-len1-up-names.len_at_least
    (c.as_str.ensures.value ∙ ap string_bytes c.name-item.is) c.in-Some.most
    (sym c.most_bytes.ensures.most ∙ c.in-Some.is) (g.S.Shelf.files c.args.shelf.now)
    (g.S.Shelf.files c.get.new.shelf) c.get.ensures.unchanged
    (g.S.Shelf.log c.args.shelf.now) (g.S.Shelf.log c.get.new.shelf) (g.S.Shelf.log c.fetch_all-in-Bytes.new.shelf)
    c.get.ensures.asked c.fetch_all-in-Bytes.ensures.asked c.in-Bytes.bytes
    (got_bytes (source_of (g.S.Shelf.files c.args.shelf.now) (g.S.Shelf.log c.args.shelf.now)
    (g.S.Shelf.log c.get.new.shelf)) _
    (count (g.S.Shelf.faults c.args.shelf.now) (g.S.Shelf.faults c.get.new.shelf)) _ c.in-Bytes.bytes c.in-Bytes.is
    c.in_ok-bytes-in-len1-up-names.ensures.got)
    (g.S.Shelf.faults c.args.shelf.now) (g.S.Shelf.faults c.get.new.shelf)
    (g.S.Shelf.faults c.fetch_all-in-Bytes.new.shelf) c.get.ensures.counted
    c.in_ok-rest-in-Bytes.rest c.with_bytes.result c.in_ok-rest-in-Bytes.ensures.fetched c.with_bytes.ensures.with

pub returns-in-Answer-clause-fetched : goal.returns-in-Answer-clause-fetched
returns-in-Answer-clause-fetched g t c =
    let source =
    source_of (g.S.Shelf.files c.args.shelf.now) (g.S.Shelf.log c.args.shelf.now) (g.S.Shelf.log c.get.new.shelf) in
    let faults = count (g.S.Shelf.faults c.args.shelf.now) (g.S.Shelf.faults c.get.new.shelf) in
    words_absent string_bytes c.args.kinds.now c.args.names.now _ c.name-item.result c.as_str.result.now
    c.in-len1-up.len_at_least c.in-len1-up-names.len_at_least
    (c.as_str.ensures.value ∙ ap string_bytes c.name-item.is) c.in-Some.most
    (sym c.most_bytes.ensures.most ∙ c.in-Some.is) source faults c.in-Answer.reply
    (got_answer source _ faults _ c.in-Answer.reply c.in-Answer.is c.in_ok-bytes-in-len1-up-names.ensures.got)

pub returns-in_ok-rest-in-Bytes-clause-asked : goal.returns-in_ok-rest-in-Bytes-clause-asked
returns-in_ok-rest-in-Bytes-clause-asked g t c =
    words_asked string_bytes c.args.kinds.now c.args.names.now _ c.name-item.result c.as_str.result.now
    c.in-len1-up.len_at_least c.in-len1-up-names.len_at_least
    (c.as_str.ensures.value ∙ ap string_bytes c.name-item.is) c.in-Some.most
    (sym c.most_bytes.ensures.most ∙ c.in-Some.is) (g.S.Shelf.files c.args.shelf.now)
    (g.S.Shelf.log c.args.shelf.now) (g.S.Shelf.log c.get.new.shelf) (g.S.Shelf.log c.fetch_all-in-Bytes.new.shelf)
    c.get.ensures.asked c.in-Bytes.bytes.items
    (got_bytes (source_of (g.S.Shelf.files c.args.shelf.now) (g.S.Shelf.log c.args.shelf.now)
    (g.S.Shelf.log c.get.new.shelf)) _
    (count (g.S.Shelf.faults c.args.shelf.now) (g.S.Shelf.faults c.get.new.shelf)) _ c.in-Bytes.bytes c.in-Bytes.is
    c.in_ok-bytes-in-len1-up-names.ensures.got) c.fetch_all-in-Bytes.ensures.asked

pub returns-in_err-rest-in-Bytes-clause-asked : goal.returns-in_err-rest-in-Bytes-clause-asked
returns-in_err-rest-in-Bytes-clause-asked g t c =
    words_asked string_bytes c.args.kinds.now c.args.names.now _ c.name-item.result c.as_str.result.now
    c.in-len1-up.len_at_least c.in-len1-up-names.len_at_least
    (c.as_str.ensures.value ∙ ap string_bytes c.name-item.is) c.in-Some.most
    (sym c.most_bytes.ensures.most ∙ c.in-Some.is) (g.S.Shelf.files c.args.shelf.now)
    (g.S.Shelf.log c.args.shelf.now) (g.S.Shelf.log c.get.new.shelf) (g.S.Shelf.log c.fetch_all-in-Bytes.new.shelf)
    c.get.ensures.asked c.in-Bytes.bytes.items
    (got_bytes (source_of (g.S.Shelf.files c.args.shelf.now) (g.S.Shelf.log c.args.shelf.now)
    (g.S.Shelf.log c.get.new.shelf)) _
    (count (g.S.Shelf.faults c.args.shelf.now) (g.S.Shelf.faults c.get.new.shelf)) _ c.in-Bytes.bytes c.in-Bytes.is
    c.in_ok-bytes-in-len1-up-names.ensures.got) c.fetch_all-in-Bytes.ensures.asked

pub returns-in_default-clause-fetched : goal.returns-in_default-clause-fetched
returns-in_default-clause-fetched g t c =
    words_passed string_bytes c.args.kinds.now c.args.names.now _ c.name-item.result _ c.in-len1-up.len_at_least
    c.in-len1-up-names.len_at_least refl
    (sym c.most_bytes.ensures.most ∙ none_of c.most_bytes.result c.in_default.not-Some)
    (source_of (g.S.Shelf.files c.args.shelf.now) (g.S.Shelf.log c.args.shelf.now)
    (g.S.Shelf.log c.fetch_all.new.shelf))
    (count (g.S.Shelf.faults c.args.shelf.now) (g.S.Shelf.faults c.fetch_all.new.shelf)) c.fetch_all.result
    c.fetch_all.ensures.fetched

pub returns-in_default-clause-asked : goal.returns-in_default-clause-asked
returns-in_default-clause-asked g t c =
    words_later string_bytes c.args.kinds.now c.args.names.now _ c.name-item.result _ c.in-len1-up.len_at_least
    c.in-len1-up-names.len_at_least refl
    (sym c.most_bytes.ensures.most ∙ none_of c.most_bytes.result c.in_default.not-Some)
    (g.S.Shelf.log c.args.shelf.now) (g.S.Shelf.log c.fetch_all.new.shelf) c.fetch_all.ensures.asked

pub returns-in_err-bytes-in-len1-up-names-clause-asked : goal.returns-in_err-bytes-in-len1-up-names-clause-asked
returns-in_err-bytes-in-len1-up-names-clause-asked g t c =
    words_once string_bytes c.args.kinds.now c.args.names.now _ c.name-item.result c.as_str.result.now
    c.in-len1-up.len_at_least c.in-len1-up-names.len_at_least
    (c.as_str.ensures.value ∙ ap string_bytes c.name-item.is) c.in-Some.most
    (sym c.most_bytes.ensures.most ∙ c.in-Some.is) (g.S.Shelf.log c.args.shelf.now)
    (g.S.Shelf.log c.get.new.shelf) c.get.ensures.asked

pub returns-in-Answer-clause-asked : goal.returns-in-Answer-clause-asked
returns-in-Answer-clause-asked g t c =
    words_once string_bytes c.args.kinds.now c.args.names.now _ c.name-item.result c.as_str.result.now
    c.in-len1-up.len_at_least c.in-len1-up-names.len_at_least
    (c.as_str.ensures.value ∙ ap string_bytes c.name-item.is) c.in-Some.most
    (sym c.most_bytes.ensures.most ∙ c.in-Some.is) (g.S.Shelf.log c.args.shelf.now)
    (g.S.Shelf.log c.get.new.shelf) c.get.ensures.asked

pub returns-in_ok-rest-in-Bytes-clause-short : goal.returns-in_ok-rest-in-Bytes-clause-short
returns-in_ok-rest-in-Bytes-clause-short g t c =
    files_short _ c.in-Some.most c.in-Bytes.bytes _ c.in_ok-rest-in-Bytes.rest c.with_bytes.result
    (sym c.most_bytes.ensures.most ∙ c.in-Some.is) c.in-Bytes.is c.in_ok-bytes-in-len1-up-names.ensures.within
    c.in_ok-rest-in-Bytes.ensures.short c.with_bytes.ensures.with
