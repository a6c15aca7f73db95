use Rattle.std.proofs.Common.{ap, map, string_bytes, sym}
use Rattle.rob_model.specs.View.{robust}
use Rattle.rob_top.proofs.Meaning.BranchingLemmas.{names_answer}
use Rattle.rob_top.proofs.Meaning.ReplayingLemmas.{replay_answers}
use Rattle.rob_top.proofs.Meaning.TreeCheckLemmas.{texts_answers}
use Rattle.rob_top.proofs.Meaning.SweepingLemmas.{words_answer, words_answer_at}
use Rattle.rob_words.specs.declared.verb.Verb.TheVariants as verbs
use Rattle.rob_top.specs.Commands.{work_of}
use Rattle.rob_top.proofs.work.unelaborated.Goals as goal
use Rattle.rob_words.specs.Answers.{line_of}

pub returns-in-Replay-clause-answers : goal.returns-in-Replay-clause-answers
returns-in-Replay-clause-answers g c =
    replay_answers g.N.Exact.limit (robust g.N.Exact.value c.args.model.now) _ (line_of c.args.line.now)
    c.args.texts.now c.as_slice-certificate.result.now c.as_slice-scenarios.result.now
    c.replay_text.result c.in-Replay.is c.as_slice-certificate.ensures.value c.as_slice-scenarios.ensures.value
    c.replay_text.ensures.answers

pub branch_text-requires-clause-branches : goal.branch_text-requires-clause-branches
branch_text-requires-clause-branches g c = ap work_of c.in-Whole.is

pub returns-in-Whole-clause-answers : goal.returns-in-Whole-clause-answers
returns-in-Whole-clause-answers g c =
    names_answer g.N.Exact.limit (robust g.N.Exact.value c.args.model.now) _ (line_of c.args.line.now) c.args.texts.now
    (map string_bytes c.as_slice-words.result.now) c.own_word-names.result.now c.branch_text.result
    (ap work_of c.in-Whole.is) (sym (ap (map string_bytes) c.as_slice-words.ensures.value))
    c.own_word-names.ensures.word
    c.branch_text.ensures.answers

pub branch_text-requires-in-Tree-clause-branches : goal.branch_text-requires-in-Tree-clause-branches
branch_text-requires-in-Tree-clause-branches g c = ap work_of c.in-Tree.is

pub returns-in-Tree-clause-answers : goal.returns-in-Tree-clause-answers
returns-in-Tree-clause-answers g c =
    names_answer g.N.Exact.limit (robust g.N.Exact.value c.args.model.now) _ (line_of c.args.line.now) c.args.texts.now
    (map string_bytes c.as_slice-words.result.now) c.own_word-names.result.now c.branch_text-in-Tree.result
    (ap work_of c.in-Tree.is) (sym (ap (map string_bytes) c.as_slice-words.ensures.value)) c.own_word-names.ensures.word
    c.branch_text-in-Tree.ensures.answers

pub returns-in-CheckTree-clause-answers : goal.returns-in-CheckTree-clause-answers
returns-in-CheckTree-clause-answers g c =
    texts_answers g.N.Exact.limit (robust g.N.Exact.value c.args.model.now) _ (line_of c.args.line.now) c.args.texts.now
    (map string_bytes c.as_slice-words.result.now) c.own_word-names.result.now c.as_slice-tree.result.now
    c.check_tree_text.result c.in-CheckTree.is
    (sym (ap (map string_bytes) c.as_slice-words.ensures.value)) c.own_word-names.ensures.word
    c.as_slice-tree.ensures.value
    c.check_tree_text.ensures.answers

pub returns-in-Sweep-clause-answers : goal.returns-in-Sweep-clause-answers
returns-in-Sweep-clause-answers g c =
    words_answer_at g.N.Exact.limit (robust g.N.Exact.value c.args.model.now) _ (line_of c.args.line.now)
    verbs.Sweep c.args.texts.now
    (map string_bytes c.as_slice-words.result.now) c.sweep_words.result c.in-Sweep.is
    (sym (ap (map string_bytes) c.as_slice-words.ensures.value))
    c.sweep_words.ensures.answers

pub returns-in-SweepText-clause-answers : goal.returns-in-SweepText-clause-answers
returns-in-SweepText-clause-answers g c =
    words_answer_at g.N.Exact.limit (robust g.N.Exact.value c.args.model.now) _ (line_of c.args.line.now)
    verbs.SweepText c.args.texts.now
    (map string_bytes c.as_slice-words.result.now) c.limit_words.result c.in-SweepText.is
    (sym (ap (map string_bytes) c.as_slice-words.ensures.value))
    c.limit_words.ensures.answers

pub split_words-requires-clause-splits : goal.split_words-requires-clause-splits
split_words-requires-clause-splits g c = ap work_of c.in-Cells.is

pub returns-in-Cells-clause-answers : goal.returns-in-Cells-clause-answers
returns-in-Cells-clause-answers g c =
    words_answer g.N.Exact.limit (robust g.N.Exact.value c.args.model.now) _ (line_of c.args.line.now) c.args.texts.now
    (map string_bytes c.as_slice-words.result.now) c.split_words.result
    (sym (ap (map string_bytes) c.as_slice-words.ensures.value))
    c.split_words.ensures.answers

pub split_words-requires-in-CellText-clause-splits : goal.split_words-requires-in-CellText-clause-splits
split_words-requires-in-CellText-clause-splits g c = ap work_of c.in-CellText.is

pub returns-in-CellText-clause-answers : goal.returns-in-CellText-clause-answers
returns-in-CellText-clause-answers g c =
    words_answer g.N.Exact.limit (robust g.N.Exact.value c.args.model.now) _ (line_of c.args.line.now) c.args.texts.now
    (map string_bytes c.as_slice-words.result.now) c.split_words-in-CellText.result
    (sym (ap (map string_bytes) c.as_slice-words.ensures.value)) c.split_words-in-CellText.ensures.answers
