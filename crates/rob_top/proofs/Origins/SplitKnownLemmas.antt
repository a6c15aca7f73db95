-- What `cells` and `celltext` were given and answer, where a part of what is known of the files decides.
use Rattle.std.proofs.Common.{ℕ, ℤ, List}
use Rattle.rob_meaning.specs.Certificates.{Status}
use Rattle.rob_meaning.specs.RobustModel.{RobustModel}
use Rattle.rob_model.specs.declared.place.Spot.{Spot}
use Rattle.rob_pieces.specs.Cuts.{Cut}
use Rattle.rob_top.proofs.Origins.KnownInputs.{model_known}
use Rattle.rob_top.specs.Calls.{Call, Known, known_call}
use Rattle.rob_top.specs.Split.{BreaksCells, HasCuts, HasCutWord, HasSplit, IsEmptyCell, IsNoCells, IsPieced, IsSplitText, IsWideSplit, named_set, no_parameter, of_split}
use Rattle.rob_words.specs.Commands.{Line}
use Rattle.rob_words.specs.Values.{Word}

module _ (call : Call) (known : Known call.source) where
  abbrev part : Call
  part = known_call call known

  module _ (line : Line) (m : RobustModel) where
    word_known : (word : Word) → HasCutWord call line m word → HasCutWord part line m word
    word_known word h =
        record { model = model_known call known line m h.model; is_splitting = h.is_splitting; told = h.told }

    cuts_known : (cuts : List Cut) → HasCuts call line m cuts → HasCuts part line m cuts
    cuts_known cuts h = record { word = h.word; has_word = word_known h.word h.has_word; alone = h.alone; are = h.are }

    split_known : (cuts : List Cut) → HasSplit call line m cuts → HasSplit part line m cuts
    split_known cuts h = record { has_cuts = cuts_known cuts h.has_cuts; keeps = h.keeps }

    breaking_cells_known : (rule : ℕ) → BreaksCells call line m rule → BreaksCells part line m rule
    breaking_cells_known rule (named_set word has some e) = named_set word (word_known word has) some e
    breaking_cells_known rule (no_parameter word has alone none e) =
        no_parameter word (word_known word has) alone none e
    breaking_cells_known rule (of_split cuts has breaks) = of_split cuts (cuts_known cuts has) breaks

  pub no_cells_known : (rule : ℕ) (text : List ℕ) → IsNoCells call rule text → IsNoCells part rule text
  no_cells_known rule text h =
      record { line = h.line; m = h.m; breaks = breaking_cells_known h.line h.m rule h.breaks; printed = h.printed }

  pub pieced_known : (status : Status) (text : List ℕ) → IsPieced call status text → IsPieced part status text
  pieced_known status text h = record {
    line = h.line;
    m = h.m;
    cuts = h.cuts;
    has = split_known h.line h.m h.cuts h.has;
    is_cells = h.is_cells;
    c = h.c;
    status_is = h.status_is;
    holds = h.holds;
    kept = h.kept;
    admits = h.admits;
    pieces = h.pieces;
    sets = h.sets;
    proves = h.proves;
    last = h.last;
    inside = h.inside;
    shape = h.shape;
    fits = h.fits;
    written = h.written;
    printed = h.printed;
  }

  pub split_text_known : (text : List ℕ) → IsSplitText call text → IsSplitText part text
  split_text_known text h = record {
    line = h.line;
    m = h.m;
    cuts = h.cuts;
    has = split_known h.line h.m h.cuts h.has;
    is_text = h.is_text;
    pieces = h.pieces;
    sets = h.sets;
    printed = h.printed;
  }

  pub empty_cell_known : (weights : List ℤ) (text : List ℕ) → IsEmptyCell call weights text
      → IsEmptyCell part weights text
  empty_cell_known weights text h = record {
    line = h.line;
    m = h.m;
    cuts = h.cuts;
    has = split_known h.line h.m h.cuts h.has;
    is_cells = h.is_cells;
    written = h.written;
    shown = h.shown;
    fits = h.fits;
    not_each = h.not_each;
    printed = h.printed;
  }

  pub wide_split_known : (spot : Spot) (text : List ℕ) → IsWideSplit call spot text → IsWideSplit part spot text
  wide_split_known spot text h = record {
    line = h.line;
    m = h.m;
    cuts = h.cuts;
    has = split_known h.line h.m h.cuts h.has;
    is_cells = h.is_cells;
    wide = h.wide;
    raised = h.raised;
    printed = h.printed;
  }
