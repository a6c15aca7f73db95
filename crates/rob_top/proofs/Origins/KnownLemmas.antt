-- An answer means the same where less is known of the files. So what follows
-- from a part of what is known follows from all.
use Rattle.std.proofs.Common.{ℕ, List}
use Rattle.rob_meaning.specs.Certificates.{Status, optimal, infeasible, unbounded}
use Rattle.rob_outside.specs.Files.{missing, too_long}
use Rattle.rob_top.specs.Branched.{IsBranched}
use Rattle.rob_top.specs.Calls.{Call, Known, known_call}
use Rattle.rob_top.specs.Files.{requests}
use Rattle.rob_top.specs.Compared.{AsksFor}
use Rattle.rob_top.specs.Headline.{Means}
use Rattle.rob_top.specs.Replayed.{IsReplayed}
use Rattle.rob_top.specs.Searched.{IsSearched}
use Rattle.rob_top.specs.Solved.{IsSolved}
use Rattle.rob_top.specs.Swept.{IsLimited, IsPriced}
use Rattle.rob_top.specs.Ways.{FindsStatus, solved, branched, rows, replayed, generated, compared, worst_found, priced, limited, narrowed, a_certificate, a_tree, while_solving, while_branching, while_searching, in_model, on_way, while_growing, while_checking, not_checked, not_replayed, not_searched, pieced, split_written, in_cells, in_split, in_summary}
use Rattle.rob_commands.specs.declared.ended.Ended.{Ended}
use Rattle.rob_commands.specs.declared.ended.Ended.TheVariants.{Optimal, Infeasible, Unbounded, Printed, Accepted, Rejected, Words, Missing, TooLong, Model, EmptySet, TooWide, WideNode, WideBudget, Cert, Scenarios, Whole, Sweep, Cells, Tree as TreeRule, TreeRejected, NoRow, ReadFault, WriteFault, Memory}
use Rattle.rob_words.specs.Commands.{Line}
use Rattle.rob_words.specs.declared.verb.Own.TheVariants as own
use Rattle.rob_top.proofs.Origins.SplitKnownLemmas.{empty_cell_known, no_cells_known, pieced_known, split_text_known, wide_split_known}
use Rattle.rob_top.proofs.Origins.KnownInputs.{came_all, absent_known, file_held, forms_known, file_known, certificate_known, scenarios_known, lacking_known, whole_known, tree_file_known, tree_known, breaking_known, sought_known, unnamed_known, sweep_known, limit_known, breaking_sweep_known, spot_known}
use Rattle.rob_words.specs.declared.verb.Verb.TheVariants as verbs

module _ (call : Call) (known : Known call.source) where
  abbrev part : Call
  part = known_call call known

  solved_known : (status : Status) (text : List ℕ) → IsSolved call status text → IsSolved part status text
  solved_known status text h = record {
    line = h.line;
    m = h.m;
    forms = (forms_known call known) h.line h.m h.forms;
    solves = h.solves;
    c = h.c;
    status_is = h.status_is;
    holds = h.holds;
    kept = h.kept;
    proves = h.proves;
    rounds = h.rounds;
    found = h.found;
    shape = h.shape;
    fits = h.fits;
    rounds_fit = h.rounds_fit;
    printed = h.printed;
  }

  branched_known : (status : Status) (text : List ℕ) → IsBranched call status text → IsBranched part status text
  branched_known status text h = record {
    line = h.line;
    m = h.m;
    names = h.names;
    has = (whole_known call known) h.line h.m h.names h.has;
    branches = h.branches;
    t = h.t;
    status_is = h.status_is;
    holds = h.holds;
    proves = h.proves;
    grown = h.grown;
    shape = h.shape;
    fits = h.fits;
    written = h.written;
    boxes = h.boxes;
    printed = h.printed;
  }

  status_known : (status : Status) (text : List ℕ) → FindsStatus call status text → FindsStatus part status text
  status_known status text (solved h) = solved (solved_known status text h)
  status_known status text (branched h) = branched (branched_known status text h)
  status_known status text (pieced h) = pieced (pieced_known call known status text h)

  replayed_known : (text : List ℕ) → IsReplayed call text → IsReplayed part text
  replayed_known text h = record {
    line = h.line;
    m = h.m;
    c = h.c;
    bytes = h.bytes;
    has = (scenarios_known call known) h.line h.m h.c h.bytes h.has;
    rows = h.rows;
    file = h.file;
    lines = h.lines;
    table = h.table;
    narrow = h.narrow;
    bounded = h.bounded;
    printed = h.printed;
  }

  searched_known : (text : List ℕ) → IsSearched call text → IsSearched part text
  searched_known text h = record {
    line = h.line;
    m = h.m;
    c = h.c;
    form = h.form;
    has = (sought_known call known) h.line h.m h.c h.form h.has;
    shows = h.shows;
    kept = h.kept;
  }

  priced_known : (text : List ℕ) → IsPriced call text → IsPriced part text
  priced_known text h = record {
    line = h.line;
    m = h.m;
    n = h.n;
    limits = h.limits;
    has = (sweep_known call known) h.line h.m h.n h.limits h.has;
    keeps = h.keeps;
    written = h.written;
    answers = h.answers;
    swept = h.swept;
    empty = h.empty;
    harder = h.harder;
    fits = h.fits;
    printed = h.printed;
  }

  limited_known : (text : List ℕ) → IsLimited call text → IsLimited part text
  limited_known text h = record {
    line = h.line;
    m = h.m;
    n = h.n;
    g = h.g;
    has = (limit_known call known) h.line h.m h.n h.g h.has;
    budget = h.budget;
    printed = h.printed;
  }

  asks_known : (line : Line) (number : ℕ) → AsksFor call line number → AsksFor part line number
  asks_known line number h = record { spelled = h.spelled; is_gen = h.is_gen; told = h.told }

  pub means_known : (ended : Ended) (text : List ℕ) → Means call ended text → Means part ended text
  means_known Optimal text h = status_known optimal text h
  means_known Infeasible text h = status_known infeasible text h
  means_known Unbounded text h = status_known unbounded text h
  means_known Printed text (rows h) = rows (record {
    line = h.line;
    m = h.m;
    forms = (forms_known call known) h.line h.m h.forms;
    is_rows = h.is_rows;
    printed = h.printed;
  })
  means_known Printed text (narrowed h) = narrowed (record {
    line = h.line;
    m = h.m;
    forms = (forms_known call known) h.line h.m h.forms;
    is_narrow = h.is_narrow;
    told = h.told;
  })
  means_known Printed text (split_written h) = split_written (split_text_known call known text h)
  means_known Printed text (replayed h) = replayed (replayed_known text h)
  means_known Printed text (generated h) = generated (record {
    line = h.line;
    spelled = h.spelled;
    is_text = h.is_text;
    number = h.number;
    told = h.told;
    printed = h.printed;
  })
  means_known Printed text (compared h) = compared (record {
    line = h.line;
    number = h.number;
    asks = asks_known h.line h.number h.asks;
    status = h.status;
    by_dual = h.by_dual;
    by_cuts = h.by_cuts;
    dual = h.dual;
    cuts = h.cuts;
    one_value = h.one_value;
    printed = h.printed;
  })
  means_known Printed text (worst_found h) = worst_found (searched_known text h)
  means_known Printed text (priced h) = priced (priced_known text h)
  means_known Printed text (limited h) = limited (limited_known text h)
  means_known Accepted text (a_certificate h) = a_certificate (record {
    line = h.line;
    m = h.m;
    c = h.c;
    read = (certificate_known call known) h.line h.m verbs.Check h.c h.read;
    verdict = h.verdict;
    proves = h.proves;
    holds = h.holds;
    printed = h.printed;
  })
  means_known Accepted text (a_tree h) = a_tree (record {
    line = h.line;
    m = h.m;
    names = h.names;
    t = h.t;
    read = (tree_known call known) h.line h.m h.names h.t h.read;
    accepted = h.accepted;
    holds = h.holds;
    printed = h.printed;
  })
  means_known (Rejected place) text h = record {
    line = h.line;
    m = h.m;
    c = h.c;
    read = (certificate_known call known) h.line h.m verbs.Check h.c h.read;
    verdict = h.verdict;
    proves_not = h.proves_not;
    printed = h.printed;
  }
  means_known (TreeRejected number fault) text h = record {
    line = h.line;
    m = h.m;
    names = h.names;
    t = h.t;
    read = (tree_known call known) h.line h.m h.names h.t h.read;
    rejected = h.rejected;
    proves_not = h.proves_not;
    printed = h.printed;
  }
  means_known (TreeRule rule number) text h = record {
    line = h.line;
    m = h.m;
    names = h.names;
    bytes = h.bytes;
    file = (tree_file_known call known) h.line h.m h.names h.bytes h.file;
    breaks = h.breaks;
    printed = h.printed;
  }
  means_known Words text h = h
  means_known Missing text h = (h.0, (absent_known call known) missing h.0 h.1, h.2)
  means_known TooLong text h = (h.0, (absent_known call known) too_long h.0 h.1, h.2)
  means_known (Model rule number) text h = record {
    line = h.line;
    spelled = h.spelled;
    came = (came_all call known) (requests h.line) h.came;
    bytes = h.bytes;
    file = (file_held call known) h.line own.Model h.bytes h.file;
    breaks = h.breaks;
    printed = h.printed;
  }
  means_known (EmptySet weights) text (while_solving h) = while_solving (record {
    line = h.line;
    m = h.m;
    forms = (forms_known call known) h.line h.m h.forms;
    solves = h.solves;
    shown = h.shown;
    fits = h.fits;
    printed = h.printed;
  })
  means_known (EmptySet weights) text (while_branching h) = while_branching (record {
    line = h.line;
    m = h.m;
    names = h.names;
    has = (whole_known call known) h.line h.m h.names h.has;
    branches = h.branches;
    written = h.written;
    shown = h.shown;
    fits = h.fits;
    printed = h.printed;
  })
  means_known (EmptySet weights) text (in_cells h) = in_cells (empty_cell_known call known weights text h)
  means_known (EmptySet weights) text (while_searching h) = while_searching (record {
    line = h.line;
    m = h.m;
    c = h.c;
    form = h.form;
    has = (sought_known call known) h.line h.m h.c h.form h.has;
    shown = h.shown;
    fits = h.fits;
    printed = h.printed;
  })
  means_known (WideNode path spot) text (while_growing h) = while_growing (record {
    line = h.line;
    m = h.m;
    names = h.names;
    has = (whole_known call known) h.line h.m h.names h.has;
    branches = h.branches;
    comes = h.comes;
    written = h.written;
    wide = h.wide;
    raised = h.raised;
    printed = h.printed;
  })
  means_known (WideNode path spot) text (while_checking h) = while_checking (record {
    line = h.line;
    m = h.m;
    names = h.names;
    t = h.t;
    read = (tree_known call known) h.line h.m h.names h.t h.read;
    wide = h.wide;
    raised = h.raised;
    printed = h.printed;
  })
  means_known (WideBudget number spot) text h = record {
    line = h.line;
    m = h.m;
    n = h.n;
    limits = h.limits;
    has = (sweep_known call known) h.line h.m h.n h.limits h.has;
    keeps = h.keeps;
    wide = h.wide;
    raised = h.raised;
    printed = h.printed;
  }
  means_known (Cells rule) text h = no_cells_known call known rule text h
  means_known (Sweep rule) text h = record {
    line = h.line;
    m = h.m;
    breaks = (breaking_sweep_known call known) h.line h.m rule h.breaks;
    printed = h.printed;
  }
  means_known (Whole rule) text h = record {
    line = h.line;
    m = h.m;
    breaks = (breaking_known call known) h.line h.m rule h.breaks;
    printed = h.printed;
  }
  means_known (TooWide spot) text (in_split h) = in_split (wide_split_known call known spot text h)
  means_known (TooWide spot) text (in_summary h) = in_summary (record {
    line = h.line;
    number = h.number;
    asks = asks_known h.line h.number h.asks;
    by_dual = h.by_dual;
    by_cuts = h.by_cuts;
    first = h.first;
    raised = h.raised;
    printed = h.printed;
  })
  means_known (TooWide spot) text (in_model h) = in_model (record {
    line = h.line;
    m = h.m;
    wide = (spot_known call known) h.line h.m spot h.wide;
    raised = h.raised;
    printed = h.printed;
  })
  means_known (TooWide spot) text (on_way h) = on_way (record {
    line = h.line;
    m = h.m;
    rounds = h.rounds;
    forms = (forms_known call known) h.line h.m h.forms;
    solves = h.solves;
    wide = h.wide;
    raised = h.raised;
    rounds_fit = h.rounds_fit;
    printed = h.printed;
  })
  means_known (Cert rule number) text (not_checked h) = not_checked (record {
    line = h.line;
    m = h.m;
    bytes = h.bytes;
    file = (file_known call known) h.line h.m verbs.Check h.bytes h.file;
    breaks = h.breaks;
    printed = h.printed;
  })
  means_known (Cert rule number) text (not_replayed h) = not_replayed (record {
    line = h.line;
    m = h.m;
    lacks = (lacking_known call known) h.line h.m verbs.Replay rule number h.lacks;
    printed = h.printed;
  })
  means_known (Cert rule number) text (not_searched h) = not_searched (record {
    line = h.line;
    m = h.m;
    lacks = (lacking_known call known) h.line h.m verbs.Worst rule number h.lacks;
    printed = h.printed;
  })
  means_known NoRow text h = record {
    line = h.line;
    m = h.m;
    c = h.c;
    name = h.name;
    names_none = (unnamed_known call known) h.line h.m h.c h.name h.names_none;
    printed = h.printed;
  }
  means_known (Scenarios rule number) text h = record {
    line = h.line;
    m = h.m;
    c = h.c;
    bytes = h.bytes;
    has = (scenarios_known call known) h.line h.m h.c h.bytes h.has;
    refused = h.refused;
    printed = h.printed;
  }
  means_known ReadFault text h = h
  means_known WriteFault text h = absurd h
  means_known Memory text h = absurd h
