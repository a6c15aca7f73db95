-- What is known with the names of plain statements, which become words behind those that are there.
use Rattle.std.specs.Prelude.{◌-◌, List, ◌++◌, length, replicate, None}
use Rattle.rob_index.specs.Statements as stated
use Rattle.rob_index.specs.Statements.{Name}
use Rattle.rob_syntax.specs.Numbered.{numbered}
pub use Rattle.rob_expand.specs.Names.{tree_names, part_names, factor_names, side_names, names_of, grown}
use Rattle.rob_rules.specs.Scopes.{Earlier, behind}

-- what is known, with no name declared of the words that have come
abbrev pub widened : List Name → Earlier → Earlier
widened words e = record {
  sorts = e.sorts ++ replicate (length words - length e.sorts) None;
  sizes = e.sizes;
  goal = e.goal;
}

-- the words, and what is known of them
pub record Named : Type 0 where
  pub words : List Name
  pub earlier : Earlier

-- behind a plain statement
abbrev pub named_behind : Named → stated.Statement → Named
named_behind k s = record {
  words = grown k.words s;
  earlier = behind (widened (grown k.words s) k.earlier) (numbered (grown k.words s) s);
}
