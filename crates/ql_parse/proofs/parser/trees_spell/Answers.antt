use Rattle.ql_parse.proofs.TreeLaws.{tree_spells, spelled_tree}
use Rattle.ql_parse.proofs.parser.trees_spell.Goals as goal

pub returns-clause-spells : goal.returns-clause-spells
returns-clause-spells c = tree_spells

pub returns-clause-spelled : goal.returns-clause-spelled
returns-clause-spelled c = spelled_tree
