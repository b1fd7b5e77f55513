use Rattle.std.proofs.Common.{lit<}
use Rattle.std.proofs.lemmas.Iterator.Consumers.{map_from_collect}
use Rattle.std.proofs.lemmas.Iterator.Splits.{YieldsList-from_str_split}
use Rattle.tests_examples.specs.Scripts.{scripts_of}
use Rattle.tests_examples.proofs.scripts_of.Goals as goal

pub returns : goal.returns
unfolding scripts_of
returns c = map_from_collect _ c.collect.ensures.ran (YieldsList-from_str_split 30 c.args.text.now (lit< tt) c.split.ensures.text c.split.ensures.has_more c.split.ensures.pattern)
