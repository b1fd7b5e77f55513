use Rattle.group.proofs.LawLemmas.{begins, rows_law, outputs_turn, tick_stands}
use Rattle.group.proofs.DistinctLemmas.{distinct_law}
use Rattle.group.proofs.laws.groups_keep_their_laws.Goals as goal

pub returns : goal.returns
returns c = record {
  beginning = begins;
  rows = λ s o b d t batch h l a. rows_law batch s o b d h l a;
  tick = λ s t o b h small. (outputs_turn s o b h small, tick_stands s o b h small);
  distinct = λ width b h a. distinct_law width b h a;
}
