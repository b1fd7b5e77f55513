use Rattle.std.proofs.Common.{arith, not, get_or, sym, ◌/◌}
use Rattle.std.proofs.lemmas.Grind.{get_or_default_zero}
use Rattle.std.proofs.lemmas.List.{length-map}
use Rattle.column.proofs.BitLemmas.{truth_read}
use Rattle.turn.specs.Same.{leaving}
use Rattle.turn.proofs.same_items.leaves.Goals as goal

pub returns : goal.returns
returns c =
    let words = c.leaving_words.result.now in
    let word = get_or words (c.args.place / 64) 0 in
    truth_read _ words (leaving c.args.batch.now) c.args.place word c.leaving_words.ensures.clear c.leaving_words.ensures.value
    (omega (arith, c.requires, length-map c.args.batch.now (λ r. not r.0)))
    (sym (get_or_default_zero words (c.args.place / 64) word (omega (arith, c.requires, c.leaving_words.ensures.clear.words_fit))))
