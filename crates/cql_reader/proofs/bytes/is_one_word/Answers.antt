use Rattle.std.proofs.Common.{Bool, sym, ap, ◌∙◌, ◌&&◌, get_or, drop, ◌+◌}
use Rattle.cql_reader.specs.Lexis.{all_word, is_word}
use Rattle.cql_reader.proofs.Ascii.{words_step, words_end}
use Rattle.cql_reader.proofs.Steps.{true_and}
use Rattle.cql_reader.proofs.bytes.is_one_word.Goals as goal

pub returns-then-not-word_byte : goal.returns-then-not-word_byte
returns-then-not-word_byte c =
    let bs = c.args.bytes.now in
    let i = c.loop-byte.byte-index in
    sym (ap (λ (b : Bool). b && all_word (drop (i + 1) bs)) (sym c.if-not-word_byte.ensures))
    ∙ sym (words_step bs i c.loop-byte-test.true) ∙ c.loop-byte.invariant

pub loop-byte-preserved : goal.loop-byte-preserved
loop-byte-preserved c =
    let bs = c.args.bytes.now in
    let i = c.loop-byte.byte-index in
    sym (true_and (is_word (get_or bs i 0)) (all_word (drop (i + 1) bs)) (sym c.if-not-word_byte.ensures))
    ∙ sym (words_step bs i c.loop-byte-test.true) ∙ c.loop-byte.invariant

pub returns : goal.returns
returns c = sym (words_end c.args.bytes.now c.loop-byte.byte-index c.loop-byte-test.false) ∙ c.loop-byte.invariant
