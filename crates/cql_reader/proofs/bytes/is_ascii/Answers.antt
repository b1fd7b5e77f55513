use Rattle.std.proofs.Common.{Bool, sym, ap, ◌∙◌, arith, ◌&&◌, get_or, drop, ◌+◌, nat_lt}
use Rattle.std.proofs.lemmas.Bool.{lt-ltb, le-ltb}
use Rattle.cql_reader.specs.Scanning.{all_ascii}
use Rattle.cql_reader.proofs.Ascii.{ascii_step, ascii_end}
use Rattle.cql_reader.proofs.Steps.{true_and}
use Rattle.cql_reader.proofs.bytes.is_ascii.Goals as goal

pub returns-then-byte-gt127 : goal.returns-then-byte-gt127
returns-then-byte-gt127 c =
    let bs = c.args.bytes.now in
    let i = c.loop-byte.byte-index in
    sym (ap (λ (b : Bool). b && all_ascii (drop (i + 1) bs)) (le-ltb (get_or bs i 0) 128 (omega arith)))
    ∙ sym (ascii_step bs i c.loop-byte-test.true) ∙ c.loop-byte.invariant

pub loop-byte-preserved : goal.loop-byte-preserved
loop-byte-preserved c =
    let bs = c.args.bytes.now in
    let i = c.loop-byte.byte-index in
    sym (true_and (nat_lt (get_or bs i 0) 128) (all_ascii (drop (i + 1) bs)) (lt-ltb (get_or bs i 0) 128 (omega arith)))
    ∙ sym (ascii_step bs i c.loop-byte-test.true) ∙ c.loop-byte.invariant

pub returns : goal.returns
returns c = sym (ascii_end c.args.bytes.now c.loop-byte.byte-index c.loop-byte-test.false) ∙ c.loop-byte.invariant
