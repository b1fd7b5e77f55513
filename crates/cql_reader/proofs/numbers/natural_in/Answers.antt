use Rattle.std.proofs.Common.{◌≡◌, sym, ap, ◌∙◌, arith, ℕ, ℤ, pos, neg_ℤ, nat_abs, List, min, length, drop, take, length-drop, ◌-◌, nat_eq}
use Rattle.std.proofs.lemmas.List.{take_all}
use Rattle.std.proofs.lemmas.Bool.{cond-true, cond-false}
use Rattle.cql_reader.specs.Lexis.{decimal, first_byte, number_of}
use Rattle.cql_reader.proofs.Ranges.{abs_negative}
use Rattle.cql_reader.proofs.numbers.natural_in.Goals as goal

pub returns-then-is_signed : goal.returns-then-is_signed
unfolding number_of
returns-then-is_signed c =
    let bytes = c.args.bytes.now in
    let n = decimal 0 (drop 1 bytes) in
    let cut : take (length bytes - 1) (drop 1 bytes) ≡ drop 1 bytes = take_all (length bytes - 1) (drop 1 bytes) (omega (arith, length-drop 1 bytes)) in
    let is : number_of bytes ≡ neg_ℤ (pos n) = cond-true (nat_eq (first_byte bytes) 45) (neg_ℤ (pos n)) (pos (decimal 0 bytes)) (sym c.if-is_signed.ensures.sign) in
    c.magnitude_of.ensures ∙ ap (λ (v : List ℕ). min (decimal 0 v) 2199023255552) cut
    ∙ ap (λ (v : ℕ). min v 2199023255552) (sym (abs_negative n)) ∙ ap (λ (v : ℤ). min (nat_abs v) 2199023255552) (sym is)

pub returns-else-is_signed : goal.returns-else-is_signed
unfolding number_of
returns-else-is_signed c =
    let bytes = c.args.bytes.now in
    let n = decimal 0 bytes in
    let is : number_of bytes ≡ pos n = cond-false (nat_eq (first_byte bytes) 45) (neg_ℤ (pos (decimal 0 (drop 1 bytes)))) (pos n) (sym c.if-is_signed.ensures.sign) in
    c.magnitude_of-else-is_signed.ensures ∙ ap (λ (v : ℤ). min (nat_abs v) 2199023255552) (sym is)
