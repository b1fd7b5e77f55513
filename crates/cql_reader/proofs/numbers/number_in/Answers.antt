use Rattle.std.proofs.Common.{◌≡◌, sym, ap, ◌∙◌, arith, ℕ, pos, neg_ℤ, List, min, length, drop, take, ◌≤◌, length-drop, ◌-◌, nat_eq, w64, to_z, of_z, ◌-ℤ◌}
use Rattle.std.proofs.lemmas.Int.{ints}
use Rattle.std.proofs.lemmas.List.{take_all}
use Rattle.std.proofs.lemmas.Bool.{cond-true, cond-false}
use Rattle.cql_reader.specs.Lexis.{decimal, first_byte, number_of}
use Rattle.cql_reader.specs.Scanning.{capped}
use Rattle.cql_reader.proofs.Ranges.{capped_negative, capped_positive}
use Rattle.cql_reader.proofs.numbers.number_in.Goals as goal

pub returns-then-is_signed : goal.returns-then-is_signed
unfolding number_of
returns-then-is_signed c =
    let bytes = c.args.bytes.now in
    let n = decimal 0 (drop 1 bytes) in
    let cut : take (length bytes - 1) (drop 1 bytes) ≡ drop 1 bytes = take_all (length bytes - 1) (drop 1 bytes) (omega (arith, length-drop 1 bytes)) in
    let m : c.magnitude_of.result ≡ min n 2199023255552 = c.magnitude_of.ensures ∙ ap (λ (v : List ℕ). min (decimal 0 v) 2199023255552) cut in
    let small : min n 2199023255552 ≤ 2199023255552 = omega arith in
    let r = c.magnitude_of.result in
    let minus : to_z w64 (of_z w64 (pos 0 -ℤ to_z w64 r)) ≡ neg_ℤ (pos r) = omega (arith, ints) in
    let is : number_of bytes ≡ neg_ℤ (pos n) = cond-true (nat_eq (first_byte bytes) 45) (neg_ℤ (pos n)) (pos (decimal 0 bytes)) (sym c.if-is_signed.ensures.sign) in
    minus ∙ ap (λ (v : ℕ). neg_ℤ (pos v)) m ∙ capped_negative n ∙ ap capped (sym is)

pub returns-else-is_signed : goal.returns-else-is_signed
unfolding number_of
returns-else-is_signed c =
    let bytes = c.args.bytes.now in
    let n = decimal 0 bytes in
    let r = c.magnitude_of-else-is_signed.result in
    let m : r ≡ min n 2199023255552 = c.magnitude_of-else-is_signed.ensures in
    let small : min n 2199023255552 ≤ 2199023255552 = omega arith in
    let plus : to_z w64 r ≡ pos r = omega (arith, ints) in
    let is : number_of bytes ≡ pos n = cond-false (nat_eq (first_byte bytes) 45) (neg_ℤ (pos (decimal 0 (drop 1 bytes)))) (pos n) (sym c.if-is_signed.ensures.sign) in
    plus ∙ ap pos m ∙ capped_positive n ∙ ap capped (sym is)
