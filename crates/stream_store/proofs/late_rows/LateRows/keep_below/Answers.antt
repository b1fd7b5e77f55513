use Rattle.std.proofs.Common.{◌≡◌, ◌∙◌, sym, ap, ◌≤◌, length, arith, ℕ, List, nat_lt, refl}
use Rattle.std.specs.List.{filter}
use Rattle.std.proofs.Math.Nat.{mul-le-mul_left}
use Rattle.std.proofs.lemmas.List.Sums.{length-filter, count_by-le-length}
use Rattle.std.proofs.lemmas.List.{length-take-le}
use Rattle.stream_store.specs.LateRows.{rows_in}
use Rattle.stream_store.proofs.FlatLemmas.{rows_in-take, count-rows_in, length-rows_in}
use Rattle.stream_store.proofs.late_rows.LateRows.keep_below.Goals as goal

kept_few : (n kept : ℕ) (numbers : List ℕ) → kept ≡ length (filter (λ m. nat_lt m n) numbers) → kept ≤ length numbers
kept_few n kept numbers e =
    omega (arith, e, length-filter (λ m. nat_lt m n) numbers, count_by-le-length (λ m. nat_lt m n) numbers)

pub overflow_mul-kept : goal.overflow_mul-kept
overflow_mul-kept c =
    let o = c.self.inside in
    let count : c.count_below-kept.result ≡ length (filter (λ m. nat_lt m c.args.first) o.numbers.items) = c.count_below-kept.ensures ∙ ap (λ (ns : List ℕ). length (filter (λ m. nat_lt m c.args.first) ns)) c.deref.ensures.value in
    let few = kept_few c.args.first c.count_below-kept.result o.numbers.items count in
    omega (arith, mul-le-mul_left o.width few, c.self.invariant.full)

pub returns-clause-rows : goal.returns-clause-rows
returns-clause-rows c =
    let o = c.self.inside in
    let count : c.count_below-kept.result ≡ length (filter (λ m. nat_lt m c.args.first) o.numbers.items) = c.count_below-kept.ensures ∙ ap (λ (ns : List ℕ). length (filter (λ m. nat_lt m c.args.first) ns)) c.deref.ensures.value in
    let same = count ∙ sym (count-rows_in c.args.first o.width o.numbers.items o.values.items) in
    rw (c.truncate-2.ensures.items, c.truncate.ensures.items, ← c.self.view_is, rows_in-take, same) refl

pub returns-clause-left : goal.returns-clause-left
returns-clause-left c =
    let o = c.self.inside in
    let count : c.count_below-kept.result ≡ length (filter (λ m. nat_lt m c.args.first) o.numbers.items) = c.count_below-kept.ensures ∙ ap (λ (ns : List ℕ). length (filter (λ m. nat_lt m c.args.first) ns)) c.deref.ensures.value in
    let few = kept_few c.args.first c.count_below-kept.result o.numbers.items count in
    let within : c.count_below-kept.result ≤ length (rows_in o.width o.numbers.items o.values.items) = omega (arith, few, length-rows_in o.width o.numbers.items o.values.items) in
    rw (c.truncate-2.ensures.items, c.truncate.ensures.items, rows_in-take)
    (ap (λ k. nat_lt 0 k) (sym (length-take-le c.count_below-kept.result (rows_in o.width o.numbers.items o.values.items) within)))
