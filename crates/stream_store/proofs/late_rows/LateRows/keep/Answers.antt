use Rattle.std.proofs.Common.{◌≤◌, ◌*◌, ◌∙◌, ap, ap₂, arith, length, length-take-le, nat_lt, sym, ℕ, ℤ, List, Option}
use Rattle.values.specs.Row.{Row}
use Rattle.stream_store.specs.LateRows.{RowsAt, rows_in}
use Rattle.stream_store.specs.Starts.{rows_read}
use Rattle.stream_store.proofs.FlatLemmas.{length-rows_in, rows_in-take}
use Rattle.stream_store.proofs.KeepLemmas.{place_end}
use Rattle.stream_store.proofs.late_rows.LateRows.keep.Goals as goal

pub overflow_mul-count : goal.overflow_mul-count
overflow_mul-count c =
    let m = c.move_kept-count in
    omega (arith, place_end c.self.inside.width m.result (length m.new.numbers.items) (length m.new.values.items) m.ensures.within m.ensures.full, m.new.values.ok)

pub invariant_of-self : goal.invariant_of-self
invariant_of-self c =
    let m = c.move_kept-count in
    let width = c.self.inside.width in
    let fits : m.result * width ≤ length m.new.values.items = place_end width m.result (length m.new.numbers.items) (length m.new.values.items) m.ensures.within m.ensures.full in
    record {
      few = c.self.invariant.few;
      full =
          ap length c.truncate-2.ensures.items
          ∙ length-take-le (m.result * width) m.new.values.items fits
          ∙ ap (λ n. n * width) (sym (length-take-le m.result m.new.numbers.items m.ensures.within) ∙ ap length (sym c.truncate.ensures.items));
    }

pub returns-clause-rows : goal.returns-clause-rows
returns-clause-rows c =
    let m = c.move_kept-count in
    let width = c.self.inside.width in
    ap₂ (λ (ns : List ℕ) (vs : List (Option ℤ)). record { width = width; rows = rows_in width ns vs }) c.truncate.ensures.items c.truncate-2.ensures.items
    ∙ ap (λ (rs : List (ℕ × Row)). record { width = width; rows = rs }) (rows_in-take width m.result m.new.numbers.items m.new.values.items ∙ m.ensures.rows)
    ∙ ap (λ (r : RowsAt). rows_read c.args.starts.now c.args.instant r) c.self.view_is

pub returns-clause-left : goal.returns-clause-left
returns-clause-left c =
    let m = c.move_kept-count in
    let width = c.self.inside.width in
    let rows : List (ℕ × Row) = rows_in width m.new.numbers.items m.new.values.items in
    let within : m.result ≤ length rows = omega (arith, m.ensures.within, length-rows_in width m.new.numbers.items m.new.values.items) in
    ap (λ k. nat_lt 0 k)
    (sym (length-take-le m.result rows within)
    ∙ ap (λ (rs : List (ℕ × Row)). length rs) (sym (rows_in-take width m.result m.new.numbers.items m.new.values.items))
    ∙ sym (ap₂ (λ (ns : List ℕ) (vs : List (Option ℤ)). length (rows_in width ns vs)) c.truncate.ensures.items c.truncate-2.ensures.items))
