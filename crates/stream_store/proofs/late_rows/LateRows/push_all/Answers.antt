use Rattle.std.proofs.Common.{◌∙◌, ◌*◌, ◌++◌, ap, sym, length, ℕ, ℤ, List, Option}
use Rattle.std.specs.List.{range_with_len}
use Rattle.values.specs.Row.{Row}
use Rattle.stream_store.specs.LateRows.{RowsAt, lent_rows, with_rows}
use Rattle.stream_store.proofs.FlatLemmas.{pushed_late}
use Rattle.stream_store.proofs.late_rows.LateRows.push_all.Goals as goal

pub invariant_of-self-2 : goal.invariant_of-self-2
invariant_of-self-2 c =
    let o = c.self.inside in
    let instants = c.args.instants.now in
    let values = c.args.values.now in
    let full = c.requires.full ∙ ap (λ (r : RowsAt). length instants * r.width) (sym c.self.view_is) in
    let counted = c.push_numbers.ensures ∙ ap (λ (ns : List ℕ). ns ++ range_with_len c.args.first (length instants)) c.make_room.ensures.items in
    let valued = c.push_values.ensures ∙ ap (λ (vs : List (Option ℤ)). vs ++ values) c.make_room-2.ensures.items in
    (pushed_late o.width c.args.first o.numbers.items c.push_numbers.new.numbers.items o.values.items c.push_values.new.values.items instants values c.self.invariant full counted valued).flat

pub returns-clause-ok : goal.returns-clause-ok
returns-clause-ok c =
    let o = c.self.inside in
    let instants = c.args.instants.now in
    let values = c.args.values.now in
    let full = c.requires.full ∙ ap (λ (r : RowsAt). length instants * r.width) (sym c.self.view_is) in
    let counted = c.push_numbers.ensures ∙ ap (λ (ns : List ℕ). ns ++ range_with_len c.args.first (length instants)) c.make_room.ensures.items in
    let valued = c.push_values.ensures ∙ ap (λ (vs : List (Option ℤ)). vs ++ values) c.make_room-2.ensures.items in
    let pushed = pushed_late o.width c.args.first o.numbers.items c.push_numbers.new.numbers.items o.values.items c.push_values.new.values.items instants values c.self.invariant full counted valued in
    ap (λ (rows : List (ℕ × Row)). record { width = o.width; rows = rows }) pushed.rows
    ∙ ap (λ (r : RowsAt). with_rows c.args.first (lent_rows r.width instants values) r) c.self.view_is
