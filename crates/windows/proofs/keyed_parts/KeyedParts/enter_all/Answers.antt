use Rattle.std.proofs.Common.{arith, Bool}
use Rattle.values.specs.Row.{Row}
use Rattle.column.specs.Rows.{signed}
use Rattle.windows.specs.Latest.{held_in, part}
use Rattle.windows.proofs.EnterLemmas.{after_more, enter_is, parts_more, wide_as}
use Rattle.windows.proofs.keyed_parts.KeyedParts.enter_all.Goals as goal

pub enter-requires : goal.enter-requires
enter-requires g c =
    let key = c.key_in-key.result in
    let rows = part key c.loop-place.self in
    let wide = wide_as c.args.batch.now c.loop-place.place (signed c.row-row.result) rows c.row-row.ensures (omega arith) c.len-place-end.ensures.batch.one_width (c.loop-place.invariant.parts.wide key.items) in
    (omega arith, (omega (arith, c.self.invariant.narrow), (c.loop-place.invariant.parts.few key.items, wide)))

pub loop-place-preserved : goal.loop-place-preserved
loop-place-preserved g c =
    let columns = c.args.columns.now in
    let b = c.args.batch.now in
    let p = c.loop-place.place in
    let x : Bool × Row = signed c.row-row.result in
    let old = held_in c.loop-place.self in
    let new = held_in c.enter.new.self in
    let step = enter_is columns c.args.count c.loop-place.self c.enter.new.self c.key_in-key.result c.row-row.result.row c.in_ok-enter.ensures.ok c.key_in-key.ensures in
    record {
      after = after_more columns c.args.count b p x c.row-row.ensures (omega arith) (held_in c.args.self.now) old new c.loop-place.invariant.after step;
      parts = parts_more columns c.args.count b p x c.row-row.ensures (omega arith) old new step c.len-place-end.ensures.batch.one_width c.loop-place.invariant.parts;
    }
