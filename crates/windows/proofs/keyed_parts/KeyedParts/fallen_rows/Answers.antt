use Rattle.std.proofs.Common.{◌≡◌, ◌∙◌, ap, arith, sym, subst, take, Bool, List, Option, length}
use Rattle.std.specs.Option.{option_map}
use Rattle.std.proofs.lemmas.List.Elements.{All-take}
use Rattle.values.specs.Row.{Row}
use Rattle.column.specs.Rows.{signed, width}
use Rattle.windows.specs.Fallen.{IsFallenWide, those_fallen}
use Rattle.windows.specs.Latest.{held_in, key_in, part}
use Rattle.windows.specs.Widths.{AreWide}
use Rattle.windows.proofs.EnterLemmas.{all_fallen_wide, came_few, came_wide, enter_is, fallen_in_wide, fallen_more, like_more, like_wide}
use Rattle.windows.proofs.FallenLemmas.{beside}
use Rattle.windows.proofs.keyed_parts.KeyedParts.fallen_rows.Goals as goal

pub push-requires : goal.push-requires
push-requires g c =
    let columns = c.args.columns.now in
    let b = c.args.batch.now in
    let p = c.loop-place.place in
    let w = width b in
    let key = c.key_in-key.result in
    let came = part key c.loop-place.came in
    let table = All-take (λ s. length s.1 ≡ w) p b c.len.ensures.batch.one_width in
    let wide : AreWide w came = subst (λ (rs : List Row). AreWide w rs) (sym (c.loop-place.invariant.came key)) (like_wide columns key.items w (take p b) table) in
    let row : length (signed c.row-row.result).1 ≡ w = ap (λ (s : Bool × Row). length s.1) c.row-row.ensures ∙ c.len.ensures.batch.one_width p _ (omega arith) in
    beside w (option_map (λ r. r.items) c.fallen.result) (those_fallen c.loop-place.rows)
    (subst (λ (f : Option Row). IsFallenWide w f) (sym c.fallen.ensures) (fallen_in_wide c.args.count w (part key c.args.self.now) came c.row-row.result.row.items (c.requires.parts.wide key.items) wide row))
    (subst (λ (fs : List (Option Row)). AreWide w (those_fallen fs)) (sym c.loop-place.invariant.rows) (all_fallen_wide columns c.args.count w (held_in c.args.self.now) (take p b) c.requires.parts table))

pub enter-requires : goal.enter-requires
enter-requires g c =
    let columns = c.args.columns.now in
    let b = c.args.batch.now in
    let p = c.loop-place.place in
    let key = c.key_in-key.result in
    let rows = part key c.loop-place.came in
    let is = c.loop-place.invariant.came key in
    let few = came_few columns key.items b p rows c.len.ensures.batch.few is in
    let wide = came_wide columns key.items b p (signed c.row-row.result) rows c.row-row.ensures (omega arith) c.len.ensures.batch.one_width is in
    (omega arith, (omega (arith, c.self.invariant.narrow), (few, wide)))

pub loop-place-preserved : goal.loop-place-preserved
loop-place-preserved g c =
    let columns = c.args.columns.now in
    let b = c.args.batch.now in
    let p = c.loop-place.place in
    let n = c.args.count in
    let x : Bool × Row = signed c.row-row.result in
    let key = c.key_in-key.result in
    let held = held_in c.args.self.now in
    let old = c.loop-place.came in
    let new = c.enter.new.self in
    let ke : key.items ≡ key_in columns x.1 = c.key_in-key.ensures in
    record {
      rows =
          fallen_more columns n b p x c.row-row.ensures (omega arith) held key.items c.loop-place.rows c.push.new.self (option_map (λ r. r.items) c.fallen.result) (part key old) c.requires.parts.few ke
          c.loop-place.invariant.rows (c.loop-place.invariant.came key) c.fallen.ensures c.in_ok-push.ensures;
      came = λ k.
          like_more columns n b p x c.row-row.ensures (omega arith) 18446744073709551615 (held_in old) (held_in new) c.len.ensures.batch.few (omega arith) (λ r. c.loop-place.invariant.came (record { items = r }))
          (enter_is columns 18446744073709551615 old new key c.row-row.result.row c.in_ok-enter.ensures.ok ke) k.items;
    }
