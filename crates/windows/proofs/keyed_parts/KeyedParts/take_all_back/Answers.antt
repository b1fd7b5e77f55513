use Rattle.std.proofs.Common.{◌≡◌, ◌∙◌, ◌-◌, Bool, Option, ap, arith, get_or, subst, sym, true, []}
use Rattle.std.specs.Option.{option_map}
use Rattle.values.specs.Row.{Row}
use Rattle.column.specs.Rows.{width}
use Rattle.windows.specs.Fallen.{IsFallenWide}
use Rattle.windows.specs.Latest.{key_in, part}
use Rattle.windows.proofs.BackLemmas.{back_step}
use Rattle.windows.proofs.FallenLemmas.{beside, fallen_wide_at}
use Rattle.windows.proofs.keyed_parts.KeyedParts.take_all_back.Goals as goal

pub take_back-requires : goal.take_back-requires
take_back-requires g c =
    let b = c.args.batch.now in
    let w = width b in
    let key = c.key_in-key.result in
    let f : Option Row = option_map (λ r. r.items) c.fallen.result in
    let fits = subst (λ (h : Option Row). IsFallenWide w h) (sym c.fallen.ensures) (fallen_wide_at b c.args.fallen.now (c.loop-left.left - 1) c.requires.fallen) in
    (omega arith, (omega (arith, c.self.invariant.narrow), beside w f (part key c.loop-left.self) fits (c.loop-left.invariant.wide key.items)))

pub loop-left-preserved : goal.loop-left-preserved
loop-left-preserved g c =
    let columns = c.args.columns.now in
    let b = c.args.batch.now in
    let fs = c.args.fallen.now in
    let w = width b in
    let left = c.loop-left.left in
    let key = c.key_in-key.result in
    let f : Option Row = option_map (λ r. r.items) c.fallen.result in
    let fits = subst (λ (h : Option Row). IsFallenWide w h) (sym c.fallen.ensures) (fallen_wide_at b fs (left - 1) c.requires.fallen) in
    let at : key.items ≡ key_in columns (get_or b (left - 1) (true, [])).1 = c.key_in-key.ensures ∙ ap (λ (s : Bool × Row). key_in columns s.1) c.row.ensures in
    record {
      le = omega (arith, c.loop-left.invariant.le);
      back = back_step columns b fs left (left - 1) key f c.loop-left.self c.take_back.new.self (omega (arith, c.loop-left-test.true)) c.take_back.ensures.back at c.fallen.ensures ∙ c.loop-left.invariant.back;
      wide = c.take_back.ensures.wide w fits c.loop-left.invariant.wide;
    }
