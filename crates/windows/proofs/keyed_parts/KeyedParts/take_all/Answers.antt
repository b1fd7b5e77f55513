use Rattle.std.proofs.Common.{◌∙◌, ◌+◌, ◌++◌, ◌∷◌, [], ap, arith, refl, subst, sym, Bool, List}
use Rattle.values.specs.Row.{Row}
use Rattle.column.specs.Rows.{signed, width}
use Rattle.windows.specs.Latest.{fallen_of, held_in, key_in, part}
use Rattle.windows.specs.Widths.{AreWide, OneRow}
use Rattle.windows.proofs.BackLemmas.{back_step, fell_at, none_after}
use Rattle.windows.proofs.EnterLemmas.{after_more, enter_is, fallen_fit, parts_more}
use Rattle.windows.proofs.LeavingLemmas.{ok_of}
use Rattle.windows.proofs.keyed_parts.KeyedParts.take_all.Goals as goal

pub returns-then-count-eq0-clause-ok : goal.returns-then-count-eq0-clause-ok
returns-then-count-eq0-clause-ok g c = λ k.
    none_after c.args.columns.now c.args.count (held_in c.args.self.now) c.args.batch.now k c.if-count-eq0.true (c.requires.parts.few k)

pub take_all_back-requires : goal.take_all_back-requires
take_all_back-requires g c =
    let b = c.args.batch.now in
    let w = width b in
    let fit = fallen_fit c.args.columns.now c.args.count w (held_in c.args.self.now) b c.args.fallen.now c.requires.fallen c.requires.parts c.len-many.ensures.batch.one_width refl in
    let wide = λ (k : Row). subst (λ (l : List (OneRow × List Row)). AreWide w (held_in l k)) (sym c.in-Err.ensures.err) (c.loop-place.invariant.parts.wide k) in
    (omega arith, (omega (arith, c.requires.narrow), (omega (arith, c.loop-place-test.true, c.len-many.ensures.value), (fit, wide))))

pub loop-place-preserved : goal.loop-place-preserved
loop-place-preserved g c =
    let columns = c.args.columns.now in
    let n = c.args.count in
    let b = c.args.batch.now in
    let fs = c.args.fallen.now in
    let p = c.loop-place.place in
    let x : Bool × Row = signed c.row-row.result in
    let key = c.key_in-key.result in
    let row : Row = c.row-row.result.row.items in
    let first = held_in c.args.self.now in
    let old = held_in c.loop-place.self in
    let new = held_in c.enter.new.self in
    let table = c.len-many.ensures.batch.one_width in
    let step = enter_is columns n c.loop-place.self c.enter.new.self key c.row-row.result.row (ok_of c.enter.result c.in_default.not-Err c.enter.ensures.ok) c.key_in-key.ensures in
    let taken = ok_of c.enter.result c.in_default.not-Err c.enter.ensures.back (omega arith) in
    let fell = fell_at columns n first old b fs p key.items row (omega arith) c.requires.fallen c.loop-place.invariant.after c.key_in-key.ensures (ap (λ (s : Bool × Row). s.1) c.row-row.ensures) in
    record {
      after = after_more columns n b p x c.row-row.ensures (omega arith) first old new c.loop-place.invariant.after step;
      parts = parts_more columns n b p x c.row-row.ensures (omega arith) old new step table c.loop-place.invariant.parts;
      back =
          sym (back_step columns b fs (p + 1) p key (fallen_of n (part key c.loop-place.self ++ row ∷ [])) c.enter.new.self c.loop-place.self refl (sym taken)
          (c.key_in-key.ensures ∙ ap (λ (s : Bool × Row). key_in columns s.1) c.row-row.ensures) fell)
          ∙ c.loop-place.invariant.back;
    }
