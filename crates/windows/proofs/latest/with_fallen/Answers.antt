use Rattle.std.proofs.Common.{◌∙◌, ◌++◌, ap, sym, arith, map, take, List, Bool, Option}
use Rattle.std.proofs.lemmas.List.{map-append, take_all}
use Rattle.values.specs.Row.{Row}
use Rattle.op_queue.specs.Entries.{Entry, RowAt}
use Rattle.windows.specs.Latest.{interleaved}
use Rattle.windows.proofs.latest.with_fallen.Goals as goal

pub loop-from-preserved : goal.loop-from-preserved
loop-from-preserved c =
    let b = c.args.batch.now in
    let near = c.args.near.now in
    let at : Bool × Row → Entry Row = RowAt c.args.at in
    let before = interleaved (take c.loop-from.«from» b) (take c.loop-from.«from» near) in
    record {
      within = omega arith;
      fell = c.in_ok-rows.ensures.fell;
      so_far =
          c.in_ok-add.ensures
          ∙ ap (λ (es : List (Entry Row)). es ++ map at c.in_ok-rows.rows) c.loop-from.invariant.so_far
          ∙ sym (map-append at before c.in_ok-rows.rows)
          ∙ ap (map at) c.in_ok-rows.ensures.rows;
    }

pub returns : goal.returns
returns c =
    let b = c.args.batch.now in
    let near = c.args.near.now in
    let at : Bool × Row → Entry Row = RowAt c.args.at in
    c.loop-from.invariant.so_far
    ∙ ap (λ (rs : List (Bool × Row)). map at (interleaved rs (take c.loop-from.«from» near))) (take_all c.loop-from.«from» b (omega arith))
    ∙ ap (λ (fs : List (Option Row)). map at (interleaved b fs)) (take_all c.loop-from.«from» near (omega (arith, c.requires.0)))
