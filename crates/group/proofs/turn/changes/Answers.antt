use Rattle.std.proofs.Common.{◌∙◌, arith}
use Rattle.group.specs.Turns.{row_now}
use Rattle.group.proofs.ExcerptLemmas.{are-shown, list-more, list-shown, rows-more, shown-are}
use Rattle.group.proofs.turn.changes.Goals as goal

pub loop-place-preserved : goal.loop-place-preserved
loop-place-preserved c = record {
  keys = list-more (λ t. t.key.items) c.args.near.now c.loop-place.place _ _ (omega arith) c.loop-place.invariant.keys c.in_ok-change_at.ensures.keys;
  shown = list-more (row_now c.args.group.now) c.args.near.now c.loop-place.place _ _ (omega arith) c.loop-place.invariant.shown c.in_ok-change_at.ensures.shown;
  rows =
      rows-more c.args.group.now c.args.rows.now c.loop-place.rows _ c.args.near.now c.loop-place.place c.requires (omega arith) c.loop-place.invariant.rows c.in_ok-change_at.ensures.rows;
}

pub new-requires : goal.new-requires
new-requires c =
    are-shown _ _ _ (list-shown c.args.group.now _ _ c.args.near.now c.loop-place.place (omega arith) c.loop-place.invariant.keys c.loop-place.invariant.shown)

pub returns-clause-change : goal.returns-clause-change
returns-clause-change c =
    c.new.ensures ∙ shown-are _ _ _ (list-shown c.args.group.now _ _ c.args.near.now c.loop-place.place (omega arith) c.loop-place.invariant.keys c.loop-place.invariant.shown)
