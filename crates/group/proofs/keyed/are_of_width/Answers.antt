use Rattle.std.proofs.Common.{◌≡◌, ◌≤◌, length, subst, rules}
use Rattle.std.specs.List.{All}
use Rattle.std.proofs.lemmas.List.{take_all}
use Rattle.std.proofs.lemmas.List.Elements.{All-more}
use Rattle.group.specs.Cells.{Held}
use Rattle.group.proofs.keyed.are_of_width.Goals as goal

pub loop-key-preserved : goal.loop-key-preserved
loop-key-preserved g c =
    let HasWidth : Held → Type 0 = λ k. length k.items ≡ c.args.width in
    let key : Held = c.key-item.result in
    let now : HasWidth key = search rules in
    All-more HasWidth c.args.keys.now c.loop-key.key-index key c.loop-key-test.true c.loop-key.invariant (subst HasWidth c.key-item.is now)

pub returns : goal.returns
returns g c = λ t.
    let HasWidth : Held → Type 0 = λ k. length k.items ≡ c.args.width in
    let whole : length c.args.keys.now ≤ c.loop-key.key-index = search rules in
    subst (All HasWidth) (take_all c.loop-key.key-index c.args.keys.now whole) c.loop-key.invariant
