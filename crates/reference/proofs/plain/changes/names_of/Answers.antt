use Rattle.std.proofs.Common.{◌≡◌, ◌∙◌, ap, get_or, string_bytes}
use Rattle.reference.proofs.NameLemmas.{short_at}
use Rattle.reference.proofs.plain.changes.names_of.Goals as goal

pub new-requires : goal.new-requires
new-requires c =
    let bytes : c.as_bytes.result.now ≡ string_bytes (get_or c.args.texts.now c.loop-text.text-index c.text-item.result)
    = c.as_bytes.ensures.value ∙ c.as_str.ensures.value ∙ ap string_bytes c.text-item.is in
    rw bytes (short_at c.args.texts.now c.loop-text.text-index c.text-item.result c.requires c.loop-text-test.true)
