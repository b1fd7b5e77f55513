use Rattle.std.proofs.Common.{◌≡◌, refl, rules}
use Rattle.stream_store.specs.LateRows.{first_below, has_rows}
use Rattle.stream_store.proofs.KeyLemmas.{changed_from_retain_pairs}
use Rattle.stream_store.proofs.late.forget_from.Goals as goal

pub returns : goal.returns
returns c =
    changed_from_retain_pairs _ (λ f. f.0.now ≡ c.args.first) has_rows (first_below c.args.first)
    (λ f k v b w h i t.
    (search rules, search rules, search rules))
    _ c.args.late.now.entries c.retain.new.self.entries refl c.retain.ensures.filtered
