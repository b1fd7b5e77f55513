use Rattle.std.proofs.Common.{◌≡◌, refl, rules}
use Rattle.stream_store.specs.LateRows.{has_rows}
use Rattle.stream_store.specs.Starts.{rows_read}
use Rattle.stream_store.proofs.KeepLemmas.{changed_by_key}
use Rattle.stream_store.proofs.late.keep_read.Goals as goal

pub returns : goal.returns
returns c =
    changed_by_key _ (λ f. f.0.now ≡ c.args.starts.now) has_rows (rows_read c.args.starts.now)
    (λ f k v b w h i t.
    (search rules, search rules, search rules))
    _ c.args.late.now.entries c.retain.new.self.entries refl c.retain.ensures.filtered
