use Rattle.std.proofs.Common.{◌∙◌, ap, List, position}
use Rattle.std.specs.Str.{bytes_eq}
use Rattle.reference.specs.Machine.{Stream}
use Rattle.stream_store.proofs.streams.Streams.named.Goals as goal

pub returns : goal.returns
returns c =
    c.stream_place.ensures c.self.inside.streams.items c.self.invariant
    ∙ ap (λ (xs : List Stream). position (λ s. bytes_eq s.name c.args.name.now) xs) c.self.view_is
