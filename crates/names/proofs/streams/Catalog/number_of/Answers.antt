use Rattle.std.proofs.Common.{◌∙◌, List, sym, ap, position}
use Rattle.std.specs.Str.{bytes_eq}
use Rattle.cql_reader.specs.Names.{name_of}
use Rattle.names.specs.Catalog.{Stream, number_in}
use Rattle.names.specs.Views.{stream_of}
use Rattle.names.specs.declared.streams.Declared.{Declared}
use Rattle.names.proofs.Lists.{position_map}
use Rattle.names.proofs.streams.Catalog.number_of.Goals as goal

pub returns : goal.returns
returns c =
    c.number_among.ensures ∙ ap (λ (ds : List Declared). position (λ d. bytes_eq (name_of d.name) c.args.name.now) ds) c.deref.ensures.value
    ∙ sym (position_map (λ s. bytes_eq s.name c.args.name.now) stream_of c.self.inside.streams.items)
    ∙ ap (λ (catalog : List Stream). number_in catalog c.args.name.now) c.self.view_is
