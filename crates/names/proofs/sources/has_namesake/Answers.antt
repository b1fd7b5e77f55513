use Rattle.std.proofs.Common.{◌∙◌, sym, ap, List, ℕ}
use Rattle.std.specs.List.{list_any}
use Rattle.std.specs.Str.{bytes_eq}
use Rattle.cql_reader.specs.Views as syntax
use Rattle.names.specs.Matches as spec
use Rattle.names.proofs.Lists.{any_map}
use Rattle.names.proofs.sources.has_namesake.Goals as goal

pub returns : goal.returns
returns c =
    c.is_name_among.ensures
    ∙ ap (λ (name : List ℕ). list_any (λ s. bytes_eq name (spec.name_of (syntax.source_of s))) c.args.others.now) (c.as_bytes.ensures ∙ c.name_of-name.ensures)
    ∙ sym (any_map (λ s. bytes_eq (spec.name_of (syntax.source_of c.args.source.now)) (spec.name_of s)) syntax.source_of c.args.others.now)
    ∙ sym (any_map (bytes_eq (spec.name_of (syntax.source_of c.args.source.now))) spec.name_of (syntax.sources_of c.args.others.now))
