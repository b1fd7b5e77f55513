-- How many columns the sources of a query have together.
use Rattle.std.proofs.Common.{◌≡◌, ℕ, ◌+◌, ◌<◌, List, map, drop, length, sum, get_or, ap, ◌∙◌}
use Rattle.std.proofs.lemmas.List.{drop_more}
use Rattle.std.proofs.lemmas.List.Sums.{sum_by-cons}
use Rattle.cql_reader.specs.Views.{sources_of}
use Rattle.cql_reader.specs.Names.{name_of}
use Rattle.cql_reader.specs.declared.query.WrittenSource.{WrittenSource}
use Rattle.names.specs.Catalog.{Stream, columns_in}
use Rattle.names.specs.Matches.{tables}

-- how many columns each of these sources has
abbrev pub widths_of : List Stream → List WrittenSource → List ℕ
widths_of catalog sources = map (λ t. length t.columns) (tables catalog (sources_of sources))

pub narrow_more : (catalog : List Stream) (sources : List WrittenSource) (i : ℕ) (d : WrittenSource) → i < length sources
    → sum (widths_of catalog (drop i sources)) ≡ length (columns_in catalog (name_of (get_or sources i d).stream)) + sum (widths_of catalog (drop (i + 1) sources))
narrow_more catalog sources i d l =
    ap (λ xs. sum (widths_of catalog xs)) (drop_more sources i d l)
    ∙ sum_by-cons (λ x. x) (length (columns_in catalog (name_of (get_or sources i d).stream))) (widths_of catalog (drop (i + 1) sources))
