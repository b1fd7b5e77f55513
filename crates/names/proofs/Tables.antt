-- What is said of the sources' tables is said of the catalog.
use Rattle.std.proofs.Common.{◌≡◌, Bool, Option, List, [], ◌∷◌, ◌++◌, map, flat_map, length, refl, sym, ap, ◌∙◌}
use Rattle.std.specs.Option.{option_map}
use Rattle.values.specs.Condition.{SourceColumn, Condition}
use Rattle.values.specs.Window.{Window}
use Rattle.values.specs.Answers.{Resolved}
use Rattle.cql_reader.specs.Query as syntax
use Rattle.std.proofs.lemmas.List.{length-map}
use Rattle.values.specs.Resolved.{window_of as code_window}
use Rattle.values.specs.declared.resolved.Window as code_windows
use Rattle.cql_reader.specs.Views.{source_of, sources_of}
use Rattle.cql_reader.specs.declared.query.WrittenSource.{WrittenSource}
use Rattle.names.specs.declared.matching.Table as code
use Rattle.names.specs.Catalog.{Stream}
use Rattle.names.specs.Matches.{Table, table_of, tables, matches_in, matches}
use Rattle.names.specs.Resolved.{window_of, windows_of, condition_of, named_by, entry_list, resolved}
use Rattle.names.specs.declared.fault.ResolveFault.{ResolveFault}
use Rattle.names.specs.declared.fault.ResolveFault.TheVariants.{UnknownStream, UnknownColumn, AmbiguousColumn, DuplicateAlias, NoJoinKey, NotGrouped, TooWide}
use Rattle.names.specs.Faults.{first_of, partition_of, references_of_where, all_matches}
use Rattle.names.specs.Views.{table_of as code_table, tables_of, windows_in, partitions_in, resolved_in, verdict_of}
use Rattle.names.specs.Split.{all_conjuncts}
use Rattle.names.specs.declared.verdict.Verdict.{Verdict}

pub windows_in-tables : (catalog : List Stream) (ss : List syntax.WrittenSource) → windows_in (tables catalog ss) ss ≡ windows_of catalog ss
windows_in-tables catalog [] = refl
windows_in-tables catalog (s ∷ ss) = ap (λ (ws : List Window). window_of (table_of catalog s) s.window ∷ ws) (windows_in-tables catalog ss)

pub partitions_in-tables : (catalog : List Stream) (ss : List syntax.WrittenSource)
    → partitions_in (tables catalog ss) ss ≡ flat_map (λ s. map (λ r. matches_in 0 r (table_of catalog s)) (partition_of s.window)) ss
partitions_in-tables catalog [] = refl
partitions_in-tables catalog (s ∷ ss) =
    ap (λ (ms : List (List SourceColumn)). map (λ r. matches_in 0 r (table_of catalog s)) (partition_of s.window) ++ ms) (partitions_in-tables catalog ss)

pub resolved_in-tables : (catalog : List Stream) (q : syntax.Query) → resolved_in (tables catalog q.sources) q ≡ resolved q catalog
resolved_in-tables catalog q = rw (windows_in-tables catalog q.sources) refl

pub meaning_is : (ts : List Table) (q : syntax.Query) (catalog : List Stream) (m : Resolved) → ts ≡ tables catalog q.sources → m ≡ resolved_in ts q → m ≡ resolved q catalog
meaning_is ts q catalog m t e = e ∙ ap (λ (ts : List Table). resolved_in ts q) t ∙ resolved_in-tables catalog q

-- the condition of the tables is that of the catalog
pub conjuncts_are : (ts : List Table) (q : syntax.Query) (catalog : List Stream) (c : Option Condition) → ts ≡ tables catalog q.sources
    → c ≡ option_map (condition_of ts) q.condition → all_conjuncts c ≡ all_conjuncts (resolved q catalog).condition
conjuncts_are ts q catalog c t e = ap all_conjuncts (e ∙ ap (λ (ts : List Table). option_map (condition_of ts) q.condition) t)

-- the references of the query after those of Partition By
abbrev pub references : syntax.Query → List syntax.Reference
references q = flat_map named_by (entry_list q.entries) ++ (references_of_where q.condition ++ q.group)

pub verdict_is : (ts : List Table) (q : syntax.Query) (catalog : List Stream) (v : Verdict) → ts ≡ tables catalog q.sources
    → v ≡ verdict_of (partitions_in ts q.sources ++ map (matches 0 ts) (references q)) → v ≡ verdict_of (all_matches q catalog)
verdict_is ts q catalog v t e =
    e ∙ ap (λ (ts : List Table). verdict_of (partitions_in ts q.sources ++ map (matches 0 ts) (references q))) t
    ∙ ap (λ (ps : List (List SourceColumn)). verdict_of (ps ++ map (matches 0 (tables catalog q.sources)) (references q))) (partitions_in-tables catalog q.sources)

-- the first of seven tests that is met
abbrev pub first_of_tests : Bool → Bool → Bool → Bool → Bool → Bool → Bool → Option ResolveFault
first_of_tests a b c d e f g =
    first_of ((a, UnknownStream) ∷ (b, UnknownColumn) ∷ (c, AmbiguousColumn) ∷ (d, DuplicateAlias) ∷ (e, NoJoinKey) ∷ (f, NotGrouped) ∷ (g, TooWide) ∷ [])

pub same_first : (a b c d e f g a' b' c' d' e' f' g' : Bool) → a ≡ a' → b ≡ b' → c ≡ c' → d ≡ d' → e ≡ e' → f ≡ f' → g ≡ g'
    → first_of_tests a b c d e f g ≡ first_of_tests a' b' c' d' e' f' g'
same_first a b c d e f g a' b' c' d' e' f' g' ea eb ec ed ee ef eg =
    ap (λ (x : Bool). first_of_tests x b c d e f g) ea
    ∙ ap (λ (x : Bool). first_of_tests a' x c d e f g) eb
    ∙ ap (λ (x : Bool). first_of_tests a' b' x d e f g) ec
    ∙ ap (λ (x : Bool). first_of_tests a' b' c' x e f g) ed
    ∙ ap (λ (x : Bool). first_of_tests a' b' c' d' x f g) ee
    ∙ ap (λ (x : Bool). first_of_tests a' b' c' d' e' x g) ef
    ∙ ap (λ (x : Bool). first_of_tests a' b' c' d' e' f' x) eg

-- there are as many tables as sources
pub count_is : (xs : List code.Table) (catalog : List Stream) (ss : List WrittenSource) → tables_of xs ≡ tables catalog (sources_of ss) → length xs ≡ length ss
count_is xs catalog ss e =
    sym (length-map xs code_table) ∙ ap length e ∙ length-map (sources_of ss) (table_of catalog) ∙ length-map ss source_of

-- and windows
pub windows_count : (ws : List code_windows.Window) (catalog : List Stream) (ss : List WrittenSource) → map code_window ws ≡ windows_of catalog (sources_of ss) → length ws ≡ length ss
windows_count ws catalog ss e =
    sym (length-map ws code_window) ∙ ap length e ∙ length-map (sources_of ss) (λ s. window_of (table_of catalog s) s.window) ∙ length-map ss source_of
