-- What is said of sources one after the other.
use Rattle.std.proofs.Common.{◌≡◌, ℕ, ◌+◌, ◌<◌, List, ◌++◌, map, length, get_or, drop, refl, sym, ap, ◌∙◌}
use Rattle.values.specs.Condition as conditions
use Rattle.cql_reader.specs.Views.{source_of, sources_of}
use Rattle.cql_reader.specs.declared.query.WrittenSource.{WrittenSource}
use Rattle.names.specs.Matches.{matches_in}
use Rattle.names.specs.Faults.{is_missing, is_many, partition_of}
use Rattle.names.specs.declared.matching.Table.{Table}
use Rattle.names.specs.declared.verdict.Verdict.{Verdict}
use Rattle.names.specs.Views.{table_of, tables_of, verdict_of, both_verdicts, partitions_in}
use Rattle.names.proofs.Lists.{any_append, or_assoc, rest_cons}

pub both-assoc : (a b c : Verdict) → both_verdicts (both_verdicts a b) c ≡ both_verdicts a (both_verdicts b c)
both-assoc a b c =
    rw (or_assoc a.is_missing b.is_missing c.is_missing) (rw (or_assoc a.is_many b.is_many c.is_many) refl)

pub verdict-append : (xs ys : List (List conditions.SourceColumn)) → verdict_of (xs ++ ys) ≡ both_verdicts (verdict_of xs) (verdict_of ys)
verdict-append xs ys = rw (any_append is_missing xs ys) (rw (any_append is_many xs ys) refl)

-- one source more
pub windows_step : (v w : Verdict) (i : ℕ) (tables : List Table) (sources : List WrittenSource) (t : Table) (s : WrittenSource) → i < length tables → t ≡ get_or tables i t
    → i < length sources → s ≡ get_or sources i s
    → w ≡ both_verdicts v (verdict_of (map (λ r. matches_in 0 r (table_of t)) (partition_of (source_of (get_or sources i s)).window)))
    → both_verdicts w (verdict_of (partitions_in (tables_of (drop (i + 1) tables)) (sources_of (drop (i + 1) sources))))
    ≡ both_verdicts v (verdict_of (partitions_in (tables_of (drop i tables)) (sources_of (drop i sources))))
windows_step v w i tables sources t s lt is lt' is' e =
    let here : List (List conditions.SourceColumn) = map (λ r. matches_in 0 r (table_of t)) (partition_of (source_of s).window) in
    let rest : List (List conditions.SourceColumn) = partitions_in (tables_of (drop (i + 1) tables)) (sources_of (drop (i + 1) sources)) in
    rw (rest_cons tables i t lt is) (rw (rest_cons sources i s lt' is') (
    ap (λ (x : Verdict). both_verdicts x (verdict_of rest))
    (e ∙ ap (λ (x : WrittenSource). both_verdicts v (verdict_of (map (λ r. matches_in 0 r (table_of t)) (partition_of (source_of x).window)))) (sym is')) ∙ both-assoc v (verdict_of here) (verdict_of rest)
    ∙ ap (both_verdicts v) (sym (verdict-append here rest))))
