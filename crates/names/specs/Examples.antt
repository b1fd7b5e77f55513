-- The definitions at worked rows.
use Rattle.std.specs.Prelude.{◌≡◌, ℕ, false, Option, Some, None, pos, List, [], ◌∷◌, refl}
use Rattle.std.specs.Prelude.{replicate}
use Rattle.values.specs.Condition as conditions
use Rattle.values.specs.Condition.{Field}
use Rattle.values.specs.declared.reach.Reach.TheVariants.{Last, Steps}
use Rattle.values.specs.declared.resolved.Aggregate.TheVariants.{Sum}
use Rattle.values.specs.declared.resolved.Compare.TheVariants.{Equals, Above}
use Rattle.values.specs.Window as windows
use Rattle.values.specs.Relation as relations
use Rattle.values.specs.Answers.{Istream}
use Rattle.cql_reader.specs.Query.{Reference, WrittenEntry, Column, CountAll, Of, Entries, All}
use Rattle.cql_reader.specs.Query.{Each, Instants, Partition, WrittenSource, Named, Number}
use Rattle.cql_reader.specs.Query.{WrittenCondition}
use Rattle.cql_reader.specs.Query.{Compared, And, Or, Query}
use Rattle.names.specs.Catalog.{Stream}
use Rattle.names.specs.Resolved.{resolved, streams, widths}
use Rattle.names.specs.Split.{all_conjuncts, own_of, join_keys_of, remaining}
use Rattle.names.specs.Faults.{first_fault}
use Rattle.names.specs.declared.fault.ResolveFault.TheVariants.{UnknownStream, UnknownColumn}
use Rattle.names.specs.declared.fault.ResolveFault.TheVariants.{AmbiguousColumn, DuplicateAlias}
use Rattle.names.specs.declared.fault.ResolveFault.TheVariants.{NoJoinKey, NotGrouped, TooWide}

-- a name of one letter, by its byte
abbrev pub name : ℕ → List ℕ
name n = n ∷ []

abbrev pub plain : ℕ → Reference
plain n = record { qualifier = None; name = name n }

abbrev pub dotted : ℕ → ℕ → Reference
dotted q n = record { qualifier = Some (name q); name = name n }

abbrev pub of : ℕ → WrittenSource
of n = record { stream = name n; window = Instants (Last 0); alias = None }

abbrev pub called : ℕ → ℕ → WrittenSource
called n a = record { stream = name n; window = Instants (Last 0); alias = Some (name a) }

abbrev pub query : Entries → List WrittenSource → Option WrittenCondition → List Reference → Query
query es ss c g = record {
  operator = Istream;
  is_distinct = false;
  entries = es;
  sources = ss;
  condition = c;
  group = g;
}

abbrev pub equal : Reference → Reference → WrittenCondition
equal a b = Compared (Named a) Equals (Named b)

-- streams S(a), A(k), B(k, v), C(v)
abbrev pub declared : List Stream
declared =
    record { name = name 83; columns = name 97 ∷ [] }
    ∷ record { name = name 65; columns = name 107 ∷ [] }
    ∷ record { name = name 66; columns = name 107 ∷ name 118 ∷ [] }
    ∷ record { name = name 67; columns = name 118 ∷ [] } ∷ []

-- From S, S
same_twice : first_fault (query All (of 83 ∷ of 83 ∷ []) None []) declared ≡ Some DuplicateAlias
same_twice = refl

-- From S, S Where S.a = S.a
ambiguous : first_fault (query All (of 83 ∷ of 83 ∷ [])
    (Some (equal (dotted 83 97) (dotted 83 97))) []) declared ≡ Some AmbiguousColumn
ambiguous = refl

-- From S x, S y Where x.a = y.a Or x.a = 1
below_or : first_fault
    (query (Each (Column (dotted 120 97) ∷ [])) (called 83 120 ∷ called 83 121 ∷ [])
    (Some (Or (equal (dotted 120 97) (dotted 121 97))
    (Compared (Named (dotted 120 97)) Equals (Number (pos 1))))) []) declared ≡ Some NoJoinKey
below_or = refl

-- From S x, S y Where x.a = y.a
accepted : first_fault (query (Each (Column (dotted 120 97) ∷ []))
    (called 83 120 ∷ called 83 121 ∷ []) (Some (equal (dotted 120 97) (dotted 121 97))) [])
    declared ≡ None
accepted = refl

unknown_stream : first_fault (query All (of 90 ∷ []) None []) declared ≡ Some UnknownStream
unknown_stream = refl

-- the stream's fault comes before the column's, wherever they stand
stream_first : first_fault (query (Each (Column (plain 98) ∷ [])) (of 83 ∷ of 90 ∷ []) None [])
    declared ≡ Some UnknownStream
stream_first = refl

unknown_column : first_fault (query (Each (Column (plain 98) ∷ [])) (of 83 ∷ []) None []) declared
    ≡ Some UnknownColumn
unknown_column = refl

-- From B [Partition By k Rows 1], A: the k is that of B alone
abbrev partitioned : WrittenSource
partitioned = record { stream = name 66; window = Partition (plain 107 ∷ []) 1; alias = None }

own_source_alone : first_fault
    (query All (of 65 ∷ partitioned ∷ []) (Some (equal (dotted 65 107) (dotted 66 107))) [])
    declared ≡ None
own_source_alone = refl

partition_places : (resolved (query All (of 65 ∷ partitioned ∷ []) None []) declared).windows
    ≡ windows.Instants (Last 0) ∷ windows.LastRows (0 ∷ []) 1 ∷ []
partition_places = refl

-- From S [Range 5 Slide 2]
sliding : (resolved (query All
    (record { stream = name 83; window = Instants (Steps 5 2); alias = None } ∷ []) None [])
    declared).windows ≡ windows.Instants (Steps 5 2) ∷ []
sliding = refl

-- Select Istream(a, Count(*)) From S: the column is not grouped
not_grouped : first_fault (query (Each (Column (plain 97) ∷ CountAll ∷ [])) (of 83 ∷ []) None [])
    declared ≡ Some NotGrouped
not_grouped = refl

-- Select Istream(v) From B Group By k
not_in_group : first_fault (query (Each (Column (plain 118) ∷ [])) (of 66 ∷ []) None
    (plain 107 ∷ [])) declared ≡ Some NotGrouped
not_in_group = refl

-- Select Istream(k, Sum(v)) From B Group By v, k: the item is the second column of Group By
grouped : (resolved (query (Each (Column (plain 107) ∷ Of Sum (plain 118) ∷ [])) (of 66 ∷ []) None
    (plain 118 ∷ plain 107 ∷ [])) declared).shape
    ≡ relations.Grouped (record { source = 0; column = 1 } ∷ record { source = 0; column = 0 } ∷ [])
    (relations.Key 1 ∷ relations.Of Sum (record { source = 0; column = 1 }) ∷ [])
grouped = refl

-- 32 items are accepted, 33 are too many
abbrev item : WrittenEntry
item = Column (plain 97)

as_wide_as_may_be : first_fault
    (query (Each (replicate 32 item)) (of 83 ∷ []) None []) declared ≡ None
as_wide_as_may_be = refl

too_wide : first_fault (query (Each (replicate 33 item)) (of 83 ∷ []) None []) declared
    ≡ Some TooWide
too_wide = refl

-- Where A.k = B.k And B.v = C.v
abbrev tied : WrittenCondition
tied = And (equal (dotted 65 107) (dotted 66 107)) (equal (dotted 66 118) (dotted 67 118))

-- From A, B, C
abbrev pub three : Query
three = query (Each (Column (dotted 65 107) ∷ Column (dotted 67 118) ∷ []))
    (of 65 ∷ of 66 ∷ of 67 ∷ []) (Some tied) []

three_accepted : first_fault three declared ≡ None
three_accepted = refl

-- B's key is with A, C's with B
three_keys : join_keys_of 3 (all_conjuncts (resolved three declared).condition)
    ≡ (record { earlier = record { source = 0; column = 0 }; column = 0 } ∷ [])
    ∷ (record { earlier = record { source = 1; column = 1 }; column = 0 } ∷ []) ∷ []
three_keys = refl

three_rest : remaining 3 (all_conjuncts (resolved three declared).condition) ≡ []
three_rest = refl

-- From A, C, B: C has no key with A
three_untied : first_fault (query (Each (Column (dotted 65 107) ∷ [])) (of 65 ∷ of 67 ∷ of 66 ∷ [])
    (Some tied) []) declared ≡ Some NoJoinKey
three_untied = refl

-- Select Istream(*) From A, B Where A.k = B.k And (B.v > 5 Or A.k = 2)
abbrev pub partly : Query
partly = query All (of 65 ∷ of 66 ∷ [])
    (Some (And (equal (dotted 65 107) (dotted 66 107))
    (Or (Compared (Named (dotted 66 118)) Above (Number (pos 5)))
    (Compared (Named (dotted 65 107)) Equals (Number (pos 2)))))) []

partly_accepted : first_fault partly declared ≡ None
partly_accepted = refl

partly_streams : streams partly declared ≡ 1 ∷ 2 ∷ []
partly_streams = refl

partly_widths : widths partly declared ≡ 1 ∷ 2 ∷ []
partly_widths = refl

partly_own : own_of 2 (all_conjuncts (resolved partly declared).condition) ≡ [] ∷ [] ∷ []
partly_own = refl

partly_keys : join_keys_of 2 (all_conjuncts (resolved partly declared).condition)
    ≡ (record { earlier = record { source = 0; column = 0 }; column = 0 } ∷ []) ∷ []
partly_keys = refl

partly_rest : remaining 2 (all_conjuncts (resolved partly declared).condition)
    ≡ conditions.Or (conditions.Compared (Field (record { source = 1; column = 1 })) Above
    (conditions.Number (pos 5)))
    (conditions.Compared (Field (record { source = 0; column = 0 })) Equals
    (conditions.Number (pos 2))) ∷ []
partly_rest = refl

-- Select Istream(A.k, B.v) From A, B Where A.k = B.k And B.v > 5
abbrev pub of_one : Query
of_one = query (Each (Column (dotted 65 107) ∷ Column (dotted 66 118) ∷ [])) (of 65 ∷ of 66 ∷ [])
    (Some (And (equal (dotted 65 107) (dotted 66 107))
    (Compared (Named (dotted 66 118)) Above (Number (pos 5))))) []

of_one_own : own_of 2 (all_conjuncts (resolved of_one declared).condition)
    ≡ [] ∷ (conditions.Compared (Field (record { source = 1; column = 1 })) Above
    (conditions.Number (pos 5)) ∷ []) ∷ []
of_one_own = refl

-- Select Istream(*) From S
abbrev pub simple : Query
simple = query All (of 83 ∷ []) None []

simple_list : (resolved simple declared).shape
    ≡ relations.Listed (record { source = 0; column = 0 } ∷ [])
simple_list = refl
