-- The one right answer, as it is found, and what `read` answers of it.
use Rattle.std.specs.Prelude.{◌≡◌, ℕ, List, length, cond, nat_lt, Result, Ok, Err}
use Rattle.cql_reader.specs.Scanning.{all_ascii, scan_from}
use Rattle.cql_reader.specs.Query.{Query}
use Rattle.cql_reader.specs.Views.{query_of}
use Rattle.cql_reader.specs.Coded.{Tells}
use Rattle.cql_reader.specs.declared.query.Query.{Query as CodedQuery}
use Rattle.cql_reader.specs.declared.ReadFault.{ReadFault}
use Rattle.cql_reader.specs.Grammar.{Draft, finished}
use Rattle.cql_reader.specs.Fault.{Fault, TextTooLong, NotAscii}
use Rattle.cql_reader.specs.Prediction.{parsed}

abbrev pub judged : Result Draft Fault → Result Query Fault
judged (Ok draft) = Ok (finished draft)
judged (Err fault) = Err fault

-- the one right answer
unfoldable pub reading : List ℕ → Result Query Fault
reading text =
    cond (nat_lt 4096 (length text)) (Err TextTooLong) (
    cond (all_ascii text) (judged (parsed (scan_from text 0))) (Err NotAscii))

-- the query, or the fault, is that of the answer, but for want of memory
abbrev pub Reads : Result Query Fault → Result CodedQuery ReadFault → Type 0
Reads answer (Ok query) = answer ≡ Ok (query_of query)
Reads answer (Err fault) = Tells answer fault
