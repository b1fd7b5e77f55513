-- TO BELIEVE: the theorem rests on these definitions, and no proof can check them.
-- The lines of replies.
use Rattle.std.specs.Prelude.{ℕ, ℤ, Bool, true, false, List, [], ◌∷◌, ◌++◌, Option, Some, None}
use Rattle.std.specs.Prelude.{codes, decimal, flat_map}
use Rattle.std.specs.Arc.{arc_value}
use Rattle.std.specs.Fmt.{signed_decimal}
use Rattle.values.specs.Row.{Row}
use Rattle.envelope.specs.Fraction.{Fraction}
use Rattle.envelope.specs.LowestTerms.{shown}
use Rattle.plan.specs.Kinds.{kind_name}
use Rattle.plan.specs.declared.node.NodeKind.{NodeKind}
use Rattle.reference.specs.FaultTexts.{fault_text}
use Rattle.reference.specs.Looks.{Seen, answers, operators, seen_of, status}
use Rattle.reference.specs.Status.{QueryStatus, StreamStatus}
use Rattle.reference.specs.Status as defined
use Rattle.reference.specs.declared.fault.Fault.{Fault}
use Rattle.wire.specs.declared.request.WireFault.{WireFault}
use Rattle.wire.specs.declared.request.WireFault.TheVariants as in_line
use Rattle.wire.specs.declared.reply.Reply.{Reply}
use Rattle.wire.specs.declared.reply.Reply.TheVariants.{Done, Rows, Shared, Refused, Unread}
use Rattle.wire.specs.declared.reply.Reply.TheVariants as in_reply

-- what a request is answered
pub data Answer : Type 0 where
  done : Answer
  -- answers of a query, each with its instant
  rows : List (ℤ × Row) → Answer
  -- what a look saw
  seen : Seen → Answer
  -- the engine refused the call
  refused : Fault → Answer
  -- the line is no request
  unread : WireFault → Answer

abbrev pub answer_of : Reply → Answer
answer_of Done = done
answer_of (Rows taken) = rows taken
answer_of (Shared taken) = rows (arc_value taken)
answer_of (in_reply.Seen found) = seen (seen_of found)
answer_of (Refused fault) = refused fault
answer_of (Unread fault) = unread fault

unfoldable pub value_text : Option ℤ → List ℕ
value_text None = codes "null"
value_text (Some z) = signed_decimal z

-- each text after a comma
abbrev pub after_commas : {A : Type 0} → (A → List ℕ) → List A → List ℕ
after_commas f xs = flat_map (λ x. codes "," ++ f x) xs

-- the instant, then the values
unfoldable pub row_text : ℤ × Row → List ℕ
row_text row = codes "[" ++ signed_decimal row.0 ++ after_commas value_text row.1 ++ codes "]"

-- commas between the rows
unfoldable pub rows_text : List (ℤ × Row) → List ℕ
rows_text [] = []
rows_text (row ∷ more) = row_text row ++ after_commas row_text more

-- what the operator does, then its slope
unfoldable pub operator_text : NodeKind × Fraction → List ℕ
operator_text operator = codes "[\"" ++ kind_name operator.0 ++ codes "\",\"" ++ shown operator.1
    ++ codes "\"]"

-- commas between the operators
unfoldable pub operators_text : List (NodeKind × Fraction) → List ℕ
operators_text [] = []
operators_text (operator ∷ more) = operator_text operator ++ after_commas operator_text more

-- each text, with commas between them
abbrev pub with_commas : {A : Type 0} → (A → List ℕ) → List A → List ℕ
with_commas f [] = []
with_commas f (x ∷ xs) = f x ++ after_commas f xs

-- a name between quotation marks; it has letters, digits and underscores alone
unfoldable pub name_text : List ℕ → List ℕ
name_text name = codes "\"" ++ name ++ codes "\""

-- a key of its own says that a query is broken
abbrev pub broken_text : Bool → List ℕ
broken_text true = codes ",\"broken\":true"
broken_text false = []

-- its keys in the order of their bytes
unfoldable pub query_status_text : QueryStatus → List ℕ
query_status_text q = (codes "{\"base\":" ++ signed_decimal q.base) ++ broken_text q.is_broken
    ++ codes ",\"name\":" ++ name_text q.name ++ (codes ",\"taken\":" ++ decimal q.taken)
    ++ (codes ",\"upto\":" ++ signed_decimal q.upto)
    ++ (codes ",\"waiting\":" ++ decimal q.waiting) ++ codes "}"

unfoldable pub stream_status_text : StreamStatus → List ℕ
stream_status_text s = (codes "{\"closed\":" ++ signed_decimal s.closed) ++ codes ",\"columns\":["
    ++ with_commas name_text s.columns ++ codes "],\"name\":" ++ name_text s.name
    ++ (codes ",\"rows\":" ++ decimal s.rows) ++ codes "}"

-- the line of a status
unfoldable pub status_text : defined.Status → List ℕ
status_text s = codes "{\"ok\":true,\"queries\":[" ++ with_commas query_status_text s.queries
    ++ codes "],\"streams\":[" ++ with_commas stream_status_text s.streams ++ codes "]}\n"

-- the line of answers that a take handed out, or that a peek shows
abbrev pub rows_line : List (ℤ × Row) → List ℕ
rows_line found = codes "{\"ok\":true,\"rows\":[" ++ rows_text found ++ codes "]}\n"

-- the line of a query's operators
abbrev pub operators_line : List (NodeKind × Fraction) → List ℕ
operators_line found = codes "{\"ok\":true,\"operators\":[" ++ operators_text found
    ++ codes "]}\n"

-- the line of what a look saw
unfoldable pub seen_line : Seen → List ℕ
seen_line (answers found) = rows_line found
seen_line (operators found) = operators_line found
seen_line (status found) = status_text found

abbrev pub wire_fault_text : WireFault → List ℕ
wire_fault_text in_line.NotJson = codes "N1 NotJson"
wire_fault_text in_line.BadRequest = codes "N2 BadRequest"
wire_fault_text in_line.LineTooLong = codes "N3 LineTooLong"
wire_fault_text in_line.OutOfMemory = codes "E20 OutOfMemory"

abbrev pub error_line : List ℕ → List ℕ
error_line text = codes "{\"error\":\"" ++ text ++ codes "\"}\n"

-- the line of a reply, with its line feed
unfoldable pub line_of : Answer → List ℕ
line_of done = codes "{\"ok\":true}\n"
line_of (rows taken) = rows_line taken
line_of (seen found) = seen_line found
line_of (refused fault) = error_line (fault_text fault)
line_of (unread fault) = error_line (wire_fault_text fault)
