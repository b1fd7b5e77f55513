-- What the values of the program say.
use Rattle.std.specs.Prelude.{◌≡◌, ℕ, ◌+◌, ◌<◌, ◌≤◌, true, false, map, reverse, length, slice_range}
use Rattle.std.specs.Prelude.{List, Option, Some, None, Result, Ok, Err}
use Rattle.cql_reader.specs.declared.tokens.TokenKind.TheVariants as k
use Rattle.cql_reader.specs.declared.tokens.Token.{Token as CodedToken}
use Rattle.cql_reader.specs.declared.symbols.Role.{Role}
use Rattle.cql_reader.specs.declared.stack.Terms.{Terms as CodedTerms}
use Rattle.cql_reader.specs.declared.build.Draft.{Draft as CodedDraft}
use Rattle.cql_reader.specs.declared.ReadFault.{ReadFault}
use Rattle.cql_reader.specs.declared.ReadFault.TheVariants as faults
use Rattle.cql_reader.specs.Lexis.{number_of}
use Rattle.cql_reader.specs.Tokens.{Token}
use Rattle.cql_reader.specs.Scanning.{Scan, End, Bad, Then, scan_from}
use Rattle.values.specs.StreamOperators.{operator_of}
use Rattle.cql_reader.specs.Query.{WrittenCondition}
use Rattle.cql_reader.specs.Views.{reference_of, references_of, entry_of, source_of, sources_of}
use Rattle.cql_reader.specs.Views.{operand_of, condition_of}
use Rattle.cql_reader.specs.declared.query.WrittenCondition.{WrittenCondition as CodedCondition}
use Rattle.cql_reader.specs.Grammar.{Draft, Terms, kind_of, in_range, may_open}
use Rattle.cql_reader.specs.Fault.{Fault, TextTooLong, NotAscii, BadToken, Unexpected, NumberRange}
use Rattle.cql_reader.specs.Fault.{TooDeep}

abbrev pub token_of : List ℕ → CodedToken → Token
token_of text t = record { kind = t.kind; bytes = slice_range text t.«from» t.to; place = t.«from» }

-- the conditions of a stack, the last first
abbrev pub standing_of : List CodedCondition → List WrittenCondition
standing_of conditions = reverse (map condition_of conditions)

abbrev pub terms_of : CodedTerms → Terms
terms_of t = record {
  left = operand_of t.left;
  right = operand_of t.right;
  how = t.how;
  standing = standing_of t.standing.items;
}

abbrev pub draft_of : CodedDraft → Draft
draft_of d = record {
  operator = operator_of d.operator;
  is_distinct = d.is_distinct;
  entries = map entry_of d.entries.items;
  reference = reference_of d.reference;
  columns = references_of d.columns.items;
  source = source_of d.source;
  sources = sources_of d.sources.items;
  terms = terms_of d.terms;
  group = references_of d.group.items;
  depth = d.depth;
}

-- the fault is that of the answer, or want of memory
abbrev pub Tells : {A : Type 0} → Result A Fault → ReadFault → Type 0
Tells answer faults.OutOfMemory = Unit {0}
Tells answer faults.TextTooLong = answer ≡ Err TextTooLong
Tells answer faults.NotAscii = answer ≡ Err NotAscii
Tells answer (faults.BadToken place) = answer ≡ Err (BadToken place)
Tells answer (faults.Unexpected place) = answer ≡ Err (Unexpected place)
Tells answer (faults.NumberRange place) = answer ≡ Err (NumberRange place)
Tells answer (faults.TooDeep place) = answer ≡ Err (TooDeep place)

abbrev pub told : Fault → ReadFault
told TextTooLong = faults.TextTooLong
told NotAscii = faults.NotAscii
told (BadToken place) = faults.BadToken place
told (Unexpected place) = faults.Unexpected place
told (NumberRange place) = faults.NumberRange place
told (TooDeep place) = faults.TooDeep place

-- the draft, or the fault, is that of the answer, but for want of memory
abbrev pub ReadsDraft : Result Draft Fault → Result CodedDraft ReadFault → Type 0
ReadsDraft answer (Ok draft) = answer ≡ Ok (draft_of draft)
ReadsDraft answer (Err fault) = Tells answer fault

-- the token stands in the text, and a name is no longer than names are
pub record Inside (text : List ℕ) (t : CodedToken) : Type 0 where
  pub forward : t.«from» < t.to
  pub within : t.to ≤ length text
  pub short : t.kind ≡ k.Name → t.to ≤ t.«from» + 32

abbrev pub IsInside : List ℕ → Option CodedToken → Type 0
IsInside text None = Unit {0}
IsInside text (Some t) = Inside text t

-- the tokens that are left, where this one is next
abbrev pub rest_of : List ℕ → Option CodedToken → Scan
rest_of text None = End (length text)
rest_of text (Some t) = Then (token_of text t) (scan_from text t.to)

-- this is next of the tokens that are left
abbrev pub IsNext : List ℕ → Scan → Result (Option CodedToken) ReadFault → Type 0
IsNext text rest (Ok next) = (rest ≡ rest_of text next) × IsInside text next
IsNext text rest (Err (faults.BadToken place)) = rest ≡ Bad place
IsNext text rest (Err faults.OutOfMemory) = ⊥
IsNext text rest (Err faults.TextTooLong) = ⊥
IsNext text rest (Err faults.NotAscii) = ⊥
IsNext text rest (Err (faults.Unexpected place)) = ⊥
IsNext text rest (Err (faults.NumberRange place)) = ⊥
IsNext text rest (Err (faults.TooDeep place)) = ⊥

-- what is told where the next token is asked to be of a role, and so many ( and Not are open
abbrev pub IsRead : List ℕ → Option CodedToken → Role → ℕ → Result CodedToken ReadFault → Type 0
IsRead text next role depth (Ok t) =
    (next ≡ Some t) × (t.kind ≡ kind_of role)
    × (in_range role (number_of (token_of text t).bytes) ≡ true) × (may_open role depth ≡ true)
IsRead text None role depth (Err (faults.Unexpected place)) = place ≡ length text
IsRead text (Some t) role depth (Err (faults.Unexpected place)) =
    (place ≡ t.«from») × (t.kind ≡ kind_of role → ⊥)
IsRead text (Some t) role depth (Err (faults.NumberRange place)) =
    (place ≡ t.«from») × (t.kind ≡ kind_of role)
    × (in_range role (number_of (token_of text t).bytes) ≡ false)
IsRead text (Some t) role depth (Err (faults.TooDeep place)) =
    (place ≡ t.«from») × (t.kind ≡ kind_of role)
    × (in_range role (number_of (token_of text t).bytes) ≡ true) × (may_open role depth ≡ false)
IsRead text next role depth (Err fault) = ⊥
