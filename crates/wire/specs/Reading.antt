-- What is read of a text: its lines and its requests, one by one.
use Rattle.std.specs.Prelude.{◌≡◌, ◌≢◌, ℕ, List, ◌∷◌, [], Option, Some, None, Result, Ok, Err, ⊤}
use Rattle.std.specs.Prelude.{◌<◌, ◌≤◌, Bool, true, false, length, slice_index}
use Rattle.wire.specs.Calls.{Call, call_of}
use Rattle.wire.specs.declared.request.Request.{Request}
use Rattle.wire.specs.declared.request.WireFault.{WireFault}
use Rattle.wire.specs.declared.request.WireFault.TheVariants.{NotJson, BadRequest, LineTooLong}
use Rattle.wire.specs.declared.request.WireFault.TheVariants.{OutOfMemory}
use Rattle.wire.specs.Requests.{requests_of}
use Rattle.std.specs.List.{AllByRecursion}
use Rattle.wire.specs.Lines.{lines_of, longest_line}

-- what was read is what was asked, unless memory ran out, which no line meets that is too long
abbrev pub Reads : Result Call WireFault → Result Request WireFault → Type 0
Reads defined (Ok request) = defined ≡ Ok (call_of request)
Reads defined (Err NotJson) = defined ≡ Err NotJson
Reads defined (Err BadRequest) = defined ≡ Err BadRequest
Reads defined (Err LineTooLong) = defined ≡ Err LineTooLong
Reads defined (Err OutOfMemory) = defined ≢ Err LineTooLong

-- a line that asks for this was read so; nothing is read of one that is blank
abbrev pub ReadsLine : Option (Result Call WireFault) → Option (Result Request WireFault) → Type 0
ReadsLine asks None = asks ≡ None
ReadsLine asks (Some read) = (defined : Result Call WireFault) × (asks ≡ Some defined)
    × Reads defined read

-- The known text has the same requests as the rest.
abbrev pub SameRequests : Option (List ℕ) → Option (List ℕ) → Type 0
SameRequests None rest = ⊤
SameRequests (Some text) None = ⊥
SameRequests (Some text) (Some rest) = requests_of text ≡ requests_of rest

-- The known text begins with a request, which was read as this, and goes on with the rest.
abbrev pub BeginsWithRequest : Option (List ℕ) → Option (List ℕ) → Result Request WireFault → Type 0
BeginsWithRequest None rest read = ⊤
BeginsWithRequest (Some text) None read = ⊥
BeginsWithRequest (Some text) (Some rest) read =
    (defined : Result Call WireFault) × (requests_of text ≡ defined ∷ requests_of rest)
    × Reads defined read

abbrev pub HasNoRequest : Option (List ℕ) → Type 0
HasNoRequest None = ⊤
HasNoRequest (Some text) = requests_of text ≡ []

abbrev pub NoFeed : List ℕ → Type 0
NoFeed bytes = AllByRecursion (λ b. b ≢ 10) bytes

-- none of the first n bytes is a line feed
abbrev pub EachOther : List ℕ → ℕ → Type 0
EachOther bytes n = (k : ℕ) → k < n → slice_index bytes k ≢ 10

-- what is kept of a line: all of it, unless it is too long
abbrev pub Keeps : Bool → List ℕ → List ℕ → Type 0
Keeps true kept line = (kept ≡ line) × (length line ≤ longest_line)
Keeps false kept line = longest_line < length line

-- The known text begins with a line, of which this is kept, and goes on with the rest.
abbrev pub BeginsWithLine : Option (List ℕ) → Option (List ℕ) → Bool → List ℕ → Type 0
BeginsWithLine None rest fits kept = ⊤
BeginsWithLine (Some text) None fits kept = ⊥
BeginsWithLine (Some text) (Some rest) fits kept =
    (line : List ℕ) × (lines_of text ≡ line ∷ lines_of rest) × Keeps fits kept line
