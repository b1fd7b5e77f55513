-- What a line's JSON value is.
use Rattle.std.proofs.Common.{◌≡◌, ◌≢◌, ◌≤◌, ◌<◌, arith, IfOk, IfSome, ℕ, Bool, true, false, cond, not, ◌&&◌, nat_lt, List, ◌∷◌, length, Option, Some, None, Result, Err, option_map, filter_map, refl, ap, sym, subst, ◌∙◌}
use Rattle.std.specs.List.{list_all}
use Rattle.std.proofs.lemmas.Bool.{le-ltb}
use Rattle.std.proofs.lemmas.Result.{IfOk-weaker}
use Rattle.std.specs.Option.{ok_or}
use Rattle.std.specs.Str.{IsUtf8, is_utf8}
use Rattle.std.proofs.lemmas.Str.{IsUtf8-from_is_utf8, is_utf8-from_IsUtf8}
use Rattle.serde_json.specs.Data.{Data}
use Rattle.serde_json.specs.Read.{read}
use Rattle.wire.specs.Lines.{lines_of, longest_line}
use Rattle.wire.specs.Requests.{is_blank_byte, json_of, call_in, asked_in, request_in}
use Rattle.wire.specs.Reading.{ReadsLine, SameRequests, BeginsWithRequest, HasNoRequest, Keeps, BeginsWithLine}
use Rattle.wire.specs.Asked.{asked}
use Rattle.wire.specs.Calls.{Call, call_of}
use Rattle.wire.specs.declared.request.Request.{Request}
use Rattle.wire.specs.declared.request.WireFault.{WireFault}
use Rattle.wire.specs.declared.request.WireFault.TheVariants.{BadRequest, LineTooLong}

pub json_is : (line : List ℕ) (d : Data) → IsUtf8 line × (read line ≡ Some d) → json_of line ≡ Some d
json_is line d h = ap (λ t. cond t (read line) None) (is_utf8-from_IsUtf8 line h.0) ∙ h.1

json_none_by : (line : List ℕ) (t : Bool) → is_utf8 line ≡ t → (IsUtf8 line → read line ≡ None) → cond t (read line) None ≡ None
json_none_by line true e h = h (IsUtf8-from_is_utf8 line e)
json_none_by line false e h = refl

pub json_none : (line : List ℕ) → (IsUtf8 line → read line ≡ None) → json_of line ≡ None
json_none line h = json_none_by line (is_utf8 line) refl h

-- a value, and the request that was made of it
pub call_is : (line : List ℕ) (d : Data) (o : Option Request) → IsUtf8 line × (read line ≡ Some d) → option_map call_of o ≡ asked d
    → call_in (json_of line) ≡ ok_or (option_map call_of o) BadRequest
call_is line d o h e = ap call_in (json_is line d h) ∙ ap (λ c. ok_or c BadRequest) (sym e)

-- a call that was refused for another reason than its line's length
refused_fits : (o : Option Call) → ok_or o BadRequest ≢ Err LineTooLong
refused_fits None e = cc
refused_fits (Some call) e = cc

-- a value is not too long
pub value_fits : (o : Option Data) → call_in o ≢ Err LineTooLong
value_fits None e = cc
value_fits (Some d) e = refused_fits (asked d) e

-- a line that is kept and is not blank
pub request_kept : (line whole : List ℕ) (fits : Bool) → fits ≡ true → Keeps fits line whole → list_all is_blank_byte line ≡ false → request_in whole ≡ Some (asked_in line)
request_kept line whole false e k some = cc
request_kept line whole true e k some =
    let short : nat_lt longest_line (length line) ≡ false = le-ltb longest_line (length line) (subst (λ l. length l ≤ longest_line) (sym k.0) k.1) in
    ap request_in (sym k.0)
    ∙ ap (λ t. cond (not t && list_all is_blank_byte line) None (Some (asked_in line))) short
    ∙ ap (λ t. cond t None (Some (asked_in line))) some

-- ---- lines of a text

-- the requests of some lines, the first of which asks for this
abbrev asks_first : Option (Result Call WireFault) → List (List ℕ) → List (Result Call WireFault)
asks_first None lines = filter_map request_in lines
asks_first (Some defined) lines = defined ∷ filter_map request_in lines

asks_line : (line : List ℕ) (lines : List (List ℕ)) (asks : Option (Result Call WireFault)) → request_in line ≡ asks → filter_map request_in (line ∷ lines) ≡ asks_first asks lines
asks_line line lines None e = rw e refl
asks_line line lines (Some defined) e = rw e refl

-- a blank line
pub blank_line : (all rest : Option (List ℕ)) (fits : Bool) (kept : List ℕ) → BeginsWithLine all rest fits kept → ((whole : List ℕ) → Keeps fits kept whole → ReadsLine (request_in whole) None)
    → SameRequests all rest
blank_line None rest fits kept b r = tt
blank_line (Some text) None fits kept b r = absurd b
blank_line (Some text) (Some left) fits kept b r = ap (filter_map request_in) b.1 ∙ asks_line b.0 (lines_of left) None (r b.0 b.2)

-- a line that is none
pub request_line : (all rest : Option (List ℕ)) (fits : Bool) (kept : List ℕ) (read : Result Request WireFault) → BeginsWithLine all rest fits kept
    → ((whole : List ℕ) → Keeps fits kept whole → ReadsLine (request_in whole) (Some read)) → BeginsWithRequest all rest read
request_line None rest fits kept read b r = tt
request_line (Some text) None fits kept read b r = absurd b
request_line (Some text) (Some left) fits kept read b r =
    let d = r b.0 b.2 in (d.0, ap (filter_map request_in) b.1 ∙ asks_line b.0 (lines_of left) (Some d.0) d.1, d.2)

-- behind blank lines
pub same_same : (a b c : Option (List ℕ)) → SameRequests a b → SameRequests b c → SameRequests a c
same_same None b c p q = tt
same_same (Some xs) None c p q = absurd p
same_same (Some xs) (Some ys) None p q = absurd q
same_same (Some xs) (Some ys) (Some zs) p q = p ∙ q

pub same_begins : (a b c : Option (List ℕ)) (read : Result Request WireFault) → SameRequests a b → BeginsWithRequest b c read → BeginsWithRequest a c read
same_begins None b c read p q = tt
same_begins (Some xs) None c read p q = absurd p
same_begins (Some xs) (Some ys) None read p q = absurd q
same_begins (Some xs) (Some ys) (Some zs) read p q = (q.0, p ∙ q.1, q.2)

pub same_none : (a b : Option (List ℕ)) → SameRequests a b → HasNoRequest b → HasNoRequest a
same_none None b p q = tt
same_none (Some xs) None p q = absurd p
same_none (Some xs) (Some ys) p q = p ∙ q

pub same_refl : (a : Option (List ℕ)) → SameRequests a a
same_refl None = tt
same_refl (Some xs) = refl

-- ---- what is still to come

fewer_of : {T : Type 0} (o : Option T) (now before first : ℕ) → before ≤ first → IfSome o (λ _. now < before) → IfSome o (λ _. now < first)
fewer_of None now before first le some = tt
fewer_of (Some x) now before first le some = omega (arith, le, some)

pub fewer_behind : {T E : Type 0} (result : Result (Option T) E) (now before first : ℕ) → before ≤ first → IfOk result (λ o. IfSome o (λ _. now < before)) → IfOk result (λ o. IfSome o (λ _. now < first))
fewer_behind {T} result now before first le fewer =
    IfOk-weaker result (λ o. IfSome o (λ _. now < before)) (λ o. IfSome o (λ _. now < first)) (λ (o : Option T). fewer_of o now before first le) fewer
