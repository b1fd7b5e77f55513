-- What the machine tells at each step.
use Rattle.std.proofs.Common.{◌≡◌, ℕ, ◌+◌, ◌<◌, ◌≤◌, true, false, List, ◌∷◌, Option, Some, None, Result, Ok, Err, sym, ap, ◌∙◌, subst, arith, length, nat_lt, cond}
use Rattle.std.proofs.lemmas.Bool.{cond-true, cond-false, lt-ltb, le-ltb}
use Rattle.cql_reader.specs.declared.symbols.Role.{Role}
use Rattle.cql_reader.specs.declared.symbols.Symbol.{Symbol}
use Rattle.cql_reader.specs.declared.symbols.Symbol.TheVariants.{Read}
use Rattle.cql_reader.specs.declared.tokens.Token.{Token as CodedToken}
use Rattle.cql_reader.specs.declared.ReadFault.{ReadFault}
use Rattle.cql_reader.specs.declared.ReadFault.TheVariants as faults
use Rattle.cql_reader.specs.Scanning.{Scan, all_ascii, scan_from}
use Rattle.cql_reader.specs.Fault.{Fault, TextTooLong, NotAscii, BadToken, Unexpected, NumberRange, TooDeep}
use Rattle.cql_reader.specs.Grammar.{Draft, took}
use Rattle.cql_reader.specs.Prediction.{count, parsed}
use Rattle.cql_reader.specs.Coded.{token_of, Tells, told, IsNext, IsRead, rest_of}
use Rattle.cql_reader.specs.Judging.{judged, reading}
use Rattle.cql_reader.proofs.Theory.{effort, effort_read}
use Rattle.cql_reader.proofs.Runs.{Runs, left, runs_read, stops_end, stops_odd, stops_outside, stops_deep, stops_bad}

pub told_tells : (answer : Result Draft Fault) (fault : Fault) → answer ≡ Err fault → Tells answer (told fault)
told_tells answer TextTooLong e = e
told_tells answer NotAscii e = e
told_tells answer (BadToken place) e = e
told_tells answer (Unexpected place) e = e
told_tells answer (NumberRange place) e = e
told_tells answer (TooDeep place) e = e

pub told_judged : (answer : Result Draft Fault) (fault : ReadFault) → Tells answer fault → Tells (judged answer) fault
told_judged answer faults.OutOfMemory e = tt
told_judged answer faults.TextTooLong e = ap judged e
told_judged answer faults.NotAscii e = ap judged e
told_judged answer (faults.BadToken place) e = ap judged e
told_judged answer (faults.Unexpected place) e = ap judged e
told_judged answer (faults.NumberRange place) e = ap judged e
told_judged answer (faults.TooDeep place) e = ap judged e

pub runs_same : (stack stack' : List Symbol) (d d' : Draft) (rest rest' : Scan) (result : Result Draft Fault) → stack ≡ stack' → d ≡ d' → rest ≡ rest' → Runs stack d rest result → Runs stack' d' rest' result
runs_same stack stack' d d' rest rest' result e f g r =
    subst (λ (v : List Symbol). Runs v d' rest' result) e
    (subst (λ (v : Draft). Runs stack v rest' result) f
    (subst (λ (v : Scan). Runs stack d v result) g r))

pub bad_told : (text : List ℕ) (stack : List Symbol) (d : Draft) (rest : Scan) (result : Result Draft Fault) (fault : ReadFault) → IsNext text rest (Err fault) → Runs stack d rest result → Tells result fault
bad_told text stack d rest result faults.OutOfMemory n r = absurd n
bad_told text stack d rest result faults.TextTooLong n r = absurd n
bad_told text stack d rest result faults.NotAscii n r = absurd n
bad_told text stack d rest result (faults.BadToken place) n r = stops_bad stack d place result (subst (λ (v : Scan). Runs stack d v result) n r)
bad_told text stack d rest result (faults.Unexpected place) n r = absurd n
bad_told text stack d rest result (faults.NumberRange place) n r = absurd n
bad_told text stack d rest result (faults.TooDeep place) n r = absurd n

pub read_told : (text : List ℕ) (next : Option CodedToken) (role : Role) (xs : List Symbol) (d : Draft) (result : Result Draft Fault) (fault : ReadFault) → IsRead text next role d.depth (Err fault) → Runs (Read role ∷ xs) d (rest_of text next) result → Tells result fault
read_told text None role xs d result faults.OutOfMemory n r = absurd n
read_told text None role xs d result faults.TextTooLong n r = absurd n
read_told text None role xs d result faults.NotAscii n r = absurd n
read_told text None role xs d result (faults.BadToken place) n r = absurd n
read_told text None role xs d result (faults.Unexpected place) n r =
    stops_end role xs d (length text) result r ∙ ap (λ (v : ℕ). Err (Unexpected v)) (sym n)
read_told text None role xs d result (faults.NumberRange place) n r = absurd n
read_told text None role xs d result (faults.TooDeep place) n r = absurd n
read_told text (Some t) role xs d result faults.OutOfMemory n r = absurd n
read_told text (Some t) role xs d result faults.TextTooLong n r = absurd n
read_told text (Some t) role xs d result faults.NotAscii n r = absurd n
read_told text (Some t) role xs d result (faults.BadToken place) n r = absurd n
read_told text (Some t) role xs d result (faults.Unexpected place) n r =
    stops_odd role xs d (token_of text t) (scan_from text t.to) result n.1 r ∙ ap (λ (v : ℕ). Err (Unexpected v)) (sym n.0)
read_told text (Some t) role xs d result (faults.NumberRange place) n r =
    stops_outside role xs d (token_of text t) (scan_from text t.to) result n.1 n.2 r ∙ ap (λ (v : ℕ). Err (NumberRange v)) (sym n.0)
read_told text (Some t) role xs d result (faults.TooDeep place) n r =
    stops_deep role xs d (token_of text t) (scan_from text t.to) result n.1 n.2 n.3 r ∙ ap (λ (v : ℕ). Err (TooDeep v)) (sym n.0)

pub read_runs : (text : List ℕ) (next : Option CodedToken) (role : Role) (xs : List Symbol) (d : Draft) (result : Result Draft Fault) (t : CodedToken) → IsRead text next role d.depth (Ok t) → Runs (Read role ∷ xs) d (rest_of text next) result → Runs xs (took role (token_of text t).bytes d) (scan_from text t.to) result
read_runs text next role xs d result t n r =
    runs_read role xs d (token_of text t) (scan_from text t.to) result n.1 n.2 n.3
    (subst (λ (v : Option CodedToken). Runs (Read role ∷ xs) d (rest_of text v) result) n.0 r)

pub read_falls : (text : List ℕ) (next after : Option CodedToken) (role : Role) (depth : ℕ) (stack xs : List Symbol) (t : CodedToken) → IsRead text next role depth (Ok t) → scan_from text t.to ≡ rest_of text after → stack ≡ Read role ∷ xs → left xs (rest_of text after) < left stack (rest_of text next)
unfolding count
read_falls text next after role depth stack xs t n e f =
    let a = ap count e in
    let b : count (rest_of text next) ≡ 1 + count (scan_from text t.to) = ap (λ (v : Option CodedToken). count (rest_of text v)) n.0 in
    let g = ap effort f in
    omega (arith, a, b, g, effort_read role xs)

pub reading_long : (text : List ℕ) → 4096 < length text → reading text ≡ Err TextTooLong
unfolding reading
reading_long text h = cond-true (nat_lt 4096 (length text)) (Err TextTooLong) (cond (all_ascii text) (judged (parsed (scan_from text 0))) (Err NotAscii)) (lt-ltb 4096 (length text) h)

pub reading_not_ascii : (text : List ℕ) → length text ≤ 4096 → all_ascii text ≡ false → reading text ≡ Err NotAscii
unfolding reading
reading_not_ascii text h e =
    cond-false (nat_lt 4096 (length text)) (Err TextTooLong) (cond (all_ascii text) (judged (parsed (scan_from text 0))) (Err NotAscii)) (le-ltb 4096 (length text) h)
    ∙ cond-false (all_ascii text) (judged (parsed (scan_from text 0))) (Err NotAscii) e

pub reading_fine : (text : List ℕ) → length text ≤ 4096 → all_ascii text ≡ true → reading text ≡ judged (parsed (scan_from text 0))
unfolding reading
reading_fine text h e =
    cond-false (nat_lt 4096 (length text)) (Err TextTooLong) (cond (all_ascii text) (judged (parsed (scan_from text 0))) (Err NotAscii)) (le-ltb 4096 (length text) h)
    ∙ cond-true (all_ascii text) (judged (parsed (scan_from text 0))) (Err NotAscii) e
