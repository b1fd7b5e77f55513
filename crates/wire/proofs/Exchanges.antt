-- One request after the other.
use Rattle.std.proofs.Common.{◌≡◌, ◌∙◌, ℕ, Bool, true, false, ◌||◌, List, [], ◌∷◌, ◌++◌, Option, Some, None, Result, Ok, Err, refl, ap, sym, subst, append_assoc}
use Rattle.std.specs.Io.KnownBytes.{Appends, prepend_known}
use Rattle.wire.specs.Calls.{Call, call_of}
use Rattle.wire.specs.Devices.{AppendsFront}
use Rattle.wire.specs.Exchanges.{Runs, Stands}
use Rattle.wire.specs.Answering.{Leads}
use Rattle.wire.specs.Printed.{Answer, line_of}
use Rattle.wire.specs.Requests.{requests_of}
use Rattle.wire.specs.Reading.{Reads, BeginsWithRequest, HasNoRequest}
use Rattle.wire.specs.Script.{Scripts}
use Rattle.wire.specs.declared.request.Request.{Request}
use Rattle.wire.specs.declared.request.WireFault.{WireFault}
use Rattle.wire.specs.declared.request.WireFault.TheVariants.{NotJson, BadRequest, LineTooLong, OutOfMemory}
use Rattle.wire.proofs.Sinks.{append_nothing}

-- ---- bytes that are told

some_same : (x y : List ℕ) → Some x ≡ Some y → x ≡ y
some_same x y e = cc

pub begins_with : (before after : Option (List ℕ)) (read : Result Request WireFault) (rest : List ℕ) → BeginsWithRequest before after read → before ≡ Some rest
    → (left : List ℕ) × (defined : Result Call WireFault) × (after ≡ Some left) × (requests_of rest ≡ defined ∷ requests_of left) × Reads defined read
begins_with None after read rest b e = absurd (cc)
begins_with (Some text) None read rest b e = absurd b
begins_with (Some text) (Some left) read rest b e = (left, b.0, refl, ap requests_of (some_same rest text (sym e)) ∙ b.1, b.2)

pub no_request : (before : Option (List ℕ)) (rest : List ℕ) → HasNoRequest before → before ≡ Some rest → requests_of rest ≡ []
no_request None rest h e = absurd (cc)
no_request (Some text) rest h e = ap requests_of (some_same rest text (sym e)) ∙ h

pub appends_to : (old new : Option (List ℕ)) (bytes held : List ℕ) → Appends old new bytes → old ≡ Some held → new ≡ Some (held ++ bytes)
appends_to None new bytes held a e = absurd (cc)
appends_to (Some xs) None bytes held a e = absurd a
appends_to (Some xs) (Some ys) bytes held a e = ap Some (a ∙ ap (λ l. l ++ bytes) (some_same xs held e))

-- what follows a text that begins with a line
pub behind : (written line rest more : List ℕ) → written ≡ line ++ rest → written ++ more ≡ line ++ (rest ++ more)
behind written line rest more e = ap (λ l. l ++ more) e ∙ append_assoc line rest more

pub append_none : (xs : List (Result Call WireFault)) → xs ++ [] ≡ xs
append_none [] = refl
append_none (x ∷ xs) = ap (λ l. x ∷ l) (append_none xs)

-- each thing that is read is what was asked
pub asked_of : (read : Result Request WireFault) → (defined : Result Call WireFault) × Reads defined read
asked_of (Ok request) = (Ok (call_of request), refl)
asked_of (Err NotJson) = (Err NotJson, refl)
asked_of (Err BadRequest) = (Err BadRequest, refl)
asked_of (Err LineTooLong) = (Err LineTooLong, refl)
asked_of (Err OutOfMemory) = (Err NotJson, λ e. cc)

-- ---- what is noted

-- what the first of them notes is one of what all note
one_more : (here later more all later' : Bool) → all ≡ (here || later) → later' ≡ (later || more) → (all || more) ≡ (here || later')
one_more true later more all later' e f = ap (λ b. b || more) e
one_more false later more all later' e f = ap (λ b. b || more) e ∙ sym f

or_none : (b : Bool) → b ≡ (b || false)
or_none true = refl
or_none false = refl

module _ {T : Type 0} (R : T → Result Call WireFault → Answer → T → Type 0) (notes : Result Call WireFault → Answer → Bool) where
  -- one request more was answered
  pub runs_more : (first : T) (carried : List (Result Call WireFault)) (written : List ℕ) (noted : Bool) (now new : T) (defined : Result Call WireFault) (answer : Answer)
      → Runs R notes first carried written noted now → R now defined answer new
      → Runs R notes first (carried ++ defined ∷ []) (written ++ line_of answer) (noted || notes defined answer) new
  runs_more first [] written noted now new defined answer runs reply = (
    answer,
    new,
    [],
    false,
    ap (λ l. l ++ line_of answer) runs.0 ∙ sym (append_nothing (line_of answer)),
    ap (λ b. b || notes defined answer) runs.1 ∙ or_none (notes defined answer),
    subst (λ s. R s defined answer new) runs.2 reply,
    (refl, refl, refl),
  )
  runs_more first (request ∷ more) written noted now new defined answer runs reply = (
    runs.0,
    runs.1,
    runs.2 ++ line_of answer,
    runs.3 || notes defined answer,
    behind written (line_of runs.0) runs.2 (line_of answer) runs.4,
    one_more (notes request runs.0) runs.3 (notes defined answer) noted (runs.3 || notes defined answer) runs.5 refl,
    runs.6,
    runs_more runs.1 more runs.2 runs.3 now new defined answer runs.7 reply,
  )

  -- what was written answers the carried requests, behind which the rest of the text goes on
  abbrev pub SoFar : T → List ℕ → Bool → T → List ℕ → List ℕ → Type 0
  SoFar first text noted now rest written =
      (carried : List (Result Call WireFault)) × (requests_of text ≡ carried ++ requests_of rest) × Runs R notes first carried written noted now

  -- of the source's text this rest is to come, and the requests in front of it were answered so
  abbrev pub Progress : T → Option (List ℕ) → Bool → T → Option (List ℕ) → List ℕ → Type 0
  Progress first source noted now before written = (text : List ℕ) → source ≡ Some text → (rest : List ℕ) × (before ≡ Some rest) × SoFar first text noted now rest written

  pub progress_none : (first : T) (source : Option (List ℕ)) (pending : List ℕ) → pending ≡ [] → Progress first source false first (prepend_known pending source) []
  progress_none first source pending e text is = (text, ap (prepend_known pending) is ∙ ap (λ p. Some (p ++ text)) e, ([], refl, (refl, refl, refl)))

  pub progress_more : (first : T) (source : Option (List ℕ)) (noted here all : Bool) (now new : T) (before after : Option (List ℕ)) (written : List ℕ) (read : Result Request WireFault) (answer : Answer)
      → Progress first source noted now before written → BeginsWithRequest before after read
      → ((defined : Result Call WireFault) → Reads defined read → R now defined answer new)
      → ((defined : Result Call WireFault) → Reads defined read → here ≡ notes defined answer) → all ≡ (noted || here)
      → Progress first source all new after (written ++ line_of answer)
  progress_more first source noted here all now new before after written read answer p b reply tells is_all text is =
      let q = p text is in
      let r = begins_with before after read q.0 b q.1 in
      let so = q.2 in (
        r.0,
        r.2,
        (
          so.0 ++ r.1 ∷ [],
          so.1 ∙ ap (λ l. so.0 ++ l) r.3 ∙ sym (append_assoc so.0 (r.1 ∷ []) (requests_of r.0)),
          subst (λ n. Runs R notes first (so.0 ++ r.1 ∷ []) (written ++ line_of answer) n new) (sym (is_all ∙ ap (λ h. noted || h) (tells r.1 r.4)))
              (runs_more first so.0 written noted now new r.1 answer so.2 (reply r.1 r.4)),
        ),
      )

  -- a front of the answers was written
  pub stands_front : (first : T) (source old : Option (List ℕ)) (noted : Bool) (now : T) (before new : Option (List ℕ)) (written : List ℕ)
      → Progress first source noted now before written → AppendsFront old new written → Scripts (λ text written. Stands R notes first (requests_of text) written now) source old new
  stands_front first source old noted now before new written p a text held is told =
      let q = p text is in
      let so = q.2 in (
        a.0,
        appends_to old new a.0 held a.3 told,
        (so.0, requests_of q.0, a.1, noted, so.1, subst (λ t. Runs R notes first so.0 t noted now) a.2 so.2),
      )

  -- every request was answered, and all answers were written
  pub runs_all : (first : T) (source old : Option (List ℕ)) (noted : Bool) (now : T) (before new : Option (List ℕ)) (written : List ℕ)
      → Progress first source noted now before written → HasNoRequest before → Appends old new written
      → Scripts (λ text written. Runs R notes first (requests_of text) written noted now) source old new
  runs_all first source old noted now before new written p none a text held is told =
      let q = p text is in
      let so = q.2 in
      let all : so.0 ≡ requests_of text = sym (so.1 ∙ ap (λ l. so.0 ++ l) (no_request before q.0 none q.1) ∙ append_none so.0) in
      (written, appends_to old new written held a told, subst (λ rs. Runs R notes first rs written noted now) all so.2)

  -- ---- whatever is told

  pub leads_none : (first : T) → Leads R notes first first
  leads_none first = ([], [], false, (refl, refl, refl))

  pub leads_more : (first now new : T) (read : Result Request WireFault) (answer : Answer) → Leads R notes first now
      → ((defined : Result Call WireFault) → Reads defined read → R now defined answer new) → Leads R notes first new
  leads_more first now new read answer l reply =
      let asked = asked_of read in (
        l.0 ++ asked.0 ∷ [],
        l.1 ++ line_of answer,
        l.2 || notes asked.0 answer,
        runs_more first l.0 l.1 l.2 now new asked.0 answer l.3 (reply asked.0 asked.1),
      )
