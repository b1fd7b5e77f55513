-- A script along its requests.
use Rattle.std.proofs.Common.{◌≡◌, ℕ, Bool, true, false, List, [], ◌∷◌, ◌++◌, Option, Some, None, Result, Ok, Err, refl, ap, sym, ◌∙◌, subst, append_assoc, ◌⊎◌, inl, inr}
use Rattle.std.specs.Io.KnownBytes.{Appends, prepend_known}
use Rattle.wire.specs.Devices.{AppendsFront}
use Rattle.wire.specs.Calls.{Call, call_of}
use Rattle.wire.specs.Printed.{Answer, done, rows, seen, refused, unread, line_of}
use Rattle.wire.specs.Requests.{requests_of}
use Rattle.wire.specs.Reading.{Reads, BeginsWithRequest, HasNoRequest}
use Rattle.reference.specs.Alike.{Alike}
use Rattle.reference.specs.World.{World}
use Rattle.reference.proofs.AlikeLemmas.{world_itself}
use Rattle.laws_forgetting.proofs.EquivalenceLemmas.{worlds_joined}
use Rattle.wire.specs.Script.{replies, script, Says, Begins, BeginsScarce, Scripts, AnswersCall}
use Rattle.wire.specs.Script.{LeadsAlike, Runs, Stands, TellsScarcity, RestsOn, answered, served}
use Rattle.wire.specs.Script.{is_scarce_answer, is_scarce_reply}
use Rattle.wire.specs.Answering.{Replies}
use Rattle.wire.specs.declared.request.Request.{Request}
use Rattle.wire.specs.declared.request.WireFault.{WireFault}
use Rattle.wire.specs.declared.request.WireFault.TheVariants.{NotJson, BadRequest, LineTooLong, OutOfMemory}
use Rattle.wire.proofs.AlikeLemmas.{replies_alike, served_alike}
use Rattle.wire.proofs.Leading.{goes_there, leads_alike}
use Rattle.wire.proofs.Sinks.{append_nothing}

-- ---- one request

-- a reply that says nothing scarce is such an answer
pub plenty_answered : (call : Call) (answer : Answer) → is_scarce_reply (Ok call) answer ≡ false → is_scarce_answer call answer ≡ false
plenty_answered call done plenty = plenty
plenty_answered call (rows taken) plenty = plenty
plenty_answered call (seen found) plenty = plenty
plenty_answered call (refused fault) plenty = plenty
plenty_answered call (unread NotJson) plenty = plenty
plenty_answered call (unread BadRequest) plenty = plenty
plenty_answered call (unread LineTooLong) plenty = plenty
plenty_answered call (unread OutOfMemory) plenty = cc

replies_call : (w : World) (call : Call) (answer : Answer) (new : World) → AnswersCall w call answer new → Replies w (Ok call) answer new
replies_call w call answer new met plenty = leads_alike call (answered w call) answer new (met.0 (plenty_answered call answer plenty))

pub serves_call : (w : World) (request : Request) (answer : Answer) (new : World) (defined : Result Call WireFault) → defined ≡ Ok (call_of request)
    → AnswersCall w (call_of request) answer new → Replies w defined answer new
serves_call w request answer new defined is met = subst (λ d. Replies w d answer new) (sym is) (replies_call w (call_of request) answer new met)

pub serves_fault : (w : World) (fault : WireFault) (defined : Result Call WireFault) → Reads defined (Err fault) → Replies w defined (unread fault) w
serves_fault w NotJson defined is plenty = goes_there (served w defined) (unread NotJson) w (ap (served w) is)
serves_fault w BadRequest defined is plenty = goes_there (served w defined) (unread BadRequest) w (ap (served w) is)
serves_fault w LineTooLong defined is plenty = goes_there (served w defined) (unread LineTooLong) w (ap (served w) is)
serves_fault w OutOfMemory (Ok call) is plenty = absurd (cc)
serves_fault w OutOfMemory (Err NotJson) is plenty = absurd (cc)
serves_fault w OutOfMemory (Err BadRequest) is plenty = absurd (cc)
serves_fault w OutOfMemory (Err LineTooLong) is plenty = absurd (is refl)
serves_fault w OutOfMemory (Err OutOfMemory) is plenty = absurd (cc)

pub rests_call : (N : Type 0) (request : Request) (answer : Answer) (defined : Result Call WireFault) → defined ≡ Ok (call_of request)
    → RestsOn N (Ok (call_of request)) answer → RestsOn N defined answer
rests_call N request answer defined is met = subst (λ d. RestsOn N d answer) (sym is) met

pub whole_call : (W : Type 0) (request : Request) (answer : Answer) (defined : Result Call WireFault) → defined ≡ Ok (call_of request)
    → (is_scarce_answer (call_of request) answer ≡ false → W) → is_scarce_reply defined answer ≡ false → W
whole_call W request answer defined is keeps plenty =
    keeps (plenty_answered (call_of request) answer (ap (λ d. is_scarce_reply d answer) (sym is) ∙ plenty))

-- ---- what was said so far

-- these requests were answered so one after the other, and no call tells the world `now` from the one that they led to from `first`
abbrev pub Answered : World → List (Result Call WireFault) → List ℕ → World → Type 0
Answered first [] written now = (written ≡ []) × Alike first now
Answered first (request ∷ more) written now =
    (rest : List ℕ) × (written ≡ line_of (served first request).0 ++ rest) × Answered (served first request).1 more rest now

-- these requests were answered so up to one of them, whose reply says that something was scarce
abbrev pub RunsShort : Type 0 → World → List (Result Call WireFault) → List ℕ → Type 0
RunsShort N first [] written = ⊥
RunsShort N first (request ∷ more) written =
    ((rest : List ℕ) × (written ≡ line_of (served first request).0 ++ rest) × RunsShort N (served first request).1 more rest)
    ⊎ BeginsScarce N request written

-- What was written answers the carried requests, behind which the rest of the text goes on. W says that the engine is whole,
-- and N that it has no numbers for turns left.
pub record SoFar (N W : Type 0) (first : World) (text : List ℕ) (w : World) (rest written : List ℕ) : Type 0 where
  pub carried : List (Result Call WireFault)
  pub split : requests_of text ≡ carried ++ requests_of rest
  pub goes : (W × Answered first carried written w) ⊎ RunsShort N first carried written

-- ---- one more request

-- what numbers were wanted for may be said more widely
pub begins_wider : (N M : Type 0) → (N → M) → (request : Result Call WireFault) (written : List ℕ) → BeginsScarce N request written → BeginsScarce M request written
begins_wider N M f request written b = (b.0, b.1, b.2, λ drain told. f (b.3 drain told), b.4)

short_wider : (N M : Type 0) → (N → M) → (first : World) (carried : List (Result Call WireFault)) (written : List ℕ) → RunsShort N first carried written → RunsShort M first carried written
short_wider N M f first [] written s = absurd s
short_wider N M f first (request ∷ more) written (inl s) = inl (s.0, s.1, short_wider N M f (served first request).1 more s.0 s.2)
short_wider N M f first (request ∷ more) written (inr b) = inr (begins_wider N M f request written b)

-- what follows a text that begins with a line
behind : (written line rest more : List ℕ) → written ≡ line ++ rest → written ++ more ≡ line ++ (rest ++ more)
behind written line rest more e = ap (λ l. l ++ more) e ∙ append_assoc line rest more

begins_more : (N : Type 0) (request : Result Call WireFault) (written more : List ℕ) → BeginsScarce N request written → BeginsScarce N request (written ++ more)
begins_more N request written more b = (b.0, b.1 ++ more, b.2, b.3, behind written (line_of b.0) b.1 more b.4)

-- the next request was answered as it is defined
answered_more : (first : World) (carried : List (Result Call WireFault)) (written : List ℕ) (w new : World) (defined : Result Call WireFault) (answer : Answer)
    → Answered first carried written w → LeadsAlike (served w defined) answer new → Answered first (carried ++ defined ∷ []) (written ++ line_of answer) new
answered_more first [] written w new defined answer a s =
    let same = served_alike first w a.1 defined in (
      [],
      ap (λ l. l ++ line_of answer) a.0 ∙ sym (append_nothing (line_of answer)) ∙ ap (λ r. line_of r ++ []) (sym (same.0 ∙ s.0)),
      (refl, worlds_joined (served first defined).1 (served w defined).1 new same.1 s.1),
    )
answered_more first (request ∷ more) written w new defined answer a s = (
  a.0 ++ line_of answer,
  behind written (line_of (served first request).0) a.0 (line_of answer) a.1,
  answered_more (served first request).1 more a.0 w new defined answer a.2 s,
)

-- the reply to the next request says that something was scarce
answered_short : (N : Type 0) (first : World) (carried : List (Result Call WireFault)) (written : List ℕ) (w : World) (defined : Result Call WireFault) (answer : Answer)
    → Answered first carried written w → is_scarce_reply defined answer ≡ true → RestsOn N defined answer
    → RunsShort N first (carried ++ defined ∷ []) (written ++ line_of answer)
answered_short N first [] written w defined answer a short rests =
    inr (answer, [], short, rests, ap (λ l. l ++ line_of answer) a.0 ∙ sym (append_nothing (line_of answer)))
answered_short N first (request ∷ more) written w defined answer a short rests = inl (
  a.0 ++ line_of answer,
  behind written (line_of (served first request).0) a.0 (line_of answer) a.1,
  answered_short N (served first request).1 more a.0 w defined answer a.2 short rests,
)

-- once something was scarce, the next request is answered in any way
short_more : (N : Type 0) (first : World) (carried : List (Result Call WireFault)) (written : List ℕ) (defined : Result Call WireFault) (line : List ℕ)
    → RunsShort N first carried written → RunsShort N first (carried ++ defined ∷ []) (written ++ line)
short_more N first [] written defined line s = absurd s
short_more N first (request ∷ more) written defined line (inl s) = inl (
  s.0 ++ line,
  behind written (line_of (served first request).0) s.0 line s.1,
  short_more N (served first request).1 more s.0 defined line s.2,
)
short_more N first (request ∷ more) written defined line (inr b) = inr (begins_more N request written line b)

goes_more : (N N' W W' : Type 0) (first : World) (carried : List (Result Call WireFault)) (written : List ℕ) (w new : World) (defined : Result Call WireFault) (answer : Answer) (b : Bool) → is_scarce_reply defined answer ≡ b
    → (N → N') → (W × Answered first carried written w) ⊎ RunsShort N first carried written
    → (W → Replies w defined answer new) → (W → RestsOn N' defined answer) → (W → is_scarce_reply defined answer ≡ false → W')
    → (W' × Answered first (carried ++ defined ∷ []) (written ++ line_of answer) new) ⊎ RunsShort N' first (carried ++ defined ∷ []) (written ++ line_of answer)
goes_more N N' W W' first carried written w new defined answer b is spent (inr short) s rests keeps =
    inr (short_more N' first carried written defined (line_of answer) (short_wider N N' spent first carried written short))
goes_more N N' W W' first carried written w new defined answer true is spent (inl a) s rests keeps =
    inr (answered_short N' first carried written w defined answer a.1 is (rests a.0))
goes_more N N' W W' first carried written w new defined answer false is spent (inl a) s rests keeps =
    inl (keeps a.0 is, answered_more first carried written w new defined answer a.1 (s a.0 is))

pub more_so_far : (N N' W W' : Type 0) (first : World) (text : List ℕ) (w new : World) (rest left written : List ℕ) (defined : Result Call WireFault) (answer : Answer)
    → (N → N') → SoFar N W first text w rest written → requests_of rest ≡ defined ∷ requests_of left
    → (W → Replies w defined answer new) → (W → RestsOn N' defined answer) → (W → is_scarce_reply defined answer ≡ false → W')
    → SoFar N' W' first text new left (written ++ line_of answer)
more_so_far N N' W W' first text w new rest left written defined answer spent so e s rests keeps = record {
  carried = so.carried ++ defined ∷ [];
  split = so.split ∙ ap (λ l. so.carried ++ l) e ∙ sym (append_assoc so.carried (defined ∷ []) (requests_of left));
  goes = goes_more N N' W W' first so.carried written w new defined answer (is_scarce_reply defined answer) refl spent so.goes s rests keeps;
}

-- ---- what that says of the text

pub says_all : (N : Type 0) (w : World) (requests : List (Result Call WireFault)) → (more : List ℕ) × Says N requests (replies w requests) more
says_all N w [] = ([], refl)
says_all N w (request ∷ requests) =
    let rest = says_all N (served w request).1 requests in (line_of (served w request).0 ++ rest.0, inl (rest.0, refl, rest.1))

answered_says : (N : Type 0) (first : World) (carried : List (Result Call WireFault)) (written : List ℕ) (w : World) (later : List (Result Call WireFault)) (more : List ℕ)
    → Answered first carried written w → Says N later (replies w later) more → Says N (carried ++ later) (replies first (carried ++ later)) (written ++ more)
answered_says N first [] written w later more a says =
    subst (λ t. Says N later (replies first later) t) (ap (λ l. l ++ more) (sym a.0)) (subst (λ ls. Says N later ls more) (sym (replies_alike first w a.1 later)) says)
answered_says N first (request ∷ carried) written w later more a says = inl (
  a.0 ++ more,
  behind written (line_of (served first request).0) a.0 more a.1,
  answered_says N (served first request).1 carried a.0 w later more a.2 says,
)

short_says : (N : Type 0) (first : World) (carried : List (Result Call WireFault)) (written : List ℕ) (later : List (Result Call WireFault)) (more : List ℕ)
    → RunsShort N first carried written → Says N (carried ++ later) (replies first (carried ++ later)) (written ++ more)
short_says N first [] written later more s = absurd s
short_says N first (request ∷ carried) written later more (inl s) = inl (
  s.0 ++ more,
  behind written (line_of (served first request).0) s.0 more s.1,
  short_says N (served first request).1 carried s.0 later more s.2,
)
short_says N first (request ∷ carried) written later more (inr b) = inr (begins_more N request written more b)

goes_says : (N W : Type 0) (first : World) (carried : List (Result Call WireFault)) (written : List ℕ) (w : World) (later : List (Result Call WireFault)) (more : List ℕ)
    → (W × Answered first carried written w) ⊎ RunsShort N first carried written → Says N later (replies w later) more
    → Says N (carried ++ later) (replies first (carried ++ later)) (written ++ more)
goes_says N W first carried written w later more (inl a) says = answered_says N first carried written w later more a.1 says
goes_says N W first carried written w later more (inr s) says = short_says N first carried written later more s

-- what follows as it is defined goes on so
says_so : (N W : Type 0) (first : World) (text : List ℕ) (w : World) (rest written : List ℕ) → SoFar N W first text w rest written → (more : List ℕ) → Says N (requests_of rest) (replies w (requests_of rest)) more
    → Says N (requests_of text) (script first text) (written ++ more)
says_so N W first text w rest written so more says =
    subst (λ rs. Says N rs (replies first rs) (written ++ more)) (sym so.split) (goes_says N W first so.carried written w (requests_of rest) more so.goes says)

-- some text can follow
pub begins_so_far : (N : Type 0) (W : Type 0) (first : World) (text : List ℕ) (w : World) (rest written : List ℕ) → SoFar N W first text w rest written
    → Begins N (requests_of text) (script first text) written
begins_so_far N W first text w rest written so =
    let more = says_all N w (requests_of rest) in (more.0, says_so N W first text w rest written so more.0 more.1)

-- all was said
pub says_so_far : (N : Type 0) (W : Type 0) (first : World) (text : List ℕ) (w : World) (rest written : List ℕ) → SoFar N W first text w rest written → requests_of rest ≡ []
    → Says N (requests_of text) (script first text) written
says_so_far N W first text w rest written so e =
    subst (λ t. Says N (requests_of text) (script first text) t) (append_nothing written)
    (says_so N W first text w rest written so [] (subst (λ rs. Says N rs (replies w rs) []) (sym e) refl))

-- ---- what that says of the calls that were carried out

answered_runs : (N : Type 0) (first : World) (carried : List (Result Call WireFault)) (written : List ℕ) (now : World) → Answered first carried written now → Runs N first carried written now
answered_runs N first [] written now a = a
answered_runs N first (request ∷ more) written now a = inl (a.0, a.1, answered_runs N (served first request).1 more a.0 now a.2)

short_runs : (N : Type 0) (first : World) (carried : List (Result Call WireFault)) (written : List ℕ) (now : World) → RunsShort N first carried written → Runs N first carried written now
short_runs N first [] written now s = absurd s
short_runs N first (request ∷ more) written now (inl s) = inl (s.0, s.1, short_runs N (served first request).1 more s.0 now s.2)
short_runs N first (request ∷ more) written now (inr b) = inr b

goes_runs : (N W : Type 0) (first : World) (carried : List (Result Call WireFault)) (written : List ℕ) (now : World)
    → (W × Answered first carried written now) ⊎ RunsShort N first carried written → Runs N first carried written now
goes_runs N W first carried written now (inl a) = answered_runs N first carried written now a.1
goes_runs N W first carried written now (inr s) = short_runs N first carried written now s

-- what was carried out led here
pub runs_so_far : (N : Type 0) (W : Type 0) (first : World) (text : List ℕ) (w : World) (rest written : List ℕ) (so : SoFar N W first text w rest written) → Runs N first so.carried written w
runs_so_far N W first text w rest written so = goes_runs N W first so.carried written w so.goes

append_none : (xs : List (Result Call WireFault)) → xs ++ [] ≡ xs
append_none [] = refl
append_none (x ∷ xs) = ap (λ l. x ∷ l) (append_none xs)

-- every request was carried out
carried_all : (N : Type 0) (W : Type 0) (first : World) (text : List ℕ) (w : World) (rest written : List ℕ) (so : SoFar N W first text w rest written) → requests_of rest ≡ [] → so.carried ≡ requests_of text
carried_all N W first text w rest written so none = sym (so.split ∙ ap (λ l. so.carried ++ l) none ∙ append_none so.carried)

-- ---- what that says of the engine

-- one of the lines written so far says that something was scarce
short_tells : (N : Type 0) (first : World) (carried : List (Result Call WireFault)) (written : List ℕ) → RunsShort N first carried written → TellsScarcity N carried written
short_tells N first [] written s = s
short_tells N first (request ∷ more) written (inl s) = inr ((served first request).0, s.0, s.1, short_tells N (served first request).1 more s.0 s.2)
short_tells N first (request ∷ more) written (inr b) = inl b

goes_whole : (N W : Type 0) (first : World) (carried : List (Result Call WireFault)) (written : List ℕ) (now : World)
    → (W × Answered first carried written now) ⊎ RunsShort N first carried written → W ⊎ TellsScarcity N carried written
goes_whole N W first carried written now (inl a) = inl a.0
goes_whole N W first carried written now (inr s) = inr (short_tells N first carried written s)

-- ---- over a source that tells its bytes

-- of the source's text this rest is to come, and the requests in front of it were answered so
abbrev pub Progress : (N : Type 0) → Type 0 → World → Option (List ℕ) → World → Option (List ℕ) → List ℕ → Type 0
Progress N W first source w rest written = (text : List ℕ) → source ≡ Some text → (left : List ℕ) × (rest ≡ Some left) × SoFar N W first text w left written

pub progress_none : (N : Type 0) (W : Type 0) (first : World) (source : Option (List ℕ)) (pending : List ℕ) → W → pending ≡ [] → Progress N W first source first (prepend_known pending source) []
progress_none N W first source pending whole e text is = (
  text,
  ap (prepend_known pending) is ∙ ap (λ p. Some (p ++ text)) e,
  record { carried = []; split = refl; goes = inl (whole, (refl, world_itself first)) },
)

some_same : (x y : List ℕ) → Some x ≡ Some y → x ≡ y
some_same x y e = cc

begins_with : (before after : Option (List ℕ)) (read : Result Request WireFault) (rest : List ℕ) → BeginsWithRequest before after read → before ≡ Some rest
    → (left : List ℕ) × (defined : Result Call WireFault) × (after ≡ Some left) × (requests_of rest ≡ defined ∷ requests_of left) × Reads defined read
begins_with None after read rest b e = absurd (cc)
begins_with (Some text) None read rest b e = absurd b
begins_with (Some text) (Some left) read rest b e = (left, b.0, refl, ap requests_of (some_same rest text (sym e)) ∙ b.1, b.2)

no_request : (before : Option (List ℕ)) (rest : List ℕ) → HasNoRequest before → before ≡ Some rest → requests_of rest ≡ []
no_request None rest h e = absurd (cc)
no_request (Some text) rest h e = ap requests_of (some_same rest text (sym e)) ∙ h

-- one more request was answered
pub progress_more : (N N' : Type 0) (W W' : Type 0) (first : World) (source : Option (List ℕ)) (w new : World) (before after : Option (List ℕ)) (written : List ℕ) (read : Result Request WireFault) (answer : Answer)
    → (N → N') → Progress N W first source w before written → BeginsWithRequest before after read → (W → (defined : Result Call WireFault) → Reads defined read → Replies w defined answer new)
    → (W → (defined : Result Call WireFault) → Reads defined read → RestsOn N' defined answer)
    → (W → (defined : Result Call WireFault) → Reads defined read → is_scarce_reply defined answer ≡ false → W')
    → Progress N' W' first source new after (written ++ line_of answer)
progress_more N N' W W' first source w new before after written read answer spent p b s rests keeps text is =
    let q = p text is in
    let r = begins_with before after read q.0 b q.1 in (
      r.0,
      r.2,
      more_so_far N N' W W' first text w new q.0 r.0 written r.1 answer spent q.2 r.3 (λ whole. s whole r.1 r.4) (λ whole. rests whole r.1 r.4) (λ whole. keeps whole r.1 r.4),
    )

-- ---- and over a sink that tells its bytes too

appends_to : (old new : Option (List ℕ)) (bytes held : List ℕ) → Appends old new bytes → old ≡ Some held → new ≡ Some (held ++ bytes)
appends_to None new bytes held a e = absurd (cc)
appends_to (Some xs) None bytes held a e = absurd a
appends_to (Some xs) (Some ys) bytes held a e = ap Some (a ∙ ap (λ l. l ++ bytes) (some_same xs held e))

-- a front of the replies was written
pub begins_front : (N : Type 0) (W : Type 0) (first : World) (source old : Option (List ℕ)) (w : World) (before new : Option (List ℕ)) (written : List ℕ) → Progress N W first source w before written → AppendsFront old new written
    → Scripts (λ text written. Begins N (requests_of text) (script first text) written) source old new
begins_front N W first source old w before new written p a text held is told =
    let q = p text is in
    let begun = begins_so_far N W first text w q.0 written q.2 in
    let whole : written ++ begun.0 ≡ a.0 ++ (a.1 ++ begun.0) = ap (λ l. l ++ begun.0) a.2 ∙ append_assoc a.0 a.1 begun.0 in
    (a.0, appends_to old new a.0 held a.3 told, (a.1 ++ begun.0, subst (λ t. Says N (requests_of text) (script first text) t) whole begun.1))

pub stands_front : (N : Type 0) (W : Type 0) (first : World) (source old : Option (List ℕ)) (w : World) (before new : Option (List ℕ)) (written : List ℕ) → Progress N W first source w before written → AppendsFront old new written
    → Scripts (λ text written. Stands N first (requests_of text) written w) source old new
stands_front N W first source old w before new written p a text held is told =
    let q = p text is in
    let so = q.2 in (
      a.0,
      appends_to old new a.0 held a.3 told,
      (so.carried, requests_of q.0, a.1, so.split, subst (λ t. Runs N first so.carried t w) a.2 (runs_so_far N W first text w q.0 written so)),
    )

-- every request was answered, and all replies were written
pub says_all_written : (N : Type 0) (W : Type 0) (first : World) (source old : Option (List ℕ)) (w : World) (before new : Option (List ℕ)) (written : List ℕ) → Progress N W first source w before written → HasNoRequest before → Appends old new written
    → Scripts (λ text written. Says N (requests_of text) (script first text) written) source old new
says_all_written N W first source old w before new written p none a text held is told =
    let q = p text is in (written, appends_to old new written held a told, says_so_far N W first text w q.0 written q.2 (no_request before q.0 none q.1))

pub runs_all_written : (N : Type 0) (W : Type 0) (first : World) (source old : Option (List ℕ)) (w : World) (before new : Option (List ℕ)) (written : List ℕ) → Progress N W first source w before written → HasNoRequest before → Appends old new written
    → Scripts (λ text written. Runs N first (requests_of text) written w) source old new
runs_all_written N W first source old w before new written p none a text held is told =
    let q = p text is in
    let so = q.2 in
    let all = carried_all N W first text w q.0 written so (no_request before q.0 none q.1) in
    (written, appends_to old new written held a told, subst (λ rs. Runs N first rs written w) all (runs_so_far N W first text w q.0 written so))

pub whole_all_written : (N : Type 0) (W : Type 0) (first : World) (source old : Option (List ℕ)) (w : World) (before new : Option (List ℕ)) (written : List ℕ) → Progress N W first source w before written → HasNoRequest before → Appends old new written
    → Scripts (λ text written. W ⊎ TellsScarcity N (requests_of text) written) source old new
whole_all_written N W first source old w before new written p none a text held is told =
    let q = p text is in
    let so = q.2 in
    let all = carried_all N W first text w q.0 written so (no_request before q.0 none q.1) in
    (written, appends_to old new written held a told, subst (λ rs. W ⊎ TellsScarcity N rs written) all (goes_whole N W first so.carried written w so.goes))
