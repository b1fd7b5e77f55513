-- What a run answers, and why it may not run.
use Rattle.std.proofs.Common.{◌≡◌, ◌≢◌, ℕ, Bool, not, true, false, List, [], ◌∷◌, ◌++◌, Option, Some, Result, refl, ap, sym, ◌∙◌, subst, ◌⊎◌, inl, inr, None}
use Rattle.std.specs.Prelude.{⊤, codes, map, option_map}
use Rattle.std.specs.List.{range_with_len}
use Rattle.std.specs.Option.{option_to_list}
use Rattle.std.proofs.lemmas.Bool.{false≢true}
use Rattle.clap.specs.Words.{Kinds, Text, HasKind, IsAmong, kind_of}
use Rattle.clap.specs.declared.error.Error.{Error}
use Rattle.clap.specs.declared.error.kind.ErrorKind.TheVariants.{DisplayHelp, DisplayVersion, OutOfMemory}
use Rattle.reference.specs.Machine.{Machine}
use Rattle.reference.specs.World.{World}
use Rattle.reference.proofs.AlikeLemmas.{world_itself}
use Rattle.wire.specs.Calls.{Call}
use Rattle.wire.specs.Requests.{requests_of}
use Rattle.wire.specs.declared.request.WireFault.{WireFault}
use Rattle.wire.specs.Script.{script, Says, Begins, Runs, Scripts, Stands}
use Rattle.wire.proofs.Sinks.{append_nothing}
use Rattle.wire.proofs.Scripts.{begins_wider, says_all}
use Rattle.command_lines.specs.CommandLine.{IsPlain, number_in, run_text}
use Rattle.wire.specs.Printed.{Answer}
use Rattle.histories.specs.Histories.{Entry, IsLegal}
use Rattle.hub.specs.Audits.{IsAccounted, alone}
use Rattle.hub.specs.Ledgers.{PlainLedger}
use Rattle.hub.specs.Reached.{IsReachedBy}
use Rattle.hub.specs.Seats.{IsAudited, PlainSeat, opened}
use Rattle.hub.specs.Steps.{OpensAt}
use Rattle.served.specs.Serving as of_seat
use Rattle.served.specs.Serving.{PoolDrains}
use Rattle.wire.specs.declared.fault.ScriptFault.{ScriptFault}
use Rattle.wire.specs.declared.fault.ScriptFault.TheVariants.{Read, Write, Memory}
use Rattle.programs.specs.Run.{Answers, IsAlone, IsKept, IsWrong, Leads, Shares, SharesSettling}
use Rattle.programs.specs.Run.{turn_of}
use Rattle.programs.specs.Ends.{MayRunOut, status_of}

pub says_begins : (N : Type 0) (w : World) (source old new : Option (List ℕ)) → Scripts (λ text written. Says N (requests_of text) (script w text) written) source old new
    → Scripts (λ text written. Begins N (requests_of text) (script w text) written) source old new
says_begins N w source old new s text held is told =
    let r = s text held is told in (r.0, r.1, ([], subst (λ t. Says N (requests_of text) (script w text) t) (sym (append_nothing r.0)) r.2))

append_none : (requests : List (Result Call WireFault)) → requests ++ [] ≡ requests
append_none [] = refl
append_none (r ∷ rs) = ap (λ l. r ∷ l) (append_none rs)

-- requests that were all carried out were carried out
pub runs_stands : (N : Type 0) (first now : World) (source old new : Option (List ℕ)) → Scripts (λ text written. Runs N first (requests_of text) written now) source old new
    → Scripts (λ text written. Stands N first (requests_of text) written now) source old new
runs_stands N first now source old new s text held is told =
    let r = s text held is told in
    let run = subst (λ t. Runs N first (requests_of text) t now) (sym (append_nothing r.0)) r.2 in
    (r.0, r.1, (requests_of text, [], [], sym (append_none (requests_of text)), run))

-- no request was carried out
pub leads_nowhere : (N : Type 0) (w : World) (status : ℕ) (source old : Option (List ℕ)) → status ≡ 3 → Leads N w w status source old old
leads_nowhere N w status source old is = (
  λ none. absurd (cc),
  λ text held is told. ([], told ∙ ap Some (sym (append_nothing held)), ([], requests_of text, [], refl, (refl, world_itself w))),
)

-- nothing was written
pub answers_nothing : (N : Type 0) (w : World) (status : ℕ) (source old new : Option (List ℕ)) → status ≢ 0 → new ≡ old → Answers N w status source old new
answers_nothing N w status source old new is same = (
  λ none. absurd (is none),
  λ text held is told. ([], same ∙ told ∙ ap Some (sym (append_nothing held)), says_all N w (requests_of text)),
)

-- nothing was written by a seat
pub shares_nothing : (drains : Answer → Type 0) (status : ℕ) (source old new : Option (List ℕ)) → status ≡ 3 → new ≡ old → Shares drains status source old new
shares_nothing drains status source old new is same = (
  λ none. absurd (cc),
  λ text held is' told. ([], same ∙ told ∙ ap Some (sym (append_nothing held)), (opened 0, ([], requests_of text, [], false, refl, (refl, refl, refl)))),
)

-- a seat carried out some of the requests, and no status tells that it were all
pub shares_some : (drains : Answer → Type 0) (status : ℕ) (source old new : Option (List ℕ)) (first seat : PlainSeat) → first ≡ opened 0 → status ≢ 0
    → Scripts (λ text written. of_seat.Stands drains first (requests_of text) written seat) source old new → Shares drains status source old new
shares_some drains status source old new first seat fresh other s = (
  λ none. absurd (other none),
  λ text held is told.
      let r = s text held is told in
      (r.0, r.1, (seat, subst (λ (f : PlainSeat). of_seat.Stands drains f (requests_of text) r.0 seat) fresh r.2)),
)

-- what a seat carried out stands
seat_stands : (drains : Answer → Type 0) (source old new : Option (List ℕ)) (first seat : PlainSeat) (forgot : Bool) → Scripts (λ text written. of_seat.Runs drains first (requests_of text) written forgot seat) source old new
    → Scripts (λ text written. of_seat.Stands drains first (requests_of text) written seat) source old new
seat_stands drains source old new first seat forgot s text held is told =
    let r = s text held is told in
    let run = subst (λ t. of_seat.Runs drains first (requests_of text) t forgot seat) (sym (append_nothing r.0)) r.2 in
    (r.0, r.1, (requests_of text, [], [], forgot, sym (append_none (requests_of text)), run))

-- a seat carried out all requests, and a status tells nothing of it
pub shares_differing : (drains : Answer → Type 0) (status : ℕ) (source old new : Option (List ℕ)) (first seat : PlainSeat) (forgot : Bool) → first ≡ opened 0 → status ≢ 0
    → Scripts (λ text written. of_seat.Runs drains first (requests_of text) written forgot seat) source old new → Shares drains status source old new
shares_differing drains status source old new first seat forgot fresh other s =
    shares_some drains status source old new first seat fresh other (seat_stands drains source old new first seat forgot s)

-- a seat carried out all requests, and its receipts are a legal history
pub shares_all : (drains : Answer → Type 0) (status : ℕ) (source old new : Option (List ℕ)) (first seat : PlainSeat) (forgot : Bool) → first ≡ opened 0 → IsAlone forgot seat
    → Scripts (λ text written. of_seat.Runs drains first (requests_of text) written forgot seat) source old new → Shares drains status source old new
shares_all drains status source old new first seat forgot fresh alone s = (
  λ none text held is told.
      let r = s text held is told in
      (r.0, r.1, (seat, forgot, subst (λ (f : PlainSeat). of_seat.Runs drains f (requests_of text) r.0 forgot seat) fresh r.2, alone)),
  λ text held is told.
      let r = seat_stands drains source old new first seat forgot s text held is told in
      (r.0, r.1, (seat, subst (λ (f : PlainSeat). of_seat.Stands drains f (requests_of text) r.0 seat) fresh r.2)),
)

-- the only seat of a new hub, which was taken out of the list of its seats
pub only_seat : (seats rest : List PlainSeat) (seat : PlainSeat) → seats ≡ map opened (range_with_len 0 1) → seats ≡ rest ++ option_to_list (Some seat) → (rest ≡ []) × (seat ≡ opened 0)
only_seat seats [] seat all split =
    let one : seat ∷ [] ≡ opened 0 ∷ [] = sym split ∙ all in
    (refl, cc)
only_seat seats (r ∷ []) seat all split =
    let two : r ∷ seat ∷ [] ≡ opened 0 ∷ [] = sym split ∙ all in
    absurd (cc)
only_seat seats (r ∷ q ∷ qs) seat all split =
    let more : r ∷ q ∷ (qs ++ seat ∷ []) ≡ opened 0 ∷ [] = sym split ∙ all in
    absurd (cc)

-- where no request forgot, the history that was given is whole
alone_as : (forgot : Bool) (opening : Machine) (first : ℕ) (entries : List Entry) (seat : PlainSeat) → (forgot ≡ false → first ≡ 0)
    → IsLegal opening entries → OpensAt first opening → IsReachedBy first opening → IsAudited (seat ∷ []) 1 first entries → IsAlone forgot seat
alone_as true opening first entries seat none legal opens reached audited = (opening, first, entries, legal, opens, reached, audited)
alone_as false opening first entries seat none legal opens reached audited =
    let nought = none refl in
    (entries, subst (λ (m : Machine). IsLegal m entries) (opens.nought nought) legal, subst (λ n. IsAudited (seat ∷ []) 1 n entries) nought audited)

-- put back, and compared with the history
pub is_alone : (forgot : Bool) (opening : Machine) (first : ℕ) (entries : List Entry) (seats rest : List PlainSeat) (count : ℕ) (seat : PlainSeat) → rest ≡ [] → seats ≡ rest ++ seat ∷ [] → count ≡ 1
    → (forgot ≡ false → first ≡ 0) → IsLegal opening entries → OpensAt first opening → IsReachedBy first opening → IsAudited seats count first entries → IsAlone forgot seat
is_alone forgot opening first entries seats rest count seat empty_rest pushed one none legal opens reached audited =
    let all : seats ≡ seat ∷ [] = pushed ∙ ap (λ (r : List PlainSeat). r ++ seat ∷ []) empty_rest in
    alone_as forgot opening first entries seat none legal opens reached (subst (λ (l : List PlainSeat). IsAudited l 1 first entries) all (subst (λ n. IsAudited seats n first entries) one audited))

some_same : (x y : ℕ) → Some x ≡ Some y → x ≡ y
some_same x y e = cc

-- the workers and the rows of a turn are those that the words ask for
pub shares_asked : (words : List Text) (asked : Text) (o : Option ℕ) (workers turn : ℕ) (status : ℕ) (source old new : Option (List ℕ))
    → o ≡ option_map number_in (run_text (codes "workers") words) → run_text (codes "workers") words ≡ Some asked → o ≡ Some workers → turn ≡ turn_of words
    → Shares (PoolDrains workers turn) status source old new → Shares (PoolDrains (number_in asked) (turn_of words)) status source old new
shares_asked words asked o workers turn status source old new says is found rows s =
    let same : workers ≡ number_in asked = some_same workers (number_in asked) (sym found ∙ says ∙ ap (option_map number_in) is) in
    subst (λ n. Shares (PoolDrains n (turn_of words)) status source old new) same (subst (λ t. Shares (PoolDrains workers t) status source old new) rows s)

-- nothing was written by a seat that settles
pub settling_nothing : (drains : Answer → Type 0) (status : ℕ) (source old new : Option (List ℕ)) → status ≢ 0 → new ≡ old → SharesSettling drains status source old new
settling_nothing drains status source old new is same = (
  λ none. absurd (is none),
  λ text held is' told. ([], same ∙ told ∙ ap Some (sym (append_nothing held)), (opened 0, ([], requests_of text, [], false, refl, (refl, refl, refl)))),
)

-- a seat that settles carried out some of the requests, and no status tells that it were all
pub settling_some : (drains : Answer → Type 0) (status : ℕ) (source old new : Option (List ℕ)) (first seat : PlainSeat) → first ≡ opened 0 → status ≢ 0
    → Scripts (λ text written. of_seat.StandsSettling drains first (requests_of text) written seat) source old new → SharesSettling drains status source old new
settling_some drains status source old new first seat fresh other s = (
  λ none. absurd (other none),
  λ text held is told.
      let r = s text held is told in
      (r.0, r.1, (seat, subst (λ (f : PlainSeat). of_seat.StandsSettling drains f (requests_of text) r.0 seat) fresh r.2)),
)

settling_stands : (drains : Answer → Type 0) (source old new : Option (List ℕ)) (first seat : PlainSeat) (forgot : Bool) → Scripts (λ text written. of_seat.RunsSettling drains first (requests_of text) written forgot seat) source old new
    → Scripts (λ text written. of_seat.StandsSettling drains first (requests_of text) written seat) source old new
settling_stands drains source old new first seat forgot s text held is told =
    let r = s text held is told in
    let run = subst (λ t. of_seat.RunsSettling drains first (requests_of text) t forgot seat) (sym (append_nothing r.0)) r.2 in
    (r.0, r.1, (requests_of text, [], [], forgot, sym (append_none (requests_of text)), run))

-- a seat that settles carried out all requests, and a status tells nothing of it
pub settling_differing : (drains : Answer → Type 0) (status : ℕ) (source old new : Option (List ℕ)) (first seat : PlainSeat) (forgot : Bool) → first ≡ opened 0 → status ≢ 0
    → Scripts (λ text written. of_seat.RunsSettling drains first (requests_of text) written forgot seat) source old new → SharesSettling drains status source old new
settling_differing drains status source old new first seat forgot fresh other s =
    settling_some drains status source old new first seat fresh other (settling_stands drains source old new first seat forgot s)

-- a seat that settles carried out all requests, and its calls were compared
pub settling_all : (drains : Answer → Type 0) (status : ℕ) (source old new : Option (List ℕ)) (first seat : PlainSeat) (forgot : Bool) → first ≡ opened 0 → IsKept seat
    → Scripts (λ text written. of_seat.RunsSettling drains first (requests_of text) written forgot seat) source old new → SharesSettling drains status source old new
settling_all drains status source old new first seat forgot fresh kept s = (
  λ none text held is told.
      let r = s text held is told in
      (r.0, r.1, (seat, forgot, subst (λ (f : PlainSeat). of_seat.RunsSettling drains f (requests_of text) r.0 forgot seat) fresh r.2, kept)),
  λ text held is told.
      let r = settling_stands drains source old new first seat forgot s text held is told in
      (r.0, r.1, (seat, subst (λ (f : PlainSeat). of_seat.StandsSettling drains f (requests_of text) r.0 seat) fresh r.2)),
)

-- put back, and compared with the history
pub is_kept : (opening : Machine) (first : ℕ) (entries : List Entry) (l : PlainLedger) (seats rest : List PlainSeat) (count : ℕ) (seat : PlainSeat) → rest ≡ [] → seats ≡ rest ++ seat ∷ [] → count ≡ 1
    → IsLegal opening entries → OpensAt first opening → IsReachedBy first opening → IsAccounted l seats count first entries → alone first seats ≡ 0 → IsKept seat
is_kept opening first entries l seats rest count seat empty_rest pushed one legal opens reached accounted none =
    let all : seats ≡ seat ∷ [] = pushed ∙ ap (λ (r : List PlainSeat). r ++ seat ∷ []) empty_rest in (
      opening,
      first,
      entries,
      l,
      legal,
      opens,
      reached,
      subst (λ (s : List PlainSeat). IsAccounted l s 1 first entries) all (subst (λ n. IsAccounted l seats n first entries) one accounted),
      subst (λ (s : List PlainSeat). alone first s ≡ 0) all none,
    )

-- the workers and the rows of a turn are those that the words ask for
pub settling_asked : (words : List Text) (asked : Text) (o : Option ℕ) (workers turn : ℕ) (status : ℕ) (source old new : Option (List ℕ))
    → o ≡ option_map number_in (run_text (codes "workers") words) → run_text (codes "workers") words ≡ Some asked → o ≡ Some workers → turn ≡ turn_of words
    → SharesSettling (PoolDrains workers turn) status source old new → SharesSettling (PoolDrains (number_in asked) (turn_of words)) status source old new
settling_asked words asked o workers turn status source old new says is found rows s =
    let same : workers ≡ number_in asked = some_same workers (number_in asked) (sym found ∙ says ∙ ap (option_map number_in) is) in
    subst (λ n. SharesSettling (PoolDrains n (turn_of words)) status source old new) same (subst (λ t. SharesSettling (PoolDrains workers t) status source old new) rows s)

-- an option whose number was read is among the words
pub is_asked : (o : Option Text) (r : Option ℕ) (v : ℕ) → r ≡ option_map number_in o → r ≡ Some v → o ≢ None
is_asked None r v said is none = cc
is_asked (Some t) r v said is none = cc

pub is_not_asked : (o : Option Text) (r : Option ℕ) → r ≡ option_map number_in o → r ≡ None → o ≡ None
is_not_asked None r said is = refl
is_not_asked (Some t) r said is = cc

pub two_tells : (status : ℕ) → status ≡ 2 → status ≢ 0
two_tells status is none = cc

pub three_tells : (status : ℕ) → status ≡ 3 → status ≢ 0
three_tells status is none = cc

pub one_tells : (status : ℕ) → status ≡ 1 → status ≢ 0
one_tells status is none = cc

-- no fault ends with the status 0
pub faults_tell : (fault : ScriptFault) (status : ℕ) → status ≡ status_of fault → status ≢ 0
faults_tell Read status is none = cc
faults_tell Write status is none = cc
faults_tell Memory status is none = cc

pub not_on : (b : Bool) → not b ≡ true → b ≡ false
not_on true e = cc
not_on false e = refl

-- what numbers were wanted for may be said more widely
says_wider : (N M : Type 0) → (N → M) → (requests : List (Result Call WireFault)) (lines : List (List ℕ)) (written : List ℕ) → Says N requests lines written → Says M requests lines written
says_wider N M f [] [] written s = s
says_wider N M f [] (line ∷ lines) written s = absurd s
says_wider N M f (request ∷ requests) [] written s = absurd s
says_wider N M f (request ∷ requests) (line ∷ lines) written (inl s) = inl (s.0, s.1, says_wider N M f requests lines s.0 s.2)
says_wider N M f (request ∷ requests) (line ∷ lines) written (inr b) = inr (begins_wider N M f request written b)

pub answers_wider : (N M : Type 0) → (N → M) → (w : World) (status : ℕ) (source old new : Option (List ℕ)) → Answers N w status source old new → Answers M w status source old new
answers_wider N M f w status source old new a = (
  λ is text held from_text told.
      let r = a.0 is text held from_text told in
      (r.0, r.1, says_wider N M f (requests_of text) (script w text) r.0 r.2),
  λ text held from_text told.
      let r = a.1 text held from_text told in
      (r.0, r.1, (r.2.0, says_wider N M f (requests_of text) (script w text) (r.0 ++ r.2.0) r.2.1)),
)

-- the plain engine never wants numbers
pub plain_answers : {P : Type 0} (words : List Text) (w : World) (status : ℕ) (source old new : Option (List ℕ)) → Answers (MayRunOut (λ (p : P). ⊤)) w status source old new
    → Answers (¬ IsPlain words) w status source old new
plain_answers words w status source old new a = answers_wider _ (¬ IsPlain words) (λ out. absurd (out.1 tt)) w status source old new a

-- where the words do not ask for it, another engine may
pub engine_answers : (N : Type 0) (words : List Text) (is_plain : Bool) → (IsPlain words → is_plain ≡ true) → is_plain ≡ false
    → (w : World) (status : ℕ) (source old new : Option (List ℕ)) → Answers N w status source old new → Answers (¬ IsPlain words) w status source old new
engine_answers N words is_plain asks is w status source old new a =
    answers_wider N (¬ IsPlain words) (λ out plain. false≢true (sym is ∙ asks plain)) w status source old new a

-- words that ask for a run fail for want of memory alone
pub lacks_memory : (kinds : Kinds) (e : Error) → HasKind kinds e → kinds ≡ [] → kind_of e ≡ OutOfMemory
lacks_memory kinds e (inl memory) none = memory
lacks_memory kinds e (inr among) none = absurd (subst (λ ks. IsAmong (kind_of e) ks) none among)

pub asks_no_help : (kinds : Kinds) (e : Error) → HasKind kinds e → IsWrong kinds → kind_of e ≢ DisplayHelp
asks_no_help kinds e (inl memory) wrong help = cc
asks_no_help kinds e (inr among) wrong help = wrong.1 (subst (λ k. IsAmong k kinds) help among)

pub asks_no_version : (kinds : Kinds) (e : Error) → HasKind kinds e → IsWrong kinds → kind_of e ≢ DisplayVersion
asks_no_version kinds e (inl memory) wrong version = cc
asks_no_version kinds e (inr among) wrong version = wrong.2 (subst (λ k. IsAmong k kinds) version among)

-- words that ask for help, or want of memory
pub asks_help : (kinds : Kinds) (e : Error) → HasKind kinds e → kinds ≡ DisplayHelp ∷ [] → (kind_of e ≡ OutOfMemory) ⊎ (kind_of e ≡ DisplayHelp)
asks_help kinds e (inl memory) is = inl memory
asks_help kinds e (inr among) is = elim (subst (λ ks. IsAmong (kind_of e) ks) is among) [ inl help ↦ inr help | inr none ↦ absurd none ]
