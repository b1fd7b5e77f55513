-- What a look is answered.
use Rattle.std.proofs.Common.{◌≡◌, Result, Ok, Err, refl, ap, sym, subst}
use Rattle.std.proofs.lemmas.Bool.{false≢true}
use Rattle.reference.specs.Looks.{Seen, look_at, seen_in, seen_of}
use Rattle.reference.specs.Looks as looks
use Rattle.reference.specs.World.{Looks, MayLackMemory, World}
use Rattle.reference.specs.declared.fault.Fault.{Fault}
use Rattle.reference.specs.declared.fault.Fault.TheVariants.{Query, BadName, NameTaken, BadColumns, TooMany, UnknownStream, UnknownQuery, BadWidth, ValueRange, InstantRange, Late, Backward, Leap, StreamFull, BadLimit, Broken, UnknownLease, Stranger, TooManyLeases, HistoryFull, OutOfMemory, Foreign}
use Rattle.reference.specs.declared.look.Seen as coded
use Rattle.wire.specs.Calls.{look}
use Rattle.wire.specs.Printed.{Answer, refused}
use Rattle.wire.specs.Script.{AnswersCall, LeadsTo, result_of, seen_or}

-- want of memory may stand in place of an answer just as of what is seen
lacks : (defined : Result Seen Fault) → MayLackMemory defined → MayLackMemory (result_of (seen_or defined))
lacks (Ok found) may = tt
lacks (Err fault) may = may

module _ (w : World) (asked : looks.Look) where
  -- what was found to be seen
  shows : (defined : Result Seen Fault) → look_at w asked ≡ defined → LeadsTo (look asked) (seen_or (look_at w asked), w) (seen_or defined) w
  shows defined is = ap (λ (r : Result Seen Fault). (seen_or r, w)) is

  refuses : (fault : Fault) → Looks seen_of (look_at w asked) (Err fault) → AnswersCall w (look asked) (refused fault) w
  refuses (Query f) l = (λ plenty. shows (Err (Query f)) l, λ short. absurd (false≢true short))
  refuses BadName l = (λ plenty. shows (Err BadName) l, λ short. absurd (false≢true short))
  refuses NameTaken l = (λ plenty. shows (Err NameTaken) l, λ short. absurd (false≢true short))
  refuses BadColumns l = (λ plenty. shows (Err BadColumns) l, λ short. absurd (false≢true short))
  refuses TooMany l = (λ plenty. shows (Err TooMany) l, λ short. absurd (false≢true short))
  refuses UnknownStream l = (λ plenty. shows (Err UnknownStream) l, λ short. absurd (false≢true short))
  refuses UnknownQuery l = (λ plenty. shows (Err UnknownQuery) l, λ short. absurd (false≢true short))
  refuses BadWidth l = (λ plenty. shows (Err BadWidth) l, λ short. absurd (false≢true short))
  refuses ValueRange l = (λ plenty. shows (Err ValueRange) l, λ short. absurd (false≢true short))
  refuses InstantRange l = (λ plenty. shows (Err InstantRange) l, λ short. absurd (false≢true short))
  refuses Late l = (λ plenty. shows (Err Late) l, λ short. absurd (false≢true short))
  refuses Backward l = (λ plenty. shows (Err Backward) l, λ short. absurd (false≢true short))
  refuses Leap l = (λ plenty. shows (Err Leap) l, λ short. absurd (false≢true short))
  refuses StreamFull l = (λ plenty. shows (Err StreamFull) l, λ short. absurd (false≢true short))
  refuses BadLimit l = (λ plenty. shows (Err BadLimit) l, λ short. absurd (false≢true short))
  refuses Broken l = (λ plenty. shows (Err Broken) l, λ short. absurd (false≢true short))
  refuses UnknownLease l = (λ plenty. shows (Err UnknownLease) l, λ short. absurd (false≢true short))
  refuses Stranger l = (λ plenty. shows (Err Stranger) l, λ short. absurd (false≢true short))
  refuses TooManyLeases l = (λ plenty. shows (Err TooManyLeases) l, λ short. absurd (false≢true short))
  refuses HistoryFull l = (λ plenty. shows (Err HistoryFull) l, λ short. absurd (false≢true short))
  refuses (Foreign entries) l = (λ plenty. shows (Err (Foreign entries)) l, λ short. absurd (false≢true short))
  refuses OutOfMemory l = (λ plenty. absurd (false≢true (sym plenty)), λ short. (refl, lacks (look_at w asked) l))

  -- A LOOK is answered with what is seen
  pub look_answers : (result : Result coded.Seen Fault) (answer : Answer) → answer ≡ seen_or (seen_in result) → Looks seen_of (look_at w asked) result → AnswersCall w (look asked) answer w
  look_answers (Ok found) answer is l =
      subst (λ a. AnswersCall w (look asked) a w) (sym is) (λ plenty. shows (Ok (seen_of found)) l, λ short. absurd (false≢true short))
  look_answers (Err fault) answer is l = subst (λ a. AnswersCall w (look asked) a w) (sym is) (refuses fault l)
