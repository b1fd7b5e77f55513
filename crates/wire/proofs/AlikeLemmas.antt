-- Alike worlds are answered by the same script.
use Rattle.std.proofs.Common.{◌≡◌, ℕ, List, [], ◌∷◌, Option, Some, None, Result, Ok, Err, refl, ap, ap₂, subst}
use Rattle.reference.specs.Alike.{Alike}
use Rattle.reference.specs.World.{World, append_step, drop_step, heartbeat_step, query_named, stream_named, take_step}
use Rattle.reference.specs.declared.fault.Fault.{Fault}
use Rattle.reference.specs.declared.fault.Fault.TheVariants.{UnknownQuery, UnknownStream}
use Rattle.laws_forgetting.specs.Answers.{AnswerAlike}
use Rattle.laws_forgetting.proofs.WorldLemmas.{answer_alike}
use Rattle.wire.specs.Calls.{Call, declare, register, append, heartbeat, drain, take_rows, drop_query, forget, look}
use Rattle.wire.specs.Printed.{Answer, line_of}
use Rattle.wire.specs.Requests.{requests_of}
use Rattle.wire.specs.Script.{answered, done_of, done_step, if_named, replies, rows_of, rows_step, script, seen_or, served}
use Rattle.wire.specs.declared.request.WireFault.{WireFault}

-- the same answer, and alike worlds
abbrev pub Same : Answer × World → Answer × World → Type 0
Same s t = (s.0 ≡ t.0) × Alike s.1 t.1

module _ (w v : World) (h : Alike w v) where
  all : AnswerAlike w v
  all = answer_alike w v h

  -- a call that names a stream or a query finds the same one
  named : (fault : Fault) (f g : ℕ → Answer × World) → ((n : ℕ) → Same (f n) (g n)) → (o p : Option ℕ) → o ≡ p → Same (if_named w fault f o) (if_named v fault g p)
  named fault f g same o p e = subst (λ z. Same (if_named w fault f o) (if_named v fault g z)) e (here o)
    where
      here : (z : Option ℕ) → Same (if_named w fault f z) (if_named v fault g z)
      here None = (refl, h)
      here (Some n) = same n

  pub answered_alike : (call : Call) → Same (answered w call) (answered v call)
  answered_alike (declare name columns start) = let s = all.declare name columns start in (ap done_of s.answer, s.worlds)
  answered_alike (register name text chart) = let s = all.register name text chart in (ap done_of s.answer, s.worlds)
  answered_alike (append stream more) =
      named UnknownStream (λ n. done_step (append_step w n more)) (λ n. done_step (append_step v n more)) (λ n. let s = all.append n more in (ap done_of s.answer, s.worlds)) (stream_named w stream) (stream_named v stream) (all.streams stream)
  answered_alike (heartbeat stream at) =
      named UnknownStream (λ n. done_step (heartbeat_step w n at)) (λ n. done_step (heartbeat_step v n at)) (λ n. let s = all.heartbeat n at in (ap done_of s.answer, s.worlds)) (stream_named w stream) (stream_named v stream) (all.streams stream)
  answered_alike drain = let s = all.drain 1 in (ap done_of s.answer, s.worlds)
  answered_alike (take_rows query limit) =
      named UnknownQuery (λ n. rows_step (take_step w n limit)) (λ n. rows_step (take_step v n limit)) (λ n. let s = all.take n limit in (ap rows_of s.answer, s.worlds)) (query_named w query) (query_named v query) (all.queries query)
  answered_alike (drop_query query) =
      named UnknownQuery (λ n. done_step (drop_step w n)) (λ n. done_step (drop_step v n)) (λ n. let s = all.drop n in (ap done_of s.answer, s.worlds)) (query_named w query) (query_named v query) (all.queries query)
  answered_alike forget = (refl, h)
  answered_alike (look asked) = (ap seen_or (all.look asked), h)

  pub served_alike : (request : Result Call WireFault) → Same (served w request) (served v request)
  served_alike (Err fault) = (refl, h)
  served_alike (Ok call) = answered_alike call

pub replies_alike : (w v : World) → Alike w v → (requests : List (Result Call WireFault)) → replies w requests ≡ replies v requests
replies_alike w v h [] = refl
replies_alike w v h (request ∷ more) =
    let s = served_alike w v h request in
    ap₂ (λ a ls. line_of a ∷ ls) s.0 (replies_alike (served w request).1 (served v request).1 s.1 more)

-- THE SCRIPT is the same
pub scripts_alike : (w v : World) → Alike w v → (text : List ℕ) → script w text ≡ script v text
scripts_alike w v h text = replies_alike w v h (requests_of text)
