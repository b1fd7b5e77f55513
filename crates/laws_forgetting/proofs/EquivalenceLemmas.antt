-- Being alike is an equivalence.
use Rattle.std.proofs.Common.{◌≡◌, ℕ, suc, Bool, List, [], ◌∷◌, map, sym, ap, ◌∙◌, subst, arith}
use Rattle.values.specs.Window.{AllFrom, Element}
use Rattle.reference.specs.Machine.{Machine, Registered, until_for}
use Rattle.reference.specs.World.{World}
use Rattle.reference.specs.Alike.{Alike, AlikeMachines, AlikeQuery, AreAlike, MayCome, bare}
use Rattle.laws_forgetting.specs.Partly.{AlikeIf, ArePartlyAlike, PartlyAlike}
use Rattle.laws_forgetting.proofs.BareLemmas.{open_same, untils_same}

-- over streams that are the same but for what came, the same may come, and the same instants are closed
module _ (m n : Machine) (h : map bare m.streams ≡ map bare n.streams) where
  may_come : (more : ℕ → List Element) → MayCome n more → MayCome m more
  may_come more o k = subst (λ u. AllFrom u (more k)) (sym (open_same m.streams n.streams h k)) (o k)

  same_until : (q r : Registered) → AlikeQuery m n q r → until_for m.streams q.places ≡ until_for n.streams r.places
  same_until q r a = untils_same m.streams n.streams h q.places ∙ ap (λ (z : Registered). until_for n.streams z.places) a.bare

  turned : (q r : Registered) → AlikeQuery m n q r → AlikeQuery n m r q
  turned q r a = record {
    bare = sym a.bare;
    counts = sym a.counts;
    answers = λ d more o until l. sym (a.answers (ap (λ (z : Registered). z.is_dropped) a.bare ∙ d) more (may_come more o) until (omega (arith, l, same_until q r a)));
  }

  all_turned : (qs rs : List Registered) → AreAlike m n qs rs → AreAlike n m rs qs
  all_turned [] [] i = tt
  all_turned [] (r ∷ rs) i = absurd i
  all_turned (q ∷ qs) [] i = absurd i
  all_turned (q ∷ qs) (r ∷ rs) i = (turned q r i.0, all_turned qs rs i.1)

  module _ (k : Machine) where
    joined : (q r s : Registered) → AlikeQuery m n q r → AlikeQuery n k r s → AlikeQuery m k q s
    joined q r s a b = record {
      bare = a.bare ∙ b.bare;
      counts = a.counts ∙ b.counts;
      answers = λ d more o until l.
          a.answers d more o until l
          ∙ b.answers (sym (ap (λ (z : Registered). z.is_dropped) a.bare) ∙ d) more (λ j. subst (λ u. AllFrom u (more j)) (open_same m.streams n.streams h j) (o j)) until (omega (arith, l, same_until q r a));
    }

    all_joined : (qs rs ss : List Registered) → AreAlike m n qs rs → AreAlike n k rs ss → AreAlike m k qs ss
    all_joined [] [] [] i j = tt
    all_joined [] [] (s ∷ ss) i j = absurd j
    all_joined [] (r ∷ rs) ss i j = absurd i
    all_joined (q ∷ qs) [] ss i j = absurd i
    all_joined (q ∷ qs) (r ∷ rs) [] i j = absurd j
    all_joined (q ∷ qs) (r ∷ rs) (s ∷ ss) i j = (joined q r s i.0 j.0, all_joined qs rs ss i.1 j.1)

    if_joined : (b : Bool) (q r s : Registered) → AlikeIf b m n q r → AlikeIf b n k r s → AlikeIf b m k q s
    if_joined b q r s a c = record { bare = a.bare ∙ c.bare; alike = λ p. joined q r s (a.alike p) (c.alike p) }

    parts_joined : (passes : ℕ → Bool) (qs rs ss : List Registered) → ArePartlyAlike passes m n qs rs → ArePartlyAlike passes n k rs ss → ArePartlyAlike passes m k qs ss
    parts_joined passes [] [] [] i j = tt
    parts_joined passes [] [] (s ∷ ss) i j = absurd j
    parts_joined passes [] (r ∷ rs) ss i j = absurd i
    parts_joined passes (q ∷ qs) [] ss i j = absurd i
    parts_joined passes (q ∷ qs) (r ∷ rs) [] i j = absurd j
    parts_joined passes (q ∷ qs) (r ∷ rs) (s ∷ ss) i j = (if_joined (passes 0) q r s i.0 j.0, parts_joined (λ l. passes (suc l)) qs rs ss i.1 j.1)

-- MACHINES
pub machines_turned : (m n : Machine) → AlikeMachines m n → AlikeMachines n m
machines_turned m n h = record { streams = sym h.streams; queries = all_turned m n h.streams m.queries n.queries h.queries }

pub machines_joined : (m n k : Machine) → AlikeMachines m n → AlikeMachines n k → AlikeMachines m k
machines_joined m n k h i = record { streams = h.streams ∙ i.streams; queries = all_joined m n h.streams k m.queries n.queries k.queries h.queries i.queries }

pub partly_joined : (passes : ℕ → Bool) (m n k : Machine) → PartlyAlike passes m n → PartlyAlike passes n k → PartlyAlike passes m k
partly_joined passes m n k h i = record { streams = h.streams ∙ i.streams; queries = parts_joined m n h.streams k passes m.queries n.queries k.queries h.queries i.queries }

-- WORLDS
pub worlds_turned : (w v : World) → Alike w v → Alike v w
worlds_turned w v h = record { machines = machines_turned w.machine v.machine h.machines; waiting = sym h.waiting; upto = sym h.upto }

pub worlds_joined : (w v u : World) → Alike w v → Alike v u → Alike w u
worlds_joined w v u h i = record { machines = machines_joined w.machine v.machine u.machine h.machines i.machines; waiting = h.waiting ∙ i.waiting; upto = h.upto ∙ i.upto }
