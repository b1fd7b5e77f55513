-- What waits in the queues of a running query.
use Rattle.std.proofs.Common.{◌≡◌, ◌<◌, ◌+◌, ◌++◌, ℕ, zero, suc, List, [], ◌∷◌, drop, get_or, length, map, refl, sym, ap, ap₂, ◌∙◌, subst, arith, append_assoc, append-nil}
use Rattle.column.specs.declared.batch.Side.TheVariants.{Left, Right}
use Rattle.op_queue.specs.Logs.{Closed}
use Rattle.operators.specs.Ready.{waiting}
use Rattle.plan.specs.Nodes as plan
use Rattle.laws_queries.specs.Plain.{PlainQuery, operator_at}
use Rattle.leases.specs.Looks.{lengths_at, lengths_from, noughts_of, queues_of}

-- ONE OPERATOR MORE
module _ {N : Type 0} (logs : ℕ → Closed) (p : PlainQuery) (see : N → plan.Node) where
  next : (k : ℕ) (nodes : List N) (d : N) (j : ℕ) → k < length nodes → lengths_from logs p j (map see (drop k nodes)) ≡ lengths_at logs p j (see (get_or nodes k d)) ++ lengths_from logs p (suc j) (map see (drop (suc k) nodes))
  next k [] d j within = absurd (omega arith)
  next zero (node ∷ nodes) d j within = refl
  next (suc k) (node ∷ nodes) d j within = next k nodes d j (omega arith)

  pub lengths_next : (before after : List ℕ) (k : ℕ) (nodes : List N) (d : N) (all : List ℕ) → k < length nodes → before ++ lengths_from logs p k (map see (drop k nodes)) ≡ all → after ≡ before ++ lengths_at logs p k (see (get_or nodes k d))
      → after ++ lengths_from logs p (suc k) (map see (drop (suc k) nodes)) ≡ all
  lengths_next before after k nodes d all within h is =
      ap (λ xs. xs ++ lengths_from logs p (suc k) (map see (drop (suc k) nodes))) is
      ∙ append_assoc before (lengths_at logs p k (see (get_or nodes k d))) (lengths_from logs p (suc k) (map see (drop (suc k) nodes)))
      ∙ ap (λ xs. before ++ xs) (sym (next k nodes d k within)) ∙ h

  none_next : (k : ℕ) (nodes : List N) (j : ℕ) → length nodes ≡ k → lengths_from logs p j (map see (drop k nodes)) ≡ []
  none_next zero [] j e = refl
  none_next (suc k) [] j e = refl
  none_next zero (node ∷ nodes) j e = absurd (omega (arith, e))
  none_next (suc k) (node ∷ nodes) j e = none_next k nodes j (omega (arith, e))

  pub lengths_all : (found : List ℕ) (k : ℕ) (nodes : List N) (all : List ℕ) → length nodes ≡ k → found ++ lengths_from logs p k (map see (drop k nodes)) ≡ all → found ≡ all
  lengths_all found k nodes all e h = sym (append-nil found) ∙ ap (λ xs. found ++ xs) (sym (none_next k nodes k e)) ∙ h

-- AND OF A BROKEN QUERY
module _ {N : Type 0} (see : N → plan.Node) where
  nought_next : (k : ℕ) (nodes : List N) (d : N) → k < length nodes → noughts_of (map see (drop k nodes)) ≡ queues_of (see (get_or nodes k d)) 0 0 ++ noughts_of (map see (drop (suc k) nodes))
  nought_next k [] d within = absurd (omega arith)
  nought_next zero (node ∷ nodes) d within = refl
  nought_next (suc k) (node ∷ nodes) d within = nought_next k nodes d (omega arith)

  pub noughts_next : (before after : List ℕ) (k : ℕ) (nodes : List N) (d : N) (all : List ℕ) → k < length nodes → before ++ noughts_of (map see (drop k nodes)) ≡ all → after ≡ before ++ queues_of (see (get_or nodes k d)) 0 0
      → after ++ noughts_of (map see (drop (suc k) nodes)) ≡ all
  noughts_next before after k nodes d all within h is =
      ap (λ xs. xs ++ noughts_of (map see (drop (suc k) nodes))) is
      ∙ append_assoc before (queues_of (see (get_or nodes k d)) 0 0) (noughts_of (map see (drop (suc k) nodes)))
      ∙ ap (λ xs. before ++ xs) (sym (nought_next k nodes d within)) ∙ h

  no_nought : (k : ℕ) (nodes : List N) → length nodes ≡ k → noughts_of (map see (drop k nodes)) ≡ []
  no_nought zero [] e = refl
  no_nought (suc k) [] e = refl
  no_nought zero (node ∷ nodes) e = absurd (omega (arith, e))
  no_nought (suc k) (node ∷ nodes) e = no_nought k nodes (omega (arith, e))

  pub noughts_all : (found : List ℕ) (k : ℕ) (nodes : List N) (all : List ℕ) → length nodes ≡ k → found ++ noughts_of (map see (drop k nodes)) ≡ all → found ≡ all
  noughts_all found k nodes all e h = sym (append-nil found) ∙ ap (λ xs. found ++ xs) (sym (no_nought k nodes e)) ∙ h

-- LOGS that are the same at the operators
module _ (p : PlainQuery) (logs others : ℕ → Closed) where
  here : (k : ℕ) (node : plan.Node) → logs k ≡ others k → lengths_at logs p k node ≡ lengths_at others p k node
  here k node e = ap (λ (l : Closed). queues_of node (length (waiting (operator_at p.operators k) l Left)) (length (waiting (operator_at p.operators k) l Right))) e

  pub lengths_same : (k : ℕ) (nodes : List plan.Node) → ((j : ℕ) → j < length nodes → logs (k + j) ≡ others (k + j)) → lengths_from logs p k nodes ≡ lengths_from others p k nodes
  lengths_same k [] h = refl
  lengths_same k (node ∷ nodes) h =
      ap₂ (λ xs ys. xs ++ ys) (here k node (let e : k + 0 ≡ k = omega arith in subst (λ n. logs n ≡ others n) e (h 0 (omega arith))))
      (lengths_same (suc k) nodes (λ j l. let e : k + suc j ≡ suc k + j = omega arith in subst (λ n. logs n ≡ others n) e (h (suc j) (omega arith))))
