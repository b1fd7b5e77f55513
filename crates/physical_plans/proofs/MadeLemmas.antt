-- Operators that are made one after the other.
use Rattle.std.proofs.Common.{◌≡◌, ◌∙◌, ◌<◌, ◌+◌, ℕ, suc, List, [], ◌∷◌, ◌++◌, length, take, get_or, ap, sym, subst, arith}
use Rattle.std.proofs.Math.Seq.{take-suc}
use Rattle.values.specs.declared.resolved.Window.{Window}
use Rattle.operators.specs.Ready.{PlainOperator}
use Rattle.plan.specs.declared.node.Node.{Node}
use Rattle.plan.specs.declared.node.Node.TheVariants.{Window as Source, Select, Join, Project, Group, Distinct, ToStream}
use Rattle.physical_plans.specs.Beginnings.{AreMade, HasMakeableKind, IsMade, IsMakeable}

made_push : (ws : List Window) (vs widths places : List ℕ) (start : ℕ) (nodes : List Node) (os : List PlainOperator) (n : Node) (o : PlainOperator) → AreMade ws vs widths places start nodes os → IsMade ws vs widths places start n o → AreMade ws vs widths places start (nodes ++ n ∷ []) (os ++ o ∷ [])
made_push ws vs widths places start [] [] n o h k = (k, tt)
made_push ws vs widths places start [] (p ∷ os) n o h k = elim h [ ]
made_push ws vs widths places start (m ∷ nodes) [] n o h k = elim h [ ]
made_push ws vs widths places start (m ∷ nodes) (p ∷ os) n o h k = (h.0, made_push ws vs widths places start nodes os n o h.1 k)

pub made_next : (ws : List Window) (vs widths places : List ℕ) (start : ℕ) (nodes : List Node) (os new : List PlainOperator) (i : ℕ) (n : Node) (o : PlainOperator)
    → AreMade ws vs widths places start (take i nodes) os → i < length nodes → n ≡ get_or nodes i n → IsMade ws vs widths places start n o → new ≡ os ++ o ∷ []
    → AreMade ws vs widths places start (take (i + 1) nodes) new
made_next ws vs widths places start nodes os new i n o h lt is k e =
    let one : i + 1 ≡ suc i = omega arith in
    let more : take (i + 1) nodes ≡ take i nodes ++ n ∷ [] = ap (λ (k : ℕ). take k nodes) one ∙ take-suc nodes i n lt ∙ ap (λ (m : Node). take i nodes ++ m ∷ []) (sym is) in
    subst (λ xs. AreMade ws vs widths places start xs new) (sym more) (subst (λ xs. AreMade ws vs widths places start (take i nodes ++ n ∷ []) xs) (sym e) (made_push ws vs widths places start (take i nodes) os n o h k))

-- what an operator does can be made where the operator can
pub kind_makeable : (ws : List Window) (widths : List ℕ) (n : Node) → IsMakeable ws widths n → HasMakeableKind widths n
kind_makeable ws widths (Source s) h = tt
kind_makeable ws widths (Select i cs) h = h
kind_makeable ws widths (Join i j keys) h = h
kind_makeable ws widths (Project i places) h = h
kind_makeable ws widths (Group i by items) h = h
kind_makeable ws widths (Distinct i) h = h
kind_makeable ws widths (ToStream i op) h = h
