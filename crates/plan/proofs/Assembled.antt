-- The operators of sources, joins and what follows are those of the plan.
use Rattle.std.proofs.Common.{◌≡◌, ℕ, Bool, List, ◌++◌, length, refl, sym, ap, ◌∙◌, append_assoc}
use Rattle.std.proofs.lemmas.List.{length-map}
use Rattle.values.specs.Condition.{Condition}
use Rattle.values.specs.Answers.{StreamOperator}
use Rattle.plan.specs.Nodes as spec
use Rattle.plan.specs.Build.{source_nodes, tops, joins_of, top_of, rest_nodes, rest_top, end_nodes, nodes_over}
use Rattle.plan.specs.declared.node.Node.{Node}
use Rattle.plan.specs.Views.{node_of, nodes_of, Grown}

pub assembled : (own : List (List Condition)) (keys : List (List spec.Key)) (rest : List Condition) (is_distinct : Bool) (shape : ℕ → spec.Node) (op : StreamOperator)
    → (a b c d : List Node) (ts : List ℕ) (top last : ℕ)
    → nodes_of a ≡ source_nodes 0 0 own → ts ≡ tops 0 own
    → Grown a b (joins_of (length a) ts keys) → top ≡ top_of (length a) ts keys
    → Grown b c (rest_nodes top rest) → last ≡ rest_top (length b) top rest
    → Grown c d (end_nodes is_distinct (shape last) op (length c))
    → nodes_of d ≡ nodes_over own keys rest is_distinct shape op
assembled own keys rest is_distinct shape op a b c d ts top last g t h u i v j =
    let sources : List spec.Node = source_nodes 0 0 own in
    let joins : List spec.Node = joins_of (length sources) (tops 0 own) keys in
    let above : ℕ = top_of (length sources) (tops 0 own) keys in
    let selects : List spec.Node = rest_nodes above rest in
    let la : length a ≡ length sources = sym (length-map a node_of) ∙ ap length g in
    let joins_same : joins_of (length a) ts keys ≡ joins = rw (la, t) refl in
    let top_same : top ≡ above = u ∙ rw (la, t) refl in
    let second : nodes_of b ≡ sources ++ joins = h ∙ ap (λ w. w ++ joins_of (length a) ts keys) g ∙ ap (λ w. sources ++ w) joins_same in
    let lb : length b ≡ length (sources ++ joins) = sym (length-map b node_of) ∙ ap length second in
    let third : nodes_of c ≡ sources ++ (joins ++ selects) =
    i ∙ ap (λ w. w ++ rest_nodes top rest) second ∙ ap (λ w. (sources ++ joins) ++ rest_nodes w rest) top_same ∙ append_assoc sources joins selects in
    let lc : length c ≡ length (sources ++ (joins ++ selects)) = sym (length-map c node_of) ∙ ap length third in
    let last_same : last ≡ rest_top (length (sources ++ joins)) above rest = v ∙ rw (lb, top_same) refl in
    let ends : end_nodes is_distinct (shape last) op (length c)
    ≡ end_nodes is_distinct (shape (rest_top (length (sources ++ joins)) above rest)) op (length (sources ++ (joins ++ selects))) = rw (last_same, lc) refl in
    j ∙ ap (λ w. w ++ end_nodes is_distinct (shape last) op (length c)) third ∙ ap (λ w. (sources ++ (joins ++ selects)) ++ w) ends
    ∙ append_assoc sources (joins ++ selects) (end_nodes is_distinct (shape (rest_top (length (sources ++ joins)) above rest)) op (length (sources ++ (joins ++ selects))))
    ∙ ap (λ w. sources ++ w) (append_assoc joins selects (end_nodes is_distinct (shape (rest_top (length (sources ++ joins)) above rest)) op (length (sources ++ (joins ++ selects)))))
