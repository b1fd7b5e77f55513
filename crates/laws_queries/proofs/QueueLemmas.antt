-- What waits for the operators of a query: windows read their sources, other operators are fed.
use Rattle.std.proofs.Common.{◌≡◌, ℕ, ◌≤◌, true, inl, inr, List, length, sym, ap, ◌∙◌, subst, arith, length-append}
use Rattle.values.specs.Row.{Row}
use Rattle.column.specs.declared.batch.Side.{Side}
use Rattle.column.specs.declared.batch.Side.TheVariants.{Left, Right}
use Rattle.op_queue.specs.Entries.{Entry}
use Rattle.op_queue.specs.Items.{entries_of}
use Rattle.op_queue.specs.Logs.{Closed}
use Rattle.op_queue.specs.declared.item.Item.{Item}
use Rattle.turn.specs.declared.outcomes.Change.{Change}
use Rattle.operators.specs.Inboxes.{IsInboxWithin, ReadsOn, is_fed}
use Rattle.operators.specs.Operators.{IsFed, IsFinished}
use Rattle.operators.specs.Ready.{PlainOperator, inbox_of, waiting}
use Rattle.operators.specs.declared.inboxes.Inbox.{Inbox}
use Rattle.operators.specs.declared.inboxes.Inbox.TheVariants.{First, Between}
use Rattle.plan.specs.Nodes as plan
use Rattle.plan.specs.Nodes.{Window, Select, Join, Project, Group, Distinct, ToStream}
use Rattle.reference.specs.Machine.{Registered}
use Rattle.laws_queries.specs.Steps.{IsFirst}
use Rattle.laws_queries.specs.Queries.{HasInboxes, IsLeftInbox, Reads}
use Rattle.laws_queries.specs.Plain.{place_of}
use Rattle.laws_queries.proofs.WireLemmas.{TakesAt}

-- ALL INBOXES are within their logs
fed_within : (i : Inbox) (log : Closed) → is_fed i ≡ true → IsInboxWithin i log
fed_within (First c) log h = absurd (cc)
fed_within (Between w) log h = tt

left_within : (q : Registered) (log : Closed) (node : plan.Node) (i : Inbox) → IsLeftInbox q log node i → IsInboxWithin i log
left_within q log (Window s) i h = h.2
left_within q log (Select j cs) i h = fed_within i log h
left_within q log (Join j k ks) i h = fed_within i log h
left_within q log (Project j columns) i h = fed_within i log h
left_within q log (Group j by items) i h = fed_within i log h
left_within q log (Distinct j) i h = fed_within i log h
left_within q log (ToStream j op) i h = fed_within i log h

pub inbox_within : (q : Registered) (log : Closed) (node : plan.Node) (o : PlainOperator) (side : Side) → HasInboxes q log node o → IsInboxWithin (inbox_of o side) log
inbox_within q log node o Left h = left_within q log node o.left h.left
inbox_within q log node o Right h = fed_within o.right log h.right

-- what stands first waits
pub first_waits : (o : PlainOperator) (log : Closed) (side : Side) (i : Item) → IsFirst o log side i → length (entries_of i) ≤ length (waiting o log side)
first_waits o log side i f = omega (arith, ap length f.is, length-append (entries_of i) f.rest)

-- A TURN of the operator
reads_on : (place first : ℕ) (log : Closed) (i j : Inbox) → ReadsOn log i j → Reads place first log i → Reads place first log j
reads_on place first log (First c) (First d) g r = (g.place ∙ r.0, g.next ∙ r.1)
reads_on place first log (First c) (Between w) g r = absurd g
reads_on place first log (Between u) (First d) g r = absurd r
reads_on place first log (Between u) (Between w) g r = absurd r

left_goes_on : (q : Registered) (log : Closed) (node : plan.Node) (i j : Inbox) → ReadsOn log i j → IsInboxWithin j log → is_fed j ≡ is_fed i → IsLeftInbox q log node i → IsLeftInbox q log node j
left_goes_on q log (Window s) i j g w e h = (h.0, reads_on (place_of q s).arrivals q.first log i j g h.1, w)
left_goes_on q log (Select k cs) i j g w e h = e ∙ h
left_goes_on q log (Join k l ks) i j g w e h = e ∙ h
left_goes_on q log (Project k columns) i j g w e h = e ∙ h
left_goes_on q log (Group k by items) i j g w e h = e ∙ h
left_goes_on q log (Distinct k) i j g w e h = e ∙ h
left_goes_on q log (ToStream k op) i j g w e h = e ∙ h

pub inboxes_finished : (q : Registered) (log : Closed) (node : plan.Node) (o o2 : PlainOperator) (side : Side) (i : Item) (c : Change) → IsFinished o log side i c o2 → HasInboxes q log node o → HasInboxes q log node o2
inboxes_finished q log node o o2 Left i c f h = record { left = left_goes_on q log node o.left o2.left f.dropped.reads_on f.dropped.within f.dropped.same h.left; right = subst (λ x. is_fed x ≡ true) (sym f.other) h.right }
inboxes_finished q log node o o2 Right i c f h = record { left = subst (λ x. IsLeftInbox q log node x) (sym f.other) h.left; right = f.dropped.same ∙ h.right }

-- A FED OPERATOR
pub fed_side : (q : Registered) (log : Closed) (k : ℕ) (node : plan.Node) (o : PlainOperator) (side : Side) → TakesAt k node side → HasInboxes q log node o → is_fed (inbox_of o side) ≡ true
fed_side q log k (Window s) o side t h = absurd t
fed_side q log k (Select j cs) o side t h = subst (λ z. is_fed (inbox_of o z) ≡ true) (sym t.1) h.left
fed_side q log k (Join i j ks) o side (inl t) h = subst (λ z. is_fed (inbox_of o z) ≡ true) (sym t.2) h.left
fed_side q log k (Join i j ks) o side (inr t) h = subst (λ z. is_fed (inbox_of o z) ≡ true) (sym t.2) h.right
fed_side q log k (Project j columns) o side t h = subst (λ z. is_fed (inbox_of o z) ≡ true) (sym t.1) h.left
fed_side q log k (Group j by items) o side t h = subst (λ z. is_fed (inbox_of o z) ≡ true) (sym t.1) h.left
fed_side q log k (Distinct j) o side t h = subst (λ z. is_fed (inbox_of o z) ≡ true) (sym t.1) h.left
fed_side q log k (ToStream j op) o side t h = subst (λ z. is_fed (inbox_of o z) ≡ true) (sym t.1) h.left

left_fed : (q : Registered) (log : Closed) (k : ℕ) (node : plan.Node) (side : Side) (i j : Inbox) → TakesAt k node side → is_fed j ≡ is_fed i → IsLeftInbox q log node i → IsLeftInbox q log node j
left_fed q log k (Window s) side i j t e h = absurd t
left_fed q log k (Select l cs) side i j t e h = e ∙ h
left_fed q log k (Join l n ks) side i j t e h = e ∙ h
left_fed q log k (Project l columns) side i j t e h = e ∙ h
left_fed q log k (Group l by items) side i j t e h = e ∙ h
left_fed q log k (Distinct l) side i j t e h = e ∙ h
left_fed q log k (ToStream l op) side i j t e h = e ∙ h

pub inboxes_fed : (q : Registered) (log : Closed) (k : ℕ) (node : plan.Node) (o o2 : PlainOperator) (side : Side) (outs : List (Entry Row)) → TakesAt k node side → IsFed o side outs o2 → HasInboxes q log node o → HasInboxes q log node o2
inboxes_fed q log k node o o2 Left outs t f h = record { left = left_fed q log k node Left o.left o2.left t f.fed h.left; right = subst (λ x. is_fed x ≡ true) (sym f.other) h.right }
inboxes_fed q log k node o o2 Right outs t f h = record { left = subst (λ x. IsLeftInbox q log node x) (sym f.other) h.left; right = f.fed ∙ h.right }
