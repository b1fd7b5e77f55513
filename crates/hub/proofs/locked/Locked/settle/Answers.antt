use Rattle.std.proofs.Common.{rules, ◌≡◌, ◌∙◌, ◌+◌, ap, arith, length, refl, subst, sym}
use Rattle.hub.specs.Ledgers.{Agrees, IsLedger, PlainLedger, cleared_of, settled_of}
use Rattle.hub.specs.LedgerViews.{ledger_in}
use Rattle.hub.specs.Seats.{own_reach}
use Rattle.hub.proofs.KeepingLemmas.{by_number_fits, cleared_is, cleared_many, count_fits, seat_within, settled_as, settled_kept}
use Rattle.hub.proofs.locked.Locked.settle.Goals as goal

pub overflow_add-settled : goal.overflow_add-settled
overflow_add-settled c =
    let d = c.self.inside in
    let s = c.args.seat.now in
    let agrees : Agrees (ledger_in d.ledger) d.first d.history.items s = subst (λ x. Agrees (ledger_in d.ledger) d.first x s) c.as_slice.ensures.value (c.if-not-agrees.ensures.0 refl) in
    let few = count_fits (ledger_in d.ledger) d.first d.history.items c.self.invariant.7 s agrees in
    let many : c.len-count.result ≡ length c.seat.inside.receipts.items = search rules in
    omega (arith, few, many, c.self.invariant.3, ap (λ x. x.settled.count) c.seat.view_is, ap (λ x. length x.receipts) c.seat.view_is)

pub count_by_number-requires : goal.count_by_number-requires
count_by_number-requires c =
    let d = c.self.inside in
    let s = c.args.seat.now in
    let agrees : Agrees (ledger_in d.ledger) d.first d.history.items s = subst (λ x. Agrees (ledger_in d.ledger) d.first x s) c.as_slice.ensures.value (c.if-not-agrees.ensures.0 refl) in
    omega (arith, by_number_fits (ledger_in d.ledger) d.first d.history.items c.self.invariant.7 s agrees, c.self.invariant.3)

pub settle-requires-clause-seat : goal.settle-requires-clause-seat
settle-requires-clause-seat c =
    let d = c.self.inside in
    let s = c.args.seat.now in
    let agrees : Agrees (ledger_in d.ledger) d.first d.history.items s = subst (λ x. Agrees (ledger_in d.ledger) d.first x s) c.as_slice.ensures.value (c.if-not-agrees.ensures.0 refl) in
    omega (arith, seat_within (ledger_in d.ledger) d.first d.history.items c.self.invariant.7 s agrees, ap (λ x. x.number) c.seat.view_is)

pub invariant_of-self : goal.invariant_of-self
invariant_of-self c =
    let d = c.self.inside in
    let l = ledger_in d.ledger in
    let s = c.args.seat.now in
    let agrees : Agrees l d.first d.history.items s = subst (λ x. Agrees l d.first x s) c.as_slice.ensures.value (c.if-not-agrees.ensures.0 refl) in
    let many : c.len-count.result ≡ length c.seat.inside.receipts.items = search rules in
    let count : c.len-count.result ≡ length s.receipts = many ∙ ap (λ x. length x.receipts) c.seat.view_is in
    let until : c.seat.inside.own_reach ≡ own_reach s = c.seat.invariant.0 ∙ ap own_reach c.seat.view_is in
    let all : c.seat.inside.settled.count + c.len-count.result ≡ s.settled.count + length s.receipts = omega (arith, count, ap (λ x. x.settled.count) c.seat.view_is) in
    let ledger : ledger_in c.settle.new.self ≡ cleared_of l d.first s =
    cleared_is (ledger_in c.settle.new.self) l c.seat.inside.number s.number _ (settled_of d.first s) c.len-count.result (length s.receipts)
    c.settle.ensures (ap (λ x. x.number) c.seat.view_is) (settled_as _ _ _ _ _ _ all until c.count_by_number.ensures) count in (
      c.self.invariant.0,
      c.self.invariant.1,
      c.self.invariant.2,
      c.self.invariant.3,
      c.self.invariant.4,
      c.self.invariant.5,
      cleared_many (ledger_in c.settle.new.self) l s.number (settled_of d.first s) (length s.receipts) d.seats ledger c.self.invariant.6,
      subst (λ (x : PlainLedger). IsLedger x d.first d.history.items) (sym ledger) (settled_kept l d.first d.history.items c.self.invariant.7 s agrees),
    )
