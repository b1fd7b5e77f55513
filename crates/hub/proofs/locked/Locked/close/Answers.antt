use Rattle.std.proofs.Common.{◌<◌, ◌^◌, ap, arith, refl, subst, sym}
use Rattle.hub.specs.Audits.{IsAccounted, alone}
use Rattle.hub.specs.LedgerViews.{ledger_in}
use Rattle.hub.specs.Seats.{IsAudited}
use Rattle.hub.proofs.AuditLemmas.{alone_fits, alone_is, audited_as_ever, settled_by_all}
use Rattle.hub.proofs.locked.Locked.close.Goals as goal

pub count_alone-by_number-requires : goal.count_alone-by_number-requires
unfolding ledger_in
count_alone-by_number-requires c =
    let d = c.self.inside in
    let l = ledger_in d.ledger in
    let all : IsAccounted l c.args.seats.items d.seats d.first d.history.items =
    subst (λ x. IsAccounted l x d.seats d.first d.history.items) c.as_slice-2.ensures.value (subst (λ x. IsAccounted l c.as_slice-2.result.now d.seats d.first x) c.as_slice.ensures.value (c.if-not-is_accounted.ensures.0 refl)) in
    let few = alone_fits l c.args.seats.items d.seats d.first d.history.items c.self.invariant.7 c.self.invariant.6 all in
    subst (λ x. alone d.first x < 2 ^ 64) (sym c.as_slice-3.ensures.value) (omega (arith, few, c.self.invariant.3))

pub returns-clause-unsettled : goal.returns-clause-unsettled
unfolding ledger_in
returns-clause-unsettled c =
    let d = c.self.inside in
    let l = ledger_in d.ledger in
    let all : IsAccounted l c.args.seats.items d.seats d.first d.history.items =
    subst (λ x. IsAccounted l x d.seats d.first d.history.items) c.as_slice-2.ensures.value (subst (λ x. IsAccounted l c.as_slice-2.result.now d.seats d.first x) c.as_slice.ensures.value (c.if-not-is_accounted.ensures.0 refl)) in
    let ever = audited_as_ever l c.args.seats.items d.seats d.first d.history.items c.self.invariant.7 c.self.invariant.6 all in
    λ none. subst (λ n. IsAudited c.args.seats.items n d.first d.history.items) (ap (λ x. x.seats) c.self.view_is) (ever none)

pub returns-clause-settled : goal.returns-clause-settled
unfolding ledger_in
returns-clause-settled c =
    let d = c.self.inside in
    let l = ledger_in d.ledger in
    let all : IsAccounted l c.args.seats.items d.seats d.first d.history.items =
    subst (λ x. IsAccounted l x d.seats d.first d.history.items) c.as_slice-2.ensures.value (subst (λ x. IsAccounted l c.as_slice-2.result.now d.seats d.first x) c.as_slice.ensures.value (c.if-not-is_accounted.ensures.0 refl)) in
    settled_by_all l c.args.seats.items d.seats d.first d.history.items c.self.invariant.7 c.self.invariant.6 all

pub returns-clause-by_number : goal.returns-clause-by_number
unfolding ledger_in
returns-clause-by_number c =
    let d = c.self.inside in
    alone_is c.count_alone-by_number.result c.as_slice-3.result.now c.args.seats.items d.first c.args.self.first c.count_alone-by_number.ensures c.as_slice-3.ensures.value (ap (λ x. x.first) c.self.view_is)
