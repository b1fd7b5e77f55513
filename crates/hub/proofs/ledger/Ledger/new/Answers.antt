use Rattle.std.proofs.Common.{◌≡◌, ◌∙◌, ap, map, replicate, ◌++◌, ◌∷◌, [], arith}
use Rattle.std.proofs.lemmas.List.{map-append, replicate_more}
use Rattle.hub.specs.LedgerViews.{account_in, fresh, ledger_in}
use Rattle.hub.proofs.LedgerLemmas.{plain}
use Rattle.hub.proofs.ledger.Ledger.new.Goals as goal

pub loop-preserved : goal.loop-preserved
loop-preserved c =
    ap (map account_in) c.in_ok-push.ensures.items ∙ map-append account_in c.loop.accounts.items (c.new.result ∷ [])
    ∙ ap (λ x. x ++ account_in c.new.result ∷ []) c.loop.invariant ∙ ap (λ x. replicate c.loop.counter fresh ++ x ∷ []) c.new.ensures ∙ replicate_more c.loop.counter fresh

pub returns : goal.returns
unfolding ledger_in
returns c = (let all : c.loop.counter ≡ c.args.seats = omega arith in ap (λ x. plain x 0 0) (c.loop.invariant ∙ ap (λ n. replicate n fresh) all))
