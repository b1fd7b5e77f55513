use Rattle.std.proofs.Common.{◌≡◌, ◌≤◌, ◌∙◌, ◌-◌, ap, subst, arith, length, take, drop}
use Rattle.stream_store.specs.OpenRows.{RisenRows, Rising}
use Rattle.stream_store.proofs.RisingLemmas.{step_on, step_back, reached_end, shown_len}
use Rattle.stream_store.proofs.ordered_rows.OrderedRows.place_past.Goals as goal

pub returns-then-until-instant-clause-rising : goal.returns-then-until-instant-clause-rising
returns-then-until-instant-clause-rising c = subst (λ (r : RisenRows). Rising (λ e. e.instant) r.rows) c.self.view_is c.self.invariant.rising

pub returns-clause-rising : goal.returns-clause-rising
returns-clause-rising c = subst (λ (r : RisenRows). Rising (λ e. e.instant) r.rows) c.self.view_is c.self.invariant.rising

pub returns-then-until-instant-clause-before : goal.returns-then-until-instant-clause-before
returns-then-until-instant-clause-before c =
    let o = c.self.inside in
    (step_back o.width o.reached o.heads.items o.values.items c.self.invariant c.args.self.now.rows (ap (λ (r : RisenRows). r.rows) c.self.view_is) c.args.until c.args.place c.loop-next.next c.index.result.now
    (search arith) c.index.ensures (omega (arith, c.if-until-instant.true, c.instant.ensures)) c.loop-next.invariant).before

pub returns-then-until-instant-clause-behind : goal.returns-then-until-instant-clause-behind
returns-then-until-instant-clause-behind c =
    let o = c.self.inside in
    (step_back o.width o.reached o.heads.items o.values.items c.self.invariant c.args.self.now.rows (ap (λ (r : RisenRows). r.rows) c.self.view_is) c.args.until c.args.place c.loop-next.next c.index.result.now
    (search arith) c.index.ensures (omega (arith, c.if-until-instant.true, c.instant.ensures)) c.loop-next.invariant).behind

pub loop-next-preserved : goal.loop-next-preserved
loop-next-preserved c =
    let o = c.self.inside in
    step_on o.width o.reached o.heads.items o.values.items c.self.invariant c.args.self.now.rows (ap (λ (r : RisenRows). r.rows) c.self.view_is) c.args.until c.args.place c.loop-next.next c.index.result.now
    (search arith) c.index.ensures (omega (arith, c.if-until-instant.false, c.instant.ensures)) c.loop-next.invariant

pub returns-clause-from : goal.returns-clause-from
returns-clause-from c =
    let o = c.self.inside in
    let len = shown_len o.width o.reached o.heads.items o.values.items c.self.invariant c.args.self.now.rows (ap (λ (r : RisenRows). r.rows) c.self.view_is) in
    omega (arith, len, c.requires, c.len-len.ensures, o.heads.ok)

pub returns-clause-before : goal.returns-clause-before
returns-clause-before c =
    let o = c.self.inside in
    let rows = c.args.self.now.rows in
    let len = shown_len o.width o.reached o.heads.items o.values.items c.self.invariant rows (ap (λ (r : RisenRows). r.rows) c.self.view_is) in
    let le : length rows ≤ c.loop-next.next = omega (arith, len, c.loop-next-test.false, c.len-len.ensures, o.heads.ok) in
    let same : c.len-len.result ≡ c.loop-next.next = omega (arith, len, le, c.loop-next.invariant.end, c.len-len.ensures, o.heads.ok) in
    ap (λ n. take (n - c.args.place) (drop c.args.place rows)) same ∙ (reached_end c.args.until c.args.place rows c.loop-next.next le c.loop-next.invariant).before

pub returns-clause-behind : goal.returns-clause-behind
returns-clause-behind c =
    let o = c.self.inside in
    let rows = c.args.self.now.rows in
    let len = shown_len o.width o.reached o.heads.items o.values.items c.self.invariant rows (ap (λ (r : RisenRows). r.rows) c.self.view_is) in
    let le : length rows ≤ c.loop-next.next = omega (arith, len, c.loop-next-test.false, c.len-len.ensures, o.heads.ok) in
    let same : c.len-len.result ≡ c.loop-next.next = omega (arith, len, le, c.loop-next.invariant.end, c.len-len.ensures, o.heads.ok) in
    ap (λ n. drop n rows) same ∙ (reached_end c.args.until c.args.place rows c.loop-next.next le c.loop-next.invariant).behind
