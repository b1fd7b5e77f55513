use Rattle.std.proofs.Common.{ℕ, ◌≡◌, ◌+◌, ◌<◌, ◌*◌, ◌++◌, ◌∙◌, ap, arith, length, refl, subst, sym}
use Rattle.std.specs.List.{All}
use Rattle.op_queue.specs.Logs.{Closed}
use Rattle.op_queue.specs.Tables.{arrived, closed_in, elements_in, lists}
use Rattle.op_queue.proofs.GrowthLemmas.{gains-closed}
use Rattle.op_queue.proofs.TableLemmas.{length-lists}
use Rattle.op_queue.proofs.log.Log.close.Goals as goal

pub append-requires-clause-values : goal.append-requires-clause-values
append-requires-clause-values c =
    let width : length c.self.inside.columns.items ≡ c.args.self.now.width = sym (length-lists c.self.inside.columns.items) ∙ ap (λ (l : Closed). l.width) c.self.view_is in
    c.requires.values ∙ ap (λ w. length c.args.instants.now * w) (sym width)

pub returns-clause-elements : goal.returns-clause-elements
returns-clause-elements c =
    let given = λ (w : ℕ). arrived w c.args.instants.now c.args.numbers.now c.args.values.now in
    let l = c.self.inside in
    let width : length l.columns.items ≡ c.args.self.now.width = sym (length-lists l.columns.items) ∙ ap (λ (l : Closed). l.width) c.self.view_is in
    let n = c.len-self-inside.result in
    let m : n ≡ l.len + length c.args.instants.now = omega (arith, c.in_ok-append.ensures.len) in
    ap (λ k. elements_in k c.append.new.instants.items c.append.new.numbers.items (lists c.append.new.columns.items)) m
    ∙ c.in_ok-append.ensures.more
    ∙ ap (λ w. elements_in l.len l.instants.items l.numbers.items (lists l.columns.items) ++ given w) width
    ∙ ap (λ (l : Closed). l.elements ++ given c.args.self.now.width) c.self.view_is

pub returns-clause-queues : goal.returns-clause-queues
returns-clause-queues c =
    let given = λ (w : ℕ). arrived w c.args.instants.now c.args.numbers.now c.args.values.now in
    let l = c.self.inside in
    let width : length l.columns.items ≡ c.args.self.now.width = sym (length-lists l.columns.items) ∙ ap (λ (l : Closed). l.width) c.self.view_is in
    let es = given c.args.self.now.width in
    let instants = c.append.new.instants.items in
    let numbers = c.append.new.numbers.items in
    let columns = lists c.append.new.columns.items in
    let n = c.len-self-inside.result in
    let m : n ≡ l.len + length c.args.instants.now = omega (arith, c.in_ok-append.ensures.len) in
    let P : Closed → Type 0 = λ l. All (λ e. e.instant < l.until) l.elements in
    let grown : elements_in n instants numbers columns ≡ c.args.self.now.elements ++ es =
    ap (λ k. elements_in k instants numbers columns) m ∙ c.in_ok-append.ensures.more
    ∙ ap (λ w. elements_in l.len l.instants.items l.numbers.items (lists l.columns.items) ++ given w) width
    ∙ ap (λ (l : Closed). l.elements ++ es) c.self.view_is in
    gains-closed c.args.self.now (closed_in n instants numbers columns c.args.until) es c.args.until c.requires.closing (subst P c.self.view_is c.self.invariant.closed) grown refl
