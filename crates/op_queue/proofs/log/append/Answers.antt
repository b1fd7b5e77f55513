use Rattle.std.proofs.Common.{ℕ, ◌≡◌, ◌+◌, ◌++◌, ◌∙◌, ap, length, refl, subst, sym, take}
use Rattle.std.specs.List.{All}
use Rattle.op_queue.specs.Tables.{IsTableOf, arrived, elements_in, lists}
use Rattle.op_queue.proofs.TableLemmas.{IsTableOf-kept, IsTableOf-more, IsLonger-arrived, arrived-instants, arrived-numbers, arrived-wide, elements_in-kept, elements_in-more, length-arrived, length-lists}
use Rattle.op_queue.proofs.log.append.Goals as goal

pub returns-in_err-append_values-clause-same : goal.returns-in_err-append_values-clause-same
returns-in_err-append_values-clause-same c =
    elements_in-kept c.args.len c.args.instants.now.items c.args.instants.now.items c.args.numbers.now.items c.args.numbers.now.items (lists c.args.columns.now.items) (lists c.append_values.new.columns.items) refl refl c.append_values.ensures.same

pub returns-in_err-append_values-clause-table : goal.returns-in_err-append_values-clause-table
returns-in_err-append_values-clause-table c =
    IsTableOf-kept c.args.len c.args.instants.now.items c.args.instants.now.items c.args.numbers.now.items c.args.numbers.now.items (lists c.args.columns.now.items) (lists c.append_values.new.columns.items) refl refl c.append_values.ensures.same c.requires.table

pub returns-in_err-append_numbers-clause-same : goal.returns-in_err-append_numbers-clause-same
returns-in_err-append_numbers-clause-same c =
    elements_in-kept c.args.len c.args.instants.now.items c.args.instants.now.items c.args.numbers.now.items c.append_numbers.new.numbers.items (lists c.args.columns.now.items) (lists c.append_values.new.columns.items) refl c.append_numbers.ensures.same c.append_values.ensures.same

pub returns-in_err-append_numbers-clause-table : goal.returns-in_err-append_numbers-clause-table
returns-in_err-append_numbers-clause-table c =
    IsTableOf-kept c.args.len c.args.instants.now.items c.args.instants.now.items c.args.numbers.now.items c.append_numbers.new.numbers.items (lists c.args.columns.now.items) (lists c.append_values.new.columns.items) refl c.append_numbers.ensures.same c.append_values.ensures.same c.requires.table

pub returns-in_err-append_numbers-2-clause-same : goal.returns-in_err-append_numbers-2-clause-same
returns-in_err-append_numbers-2-clause-same c =
    elements_in-kept c.args.len c.args.instants.now.items c.append_numbers-2.new.numbers.items c.args.numbers.now.items c.append_numbers.new.numbers.items (lists c.args.columns.now.items) (lists c.append_values.new.columns.items) c.append_numbers-2.ensures.same c.append_numbers.ensures.same c.append_values.ensures.same

pub returns-in_err-append_numbers-2-clause-table : goal.returns-in_err-append_numbers-2-clause-table
returns-in_err-append_numbers-2-clause-table c =
    IsTableOf-kept c.args.len c.args.instants.now.items c.append_numbers-2.new.numbers.items c.args.numbers.now.items c.append_numbers.new.numbers.items (lists c.args.columns.now.items) (lists c.append_values.new.columns.items) c.append_numbers-2.ensures.same c.append_numbers.ensures.same c.append_values.ensures.same c.requires.table

pub returns-clause-same : goal.returns-clause-same
returns-clause-same c =
    elements_in-kept c.args.len c.args.instants.now.items c.append_numbers-2.new.numbers.items c.args.numbers.now.items c.append_numbers.new.numbers.items (lists c.args.columns.now.items) (lists c.append_values.new.columns.items) c.append_numbers-2.ensures.same c.append_numbers.ensures.same c.append_values.ensures.same

pub returns-clause-table : goal.returns-clause-table
returns-clause-table c =
    IsTableOf-kept c.args.len c.args.instants.now.items c.append_numbers-2.new.numbers.items c.args.numbers.now.items c.append_numbers.new.numbers.items (lists c.args.columns.now.items) (lists c.append_values.new.columns.items) c.append_numbers-2.ensures.same c.append_numbers.ensures.same c.append_values.ensures.same c.requires.table

pub returns-clause-more : goal.returns-clause-more
returns-clause-more c =
    let width = length c.args.columns.now.items in
    let is = c.args.new_instants.now in
    let ns = c.args.new_numbers.now in
    let vs = c.args.values.now in
    let old = lists c.args.columns.now.items in
    let new = lists c.append_values.new.columns.items in
    let es = arrived width is ns vs in
    let before = elements_in c.args.len c.args.instants.now.items c.args.numbers.now.items old in
    let P : ℕ → Type 0 = λ m. elements_in (c.args.len + m) c.append_numbers-2.new.numbers.items c.append_numbers.new.numbers.items new ≡ before ++ es in
    let wide : All (λ e. length e.row ≡ length old) es = rw length-lists (arrived-wide width is ns vs c.requires.numbers c.requires.values) in
    subst P (length-arrived width is ns vs c.requires.numbers)
    (elements_in-more c.args.len es c.args.instants.now.items c.append_numbers-2.new.numbers.items c.args.numbers.now.items c.append_numbers.new.numbers.items old new c.requires.table
    wide
    (c.in_ok-append_numbers-2.ensures.more ∙ ap (λ ts. take c.args.len c.args.instants.now.items ++ ts) (sym (arrived-instants width is ns vs c.requires.numbers)))
    (c.in_ok-append_numbers.ensures.more ∙ ap (λ ts. take c.args.len c.args.numbers.now.items ++ ts) (sym (arrived-numbers width is ns vs c.requires.numbers)))
    c.append_numbers-2.ensures.same
    c.append_numbers.ensures.same
    c.append_values.ensures.same
    (IsLonger-arrived c.args.len width is ns vs old new c.requires.numbers (length-lists c.args.columns.now.items) c.in_ok-append_values.ensures.more))

pub returns-clause-whole : goal.returns-clause-whole
returns-clause-whole c =
    let width = length c.args.columns.now.items in
    let is = c.args.new_instants.now in
    let ns = c.args.new_numbers.now in
    let vs = c.args.values.now in
    let old = lists c.args.columns.now.items in
    let new = lists c.append_values.new.columns.items in
    let P : ℕ → Type 0 = λ m. IsTableOf (c.args.len + m) c.append_numbers-2.new.numbers.items c.append_numbers.new.numbers.items new in
    subst P (length-arrived width is ns vs c.requires.numbers)
    (IsTableOf-more c.args.len (arrived width is ns vs) c.args.instants.now.items c.append_numbers-2.new.numbers.items c.args.numbers.now.items c.append_numbers.new.numbers.items old new c.requires.table
    (c.in_ok-append_numbers-2.ensures.more ∙ ap (λ ts. take c.args.len c.args.instants.now.items ++ ts) (sym (arrived-instants width is ns vs c.requires.numbers)))
    (c.in_ok-append_numbers.ensures.more ∙ ap (λ ts. take c.args.len c.args.numbers.now.items ++ ts) (sym (arrived-numbers width is ns vs c.requires.numbers)))
    c.append_values.ensures.same
    (IsLonger-arrived c.args.len width is ns vs old new c.requires.numbers (length-lists c.args.columns.now.items) c.in_ok-append_values.ensures.more))
