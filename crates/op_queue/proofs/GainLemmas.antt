-- What a queue has gained by the items that were pushed.
use Rattle.std.proofs.Common.{◌≡◌, Bool, List, [], ◌∷◌, ◌++◌, refl, ap, sym, ◌∙◌, append-nil, append_assoc}
use Rattle.std.specs.List.{flat_map}
use Rattle.std.specs.Prelude.{Result, Ok, Err, OnErr}
use Rattle.std.proofs.lemmas.List.Concat.{flat_map-append}
use Rattle.values.specs.Row.{Row}
use Rattle.op_queue.specs.Entries.{Entry}
use Rattle.op_queue.specs.Items.{entries_of}
use Rattle.op_queue.specs.Queues.{HasGained, Waiting, first_begins}
use Rattle.op_queue.specs.declared.item.Item.{Item}

pub gained-none : (w : Waiting) → HasGained [] w w
gained-none w = record { items = []; stand = refl; entries = sym (append-nil w.entries); begins = sym (append-nil w.begins) }

pub gained-item : (i : Item) (old new : Waiting) → new.entries ≡ old.entries ++ entries_of i → new.begins ≡ old.begins ++ first_begins (entries_of i) → HasGained (entries_of i) old new
gained-item i old new entries begins = record {
  items = i ∷ [];
  stand = append-nil (entries_of i);
  entries = entries;
  begins = begins ∙ ap (λ bs. old.begins ++ bs) (sym (append-nil (first_begins (entries_of i))));
}

pub gained-more : (es fs : List (Entry Row)) (a b c : Waiting) → HasGained es a b → HasGained fs b c → HasGained (es ++ fs) a c
gained-more es fs a b c h k = record {
  items = h.items ++ k.items;
  stand = flat_map-append entries_of h.items k.items ∙ ap (λ x. x ++ flat_map entries_of k.items) h.stand ∙ ap (λ x. es ++ x) k.stand;
  entries = k.entries ∙ ap (λ x. x ++ fs) h.entries ∙ append_assoc a.entries es fs;
  begins =
      let begun : Item → List Bool = λ i. first_begins (entries_of i) in
      k.begins ∙ ap (λ x. x ++ flat_map begun k.items) h.begins ∙ append_assoc a.begins (flat_map begun h.items) (flat_map begun k.items)
      ∙ ap (λ x. a.begins ++ x) (sym (flat_map-append begun h.items k.items));
}

-- the same of equal entries
pub gained-same : {es fs : List (Entry Row)} {a b : Waiting} → es ≡ fs → HasGained es a b → HasGained fs a b
gained-same {a = a} e h = record { items = h.items; stand = h.stand ∙ e; entries = h.entries ∙ ap (λ x. a.entries ++ x) e; begins = h.begins }

-- what holds anyway holds of an error
pub on_any_err : {T E P : Type 0} (r : Result T E) → P → OnErr r P
on_any_err (Ok x) p = tt
on_any_err (Err e) p = p
