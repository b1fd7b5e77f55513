mod EntryLemmas
mod TableLemmas
