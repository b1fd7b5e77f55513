pub mod ConjunctLemmas
pub mod MadeLemmas
pub mod LawLemmas
