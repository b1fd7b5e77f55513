mod FlatLemmas
mod ArrivalLemmas
mod RunLemmas
mod KeyLemmas
mod OrderLemmas
mod PlacedLemmas
mod LateLemmas
mod RisingLemmas
mod OpenLemmas
mod StoredLemmas
mod KeepLemmas
mod CopyLemmas
mod BesideLemmas
pub mod ShownLemmas
pub mod KeptLemmas
