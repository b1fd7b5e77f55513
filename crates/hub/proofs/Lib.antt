mod RefusedLemmas
mod AnsweredLemmas
mod DecliningLemmas
mod ReplayLemmas
mod ReachLemmas
mod Places
mod PlaceLemmas
mod LedgerLemmas
mod SettleLemmas
mod AuditLemmas
mod KeepingLemmas
mod OpeningLemmas
mod AcceptingLemmas
mod KnownLemmas
mod ReadyLemmas
mod NumberLemmas
mod MeasureLemmas
pub mod SendLemmas
pub mod SizeLemmas
pub mod WithheldLemmas
