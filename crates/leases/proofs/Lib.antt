pub mod ViewLemmas
pub mod RegisterLemmas
mod LimitLemmas
mod LookLemmas
mod LeaveLemmas
mod DropLemmas
pub mod AddLemmas
pub mod LeaseLemmas
mod OutLemmas
mod FinishLemmas
mod FinishSoundLemmas
mod FinishBackLemmas
mod StreamLemmas
mod QueueLemmas
mod ReaderLemmas
mod ListedLemmas
mod ByStreamLemmas
mod StandLemmas
mod BeatLemmas
mod EachLemmas
mod PassedLemmas
mod PassLemmas
mod LengthenLemmas
pub mod DrainLemmas
mod MachineLemmas
mod UpdateLemmas
mod StepLemmas
mod InPlaceLemmas
mod ToldLemmas
mod StaysLemmas
mod FedLemmas
mod TurnsLemmas
pub mod StatusLemmas
pub mod WorldLemmas
pub mod WholeLemmas
mod NumberLemmas
pub mod BegunLemmas
pub mod TakeLemmas
pub mod PendingLemmas
pub mod LengthLemmas
pub mod QueryLemmas
mod ForgetLemmas
mod WalkedLemmas
mod KeepingLemmas
mod KeptQueueLemmas
mod CountedLemmas
mod AlikeLemmas
mod LogLemmas
mod CompactedLemmas
mod CopiedLemmas
mod BareLemmas
mod KeptLemmas
mod ReadLemmas
mod MarkLemmas
mod RestartLemmas
mod GoingLemmas
pub mod AloneLemmas
pub mod ToldAllLemmas
pub mod JobLemmas
pub mod ByQueryLemmas
pub mod JobRunLemmas
pub mod LendLemmas
pub mod LendAllLemmas
pub mod SharesLemmas
mod AllStandLemmas
