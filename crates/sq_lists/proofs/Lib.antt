pub mod AllLemmas
pub mod LeastLemmas
pub mod SorterLemmas
pub mod SorterFacts
pub mod HeldLemmas
pub mod BufferLemmas
pub mod KeepLemmas
mod ListRows
pub mod GroupLemmas
pub mod WindowLemmas
mod AggregateRows
pub mod SideLemmas
pub mod NearLemmas
mod ResampleRows
pub mod LateLemmas
