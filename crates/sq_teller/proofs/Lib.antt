pub mod EndLemmas
mod MessageRows
