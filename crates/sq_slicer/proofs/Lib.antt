pub mod ToldLemmas
mod SlicesRows
