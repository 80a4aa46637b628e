pub mod ReadBack
pub mod FieldLemmas
pub mod LineLemmas
pub mod RowLemmas
pub mod CsvLemmas
pub mod NumberLemmas
pub mod ShownLemmas
pub mod PairLemmas
