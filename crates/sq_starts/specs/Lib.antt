pub mod LastAggregates
