pub mod GivenLemmas
pub mod GivingLemmas
pub mod QuietFeeds
pub mod MachineLemmas
pub mod StreamLemmas
pub mod FedLemmas
pub mod PartLemmas
pub mod PortLemmas
