mod KeepLemmas
mod LeftLemmas
