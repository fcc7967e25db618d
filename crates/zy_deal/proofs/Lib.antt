pub mod DealLemmas
