pub mod SetTheorems
