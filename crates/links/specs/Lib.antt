pub mod Leads
pub mod PairLinks
