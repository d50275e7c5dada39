pub mod RecordCall
pub mod ReadAnswer
