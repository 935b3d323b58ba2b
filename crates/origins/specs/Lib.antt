-- Where a pair came from, as a stamp and as a record.
pub mod Stamps
