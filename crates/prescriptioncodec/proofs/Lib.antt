pub mod Calls
pub mod Payload
pub mod Reading
pub mod ReadsJob
pub mod RoundTrip
