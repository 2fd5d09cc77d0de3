pub mod Damage
pub mod RoundTrip
