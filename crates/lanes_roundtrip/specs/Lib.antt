pub mod LanesRoundTrip
pub mod LaneByLane
