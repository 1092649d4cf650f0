pub mod TurnBound
