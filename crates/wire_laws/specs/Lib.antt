pub mod Proper
pub mod RoundTrip
