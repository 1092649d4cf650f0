pub mod SameSession
