pub mod AcceptedFirst
