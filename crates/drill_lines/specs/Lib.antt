pub mod Grammar
pub mod Automaton
pub mod Raw
pub mod Theorem
pub mod Text
pub mod laws
