pub mod ObjectTurns
