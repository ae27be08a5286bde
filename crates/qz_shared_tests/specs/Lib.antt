pub mod JobKind
