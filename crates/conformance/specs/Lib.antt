pub mod AnyLayer
