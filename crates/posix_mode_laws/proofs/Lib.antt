pub mod ExampleParts
pub mod ExampleRows
