pub mod PromiseLaws
pub mod PackedPromises
