pub mod CompiledLemmas
mod JudgedLemmas
mod JudgedObjects
mod NamelessLemmas
pub mod NamedLemmas
