pub mod LabelLemmas
pub mod ParamLemmas
pub mod PartLemmas
pub mod EndpointLemmas
