pub mod Absent
pub mod AbsentLabels
pub mod Enforcement
pub mod Holding
pub mod Selected
pub mod Values
