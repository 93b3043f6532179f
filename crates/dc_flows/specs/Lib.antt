pub mod Adding
pub mod Arounds
pub mod Flows
pub mod FlowsCarried
pub mod FlowsHeld
pub mod FlowsLowered
pub mod FlowsTyped
pub mod RoundsSeen
