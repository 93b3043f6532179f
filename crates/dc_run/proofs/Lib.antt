pub mod Advancing
pub mod Attending
pub mod Beginnings
mod CallRows
pub mod Elements
mod ExpressionRows
pub mod Extents
pub mod FirstFits
pub mod Fitting
mod FlowRows
pub mod IndexLists
mod InnerRows
mod InputRows
pub mod Left
pub mod LoopPlaces
mod LoopRows
pub mod Lowering
pub mod NamedBounds
pub mod Openings
mod OrderRows
pub mod Owned
pub mod Pausing
pub mod Played
mod RaceRows
mod ReportLineExamples
pub mod Reporting
mod Rows
pub mod Shaped
mod StatementRows
mod StoreRows
pub mod Stores
pub mod Subscripts
pub mod Telling
mod VisitRows
pub mod Visited
