pub mod Counted
pub mod CutLaws
pub mod Clear
pub mod Numbers
pub mod Plain
pub mod WordLaws
pub mod Found
pub mod PartsComplete
pub mod DeedsComplete
pub mod HeadingsComplete
pub mod StatementsComplete
pub mod PartsSound
pub mod DeedsSound
pub mod HeadingsSound
pub mod StatementsSound
pub mod Answering
mod Examples
