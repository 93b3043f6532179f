pub mod DcList
