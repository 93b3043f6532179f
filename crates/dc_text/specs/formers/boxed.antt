pub mod DcBox
