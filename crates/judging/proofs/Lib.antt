pub mod SizeLaws
pub mod JudgeLaws
