pub mod SizeLaws
pub mod PutLaws
