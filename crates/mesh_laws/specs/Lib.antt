pub mod Walks
pub mod PieceLaws
pub mod FaceLaws
