pub mod Outlines
pub mod Pieces
pub mod Borders
pub mod LineLaws
pub mod CountLaws
pub mod OutlineLaws
pub mod PieceLaws
pub mod SumLaws
