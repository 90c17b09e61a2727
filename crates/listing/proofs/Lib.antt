pub mod LineLaws
pub mod ListingLaws
pub mod PageLaws
pub mod PieceLaws
