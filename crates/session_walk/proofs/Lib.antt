pub mod TableLaws
pub mod EachLaws
pub mod PartRangeLaws
pub mod RangeLaws
pub mod SaysKeyLaws
pub mod SaysLaws
pub mod StopLaws
pub mod VersionLaws
