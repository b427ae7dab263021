pub mod Tables
pub mod PlainTable
pub mod TableKeys
pub mod TableValues
pub mod TableFlaws
pub mod TableLaws
pub mod AcceptedTables
