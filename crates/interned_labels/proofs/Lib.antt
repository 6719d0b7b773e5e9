pub mod RisingLaws
pub mod TableLaws
pub mod UnionLaws
