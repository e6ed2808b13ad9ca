pub mod SpellLaws
pub mod WordLaws
