pub mod EndsLaws
