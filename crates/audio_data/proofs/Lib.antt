pub mod ScfsiLaws
