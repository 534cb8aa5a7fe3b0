pub mod LadderLaws
