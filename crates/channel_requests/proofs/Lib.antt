mod ActLaws
mod AnswerLaws
mod FrameLaws
mod MeansLaws
mod ObjectRaises
mod OriginLaws
mod WorldLaws
