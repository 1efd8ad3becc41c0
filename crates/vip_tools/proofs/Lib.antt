pub mod DemoLemmas
pub mod FilesLemmas
pub mod JoinLemmas
mod LoadingLemmas
pub mod JudgedLemmas
pub mod WorkLemmas
pub mod CodeLemmas
mod CertificateLemmas
pub mod RemarkLemmas
mod ReportLemmas
pub mod GamesLemmas
